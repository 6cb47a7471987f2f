-- Cases 1 to 12 of RULES.md, Worked cases, as one list under one theorem. Each row is a question and the answer given there.
use Rattle.std.specs.Prelude.{◌≡◌, refl, List, [], ◌∷◌, ◌++◌, map, cond, ℕ, ◌-◌, length, eqb, None, Some}
use Rattle.octets.specs.Counting.{sum_to, tabulate, gather}
use Rattle.octets.specs.Octets.{le16, zeros}
use Rattle.string_heap.specs.Stored.{Entry}
use Rattle.string_heap.specs.Places.{len}
use Rattle.ibft_layout.specs.Layout.{kind_of, first_entry, named_count, named_entries}
use Rattle.ibft_readings.specs.Readings.{entry_of, pci_of}
use Rattle.ibft_build_rules.specs.RecordRange.{record_given}
use Rattle.ibft_build_rules.specs.Promises.{Serves}
use Rattle.ibft_build_rules.specs.Build.{answer_of, room_after}
use Rattle.ibft_build_rules.specs.Computing.{computing}

-- ---- a record range for a bench record: OEM fields and Control's flags zero; the slots marked 1 have flags 1 and fields zero

mark_of : Entry → ℕ
mark_of None = 0
mark_of (Some a) = 1

bytes_in : Entry → List ℕ
bytes_in None = []
bytes_in (Some a) = a

-- the strings one after another, and where entry n's start
strings_of : (ℕ → Entry) → List ℕ
strings_of e = gather (λ (n : ℕ). bytes_in (e n)) 0 named_entries

words_of : (ℕ → Entry) → ℕ → List ℕ
words_of e n = le16 (len (e n)) ++ le16 (sum_to n (λ (i : ℕ). len (e i)))

image_of : (ℕ → Entry) → ℕ → List ℕ
image_of e k =
    zeros 5 ++ (1 ∷ (zeros ((kind_of k).strings_at - 6) ++ gather (words_of e) (first_entry k) (length (kind_of k).string_fields)))

range_of : List ℕ → (ℕ → Entry) → List ℕ
range_of marks e = zeros 15 ++ (marks ++ (tabulate (λ (n : ℕ). mark_of (e n)) 0 named_entries ++ gather (image_of e) 0 named_count))

-- ---- questions

-- an entry's number and its bytes
pub record Given : Type 0 where
  pub number : ℕ
  pub bytes : List ℕ

-- entry n of those given
find : List Given → ℕ → Entry
find [] n = None
find (g ∷ gs) n = cond (eqb g.number n) (Some g.bytes) (find gs n)

pub data Question : Type 0 where
  -- build a record with these slots marked and these entries, in a room of so many bytes
  build : List ℕ → List Given → ℕ → Question
  -- split a PCI word
  split : ℕ → Question

-- a build's number, place and Length, then the offsets and lengths of the given entries as read from the room
built : List ℕ → (ℕ → Entry) → List Given → ℕ → List ℕ
built marks e gs n =
    let r = range_of marks e in
    let s = strings_of e in
    let a = answer_of r s n in
    let t = room_after r s (zeros n) in
    a.refusal.number ∷ a.refusal.place ∷ a.length ∷ readings t gs
  where
    readings : List ℕ → List Given → List ℕ
    readings t [] = []
    readings t (g ∷ gs) = (entry_of t g.number).offset ∷ (entry_of t g.number).length ∷ readings t gs

pub answered : Question → List ℕ
answered (build marks gs n) = built marks (find gs) gs n
answered (split word) = (pci_of word).bus ∷ (pci_of word).device ∷ (pci_of word).function ∷ []

-- ---- the table

pub record Case : Type 0 where
  pub number : ℕ
  pub question : Question
  pub answer : List ℕ

abbrev row : ℕ → Question → List ℕ → Case
row number question answer = record { number = number; question = question; answer = answer }

abbrev entry : ℕ → List ℕ → Given
entry number bytes = record { number = number; bytes = bytes }

-- `iqn.a`, `depot7`, `depot`, `7`, `a.`, `a.b.`
abbrev iqn·a : List ℕ
iqn·a = 105 ∷ 113 ∷ 110 ∷ 46 ∷ 97 ∷ []

abbrev depot7 : List ℕ
depot7 = 100 ∷ 101 ∷ 112 ∷ 111 ∷ 116 ∷ 55 ∷ []

abbrev depot : List ℕ
depot = 100 ∷ 101 ∷ 112 ∷ 111 ∷ 116 ∷ []

abbrev seven : List ℕ
seven = 55 ∷ []

abbrev a· : List ℕ
a· = 97 ∷ 46 ∷ []

abbrev a·b· : List ℕ
a·b· = 97 ∷ 46 ∷ 98 ∷ 46 ∷ []

-- marks of the initiator, NIC 0, Target 0, NIC 1, Target 1
abbrev nobody : List ℕ
nobody = 0 ∷ 0 ∷ 0 ∷ 0 ∷ 0 ∷ []

abbrev initiator : List ℕ
initiator = 1 ∷ 0 ∷ 0 ∷ 0 ∷ 0 ∷ []

abbrev target0 : List ℕ
target0 = 0 ∷ 0 ∷ 1 ∷ 0 ∷ 0 ∷ []

abbrev everybody : List ℕ
everybody = 1 ∷ 1 ∷ 1 ∷ 1 ∷ 1 ∷ []

abbrev nic0-target0 : List ℕ
nic0-target0 = 0 ∷ 1 ∷ 1 ∷ 0 ∷ 0 ∷ []

abbrev nic0 : List ℕ
nic0 = 0 ∷ 1 ∷ 0 ∷ 0 ∷ 0 ∷ []

-- an answer to `build` is number, place, Length, then offset and length of each entry given
pub cases : List Case
cases =
    row 1 (build nobody [] 500) (0 ∷ 0 ∷ 66 ∷ [])
    ∷ row 2 (build initiator [] 500) (0 ∷ 0 ∷ 146 ∷ [])
    ∷ row 3 (build initiator (entry 0 [] ∷ []) 500) (0 ∷ 0 ∷ 147 ∷ 146 ∷ 0 ∷ [])
    ∷ row 4 (build initiator (entry 0 iqn·a ∷ []) 500) (0 ∷ 0 ∷ 152 ∷ 146 ∷ 5 ∷ [])
    ∷ row 5 (build target0 (entry 3 depot7 ∷ entry 5 seven ∷ []) 500) (0 ∷ 0 ∷ 133 ∷ 126 ∷ 6 ∷ 131 ∷ 1 ∷ [])
    ∷ row 6 (build target0 (entry 3 depot7 ∷ entry 5 depot7 ∷ []) 500) (0 ∷ 0 ∷ 133 ∷ 126 ∷ 6 ∷ 126 ∷ 6 ∷ [])
    ∷ row 7 (build target0 (entry 3 depot7 ∷ entry 5 depot ∷ []) 500) (0 ∷ 0 ∷ 139 ∷ 126 ∷ 6 ∷ 133 ∷ 5 ∷ [])
    ∷ row 8 (build everybody [] 500) (0 ∷ 0 ∷ 470 ∷ [])
    ∷ row 9 (build nic0-target0 [] 500) (0 ∷ 0 ∷ 230 ∷ [])
    ∷ row 10 (split 0x0019) (0 ∷ 3 ∷ 1 ∷ [])
    ∷ row 11 (build nic0 (entry 1 a· ∷ []) 500) (0 ∷ 0 ∷ 177 ∷ 174 ∷ 2 ∷ [])
    ∷ row 11 (build nic0 (entry 1 a·b· ∷ []) 500) (18 ∷ 1 ∷ 0 ∷ 0 ∷ 0 ∷ [])
    ∷ row 12 (build target0 (entry 3 depot7 ∷ entry 5 seven ∷ []) 132) (21 ∷ 0 ∷ 0 ∷ 0 ∷ 0 ∷ 0 ∷ 0 ∷ [])
    ∷ row 12 (build target0 (entry 3 depot7 ∷ entry 5 seven ∷ []) 133) (0 ∷ 0 ∷ 133 ∷ 126 ∷ 6 ∷ 131 ∷ 1 ∷ [])
    ∷ []

-- every question has its answer
pub bench : map (λ (c : Case). answered c.question) cases ≡ map (λ (c : Case). c.answer) cases
unfolding computing cases answered built find range_of image_of words_of strings_of bytes_in mark_of
bench = refl

-- the table of case 5 serves its record: alone, and at the front of a longer room
case5 : ℕ → Entry
case5 = find (entry 3 depot7 ∷ entry 5 seven ∷ [])

room5 : ℕ → List ℕ
room5 n = room_after (range_of target0 case5) (strings_of case5) (zeros n)

serves5 : (Serves (record_given (range_of target0 case5) (strings_of case5)) (room5 133))
    × (Serves (record_given (range_of target0 case5) (strings_of case5)) (room5 200))
unfolding computing room5 case5 find range_of image_of words_of strings_of bytes_in mark_of
serves5 = (
  record { passes = refl; reads-back = refl; keeps-order = refl; secrets-apart = refl },
  record { passes = refl; reads-back = refl; keeps-order = refl; secrets-apart = refl },
)
