-- Worked cases by computation: every list of names in use, and sets of words at the edges of each rule, as lists under one
-- theorem each.
use Rattle.std.specs.Prelude.{◌≡◌, refl, List, [], ◌∷◌, map, Bool, true, false, ℕ, ◌^◌, eqb, Option, Some, None}
use Prim.Native.String.{String}
use Rattle.octets.specs.Counting.{tabulate}
use Rattle.text.specs.Put.{ascii}
use Rattle.text.specs.Split.{each}
use Rattle.text.specs.Words.{words_of, word_count, word_at, word_number, distinct, good_list, read_word_set, word_set_text}
use Rattle.text.specs.Computing.{computing}

-- the numbers below n
abbrev below : ℕ → List ℕ
below n = tabulate (λ (k : ℕ). k) 0 n

-- ---- lists of names

unfoldable pub name_lists : List (List ℕ)
name_lists =
    ascii "multi single"
    ∷ ascii "none one-way mutual"
    ∷ ascii "oem control initiator nic0 target0 nic1 target1"
    ∷ ascii "id table"
    ∷ ascii "flags isns slp radius1 radius2 name"
    ∷ ascii "flags address prefix origin gateway dns1 dns2 dhcp vlan mac pci host"
    ∷ ascii "flags address port lun chap nic name chap-name chap-secret reverse-name reverse-secret"
    ∷ []

-- no word of them stands twice
pub names-distinct : each (λ (list : List ℕ). distinct (words_of list)) name_lists ≡ true
unfolding computing name_lists
names-distinct = refl

-- so the number of word n is n
names-hold : each (λ (list : List ℕ). each (λ (n : ℕ). eqb (word_number list (word_at list n)) n) (below (word_count list))) name_lists ≡ true
unfolding computing name_lists
names-hold = refl

-- ---- sets of words

unfoldable pub flag_lists : List (List ℕ)
flag_lists = ascii "valid selected" ∷ ascii "valid selected global" ∷ ascii "valid selected radius-chap radius-rchap" ∷ []

pub flags-good : each good_list flag_lists ≡ true
unfolding computing flag_lists
flags-good = refl

-- the set is v
is_set : ℕ → Option ℕ → Bool
is_set v (Some u) = eqb u v
is_set v None = false

-- so every set of their words is read as it is written
flags-hold : each (λ (list : List ℕ). each (λ (v : ℕ). is_set v (read_word_set list (word_set_text list v))) (below (2 ^ word_count list))) flag_lists ≡ true
unfolding computing flag_lists is_set
flags-hold = refl

-- a text, and the set of words out of `valid selected global` that it says
record Case : Type 0 where
  text : List ℕ
  set : Option ℕ

says : String → Option ℕ → Case
says t s = record { text = ascii t; set = s }

cases : List Case
cases =
    says "valid" (Some 1)
    ∷ says "global valid" (Some 5)
    ∷ says "valid \t selected\rglobal" (Some 7)
    ∷ says " valid " (Some 1)
    ∷ says "none" (Some 0)
    ∷ says " none " (Some 0)
    ∷ says "" None
    ∷ says "  " None
    ∷ says "valid valid" None
    ∷ says "valid none" None
    ∷ says "none none" None
    ∷ says "Valid" None
    ∷ says "vali" None
    ∷ says "validselected" None
    ∷ says "valid,global" None
    ∷ []

cases-hold : map (λ (c : Case). record { text = c.text; set = read_word_set (ascii "valid selected global") c.text }) cases ≡ cases
unfolding computing says cases
cases-hold = refl

-- bits past the list's words are left out
bits-left-out : word_set_text (ascii "valid selected") 252 ≡ ascii "none"
unfolding computing
bits-left-out = refl

-- a ninth word is no word of a set
ninth-bad : read_word_set (ascii "a b c d e f g h i") (ascii "i") ≡ None
unfolding computing
ninth-bad = refl
