-- The layout's data, worked out: what the tables of RULES.md, Layout and Strings, say, by computation.
use Rattle.std.specs.Prelude.{◌≡◌, refl, List, [], ◌∷◌, ◌++◌, true, false, ℕ, zero, suc, ◌+◌, ◌/◌, ◌%◌, length}
use Rattle.octets.specs.Counting.{tabulate}
use Rattle.octets.specs.Octets.{le16, le32}
use Rattle.ibft_layout.specs.Layout.{Field, StringField, Kind, control, initiator, nic, target, flags_at, fields_of, kinds, slot_count}
use Rattle.ibft_layout.specs.Layout.{entry_count, named_count, named_entries, extra_nics, extra_targets, extra_most, nic_slot, target_slot}
use Rattle.ibft_layout.specs.Layout.{built_slot, control_at, control_end, most_words, word_at, kind_of, slot_at, slot_number, entry_at, entry_number}
use Rattle.ibft_layout.specs.Layout.{owner_of, string_of, first_entry, entries_from}
use Rattle.ibft_readings.specs.Readings.{initiator_in, nic_in, target_in, pci_of}
use Rattle.ibft_readings.specs.Computing.{computing}
use Rattle.ibft_layout.specs.declared.string_words.StringWords.{StringWords}
use Rattle.ibft_layout.specs.declared.initiator.Initiator.{Initiator}
use Rattle.ibft_layout.specs.declared.nic.Nic.{Nic}
use Rattle.ibft_layout.specs.declared.target.Target.{Target}

-- the numbers from a on, n of them
from : ℕ → ℕ → List ℕ
from a zero = []
from a (suc n) = a ∷ from (suc a) n

-- the positions that a list of fields covers, in its order; those of the strings' words
covered : List Field → List ℕ
covered [] = []
covered (f ∷ fs) = from f.at f.width ++ covered fs

worded : List StringField → List ℕ
worded [] = []
worded (t ∷ ts) = from t.at 4 ++ worded ts

-- ID, Version, Length, Index at 0 to 4 and flags at 5, then fields, then string words: each byte of a structure exactly once
positions : Kind → List ℕ
positions k = from 0 6 ++ (covered k.fields ++ worded k.string_fields)

whole-initiator : positions initiator ≡ from 0 74
unfolding positions covered worded from
whole-initiator = refl

whole-nic : positions nic ≡ from 0 102
unfolding positions covered worded from
whole-nic = refl

whole-target : positions target ≡ from 0 54
unfolding positions covered worded from
whole-target = refl

-- and the string words start where the kind says
strings-initiator : worded initiator.string_fields ≡ from initiator.strings_at 4
unfolding worded from
strings-initiator = refl

strings-nic : worded nic.string_fields ≡ from nic.strings_at 4
unfolding worded from
strings-nic = refl

strings-target : worded target.string_fields ≡ from target.strings_at 20
unfolding worded from
strings-target = refl

-- so the fields of a kind tile its structure behind the Index: the first stands at 5, each starts where the one before it ends,
-- and the last ends where the structure does
starts_in : List Field → List ℕ
starts_in [] = []
starts_in (f ∷ fs) = f.at ∷ starts_in fs

ends_in : List Field → List ℕ
ends_in [] = []
ends_in (f ∷ fs) = (f.at + f.width) ∷ ends_in fs

abbrev Tiles : Kind → Type 0
Tiles kind = starts_in (fields_of kind) ++ (kind.length ∷ []) ≡ flags_at ∷ ends_in (fields_of kind)

tiles : Tiles initiator × Tiles nic × Tiles target
unfolding starts_in ends_in
tiles = (refl, refl, refl)

-- the entries by number: slot, place of the length, longest
entry-slots : tabulate owner_of 0 named_entries ≡ 0 ∷ 1 ∷ 2 ∷ 2 ∷ 2 ∷ 2 ∷ 2 ∷ 3 ∷ 4 ∷ 4 ∷ 4 ∷ 4 ∷ 4 ∷ []
unfolding computing
entry-slots = refl

entry-words : tabulate (λ (n : ℕ). (string_of n).at) 0 named_entries ≡ 70 ∷ 98 ∷ 34 ∷ 38 ∷ 42 ∷ 46 ∷ 50 ∷ 98 ∷ 34 ∷ 38 ∷ 42 ∷ 46 ∷ 50 ∷ []
unfolding computing
entry-words = refl

entry-longest : tabulate (λ (n : ℕ). (string_of n).longest) 0 named_entries ≡ 223 ∷ 255 ∷ 223 ∷ 255 ∷ 255 ∷ 255 ∷ 255 ∷ 255 ∷ 223 ∷ 255 ∷ 255 ∷ 255 ∷ 255 ∷ []
unfolding computing
entry-longest = refl

entry-hosts : tabulate (λ (n : ℕ). (string_of n).host) 0 named_entries
    ≡ false ∷ true ∷ false ∷ false ∷ false ∷ false ∷ false ∷ true ∷ false ∷ false ∷ false ∷ false ∷ false ∷ []
unfolding computing
entry-hosts = refl

-- the secrets: the third and the fifth string of a target
entry-secrets : tabulate (λ (n : ℕ). (string_of n).secret) 0 named_entries
    ≡ false ∷ false ∷ false ∷ false ∷ true ∷ false ∷ true ∷ false ∷ false ∷ false ∷ true ∷ false ∷ true ∷ []
unfolding computing
entry-secrets = refl

first-entries : tabulate first_entry 0 slot_count
    ≡ 0 ∷ 1 ∷ 2 ∷ 7 ∷ 8 ∷ 13 ∷ 14 ∷ 15 ∷ 16 ∷ 17 ∷ 18 ∷ 19 ∷ 24 ∷ 29 ∷ 34 ∷ 39 ∷ 44 ∷ []
unfolding computing
first-entries = refl

-- the entries of the extras: hosts of six NICs, then five strings of each of six targets; past the last an entry of no slot
extra-slots : tabulate owner_of named_entries 37
    ≡ 5 ∷ 6 ∷ 7 ∷ 8 ∷ 9 ∷ 10 ∷ 11 ∷ 11 ∷ 11 ∷ 11 ∷ 11 ∷ 12 ∷ 12 ∷ 12 ∷ 12 ∷ 12 ∷ 13 ∷ 13 ∷ 13 ∷ 13 ∷ 13 ∷ 14 ∷ 14 ∷ 14 ∷ 14 ∷ 14 ∷ 15 ∷ 15 ∷ 15 ∷ 15 ∷ 15
    ∷ 16 ∷ 16 ∷ 16 ∷ 16 ∷ 16 ∷ 17 ∷ []
unfolding computing
extra-slots = refl

extra-words : tabulate (λ (n : ℕ). (string_of n).at) (named_entries + 5) 6 ≡ 98 ∷ 34 ∷ 38 ∷ 42 ∷ 46 ∷ 50 ∷ []
unfolding computing
extra-words = refl

extra-secrets : tabulate (λ (n : ℕ). (string_of n).secret) (named_entries + 5) 6 ≡ false ∷ false ∷ false ∷ true ∷ false ∷ true ∷ []
unfolding computing
extra-secrets = refl

-- NICs and targets by Index, and the build's order, by ID
in_order : tabulate (λ (n : ℕ). (kind_of (nic_slot n)).id) 0 8
    ++ (tabulate (λ (n : ℕ). (kind_of (target_slot n)).id) 0 8 ++ tabulate (λ (j : ℕ). (kind_of (built_slot j)).id) 0 slot_count)
    ≡ 3 ∷ 3 ∷ 3 ∷ 3 ∷ 3 ∷ 3 ∷ 3 ∷ 3 ∷ 4 ∷ 4 ∷ 4 ∷ 4 ∷ 4 ∷ 4 ∷ 4 ∷ 4 ∷ 2 ∷ 3 ∷ 3 ∷ 3 ∷ 3 ∷ 3 ∷ 3 ∷ 3 ∷ 3 ∷ 4 ∷ 4 ∷ 4 ∷ 4 ∷ 4 ∷ 4 ∷ 4 ∷ 4 ∷ []
unfolding computing
in_order = refl

-- with two extra NICs callers' slot 6 is the second of them and slot 7 the first extra target; its first entry is 15
numbered : slot_at 2 4 ∷ slot_at 2 6 ∷ slot_at 2 7 ∷ slot_at 2 12 ∷ slot_at 2 16 ∷ slot_number 2 6 ∷ slot_number 2 11
    ∷ slot_number 2 16 ∷ entry_at 2 14 ∷ entry_at 2 15 ∷ entry_number 2 19 ∷ entry_number 2 48 ∷ []
    ≡ 4 ∷ 6 ∷ 11 ∷ 16 ∷ 20 ∷ 6 ∷ 7 ∷ 12 ∷ 14 ∷ 19 ∷ 15 ∷ 44 ∷ []
unfolding computing
numbered = refl

-- the counts, Control's words and its end
counts : (length kinds ≡ slot_count) × (length (entries_from 0 kinds) ≡ entry_count) × (first_entry named_count ≡ named_entries)
    × (extra_targets + extra_most ≡ slot_count) × (extra_nics + most_words ≡ slot_count)
unfolding computing
counts = (refl, refl, refl, refl, refl)

words : tabulate word_at 0 slot_count ≡ 56 ∷ 58 ∷ 60 ∷ 62 ∷ 64 ∷ 66 ∷ 68 ∷ 70 ∷ 72 ∷ 74 ∷ 76 ∷ 78 ∷ 80 ∷ 82 ∷ 84 ∷ 86 ∷ 88 ∷ []
unfolding computing
words = refl

control-end : (control_at + control.length ≡ control_end 0) × (word_at named_count ≡ control_end 0) × (word_at (named_count + most_words) ≡ control_end most_words)
control-end = (refl, refl, refl)

-- the readers give each byte of a structure from 5 on exactly once: laid out again, the reading of the bytes 0, 1, 2, .. is
-- those bytes
laid : StringWords → List ℕ
laid w = le16 w.length ++ le16 w.offset

laid-initiator : Initiator → List ℕ
laid-initiator r = r.flags ∷ (r.isns ++ (r.slp ++ (r.radius ++ (r.second_radius ++ laid r.name))))

laid-nic : Nic → List ℕ
laid-nic r =
    r.flags
    ∷ (r.address
    ++ (r.prefix
    ∷ (r.origin
    ∷ (r.gateway ++ (r.dns ++ (r.second_dns ++ (r.dhcp ++ (le16 r.vlan ++ (r.mac ++ (le16 r.pci ++ laid r.host))))))))))

laid-target : Target → List ℕ
laid-target r =
    r.flags
    ∷ (r.address
    ++ (le16 r.socket
    ++ (le32 (r.lun % 4294967296)
    ++ (le32 (r.lun / 4294967296)
    ++ (r.chap_type
    ∷ (r.nic
    ∷ (laid r.name ++ (laid r.chap_name ++ (laid r.chap_secret ++ (laid r.reverse_name ++ laid r.reverse_secret))))))))))

whole-initiator-read : laid-initiator (initiator_in (from 0 74)) ≡ from 5 69
unfolding computing from laid laid-initiator
whole-initiator-read = refl

whole-nic-read : laid-nic (nic_in (from 0 102)) ≡ from 5 97
unfolding computing from laid laid-nic
whole-nic-read = refl

whole-target-read : laid-target (target_in (from 0 54)) ≡ from 5 49
unfolding computing from laid laid-target
whole-target-read = refl

-- bench case 10
pci-word : pci_of 0x0019 ≡ record { bus = 0; device = 3; function = 1 }
unfolding computing
pci-word = refl
