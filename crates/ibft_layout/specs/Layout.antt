-- The layout of a table, as data: kinds of structure, slots, entries. RULES.md, Layout and Strings.
-- Assumes nothing: these are definitions.
use Rattle.std.specs.Prelude.{ℕ, suc, ◌+◌, ◌*◌, ◌-◌, List, [], ◌∷◌, ◌++◌, map, Bool, true, false, not, cond, length, get_or, ltb}
use Rattle.octets.specs.Counting.{sum_to}

-- a field of a structure: where it stands, how many bytes it has
pub record Field : Type 0 where
  pub at : ℕ
  pub width : ℕ

abbrev pub field : ℕ → ℕ → Field
field at width = record { at = at; width = width }

-- a string of a structure: where its length stands (its offset stands 2 further), how long it may be, whether it is a host
-- name, whether it is a secret
pub record StringField : Type 0 where
  pub at : ℕ
  pub longest : ℕ
  pub host : Bool
  pub secret : Bool

abbrev pub string : ℕ → ℕ → Bool → StringField
string at longest host = record { at = at; longest = longest; host = host; secret = false }

abbrev pub secret : ℕ → ℕ → StringField
secret at longest = record { at = at; longest = longest; host = false; secret = true }

-- a kind of structure: ID, Version, Length; the mask of the flag bits not named; its fields behind the flags; where its
-- string words start and what strings they are; whether it has a CHAP type
pub record Kind : Type 0 where
  pub id : ℕ
  pub version : ℕ
  pub length : ℕ
  pub reserved : ℕ
  pub fields : List Field
  pub strings_at : ℕ
  pub string_fields : List StringField
  pub chap : Bool

-- flag bit 0: single login. Its Length is that without extra words; its words are listed below.
abbrev pub control : Kind
control = record { id = 1; version = 1; length = 18; reserved = 0xFE; fields = []; strings_at = 18; string_fields = []; chap = false }

-- flag bits 0 and 1: valid, selected
abbrev pub initiator : Kind
initiator =
    record {
      id = 2;
      version = 1;
      length = 74;
      reserved = 0xFC;
      fields = field 6 16 ∷ field 22 16 ∷ field 38 16 ∷ field 54 16 ∷ [];
      strings_at = 70;
      string_fields = string 70 223 false ∷ [];
      chap = false;
    }

-- flag bits 0 to 2: valid, selected, global. Address, prefix, origin, gateway, DNS twice, DHCP, VLAN, MAC, PCI.
abbrev pub nic : Kind
nic =
    record {
      id = 3;
      version = 1;
      length = 102;
      reserved = 0xF8;
      fields =
          field 6 16 ∷ field 22 1 ∷ field 23 1 ∷ field 24 16 ∷ field 40 16 ∷ field 56 16 ∷ field 72 16 ∷ field 88 2 ∷ field 90 6 ∷ field 96 2 ∷ [];
      strings_at = 98;
      string_fields = string 98 255 true ∷ [];
      chap = false;
    }

-- flag bits 0 to 3: valid, selected, Radius CHAP, Radius r_c_h_a_p. Address, socket, LUN, CHAP type, NIC association; name,
-- CHAP name, CHAP secret, reverse name, reverse secret.
abbrev pub target : Kind
target =
    record {
      id = 4;
      version = 1;
      length = 54;
      reserved = 0xF0;
      fields = field 6 16 ∷ field 22 2 ∷ field 24 8 ∷ field 32 1 ∷ field 33 1 ∷ [];
      strings_at = 34;
      string_fields = string 34 223 false ∷ string 38 255 false ∷ secret 42 255 ∷ string 46 255 false ∷ secret 50 255 ∷ [];
      chap = true;
    }

-- where the flags of a structure stand
abbrev pub flags_at : ℕ
flags_at = 5

-- the words of a string: its length, then its offset
abbrev pub words_of : StringField → Field
words_of s = field s.at 4

-- all fields of a kind, in their order: its flags, those behind them, the words of each string
abbrev pub fields_of : Kind → List Field
fields_of kind = field flags_at 1 ∷ (kind.fields ++ map words_of kind.string_fields)

-- field n of a kind; past the last, its flags
unfoldable pub kind_field : Kind → ℕ → Field
kind_field kind n = get_or (fields_of kind) n (field flags_at 1)

-- where the CHAP type of a structure stands that has one
abbrev pub chap_at : ℕ
chap_at = 32

-- ---- slots

-- A slot for each structure that a table can have: those of the five named words, in the order of these words (initiator, NIC
-- 0, Target 0, NIC 1, Target 1), then six for extra NICs and six for extra targets. Extras fill the slots of their kind from
-- the first on, by ascending Index. (Callers number the slots in use without gaps: see `slot_at` below.)
abbrev pub kinds : List Kind
kinds =
    initiator ∷ nic ∷ target ∷ nic ∷ target
    ∷ nic ∷ nic ∷ nic ∷ nic ∷ nic ∷ nic
    ∷ target ∷ target ∷ target ∷ target ∷ target ∷ target
    ∷ []

abbrev pub slot_count : ℕ
slot_count = 17

-- the named slots; the most extras of a kind; the first slot of an extra NIC and of an extra target
abbrev pub named_count : ℕ
named_count = 5

abbrev pub extra_most : ℕ
extra_most = 6

abbrev pub extra_nics : ℕ
extra_nics = 5

abbrev pub extra_targets : ℕ
extra_targets = 11

unfoldable pub kind_of : ℕ → Kind
kind_of k = get_or kinds k initiator

-- the Index of a named slot's structure; an extra's is 2 or above, and part of the record
abbrev pub indices : List ℕ
indices = 0 ∷ 0 ∷ 0 ∷ 1 ∷ 1 ∷ []

unfoldable pub index_of : ℕ → ℕ
index_of k = get_or indices k 0

abbrev pub least_index : ℕ
least_index = 2

-- ---- Control

-- Control stands at 48; its words: Extensions at 54, then the five named ones, then extra words, twelve at most
abbrev pub control_at : ℕ
control_at = 48

abbrev pub extensions_at : ℕ
extensions_at = 54

abbrev pub word_at : ℕ → ℕ
word_at w = 56 + 2 * w

abbrev pub most_words : ℕ
most_words = 12

-- where a Control with so many extra words ends
abbrev pub control_end : ℕ → ℕ
control_end extras = 66 + 2 * extras

-- `i_b_f_t`, little endian; the least Length of a table, which ends with a Control that has no extra words
abbrev pub ibft_signature : ℕ
ibft_signature = 0x54464269

abbrev pub least_length : ℕ
least_length = 66

-- ---- NICs and targets, by Index: the named ones, then the extras; past the last stands no slot, `slot_count`

abbrev pub nic_slots : List ℕ
nic_slots = 1 ∷ 3 ∷ 5 ∷ 6 ∷ 7 ∷ 8 ∷ 9 ∷ 10 ∷ []

abbrev pub target_slots : List ℕ
target_slots = 2 ∷ 4 ∷ 11 ∷ 12 ∷ 13 ∷ 14 ∷ 15 ∷ 16 ∷ []

unfoldable pub nic_slot : ℕ → ℕ
nic_slot n = get_or nic_slots n slot_count

unfoldable pub target_slot : ℕ → ℕ
target_slot n = get_or target_slots n slot_count

abbrev pub target_count : ℕ
target_count = 8

-- ---- entries

-- an entry (RULES.md, Terms): its slot, and which string of that slot's structure it is
pub record EntryLayout : Type 0 where
  pub slot : ℕ
  pub string : StringField

-- the entries of slot k whose strings are ts, then those of the slots of these kinds behind it
unfoldable pub entries_of : ℕ → List StringField → List EntryLayout
entries_of k [] = []
entries_of k (t ∷ ts) = record { slot = k; string = t } ∷ entries_of k ts

unfoldable pub entries_from : ℕ → List Kind → List EntryLayout
entries_from k [] = []
entries_from k (kind ∷ ks) = entries_of k kind.string_fields ++ entries_from (suc k) ks

-- entries are numbered slot by slot, in field order: 0 initiator name; 1 NIC 0 host; 2-6 Target 0; 7 NIC 1 host; 8-12 Target 1;
-- 13-18 hosts of extra NICs; 19-48 extra targets, five each. Past the last stands an entry of no slot.
abbrev pub entry_count : ℕ
entry_count = 49

-- the entries of the named slots; the first entry of an extra target, and how many each target has
abbrev pub named_entries : ℕ
named_entries = 13

abbrev pub target_entries : ℕ
target_entries = 19

abbrev pub target_strings : ℕ
target_strings = 5

unfoldable pub entry_layout : ℕ → EntryLayout
entry_layout n = get_or (entries_from 0 kinds) n (record { slot = slot_count; string = string 70 223 false })

unfoldable pub owner_of : ℕ → ℕ
owner_of n = (entry_layout n).slot

unfoldable pub string_of : ℕ → StringField
string_of n = (entry_layout n).string

-- whether a built entry may have bytes in common with another: every one that is no secret
unfoldable pub may_share : ℕ → Bool
may_share n = not (string_of n).secret

-- the number of slot k's first entry
unfoldable pub first_entry : ℕ → ℕ
first_entry k = sum_to k (λ (i : ℕ). length (kind_of i).string_fields)

-- ---- the build's order: initiator, all NICs by Index, all targets by Index, as slots

abbrev pub built_order : List ℕ
built_order = 0 ∷ 1 ∷ 3 ∷ 5 ∷ 6 ∷ 7 ∷ 8 ∷ 9 ∷ 10 ∷ 2 ∷ 4 ∷ 11 ∷ 12 ∷ 13 ∷ 14 ∷ 15 ∷ 16 ∷ []

unfoldable pub built_slot : ℕ → ℕ
built_slot j = get_or built_order j 0

-- ---- how callers number slots and entries: those of the extra targets follow those of the extra NICs in use, without a gap

-- Where `nics` of the six are in use and the first of them has the number `first`: the one that callers call `number`, and the
-- number that callers use for k. (An extra NIC has one slot and one entry.)
unfoldable pub opened : ℕ → ℕ → ℕ → ℕ
opened first nics number = cond (ltb number (first + nics)) number (number + (extra_most - nics))

unfoldable pub closed : ℕ → ℕ → ℕ → ℕ
closed first nics k = cond (ltb k (first + extra_most)) k (k - (extra_most - nics))

abbrev pub slot_at : ℕ → ℕ → ℕ
slot_at nics number = opened extra_nics nics number

abbrev pub slot_number : ℕ → ℕ → ℕ
slot_number nics k = closed extra_nics nics k

abbrev pub entry_at : ℕ → ℕ → ℕ
entry_at nics number = opened named_entries nics number

abbrev pub entry_number : ℕ → ℕ → ℕ
entry_number nics n = closed named_entries nics n
