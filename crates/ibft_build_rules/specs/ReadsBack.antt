-- What the reading calls give of a table t that holds the record c, call by call: demand 2 of what is built. (`record_of t ≡ c`
-- says the same of the definition of a table's meaning, apart from the readers.) Nothing but this promise stands here.
use Rattle.std.specs.Prelude.{◌≡◌, List, ℕ, ◌+◌, ◌<◌, length, get_or, Option, None, Some}
use Rattle.octets.specs.Counting.{count}
use Rattle.octets.specs.Octets.{byte, part}
use Rattle.ibft_layout.specs.Layout.{slot_count, entry_count, extra_most, extra_nics, kind_of, nic_slot, target_slot, first_entry, slot_at}
use Rattle.ibft_layout.specs.Layout.{slot_number, entry_at, entry_number}
use Rattle.ibft_table.specs.Record.{Record, body_size}
use Rattle.ibft_readings.specs.Readings.{header_of, structure_of, structure_view_of, initiator_of, nic_of, target_of, entry_of, view_of}
use Rattle.table_header.specs.Verdict.{refusal, accepted}
use Rattle.table_header.specs.declared.verdict.Refusal.{Refusal}
use Rattle.ibft_layout.specs.declared.string_words.StringWords.{StringWords}
use Rattle.ibft_readings.specs.declared.entry.EntryReading.{EntryReading}
use Rattle.ibft_table_laws.specs.Bodies.{initiator_fields, nic_fields, target_fields, initiator_from, nic_from, target_from}
use Rattle.ibft_build_rules.specs.Plan.{is_present}

-- the record's structure of slot k, its flags and fields; its Index; the record's entry n
abbrev pub structure_held : Record → ℕ → Option (List ℕ)
structure_held c k = get_or c.structures k None

abbrev pub index_held : Record → ℕ → ℕ
index_held c k = get_or c.indices k 0

abbrev pub entry_held : Record → ℕ → Option (List ℕ)
entry_held c n = get_or c.entries n None

-- how many extra NICs it has; the slot and the entry that callers call `number`
unfoldable pub nics_held : Record → ℕ
nics_held c = count extra_most (λ (i : ℕ). is_present (structure_held c (extra_nics + i)))

abbrev pub slot_held : Record → ℕ → ℕ
slot_held c number = slot_at (nics_held c) number

abbrev pub entry_held_at : Record → ℕ → ℕ
entry_held_at c number = entry_at (nics_held c) number

-- the number by which callers ask for string j of slot k's structure
abbrev pub string_number : Record → ℕ → ℕ → ℕ
string_number c k j = entry_number (nics_held c) (first_entry k + j)

-- what the reading of something missing returns
abbrev pub missing : Refusal
missing = refusal 22 0

-- A reading with this refusal shows what the record holds, read as `from` reads it: the record holds none, and the reading is
-- refused with 22; or it holds these bytes, be they empty, and the reading is accepted and shows them.
pub record Gives {R : Type 0} (holds : Option (List ℕ)) (from : List ℕ → R) (refusal : Refusal) (shows : R) : Type 0 where
  pub absent : holds ≡ None → refusal ≡ missing
  pub present : (bytes : List ℕ) → holds ≡ Some bytes → refusal ≡ accepted
  pub same : (bytes : List ℕ) → holds ≡ Some bytes → shows ≡ from bytes

-- where an entry's reading says that the entry stands; 0 and 0 where it is refused
abbrev pub words_read : EntryReading → StringWords
words_read r = record { length = r.length; offset = r.offset }

-- Slots k and entries n are those of the record, fixed; a `number` is what callers say. NIC n and Target n are the n-th by
-- Index.
pub record ReadsBack (c : Record) (t : List ℕ) : Type 0 where
  -- `read_header`: the OEM fields and Control's flags
  pub header : header_of t
      ≡ record { refusal = accepted; header = record { oem_id = c.oem_id; oem_table_id = c.oem_table_id; flags = c.flags } }
  -- `read_structure`: for each number the flags (the first byte of what the record holds), or 22; where it is present, its
  -- kind's ID and its Index
  pub flags : (number : ℕ) → number < slot_count
      → Gives (structure_held c (slot_held c number)) (λ (body : List ℕ). byte body 0) (structure_of t number).refusal (structure_of t number).flags
  pub kind : (number : ℕ) (body : List ℕ) → number < slot_count → structure_held c (slot_held c number) ≡ Some body
      → (structure_of t number).id ≡ (kind_of (slot_held c number)).id
  pub index : (number : ℕ) (body : List ℕ) → number < slot_count → structure_held c (slot_held c number) ≡ Some body
      → (structure_of t number).index ≡ index_held c (slot_held c number)
  -- `structure_view`: from byte 5 of the part that starts with it, flags and fields as the record holds them
  pub fields : (number : ℕ) → number < slot_count
      → Gives (structure_held c (slot_held c number)) (λ (body : List ℕ). body) (structure_of t number).refusal
      (part (structure_view_of t number) 5 (body_size (kind_of (slot_held c number))))
  -- each structure that is present has a number, and so has each entry
  pub slot-called : (k : ℕ) (body : List ℕ) → structure_held c k ≡ Some body → slot_held c (slot_number (nics_held c) k) ≡ k
  pub entry-called : (n : ℕ) (bytes : List ℕ) → entry_held c n ≡ Some bytes → entry_held_at c (entry_number (nics_held c) n) ≡ n
  -- `read_initiator`, `read_nic`, `read_target`: flags and fields, or 22; the Index
  pub initiator : Gives (structure_held c 0) initiator_from (initiator_of t).refusal (initiator_fields (initiator_of t).fields)
  pub nic : (n : ℕ) → nic_slot n < slot_count
      → Gives (structure_held c (nic_slot n)) nic_from (nic_of t n).refusal (nic_fields (nic_of t n).fields)
  pub nic-index : (n : ℕ) (body : List ℕ) → structure_held c (nic_slot n) ≡ Some body → (nic_of t n).index ≡ index_held c (nic_slot n)
  pub target : (n : ℕ) → target_slot n < slot_count
      → Gives (structure_held c (target_slot n)) target_from (target_of t n).refusal (target_fields (target_of t n).fields)
  pub target-index : (n : ℕ) (body : List ℕ) → structure_held c (target_slot n) ≡ Some body → (target_of t n).index ≡ index_held c (target_slot n)
  -- `read_entry`, `entry_view`: each entry's bytes and how many they are, or 22 where it is missing; an empty one is not
  -- missing
  pub entry : (number : ℕ) → number < entry_count
      → Gives (entry_held c (entry_held_at c number)) (λ (bytes : List ℕ). bytes) (entry_of t number).refusal (view_of t number)
  pub entry_length : (number : ℕ) (bytes : List ℕ) → number < entry_count → entry_held c (entry_held_at c number) ≡ Some bytes
      → (entry_of t number).length ≡ length bytes
  -- each string under its own owner: the words that a structure's reading shows are the place of its own entry, 0 and 0 where
  -- it is missing. (An extra NIC that the record does not hold has no number, and neither has its entry.)
  pub initiator-name : (initiator_of t).fields.name ≡ words_read (entry_of t 0)
  pub host : (n : ℕ) → nic_slot n < extra_nics + nics_held c → (nic_of t n).fields.host ≡ words_read (entry_of t (string_number c (nic_slot n) 0))
  pub target_name : (n : ℕ) → target_slot n < slot_count
      → (target_of t n).fields.name ≡ words_read (entry_of t (string_number c (target_slot n) 0))
  pub chap-name : (n : ℕ) → target_slot n < slot_count
      → (target_of t n).fields.chap_name ≡ words_read (entry_of t (string_number c (target_slot n) 1))
  pub chap-secret : (n : ℕ) → target_slot n < slot_count
      → (target_of t n).fields.chap_secret ≡ words_read (entry_of t (string_number c (target_slot n) 2))
  pub reverse-name : (n : ℕ) → target_slot n < slot_count
      → (target_of t n).fields.reverse_name ≡ words_read (entry_of t (string_number c (target_slot n) 3))
  pub reverse-secret : (n : ℕ) → target_slot n < slot_count
      → (target_of t n).fields.reverse_secret ≡ words_read (entry_of t (string_number c (target_slot n) 4))
