-- What an accepted table holds, as facts: RULES.md, Layout and Strings, without the refusals. `AcceptedLaws` shows that a
-- table is accepted exactly where all of these hold. Assumes nothing: these are definitions.
use Rattle.std.specs.Prelude.{◌≡◌, ◌⊎◌, true, List, ℕ, ◌+◌, ◌*◌, ◌%◌, ◌≤◌, ◌<◌, length, take}
use Rattle.std.specs.Int.Bits.{bit_and}
use Rattle.octets.specs.Counting.{count}
use Rattle.octets.specs.Octets.{byte, word16, word32, part, sum}
use Rattle.hostname.specs.Hostname.{is_host_name}
use Rattle.ibft_layout.specs.Layout.{Kind, control, named_count, extra_most, least_index, most_words, kind_of, control_at}
use Rattle.ibft_layout.specs.Layout.{extensions_at, chap_at, entry_count, string_of}
use Rattle.table_header.specs.Header.{length_of, padded}
use Rattle.ibft_table.specs.Table.{control_length, control_end_of, word_count, start_at, used_at, kind_at, index_at, end_at, heap_of, alike, starts_of}
use Rattle.ibft_table.specs.Table.{index_in, start_of, end_of, size_of, offset_of, holds_entry}

-- the header of a table with this signature, at least so many bytes lent and of at least this Length
pub record HeaderFacts (signature least_lent least_length : ℕ) (t : List ℕ) : Type 0 where
  pub lent : least_lent ≤ length t
  pub signed : word32 t 0 ≡ signature
  pub long : least_length ≤ length_of t
  pub whole : length_of t ≤ length t
  pub sums : sum (take (length_of t) t) % 256 ≡ 0
  pub revision : byte t 8 ≡ 1
  pub oem-id : padded (part t 10 6) ≡ true
  pub oem-table-id : padded (part t 16 8) ≡ true

-- a structure of this kind and Index stands at `start`: ID, version, length, Index; no flag bit that the kind does not name
pub record StartFacts (t : List ℕ) (start : ℕ) (kind : Kind) (index : ℕ) : Type 0 where
  pub id : byte t start ≡ kind.id
  pub version : byte t (start + 1) ≡ kind.version
  pub length-is : word16 t (start + 2) ≡ kind.length
  pub index_is : byte t (start + 4) ≡ index
  pub reserved : bit_and (byte t (start + 5)) kind.reserved ≡ 0

pub record ControlFacts (t : List ℕ) : Type 0 where
  pub id : byte t control_at ≡ control.id
  pub version : byte t (control_at + 1) ≡ control.version
  pub index_is : byte t (control_at + 4) ≡ 0
  pub long : control.length ≤ control_length t
  pub short : control_length t ≤ control.length + 2 * most_words
  pub even : control_length t % 2 ≡ 0
  pub inside : control_end_of t ≤ length_of t
  pub reserved : bit_and (byte t (control_at + 5)) control.reserved ≡ 0
  pub extensions : word16 t extensions_at ≡ 0

-- word w, where it is used
pub record WordFacts (t : List ℕ) (w : ℕ) : Type 0 where
  pub aligned : start_at t w % 8 ≡ 0
  pub least : control_end_of t ≤ start_at t w
  pub inside : end_at t w ≤ length_of t
  pub starts : StartFacts t (start_at t w) (kind_at t w) (index_at t w)
  pub chap : (kind_at t w).chap ≡ true → byte t (start_at t w + chap_at) ≤ 2

-- and an extra word besides: no earlier one of its kind has its Index, and fewer than six are of its kind
pub record ExtraFacts (t : List ℕ) (w : ℕ) : Type 0 where
  pub index-least : least_index ≤ index_at t w
  pub own-index : (v : ℕ) → v < w → alike t w v ≡ true → index_at t v ≡ index_at t w → ⊥
  pub few : count w (alike t w) < extra_most

-- entry n, where it is present: it and the zero behind it lie in the heap
pub record EntryFacts (t : List ℕ) (n : ℕ) : Type 0 where
  pub low : heap_of t ≤ offset_of t n
  pub high : offset_of t n + size_of t n < length_of t
  pub ends : byte t (offset_of t n + size_of t n) ≡ 0
  pub longest : size_of t n ≤ (string_of n).longest
  pub host : (string_of n).host ≡ true → is_host_name (part t (offset_of t n) (size_of t n)) ≡ true

-- the structures of words v and w share no byte
abbrev pub Apart : List ℕ → ℕ → ℕ → Type 0
Apart t v w = (end_at t v ≤ start_at t w) ⊎ (end_at t w ≤ start_at t v)

pub record Facts (t : List ℕ) : Type 0 where
  pub header : HeaderFacts 0x54464269 48 66 t
  pub control : ControlFacts t
  pub word : (w : ℕ) → w < word_count t → used_at t w ≡ true → WordFacts t w
  pub extra : (w : ℕ) → named_count ≤ w → w < word_count t → used_at t w ≡ true → ExtraFacts t w
  pub apart : (v w : ℕ) → v < w → w < word_count t → used_at t v ≡ true → used_at t w ≡ true → Apart t v w
  pub entry : (n : ℕ) → n < entry_count → holds_entry t n ≡ true → EntryFacts t n

-- ---- what follows by slot, since each slot in use has its word: slot k, where its structure is present

pub record SlotFacts (t : List ℕ) (k : ℕ) : Type 0 where
  pub aligned : start_of t k % 8 ≡ 0
  pub least : control_end_of t ≤ start_of t k
  pub inside : end_of t k ≤ length_of t
  pub starts : StartFacts t (start_of t k) (kind_of k) (index_in (starts_of t) t k)
  pub chap : (kind_of k).chap ≡ true → byte t (start_of t k + chap_at) ≤ 2

-- the structures of slots i and k share no byte
abbrev pub Disjoint : List ℕ → ℕ → ℕ → Type 0
Disjoint t i k = (end_of t i ≤ start_of t k) ⊎ (end_of t k ≤ start_of t i)
