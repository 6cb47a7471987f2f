-- Contents that a build does not refuse: what the refusals leave, as facts by slot and by entry. It is what the laws of the
-- built table ask for, and what the contents of an accepted record range have. Assumes nothing.
use Rattle.std.specs.Prelude.{Some}
use mathlib.Core.Path.{◌≡◌}
use mathlib.Core.Bool.{true, false, not, ◌&&◌}
use mathlib.Core.List.{List}
use Prim.Native.Nat.{ℕ, ◌+◌, ◌-◌, ◌≤◌, ◌<◌}
use lib.ListN.{length}
use lib.Dec.{ltb}
use Rattle.octets.specs.Octets.{byte}
use Rattle.hostname.specs.Hostname.{is_host_name}
use Rattle.ibft_layout.specs.Layout.{control, kind_of, chap_at, slot_count, entry_count, owner_of, string_of, named_count, extra_most, extra_nics}
use Rattle.ibft_layout.specs.Layout.{extra_targets, least_index, index_of}
use Rattle.table_header.specs.Header.{padded}
use Rattle.ibft_table.specs.Check.{reserved_set}
use Rattle.ibft_table.specs.Record.{Content, body_size}
use Rattle.ibft_build_rules.specs.Refusals.{has_zero}
use Rattle.ibft_build_rules.specs.Plan.{is_present}

-- the flags and fields of slot k's structure: as many as its kind has, no reserved flag, a CHAP type up to 2 where it has one
pub record GoodBody (k : ℕ) (body : List ℕ) : Type 0 where
  pub body-size : length body ≡ body_size (kind_of k)
  pub body-flags : reserved_set (byte body 0) (kind_of k) ≡ false
  pub body-chap : (kind_of k).chap && ltb 2 (byte body (chap_at - 5)) ≡ false

-- entry n's bytes: not too long, no zero among them, a host name where it is to be one
pub record GoodEntry (n : ℕ) (a : List ℕ) : Type 0 where
  pub not-long : length a ≤ (string_of n).longest
  pub no_zero : has_zero a ≡ false
  pub host-name : (string_of n).host && not (is_host_name a) ≡ false

-- extras that fill the slots of their kind from the first on, by ascending Index from 2 on: `a` NICs and `b` targets
pub record Packed (c : Content) (a b : ℕ) : Type 0 where
  pub nics : a ≤ extra_most
  pub targets : b ≤ extra_most
  pub nics-are : (i : ℕ) → i < extra_most → is_present (c.structure (extra_nics + i)) ≡ ltb i a
  pub targets-are : (i : ℕ) → i < extra_most → is_present (c.structure (extra_targets + i)) ≡ ltb i b
  pub index : (k : ℕ) → named_count ≤ k → is_present (c.structure k) ≡ true → least_index ≤ c.index k
  pub nic-up : (i j : ℕ) → i < j → j < a → c.index (extra_nics + i) < c.index (extra_nics + j)
  pub target_up : (i j : ℕ) → i < j → j < b → c.index (extra_targets + i) < c.index (extra_targets + j)

pub record Good (c : Content) : Type 0 where
  -- its extras
  pub nics : ℕ
  pub targets : ℕ
  pub extras : Packed c nics targets
  -- a named structure has its Index; past the last slot no Index is given
  pub named : (k : ℕ) → k < named_count → c.index k ≡ index_of k
  pub unnamed : (k : ℕ) → named_count ≤ k → is_present (c.structure k) ≡ false → c.index k ≡ 0
  pub oem-id : length c.oem_id ≡ 6
  pub oem-id-padded : padded c.oem_id ≡ true
  pub oem-table-id : length c.oem_table_id ≡ 8
  pub oem-table-id-padded : padded c.oem_table_id ≡ true
  pub control-flags : reserved_set c.flags control ≡ false
  pub body : (k : ℕ) (b : List ℕ) → k < slot_count → c.structure k ≡ Some b → GoodBody k b
  pub entry : (n : ℕ) (a : List ℕ) → n < entry_count → c.entry n ≡ Some a → GoodEntry n a
  -- an entry is present only where its structure is
  pub owned : (n : ℕ) (a : List ℕ) → n < entry_count → c.entry n ≡ Some a → is_present (c.structure (owner_of n)) ≡ true
