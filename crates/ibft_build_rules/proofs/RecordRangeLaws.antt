-- Laws of the record range, shaped like what its readers return: each is one case of a definition. What is given is known by
-- number for the named slots and by arithmetic for the extras, and past the last slot nothing is given.
--     image-named, image-nic, image-target       where a slot's image starts
--     given-named, given-nic, given-target       whether its structure is present, given-past: past the last slot none is
--     nic-image, target-image, nic-given, target-given     the same of the i-th extra of a kind
--     mark-named, mark-extra                     where an entry's mark stands
--     owner-short, owner-first                   an entry's owner is no longer than a NIC; the entry is its first or comes
--                                                behind that
-- Assumes nothing.
use mathlib.Core.Path.{◌≡◌, sym, ap, ◌∙◌}
use mathlib.Core.List.{List}
use mathlib.Core.Bool.{false}
use Prim.Native.Nat.{ℕ, ◌+◌, ◌-◌, ◌≤◌, ◌<◌}
use native.Mathlib.Decide.{dec_lt}
use native.Mathlib.Omega.{arith}
use lib.Dec.{eqb, ltb}
use borrow.Author.Tests.{lt-ltb, le-ltb}
use Rattle.octets.specs.Octets.{byte}
use Rattle.ibft_layout.specs.Layout.{kind_of, slot_count, named_count, named_entries, entry_count, extra_most, extra_nics, extra_targets, owner_of, first_entry}
use Rattle.ibft_layout.proofs.LayoutLaws.{owner-past, first_past}
use Rattle.ibft_table_laws.proofs.LayoutLaws.{slot-fits, entry-fits}
use Rattle.ibft_build_rules.specs.RecordRange.{nics_given, targets_given, nic_image, target_image, named_image, image_at, mark_at, structure_given}

-- ---- images and presence, slot by slot

module _ (r : List ℕ) (k : ℕ) where
  pub image-named : k < named_count → named_image k ≡ image_at r k
  unfolding image_at
  image-named h = rw (lt-ltb k named_count h)

  pub image-nic : named_count ≤ k → k < extra_targets → nic_image (k - extra_nics) ≡ image_at r k
  unfolding image_at
  image-nic low high = rw (le-ltb k named_count low, lt-ltb k extra_targets high)

  pub image-target : extra_targets ≤ k → target_image r (k - extra_targets) ≡ image_at r k
  unfolding image_at
  image-target low = rw (le-ltb k named_count (omega arith), le-ltb k extra_targets low)

  pub given-named : k < named_count → eqb (byte r (15 + k)) 1 ≡ structure_given r k
  unfolding structure_given
  given-named h = rw (lt-ltb k named_count h)

  pub given-nic : named_count ≤ k → k < extra_targets → ltb (k - extra_nics) (nics_given r) ≡ structure_given r k
  unfolding structure_given
  given-nic low high = rw (le-ltb k named_count low, lt-ltb k extra_targets high)

  pub given-target : extra_targets ≤ k → k < slot_count → ltb (k - extra_targets) (targets_given r) ≡ structure_given r k
  unfolding structure_given
  given-target low high = rw (le-ltb k named_count (omega arith), le-ltb k extra_targets low, lt-ltb k slot_count high)

  pub given-past : slot_count ≤ k → structure_given r k ≡ false
  unfolding structure_given
  given-past h = rw (le-ltb k named_count (omega arith), le-ltb k extra_targets (omega arith), le-ltb k slot_count h)

-- the i-th extra of a kind
module _ (r : List ℕ) (i : ℕ) (h : i < extra_most) where
  pub nic-given : structure_given r (extra_nics + i) ≡ ltb i (nics_given r)
  nic-given = sym (given-nic r (extra_nics + i) (omega arith) (omega arith)) ∙ ap (λ (j : ℕ). ltb j (nics_given r)) (omega arith)

  pub target-given : structure_given r (extra_targets + i) ≡ ltb i (targets_given r)
  target-given = sym (given-target r (extra_targets + i) (omega arith) (omega arith)) ∙ ap (λ (j : ℕ). ltb j (targets_given r)) (omega arith)

  pub nic-image : image_at r (extra_nics + i) ≡ nic_image i
  nic-image = sym (image-nic r (extra_nics + i) (omega arith) (omega arith)) ∙ ap nic_image (omega arith)

  pub target-image : image_at r (extra_targets + i) ≡ target_image r i
  target-image = sym (image-target r (extra_targets + i) (omega arith)) ∙ ap (target_image r) (omega arith)

-- ---- marks

module _ (r : List ℕ) (n : ℕ) where
  pub mark-named : n < named_entries → 20 + n ≡ mark_at r n
  unfolding mark_at
  mark-named h = rw (lt-ltb n named_entries h)

  pub mark-extra : named_entries ≤ n → image_at r (owner_of n) + (kind_of (owner_of n)).length + (n - first_entry (owner_of n)) ≡ mark_at r n
  unfolding mark_at
  mark-extra h = rw (le-ltb n named_entries h)

pub owner-short : (n : ℕ) → (kind_of (owner_of n)).length ≤ 102
unfolding kind_of
owner-short n =
    elim (dec_lt n entry_count) [
      | yes h ↦ (slot-fits (owner_of n) (entry-fits n h).owner).short
      | no h ↦ omega (arith, ap (λ (k : ℕ). (kind_of k).length) (owner-past n (omega arith)))
    ]

pub owner-first : (n : ℕ) → first_entry (owner_of n) ≤ n
owner-first n =
    elim (dec_lt n entry_count) [
      | yes h ↦ (entry-fits n h).from
      | no h ↦ omega (arith, ap first_entry (owner-past n (omega arith)), first_past slot_count (omega arith))
    ]
