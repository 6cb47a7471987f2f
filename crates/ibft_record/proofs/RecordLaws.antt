-- Laws of what the record range says of structures and entries, shaped like what its readers return; behind the last extra
-- nothing is given.
--     index-named, index-there, index-none           the Index of a slot's structure
--     string-low, field-small                        where an entry's words stand, in its structure and in the range
--     entry-marked, entry-off                        an entry whose structure is present, and one whose structure is absent
--     slot-past, entry_past                          behind the limits nothing is given
--     slot-limit-most, entry-limit-most              the limits are within the layout
--     entry-limit-least                              the entries of the named slots are below the limit
--     extras-are, extras-none                        how many extras there are; with none nothing extra is given
-- Assumes nothing.
use mathlib.Core.Path.{◌≡◌, refl, sym, ap, ap₂, ◌∙◌}
use mathlib.Core.List.{List}
use mathlib.Core.Bool.{Bool, true, false, cond}
use Prim.Native.Nat.{ℕ, zero, suc, ◌+◌, ◌-◌, min, ◌≤◌, ◌<◌}
use native.Mathlib.Decide.{dec_lt}
use native.Mathlib.Omega.{arith}
use lib.Dec.{eqb, ltb}
use borrow.Author.Tests.{lt-ltb, le-ltb, eq-eqb, ne_eqb}
use Rattle.octets.specs.Counting.{sum_to, count}
use Rattle.octets.specs.Octets.{byte}
use Rattle.octets.proofs.CountLaws.{count-last, count_none, count_same}
use Rattle.ibft_layout.specs.Layout.{index_of, slot_count, named_count, extra_most, extra_nics, extra_targets, entry_count, named_entries, owner_of}
use Rattle.ibft_layout.specs.Layout.{string_of, first_entry}
use Rattle.ibft_layout.proofs.LayoutLaws.{owner-past, first-nic, first-most}
use Rattle.ibft_table_laws.proofs.LayoutLaws.{entry-fits, entry-inside}
use Rattle.ibft_build_rules.specs.RecordRange.{nics_given, targets_given, nic_image, target_image, image_at, mark_at, structure_given, index_given, entry_given}
use Rattle.ibft_build_rules.proofs.RecordRangeLaws.{image-nic, image-target, given-nic, given-target, given-past, owner-short}
use Rattle.ibft_record.specs.Limits.{slot_limit, entry_limit, extras_given}

-- ---- the Index of a slot's structure

module _ (r : List ℕ) (k : ℕ) where
  pub index-named : k < named_count → index_of k ≡ index_given r k
  unfolding index_given
  index-named h = rw (lt-ltb k named_count h)

  pub index-there : named_count ≤ k → structure_given r k ≡ true → byte r (image_at r k + 4) ≡ index_given r k
  unfolding index_given
  index-there h on = rw (le-ltb k named_count h, on)

  pub index-none : named_count ≤ k → structure_given r k ≡ false → 0 ≡ index_given r k
  unfolding index_given
  index-none h off = rw (le-ltb k named_count h, off)

-- ---- entries

-- the entry's words stand in its structure
pub string-low : (n : ℕ) → n < entry_count → (string_of n).at ≤ 98
string-low n h = omega (arith, entry-inside n h, owner-short n)

first-mono : (j d : ℕ) → first_entry j ≤ first_entry (j + d)
unfolding first_entry sum_to
first-mono j zero = let same : j + 0 ≡ j = omega arith in rw same (omega arith)
first-mono j (suc d) = let more : j + suc d ≡ suc (j + d) = omega arith in rw more (omega (arith, first-mono j d))

-- an entry that comes no earlier than slot k's first has an owner that comes no earlier than k
owner-from : (k n : ℕ) → n < entry_count → first_entry k ≤ n → k ≤ owner_of n
unfolding first_entry sum_to
owner-from k n low h =
    elim (dec_lt (owner_of n) k) [
      | no l ↦ omega arith
      | yes l ↦
          let fits = entry-fits n low in
          let next : suc (owner_of n) + (k - suc (owner_of n)) ≡ k = omega arith in
          absurd (omega (arith, fits.below, rw next at (first-mono (suc (owner_of n)) (k - suc (owner_of n)))))
    ]

-- the words of an extra's entry do not stand far out
pub field-small : (r : List ℕ) (n : ℕ) → nics_given r ≤ 255 → named_entries ≤ n → n < entry_count → image_at r (owner_of n) + (string_of n).at ≤ 65535
unfolding nic_image target_image
field-small r n few low h =
    let k : ℕ = owner_of n in
    let owner = (entry-fits n h).owner in
    let extra : named_count ≤ k = owner-from named_count n h (omega (arith, first-nic named_count (omega arith) (omega arith))) in
    let at = string-low n h in
    elim (dec_lt k extra_targets) [
      | yes l ↦ omega (arith, image-nic r k extra l)
      | no l ↦ omega (arith, image-target r k (omega arith))
    ]

module _ (r : List ℕ) (n : ℕ) where
  -- k is the slot that the entry's shape names
  module _ (k : ℕ) (owner : k ≡ owner_of n) where
    pub entry-marked : structure_given r k ≡ true → (b m : ℕ) → m ≡ mark_at r n → b ≡ byte r m → eqb b 1 ≡ entry_given r n
    unfolding entry_given
    entry-marked on b m at e = rw (← owner, on, e, at)

    pub entry-off : structure_given r k ≡ false → false ≡ entry_given r n
    unfolding entry_given
    entry-off off = rw (← owner, off)

-- ---- behind the limits nothing is given

module _ (r : List ℕ) where
  limit-by : (none : Bool) → eqb (targets_given r) 0 ≡ none → slot_limit r
      ≡ cond none (extra_nics + min extra_most (nics_given r)) (extra_targets + min extra_most (targets_given r))
  unfolding slot_limit
  limit-by none e = ap (λ (b : Bool). cond b (extra_nics + min extra_most (nics_given r)) (extra_targets + min extra_most (targets_given r))) e

  pub limit-nics : targets_given r ≡ 0 → slot_limit r ≡ extra_nics + min extra_most (nics_given r)
  limit-nics none = limit-by true (eq-eqb (targets_given r) 0 none)

  pub limit-targets : (targets_given r ≡ 0 → ⊥) → slot_limit r ≡ extra_targets + min extra_most (targets_given r)
  limit-targets some = limit-by false (ne_eqb (targets_given r) 0 some)

  pub slot-limit-most : slot_limit r ≤ slot_count
  slot-limit-most =
      elim (dec_lt 0 (targets_given r)) [
        | yes h ↦ omega (arith, limit-targets (λ e. omega arith))
        | no h ↦ omega (arith, limit-nics (omega arith))
      ]

  named-limit : named_count ≤ slot_limit r
  named-limit =
      elim (dec_lt 0 (targets_given r)) [
        | yes h ↦ omega (arith, limit-targets (λ e. omega arith))
        | no h ↦ omega (arith, limit-nics (omega arith))
      ]

  pub slot-past : (k : ℕ) → slot_limit r ≤ k → structure_given r k ≡ false
  slot-past k h =
      elim (dec_lt k slot_count) [
        | no l ↦ given-past r k (omega arith)
        | yes l ↦
            elim (dec_lt k extra_targets) [
              | yes nic ↦
                  elim (dec_lt 0 (targets_given r)) [
                    | yes some ↦ absurd (omega (arith, limit-targets (λ e. omega arith)))
                    | no none ↦
                        let limit = limit-nics (omega arith) in
                        sym (given-nic r k (omega (arith, named-limit)) nic) ∙ le-ltb (k - extra_nics) (nics_given r) (omega arith)
                  ]
              | no target ↦
                  sym (given-target r k (omega arith) l)
                  ∙ le-ltb (k - extra_targets) (targets_given r)
                  (elim (dec_lt 0 (targets_given r)) [
                    | yes some ↦ omega (arith, limit-targets (λ e. omega arith))
                    | no none ↦ omega arith
                  ])
            ]
      ]

  pub entry-limit-most : entry_limit r ≤ entry_count
  unfolding entry_limit
  entry-limit-most = first-most (slot_limit r) slot-limit-most

  pub entry-limit-least : named_entries ≤ entry_limit r
  unfolding entry_limit
  entry-limit-least =
      let all : named_count + (slot_limit r - named_count) ≡ slot_limit r = omega (arith, named-limit) in
      omega (arith, rw all at (first-mono named_count (slot_limit r - named_count)), first-nic named_count (omega arith) (omega arith))

  pub entry_past : (n : ℕ) → entry_limit r ≤ n → entry_given r n ≡ false
  unfolding entry_limit
  entry_past n h =
      elim (dec_lt n entry_count) [
        | yes low ↦ sym (entry-off r n (owner_of n) refl (slot-past (owner_of n) (owner-from (slot_limit r) n low h)))
        | no high ↦ sym (entry-off r n (owner_of n) refl (slot-past (owner_of n) (omega (arith, owner-past n (omega arith), slot-limit-most))))
      ]

-- ---- how many extras there are

count-split : (n m : ℕ) (p : ℕ → Bool) → count (n + m) p ≡ count n p + count m (λ (i : ℕ). p (n + i))
count-split n zero p = let same : n + 0 ≡ n = omega arith in rw (same, count_none (λ (i : ℕ). p (n + i))) (omega arith)
count-split n (suc m) p =
    let more : n + suc m ≡ suc (n + m) = omega arith in
    rw (more, count-last (n + m) p, count-last m (λ (i : ℕ). p (n + i)), count-split n m p) (omega arith)

count-below : (n m : ℕ) → count n (λ (i : ℕ). ltb i m) ≡ min n m
count-below zero m = count_none (λ (i : ℕ). ltb i m) ∙ omega arith
count-below (suc n) m =
    elim (dec_lt n m) [
      | yes h ↦ rw (count-last n (λ (i : ℕ). ltb i m), lt-ltb n m h, count-below n m) (omega arith)
      | no h ↦ rw (count-last n (λ (i : ℕ). ltb i m), le-ltb n m (omega arith), count-below n m) (omega arith)
    ]

module _ (r : List ℕ) where
  given-first : (i : ℕ) → i < extra_most → structure_given r (named_count + i) ≡ ltb i (nics_given r)
  given-first i h = let same : named_count + i - extra_nics ≡ i = omega arith in rw same at (sym (given-nic r (named_count + i) (omega arith) (omega arith)))

  given-second : (i : ℕ) → i < extra_most → structure_given r (named_count + (extra_most + i)) ≡ ltb i (targets_given r)
  given-second i h =
      let same : named_count + (extra_most + i) - extra_targets ≡ i = omega arith in
      rw same at (sym (given-target r (named_count + (extra_most + i)) (omega arith) (omega arith)))

  pub extras-are : min extra_most (nics_given r) + min extra_most (targets_given r) ≡ extras_given r
  unfolding extras_given
  extras-are =
      sym (count-split extra_most extra_most (λ (i : ℕ). structure_given r (named_count + i))
      ∙ ap₂ ◌+◌
      (count_same extra_most (λ (i : ℕ). structure_given r (named_count + i)) (λ (i : ℕ). ltb i (nics_given r)) given-first ∙ count-below extra_most (nics_given r))
      (count_same extra_most (λ (i : ℕ). structure_given r (named_count + (extra_most + i)))
      (λ (i : ℕ). ltb i (targets_given r)) given-second ∙ count-below extra_most (targets_given r)))

  pub extras-none : extras_given r ≡ 0 → (k : ℕ) → named_count ≤ k → structure_given r k ≡ false
  extras-none none k h = let few = extras-are in slot-past r k (omega (arith, limit-nics r (omega arith)))
