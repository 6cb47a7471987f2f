-- The built order: a table keeps it exactly where the structure earlier in the build's order has the lower start.
--     order-starts, starts-order     the two ways
-- Assumes nothing.
use mathlib.Core.Path.{◌≡◌, ap}
use mathlib.Core.Bool.{true, not}
use mathlib.Core.List.{List}
use Prim.Native.Nat.{ℕ, ◌<◌}
use borrow.Author.Tests.{leb-false, lt-leb, not-true}
use Rattle.octets.specs.Counting.{any}
use Rattle.octets.proofs.CountingLaws.{any_none, any-no}
use Rattle.ibft_layout.specs.Layout.{slot_count, built_slot}
use Rattle.ibft_table.specs.Table.{starts_of, start_of, present}
use Rattle.ibft_table.specs.Order.{out_of_order, keeps_in, keeps_order}
use Rattle.octets.proofs.TestLaws.{and-other, and_no}

module _ (t : List ℕ) where
  pub order-starts : keeps_order t ≡ true → (i j : ℕ) → i < j → j < slot_count → present t (built_slot i) ≡ true → present t (built_slot j) ≡ true
      → start_of t (built_slot i) < start_of t (built_slot j)
  unfolding keeps_order keeps_in out_of_order
  order-starts keeps i j l h oni onj =
      let none = any_none slot_count (λ (j : ℕ). any j (out_of_order (starts_of t) j)) (not-true _ keeps) j h in
      let a = and-other (present t (built_slot i)) _ (any_none j (out_of_order (starts_of t) j) none i l) oni in
      leb-false (start_of t (built_slot j)) (start_of t (built_slot i)) (and-other (present t (built_slot j)) _ a onj)

  pub starts-order : ((i j : ℕ) → i < j → j < slot_count → present t (built_slot i) ≡ true → present t (built_slot j) ≡ true
      → start_of t (built_slot i) < start_of t (built_slot j)) → keeps_order t ≡ true
  unfolding keeps_order keeps_in out_of_order
  starts-order all =
      ap not
      (any-no slot_count (λ (j : ℕ). any j (out_of_order (starts_of t) j))
      (λ j h. any-no j (out_of_order (starts_of t) j)
      (λ i l. and_no (present t (built_slot i)) _
      (λ oni. and_no (present t (built_slot j)) _
      (λ onj. lt-leb (start_of t (built_slot j)) (start_of t (built_slot i)) (all i j l h oni onj))))))
