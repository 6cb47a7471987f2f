-- A built table keeps the built order: of two structures present, the one whose turn comes first ends before the other starts.
--     begins-keeps-order     a list that begins with the table
--     keeps-order            the table, with any bytes behind it
-- Assumes nothing.
use mathlib.Core.Path.{◌≡◌, sym, ◌∙◌}
use mathlib.Core.Bool.{true}
use mathlib.Core.List.{List, ◌++◌}
use Prim.Native.Nat.{ℕ, ◌<◌}
use native.Mathlib.Omega.{arith}
use Rattle.ibft_layout.specs.Layout.{slot_count, built_slot}
use Rattle.ibft_table.specs.Record.{Content}
use Rattle.ibft_table.specs.Order.{keeps_order}
use Rattle.ibft_table_laws.proofs.LayoutLaws.{slot-fits, built-fits}
use Rattle.ibft_table_laws.proofs.OrderLaws.{starts-order}
use Rattle.ibft_build_rules.specs.TableBytes.{table_of}
use Rattle.ibft_build_rules.proofs.GoodContent.{Good}
use Rattle.ibft_build_rules.proofs.PlanLaws.{starts-ordered}
use Rattle.ibft_build_rules.proofs.BuiltLaws.{Begins, begins-append, start_back, present-back}

module _ (c : Content) (good : Good c) (t : List ℕ) (front : Begins c t) where
  pub begins-keeps-order : keeps_order t ≡ true
  begins-keeps-order =
      starts-order t
      (λ i j l h oni onj.
      let hi : built_slot i < slot_count = (built-fits i (omega arith)).slot in
      let hj : built_slot j < slot_count = (built-fits j h).slot in
      let long = slot-fits (built_slot i) hi in
      omega (
        arith,
        start_back c good t front (built_slot i) hi,
        start_back c good t front (built_slot j) hj,
        starts-ordered c i j l h (sym (present-back c good t front (built_slot i) hi) ∙ oni) (sym (present-back c good t front (built_slot j) hj) ∙ onj),
      ))

pub keeps-order : (c : Content) → Good c → (rest : List ℕ) → keeps_order (table_of c ++ rest) ≡ true
keeps-order c good rest = begins-keeps-order c good (table_of c ++ rest) (begins-append c good rest)
