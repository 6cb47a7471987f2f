-- `compare` meets its contract: the walk along all points counts those that differ. Assumes nothing.
use mathlib.Core.Path.{◌≡◌, refl, sym, ap, ◌∙◌}
use mathlib.Core.List.{List}
use Prim.Native.Nat.{ℕ}
use native.Mathlib.Omega.{arith}
use lib.ListN.{length}
use Rattle.table_header.specs.Verdict.{refusal_of, Verdict, Accepted, Refused}
use Rattle.table_header.specs.declared.verdict.Refusal.{Refusal}
use Rattle.ibft_table.specs.Check.{check_of}
use Rattle.ibft_compare.specs.declared.walk.Met.{Met}
use Rattle.ibft_compare.specs.Points.{Point, points}
use Rattle.ibft_compare.specs.Pairs.{pairs_in}
use Rattle.ibft_compare.specs.Compare.{side_of, verdict_of, list_of, compared_of}
use Rattle.ibft_compare.specs.Walk.{indices_of}
use Rattle.ibft_compare.proofs.WalkLaws.{walked-is}
use Rattle.ibft_compare.proofs.CompareLaws.{list-accepted, list-refused, compares}
use Rattle.ibft_compare.proofs.compare.compare.Goals as goal

-- the answer, from its parts
compared : (left right : List ℕ) (refusal : Refusal) (side count : ℕ) (v : Verdict) → verdict_of left right ≡ v → refusal
    ≡ refusal_of v → side ≡ side_of (check_of left) (check_of right)
    → count ≡ length (list_of left right) → record { refusal = refusal; side = side; count = count } ≡ compared_of left right
unfolding compared_of
compared left right refusal side count v ev er es ec =
    let whole = er ∙ ap refusal_of (sym ev) in
    λ i. record { refusal = whole i; side = es i; count = ec i }

pub returns-in-Ok : goal.returns-in-Ok
unfolding refusal_of
returns-in-Ok c =
    let left = c.args.left.now in
    let right = c.args.right.now in
    let lefts = c.type_inv.left in
    let rights = c.type_inv.right in
    let judged = c.judge-judged.ensures in
    let accepted : verdict_of left right ≡ Accepted = sym judged.0 ∙ c.in-Ok.is in
    let count = ap (λ (m : Met). m.count) (c.meet_all.ensures ∙ walked-is left right 0 (points (pairs_in (indices_of left) (indices_of right)))) in
    compares left right (λ i. omega (arith, lefts i)) (λ i. omega (arith, rights i)) _
    (compared left right _ _ _ Accepted accepted refl judged.1 (count ∙ sym (ap (λ (ps : List Point). length ps) (list-accepted left right accepted))))

pub returns-in-Err : goal.returns-in-Err
unfolding refusal_of
returns-in-Err c =
    let left = c.args.left.now in
    let right = c.args.right.now in
    let lefts = c.type_inv.left in
    let rights = c.type_inv.right in
    let judged = c.judge-judged.ensures in
    let refused = sym judged.0 ∙ c.in-Err.is in
    compares left right (λ i. omega (arith, lefts i)) (λ i. omega (arith, rights i)) _
    (compared left right _ _ _ (Refused _) refused refl judged.1 (sym (ap (λ (ps : List Point). length ps) (list-refused left right _ refused))))
