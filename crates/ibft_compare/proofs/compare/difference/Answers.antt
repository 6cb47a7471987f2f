-- `difference` meets its contract: the walk along all points keeps the one asked for, and what is shown of it is found from
-- where the tables have it. Assumes nothing.
use mathlib.Core.Path.{◌≡◌, refl, sym, ap, ap₂, ◌∙◌}
use mathlib.Core.List.{List, []}
use Prim.Native.Nat.{ℕ, zero, suc}
use native.Mathlib.Omega.{arith}
use lib.ListN.{drop}
use Rattle.table_header.specs.Verdict.{refusal_of, Verdict, Accepted, Refused}
use Rattle.table_header.specs.declared.verdict.Refusal.{Refusal}
use Rattle.ibft_table.specs.Check.{check_of}
use Rattle.ibft_compare.specs.declared.difference.Difference.{Difference}
use Rattle.ibft_compare.specs.declared.difference.Stretch.{Stretch}
use Rattle.ibft_compare.specs.declared.walk.Met.{Met}
use Rattle.ibft_compare.specs.Points.{Point, points}
use Rattle.ibft_compare.specs.Pairs.{pairs_in}
use Rattle.ibft_compare.specs.Compare.{side_of, verdict_of, list_of, left_stretch, right_stretch, shown_stretch, first_name, first_stretch, shown_of, difference_of}
use Rattle.ibft_compare.specs.Walk.{indices_of, part_shown, shown_by, unmet, walked}
use Rattle.ibft_compare.proofs.WalkLaws.{walked-is}
use Rattle.ibft_compare.proofs.CompareLaws.{both-accepted, list-accepted, list-refused, shown-start, shown-first}
use Rattle.ibft_compare.proofs.compare.difference.Goals as goal

-- what the walk along all points of accepted tables keeps: the difference asked for, and where each table has it
module _ (left right : List ℕ) (k : ℕ) (accepted : verdict_of left right ≡ Accepted) (m : Met)
    (is : m ≡ walked left right (unmet k) (points (pairs_in (indices_of left) (indices_of right)))) where
  abbrev rest : List Point
  rest = drop k (list_of left right)

  same : m.difference ≡ first_name rest
  same =
      ap (λ (m : Met). m.difference) (is ∙ walked-is left right k (points (pairs_in (indices_of left) (indices_of right))))
      ∙ ap (λ (ps : List Point). first_name (drop k ps)) (sym (list-accepted left right accepted))

  same_left : m.left ≡ first_stretch (left_stretch left) rest
  same_left =
      ap (λ (m : Met). m.left) (is ∙ walked-is left right k (points (pairs_in (indices_of left) (indices_of right))))
      ∙ ap (λ (ps : List Point). first_stretch (left_stretch left) (drop k ps)) (sym (list-accepted left right accepted))

  same-right : m.right ≡ first_stretch (right_stretch right) rest
  same-right =
      ap (λ (m : Met). m.right) (is ∙ walked-is left right k (points (pairs_in (indices_of left) (indices_of right))))
      ∙ ap (λ (ps : List Point). first_stretch (right_stretch right) (drop k ps)) (sym (list-accepted left right accepted))

  same-shown : shown_by m.difference (part_shown left m.left right m.right) ≡ shown_of left right k
  unfolding shown_of
  same-shown =
      ap₂ shown_by same (ap₂ (λ (l r : Stretch). part_shown left l right r) same_left same-right)
      ∙ shown-first left right (both-accepted left right accepted).0 (both-accepted left right accepted).1 rest

-- the reading, from its parts
read : (left right : List ℕ) (k : ℕ) (refusal : Refusal) (side : ℕ) (difference : Difference) (l r shown : Stretch) (v : Verdict) → verdict_of left right ≡ v
    → refusal ≡ refusal_of v → side ≡ side_of (check_of left) (check_of right)
    → difference ≡ first_name (drop k (list_of left right)) → l ≡ first_stretch (left_stretch left) (drop k (list_of left right))
    → r ≡ first_stretch (right_stretch right) (drop k (list_of left right)) → shown ≡ shown_of left right k
    → record { refusal = refusal; side = side; difference = difference; left = l; right = r; shown = shown } ≡ difference_of left right k
unfolding difference_of
read left right k refusal side difference l r shown v ev er es ed el ek eh =
    let whole = er ∙ ap refusal_of (sym ev) in
    λ i. record { refusal = whole i; side = es i; difference = ed i; left = el i; right = ek i; shown = eh i }

drop-none : (k : ℕ) → drop {A = Point} k [] ≡ []
drop-none zero = refl
drop-none (suc k) = refl

pub shown_of-shown-requires : goal.shown_of-shown-requires
shown_of-shown-requires c =
    let a = c.args in
    let left = a.left.now in
    let right = a.right.now in
    let lefts = c.type_inv.left in
    let accepted : verdict_of left right ≡ Accepted = sym c.judge-judged.ensures.0 ∙ c.in-Ok.is in
    let met = c.meet_all-met in
    rw (same left right a.k accepted met.result met.ensures, same_left left right a.k accepted met.result met.ensures)
    (shown-start left right (λ i. omega (arith, lefts i)) (drop a.k (list_of left right)))

pub returns-in-Ok : goal.returns-in-Ok
unfolding refusal_of
returns-in-Ok c =
    let a = c.args in
    let left = a.left.now in
    let right = a.right.now in
    let judged = c.judge-judged.ensures in
    let accepted : verdict_of left right ≡ Accepted = sym judged.0 ∙ c.in-Ok.is in
    let met = c.meet_all-met in
    read left right a.k _ _ _ _ _ _ Accepted accepted refl judged.1
    (same left right a.k accepted met.result met.ensures)
    (same_left left right a.k accepted met.result met.ensures)
    (same-right left right a.k accepted met.result met.ensures)
    (c.shown_of-shown.ensures ∙ same-shown left right a.k accepted met.result met.ensures)

pub returns-in-Err : goal.returns-in-Err
unfolding refusal_of shown_of first_name first_stretch
returns-in-Err c =
    let a = c.args in
    let left = a.left.now in
    let right = a.right.now in
    let judged = c.judge-judged.ensures in
    let refused = sym judged.0 ∙ c.in-Err.is in
    let none : drop a.k (list_of left right) ≡ [] = ap (drop a.k) (list-refused left right _ refused) ∙ drop-none a.k in
    read left right a.k _ _ _ _ _ _ (Refused _) refused refl judged.1
    (ap first_name (sym none))
    (c.no_stretch.ensures ∙ ap (first_stretch (left_stretch left)) (sym none))
    (c.no_stretch-in-Err.ensures ∙ ap (first_stretch (right_stretch right)) (sym none))
    (c.no_stretch-in-Err-2.ensures ∙ ap (first_stretch (shown_stretch left right)) (sym none))
