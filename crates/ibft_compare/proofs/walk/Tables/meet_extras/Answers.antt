-- `Tables::meet_extras` meets its contract: at each turn the walk has gone along all Indexes up to the one that it comes from,
-- since between one that a table has and the next there is no extra. Assumes nothing.
use Rattle.std.proofs.Common.{◌≡◌, refl, sym, ap, ◌∙◌, ℕ, suc, ◌+◌, ◌-◌, ◌≤◌, ◌<◌, List, arith}
use Rattle.octets.specs.Counting.{gather}
use Rattle.ibft_layout.specs.Layout.{least_index}
use Rattle.ibft_compare.specs.declared.walk.Aspect.{Aspect}
use Rattle.ibft_compare.specs.Pairs.{pair_with, extra_pairs}
use Rattle.ibft_compare.specs.Points.{Point, each}
use Rattle.ibft_compare.specs.Walk.{NoneBetween, points_in, walked}
use Rattle.ibft_compare.proofs.WalkLaws.{walked_next, each-gather}
use Rattle.ibft_compare.proofs.PairLaws.{index-none, gather-skip}
use Rattle.ibft_compare.proofs.walk.Tables.meet_extras.Goals as goal

module _ (aspect : Aspect) (li ri : List ℕ) (group : ℕ) where
  -- the points of an Index, and those of the first n Indexes
  abbrev index_points : ℕ → List Point
  index_points index = each (points_in aspect) (pair_with li ri group index)

  abbrev points_to : ℕ → List Point
  points_to n = gather index_points least_index n

  -- between `after` and the next Index there are none
  points-skip : (after next : ℕ) → least_index ≤ suc after → after < next → NoneBetween li group after next → NoneBetween ri group after next
      → points_to (next - least_index) ≡ points_to (suc after - least_index)
  unfolding each
  points-skip after next low less na nb =
      let count : next - least_index ≡ suc after - least_index + (next - suc after) = omega arith in
      ap (gather index_points least_index) count
      ∙ gather-skip index_points least_index (suc after - least_index) (next - suc after)
      (λ i l h. ap (each (points_in aspect)) (index-none li ri group after next i na nb (omega arith) (omega arith)))

pub loop-index-init : goal.loop-index-init
unfolding gather walked
loop-index-init c = (omega arith, omega arith, refl, omega arith)

pub loop-index-preserved : goal.loop-index-preserved
loop-index-preserved c =
    let a = c.args in
    let l = c.loop-index in
    let left = a.self.now.left.bytes.now in
    let right = a.self.now.right.bytes.now in
    let li = a.self.now.left.indices.now in
    let ri = a.self.now.right.indices.now in
    let index = c.in-Some.index in
    let found = c.in-Some.ensures in
    let skip : points_to a.aspect li ri a.group (l.after + 1 - least_index) ≡ points_to a.aspect li ri a.group (index - least_index) =
    ap (λ (n : ℕ). points_to a.aspect li ri a.group (n - least_index)) (let e : l.after + 1 ≡ suc l.after = omega arith in e)
    ∙ sym (points-skip a.aspect li ri a.group l.after index (omega (arith, l.invariant.0)) found.0 found.1 found.2) in
    let next : index - least_index + 1 ≡ index + 1 - least_index = omega (arith, l.invariant.0, found.0) in (
      omega (arith, l.invariant.0, found.0),
      omega arith,
      walked_next left right (index_points a.aspect li ri a.group) least_index (index - least_index) index a.met l.met _
          (l.invariant.2 ∙ ap (walked left right a.met) skip) (omega (arith, l.invariant.0, found.0)) c.meet_index-met.ensures.0
          ∙ ap (λ (n : ℕ). walked left right a.met (points_to a.aspect li ri a.group n)) next,
      omega (arith, c.meet_index-met.ensures.1, l.invariant.3, found.0, l.invariant.0),
    )

pub returns : goal.returns
unfolding extra_pairs
returns c =
    let a = c.args in
    let l = c.loop-index in
    let left = a.self.now.left.bytes.now in
    let right = a.self.now.right.bytes.now in
    let li = a.self.now.left.indices.now in
    let ri = a.self.now.right.indices.now in
    let none = c.in_default.ensures in
    let skip : points_to a.aspect li ri a.group (l.after + 1 - least_index) ≡ points_to a.aspect li ri a.group (256 - least_index) =
    ap (λ (n : ℕ). points_to a.aspect li ri a.group (n - least_index)) (let e : l.after + 1 ≡ suc l.after = omega arith in e)
    ∙ sym (points-skip a.aspect li ri a.group l.after 256 (omega (arith, l.invariant.0)) l.invariant.1 none.0 none.1) in (
      l.invariant.2 ∙ ap (walked left right a.met) (skip ∙ sym (each-gather (points_in a.aspect) (pair_with li ri a.group) least_index (256 - least_index))),
      omega (arith, l.invariant.3, l.invariant.1),
    )
