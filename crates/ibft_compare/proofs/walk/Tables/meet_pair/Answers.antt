-- `Tables::meet_pair` meets its contract: at each turn the walk has gone along the points passed. Assumes nothing.
use Rattle.std.proofs.Common.{◌≡◌, refl, sym, ap, ◌∙◌, [], ◌∷◌, ℕ, arith, List}
use Rattle.octets.specs.Counting.{gather}
use Rattle.ibft_compare.specs.declared.walk.Met.{Met}
use Rattle.ibft_compare.specs.Points.{Point}
use Rattle.ibft_compare.specs.Walk.{count_in, point_in, walked}
use Rattle.ibft_compare.proofs.WalkLaws.{walked_next, walked-few, points-gather}
use Rattle.ibft_compare.proofs.walk.Tables.meet_pair.Goals as goal

pub loop-n-init : goal.loop-n-init
unfolding gather walked
loop-n-init c = (refl, omega arith)

pub loop-n-preserved : goal.loop-n-preserved
loop-n-preserved c =
    let a = c.args in
    let l = c.loop-n in
    let left = a.self.now.left.bytes.now in
    let right = a.self.now.right.bytes.now in
    let point_at : ℕ → List Point = λ (n : ℕ). point_in a.aspect a.pair n ∷ [] in
    let few = walked-few left right l.met (point_at l.n) in
    let step = c.meet_point-met.ensures in (
      walked_next left right point_at 0 l.n l.n a.met l.met _ l.invariant.0 (omega arith) step,
      omega (arith, few, ap (λ (m : Met). m.count) step, l.invariant.1),
    )

pub returns : goal.returns
returns c =
    let a = c.args in
    let l = c.loop-n in
    let left = a.self.now.left.bytes.now in
    let right = a.self.now.right.bytes.now in
    let point_at : ℕ → List Point = λ (n : ℕ). point_in a.aspect a.pair n ∷ [] in
    let all : l.n ≡ count_in a.aspect a.pair = omega (arith, c.point_count-n-end.ensures.0, c.loop-n-test.false) in (
      l.invariant.0
          ∙ ap (λ (n : ℕ). walked left right a.met (gather point_at 0 n)) all
          ∙ ap (walked left right a.met) (sym (points-gather a.pair c.requires.0.group a.aspect)),
      omega (arith, l.invariant.1, c.point_count-n-end.ensures.1),
    )
