-- `Tables::meet_named` meets its contract: at each turn the walk has gone along the slots passed. Assumes nothing.
use Rattle.std.proofs.Common.{◌≡◌, refl, sym, ap, ◌∙◌, ℕ, List, arith}
use Rattle.octets.specs.Counting.{gather}
use Rattle.ibft_layout.specs.Layout.{named_count}
use Rattle.ibft_compare.specs.declared.pair.Pair.{Pair}
use Rattle.ibft_compare.specs.Pairs.{named_pair}
use Rattle.ibft_compare.specs.Points.{Point}
use Rattle.ibft_compare.specs.Walk.{points_in, walked}
use Rattle.ibft_compare.proofs.WalkLaws.{walked_next, each-tabulate}
use Rattle.ibft_compare.proofs.PairLaws.{paired-named}
use Rattle.ibft_compare.proofs.walk.Tables.meet_named.Goals as goal

pub loop-k-init : goal.loop-k-init
unfolding gather walked
loop-k-init c = (refl, omega arith)

pub meet_pair-met-requires : goal.meet_pair-met-requires
meet_pair-met-requires c =
    let l = c.loop-k in
    (rw c.named.ensures (paired-named l.k (omega arith)), omega (arith, c.requires, l.invariant.1))

pub loop-k-preserved : goal.loop-k-preserved
loop-k-preserved c =
    let a = c.args in
    let l = c.loop-k in
    let left = a.self.now.left.bytes.now in
    let right = a.self.now.right.bytes.now in
    let slot_points : ℕ → List Point = λ (k : ℕ). points_in a.aspect (named_pair k) in
    let step = c.meet_pair-met.ensures.0 ∙ ap (λ (p : Pair). walked left right l.met (points_in a.aspect p)) c.named.ensures in (
      walked_next left right slot_points 0 l.k l.k a.met l.met _ l.invariant.0 (omega arith) step,
      omega (arith, c.meet_pair-met.ensures.1, l.invariant.1),
    )

pub returns : goal.returns
returns c =
    let a = c.args in
    let l = c.loop-k in
    let left = a.self.now.left.bytes.now in
    let right = a.self.now.right.bytes.now in
    let slot_points : ℕ → List Point = λ (k : ℕ). points_in a.aspect (named_pair k) in
    let all : l.k ≡ named_count = omega arith in (
      l.invariant.0
          ∙ ap (λ (k : ℕ). walked left right a.met (gather slot_points 0 k)) all
          ∙ ap (walked left right a.met) (sym (each-tabulate (points_in a.aspect) named_pair 0 named_count)),
      omega (arith, l.invariant.1, all),
    )
