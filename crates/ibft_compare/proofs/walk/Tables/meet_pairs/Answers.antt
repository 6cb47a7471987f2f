-- `Tables::meet_pairs` meets its contract: the named slots, the extra NICs, the extra targets, one behind another. Assumes
-- nothing.
use mathlib.Core.Path.{sym, ap, ◌∙◌}
use native.Mathlib.Omega.{arith}
use Rattle.ibft_layout.specs.Layout.{extra_nics, extra_targets}
use Rattle.ibft_compare.specs.Pairs.{extra_pairs}
use Rattle.ibft_compare.specs.Points.{each}
use Rattle.ibft_compare.specs.Walk.{named_pairs, points_in, walked}
use Rattle.ibft_compare.proofs.WalkLaws.{walked-three, each-pairs}
use Rattle.ibft_compare.proofs.walk.Tables.meet_pairs.Goals as goal

pub returns : goal.returns
returns c =
    let a = c.args in
    let f = points_in a.aspect in
    let named = c.meet_named-named.ensures in
    let extra-nics = c.meet_extras-nics.ensures in
    let extra-targets = c.meet_extras.ensures in (
      walked-three a.self.now.left.bytes.now a.self.now.right.bytes.now (each f named_pairs)
          (each f (extra_pairs a.self.now.left.indices.now a.self.now.right.indices.now extra_nics))
          (each f (extra_pairs a.self.now.left.indices.now a.self.now.right.indices.now extra_targets)) a.met _ _ _ named.0 extra-nics.0
          extra-targets.0
          ∙ ap (walked a.self.now.left.bytes.now a.self.now.right.bytes.now a.met) (sym (each-pairs f a.self.now.left.indices.now a.self.now.right.indices.now)),
      omega (arith, named.1, extra-nics.1, extra-targets.1),
    )
