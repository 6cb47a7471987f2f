-- `Tables::meet_points` meets its contract: the header, then the three aspects, one behind another. Assumes nothing.
use mathlib.Core.Path.{ap, ◌∙◌}
use mathlib.Core.List.{[], ◌∷◌}
use Rattle.ibft_compare.specs.declared.walk.Met.{Met}
use Rattle.ibft_compare.specs.Pairs.{pairs_in}
use Rattle.ibft_compare.specs.Points.{oem_id, oem_table_id, control_flags}
use Rattle.ibft_compare.specs.Walk.{unmet, walked}
use Rattle.ibft_compare.proofs.WalkLaws.{points-walked}
use Rattle.ibft_compare.proofs.walk.Tables.meet_points.Goals as goal

pub returns : goal.returns
returns c =
    let a = c.args in
    let left = a.self.now.left in
    let right = a.self.now.right in
    rw (left.indices_are, right.indices_are)
    at (points-walked left.bytes.now right.bytes.now (pairs_in left.indices.now right.indices.now) (unmet a.wanted) _ _ _ _
    (c.meet_header-header.ensures.0
    ∙ ap (λ (m : Met). walked left.bytes.now right.bytes.now m (oem_id ∷ oem_table_id ∷ control_flags ∷ [])) c.none.ensures)
    c.meet_pairs-presence.ensures.0
    c.meet_pairs-fields.ensures.0
    c.meet_pairs.ensures.0)
