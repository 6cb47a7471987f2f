-- `kind_of` meets its contract: past the last slot stands slot 0. Assumes nothing.
use Rattle.std.proofs.Common.{ℕ, ap}
use Rattle.ibft_layout.specs.Layout.{kind_of}
use Rattle.ibft_layout.specs.Shapes.{shape_of}
use Rattle.ibft_layout.proofs.LayoutLaws.{last_arm, kind-past}
use Rattle.ibft_layout.proofs.layout.kind_of.Goals as goal

pub returns-in_default : goal.returns-in_default
unfolding kind_of
returns-in_default c = last_arm (λ (k : ℕ). shape_of (kind_of k)) 16 _ c.in_default.in_default-own.rest (λ h. ap shape_of (kind-past _ h))
