-- `may_share` meets its contract: it asks whether the entry's string is a secret. Assumes nothing.
use mathlib.Core.Path.{ap}
use mathlib.Core.Bool.{not}
use Rattle.ibft_layout.specs.Layout.{may_share}
use Rattle.ibft_layout.specs.declared.shape.StringShape.{StringShape}
use Rattle.ibft_layout.proofs.layout.may_share.Goals as goal

pub returns : goal.returns
unfolding may_share
returns c = ap (λ (s : StringShape). not s.secret) c.string_of.ensures
