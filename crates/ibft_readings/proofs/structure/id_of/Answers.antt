-- `id_of` meets its contract. Assumes nothing.
use mathlib.Core.Path.{sym, ap}
use native.Mathlib.Omega.{arith}
use Rattle.ibft_layout.specs.Layout.{Kind, kind_of}
use Rattle.ibft_layout.proofs.LayoutLaws.{kind-past}
use Rattle.ibft_readings.proofs.structure.id_of.Goals as goal

pub returns : goal.returns
unfolding kind_of
returns c = sym (ap (λ (k : Kind). k.id) (kind-past c.args.k (omega arith)))
