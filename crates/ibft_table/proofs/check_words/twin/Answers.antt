-- `twin` meets its contract: by the kind, then by the Index. Assumes nothing.
use mathlib.Core.Path.{sym, ap₂, ◌∙◌}
use lib.Dec.{eqb}
use Rattle.ibft_table.specs.Check.{twin}
use Rattle.ibft_table.proofs.check_words.twin.Goals as goal

pub returns-then-not-alike : goal.returns-then-not-alike
unfolding twin
returns-then-not-alike c = simp (sym c.alike.ensures ∙ c.if-not-alike.true)

pub returns : goal.returns
unfolding twin
returns c =
    simp (sym c.alike.ensures ∙ c.if-not-alike.false) (ap₂ eqb c.index_at.ensures c.index_at-2.ensures)
