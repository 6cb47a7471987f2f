-- `wanted_size` meets its contract: the entry is missing, or its length decides. Assumes nothing.
use mathlib.Core.Path.{sym, ◌∙◌}
use Rattle.ibft_build.proofs.EntryLaws.{wanted-on, wanted-off}
use Rattle.ibft_build.proofs.stored.wanted_size.Goals as goal

pub returns-then-entry_given : goal.returns-then-entry_given
returns-then-entry_given c = wanted-on _ _ (sym c.entry_given.ensures ∙ c.if-entry_given.true) _ c.entry_length.ensures

pub returns : goal.returns
returns c = wanted-off _ _ (sym c.entry_given.ensures ∙ c.if-entry_given.false)
