-- `flags_verdict` meets its contract: the one test. Assumes nothing.
use mathlib.Core.Path.{sym, ◌∙◌}
use borrow.Author.Tests.{ne_eqb}
use Rattle.table_header.specs.Verdict.{first_of}
use Rattle.ibft_table.specs.Check.{reserved_set}
use Rattle.ibft_build_rules.specs.Refusals.{flags_tests}
use Rattle.ibft_record.proofs.refusals_images.flags_verdict.Goals as goal

pub returns-then-byte_at-ne0 : goal.returns-then-byte_at-ne0
unfolding first_of flags_tests reserved_set
returns-then-byte_at-ne0 c = c.refuse.ensures ∙ sym (rw (← c.byte_at.ensures, ne_eqb _ _ c.if-byte_at-ne0.true))

pub returns : goal.returns
unfolding first_of flags_tests reserved_set
returns c = sym (rw (← c.byte_at.ensures, c.if-byte_at-ne0.false))
