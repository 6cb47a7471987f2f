-- `has_bad_mark` meets its contract: no mark below i is bad, and the i-th is or i is their number. Assumes nothing.
use Rattle.std.proofs.Common.{sym, ap, ◌∙◌, ltb, arith, lt-ltb}
use Rattle.octets.proofs.CountingLaws.{any-yes, any-no}
use Rattle.ibft_build_rules.specs.Refusals.{bad_mark}
use Rattle.ibft_record.proofs.refusals_range.has_bad_mark.Goals as goal

pub returns-then-byte_at-gt1 : goal.returns-then-byte_at-gt1
unfolding bad_mark
returns-then-byte_at-gt1 c =
    sym (any-yes _ _ c.loop-i.i c.loop-i-test.true (sym (ap (ltb 1) c.byte_at.ensures) ∙ lt-ltb _ _ c.if-byte_at-gt1.true))

pub returns : goal.returns
unfolding bad_mark
returns c = sym (any-no _ _ (λ j h. c.loop-i.invariant j (omega arith)))
