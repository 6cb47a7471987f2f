-- `has_zero` meets its contract: what was found before a byte and the bytes from there on decide. Assumes nothing.
use Rattle.std.proofs.Common.{Bool, ◌||◌, sym, ap, ◌∙◌}
use mathlib.Core.Bool.{or_assoc, or-false}
use Rattle.ibft_record.proofs.RefusalLaws.{has-zero-step, has-zero-end}
use Rattle.ibft_record.proofs.refusals_strings.has_zero.Goals as goal

pub loop-byte-preserved : goal.loop-byte-preserved
loop-byte-preserved c =
    let l = c.loop-byte in
    or_assoc l.found _ _ ∙ ap (λ (b : Bool). l.found || b) (sym (has-zero-step _ l.byte-index c.loop-byte-test.true)) ∙ l.invariant

pub returns : goal.returns
returns c =
    let l = c.loop-byte in
    sym (or-false l.found) ∙ ap (λ (b : Bool). l.found || b) (sym (has-zero-end _ l.byte-index c.loop-byte-test.false)) ∙ l.invariant
