-- `mac_value` meets its contract: the bytes that were read, or none. Assumes nothing.
use Rattle.std.proofs.Common.{sym, ap, ◌∙◌, Some, arith}
use Rattle.notation.specs.Value.{value_read}
use Rattle.notation.proofs.ValueLaws.{sixteen-bytes}
use Rattle.record_text.proofs.value.mac_value.Goals as goal

pub returns-in_err-bytes : goal.returns-in_err-bytes
unfolding value_read
returns-in_err-bytes c = c.from_residual.ensures ∙ ap value_read (sym c.in_err-bytes.was ∙ c.read_mac.ensures)

pub returns : goal.returns
unfolding value_read
returns c = ap Some (c.array_at.ensures ∙ sixteen-bytes _ (omega arith)) ∙ ap value_read (sym c.in_ok-bytes.was ∙ c.read_mac.ensures)
