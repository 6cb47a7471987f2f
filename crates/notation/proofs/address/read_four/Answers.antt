-- `read_four` meets its contract: room of five bytes that ends at the fourth holds exactly four. Assumes nothing.
use Rattle.std.proofs.Common.{refl, sym, ap, ◌∙◌, arith}
use Rattle.std.specs.Prelude.{Some}
use Rattle.octets.specs.Octets.{zeros}
use Rattle.text.specs.Split.{pieces}
use Rattle.notation.specs.Address.{dot, bytes_of, decimal, four_bytes}
use Rattle.notation.proofs.GatherLaws.{exactly-yes, exactly-no}
use Rattle.notation.proofs.address.read_four.Goals as goal

pub returns-then-gather_decimals-ne4 : goal.returns-then-gather_decimals-ne4
unfolding four_bytes zeros
returns-then-gather_decimals-ne4 c =
    sym (exactly-no 4 _ refl (bytes_of decimal decimal (pieces dot c.args.s.now)) c.gather_decimals.ensures (λ e. omega arith))

pub returns : goal.returns
unfolding four_bytes
returns c =
    ap Some c.array_at.ensures
    ∙ sym (exactly-yes 4 _ refl (bytes_of decimal decimal (pieces dot c.args.s.now)) c.gather_decimals.ensures (omega arith))
