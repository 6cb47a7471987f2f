-- `array_at` meets its contract: the elements passed are those bytes. Assumes nothing.
use Rattle.std.proofs.Common.{arith}
use Rattle.octets.proofs.ReadLaws.{bytes-elements}
use Rattle.octets.proofs.read.array_at.Goals as goal

pub returns : goal.returns
returns g c =
    let l = c.loop-k in
    bytes-elements l.bytes c.args.s.now c.args.i g.row.N l.invariant.0 (λ j h. l.invariant.1 j (omega arith))
