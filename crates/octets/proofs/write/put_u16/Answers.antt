-- `put_u16` meets its contract: the writes of its two halves are one. Assumes nothing.
use Rattle.std.proofs.Common.{sym, refl, arith}
use Rattle.octets.specs.Octets.{le16}
use Rattle.octets.proofs.WriteLaws.{write-halves, write-past}
use Rattle.octets.proofs.write.put_u16.Goals as goal

pub returns-then-at-t : goal.returns-then-at-t
returns-then-at-t c =
    write-halves _ _ _ _ _ _ _ _ c.put_byte.ensures c.put_byte-then-at-t.ensures refl refl

pub returns-else-at-t : goal.returns-else-at-t
returns-else-at-t c =
    let a = c.args in
    sym (write-past a.t.now a.at (le16 a.v) (omega arith))
