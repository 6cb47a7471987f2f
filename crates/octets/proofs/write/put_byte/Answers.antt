-- `put_byte` meets its contract: a store is the write of one byte, and past the end there is none. Assumes nothing.
use Rattle.std.proofs.Common.{[], ◌∷◌, sym, arith}
use Rattle.octets.proofs.WriteLaws.{set-write, write-past}
use Rattle.octets.proofs.write.put_byte.Goals as goal

pub returns-then-at-t : goal.returns-then-at-t
returns-then-at-t c =
    let a = c.args in
    set-write a.t.now a.at a.b

pub returns-else-at-t : goal.returns-else-at-t
returns-else-at-t c =
    let a = c.args in
    sym (write-past a.t.now a.at (a.b ∷ []) (omega arith))
