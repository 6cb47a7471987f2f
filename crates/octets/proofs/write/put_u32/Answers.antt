-- `put_u32` meets its contract: the writes of its two halves are one. Assumes nothing.
use Rattle.std.proofs.Common.{ℕ, ◌/◌, List, ◌++◌, sym, refl, ap, arith}
use Rattle.octets.specs.Octets.{le16, le32}
use Rattle.octets.proofs.WriteLaws.{write-halves, write-past, le16-low}
use Rattle.octets.proofs.write.put_u32.Goals as goal

pub returns-then-at-t : goal.returns-then-at-t
returns-then-at-t c =
    let v = c.args.v in
    write-halves _ _ _ _ _ _ _ _ c.put_u16.ensures c.put_u16-then-at-t.ensures refl (ap (λ (l : List ℕ). l ++ le16 (v / 65536)) (le16-low v))

pub returns-else-at-t : goal.returns-else-at-t
returns-else-at-t c =
    let a = c.args in
    sym (write-past a.t.now a.at (le32 a.v) (omega arith))
