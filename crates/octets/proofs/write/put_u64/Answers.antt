-- `put_u64` meets its contract: the writes of its two halves are one. Assumes nothing.
use Rattle.std.proofs.Common.{ℕ, ◌/◌, List, ◌++◌, sym, refl, ap, arith}
use Rattle.octets.specs.Octets.{le32, le64}
use Rattle.octets.proofs.WriteLaws.{write-halves, write-past, le32-low}
use Rattle.octets.proofs.write.put_u64.Goals as goal

pub returns-then-at-t : goal.returns-then-at-t
returns-then-at-t c =
    let v = c.args.v in
    write-halves _ _ _ _ _ _ _ _ c.put_u32.ensures c.put_u32-then-at-t.ensures refl
    (ap (λ (l : List ℕ). l ++ le32 (v / 4294967296)) (le32-low v))

pub returns-else-at-t : goal.returns-else-at-t
returns-else-at-t c =
    let a = c.args in
    sym (write-past a.t.now a.at (le64 a.v) (omega arith))
