-- `read_around` meets its contract: the bytes behind `::` written up to the sixteenth byte, over the zeros behind those before
-- it.
-- Assumes nothing.
use Rattle.std.proofs.Common.{sym, ap, ◌∙◌, arith}
use Rattle.std.specs.Prelude.{Some}
use Rattle.octets.specs.Octets.{zeros}
use Rattle.notation.proofs.GatherLaws.{gathers-within, with_gap-sides, filled-written, filled-no}
use Rattle.notation.proofs.address.read_around.Goals as goal

pub overflow_add-n : goal.overflow_add-n
unfolding zeros
overflow_add-n c =
    omega (arith, gathers-within c.gather_side-n.ensures, gathers-within c.gather_side-m.ensures)

pub returns-then-n-m-gt14 : goal.returns-then-n-m-gt14
unfolding zeros
returns-then-n-m-gt14 c =
    let a = c.args in
    sym (with_gap-sides a.s.now a.gap _ _ c.part.ensures.bytes c.part-2.ensures.bytes
    ∙ filled-no _ _ c.gather_side-n.ensures c.gather_side-m.ensures (omega arith))

pub returns : goal.returns
unfolding zeros
returns c =
    let a = c.args in
    ap Some c.array_at.ensures
    ∙ sym (with_gap-sides a.s.now a.gap _ _ c.part.ensures.bytes c.part-2.ensures.bytes
    ∙ filled-written _ _ c.gather_side-n.ensures c.gather_side-m.ensures (omega arith) _ _
    c.put_bytes.ensures c.part-3.ensures.bytes)
