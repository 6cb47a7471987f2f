-- `put_numbers` meets its contract: behind the numbers that are put stands one more, with a separator before it unless it is
-- the first. Assumes nothing.
use Rattle.std.proofs.Common.{◌≡◌, refl, arith}
use Rattle.text.proofs.PutLaws.{puts-same}
use Rattle.notation.proofs.AddressPutLaws.{numbers-none, puts-first, puts-other}
use Rattle.notation.proofs.address.put_numbers.Goals as goal
use Rattle.notation.proofs.address.put_numbers.Goals.{then-i-ne0, else-i-ne0}

pub loop-i-init : goal.loop-i-init
loop-i-init c = puts-same c.put_text-end.ensures (numbers-none c.args.a.now c.args.four c.args.k 0 refl)

pub loop-i-preserved : goal.loop-i-preserved
loop-i-preserved c =
    let a = c.args in
    let l = c.loop-i in
    elim c.if-i-ne0.branch [
      | then-i-ne0 w ↦
          puts-other a.a.now a.four a.k l.i (omega (arith, w.if-i-ne0.true)) l.invariant w.separator.ensures w.put_char-end.ensures
          (rw (w.room-is, w.end-is) at c.put_number-end.ensures)
      | else-i-ne0 w ↦
          puts-first a.a.now a.four a.k l.i (omega (arith, w.if-i-ne0.false)) l.invariant
          (rw (w.room-is, w.end-is) at c.put_number-end.ensures)
    ]

pub returns : goal.returns
returns c =
    let all : c.loop-i.i ≡ c.args.n = omega arith in
    rw all at c.loop-i.invariant
