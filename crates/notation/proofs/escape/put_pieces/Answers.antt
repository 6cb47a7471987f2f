-- `put_pieces` meets its contract: what the text stands for up to i is put. Assumes nothing.
use Rattle.std.proofs.Common.{refl, ◌∙◌, arith}
use Rattle.text.proofs.PutLaws.{puts-length, puts-append}
use Rattle.notation.proofs.EscapeLaws.{puts-stay, along-start, along-more, along-broken, along-end}
use Rattle.notation.proofs.escape.put_pieces.Goals as goal

pub loop-i-init : goal.loop-i-init
loop-i-init c = (omega arith, refl, along-start _ (puts-stay c.put_text-place.ensures))

pub returns-in_default : goal.returns-in_default
returns-in_default c =
    λ s e.
    let l = c.loop-i in
    puts-append c.put_text-place.ensures (along-broken _ l.i l.invariant.2 c.in_default.ensures s e)

pub loop-i-preserved : goal.loop-i-preserved
loop-i-preserved c =
    let l = c.loop-i in
    let p = c.in-Some.ensures in
    let put = c.put_char-place.ensures in (
      omega (arith, p.within),
      puts-length put ∙ l.invariant.1,
      along-more _ l.i l.invariant.2 c.in-Some.piece p put,
    )

pub returns : goal.returns
returns c = λ s e.
    let l = c.loop-i in
    puts-append c.put_text-place.ensures (along-end _ l.i l.invariant.2 (omega arith) s e)
