-- `put_bytes_text` meets its contract: the text of the first i bytes is put. Assumes nothing.
use Rattle.std.proofs.Common.{◌≡◌, ℕ, refl, ap, ◌∙◌, length, arith}
use Rattle.octets.specs.Counting.{gather}
use Rattle.text.proofs.PutLaws.{puts-length, puts-append, puts-same}
use Rattle.notation.specs.Escape.{text_at}
use Rattle.notation.proofs.EscapeLaws.{puts-stay, text-more}
use Rattle.notation.proofs.escape.put_bytes_text.Goals as goal

pub loop-i-init : goal.loop-i-init
unfolding gather
loop-i-init c = (refl, puts-stay c.put_text-place.ensures)

pub loop-i-preserved : goal.loop-i-preserved
loop-i-preserved c =
    let l = c.loop-i in
    let put = c.put_byte_text-place.ensures in
    (puts-length put ∙ l.invariant.0, puts-same (puts-append l.invariant.1 put) (text-more c.args.s.now l.i _ refl))

pub returns : goal.returns
returns c =
    let l = c.loop-i in
    let s = c.args.s.now in
    let all : l.i ≡ length s = omega arith in
    puts-same (puts-append c.put_text-place.ensures l.invariant.1) (ap (λ (n : ℕ). gather (text_at s) 0 n) all)
