-- `put_checksum_byte` meets its contract: the number tells whether there is anything to put. Assumes nothing.
use mathlib.Core.Path.{sym}
use native.Mathlib.Omega.{arith}
use borrow.Author.Tests.{eq-eqb, ne_eqb}
use Rattle.text.proofs.PutLaws.{puts-same}
use Rattle.refusal_text.specs.RefusalText.{checksum_text}
use Rattle.refusal_text.proofs.put_checksum_byte.Goals as goal

pub returns-then-refusal-ne6 : goal.returns-then-refusal-ne6
unfolding checksum_text
returns-then-refusal-ne6 c =
    let number = c.args.refusal.number in
    puts-same c.put_text.ensures (sym (rw (ne_eqb number 6 (λ z. omega arith))))

pub returns : goal.returns
unfolding checksum_text
returns c =
    let number = c.args.refusal.number in
    puts-same c.put_next.ensures (sym (rw (eq-eqb number 6 (omega arith))))
