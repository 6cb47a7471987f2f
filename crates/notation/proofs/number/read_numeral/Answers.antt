-- `read_numeral` meets its contract: the digits that are left to read, behind those that were read, decide. Assumes nothing.
use Rattle.std.proofs.Common.{sym, ap, ◌∙◌, ◌+◌, arith}
use Rattle.octets.specs.Octets.{byte}
use Rattle.notation.specs.Number.{below, with_digit}
use Rattle.notation.proofs.NumberLaws.{below-yes, below-some, value-go, value-stop, value-end, numeral-value, numeral-empty}
use Rattle.notation.proofs.number.read_numeral.Goals as goal

pub returns-then-s-eq0 : goal.returns-then-s-eq0
unfolding below
returns-then-s-eq0 c = rw (numeral-empty c.args.base c.args.s.now (omega arith))

pub loop-b-init : goal.loop-b-init
loop-b-init c =
    let a = c.args in
    (omega arith, ap (below (a.max + 1)) (sym (numeral-value a.base a.s.now (omega arith))))

pub returns-in_err-n : goal.returns-in_err-n
returns-in_err-n c =
    let a = c.args in
    let l = c.loop-b in
    let stop = sym c.with_digit.ensures ∙ c.in_err-n.was in
    c.from_residual.ensures ∙ sym (value-stop a.base l.n a.s.now l.b-index (omega arith) (a.max + 1) stop) ∙ l.invariant.1

pub loop-b-preserved : goal.loop-b-preserved
loop-b-preserved c =
    let a = c.args in
    let l = c.loop-b in
    let more = c.in_ok-n.n in
    let w = with_digit a.base l.n (byte a.s.now l.b-index) in
    let go = sym c.with_digit.ensures ∙ c.in_ok-n.was in (
      omega (arith, (below-some (a.max + 1) more w go).1),
      ap (below (a.max + 1)) (value-go a.base l.n a.s.now l.b-index (omega arith) (a.max + 1) more go) ∙ l.invariant.1,
    )

pub returns : goal.returns
returns c =
    let a = c.args in
    let l = c.loop-b in
    sym (below-yes (a.max + 1) l.n (omega arith))
    ∙ ap (below (a.max + 1)) (sym (value-end a.base l.n a.s.now l.b-index (omega arith)))
    ∙ l.invariant.1
