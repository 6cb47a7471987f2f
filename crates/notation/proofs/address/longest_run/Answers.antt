-- `longest_run` meets its contract: each run that is longer than the best before it takes its place. Assumes nothing.
use Rattle.std.proofs.Common.{◌≡◌, ◌+◌, ◌-◌, ◌∙◌, sym, arith}
use Rattle.notation.proofs.AddressPutLaws.{longest-start, longest-end, longest-old, longest-new}
use Rattle.notation.proofs.address.longest_run.Goals as goal
use Rattle.notation.proofs.address.longest_run.Goals.{then-best-size, else-best-size}

pub loop-j-init : goal.loop-j-init
loop-j-init c =
    let a = c.args in
    let place : a.k + 0 ≡ a.k = omega arith in
    let count : a.n - 0 ≡ a.n = omega arith in
    rw (place, count) (longest-start a.a.now a.k a.n)

pub loop-j-preserved : goal.loop-j-preserved
loop-j-preserved c =
    let a = c.args in
    let l = c.loop-j in
    elim c.if-best-size.branch [
      | then-best-size w ↦
          rw w.best-is (longest-new a.a.now l.best a.k a.n l.j c.zero_run-size.result (omega arith) c.zero_run-size.ensures l.invariant (omega (arith, w.if-best-size.true)))
      | else-best-size w ↦
          rw w.best-is (longest-old a.a.now l.best a.k a.n l.j c.zero_run-size.result (omega arith) c.zero_run-size.ensures l.invariant (omega (arith, w.if-best-size.false)))
    ]

pub returns : goal.returns
returns c =
    let a = c.args in
    let l = c.loop-j in
    sym (longest-end a.a.now l.best (a.k + l.j) (a.n - l.j) (omega arith)) ∙ l.invariant
