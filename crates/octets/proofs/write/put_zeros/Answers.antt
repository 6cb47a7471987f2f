-- `put_zeros` meets its contract: zeros stand in the place of as many bytes as fit from `at` on. Assumes nothing.
use Rattle.std.proofs.Common.{◌≡◌, ◌+◌, ◌-◌, take, drop, length, replicate, arith, ◌∙◌, ap, length-take, length-drop}
use Rattle.octets.specs.Octets.{zeros}
use Rattle.octets.proofs.WriteLaws.{write-fitting, write-none, length-zeros, replicate-zeros}
use Rattle.octets.proofs.write.put_zeros.Goals as goal

pub returns-then-fit-gt0 : goal.returns-then-fit-gt0
returns-then-fit-gt0 c =
    let a = c.args in
    let t = a.t.now in
    let fit = c.fitting-fit.result in
    let many = length-zeros a.n in
    let size : a.at + fit - a.at ≡ fit = omega arith in
    let lent : length (take (a.at + fit - a.at) (drop a.at t)) ≡ fit = simp (length-take, length-drop) (omega arith) in
    let filled = c.fill.ensures.after (λ y same. same) in
    let put = filled ∙ ap (λ k. replicate k 0) lent ∙ replicate-zeros a.n fit (omega arith) in
    rw (put, size) (write-fitting t a.at (zeros a.n) fit (omega arith) c.if-fit-gt0.true)

pub returns-else-fit-gt0 : goal.returns-else-fit-gt0
returns-else-fit-gt0 c =
    let many = length-zeros c.args.n in
    write-none c.args.t.now c.args.at (zeros c.args.n) c.fitting-fit.result (omega arith) (omega arith)
