-- `ibft_build` meets its contract: a build's place fits its bits, so the three parts can be told from the packed number.
-- Assumes nothing.
use mathlib.Core.Path.{◌≡◌, ap}
use native.Mathlib.Omega.{arith}
use mathlib.Core.List.{List}
use Prim.Native.Nat.{ℕ, ◌≤◌}
use lib.ListN.{length}
use Rattle.ibft_build_rules.specs.Build.{answer_of}
use Rattle.ibft_build_rules.specs.declared.Built.{Built}
use Rattle.ibft_build_rules.proofs.OutcomeLaws.{answer-placed}
use Rattle.bootfw.proofs.ibft_build.Goals as goal

-- the place of what a build answers fits its bits
placed : (r s : List ℕ) (n : ℕ) (built : Built) → built ≡ answer_of r s n → built.refusal.place ≤ 255
placed r s n built is = omega (arith, answer-placed r s n, ap (λ (b : Built). b.refusal.place) is)

pub packed-requires : goal.packed-requires
packed-requires c = omega (arith, placed _ _ _ _ c.build-built.ensures.answer-is)

pub returns : goal.returns
returns c =
    let a = c.args in
    let built = c.build-built in
    let is : built.result ≡ answer_of a.range.now a.strings.now (length a.room.now) = built.ensures.answer-is in
    record { answer = rw (← is) c.packed.ensures; promise = rw (← is) built.ensures }
