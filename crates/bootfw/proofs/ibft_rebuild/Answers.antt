-- `ibft_rebuild` meets its contract: a rebuild's place fits its bits, so the three parts can be told from the packed number.
-- Assumes nothing.
use mathlib.Core.Path.{◌≡◌, ap}
use mathlib.Core.List.{List}
use Prim.Native.Nat.{ℕ, ◌<◌, ◌^◌}
use native.Mathlib.Omega.{arith}
use lib.ListN.{length}
use Rattle.octets.specs.Octets.{byte}
use Rattle.ibft_build_rules.specs.Rebuild.{rebuild_answer}
use Rattle.ibft_build_rules.specs.declared.Built.{Built}
use Rattle.ibft_build_rules.proofs.RebuildLaws.{rebuild-placed}
use Rattle.bootfw.specs.Pack.{upper_of}
use Rattle.bootfw.proofs.ibft_rebuild.Goals as goal

-- the place of what a rebuild answers fits its bits
placed : (t : List ℕ) (n : ℕ) (built : Built) → ((i : ℕ) → byte t i < 256) → built ≡ rebuild_answer t n → built.refusal.place < 2 ^ 24
placed t n built bytes is = omega (arith, rebuild-placed t n bytes, ap (λ (b : Built). b.refusal.place) is)

pub packed-requires : goal.packed-requires
packed-requires c =
    let bytes = c.shared_slice_known-1.given in
    omega (arith, placed _ _ _ (λ i. omega (arith, bytes i)) c.rebuild-rebuilt.ensures.answer-is)

pub returns : goal.returns
returns c =
    let a = c.args in
    let rebuilt = c.rebuild-rebuilt in
    let is : rebuilt.result ≡ rebuild_answer a.table.now (length a.room.now) = rebuilt.ensures.answer-is in
    let upper : c.upper_of-upper.result ≡ upper_of rebuilt.result.refusal rebuilt.result.length = c.upper_of-upper.ensures in
    record { answer = rw (← is, ← upper) c.packed.ensures; promise = rw (← is) rebuilt.ensures }
