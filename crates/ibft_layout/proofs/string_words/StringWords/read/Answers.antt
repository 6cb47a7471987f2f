-- `StringWords::read` meets its contract: each word is what its reads ensure, byte by byte where all four are there. Assumes
-- nothing.
use mathlib.Core.Path.{◌≡◌, ap}
use Prim.Native.Nat.{◌+◌}
use native.Mathlib.Omega.{arith}
use Rattle.octets.specs.Octets.{byte}
use Rattle.ibft_layout.proofs.string_words.StringWords.read.Goals as goal

pub returns-then-at-part : goal.returns-then-at-part
returns-then-at-part c =
    let a = c.args in
    let last : byte a.part.now (a.at + 3) ≡ byte a.part.now (a.at + 2 + 1) = ap (byte a.part.now) (omega arith) in
    rw (c.byte_at.ensures, c.byte_at-then-at-part.ensures, c.byte_at-then-at-part-2.ensures, c.byte_at-then-at-part-3.ensures, last)

pub returns : goal.returns
returns c = rw (c.u16_at.ensures, c.u16_at-2.ensures)
