-- `Tables::meet_header` meets its contract: three points, one after another. Assumes nothing.
use mathlib.Core.Path.{ap₂}
use native.Mathlib.Omega.{arith}
use Rattle.octets.specs.Octets.{differs}
use Rattle.ibft_compare.proofs.PointLaws.{header-met}
use Rattle.ibft_compare.proofs.walk.Tables.meet_header.Goals as goal

pub returns : goal.returns
returns c =
    let a = c.args in (
      header-met a.self.now.left.bytes.now a.self.now.right.bytes.now a.met _ _ _ _ _ _
          c.bytes_differ.ensures
          c.then-met.ensures.0
          c.bytes_differ-2.ensures
          c.then-met-2.ensures.0
          (ap₂ differs c.byte_at.ensures c.byte_at-2.ensures)
          c.then.ensures.0,
      omega (arith, c.requires, c.then-met.ensures.1, c.then-met-2.ensures.1, c.then.ensures.1),
    )
