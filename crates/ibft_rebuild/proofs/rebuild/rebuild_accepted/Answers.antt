-- `rebuild_accepted` meets its contract: the range has space on the stack, and its build is the rebuild. Assumes nothing.
use mathlib.Core.Path.{refl}
use native.Mathlib.Omega.{arith}
use lib.ListN.{length-take}
use Rattle.octets.proofs.WriteLaws.{length-written}
use Rattle.ibft_rebuild.proofs.RebuildLaws.{range-most, rebuilt}
use Rattle.ibft_rebuild.proofs.rebuild.rebuild_accepted.Goals as goal

pub slice_bounds-range-end : goal.slice_bounds-range-end
slice_bounds-range-end c =
    omega (arith, range-most _ c.requires _ c.starts_of-starts.ensures, c.put_range-size.ensures.ends)

-- the range lent to the build has as many bytes as were written
pub slice_bounds-build-end : goal.slice_bounds-build-end
slice_bounds-build-end c =
    let wrote = c.put_range-size.ensures in
    simp (length-take) (omega (arith, range-most _ c.requires _ c.starts_of-starts.ensures, wrote.ends, length-written _ _ _ _ wrote.bytes))

pub returns : goal.returns
returns c =
    rebuilt _ c.requires _ _ _ _ _ _ _ c.starts_of-starts.ensures refl c.put_range-size.ensures c.build.ensures
