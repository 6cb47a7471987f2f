-- `put_same` meets its contract: what the image has of the stretch, and zeros right behind it. Assumes nothing.
use mathlib.Core.Path.{ap}
use native.Mathlib.Omega.{arith}
use lib.ListN.{length}
use Rattle.octets.proofs.ReadLaws.{part-most}
use Rattle.sbft.proofs.PutLaws.{same-put}
use Rattle.sbft.proofs.write.put_same.Goals as goal

pub overflow_sub-count : goal.overflow_sub-count
overflow_sub-count c =
    let a = c.args in
    omega (arith, ap length c.part-lent.ensures.bytes, part-most a.image.now a.at a.count)

pub returns : goal.returns
returns c =
    same-put _ _ _ _ _ _ _
    c.part-lent.ensures.bytes
    c.put_bytes.ensures
    c.put_zeros.ensures
