-- `put_colon_pairs` meets its contract: the pairs before k are put, one behind another. Assumes nothing.
use Rattle.std.proofs.Common.{◌≡◌, refl, ◌-◌, arith}
use Rattle.octets.specs.Counting.{gather}
use Rattle.text.proofs.PutLaws.{puts-nothing, puts-length}
use Rattle.notation.proofs.PairsLaws.{puts-pair}
use Rattle.notation.proofs.pairs.put_colon_pairs.Goals as goal

pub loop-k-init : goal.loop-k-init
unfolding gather
loop-k-init c = (omega arith, refl, puts-nothing _ _ (omega arith))

pub loop-k-preserved : goal.loop-k-preserved
loop-k-preserved c =
    let l = c.loop-k in
    let more = puts-pair c.args.bytes.now l.k (omega arith) l.invariant.2 c.put_colon_pair-end.ensures c.byte_at.ensures in
    (omega arith, puts-length more, more)

pub returns : goal.returns
returns c =
    let l = c.loop-k in
    let all : l.k - 1 ≡ c.args.n - 1 = omega arith in
    rw all at l.invariant.2
