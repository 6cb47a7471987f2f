-- `Source::put_images` meets its contract: the images of the slots passed are written. Assumes nothing.
use mathlib.Core.Path.{refl}
use native.Mathlib.Omega.{arith}
use Rattle.octets.proofs.WriteLaws.{length-written}
use Rattle.ibft_build_rules.specs.Rebuild.{image_in}
use Rattle.ibft_rebuild.proofs.RangeWriteLaws.{wrote_none, wrote-next, wrote-done, image-most}
use Rattle.ibft_rebuild.proofs.range.Source.put_images.Goals as goal

pub loop-k-init : goal.loop-k-init
loop-k-init c = record { within = omega arith; same_length = refl; wrote = wrote_none _ _ _ _ }

pub loop-k-preserved : goal.loop-k-preserved
loop-k-preserved c =
    let l = c.loop-k in
    let a = c.args in
    let put = c.put_image-end.ensures in
    let next = wrote-next _ _ (image_in a.self.now.starts.now a.self.now.table.now) 0 l.k l.k _ _ _ _ l.invariant.wrote (omega arith) put in
    record {
      within = omega (arith, put.ends, image-most a.self.now.starts.now a.self.now.table.now l.k (omega arith));
      same_length = length-written _ _ _ _ next.bytes;
      wrote = next;
    }

pub returns : goal.returns
returns c =
    let l = c.loop-k in
    wrote-done _ _ _ _ l.k _ _ _ l.invariant.wrote (omega arith)
