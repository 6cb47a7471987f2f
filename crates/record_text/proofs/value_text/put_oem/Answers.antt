-- `put_oem` meets its contract: the string before the first zero. Assumes nothing.
use mathlib.Core.Path.{sym, ap}
use Prim.Native.Nat.{ℕ}
use lib.ListN.{take}
use lib.Seq.{length-take-le}
use Rattle.notation.specs.Escape.{string_text}
use Rattle.text.proofs.PutLaws.{puts-same}
use Rattle.record_text.proofs.value_text.put_oem.Goals as goal

pub slice_bounds-put_string_text-end : goal.slice_bounds-put_string_text-end
slice_bounds-put_string_text-end c = sym (length-take-le _ _ c.index_of-n.ensures.1)

pub returns : goal.returns
returns c =
    let bytes = c.args.bytes.now in
    puts-same c.put_string_text.ensures (ap (λ (n : ℕ). string_text (take n bytes)) c.index_of-n.ensures.0)
