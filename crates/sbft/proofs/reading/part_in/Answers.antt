-- `part_in` meets its contract: a part as long as the table is all that is left from its start on. Assumes nothing.
use mathlib.Core.Path.{◌≡◌, ap, ◌∙◌}
use Prim.Native.Nat.{ℕ}
use native.Mathlib.Omega.{arith}
use lib.ListN.{length, drop}
use Rattle.octets.specs.Octets.{part}
use Rattle.octets.proofs.ReadLaws.{part-rest}
use Rattle.table_header.specs.Verdict.{shown}
use Rattle.sbft.specs.Layout.{offset_of}
use Rattle.sbft.proofs.reading.part_in.Goals as goal

pub returns : goal.returns
returns c =
    let a = c.args in
    let t = a.t.now in
    let offset = c.offset_of in
    let lent : c.part.result.now ≡ part t offset.result (length t) = c.part.ensures.bytes in
    let bytes : c.part.result.now ≡ drop (offset_of t a.k) t =
    lent ∙ part-rest t offset.result (length t) (omega arith) ∙ ap (λ (n : ℕ). drop n t) offset.ensures in
    c.shown_of.ensures.result_value ∙ ap (shown a.verdict) bytes
