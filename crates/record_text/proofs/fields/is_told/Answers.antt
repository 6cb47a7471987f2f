-- `is_told` meets its contract: the room holds all digits. Assumes nothing.
use mathlib.Core.Path.{◌∙◌, ap}
use mathlib.Core.List.{List}
use Prim.Native.Nat.{ℕ}
use native.Mathlib.Omega.{arith}
use Rattle.octets.specs.Octets.{part}
use Rattle.text.specs.Split.{same}
use Rattle.text.proofs.PutLaws.{puts-front}
use Rattle.record_text.proofs.FieldsLaws.{digits-short}
use Rattle.record_text.proofs.fields.is_told.Goals as goal

pub returns : goal.returns
unfolding part
returns c =
    let a = c.args in
    let whole = puts-front c.put_decimal-end.ensures (omega (arith, digits-short a.n c.requires)) in
    c.same.ensures ∙ ap (λ (l : List ℕ). same l a.text.now) (c.part.ensures.bytes ∙ whole)
