-- `put_value` meets its contract, notation by notation. Assumes nothing.
use mathlib.Core.Path.{◌≡◌, refl, sym, ap, ◌∙◌}
use mathlib.Core.List.{List}
use Prim.Native.Nat.{ℕ}
use Rattle.text.specs.Put.{Puts}
use Rattle.text.proofs.PutLaws.{puts-same}
use Rattle.notation.specs.Number.{digits}
use Rattle.family_text.specs.Value.{value_text}
use Rattle.family_text.specs.declared.fields.Notation.{Notation}
use Rattle.family_text.specs.declared.fields.Notation.TheVariants.{Oem, Number, Pairs, Address}
use Rattle.family_text.proofs.value_text.put_value.Goals as goal

-- the text of a value of notation m, where n is m
row : {a b : List ℕ} {at r : ℕ} {text : List ℕ} (m n : Notation) (width : ℕ) (bytes : List ℕ) → Puts a b at r text → text ≡ value_text m width bytes → n ≡ m
    → Puts a b at r (value_text n width bytes)
row m n width bytes p e h = puts-same p (e ∙ ap (λ (x : Notation). value_text x width bytes) (sym h))

pub returns-in-Oem : goal.returns-in-Oem
unfolding value_text
returns-in-Oem c =
    row Oem _ c.args.width c.args.bytes.now c.put_oem.ensures refl c.in-Oem.is

pub returns-in-Number : goal.returns-in-Number
unfolding value_text
returns-in-Number c =
    row Number _ c.args.width c.args.bytes.now c.put_decimal.ensures
    (ap (digits 10) c.u16_at.ensures) c.in-Number.is

pub returns-in-Pairs : goal.returns-in-Pairs
unfolding value_text
returns-in-Pairs c =
    row Pairs _ c.args.width c.args.bytes.now c.put_pairs.ensures refl c.in-Pairs.is

pub returns-in-Address : goal.returns-in-Address
unfolding value_text
returns-in-Address c =
    row Address _ c.args.width c.args.bytes.now c.put_address.ensures refl c.in-Address.is
