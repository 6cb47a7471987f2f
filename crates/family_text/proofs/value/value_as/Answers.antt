-- `value_as` meets its contract, notation by notation. Assumes nothing.
use Rattle.std.proofs.Common.{◌≡◌, ℕ, List, true, sym, ap, ◌∙◌}
use Rattle.std.specs.Prelude.{Option}
use Rattle.notation.specs.Value.{value_read}
use Rattle.notation.proofs.ValueLaws.{sixteen-whole, number-answer, pairs-answer, string-answer}
use Rattle.notation.proofs.WidthLaws.{address-width}
use Rattle.family_text.specs.Value.{fits, value_bytes}
use Rattle.family_text.specs.declared.fields.Notation.{Notation}
use Rattle.family_text.specs.declared.fields.Notation.TheVariants.{Number}
use Rattle.family_text.proofs.ValueLaws.{oem-width, pairs-fit, number-same}
use Rattle.family_text.proofs.value.value_as.Goals as goal

-- the value of notation m, where n is m
row : (m n : Notation) (width : ℕ) (text : List ℕ) (r : Option (List ℕ)) → r ≡ value_read (value_bytes m width text) → n ≡ m
    → r ≡ value_read (value_bytes n width text)
row m n width text r e h = e ∙ ap (λ (x : Notation). value_read (value_bytes x width text)) (sym h)

-- a number's width
number-fit : (n : Notation) (width : ℕ) → n ≡ Number → fits n width ≡ true → fits Number width ≡ true
number-fit n width e h = sym (ap (λ (x : Notation). fits x width) e) ∙ h

pub returns-in-Oem : goal.returns-in-Oem
unfolding value_bytes
returns-in-Oem c =
    row _ _ _ _ _
    (c.string_value.ensures ∙ string-answer c.args.width c.args.text.now (oem-width _ _ c.in-Oem.is c.requires))
    c.in-Oem.is

pub returns-in-Number : goal.returns-in-Number
unfolding value_bytes
returns-in-Number c =
    let same = number-same c.args.width c.args.text.now (number-fit _ _ c.in-Number.is c.requires) in
    row _ _ _ _ _
    (c.number_value.ensures ∙ number-answer c.args.width c.args.text.now same.0 ∙ ap value_read same.1)
    c.in-Number.is

pub returns-in-Pairs : goal.returns-in-Pairs
unfolding value_bytes
returns-in-Pairs c =
    row _ _ _ _ _
    (c.pairs_value.ensures ∙ pairs-answer c.args.width c.args.text.now (pairs-fit _ _ c.in-Pairs.is c.requires))
    c.in-Pairs.is

pub returns-in-Address : goal.returns-in-Address
unfolding value_bytes
returns-in-Address c =
    row _ _ c.args.width _ _ (c.read_address.ensures ∙ sixteen-whole _ (address-width c.args.text.now)) c.in-Address.is
