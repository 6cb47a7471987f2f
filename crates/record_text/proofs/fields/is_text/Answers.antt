-- `is_text` meets its contract, notation by notation. Assumes nothing.
use mathlib.Core.Path.{◌≡◌, refl, sym, ap}
use mathlib.Core.Bool.{false}
use Rattle.record_text.specs.Fields.{is_text}
use Rattle.record_text.specs.declared.fields.Notation.{Notation}
use Rattle.record_text.specs.declared.fields.Notation.TheVariants.{Oem, Mode, Flags, Number, Port, Address, Mac, Pci, Chap, Text}
use Rattle.record_text.proofs.fields.is_text.Goals as goal

other : (n : Notation) → (n ≡ Text → ⊥) → false ≡ is_text n
unfolding is_text
other Oem _ = refl
other Mode _ = refl
other Flags _ = refl
other Number _ = refl
other Port _ = refl
other Address _ = refl
other Mac _ = refl
other Pci _ = refl
other Chap _ = refl
other Text h0 = absurd (h0 refl)

pub returns-in-Text : goal.returns-in-Text
unfolding is_text
returns-in-Text c = ap is_text (sym c.in-Text.is)

pub returns-in_default : goal.returns-in_default
returns-in_default c = other _ c.in_default.not-Text
