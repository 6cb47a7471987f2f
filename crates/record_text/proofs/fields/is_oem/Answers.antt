-- `is_oem` meets its contract, notation by notation. Assumes nothing.
use mathlib.Core.Path.{◌≡◌, refl, sym, ap}
use mathlib.Core.Bool.{false}
use Rattle.record_text.specs.Fields.{is_oem}
use Rattle.record_text.specs.declared.fields.Notation.{Notation}
use Rattle.record_text.specs.declared.fields.Notation.TheVariants.{Oem, Mode, Flags, Number, Port, Address, Mac, Pci, Chap, Text}
use Rattle.record_text.proofs.fields.is_oem.Goals as goal

other : (n : Notation) → (n ≡ Oem → ⊥) → false ≡ is_oem n
unfolding is_oem
other Oem h0 = absurd (h0 refl)
other Mode _ = refl
other Flags _ = refl
other Number _ = refl
other Port _ = refl
other Address _ = refl
other Mac _ = refl
other Pci _ = refl
other Chap _ = refl
other Text _ = refl

pub returns-in-Oem : goal.returns-in-Oem
unfolding is_oem
returns-in-Oem c = ap is_oem (sym c.in-Oem.is)

pub returns-in_default : goal.returns-in_default
returns-in_default c = other _ c.in_default.not-Oem
