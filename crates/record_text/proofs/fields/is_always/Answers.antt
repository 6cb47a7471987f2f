-- `is_always` meets its contract, notation by notation. Assumes nothing.
use mathlib.Core.Path.{◌≡◌, refl, sym, ap}
use mathlib.Core.Bool.{false}
use mathlib.Core.Logic.{inl, inr}
use Rattle.record_text.specs.Fields.{is_always}
use Rattle.record_text.specs.declared.fields.Notation.{Notation}
use Rattle.record_text.specs.declared.fields.Notation.TheVariants.{Oem, Mode, Flags, Number, Port, Address, Mac, Pci, Chap, Text}
use Rattle.record_text.proofs.fields.is_always.Goals as goal

other : (n : Notation) → (n ≡ Mode → ⊥) → (n ≡ Flags → ⊥) → (n ≡ Port → ⊥) → false ≡ is_always n
unfolding is_always
other Oem _ _ _ = refl
other Mode h0 _ _ = absurd (h0 refl)
other Flags _ h1 _ = absurd (h1 refl)
other Number _ _ _ = refl
other Port _ _ h2 = absurd (h2 refl)
other Address _ _ _ = refl
other Mac _ _ _ = refl
other Pci _ _ _ = refl
other Chap _ _ _ = refl
other Text _ _ _ = refl

pub returns-in-Mode : goal.returns-in-Mode
unfolding is_always
returns-in-Mode c =
    elim c.in-Mode.is [
      | inl e ↦ ap is_always (sym e)
      | inr rest ↦ elim rest [ inl e ↦ ap is_always (sym e) | inr e ↦ ap is_always (sym e) ]
    ]

pub returns-in_default : goal.returns-in_default
returns-in_default c = let h = c.in_default in other _ h.not-Mode h.not-Flags h.not-Port
