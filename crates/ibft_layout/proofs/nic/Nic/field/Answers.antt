-- `Nic::field` meets its contract, number by number. Assumes nothing.
use Prim.Native.Nat.{ℕ}
use Rattle.ibft_layout.specs.Layout.{nic, kind_field}
use Rattle.ibft_layout.specs.Shapes.{field_shape}
use Rattle.ibft_layout.proofs.LayoutLaws.{last_arm, field_past}
use Rattle.ibft_layout.proofs.nic.Nic.field.Goals as goal

pub returns-in_default : goal.returns-in_default
unfolding kind_field
returns-in_default c = last_arm (λ (n : ℕ). field_shape (kind_field nic n)) 11 _ c.in_default.in_default-own.rest (λ h. field_past nic _ h)
