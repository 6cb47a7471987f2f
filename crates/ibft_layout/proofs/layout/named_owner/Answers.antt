-- `named_owner` meets its contract, number by number. Assumes nothing.
use mathlib.Core.Path.{◌≡◌, sym, ap}
use Prim.Native.Nat.{ℕ}
use native.Mathlib.Omega.{arith}
use Rattle.ibft_layout.specs.Layout.{entry_layout, entries_from, entries_of, owner_of}
use Rattle.ibft_layout.proofs.LayoutLaws.{last_arm}
use Rattle.ibft_layout.proofs.layout.named_owner.Goals as goal

-- number m, where n is m
row : (m n : ℕ) → n ≡ m → owner_of m ≡ owner_of n
row m n e = ap (owner_of) (sym e)

pub returns-in_default : goal.returns-in_default
unfolding owner_of entry_layout entries_from entries_of
returns-in_default c = last_arm owner_of 12 _ c.in_default.in_default-own.rest (λ h. absurd (omega arith))

pub returns-in-1 : goal.returns-in-1
unfolding owner_of entry_layout entries_from entries_of
returns-in-1 c = row 1 _ c.in-1.is

pub returns-in-2 : goal.returns-in-2
unfolding owner_of entry_layout entries_from entries_of
returns-in-2 c = row 2 _ c.in-2.is

pub returns-in-3 : goal.returns-in-3
unfolding owner_of entry_layout entries_from entries_of
returns-in-3 c = row 3 _ c.in-3.is

pub returns-in-4 : goal.returns-in-4
unfolding owner_of entry_layout entries_from entries_of
returns-in-4 c = row 4 _ c.in-4.is

pub returns-in-5 : goal.returns-in-5
unfolding owner_of entry_layout entries_from entries_of
returns-in-5 c = row 5 _ c.in-5.is

pub returns-in-6 : goal.returns-in-6
unfolding owner_of entry_layout entries_from entries_of
returns-in-6 c = row 6 _ c.in-6.is

pub returns-in-7 : goal.returns-in-7
unfolding owner_of entry_layout entries_from entries_of
returns-in-7 c = row 7 _ c.in-7.is

pub returns-in-8 : goal.returns-in-8
unfolding owner_of entry_layout entries_from entries_of
returns-in-8 c = row 8 _ c.in-8.is

pub returns-in-9 : goal.returns-in-9
unfolding owner_of entry_layout entries_from entries_of
returns-in-9 c = row 9 _ c.in-9.is

pub returns-in-10 : goal.returns-in-10
unfolding owner_of entry_layout entries_from entries_of
returns-in-10 c = row 10 _ c.in-10.is

pub returns-in-11 : goal.returns-in-11
unfolding owner_of entry_layout entries_from entries_of
returns-in-11 c = row 11 _ c.in-11.is

pub returns-in-12 : goal.returns-in-12
unfolding owner_of entry_layout entries_from entries_of
returns-in-12 c = row 12 _ c.in-12.is
