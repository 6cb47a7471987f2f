-- The IB part's offset in the image of an sBFT that is told and entered: it is written exactly where the table has an IB part.
--     offset-none     no field of the IB part is told: the offset stays
--     offset-set      one of them is: it is 88
-- Assumes nothing.
use mathlib.Core.Path.{◌≡◌, refl, sym, ap, ◌∙◌}
use mathlib.Core.List.{List}
use mathlib.Core.Bool.{Bool, true, false, not, ◌||◌}
use Prim.Native.Nat.{ℕ, zero, suc, ◌+◌, ◌≤◌, ◌<◌}
use native.Mathlib.Decide.{dec_lt}
use native.Mathlib.Omega.{arith}
use borrow.Author.Tests.{eqb-true, not-true}
use lib.ListN.{length}
use lib.Dec.{eqb, leb, ltb}
use Rattle.octets.specs.Counting.{first, any}
use Rattle.octets.specs.Octets.{byte, le16}
use Rattle.octets.proofs.CountingLaws.{clash, each_holds}
use Rattle.octets.proofs.WriteLaws.{write-at}
use Rattle.sbft.specs.Layout.{part_of, ib, absent}
use Rattle.family_text.specs.Fields.{sbft, ib_part, fields_of, field_of}
use Rattle.family_text.specs.Enter.{Draft, place_written, place_of, present, with_value}
use Rattle.family_text.specs.Tell.{is_there, bytes_in, is_told}
use Rattle.family_text.specs.Promises.{Bytes}
use Rattle.family_text.proofs.HeldLaws.{Held}
use Rattle.family_text.proofs.EnteredLaws.{field_entered, entered, entered-told, entered-none, bytes-many, place_in, leaves}
use Rattle.family_text.proofs.EnteredLaws.{write-leaves, value-leaves, field-length, kept}

-- byte j of the offset is none of field k's; and field k leaves it alone, unless it is one of the IB part
aside_at : ℕ → ℕ → Bool
aside_at j k = let f = field_of sbft k in ltb (ib.word + j) (place_in f) || leb (place_in f + f.width) (ib.word + j)

other_at : ℕ → ℕ → Bool
other_at j k = eqb (field_of sbft k).part ib_part || leaves (field_of sbft k) (ib.word + j)

sides : (any 9 (λ (k : ℕ). not (aside_at 0 k)) ≡ false) × (any 9 (λ (k : ℕ). not (aside_at 1 k)) ≡ false)
unfolding any first aside_at field_of fields_of place_written part_of
sides = (refl, refl)

others : (any 9 (λ (k : ℕ). not (other_at 0 k)) ≡ false) × (any 9 (λ (k : ℕ). not (other_at 1 k)) ≡ false)
unfolding any first other_at field_of fields_of place_written part_of leaves
others = (refl, refl)

aside : (j k : ℕ) → j < 2 → k < 9 → aside_at j k ≡ true
aside zero k h l = each_holds 9 (aside_at 0) sides.0 k l
aside (suc zero) k h l = each_holds 9 (aside_at 1) sides.1 k l
aside (suc (suc j)) k h l = absurd (omega arith)

other : (j k : ℕ) → j < 2 → k < 9 → other_at j k ≡ true
other zero k h l = each_holds 9 (other_at 0) others.0 k l
other (suc zero) k h l = each_holds 9 (other_at 1) others.1 k l
other (suc (suc j)) k h l = absurd (omega arith)

-- a field that is not of the IB part leaves it alone
other-leaves : (j k : ℕ) → j < 2 → k < 9 → eqb (field_of sbft k).part ib_part ≡ false → leaves (field_of sbft k) (ib.word + j) ≡ true
unfolding other_at
other-leaves j k h l e = rw e at (other j k h l)

-- one of the IB part sets it
ib-sets : (d : Draft) (k : ℕ) (bytes : List ℕ) (j : ℕ) → j < 2 → k < 9 → (field_of sbft k).part ≡ ib_part → length bytes ≡ (field_of sbft k).width
    → 42 ≤ length d.image → byte (with_value sbft d k bytes).image (ib.word + j) ≡ byte (le16 ib.place) j
unfolding with_value place_of present aside_at
ib-sets d k bytes j h l e size long =
    let f = field_of sbft k in
    write-leaves (present d.image f.part) (place_in f) bytes (ib.word + j) f.width size (aside j k h l)
    ∙ rw e (write-at d.image ib.word (le16 ib.place) j (omega arith) (omega arith))

module _ (t : List ℕ) (small : Bytes t) (all : (n : ℕ) → Held t (field_of sbft n)) where
  -- a field of the IB part is told only where that is there
  ib-there : (k : ℕ) → is_told t (field_of sbft k) ≡ true → (field_of sbft k).part ≡ ib_part → absent t 2 ≡ false
  unfolding is_there
  ib-there k told e = not-true (absent t 2) (sym (ap (is_there t) e) ∙ (all k).there told)

  pub offset-none : (d : Draft) → absent t 2 ≡ true → (j : ℕ) → j < 2 → byte (entered sbft t d 0 9).image (ib.word + j) ≡ byte d.image (ib.word + j)
  offset-none d gone j h = kept sbft t small all d 0 9 (ib.word + j) (λ k a low told. go k (omega arith) told (eqb (field_of sbft k).part ib_part) refl)
    where
      go : (k : ℕ) → k < 9 → is_told t (field_of sbft k) ≡ true → (b : Bool) → eqb (field_of sbft k).part ib_part ≡ b
          → leaves (field_of sbft k) (ib.word + j) ≡ true
      go k low told true e = clash gone (ib-there k told (eqb-true (field_of sbft k).part ib_part e))
      go k low told false e = other-leaves j k h low e

  -- ---- an IB part that is there

  -- where the offset is set it stays so
  field-stays : (d : Draft) (k j : ℕ) → j < 2 → k < 9 → 42 ≤ length d.image → byte d.image (ib.word + j) ≡ byte (le16 ib.place) j
      → byte (field_entered sbft t d k).image (ib.word + j) ≡ byte (le16 ib.place) j
  field-stays d k j h l long set = go (is_told t (field_of sbft k)) refl (eqb (field_of sbft k).part ib_part) refl
    where
      bytes : List ℕ
      bytes = bytes_in t (field_of sbft k)

      at : Draft → ℕ
      at x = byte x.image (ib.word + j)

      go : (b : Bool) → is_told t (field_of sbft k) ≡ b → (c : Bool) → eqb (field_of sbft k).part ib_part ≡ c
          → byte (field_entered sbft t d k).image (ib.word + j) ≡ byte (le16 ib.place) j
      go true told true e =
          ap at (sym (entered-told sbft t small all d 0 k told))
          ∙ ib-sets d k bytes j h l (eqb-true (field_of sbft k).part ib_part e) (bytes-many sbft t small all k told) long
      go true told false e =
          ap at (sym (entered-told sbft t small all d 0 k told))
          ∙ value-leaves sbft d k bytes (bytes-many sbft t small all k told) (ib.word + j) (other-leaves j k h l e) ∙ set
      go false off c e = ap at (sym (entered-none sbft t small all d 0 k off)) ∙ set

  all-stays : (d : Draft) (i m j : ℕ) → i + m ≡ 9 → j < 2 → 42 ≤ length d.image → byte d.image (ib.word + j) ≡ byte (le16 ib.place) j
      → byte (entered sbft t d i m).image (ib.word + j) ≡ byte (le16 ib.place) j
  unfolding entered
  all-stays d i zero j e h long set = set
  all-stays d i (suc m) j e h long set =
      all-stays (field_entered sbft t d i) (suc i) m j (omega arith) h (omega (arith, field-length sbft t small all d i))
      (field-stays d i j h (omega arith) long set)

  pub offset-set : (d : Draft) (i m n j : ℕ) → i + m ≡ 9 → i ≤ n → n < 9 → is_told t (field_of sbft n) ≡ true → (field_of sbft n).part ≡ ib_part → j < 2
      → 42 ≤ length d.image → byte (entered sbft t d i m).image (ib.word + j) ≡ byte (le16 ib.place) j
  unfolding entered
  offset-set d i zero n j e a l told p h long = absurd (omega arith)
  offset-set d i (suc m) n j e a l told p h long =
      elim (dec_lt i n) [
        | yes more ↦
            offset-set (field_entered sbft t d i) (suc i) m n j (omega arith) (omega arith) l told p h (omega (arith, field-length sbft t small all d i))
        | no here ↦
            let same : i ≡ n = omega arith in
            let set : field_entered sbft t d i ≡ with_value sbft d n (bytes_in t (field_of sbft n)) = ap
            (field_entered sbft t d) same ∙ sym (entered-told sbft t small all d 0 n told) in
            all-stays (field_entered sbft t d i) (suc i) m j (omega arith) h (omega (arith, field-length sbft t small all d i))
            (ap (λ (x : Draft). byte x.image (ib.word + j)) set
            ∙ ib-sets d n (bytes_in t (field_of sbft n)) j h l p (bytes-many sbft t small all n told) long)
      ]
