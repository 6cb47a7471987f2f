-- One point of the walk: what the code tests and keeps there is what the definitions say of the two records.
--     field-inside                      flags and fields stand before the strings
--     header-met                        the OEM fields and Control's flags
--     presence-met, field-met           a pair's presence, a field of it
--     string-passed, string-met         a string of it: of a structure that only one table has, and of any other
-- Assumes nothing.
use mathlib.Core.Path.{◌≡◌, refl, sym, ap, ap₂, ◌∙◌}
use mathlib.Core.Bool.{Bool, true, false, not, cond, ◌&&◌}
use mathlib.Core.Logic.{⊎_elim}
use mathlib.Core.List.{List, [], ◌∷◌}
use Prim.Native.Nat.{ℕ, suc, ◌+◌, ◌-◌, ◌≤◌, ◌<◌}
use native.Mathlib.Omega.{arith}
use borrow.Author.Tests.{leb-true, not-true}
use lib.ListN.{length}
use lib.Dec.{leb}
use Rattle.octets.specs.Counting.{any}
use Rattle.octets.specs.Octets.{byte, part, differs}
use Rattle.octets.proofs.TestLaws.{and_both}
use Rattle.octets.proofs.CountingLaws.{clash, each_holds}
use Rattle.octets.proofs.ReadLaws.{part-within}
use Rattle.ibft_layout.specs.Layout.{Kind, Field, StringField, flags_at, kind_of, kind_field, first_entry, slot_count}
use Rattle.ibft_table.specs.Table.{starts_of, present_in, start_of, present, offset_of, size_of, holds_entry}
use Rattle.ibft_table.specs.Record.{shown_if, body_size, content_in, content_of}
use Rattle.ibft_table.specs.Computing.{computing}
use Rattle.ibft_table_laws.proofs.TableLaws.{present-past}
use Rattle.ibft_compare.specs.declared.difference.Difference.TheVariants.{OemId, OemTableId, ControlFlags, Presence, Field as FieldOf, Entry}
use Rattle.ibft_compare.specs.declared.difference.Stretch.{Stretch}
use Rattle.ibft_compare.specs.declared.pair.Pair.{Pair}
use Rattle.ibft_compare.specs.declared.walk.Met.{Met}
use Rattle.ibft_compare.specs.Pairs.{kind_in}
use Rattle.ibft_compare.specs.Points.{oem_id, oem_table_id, control_flags, presence, field_at, string_at, name_of}
use Rattle.ibft_compare.specs.Differences.{unequal, in_one, field_differs, string_differs, left_of, right_of, differ_at, stretch, nothing}
use Rattle.ibft_compare.specs.Compare.{entry_stretch, structure_stretch, stretch_in}
use Rattle.ibft_compare.specs.Walk.{only_one, Seat, Paired, counted, met_at, walked}

-- ---- what is shown only where it is there

one_in : (x y : Bool) (a b : List ℕ) → in_one (shown_if x a) (shown_if y b) ≡ only_one x y
unfolding in_one only_one
one_in true true a b = refl
one_in true false a b = refl
one_in false true a b = refl
one_in false false a b = refl

field-in : (f : Field) (x y : Bool) (a b : List ℕ)
    → field_differs f (shown_if x a) (shown_if y b) ≡ x && (y && unequal (part a (f.at - flags_at) f.width) (part b (f.at - flags_at) f.width))
unfolding field_differs
field-in f true true a b = refl
field-in f true false a b = refl
field-in f false y a b = refl

string-in : (x y : Bool) (a b : List ℕ) → string_differs (shown_if x a) (shown_if y b) ≡ cond (only_one x y) true (x && unequal a b)
unfolding string_differs only_one
string-in true true a b = refl
string-in true false a b = refl
string-in false true a b = refl
string-in false false a b = refl

-- ---- fields

inside_at : ℕ → ℕ → Bool
inside_at k n =
    leb flags_at (kind_field (kind_of k) n).at && leb ((kind_field (kind_of k) n).at + (kind_field (kind_of k) n).width) (kind_of k).strings_at

inside : ℕ → Bool
inside k = not (any (suc (length (kind_of k).fields)) (λ (n : ℕ). not (inside_at k n)))

all-inside : any slot_count (λ (k : ℕ). not (inside k)) ≡ false
unfolding computing inside inside_at
all-inside = refl

pub field-inside : (k n : ℕ) → k < slot_count → n ≤ length (kind_of k).fields
    → (flags_at ≤ (kind_field (kind_of k) n).at) × ((kind_field (kind_of k) n).at + (kind_field (kind_of k) n).width ≤ (kind_of k).strings_at)
unfolding inside inside_at
field-inside k n h l =
    let holds = each_holds (suc (length (kind_of k).fields)) (inside_at k) (not-true _ (each_holds slot_count inside all-inside k h)) n (omega arith) in
    let b = and_both (leb flags_at (kind_field (kind_of k) n).at) _ holds in
    (leb-true _ _ b.0, leb-true _ _ b.1)

-- the bytes of a field, in the structure's flags and fields and in the table
field-part : (t : List ℕ) (group k start : ℕ) (f : Field) → Seat group k → start ≡ start_of t k → flags_at ≤ f.at → f.at + f.width ≤ (kind_of group).strings_at
    → present t k ≡ true → part (part t (start_of t k + 5) (body_size (kind_of k))) (f.at - flags_at) f.width ≡ part t (start + f.at) f.width
field-part t group k start f seat is low high on =
    ⊎_elim
    (λ s.
    let same : (kind_of k).strings_at ≡ (kind_of group).strings_at = ap (λ (kind : Kind). kind.strings_at) s.1 in
    let place : start_of t k + 5 + (f.at - flags_at) ≡ start + f.at = omega arith in
    part-within t (start_of t k + 5) (body_size (kind_of k)) (f.at - flags_at) f.width (omega arith) ∙ ap (λ (i : ℕ). part t i f.width) place)
    (λ past. clash on (present-past t k (omega arith)))
    seat

-- ---- points

abbrev oem_id_at : Stretch
oem_id_at = stretch 10 6

abbrev oem_table_id_at : Stretch
oem_table_id_at = stretch 16 8

abbrev control_flags_at : Stretch
control_flags_at = stretch 53 1

-- the OEM fields and Control's flags
pub header-met : (left right : List ℕ) (m m₁ m₂ m₃ : Met) (b₁ b₂ b₃ : Bool)
    → b₁ ≡ unequal (part left 10 6) (part right 10 6) → m₁ ≡ cond b₁ (counted m OemId oem_id_at oem_id_at) m
    → b₂ ≡ unequal (part left 16 8) (part right 16 8) → m₂ ≡ cond b₂ (counted m₁ OemTableId oem_table_id_at oem_table_id_at) m₁
    → b₃ ≡ differs (byte left 53) (byte right 53) → m₃ ≡ cond b₃ (counted m₂ ControlFlags control_flags_at control_flags_at) m₂
    → m₃ ≡ walked left right m (oem_id ∷ oem_table_id ∷ control_flags ∷ [])
unfolding walked met_at differ_at content_of content_in stretch_in name_of
header-met left right m m₁ m₂ m₃ b₁ b₂ b₃ e₁ s₁ e₂ s₂ e₃ s₃ = s₃ ∙ rw (e₃, s₂, e₂, s₁, e₁) refl

-- the strings of a structure that only one table has are not looked at
pub string-passed : (left right : List ℕ) (p : Pair) (m : Met) (j : ℕ) (s : StringField) (l k : ℕ) → l ≡ start_of left p.left → k ≡ start_of right p.right
    → only_one (differs l 0) (differs k 0) ≡ true → m ≡ walked left right m (string_at p j s ∷ [])
unfolding walked met_at differ_at content_of content_in present_in
string-passed left right p m j s l k el ek one = rw (one_in (present left p.left) (present right p.right) _ _, ← el, ← ek, one) refl

module _ (left right : List ℕ) (p : Pair) (m r : Met) (id : ℕ) (is-id : id ≡ (kind_in p).id) where
  pub presence-met : (l k size : ℕ) (b : Bool) (sl sr : Stretch) → l ≡ start_of left p.left → k ≡ start_of right p.right → size ≡ (kind_in p).length
      → b ≡ only_one (differs l 0) (differs k 0) → sl ≡ cond (differs l 0) (stretch l size) nothing → sr ≡ cond (differs k 0) (stretch k size) nothing
      → r ≡ cond b (counted m (Presence id p.index) sl sr) m → r ≡ walked left right m (presence p ∷ [])
  unfolding walked met_at differ_at content_of content_in present_in stretch_in structure_stretch name_of
  presence-met l k size b sl sr el ek es eb esl esr er =
      er ∙ rw (eb, esl, esr, es, is-id, el, ek, one_in (present left p.left) (present right p.right) _ _) refl

  pub field-met : Paired p → (f : Field) (l k : ℕ) (b : Bool) (sl sr : Stretch) → flags_at ≤ f.at → f.at + f.width ≤ (kind_in p).strings_at
      → l ≡ start_of left p.left → k ≡ start_of right p.right
      → b ≡ differs l 0 && (differs k 0 && unequal (part left (l + f.at) f.width) (part right (k + f.at) f.width))
      → sl ≡ stretch (l + f.at) f.width → sr ≡ stretch (k + f.at) f.width
      → r ≡ cond b (counted m (FieldOf id p.index f.at) sl sr) m → r ≡ walked left right m (field_at p f ∷ [])
  unfolding walked met_at differ_at content_of content_in present_in stretch_in name_of
  field-met paired f l k b sl sr low high el ek eb esl esr er =
      er ∙ rw (test, esl, esr, is-id, el, ek) refl
    where
      body : List ℕ → ℕ → List ℕ
      body t j = part (part t (start_of t j + 5) (body_size (kind_of j))) (f.at - flags_at) f.width

      same : (x y : Bool) → present left p.left ≡ x → present right p.right ≡ y
          → x && (y && unequal (part left (l + f.at) f.width) (part right (k + f.at) f.width))
          ≡ x && (y && unequal (body left p.left) (body right p.right))
      same true true on on' =
          ap₂ unequal (sym (field-part left p.group p.left l f paired.left el low high on))
          (sym (field-part right p.group p.right k f paired.right ek low high on'))
      same true false on on' = refl
      same false y on on' = refl

      unfolded : field_differs f (left_of (content_of left) p) (right_of (content_of right) p)
          ≡ present left p.left && (present right p.right && unequal (body left p.left) (body right p.right))
      unfolded = field-in f (present left p.left) (present right p.right) _ _

      shown : differs l 0 && (differs k 0 && unequal (part left (l + f.at) f.width) (part right (k + f.at) f.width))
          ≡ present left p.left && (present right p.right && unequal (part left (l + f.at) f.width) (part right (k + f.at) f.width))
      shown = rw (el, ek) refl

      test : b ≡ field_differs f (left_of (content_of left) p) (right_of (content_of right) p)
      test = eb ∙ shown ∙ same (present left p.left) (present right p.right) refl refl ∙ sym unfolded

  pub string-met : (j : ℕ) (s : StringField) (l k at n q : ℕ) (b : Bool) (sl sr : Stretch) → l ≡ start_of left p.left → k ≡ start_of right p.right
      → only_one (differs l 0) (differs k 0) ≡ false → at ≡ s.at → n ≡ first_entry p.left + j → q ≡ first_entry p.right + j
      → b ≡ cond (only_one (holds_entry left n) (holds_entry right q)) true
      (holds_entry left n && unequal (part left (offset_of left n) (size_of left n)) (part right (offset_of right q) (size_of right q)))
      → sl ≡ entry_stretch (starts_of left) left n → sr ≡ entry_stretch (starts_of right) right q
      → r ≡ cond b (counted m (Entry id p.index at) sl sr) m → r ≡ walked left right m (string_at p j s ∷ [])
  unfolding walked met_at differ_at content_of content_in present_in stretch_in name_of
  string-met j s l k at n q b sl sr el ek one ea en eq eb esl esr er =
      er
      ∙ rw (
        one_in (present left p.left) (present right p.right) _ _,
        ← el,
        ← ek,
        one,
        string-in (holds_entry left (first_entry p.left + j)) (holds_entry right (first_entry p.right + j)) _ _,
        eb,
        esl,
        esr,
        is-id,
        ea,
        en,
        eq,
      )
      refl
