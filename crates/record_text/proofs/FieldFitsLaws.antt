-- What the layout of the fields says of every kind of group, slot and field. Each is a table of the whole, by computation, and
-- the rule that the table gives at each place.
--     grid-equal                                  two tables that are equal are so at each place
--     kind-slot, kind-few, kind-fits              the kind of a group and of a slot
--     field-few, field_plain, field-text          how many fields a group has, and which are strings
--     field-own                                   each byte of a field is its own
--     field_fits, word-field                      where a field of a structure stands, and the words of a string
--     flags-field, port-field                     the flags of a structure, the port of a target
--     field-covers                                each byte of a structure's flags and fields is one of a field's
-- Assumes nothing.
use mathlib.Core.Path.{◌≡◌, refl}
use mathlib.Core.Bool.{Bool, true, cond, ◌&&◌}
use mathlib.Core.List.{List}
use Prim.Native.Nat.{ℕ, suc, ◌+◌, ◌-◌, ◌*◌, ◌≤◌, ◌<◌}
use native.Mathlib.Decide.{dec_lt}
use native.Mathlib.Omega.{arith}
use borrow.Author.Tests.{lt-ltb, le-ltb, ltb-true, leb-true, eqb-true}
use lib.ListN.{length}
use lib.Dec.{eqb, leb, ltb}
use Rattle.octets.specs.Counting.{count, tabulate}
use Rattle.octets.proofs.CountingLaws.{tabulate-equal}
use Rattle.octets.proofs.TestLaws.{and_both}
use Rattle.ibft_layout.specs.Layout.{target, kind_of, slot_count, flags_at}
use Rattle.ibft_table.specs.Record.{body_size}
use Rattle.ibft_table_laws.proofs.LayoutLaws.{slot-fits}
use Rattle.record_text.specs.Fields.{kind_count, first_structure, is_text, field_count, plain_count, field_of}
use Rattle.record_text.specs.Enter.{group_count, port_at}
use Rattle.record_text.specs.Tell.{kind_number}
use Rattle.record_text.specs.Computing.{computing}
use Rattle.record_text.specs.declared.fields.Notation.TheVariants.{Flags, Port, Text}

-- ---- groups, kinds and slots

-- group 2 + k is the structure of slot k
pub kind-slot : (k : ℕ) → kind_number (first_structure + k) ≡ (kind_of k).id
unfolding kind_number
kind-slot k =
    let z : first_structure + k - first_structure ≡ k = omega arith in
    rw (le-ltb (first_structure + k) first_structure (omega arith), z)

-- the kind of slot k by number, and how many strings it has
abbrev pub kind_in : ℕ → ℕ
kind_in k = (kind_of k).id

abbrev pub strings_in : ℕ → ℕ
strings_in k = length (kind_of k).string_fields

-- past the fields of a group, the number of its seat: the mark of its structure, or its Index
abbrev pub seat : ℕ
seat = 15

-- the field of a kind that has byte j of its structure: before the first stands the seat, behind the last the marks of an
-- extra's strings
abbrev pub end_of : ℕ → ℕ
end_of kind = (field_of kind (field_count kind - 1)).at + (field_of kind (field_count kind - 1)).width

unfoldable pub field_at : ℕ → ℕ → ℕ
field_at kind j =
    cond (ltb j (field_of kind 0).at) seat
    (cond (ltb j (end_of kind)) (count (field_count kind - 1) (λ (n : ℕ). leb (field_of kind (suc n)).at j)) (plain_count kind + (j - end_of kind)))

-- ---- tables

module _ {ℓ} {A : Type ℓ} (f g : ℕ → ℕ → A) (m : ℕ) (n : ℕ → ℕ) where
  -- two tables are equal exactly where their elements are
  pub grid-equal : tabulate (λ (k : ℕ). tabulate (f k) 0 (n k)) 0 m ≡ tabulate (λ (k : ℕ). tabulate (g k) 0 (n k)) 0 m
      → (k i : ℕ) → k < m → i < n k → f k i ≡ g k i
  grid-equal e k i h l =
      tabulate-equal (f k) (g k) (n k) (tabulate-equal (λ (k : ℕ). tabulate (f k) 0 (n k)) (λ (k : ℕ). tabulate (g k) 0 (n k)) m e k h) i l

-- ---- a kind

kind_fits : ℕ → Bool
kind_fits k =
    leb first_structure (kind_in k)
    && (ltb (kind_in k) kind_count
    && (eqb (plain_count (kind_in k) + strings_in k) (field_count (kind_in k))
    && (eqb (end_of (kind_in k)) (kind_of k).length && (ltb (field_count (kind_in k)) seat && ltb 2 (plain_count (kind_in k))))))

kinds-fit : tabulate kind_fits 0 slot_count ≡ tabulate (λ (k : ℕ). true) 0 slot_count
unfolding computing kind_fits
kinds-fit = refl

pub record KindFits (k : ℕ) : Type 0 where
  pub low : first_structure ≤ kind_in k
  pub high : kind_in k < kind_count
  pub fields : plain_count (kind_in k) + strings_in k ≡ field_count (kind_in k)
  pub ends : end_of (kind_in k) ≡ (kind_of k).length
  pub few : field_count (kind_in k) < seat
  pub some : 2 < plain_count (kind_in k)

pub kind-fits : (k : ℕ) → k < slot_count → KindFits k
unfolding kind_fits
kind-fits k h =
    let a = and_both (leb first_structure (kind_in k)) _ (tabulate-equal kind_fits (λ (k : ℕ). true) slot_count kinds-fit k h) in
    let b = and_both (ltb (kind_in k) kind_count) _ a.1 in
    let c = and_both (eqb (plain_count (kind_in k) + strings_in k) (field_count (kind_in k))) _ b.1 in
    let d = and_both (eqb (end_of (kind_in k)) (kind_of k).length) _ c.1 in
    let e = and_both (ltb (field_count (kind_in k)) seat) _ d.1 in
    record {
      low = leb-true first_structure (kind_in k) a.0;
      high = ltb-true (kind_in k) kind_count b.0;
      fields = eqb-true (plain_count (kind_in k) + strings_in k) (field_count (kind_in k)) c.0;
      ends = eqb-true (end_of (kind_in k)) (kind_of k).length d.0;
      few = ltb-true (field_count (kind_in k)) seat e.0;
      some = ltb-true 2 (plain_count (kind_in k)) e.1;
    }

-- no group has so many fields that one would have its seat's cell
few-fields : tabulate (λ (g : ℕ). ltb (field_count (kind_number g)) seat) 0 group_count ≡ tabulate (λ (g : ℕ). true) 0 group_count
unfolding computing
few-fields = refl

pub field-few : (g : ℕ) → g < group_count → field_count (kind_number g) < seat
field-few g h =
    ltb-true (field_count (kind_number g)) seat
    (tabulate-equal (λ (g : ℕ). ltb (field_count (kind_number g)) seat) (λ (g : ℕ). true) group_count few-fields g h)

-- the header and Control have no strings
plain-fields : tabulate (λ (g : ℕ). plain_count (kind_number g)) 0 first_structure ≡ tabulate (λ (g : ℕ). field_count (kind_number g)) 0 first_structure
unfolding computing
plain-fields = refl

pub field_plain : (g : ℕ) → g < first_structure → plain_count (kind_number g) ≡ field_count (kind_number g)
field_plain = tabulate-equal (λ (g : ℕ). plain_count (kind_number g)) (λ (g : ℕ). field_count (kind_number g)) first_structure plain-fields

kinds-few : tabulate (λ (g : ℕ). ltb (kind_number g) kind_count) 0 group_count ≡ tabulate (λ (g : ℕ). true) 0 group_count
unfolding computing
kinds-few = refl

pub kind-few : (g : ℕ) → g < group_count → kind_number g < kind_count
kind-few g h =
    ltb-true (kind_number g) kind_count (tabulate-equal (λ (g : ℕ). ltb (kind_number g) kind_count) (λ (g : ℕ). true) group_count kinds-few g h)

-- ---- a field

-- field n of a kind: a string or not, and that each of its bytes is its own
texts-are : tabulate (λ (q : ℕ). tabulate (λ (n : ℕ). is_text (field_of q n).notation) 0 (field_count q)) 0 kind_count
    ≡ tabulate (λ (q : ℕ). tabulate (λ (n : ℕ). leb (plain_count q) n) 0 (field_count q)) 0 kind_count
unfolding computing
texts-are = refl

pub field-text : (q n : ℕ) → q < kind_count → n < field_count q → is_text (field_of q n).notation ≡ leb (plain_count q) n
field-text = grid-equal (λ (q n : ℕ). is_text (field_of q n).notation) (λ (q n : ℕ). leb (plain_count q) n) kind_count field_count texts-are

abbrev fields_in : (ℕ → ℕ → ℕ → ℕ) → ℕ → ℕ → List ℕ
fields_in f q n = tabulate (f q n) 0 (field_of q n).width

abbrev own_field : ℕ → ℕ → ℕ → ℕ
own_field q n j = field_at q ((field_of q n).at + j)

owns : tabulate (λ (q : ℕ). tabulate (fields_in own_field q) 0 (field_count q)) 0 kind_count
    ≡ tabulate (λ (q : ℕ). tabulate (fields_in (λ (q n j : ℕ). n) q) 0 (field_count q)) 0 kind_count
unfolding computing field_at
owns = refl

pub field-own : (q n j : ℕ) → q < kind_count → n < field_count q → j < (field_of q n).width → field_at q ((field_of q n).at + j) ≡ n
field-own q n j h l m =
    tabulate-equal (own_field q n) (λ (j : ℕ). n) (field_of q n).width
    (grid-equal (fields_in own_field) (fields_in (λ (q n j : ℕ). n)) kind_count field_count owns q n h l) j m

-- .. of a structure: where it stands in it
place_fits : ℕ → ℕ → Bool
place_fits k n =
    leb flags_at (field_of (kind_in k) n).at
    && leb ((field_of (kind_in k) n).at + (field_of (kind_in k) n).width) (cond (ltb n (plain_count (kind_in k))) (kind_of k).strings_at (kind_of k).length)

places-fit : tabulate (λ (k : ℕ). tabulate (place_fits k) 0 (field_count (kind_in k))) 0 slot_count
    ≡ tabulate (λ (k : ℕ). tabulate (λ (n : ℕ). true) 0 (field_count (kind_in k))) 0 slot_count
unfolding computing place_fits
places-fit = refl

pub record FieldFits (k n : ℕ) : Type 0 where
  pub from : flags_at ≤ (field_of (kind_in k) n).at
  pub plain : n < plain_count (kind_in k) → (field_of (kind_in k) n).at + (field_of (kind_in k) n).width ≤ (kind_of k).strings_at
  pub ends : (field_of (kind_in k) n).at + (field_of (kind_in k) n).width ≤ (kind_of k).length

pub field_fits : (k n : ℕ) → k < slot_count → n < field_count (kind_in k) → FieldFits k n
unfolding place_fits
field_fits k n h l =
    let at : ℕ = (field_of (kind_in k) n).at in
    let end : ℕ = at + (field_of (kind_in k) n).width in
    let whole = (slot-fits k h).words in
    let a = and_both (leb flags_at at) _ (grid-equal place_fits (λ (k n : ℕ). true) slot_count (λ (k : ℕ). field_count (kind_in k)) places-fit k n h l) in
    record {
      from = leb-true flags_at at a.0;
      plain = λ p. leb-true end (kind_of k).strings_at (rw (lt-ltb n (plain_count (kind_in k)) p) at a.1);
      ends = elim (dec_lt n (plain_count (kind_in k))) [
        | yes p ↦ omega (arith, leb-true end (kind_of k).strings_at (rw (lt-ltb n (plain_count (kind_in k)) p) at a.1))
        | no p ↦ leb-true end (kind_of k).length (rw (le-ltb n (plain_count (kind_in k)) (omega arith)) at a.1)
      ];
    }

-- string m of slot k's kind
words_are : tabulate (λ (k : ℕ). tabulate (λ (m : ℕ). field_of (kind_in k) (plain_count (kind_in k) + m)) 0 (strings_in k)) 0 slot_count
    ≡ tabulate (λ (k : ℕ). tabulate (λ (m : ℕ). record { notation = Text; at = (kind_of k).strings_at + 4 * m; width = 4 }) 0 (strings_in k)) 0 slot_count
unfolding computing
words_are = refl

pub word-field : (k m : ℕ) → k < slot_count → m < strings_in k
    → field_of (kind_in k) (plain_count (kind_in k) + m) ≡ record { notation = Text; at = (kind_of k).strings_at + 4 * m; width = 4 }
word-field =
    grid-equal (λ (k m : ℕ). field_of (kind_in k) (plain_count (kind_in k) + m))
    (λ (k m : ℕ). record { notation = Text; at = (kind_of k).strings_at + 4 * m; width = 4 }) slot_count strings_in words_are

-- the fields that have a usual value: the flags of a structure, the port of a target
flags-are : tabulate (λ (k : ℕ). field_of (kind_in k) 0) 0 slot_count ≡ tabulate (λ (k : ℕ). record { notation = Flags; at = flags_at; width = 1 }) 0 slot_count
unfolding computing
flags-are = refl

pub flags-field : (k : ℕ) → k < slot_count → field_of (kind_in k) 0 ≡ record { notation = Flags; at = flags_at; width = 1 }
flags-field = tabulate-equal (λ (k : ℕ). field_of (kind_in k) 0) (λ (k : ℕ). record { notation = Flags; at = flags_at; width = 1 }) slot_count flags-are

pub port-field : field_of target.id 2 ≡ record { notation = Port; at = port_at; width = 2 }
unfolding computing
port-field = refl

-- ---- each byte of the flags and fields of slot k is one of a field's

pub record Covered (k j : ℕ) : Type 0 where
  pub field : ℕ
  pub plain : field < plain_count (kind_in k)
  pub from : (field_of (kind_in k) field).at ≤ j
  pub below : j < (field_of (kind_in k) field).at + (field_of (kind_in k) field).width

covers : ℕ → ℕ → Bool
covers k i =
    let n : ℕ = field_at (kind_in k) (flags_at + i) in
    ltb n (plain_count (kind_in k))
    && (leb (field_of (kind_in k) n).at (flags_at + i) && ltb (flags_at + i) ((field_of (kind_in k) n).at + (field_of (kind_in k) n).width))

all-covered : tabulate (λ (k : ℕ). tabulate (covers k) 0 (body_size (kind_of k))) 0 slot_count
    ≡ tabulate (λ (k : ℕ). tabulate (λ (i : ℕ). true) 0 (body_size (kind_of k))) 0 slot_count
unfolding computing covers field_at
all-covered = refl

pub field-covers : (k i : ℕ) → k < slot_count → i < body_size (kind_of k) → Covered k (flags_at + i)
unfolding covers
field-covers k i h l =
    let n : ℕ = field_at (kind_in k) (flags_at + i) in
    let a = and_both (ltb n (plain_count (kind_in k))) _ (grid-equal covers (λ (k i : ℕ). true) slot_count (λ (k : ℕ). body_size (kind_of k)) all-covered k i h l) in
    let b = and_both (leb (field_of (kind_in k) n).at (flags_at + i)) _ a.1 in
    record {
      field = n;
      plain = ltb-true n (plain_count (kind_in k)) a.0;
      from = leb-true (field_of (kind_in k) n).at (flags_at + i) b.0;
      below = ltb-true (flags_at + i) ((field_of (kind_in k) n).at + (field_of (kind_in k) n).width) b.1;
    }
