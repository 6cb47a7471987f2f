-- The reading of a difference is short. What differs is a point of a pair, whose Index is a byte; a structure, a field and a
-- string of an accepted table have at most 255 bytes; and what is shown of a string is a part of it, which stands at a 16-bit
-- offset. Refused, and past the last difference, nothing is named and nothing shown.
--     index_named, Short     what short means
--     difference-short      every reading is, where the left table is bytes
-- Assumes nothing.
use Rattle.std.specs.Prelude.{Ok, Err}
use mathlib.Core.Path.{◌≡◌, refl}
use mathlib.Core.Bool.{Bool, true, false, cond, ◌&&◌}
use mathlib.Core.List.{List, [], ◌∷◌, ◌++◌, map}
use Prim.Native.Nat.{ℕ, zero, suc, ◌+◌, ◌-◌, ◌^◌, ◌≤◌, ◌<◌}
use native.Mathlib.Omega.{arith}
use borrow.Author.Tests.{leb-true}
use lib.ListN.{length, drop}
use lib.Dec.{eqb, leb}
use Rattle.octets.specs.Counting.{tabulate}
use Rattle.octets.specs.Octets.{byte, part}
use Rattle.octets.proofs.TestLaws.{and_both}
use Rattle.table_header.specs.Verdict.{refusal_of, Verdict, Accepted, Refused}
use Rattle.ibft_layout.specs.Layout.{Field, field, StringField, Kind, flags_at, kind_of, index_of, first_entry, slot_count, named_count}
use Rattle.ibft_layout.specs.Layout.{extra_nics, extra_targets, least_index}
use Rattle.ibft_table.specs.Table.{starts_of, start_in, present_in, offset_in, field_of, offset_of, size_of, holds_entry}
use Rattle.ibft_table.specs.Check.{check_of}
use Rattle.ibft_table.specs.Record.{Content, shown_if, content_in, content_of}
use Rattle.ibft_table_laws.proofs.LayoutLaws.{entry-fits}
use Rattle.ibft_table_laws.proofs.TableLaws.{holds-below, entry_kept, entry_length}
use Rattle.ibft_compare.specs.declared.pair.Pair.{Pair}
use Rattle.ibft_compare.specs.declared.difference.Difference.{Difference}
use Rattle.ibft_compare.specs.declared.difference.Difference.TheVariants.{Nothing, OemId, OemTableId, ControlFlags, Presence, Field as FieldOf, Entry}
use Rattle.ibft_compare.specs.declared.difference.Stretch.{Stretch}
use Rattle.ibft_compare.specs.declared.difference.DifferenceReading.{DifferenceReading}
use Rattle.ibft_compare.specs.Pairs.{kind_in, named_pair, slot_with, pair_as, pair_with, extra_pairs, pairs_in}
use Rattle.ibft_compare.specs.Points.{Point, oem_id, oem_table_id, control_flags, presence, field_at, string_at, field_points}
use Rattle.ibft_compare.specs.Points.{string_points_from, string_points, each, points, name_of}
use Rattle.ibft_compare.specs.Differences.{differ_at, differing, stretch, nothing, unequal_part, shown_at}
use Rattle.ibft_compare.specs.Compare.{verdict_of, side_of, list_of, entry_stretch, structure_stretch, stretch_in, left_stretch}
use Rattle.ibft_compare.specs.Compare.{right_stretch, shown_stretch, first_name, first_stretch, shown_of, difference_of}
use Rattle.ibft_compare.specs.Walk.{indices_of}
use Rattle.ibft_compare.specs.Computing.{computing}
use Rattle.ibft_compare.proofs.OrderLaws.{kind-holds}
use Rattle.ibft_compare.proofs.SameLaws.{Each, append-each, map_each, gather-each, pairs-each, each-wider}
use Rattle.ibft_compare.proofs.CompareLaws.{both-accepted, list-accepted, list-refused, unequal-le}

-- the Index that a difference names
abbrev pub index_named : Difference → ℕ
index_named Nothing = 0
index_named OemId = 0
index_named OemTableId = 0
index_named ControlFlags = 0
index_named (Presence id index) = index
index_named (FieldOf id index at) = index
index_named (Entry id index at) = index

-- a reading of no more than the types and the check allow: a string has at most 255 bytes, and so has every field
pub record Short (d : DifferenceReading) : Type 0 where
  pub index : index_named d.difference < 2 ^ 8
  pub left : d.left.length ≤ 255
  pub right : d.right.length ≤ 255
  pub shown : d.shown.length ≤ 255
  pub start : d.shown.start < 2 ^ 32

-- ---- the pairs: an Index is a byte

abbrev Low : Pair → Type 0
Low p = p.index < 2 ^ 8

named-low : Each Low (tabulate named_pair 0 named_count)
unfolding tabulate named_pair index_of
named-low = (omega arith, (omega arith, (omega arith, (omega arith, (omega arith, tt)))))

pair-low : (group index left right : ℕ) → index < 2 ^ 8 → Each Low (pair_as group index left right)
unfolding pair_as
pair-low group index left right low = go (eqb left slot_count && eqb right slot_count)
  where
    go : (b : Bool) → Each Low (cond b [] (record { group = group; index = index; left = left; right = right } ∷ []))
    go true = tt
    go false = (low, tt)

module _ (a b : List ℕ) where
  extras-low : (group : ℕ) → Each Low (extra_pairs a b group)
  unfolding extra_pairs pair_with
  extras-low group =
      gather-each Low (pair_with a b group) least_index (2 ^ 8 - least_index)
      (λ i h. pair-low group i (slot_with a group i) (slot_with b group i) (omega arith))

  pairs-low : Each Low (pairs_in a b)
  unfolding pairs_in
  pairs-low =
      append-each Low (tabulate named_pair 0 named_count) _ named-low
      (append-each Low (extra_pairs a b extra_nics) (extra_pairs a b extra_targets) (extras-low extra_nics) (extras-low extra_targets))

-- ---- the points: of a pair with such an Index, a field of at most 255 bytes

abbrev Small : Point → Type 0
Small oem_id = Unit
Small oem_table_id = Unit
Small control_flags = Unit
Small (presence p) = Low p
Small (field_at p f) = Low p × (f.width ≤ 255)
Small (string_at p j s) = Low p

narrow : List Field → Bool
narrow [] = true
narrow (f ∷ fs) = leb f.width 255 && narrow fs

narrow-each : (p : Pair) → Low p → (fs : List Field) → narrow fs ≡ true → Each (λ (f : Field). Small (field_at p f)) fs
unfolding narrow
narrow-each p low [] e = tt
narrow-each p low (f ∷ fs) e =
    let b = and_both (leb f.width 255) (narrow fs) e in
    ((low, leb-true f.width 255 b.0), narrow-each p low fs b.1)

kind-narrow : (k : ℕ) → narrow (field flags_at 1 ∷ (kind_of k).fields) ≡ true
unfolding computing narrow
kind-narrow k = kind-holds (λ (kind : Kind). narrow (field flags_at 1 ∷ kind.fields)) refl k

kind-short : (k : ℕ) → (kind_of k).length ≤ 255
unfolding computing
kind-short k = leb-true (kind_of k).length 255 (kind-holds (λ (kind : Kind). leb kind.length 255) refl k)

fields-small : (p : Pair) → Low p → Each Small (field_points p)
unfolding field_points
fields-small p low =
    map_each Small (field_at p) (field flags_at 1 ∷ (kind_in p).fields) (narrow-each p low (field flags_at 1 ∷ (kind_in p).fields) (kind-narrow p.group))

strings-small : (p : Pair) → Low p → (j : ℕ) (ss : List StringField) → Each Small (string_points_from p j ss)
unfolding string_points_from
strings-small p low j [] = tt
strings-small p low j (s ∷ ss) = (low, strings-small p low (suc j) ss)

points-small : (pairs : List Pair) → Each Low pairs → Each Small (points pairs)
unfolding points string_points
points-small pairs low = (
  tt,
  (
    tt,
    (
      tt,
      append-each Small (map presence pairs) (each field_points pairs ++ each string_points pairs) (map_each Small presence pairs low)
          (append-each Small (each field_points pairs) (each string_points pairs)
          (pairs-each Small field_points pairs (each-wider Low _ pairs fields-small low))
          (pairs-each Small string_points pairs (each-wider Low _ pairs (λ p l. strings-small p l 0 (kind_in p).string_fields) low))),
    ),
  ),
)

differing-small : (a b : Content) (ps : List Point) → Each Small ps → Each Small (differing a b ps)
unfolding differing
differing-small a b [] all = tt
differing-small a b (p ∷ ps) all = go (differ_at a b p) (differing-small a b ps all.1)
  where
    go : (t : Bool) → Each Small (differing a b ps) → Each Small (cond t (p ∷ differing a b ps) (differing a b ps))
    go true rest = (all.0, rest)
    go false rest = rest

drop-small : (k : ℕ) (ps : List Point) → Each Small ps → Each Small (drop k ps)
drop-small zero ps all = all
drop-small (suc k) [] all = tt
drop-small (suc k) (p ∷ ps) all = drop-small k ps all.1

-- ---- the stretches of an accepted table

size-short : (t : List ℕ) → check_of t ≡ Accepted → (n : ℕ) → holds_entry t n ≡ true → size_of t n ≤ 255
size-short t ok n on =
    let h = holds-below t n on in
    omega (arith, (entry_kept t ok n h on).longest, (entry-fits n h).longest)

module _ (t : List ℕ) (ok : check_of t ≡ Accepted) where
  entry-short : (n : ℕ) → (entry_stretch (starts_of t) t n).length ≤ 255
  unfolding entry_stretch
  entry-short n = go (holds_entry t n) refl
    where
      go : (b : Bool) → holds_entry t n ≡ b → (cond b (stretch (offset_of t n) (size_of t n)) nothing).length ≤ 255
      go true on = size-short t ok n on
      go false off = omega arith

  structure-short : (k group : ℕ) → (structure_stretch (starts_of t) k (kind_of group)).length ≤ 255
  unfolding structure_stretch
  structure-short k group = go (present_in (starts_of t) k)
    where
      go : (b : Bool) → (cond b (stretch (start_in (starts_of t) k) (kind_of group).length) nothing).length ≤ 255
      go true = kind-short group
      go false = omega arith

  point-short : (slot : Pair → ℕ) (x : Point) → Small x → (stretch_in (starts_of t) t slot x).length ≤ 255
  unfolding stretch_in
  point-short slot oem_id small = omega arith
  point-short slot oem_table_id small = omega arith
  point-short slot control_flags small = omega arith
  point-short slot (presence p) small = structure-short (slot p) p.group
  point-short slot (field_at p f) small = small.1
  point-short slot (string_at p j s) small = entry-short (first_entry (slot p) + j)

-- ---- what is shown

-- at most 255 bytes, within the first 2^32
abbrev Near : Stretch → Type 0
Near s = (s.length ≤ 255) × (s.start < 2 ^ 32)

near-nothing : Near nothing
near-nothing = (omega arith, omega arith)

module _ (left right : List ℕ) (lefts : (i : ℕ) → byte left i < 256) (ok : check_of left ≡ Accepted) where
  offset-small : (n : ℕ) → offset_of left n < 65536
  unfolding offset_in
  offset-small n = omega (arith, lefts (field_of left n + 2), lefts (field_of left n + 2 + 1))

  entry-near : (n m : ℕ) → Near (unequal_part (offset_of left n) ((content_of left).entry n) ((content_of right).entry m))
  unfolding unequal_part content_of content_in
  entry-near n m = go (holds_entry left n) (holds_entry right m) _ refl
    where
      x : List ℕ
      x = part left (offset_of left n) (size_of left n)

      few : holds_entry left n ≡ true → length x ≤ 255
      few on = omega (arith, entry_length left ok n (holds-below left n on) on, size-short left ok n on)

      go : (a b : Bool) (y : List ℕ) → holds_entry left n ≡ a → Near (unequal_part (offset_of left n) (shown_if a x) (shown_if b y))
      go false b y on = near-nothing
      go true false y on = (few on, omega (arith, offset-small n))
      go true true y on = (omega (arith, few on), omega (arith, offset-small n, few on, unequal-le x y))

  point-near : (x : Point) → Near (shown_stretch left right x)
  unfolding shown_at
  point-near oem_id = near-nothing
  point-near oem_table_id = near-nothing
  point-near control_flags = near-nothing
  point-near (presence p) = near-nothing
  point-near (field_at p f) = near-nothing
  point-near (string_at p j s) = entry-near (first_entry p.left + j) (first_entry p.right + j)

-- ---- a reading

index-low : (x : Point) → Small x → index_named (name_of x) < 2 ^ 8
unfolding name_of
index-low oem_id small = omega arith
index-low oem_table_id small = omega arith
index-low control_flags small = omega arith
index-low (presence p) small = small
index-low (field_at p f) small = small.0
index-low (string_at p j s) small = small

module _ (left right : List ℕ) where
  -- of the first of these points
  abbrev reading_of : List Point → DifferenceReading
  reading_of ps =
      record {
        refusal = refusal_of (verdict_of left right);
        side = side_of (check_of left) (check_of right);
        difference = first_name ps;
        left = first_stretch (left_stretch left) ps;
        right = first_stretch (right_stretch right) ps;
        shown = first_stretch (shown_stretch left right) ps;
      }

  none-short : Short (reading_of [])
  unfolding first_name first_stretch
  none-short = record { index = omega arith; left = omega arith; right = omega arith; shown = omega arith; start = omega arith }

  dropped-short : (k : ℕ) → Short (reading_of (drop k []))
  dropped-short zero = none-short
  dropped-short (suc k) = none-short

  module _ (lefts : (i : ℕ) → byte left i < 256) (l : check_of left ≡ Accepted) (r : check_of right ≡ Accepted) where
    first_short : (ps : List Point) → Each Small ps → Short (reading_of ps)
    unfolding first_name first_stretch
    first_short [] all = none-short
    first_short (p ∷ ps) all =
        let near = point-near left right lefts l p in
        record {
          index = index-low p all.0;
          left = point-short left l (λ (p : Pair). p.left) p all.0;
          right = point-short right r (λ (p : Pair). p.right) p all.0;
          shown = near.0;
          start = near.1;
        }

pub difference-short : (left right : List ℕ) (k : ℕ) → ((i : ℕ) → byte left i < 256) → Short (difference_of left right k)
unfolding difference_of shown_of
difference-short left right k lefts = go (verdict_of left right) refl
  where
    go : (v : Verdict) → verdict_of left right ≡ v → Short (reading_of left right (drop k (list_of left right)))
    go (Ok u) e =
        let ok = both-accepted left right e in
        let pairs = pairs_in (indices_of left) (indices_of right) in
        let small : Each Small (list_of left right) =
        rw (list-accepted left right e)
        (differing-small (content_of left) (content_of right) (points pairs) (points-small pairs (pairs-low (indices_of left) (indices_of right)))) in
        first_short left right lefts ok.0 ok.1 (drop k (list_of left right)) (drop-small k (list_of left right) small)
    go (Err x) e = rw (list-refused left right x e) (dropped-short left right k)
