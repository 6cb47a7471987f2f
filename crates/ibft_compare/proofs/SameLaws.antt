-- Two accepted tables have no difference exactly where they read as the same record. Of one record, each pair is of one slot,
-- and there both have the same. Without a difference, each extra's Index is in the other table too; Indexes ascend by slot,
-- without a gap, so it stands in the same slot there; and of each slot both have the same fields, which make up its bytes, and
-- the same strings.
--     none-same     the two ways
--     Each          every one of a list; append-each, map_each, gather-each, pairs-each, each-wider: of what it is made of
-- Assumes nothing.
use Rattle.std.specs.Prelude.{Option, None, Some}
use mathlib.Core.Path.{◌≡◌, refl, sym, ap, ◌∙◌}
use mathlib.Core.Bool.{Bool, true, false, cond, not, ◌&&◌}
use mathlib.Core.Logic.{◌↔◌}
use mathlib.Core.List.{List, [], ◌∷◌, ◌++◌, map}
use Prim.Native.Nat.{ℕ, zero, suc, ◌+◌, ◌-◌, ◌^◌, ◌≤◌, ◌<◌}
use native.Mathlib.Nat.{add-zero, zero-add}
use native.Mathlib.Decide.{dec_lt}
use native.Mathlib.Omega.{arith}
use borrow.Author.Tests.{eqb-true, ne_eqb, lt-ltb, le-ltb}
use lib.ListN.{length, get_or}
use lib.Seq.{ext_get_or}
use lib.Dec.{eqb}
use Rattle.octets.specs.Counting.{any, tabulate, gather}
use Rattle.octets.specs.Octets.{byte, part}
use Rattle.octets.proofs.CountingLaws.{clash, each_holds, get_d_tabulate}
use Rattle.octets.proofs.ReadLaws.{part_length, part_at}
use Rattle.octets.proofs.TestLaws.{and_both, and_no, and-other, same_differs, differs-no}
use Rattle.table_header.specs.Verdict.{Accepted}
use Rattle.ibft_layout.specs.Layout.{Kind, nic, target, Field, field, StringField, flags_at, kind_of, index_of, owner_of, first_entry, slot_count}
use Rattle.ibft_layout.specs.Layout.{named_count, extra_most, extra_nics, extra_targets, least_index, entry_count}
use Rattle.ibft_table.specs.Table.{starts_of, index_in, holds_in, start_of, present}
use Rattle.ibft_table.specs.Check.{check_of}
use Rattle.ibft_table.specs.Record.{Content, shown_if, body_size, content_in, content_of, record_of}
use Rattle.ibft_table_laws.specs.SameContent.{SameContent}
use Rattle.ibft_table_laws.proofs.LayoutLaws.{slot-fits, entry-fits, slot-entry-owner}
use Rattle.ibft_table_laws.proofs.RecordLaws.{table-content-same, same-listed}
use Rattle.ibft_table_laws.proofs.NumberingLaws.{ExtrasOf, nic-extras, target-extras, extra-before, index-least, index-up}
use Rattle.ibft_table_laws.proofs.TableLaws.{present-past, present-below, holds-past, facts, length-le, slot_kept, slot-end-le}
use Rattle.ibft_compare.specs.declared.pair.Pair.{Pair}
use Rattle.ibft_compare.specs.Pairs.{kind_in, named_pair, slot_with, pair_as, pair_with, extra_pairs, pairs_in, pairs_of}
use Rattle.ibft_compare.specs.Points.{Point, presence, field_at, field_points, string_points_from, string_points, each, points}
use Rattle.ibft_compare.specs.Differences.{in_one, field_differs, string_differs, left_of, right_of, left_string, right_string, differ_at, differing}
use Rattle.ibft_compare.specs.Compare.{between}
use Rattle.ibft_compare.specs.Computing.{computing}
use Rattle.ibft_compare.proofs.UnequalLaws.{unequal-same, unequal-no}
use Rattle.ibft_compare.proofs.SlotWithLaws.{slot-with-found, slot-with-at}

-- ---- every one of a list: of what lists are made of, and the other way

abbrev pub Each : {A : Type 0} → (A → Type 0) → List A → Type 0
Each P [] = Unit
Each P (x ∷ xs) = P x × Each P xs

module _ {A : Type 0} (P : A → Type 0) where
  pub append-each : (xs ys : List A) → Each P xs → Each P ys → Each P (xs ++ ys)
  append-each [] ys p q = q
  append-each (x ∷ xs) ys p q = (p.0, append-each xs ys p.1 q)

  each_append : (xs ys : List A) → Each P (xs ++ ys) → Each P xs × Each P ys
  each_append [] ys p = (tt, p)
  each_append (x ∷ xs) ys p = let q = each_append xs ys p.1 in ((p.0, q.0), q.1)

  pub map_each : {B : Type 0} (f : B → A) (xs : List B) → Each (λ (x : B). P (f x)) xs → Each P (map f xs)
  map_each f [] p = tt
  map_each f (x ∷ xs) p = (p.0, map_each f xs p.1)

  each_map : {B : Type 0} (f : B → A) (xs : List B) → Each P (map f xs) → Each (λ (x : B). P (f x)) xs
  each_map f [] p = tt
  each_map f (x ∷ xs) p = (p.0, each_map f xs p.1)

  tabulate-each : (f : ℕ → A) (i n : ℕ) → ((k : ℕ) → P (f k)) → Each P (tabulate f i n)
  unfolding tabulate
  tabulate-each f i zero p = tt
  tabulate-each f i (suc n) p = (p i, tabulate-each f (suc i) n p)

  each-tabulate : (f : ℕ → A) (i n : ℕ) → Each P (tabulate f i n) → (k : ℕ) → i ≤ k → k < i + n → P (f k)
  unfolding tabulate
  each-tabulate f i zero p k l h = absurd (omega arith)
  each-tabulate f i (suc n) p k l h =
      elim (dec_lt i k) [
        | yes m ↦ each-tabulate f (suc i) n p.1 k m (omega arith)
        | no m ↦ let z : k ≡ i = omega arith in rw z p.0
      ]

  pub gather-each : (f : ℕ → List A) (i n : ℕ) → ((k : ℕ) → k < i + n → Each P (f k)) → Each P (gather f i n)
  unfolding gather
  gather-each f i zero p = tt
  gather-each f i (suc n) p =
      append-each (f i) (gather f (suc i) n) (p i (omega arith)) (gather-each f (suc i) n (λ k h. p k (omega arith)))

  each-gather : (f : ℕ → List A) (i n : ℕ) → Each P (gather f i n) → (k : ℕ) → i ≤ k → k < i + n → Each P (f k)
  unfolding gather
  each-gather f i zero p k l h = absurd (omega arith)
  each-gather f i (suc n) p k l h =
      let q = each_append (f i) (gather f (suc i) n) p in
      elim (dec_lt i k) [
        | yes m ↦ each-gather f (suc i) n q.1 k m (omega arith)
        | no m ↦ let z : k ≡ i = omega arith in rw z q.0
      ]

pub each-wider : {A : Type 0} (P Q : A → Type 0) (xs : List A) → ((x : A) → P x → Q x) → Each P xs → Each Q xs
each-wider P Q [] f p = tt
each-wider P Q (x ∷ xs) f p = (f x p.0, each-wider P Q xs f p.1)

each_three : {A : Type 0} (P Q R : A → Type 0) (xs : List A) → Each P xs → Each Q xs → Each R xs → Each (λ (x : A). P x × Q x × R x) xs
each_three P Q R [] p q r = tt
each_three P Q R (x ∷ xs) p q r = ((p.0, q.0, r.0), each_three P Q R xs p.1 q.1 r.1)

-- the points of each pair
pub pairs-each : (P : Point → Type 0) (f : Pair → List Point) (pairs : List Pair) → Each (λ (p : Pair). Each P (f p)) pairs → Each P (each f pairs)
unfolding each
pairs-each P f [] all = tt
pairs-each P f (p ∷ ps) all = append-each P (f p) (each f ps) all.0 (pairs-each P f ps all.1)

-- ---- points at which two records do not differ

module _ (a b : Content) where
  abbrev Alike : Point → Type 0
  Alike p = differ_at a b p ≡ false

  alike-none : (ps : List Point) → Each Alike ps → differing a b ps ≡ []
  unfolding differing
  alike-none [] all = refl
  alike-none (p ∷ ps) all = rw all.0 (alike-none ps all.1)

  none_alike : (ps : List Point) → differing a b ps ≡ [] → Each Alike ps
  unfolding differing
  none_alike [] e = tt
  none_alike (p ∷ ps) e = go (none_alike ps) (differ_at a b p) refl e
    where
      go : (differing a b ps ≡ [] → Each Alike ps) → (c : Bool) → differ_at a b p ≡ c → cond c (p ∷ differing a b ps) (differing a b ps) ≡ []
          → Each Alike (p ∷ ps)
      go rest true is e = absurd (let z : ◌≡◌ {A = ℕ} 0 1 = cc in omega arith)
      go rest false is e = (is, rest e)

  -- at the points of each pair
  each-pairs : (f : Pair → List Point) (pairs : List Pair) → Each Alike (each f pairs) → Each (λ (p : Pair). Each Alike (f p)) pairs
  unfolding each
  each-pairs f [] all = tt
  each-pairs f (p ∷ ps) all = let q = each_append Alike (f p) (each f ps) all in (q.0, each-pairs f ps q.1)

  -- at all points of a pair: its presence, its fields, its strings
  abbrev AlikeIn : Pair → Type 0
  AlikeIn p = Alike (presence p) × Each Alike (field_points p) × Each Alike (string_points p)

  abbrev pair_points : List Pair → List Point
  pair_points pairs = map presence pairs ++ (each field_points pairs ++ each string_points pairs)

  pairs-alike : (pairs : List Pair) → Each AlikeIn pairs → Each Alike (pair_points pairs)
  pairs-alike pairs all =
      append-each Alike (map presence pairs) (each field_points pairs ++ each string_points pairs)
      (map_each Alike presence pairs (each-wider AlikeIn _ pairs (λ p x. x.0) all))
      (append-each Alike (each field_points pairs) (each string_points pairs)
      (pairs-each Alike field_points pairs (each-wider AlikeIn _ pairs (λ p x. x.1) all))
      (pairs-each Alike string_points pairs (each-wider AlikeIn _ pairs (λ p x. x.2) all)))

  alike-pairs : (pairs : List Pair) → Each Alike (pair_points pairs) → Each AlikeIn pairs
  alike-pairs pairs all =
      let q = each_append Alike (map presence pairs) (each field_points pairs ++ each string_points pairs) all in
      let r = each_append Alike (each field_points pairs) (each string_points pairs) q.1 in
      each_three (λ (p : Pair). Alike (presence p)) (λ (p : Pair). Each Alike (field_points p)) (λ (p : Pair). Each Alike (string_points p)) pairs
      (each_map Alike presence pairs q.0) (each-pairs field_points pairs r.0) (each-pairs string_points pairs r.1)

-- a kind's flags, which are one field, and the fields behind them
abbrev body_fields : Kind → List Field
body_fields kind = field flags_at 1 ∷ kind.fields

-- ---- a record against itself

in-one-same : (x : Option (List ℕ)) → in_one x x ≡ false
unfolding in_one
in-one-same None = refl
in-one-same (Some x) = refl

field-same : (f : Field) (x : Option (List ℕ)) → field_differs f x x ≡ false
unfolding field_differs
field-same f None = refl
field-same f (Some x) = unequal-same (part x (f.at - flags_at) f.width)

string-same : (x : Option (List ℕ)) → string_differs x x ≡ false
unfolding string_differs
string-same None = refl
string-same (Some x) = unequal-same x

-- a pair of one slot
abbrev Level : Pair → Type 0
Level p = p.left ≡ p.right

level-pair : (group index slot : ℕ) → Each Level (pair_as group index slot slot)
unfolding pair_as
level-pair group index slot = go (eqb slot slot_count && eqb slot slot_count)
  where
    go : (b : Bool) → Each Level (cond b [] (record { group = group; index = index; left = slot; right = slot } ∷ []))
    go true = tt
    go false = (refl, tt)

level-extras : (indices : List ℕ) (group : ℕ) → Each Level (extra_pairs indices indices group)
unfolding extra_pairs pair_with
level-extras indices group =
    gather-each Level (pair_with indices indices group) least_index (2 ^ 8 - least_index) (λ i h. level-pair group i (slot_with indices group i))

level-pairs : (indices : List ℕ) → Each Level (pairs_in indices indices)
unfolding pairs_in named_pair
level-pairs indices =
    append-each Level (tabulate named_pair 0 named_count) _ (tabulate-each Level named_pair 0 named_count (λ k. refl))
    (append-each Level (extra_pairs indices indices extra_nics) _ (level-extras indices extra_nics) (level-extras indices extra_targets))

module _ (c : Content) where
  module _ (p : Pair) (level : Level p) where
    fields-level : (fs : List Field) → Each (λ (f : Field). Alike c c (field_at p f)) fs
    unfolding differ_at
    fields-level [] = tt
    fields-level (f ∷ fs) = (rw level (field-same f (right_of c p)), fields-level fs)

    strings-level : (j : ℕ) (ss : List StringField) → Each (Alike c c) (string_points_from p j ss)
    unfolding differ_at string_points_from
    strings-level j [] = tt
    strings-level j (s ∷ ss) =
        (and_no (not (in_one (left_of c p) (right_of c p))) _ (λ on. rw level (string-same (right_string c p j))), strings-level (suc j) ss)

    pair-level : AlikeIn c c p
    unfolding differ_at field_points string_points
    pair-level = (
      rw level (in-one-same (right_of c p)),
      map_each (Alike c c) (field_at p) (body_fields (kind_in p)) (fields-level (body_fields (kind_in p))),
      strings-level 0 (kind_in p).string_fields,
    )

  between-self : between c c ≡ []
  unfolding between points pairs_of differ_at
  between-self =
      let pairs = each-wider Level (AlikeIn c c) (pairs_of c c) pair-level (level-pairs (tabulate c.index 0 slot_count)) in
      let id = unequal-same c.oem_id in
      let table-id = unequal-same c.oem_table_id in
      let flags = same_differs c.flags c.flags refl in
      alike-none c c (points (pairs_of c c)) (id, (table-id, (flags, pairs-alike c c (pairs_of c c) pairs)))

-- ---- a structure that a table has not, and its strings; past the last slot and entry it has none

module _ (t : List ℕ) where
  module _ (k : ℕ) (off : present t k ≡ false) where
    structure-off : (content_of t).structure k ≡ None
    unfolding content_of content_in
    structure-off = rw off

    index-off : named_count ≤ k → (content_of t).index k ≡ 0
    unfolding content_of content_in index_in
    index-off h = rw (le-ltb k named_count h, off)

    string-off : (j : ℕ) → k < slot_count → j < length (kind_of k).string_fields → (content_of t).entry (first_entry k + j) ≡ None
    unfolding content_of content_in holds_in
    string-off j h l = rw (slot-entry-owner k j h l, off)

  entry_past : (n : ℕ) → entry_count ≤ n → (content_of t).entry n ≡ None
  unfolding content_of content_in
  entry_past n h = rw (holds-past t n h)

-- ---- of one record

module _ (left right : List ℕ) (e : record_of left ≡ record_of right) where
  same : SameContent (content_of left) (content_of right)
  same = table-content-same left right e

  structure-same : (k : ℕ) → (content_of left).structure k ≡ (content_of right).structure k
  structure-same k =
      elim (dec_lt k slot_count) [
        | yes l ↦ same.structures k l
        | no l ↦ structure-off left k (present-past left k (omega arith)) ∙ sym (structure-off right k (present-past right k (omega arith)))
      ]

  index_same : (k : ℕ) → (content_of left).index k ≡ (content_of right).index k
  index_same k =
      elim (dec_lt k slot_count) [
        | yes l ↦ same.indices k l
        | no l ↦ index-off left k (present-past left k (omega arith)) (omega arith) ∙ sym (index-off right k (present-past right k (omega arith)) (omega arith))
      ]

  entry-same : (n : ℕ) → (content_of left).entry n ≡ (content_of right).entry n
  entry-same n =
      elim (dec_lt n entry_count) [
        | yes l ↦ same.entries n l
        | no l ↦ entry_past left n (omega arith) ∙ sym (entry_past right n (omega arith))
      ]

  content-same : content_of left ≡ content_of right
  content-same = λ i. record {
    oem_id = same.oem-id i;
    oem_table_id = same.oem-table-id i;
    flags = same.flags i;
    structure = λ k. structure-same k i;
    index = λ k. index_same k i;
    entry = λ n. entry-same n i;
  }

  same_none : between (content_of left) (content_of right) ≡ []
  same_none = ap (λ (c : Content). between c (content_of right)) content-same ∙ between-self (content_of right)

-- ---- parts that do not differ

-- these fields stand one behind the other, from n up to `end`
tiles : ℕ → List Field → ℕ → Bool
tiles n [] end = eqb n end
tiles n (f ∷ fs) end = eqb f.at n && tiles (n + f.width) fs end

bodies-tiled : any slot_count (λ (k : ℕ). not (tiles flags_at (body_fields (kind_of k)) (kind_of k).strings_at)) ≡ false
unfolding computing tiles
bodies-tiled = refl

module _ (x y : List ℕ) where
  -- the first n bytes are the same
  abbrev Begins : ℕ → Type 0
  Begins n = (m : ℕ) → m < n → byte x m ≡ byte y m

  begins-more : (i n : ℕ) → Begins i → part x i n ≡ part y i n → Begins (i + n)
  begins-more i n before e m h =
      elim (dec_lt m i) [
        | yes l ↦ before m l
        | no l ↦
            let z : i + (m - i) ≡ m = omega arith in
            let at : m - i < n = omega arith in
            rw z at (sym (part_at x i n (m - i) at) ∙ ap (λ (l : List ℕ). byte l (m - i)) e ∙ part_at y i n (m - i) at)
      ]

  abbrev FieldSame : Field → Type 0
  FieldSame f = field_differs f (Some x) (Some y) ≡ false

  field-no : (f : Field) → FieldSame f → part x (f.at - flags_at) f.width ≡ part y (f.at - flags_at) f.width
  unfolding field_differs
  field-no f e = unequal-no _ _ e

  begins-tiled : (fs : List Field) (n end : ℕ) → tiles n fs end ≡ true → flags_at ≤ n → Begins (n - flags_at) → Each FieldSame fs → Begins (end - flags_at)
  unfolding tiles
  begins-tiled [] n end e low before all = rw (← eqb-true n end e) before
  begins-tiled (f ∷ fs) n end e low before all =
      let w = and_both (eqb f.at n) (tiles (n + f.width) fs end) e in
      let at : f.at ≡ n = eqb-true f.at n w.0 in
      let next : n - flags_at + f.width ≡ n + f.width - flags_at = omega arith in
      begins-tiled fs (n + f.width) end w.1 (omega arith)
      (rw next at (begins-more (n - flags_at) f.width before (rw at at (field-no f all.0)))) all.1

  body-no : (k : ℕ) → k < slot_count → length x ≡ body_size (kind_of k) → length y ≡ body_size (kind_of k) → Each FieldSame (body_fields (kind_of k)) → x ≡ y
  body-no k h lx ly all =
      ext_get_or 0 x y (lx ∙ sym ly)
      (λ m l. begins-tiled (body_fields (kind_of k)) flags_at (kind_of k).strings_at
      (each_holds slot_count (λ (k : ℕ). tiles flags_at (body_fields (kind_of k)) (kind_of k).strings_at) bodies-tiled k h)
      (omega arith) (λ i g. absurd (omega arith)) all m (omega arith))

in-one-no : (p q : Bool) (x y : List ℕ) → in_one (shown_if p x) (shown_if q y) ≡ false → p ≡ q
unfolding in_one
in-one-no true true x y e = refl
in-one-no true false x y e = e
in-one-no false true x y e = sym e
in-one-no false false x y e = refl

structure-no : (k : ℕ) → k < slot_count → (p q : Bool) (x y : List ℕ) → (p ≡ true → length x ≡ body_size (kind_of k))
    → (q ≡ true → length y ≡ body_size (kind_of k)) → in_one (shown_if p x) (shown_if q y) ≡ false
    → Each (λ (f : Field). field_differs f (shown_if p x) (shown_if q y) ≡ false) (body_fields (kind_of k)) → shown_if p x ≡ shown_if q y
unfolding in_one
structure-no k h true true x y lx ly e all = ap Some (body-no x y k h (lx refl) (ly refl) all)
structure-no k h true false x y lx ly e all = clash refl e
structure-no k h false true x y lx ly e all = clash refl e
structure-no k h false false x y lx ly e all = refl

string-no : (x y : Option (List ℕ)) → string_differs x y ≡ false → x ≡ y
unfolding string_differs
string-no None None e = refl
string-no None (Some y) e = clash refl e
string-no (Some x) None e = clash refl e
string-no (Some x) (Some y) e = ap Some (unequal-no x y e)

-- ---- a pair without a difference

module _ (a b : Content) (p : Pair) (alike : AlikeIn a b p) where
  there-no : in_one (left_of a p) (right_of b p) ≡ false
  unfolding differ_at
  there-no = alike.0

  fields-no : Each (λ (f : Field). field_differs f (left_of a p) (right_of b p) ≡ false) (body_fields (kind_in p))
  unfolding differ_at field_points
  fields-no = each_map (Alike a b) (field_at p) (body_fields (kind_in p)) alike.1

  strings-from : (ss : List StringField) (j i : ℕ) → Each (Alike a b) (string_points_from p j ss) → i < length ss
      → left_string a p (j + i) ≡ right_string b p (j + i)
  unfolding differ_at string_points_from
  strings-from [] j i all h = absurd (omega arith)
  strings-from (s ∷ ss) j zero all h =
      rw (add-zero j) (string-no (left_string a p j) (right_string b p j) (and-other (not (in_one (left_of a p) (right_of b p))) _ all.0 (ap not there-no)))
  strings-from (s ∷ ss) j (suc i) all h =
      let next : suc j + i ≡ j + suc i = omega arith in
      rw next at (strings-from ss (suc j) i all.1 (omega arith))

  strings-no : (j : ℕ) → j < length (kind_in p).string_fields → left_string a p j ≡ right_string b p j
  unfolding string_points
  strings-no j h = rw (zero-add j) at (strings-from (kind_in p).string_fields 0 j alike.2 h)

-- ---- the Indexes of an accepted table

abbrev Bytes : List ℕ → Type 0
Bytes t = (i : ℕ) → byte t i < 256

abbrev index_by : List ℕ → ℕ → ℕ
index_by t k = index_in (starts_of t) t k

abbrev indices_of : List ℕ → List ℕ
indices_of t = tabulate (content_of t).index 0 slot_count

index-at : (t : List ℕ) (k : ℕ) → k < slot_count → get_or (indices_of t) k 0 ≡ index_by t k
unfolding content_of content_in
index-at t k h = get_d_tabulate (index_by t) slot_count k 0 h

index-named : (t : List ℕ) (k : ℕ) → k < named_count → index_by t k ≡ index_of k
unfolding index_in
index-named t k h = rw (lt-ltb k named_count h)

-- the extras of a kind
module _ (kind : Kind) (g : ℕ) (extras : ExtrasOf kind g) where
  slot-below : (i : ℕ) → i < extra_most → g + i < slot_count
  slot-below i h = omega (arith, extras.high)

  module _ (t : List ℕ) (ok : check_of t ≡ Accepted) where
    -- each has all those before it, and no Index of these is above its own
    extra-down : (i j : ℕ) → i ≤ j → j < extra_most → present t (g + j) ≡ true → (present t (g + i) ≡ true) × (index_by t (g + i) ≤ index_by t (g + j))
    extra-down i zero l h on = let z : i ≡ 0 = omega arith in rw z (on, omega arith)
    extra-down i (suc j) l h on =
        elim (dec_lt i (suc j)) [
          | yes m ↦
              let q = extra-down i j (omega arith) (omega arith) (extra-before t (facts t ok) kind g extras j h on) in
              (q.0, omega (arith, q.1, index-up t (facts t ok) kind g extras j h on))
          | no m ↦ let z : i ≡ suc j = omega arith in rw z (on, omega arith)
        ]

    extra-up : (i j : ℕ) → i < j → j < extra_most → present t (g + j) ≡ true → index_by t (g + i) < index_by t (g + j)
    extra-up i zero l h on = absurd (omega arith)
    extra-up i (suc j) l h on =
        omega (
          arith,
          (extra-down i j (omega arith) (omega arith) (extra-before t (facts t ok) kind g extras j h on)).1,
          index-up t (facts t ok) kind g extras j h on,
        )

    -- its slot is found by its Index, which is a byte
    own-slot : (i : ℕ) → i < extra_most → present t (g + i) ≡ true → slot_with (indices_of t) g (index_by t (g + i)) ≡ g + i
    own-slot i h on =
        slot-with-at (indices_of t) g (index_by t (g + i)) i h
        (λ j l e. omega (arith, index-at t (g + j) (slot-below j (omega arith)), extra-up j i l h on)) (index-at t (g + i) (slot-below i h))

    index-small : Bytes t → (i : ℕ) → i < extra_most → present t (g + i) ≡ true → index_by t (g + i) < 2 ^ 8
    index-small bytes i h on = omega (arith, (slot_kept t ok (g + i) (slot-below i h) on).starts.index_is, bytes (start_of t (g + i) + 4))

    -- an extra with this Index
    record Has (x : ℕ) : Type 0 where
      place : ℕ
      below : place < extra_most
      on : present t (g + place) ≡ true
      is : index_by t (g + place) ≡ x

    found-has : (x : ℕ) → present t (slot_with (indices_of t) g x) ≡ true → Has x
    found-has x on =
        let f = slot-with-found (indices_of t) g x (present-below t (slot_with (indices_of t) g x) on) in
        record {
          place = f.place;
          below = f.below;
          on = ap (present t) (sym f.slot) ∙ on;
          is = sym (index-at t (g + f.place) (slot-below f.place f.below)) ∙ f.there;
        }

  -- Where u has each Index of t, it has none of them in an earlier slot than t; so where t has a slot u has it too, and there
  -- no greater Index.
  module _ (t u : List ℕ) (ok : check_of t ≡ Accepted) (ok' : check_of u ≡ Accepted)
      (has : (i : ℕ) → i < extra_most → present t (g + i) ≡ true → Has u ok' (index_by t (g + i)))
    where
      no-earlier : (i : ℕ) (h : i < extra_most) (on : present t (g + i) ≡ true) → i ≤ (has i h on).place
      no-earlier zero h on = omega arith
      no-earlier (suc i) h on =
          let on' = extra-before t (facts t ok) kind g extras i h on in
          let m = has i (omega arith) on' in
          let n = has (suc i) h on in
          elim (dec_lt m.place n.place) [
            | yes l ↦ omega (arith, no-earlier i (omega arith) on')
            | no l ↦
                let down = extra-down u ok' n.place m.place (omega arith) m.below m.on in
                absurd (omega (arith, down.1, index-up t (facts t ok) kind g extras i h on, m.is, n.is))
          ]

      no-greater : (i : ℕ) → i < extra_most → present t (g + i) ≡ true → (present u (g + i) ≡ true) × (index_by u (g + i) ≤ index_by t (g + i))
      no-greater i h on =
          let m = has i h on in
          let down = extra-down u ok' i m.place (no-earlier i h on) m.below m.on in
          (down.0, omega (arith, down.1, m.is))

-- ---- two accepted tables without a difference

body-length : (t : List ℕ) → check_of t ≡ Accepted → (k : ℕ) → k < slot_count → present t k ≡ true
    → length (part t (start_of t k + 5) (body_size (kind_of k))) ≡ body_size (kind_of k)
body-length t ok k h on =
    let fits = slot-fits k h in
    part_length t (start_of t k + 5) (body_size (kind_of k)) (omega (arith, fits.flags, fits.words, slot-end-le t ok k h on, length-le t ok))

pair-listed : (P : Pair → Type 0) (group index left right : ℕ) → (left ≡ slot_count → right ≡ slot_count → ⊥)
    → Each P (pair_as group index left right) → P (record { group = group; index = index; left = left; right = right })
unfolding pair_as
pair-listed P group index left right other all =
    let no_both = and_no (eqb left slot_count) (eqb right slot_count) (λ e. ne_eqb right slot_count (other (eqb-true left slot_count e))) in
    (rw no_both at all).0

-- slot k is the same in both
record SlotSame (a b : Content) (k : ℕ) : Type 0 where
  structure-is : a.structure k ≡ b.structure k
  index_is : a.index k ≡ b.index k
  strings-are : (j : ℕ) → j < length (kind_of k).string_fields → a.entry (first_entry k + j) ≡ b.entry (first_entry k + j)

module _ (left right : List ℕ) (ok : check_of left ≡ Accepted) (ok' : check_of right ≡ Accepted) where
  abbrev l : Content
  l = content_of left

  abbrev r : Content
  r = content_of right

  -- a structure that neither has; one that both have, in the same slot, where their pair has no difference
  slot-off : (k : ℕ) → named_count ≤ k → k < slot_count → present left k ≡ false → present right k ≡ false → SlotSame l r k
  slot-off k low h off off' = record {
    structure-is = structure-off left k off ∙ sym (structure-off right k off');
    index_is = index-off left k off low ∙ sym (index-off right k off' low);
    strings-are = λ j b. string-off left k off j h b ∙ sym (string-off right k off' j h b);
  }

  slot-alike : (k group x : ℕ) → k < slot_count → kind_of group ≡ kind_of k → index_by left k ≡ index_by right k
      → AlikeIn l r (record { group = group; index = x; left = k; right = k }) → SlotSame l r k
  unfolding content_of content_in
  slot-alike k group x h kind index alike = record {
    structure-is =
        structure-no k h (present left k) (present right k) _ _ (body-length left ok k h) (body-length right ok' k h) (there-no l r _ alike)
        (rw kind at (fields-no l r _ alike));
    index_is = index;
    strings-are = λ j b. strings-no l r _ alike j (rw kind b);
  }

  presence-alike : (p : Pair) → AlikeIn l r p → present left p.left ≡ present right p.right
  unfolding content_of content_in
  presence-alike p alike = in-one-no (present left p.left) (present right p.right) _ _ (there-no l r p alike)

  module _ (bytes : Bytes left) (bytes' : Bytes right) where
    -- ---- the extras of a kind

    module _ (kind : Kind) (g : ℕ) (extras : ExtrasOf kind g) (alike : Each (AlikeIn l r) (extra_pairs (indices_of left) (indices_of right) g)) where
      -- the slots of an Index
      abbrev slot : ℕ → ℕ
      slot x = slot_with (indices_of left) g x

      abbrev slot' : ℕ → ℕ
      slot' x = slot_with (indices_of right) g x

      extra-alike : (x : ℕ) → least_index ≤ x → x < 2 ^ 8 → (slot x ≡ slot_count → slot' x ≡ slot_count → ⊥)
          → AlikeIn l r (record { group = g; index = x; left = slot x; right = slot' x })
      unfolding extra_pairs pair_with
      extra-alike x low high other =
          pair-listed (AlikeIn l r) g x (slot x) (slot' x) other
          (each-gather (AlikeIn l r) (pair_with (indices_of left) (indices_of right) g) least_index (2 ^ 8 - least_index) alike x low (omega arith))

      left-alike : (i : ℕ) → i < extra_most → present left (g + i) ≡ true
          → AlikeIn l r (record { group = g; index = index_by left (g + i); left = g + i; right = slot' (index_by left (g + i)) })
      left-alike i h on =
          let own = own-slot kind g extras left ok i h on in
          rw own at
          (extra-alike (index_by left (g + i)) (index-least left (facts left ok) kind g extras i h on) (index-small kind g extras left ok bytes i h on)
          (λ e e'. omega (arith, own, slot-below kind g extras i h)))

      right-alike : (i : ℕ) → i < extra_most → present right (g + i) ≡ true
          → AlikeIn l r (record { group = g; index = index_by right (g + i); left = slot (index_by right (g + i)); right = g + i })
      right-alike i h on =
          let own = own-slot kind g extras right ok' i h on in
          rw own at
          (extra-alike (index_by right (g + i)) (index-least right (facts right ok') kind g extras i h on) (index-small kind g extras right ok' bytes' i h on)
          (λ e e'. omega (arith, own, slot-below kind g extras i h)))

      left-right : (i : ℕ) → i < extra_most → present left (g + i) ≡ true → (present right (g + i) ≡ true) × (index_by right (g + i) ≤ index_by left (g + i))
      left-right =
          no-greater kind g extras left right ok ok'
          (λ i h on. found-has kind g extras right ok' (index_by left (g + i)) (sym (presence-alike _ (left-alike i h on)) ∙ on))

      right-left : (i : ℕ) → i < extra_most → present right (g + i) ≡ true → (present left (g + i) ≡ true) × (index_by left (g + i) ≤ index_by right (g + i))
      right-left =
          no-greater kind g extras right left ok' ok
          (λ i h on. found-has kind g extras left ok (index_by right (g + i)) (presence-alike _ (right-alike i h on) ∙ on))

      extra-on : (i : ℕ) → i < extra_most → present left (g + i) ≡ true → SlotSame l r (g + i)
      extra-on i h on =
          let q = left-right i h on in
          let same_index : index_by left (g + i) ≡ index_by right (g + i) = omega (arith, q.1, (right-left i h q.0).1) in
          let kinds : kind_of g ≡ kind_of (g + i) = ap kind_of (sym (add-zero g)) ∙ extras.kinds 0 (omega arith) ∙ sym (extras.kinds i h) in
          let own : slot' (index_by left (g + i)) ≡ g + i = ap slot' same_index ∙ own-slot kind g extras right ok' i h q.0 in
          slot-alike (g + i) g (index_by left (g + i)) (slot-below kind g extras i h) kinds same_index (rw own at (left-alike i h on))

      extra-same : (i : ℕ) → i < extra_most → SlotSame l r (g + i)
      extra-same i h = go (present left (g + i)) refl (present right (g + i)) refl
        where
          go : (p : Bool) → present left (g + i) ≡ p → (q : Bool) → present right (g + i) ≡ q → SlotSame l r (g + i)
          go true on q e = extra-on i h on
          go false off true on = clash (right-left i h on).0 off
          go false off false off' = slot-off (g + i) (omega (arith, extras.low)) (slot-below kind g extras i h) off off'

    -- ---- all slots

    module _ (no_difference : between l r ≡ []) where
      alike : Each (Alike l r) (points (pairs_of l r))
      unfolding between
      alike = none_alike l r (points (pairs_of l r)) no_difference

      abbrev named : List Pair
      named = tabulate named_pair 0 named_count

      abbrev nics : List Pair
      nics = extra_pairs (indices_of left) (indices_of right) extra_nics

      abbrev targets : List Pair
      targets = extra_pairs (indices_of left) (indices_of right) extra_targets

      named-and-extras : Each (AlikeIn l r) named × Each (AlikeIn l r) (nics ++ targets)
      unfolding points pairs_of pairs_in
      named-and-extras = each_append (AlikeIn l r) named (nics ++ targets) (alike-pairs l r (pairs_of l r) alike.1.1.1)

      nics-and-targets : Each (AlikeIn l r) nics × Each (AlikeIn l r) targets
      nics-and-targets = each_append (AlikeIn l r) nics targets named-and-extras.1

      named-same : (k : ℕ) → k < named_count → SlotSame l r k
      unfolding named_pair
      named-same k h =
          slot-alike k k (index_of k) (omega arith) refl (index-named left k h ∙ sym (index-named right k h))
          (each-tabulate (AlikeIn l r) named_pair 0 named_count named-and-extras.0 k (omega arith) (omega arith))

      slot_same : (k : ℕ) → k < slot_count → SlotSame l r k
      slot_same k h =
          elim (dec_lt k extra_nics) [
            | yes low ↦ named-same k low
            | no low ↦ elim (dec_lt k extra_targets) [
              | yes high ↦
                  let z : extra_nics + (k - extra_nics) ≡ k = omega arith in
                  rw z at (extra-same nic extra_nics nic-extras nics-and-targets.0 (k - extra_nics) (omega arith))
              | no high ↦
                  let z : extra_targets + (k - extra_targets) ≡ k = omega arith in
                  rw z at (extra-same target extra_targets target-extras nics-and-targets.1 (k - extra_targets) (omega arith))
            ]
          ]

      entry-alike : (n : ℕ) → n < entry_count → l.entry n ≡ r.entry n
      entry-alike n h =
          let f = entry-fits n h in
          let k : ℕ = owner_of n in
          let z : first_entry k + (n - first_entry k) ≡ n = omega (arith, f.from) in
          rw z at ((slot_same k f.owner).strings-are (n - first_entry k) (omega (arith, f.from, f.below)))

      none-content : SameContent l r
      unfolding points differ_at
      none-content = record {
        oem-id = unequal-no l.oem_id r.oem_id alike.0;
        oem-table-id = unequal-no l.oem_table_id r.oem_table_id alike.1.0;
        flags = differs-no l.flags r.flags alike.1.1.0;
        structures = λ k h. (slot_same k h).structure-is;
        indices = λ k h. (slot_same k h).index_is;
        entries = entry-alike;
      }

      none-record : record_of left ≡ record_of right
      unfolding record_of
      none-record = same-listed l r none-content

length_none : {A : Type 0} (xs : List A) → length xs ≡ 0 → xs ≡ []
length_none [] e = refl
length_none (x ∷ xs) e = absurd (omega arith)

-- of bytes: an extra with a greater Index would be in no pair
pub none-same : (left right : List ℕ) → ((i : ℕ) → byte left i < 256) → ((i : ℕ) → byte right i < 256)
    → check_of left ≡ Accepted → check_of right ≡ Accepted
    → (length (between (content_of left) (content_of right)) ≡ 0) ↔ (record_of left ≡ record_of right)
none-same left right bytes bytes' ok ok' = (
  λ e. none-record left right ok ok' bytes bytes' (length_none (between (content_of left) (content_of right)) e),
  λ e. ap length (same_none left right e),
)
