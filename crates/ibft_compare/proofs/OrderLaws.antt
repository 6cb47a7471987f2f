-- The list of differences is in the order named. The turn is that of a name, a pair's by its structure's ID and Index. Along
-- the pairs it rises, so it rises along the points of each group, presence, fields and strings, and these groups lie one above
-- another; what is left out of a rising list leaves a rising one.
--     list-rises     the turn of each difference's name is below that of the next one's
--     kind-holds     a test that holds for the kind of every slot
-- Assumes nothing.
use Rattle.std.specs.Prelude.{Ok, Err}
use mathlib.Core.Path.{◌≡◌, refl, ap, ◌∙◌}
use mathlib.Core.Bool.{Bool, true, false, not, cond, ◌&&◌}
use mathlib.Core.List.{List, [], ◌∷◌, ◌++◌, map}
use Prim.Native.Nat.{ℕ, zero, suc, ◌+◌, ◌*◌, ◌-◌, ◌^◌, ◌≤◌}
use native.Mathlib.Decide.{dec_lt}
use native.Mathlib.Omega.{arith}
use borrow.Author.Tests.{le-ltb, leb-true}
use lib.ListN.{get_or-eq_default}
use lib.Dec.{leb, eqb}
use Rattle.octets.specs.Counting.{any, tabulate, gather}
use Rattle.octets.proofs.TestLaws.{and_both}
use Rattle.octets.proofs.CountingLaws.{each_holds}
use Rattle.table_header.specs.Verdict.{Verdict, Accepted, Refused}
use Rattle.ibft_layout.specs.Layout.{Field, field, StringField, Kind, initiator, flags_at, kinds, slot_count, kind_of, named_count, extra_nics}
use Rattle.ibft_layout.specs.Layout.{extra_targets, least_index}
use Rattle.ibft_table.specs.Record.{Content}
use Rattle.ibft_compare.specs.declared.pair.Pair.{Pair}
use Rattle.ibft_compare.specs.Pairs.{kind_in, named_pair, pair_as, pair_with, extra_pairs, pairs_in, pairs_of}
use Rattle.ibft_compare.specs.Points.{Point, presence, field_at, field_points, string_points_from, string_points, each, points, name_of, structure_turn, turn_of}
use Rattle.ibft_compare.specs.Differences.{differ_at, differing}
use Rattle.ibft_compare.specs.Compare.{between, list_from, list_of, verdict_of}
use Rattle.ibft_compare.specs.Promises.{Rising, none, last, next}
use Rattle.ibft_compare.specs.Computing.{computing}

-- ---- lists along which a key rises, from lo on and below hi

-- lo is at most hi, also where the list is empty: so two of them append
data Between {A : Type 0} (key : A → ℕ) : ℕ → ℕ → List A → Type 0 where
  empty : {lo hi : ℕ} → lo ≤ hi → Between key lo hi []
  more : {lo hi : ℕ} {x : A} {s : List A} → lo ≤ key x → Between key (suc (key x)) hi s → Between key lo hi (x ∷ s)

module _ {A : Type 0} {key : A → ℕ} where
  -- the constructors as laws: what proves an inequality then knows its two sides
  between-empty : {lo hi : ℕ} → lo ≤ hi → Between key lo hi []
  between-empty e = empty e

  between_more : {lo hi : ℕ} {x : A} {s : List A} → lo ≤ key x → Between key (suc (key x)) hi s → Between key lo hi (x ∷ s)
  between_more e b = more e b

  between_lower : {l lo hi : ℕ} {s : List A} → l ≤ lo → Between key lo hi s → Between key l hi s
  between_lower h (empty e) = between-empty (omega arith)
  between_lower h (more e b) = between_more (omega arith) b

  between-append : {lo m n hi : ℕ} {s t : List A} → Between key lo m s → m ≤ n → Between key n hi t → Between key lo hi (s ++ t)
  between-append (empty e) h b = between_lower (omega arith) b
  between-append (more e a) h b = more e (between-append a h b)

-- the same as a test, for lists that are written out
module _ {A : Type 0} (key : A → ℕ) where
  inside : ℕ → ℕ → List A → Bool
  inside lo hi [] = leb lo hi
  inside lo hi (x ∷ s) = leb lo (key x) && inside (suc (key x)) hi s

  inside-between : (lo hi : ℕ) (s : List A) → inside lo hi s ≡ true → Between key lo hi s
  unfolding inside
  inside-between lo hi [] e = empty (leb-true lo hi e)
  inside-between lo hi (x ∷ s) e =
      let b = and_both (leb lo (key x)) _ e in
      more (leb-true lo (key x) b.0) (inside-between (suc (key x)) hi s b.1)

-- ---- pairs, by what their structure is called

abbrev pair_turn : Pair → ℕ
pair_turn p = structure_turn (kind_in p).id p.index

-- ID and Index of an extra tell its group
abbrev Named : ℕ → Type 0
Named group = (i : ℕ) → least_index ≤ i → structure_turn (kind_of group).id i ≡ 2 ^ 8 * group + i

nics-named : Named extra_nics
unfolding computing
nics-named i h = rw (le-ltb i least_index h)

targets-named : Named extra_targets
unfolding computing
targets-named i h = rw (le-ltb i least_index h)

pair-between : (group : ℕ) → Named group → (i left right : ℕ) → least_index ≤ i
    → Between pair_turn (2 ^ 8 * group + i) (2 ^ 8 * group + suc i) (pair_as group i left right)
unfolding pair_as
pair-between group named i left right l = go (eqb left slot_count && eqb right slot_count)
  where
    go : (b : Bool) → Between pair_turn (2 ^ 8 * group + i) (2 ^ 8 * group + suc i)
        (cond b [] (record { group = group; index = i; left = left; right = right } ∷ []))
    go true = between-empty (omega arith)
    go false = between_more (omega (arith, named i l)) (between-empty (omega (arith, named i l)))

named-between : Between pair_turn 0 (2 ^ 8 * named_count) (tabulate named_pair 0 named_count)
unfolding computing inside
named-between = inside-between pair_turn 0 (2 ^ 8 * named_count) (tabulate named_pair 0 named_count) refl

module _ (a b : List ℕ) where
  gather-between : (group : ℕ) → Named group → (i n : ℕ) {hi : ℕ} → least_index ≤ i → 2 ^ 8 * group + (i + n) ≤ hi
      → Between pair_turn (2 ^ 8 * group + i) hi (gather (pair_with a b group) i n)
  unfolding gather pair_with
  gather-between group named i zero l h = between-empty (omega arith)
  gather-between group named i (suc n) l h =
      between-append (pair-between group named i _ _ l) (omega arith) (gather-between group named (suc i) n (omega arith) (omega arith))

  extra-between : (group : ℕ) → Named group → {hi : ℕ} → 2 ^ 8 * (group + 1) ≤ hi
      → Between pair_turn (2 ^ 8 * group + least_index) hi (extra_pairs a b group)
  unfolding extra_pairs
  extra-between group named h = gather-between group named least_index (2 ^ 8 - least_index) (omega arith) (omega arith)

  pairs-between : Between pair_turn 0 (2 ^ 12) (pairs_in a b)
  unfolding pairs_in
  pairs-between =
      between-append named-between (omega arith)
      (between-append (extra-between extra_nics nics-named {hi = 2 ^ 8 * extra_targets} (omega arith)) (omega arith)
      (extra-between extra_targets targets-named (omega arith)))

-- ---- the points of a pair, by what they are called

abbrev point_turn : Point → ℕ
point_turn p = turn_of (name_of p)

abbrev field_key : Field → ℕ
field_key f = f.at

abbrev string_key : StringField → ℕ
string_key s = s.at

fields-between : (p : Pair) {lo hi : ℕ} {fs : List Field} → Between field_key lo hi fs
    → Between point_turn (2 * 2 ^ 20 + 2 ^ 8 * pair_turn p + lo) (2 * 2 ^ 20 + 2 ^ 8 * pair_turn p + hi) (map (field_at p) fs)
unfolding name_of turn_of
fields-between p (empty e) = between-empty (omega arith)
fields-between p (more e b) = between_more (omega arith) (between_lower (omega arith) (fields-between p b))

strings-between : (p : Pair) (j : ℕ) {lo hi : ℕ} {ss : List StringField} → Between string_key lo hi ss
    → Between point_turn (3 * 2 ^ 20 + 2 ^ 8 * pair_turn p + lo) (3 * 2 ^ 20 + 2 ^ 8 * pair_turn p + hi) (string_points_from p j ss)
unfolding name_of turn_of string_points_from
strings-between p j (empty e) = between-empty (omega arith)
strings-between p j (more e b) = between_more (omega arith) (between_lower (omega arith) (strings-between p (suc j) b))

-- a test that holds for the kind of every slot; past the last slot stands the kind of the first
pub kind-holds : (test : Kind → Bool) → any slot_count (λ (k : ℕ). not (test (kind_of k))) ≡ false → (k : ℕ) → test (kind_of k) ≡ true
unfolding kind_of
kind-holds test holds k =
    elim (dec_lt k slot_count) [
      | yes h ↦ each_holds slot_count (λ (k : ℕ). test (kind_of k)) holds k h
      | no h ↦
          ap test (get_or-eq_default kinds initiator {n = k} (omega arith))
          ∙ each_holds slot_count (λ (k : ℕ). test (kind_of k)) holds 0 (omega arith)
    ]

kind-fields : (k : ℕ) → Between field_key 0 (2 ^ 8) (field flags_at 1 ∷ (kind_of k).fields)
unfolding computing inside
kind-fields k =
    inside-between field_key 0 (2 ^ 8) _ (kind-holds (λ (kind : Kind). inside field_key 0 (2 ^ 8) (field flags_at 1 ∷ kind.fields)) refl k)

kind-strings : (k : ℕ) → Between string_key 0 (2 ^ 8) (kind_of k).string_fields
unfolding computing inside
kind-strings k = inside-between string_key 0 (2 ^ 8) _ (kind-holds (λ (kind : Kind). inside string_key 0 (2 ^ 8) kind.string_fields) refl k)

field-points-between : (p : Pair) → Between point_turn (2 * 2 ^ 20 + 2 ^ 8 * pair_turn p) (2 * 2 ^ 20 + 2 ^ 8 * pair_turn p + 2 ^ 8) (field_points p)
unfolding field_points
field-points-between p = between_lower (omega arith) (fields-between p (kind-fields p.group))

string-points-between : (p : Pair) → Between point_turn (3 * 2 ^ 20 + 2 ^ 8 * pair_turn p) (3 * 2 ^ 20 + 2 ^ 8 * pair_turn p + 2 ^ 8) (string_points p)
unfolding string_points
string-points-between p = between_lower (omega arith) (strings-between p 0 (kind-strings p.group))

-- ---- the points of all pairs

presence-between : {lo hi : ℕ} {ps : List Pair} → Between pair_turn lo hi ps → Between point_turn (2 ^ 20 + 2 ^ 8 * lo) (2 ^ 20 + 2 ^ 8 * hi) (map presence ps)
unfolding name_of turn_of
presence-between (empty e) = between-empty (omega arith)
presence-between (more e b) = between_more (omega arith) (between_lower (omega arith) (presence-between b))

each-between : (base : ℕ) (f : Pair → List Point) → ((p : Pair) → Between point_turn (base + 2 ^ 8 * pair_turn p) (base + 2 ^ 8 * pair_turn p + 2 ^ 8) (f p))
    → {lo hi : ℕ} {ps : List Pair} → Between pair_turn lo hi ps → Between point_turn (base + 2 ^ 8 * lo) (base + 2 ^ 8 * hi) (each f ps)
unfolding each
each-between base f own (empty e) = between-empty (omega arith)
each-between base f own (more {x = p} e b) =
    between_lower (omega arith) (between-append (own p) (omega arith) (each-between base f own b))

points-between : {ps : List Pair} → Between pair_turn 0 (2 ^ 12) ps → Between point_turn 0 (2 ^ 22) (points ps)
unfolding name_of turn_of points
points-between b =
    between_more (omega arith) (between_more (omega arith) (between_more (omega arith)
    (between_lower (omega arith)
    (between-append (presence-between b) (omega arith)
    (between-append (each-between (2 * 2 ^ 20) field_points field-points-between b) (omega arith)
    (each-between (3 * 2 ^ 20) string_points string-points-between b))))))

-- ---- those that differ

module _ (a b : Content) where
  differing-between : {lo hi : ℕ} {ps : List Point} → Between point_turn lo hi ps → Between point_turn lo hi (differing a b ps)
  unfolding differing
  differing-between (empty e) = empty e
  differing-between {lo} {hi} (more {x = p} {s = ps} e rest) = go (differ_at a b p) (differing-between rest)
    where
      go : (t : Bool) → Between point_turn (suc (point_turn p)) hi (differing a b ps) → Between point_turn lo hi (cond t (p ∷ differing a b ps) (differing a b ps))
      go true kept = more e kept
      go false kept = between_lower (omega arith) kept

names-rise : {lo hi : ℕ} {ps : List Point} → Between point_turn lo hi ps → Rising (map turn_of (map name_of ps))
names-rise (empty e) = none
names-rise (more e (empty f)) = last
names-rise (more e (more f b)) = next f (names-rise (more f b))

pub list-rises : (left right : List ℕ) → Rising (map turn_of (map name_of (list_of left right)))
unfolding list_of list_from between pairs_of
list-rises left right = go (verdict_of left right)
  where
    go : (v : Verdict) → Rising (map turn_of (map name_of (list_from left right v)))
    go (Ok u) = names-rise (differing-between _ _ (points-between (pairs-between _ _)))
    go (Err e) = none
