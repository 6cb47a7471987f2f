-- The walk along points, as a count of those that differ: it goes on where it stopped, and what it keeps is the difference
-- asked for.
--     walked-append, walked-three, walked_next     one stretch of points behind another; one step of a loop
--     walked-few                     no more differences than points
--     walked-is                      from its start on: how many differ, and the one asked for
--     each-gather, each-tabulate, each-pairs, points-walked      the points of several pairs, and all points
--     fields-gather, strings-gather, points-gather               the points of one
-- Assumes nothing.
use mathlib.Core.Path.{◌≡◌, refl, sym, ap, ap₂, ◌∙◌}
use mathlib.Core.Bool.{Bool, true, false, cond}
use mathlib.Core.List.{List, [], ◌∷◌, ◌++◌, map, append_assoc}
use Prim.Native.Nat.{ℕ, zero, suc, ◌+◌, ◌-◌, ◌≤◌, ◌<◌}
use native.Mathlib.Decide.{dec_lt}
use native.Mathlib.Omega.{arith}
use borrow.Author.Tests.{eq-eqb, ne_eqb}
use lib.ListN.{length, drop}
use lib.Dec.{eqb}
use Rattle.octets.specs.Counting.{tabulate, gather}
use Rattle.octets.proofs.CountingLaws.{gather-last, tabulate-equal}
use Rattle.ibft_layout.specs.Layout.{Field, field, StringField, flags_at, kind_of, kind_field, slot_count, extra_nics, extra_targets, string_of, first_entry}
use Rattle.ibft_table.specs.Record.{content_of}
use Rattle.ibft_table.specs.Computing.{computing}
use Rattle.ibft_compare.specs.declared.difference.Difference.{Difference}
use Rattle.ibft_compare.specs.declared.difference.Difference.TheVariants.{Nothing}
use Rattle.ibft_compare.specs.declared.difference.Stretch.{Stretch}
use Rattle.ibft_compare.specs.declared.pair.Pair.{Pair}
use Rattle.ibft_compare.specs.declared.walk.Aspect.{Aspect}
use Rattle.ibft_compare.specs.declared.walk.Aspect.TheVariants.{Presence, Fields, Strings}
use Rattle.ibft_compare.specs.declared.walk.Met.{Met}
use Rattle.ibft_compare.specs.Pairs.{extra_pairs, pairs_in}
use Rattle.ibft_compare.specs.Points.{Point, oem_id, oem_table_id, control_flags, presence, field_at, string_at, field_points}
use Rattle.ibft_compare.specs.Points.{string_points_from, string_points, each, points, name_of}
use Rattle.ibft_compare.specs.Differences.{nothing, differ_at, differing}
use Rattle.ibft_compare.specs.Compare.{left_stretch, right_stretch, first_name, first_stretch}
use Rattle.ibft_compare.specs.Walk.{named_pairs, points_in, count_in, point_in, unmet, counted, met_at, walked}

-- ---- the walk

module _ (left right : List ℕ) where
  pub walked-append : (m : Met) (ps qs : List Point) → walked left right m (ps ++ qs) ≡ walked left right (walked left right m ps) qs
  unfolding walked
  walked-append m [] qs = refl
  walked-append m (p ∷ ps) qs = walked-append (met_at left right m p) ps qs

  -- a loop that has walked along f of the n numbers from k on walks along f of the next one
  pub walked_next : (f : ℕ → List Point) (k n i : ℕ) (m m₁ m₂ : Met) → m₁ ≡ walked left right m (gather f k n) → i ≡ k + n
      → m₂ ≡ walked left right m₁ (f i) → m₂ ≡ walked left right m (gather f k (n + 1))
  walked_next f k n i m m₁ m₂ so at then =
      let next : n + 1 ≡ suc n = omega arith in
      then
      ∙ ap (λ (x : Met). walked left right x (f i)) so
      ∙ sym (walked-append m (gather f k n) (f i))
      ∙ ap (λ (j : ℕ). walked left right m (gather f k n ++ f j)) at
      ∙ ap (walked left right m) (sym (gather-last f k n))
      ∙ ap (λ (j : ℕ). walked left right m (gather f k j)) (sym next)

  -- three stretches, one behind another
  pub walked-three : (ps qs rs : List Point) (m m₁ m₂ m₃ : Met) → m₁ ≡ walked left right m ps → m₂ ≡ walked left right m₁ qs → m₃ ≡ walked left right m₂ rs
      → m₃ ≡ walked left right m (ps ++ (qs ++ rs))
  walked-three ps qs rs m m₁ m₂ m₃ e₁ e₂ e₃ =
      e₃
      ∙ ap (λ (x : Met). walked left right x rs) (e₂ ∙ ap (λ (x : Met). walked left right x qs) e₁)
      ∙ sym (walked-append m ps (qs ++ rs) ∙ walked-append (walked left right m ps) qs rs)

  -- ---- those that differ

  -- the same along points that all differ
  along : Met → List Point → Met
  along m [] = m
  along m (p ∷ ps) = along (counted m (name_of p) (left_stretch left p) (right_stretch right p)) ps

  walked-along : (m : Met) (ps : List Point) → walked left right m ps ≡ along m (differing (content_of left) (content_of right) ps)
  unfolding walked met_at differing along
  walked-along m [] = refl
  walked-along m (p ∷ ps) =
      let next = counted m (name_of p) (left_stretch left p) (right_stretch right p) in
      go (differ_at (content_of left) (content_of right) p) next _ (walked-along next ps) (walked-along m ps)
    where
      go : (b : Bool) (next : Met) (rest : List Point) → walked left right next ps ≡ along m (p ∷ rest) → walked left right m ps ≡ along m rest
          → walked left right (cond b next m) ps ≡ along m (cond b (p ∷ rest) rest)
      go true next rest one none = one
      go false next rest one none = none

  counted-count : (m : Met) (d : Difference) (l r : Stretch) → (counted m d l r).count ≡ m.count + 1
  unfolding counted
  counted-count m d l r = go (eqb m.count m.wanted) _ _ refl refl
    where
      go : (b : Bool) (x y : Met) → x.count ≡ m.count + 1 → y.count ≡ m.count + 1 → (cond {A = Met} b x y).count ≡ m.count + 1
      go true x y hx hy = hx
      go false x y hx hy = hy

  pub walked-few : (m : Met) (ps : List Point) → (walked left right m ps).count ≤ m.count + length ps
  unfolding walked met_at
  walked-few m [] = omega arith
  walked-few m (p ∷ ps) =
      let next = counted m (name_of p) (left_stretch left p) (right_stretch right p) in
      let one = counted-count m (name_of p) (left_stretch left p) (right_stretch right p) in
      go (differ_at (content_of left) (content_of right) p) next (omega (arith, walked-few next ps)) (omega (arith, walked-few m ps))
    where
      go : (b : Bool) (next : Met) → (walked left right next ps).count ≤ m.count + suc (length ps)
          → (walked left right m ps).count ≤ m.count + suc (length ps)
          → (walked left right (cond b next m) ps).count ≤ m.count + suc (length ps)
      go true next one none = one
      go false next one none = none

  -- past the one asked for: no more is kept
  along-past : (wanted count : ℕ) (d : Difference) (l r : Stretch) (ps : List Point) → wanted < count
      → along (record { wanted = wanted; count = count; difference = d; left = l; right = r }) ps
      ≡ record { wanted = wanted; count = count + length ps; difference = d; left = l; right = r }
  unfolding along counted
  along-past wanted count d l r [] h =
      let same : count ≡ count + 0 = omega arith in
      λ i. record { wanted = wanted; count = same i; difference = d; left = l; right = r }
  along-past wanted count d l r (p ∷ ps) h =
      let same : count + 1 + length ps ≡ count + suc (length ps) = omega arith in
      rw (ne_eqb count wanted (λ e. omega arith))
      (along-past wanted (count + 1) d l r ps (omega arith)
      ∙ (λ i. record { wanted = wanted; count = same i; difference = d; left = l; right = r }))

  -- before it
  abbrev from : ℕ → ℕ → Met
  from wanted count = record { wanted = wanted; count = count; difference = Nothing; left = nothing; right = nothing }

  abbrev kept : ℕ → ℕ → List Point → Met
  kept wanted count ps =
      record {
        wanted = wanted;
        count = count;
        difference = first_name ps;
        left = first_stretch (left_stretch left) ps;
        right = first_stretch (right_stretch right) ps;
      }

  along-from : (wanted count : ℕ) (ps : List Point) → count ≤ wanted
      → along (from wanted count) ps ≡ kept wanted (count + length ps) (drop (wanted - count) ps)
  unfolding along counted first_name first_stretch
  along-from wanted count [] h =
      let same : count ≡ count + 0 = omega arith in
      ap (from wanted) same ∙ sym (nothing_left (wanted - count))
    where
      nothing_left : (j : ℕ) → kept wanted (count + 0) (drop j []) ≡ from wanted (count + 0)
      nothing_left zero = refl
      nothing_left (suc j) = refl
  along-from wanted count (p ∷ ps) h =
      elim (dec_lt count wanted) [
        | yes l ↦
            let later : wanted - count ≡ suc (wanted - (count + 1)) = omega arith in
            let same : count + 1 + length ps ≡ count + suc (length ps) = omega arith in
            rw (ne_eqb count wanted (λ e. omega arith), later)
            (along-from wanted (count + 1) ps (omega arith) ∙ ap (λ (c : ℕ). kept wanted c (drop (wanted - (count + 1)) ps)) same)
        | no l ↦
            let here : wanted - count ≡ 0 = omega arith in
            let same : count + 1 + length ps ≡ count + suc (length ps) = omega arith in
            rw (eq-eqb count wanted (omega arith), here)
            (along-past wanted (count + 1) (name_of p) (left_stretch left p) (right_stretch right p) ps (omega arith)
            ∙ ap (λ (c : ℕ). kept wanted c (p ∷ ps)) same)
      ]

  pub walked-is : (wanted : ℕ) (ps : List Point) → walked left right (unmet wanted) ps
      ≡ kept wanted (length (differing (content_of left) (content_of right) ps)) (drop wanted (differing (content_of left) (content_of right) ps))
  walked-is wanted ps =
      let ds = differing (content_of left) (content_of right) ps in
      let all : 0 + length ds ≡ length ds = omega arith in
      let whole : wanted - 0 ≡ wanted = omega arith in
      walked-along (unmet wanted) ps ∙ along-from wanted 0 ds (omega arith) ∙ ap₂ (λ (n k : ℕ). kept wanted n (drop k ds)) all whole

-- ---- the points of several pairs

module _ (f : Pair → List Point) where
  each_append : (ps qs : List Pair) → each f (ps ++ qs) ≡ each f ps ++ each f qs
  unfolding each
  each_append [] qs = refl
  each_append (p ∷ ps) qs = ap (λ (l : List Point). f p ++ l) (each_append ps qs) ∙ sym (append_assoc (f p) (each f ps) (each f qs))

  pub each-gather : (g : ℕ → List Pair) (k n : ℕ) → each f (gather g k n) ≡ gather (λ (i : ℕ). each f (g i)) k n
  unfolding gather each
  each-gather g k zero = refl
  each-gather g k (suc n) = each_append (g k) (gather g (suc k) n) ∙ ap (λ (l : List Point). each f (g k) ++ l) (each-gather g (suc k) n)

  pub each-tabulate : (g : ℕ → Pair) (k n : ℕ) → each f (tabulate g k n) ≡ gather (λ (i : ℕ). f (g i)) k n
  unfolding tabulate gather each
  each-tabulate g k zero = refl
  each-tabulate g k (suc n) = ap (λ (l : List Point). f (g k) ++ l) (each-tabulate g (suc k) n)

  pub each-pairs : (a b : List ℕ) → each f (pairs_in a b) ≡ each f named_pairs ++ (each f (extra_pairs a b extra_nics) ++ each f (extra_pairs a b extra_targets))
  unfolding pairs_in
  each-pairs a b =
      each_append named_pairs (extra_pairs a b extra_nics ++ extra_pairs a b extra_targets)
      ∙ ap (λ (l : List Point). each f named_pairs ++ l) (each_append (extra_pairs a b extra_nics) (extra_pairs a b extra_targets))

presence-each : (ps : List Pair) → map presence ps ≡ each (points_in Presence) ps
unfolding each points_in
presence-each [] = refl
presence-each (p ∷ ps) = ap (λ (l : List Point). presence p ∷ l) (presence-each ps)

-- the header's, then each aspect of all pairs
pub points-walked : (left right : List ℕ) (ps : List Pair) (m m₀ m₁ m₂ m₃ : Met) → m₀ ≡ walked left right m (oem_id ∷ oem_table_id ∷ control_flags ∷ [])
    → m₁ ≡ walked left right m₀ (each (points_in Presence) ps) → m₂ ≡ walked left right m₁ (each (points_in Fields) ps) → m₃
    ≡ walked left right m₂ (each (points_in Strings) ps)
    → m₃ ≡ walked left right m (points ps)
unfolding points_in points
points-walked left right ps m m₀ m₁ m₂ m₃ e₀ e₁ e₂ e₃ =
    walked-three left right (map presence ps) (each field_points ps) (each string_points ps) m₀ m₁ m₂ m₃
    (e₁ ∙ ap (walked left right m₀) (sym (presence-each ps))) e₂ e₃
    ∙ ap (λ (x : Met). walked left right x (map presence ps ++ (each field_points ps ++ each string_points ps))) e₀
    ∙ sym (walked-append left right m (oem_id ∷ oem_table_id ∷ control_flags ∷ []) (map presence ps ++ (each field_points ps ++ each string_points ps)))

-- ---- the points of one pair

-- flags and fields by number, and strings by number, of every slot
fields-are : tabulate (λ (k : ℕ). field flags_at 1 ∷ (kind_of k).fields) 0 slot_count
    ≡ tabulate (λ (k : ℕ). tabulate (kind_field (kind_of k)) 0 (suc (length (kind_of k).fields))) 0 slot_count
unfolding computing
fields-are = refl

strings-are : tabulate (λ (k : ℕ). (kind_of k).string_fields) 0 slot_count
    ≡ tabulate (λ (k : ℕ). tabulate (λ (i : ℕ). string_of (first_entry k + i)) 0 (length (kind_of k).string_fields)) 0 slot_count
unfolding computing
strings-are = refl

map-gather : (f : Field → Point) (g : ℕ → Field) (k n : ℕ) → map f (tabulate g k n) ≡ gather (λ (i : ℕ). f (g i) ∷ []) k n
unfolding tabulate gather
map-gather f g k zero = refl
map-gather f g k (suc n) = ap (λ (l : List Point). f (g k) ∷ l) (map-gather f g (suc k) n)

strings-from : (p : Pair) (g : ℕ → StringField) (k n : ℕ) → string_points_from p k (tabulate g k n) ≡ gather (λ (i : ℕ). string_at p i (g i) ∷ []) k n
unfolding tabulate gather string_points_from
strings-from p g k zero = refl
strings-from p g k (suc n) = ap (λ (l : List Point). string_at p k (g k) ∷ l) (strings-from p g (suc k) n)

module _ (p : Pair) (h : p.group < slot_count) where
  pub fields-gather : field_points p ≡ gather (λ (n : ℕ). field_at p (kind_field (kind_of p.group) n) ∷ []) 0 (suc (length (kind_of p.group).fields))
  unfolding field_points
  fields-gather =
      ap (map (field_at p)) (tabulate-equal _ _ slot_count fields-are p.group h)
      ∙ map-gather (field_at p) (kind_field (kind_of p.group)) 0 (suc (length (kind_of p.group).fields))

  pub strings-gather : string_points p ≡ gather (λ (j : ℕ). string_at p j (string_of (first_entry p.group + j)) ∷ []) 0
      (length (kind_of p.group).string_fields)
  unfolding string_points
  strings-gather =
      ap (string_points_from p 0) (tabulate-equal _ _ slot_count strings-are p.group h)
      ∙ strings-from p (λ (j : ℕ). string_of (first_entry p.group + j)) 0 (length (kind_of p.group).string_fields)

  -- the points of an aspect, by number
  pub points-gather : (aspect : Aspect) → points_in aspect p ≡ gather (λ (n : ℕ). point_in aspect p n ∷ []) 0 (count_in aspect p)
  unfolding points_in count_in point_in gather
  points-gather Presence = refl
  points-gather Fields = fields-gather
  points-gather Strings = strings-gather
