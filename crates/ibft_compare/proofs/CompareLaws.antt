-- The comparing of two tables: both accepted, the list is that of their records; what is shown of a difference is found from
-- where the two tables have it.
--     both-accepted, list-accepted, list-refused     by the verdict on both
--     compares                                       the promise of `compare`
--     shown-start, shown-first                       what is shown of the first of some differences
--     shown-lies                                     it lies inside the left table, or is nothing
--     unequal-le                                     the first unequal byte of two strings is at most behind the first one
-- Assumes nothing.
use Rattle.std.specs.Prelude.{Ok, Err}
use mathlib.Core.Path.{◌≡◌, refl, sym, ap, ◌∙◌}
use mathlib.Core.Bool.{Bool, true, false, cond}
use mathlib.Core.Logic.{◌⊎◌, inl, inr}
use mathlib.Core.List.{List, [], ◌∷◌}
use Prim.Native.Nat.{ℕ, zero, suc, ◌+◌, ◌≤◌, ◌<◌, min}
use native.Mathlib.Omega.{arith}
use borrow.Author.Tests.{ne_eqb}
use lib.ListN.{length, drop}
use Rattle.octets.specs.Octets.{byte, part, differs}
use Rattle.octets.proofs.CountingLaws.{clash, first-le}
use Rattle.octets.proofs.TestLaws.{same_differs}
use Rattle.table_header.specs.Verdict.{refusal_of, Verdict, Accepted, Refused}
use Rattle.table_header.specs.declared.verdict.Refusal.{Refusal}
use Rattle.ibft_layout.specs.Layout.{first_entry, owner_of}
use Rattle.ibft_table.specs.Table.{starts_of, present_in, end_in, offset_in, start_of, field_of, offset_of, size_of, holds_entry}
use Rattle.ibft_table.specs.Check.{check_of}
use Rattle.ibft_table.specs.Record.{shown_if, content_in, content_of}
use Rattle.ibft_table_laws.proofs.LayoutLaws.{entry-fits}
use Rattle.ibft_table_laws.proofs.TableLaws.{entry-owner-on, holds-below, length-le, heap-end, entry_kept, entry_length}
use Rattle.ibft_compare.specs.declared.difference.Compared.{Compared}
use Rattle.ibft_compare.specs.declared.difference.Stretch.{Stretch}
use Rattle.ibft_compare.specs.Pairs.{pairs_in, pairs_of}
use Rattle.ibft_compare.specs.Points.{Point, oem_id, oem_table_id, control_flags, presence, field_at, string_at, points, name_of}
use Rattle.ibft_compare.specs.Differences.{first_unequal, differing, stretch, nothing, unequal_part, shown_at}
use Rattle.ibft_compare.specs.Compare.{both_verdict, verdict_of, between, list_from, list_of, compared_of, entry_stretch, stretch_in}
use Rattle.ibft_compare.specs.Compare.{left_stretch, right_stretch, shown_stretch, first_name, first_stretch, shown_of}
use Rattle.ibft_compare.specs.Walk.{indices_of, part_shown, shown_by}
use Rattle.ibft_compare.specs.Promises.{Compares}
use Rattle.ibft_compare.proofs.OrderLaws.{list-rises}
use Rattle.ibft_compare.proofs.SameLaws.{none-same}

-- ---- the verdict on both

module _ (left right : List ℕ) where
  pub both-accepted : verdict_of left right ≡ Accepted → (check_of left ≡ Accepted) × (check_of right ≡ Accepted)
  unfolding verdict_of both_verdict
  both-accepted e = go (check_of left) (check_of right) e
    where
      go : (l r : Verdict) → both_verdict l r ≡ Accepted → (l ≡ Accepted) × (r ≡ Accepted)
      go (Ok u) r e = (refl, e)
      go (Err x) r e = absurd (let z : ◌≡◌ {A = ℕ} 0 1 = cc in omega arith)

  pub list-accepted : verdict_of left right ≡ Accepted → list_of left right
      ≡ differing (content_of left) (content_of right) (points (pairs_in (indices_of left) (indices_of right)))
  unfolding list_of list_from between pairs_of content_of content_in
  list-accepted e = ap (list_from left right) e

  by-records : check_of left ≡ Accepted → check_of right ≡ Accepted → list_of left right ≡ between (content_of left) (content_of right)
  unfolding list_of list_from verdict_of both_verdict
  by-records l r = rw (l, r) refl

  pub list-refused : (x : Refusal) → verdict_of left right ≡ Refused x → list_of left right ≡ []
  unfolding list_of list_from
  list-refused x e = ap (list_from left right) e

  pub compares : ((i : ℕ) → byte left i < 256) → ((i : ℕ) → byte right i < 256) → (answer : Compared) → answer
      ≡ compared_of left right → Compares left right answer
  unfolding compared_of refusal_of
  compares lefts rights answer is =
      let count : answer.count ≡ length (list_of left right) = ap (λ (c : Compared). c.count) is in
      record {
        answer-is = is;
        none-same =
            λ l r.
            let same = none-same left right lefts rights l r in
            let whole : answer.count ≡ length (between (content_of left) (content_of right)) = count ∙ ap (λ (ps : List Point). length ps) (by-records l r) in
            (λ z. same.0 (sym whole ∙ z), λ e. whole ∙ same.1 e);
        in_order = list-rises left right;
        refused = λ h. count ∙ empty (verdict_of left right) refl (λ z. h (ap (λ (c : Compared). c.refusal.number) is ∙ z));
      }
    where
      empty : (v : Verdict) → verdict_of left right ≡ v → ((refusal_of (verdict_of left right)).number ≡ 0 → ⊥) → length (list_of left right) ≡ 0
      empty (Ok u) e refused = absurd (refused (ap (λ (v : Verdict). (refusal_of v).number) e))
      empty (Err x) e refused = ap (λ (ps : List Point). length ps) (list-refused x e)

-- ---- what is shown

-- an entry that an accepted table has does not stand at 0
entry_past : (t : List ℕ) → check_of t ≡ Accepted → (n : ℕ) → holds_entry t n ≡ true → offset_of t n ≡ 0 → ⊥
unfolding present_in end_in
entry_past t ok n on z =
    let h = holds-below t n on in
    let owner = entry-owner-on t n on in
    let low = (entry_kept t ok n h on).low in
    let end = heap-end t ok (owner_of n) (entry-fits n h).owner owner in
    clash owner (same_differs (start_of t (owner_of n)) 0 (omega arith))

module _ (left right : List ℕ) (lefts : (i : ℕ) → byte left i < 256) where
  -- where the left table has it: of an entry a 16-bit number
  pub shown-start : (ps : List Point) → (shown_by (first_name ps) (first_stretch (left_stretch left) ps)).start < 65536
  unfolding shown_by first_name first_stretch name_of stretch_in entry_stretch offset_in
  shown-start [] = omega arith
  shown-start (oem_id ∷ ps) = omega arith
  shown-start (oem_table_id ∷ ps) = omega arith
  shown-start (control_flags ∷ ps) = omega arith
  shown-start (presence p ∷ ps) = omega arith
  shown-start (field_at p f ∷ ps) = omega arith
  shown-start (string_at p j s ∷ ps) = go (holds_entry left n)
    where
      n : ℕ
      n = first_entry p.left + j

      go : (b : Bool) → (cond b (stretch (offset_of left n) (size_of left n)) nothing).start < 65536
      go true = omega (arith, lefts (field_of left n + 2), lefts (field_of left n + 2 + 1))
      go false = omega arith

module _ (left right : List ℕ) (l : check_of left ≡ Accepted) (r : check_of right ≡ Accepted) where
  -- an entry's stretches, and what the records say of it
  entry-shown : (n m : ℕ) → part_shown left (entry_stretch (starts_of left) left n) right (entry_stretch (starts_of right) right m)
      ≡ unequal_part (offset_of left n) ((content_of left).entry n) ((content_of right).entry m)
  unfolding part_shown entry_stretch unequal_part content_of content_in
  entry-shown n m = go (holds_entry left n) (holds_entry right m) refl refl
    where
      x : List ℕ
      x = part left (offset_of left n) (size_of left n)

      y : List ℕ
      y = part right (offset_of right m) (size_of right m)

      go : (a b : Bool) → holds_entry left n ≡ a → holds_entry right m ≡ b
          → part_shown left (cond a (stretch (offset_of left n) (size_of left n)) nothing) right (cond b (stretch (offset_of right m) (size_of right m)) nothing)
          ≡ unequal_part (offset_of left n) (shown_if a x) (shown_if b y)
      go false b on on' = refl
      go true false on on' =
          rw (ne_eqb (offset_of left n) 0 (entry_past left l n on), entry_length left l n (holds-below left n on) on) refl
      go true true on on' =
          rw (
            ne_eqb (offset_of left n) 0 (entry_past left l n on),
            ne_eqb (offset_of right m) 0 (entry_past right r m on'),
            entry_length left l n (holds-below left n on) on,
          ) refl

  pub shown-first : (ps : List Point) → shown_by (first_name ps)
      (part_shown left (first_stretch (left_stretch left) ps) right (first_stretch (right_stretch right) ps))
      ≡ first_stretch (shown_stretch left right) ps
  unfolding shown_by first_name first_stretch name_of stretch_in shown_at
  shown-first [] = refl
  shown-first (oem_id ∷ ps) = refl
  shown-first (oem_table_id ∷ ps) = refl
  shown-first (control_flags ∷ ps) = refl
  shown-first (presence p ∷ ps) = refl
  shown-first (field_at p f ∷ ps) = refl
  shown-first (string_at p j s ∷ ps) = entry-shown (first_entry p.left + j) (first_entry p.right + j)

-- a stretch of the table, or nothing
abbrev Inside : List ℕ → Stretch → Type 0
Inside t s = ((s.start ≡ 0) × (s.length ≡ 0)) ⊎ ((s.start ≡ 0 → ⊥) × (s.start + s.length ≤ length t))

pub unequal-le : (x y : List ℕ) → first_unequal x y ≤ length x
unfolding first_unequal
unequal-le x y = omega (arith, first-le (min (length x) (length y)) (λ (k : ℕ). differs (byte x k) (byte y k)))

module _ (left right : List ℕ) (l : check_of left ≡ Accepted) where
  entry-inside : (n m : ℕ) → Inside left (unequal_part (offset_of left n) ((content_of left).entry n) ((content_of right).entry m))
  unfolding unequal_part content_of content_in
  entry-inside n m = go (holds_entry left n) (holds_entry right m) _ refl
    where
      ends : holds_entry left n ≡ true → offset_of left n + length (part left (offset_of left n) (size_of left n)) ≤ length left
      ends on =
          let h = holds-below left n on in
          omega (arith, (entry_kept left l n h on).high, length-le left l, entry_length left l n h on)

      go : (a b : Bool) (y : List ℕ) → holds_entry left n ≡ a
          → Inside left (unequal_part (offset_of left n) (shown_if a (part left (offset_of left n) (size_of left n))) (shown_if b y))
      go false b y on = inl (refl, refl)
      go true false y on = inr (entry_past left l n on, ends on)
      go true true y on =
          let few = unequal-le (part left (offset_of left n) (size_of left n)) y in
          inr (λ z. entry_past left l n on (omega arith), omega (arith, ends on, few))

  shown-inside : (ps : List Point) → Inside left (first_stretch (shown_stretch left right) ps)
  unfolding first_stretch shown_at
  shown-inside [] = inl (refl, refl)
  shown-inside (oem_id ∷ ps) = inl (refl, refl)
  shown-inside (oem_table_id ∷ ps) = inl (refl, refl)
  shown-inside (control_flags ∷ ps) = inl (refl, refl)
  shown-inside (presence p ∷ ps) = inl (refl, refl)
  shown-inside (field_at p f ∷ ps) = inl (refl, refl)
  shown-inside (string_at p j s ∷ ps) = entry-inside (first_entry p.left + j) (first_entry p.right + j)

pub shown-lies : (left right : List ℕ) (k : ℕ) → Inside left (shown_of left right k)
unfolding shown_of first_stretch
shown-lies left right k = go (verdict_of left right) refl
  where
    nothing_left : (k : ℕ) → Inside left (first_stretch (shown_stretch left right) (drop k []))
    nothing_left zero = inl (refl, refl)
    nothing_left (suc k) = inl (refl, refl)

    go : (v : Verdict) → verdict_of left right ≡ v → Inside left (first_stretch (shown_stretch left right) (drop k (list_of left right)))
    go (Ok u) e = shown-inside left right (both-accepted left right e).0 (drop k (list_of left right))
    go (Err x) e = rw (list-refused left right x e) (nothing_left k)
