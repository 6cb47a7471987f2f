-- The next Index above another: what a filter keeps is above it, and the least of that is the next one.
--     next-byte, no-byte              of two strings, what the least byte that the filter keeps is; where it keeps none
--     none-between                    from the bytes of a group to the Indexes of a table
--     match-option, both-options      a weaker fact of an option; two facts of one
-- Assumes nothing.
use Rattle.std.proofs.Common.{◌≡◌, refl, sym, ap, ◌∙◌, ℕ, zero, suc, ◌+◌, ◌≤◌, ◌<◌, List, [], ◌∷◌, ◌++◌, Bool, true, false, cond, ltb, length, get_or, arith, MatchOption, Option, None, Some}
use native.Mathlib.Decide.{dec_lt}
use Rattle.std.specs.List.{All, filter}
use Rattle.std.specs.Option.{IsSomeAnd, option_map}
use Rattle.std.proofs.lemmas.Bool.{ltb-true, lt-ltb}
use Rattle.std.proofs.lemmas.List.{get_or-append-add, get_or_append_left, get_or_past, length-append}
use Rattle.std.proofs.lemmas.List.Elements.{filter_passes}
use Rattle.octets.specs.Octets.{part}
use Rattle.octets.proofs.ReadLaws.{part_at}
use Rattle.ibft_layout.specs.Layout.{extra_most}
use Rattle.ibft_compare.specs.Walk.{NoneAbove, NoneBetween}

pub match-option : {A : Type 0} (r : Option A) (N N' : Type 0) (P P' : A → Type 0) → (N → N') → ((x : A) → P x → P' x) → MatchOption r N P → MatchOption r N' P'
match-option None N N' P P' n p h = n h
match-option (Some x) N N' P P' n p h = p x h

pub both-options : {A : Type 0} (r : Option A) (N M : Type 0) (P Q : A → Type 0) → MatchOption r N P → MatchOption r M Q → MatchOption r (N × M) (λ x. P x × Q x)
both-options None N M P Q a b = (a, b)
both-options (Some x) N M P Q a b = (a, b)

-- what the filter keeps
abbrev kept : ℕ → List ℕ → List ℕ
kept after s = filter (λ x. ltb after x) s

-- where all that it keeps is m or above, no byte is between
none-above : (after m : ℕ) (s : List ℕ) → All (λ x. m ≤ x) (kept after s) → NoneAbove s after m
none-above after m [] h i l above = absurd (omega arith)
none-above after m (x ∷ s) h i l above = go (ltb after x) refl (none-above after m s) h i l above
  where
    go : (b : Bool) → ltb after x ≡ b → (All (λ y. m ≤ y) (kept after s) → NoneAbove s after m)
        → All (λ y. m ≤ y) (cond b (x ∷ kept after s) (kept after s)) → NoneAbove (x ∷ s) after m
    go true e rest h zero l above = h 0 0 (omega arith)
    go true e rest h (suc i) l above = rest (λ k d below. h (suc k) d (omega arith)) i (omega arith) above
    go false e rest h zero l above = absurd (let z : ◌≡◌ {A = Bool} true false = sym (lt-ltb after x above) ∙ e in cc)
    go false e rest h (suc i) l above = rest h i (omega arith) above

both-sides : (l r : List ℕ) (after m : ℕ) → NoneAbove (l ++ r) after m → NoneAbove l after m × NoneAbove r after m
both-sides l r after m none = (
  λ i h above. let same = get_or_append_left l r 0 i h in omega (arith, none i (omega (arith, length-append l r)) (omega (arith, same)), same),
  λ i h above. let same = get_or-append-add l r i 0 in omega (arith, none (length l + i) (omega (arith, length-append l r)) (omega (arith, same)), same),
)

read-is : (o : Option ℕ) (x m : ℕ) → option_map (λ y. y) o ≡ Some x → IsSomeAnd o (λ y. y ≡ m) → x ≡ m
read-is None x m e h = absurd h
read-is (Some y) x m e h = let same : y ≡ x = cc in sym same ∙ h

-- the least of what is kept of two strings: a byte of it, at k, with none below
pub next-byte : (l r items : List ℕ) (after m k : ℕ) (o : Option ℕ) → items ≡ kept after (l ++ r) → k < length items → option_map (λ y. y) o ≡ Some (get_or items k 0)
    → IsSomeAnd o (λ y. y ≡ m) → All (λ x. m ≤ x) (kept after (l ++ r)) → (after < m) × NoneAbove l after m × NoneAbove r after m
next-byte l r items after m k o is h reads here least =
    let passes : ltb after (get_or items k 0) ≡ true = rw is (filter_passes (λ x. ltb after x) (l ++ r) k 0 (rw is at h)) in
    let at : get_or items k 0 ≡ m = read-is o (get_or items k 0) m reads here in
    let sides = both-sides l r after m (none-above after m (l ++ r) least) in
    (omega (arith, ltb-true after (get_or items k 0) passes, at), sides.0, sides.1)

-- nothing is kept
pub no-byte : (l r items : List ℕ) (after m : ℕ) → items ≡ kept after (l ++ r) → length items ≡ 0 → NoneAbove l after m × NoneAbove r after m
no-byte l r items after m is none =
    both-sides l r after m (none-above after m (l ++ r) (λ k d h. absurd (omega (arith, ap (λ (s : List ℕ). length s) is))))

module _ (s : List ℕ) (group after m : ℕ) (none : NoneAbove (part s group extra_most) after m) where
  -- a byte above `after` is not behind the end
  within : (t : List ℕ) (i : ℕ) → after < get_or t i 0 → i < length t
  within t i above =
      elim (dec_lt i (length t)) [
        | yes l ↦ l
        | no l ↦ absurd (omega (arith, get_or_past t i 0 (omega arith)))
      ]

  -- of the Indexes of a group
  pub none-between : NoneBetween s group after m
  none-between i h above =
      let at : get_or (part s group extra_most) i 0 ≡ get_or s (group + i) 0 = part_at s group extra_most i h in
      let l : i < length (part s group extra_most) = within (part s group extra_most) i (omega arith) in
      omega (arith, none i l (omega arith), at)
