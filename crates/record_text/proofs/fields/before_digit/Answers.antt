-- `before_digit` meets its contract: the place of the first digit, or the length. Assumes nothing.
use Rattle.std.proofs.Common.{rules, tests, ◌≡◌, refl, ap, ◌∙◌, ℕ, suc, ◌+◌, ◌≤◌, Bool, true, false, cond, not, List, [], ◌∷◌, length, Option, Some, None, arith, ltb, ltb-false}
use Rattle.std.specs.Char.{is_ascii_digit}
use Rattle.std.specs.List.{position_or_len}
use Rattle.std.specs.Option.{unwrap_or}
use Rattle.std.proofs.lemmas.Iterator.{YieldsList-from_slice}
use Rattle.std.proofs.lemmas.Iterator.Search.{position_from_yields_List}
use Rattle.text.specs.Split.{before}
use Rattle.text.proofs.SplitLaws.{before-le}
use Rattle.record_text.specs.Fields.{is_digit}
use Rattle.record_text.proofs.fields.before_digit.Goals as goal

-- the same test
same-test : (b : ℕ) → is_ascii_digit b ≡ is_digit b
unfolding is_digit
same-test b = refl

first : (t : List ℕ) → position_or_len is_ascii_digit t ≡ before is_digit t
unfolding before
first [] = refl
first (b ∷ t) = go (is_digit b) (same-test b) (first t)
  where
    go : (d : Bool) → is_ascii_digit b ≡ d → position_or_len is_ascii_digit t ≡ before is_digit t
        → cond (not (is_ascii_digit b)) (1 + position_or_len is_ascii_digit t) 0 ≡ cond d 0 (suc (before is_digit t))
    go true e h = rw e
    go false e h = rw e (omega (arith, h))

-- the place, or the length where there is none
place : (n : ℕ) (t : List ℕ) → n ≤ length t → unwrap_or (cond (ltb n (length t)) (Some n) None) (length t) ≡ n
place n t h = go (ltb n (length t)) refl
  where
    go : (d : Bool) → ltb n (length t) ≡ d → unwrap_or (cond d (Some n) None) (length t) ≡ n
    go true e = refl
    go false e = omega (arith, ltb-false n (length t) e)

pub returns : goal.returns
returns c =
    let t = c.args.s.now in
    let at = position_from_yields_List is_ascii_digit _ _ _ c.position.ensures.ran (YieldsList-from_slice t c.iter.ensures.rest) (λ x b q k. search (rules, tests)) in
    let digit = first t in
    let low : position_or_len is_ascii_digit t ≤ length t = omega (arith, digit, before-le is_digit t) in
    let found : c.unwrap_or.result ≡ before is_digit t = c.unwrap_or.ensures ∙ ap (λ (o : Option ℕ). unwrap_or o (length t)) at ∙ place _ t low ∙ digit in
    (found, omega (arith, found, before-le is_digit t))
