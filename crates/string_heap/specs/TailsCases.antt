-- Worked cases by computation: two strings, their agreement, and whether the first is a tail of the second.
use Rattle.std.specs.Prelude.{◌≡◌, refl, Bool, true, false, List, [], ◌∷◌, map, ℕ}
use Rattle.string_heap.specs.Tails.{agree, is_tail}
use Rattle.string_heap.specs.Computing.{computing}

record Case : Type 0 where
  a : List ℕ
  b : List ℕ
  agreement : ℕ
  tail : Bool

a_case : List ℕ → List ℕ → ℕ → Bool → Case
a_case x y n t = record { a = x; b = y; agreement = n; tail = t }

-- `depot7`, `depot` and `7`
depot7 : List ℕ
depot7 = 100 ∷ 101 ∷ 112 ∷ 111 ∷ 116 ∷ 55 ∷ []

depot : List ℕ
depot = 100 ∷ 101 ∷ 112 ∷ 111 ∷ 116 ∷ []

seven : List ℕ
seven = 55 ∷ []

cases : List Case
cases =
    -- the shorter is a tail; the agreement does not ask which is which
    a_case seven depot7 1 true
    ∷ a_case depot7 seven 1 false
    -- a front is no tail
    ∷ a_case depot depot7 0 false
    -- a string is its own tail, and an empty one is a tail of all
    ∷ a_case depot7 depot7 6 true
    ∷ a_case [] depot7 0 true
    ∷ a_case depot7 [] 0 false
    ∷ a_case [] [] 0 true
    -- the same front, and the same end behind a byte that differs
    ∷ a_case (1 ∷ 2 ∷ []) (1 ∷ 3 ∷ []) 0 false
    ∷ a_case (1 ∷ 2 ∷ 3 ∷ []) (9 ∷ 2 ∷ 3 ∷ []) 2 false
    ∷ a_case (1 ∷ 2 ∷ 3 ∷ []) (1 ∷ 9 ∷ 3 ∷ []) 1 false
    ∷ []

cases-hold : map (λ (c : Case). record { a = c.a; b = c.b; agreement = agree c.a c.b; tail = is_tail c.a c.b }) cases ≡ cases
unfolding computing a_case depot7 depot seven cases
cases-hold = refl
