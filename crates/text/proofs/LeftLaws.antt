-- Laws of what is left to an iterator that gives a list.
--     left-some, left-none     the next item is the list's first; there is none where the list is empty
-- Assumes nothing.
use mathlib.Core.Path.{◌≡◌, refl, sym, ap}
use mathlib.Core.List.{List, [], ◌∷◌}
use Rattle.std.specs.Prelude.{Option, Some, None}
use Rattle.std.proofs.lemmas.Iterator.{YieldsList}

module _ {S A B : Type 0} {steps : S → Option A → S → Type 0} {v : A → B} {s : S} where
  pub left-some : {ys : List B} → YieldsList steps v s ys → (x : A) (t : S) → steps s (Some x) t
      → (zs : List B) × (ys ≡ v x ∷ zs) × YieldsList steps v t zs
  left-some {ys = []} gives x t h = absurd (gives.runs x t h)
  left-some {ys = y ∷ zs} gives x t h =
      let item = gives.runs.1 x t h in
      (zs, ap (λ (b : B). b ∷ zs) (sym item.0), record { runs = item.1 })

  pub left-none : {ys : List B} → YieldsList steps v s ys → (t : S) → steps s None t → ys ≡ []
  left-none {ys = []} gives t h = refl
  left-none {ys = y ∷ zs} gives t h = absurd (gives.runs.0 t h)
