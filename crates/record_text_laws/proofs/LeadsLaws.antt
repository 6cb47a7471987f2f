-- Lines read one after another: a text that ends at a line feed leads a reading of lines from one state to another, whatever
-- stands behind it.
--     leads-none, leads-append, leads-line      no line, two texts, a line
--     leads-gather                              texts by number, each from its state to the next
--     leads-end                                 and the text as a whole
-- Assumes nothing.
use mathlib.Core.Path.{◌≡◌, refl, ap, ◌∙◌}
use mathlib.Core.List.{List, [], ◌∷◌, ◌++◌, append-nil, append_assoc}
use mathlib.Core.Bool.{true}
use Prim.Native.Nat.{ℕ, zero, suc, ◌+◌, ◌<◌}
use native.Mathlib.Nat.{zero-add, add_assoc}
use native.Mathlib.Numerals.{one-add}
use native.Mathlib.Omega.{arith}
use Rattle.octets.specs.Counting.{gather}
use Rattle.octets.proofs.CountingLaws.{gather-last}
use Rattle.text.specs.Split.{is, pieces_by, pieces, lacks}
use Rattle.text.proofs.SplitLaws.{pieces-append}

-- a line and what stands behind its line feed
pieces-line : (line rest : List ℕ) → lacks (is 10) line ≡ true → pieces 10 (line ++ (10 ∷ rest)) ≡ line ∷ pieces 10 rest
unfolding pieces_by
pieces-line line rest h =
    pieces-append (is 10) line (10 ∷ rest) [] (pieces 10 rest) h refl ∙ ap (λ (l : List ℕ). l ∷ pieces 10 rest) (append-nil line)

-- a reading of lines from a state on, of which the first has number k
module _ {ℓ} {S A : Type ℓ} (run : S → ℕ → List (List ℕ) → A) where
  pub record Leads (s : S) (text : List ℕ) (s' : S) : Type ℓ where
    pub lines : ℕ
    pub on : (k : ℕ) (rest : List ℕ) → run s k (pieces 10 (text ++ rest)) ≡ run s' (lines + k) (pieces 10 rest)

  pub leads-none : (s : S) → Leads s [] s
  leads-none s = record { lines = 0; on = λ k rest. rw zero-add }

  pub leads-append : (s s' s'' : S) (x y : List ℕ) → Leads s x s' → Leads s' y s'' → Leads s (x ++ y) s''
  leads-append s s' s'' x y a b =
      record {
        lines = b.lines + a.lines;
        on = λ k rest. rw (append_assoc, a.on k (y ++ rest), b.on (a.lines + k) rest, add_assoc);
      }

  pub leads-line : (s s' : S) (line : List ℕ) → lacks (is 10) line ≡ true → ((k : ℕ) (ls : List (List ℕ)) → run s k (line ∷ ls) ≡ run s' (suc k) ls)
      → Leads s (line ++ (10 ∷ [])) s'
  leads-line s s' line h next =
      record { lines = 1; on = λ k rest. rw (append_assoc, pieces-line line rest h, next k (pieces 10 rest), one-add) }

  pub leads-gather : (f : ℕ → List ℕ) (at : ℕ → S) (n : ℕ) → ((i : ℕ) → i < n → Leads (at i) (f i) (at (suc i))) → Leads (at 0) (gather f 0 n) (at n)
  unfolding gather
  leads-gather f at zero step = leads-none (at 0)
  leads-gather f at (suc n) step =
      rw (gather-last, zero-add)
      (leads-append (at 0) (at n) (at (suc n)) (gather f 0 n) (f n) (leads-gather f at n (λ i h. step i (omega arith))) (step n (omega arith)))

  -- behind the last line feed stands an empty line
  pub leads-end : (s s' : S) (text : List ℕ) → (l : Leads s text s') → (k : ℕ) → run s k (pieces 10 text) ≡ run s' (l.lines + k) ([] ∷ [])
  unfolding pieces_by
  leads-end s s' text l k = rw append-nil at (l.on k [])
