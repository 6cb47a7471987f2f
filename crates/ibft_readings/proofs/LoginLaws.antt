-- Laws of the login order: the order grows target by target, and so do the places that hold it.
--     order-none, order-all          nobody is passed: the lead alone; all are: the whole order
--     order-lead, order-invalid      one target more is passed, and not placed
--     place-left, placed-next        it is placed: a place is left for it, and holds it
-- Assumes nothing.
use mathlib.Core.Path.{◌≡◌, refl, sym, ap, ◌∙◌}
use mathlib.Core.List.{List, [], ◌∷◌, ◌++◌, append_assoc, append-nil}
use mathlib.Core.Bool.{Bool, true, false, cond, ◌&&◌, and-false}
use Prim.Native.Nat.{ℕ, zero, suc, ◌+◌, ◌-◌, ◌≤◌, ◌<◌}
use native.Mathlib.Numerals.{add-one}
use native.Mathlib.Nat.{zero-add}
use native.Mathlib.Decide.{dec_lt}
use native.Mathlib.Omega.{arith}
use lib.ListN.{length, get_or, set, length-set, length-append, get_or-append, get_or-eq_default}
use lib.Seq.{ext_get_or, get_or-set_same, get_or-set_other, get_or_at}
use lib.Dec.{ltb}
use borrow.Author.Tests.{eq-eqb, ne_eqb, lt-ltb, le-ltb}
use Rattle.octets.specs.Counting.{tabulate, gather}
use Rattle.octets.specs.Octets.{differs}
use Rattle.octets.proofs.CountingLaws.{length-tabulate, get_d_tabulate, gather-last}
use Rattle.ibft_layout.specs.Layout.{target_count}
use Rattle.ibft_readings.specs.Login.{valid, chosen, target_index, order_in, placed}
use Rattle.table_header.specs.Verdict.{Verdict}
use Rattle.ibft_readings.specs.declared.login.LoginOrder.{LoginOrder}

length-cond : (b : Bool) (n : ℕ) → length (cond b (n ∷ []) []) ≤ 1
length-cond true n = omega arith
length-cond false n = omega arith

-- ---- the order, with n targets passed

module _ (starts t : List ℕ) where
  abbrev takes : ℕ → List ℕ
  takes n = cond (valid starts t n && differs n (chosen starts t)) (target_index starts t n ∷ []) []

  abbrev pub lead : List ℕ
  lead = cond (ltb (chosen starts t) target_count) (target_index starts t (chosen starts t) ∷ []) []

  unfoldable pub order_to : ℕ → List ℕ
  order_to n = lead ++ gather takes 0 n

  pub order-all : order_to target_count ≡ order_in starts t
  unfolding order_to order_in
  order-all = refl

  pub order-none : lead ≡ order_to 0
  unfolding order_to gather
  order-none = sym (append-nil lead)

  order-last : (n : ℕ) → order_to (n + 1) ≡ order_to n ++ takes n
  unfolding order_to
  order-last n = rw (add-one n, gather-last takes 0 n, zero-add n) (sym (append_assoc lead (gather takes 0 n) (takes n)))

  order-more : (n : ℕ) → valid starts t n ≡ true → (n ≡ chosen starts t → ⊥) → order_to (n + 1) ≡ order_to n ++ (target_index starts t n ∷ [])
  order-more n good other = order-last n ∙ rw (good, ne_eqb n (chosen starts t) other)

  pub order-lead : (n : ℕ) → n ≡ chosen starts t → order_to (n + 1) ≡ order_to n
  order-lead n e = order-last n ∙ rw (eq-eqb n (chosen starts t) e, and-false) (append-nil (order_to n))

  pub order-invalid : (n : ℕ) → valid starts t n ≡ false → order_to (n + 1) ≡ order_to n
  order-invalid n bad = order-last n ∙ rw bad (append-nil (order_to n))

  -- at most one place for each target passed, and one for the lead, if there is one, until it is passed
  order-length : (n : ℕ) → length (order_to n) + (1 - (target_count - chosen starts t)) ≤ n + (1 - (n - chosen starts t))
  order-length zero =
      elim (dec_lt (chosen starts t) target_count) [
        | yes h ↦ rw (← order-none, lt-ltb (chosen starts t) target_count h) (omega arith)
        | no h ↦ rw (← order-none, le-ltb (chosen starts t) target_count (omega arith)) (omega arith)
      ]
  order-length (suc n) =
      let more : length (order_to (n + 1)) ≡ length (order_to n) + length (takes n) = ap length (order-last n) ∙ length-append (order_to n) (takes n) in
      let few : length (takes n) ≤ 1 = length-cond (valid starts t n && differs n (chosen starts t)) (target_index starts t n) in
      elim (dec_lt n (chosen starts t)) [
        | yes h ↦ rw (← add-one n) (omega (arith, order-length n))
        | no h ↦
            elim (dec_lt (chosen starts t) n) [
              | yes g ↦ rw (← add-one n) (omega (arith, order-length n))
              | no g ↦ rw (← add-one n) (omega (arith, order-length n, ap length (order-lead n (omega arith))))
            ]
      ]

  order-room : (n : ℕ) → n < target_count → (n ≡ chosen starts t → ⊥) → length (order_to n) < target_count
  order-room n h other = omega (arith, order-length n)

-- ---- places

module _ (order : List ℕ) (c n : ℕ) (room : length order < c) where
  abbrev filled : List ℕ
  filled = tabulate (λ (k : ℕ). get_or order k 255) 0 c

  abbrev longer : ℕ → ℕ
  longer k = get_or (order ++ (n ∷ [])) k 255

  place-more : (i : ℕ) → i < c → longer i ≡ get_or (set filled (length order) n) i 0
  place-more i h =
      let size = length-tabulate (λ (k : ℕ). get_or order k 255) 0 c in
      let kept : (i ≡ length order → ⊥) → get_or (set filled (length order) n) i 0 ≡ get_or order i 255 =
      λ other. get_or-set_other filled (length order) i n 0 other ∙ get_d_tabulate (λ (k : ℕ). get_or order k 255) c i 0 h in
      elim (dec_lt i (length order)) [
        | yes lt ↦ get_or-append order (n ∷ []) 255 i lt ∙ sym (kept (λ e. omega arith))
        | no ge ↦
            elim (dec_lt (length order) i) [
              | yes gt ↦
                  let none : length (order ++ (n ∷ [])) ≤ i = omega (arith, length-append order (n ∷ [])) in
                  let none' : length order ≤ i = omega arith in
                  get_or-eq_default (order ++ (n ∷ [])) 255 none ∙ sym (kept (λ e. omega arith) ∙ get_or-eq_default order 255 none')
              | no le ↦
                  let here : length order ≡ i = omega arith in
                  rw (← here) (get_or_at order n [] 255 (length order) refl ∙ sym (get_or-set_same filled (length order) n 0 (omega arith)))
            ]
      ]

  places-more : tabulate longer 0 c ≡ set filled (length order) n
  places-more =
      let size = length-tabulate longer 0 c in
      let same : length (set filled (length order) n) ≡ c = simp length-set (length-tabulate (λ (k : ℕ). get_or order k 255) 0 c) in
      ext_get_or 0 (tabulate longer 0 c) (set filled (length order) n) (size ∙ sym same)
      (λ i h. get_d_tabulate longer c i 0 (omega arith) ∙ place-more i (omega arith))

-- an order with target n behind those that are placed
abbrev pub behind : LoginOrder → ℕ → LoginOrder
behind o n = record { refusal = o.refusal; used = o.used + 1; places = set o.places o.used n }

placed-more : (v : Verdict) (order : List ℕ) (n : ℕ) → length order < target_count → placed v (order ++ (n ∷ [])) ≡ behind (placed v order) n
unfolding placed
placed-more v order n room = rw (length-append order (n ∷ []), places-more order target_count n room)

module _ (starts t : List ℕ) (v : Verdict) (n : ℕ) (low : n < target_count) (other : n ≡ chosen starts t → ⊥) where
  pub place-left : (placed v (order_to starts t n)).used < target_count
  unfolding placed
  place-left = order-room starts t n low other

  pub placed-next : valid starts t n ≡ true → placed v (order_to starts t (n + 1)) ≡ behind (placed v (order_to starts t n)) (target_index starts t n)
  placed-next good = rw (order-more starts t n good other) (placed-more v (order_to starts t n) (target_index starts t n) (order-room starts t n low other))
