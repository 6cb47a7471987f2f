-- `extra_overlaps` meets its contract: no word below v overlaps, and v does or is w. Assumes nothing.
use Rattle.std.proofs.Common.{◌≡◌, ◌&&◌, ℕ, List, Bool, ltb, sym, ◌∙◌, arith, below_more, eq-eqb, ne_eqb}
use mathlib.Core.Bool.{and-false}
use Rattle.octets.specs.Counting.{first, any}
use Rattle.octets.proofs.CountingLaws.{any-yes, any-no, any_none, any-first, any_same}
use Rattle.ibft_layout.specs.Layout.{named_count}
use Rattle.ibft_table.specs.Table.{start_at, used_at, end_at}
use Rattle.ibft_table.specs.Check.{overlap}
use Rattle.ibft_table.proofs.CheckLaws.{shares-read}
use Rattle.ibft_table.proofs.check_overlaps.extra_overlaps.Goals as goal

-- word w is used, so what is left of the test is what the calls answer
module _ (t : List ℕ) (w start end : ℕ) (at : start ≡ start_at t w) (ends : end ≡ end_at t w) (used : start ≡ 0 → ⊥) where
  met : (v : ℕ) → used_at t v && (ltb (start_at t v) end && ltb start (end_at t v)) ≡ overlap t w v
  unfolding overlap used_at
  met v = rw (at, ends, ne_eqb (start_at t w) 0 (λ z. used (at ∙ z)))

  named-is : (b : Bool) → b ≡ any named_count (λ (v : ℕ). used_at t v && (ltb (start_at t v) end && ltb start (end_at t v)))
      → b ≡ any named_count (overlap t w)
  named-is b is = is ∙ any_same _ _ _ (λ v h. met v)

pub returns-then-start-eq0 : goal.returns-then-start-eq0
unfolding overlap used_at
returns-then-start-eq0 c =
    let a = c.args in
    sym (any-no a.w (overlap a.t.now a.w) (λ j h. simp (eq-eqb (start_at a.t.now a.w) 0 (omega arith), and-false)))

pub returns-then-shares_named : goal.returns-then-shares_named
returns-then-shares_named c =
    let a = c.args in
    let named = named-is a.t.now a.w _ _ c.start_at-start.ensures c.end_at-end.ensures c.if-start-eq0.false _ c.shares_named.ensures in
    let found = any-first named_count (overlap a.t.now a.w) (sym named ∙ c.if-shares_named.true) in
    sym (any-yes a.w (overlap a.t.now a.w) (first named_count (overlap a.t.now a.w)) (omega (arith, found.0)) found.1)

pub loop-v-init : goal.loop-v-init
loop-v-init c =
    let a = c.args in
    let named = named-is a.t.now a.w _ _ c.start_at-start.ensures c.end_at-end.ensures c.if-start-eq0.false _ c.shares_named.ensures in
    any_none named_count (overlap a.t.now a.w) (sym named ∙ c.if-shares_named.false)

pub returns-then-shares : goal.returns-then-shares
returns-then-shares c =
    let a = c.args in
    let l = c.loop-v in
    let read = shares-read a.t.now l.v _ _ _ _ _ c.shares.ensures c.start_at.ensures c.end_at.ensures in
    let is = met a.t.now a.w _ _ c.start_at-start.ensures c.end_at-end.ensures c.if-start-eq0.false l.v in
    sym (any-yes _ _ l.v (omega arith) (sym (read ∙ is) ∙ c.if-shares.true))

pub loop-v-preserved : goal.loop-v-preserved
loop-v-preserved c =
    let a = c.args in
    let l = c.loop-v in
    let read = shares-read a.t.now l.v _ _ _ _ _ c.shares.ensures c.start_at.ensures c.end_at.ensures in
    let is = met a.t.now a.w _ _ c.start_at-start.ensures c.end_at-end.ensures c.if-start-eq0.false l.v in
    below_more _ _ l.invariant (sym (read ∙ is) ∙ c.if-shares.false)

pub returns : goal.returns
returns c = sym (any-no _ _ (λ j h. c.loop-v.invariant j (omega arith)))
