-- `unequal_part` meets its contract: of the left string no more bytes are the same than it has, so that all fits.
-- Assumes nothing.
use Rattle.std.proofs.Common.{◌≡◌, refl, ap, ap₂, ◌∙◌, ℕ, ◌+◌, ◌-◌, ◌≤◌, length, arith, eq-eqb, ne_eqb, rules}
use Rattle.octets.proofs.ReadLaws.{part-most}
use Rattle.octets.specs.Octets.{part}
use Rattle.ibft_compare.specs.Differences.{first_unequal, stretch}
use Rattle.ibft_compare.specs.Walk.{part_shown}
use Rattle.ibft_compare.proofs.compare.unequal_part.Goals as goal
use Rattle.ibft_compare.proofs.compare.unequal_part.Goals.{After-first_unequal-k}

-- of the bytes that are the same there are as many as the left string has, at most
within : (c : After-first_unequal-k) → c.first_unequal-k.result ≤ c.args.l.length
within c =
    let l = c.args.l in
    let most : length (part c.args.left.now l.start l.length) ≤ l.length = part-most _ l.start l.length in
    omega (arith, c.first_unequal-k.ensures.1, ap length c.part.ensures.bytes)

pub returns-then-l-eq0 : goal.returns-then-l-eq0
unfolding part_shown
returns-then-l-eq0 c = rw (eq-eqb c.args.l.start 0 c.if-l-eq0.true) c.no_stretch.ensures

pub returns-then-r-eq0 : goal.returns-then-r-eq0
unfolding part_shown
returns-then-r-eq0 c =
    let a = c.args in
    rw (ne_eqb a.l.start 0 c.if-l-eq0.false, eq-eqb a.r.start 0 c.if-r-eq0.true) refl

pub overflow_cast-result : goal.overflow_cast-result
overflow_cast-result c = let w = within c in search rules

pub overflow_add-result : goal.overflow_add-result
overflow_add-result c = let w = within (goal.at.overflow_add-result c).After-first_unequal-k in search rules

pub overflow_cast-result-2 : goal.overflow_cast-result-2
overflow_cast-result-2 c = let w = within (goal.at.overflow_cast-result-2 c).After-first_unequal-k in search rules

pub overflow_sub-result : goal.overflow_sub-result
overflow_sub-result c = let w = within (goal.at.overflow_sub-result c).After-first_unequal-k in search rules

pub returns : goal.returns
unfolding part_shown
returns c =
    let a = c.args in
    let same : c.first_unequal-k.result ≡ first_unequal (part a.left.now a.l.start a.l.length) (part a.right.now a.r.start a.r.length) =
    c.first_unequal-k.ensures.0 ∙ ap₂ first_unequal c.part.ensures.bytes c.part-2.ensures.bytes in
    rw (ne_eqb a.l.start 0 c.if-l-eq0.false, ne_eqb a.r.start 0 c.if-r-eq0.false)
    (ap (λ (k : ℕ). stretch (a.l.start + k) (a.l.length - k)) same)
