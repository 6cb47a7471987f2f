-- `is_pairs` meets its contract: the pairs passed are there. Assumes nothing.
use Rattle.std.proofs.Common.{sym, ap, ◌∙◌, ◌*◌, arith, below_more}
use Rattle.std.specs.Prelude.{is_some}
use Rattle.notation.specs.Number.{hex_byte_at}
use Rattle.notation.specs.Pairs.{is_read}
use Rattle.notation.proofs.PairsLaws.{some-there, none-there, form-length, pairs-formless, pairs-missing, pairs-there}
use Rattle.notation.proofs.pairs.is_pairs.Goals as goal

pub returns-then-not-pairs_form : goal.returns-then-not-pairs_form
unfolding is_read
returns-then-not-pairs_form c =
    rw (pairs-formless c.args.n c.args.s.now (sym c.pairs_form.ensures ∙ c.if-not-pairs_form.true))

-- three times the pairs is the text's size and one more
pub overflow_mul-k : goal.overflow_mul-k
overflow_mul-k c =
    omega (arith, form-length c.args.n c.args.s.now (sym c.pairs_form.ensures ∙ c.if-not-pairs_form.false))

pub returns-then-is_none : goal.returns-then-is_none
unfolding is_read
returns-then-is_none c =
    let t = c.args.s.now in
    let k = c.loop-k.k in
    rw (pairs-missing c.args.n t k (omega arith)
    (none-there (hex_byte_at t (3 * k)) _ (ap is_some (sym c.read_hex_byte.ensures) ∙ c.is_none.ensures) c.if-is_none.true))

pub loop-k-preserved : goal.loop-k-preserved
loop-k-preserved c =
    let t = c.args.s.now in
    let l = c.loop-k in
    below_more _ l.k l.invariant
    (some-there (hex_byte_at t (3 * l.k)) _ (ap is_some (sym c.read_hex_byte.ensures) ∙ c.is_none.ensures) c.if-is_none.false)

pub returns : goal.returns
unfolding is_read
returns c =
    let form = sym c.pairs_form.ensures ∙ c.if-not-pairs_form.false in
    rw (pairs-there c.args.n c.args.s.now form (λ j h. c.loop-k.invariant j (omega arith)))
