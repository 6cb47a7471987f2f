-- `read_pairs` meets its contract: the pairs passed are the bytes stored. Assumes nothing.
use Rattle.std.proofs.Common.{refl, sym, ◌∙◌, length, arith, length-set, get_or-set_same, get_or-set_other, below_more}
use Rattle.notation.specs.Pairs.{is_read, read_into, read_pairs}
use Rattle.notation.proofs.PairsLaws.{unread-none, pairs-size, pairs-stored}
use Rattle.notation.proofs.pairs.read_pairs.Goals as goal

pub returns-then-not-is_pairs : goal.returns-then-not-is_pairs
unfolding is_read read_into
returns-then-not-is_pairs c =
    rw (unread-none (read_pairs (length c.args.bytes.now) c.args.s.now)
    (sym c.is_pairs.ensures ∙ c.if-not-is_pairs.true))
    (refl, refl)

pub overflow_mul-k : goal.overflow_mul-k
overflow_mul-k c =
    omega (
      arith,
      pairs-size (length c.args.bytes.now) c.args.s.now
          (sym c.is_pairs.ensures ∙ c.if-not-is_pairs.false),
    )

pub loop-k-preserved : goal.loop-k-preserved
loop-k-preserved c =
    let l = c.loop-k in
    let v = c.pair_at.result in (
      simp length-set l.invariant.0,
      below_more _ l.k
          (λ j h. get_or-set_other l.bytes l.k j v 0 (omega arith) ∙ l.invariant.1 j h)
          (get_or-set_same l.bytes l.k v 0 (omega arith) ∙ c.pair_at.ensures),
    )

pub returns : goal.returns
unfolding is_read read_into
returns c =
    let l = c.loop-k in
    let read = sym c.is_pairs.ensures ∙ c.if-not-is_pairs.false in
    rw (pairs-stored (length c.args.bytes.now) c.args.s.now l.bytes read l.invariant.0 (λ j h. l.invariant.1 j (omega arith)))
    (refl, refl)
