-- `kind_at` meets its contract: by number, or by the ID that stands there. Assumes nothing.
use native.Mathlib.Omega.{arith}
use borrow.Author.Tests.{lt-ltb, le-ltb, eq-eqb, ne_eqb}
use Rattle.ibft_table.specs.Table.{kind_at}
use Rattle.ibft_table.proofs.words.kind_at.Goals as goal

pub returns-then-w-lt-NAMED_COUNT : goal.returns-then-w-lt-NAMED_COUNT
unfolding kind_at
returns-then-w-lt-NAMED_COUNT c = rw (lt-ltb c.args.w 5 (omega arith)) c.kind_of.ensures

pub returns-then-byte_at-eq-ID : goal.returns-then-byte_at-eq-ID
unfolding kind_at
returns-then-byte_at-eq-ID c =
    rw (
      le-ltb c.args.w 5 (omega arith),
      ← c.start_at.ensures,
      ← c.byte_at.ensures,
      eq-eqb _ _ c.if-byte_at-eq-ID.true,
    )

pub returns : goal.returns
unfolding kind_at
returns c =
    rw (
      le-ltb c.args.w 5 (omega arith),
      ← c.start_at.ensures,
      ← c.byte_at.ensures,
      ne_eqb _ _ c.if-byte_at-eq-ID.false,
    )
