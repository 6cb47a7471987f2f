-- `hides` meets its contract, by its tests. Assumes nothing.
use Rattle.std.proofs.Common.{length, sym, ◌∙◌, arith, eq-eqb, ne_eqb}
use Rattle.octets.specs.Counting.{tabulate}
use Rattle.text.specs.Split.{same}
use Rattle.bench_io.specs.Words.{hides}
use Rattle.bench_io.proofs.hides.Goals as goal

pub returns-then-word-eq0 : goal.returns-then-word-eq0
unfolding hides
returns-then-word-eq0 c = sym (rw (eq-eqb (length c.args.word.now) 0 c.if-word-eq0.true))

pub returns-then-same : goal.returns-then-same
unfolding hides tabulate same
returns-then-same c =
    sym (rw (ne_eqb (length c.args.word.now) 0 c.if-word-eq0.false, sym c.same.ensures ∙ c.if-same.true))

pub returns : goal.returns
unfolding hides tabulate same
returns c =
    sym (rw (ne_eqb (length c.args.word.now) 0 c.if-word-eq0.false, sym c.same.ensures ∙ c.if-same.false))
