-- `extra_starts` meets its contract. Assumes nothing.
use mathlib.Core.Path.{refl, sym, ◌∙◌}
use Rattle.octets.specs.Octets.{zeros}
use Rattle.ibft_table.proofs.SeatLaws.{words-none, starts_none, start-blank}
use Rattle.ibft_table.proofs.check_entries.extra_starts.Goals as goal

pub returns-then-table-eq-NAMED_COUNT : goal.returns-then-table-eq-NAMED_COUNT
unfolding zeros
returns-then-table-eq-NAMED_COUNT c =
    let t = c.args.table.t.now in
    (refl, λ k h. start-blank k ∙ sym (starts_none t (words-none t c.args.table.words c.args.table.words_is c.if-table-eq-NAMED_COUNT.true) k h))
