-- `entry_start` meets its contract: by the word of a named slot, by `starts` of an extra. Assumes nothing.
use mathlib.Core.Path.{sym, ap, ◌∙◌}
use native.Mathlib.Omega.{arith}
use Rattle.ibft_layout.specs.Layout.{owner_of}
use Rattle.ibft_table.specs.Table.{start_at}
use Rattle.ibft_table.proofs.SeatLaws.{starts-named}
use Rattle.ibft_table.proofs.check_entries.entry_start.Goals as goal

pub returns-then-owner-lt-NAMED_COUNT : goal.returns-then-owner-lt-NAMED_COUNT
returns-then-owner-lt-NAMED_COUNT c =
    let a = c.args in
    let owner = c.owner_of-owner.ensures in
    c.start_at.ensures ∙ ap (start_at a.t.now) owner ∙ sym (starts-named a.t.now (owner_of a.n) (omega (arith, owner)))
