-- `point_count` meets its contract, aspect by aspect. Assumes nothing.
use Rattle.std.proofs.Common.{arith}
use Rattle.ibft_compare.specs.Walk.{count_in}
use Rattle.ibft_compare.proofs.walk.point_count.Goals as goal

pub returns-in-Presence : goal.returns-in-Presence
unfolding count_in
returns-in-Presence c = (rw c.in-Presence.is, omega arith)

pub returns-in-Fields : goal.returns-in-Fields
unfolding count_in
returns-in-Fields c = (rw c.in-Fields.is c.field_count.ensures.0, c.field_count.ensures.1)

pub returns-in-Strings : goal.returns-in-Strings
unfolding count_in
returns-in-Strings c = (rw c.in-Strings.is c.string_count.ensures.0, omega (arith, c.string_count.ensures.1))
