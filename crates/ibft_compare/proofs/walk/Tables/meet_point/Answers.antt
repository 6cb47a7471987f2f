-- `Tables::meet_point` meets its contract, aspect by aspect. Assumes nothing.
use Rattle.std.proofs.Common.{arith}
use Rattle.ibft_compare.specs.Walk.{count_in, point_in}
use Rattle.ibft_compare.proofs.walk.Tables.meet_point.Goals as goal

pub meet_field-requires : goal.meet_field-requires
unfolding count_in
meet_field-requires c = let below = rw c.in-Fields.is at c.requires.1 in (c.requires.0, omega (arith, below), c.requires.2)

pub meet_string-requires : goal.meet_string-requires
unfolding count_in
meet_string-requires c = (c.requires.0, rw c.in-Strings.is at c.requires.1, c.requires.2)

pub returns-in-Presence : goal.returns-in-Presence
unfolding point_in
returns-in-Presence c = rw c.in-Presence.is c.meet_presence.ensures

pub returns-in-Fields : goal.returns-in-Fields
unfolding point_in
returns-in-Fields c = rw c.in-Fields.is c.meet_field.ensures

pub returns-in-Strings : goal.returns-in-Strings
unfolding point_in
returns-in-Strings c = rw c.in-Strings.is c.meet_string.ensures
