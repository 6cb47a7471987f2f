-- `put_what` meets its contract, by cases of the difference. Assumes nothing.
use Rattle.host_test_exports.specs.Laid.{laid_what}
use Rattle.host_test_exports.proofs.comparing.put_what.Goals as goal

pub returns-in-Nothing : goal.returns-in-Nothing
unfolding laid_what
returns-in-Nothing c =
    rw c.in-Nothing.is c.put_name.ensures

pub returns-in-OemId : goal.returns-in-OemId
unfolding laid_what
returns-in-OemId c =
    rw c.in-OemId.is c.put_name-in-OemId.ensures

pub returns-in-OemTableId : goal.returns-in-OemTableId
unfolding laid_what
returns-in-OemTableId c =
    rw c.in-OemTableId.is c.put_name-in-OemTableId.ensures

pub returns-in-ControlFlags : goal.returns-in-ControlFlags
unfolding laid_what
returns-in-ControlFlags c =
    rw c.in-ControlFlags.is c.put_name-in-ControlFlags.ensures

pub returns-in-Presence : goal.returns-in-Presence
unfolding laid_what
returns-in-Presence c =
    rw c.in-Presence.is c.put_name-in-Presence.ensures

pub returns-in-Field : goal.returns-in-Field
unfolding laid_what
returns-in-Field c =
    rw c.in-Field.is c.put_name-in-Field.ensures

pub returns-in-Entry : goal.returns-in-Entry
unfolding laid_what
returns-in-Entry c =
    rw c.in-Entry.is c.put_name-in-Entry.ensures
