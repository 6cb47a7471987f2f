-- `is_host_name` meets its contract: what `label` says of the bytes from place 0 on, it says of them all.
-- Assumes nothing.
use borrow.Author.Rules.{rules}
use Rattle.hostname.specs.Hostname.{is_host_name}
use Rattle.hostname.proofs.is_host_name.Goals as goal

pub returns : goal.returns
unfolding is_host_name
returns c = search rules
