-- `read_mac` meets its contract: six pairs. Assumes nothing.
use Rattle.std.proofs.Common.{sym, ◌∙◌}
use Rattle.notation.specs.Mac.{read_mac}
use Rattle.notation.specs.Pairs.{read_pairs}
use Rattle.notation.proofs.PairsLaws.{read-some, unread-none}
use Rattle.notation.proofs.mac.read_mac.Goals as goal

pub returns-then-read_pairs : goal.returns-then-read_pairs
unfolding read_mac
returns-then-read_pairs c =
    read-some (read_pairs 6 c.args.s.now) _ (sym c.read_pairs.ensures.0 ∙ c.if-read_pairs.true) c.read_pairs.ensures.1

pub returns-else-read_pairs : goal.returns-else-read_pairs
unfolding read_mac
returns-else-read_pairs c = sym (unread-none (read_pairs 6 c.args.s.now) (sym c.read_pairs.ensures.0 ∙ c.if-read_pairs.false))
