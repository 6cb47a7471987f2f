-- `index_held` meets its contract. Assumes nothing.
use Rattle.record_text.proofs.TellLaws.{index-low, index-structure}
use Rattle.record_text.proofs.tell.Told.index_held.Goals as goal

pub returns-then-g-lt-FIRST_STRUCTURE : goal.returns-then-g-lt-FIRST_STRUCTURE
returns-then-g-lt-FIRST_STRUCTURE c = index-low _ _ c.if-g-lt-FIRST_STRUCTURE.true

pub returns : goal.returns
returns c =
    index-structure _ _ c.if-g-lt-FIRST_STRUCTURE.false c.requires _ c.args.self.now.are_its _ c.index_in.ensures
