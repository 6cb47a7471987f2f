-- `read_abft` meets its contract: the fields of what the verdict shows. Assumes nothing.
use Rattle.abft.specs.Abft.{abft_of}
use Rattle.abft.proofs.reading.read_abft.Goals as goal

pub returns : goal.returns
unfolding abft_of
returns c =
    rw (c.read.ensures, c.shown_of.ensures.result_value, c.refusal_of.ensures, c.check-verdict.ensures.verdict-is)
