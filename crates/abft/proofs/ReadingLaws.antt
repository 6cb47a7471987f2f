-- The reading of a table that the check accepts gives what the table means: it is shown all of the table. Assumes nothing.
use Rattle.table_header.specs.Verdict.{shown}
use Rattle.abft.specs.Abft.{abft_of}
use Rattle.abft.specs.Promises.{ReadsRecord}

pub reads-record : ReadsRecord
unfolding abft_of shown
reads-record t e = rw e
