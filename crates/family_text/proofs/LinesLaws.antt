-- Laws of the lines of a text, as `split` gives them.
--     lines-most     a text has at most one line more than it has bytes
-- Assumes nothing.
use Rattle.std.proofs.Common.{◌≤◌, ◌+◌, ℕ, List, length, arith}
use Rattle.std.specs.List.{slice_split}
use Rattle.std.proofs.lemmas.List.Splits.{length-slice_split}
use Rattle.std.proofs.lemmas.List.Sums.{count_by-le-length}
use Rattle.text.specs.Split.{is}

pub lines-most : (text : List ℕ) → length (slice_split (is 10) text) ≤ length text + 1
lines-most text = omega (arith, length-slice_split (is 10) text, count_by-le-length (is 10) text)
