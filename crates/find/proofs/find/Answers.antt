-- `find` is safe: the array that it lends has as many bytes as it says. (That is a lemma: to count so many would take long.)
-- Assumes nothing.
use Rattle.std.proofs.Common.{◌≡◌, ℕ, length, replicate, sym}
use lib.ListN.{length-replicate}
use Rattle.find.proofs.find.Goals as goal

counted : (n : ℕ) → n ≡ length (replicate {A = ℕ} n 0)
counted n = sym (length-replicate {A = ℕ} n 0)

pub slice_bounds-find_in-end : goal.slice_bounds-find_in-end
slice_bounds-find_in-end c = counted 1048577
