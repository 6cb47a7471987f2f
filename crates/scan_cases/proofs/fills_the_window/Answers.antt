-- `fills_the_window` is safe: the array that it lends has as many bytes as it says. (That is a lemma: to count so many would
-- take long.) Assumes nothing.
use mathlib.Core.Path.{◌≡◌, sym, ◌∙◌}
use Prim.Native.Nat.{ℕ}
use lib.ListN.{length, replicate, length-replicate}
use Rattle.scan_cases.proofs.fills_the_window.Goals as goal

counted : (n : ℕ) → n ≡ length (replicate {A = ℕ} n 0)
counted n = sym (length-replicate {A = ℕ} n 0)

pub slice_bounds-lay_table-end : goal.slice_bounds-lay_table-end
slice_bounds-lay_table-end g c = counted 524288

pub slice_bounds-scan_case-end-2 : goal.slice_bounds-scan_case-end-2
slice_bounds-scan_case-end-2 g c = counted 524288 ∙ sym c.lay_table.auto.mem
