-- `Source::put_entry_marks` meets its contract: the marks of the entries passed are written. Assumes nothing.
use mathlib.Core.Path.{◌≡◌, refl, ap, ◌∙◌}
use Prim.Native.Nat.{ℕ}
use native.Mathlib.Omega.{arith}
use Rattle.octets.specs.Octets.{write}
use Rattle.octets.proofs.WriteLaws.{length-written}
use Rattle.ibft_table.specs.Table.{holds_in}
use Rattle.ibft_build_rules.specs.Rebuild.{mark, marks_in}
use Rattle.ibft_rebuild.proofs.RangeWriteLaws.{marks-none, marks-next, marks-length}
use Rattle.ibft_rebuild.proofs.range.Source.put_entry_marks.Goals as goal

pub loop-i-init : goal.loop-i-init
unfolding marks_in
loop-i-init c = record { same_length = refl; wrote = marks-none _ _ _ _ }

pub loop-i-preserved : goal.loop-i-preserved
unfolding marks_in
loop-i-preserved c =
    let l = c.loop-i in
    let a = c.args in
    let next =
    marks-next (λ (j : ℕ). mark (holds_in a.self.now.starts.now a.self.now.table.now j)) a.first _ _ l.i _ _ _ _ _ l.invariant.wrote (omega arith) (omega arith)
    (c.mark.ensures.0 ∙ ap mark c.holds_entry.ensures) c.put_byte.ensures in
    record { same_length = length-written _ _ _ _ next; wrote = next }

pub returns : goal.returns
returns c =
    let l = c.loop-i in
    let a = c.args in
    let all : l.i ≡ a.count = omega arith in
    record {
      bytes = l.invariant.wrote ∙ ap (λ (n : ℕ). write a.range.now a.at (marks_in a.self.now.starts.now a.self.now.table.now a.first n)) all;
      ends = omega (arith, marks-length a.self.now.starts.now a.self.now.table.now a.first a.count);
    }
