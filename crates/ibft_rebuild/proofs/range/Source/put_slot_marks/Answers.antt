-- `Source::put_slot_marks` meets its contract: the marks of the slots passed are written. Assumes nothing.
use mathlib.Core.Path.{◌≡◌, refl, ap, ◌∙◌}
use Prim.Native.Nat.{ℕ}
use native.Mathlib.Omega.{arith}
use Rattle.octets.specs.Counting.{tabulate}
use Rattle.octets.specs.Octets.{differs, write}
use Rattle.octets.proofs.CountingLaws.{length-tabulate}
use Rattle.octets.proofs.WriteLaws.{length-written}
use Rattle.ibft_layout.specs.Layout.{named_count}
use Rattle.ibft_table.specs.Table.{present_in}
use Rattle.ibft_build_rules.specs.Rebuild.{mark}
use Rattle.ibft_rebuild.proofs.RangeWriteLaws.{marks-none, marks-next}
use Rattle.ibft_rebuild.proofs.range.Source.put_slot_marks.Goals as goal

pub loop-k-init : goal.loop-k-init
loop-k-init c = record { same_length = refl; wrote = marks-none _ _ _ _ }

pub loop-k-preserved : goal.loop-k-preserved
unfolding present_in
loop-k-preserved c =
    let l = c.loop-k in
    let s = c.args.self.now.starts.now in
    let next =
    marks-next (λ (j : ℕ). mark (present_in s j)) 0 _ _ l.k _ _ _ _ _ l.invariant.wrote (omega arith) (omega arith)
    (c.mark.ensures.0 ∙ ap (λ (x : ℕ). mark (differs x 0)) c.start_in.ensures) c.put_byte.ensures in
    record { same_length = length-written _ _ _ _ next; wrote = next }

pub returns : goal.returns
returns c =
    let l = c.loop-k in
    let a = c.args in
    let s = a.self.now.starts.now in
    let all : l.k ≡ named_count = omega arith in
    record {
      bytes = l.invariant.wrote ∙ ap (λ (n : ℕ). write a.range.now a.at (tabulate (λ (j : ℕ). mark (present_in s j)) 0 n)) all;
      ends = omega (arith, length-tabulate (λ (j : ℕ). mark (present_in s j)) 0 named_count);
    }
