-- `difference_view` meets its contract: the stretch that the reading shows lies within the left table, or is none. Assumes
-- nothing.
use mathlib.Core.Path.{◌≡◌, ap, ap₂, ◌∙◌}
use mathlib.Core.Logic.{⊎_elim}
use Prim.Native.Nat.{◌≤◌}
use native.Mathlib.Omega.{arith}
use lib.ListN.{length}
use Rattle.octets.specs.Octets.{part}
use Rattle.octets.proofs.ReadLaws.{part_none}
use Rattle.ibft_compare.specs.declared.difference.DifferenceReading.{DifferenceReading}
use Rattle.ibft_compare.specs.declared.difference.Stretch.{Stretch}
use Rattle.ibft_compare.specs.Compare.{shown_of, difference_of, view_of}
use Rattle.ibft_compare.proofs.CompareLaws.{shown-lies}
use Rattle.ibft_compare.proofs.compare.difference_view.Goals as goal

pub returns : goal.returns
unfolding difference_of view_of
returns c =
    let a = c.args in
    let left = a.left.now in
    let right = a.right.now in
    let s = shown_of left right a.k in
    let is = ap (λ (d : DifferenceReading). d.shown) c.difference.ensures in
    let start = ap (λ (x : Stretch). x.start) is in
    let size = ap (λ (x : Stretch). x.length) is in
    let bytes : c.part.result.now ≡ part left s.start s.length = c.part.ensures.bytes ∙ ap₂ (part left) start size in
    let inside : s.start ≤ length left = ⊎_elim (λ z. omega (arith, z.0)) (λ z. omega (arith, z.1)) (shown-lies left right a.k) in
    record {
      view-is = bytes;
      shows = λ h. rw (start, size) at (c.part.ensures.shows (omega arith));
      empty = λ z. ⊎_elim (λ e. bytes ∙ ap (part left s.start) e.1 ∙ part_none left s.start) (λ e. absurd (e.0 z)) (shown-lies left right a.k);
    }
