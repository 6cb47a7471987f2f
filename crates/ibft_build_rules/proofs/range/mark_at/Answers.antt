-- `mark_at` meets its contract: behind the image, in the order of the strings. Assumes nothing.
use mathlib.Core.Path.{◌∙◌, ap}
use Prim.Native.Nat.{ℕ}
use native.Mathlib.Omega.{arith}
use Rattle.ibft_layout.specs.Layout.{kind_of, first_entry}
use Rattle.ibft_layout.specs.declared.shape.Shape.{Shape}
use Rattle.ibft_build_rules.proofs.RecordRangeLaws.{mark-named, mark-extra, owner-short, owner-first}
use Rattle.ibft_build_rules.proofs.range.mark_at.Goals as goal

pub returns-then-n-lt-NAMED_ENTRIES : goal.returns-then-n-lt-NAMED_ENTRIES
returns-then-n-lt-NAMED_ENTRIES c = mark-named _ _ (omega arith)

pub overflow_add-behind : goal.overflow_add-behind
overflow_add-behind c =
    let n = c.args.n in
    let long = ap (λ (s : Shape). s.length) c.kind_of.ensures ∙ ap (λ (k : ℕ). (kind_of k).length) c.owner_of-owner.ensures in
    omega (arith, long, owner-short n)

pub overflow_sub-result : goal.overflow_sub-result
overflow_sub-result c =
    let n = c.args.n in
    let first = c.first_entry.ensures ∙ ap first_entry c.owner_of-owner.ensures in
    omega (arith, first, owner-first n)

pub overflow_add-result-2 : goal.overflow_add-result-2
overflow_add-result-2 c =
    let n = c.args.n in
    let long = ap (λ (s : Shape). s.length) c.kind_of.ensures ∙ ap (λ (k : ℕ). (kind_of k).length) c.owner_of-owner.ensures in
    omega (arith, long, owner-short n)

pub returns : goal.returns
returns c =
    rw (c.image_at.ensures.0, c.kind_of.ensures, c.first_entry.ensures, c.owner_of-owner.ensures)
    (mark-extra _ _ (omega arith))
