-- `string_count` meets its contract: a target has five strings, a structure of another kind has one. Assumes nothing.
use mathlib.Core.Path.{◌≡◌, sym, ap, ◌∙◌}
use native.Mathlib.Decide.{ℕ_discrete}
use native.Mathlib.Omega.{arith}
use lib.ListN.{length}
use Rattle.ibft_layout.specs.Layout.{Kind, kind_of}
use Rattle.ibft_layout.proofs.LayoutLaws.{kind-nic, kind-target, kind-other}
use Rattle.ibft_layout.specs.declared.shape.Shape.{Shape}
use Rattle.ibft_compare.proofs.walk.string_count.Goals as goal

pub returns-then-kind_of-eq-ID : goal.returns-then-kind_of-eq-ID
returns-then-kind_of-eq-ID c =
    let a = c.args in
    let id : (kind_of a.k).id ≡ 4 = sym (ap (λ (s : Shape). s.id) c.kind_of.ensures) ∙ c.if-kind_of-eq-ID.true in
    (ap (λ (kind : Kind). length kind.string_fields) (kind-target a.k id), omega arith)

pub returns : goal.returns
returns c =
    let a = c.args in
    let id = ap (λ (s : Shape). s.id) c.kind_of.ensures in (
      elim (ℕ_discrete (kind_of a.k).id 3) [
        | yes e ↦ ap (λ (kind : Kind). length kind.string_fields) (kind-nic a.k e)
        | no e ↦ ap (λ (kind : Kind). length kind.string_fields) (kind-other a.k e (λ f. c.if-kind_of-eq-ID.false (id ∙ f)))
      ],
      omega arith,
    )
