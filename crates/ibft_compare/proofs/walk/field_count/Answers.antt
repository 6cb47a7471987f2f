-- `field_count` meets its contract: there are three kinds, and their ID tells them apart. Assumes nothing.
use mathlib.Core.Path.{◌≡◌, sym, ap, ◌∙◌}
use Prim.Native.Nat.{suc}
use native.Mathlib.Omega.{arith}
use lib.ListN.{length}
use Rattle.ibft_layout.specs.Layout.{Kind, kind_of}
use Rattle.ibft_layout.proofs.LayoutLaws.{kind-nic, kind-target, kind-other}
use Rattle.ibft_layout.specs.declared.shape.Shape.{Shape}
use Rattle.ibft_compare.proofs.walk.field_count.Goals as goal

pub returns-then-id-eq-ID : goal.returns-then-id-eq-ID
returns-then-id-eq-ID c =
    let a = c.args in
    let id : (kind_of a.k).id ≡ 3 = sym (ap (λ (s : Shape). s.id) c.kind_of-id.ensures) ∙ c.if-id-eq-ID.true in
    (ap (λ (kind : Kind). suc (length kind.fields)) (kind-nic a.k id), omega arith)

pub returns-then-id-eq-ID-2 : goal.returns-then-id-eq-ID-2
returns-then-id-eq-ID-2 c =
    let a = c.args in
    let id : (kind_of a.k).id ≡ 4 = sym (ap (λ (s : Shape). s.id) c.kind_of-id.ensures) ∙ c.if-id-eq-ID-2.true in
    (ap (λ (kind : Kind). suc (length kind.fields)) (kind-target a.k id), omega arith)

pub returns : goal.returns
returns c =
    let a = c.args in
    let id = ap (λ (s : Shape). s.id) c.kind_of-id.ensures in
    (ap (λ (kind : Kind). suc (length kind.fields)) (kind-other a.k (λ e. c.if-id-eq-ID.false (id ∙ e)) (λ e. c.if-id-eq-ID-2.false (id ∙ e))), omega arith)
