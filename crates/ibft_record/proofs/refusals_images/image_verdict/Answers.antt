-- `image_verdict` meets its contract: where the structure is present, the first of its two tests that fails. Assumes nothing.
use Rattle.std.proofs.Common.{sym, ◌∙◌}
use borrow.Author.Tests.{not-true, not-false}
use Rattle.ibft_record.proofs.RefusalLaws.{image-off, image-reserved, image-plain, image-chap, image-pass}
use Rattle.ibft_record.proofs.refusals_images.image_verdict.Goals as goal

pub returns-then-not-structure_given : goal.returns-then-not-structure_given
returns-then-not-structure_given c =
    sym (image-off c.args.range.now c.args.k (sym c.structure_given.ensures ∙ c.if-not-structure_given.true))

pub returns-then-byte_at-kind-ne0 : goal.returns-then-byte_at-kind-ne0
returns-then-byte_at-kind-ne0 c =
    let given = sym c.structure_given.ensures ∙ c.if-not-structure_given.false in
    rw c.slot_number.ensures at c.refuse.ensures
    ∙ image-reserved _ _ given _ c.image_at-image.ensures.0 _ c.kind_of-kind.ensures _ c.byte_at.ensures c.if-byte_at-kind-ne0.true

pub returns-then-not-kind : goal.returns-then-not-kind
returns-then-not-kind c =
    let given = sym c.structure_given.ensures ∙ c.if-not-structure_given.false in
    image-plain _ _ given _ c.image_at-image.ensures.0 _ c.kind_of-kind.ensures _ c.byte_at.ensures c.if-byte_at-kind-ne0.false
    (not-true _ c.if-not-kind.true)

pub returns-then-byte_at-gt-CHAP_LAST : goal.returns-then-byte_at-gt-CHAP_LAST
returns-then-byte_at-gt-CHAP_LAST c =
    let given = sym c.structure_given.ensures ∙ c.if-not-structure_given.false in
    rw c.slot_number-then-byte_at-gt-CHAP_LAST.ensures at c.refuse-then-byte_at-gt-CHAP_LAST.ensures
    ∙ image-chap _ _ given _ c.image_at-image.ensures.0 _ c.kind_of-kind.ensures _ c.byte_at.ensures c.if-byte_at-kind-ne0.false
    (not-false _ c.if-not-kind.false) _ c.byte_at-2.ensures c.if-byte_at-gt-CHAP_LAST.true

pub returns : goal.returns
returns c =
    let given = sym c.structure_given.ensures ∙ c.if-not-structure_given.false in
    image-pass _ _ given _ c.image_at-image.ensures.0 _ c.kind_of-kind.ensures _ c.byte_at.ensures c.if-byte_at-kind-ne0.false
    (not-false _ c.if-not-kind.false) _ c.byte_at-2.ensures c.if-byte_at-gt-CHAP_LAST.false
