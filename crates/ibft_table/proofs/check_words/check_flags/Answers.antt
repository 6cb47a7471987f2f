-- `check_flags` meets its contract: the first of its tests that fails. Assumes nothing.
use Rattle.std.proofs.Common.{◌∙◌}
use borrow.Author.Tests.{not-true, not-false}
use Rattle.ibft_table.proofs.CheckLaws.{flags-reserved, flags-plain, flags-chap, flags-pass}
use Rattle.ibft_table.proofs.check_words.check_flags.Goals as goal

pub returns-then-byte_at-kind-ne0 : goal.returns-then-byte_at-kind-ne0
returns-then-byte_at-kind-ne0 c =
    let a = c.args in
    c.refuse.ensures
    ∙ flags-reserved a.t.now a.w _ c.start_at-start.ensures _ c.kind_at-kind.ensures _ c.byte_at.ensures c.if-byte_at-kind-ne0.true

pub returns-then-not-kind : goal.returns-then-not-kind
returns-then-not-kind c =
    let a = c.args in
    flags-plain a.t.now a.w _ c.start_at-start.ensures _ c.kind_at-kind.ensures _ c.byte_at.ensures c.if-byte_at-kind-ne0.false
    (not-true _ c.if-not-kind.true)

pub returns-then-byte_at-gt-CHAP_LAST : goal.returns-then-byte_at-gt-CHAP_LAST
returns-then-byte_at-gt-CHAP_LAST c =
    let a = c.args in
    c.refuse-then-byte_at-gt-CHAP_LAST.ensures
    ∙ flags-chap a.t.now a.w _ c.start_at-start.ensures _ c.kind_at-kind.ensures _ c.byte_at.ensures c.if-byte_at-kind-ne0.false
    (not-false _ c.if-not-kind.false) _ c.byte_at-2.ensures c.if-byte_at-gt-CHAP_LAST.true

pub returns : goal.returns
returns c =
    let a = c.args in
    flags-pass a.t.now a.w _ c.start_at-start.ensures _ c.kind_at-kind.ensures _ c.byte_at.ensures c.if-byte_at-kind-ne0.false
    (not-false _ c.if-not-kind.false) _ c.byte_at-2.ensures c.if-byte_at-gt-CHAP_LAST.false
