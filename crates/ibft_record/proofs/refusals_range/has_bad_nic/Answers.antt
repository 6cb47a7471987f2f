-- `has_bad_nic` meets its contract: no extra NIC below i has a bad mark, and the i-th has or i is their number. Assumes
-- nothing.
use Rattle.std.proofs.Common.{ℕ, ◌+◌, length, sym, ap, ◌∙◌, arith}
use Rattle.octets.proofs.CountingLaws.{any-yes, any-no}
use Rattle.ibft_layout.specs.Layout.{nic}
use Rattle.ibft_build_rules.specs.Refusals.{bad_mark}
use Rattle.ibft_record.proofs.refusals_range.has_bad_nic.Goals as goal

pub returns-then-has_bad_mark : goal.returns-then-has_bad_mark
returns-then-has_bad_mark c =
    let is = c.has_bad_mark.ensures
    ∙ ap (λ (image : ℕ). bad_mark c.args.range.now (image + nic.length) (length nic.string_fields)) c.nic_image.ensures.0 in
    sym (any-yes _ _ c.loop-i.i (omega arith) (sym is ∙ c.if-has_bad_mark.true))

pub returns : goal.returns
returns c = sym (any-no _ _ (λ j h. c.loop-i.invariant j (omega arith)))
