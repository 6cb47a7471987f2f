-- `index_verdict` meets its contract. After the k-th test has passed the verdict of all tests is that of the tests behind it.
-- Assumes nothing.
use mathlib.Core.Path.{sym, ◌∙◌}
use Prim.Native.Nat.{◌+◌}
use native.Mathlib.Omega.{arith}
use borrow.Author.Tests.{lt-ltb, le-ltb, lt-leb, le-leb}
use Rattle.octets.specs.Octets.{byte}
use Rattle.ibft_layout.specs.Layout.{extra_most, least_index}
use Rattle.table_header.specs.Verdict.{first_of}
use Rattle.ibft_record.proofs.refusals_extras.index_verdict.Goals as goal

pub returns-then-i-ge-EXTRA_MOST : goal.returns-then-i-ge-EXTRA_MOST
unfolding first_of
returns-then-i-ge-EXTRA_MOST c = c.refuse.ensures ∙ sym (rw (le-leb extra_most c.args.i (omega arith)))

pub returns-then-index-lt-LEAST_INDEX : goal.returns-then-index-lt-LEAST_INDEX
unfolding first_of
returns-then-index-lt-LEAST_INDEX c =
    let a = c.args in
    let r = a.range.now in
    c.refuse-then-index-lt-LEAST_INDEX.ensures
    ∙ sym (rw (lt-leb extra_most a.i (omega arith), lt-ltb (byte r (a.at + 4)) least_index (omega arith)))

pub returns-then-i-eq0 : goal.returns-then-i-eq0
unfolding first_of
returns-then-i-eq0 c =
    let a = c.args in
    let r = a.range.now in
    sym (rw (lt-leb extra_most a.i (omega arith), le-ltb (byte r (a.at + 4)) least_index (omega arith), le-ltb 0 a.i (omega arith)))

pub returns-then-index-byte_at : goal.returns-then-index-byte_at
unfolding first_of
returns-then-index-byte_at c =
    let a = c.args in
    let r = a.range.now in
    c.refuse-then-index-byte_at.ensures
    ∙ sym (rw (
      lt-leb extra_most a.i (omega arith),
      le-ltb (byte r (a.at + 4)) least_index (omega arith),
      lt-ltb 0 a.i (omega arith),
      le-leb (byte r (a.at + 4)) (byte r (a.earlier + 4)) (omega arith),
    ))

pub returns : goal.returns
unfolding first_of
returns c =
    let a = c.args in
    let r = a.range.now in
    sym (rw (
      lt-leb extra_most a.i (omega arith),
      le-ltb (byte r (a.at + 4)) least_index (omega arith),
      lt-ltb 0 a.i (omega arith),
      lt-leb (byte r (a.at + 4)) (byte r (a.earlier + 4)) (omega arith),
    ))
