-- `overlaps_earlier` meets its contract: no part below i shares a byte, and i does or is k. Assumes nothing.
use mathlib.Core.Path.{sym, ◌∙◌}
use native.Mathlib.Omega.{arith}
use Rattle.octets.proofs.CountingLaws.{any-yes, any-no}
use Rattle.sbft.proofs.check.overlaps_earlier.Goals as goal

pub returns-then-overlap : goal.returns-then-overlap
returns-then-overlap c =
    sym (any-yes _ _ c.loop-i.i (omega arith) (sym c.overlap.ensures ∙ c.if-overlap.true))

pub returns : goal.returns
returns c = sym (any-no _ _ (λ j h. c.loop-i.invariant j (omega arith)))
