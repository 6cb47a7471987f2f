-- `part` meets its contract: no bytes past the end, all that is left where there are no more, else the part itself.
-- Assumes nothing.
use Rattle.std.proofs.Common.{sym, refl, ◌∙◌, arith, rules}
use native.Mathlib.Nat.{add-sub_cancel_left}
use Rattle.octets.specs.Octets.{part}
use Rattle.octets.proofs.ReadLaws.{take_rest, part-past, part-rest}
use Rattle.octets.proofs.read.part.Goals as goal

pub returns-then-s-start : goal.returns-then-s-start
returns-then-s-start c =
    let a = c.args in
    record { bytes = sym (part-past a.s.now a.start a.size (omega arith)); shows = λ h. absurd (omega arith) }

pub returns-then-s-start-2 : goal.returns-then-s-start-2
returns-then-s-start-2 c =
    let a = c.args in
    let bytes = take_rest a.start a.s.now ∙ sym (part-rest a.s.now a.start a.size c.if-s-start-2.true) in
    record { bytes = bytes; shows = λ h. record { bytes = bytes; block = refl; place = search rules } }

pub returns : goal.returns
unfolding part
returns c =
    record {
      bytes = rw add-sub_cancel_left;
      shows = λ h. record { bytes = rw add-sub_cancel_left; block = refl; place = search rules };
    }
