-- `read_plain` meets its contract: room of seventeen bytes that ends at the sixteenth holds exactly sixteen. Assumes nothing.
use Rattle.std.proofs.Common.{true, refl, sym, ap, ◌∙◌, arith}
use Rattle.std.specs.Prelude.{Some}
use Rattle.notation.specs.Address.{groups, without_gap}
use Rattle.notation.proofs.GatherLaws.{exactly-yes, exactly-no}
use Rattle.notation.proofs.address.read_plain.Goals as goal

pub returns-then-gather_groups-ne16 : goal.returns-then-gather_groups-ne16
unfolding without_gap
returns-then-gather_groups-ne16 c =
    sym (exactly-no 16 _ refl (groups true c.args.s.now) c.gather_groups.ensures (λ f. omega arith))

pub returns : goal.returns
unfolding without_gap
returns c =
    ap Some c.array_at.ensures
    ∙ sym (exactly-yes 16 _ refl (groups true c.args.s.now) c.gather_groups.ensures (omega arith))
