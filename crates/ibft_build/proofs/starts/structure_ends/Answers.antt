-- `structure_ends` meets its contract: the elements passed are the ends, and the next one follows from the last. Assumes
-- nothing.
use Rattle.std.proofs.Common.{◌≡◌, ◌+◌, refl, ◌∙◌, arith}
use Rattle.ibft_layout.specs.Layout.{slot_count}
use Rattle.ibft_build.specs.Planning.{end_given, structure_ends}
use Rattle.ibft_build.proofs.ListLaws.{tabulate-done}
use Rattle.ibft_build.proofs.StartLaws.{extra-turn, end-first, ended-small, ended-more}
use Rattle.ibft_build.proofs.starts.structure_ends.Goals as goal

pub loop-j-init : goal.loop-j-init
loop-j-init c =
    record {
      long = refl;
      made = λ i h. let e : i ≡ 0 = omega arith in rw e (c.control_end-start.ensures.0 ∙ end-first _);
    }

pub end_after-requires : goal.end_after-requires
end_after-requires c = ended-small _ _ _ c.loop-j.invariant (omega arith)

pub loop-j-preserved : goal.loop-j-preserved
loop-j-preserved c = ended-more _ _ _ c.loop-j.invariant (omega arith) _ c.end_after.ensures

pub end_after_extra-requires : goal.end_after_extra-requires
end_after_extra-requires c =
    let l = c.loop-j-2 in (ended-small _ _ _ l.invariant (omega arith), extra-turn _ (omega arith) (omega arith) (λ l. omega arith))

pub loop-j-2-preserved : goal.loop-j-2-preserved
loop-j-2-preserved c = ended-more _ _ _ c.loop-j-2.invariant (omega arith) _ c.end_after_extra.ensures

pub end_after-requires-in-loop-j-3 : goal.end_after-requires-in-loop-j-3
end_after-requires-in-loop-j-3 c = ended-small _ _ _ c.loop-j-3.invariant (omega arith)

pub loop-j-3-preserved : goal.loop-j-3-preserved
loop-j-3-preserved c = ended-more _ _ _ c.loop-j-3.invariant (omega arith) _ c.end_after-in-loop-j-3.ensures

pub end_after_extra-requires-in-loop-j-4 : goal.end_after_extra-requires-in-loop-j-4
end_after_extra-requires-in-loop-j-4 c =
    let l = c.loop-j-4 in (ended-small _ _ _ l.invariant (omega arith), extra-turn _ (omega arith) (omega arith) (λ l. omega arith))

pub loop-j-4-preserved : goal.loop-j-4-preserved
loop-j-4-preserved c = ended-more _ _ _ c.loop-j-4.invariant (omega arith) _ c.end_after_extra-in-loop-j-4.ensures

pub returns : goal.returns
unfolding structure_ends
returns c =
    let l = c.loop-j-4 in
    tabulate-done (end_given c.args.range.now) l.ends (l.j + 1) l.invariant.made (slot_count + 1) l.invariant.long (omega arith)
