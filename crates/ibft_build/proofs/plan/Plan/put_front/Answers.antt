-- `Plan::put_front` meets its contract: Control stands right behind the header. Assumes nothing.
use Rattle.ibft_build.proofs.TableLaws.{front-is}
use Rattle.ibft_build.proofs.plan.Plan.put_front.Goals as goal

pub returns : goal.returns
returns c =
    front-is _ _ _ _ _ _ c.args.self.now.entries.readable.whole c.requires c.control_end-end.ensures.0 c.put_header.ensures c.put_control.ensures
