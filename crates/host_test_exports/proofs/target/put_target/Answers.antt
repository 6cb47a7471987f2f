-- `put_target` meets its contract: each value is written right behind the one before. Assumes nothing.
use mathlib.Core.List.{◌∷◌, ◌++◌}
use Rattle.octets.specs.Octets.{le16, le64}
use Rattle.host_test_exports.specs.Laid.{laid_target}
use Rattle.host_test_exports.proofs.PutsLaws.{behind, behind-both}
use Rattle.host_test_exports.proofs.target.put_target.Goals as goal

pub returns : goal.returns
unfolding laid_target
returns c =
    let t = c.args.t in
    behind-both (t.flags ∷ t.address) (le16 t.socket ++ le64 t.lun) c.put_target_address.ensures
    (behind c.put_target_login.ensures (behind c.put_texts.ensures c.put_texts-2.ensures))
