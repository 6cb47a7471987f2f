-- `put_nic` meets its contract: each value is written right behind the one before. Assumes nothing.
use mathlib.Core.List.{[], ◌∷◌}
use Rattle.host_test_exports.specs.Laid.{laid_nic}
use Rattle.host_test_exports.proofs.PutsLaws.{behind-both}
use Rattle.host_test_exports.proofs.nic.put_nic.Goals as goal

pub returns : goal.returns
unfolding laid_nic
returns c =
    let n = c.args.n in
    behind-both (n.flags ∷ n.address) (n.prefix ∷ n.origin ∷ []) c.put_nic_address.ensures
    (behind-both n.gateway n.dns c.put_addresses.ensures
    (behind-both n.second_dns n.dhcp c.put_addresses-2.ensures c.put_nic_device.ensures))
