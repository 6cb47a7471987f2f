-- `put_srp` meets its contract: the two ports are one call. Assumes nothing.
use Rattle.host_test_exports.specs.Laid.{laid_srp}
use Rattle.host_test_exports.proofs.sbft_readings.put_srp.Goals as goal

pub returns : goal.returns
unfolding laid_srp
returns c =
    c.put_addresses.ensures
