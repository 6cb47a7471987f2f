-- `split_pci` meets its contract: a mask of ones is a remainder. Assumes nothing.
use Prim.Native.Nat.{◌/◌}
use lib.Bits.{and_mask}
use Rattle.ibft_readings.specs.Readings.{pci_of}
use Rattle.ibft_readings.proofs.pci.split_pci.Goals as goal

pub returns : goal.returns
unfolding pci_of
returns c = cc (and_mask (c.args.word / 8) 5, and_mask c.args.word 3)
