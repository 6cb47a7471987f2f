-- `put_pci` meets its contract: the bus, and behind it the rest. Assumes nothing.
use Rattle.text.proofs.PutLaws.{puts-append}
use Rattle.notation.specs.Pci.{pci_text}
use Rattle.notation.proofs.pci.put_pci.Goals as goal

pub returns : goal.returns
unfolding pci_text
returns c =
    puts-append c.put_hex_byte-next.ensures c.put_device.ensures
