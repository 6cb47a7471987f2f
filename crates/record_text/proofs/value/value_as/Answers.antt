-- `value_as` meets its contract, notation by notation. Assumes nothing.
use mathlib.Core.Path.{sym, ap, ◌∙◌}
use Rattle.octets.specs.Counting.{tabulate}
use Rattle.notation.specs.Value.{value_read}
use Rattle.notation.proofs.ValueLaws.{sixteen-whole, number-answer, string-answer}
use Rattle.notation.proofs.WidthLaws.{address-width}
use Rattle.record_text.specs.Value.{fits, value_bytes}
use Rattle.record_text.specs.declared.fields.Notation.{Notation}
use Rattle.record_text.proofs.ValueLaws.{oem-width, port-number}
use Rattle.record_text.proofs.value.value_as.Goals as goal

pub returns-in-Oem : goal.returns-in-Oem
unfolding value_bytes
returns-in-Oem c =
    rw c.in-Oem.is
    (c.string_value.ensures ∙ string-answer c.args.width c.args.text.now (oem-width _ _ c.in-Oem.is c.requires))

pub returns-in-Mode : goal.returns-in-Mode
unfolding value_bytes tabulate
returns-in-Mode c = rw c.in-Mode.is c.word_value.ensures

pub returns-in-Flags : goal.returns-in-Flags
unfolding value_bytes
returns-in-Flags c = rw c.in-Flags.is c.flags_value.ensures

pub returns-in-Number : goal.returns-in-Number
unfolding fits value_bytes
returns-in-Number c =
    let wide = sym (ap (λ (n : Notation). fits n c.args.width) c.in-Number.is) ∙ c.requires in
    rw c.in-Number.is (c.number_value.ensures ∙ number-answer c.args.width c.args.text.now wide)

pub returns-in-Port : goal.returns-in-Port
unfolding value_bytes
returns-in-Port c =
    rw c.in-Port.is
    (c.number_value-in-Port.ensures ∙ number-answer c.args.width c.args.text.now (port-number _ _ c.in-Port.is c.requires))

pub returns-in-Address : goal.returns-in-Address
unfolding value_bytes
returns-in-Address c = rw c.in-Address.is (c.read_address.ensures ∙ sixteen-whole _ (address-width c.args.text.now))

pub returns-in-Mac : goal.returns-in-Mac
unfolding value_bytes
returns-in-Mac c = rw c.in-Mac.is c.mac_value.ensures

pub returns-in-Pci : goal.returns-in-Pci
unfolding value_bytes
returns-in-Pci c = rw c.in-Pci.is c.pci_value.ensures

pub returns-in-Chap : goal.returns-in-Chap
unfolding value_bytes tabulate
returns-in-Chap c = rw c.in-Chap.is c.word_value-in-Chap.ensures

pub returns-in-Text : goal.returns-in-Text
unfolding value_bytes value_read
returns-in-Text c = rw c.in-Text.is
