-- `put_as` meets its contract, notation by notation. Assumes nothing.
use mathlib.Core.Path.{◌≡◌, refl, sym, ap, ap₂, ◌∙◌}
use mathlib.Core.List.{List}
use Prim.Native.Nat.{ℕ}
use Rattle.octets.specs.Counting.{tabulate}
use Rattle.text.specs.Put.{Puts}
use Rattle.text.specs.Words.{word_at, word_set_text}
use Rattle.text.proofs.PutLaws.{puts-same}
use Rattle.notation.specs.Number.{digits}
use Rattle.notation.specs.Pci.{pci_text}
use Rattle.record_text.specs.Fields.{group_of}
use Rattle.record_text.specs.Value.{modes, chap_types, value_text}
use Rattle.record_text.specs.declared.fields.Notation.{Notation}
use Rattle.record_text.specs.declared.fields.Notation.TheVariants.{Oem, Mode, Flags, Number, Port, Address, Mac, Pci, Chap, Text}
use Rattle.record_text.proofs.value_text.put_as.Goals as goal

-- the text of a value of notation m, where n is m
row : {a b : List ℕ} {at r : ℕ} {text : List ℕ} (m n : Notation) (flags bytes : List ℕ) → Puts a b at r text → text ≡ value_text flags m bytes → n ≡ m
    → Puts a b at r (value_text flags n bytes)
row m n flags bytes p e h = puts-same p (e ∙ ap (λ (x : Notation). value_text flags x bytes) (sym h))

pub returns-in-Oem : goal.returns-in-Oem
unfolding value_text
returns-in-Oem c =
    let a = c.args in
    row Oem _ (group_of a.kind).flags a.bytes.now c.put_oem.ensures (refl) c.in-Oem.is

pub returns-in-Mode : goal.returns-in-Mode
unfolding value_text tabulate
returns-in-Mode c =
    let a = c.args in
    row Mode _ (group_of a.kind).flags a.bytes.now c.put_word.ensures
    (ap (word_at modes) c.byte_at.ensures) c.in-Mode.is

pub returns-in-Flags : goal.returns-in-Flags
unfolding value_text
returns-in-Flags c =
    let a = c.args in
    row Flags _ (group_of a.kind).flags a.bytes.now c.put_word_set.ensures
    (ap₂ word_set_text c.flags_of.ensures c.byte_at-in-Flags.ensures) c.in-Flags.is

pub returns-in-Number : goal.returns-in-Number
unfolding value_text
returns-in-Number c =
    let a = c.args in
    row Number _ (group_of a.kind).flags a.bytes.now c.put_decimal.ensures
    (ap (digits 10) c.u64_at.ensures) c.in-Number.is

pub returns-in-Port : goal.returns-in-Port
unfolding value_text
returns-in-Port c =
    let a = c.args in
    row Port _ (group_of a.kind).flags a.bytes.now c.put_decimal-in-Port.ensures
    (ap (digits 10) c.u64_at-in-Port.ensures) c.in-Port.is

pub returns-in-Address : goal.returns-in-Address
unfolding value_text
returns-in-Address c =
    let a = c.args in
    row Address _ (group_of a.kind).flags a.bytes.now c.put_address.ensures (refl) c.in-Address.is

pub returns-in-Mac : goal.returns-in-Mac
unfolding value_text
returns-in-Mac c =
    let a = c.args in
    row Mac _ (group_of a.kind).flags a.bytes.now c.put_mac.ensures (refl) c.in-Mac.is

pub returns-in-Pci : goal.returns-in-Pci
unfolding value_text
returns-in-Pci c =
    let a = c.args in
    row Pci _ (group_of a.kind).flags a.bytes.now c.put_pci.ensures
    (ap pci_text c.u16_at.ensures) c.in-Pci.is

pub returns-in-Chap : goal.returns-in-Chap
unfolding value_text tabulate
returns-in-Chap c =
    let a = c.args in
    row Chap _ (group_of a.kind).flags a.bytes.now c.put_word-in-Chap.ensures
    (ap (word_at chap_types) c.byte_at-in-Chap.ensures) c.in-Chap.is

pub returns-in-Text : goal.returns-in-Text
unfolding value_text
returns-in-Text c =
    let a = c.args in
    row Text _ (group_of a.kind).flags a.bytes.now c.put_string_text.ensures (refl) c.in-Text.is
