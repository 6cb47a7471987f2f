-- `pci_value` meets its contract: the word that was read, or none. Assumes nothing.
use Rattle.std.proofs.Common.{sym, ap, ◌∙◌, Some, ℕ, List, length, arith}
use Rattle.std.specs.Prelude.{Option, option_map}
use Rattle.octets.specs.Octets.{le16}
use Rattle.octets.proofs.WordLaws.{le16-bytes}
use Rattle.notation.specs.Value.{sixteen, value_read}
use Rattle.notation.proofs.ValueLaws.{sixteen-bytes}
use Rattle.record_text.proofs.value.pci_value.Goals as goal

-- what is answered, by what was read
abbrev value : Option ℕ → Option (List ℕ)
value o = value_read (option_map le16 o)

pub returns-in_err-word : goal.returns-in_err-word
unfolding value_read
returns-in_err-word c = c.from_residual.ensures ∙ ap value (sym c.in_err-word.was ∙ c.read_pci.ensures)

pub returns : goal.returns
unfolding value_read
returns c =
    let word = c.to_le_bytes.ensures ∙ le16-bytes _ in
    ap Some (c.array_at.ensures ∙ sixteen-bytes _ (omega (arith, ap length word)) ∙ ap sixteen word)
    ∙ ap value (sym c.in_ok-word.was ∙ c.read_pci.ensures)
