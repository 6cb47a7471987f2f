-- `read_mapped` meets its contract: the four bytes behind ten zeros and two bytes 255. Assumes nothing.
use Rattle.std.proofs.Common.{sym, ap, ◌∙◌, List, ℕ}
use Rattle.std.specs.Prelude.{Some}
use Rattle.octets.specs.Octets.{zeros, bytes_past}
use Rattle.notation.specs.Address.{mapped, mapped_four}
use Rattle.notation.proofs.GatherLaws.{four-listed}
use Rattle.notation.proofs.address.read_mapped.Goals as goal

pub returns-in_err-b : goal.returns-in_err-b
returns-in_err-b c = c.from_residual.ensures ∙ sym (ap mapped_four (sym c.read_four.ensures ∙ c.in_err-b.was))

pub returns : goal.returns
unfolding zeros bytes_past
returns c =
    let found = sym c.read_four.ensures ∙ c.in_ok-b.was in
    ap (λ (xs : List ℕ). Some (mapped xs)) (four-listed c.args.s.now c.in_ok-b.b found) ∙ sym (ap mapped_four found)
