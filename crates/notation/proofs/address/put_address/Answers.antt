-- `put_address` meets its contract: the last four bytes where it is IPv4-mapped, else the groups. Assumes nothing.
use mathlib.Core.Path.{sym, ap, ◌∙◌}
use native.Mathlib.Omega.{arith}
use Rattle.text.proofs.PutLaws.{puts-same}
use Rattle.notation.specs.Address.{six_text, address_text}
use Rattle.notation.specs.declared.address.Run.{Run}
use Rattle.notation.proofs.AddressLaws.{longest-zero}
use Rattle.notation.proofs.AddressPutLaws.{text-mapped, text-six}
use Rattle.notation.proofs.address.put_address.Goals as goal

pub returns-then-is_mapped : goal.returns-then-is_mapped
returns-then-is_mapped c =
    let a = c.array_at-a in
    puts-same c.put_numbers.ensures
    (text-mapped a.result (sym c.is_mapped.ensures ∙ c.if-is_mapped.true) ∙ ap address_text a.ensures)

pub put_six-requires : goal.put_six-requires
put_six-requires c =
    let l = c.longest_run-run in
    let a = c.array_at-a in
    let within = (longest-zero a.result 0 8).within in
    omega (arith, within, ap (λ (r : Run). r.start) l.ensures, ap (λ (r : Run). r.size) l.ensures)

pub returns : goal.returns
returns c =
    let a = c.array_at-a in
    puts-same c.put_six.ensures
    (ap (six_text a.result) c.longest_run-run.ensures
    ∙ text-six a.result (sym c.is_mapped.ensures ∙ c.if-is_mapped.false)
    ∙ ap address_text a.ensures)
