-- `scan_for` meets its contract: each return is a case of the definition, and the promises follow from the definition's answer.
-- Assumes nothing.
use mathlib.Core.Path.{sym, ◌∙◌}
use native.Mathlib.Omega.{arith}
use Rattle.scan.proofs.ScanLaws.{scan-above, scan-none, scan-found, scan-promises}
use Rattle.scan.proofs.scan_for.Goals as goal

pub returns-then-f-address : goal.returns-then-f-address
returns-then-f-address c =
    let a = c.args in
    scan-promises _ _ _ (λ i. omega (arith, c.type_inv.mem i)) _
    (c.refused.ensures ∙ sym (scan-above a.f a.mem.now a.address (omega arith)))

pub returns-then-f-address-2 : goal.returns-then-f-address-2
returns-then-f-address-2 c =
    let a = c.args in
    scan-promises _ _ _ (λ i. omega (arith, c.type_inv.mem i)) _
    (c.refused-then-f-address-2.ensures ∙ sym (scan-above a.f a.mem.now a.address (omega arith)))

pub returns-then-mem-k : goal.returns-then-mem-k
returns-then-mem-k c =
    let a = c.args in
    scan-promises _ _ _ (λ i. omega (arith, c.type_inv.mem i)) _
    (c.refused-then-mem-k.ensures ∙ sym (scan-none a.f a.mem.now a.address (λ h. omega arith) (omega arith)))

pub returns : goal.returns
returns c =
    let a = c.args in
    let found = scan-found a.f a.mem.now a.address (λ h. omega arith) (omega arith) in
    let k = c.find-k.ensures in
    scan-promises _ _ _ (λ i. omega (arith, c.type_inv.mem i)) _ (cc)
