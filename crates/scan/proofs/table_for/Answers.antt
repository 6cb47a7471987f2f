-- `table_for` meets its contract: it shows the stretch that the scan found, whose start lies within the bytes lent.
-- Assumes nothing.
use native.Mathlib.Omega.{arith}
use Rattle.octets.proofs.ReadLaws.{part_none}
use Rattle.scan.proofs.ScanLaws.{found_within, shows_nothing, shows-table}
use mathlib.Core.Path.{◌∙◌}
use Rattle.scan.proofs.table_for.Goals as goal

pub returns-then-found-ne0 : goal.returns-then-found-ne0
returns-then-found-ne0 c =
    let a = c.args in
    let scanned = c.scan_for-found in
    shows_nothing a.f a.mem _ a.address scanned.result scanned.ensures.answer-is c.if-found-ne0.true
    (c.part.ensures.bytes ∙ part_none a.mem.now 0)

pub overflow_sub-found : goal.overflow_sub-found
overflow_sub-found c =
    let a = c.args in
    let scanned = c.scan_for-found in
    (found_within a.f a.mem.now a.address scanned.result scanned.ensures (omega arith)).1

pub returns : goal.returns
returns c =
    let a = c.args in
    let scanned = c.scan_for-found in
    let inside = found_within a.f a.mem.now a.address scanned.result scanned.ensures (omega arith) in
    shows-table a.f a.mem _ a.address scanned.result scanned.ensures.answer-is (omega arith)
    (c.part-2.ensures.shows (omega arith))
