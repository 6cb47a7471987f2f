-- `test_structure_view` meets its contract: it writes what the view shows. Assumes nothing.
use mathlib.Core.Path.{ap, ◌∙◌}
use lib.ListN.{length}
use Rattle.octets.specs.Octets.{write}
use Rattle.host_test_exports.proofs.view.test_structure_view.Goals as goal

pub returns : goal.returns
returns c =
    let shown = c.structure_view-view.ensures.view-is in
    record { value = ap length shown; written = c.put_bytes.ensures ∙ ap (write _ 0) shown }
