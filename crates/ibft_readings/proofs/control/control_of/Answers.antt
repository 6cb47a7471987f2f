-- `control_of` meets its contract: byte 5 of the part from 48 on is byte 53. Assumes nothing.
use mathlib.Core.Path.{ap, ◌∙◌}
use Prim.Native.Nat.{ℕ}
use mathlib.Core.List.{List}
use native.Mathlib.Omega.{arith}
use lib.ListN.{length}
use lib.Seq.{get_or-drop}
use Rattle.octets.specs.Octets.{byte}
use Rattle.octets.proofs.ReadLaws.{part-rest}
use Rattle.ibft_layout.specs.declared.control.Control.{Control}
use Rattle.ibft_readings.proofs.control.control_of.Goals as goal

pub returns : goal.returns
returns c =
    let t = c.args.t.now in
    ap (λ (r : Control). r.flags) c.control_in.ensures
    ∙ ap (λ (p : List ℕ). byte p 5) (c.part.ensures.bytes ∙ part-rest t 48 (length t) (omega arith))
    ∙ get_or-drop 48 t 5 0
