-- `bytes_in` meets its contract. Assumes nothing.
use mathlib.Core.Path.{ap, ◌∙◌}
use Prim.Native.Nat.{ℕ, ◌+◌}
use Rattle.octets.specs.Octets.{part}
use Rattle.family_text.specs.Tell.{bytes_in}
use Rattle.family_text.proofs.tell.bytes_in.Goals as goal

pub returns : goal.returns
unfolding bytes_in
returns c =
    let a = c.args in
    c.part.ensures.bytes ∙ ap (λ (s : ℕ). part a.t.now (s + a.field.at) a.field.width) c.start_in.ensures
