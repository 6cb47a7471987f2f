-- `index_in` meets its contract: by number, or what the structure says. Assumes nothing.
use mathlib.Core.Path.{ap, ◌∙◌}
use native.Mathlib.Omega.{arith}
use borrow.Author.Tests.{lt-ltb, le-ltb, eq-eqb, ne_eqb}
use Prim.Native.Nat.{ℕ, ◌+◌}
use Rattle.octets.specs.Octets.{byte}
use Rattle.ibft_table.specs.Table.{start_in, present_in, index_in}
use Rattle.ibft_table.proofs.starts.index_in.Goals as goal

pub returns-then-k : goal.returns-then-k
unfolding index_in
returns-then-k c = rw (lt-ltb c.args.k 5 (omega arith)) c.index_of.ensures

pub returns-then-start-eq0 : goal.returns-then-start-eq0
unfolding index_in present_in
returns-then-start-eq0 c =
    let a = c.args in
    rw (le-ltb a.k 5 (omega arith), eq-eqb (start_in a.starts.now a.k) 0 (omega arith))

pub returns : goal.returns
unfolding index_in present_in
returns c =
    let a = c.args in
    rw (le-ltb a.k 5 (omega arith), ne_eqb (start_in a.starts.now a.k) 0 (omega arith))
    (c.byte_at.ensures ∙ ap (λ (x : ℕ). byte a.t.now (x + 4)) c.start_in-start.ensures)
