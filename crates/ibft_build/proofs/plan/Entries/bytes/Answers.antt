-- `Entries::bytes` meets its contract: the range holds where an entry's bytes start, and what it wants tells how many they are.
-- Assumes nothing.
use Rattle.std.proofs.Common.{ℕ, ap₂, take, drop, arith}
use Rattle.octets.specs.Octets.{part}
use Rattle.ibft_build_rules.specs.RecordRange.{bytes_given}
use Rattle.ibft_build.proofs.EntryLaws.{start_is, wanted-there}
use Rattle.ibft_build.proofs.plan.Entries.bytes.Goals as goal

pub overflow_sub-size : goal.overflow_sub-size
overflow_sub-size c =
    let e = c.args.self.now in omega (arith, wanted-there _ _ e.wanted_are c.args.n (omega arith) c.requires.1)

pub slice_bounds-result-end : goal.slice_bounds-result-end
slice_bounds-result-end c =
    let e = c.args.self.now in
    let start = start_is _ _ e.fields_are c.args.n (omega arith) _ c.u16_at-start.ensures in
    omega (arith, wanted-there _ _ e.wanted_are c.args.n (omega arith) c.requires.1, e.readable.lies c.args.n (omega arith) c.requires.1)

pub returns : goal.returns
unfolding bytes_given part
returns c =
    let e = c.args.self.now in
    let size = wanted-there _ _ e.wanted_are c.args.n (omega arith) c.requires.1 in
    ap₂ (λ (n a : ℕ). take n (drop a e.strings.now)) (omega arith) (start_is _ _ e.fields_are c.args.n (omega arith) _ c.u16_at-start.ensures)
