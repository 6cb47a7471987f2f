-- `Tables::meet_index` meets its contract: there is a pair where a table has the extra. Assumes nothing.
use Rattle.std.proofs.Common.{◌≡◌, refl, sym, ◌∙◌, append-nil, arith}
use Rattle.ibft_compare.specs.Pairs.{slot_with, pair_with}
use Rattle.ibft_compare.specs.Points.{each}
use Rattle.ibft_compare.specs.Walk.{walked}
use Rattle.ibft_compare.proofs.PairLaws.{group-ends, seat-with, pair-none, pair-some}
use Rattle.ibft_compare.proofs.walk.Tables.meet_index.Goals as goal

pub returns-then-is_none : goal.returns-then-is_none
unfolding pair_with each walked
returns-then-is_none c =
    let a = c.args in
    let l : c.slot_with.result ≡ slot_with a.self.now.left.indices.now a.group a.index = c.slot_with.ensures in
    let r : c.slot_with-2.result ≡ slot_with a.self.now.right.indices.now a.group a.index = c.slot_with-2.ensures in
    let none = pair-none a.group a.index c.slot_with.result c.slot_with-2.result (sym c.is_none.ensures ∙ c.if-is_none.true) in
    (rw (← l, ← r, none) refl, omega arith)

pub meet_pair-requires : goal.meet_pair-requires
meet_pair-requires c =
    let a = c.args in (
      record {
        group = omega (arith, group-ends a.group c.requires.0);
        left = rw c.slot_with.ensures (seat-with a.self.now.left.indices.now a.group a.index c.requires.0);
        right = rw c.slot_with-2.ensures (seat-with a.self.now.right.indices.now a.group a.index c.requires.0);
      },
      c.requires.1,
    )

pub returns : goal.returns
unfolding pair_with each
returns c =
    let a = c.args in
    let l : c.slot_with.result ≡ slot_with a.self.now.left.indices.now a.group a.index = c.slot_with.ensures in
    let r : c.slot_with-2.result ≡ slot_with a.self.now.right.indices.now a.group a.index = c.slot_with-2.ensures in
    let some = pair-some a.group a.index c.slot_with.result c.slot_with-2.result (sym c.is_none.ensures ∙ c.if-is_none.false) in
    (rw (← l, ← r, some, append-nil) c.meet_pair.ensures.0, c.meet_pair.ensures.1)
