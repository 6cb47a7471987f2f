-- `indices_of` meets its contract: every slot passed has its Index. Assumes nothing.
use Rattle.std.proofs.Common.{sym, ap, ◌∙◌, ℕ, ◌<◌, ◌≢◌, List, length, arith, below_more, get_or-set_other, get_or-set_same, length-set}
use lib.Seq.{ext_get_or}
use Rattle.octets.specs.Counting.{tabulate}
use Rattle.octets.proofs.CountingLaws.{length-tabulate, get_d_tabulate}
use Rattle.ibft_layout.specs.Layout.{slot_count}
use Rattle.ibft_table.specs.Table.{starts_of, index_in}
use Rattle.ibft_compare.proofs.table.indices_of.Goals as goal

pub loop-k-preserved : goal.loop-k-preserved
loop-k-preserved c =
    let l = c.loop-k in (
      simp length-set l.invariant.0,
      below_more _ _
          (λ i h. let ne : i ≢ l.k = omega arith in rw get_or-set_other (l.invariant.1 i h))
          (let lt : l.k < length l.index-items = omega arith in rw get_or-set_same c.index_in.ensures),
    )

pub returns : goal.returns
returns c =
    let l = c.loop-k in
    let t = c.args.t.now in
    let f : ℕ → ℕ = index_in (starts_of t) t in
    ext_get_or 0 l.index-items (tabulate f 0 slot_count) (l.invariant.0 ∙ sym (length-tabulate f 0 slot_count))
    (λ k h. l.invariant.1 k (omega arith) ∙ ap (λ (s : List ℕ). index_in s t k) c.requires ∙ sym (get_d_tabulate f slot_count k 0 (omega arith)))
