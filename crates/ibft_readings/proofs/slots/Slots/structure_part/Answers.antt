-- `structure_part` meets its contract: a part as long as the table is all that is left from its start on. Assumes nothing.
use mathlib.Core.Path.{◌≡◌, sym, ap, ◌∙◌}
use Prim.Native.Nat.{ℕ, ◌-◌}
use native.Mathlib.Omega.{arith}
use lib.ListN.{length, drop}
use Rattle.octets.specs.Octets.{part}
use Rattle.octets.proofs.ReadLaws.{part-rest}
use Rattle.ibft_table.specs.Table.{start_in}
use Rattle.table_header.specs.Verdict.{shown}
use Rattle.ibft_readings.specs.Readings.{structure_in}
use Rattle.ibft_readings.proofs.slots.Slots.structure_part.Goals as goal

pub returns : goal.returns
unfolding shown structure_in
returns c =
    let a = c.args in
    let s = a.self.now.starts in
    let t = a.self.now.t.now in
    let start = c.start_in-start in
    let lent : c.part.result.now ≡ part t start.result (length t) = c.part.ensures.bytes in
    let bytes : c.part.result.now ≡ drop (start_in s a.k) t =
    lent ∙ part-rest t start.result (length t) (omega arith) ∙ ap (λ (n : ℕ). drop n t) start.ensures in
    let view = c.shown_of.ensures in record {
      result_value = view.result_value ∙ ap (shown a.verdict) bytes;
      stands = λ accepted within.
          let shows = c.part.ensures.shows (omega arith) in
          record {
            bytes = view.result_value ∙ rw accepted (bytes ∙ sym (part-rest t (start_in s a.k) (length t - start_in s a.k) (omega arith)));
            block = ap (λ p. p.0) (view.stands accepted) ∙ shows.block;
            place = ap (λ p. p.1) (view.stands accepted) ∙ shows.place ∙ omega arith;
          };
    }
