-- `led_by` meets its contract: one place used, or none. Assumes nothing.
use mathlib.Core.Path.{◌≡◌, ◌∙◌}
use native.Mathlib.Omega.{arith}
use borrow.Author.Tests.{lt-ltb, le-ltb}
use mathlib.Core.List.{[], ◌∷◌}
use Rattle.octets.specs.Counting.{tabulate}
use Rattle.ibft_layout.specs.Layout.{target_count}
use Rattle.table_header.specs.Verdict.{accepted, refusal_of}
use Rattle.ibft_readings.specs.Login.{placed}
use Rattle.ibft_readings.proofs.slots.Slots.led_by.Goals as goal

pub returns-then-lead-lt-TARGET_COUNT : goal.returns-then-lead-lt-TARGET_COUNT
unfolding placed refusal_of tabulate
returns-then-lead-lt-TARGET_COUNT c =
    let nobody : c.none-order.result ≡ record {
      refusal = accepted;
      used = 0;
      places = 255 ∷ 255 ∷ 255 ∷ 255 ∷ 255 ∷ 255
          ∷ 255 ∷ 255 ∷ [];
    } = c.none-order.ensures in
    c.then.ensures ∙ rw (nobody, lt-ltb c.args.lead target_count (omega arith), c.target_index.ensures)

pub returns : goal.returns
unfolding placed refusal_of tabulate
returns c = rw (le-ltb c.args.lead target_count (omega arith)) c.none-order.ensures
