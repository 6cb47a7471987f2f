-- `number_value` meets its contract: a number that fits has zeros behind its bytes, and no number has another width.
-- Assumes nothing.
use Rattle.std.proofs.Common.{◌≡◌, sym, ap, ◌∙◌, ◌+◌, ◌-◌, ◌^◌, ℕ, List, true, take, arith}
use Rattle.std.specs.Prelude.{Option, Some, option_map}
use Rattle.octets.specs.Octets.{bytes_at, le64}
use Rattle.octets.proofs.WordLaws.{le64-bytes}
use Rattle.notation.specs.Number.{number, number_up_to}
use Rattle.notation.specs.Value.{is_width, number_bytes, number_value, value_read}
use Rattle.notation.proofs.NumberLaws.{below-some}
use Rattle.notation.proofs.WidthLaws.{tested, untested}
use Rattle.notation.proofs.ValueLaws.{sixteen-bytes, number-answer, number-sixteen}
use Rattle.notation.proofs.value.number_value.Goals as goal

-- the answer, by what was read
read : (width max : ℕ) (text : List ℕ) (o p : Option ℕ) → (is_width width ≡ true) × (256 ^ width - 1 ≡ max) → o ≡ number_up_to max text → o ≡ p
    → value_read (option_map (λ (n : ℕ). take width (le64 n)) p) ≡ number_value width text
unfolding number_bytes
read width max text o p w e f =
    ap (λ (x : Option ℕ). value_read (option_map (λ (n : ℕ). take width (le64 n)) x)) (sym f ∙ e ∙ ap (λ (x : ℕ). number_up_to x text) (sym w.1))
    ∙ sym (number-answer width text w.0)

pub returns-in_err-largest : goal.returns-in_err-largest
unfolding number_value
returns-in_err-largest c = c.from_residual.ensures ∙ untested _ _ _ (sym c.in_err-largest.was ∙ c.largest.ensures)

pub returns-in_err-n : goal.returns-in_err-n
unfolding value_read
returns-in_err-n c =
    let wide = tested _ _ _ (sym c.largest.ensures ∙ c.in_ok-largest.was) in
    c.from_residual-in_err-n.ensures ∙ read c.args.width _ _ _ _ wide c.read_number.ensures c.in_err-n.was

pub returns : goal.returns
unfolding value_read
returns c =
    let a = c.args in
    let n = c.in_ok-n.n in
    let wide = tested _ _ _ (sym c.largest.ensures ∙ c.in_ok-largest.was) in
    let small = (below-some (c.in_ok-largest.field-0 + 1) n (number a.text.now) (sym c.read_number.ensures ∙ c.in_ok-n.was)).1 in
    ap Some (c.array_at.ensures ∙ ap (λ (l : List ℕ). bytes_at l 0 16) (c.to_le_bytes.ensures ∙ le64-bytes n) ∙ sixteen-bytes (le64 n) (omega arith)
    ∙ number-sixteen a.width n wide.0 (omega (arith, wide.1)))
    ∙ read a.width _ _ _ _ wide c.read_number.ensures c.in_ok-n.was
