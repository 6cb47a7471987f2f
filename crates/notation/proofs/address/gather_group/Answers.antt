-- `gather_group` meets its contract: the number that was read is two bytes, the high byte first. Assumes nothing.
use Rattle.std.proofs.Common.{◌≡◌, refl, sym, ap, ◌∙◌, ℕ, ◌/◌, ◌%◌, [], ◌∷◌, arith}
use Rattle.text.proofs.PutLaws.{puts-same}
use Rattle.notation.specs.Address.{two_bytes, group}
use Rattle.notation.proofs.GatherLaws.{short-le, gathers-some, gathers-none}
use Rattle.notation.proofs.address.gather_group.Goals as goal

pub returns-in_default : goal.returns-in_default
unfolding group
returns-in_default c = gathers-none (ap two_bytes (sym c.short_numeral.ensures ∙ c.in_default.is)) refl refl

pub overflow_cast-v : goal.overflow_cast-v
overflow_cast-v c =
    omega (arith, short-le 16 4 65535 _ c.args.s.now (sym c.short_numeral.ensures ∙ c.in-Some.is))

pub returns : goal.returns
unfolding group
returns c =
    let read = sym c.short_numeral.ensures ∙ c.in-Some.is in
    let small = short-le 16 4 65535 _ c.args.s.now read in
    let high : c.in-Some.v / 256 % 256 ≡ c.in-Some.v / 256 = omega arith in
    gathers-some (puts-same c.put_text.ensures (c.to_be_bytes.ensures ∙ ap (λ (n : ℕ). n ∷ c.in-Some.v % 256 ∷ []) high)) (ap two_bytes read)
