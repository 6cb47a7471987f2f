-- `pair_at` meets its contract: the byte, or 0, as the digits are read. Assumes nothing.
use Rattle.std.proofs.Common.{◌∙◌, ap, arith}
use Rattle.std.specs.Prelude.{unwrap_or}
use Rattle.notation.proofs.PairsLaws.{pair_at-small}
use Rattle.notation.proofs.pairs.pair_at.Goals as goal

pub overflow_cast-result : goal.overflow_cast-result
overflow_cast-result c =
    omega (arith, c.unwrap_or.ensures ∙ ap (λ o. unwrap_or o 0) c.read_hex_byte.ensures, pair_at-small c.args.s.now c.args.at)

pub returns : goal.returns
returns c = c.unwrap_or.ensures ∙ ap (λ o. unwrap_or o 0) c.read_hex_byte.ensures
