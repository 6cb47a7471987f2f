-- `trimmed_size` meets its contract: behind the last byte that is no blank all are. Assumes nothing.
use Rattle.std.proofs.Common.{◌≡◌, ◌≤◌, ◌<◌, ◌+◌, ℕ, true, false, length, get_or, rules, arith}
use Rattle.text.specs.Split.{is_blank}
use Rattle.text.proofs.SplitLaws.{trim_end-size}
use Rattle.text.proofs.split.trimmed_size.Goals as goal

pub returns-in-Some : goal.returns-in-Some
returns-in-Some c =
    let s = c.args.s.now in
    let last = c.in-Some.last in
    let behind : (k : ℕ) → last + 1 ≤ k → k < length s → is_blank (get_or s k 0) ≡ true = search rules in
    let here : is_blank (get_or s last 0) ≡ false = search rules in
    trim_end-size s (last + 1) (search rules) behind (λ m e. let at : m ≡ last = omega arith in rw at here)

pub returns-in-None : goal.returns-in-None
returns-in-None c =
    let s = c.args.s.now in
    let all : (k : ℕ) → k < length s → is_blank (get_or s k 0) ≡ true = search rules in
    trim_end-size s 0 (omega arith) (λ k l m. all k m) (λ m e. absurd (omega arith))
