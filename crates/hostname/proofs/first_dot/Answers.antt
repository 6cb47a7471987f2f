-- `first_dot` meets its contract: no byte before the place found is a dot, and the byte there is one. Assumes nothing.
use Rattle.std.proofs.Common.{◌≡◌, ◌≤◌, ◌<◌, ℕ, true, false, eqb, length, get_or, rules}
use Rattle.hostname.specs.Hostname.{dot}
use Rattle.hostname.proofs.HostnameLaws.{first_dot-found}
use Rattle.hostname.proofs.first_dot.Goals as goal

pub returns : goal.returns
returns c =
    let s = c.args.s.now in
    let n = c.unwrap_or.result in
    let within : n ≤ length s = search rules in
    let before : (k : ℕ) → k < n → eqb (get_or s k 0) dot ≡ false = search rules in
    let here : n < length s → eqb (get_or s n 0) dot ≡ true = search rules in
    (first_dot-found s n within before here, within)
