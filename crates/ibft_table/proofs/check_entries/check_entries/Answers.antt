-- `check_entries` meets its contract: entry by entry, the verdict of the entries from n on is that of all. Assumes nothing.
use Rattle.std.proofs.Common.{◌≡◌, ℕ, ◌-◌, sym, ap, ◌∙◌, arith}
use Rattle.octets.specs.Counting.{gather}
use Rattle.ibft_layout.specs.Layout.{entry_count, owner_of}
use Rattle.ibft_table.specs.Table.{starts_of}
use Rattle.table_header.specs.Verdict.{first_of}
use Rattle.ibft_table.specs.Check.{entry_tests}
use Rattle.table_header.proofs.VerdictLaws.{returned, gather-stop, gather-go}
use Rattle.ibft_table.proofs.SeatLaws.{words-none, starts_none, entries-rest}
use Rattle.ibft_table.proofs.check_entries.check_entries.Goals as goal

pub entry_limit-limit-requires : goal.entry_limit-limit-requires
entry_limit-limit-requires c =
    let t = c.args.table.t.now in
    let starts = c.extra_starts-starts.ensures in
    (starts.0, λ few k h. starts.1 k h ∙ starts_none t (words-none t c.args.table.words c.args.table.words_is few) k h)

pub returns-in_err-check_entry : goal.returns-in_err-check_entry
returns-in_err-check_entry c =
    let t = c.args.table.t.now in
    let l = c.loop-n in
    let limit = c.entry_limit-limit.ensures.0 in
    let refused = c.in_err-check_entry.was in
    returned _ _ _ c.from_residual.ensures.1 refused
    ∙ gather-stop (entry_tests (starts_of t) t) entry_count l.n (omega arith) _ c.check_entry.ensures _ refused
    ∙ l.invariant

pub loop-n-preserved : goal.loop-n-preserved
loop-n-preserved c =
    let t = c.args.table.t.now in
    let l = c.loop-n in
    let limit = c.entry_limit-limit.ensures.0 in
    gather-go (entry_tests (starts_of t) t) entry_count l.n (omega arith) _ c.check_entry.ensures c.in_ok-check_entry.was ∙ l.invariant

pub returns : goal.returns
returns c =
    let t = c.args.table.t.now in
    let l = c.loop-n in
    let limit = c.entry_limit-limit in
    let starts = c.extra_starts-starts.ensures in
    let all : l.n ≡ limit.result = omega arith in
    let rest = entries-rest t limit.result limit.ensures.0 (λ n h. sym (starts.1 (owner_of n) (limit.ensures.1 n h).0) ∙ (limit.ensures.1 n h).1) in
    sym (ap (λ (k : ℕ). first_of (gather (entry_tests (starts_of t) t) k (entry_count - k))) all ∙ rest) ∙ l.invariant
