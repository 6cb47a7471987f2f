-- No table that serves a record is shorter than the built one: the law of accepted tables, for good contents, whose entries
-- hold no zero byte.
--     zero-free        bytes among which no zero stands, by place
--     least-length     no table that serves good contents has a lower Length
-- Assumes nothing.
use mathlib.Core.Path.{◌≡◌, refl}
use mathlib.Core.Bool.{true, false}
use mathlib.Core.List.{List, [], ◌∷◌}
use Prim.Native.Nat.{ℕ, zero, suc, ◌≤◌}
use native.Mathlib.Omega.{arith}
use borrow.Author.Tests.{eqb-false}
use lib.Dec.{eqb}
use Rattle.string_heap.proofs.TailsLaws.{Clean}
use Rattle.table_header.specs.Header.{length_of}
use Rattle.ibft_table.specs.Check.{check_of}
use Rattle.ibft_table.specs.Record.{Content, listed, record_of}
use Rattle.ibft_table.specs.Order.{keeps_order}
use Rattle.ibft_table.specs.Secrets.{secrets_apart}
use Rattle.table_header.specs.Verdict.{Accepted}
use Rattle.octets.proofs.TestLaws.{or-both}
use Rattle.ibft_table_laws.proofs.LeastLaws.{least-record}
use Rattle.ibft_build_rules.specs.Refusals.{has_zero}
use Rattle.ibft_build_rules.specs.Plan.{is_present, extras_built, end_built, heap_start, length_built}
use Rattle.ibft_build_rules.proofs.GoodContent.{Good}

pub zero-free : (a : List ℕ) → has_zero a ≡ false → Clean a
unfolding has_zero
zero-free [] e k h is = absurd (omega arith)
zero-free (b ∷ a) e zero h is = eqb-false b 0 (or-both (eqb b 0) (has_zero a) e).0 is
zero-free (b ∷ a) e (suc k) h is = zero-free a (or-both (eqb b 0) (has_zero a) e).1 k (omega arith) is

module _ (c : Content) (good : Good c) where
  pub least-length : (t : List ℕ) → check_of t ≡ Accepted → record_of t ≡ listed c → keeps_order t ≡ true → secrets_apart t ≡ true → length_built c ≤ length_of t
  unfolding length_built heap_start end_built extras_built is_present
  least-length t ok reads keeps apart =
      least-record c is_present (λ a. refl) refl (λ n a h is. zero-free a (good.entry n a h is).no_zero) t ok reads keeps apart
