-- A built table gives each secret its own bytes: entries stand where the storing rule puts them, and there one that may not
-- share stands apart from all others.
--     begins-secrets-apart     a list that begins with the table
-- Assumes nothing.
use mathlib.Core.Path.{◌≡◌, sym, ◌∙◌}
use mathlib.Core.Logic.{inl, inr, ⊎_elim}
use mathlib.Core.Bool.{true}
use mathlib.Core.List.{List}
use Prim.Native.Nat.{ℕ}
use native.Mathlib.Omega.{arith}
use Rattle.string_heap.proofs.ApartLaws.{placed-apart}
use Rattle.ibft_layout.specs.Layout.{entry_count, may_share}
use Rattle.ibft_table.specs.Record.{Content}
use Rattle.ibft_table.specs.Secrets.{secrets_apart}
use Rattle.ibft_table_laws.proofs.SecretsLaws.{secrets-apart}
use Rattle.ibft_build_rules.proofs.GoodContent.{Good}
use Rattle.ibft_build_rules.proofs.PlanLaws.{present-some, offset-is}
use Rattle.ibft_build_rules.proofs.BuiltLaws.{Begins, holds-back, entry-size-back, entry-offset-back}

module _ (c : Content) (good : Good c) (t : List ℕ) (front : Begins c t) where
  pub begins-secrets-apart : secrets_apart t ≡ true
  begins-secrets-apart =
      secrets-apart t
      (λ i j hi hj ne alone oni onj.
      let u = present-some (c.entry i) (sym (holds-back c good t front i hi) ∙ oni) in
      let v = present-some (c.entry j) (sym (holds-back c good t front j hj) ∙ onj) in
      let si = entry-size-back c good t front i hi u.0 u.1 in
      let sj = entry-size-back c good t front j hj v.0 v.1 in
      let oi = entry-offset-back c good t front i hi u.0 u.1 ∙ offset-is c i u.0 u.1 in
      let oj = entry-offset-back c good t front j hj v.0 v.1 ∙ offset-is c j v.0 v.1 in
      ⊎_elim (λ x. inl (omega (arith, x, si, sj, oi, oj))) (λ x. inr (omega (arith, x, si, sj, oi, oj)))
      (placed-apart entry_count may_share c.entry i j u.0 v.0 hi hj ne u.1 v.1 alone))
