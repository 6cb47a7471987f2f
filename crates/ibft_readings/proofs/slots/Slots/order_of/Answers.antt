-- `order_of` meets its contract: at each turn the order holds the lead and the valid targets passed. Assumes nothing.
use mathlib.Core.Path.{◌≡◌, sym, ap, ap₂, ◌∙◌}
use native.Mathlib.Omega.{arith}
use Prim.Native.Nat.{◌+◌}
use Rattle.ibft_layout.specs.Layout.{target_count}
use Rattle.ibft_readings.specs.Login.{placed}
use Rattle.table_header.specs.Verdict.{Accepted}
use Rattle.ibft_readings.proofs.LoginLaws.{order_to, order-all, order-none, order-lead, order-invalid, place-left, placed-next, behind}
use Rattle.ibft_readings.proofs.slots.Slots.order_of.Lts.{then-n-lead+then-is_valid, else-n-lead, else-n-lead-via-then-n-lead+else-is_valid, else-n-lead-via-else-n-lead}
use Rattle.ibft_readings.proofs.slots.Slots.order_of.Goals as goal

pub loop-n-init : goal.loop-n-init
loop-n-init c =
    let a = c.args in
    rw (← order-none a.self.now.starts a.self.now.t.now, ← c.lead_of-lead.ensures) c.led_by-order.ensures

pub then-order-requires : goal.then-order-requires
then-order-requires c =
    let a = c.args in
    let l = c.loop-n in
    rw l.invariant (place-left a.self.now.starts a.self.now.t.now Accepted l.n (omega arith) (λ e. omega arith))

pub loop-n-preserved : goal.loop-n-preserved
loop-n-preserved c =
    let a = c.args in
    let s = a.self.now.starts in
    let t = a.self.now.t.now in
    let l = c.loop-n in
    elim c.if-n-lead.branch [
      | then-n-lead+then-is_valid w ↦ w.order-is ∙ w.then-order.ensures ∙ ap₂ behind l.invariant w.target_index.ensures
          ∙ sym (placed-next s t Accepted l.n (omega arith) (λ e. omega arith) (sym w.is_valid.ensures ∙ w.if-is_valid.true))
      | else-n-lead w ↦
          let same : order_to s t (l.n + 1) ≡ order_to s t l.n = elim w.else-n-lead.branch [
            | else-n-lead-via-then-n-lead+else-is_valid u ↦ order-invalid s t l.n (sym u.is_valid.ensures ∙ u.if-is_valid.false)
            | else-n-lead-via-else-n-lead u ↦ order-lead s t l.n (omega arith)
          ] in
          w.order-is ∙ l.invariant ∙ ap (placed Accepted) (sym same)
    ]

pub returns : goal.returns
returns c =
    let a = c.args in
    let l = c.loop-n in
    let all : l.n ≡ target_count = omega arith in
    rw (← order-all a.self.now.starts a.self.now.t.now, ← all) l.invariant
