-- `sound` meets its contract: each return before the last is a test of `sound_at` that fails, the last is the test of the sum.
-- Assumes nothing.
use mathlib.Core.Path.{◌≡◌, ap, ◌∙◌}
use mathlib.Core.List.{List}
use mathlib.Core.Bool.{and-false}
use Prim.Native.Nat.{ℕ, ◌+◌, ◌%◌}
use native.Mathlib.Omega.{arith}
use lib.ListN.{length}
use lib.Dec.{eqb}
use borrow.Author.Tests.{eq-eqb, ne_eqb, le-leb, lt-leb}
use Rattle.octets.specs.Octets.{word32, part, sum}
use Rattle.scan.specs.Scan.{sound_at, length_at}
use Rattle.scan.proofs.sound.Goals as goal

pub returns-then-mem-k : goal.returns-then-mem-k
unfolding sound_at
returns-then-mem-k c =
    let a = c.args in
    let first = c.type_inv.mem a.k in
    simp (ne_eqb (word32 a.mem.now a.k) a.f.signature (λ e. omega arith), and-false)

pub returns-then-u32_at-f : goal.returns-then-u32_at-f
unfolding sound_at
returns-then-u32_at-f c =
    let a = c.args in
    simp (ne_eqb (word32 a.mem.now a.k) a.f.signature (omega arith), and-false)

pub returns-then-size-f : goal.returns-then-size-f
unfolding sound_at
returns-then-size-f c =
    let a = c.args in
    simp (lt-leb a.f.least (length_at a.mem.now a.k) (omega arith), and-false)

pub returns-then-place-f : goal.returns-then-place-f
unfolding sound_at
returns-then-place-f c =
    let a = c.args in
    simp (lt-leb a.f.low (a.address + a.k) (omega arith), and-false)

pub returns-then-mem-k-2 : goal.returns-then-mem-k-2
unfolding sound_at
returns-then-mem-k-2 c =
    let a = c.args in
    simp (lt-leb (a.k + length_at a.mem.now a.k) (length a.mem.now) (omega arith), and-false)

pub returns-then-f-place : goal.returns-then-f-place
unfolding sound_at
returns-then-f-place c =
    let a = c.args in
    simp (lt-leb (a.address + a.k + length_at a.mem.now a.k) a.f.high (omega arith), and-false)

pub returns : goal.returns
unfolding sound_at
returns c =
    let a = c.args in
    let t = a.mem.now in
    let n = length_at t a.k in
    let size = c.u32_at-size in
    let table : c.part-table.result.now ≡ part t a.k size.result = c.part-table.ensures.bytes in
    simp (
      eq-eqb ((a.address + a.k) % 16) 0 (omega arith),
      eq-eqb (word32 t a.k) a.f.signature (omega arith),
      le-leb a.f.least n (omega arith),
      le-leb a.f.low (a.address + a.k) (omega arith),
      le-leb (a.k + n) (length t) (omega arith),
      le-leb (a.address + a.k + n) a.f.high (omega arith),
    )
    (c.sums_to_zero.ensures ∙ ap (λ (l : List ℕ). eqb (sum l % 256) 0) (table ∙ ap (part t a.k) size.ensures))
