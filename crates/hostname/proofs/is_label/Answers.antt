-- `is_label` meets its contract: one return for each test of the definition, and the last for those that are left. Assumes nothing.
use Rattle.std.proofs.Common.{◌≡◌, ◌∙◌, refl, sym, length, le-leb, rules, arith}
use mathlib.Core.Bool.{and-false}
use Rattle.std.proofs.lemmas.Bool.{lt-leb}
use Rattle.std.proofs.lemmas.List.Recursion.{and_is}
use Rattle.hostname.specs.Hostname.{is_label, label_byte, all_bytes}
use Rattle.hostname.proofs.is_label.Goals as goal

pub returns-then-is_empty : goal.returns-then-is_empty
unfolding is_label
returns-then-is_empty c =
    let empty : length c.args.s.now ≡ 0 = search rules in
    rw empty

pub returns-then-s-gt-LONGEST_LABEL : goal.returns-then-s-gt-LONGEST_LABEL
unfolding is_label
returns-then-s-gt-LONGEST_LABEL c = simp (lt-leb (length c.args.s.now) 63 (omega arith), and-false)

pub returns-then-not-all : goal.returns-then-not-all
unfolding is_label all_bytes
returns-then-not-all c =
    let s = c.args.s.now in
    let bytes : c.all.result ≡ all_bytes label_byte s = and_is (all_bytes label_byte) label_byte refl (λ x xs. refl) s 0 c.all.result (search rules) (search rules) in
    simp (sym bytes ∙ c.if-not-all.true, and-false)

pub returns : goal.returns
unfolding is_label all_bytes
returns c =
    let s = c.args.s.now in
    let bytes : c.all.result ≡ all_bytes label_byte s = and_is (all_bytes label_byte) label_byte refl (λ x xs. refl) s 0 c.all.result (search rules) (search rules) in
    let some : length s ≡ 0 → ⊥ = search rules in
    simp (le-leb 1 (length s) (omega arith), le-leb (length s) 63 (omega arith), sym bytes ∙ c.if-not-all.false)
