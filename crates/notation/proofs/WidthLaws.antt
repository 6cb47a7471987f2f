-- Reading gives as many bytes as the notation has.
--     unread, no_value, tested, untested, either-width      what is read where a test passes, where it does not, and where one of
--                                                           two readings holds
--     exactly-width, four-width, gap-width, address-width   addresses have 16 bytes
--     every-width, pairs-width, mac-width                   n pairs are n bytes
-- Assumes nothing.
use Rattle.octets.specs.Options.{bind}
use Rattle.std.specs.Prelude.{Option, None, Some, option_map}
use mathlib.Core.Path.{◌≡◌, refl, sym, ap, ◌∙◌}
use mathlib.Core.List.{List, [], ◌∷◌, ◌++◌}
use mathlib.Core.Option.{none, some}
use mathlib.Core.Bool.{Bool, true, false, cond}
use Prim.Native.Nat.{ℕ, suc, ◌+◌, ◌-◌, ◌*◌, ◌≤◌}
use native.Mathlib.Omega.{arith}
use borrow.Author.Tests.{eqb-true, leb-true}
use lib.ListN.{length, take, drop, length-append}
use lib.Dec.{eqb, leb, ltb}
use Rattle.octets.specs.Counting.{tabulate}
use Rattle.octets.specs.Octets.{zeros}
use Rattle.octets.proofs.CountingLaws.{length-tabulate}
use Rattle.octets.proofs.WriteLaws.{length-zeros}
use Rattle.text.specs.Split.{pieces}
use Rattle.notation.specs.Number.{hex_byte_at}
use Rattle.notation.specs.Pairs.{pairs_form, every, read_pairs}
use Rattle.notation.specs.Mac.{read_mac}
use Rattle.notation.specs.Address.{exactly, filled as gap_filled, bytes_of, decimal, four_bytes, groups, side, gap_at, with_gap}
use Rattle.notation.specs.Address.{without_gap, read_six, mapped, mapped_four, holds, colon, dot, read_address}

-- no value is both read and not
pub unread {ℓ} : {A : Type ℓ} {X : Type 0} {x : A} → none ≡ some x → X
unread e = let z : ◌≡◌ {A = ℕ} 0 1 = cc in absurd (omega arith)

-- .. in the code's Option, which holds small types alone
pub no_value : {A X : Type 0} {x : A} → None ≡ Some x → X
no_value e = let z : ◌≡◌ {A = ℕ} 0 1 = cc in absurd (omega arith)

-- a value where a test passes, else none
pub tested : {A : Type 0} (d : Bool) (x y : A) → cond d (Some x) None ≡ Some y → (d ≡ true) × (x ≡ y)
tested true x y e = (refl, cc)
tested false x y e = no_value e

-- where the test does not pass, there is none of another value either
pub untested : {A B : Type 0} (d : Bool) (x : A) (o : Option B) → None ≡ cond d (Some x) None → None ≡ cond d o None
untested true x o e = no_value e
untested false x o e = refl

-- one or the other
pub either-width : (n : ℕ) (d : Bool) (x y : Option (List ℕ)) → ((b : List ℕ) → x ≡ Some b → length b ≡ n) → ((b : List ℕ) → y ≡ Some b → length b ≡ n)
    → (b : List ℕ) → cond d x y ≡ Some b → length b ≡ n
either-width n true x y h k b e = h b e
either-width n false x y h k b e = k b e

pub exactly-width : (n : ℕ) (o : Option (List ℕ)) (b : List ℕ) → exactly n o ≡ Some b → length b ≡ n
exactly-width n None b e = no_value e
exactly-width n (Some xs) b e =
    let both = tested (eqb (length xs) n) xs b e in
    ap length (sym both.1) ∙ eqb-true (length xs) n both.0

pub four-width : (o : Option (List ℕ)) → ((b : List ℕ) → o ≡ Some b → length b ≡ 4) → (b : List ℕ) → mapped_four o ≡ Some b → length b ≡ 16
four-width None h b e = no_value e
four-width (Some xs) h b e =
    let same : mapped xs ≡ b = cc in
    omega (arith, ap length (sym same), length-append (zeros 10) (255 ∷ 255 ∷ xs), length-zeros 10, h xs refl)

pub gap-width : (o p : Option (List ℕ)) (b : List ℕ) → gap_filled o p ≡ Some b → length b ≡ 16
gap-width None p b e = no_value e
gap-width (Some xs) None b e = no_value e
gap-width (Some xs) (Some ys) b e =
    let n = 16 - (length xs + length ys) in
    let both = tested (leb (length xs + length ys) 14) (xs ++ (zeros n ++ ys)) b e in
    let short : length xs + length ys ≤ 14 = leb-true (length xs + length ys) 14 both.0 in
    omega (arith, ap length (sym both.1), length-append xs (zeros n ++ ys), length-append (zeros n) ys, length-zeros n)

pub address-width : (text b : List ℕ) → read_address text ≡ Some b → length b ≡ 16
unfolding read_address read_six with_gap without_gap four_bytes
address-width text =
    either-width 16 (holds colon text) (read_six text) (mapped_four (four_bytes text))
    (either-width 16 (ltb (gap_at text) (length text)) (with_gap text (gap_at text)) (without_gap text)
    (gap-width (side false (take (gap_at text) text)) (side true (drop (gap_at text + 2) text))) (exactly-width 16 (groups true text)))
    (four-width (four_bytes text) (exactly-width 4 (bytes_of decimal decimal (pieces dot text))))

pub every-width : (os : List (Option ℕ)) (b : List ℕ) → every os ≡ Some b → length b ≡ length os
unfolding every bind
every-width [] b e = let same : [] ≡ b = cc in ap length (sym same)
every-width (None ∷ os) b e = no_value e
every-width (Some n ∷ os) b e = go (every os) (every-width os) b e
  where
    go : (rest : Option (List ℕ)) → ((b : List ℕ) → rest ≡ Some b → length b ≡ length os) → (b : List ℕ)
        → option_map (λ (ns : List ℕ). n ∷ ns) rest ≡ Some b → length b ≡ suc (length os)
    go None q b e = no_value e
    go (Some ns) q b e = let same : n ∷ ns ≡ b = cc in ap length (sym same) ∙ ap suc (q ns refl)

pub pairs-width : (n : ℕ) (text b : List ℕ) → read_pairs n text ≡ Some b → length b ≡ n
unfolding read_pairs
pairs-width n text =
    let pairs : ℕ → Option ℕ = λ k. hex_byte_at text (3 * k) in
    either-width n (pairs_form n text) (every (tabulate pairs 0 n)) None
    (λ b e. every-width (tabulate pairs 0 n) b e ∙ length-tabulate pairs 0 n) (λ b e. no_value e)

pub mac-width : (text b : List ℕ) → read_mac text ≡ Some b → length b ≡ 6
unfolding read_mac
mac-width text b e = pairs-width 6 text b e
