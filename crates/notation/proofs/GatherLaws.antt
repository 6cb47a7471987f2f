-- Laws of `Gathers`, for the functions that read an address: pieces gathered one behind another are gathered in all, whether or
-- not they fit; and room of n + 1 zeros that ends at n holds exactly those n bytes.
--     short-is, short-long, bad-long, short-le         a number of few digits
--     gathers-some, gathers-none, gathers-both, ..     what is gathered, in all
--     gathers-last, gathers-stop, gathers-next         the pieces of a text, by its first separator
--     exactly-yes, exactly-no                          exactly n bytes
--     gathers-group, gathers-four, four-listed        the last group, and IPv4
--     side-none, side-some, filled-no, filled-written  the two sides of `::`
--     gap-found, gap-missing, gap-test                 the first `::`
--     six-gap, six-plain, address-six, address-four    which of the forms a text has
-- Assumes nothing.
use Rattle.std.specs.Prelude.{Option, None, Some}
use mathlib.Core.Path.{◌≡◌, refl, sym, ap, ◌∙◌}
use mathlib.Core.Bool.{Bool, true, false, cond, ◌&&◌}
use mathlib.Core.List.{List, [], ◌∷◌, ◌++◌, append_assoc}
use Prim.Native.Nat.{ℕ, suc, ◌+◌, ◌-◌, ◌≤◌, ◌<◌}
use native.Mathlib.Numerals.{add-one}
use native.Mathlib.Omega.{arith}
use native.Mathlib.Decide.{dec_le, ℕ_discrete}
use borrow.Author.Tests.{lt-ltb, le-ltb, le-leb, lt-leb, eq-eqb, ne_eqb}
use lib.ListN.{length, take, drop, length-append}
use lib.Seq.{take_all, take-append_seam, take_at, drop_at}
use lib.Dec.{eqb}
use Rattle.octets.specs.Octets.{byte, write, zeros, part, bytes_at}
use Rattle.octets.proofs.CountingLaws.{first-is}
use Rattle.octets.proofs.ReadLaws.{take_rest, bytes-part, part-whole, part-rest}
use Rattle.octets.proofs.WriteLaws.{write-past, write-front, write-next, length-write, length-zeros}
use Rattle.text.specs.Put.{Puts}
use Rattle.text.specs.Split.{is, before, index_of, pieces}
use Rattle.text.proofs.PutLaws.{puts-append, puts-same, puts-length, puts-within}
use Rattle.text.proofs.SplitLaws.{pieces-first, pieces-some, pieces_none}
use Rattle.notation.specs.Number.{numeral, numeral_up_to}
use Rattle.notation.specs.Address.{dot, colon, holds, both, exactly, short, bytes_of, decimal, four_bytes, group, last_group, groups}
use Rattle.notation.specs.Address.{side, gap_at, filled, with_gap, without_gap, read_six, mapped_four, read_address}
use Rattle.notation.specs.AddressSteps.{Gathers}
use Rattle.notation.proofs.NumberLaws.{below-some}
use Rattle.notation.proofs.ZerosLaws.{zeros-append}

-- ---- short numbers

pub short-long : (base most max : ℕ) (t : List ℕ) → most < length t → short base most max t ≡ None
unfolding short
short-long base most max t h = rw (lt-leb (length t) most h)

pub short-is : (base most max : ℕ) (t : List ℕ) → length t ≤ most → short base most max t ≡ numeral_up_to base max t
unfolding short
short-is base most max t h = rw (le-leb (length t) most h)

pub bad-long : (base most max : ℕ) (t : List ℕ) → most < length t → None ≡ short base most max t
bad-long base most max t h = sym (short-long base most max t h)

pub short-le : (base most max v : ℕ) (t : List ℕ) → short base most max t ≡ Some v → v ≤ max
short-le base most max v t found =
    elim (dec_le (length t) most) [
      | yes h ↦ omega (arith, (below-some (max + 1) v (numeral base t) (sym (short-is base most max t h) ∙ found)).1)
      | no h ↦
          let None-found = sym (short-long base most max t (omega arith)) ∙ found in
          let z : ◌≡◌ {A = ℕ} 0 1 = cc in absurd (omega arith)
    ]

-- ---- bytes that a text has, and bytes that it has not

pub gathers-some : {a b : List ℕ} {at r : ℕ} {xs : List ℕ} {o : Option (List ℕ)} → Puts a b at r xs → o ≡ Some xs → Gathers a b at r o
gathers-some p e =
    record {
      puts = λ ys f. puts-same p (cc);
      refuses = λ f. let z : ◌≡◌ {A = ℕ} 0 1 = cc in absurd (omega arith);
      size = puts-length p;
    }

pub gathers-none : {a b : List ℕ} {at r : ℕ} {o : Option (List ℕ)} → o ≡ None → r ≡ length a → length b ≡ length a → Gathers a b at r o
gathers-none e end size =
    record {
      puts = λ ys f. let z : ◌≡◌ {A = ℕ} 0 1 = cc in absurd (omega arith);
      refuses = λ f. end;
      size = size;
    }

-- ---- one behind another

pub gathers-within : {a b : List ℕ} {at r : ℕ} {o : Option (List ℕ)} → Gathers a b at r o → r ≤ length a
gathers-within {a} {b} {at} {r} {o} g = go o refl
  where
    go : (p : Option (List ℕ)) → o ≡ p → r ≤ length a
    go None e = omega (arith, g.refuses e)
    go (Some xs) e = puts-within (g.puts xs e)

-- from the room's end on
gathers-end : {b c : List ℕ} {m n : ℕ} {p : Option (List ℕ)} → length b ≤ m → Gathers b c m n p → n ≡ length b
gathers-end {b} {c} {m} {n} {p} h g = go p refl
  where
    go : (o : Option (List ℕ)) → p ≡ o → n ≡ length b
    go None e = g.refuses e
    go (Some xs) e = omega (arith, (g.puts xs e).end)

pub gathers-both : {a b c : List ℕ} {at m n : ℕ} (o p : Option (List ℕ)) → Gathers a b at m o → Gathers b c m n p → Gathers a c at n (both o p)
gathers-both None p g h =
    let full = g.refuses refl in
    gathers-none refl (gathers-end (omega (arith, g.size)) h ∙ g.size) (h.size ∙ g.size)
gathers-both (Some xs) None g h = gathers-none refl (h.refuses refl ∙ g.size) (h.size ∙ g.size)
gathers-both (Some xs) (Some ys) g h = gathers-some (puts-append (g.puts xs refl) (h.puts ys refl)) refl

-- a full room settles the answer
pub gathers-full : {a b : List ℕ} {at m : ℕ} (o p : Option (List ℕ)) → Gathers a b at m o → length b ≤ m → Gathers a b at m (both o p)
gathers-full {a} {b} {at} {m} o p g h = gathers-both o p g (go p)
  where
    full : m ≡ length b
    full = omega (arith, gathers-within g, g.size)

    go : (p : Option (List ℕ)) → Gathers b b m m p
    go None = gathers-none refl full refl
    go (Some ys) = gathers-some (record { bytes = sym (write-past b m ys h); end = omega (arith, full) }) refl

-- ---- the bytes of the pieces of a text

pieces-one : (sep : ℕ) (t : List ℕ) → 1 ≤ length (pieces sep t)
pieces-one sep t = rw (pieces-first (is sep) t (index_of sep t) refl) (omega arith)

bytes_of-cons : (rule last : List ℕ → Option (List ℕ)) (p : List ℕ) (ps : List (List ℕ)) → 1 ≤ length ps
    → bytes_of rule last (p ∷ ps) ≡ both (rule p) (bytes_of rule last ps)
unfolding bytes_of
bytes_of-cons rule last p [] h = absurd (omega arith)
bytes_of-cons rule last p (q ∷ qs) h = refl

-- the first separator is at n
module _ (rule last : List ℕ → Option (List ℕ)) (sep : ℕ) (t : List ℕ) (n : ℕ) (first : n ≡ index_of sep t) where
  bytes_of-more : n < length t → bytes_of rule last (pieces sep t) ≡ both (rule (take n t)) (bytes_of rule last (pieces sep (drop (n + 1) t)))
  bytes_of-more h =
      ap (bytes_of rule last) (pieces-some (is sep) t n first h)
      ∙ bytes_of-cons rule last (take n t) (pieces sep (drop (n + 1) t)) (pieces-one sep (drop (n + 1) t))

  -- there is none: the text is the last piece
  pub gathers-last : {a b : List ℕ} {at r : ℕ} → length t ≤ n → Gathers a b at r (last t) → Gathers a b at r (bytes_of rule last (pieces sep t))
  unfolding bytes_of
  gathers-last h g = rw (pieces_none (is sep) t n first h, take_all n t h) g

  -- the first piece fills the room
  pub gathers-stop : {a b : List ℕ} {at m : ℕ} → n < length t → Gathers a b at m (rule (take n t)) → length b ≤ m
      → Gathers a b at m (bytes_of rule last (pieces sep t))
  gathers-stop h g full = rw (bytes_of-more h) (gathers-full (rule (take n t)) (bytes_of rule last (pieces sep (drop (n + 1) t))) g full)

  -- the first piece, and those behind it
  pub gathers-next : {a b c : List ℕ} {at m r : ℕ} → n < length t → Gathers a b at m (rule (take n t))
      → Gathers b c m r (bytes_of rule last (pieces sep (take (length t - (n + 1)) (drop (n + 1) t)))) → Gathers a c at r (bytes_of rule last (pieces sep t))
  gathers-next h g f =
      rw (bytes_of-more h) (gathers-both (rule (take n t)) (bytes_of rule last (pieces sep (drop (n + 1) t))) g (rw take_rest at f))

-- ---- exactly n bytes, gathered in room of one byte more

puts-front : {a b : List ℕ} {r : ℕ} {xs : List ℕ} → Puts a b 0 r xs → length xs ≤ length a → take (length xs) b ≡ xs
puts-front {a} {b} {r} {xs} p h =
    ap (take (length xs)) (p.bytes ∙ write-front a xs h) ∙ take-append_seam xs (drop (length xs) a)

module _ (n : ℕ) (a : List ℕ) (size : length a ≡ n + 1) {b : List ℕ} {r : ℕ} (o : Option (List ℕ)) (g : Gathers a b 0 r o) where
  pub exactly-yes : r ≡ n → exactly n o ≡ Some (bytes_at b 0 n)
  unfolding part
  exactly-yes e = go o refl
    where
      go : (p : Option (List ℕ)) → o ≡ p → exactly n p ≡ Some (bytes_at b 0 n)
      go None f = absurd (omega (arith, g.refuses f))
      go (Some xs) f =
          let p = g.puts xs f in
          let count : length xs ≡ n = omega (arith, p.end) in
          let here : take n b ≡ xs = rw count at (puts-front p (omega arith)) in
          rw (eq-eqb (length xs) n count, bytes-part b 0 n (omega (arith, g.size))) (ap Some (sym here))

  pub exactly-no : (r ≡ n → ⊥) → exactly n o ≡ None
  exactly-no e = go o refl
    where
      go : (p : Option (List ℕ)) → o ≡ p → exactly n p ≡ None
      go None f = refl
      go (Some xs) f = rw (ne_eqb (length xs) n (λ q. e (omega (arith, (g.puts xs f).end))))

-- ---- the last group

module _ (four : Bool) (t : List ℕ) {a b : List ℕ} {at r : ℕ} where
  pub gathers-group : (four && holds dot t) ≡ false → Gathers a b at r (group t) → Gathers a b at r (last_group four t)
  unfolding last_group
  gathers-group e g = rw e g

  pub gathers-four : four ≡ true → holds dot t ≡ true → Gathers a b at r (four_bytes t) → Gathers a b at r (last_group four t)
  unfolding last_group
  gathers-four e f g = rw (e, f) g

-- four bytes, one by one
pub four-listed : (t xs : List ℕ) → four_bytes t ≡ Some xs → bytes_at xs 0 4 ≡ xs
unfolding four_bytes part
four-listed t xs e =
    let size : length xs ≡ 4 = go (bytes_of decimal decimal (pieces dot t)) e in
    bytes-part xs 0 4 (omega arith) ∙ take_all 4 xs (omega arith)
  where
    go : (o : Option (List ℕ)) → exactly 4 o ≡ Some xs → length xs ≡ 4
    go None e = let z : ◌≡◌ {A = ℕ} 0 1 = cc in absurd (omega arith)
    go (Some ys) e =
        elim (ℕ_discrete (length ys) 4) [
          | yes h ↦ let same : Some ys ≡ Some xs = sym (ap (λ (b : Bool). cond b (Some ys) None) (eq-eqb (length ys) 4 h)) ∙ e in
              let equal : ys ≡ xs = cc in sym (ap length equal) ∙ h
          | no h ↦ let never = sym (ap (λ (b : Bool). cond b (Some ys) None) (ne_eqb (length ys) 4 h)) ∙ e in
              let z : ◌≡◌ {A = ℕ} 0 1 = cc in absurd (omega arith)
        ]

-- ---- one side of `::`, and both with zeros between

module _ (four : Bool) (t : List ℕ) where
  pub side-none : length t ≡ 0 → side four t ≡ Some []
  unfolding side
  side-none h = rw (eq-eqb (length t) 0 h)

  pub side-some : (length t ≡ 0 → ⊥) → side four t ≡ groups four t
  unfolding side
  side-some h = rw (ne_eqb (length t) 0 h)

drop-zeros : (n m : ℕ) → drop n (zeros (n + m)) ≡ zeros m
drop-zeros n m = ap (drop n) (sym (zeros-append n m)) ∙ drop_at (zeros n) (zeros m) n (length-zeros n)

-- zeros written over zeros
write-zeros : (w k : ℕ) (xs : List ℕ) → length xs + k ≤ w → write (zeros w) 0 (xs ++ zeros k) ≡ write (zeros w) 0 xs
write-zeros w k xs h =
    let left = w - (length xs + k) in
    let count : length (xs ++ zeros k) ≡ length xs + k = omega (arith, length-append xs (zeros k), length-zeros k) in
    let all : w ≡ length xs + k + left = omega arith in
    let more : w ≡ length xs + (k + left) = omega arith in
    let behind : drop (length (xs ++ zeros k)) (zeros w)
    ≡ zeros left = rw count (ap (λ (n : ℕ). drop (length xs + k) (zeros n)) all ∙ drop-zeros (length xs + k) left) in
    let from : drop (length xs) (zeros w) ≡ zeros (k + left) = ap (λ (n : ℕ). drop (length xs) (zeros n)) more ∙ drop-zeros (length xs) (k + left) in
    write-front (zeros w) (xs ++ zeros k) (omega (arith, length-zeros w))
    ∙ rw (behind, append_assoc xs (zeros k) (zeros left), zeros-append k left, ← from)
    (sym (write-front (zeros w) xs (omega (arith, length-zeros w))))

module _ {b c : List ℕ} {n m : ℕ} (o p : Option (List ℕ)) (g : Gathers (zeros 17) b 0 n o) (h : Gathers (zeros 17) c 0 m p) where
  pub filled-no : 14 < n + m → filled o p ≡ None
  filled-no long = go o p refl refl
    where
      go : (x y : Option (List ℕ)) → o ≡ x → p ≡ y → filled x y ≡ None
      go None y e f = refl
      go (Some xs) None e f = refl
      go (Some xs) (Some ys) e f =
          rw (lt-leb (length xs + length ys) 14 (omega (arith, (g.puts xs e).end, (h.puts ys f).end)))

  pub filled-yes : n + m ≤ 14 → filled o p ≡ Some (bytes_at (write b (16 - m) (part c 0 m)) 0 16)
  filled-yes short = go o p refl refl
    where
      width : length (zeros 17) ≡ 17
      width = length-zeros 17

      go : (x y : Option (List ℕ)) → o ≡ x → p ≡ y → filled x y ≡ Some (bytes_at (write b (16 - m) (part c 0 m)) 0 16)
      go None y e f = absurd (omega (arith, g.refuses e, width))
      go (Some xs) None e f = absurd (omega (arith, h.refuses f, width))
      go (Some xs) (Some ys) e f =
          let n-is : length xs ≡ n = omega (arith, (g.puts xs e).end, width) in
          let m-is : length ys ≡ m = omega (arith, (h.puts ys f).end, width) in
          let k = 16 - (length xs + length ys) in
          let back : part c 0 m ≡ ys = part-whole c m ∙ (rw m-is at (puts-front (h.puts ys f) (omega (arith, width)))) in
          let count : length (xs ++ zeros k) ≡ length xs + k = omega (arith, length-append xs (zeros k), length-zeros k) in
          let front : b ≡ write (zeros 17) 0 (xs ++ zeros k) = (g.puts xs e).bytes ∙ sym (write-zeros 17 k xs (omega arith)) in
          let sixteen : length (xs ++ (zeros k ++ ys)) ≡ 16 = omega (arith, length-append xs (zeros k ++ ys), length-append (zeros k) ys, length-zeros k) in
          let joined : write b (16 - m) ys ≡ write (zeros 17) 0 (xs ++ (zeros k ++ ys)) =
          rw front (write-next (zeros 17) 0 (16 - m) (xs ++ zeros k) ys (omega arith)) ∙ ap (write (zeros 17) 0) (append_assoc xs (zeros k) ys) in
          let whole : part (write b (16 - m) ys) 0 16 ≡ xs ++ (zeros k ++ ys) =
          part-whole (write b (16 - m) ys) 16
          ∙ ap (take 16) (joined ∙ write-front (zeros 17) (xs ++ (zeros k ++ ys)) (omega (arith, width)))
          ∙ take_at (xs ++ (zeros k ++ ys)) (drop (length (xs ++ (zeros k ++ ys))) (zeros 17)) 16 sixteen in
          rw (
            le-leb (length xs + length ys) 14 (omega arith),
            back,
            bytes-part (write b (16 - m) ys) 0 16 (omega (arith, length-write b (16 - m) ys, g.size, width)),
            whole,
          )

  pub filled-written : n + m ≤ 14 → (w v : List ℕ) → w ≡ write b (16 - m) v → v ≡ part c 0 m → filled o p ≡ Some (bytes_at w 0 16)
  filled-written short w v e f = filled-yes short ∙ ap (λ (x : List ℕ). Some (bytes_at x 0 16)) (sym (e ∙ ap (write b (16 - m)) f))

pub with_gap-sides : (t : List ℕ) (g : ℕ) (x y : List ℕ) → x ≡ part t 0 g → y ≡ part t (g + 2) (length t)
    → with_gap t g ≡ filled (side false x) (side true y)
unfolding with_gap
with_gap-sides t g x y e f = rw (e, f, part-whole t g, part-rest t (g + 2) (length t) (omega arith))

-- ---- the first `::`

abbrev pub gap_here : List ℕ → ℕ → Bool
gap_here t k = eqb (byte t k) colon && eqb (byte t (suc k)) colon

pub gap-found : (t : List ℕ) (k : ℕ) → k < length t → ((j : ℕ) → j < k → gap_here t j ≡ false) → gap_here t k ≡ true → k ≡ gap_at t
unfolding gap_at
gap-found t k h before here = sym (first-is (length t) (gap_here t) k (omega arith) before (λ l. here))

pub gap-missing : (t : List ℕ) (k : ℕ) → k ≡ length t → ((j : ℕ) → j < k → gap_here t j ≡ false) → k ≡ gap_at t
unfolding gap_at
gap-missing t k h before = sym (first-is (length t) (gap_here t) k (omega arith) before (λ l. absurd (omega arith)))

-- the two bytes that the code looks at
pub gap-test : (t : List ℕ) (k v : ℕ) (b : Bool) → v ≡ byte t (k + 1) → (eqb (byte t k) colon && eqb v colon) ≡ b → gap_here t k ≡ b
gap-test t k v b e h = rw (e, add-one) at h

-- ---- which of the forms a text has

module _ (t : List ℕ) (n : ℕ) where
  pub six-gap : n ≡ gap_at t → n < length t → with_gap t n ≡ read_six t
  unfolding read_six
  six-gap e h = rw (← e, lt-ltb n (length t) h)

  pub six-plain : n ≡ gap_at t → length t ≤ n → without_gap t ≡ read_six t
  unfolding read_six
  six-plain e h = rw (← e, le-ltb n (length t) h)

  pub address-six : n ≡ index_of colon t → n < length t → read_six t ≡ read_address t
  unfolding read_address
  address-six e h = rw (← e, lt-ltb n (length t) h)

  pub address-four : n ≡ index_of colon t → length t ≤ n → mapped_four (four_bytes t) ≡ read_address t
  unfolding read_address
  address-four e h = rw (← e, le-ltb n (length t) h)
