-- Laws of strings as text. A text is followed piece by piece: what stands from i on is the piece's byte and what stands behind
-- the piece. The text of a string is read back as that string, since each byte's text is one piece that stands for it.
--     begins-..          the piece at i, one law for each answer of the code
--     string-..          what a text stands for, by the first tests
--     longer-..          the bytes counted so far and those of the rest
--     along-..           the bytes put so far and those of the rest
--     decoded-.., content-..     what the answer to the length says of the string
--     string-short       a string is not longer than its text
--     string-back        the text of a string stands for that string
--     text-nonempty, text-length     how long that text is
--     text-line, text-whole          it has no line feed, and no blank at its ends
-- Assumes nothing.
use Rattle.octets.specs.Options.{bind}
use Rattle.std.specs.Prelude.{Option, None, Some, option_map, unwrap_or}
use mathlib.Core.Path.{◌≡◌, refl, sym, ap, subst, ◌∙◌}
use mathlib.Core.List.{List, [], ◌∷◌, ◌++◌, append_assoc, append-nil}
use mathlib.Core.Bool.{Bool, true, false, cond, ◌&&◌, and-false}
use Prim.Native.Nat.{ℕ, zero, suc, ◌+◌, ◌*◌, ◌<◌, ◌≤◌}
use Prim.Native.Char.{code}
use native.Mathlib.Nat.{add-zero, zero-add}
use native.Mathlib.Numerals.{add-one}
use native.Mathlib.Decide.{dec_lt}
use native.Mathlib.Omega.{arith}
use lib.ListN.{length, drop, drop_of_length-le, length-append, length-drop}
use lib.Seq.{drop-cons}
use lib.Dec.{eqb, leb, ltb}
use borrow.Author.Tests.{eq-eqb, ne_eqb, le-leb, le-ltb, leb-true, eqb-false, not-true}
use Rattle.octets.specs.Counting.{first, any, tabulate, gather}
use Rattle.octets.specs.Octets.{byte, differs}
use Rattle.octets.proofs.CountingLaws.{each_holds, gather-last}
use Rattle.octets.proofs.ReadLaws.{byte_past}
use Rattle.octets.proofs.TestLaws.{and_both, and_no}
use Rattle.text.specs.Put.{Puts}
use Rattle.text.specs.Split.{is_blank, is, before, blanks, trim_end, trim, each, lacks}
use Rattle.text.proofs.SplitLaws.{trim_end-whole, trim_end-append, trim-whole, blanks-append}
use Rattle.text.proofs.PutLaws.{puts-nothing, puts-length, puts-within, puts-append, puts-same}
use Rattle.notation.specs.Number.{within, below, hex_digit, digit, value_from, numeral, hex_byte_at, digit_byte, padded}
use Rattle.notation.specs.Escape.{backslash, quote, bare, joined, bytes_of, escaped, numbered, is_quotes, string_of, content_of}
use Rattle.notation.specs.Escape.{first_shown, shown, byte_text, is_inner, text_at, string_text}
use Rattle.notation.specs.EscapeWalk.{IsPiece, Begins}
use Rattle.notation.specs.declared.escape.Piece.{Piece}
use Rattle.notation.proofs.NumberLaws.{numeral-padded, Each, padded-each, padded-length}

-- ---- what stands at i

module _ (t : List ℕ) (i : ℕ) where
  -- a byte that is not 0 stands in the text
  inside : 0 < byte t i → i < length t
  inside h =
      elim (dec_lt i (length t)) [
        | yes l ↦ l
        | no l ↦ absurd (omega (arith, byte_past t i (omega arith)))
      ]

  bytes-at : i < length t
      → bytes_of (drop i t)
      ≡ cond (eqb (byte t i) backslash) (escaped (drop (i + 1) t))
      (cond (bare (byte t i)) (joined (Some (byte t i)) (bytes_of (drop (i + 1) t))) None)
  unfolding bytes_of
  bytes-at h = rw (drop-cons t i 0, add-one)

  bytes-end : length t ≤ i → bytes_of (drop i t) ≡ Some []
  unfolding bytes_of
  bytes-end h = rw drop_of_length-le

-- behind a backslash at i. (Past the end a byte reads as 0, which is neither a backslash nor x.)
escaped-at : (t : List ℕ) (i : ℕ)
    → escaped (drop (i + 1) t)
    ≡ cond (eqb (byte t (i + 1)) backslash) (joined (Some backslash) (bytes_of (drop (i + 2) t)))
    (cond (eqb (byte t (i + 1)) (code "x")) (numbered (drop (i + 2) t)) None)
unfolding bytes_of
escaped-at t i =
    elim (dec_lt (i + 1) (length t)) [
      | yes h ↦
          let next : suc (i + 1) ≡ i + 2 = omega arith in
          rw (drop-cons t (i + 1) 0 h, next)
      | no h ↦
          let end : length t ≤ i + 1 = omega arith in
          rw (drop_of_length-le t end, ← byte_past t (i + 1) end)
    ]

-- behind `\x` at i. (A byte past the end is no digit either.)
number_past : (t : List ℕ) (i : ℕ) → length t ≤ i + 1 → hex_byte_at t i ≡ None
unfolding numeral value_from bind digit below hex_digit
number_past t i h = rw (← byte_past t (i + 1) h) (go (digit 16 (byte t i)))
  where
    go : (o : Option ℕ) → bind {B = ℕ} (option_map (λ (d : ℕ). 0 * 16 + d) o) (λ (n : ℕ). None) ≡ None
    go None = refl
    go (Some d) = refl

number-inside : (t : List ℕ) (i v : ℕ) → hex_byte_at t i ≡ Some v → i + 1 < length t
number-inside t i v e =
    elim (dec_lt (i + 1) (length t)) [
      | yes h ↦ h
      | no h ↦
          let no_number = number_past t i (omega arith) in
          let z : ◌≡◌ {A = ℕ} 0 1 = cc in
          absurd (omega arith)
    ]

numbered-few : (t : List ℕ) → length t ≤ 1 → numbered t ≡ None
unfolding bytes_of
numbered-few [] h = refl
numbered-few (a ∷ []) h = refl
numbered-few (a ∷ (b ∷ t)) h = absurd (omega arith)

numbered-at : (t : List ℕ) (i : ℕ) → numbered (drop (i + 2) t) ≡ joined (hex_byte_at t (i + 2)) (bytes_of (drop (i + 4) t))
unfolding bytes_of
numbered-at t i =
    elim (dec_lt (i + 3) (length t)) [
      | yes h ↦
          let third : i + 2 < length t = omega arith in
          let next : suc (i + 2) ≡ i + 3 = omega arith in
          let last : suc (i + 3) ≡ i + 4 = omega arith in
          let second : i + 2 + 1 ≡ i + 3 = omega arith in
          rw (drop-cons t (i + 2) 0 third, next, drop-cons t (i + 3) 0 h, last, second)
      | no h ↦
          rw (number_past t (i + 2) (omega arith)) (numbered-few (drop (i + 2) t) (omega (arith, length-drop (i + 2) t)))
    ]

-- ---- the piece at i, one law for each answer of the code

stands : (t : List ℕ) (m : Option (List ℕ)) (i n b : ℕ) → 0 < n → i + n ≤ length t → m ≡ joined (Some b) (bytes_of (drop (i + n) t))
    → IsPiece t m i (record { size = n; byte = b })
stands t m i n b some_bytes h e = record { some_bytes = some_bytes; within = h; meant = e }

-- where two meanings are the same
begins-same : (t : List ℕ) (m m' : Option (List ℕ)) (i : ℕ) (o : Option Piece) → m ≡ m' → Begins t m' i o → Begins t m i o
begins-same t m m' i o e b = subst (λ (x : Option (List ℕ)). Begins t x i o) (sym e) b

module _ (t : List ℕ) (i : ℕ) (lies : i < length t) where
  pub begins-escape : (o : Option Piece) → byte t i ≡ backslash → Begins t (escaped (drop (i + 1) t)) i o → Begins t (bytes_of (drop i t)) i o
  begins-escape o e = begins-same t _ _ i o (rw (eq-eqb (byte t i) backslash e) at (bytes-at t i lies))

  pub begins-bare : (byte t i ≡ backslash → ⊥) → bare (byte t i) ≡ true → IsPiece t (bytes_of (drop i t)) i (record { size = 1; byte = byte t i })
  begins-bare e f = stands t _ i 1 (byte t i) (omega arith) (omega arith) (rw (ne_eqb (byte t i) backslash e, f) at (bytes-at t i lies))

  pub begins-control : (byte t i ≡ backslash → ⊥) → bare (byte t i) ≡ false → bytes_of (drop i t) ≡ None
  begins-control e f = rw (ne_eqb (byte t i) backslash e, f) at (bytes-at t i lies)

  -- behind a backslash at i
  pub begins-backslash : byte t (i + 1) ≡ backslash → IsPiece t (escaped (drop (i + 1) t)) i (record { size = 2; byte = backslash })
  begins-backslash e =
      let l : i + 1 < length t = inside t (i + 1) (omega arith) in
      stands t _ i 2 backslash (omega arith) (omega arith) (rw (eq-eqb (byte t (i + 1)) backslash e) at (escaped-at t i))

  pub begins-x : (o : Option Piece) → byte t (i + 1) ≡ code "x" → Begins t (numbered (drop (i + 2) t)) i o → Begins t (escaped (drop (i + 1) t)) i o
  begins-x o e =
      begins-same t _ _ i o (rw (ne_eqb (byte t (i + 1)) backslash (omega arith), eq-eqb (byte t (i + 1)) (code "x") e) at (escaped-at t i))

  pub begins-other : (byte t (i + 1) ≡ backslash → ⊥) → (byte t (i + 1) ≡ code "x" → ⊥) → escaped (drop (i + 1) t) ≡ None
  begins-other e f = rw (ne_eqb (byte t (i + 1)) backslash e, ne_eqb (byte t (i + 1)) (code "x") f) at (escaped-at t i)

  -- behind `\x` at i
  pub begins-no-number : hex_byte_at t (i + 2) ≡ None → numbered (drop (i + 2) t) ≡ None
  begins-no-number e = rw e at (numbered-at t i)

  pub begins-number : (v : ℕ) → hex_byte_at t (i + 2) ≡ Some v → IsPiece t (numbered (drop (i + 2) t)) i (record { size = 4; byte = v })
  begins-number v e =
      stands t _ i 4 v (omega arith) (omega (arith, number-inside t (i + 2) v e)) (rw e at (numbered-at t i))

-- ---- what a text stands for, by the first tests

pub string-none : (t : List ℕ) → length t ≡ 0 → string_of t ≡ None
unfolding string_of
string-none [] e = refl
string-none (b ∷ t) e = absurd (omega arith)

pub string-quotes : (t : List ℕ) → 0 < length t → is_quotes t ≡ true → string_of t ≡ Some []
unfolding string_of
string-quotes [] h e = absurd (omega arith)
string-quotes (b ∷ t) h e = rw e

pub string_bytes : (t : List ℕ) → 0 < length t → is_quotes t ≡ false → string_of t ≡ bytes_of t
unfolding string_of
string_bytes [] h e = absurd (omega arith)
string_bytes (b ∷ t) h e = rw e

-- ---- bytes counted: n so far and those of the rest

abbrev pub longer : ℕ → Option (List ℕ) → Option ℕ
longer n None = None
longer n (Some s) = Some (n + length s)

pub longer-zero : (m : Option (List ℕ)) → longer 0 m ≡ option_map length m
longer-zero None = refl
longer-zero (Some s) = ap Some (zero-add (length s))

longer-joined : (n b : ℕ) (m : Option (List ℕ)) → longer n (joined (Some b) m) ≡ longer (n + 1) m
longer-joined n b None = refl
longer-joined n b (Some s) = ap Some (omega arith)

module _ (t : List ℕ) (i n : ℕ) (a : Option ℕ) (counted : longer n (bytes_of (drop i t)) ≡ a) where
  pub longer-more : (p : Piece) → IsPiece t (bytes_of (drop i t)) i p → longer (n + 1) (bytes_of (drop (i + p.size) t)) ≡ a
  longer-more p b = sym (longer-joined n p.byte (bytes_of (drop (i + p.size) t))) ∙ ap (longer n) (sym b.meant) ∙ counted

  pub longer-broken : bytes_of (drop i t) ≡ None → None ≡ a
  longer-broken e = ap (longer n) (sym e) ∙ counted

  pub longer-end : length t ≤ i → Some n ≡ a
  longer-end h = ap Some (sym (add-zero n)) ∙ ap (longer n) (sym (bytes-end t i h)) ∙ counted

-- ---- bytes put: those so far and those of the rest

-- bytes in front of a string
abbrev pub following : List ℕ → Option (List ℕ) → Option (List ℕ)
following done None = None
following done (Some s) = Some (done ++ s)

following-nothing : (m : Option (List ℕ)) → following [] m ≡ m
following-nothing None = refl
following-nothing (Some s) = refl

following-joined : (done : List ℕ) (b : ℕ) (m : Option (List ℕ)) → following done (joined (Some b) m) ≡ following (done ++ (b ∷ [])) m
following-joined done b None = refl
following-joined done b (Some s) = ap Some (sym (append_assoc done (b ∷ []) s))

same_some : (m : Option (List ℕ)) (a b : List ℕ) → m ≡ Some a → m ≡ Some b → a ≡ b
same_some m a b p q = cc

-- nothing more put, at the place behind a text that was put
pub puts-stay : {a b : List ℕ} {at m : ℕ} {xs : List ℕ} → Puts a b at m xs → Puts b b m m []
puts-stay {b = b} {m = m} p = puts-nothing b m (omega (arith, puts-within p, puts-length p))

-- the text is read up to i, and what it stands for so far is put
pub record Along (t : List ℕ) (i : ℕ) (before after : List ℕ) (at place : ℕ) : Type 0 where
  pub done : List ℕ
  pub reads : bytes_of t ≡ following done (bytes_of (drop i t))
  pub puts : Puts before after at place done

pub along-start : (t : List ℕ) {before after : List ℕ} {at place : ℕ} → Puts before after at place [] → Along t 0 before after at place
along-start t p = record { done = []; reads = sym (following-nothing (bytes_of t)); puts = p }

module _ (t : List ℕ) (i : ℕ) {before after : List ℕ} {at place : ℕ} (so_far : Along t i before after at place) where
  pub along-more : {more : List ℕ} {next : ℕ} (p : Piece) → IsPiece t (bytes_of (drop i t)) i p
      → Puts after more place next (p.byte ∷ []) → Along t (i + p.size) before more at next
  along-more p b put =
      record {
        done = so_far.done ++ (p.byte ∷ []);
        reads = so_far.reads ∙ ap (following so_far.done) b.meant ∙ following-joined so_far.done p.byte (bytes_of (drop (i + p.size) t));
        puts = puts-append so_far.puts put;
      }

  pub along-broken : bytes_of (drop i t) ≡ None → (s : List ℕ) → bytes_of t ≡ Some s → Puts before after at place s
  along-broken b s e =
      let no : bytes_of t ≡ None = so_far.reads ∙ ap (following so_far.done) b in
      absurd (let z : ◌≡◌ {A = ℕ} 0 1 = cc in omega arith)

  pub along-end : length t ≤ i → (s : List ℕ) → bytes_of t ≡ Some s → Puts before after at place s
  along-end h s e =
      let all : bytes_of t ≡ Some (so_far.done ++ []) = so_far.reads ∙ ap (following so_far.done) (bytes-end t i h) in
      puts-same so_far.puts (sym (append-nil so_far.done) ∙ same_some (bytes_of t) (so_far.done ++ []) s all e)

-- ---- what the answer to the length says of the string

pub decoded-bad : (m : Option (List ℕ)) → None ≡ option_map length m → m ≡ None
decoded-bad None e = refl
decoded-bad (Some s) e = absurd (let z : ◌≡◌ {A = ℕ} 0 1 = cc in omega arith)

pub decoded-length : (m : Option (List ℕ)) (n : ℕ) → Some n ≡ option_map length m → (m ≡ Some (content_of m)) × (n ≡ length (content_of m))
decoded-length None n e = let z : ◌≡◌ {A = ℕ} 0 1 = cc in absurd (omega arith)
decoded-length (Some s) n e = (refl, cc)

pub content-bad : (m : Option (List ℕ)) → None ≡ option_map length m → [] ≡ content_of m
content-bad m e = sym (ap content_of (decoded-bad m e))

-- the length that a text has, or 0 where it stands for no string
abbrev pub size_of : Option (List ℕ) → ℕ
size_of m = unwrap_or (option_map length m) 0

pub content-empty : (m : Option (List ℕ)) → size_of m ≡ 0 → [] ≡ content_of m
content-empty None e = refl
content-empty (Some []) e = refl
content-empty (Some (b ∷ s)) e = absurd (omega arith)

-- a text that stands for a string of at least one byte is pieces from its beginning to its end
content-if : (q : Bool) (m : Option (List ℕ)) → 0 < size_of (cond q (Some []) m) → m ≡ Some (content_of (cond q (Some []) m))
content-if true m h = absurd (omega arith)
content-if false None h = absurd (omega arith)
content-if false (Some s) h = refl

pub content-bytes : (t : List ℕ) → 0 < size_of (string_of t) → bytes_of t ≡ Some (content_of (string_of t))
unfolding string_of
content-bytes [] h = absurd (omega arith)
content-bytes (b ∷ t) h = content-if (is_quotes (b ∷ t)) (bytes_of (b ∷ t)) h

-- ---- a string is not longer than its text

-- the string, where there is one, has at most n bytes
abbrev Short : ℕ → Option (List ℕ) → Type 0
Short n m = (s : List ℕ) → m ≡ Some s → length s ≤ n

short_none : (n : ℕ) → Short n None
short_none n s e = let z : ◌≡◌ {A = ℕ} 0 1 = cc in absurd (omega arith)

short-cond : (q : Bool) (n : ℕ) (a b : Option (List ℕ)) → Short n a → Short n b → Short n (cond q a b)
short-cond true n a b f g = f
short-cond false n a b f g = g

short-joined : (o : Option ℕ) (k n : ℕ) (m : Option (List ℕ)) → Short n m → n < k → Short k (joined o m)
short-joined None k n m f h s e = short_none k s e
short-joined (Some b) k n None f h s e = short_none k s e
short-joined (Some b) k n (Some r) f h s e =
    let size : suc (length r) ≡ length s = ap length (same_some (Some s) (b ∷ r) s (sym e) refl) in
    omega (arith, f r refl)

mutual
  unfolding bytes_of

  bytes-short : (t : List ℕ) → Short (length t) (bytes_of t)
  bytes-short [] = λ s e. omega (arith, ap length (same_some (Some []) [] s refl e))
  bytes-short (b ∷ t) =
      short-cond (eqb b backslash) (suc (length t)) (escaped t) (cond (bare b) (joined (Some b) (bytes_of t)) None)
      (λ s e. omega (arith, escaped-short t s e))
      (short-cond (bare b) (suc (length t)) (joined (Some b) (bytes_of t)) None
      (short-joined (Some b) (suc (length t)) (length t) (bytes_of t) (bytes-short t) (omega arith)) (short_none (suc (length t))))

  escaped-short : (t : List ℕ) → Short (length t) (escaped t)
  escaped-short [] = short_none 0
  escaped-short (b ∷ t) =
      short-cond (eqb b backslash) (suc (length t)) (joined (Some backslash) (bytes_of t)) (cond (eqb b (code "x")) (numbered t) None)
      (short-joined (Some backslash) (suc (length t)) (length t) (bytes_of t) (bytes-short t) (omega arith))
      (short-cond (eqb b (code "x")) (suc (length t)) (numbered t) None (λ s e. omega (arith, numbered-short t s e)) (short_none (suc (length t))))

  numbered-short : (t : List ℕ) → Short (length t) (numbered t)
  numbered-short [] = short_none 0
  numbered-short (h ∷ []) = short_none 1
  numbered-short (h ∷ (l ∷ t)) =
      short-joined (numeral 16 (h ∷ (l ∷ []))) (suc (suc (length t))) (length t) (bytes_of t) (bytes-short t) (omega arith)

pub string-short : (t s : List ℕ) → string_of t ≡ Some s → length s ≤ length t
unfolding string_of
string-short [] = short_none 0
string-short (b ∷ t) =
    short-cond (is_quotes (b ∷ t)) (suc (length t)) (Some []) (bytes_of (b ∷ t))
    (λ s e. omega (arith, ap length (same_some (Some []) [] s refl e))) (bytes-short (b ∷ t))

-- ---- the text of bytes, one after another

pub text-empty : (s : List ℕ) → length s ≡ 0 → quote ∷ quote ∷ [] ≡ string_text s
unfolding string_text
text-empty [] e = refl
text-empty (b ∷ s) e = absurd (omega arith)

pub text-bytes : (s : List ℕ) → 0 < length s → gather (text_at s) 0 (length s) ≡ string_text s
unfolding string_text
text-bytes [] h = absurd (omega arith)
text-bytes (b ∷ s) h = refl

-- the texts of the first i bytes and that of byte i
pub text-more : (s : List ℕ) (i : ℕ) (inner : Bool) → inner ≡ is_inner s i → gather (text_at s) 0 i ++ byte_text inner (byte s i) ≡ gather (text_at s) 0 (i + 1)
unfolding text_at
text-more s i inner e =
    let last : text_at s (0 + i) ≡ byte_text inner (byte s i) = rw (zero-add i) (ap (λ (v : Bool). byte_text v (byte s i)) (sym e)) in
    sym (rw add-one (gather-last (text_at s) 0 i ∙ ap (λ (l : List ℕ). gather (text_at s) 0 i ++ l) last))

-- ---- the text of a byte: itself where it is shown, else `\x` and two digits

-- what is known of a byte that is written as itself
record Shown (inner : Bool) (b : ℕ) : Type 0 where
  low : first_shown inner ≤ b
  high : b ≤ 0x7e
  no-backslash : b ≡ backslash → ⊥
  no-quote : b ≡ quote → ⊥

shown-facts : (inner : Bool) (b : ℕ) → shown inner b ≡ true → Shown inner b
shown-facts inner b e =
    let low = first_shown inner in
    let both = and_both (within low 0x7e b && differs b backslash) (differs b quote) e in
    let rest = and_both (within low 0x7e b) (differs b backslash) both.0 in
    let bounds = and_both (leb low b) (leb b 0x7e) rest.0 in
    record {
      low = leb-true low b bounds.0;
      high = leb-true b 0x7e bounds.1;
      no-backslash = eqb-false b backslash (not-true (eqb b backslash) rest.1);
      no-quote = eqb-false b quote (not-true (eqb b quote) both.1);
    }

-- it is no control character
shown-low : (inner : Bool) (b : ℕ) → Shown inner b → 0x20 ≤ b
shown-low true b f = f.low
shown-low false b f = omega (arith, f.low)

module _ (inner : Bool) (b : ℕ) where
  -- what holds of the byte's text holds of both
  by-text : (P : List ℕ → Type 0) → (Shown inner b → P (b ∷ [])) → P (backslash ∷ (code "x" ∷ padded 2 16 b)) → P (byte_text inner b)
  unfolding byte_text
  by-text P own other = go (shown inner b) (λ e. own (shown-facts inner b e))
    where
      go : (v : Bool) → (v ≡ true → P (b ∷ [])) → P (cond v (b ∷ []) (backslash ∷ (code "x" ∷ padded 2 16 b)))
      go true f = f refl
      go false f = other

  pub own-text : shown inner b ≡ true → b ∷ [] ≡ byte_text inner b
  unfolding byte_text
  own-text e = rw e

  pub escape-text : shown inner b ≡ false → backslash ∷ (code "x" ∷ []) ++ padded 2 16 b ≡ byte_text inner b
  unfolding byte_text
  escape-text e = rw e

-- ---- the text of a string, read back

-- a text is one piece that stands for the byte
abbrev Stands : List ℕ → ℕ → Type 0
Stands x b = (t : List ℕ) → bytes_of (x ++ t) ≡ joined (Some b) (bytes_of t)

piece_back : (inner : Bool) (b : ℕ) → b < 256 → Stands (byte_text inner b) b
unfolding bytes_of padded
piece_back inner b h t =
    by-text inner b (λ (x : List ℕ). bytes_of (x ++ t) ≡ joined (Some b) (bytes_of t))
    (λ f. simp (ne_eqb b backslash f.no-backslash, le-leb 0x20 b (shown-low inner b f), ne_eqb b 0x7f (omega (arith, f.high))))
    (ap (λ (o : Option ℕ). joined o (bytes_of t)) (numeral-padded 16 (omega arith) (omega arith) 1 b h))

-- such texts of the bytes of s, one after another, stand for s
pieces-back : (f : ℕ → List ℕ) (s : List ℕ) (k : ℕ) → ((i : ℕ) → Stands (f (k + i)) (byte s i)) → bytes_of (gather f k (length s)) ≡ Some s
unfolding gather bytes_of
pieces-back f [] k each = refl
pieces-back f (b ∷ s) k each =
    let here : f (k + 0) ≡ f k = ap f (add-zero k) in
    let next : (i : ℕ) → f (k + suc i) ≡ f (suc k + i) = λ i. ap f (omega arith) in
    (rw here at (each 0)) (gather f (suc k) (length s)) ∙ ap (joined (Some b)) (pieces-back f s (suc k) (λ i. rw (next i) at (each (suc i))))

-- the text of a string does not begin with a quote
text-no-quotes : (inner : Bool) (b : ℕ) (t : List ℕ) → is_quotes (byte_text inner b ++ t) ≡ false
text-no-quotes inner b t =
    by-text inner b (λ (x : List ℕ). is_quotes (x ++ t) ≡ false) (λ f. simp (ne_eqb b quote f.no-quote, and-false)) (simp and-false)

byte-nonempty : (inner : Bool) (b : ℕ) → 0 < length (byte_text inner b)
byte-nonempty inner b = by-text inner b (λ (x : List ℕ). 0 < length x) (λ f. omega arith) (omega arith)

pub text-nonempty : (s : List ℕ) → 0 < length (string_text s)
unfolding string_text gather text_at
text-nonempty [] = omega arith
text-nonempty (b ∷ s) =
    omega (arith, length-append (text_at (b ∷ s) 0) (gather (text_at (b ∷ s)) 1 (length s)), byte-nonempty (is_inner (b ∷ s) 0) b)

-- the text of a string of bytes stands for that string
pub string-back : (s : List ℕ) → ((i : ℕ) → byte s i < 256) → string_of (string_text s) ≡ Some s
unfolding string_of string_text gather text_at
string-back [] h = refl
string-back (b ∷ s) h =
    string_bytes (string_text (b ∷ s)) (text-nonempty (b ∷ s)) (text-no-quotes (is_inner (b ∷ s) 0) b (gather (text_at (b ∷ s)) 1 (length s)))
    ∙ pieces-back (text_at (b ∷ s)) (b ∷ s) 0 (λ i. rw (zero-add i) (piece_back (is_inner (b ∷ s) i) (byte (b ∷ s) i) (h i)))

-- ---- what the text of a string looks like

byte-length : (inner : Bool) (b : ℕ) → length (byte_text inner b) ≤ 4
byte-length inner b = by-text inner b (λ (x : List ℕ). length x ≤ 4) (λ f. omega arith) (omega (arith, padded-length 16 2 b))

bytes-length : (s : List ℕ) (k n : ℕ) → length (gather (text_at s) k n) ≤ 4 * n
unfolding gather text_at
bytes-length s k zero = omega arith
bytes-length s k (suc n) =
    omega (arith, length-append (text_at s k) (gather (text_at s) (suc k) n), byte-length (is_inner s k) (byte s k), bytes-length s (suc k) n)

pub text-length : (s : List ℕ) → length (string_text s) ≤ 4 * length s + 2
unfolding string_text
text-length [] = omega arith
text-length (b ∷ s) = omega (arith, bytes-length (b ∷ s) 0 (length (b ∷ s)))

module _ (P : ℕ → Type 0) where
  each-cons : (x : ℕ) (xs : List ℕ) → P x → Each P xs → Each P (x ∷ xs)
  each-cons x xs p each zero h = p
  each-cons x xs p each (suc k) h = each k (omega arith)

  each_append : (xs ys : List ℕ) → Each P xs → Each P ys → Each P (xs ++ ys)
  each_append [] ys f g = g
  each_append (x ∷ xs) ys f g = each-cons x (xs ++ ys) (f 0 (omega arith)) (each_append xs ys (λ k h. f (suc k) (omega arith)) g)

  -- a test that no such byte passes
  each-lacks : (p : ℕ → Bool) → ((b : ℕ) → P b → p b ≡ false) → (t : List ℕ) → Each P t → lacks p t ≡ true
  unfolding each
  each-lacks p fails [] f = refl
  each-lacks p fails (b ∷ t) f = rw (fails b (f 0 (omega arith))) (each-lacks p fails t (λ k h. f (suc k) (omega arith)))

-- no byte is below that which a byte in its place can be
abbrev AtLeast : Bool → ℕ → Type 0
AtLeast inner b = first_shown inner ≤ b

digit-seen : (d : ℕ) → d < 16 → 0x21 ≤ digit_byte d
unfolding any first tabulate digit_byte
digit-seen d h = leb-true 0x21 (digit_byte d) (each_holds 16 (λ (k : ℕ). leb 0x21 (digit_byte k)) refl d h)

seen-least : (inner : Bool) (b : ℕ) → 0x21 ≤ b → AtLeast inner b
seen-least true b h = omega arith
seen-least false b h = h

byte-least : (inner : Bool) (b : ℕ) → Each (AtLeast inner) (byte_text inner b)
byte-least inner b =
    let P = AtLeast inner in
    by-text inner b (Each P) (λ f. each-cons P b [] f.low (λ k h. absurd (omega arith)))
    (each-cons P backslash (code "x" ∷ padded 2 16 b) (seen-least inner backslash (omega arith))
    (each-cons P (code "x") (padded 2 16 b) (seen-least inner (code "x") (omega arith))
    (padded-each 16 (omega arith) (omega arith) P (λ d h. seen-least inner (digit_byte d) (digit-seen d h)) 2 b)))

-- a line feed is in no text
least-printable : (inner : Bool) (b : ℕ) → AtLeast inner b → 0x20 ≤ b
least-printable true b h = h
least-printable false b h = omega arith

bytes-printable : (s : List ℕ) (k n : ℕ) → Each (λ (b : ℕ). 0x20 ≤ b) (gather (text_at s) k n)
unfolding gather text_at
bytes-printable s k zero = λ i h. absurd (omega arith)
bytes-printable s k (suc n) =
    let inner = is_inner s k in
    each_append (λ (b : ℕ). 0x20 ≤ b) (text_at s k) (gather (text_at s) (suc k) n)
    (λ i h. least-printable inner (byte (byte_text inner (byte s k)) i) (byte-least inner (byte s k) i h)) (bytes-printable s (suc k) n)

pub text-line : (s : List ℕ) → lacks (is 10) (string_text s) ≡ true
unfolding string_text each
text-line [] = refl
text-line (b ∷ s) =
    each-lacks (λ (x : ℕ). 0x20 ≤ x) (is 10) (λ x h. ne_eqb x 10 (omega arith)) (string_text (b ∷ s)) (bytes-printable (b ∷ s) 0 (length (b ∷ s)))

-- no blank is in the text of its first or of its last byte: it is left whole where a line's value is trimmed
end_whole : (b : ℕ) → lacks is_blank (byte_text false b) ≡ true
unfolding is_blank
end_whole b =
    each-lacks (AtLeast false) is_blank
    (λ x h. simp (ne_eqb x 32 (omega arith), ne_eqb x 9 (omega arith), ne_eqb x 13 (omega arith)))
    (byte_text false b) (byte-least false b)

first-whole : (w : List ℕ) (n : ℕ) → blanks (gather (text_at w) 0 (suc n)) ≡ 0
unfolding gather text_at
first-whole w n = blanks-append (byte_text false (byte w 0)) (gather (text_at w) 1 n) (byte-nonempty false (byte w 0)) (end_whole (byte w 0))

last-whole : (w : List ℕ) (n : ℕ) → is_inner w n ≡ false → (x : List ℕ) → trim_end (x ++ text_at w n) ≡ x ++ text_at w n
unfolding text_at
last-whole w n e x =
    rw e (trim_end-append x (byte_text false (byte w n)) (byte-nonempty false (byte w n)) (trim_end-whole (byte_text false (byte w n)) (end_whole (byte w n))))

pub text-whole : (s : List ℕ) → trim (string_text s) ≡ string_text s
unfolding string_text before is_blank trim_end
text-whole [] = trim-whole (quote ∷ quote ∷ []) refl refl
text-whole (b ∷ s) =
    let all = b ∷ s in
    let n = length s in
    let last : is_inner all n ≡ false = and_no (ltb 0 n) (ltb (n + 1) (suc n)) (λ e. le-ltb (n + 1) (suc n) (omega arith)) in
    trim-whole (string_text all) (first-whole all n) (rw (gather-last (text_at all) 0 n, zero-add n) (last-whole all n last (gather (text_at all) 0 n)))
