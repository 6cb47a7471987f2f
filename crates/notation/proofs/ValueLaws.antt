-- Laws of values: what is read of a text is the bytes that the definition gives and zeros behind them, and these bytes are as many
-- as the field has.
--     sixteen-bytes, sixteen-whole          bytes of at most 16 places, and of 16
--     width-cases                           the widths of a number
--     number-sixteen                        a number's bytes
--     string-unread, string-too-long, string-read     a string of a fixed width
--     pairs-unread, pairs-read              pairs of digits, read before zeros
--     number-answer, string-answer, pairs-answer     what the calls answer for a width that a value has
--     filled-width, number-width            the bytes of a value are as many as its field has
-- Assumes nothing.
use Rattle.std.proofs.Common.{◌≡◌, ℕ, ◌+◌, ◌-◌, ◌/◌, ◌%◌, ◌^◌, ◌≤◌, ◌<◌, List, ◌++◌, Bool, true, false, ◌||◌, length, take, drop, get_or, eqb, leb, refl, sym, ap, ◌∙◌, arith, append_assoc, append-nil, length-append, le-leb}
use Rattle.std.proofs.lemmas.Bool.{lt-leb}
use Rattle.std.specs.Prelude.{Option, None, Some, option_map}
use native.Mathlib.Decide.{dec_lt}
use borrow.Author.Tests.{leb-true, eqb-true}
use lib.ListN.{get_or-append}
use lib.Seq.{get_or-append-add}
use Rattle.octets.specs.Octets.{byte, bytes_at, le64, zeros, write}
use Rattle.octets.proofs.CountingLaws.{clash}
use Rattle.octets.proofs.ReadLaws.{byte_past, bytes-elements}
use Rattle.octets.proofs.WriteLaws.{length-zeros, get_d-zeros, write-front}
use Rattle.notation.specs.Number.{number_up_to}
use Rattle.notation.specs.Pairs.{read_pairs, is_read, read_into}
use Rattle.notation.specs.Escape.{content_of, string_of}
use Rattle.notation.specs.Value.{filled, is_width, number_bytes, number_value, pairs_value, sixteen, string_value, value_read}
use Rattle.notation.proofs.ZerosLaws.{zeros-append, zeros-drop, zeros-take}
use Rattle.notation.proofs.EscapeLaws.{decoded-length}
use Rattle.notation.proofs.PairsLaws.{read-some}
use Rattle.notation.proofs.WidthLaws.{no_value, tested, pairs-width}

-- ---- sixteen bytes

pub sixteen-bytes : (s : List ℕ) → length s ≤ 16 → bytes_at s 0 16 ≡ sixteen s
sixteen-bytes s h = sym (bytes-elements (sixteen s) s 0 16 size each)
  where
    size : length (sixteen s) ≡ 16
    size = omega (arith, length-append s (zeros (16 - length s)), length-zeros (16 - length s))

    each : (j : ℕ) → j < 16 → get_or (sixteen s) j 0 ≡ byte s (0 + j)
    each j l =
        elim (dec_lt j (length s)) [
          | yes k ↦ let here : 0 + j ≡ j = omega arith in rw here (get_or-append s (zeros (16 - length s)) 0 j k)
          | no k ↦
              let behind : j ≡ length s + (j - length s) = omega arith in
              ap (λ (i : ℕ). get_or (sixteen s) i 0) behind
              ∙ get_or-append-add s (zeros (16 - length s)) (j - length s) 0
              ∙ get_d-zeros (16 - length s) (j - length s)
              ∙ byte_past s (0 + j) (omega arith)
        ]

-- where there are no zeros behind
pub sixteen-whole : (o : Option (List ℕ)) → ((b : List ℕ) → o ≡ Some b → length b ≡ 16) → o ≡ value_read o
unfolding value_read zeros
sixteen-whole None size = refl
sixteen-whole (Some b) size =
    let none_left : 16 - length b ≡ 0 = omega (arith, size b refl) in
    rw (none_left, append-nil b)

-- ---- numbers

pub width-cases : (P : ℕ → Type 0) (width : ℕ) → is_width width ≡ true → P 1 → P 2 → P 8 → P width
unfolding is_width
width-cases P width e one two eight = go (eqb width 1) (eqb width 2) (eqb width 8) refl refl refl e
  where
    go : (a b c : Bool) → eqb width 1 ≡ a → eqb width 2 ≡ b → eqb width 8 ≡ c → (a || b || c) ≡ true → P width
    go true b c x y z e = rw (eqb-true width 1 x) one
    go false true c x y z e = rw (eqb-true width 2 y) two
    go false false true x y z e = rw (eqb-true width 8 z) eight
    go false false false x y z e = clash e refl

-- a number has no byte but zeros behind so many
pub number-sixteen : (width n : ℕ) → is_width width ≡ true → n ≤ 256 ^ width - 1 → sixteen (le64 n) ≡ sixteen (take width (le64 n))
unfolding zeros
number-sixteen width n e =
    width-cases (λ (w : ℕ). n ≤ 256 ^ w - 1 → sixteen (le64 n) ≡ sixteen (take w (le64 n))) width e
    (λ h.
    let a : n / 256 % 256 ≡ 0 = omega arith in
    let b : n / 65536 ≡ 0 = omega arith in
    let c : n / 4294967296 ≡ 0 = omega arith in
    rw (a, b, c))
    (λ h.
    let b : n / 65536 ≡ 0 = omega arith in
    let c : n / 4294967296 ≡ 0 = omega arith in
    rw (b, c))
    (λ h. refl)

-- ---- strings of a fixed width

-- a string that fits, written in front of sixteen zeros, has the zeros of its field and those behind the field
behind-string : (width : ℕ) (s : List ℕ) → length s ≤ width → width ≤ 16 → write (zeros 16) 0 s ≡ sixteen (s ++ zeros (width - length s))
behind-string width s fits h =
    let all : length (s ++ zeros (width - length s)) ≡ width = omega (arith, length-append s (zeros (width - length s)), length-zeros (width - length s)) in
    let rest : 16 - length s ≡ (width - length s) + (16 - length (s ++ zeros (width - length s))) = omega (arith, all) in
    write-front (zeros 16) s (omega (arith, length-zeros 16))
    ∙ ap (λ (t : List ℕ). s ++ t) (zeros-drop (length s) 16 ∙ ap zeros rest
    ∙ sym (zeros-append (width - length s) (16 - length (s ++ zeros (width - length s)))))
    ∙ sym (append_assoc s (zeros (width - length s)) (zeros (16 - length (s ++ zeros (width - length s)))))

-- what is read of a string: it cannot be, it is too long, it is there
pub string-unread : (width : ℕ) (o : Option (List ℕ)) → o ≡ None → None ≡ value_read (filled width o)
unfolding value_read
string-unread width o e = rw e

pub string-too-long : (width n : ℕ) (o : Option (List ℕ)) → Some n ≡ option_map length o → width < n → None ≡ value_read (filled width o)
unfolding value_read
string-too-long width n None e h = refl
string-too-long width n (Some s) e h =
    let long : width < length s = omega (arith, (decoded-length (Some s) n e).1) in
    rw (lt-leb (length s) width long)

pub string-read : (width n : ℕ) (o : Option (List ℕ)) (bytes : List ℕ) → Some n ≡ option_map length o → n ≤ width → width ≤ 16
    → bytes ≡ write (zeros 16) 0 (content_of o) → Some bytes ≡ value_read (filled width o)
unfolding value_read
string-read width n None bytes e fits h w = absurd (let z : ◌≡◌ {A = ℕ} 0 1 = cc in omega arith)
string-read width n (Some s) bytes e fits h w =
    let within : length s ≤ width = omega (arith, (decoded-length (Some s) n e).1) in
    rw (le-leb (length s) width within, w, behind-string width s within h)

-- ---- pairs, read before zeros

-- the first `width` of sixteen zeros are lent
module _ (width : ℕ) (text : List ℕ) (h : width ≤ 16) where
  lent : take width (zeros 16) ≡ zeros width
  lent = zeros-take width 16 h

  lent-size : length (take width (zeros 16)) ≡ width
  lent-size = ap length lent ∙ length-zeros width

  pub pairs-unread : {ok : Bool} → ok ≡ is_read (read_pairs (length (take width (zeros 16))) text) → ok ≡ false → None ≡ value_read (read_pairs width text)
  unfolding is_read value_read
  pairs-unread p e = go (read_pairs width text) (sym e ∙ p ∙ ap (λ (n : ℕ). is_read (read_pairs n text)) lent-size)
    where
      go : (o : Option (List ℕ)) → false ≡ is_read o → None ≡ value_read o
      go None f = refl
      go (Some b) f = clash refl (sym f)

  pub pairs-read : {ok : Bool} {bytes : List ℕ} → ok ≡ is_read (read_pairs (length (take width (zeros 16))) text) → ok ≡ true
      → bytes ≡ read_into (take width (zeros 16)) (read_pairs (length (take width (zeros 16))) text)
      → Some (bytes ++ drop width (zeros 16)) ≡ value_read (read_pairs width text)
  unfolding value_read
  pairs-read {bytes = bytes} p e q =
      let read : Some bytes ≡ read_pairs width text = read-some (read_pairs (length (take width (zeros 16))) text) _ (sym p ∙ e) q
      ∙ ap (λ (n : ℕ). read_pairs n text) lent-size in
      let size : length bytes ≡ width = pairs-width width text bytes (sym read) in
      rw (← read, zeros-drop width 16, size)

-- ---- the calls, for a width that a value has

pub number-answer : (width : ℕ) (text : List ℕ) → is_width width ≡ true → number_value width text ≡ value_read (number_bytes width text)
unfolding number_value
number-answer width text h = rw h

pub string-answer : (width : ℕ) (text : List ℕ) → width ≤ 16 → string_value width text ≡ value_read (filled width (string_of text))
unfolding string_value
string-answer width text h = rw (le-leb width 16 h)

pub pairs-answer : (width : ℕ) (text : List ℕ) → width ≤ 16 → pairs_value width text ≡ value_read (read_pairs width text)
unfolding pairs_value
pairs-answer width text h = rw (le-leb width 16 h)

-- ---- the bytes of a value are as many as its field has

pub filled-width : (width : ℕ) (o : Option (List ℕ)) (b : List ℕ) → filled width o ≡ Some b → length b ≡ width
filled-width width None b e = no_value e
filled-width width (Some s) b e =
    let both = tested (leb (length s) width) (s ++ zeros (width - length s)) b e in
    let short : length s ≤ width = leb-true (length s) width both.0 in
    omega (arith, ap length (sym both.1), length-append s (zeros (width - length s)), length-zeros (width - length s))

pub mapped-width : (f : ℕ → List ℕ) (n : ℕ) → ((k : ℕ) → length (f k) ≡ n) → (o : Option ℕ) (b : List ℕ) → option_map f o ≡ Some b → length b ≡ n
mapped-width f n h None b e = no_value e
mapped-width f n h (Some k) b e = let same : f k ≡ b = cc in ap length (sym same) ∙ h k

pub number-width : (width : ℕ) (text b : List ℕ) → is_width width ≡ true → number_bytes width text ≡ Some b → length b ≡ width
unfolding number_bytes
number-width width text b h e =
    mapped-width (λ (n : ℕ). take width (le64 n)) width
    (λ n. width-cases (λ (w : ℕ). length (take w (le64 n)) ≡ w) width h refl refl refl)
    (number_up_to (256 ^ width - 1) text) b e
