-- Laws of pairs of hexadecimal digits as they are written: numbers that are all there are read one for one, and the text of n
-- bytes has each pair where it is read.
--     form-size, form-byte, form-holds, form-length     each test of the form; the size of what has it
--     every-all, every-none, every-zero         numbers that are all there, one that is not, and all of them where none is
--                                               missing
--     pairs-formless, pairs-missing, pairs-read, pairs-some     reading, by its outcomes
--     pairs-size, pairs-there, pairs-stored     what a loop over the pairs finds, and leaves
--     pairs-more, puts-pair                     one more pair is put
--     before-length, before-shift, before_at, text-before, text-size     what stands where in the text
--     pairs-back, mac-back                      the text of n bytes is read as those
-- Assumes nothing.
use Rattle.octets.specs.Options.{bind}
use Rattle.std.specs.Prelude.{Option, None, Some, option_map, unwrap_or, is_some, not}
use mathlib.Core.Path.{◌≡◌, refl, sym, ap, ap₂, ◌∙◌}
use mathlib.Core.Bool.{Bool, true, false, cond, and-false}
use mathlib.Core.List.{List, [], ◌∷◌, ◌++◌}
use Prim.Native.Nat.{ℕ, zero, suc, ◌+◌, ◌-◌, ◌*◌, ◌≤◌, ◌<◌}
use Prim.Native.Char.{code}
use native.Mathlib.Nat.{zero-add}
use native.Mathlib.Numerals.{add-one}
use native.Mathlib.Decide.{dec_lt}
use native.Mathlib.Omega.{arith}
use borrow.Author.Tests.{eq-eqb, ne_eqb, eqb-true}
use lib.ListN.{length}
use lib.Seq.{ext_get_or}
use lib.Dec.{eqb}
use Rattle.octets.specs.Counting.{tabulate, gather}
use Rattle.octets.specs.Octets.{byte, differs}
use Rattle.octets.proofs.CountingLaws.{clash, any-yes, any-no, gather-last, length-tabulate, get_d_tabulate}
use Rattle.octets.proofs.TestLaws.{and_both, same_differs, unlike-differs}
use Rattle.text.specs.Put.{Puts}
use Rattle.text.proofs.PutLaws.{puts-append, puts-same}
use Rattle.notation.specs.Number.{numeral, hex_byte_at, padded}
use Rattle.notation.specs.Pairs.{pairs_form, every, read_pairs, is_read, read_into, pair_at, colon_pair, colon_pairs, pairs_text}
use Rattle.notation.specs.Mac.{read_mac, mac_text}
use Rattle.notation.proofs.NumberLaws.{hex-byte-back, hex_byte_at-small}

-- ---- the form

module _ (n : ℕ) (t : List ℕ) where
  pub form-size : (length t + 1 ≡ 3 * n → ⊥) → false ≡ pairs_form n t
  unfolding pairs_form
  form-size other = rw (ne_eqb (length t + 1) (3 * n) other)

  -- whether the byte behind pair k is no colon
  abbrev unlike : ℕ → Bool
  unlike k = differs (byte t (3 * k + 2)) (code ":")

  pub form-byte : (k : ℕ) → k < n - 1 → (byte t (3 * k + 2) ≡ code ":" → ⊥) → false ≡ pairs_form n t
  unfolding pairs_form
  form-byte k h other = simp (any-yes (n - 1) unlike k h (unlike-differs (byte t (3 * k + 2)) (code ":") other), and-false)

  pub form-holds : length t + 1 ≡ 3 * n → ((k : ℕ) → k < n - 1 → byte t (3 * k + 2) ≡ code ":") → true ≡ pairs_form n t
  unfolding pairs_form
  form-holds size colons =
      rw (eq-eqb (length t + 1) (3 * n) size, any-no (n - 1) unlike (λ k h. same_differs (byte t (3 * k + 2)) (code ":") (colons k h)))

-- ---- the pairs

pub every-all : (f : ℕ → Option ℕ) (i : ℕ) (m : List ℕ) → ((j : ℕ) → j < length m → f (i + j) ≡ Some (byte m j)) → every (tabulate f i (length m)) ≡ Some m
unfolding every tabulate bind
every-all f i [] all = refl
every-all f i (n ∷ m) all =
    let here : f i ≡ Some n = ap f (omega arith) ∙ all 0 (omega arith) in
    let rest = every-all f (suc i) m (λ j h. ap f (omega arith) ∙ all (suc j) (omega arith)) in
    rw (here, rest)

pub every-none : (f : ℕ → Option ℕ) (i n k : ℕ) → i ≤ k → k < i + n → f k ≡ None → every (tabulate f i n) ≡ None
unfolding every tabulate bind
every-none f i zero k low high e = absurd (omega arith)
every-none f i (suc n) k low high e =
    elim (dec_lt i k) [
      | yes h ↦ rw (every-none f (suc i) n k (omega arith) (omega arith) e) (no_more (f i))
      | no h ↦ let same : i ≡ k = omega arith in rw (ap f same ∙ e)
    ]
  where
    no_more : (o : Option ℕ) → bind o (λ (n : ℕ). option_map {U = List ℕ} (λ (ns : List ℕ). n ∷ ns) None) ≡ None
    no_more None = refl
    no_more (Some n) = refl

pub every-zero : (f : ℕ → Option ℕ) (i n : ℕ) → is_read (every (tabulate f i n)) ≡ true
    → every (tabulate f i n) ≡ Some (tabulate (λ (k : ℕ). unwrap_or (f k) 0) i n)
unfolding every tabulate bind is_read
every-zero f i zero e = refl
every-zero f i (suc n) e = go (f i) (every (tabulate f (suc i) n)) e (every-zero f (suc i) n)
  where
    rest : List ℕ
    rest = tabulate (λ (k : ℕ). unwrap_or (f k) 0) (suc i) n

    go : (o : Option ℕ) (os : Option (List ℕ)) → is_read (bind o (λ (b : ℕ). option_map (λ (bs : List ℕ). b ∷ bs) os)) ≡ true
        → (is_read os ≡ true → os ≡ Some rest) → bind o (λ (b : ℕ). option_map (λ (bs : List ℕ). b ∷ bs) os) ≡ Some (unwrap_or o 0 ∷ rest)
    go None os e ih = clash e refl
    go (Some b) None e ih = clash e refl
    go (Some b) (Some bs) e ih = ap (option_map (λ (bs : List ℕ). b ∷ bs)) (ih refl)

-- ---- reading, by its outcomes

module _ (n : ℕ) (t : List ℕ) where
  pub pairs-formless : pairs_form n t ≡ false → read_pairs n t ≡ None
  unfolding read_pairs
  pairs-formless e = rw e

  pub pairs-missing : (k : ℕ) → k < n → hex_byte_at t (3 * k) ≡ None → read_pairs n t ≡ None
  unfolding read_pairs
  pairs-missing k h e = rw (every-none (λ (j : ℕ). hex_byte_at t (3 * j)) 0 n k (omega arith) (omega arith) e) (either (pairs_form n t))
    where
      either : (b : Bool) → cond {A = Option (List ℕ)} b None None ≡ None
      either true = refl
      either false = refl

  pub pairs-read : (m : List ℕ) → pairs_form n t ≡ true → length m ≡ n → ((k : ℕ) → k < n → hex_byte_at t (3 * k) ≡ Some (byte m k)) → read_pairs n t ≡ Some m
  unfolding read_pairs
  pairs-read m form size all =
      let pairs : ℕ → Option ℕ = λ k. hex_byte_at t (3 * k) in
      let read = every-all pairs 0 m (λ k h. ap pairs (zero-add k) ∙ all k (omega arith)) in
      rw (form, ← size) read

  -- a text that is read has the form, and each of its pairs is one
  pub pairs-some : is_read (read_pairs n t) ≡ true → read_pairs n t ≡ Some (tabulate (λ (k : ℕ). pair_at t (3 * k)) 0 n)
  unfolding read_pairs is_read
  pairs-some e = go (pairs_form n t) e
    where
      go : (b : Bool) → is_read (cond b (every (tabulate (λ (k : ℕ). hex_byte_at t (3 * k)) 0 n)) None) ≡ true
          → cond b (every (tabulate (λ (k : ℕ). hex_byte_at t (3 * k)) 0 n)) None ≡ Some (tabulate (λ (k : ℕ). pair_at t (3 * k)) 0 n)
      go true e = every-zero (λ (k : ℕ). hex_byte_at t (3 * k)) 0 n e
      go false e = clash e refl

-- what a loop over the pairs finds
pub some-zero : (o : Option ℕ) (b : ℕ) → o ≡ Some b → o ≡ Some (unwrap_or o 0)
some-zero o b e = e ∙ sym (ap (λ (p : Option ℕ). Some (unwrap_or p 0)) e)

pub some-there : (o : Option ℕ) (none : Bool) → is_some o ≡ not none → none ≡ false → o ≡ Some (unwrap_or o 0)
some-there None true e f = clash refl f
some-there None false e f = clash e refl
some-there (Some b) none e f = refl

pub none-there : (o : Option ℕ) (none : Bool) → is_some o ≡ not none → none ≡ true → o ≡ None
none-there None none e f = refl
none-there (Some b) true e f = clash refl e
none-there (Some b) false e f = clash f refl

-- a pair that is there is a byte
pub pair_at-small : (t : List ℕ) (i : ℕ) → pair_at t i < 256
pair_at-small t i = go (hex_byte_at t i) (hex_byte_at-small t i)
  where
    go : (o : Option ℕ) → ((b : ℕ) → o ≡ Some b → b < 256) → unwrap_or o 0 < 256
    go None small = omega arith
    go (Some b) small = small b refl

-- lent bytes that were read
pub read-some : (o : Option (List ℕ)) (old : List ℕ) {new : List ℕ} → is_read o ≡ true → new ≡ read_into old o → Some new ≡ o
unfolding is_read read_into
read-some None old e f = clash e refl
read-some (Some m) old e f = ap Some f

pub unread-none : (o : Option (List ℕ)) → is_read o ≡ false → o ≡ None
unfolding is_read
unread-none None e = refl
unread-none (Some m) e = clash refl e

module _ (n : ℕ) (t : List ℕ) where
  pub form-length : pairs_form n t ≡ true → length t + 1 ≡ 3 * n
  unfolding pairs_form
  form-length e = eqb-true (length t + 1) (3 * n) (and_both (eqb (length t + 1) (3 * n)) _ e).0

  pub pairs-size : is_read (read_pairs n t) ≡ true → length t + 1 ≡ 3 * n
  unfolding read_pairs is_read
  pairs-size e = go (pairs_form n t) refl e
    where
      go : (b : Bool) → pairs_form n t ≡ b → is_read (cond b (every (tabulate (λ (k : ℕ). hex_byte_at t (3 * k)) 0 n)) None) ≡ true → length t + 1 ≡ 3 * n
      go true form e = form-length form
      go false form e = clash e refl

  pub pairs-there : pairs_form n t ≡ true → ((k : ℕ) → k < n → hex_byte_at t (3 * k) ≡ Some (pair_at t (3 * k)))
      → read_pairs n t ≡ Some (tabulate (λ (k : ℕ). pair_at t (3 * k)) 0 n)
  pairs-there form all =
      let m = tabulate (λ (k : ℕ). pair_at t (3 * k)) 0 n in
      pairs-read n t m form (length-tabulate (λ (k : ℕ). pair_at t (3 * k)) 0 n)
      (λ k h. all k h ∙ ap Some (sym (get_d_tabulate (λ (k : ℕ). pair_at t (3 * k)) n k 0 h)))

  pub pairs-stored : (m : List ℕ) → is_read (read_pairs n t) ≡ true → length m ≡ n → ((k : ℕ) → k < n → byte m k ≡ pair_at t (3 * k)) → read_pairs n t ≡ Some m
  pairs-stored m e size all =
      let pairs : ℕ → ℕ = λ k. pair_at t (3 * k) in
      pairs-some n t e
      ∙ ap Some (ext_get_or 0 (tabulate pairs 0 n) m (length-tabulate pairs 0 n ∙ sym size)
      (λ k h. get_d_tabulate pairs n k 0 (omega (arith, length-tabulate pairs 0 n)) ∙ sym (all k (omega (arith, length-tabulate pairs 0 n)))))

-- ---- the text

pub pairs-more : (m : List ℕ) (k : ℕ) → colon_pairs m (k + 1) ≡ colon_pairs m k ++ colon_pair (byte m (k + 1))
pairs-more m k =
    rw (add-one k) (gather-last (λ (j : ℕ). colon_pair (byte m (j + 1))) 0 k)
    ∙ ap (λ (j : ℕ). colon_pairs m k ++ colon_pair (byte m (j + 1))) (zero-add k)

pub puts-pair : {t u v : List ℕ} {at n r b : ℕ} (m : List ℕ) (k : ℕ) → 1 ≤ k → Puts t u at n (colon_pairs m (k - 1)) → Puts u v n r (colon_pair b)
    → b ≡ byte m k → Puts t v at r (colon_pairs m (k + 1 - 1))
puts-pair m k h p q e =
    let back : k - 1 + 1 ≡ k = omega arith in
    let next : k - 1 + 1 ≡ k + 1 - 1 = omega arith in
    puts-same (puts-append p q)
    (ap (λ (x : ℕ). colon_pairs m (k - 1) ++ colon_pair x) (e ∙ ap (byte m) (sym back)) ∙ sym (pairs-more m (k - 1)) ∙ ap (colon_pairs m) next)

-- ---- the text is read back

-- a colon before each of the n bytes from i on
abbrev pub colon_before : (ℕ → ℕ) → ℕ → ℕ → List ℕ
colon_before f i n = gather (λ (k : ℕ). colon_pair (f k)) i n

pub before-length : (f : ℕ → ℕ) (i n : ℕ) → length (colon_before f i n) ≡ 3 * n
unfolding gather padded
before-length f i zero = refl
before-length f i (suc n) = let rest = before-length f (suc i) n in omega (arith, rest)

pub before-shift : (f : ℕ → ℕ) (i n : ℕ) → colon_before (λ (k : ℕ). f (k + 1)) i n ≡ colon_before f (suc i) n
unfolding gather
before-shift f i zero = refl
before-shift f i (suc n) = ap₂ (λ (b : ℕ) (t : List ℕ). colon_pair b ++ t) (ap f (add-one i)) (before-shift f (suc i) n)

-- what stands at the k-th of them
pub before_at : (f : ℕ → ℕ) (i n k : ℕ) → k < n
    → (byte (colon_before f i n) (3 * k) ≡ code ":")
    × (byte (colon_before f i n) (3 * k + 1) ∷ byte (colon_before f i n) (3 * k + 2) ∷ [] ≡ padded 2 16 (f (i + k)))
unfolding gather padded
before_at f i zero k h = absurd (omega arith)
before_at f i (suc n) zero h = (refl, ap (padded 2 16) (ap f (omega arith)))
before_at f i (suc n) (suc k) h =
    let next : 3 * suc k ≡ suc (suc (suc (3 * k))) = omega arith in
    let one : 3 * suc k + 1 ≡ suc (suc (suc (3 * k + 1))) = omega arith in
    let two : 3 * suc k + 2 ≡ suc (suc (suc (3 * k + 2))) = omega arith in
    let here = before_at f (suc i) n k (omega arith) in
    rw (one, two, next) (here.0, here.1 ∙ ap (padded 2 16) (ap f (omega arith)))

module _ (m : List ℕ) (n : ℕ) where
  -- the text with a colon before it
  pub text-before : code ":" ∷ pairs_text (suc n) m ≡ colon_before (byte m) 0 (suc n)
  unfolding pairs_text gather
  text-before = let e : suc n - 1 ≡ n = omega arith in rw e (ap (λ (t : List ℕ). code ":" ∷ (padded 2 16 (byte m 0) ++ t)) (before-shift (byte m) 0 n))

  text-byte : (i : ℕ) → byte (pairs_text (suc n) m) i ≡ byte (colon_before (byte m) 0 (suc n)) (i + 1)
  text-byte i = rw (add-one i) (ap (λ (t : List ℕ). byte t (suc i)) text-before)

  pub text-size : length (pairs_text (suc n) m) + 1 ≡ 3 * suc n
  text-size = let e = ap length text-before in omega (arith, e, before-length (byte m) 0 (suc n))

  text-colon : (k : ℕ) → k < n → byte (pairs_text (suc n) m) (3 * k + 2) ≡ code ":"
  text-colon k h =
      let next : 3 * k + 2 + 1 ≡ 3 * (k + 1) = omega arith in
      text-byte (3 * k + 2) ∙ ap (byte (colon_before (byte m) 0 (suc n))) next ∙ (before_at (byte m) 0 (suc n) (k + 1) (omega arith)).0

  text-pair : (k : ℕ) → k < suc n → byte m k < 256 → hex_byte_at (pairs_text (suc n) m) (3 * k) ≡ Some (byte m k)
  text-pair k h small =
      let t = colon_before (byte m) 0 (suc n) in
      let next : 3 * k + 1 + 1 ≡ 3 * k + 2 = omega arith in
      let pair = (before_at (byte m) 0 (suc n) k h).1 ∙ ap (λ (i : ℕ). padded 2 16 (byte m i)) (zero-add k) in
      ap (numeral 16) (ap₂ (λ (a b : ℕ). a ∷ b ∷ []) (text-byte (3 * k)) (text-byte (3 * k + 1) ∙ ap (byte t) next) ∙ pair) ∙ hex-byte-back (byte m k) small

  pub pairs-back : length m ≡ suc n → ((k : ℕ) → byte m k < 256) → read_pairs (suc n) (pairs_text (suc n) m) ≡ Some m
  pairs-back size small =
      let t = pairs_text (suc n) m in
      pairs-read (suc n) t m (sym (form-holds (suc n) t text-size (λ k h. text-colon k (omega arith)))) size (λ k h. text-pair k h (small k))

pub mac-back : (m : List ℕ) → length m ≡ 6 → ((k : ℕ) → byte m k < 256) → read_mac (mac_text m) ≡ Some m
unfolding read_mac mac_text
mac-back m six small = pairs-back m 5 six small
