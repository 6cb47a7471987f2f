-- The name of a field names that field: the group's name ends before the first dot, the kind's before the first digit, and the
-- digits of an Index are read back.
--     named-split             a name is taken apart at its dot
--     group-found             and a group's name where its digits start
--     name-facts              the name of a field: it names the field, and a line may start with it
-- Assumes nothing.
use mathlib.Core.Path.{◌≡◌, refl, sym, ap, ◌∙◌}
use mathlib.Core.List.{List, [], ◌∷◌, ◌++◌, append-nil, append_assoc}
use mathlib.Core.Bool.{Bool, true, false, cond, not, ◌&&◌}
use Prim.Native.Char.{code}
use Prim.Native.Nat.{ℕ, suc, ◌+◌, ◌%◌, ◌<◌}
use native.Mathlib.Decide.{dec_lt}
use native.Mathlib.Omega.{arith}
use borrow.Author.Tests.{eqb-true, ltb-true, lt-ltb, le-ltb, ne_eqb, not-true}
use lib.ListN.{length, drop, length-append, drop_of_length-le, get_or-append}
use lib.Seq.{take_all, take_at, drop_at}
use lib.Dec.{eqb, ltb}
use Rattle.octets.specs.Counting.{first, any, tabulate}
use Rattle.octets.specs.Octets.{byte}
use Rattle.octets.proofs.CountingLaws.{clash, each_holds}
use Rattle.octets.proofs.TestLaws.{and_both}
use Rattle.text.specs.Split.{is_blank, is, before, each, lacks}
use Rattle.text.specs.Words.{words_of, word_at, word_count, distinct}
use Rattle.text.specs.Computing.{computing as of-text}
use Rattle.text.proofs.SplitLaws.{same_refl, before-append}
use Rattle.text.proofs.WordSetLaws.{number_at}
use Rattle.notation.specs.Number.{digit_byte, digits}
use Rattle.notation.proofs.PieceLaws.{lacks-append, lacks-front}
use Rattle.notation.proofs.NumberLaws.{digits-made, number_up_to-digits}
use Rattle.notation.proofs.LineLaws.{number-lacks}
use Rattle.record_text.specs.Fields.{first_indexed, kind_count, group_names, group_of, field_count, index_text, dotted, name_of, index_in, is_digit}
use Rattle.record_text.specs.Fields.{found, found_in, field_named}
use Rattle.record_text.specs.Computing.{computing}
use Rattle.std.specs.Prelude.{Some, Some}
use Rattle.record_text.proofs.ValueLaws.{each_at}

-- ---- digits

digit-first : (n : ℕ) → is_digit (byte (digits 10 n) 0) ≡ true
unfolding is_digit digit_byte any first tabulate
digit-first =
    digits-made 10 (omega arith) (λ (n : ℕ) (xs : List ℕ). is_digit (byte xs 0) ≡ true)
    (each_holds 10 (λ (d : ℕ). is_digit (digit_byte d)) refl) (λ n xs h. more n xs)
  where
    more : (n : ℕ) (xs : List ℕ) → is_digit (byte xs 0) ≡ true → is_digit (byte (xs ++ (digit_byte (n % 10) ∷ [])) 0) ≡ true
    more n [] e = clash e refl
    more n (x ∷ xs) e = e

-- ---- a name taken apart

-- what passes no test, before what passes it at once
before-seam : (p : ℕ → Bool) (x y : List ℕ) → lacks p x ≡ true → before p y ≡ 0 → before p (x ++ y) ≡ length x
unfolding before
before-seam p [] y e stop = stop
before-seam p (b ∷ x) y e stop = let both = lacks-front p b x e in rw both.0 (ap suc (before-seam p x y both.1 stop))

module _ (group : List ℕ) (plain : lacks (is (code ".")) group ≡ true) where
  pub named-split : (own : List ℕ) → field_named (group ++ dotted own) ≡ found_in group own
  unfolding field_named before
  named-split [] =
      let all : before (is (code ".")) group ≡ length group = rw append-nil at (before-seam (is (code ".")) group [] plain refl) in
      let none : drop (length group + 1) group ≡ [] = drop_of_length-le group {i = length group + 1} (omega arith) in
      rw (append-nil, all, ne_eqb (length group + 1) (length group) (omega arith), take_all (length group) group (omega arith), none)
  named-split (b ∷ own) =
      let name = group ++ (code "." ∷ b ∷ own) in
      let dot : before (is (code ".")) name ≡ length group = before-append (is (code ".")) group (code ".") (b ∷ own) plain refl in
      let longer : length group + 1 ≡ length name → ⊥ = λ e. omega (arith, e, length-append group (code "." ∷ b ∷ own)) in
      let behind : drop (length group + 1) name ≡ b ∷ own =
      ap (drop (length group + 1)) (sym (append_assoc group (code "." ∷ []) (b ∷ own)))
      ∙ drop_at (group ++ (code "." ∷ [])) (b ∷ own) (length group + 1) (length-append group (code "." ∷ [])) in
      rw (dot, ne_eqb (length group + 1) (length name) longer, take_at group (code "." ∷ b ∷ own) (length group) refl, behind)

-- the tests that the names of a kind pass: as many as it has fields, no two alike, none with a blank or a line feed; and its
-- own name
good_name : List ℕ → Bool
good_name w = lacks is_blank w && lacks (is 10) w

good_kind : ℕ → Bool
good_kind kind =
    distinct (words_of (group_of kind).names)
    && (eqb (word_count (group_of kind).names) (field_count kind)
    && (each good_name (words_of (group_of kind).names)
    && (good_name (word_at group_names kind)
    && (ltb 0 (length (word_at group_names kind))
    && (lacks (is (code ".")) (word_at group_names kind)
    && (lacks is_digit (word_at group_names kind) && not (eqb (byte (word_at group_names kind) 0) (code "#"))))))))

record KindNames (kind : ℕ) : Type 0 where
  unlike : distinct (words_of (group_of kind).names) ≡ true
  many : word_count (group_of kind).names ≡ field_count kind
  own : each good_name (words_of (group_of kind).names) ≡ true
  word : good_name (word_at group_names kind) ≡ true
  some : 0 < length (word_at group_names kind)
  dotless : lacks (is (code ".")) (word_at group_names kind) ≡ true
  letters : lacks is_digit (word_at group_names kind) ≡ true
  plain : eqb (byte (word_at group_names kind) 0) (code "#") ≡ false

kinds-good : any kind_count (λ (kind : ℕ). not (good_kind kind)) ≡ false
unfolding computing any first good_kind good_name
kinds-good = refl

kind-names : (kind : ℕ) → kind < kind_count → KindNames kind
unfolding good_kind
kind-names kind h =
    let a = and_both (distinct (words_of (group_of kind).names)) _ (each_holds kind_count good_kind kinds-good kind h) in
    let b = and_both (eqb (word_count (group_of kind).names) (field_count kind)) _ a.1 in
    let c = and_both (each good_name (words_of (group_of kind).names)) _ b.1 in
    let d = and_both (good_name (word_at group_names kind)) _ c.1 in
    let e = and_both (ltb 0 (length (word_at group_names kind))) _ d.1 in
    let f = and_both (lacks (is (code ".")) (word_at group_names kind)) _ e.1 in
    let g = and_both (lacks is_digit (word_at group_names kind)) _ f.1 in
    record {
      unlike = a.0;
      many = eqb-true (word_count (group_of kind).names) (field_count kind) b.0;
      own = c.0;
      word = d.0;
      some = ltb-true 0 (length (word_at group_names kind)) e.0;
      dotless = f.0;
      letters = g.0;
      plain = not-true _ g.1;
    }

words-distinct : distinct (words_of group_names) ≡ true
unfolding of-text
words-distinct = refl

words-many : word_count group_names ≡ kind_count
unfolding of-text
words-many = refl

-- ---- the name of a field

-- an Index that a group of this kind can have
pub record Indexed (kind index : ℕ) : Type 0 where
  pub byte-sized : index < 256
  pub absent : kind < first_indexed → index ≡ 0

pub record NameFacts (kind index n : ℕ) : Type 0 where
  pub named : field_named (name_of kind index n) ≡ Some (record { kind = kind; index = index; field = n })
  pub some : 0 < length (name_of kind index n)
  pub whole : lacks is_blank (name_of kind index n) ≡ true
  pub line : lacks (is 10) (name_of kind index n) ≡ true
  pub plain : eqb (byte (name_of kind index n) 0) (code "#") ≡ false

module _ (kind index n : ℕ) (known : kind < kind_count) (indexed : Indexed kind index) (number : n < field_count kind) where
  abbrev word : List ℕ
  word = word_at group_names kind

  abbrev own : List ℕ
  own = word_at (group_of kind).names n

  abbrev behind : List ℕ
  behind = index_text kind index

  names : KindNames kind
  names = kind-names kind known

  index-lacks : (p : ℕ → Bool) → any 16 (λ (d : ℕ). p (digit_byte d)) ≡ false → lacks p behind ≡ true
  unfolding index_text each
  index-lacks p other = go (ltb kind first_indexed)
    where
      go : (b : Bool) → lacks p (cond b [] (digits 10 index)) ≡ true
      go true = refl
      go false = number-lacks p other index

  -- the letters of a group's name end where its digits start
  letters : before is_digit (word ++ behind) ≡ length word
  unfolding index_text before
  letters = before-seam is_digit word behind names.letters (go (ltb kind first_indexed))
    where
      go : (b : Bool) → before is_digit (cond b [] (digits 10 index)) ≡ 0
      go true = refl
      go false = starts (digits 10 index) (digit-first index)
        where
          starts : (xs : List ℕ) → is_digit (byte xs 0) ≡ true → before is_digit xs ≡ 0
          starts [] e = refl
          starts (x ∷ xs) e = rw e

  -- the Index is read back
  index_back : index_in kind behind ≡ Some index
  unfolding index_in index_text
  index_back =
      elim (dec_lt kind first_indexed) [
        | yes h ↦ rw (lt-ltb kind first_indexed h, indexed.absent h)
        | no h ↦ rw (le-ltb kind first_indexed (omega arith), number_up_to-digits 255 index (omega (arith, indexed.byte-sized)), same_refl)
      ]

  pub group-found : found_in (word ++ behind) own ≡ Some (record { kind = kind; index = index; field = n })
  unfolding found_in found
  group-found =
      let few : n < word_count (group_of kind).names = omega (arith, names.many) in
      rw (
        letters,
        take_at word behind (length word) refl,
        drop_at word behind (length word) refl,
        number_at group_names kind words-distinct (omega (arith, words-many)),
        number_at (group_of kind).names n names.unlike few,
        index_back,
        lt-ltb kind kind_count known,
        lt-ltb n (field_count kind) number,
      )

  -- what stands in no part of the name, nor is its dot
  name-lacks : (p : ℕ → Bool) → p (code ".") ≡ false → any 16 (λ (d : ℕ). p (digit_byte d)) ≡ false → lacks p word ≡ true → lacks p own ≡ true
      → lacks p (name_of kind index n) ≡ true
  unfolding name_of each
  name-lacks p dot other first last =
      lacks-append p word (behind ++ dotted own) first (lacks-append p behind (dotted own) (index-lacks p other) (go own last))
    where
      go : (w : List ℕ) → lacks p w ≡ true → lacks p (dotted w) ≡ true
      go [] e = refl
      go (b ∷ w) e = rw dot e

  pub name-facts : NameFacts kind index n
  unfolding name_of good_name digit_byte any first tabulate is_blank each
  name-facts =
      let words = and_both (lacks is_blank word) _ names.word in
      let owns = and_both (lacks is_blank own) _ (each_at good_name (words_of (group_of kind).names) n [] names.own refl) in
      let front : byte (name_of kind index n) 0 ≡ byte word 0 = get_or-append word (behind ++ dotted own) 0 0 names.some in
      let dotless = lacks-append (is (code ".")) word behind names.dotless (index-lacks (is (code ".")) refl) in
      record {
        named = ap field_named (sym (append_assoc word behind (dotted own))) ∙ named-split (word ++ behind) dotless own ∙ group-found;
        some = omega (arith, names.some, length-append word (behind ++ dotted own));
        whole = name-lacks is_blank refl refl words.0 owns.0;
        line = name-lacks (is 10) refl refl words.1 owns.1;
        plain = ap (λ (b : ℕ). eqb b (code "#")) front ∙ names.plain;
      }
