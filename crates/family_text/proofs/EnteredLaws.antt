-- The text of a table, entered line by line: every line is read, and the image has every field that is told, at its own place.
--     field_entered, entered               what the lines of the fields from a number on make of a draft
--     bytes-many, bytes-are               the bytes of a field that is told
--     line-apart, lines-entered           every line is read
--     leaves, write-leaves, value-leaves  a byte that entering a field leaves alone
--     field-alone, field-ends             no field lies in another, and each lies in the image
--     field-length, kept, field-set       all fields entered: a byte that they leave alone stays; a field that is told has its
--                                         bytes
-- Assumes nothing.
use Rattle.std.specs.Prelude.{Some}
use mathlib.Core.Path.{◌≡◌, refl, sym, ap, ◌∙◌}
use mathlib.Core.List.{List, [], ◌∷◌, ◌++◌, append-nil, append_assoc}
use mathlib.Core.Bool.{Bool, true, false, cond, not, ◌&&◌, ◌||◌}
use Prim.Native.Nat.{ℕ, zero, suc, ◌+◌, ◌≤◌, ◌<◌}
use native.Mathlib.Decide.{dec_lt}
use native.Mathlib.Omega.{arith}
use borrow.Author.Tests.{ltb-true, leb-true, lt-leb, ne_eqb, not-true}
use lib.ListN.{length, get_or}
use lib.Dec.{eqb, leb, ltb}
use Rattle.octets.specs.Counting.{first, any, gather}
use Rattle.octets.specs.Octets.{byte, le16, part, write}
use Rattle.octets.proofs.CountingLaws.{each_holds}
use Rattle.octets.proofs.TestLaws.{and_both}
use Rattle.octets.proofs.ReadLaws.{byte_past, part_length, part_at}
use Rattle.octets.proofs.WriteLaws.{length-write, write-before, write-after, write-at}
use Rattle.text.specs.Split.{is, each, before, trim_end, trim, pieces_by, pieces, lacks}
use Rattle.text.proofs.SplitLaws.{pieces-append}
use Rattle.family_text.specs.Fields.{sbft, field, ib_part, abft_fields, sbft_fields, fields_of, field_count, field_of}
use Rattle.family_text.specs.Value.{field_bytes, value_text}
use Rattle.family_text.specs.Family.{says_nothing}
use Rattle.family_text.specs.Enter.{Draft, image_size, place_written, place_of, present, with_value, step_of, line_step, Outcome, lines_from}
use Rattle.family_text.specs.Tell.{bytes_in, is_told, start_in, line_of}
use Rattle.family_text.specs.Promises.{Bytes}
use Rattle.family_text.specs.declared.fields.FieldLayout.{FieldLayout}
use Rattle.family_text.specs.declared.fields.Notation.TheVariants.{Oem}
use Rattle.sbft.specs.Layout.{part_of, ib}
use Rattle.family_text.proofs.FieldsLaws.{each_at, field-each}
use Rattle.family_text.proofs.ValueLaws.{field_fits}
use Rattle.family_text.proofs.ValueBackLaws.{value-back}
use Rattle.family_text.proofs.LineBackLaws.{line, told_with, told_line, told-read}
use Rattle.family_text.proofs.HeldLaws.{Held}

-- what the line of field n makes of a draft
unfoldable pub field_entered : ℕ → List ℕ → Draft → ℕ → Draft
field_entered family t d n = cond (is_told t (field_of family n)) (with_value family d n (bytes_in t (field_of family n))) d

-- .. the lines of the m fields from i on
unfoldable pub entered : ℕ → List ℕ → Draft → ℕ → ℕ → Draft
entered family t d i zero = d
entered family t d i (suc m) = entered family t (field_entered family t d i) (suc i) m

-- the lines behind one that is told
pub line-apart : (x rest : List ℕ) → lacks (is 10) x ≡ true → pieces 10 ((x ++ (10 ∷ [])) ++ rest) ≡ x ∷ pieces 10 rest
unfolding pieces_by
line-apart x rest h =
    ap (pieces 10) (append_assoc x (10 ∷ []) rest) ∙ pieces-append (is 10) x (10 ∷ rest) [] (pieces 10 rest) h refl
    ∙ ap (λ (l : List ℕ). l ∷ pieces 10 rest) (append-nil x)

module _ (family : ℕ) (t : List ℕ) (small : Bytes t) (all : (n : ℕ) → Held t (field_of family n)) where
  -- ---- a field that is told

  module _ (n : ℕ) (told : is_told t (field_of family n) ≡ true) where
    abbrev f : FieldLayout
    f = field_of family n

    within : start_in t f.part + f.at + f.width ≤ length t
    within = (all n).inside ((all n).there told)

    pub bytes-many : length (bytes_in t f) ≡ f.width
    unfolding bytes_in
    bytes-many = part_length t (start_in t f.part + f.at) f.width within

    pub bytes-are : (j : ℕ) → j < f.width → byte (bytes_in t f) j ≡ byte t (start_in t f.part + f.at + j)
    unfolding bytes_in
    bytes-are j h = part_at t (start_in t f.part + f.at) f.width j h

    bytes_small : Bytes (bytes_in t f)
    bytes_small i =
        elim (dec_lt i f.width) [
          | yes h ↦ omega (arith, bytes-are i h, small (start_in t f.part + f.at + i))
          | no h ↦ omega (arith, byte_past (bytes_in t f) i (omega (arith, bytes-many)))
        ]

    -- its text is read as its bytes
    read_back : field_bytes family n (value_text f.notation f.width (bytes_in t f)) ≡ Some (bytes_in t f)
    read_back = value-back f.notation f.width (bytes_in t f) (field_fits family n) bytes-many bytes_small (λ oem. (all n).filled oem)

  -- ---- the lines

  given-kept : (d : Draft) (n k : ℕ) → n < k → byte d.given k ≡ 0 → byte (field_entered family t d n).given k ≡ 0
  unfolding field_entered with_value
  given-kept d n k h e = go (is_told t (field_of family n))
    where
      go : (b : Bool) → byte (cond b (with_value family d n (bytes_in t (field_of family n))) d).given k ≡ 0
      go true = write-after d.given n (1 ∷ []) k (omega arith) ∙ e
      go false = e

  -- every line is read
  abbrev read : Draft → Outcome
  read d = record { reason = 0; line = 0; field = 0; draft = d }

  module _ (d : Draft) (l i : ℕ) where
    pub entered-told : is_told t (field_of family i) ≡ true → with_value family d i (bytes_in t (field_of family i)) ≡ field_entered family t d i
    unfolding field_entered
    entered-told told = rw told

    pub entered-none : is_told t (field_of family i) ≡ false → d ≡ field_entered family t d i
    unfolding field_entered
    entered-none off = rw off

    -- a line that is told is read
    line_first : (low : i < field_count family) → is_told t (field_of family i) ≡ true → (rest : List ℕ)
        → line_step family d (line family i low (bytes_in t (field_of family i))) ≡ step_of 0 i (with_value family d i (bytes_in t (field_of family i)))
        → lines_from family d l (pieces 10 (line_of family t i ++ rest)) ≡ lines_from family (field_entered family t d i) (suc l) (pieces 10 rest)
    unfolding line_of lines_from
    line_first low told rest step =
        let bytes = bytes_in t (field_of family i) in
        rw (told, told_with family i low bytes, line-apart (line family i low bytes) rest (told_line family i low bytes), step, entered-told told)

    -- nothing stands for one that is not
    line-none : is_told t (field_of family i) ≡ false → (rest : List ℕ)
        → lines_from family d l (pieces 10 (line_of family t i ++ rest)) ≡ lines_from family (field_entered family t d i) l (pieces 10 rest)
    unfolding line_of
    line-none off rest = rw off (ap (λ (x : Draft). lines_from family x l (pieces 10 rest)) (entered-none off))

  pub lines-entered : (d : Draft) (l i m : ℕ) → i + m ≡ field_count family → ((k : ℕ) → i ≤ k → byte d.given k ≡ 0)
      → lines_from family d l (pieces 10 (gather (line_of family t) i m)) ≡ read (entered family t d i m)
  unfolding lines_from entered gather line_step says_nothing pieces_by trim trim_end before
  lines-entered d l i zero e none = refl
  lines-entered d l i (suc m) e none =
      go (is_told t (field_of family i)) refl (λ n. lines-entered (field_entered family t d i) n (suc i) m (omega arith) later)
    where
      later : (k : ℕ) → suc i ≤ k → byte (field_entered family t d i).given k ≡ 0
      later k h = given-kept d i k (omega arith) (none k (omega arith))

      rest : List ℕ
      rest = gather (line_of family t) (suc i) m

      end : Draft
      end = entered family t (field_entered family t d i) (suc i) m

      go : (b : Bool) → is_told t (field_of family i) ≡ b → ((n : ℕ) → lines_from family (field_entered family t d i) n (pieces 10 rest) ≡ read end)
          → lines_from family d l (pieces 10 (line_of family t i ++ rest)) ≡ read end
      go true told ih =
          let bytes = bytes_in t (field_of family i) in
          let low : i < field_count family = omega arith in
          let fresh : byte d.given i ≡ 1 → ⊥ = λ one. absurd (omega (arith, none i (omega arith), one)) in
          line_first d l i low told rest (told-read family i low bytes d fresh (read_back i told)) ∙ ih (suc l)
      go false off ih = line-none d l i off rest ∙ ih l

-- ---- the image, byte by byte

-- where a field stands, and whether entering it leaves the byte at q alone: q is none of its bytes, nor of the IB part's offset
-- where that is written
abbrev pub place_in : FieldLayout → ℕ
place_in f = place_written f.part + f.at

unfoldable pub leaves : FieldLayout → ℕ → Bool
leaves f q =
    (ltb q (place_in f) || leb (place_in f + f.width) q) && (not (eqb f.part ib_part) || (ltb q ib.word || leb (ib.word + 2) q))

-- a byte before or behind what is written stays
pub write-leaves : (t : List ℕ) (a : ℕ) (ys : List ℕ) (q n : ℕ) → length ys ≡ n → (ltb q a || leb (a + n) q) ≡ true → byte (write t a ys) q ≡ byte t q
write-leaves t a ys q n size h = go (ltb q a) refl h
  where
    go : (b : Bool) → ltb q a ≡ b → (b || leb (a + n) q) ≡ true → byte (write t a ys) q ≡ byte t q
    go true e h = write-before t a ys q (ltb-true q a e)
    go false e h = write-after t a ys q (omega (arith, leb-true (a + n) q h))

present-leaves : (image : List ℕ) (part q : ℕ) → (not (eqb part ib_part) || (ltb q ib.word || leb (ib.word + 2) q)) ≡ true
    → byte (present image part) q ≡ byte image q
unfolding present
present-leaves image part q h = go (eqb part ib_part) h
  where
    go : (b : Bool) → (not b || (ltb q ib.word || leb (ib.word + 2) q)) ≡ true
        → byte (cond b (write image ib.word (le16 ib.place)) image) q ≡ byte image q
    go true h = write-leaves image ib.word (le16 ib.place) q 2 refl h
    go false h = refl

present-length : (image : List ℕ) (part : ℕ) → length (present image part) ≡ length image
unfolding present
present-length image part = go (eqb part ib_part)
  where
    go : (b : Bool) → length (cond b (write image ib.word (le16 ib.place)) image) ≡ length image
    go true = length-write image ib.word (le16 ib.place)
    go false = refl

module _ (family : ℕ) (d : Draft) (n : ℕ) (bytes : List ℕ) (size : length bytes ≡ (field_of family n).width) where
  pub value-leaves : (q : ℕ) → leaves (field_of family n) q ≡ true → byte (with_value family d n bytes).image q ≡ byte d.image q
  unfolding with_value leaves place_of
  value-leaves q h =
      let f = field_of family n in
      let both = and_both (ltb q (place_in f) || leb (place_in f + f.width) q) _ h in
      write-leaves (present d.image f.part) (place_in f) bytes q f.width size both.0 ∙ present-leaves d.image f.part q both.1

  value_set : (j : ℕ) → j < (field_of family n).width → place_of family n + (field_of family n).width ≤ length d.image
      → byte (with_value family d n bytes).image (place_of family n + j) ≡ byte bytes j
  unfolding with_value
  value_set j h fits =
      let f = field_of family n in
      write-at (present d.image f.part) (place_of family n) bytes j (omega arith) (omega (arith, present-length d.image f.part))

  value-length : length (with_value family d n bytes).image ≡ length d.image
  unfolding with_value
  value-length =
      let f = field_of family n in
      length-write (present d.image f.part) (place_of family n) bytes ∙ present-length d.image f.part

-- ---- no field lies in another

abbrev few : ℕ
few = 16

-- byte j of field n is left alone by field k; so is every byte; so is every other field; so is each by each
alone_at : List FieldLayout → ℕ → ℕ → ℕ → Bool
alone_at layout k n j =
    let x = get_or layout n (field Oem 0 10 6) in
    leb x.width j || leaves (get_or layout k (field Oem 0 10 6)) (place_in x + j)

alone_in : List FieldLayout → ℕ → ℕ → Bool
alone_in layout k n = eqb k n || not (any few (λ (j : ℕ). not (alone_at layout k n j)))

alone_by : List FieldLayout → ℕ → Bool
alone_by layout k = not (any (length layout) (λ (n : ℕ). not (alone_in layout k n)))

alone : (layout : List FieldLayout) → any (length layout) (λ (k : ℕ). not (alone_by layout k)) ≡ false
    → (k n j : ℕ) → k < length layout → n < length layout → (k ≡ n → ⊥) → j < few → j < (get_or layout n (field Oem 0 10 6)).width
    → leaves (get_or layout k (field Oem 0 10 6)) (place_in (get_or layout n (field Oem 0 10 6)) + j) ≡ true
unfolding alone_by alone_in alone_at
alone layout all k n j hk hn other hj h =
    let by = each_holds (length layout) (alone_by layout) all k hk in
    let in_one = each_holds (length layout) (alone_in layout k) (not-true _ by) n hn in
    let at = each_holds few (alone_at layout k n) (not-true _ (rw (ne_eqb k n other) at in_one)) j hj in
    rw (lt-leb (get_or layout n (field Oem 0 10 6)).width j h) at at

narrow-all : (each (λ (f : FieldLayout). leb f.width few) abft_fields.layout ≡ true)
    × (each (λ (f : FieldLayout). leb f.width few) sbft_fields.layout ≡ true)
unfolding each
narrow-all = (refl, refl)

abft-alone : any 5 (λ (k : ℕ). not (alone_by abft_fields.layout k)) ≡ false
unfolding any first alone_by alone_in alone_at leaves place_written part_of
abft-alone = refl

sbft-alone : any 9 (λ (k : ℕ). not (alone_by sbft_fields.layout k)) ≡ false
unfolding any first alone_by alone_in alone_at leaves place_written part_of
sbft-alone = refl

pub field-alone : (family k n j : ℕ) → k < field_count family → n < field_count family → (k ≡ n → ⊥) → j < (field_of family n).width
    → leaves (field_of family k) (place_of family n + j) ≡ true
unfolding field_count field_of fields_of place_of
field-alone family k n j hk hn other h = go (eqb family sbft) hk hn h (leb-true _ _ (narrow (eqb family sbft)))
  where
    narrow : (b : Bool) → leb (get_or (cond b sbft_fields abft_fields).layout n (field Oem 0 10 6)).width few ≡ true
    narrow true = each_at (λ (f : FieldLayout). leb f.width few) sbft_fields.layout n (field Oem 0 10 6) narrow-all.1 refl
    narrow false = each_at (λ (f : FieldLayout). leb f.width few) abft_fields.layout n (field Oem 0 10 6) narrow-all.0 refl

    go : (b : Bool) → k < length (cond b sbft_fields abft_fields).layout → n < length (cond b sbft_fields abft_fields).layout
        → j < (get_or (cond b sbft_fields abft_fields).layout n (field Oem 0 10 6)).width
        → (get_or (cond b sbft_fields abft_fields).layout n (field Oem 0 10 6)).width ≤ few
        → leaves (get_or (cond b sbft_fields abft_fields).layout k (field Oem 0 10 6))
        (place_in (get_or (cond b sbft_fields abft_fields).layout n (field Oem 0 10 6)) + j) ≡ true
    go true hk hn h l = alone sbft_fields.layout sbft-alone k n j hk hn other (omega arith) h
    go false hk hn h l = alone abft_fields.layout abft-alone k n j hk hn other (omega arith) h

-- ---- all fields entered

-- each field lies in the image
pub field-ends : (family n : ℕ) → place_of family n + (field_of family n).width ≤ image_size
unfolding place_of each place_written part_of
field-ends family n =
    leb-true (place_in (field_of family n) + (field_of family n).width) image_size
    (field-each (λ (f : FieldLayout). leb (place_in f + f.width) image_size) refl refl refl family n)

module _ (family : ℕ) (t : List ℕ) (small : Bytes t) (all : (n : ℕ) → Held t (field_of family n)) where
  field-leaves : (d : Draft) (n q : ℕ) → (is_told t (field_of family n) ≡ true → leaves (field_of family n) q ≡ true)
      → byte (field_entered family t d n).image q ≡ byte d.image q
  unfolding field_entered
  field-leaves d n q h = go (is_told t (field_of family n)) refl
    where
      go : (b : Bool) → is_told t (field_of family n) ≡ b
          → byte (cond b (with_value family d n (bytes_in t (field_of family n))) d).image q ≡ byte d.image q
      go true told = value-leaves family d n (bytes_in t (field_of family n)) (bytes-many family t small all n told) q (h told)
      go false off = refl

  pub field-length : (d : Draft) (n : ℕ) → length (field_entered family t d n).image ≡ length d.image
  unfolding field_entered
  field-length d n = go (is_told t (field_of family n)) refl
    where
      go : (b : Bool) → is_told t (field_of family n) ≡ b
          → length (cond b (with_value family d n (bytes_in t (field_of family n))) d).image ≡ length d.image
      go true told = value-length family d n (bytes_in t (field_of family n)) (bytes-many family t small all n told)
      go false off = refl

  pub kept : (d : Draft) (i m q : ℕ) → ((k : ℕ) → i ≤ k → k < i + m → is_told t (field_of family k) ≡ true → leaves (field_of family k) q ≡ true)
      → byte (entered family t d i m).image q ≡ byte d.image q
  unfolding entered
  kept d i zero q h = refl
  kept d i (suc m) q h =
      kept (field_entered family t d i) (suc i) m q (λ k a b told. h k (omega arith) (omega arith) told)
      ∙ field-leaves d i q (h i (omega arith) (omega arith))

  pub field-set : (d : Draft) (i m n j : ℕ) → i + m ≡ field_count family → i ≤ n → n < i + m → image_size ≤ length d.image
      → is_told t (field_of family n) ≡ true → j < (field_of family n).width
      → byte (entered family t d i m).image (place_of family n + j) ≡ byte (bytes_in t (field_of family n)) j
  unfolding entered
  field-set d i zero n j e a b fits told h = absurd (omega arith)
  field-set d i (suc m) n j e a b fits told h =
      elim (dec_lt i n) [
        | yes l ↦
            field-set (field_entered family t d i) (suc i) m n j (omega arith) (omega arith) (omega arith) (omega (arith, field-length d i)) told h
        | no l ↦
            let same : i ≡ n = omega arith in
            let here : field_entered family t d i ≡ with_value family d n (bytes_in t (field_of family n)) =
            ap (field_entered family t d) same ∙ sym (entered-told family t small all d 0 n told) in
            kept (field_entered family t d i) (suc i) m (place_of family n + j)
            (λ k c k-low told-k. field-alone family k n j (omega arith) (omega arith) (λ z. absurd (omega arith)) h)
            ∙ ap (λ (x : Draft). byte x.image (place_of family n + j)) here
            ∙ value_set family d n (bytes_in t (field_of family n)) (bytes-many family t small all n told) j h (omega (arith, field-ends family n))
      ]
