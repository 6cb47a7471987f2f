-- Laws of the text of a table, shaped like what its functions return.
--     line-missing, line-hidden, line-untold, line-told      the line of a field
--     table-id-field, id-field, mode-field                   the bytes of the header's fields and of Control's flags
--     string-gone, string-there, plain-gone, plain-there     .. of a structure's fields, as its words say
--     kind-low, kind-structure, kind-of-group, index-low, index-structure   the kind and the Index of a group
--     gather-more                                            one line more
--     text-accepted, text-refused                            the text of a table
-- Assumes nothing.
use Rattle.std.specs.Prelude.{Option, None, Some}
use mathlib.Core.Path.{◌≡◌, sym, ap, ◌∙◌}
use mathlib.Core.Bool.{Bool, true, false, not, ◌&&◌}
use mathlib.Core.List.{List, [], ◌∷◌, ◌++◌}
use Prim.Native.Nat.{ℕ, ◌+◌, ◌-◌, ◌≤◌, ◌<◌}
use native.Mathlib.Numerals.{add-one}
use native.Mathlib.Omega.{arith}
use borrow.Author.Tests.{lt-ltb, le-ltb, eq-eqb, ne_eqb}
use lib.Dec.{eqb}
use Rattle.octets.specs.Counting.{gather}
use Rattle.octets.specs.Octets.{byte, word16, part}
use Rattle.octets.proofs.CountingLaws.{gather-last}
use Rattle.ibft_layout.specs.Layout.{kind_of, slot_count, first_entry}
use Rattle.ibft_table.specs.Table.{starts_of, start_in, present_in, index_in, field_in, size_in, offset_in, holds_in}
use Rattle.ibft_table.specs.Check.{check_of}
use Rattle.ibft_table.specs.Record.{shown_if, listed, content_in, content_of, record_of}
use Rattle.ibft_layout.specs.declared.shape.Shape.{Shape}
use Rattle.table_header.specs.Verdict.{Verdict, Accepted, Refused}
use Rattle.table_header.specs.declared.verdict.Refusal.{Refusal}
use Rattle.record_text.specs.Fields.{first_structure, is_secret, plain_count, field_count, field_of}
use Rattle.record_text.specs.Enter.{group_count}
use Rattle.record_text.specs.Tell.{kind_number, index_held, record_field, is_told, line_with, hidden_line, line_of, record_text, if_accepted, table_text}
use Rattle.record_text.specs.declared.fields.FieldLayout.{FieldLayout}
use Rattle.record_text.proofs.FieldFitsLaws.{kind-fits}
use Rattle.record_text.proofs.HeldLaws.{index-held, string-field, plain-some, plain-none}

-- ---- a line

module _ (hide : Bool) (kind index n : ℕ) where
  pub line-missing : (o : Option (List ℕ)) → None ≡ o → [] ≡ line_of hide kind index n o
  unfolding line_of
  line-missing o e = rw (← e)

  module _ (bytes : List ℕ) (s : Bool) (secret : s ≡ is_secret kind n) where
    pub line-hidden : (hide && s) ≡ true → hidden_line kind index n ≡ line_of hide kind index n (Some bytes)
    unfolding line_of
    line-hidden h = rw (← secret, h)

    module _ (shown : (hide && s) ≡ false) (t : Bool) (told : t ≡ is_told kind n bytes) where
      pub line-untold : t ≡ false → [] ≡ line_of hide kind index n (Some bytes)
      unfolding line_of
      line-untold h = rw (← secret, shown, ← told, h)

      pub line-told : t ≡ true → line_with kind index n bytes ≡ line_of hide kind index n (Some bytes)
      unfolding line_of
      line-told h = rw (← secret, shown, ← told, h)

-- ---- the bytes of a field

module _ (t : List ℕ) (n : ℕ) where
  pub table-id-field : n ≡ 1 → (bytes : List ℕ) → bytes ≡ part t 16 8 → Some bytes ≡ record_field (record_of t) 0 n
  unfolding record_field record_of listed content_of content_in
  table-id-field h bytes e = rw (eq-eqb n 1 h) (ap Some e)

  pub id-field : (n ≡ 1 → ⊥) → (bytes : List ℕ) → bytes ≡ part t 10 6 → Some bytes ≡ record_field (record_of t) 0 n
  unfolding record_field record_of listed content_of content_in
  id-field h bytes e = rw (ne_eqb n 1 h) (ap Some e)

  pub mode-field : (b : ℕ) → b ≡ byte t 53 → Some (b ∷ []) ≡ record_field (record_of t) 1 n
  unfolding record_field record_of listed content_of content_in
  mode-field b e = rw e

module _ (t starts : List ℕ) (is : starts ≡ starts_of t) (k : ℕ) (h : k < slot_count) (kind n : ℕ) (of : kind ≡ (kind_of k).id) where
  -- a string, by its entry
  module _ (plain : plain_count kind ≤ n) (below : n < field_count kind) (entry : ℕ) (number : entry ≡ first_entry k + (n - plain_count kind)) where
    string-is : shown_if (holds_in starts t entry) (part t (offset_in starts t entry) (size_in starts t entry)) ≡ record_field (record_of t) (first_structure + k) n
    string-is =
        let fits = kind-fits k h in
        let own : plain_count (kind_of k).id + (n - plain_count kind) ≡ n = rw (← of) (omega arith) in
        let few : n - plain_count kind < field_count (kind_of k).id - plain_count (kind_of k).id = rw (← of) (omega arith) in
        rw (is, number) (sym (string-field t k h (n - plain_count kind) (omega (arith, fits.fields, few)))
        ∙ ap (record_field (record_of t) (first_structure + k)) own)

    pub string-gone : holds_in starts t entry ≡ false → None ≡ record_field (record_of t) (first_structure + k) n
    string-gone off = rw off at string-is

    pub string-there : holds_in starts t entry ≡ true → (words size offset : ℕ) (bytes : List ℕ) → words ≡ field_in starts entry → size ≡ word16 t words
        → offset ≡ word16 t (words + 2) → bytes ≡ part t offset size → Some bytes ≡ record_field (record_of t) (first_structure + k) n
    unfolding size_in offset_in
    string-there on words size offset bytes at es eo e =
        let shown : Some (part t (word16 t (field_in starts entry + 2)) (word16 t (field_in starts entry)))
        ≡ record_field (record_of t) (first_structure + k) n = rw on at string-is in
        ap Some (e ∙ rw (eo, es, at)) ∙ shown

  -- any other field, by the structure's start
  module _ (plain : n < plain_count kind) (start : ℕ) (from : start ≡ start_in starts k) where
    plain-kind : n < plain_count (kind_of k).id
    plain-kind = rw (← of) plain

    pub plain-gone : start ≡ 0 → None ≡ record_field (record_of t) (first_structure + k) n
    unfolding present_in
    plain-gone off =
        let zero-start : start_in (starts_of t) k ≡ 0 = sym (ap (λ (s : List ℕ). start_in s k) is) ∙ sym from ∙ off in
        sym (plain-none t k h n plain-kind (rw zero-start))

    pub plain-there : (start ≡ 0 → ⊥) → (x : FieldLayout) → x ≡ field_of kind n → (bytes : List ℕ) → bytes ≡ part t (start + x.at) x.width
        → Some bytes ≡ record_field (record_of t) (first_structure + k) n
    unfolding present_in
    plain-there on x layout bytes e =
        let first : start ≡ start_in (starts_of t) k = from ∙ ap (λ (s : List ℕ). start_in s k) is in
        let there : not (eqb (start_in (starts_of t) k) 0) ≡ true = rw (← first, ne_eqb start 0 on) in
        let shape : x ≡ field_of (kind_of k).id n = layout ∙ ap (λ (q : ℕ). field_of q n) of in
        ap Some (e ∙ rw (first, shape)) ∙ sym (plain-some t k h n plain-kind there)

-- ---- groups

module _ (g : ℕ) where
  pub kind-low : g < first_structure → g ≡ kind_number g
  unfolding kind_number
  kind-low h = rw (lt-ltb g first_structure h)

  pub kind-structure : first_structure ≤ g → (shape : Shape) → shape.id ≡ (kind_of (g - first_structure)).id → shape.id ≡ kind_number g
  unfolding kind_number
  kind-structure h shape e = rw (le-ltb g first_structure h) e

  pub kind-of-group : first_structure ≤ g → kind_number g ≡ (kind_of (g - first_structure)).id
  unfolding kind_number
  kind-of-group h = rw (le-ltb g first_structure h)

  module _ (t : List ℕ) where
    pub index-low : g < first_structure → 0 ≡ index_held (record_of t) g
    unfolding index_held
    index-low h = rw (lt-ltb g first_structure h)

    pub index-structure : first_structure ≤ g → g < group_count → (starts : List ℕ) → starts ≡ starts_of t → (i : ℕ)
        → i ≡ index_in starts t (g - first_structure) → i ≡ index_held (record_of t) g
    unfolding index_held
    index-structure h l starts is i e =
        rw (le-ltb g first_structure h) (e ∙ ap (λ (s : List ℕ). index_in s t (g - first_structure)) is ∙ sym (index-held t (g - first_structure) (omega arith)))

pub gather-more : (f : ℕ → List ℕ) (n : ℕ) → gather f 0 n ++ f n ≡ gather f 0 (n + 1)
gather-more f n = rw (add-one n) (sym (gather-last f 0 n ∙ ap (λ (k : ℕ). gather f 0 n ++ f k) (omega arith)))

-- ---- the text

module _ (t : List ℕ) (hide : Bool) (v : Verdict) (checked : v ≡ check_of t) where
  pub text-accepted : v ≡ Accepted → record_text hide (record_of t) ≡ table_text hide t
  unfolding table_text if_accepted
  text-accepted h = rw (← checked, h)

  pub text-refused : (r : Refusal) → v ≡ Refused r → [] ≡ table_text hide t
  unfolding table_text if_accepted
  text-refused r h = rw (← checked, h)
