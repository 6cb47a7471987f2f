-- Laws of the lines of differences, in the shape in which the code has their pieces.
--     held-hidden, held-told        an entry that one table has
--     differs-hidden, differs-told  an entry that both have
--     entry-left, entry-right, entry-both     an entry, by which table has it
--     field_told                    a field
--     line-is, entry-is             any difference; an entry, with whether it is hidden
-- Assumes nothing.
use mathlib.Core.Path.{◌≡◌, sym, ap, ◌∙◌}
use mathlib.Core.Bool.{Bool, true, false, cond, ◌&&◌}
use mathlib.Core.List.{List, [], ◌∷◌, ◌++◌}
use Prim.Native.Nat.{ℕ, ◌-◌}
use borrow.Author.Tests.{eq-eqb, ne_eqb}
use Rattle.record_text.specs.Fields.{is_secret}
use Rattle.record_text.specs.declared.fields.FieldName.{FieldName}
use Rattle.ibft_compare.specs.declared.difference.Difference.{Difference}
use Rattle.ibft_compare.specs.declared.difference.DifferenceReading.{DifferenceReading}
use Rattle.difference_text.specs.DifferenceText.{hidden_words, hidden_name, bytes_in, is_hidden, with_value, both_values, only_in, shown_text}
use Rattle.difference_text.specs.DifferenceText.{field_line, held_line, differs_line, entry_line, line_of, difference_text}

module _ (f : FieldName) (bytes : List ℕ) (right : Bool) where
  pub held-hidden : (secret : Bool) → secret ≡ true → hidden_name f ++ only_in right ≡ held_line secret f bytes right
  unfolding held_line
  held-hidden secret e = sym (ap (λ (b : Bool). cond b (hidden_name f) (with_value f bytes) ++ only_in right) e)

  pub held-told : (secret : Bool) → secret ≡ false → with_value f bytes ++ only_in right ≡ held_line secret f bytes right
  unfolding held_line
  held-told secret e = sym (ap (λ (b : Bool). cond b (hidden_name f) (with_value f bytes) ++ only_in right) e)

module _ (f : FieldName) (left right : List ℕ) (d : DifferenceReading) where
  pub field_told : (x y : List ℕ) → x ≡ bytes_in left d.left → y ≡ bytes_in right d.right
      → both_values f x y ++ (10 ∷ []) ≡ field_line f left right d
  unfolding field_line
  field_told x y p q = rw (p, q)

  pub differs-hidden : (secret : Bool) → secret ≡ true → hidden_name f ++ hidden_words ≡ differs_line secret f left right d
  unfolding differs_line
  differs-hidden secret e = rw e

  pub differs-told : (secret : Bool) → secret ≡ false
      → (x y s : List ℕ) (n : ℕ) → x ≡ bytes_in left d.left → y ≡ bytes_in right d.right → s ≡ bytes_in left d.shown
      → n ≡ d.shown.start - d.left.start → both_values f x y ++ shown_text n s ≡ differs_line secret f left right d
  unfolding differs_line
  differs-told secret e x y s n p q u v = rw (e, p, q, u, v)

  pub entry-left : (secret : Bool) (x : List ℕ) → d.right.start ≡ 0 → x ≡ bytes_in left d.left
      → held_line secret f x false ≡ entry_line secret f left right d
  unfolding entry_line
  entry-left secret x h p = rw (p, eq-eqb d.right.start 0 h)

  pub entry-right : (secret : Bool) (y : List ℕ) → (d.right.start ≡ 0 → ⊥) → d.left.start ≡ 0 → y ≡ bytes_in right d.right
      → held_line secret f y true ≡ entry_line secret f left right d
  unfolding entry_line
  entry-right secret y h l q = rw (q, ne_eqb d.right.start 0 h, eq-eqb d.left.start 0 l)

  pub entry-both : (secret : Bool) → (d.right.start ≡ 0 → ⊥) → (d.left.start ≡ 0 → ⊥)
      → differs_line secret f left right d ≡ entry_line secret f left right d
  unfolding entry_line
  entry-both secret h l = rw (ne_eqb d.right.start 0 h, ne_eqb d.left.start 0 l)

-- ---- any difference

module _ (hide : Bool) (left right : List ℕ) (d : DifferenceReading) where
  -- the line of the difference x, where that is the reading's
  pub line-is : (x : Difference) (text : List ℕ) → d.difference ≡ x → text ≡ line_of hide left right d x
      → text ≡ difference_text hide left right d
  unfolding difference_text
  line-is x text e h = h ∙ sym (ap (line_of hide left right d) e)

  -- an entry by name, with whether it is hidden
  pub entry-is : (f g : FieldName) (s : Bool) → f ≡ g → s ≡ is_secret f.kind f.field
      → entry_line (hide && s) f left right d ≡ entry_line (is_hidden hide g) g left right d
  entry-is f g s e h = rw (h, e)
