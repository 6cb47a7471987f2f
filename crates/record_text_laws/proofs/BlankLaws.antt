-- The range of a record of which nothing is given is zero, but for the numbers of extras, each structure's flags and each
-- target's port.
--     blank-long, blank-nics, blank-targets     its length and the numbers of extras
--     blank-zero                                every cell that has no usual value
-- Assumes nothing.
use mathlib.Core.Path.{◌≡◌, refl, sym, ap, ◌∙◌, subst}
use mathlib.Core.Bool.{Bool, true, false, cond}
use mathlib.Core.List.{List, [], ◌∷◌}
use Prim.Native.Nat.{ℕ, zero, suc, ◌+◌, ◌-◌, ◌≤◌, ◌<◌}
use native.Mathlib.Decide.{dec_lt}
use native.Mathlib.Omega.{arith}
use borrow.Author.Tests.{lt-ltb, le-ltb, ltb-true, eqb-true}
use lib.ListN.{length}
use lib.Dec.{eqb}
use Rattle.octets.specs.Octets.{byte, le16, zeros, write}
use Rattle.octets.proofs.WriteLaws.{length-write, write-at, length-zeros, get_d-zeros}
use Rattle.ibft_layout.specs.Layout.{nic, target, flags_at, slot_count, named_count, extra_nics, extra_targets}
use Rattle.ibft_build_rules.specs.RecordRange.{largest_size, nics_at, nics_given, targets_given, image_at, structure_given}
use Rattle.record_text.specs.Fields.{first_structure, field_count, field_of}
use Rattle.record_text.specs.Enter.{group_count, extras_of, counted, has_image, port_at, with_port, with_usual, usual_to, blank}
use Rattle.record_text.specs.Tell.{kind_number}
use Rattle.record_text.specs.declared.fields.FieldLayout.{FieldLayout}
use Rattle.record_text.proofs.FieldFitsLaws.{kind_in, seat, kind-slot, kind-fits, flags-field, port-field}
use Rattle.record_text_laws.proofs.RangePlaceLaws.{image_by, image-by, Placed}
use Rattle.record_text_laws.proofs.CellLaws.{cell_of, cell, cell-counts, cell-slot, cell-keeps}

-- the numbers of extras that the marks count
abbrev pub nics_of : List ℕ → ℕ
nics_of marks = extras_of marks nic.id

abbrev pub targets_of : List ℕ → ℕ
targets_of marks = extras_of marks target.id

-- a cell that has neither a number of extras nor a usual value
pub record Bare (c : ℕ) : Type 0 where
  pub counts : c ≡ cell_of group_count 0 → ⊥
  pub flags : (k : ℕ) → k < slot_count → c ≡ cell_of (first_structure + k) 0 → ⊥
  pub port : (k : ℕ) → k < slot_count → kind_in k ≡ target.id → c ≡ cell_of (first_structure + k) 2 → ⊥

module _ (marks range : List ℕ) (large : largest_size ≤ length range) where
  -- what holds of the range as the usual values are written into it
  record Fresh (r : List ℕ) : Type 0 where
    long : length r ≡ length range
    counts-nics : nics_given r ≡ nics_of marks
    counts-targets : targets_given r ≡ targets_of marks
    bare : (i : ℕ) → i < largest_size → Bare (cell (nics_of marks) i) → byte r i ≡ 0

  -- .. into a cell that may have one
  fresh-write : (r : List ℕ) → Fresh r → (a : ℕ) (ys : List ℕ) (c : ℕ) → ((j : ℕ) → j < length ys → cell (nics_of marks) (a + j) ≡ c)
      → (c ≡ cell_of group_count 0 → ⊥) → (Bare c → ⊥) → Fresh (write r a ys)
  fresh-write r fresh a ys c own counts usual =
      let kept : (i : ℕ) → (cell (nics_of marks) i ≡ c → ⊥) → byte (write r a ys) i ≡ byte r i = λ i other. cell-keeps (nics_of marks) r a ys c i own other in
      record {
        long = length-write r a ys ∙ fresh.long;
        counts-nics = kept nics_at (λ e. counts (sym e ∙ cell-counts (nics_of marks) 0 (omega arith))) ∙ fresh.counts-nics;
        counts-targets = kept (nics_at + 1) (λ e. counts (sym e ∙ cell-counts (nics_of marks) 1 (omega arith))) ∙ fresh.counts-targets;
        bare = λ i h b. kept i (λ e. usual (subst Bare e b)) ∙ fresh.bare i h b;
      }

  fresh-counted : Fresh (counted marks (write range 0 (zeros largest_size)))
  unfolding counted
  fresh-counted =
      let z : List ℕ = write range 0 (zeros largest_size) in
      let long : length z ≡ length range = length-write range 0 (zeros largest_size) in
      let ys : List ℕ = nics_of marks ∷ targets_of marks ∷ [] in
      record {
        long = length-write z nics_at ys ∙ long;
        counts-nics = write-at z nics_at ys 0 (omega arith) (omega arith);
        counts-targets = write-at z nics_at ys 1 (omega arith) (omega arith);
        bare = λ i h b.
            cell-keeps (nics_of marks) z nics_at ys (cell_of group_count 0) i (λ j l. cell-counts (nics_of marks) j l) b.counts
            ∙ ap (byte z) (omega arith)
            ∙ write-at range 0 (zeros largest_size) i (omega (arith, length-zeros largest_size)) (omega arith)
            ∙ get_d-zeros largest_size i;
      }

  module _ (r : List ℕ) (fresh : Fresh r) (k : ℕ) (h : k < slot_count) where
    has-placed : has_image r k ≡ true → Placed (nics_of marks) (first_structure + k)
    unfolding has_image structure_given
    has-placed on low =
        elim (dec_lt k named_count) [
          | yes l ↦ omega arith
          | no l ↦
              let less = ltb-true (k - extra_nics) (nics_given r) (rw (le-ltb k named_count (omega arith), lt-ltb k extra_targets (omega arith)) at on) in
              omega (arith, fresh.counts-nics)
        ]

    -- field n of the slot's structure has a usual value
    fresh-field : Placed (nics_of marks) (first_structure + k) → (n : ℕ) (f : FieldLayout) → field_of (kind_in k) n ≡ f → n < field_count (kind_in k)
        → (Bare (cell_of (first_structure + k) n) → ⊥) → (ys : List ℕ) → length ys ≤ f.width → Fresh (write r (image_at r k + f.at) ys)
    fresh-field placed n f is l usual ys fits =
        fresh-write r fresh (image_at r k + f.at) ys (cell_of (first_structure + k) n)
        (λ j m.
        let place : image_by (nics_of marks) k + ((field_of (kind_in k) n).at + j) ≡ image_at r k + f.at + j =
        omega (arith, image-by r (nics_of marks) fresh.counts-nics k, ap (λ (f : FieldLayout). f.at) is) in
        ap (cell (nics_of marks)) (sym place) ∙ cell-slot (nics_of marks) k n j h placed l (omega (arith, ap (λ (f : FieldLayout). f.width) is)))
        (λ e. omega (arith, (kind-fits k h).few))
        usual

    fresh-flags : Placed (nics_of marks) (first_structure + k) → Fresh (write r (image_at r k + flags_at) (3 ∷ []))
    fresh-flags placed =
        fresh-field placed 0 _ (flags-field k h) (omega (arith, (kind-fits k h).some, (kind-fits k h).fields)) (λ b. b.flags k h refl) (3 ∷ []) (omega arith)

    fresh-port : Placed (nics_of marks) (first_structure + k) → Fresh (with_port r k)
    unfolding with_port
    fresh-port placed = go (eqb (kind_in k) target.id) refl
      where
        go : (b : Bool) → eqb (kind_in k) target.id ≡ b → Fresh (cond b (write r (image_at r k + port_at) (le16 3260)) r)
        go false e = fresh
        go true e =
            let is : kind_in k ≡ target.id = eqb-true (kind_in k) target.id e in
            fresh-field placed 2 _ (ap (λ (q : ℕ). field_of q 2) is ∙ port-field) (omega (arith, (kind-fits k h).some, (kind-fits k h).fields))
            (λ b. b.port k h is refl) (le16 3260) (omega arith)

  fresh-usual : (r : List ℕ) → Fresh r → (k : ℕ) → k < slot_count → Fresh (with_usual r k)
  unfolding with_usual
  fresh-usual r fresh k h = go (has_image r k) refl
    where
      go : (b : Bool) → has_image r k ≡ b → Fresh (cond b (with_port (write r (image_at r k + flags_at) (3 ∷ [])) k) r)
      go false off = fresh
      go true on =
          let placed = has-placed r fresh k h on in
          fresh-port (write r (image_at r k + flags_at) (3 ∷ [])) (fresh-flags r fresh k h placed) k h placed

  fresh-to : (n : ℕ) → n ≤ slot_count → (r : List ℕ) → Fresh r → Fresh (usual_to n r)
  unfolding usual_to
  fresh-to zero h r fresh = fresh
  fresh-to (suc n) h r fresh = fresh-usual (usual_to n r) (fresh-to n (omega arith) r fresh) n (omega arith)

  fresh-blank : Fresh (blank marks range)
  unfolding blank
  fresh-blank = fresh-to slot_count (omega arith) _ fresh-counted

  pub blank-long : length (blank marks range) ≡ length range
  blank-long = fresh-blank.long

  pub blank-nics : nics_given (blank marks range) ≡ nics_of marks
  blank-nics = fresh-blank.counts-nics

  pub blank-targets : targets_given (blank marks range) ≡ targets_of marks
  blank-targets = fresh-blank.counts-targets

  -- what has no usual value is zero
  pub blank-zero : (g n : ℕ) → g < group_count → n ≤ seat → (first_structure ≤ g → 0 < n) → (kind_number g ≡ target.id → n ≡ 2 → ⊥)
      → (i : ℕ) → i < largest_size → cell (nics_of marks) i ≡ cell_of g n → byte (blank marks range) i ≡ 0
  blank-zero g n h few positive port i l is =
      fresh-blank.bare i l
      (subst Bare (sym is)
      (record {
        counts = λ e. omega arith;
        flags = λ k m e. omega (arith, positive (omega arith));
        port = λ k m q e.
            let same : g ≡ first_structure + k = omega arith in
            port (ap kind_number same ∙ kind-slot k ∙ q) (omega arith);
      }))
