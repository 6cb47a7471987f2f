-- The extra words of a built table, read back: they are laid in slot order, so that `SeatBackLaws` says which slots they have.
-- Of the table it takes what its bytes give: Control's bytes stand at 48, and each present structure has its ID and its Index.
--     extras-are      how many extras there are
--     word_back       word w holds the start of the slot that callers call w
--     laid-back       the words are laid in slot order
-- Assumes nothing.
use mathlib.Core.Path.{◌≡◌, refl, sym, ap, ◌∙◌, subst}
use mathlib.Core.Bool.{Bool, true}
use mathlib.Core.List.{List, [], ◌∷◌, ◌++◌}
use Prim.Native.Nat.{ℕ, zero, suc, ◌+◌, ◌*◌, ◌-◌, ◌≤◌, ◌<◌}
use native.Mathlib.Decide.{dec_lt}
use native.Mathlib.Omega.{arith}
use borrow.Author.Tests.{lt-ltb, le-ltb}
use lib.Dec.{ltb}
use Rattle.octets.specs.Counting.{count, gather}
use Rattle.octets.specs.Octets.{byte, le16}
use Rattle.octets.proofs.CountLaws.{count-last, count_none, count-between}
use Rattle.octets.proofs.LiesLaws.{Lies, lies_within, lies-middle}
use Rattle.octets.proofs.WordLaws.{word16-back}
use Rattle.octets.proofs.TestLaws.{unlike-differs}
use Rattle.ibft_layout.specs.Layout.{Kind, control, nic, target, kind_of, named_count, slot_count, extra_most, extra_nics, extra_targets}
use Rattle.ibft_layout.specs.Layout.{most_words, control_at, word_at, opened, slot_at}
use Rattle.ibft_table.specs.Record.{Content}
use Rattle.ibft_table.specs.Table.{control_length, extra_words, start_at, used_at, kind_at, index_at}
use Rattle.ibft_table_laws.proofs.LayoutLaws.{nic-slot, target-slot}
use Rattle.ibft_table_laws.proofs.SeatBackLaws.{Laid}
use Rattle.ibft_build_rules.specs.Plan.{is_present, extras_built, start_built}
use Rattle.ibft_build_rules.specs.TableBytes.{extra_word, control_bytes}
use Rattle.ibft_build_rules.proofs.GoodContent.{Packed}
use Rattle.ibft_build_rules.proofs.BytesLaws.{word_place, control-length, extra-word-lies}
use Rattle.ibft_build_rules.proofs.PlanLaws.{start-least, start-below}

count_add : (m n : ℕ) (p : ℕ → Bool) → count (m + n) p ≡ count m p + count n (λ (i : ℕ). p (m + i))
count_add m zero p = let none = count_none (λ (i : ℕ). p (m + i)) in omega (arith, ap (λ (k : ℕ). count k p) (plus m), none)
  where
    plus : (m : ℕ) → m + 0 ≡ m
    plus m = omega arith
count_add m (suc n) p =
    let next : count (m + suc n) p ≡ count (suc (m + n)) p = ap (λ (k : ℕ). count k p) (omega arith) in
    omega (arith, next, count-last (m + n) p, count-last n (λ (i : ℕ). p (m + i)), count_add m n p)

-- as many as are set, where the first a are and no other
count-first : (n a : ℕ) (p : ℕ → Bool) → a ≤ n → ((i : ℕ) → i < n → p i ≡ ltb i a) → count n p ≡ a
count-first n a p h is =
    let all = count-between n p 0 a (omega arith) h (λ k x y. is k (omega arith) ∙ lt-ltb k a y)
    (λ k x. absurd (omega arith)) (λ k x y. is k y ∙ le-ltb k a x) in
    omega arith

module _ (c : Content) (a b : ℕ) (packed : Packed c a b) where
  there : ℕ → Bool
  there i = is_present (c.structure (named_count + i))

  -- how many extras come before the i-th slot of a kind
  before-nic : (n : ℕ) → n ≤ a → count n there ≡ n
  unfolding there
  before-nic n h =
      let nics = packed.nics in
      count-first n n (λ (i : ℕ). is_present (c.structure (named_count + i))) (omega arith)
      (λ i l. packed.nics-are i (omega arith) ∙ lt-ltb i a (omega arith) ∙ sym (lt-ltb i n l))

  all-nics : count extra_most there ≡ a
  unfolding there
  all-nics = count-first extra_most a (λ (i : ℕ). is_present (c.structure (named_count + i))) packed.nics packed.nics-are

  before-target : (n : ℕ) → n ≤ extra_most → (m : ℕ) → m ≤ n → ((i : ℕ) → i < n → ltb i b ≡ ltb i m) → count (extra_most + n) there ≡ a + m
  unfolding there
  before-target n h m l is =
      omega (
        arith,
        count_add extra_most n there,
        all-nics,
        count-first n m (λ (i : ℕ). is_present (c.structure (named_count + (extra_most + i)))) l
            (λ i q. ap (λ (k : ℕ). is_present (c.structure k)) (shift i) ∙ packed.targets-are i (omega arith) ∙ is i q),
      )
    where
      shift : (i : ℕ) → named_count + (extra_most + i) ≡ extra_targets + i
      shift i = omega arith

  pub extras-are : extras_built c ≡ a + b
  unfolding extras_built there
  extras-are = before-target extra_most (omega arith) b packed.targets (λ i l. refl)

  -- the slot that callers call w
  pub seat-nic : (w : ℕ) → w < named_count + a → slot_at a w ≡ w
  unfolding opened
  seat-nic w h = rw (lt-ltb w (extra_nics + a) h)

  pub seat-target : (w : ℕ) → named_count + a ≤ w → slot_at a w ≡ extra_targets + (w - (named_count + a))
  unfolding opened
  seat-target w h = let nics = packed.nics in rw (le-ltb w (extra_nics + a) h) (omega arith)

  module _ (w : ℕ) (low : named_count ≤ w) (high : w < named_count + (a + b)) where
    pub seat-high : (named_count ≤ slot_at a w) × (slot_at a w < slot_count)
    seat-high =
        let nics = packed.nics in
        let targets = packed.targets in
        elim (dec_lt w (named_count + a)) [
          | yes m ↦ (omega (arith, seat-nic w m), omega (arith, seat-nic w m))
          | no m ↦ (omega (arith, seat-target w (omega arith)), omega (arith, seat-target w (omega arith)))
        ]

    pub seat-present : is_present (c.structure (slot_at a w)) ≡ true
    seat-present =
        let nics = packed.nics in
        let targets = packed.targets in
        elim (dec_lt w (named_count + a)) [
          | yes m ↦
              let at : slot_at a w ≡ extra_nics + (w - named_count) = omega (arith, seat-nic w m) in
              ap (λ (k : ℕ). is_present (c.structure k)) at ∙ packed.nics-are (w - named_count) (omega arith) ∙ lt-ltb (w - named_count) a (omega arith)
          | no m ↦
              ap (λ (k : ℕ). is_present (c.structure k)) (seat-target w (omega arith))
              ∙ packed.targets-are (w - (named_count + a)) (omega arith) ∙ lt-ltb (w - (named_count + a)) b (omega arith)
        ]

    pub seat-place : word_place c (slot_at a w) ≡ 8 + 2 * w
    unfolding word_place there
    seat-place =
        let nics = packed.nics in
        let targets = packed.targets in
        elim (dec_lt w (named_count + a)) [
          | yes m ↦
              let at : slot_at a w - named_count ≡ w - named_count = ap (λ (k : ℕ). k - named_count) (seat-nic w m) in
              omega (arith, ap (λ (k : ℕ). count k there) at, before-nic (w - named_count) (omega arith))
          | no m ↦
              let n : ℕ = w - (named_count + a) in
              let at : slot_at a w - named_count ≡ extra_most + n = omega (arith, seat-target w (omega arith)) in
              omega (
                arith,
                ap (λ (k : ℕ). count k there) at,
                before-target n (omega arith) n (omega arith) (λ i l. lt-ltb i b (omega arith) ∙ sym (lt-ltb i n l)),
              )
        ]

  -- ---- the words in a table that has Control's bytes, and in which each extra structure has its ID and its Index

  module _
      (t : List ℕ) (stands : Lies t control_at (control_bytes c))
      (id-back : (k : ℕ) → k < slot_count → is_present (c.structure k) ≡ true → byte t (start_built c k) ≡ (kind_of k).id)
      (index_back : (k : ℕ) → k < slot_count → is_present (c.structure k) ≡ true → byte t (start_built c k + 4) ≡ c.index k)
    where
      pub length-word : control_length t ≡ 18 + 2 * (a + b)
      unfolding control_bytes
      length-word =
          let nics = packed.nics in
          let targets = packed.targets in
          let extras = extras-are in
          let whole = control-length c in
          word16-back t (control_at + 2) (control.length + 2 * extras_built c) (omega arith)
          (lies_within t (control_bytes c) (le16 (control.length + 2 * extras_built c)) control_at 2 (omega arith) stands
          (lies-middle (control.id ∷ control.version ∷ []) (le16 (control.length + 2 * extras_built c))
          (0 ∷ (c.flags ∷ (le16 0 ++ (gather (λ (k : ℕ). le16 (start_built c k)) 0 named_count ++ gather (extra_word c) named_count most_words)))) 2 refl))
          ∙ omega arith

      pub words_back : extra_words t ≡ a + b
      unfolding extra_words
      words_back =
          let nics = packed.nics in
          let targets = packed.targets in
          omega (arith, length-word)

      module _ (w : ℕ) (low : named_count ≤ w) (high : w < named_count + (a + b)) where
        pub word_back : start_at t w ≡ start_built c (slot_at a w)
        unfolding start_at
        word_back =
            let k : ℕ = slot_at a w in
            let seat = seat-high w low high in
            let place : control_at + word_place c k ≡ word_at w = omega (arith, seat-place w low high) in
            word16-back t (word_at w) (start_built c k) (start-below c k seat.1)
            (subst (λ (p : ℕ). Lies t p (le16 (start_built c k))) place
            (lies_within t (control_bytes c) (le16 (start_built c k)) control_at (word_place c k)
            (omega (arith, control-length c, extras-are, seat-place w low high)) stands
            (extra-word-lies c k seat.0 seat.1 (seat-present w low high))))

        pub used-back : used_at t w ≡ true
        unfolding used_at
        used-back = unlike-differs (start_at t w) 0 (λ z. omega (arith, word_back, start-least c (slot_at a w) (seat-present w low high)))

        id-of : byte t (start_at t w) ≡ (kind_of (slot_at a w)).id
        id-of = ap (byte t) word_back ∙ id-back (slot_at a w) (seat-high w low high).1 (seat-present w low high)

        pub index-of : index_at t w ≡ c.index (slot_at a w)
        unfolding index_at
        index-of =
            rw (le-ltb w named_count low)
            (ap (λ (s : ℕ). byte t (s + 4)) word_back ∙ index_back (slot_at a w) (seat-high w low high).1 (seat-present w low high))

      kind-nic : (w : ℕ) → named_count ≤ w → w < named_count + a → kind_at t w ≡ nic
      unfolding kind_at
      kind-nic w l h =
          let nics = packed.nics in
          let at : slot_at a w ≡ extra_nics + (w - named_count) = omega (arith, seat-nic w h) in
          let id : byte t (start_at t w) ≡ 3 = id-of w l (omega arith) ∙ ap (λ (k : ℕ). (kind_of k).id) at
          ∙ ap (λ (κ : Kind). κ.id) (nic-slot (w - named_count) (omega arith)) in
          rw (le-ltb w named_count l, id)

      kind-target : (w : ℕ) → named_count + a ≤ w → w < named_count + (a + b) → kind_at t w ≡ target
      unfolding kind_at
      kind-target w l h =
          let targets = packed.targets in
          let id : byte t (start_at t w) ≡ 4 =
          id-of w (omega arith) h ∙ ap (λ (k : ℕ). (kind_of k).id) (seat-target w l)
          ∙ ap (λ (κ : Kind). κ.id) (target-slot (w - (named_count + a)) (omega arith)) in
          rw (le-ltb w named_count (omega arith), id)

      pub laid-back : Laid t a b
      laid-back =
          record {
            nics = packed.nics;
            targets = packed.targets;
            words = words_back;
            used = used-back;
            index = λ w l h. omega (arith, index-of w l h, packed.index (slot_at a w) (seat-high w l h).0 (seat-present w l h));
            nic-kind = kind-nic;
            target-kind = kind-target;
            nic-up = λ v w l less h.
                let at : slot_at a v ≡ extra_nics + (v - named_count) = omega (arith, seat-nic v (omega arith)) in
                let to : slot_at a w ≡ extra_nics + (w - named_count) = omega (arith, seat-nic w h) in
                omega (
                  arith,
                  index-of v l (omega arith),
                  index-of w (omega arith) (omega arith),
                  ap c.index at,
                  ap c.index to,
                  packed.nic-up (v - named_count) (w - named_count) (omega arith) (omega arith),
                );
            target_up = λ v w l less h.
                omega (
                  arith,
                  index-of v (omega arith) (omega arith),
                  index-of w (omega arith) h,
                  ap c.index (seat-target v l),
                  ap c.index (seat-target w (omega arith)),
                  packed.target_up (v - (named_count + a)) (w - (named_count + a)) (omega arith) (omega arith),
                );
          }
