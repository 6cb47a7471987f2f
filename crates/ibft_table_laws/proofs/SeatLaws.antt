-- Slots and words of a table: each slot in use has its word.
--     slot-word          a slot behind them that is in use has an extra word that is
--     slot-lower         of two extra words of one kind, the one with the lower Index has the lower slot
--     slot-below, slot-kind, slot-once, word-slot     of a table whose extra words are accepted: each has a slot of its kind,
--                                                     its own
--     extras-fit         there are at most as many extras as extra words
--     no_gap             extras of a kind fill its slots from the first on, by Index
-- Assumes nothing.
use mathlib.Core.Path.{◌≡◌, refl, sym, ap, ◌∙◌}
use mathlib.Core.Bool.{Bool, true, false, not, ◌&&◌}
use mathlib.Core.Logic.{◌⊎◌, inl, inr, ⊎_elim}
use mathlib.Core.List.{List}
use Prim.Native.Nat.{ℕ, zero, suc, ◌+◌, ◌-◌, ◌≤◌, ◌<◌}
use native.Mathlib.Decide.{dec_lt}
use native.Mathlib.Omega.{arith}
use borrow.Author.Tests.{lt-ltb, le-ltb, ltb-true, le-leb, leb-true, eq-eqb, eqb-true}
use lib.ListN.{length, get_or, get_or-eq_default}
use lib.Seq.{get_or-set_same}
use lib.Dec.{eqb, leb, ltb}
use Rattle.octets.specs.Counting.{count}
use Rattle.octets.specs.Octets.{byte}
use Rattle.ibft_layout.specs.Layout.{Kind, nic, target, kind_of, named_count, slot_count, extra_nics, extra_targets, extra_most, most_words}
use Rattle.ibft_table.specs.Table.{word_count, extra_words, start_at, used_at, kind_at, index_at, alike, first_slot, slot_of, seated, starts_to, start_in, present_in}
use Rattle.ibft_table.proofs.SeatLaws.{seated-length, seated-other, starts-length, starts-rest}
use Rattle.ibft_table_laws.specs.Facts.{ExtraFacts}
use Rattle.octets.proofs.CountingLaws.{clash}
use Rattle.ibft_table_laws.proofs.LayoutLaws.{nic-slot, target-slot}
use Rattle.octets.proofs.CountLaws.{count_none, count-last, count_less, count_same, count-hits, count-change, count-one}

both : (a b : Bool) → (a ≡ true → b ≡ true) → (b ≡ true → a ≡ true) → a ≡ b
both true true f g = refl
both true false f g = sym (f refl)
both false true f g = g refl
both false false f g = refl

strict : (a b : ℕ) → a ≤ b → (a ≡ b → ⊥) → a < b
strict a b h ne = elim (dec_lt a b) [ yes l ↦ l | no l ↦ absurd (ne (omega arith)) ]

nobody : (n : ℕ) → count n (λ (i : ℕ). false) ≡ 0
nobody zero = count_none (λ (i : ℕ). false)
nobody (suc n) = omega (arith, count-last n (λ (i : ℕ). false), nobody n)

first-nic : first_slot nic ≡ extra_nics
unfolding first_slot
first-nic = refl

first-target : first_slot target ≡ extra_targets
unfolding first_slot
first-target = refl

module _ (t : List ℕ) where
  -- the kind of an extra word
  kinds : (w : ℕ) → named_count ≤ w → (kind_at t w ≡ nic) ⊎ (kind_at t w ≡ target)
  unfolding kind_at
  kinds w low = go (eqb (byte t (start_at t w)) nic.id) refl
    where
      go : (b : Bool) → eqb (byte t (start_at t w)) nic.id ≡ b → (kind_at t w ≡ nic) ⊎ (kind_at t w ≡ target)
      go true e = inl (rw (le-ltb w named_count low, e))
      go false e = inr (rw (le-ltb w named_count low, e))

  -- ---- one word seated

  module _ (w : ℕ) (xs : List ℕ) where
    seated-none : used_at t w ≡ false → seated t w xs ≡ xs
    unfolding seated
    seated-none off = rw off

    seated-same : used_at t w ≡ true → slot_of t w < length xs → get_or (seated t w xs) (slot_of t w) 0 ≡ start_at t w
    unfolding seated
    seated-same on low = rw on (get_or-set_same xs (slot_of t w) (start_at t w) 0 low)

  -- ---- all of them

  -- the word of slot k, among the first e extra words
  pub record WordOf (e k : ℕ) : Type 0 where
    pub word : ℕ
    pub low : named_count ≤ word
    pub high : word < named_count + e
    pub used : used_at t word ≡ true
    pub seat : slot_of t word ≡ k
    pub start : start_at t word ≡ get_or (starts_to t e) k 0

  pub slot-word : (e k : ℕ) → named_count ≤ k → (get_or (starts_to t e) k 0 ≡ 0 → ⊥) → WordOf e k
  unfolding starts_to
  slot-word zero k h ne = absurd (ne (starts-rest t k h))
  slot-word (suc e) k h ne = go (slot-word e k h) (used_at t (named_count + e)) refl
    where
      more : ((get_or (starts_to t e) k 0 ≡ 0 → ⊥) → WordOf e k) → get_or (seated t (named_count + e) (starts_to t e)) k 0 ≡ get_or (starts_to t e) k 0 → WordOf (suc e) k
      more before same =
          let b = before (λ z. ne (same ∙ z)) in
          let high = b.high in
          record { word = b.word; low = b.low; high = omega arith; used = b.used; seat = b.seat; start = b.start ∙ sym same }

      here : used_at t (named_count + e) ≡ true → slot_of t (named_count + e) ≡ k → WordOf (suc e) k
      here on is =
          elim (dec_lt k slot_count) [
            | yes l ↦
                let same = seated-same (named_count + e) (starts_to t e) on (omega (arith, starts-length t e)) in
                record {
                  word = named_count + e;
                  low = omega arith;
                  high = omega arith;
                  used = on;
                  seat = is;
                  start = sym same ∙ ap (λ (i : ℕ). get_or (seated t (named_count + e) (starts_to t e)) i 0) is;
                }
            | no l ↦
                let long : length (seated t (named_count + e) (starts_to t e)) ≤ k =
                omega (arith, seated-length t (named_count + e) (starts_to t e), starts-length t e) in
                absurd (ne (get_or-eq_default (seated t (named_count + e) (starts_to t e)) 0 long))
          ]

      go : ((get_or (starts_to t e) k 0 ≡ 0 → ⊥) → WordOf e k) → (b : Bool) → used_at t (named_count + e) ≡ b → WordOf (suc e) k
      go before false off = more before (ap (λ (l : List ℕ). get_or l k 0) (seated-none (named_count + e) (starts_to t e) off))
      go before true on =
          elim (dec_lt k (slot_of t (named_count + e))) [
            | yes l ↦ more before (seated-other t (named_count + e) (starts_to t e) k (λ z. omega arith))
            | no l ↦ elim (dec_lt (slot_of t (named_count + e)) k) [
              | yes m ↦ more before (seated-other t (named_count + e) (starts_to t e) k (λ z. omega arith))
              | no m ↦ here on (omega arith)
            ]
          ]

  -- ---- extras of one kind by Index

  and_one : (a b : Bool) → a && b ≡ true → (a ≡ true) × (b ≡ true)
  and_one true b h = (refl, h)
  and_one false b h = absurd (let z : ◌≡◌ {A = ℕ} 0 1 = cc in omega arith)

  -- being of the kind of w is being of the kind of v, where these are of one kind
  alike_same : (v w u : ℕ) → (kind_at t v).id ≡ (kind_at t w).id → alike t v u ≡ alike t w u
  unfolding alike
  alike_same v w u same = ap (λ (i : ℕ). leb named_count u && (used_at t u && eqb (kind_at t u).id i)) same

  alike_self : (v : ℕ) → named_count ≤ v → used_at t v ≡ true → alike t v v ≡ true
  unfolding alike
  alike_self v low on = rw (le-leb named_count v low, on) (eq-eqb (kind_at t v).id (kind_at t v).id refl)

  pub slot-lower : (v w : ℕ) → v < word_count t → named_count ≤ v → used_at t v ≡ true
      → kind_at t v ≡ kind_at t w → index_at t v < index_at t w → slot_of t v < slot_of t w
  unfolding slot_of
  slot-lower v w hv low on same less =
      let first : first_slot (kind_at t v) ≡ first_slot (kind_at t w) = ap first_slot same in
      let id : (kind_at t v).id ≡ (kind_at t w).id = ap (λ (k : Kind). k.id) same in
      let mine : alike t v v ≡ true = alike_self v low on in
      let fewer =
      count_less (word_count t)
      (λ (u : ℕ). alike t v u && ltb (index_at t u) (index_at t v))
      (λ (u : ℕ). alike t w u && ltb (index_at t u) (index_at t w))
      (λ u l h.
      let a = and_one (alike t v u) (ltb (index_at t u) (index_at t v)) h in
      let lower = ltb-true (index_at t u) (index_at t v) a.1 in
      let yes-kind : alike t w u ≡ true = sym (alike_same v w u id) ∙ a.0 in
      let yes-index : ltb (index_at t u) (index_at t w) ≡ true = lt-ltb (index_at t u) (index_at t w) (omega arith) in
      rw (yes-kind, yes-index))
      v hv
      (let no_index : ltb (index_at t v) (index_at t v) ≡ false = le-ltb (index_at t v) (index_at t v) (omega arith) in rw (mine, no_index))
      (let yes-kind : alike t w v ≡ true = sym (alike_same v w v id) ∙ mine in
      let yes-index : ltb (index_at t v) (index_at t w) ≡ true = lt-ltb (index_at t v) (index_at t w) less in
      rw (yes-kind, yes-index)) in
      omega (arith, first, fewer)

  -- ---- at most as many extras as extra words

  pub extras-fit : (e : ℕ) → count most_words (λ (i : ℕ). present_in (starts_to t e) (named_count + i)) ≤ e
  unfolding starts_to present_in start_in
  extras-fit zero = omega (
    arith,
    count_same most_words (λ (i : ℕ). not (eqb (get_or (starts_to t 0) (named_count + i) 0) 0))
        (λ (i : ℕ). false) (λ i l. ap (λ (s : ℕ). not (eqb s 0)) (starts-rest t (named_count + i) (omega arith))),
    nobody most_words,
  )
  extras-fit (suc e) =
      omega (
        arith,
        extras-fit e,
        count-change most_words
            (λ (i : ℕ). not (eqb (get_or (seated t (named_count + e) (starts_to t e)) (named_count + i) 0) 0))
            (λ (i : ℕ). not (eqb (get_or (starts_to t e) (named_count + i) 0) 0))
            (slot_of t (named_count + e) - named_count)
            (λ i l ne. ap (λ (s : ℕ). not (eqb s 0)) (seated-other t (named_count + e) (starts_to t e) (named_count + i) (λ z. ne (omega arith)))),
      )

-- ---- of a table whose extra words are accepted

module _ (t : List ℕ) (extra : (w : ℕ) → named_count ≤ w → w < word_count t → used_at t w ≡ true → ExtraFacts t w) where
  unfoldable pub rank : ℕ → ℕ
  rank w = count (word_count t) (λ (v : ℕ). alike t w v && ltb (index_at t v) (index_at t w))

  record Alike (w k : ℕ) : Type 0 where
    low : named_count ≤ k
    used : used_at t k ≡ true
    id : (kind_at t k).id ≡ (kind_at t w).id

  alike_is : (w k : ℕ) → alike t w k ≡ true → Alike w k
  unfolding alike
  alike_is w k h =
      let a = and_one t (leb named_count k) _ h in
      let b = and_one t (used_at t k) _ a.1 in
      record { low = leb-true named_count k a.0; used = b.0; id = eqb-true (kind_at t k).id (kind_at t w).id b.1 }

  kind-few : (w : ℕ) → count (word_count t) (alike t w) ≤ extra_most
  kind-few w =
      count-hits (word_count t) (alike t w) extra_most
      (λ k l h.
      let a = alike_is w k h in
      omega (arith, (extra k a.low l a.used).few, count_same k (alike t w) (alike t k) (λ u m. sym (alike_same t k w u a.id))))

  -- an extra word in use
  pub record Extra (w : ℕ) : Type 0 where
    pub low : named_count ≤ w
    pub high : w < word_count t
    pub used : used_at t w ≡ true

  rank-few : (w : ℕ) → Extra w → rank w < extra_most
  unfolding rank
  rank-few w x =
      let fewer =
      count_less (word_count t) (λ (v : ℕ). alike t w v && ltb (index_at t v) (index_at t w)) (alike t w)
      (λ k l h. (and_one t (alike t w k) _ h).0) w x.high
      (let off : ltb (index_at t w) (index_at t w) ≡ false = le-ltb (index_at t w) (index_at t w) (omega arith) in rw (alike_self t w x.low x.used, off))
      (alike_self t w x.low x.used) in
      omega (arith, fewer, kind-few w)

  -- its kind, and where its slot lies
  record Nic (w : ℕ) : Type 0 where
    kind : kind_at t w ≡ nic
    slot : slot_of t w ≡ extra_nics + rank w

  record Target (w : ℕ) : Type 0 where
    kind : kind_at t w ≡ target
    slot : slot_of t w ≡ extra_targets + rank w

  either : (w : ℕ) → Extra w → Nic w ⊎ Target w
  unfolding slot_of rank
  either w x = go (kinds t w x.low)
    where
      go : (kind_at t w ≡ nic) ⊎ (kind_at t w ≡ target) → Nic w ⊎ Target w
      go (inl e) = inl (record { kind = e; slot = ap (λ (f : ℕ). f + rank w) (ap first_slot e ∙ first-nic) })
      go (inr e) = inr (record { kind = e; slot = ap (λ (f : ℕ). f + rank w) (ap first_slot e ∙ first-target) })

  pub slot-below : (w : ℕ) → Extra w → slot_of t w < slot_count
  slot-below w x = ⊎_elim (λ n. omega (arith, n.slot, rank-few w x)) (λ n. omega (arith, n.slot, rank-few w x)) (either w x)

  pub slot-kind : (w : ℕ) → Extra w → kind_of (slot_of t w) ≡ kind_at t w
  slot-kind w x =
      ⊎_elim (λ n. ap kind_of n.slot ∙ nic-slot (rank w) (rank-few w x) ∙ sym n.kind)
      (λ n. ap kind_of n.slot ∙ target-slot (rank w) (rank-few w x) ∙ sym n.kind) (either w x)

  -- ---- each its own slot

  alike-yes : (w v : ℕ) → Extra v → kind_at t v ≡ kind_at t w → alike t w v ≡ true
  alike-yes w v x same = sym (alike_same t v w v (ap (λ (k : Kind). k.id) same)) ∙ alike_self t v x.low x.used

  index-once : (v w : ℕ) → Extra v → Extra w → (v ≡ w → ⊥) → kind_at t v ≡ kind_at t w → index_at t v ≡ index_at t w → ⊥
  index-once v w x y ne same e =
      elim (dec_lt v w) [
        | yes l ↦ (extra w y.low y.high y.used).own-index v l (alike-yes w v x same) e
        | no l ↦ (extra v x.low x.high x.used).own-index w (omega arith) (alike-yes v w y (sym same)) (sym e)
      ]

  pub slot-once : (v w : ℕ) → Extra v → Extra w → (v ≡ w → ⊥) → slot_of t v ≡ slot_of t w → ⊥
  slot-once v w x y ne e =
      ⊎_elim
      (λ a. ⊎_elim (λ b. same (a.kind ∙ sym b.kind)) (λ b. omega (arith, a.slot, b.slot, rank-few v x)) (either w y))
      (λ a. ⊎_elim (λ b. omega (arith, a.slot, b.slot, rank-few w y)) (λ b. same (a.kind ∙ sym b.kind)) (either w y))
      (either v x)
    where
      same : kind_at t v ≡ kind_at t w → ⊥
      same k =
          elim (dec_lt (index_at t v) (index_at t w)) [
            | yes l ↦ omega (arith, slot-lower t v w x.high x.low x.used k l)
            | no l ↦ elim (dec_lt (index_at t w) (index_at t v)) [
              | yes m ↦ omega (arith, slot-lower t w v y.high y.low y.used (sym k) m)
              | no m ↦ index-once v w x y ne k (omega arith)
            ]
          ]

  pub word-slot : (e w : ℕ) → e ≤ extra_words t → Extra w → w < named_count + e → get_or (starts_to t e) (slot_of t w) 0 ≡ start_at t w
  unfolding starts_to word_count
  word-slot zero w le x l = absurd (omega (arith, x.low))
  word-slot (suc e) w le x l =
      elim (dec_lt w (named_count + e)) [
        | yes m ↦ still (used_at t (named_count + e)) refl (word-slot e w (omega arith) x m) m
        | no m ↦ here (omega arith)
      ]
    where
      still : (b : Bool) → used_at t (named_count + e) ≡ b → get_or (starts_to t e) (slot_of t w) 0 ≡ start_at t w → w < named_count + e
          → get_or (seated t (named_count + e) (starts_to t e)) (slot_of t w) 0 ≡ start_at t w
      still false off before m = ap (λ (l : List ℕ). get_or l (slot_of t w) 0) (seated-none t (named_count + e) (starts_to t e) off) ∙ before
      still true on before m =
          seated-other t (named_count + e) (starts_to t e) (slot_of t w)
          (λ z. slot-once w (named_count + e) x (record { low = omega arith; high = omega arith; used = on }) (λ q. omega arith) z)
          ∙ before

      here : w ≡ named_count + e → get_or (seated t (named_count + e) (starts_to t e)) (slot_of t w) 0 ≡ start_at t w
      here z =
          ap (λ (v : ℕ). get_or (seated t v (starts_to t e)) (slot_of t w) 0) (sym z)
          ∙ seated-same t w (starts_to t e) x.used (omega (arith, slot-below w x, starts-length t e))

  -- ---- no gaps

  -- of the words below n that pass, one with the greatest Index
  record Most (n : ℕ) (p : ℕ → Bool) : Type 0 where
    word : ℕ
    below : word < n
    here : p word ≡ true
    top : (u : ℕ) → u < n → p u ≡ true → index_at t u ≤ index_at t word

  most : (n : ℕ) (p : ℕ → Bool) → ((u : ℕ) → u < n → p u ≡ false) ⊎ Most n p
  most zero p = inl (λ u l. absurd (omega arith))
  most (suc n) p = go (p n) refl (most n p)
    where
      go : (b : Bool) → p n ≡ b → ((u : ℕ) → u < n → p u ≡ false) ⊎ Most n p → ((u : ℕ) → u < suc n → p u ≡ false) ⊎ Most (suc n) p
      go false e (inl none) = inl (λ u l. elim (dec_lt u n) [ yes m ↦ none u m | no m ↦ ap p (omega arith) ∙ e ])
      go false e (inr m) =
          let below = m.below in
          inr (record {
            word = m.word;
            below = omega arith;
            here = m.here;
            top = λ u l h. elim (dec_lt u n) [ yes q ↦ m.top u q h | no q ↦ clash h (ap p (omega arith) ∙ e) ];
          })
      go true e (inl none) = inr (record {
        word = n;
        below = omega arith;
        here = e;
        top = λ u l h. elim (dec_lt u n) [ yes q ↦ clash h (none u q) | no q ↦ let z : u ≡ n = omega arith in omega (arith, ap (index_at t) z) ];
      })
      go true e (inr m) =
          let below = m.below in
          elim (dec_lt (index_at t m.word) (index_at t n)) [
            | yes less ↦ inr (record {
              word = n;
              below = omega arith;
              here = e;
              top = λ u l h. elim (dec_lt u n) [ yes q ↦ omega (arith, m.top u q h) | no q ↦ let z : u ≡ n = omega arith in omega (arith, ap (index_at t) z) ];
            })
            | no less ↦ inr (record {
              word = m.word;
              below = omega arith;
              here = m.here;
              top = λ u l h. elim (dec_lt u n) [ yes q ↦ m.top u q h | no q ↦ let z : u ≡ n = omega arith in omega (arith, ap (index_at t) z) ];
            })
          ]

  -- extras of one ID are of one kind
  kind-by-id : (v w : ℕ) → named_count ≤ v → named_count ≤ w → (kind_at t v).id ≡ (kind_at t w).id → kind_at t v ≡ kind_at t w
  kind-by-id v w lv lw e =
      ⊎_elim
      (λ a. ⊎_elim (λ b. a ∙ sym b) (λ b. absurd (omega (arith, ap (λ (k : Kind). k.id) a, ap (λ (k : Kind). k.id) b))) (kinds t w lw))
      (λ a. ⊎_elim (λ b. absurd (omega (arith, ap (λ (k : Kind). k.id) a, ap (λ (k : Kind). k.id) b))) (λ b. a ∙ sym b) (kinds t w lw))
      (kinds t v lv)

  -- the extra right before w in its kind
  pub record Before (w r : ℕ) : Type 0 where
    pub word : ℕ
    pub is : Extra word
    pub kind : kind_at t word ≡ kind_at t w
    pub lower : index_at t word < index_at t w
    pub ranked : rank word ≡ r

  pub no_gap : (w r : ℕ) → Extra w → rank w ≡ suc r → Before w r
  unfolding rank
  no_gap w r x ranked = go (most (word_count t) lower)
    where
      lower : ℕ → Bool
      lower u = alike t w u && ltb (index_at t u) (index_at t w)

      go : ((u : ℕ) → u < word_count t → lower u ≡ false) ⊎ Most (word_count t) lower → Before w r
      go (inl none) = absurd (omega (arith, ranked, count_same (word_count t) lower (λ (u : ℕ). false) none, nobody (word_count t)))
      go (inr m) =
          let v : ℕ = m.word in
          let a = and_one t (alike t w v) _ m.here in
          let k = alike_is w v a.0 in
          let y : Extra v = record { low = k.low; high = m.below; used = k.used } in
          let same : kind_at t v ≡ kind_at t w = kind-by-id v w k.low x.low k.id in
          let less = ltb-true (index_at t v) (index_at t w) a.1 in
          let one =
          count-one (word_count t) lower (λ (u : ℕ). alike t v u && ltb (index_at t u) (index_at t v)) v m.below m.here
          (let off : ltb (index_at t v) (index_at t v) ≡ false = le-ltb (index_at t v) (index_at t v) (omega arith) in rw (alike_self t v k.low k.used, off))
          (λ u l ne. both (lower u) _
          (λ h.
          let b = and_one t (alike t w u) _ h in
          let q = alike_is w u b.0 in
          let z : Extra u = record { low = q.low; high = l; used = q.used } in
          let kinds-same : kind_at t u ≡ kind_at t v = kind-by-id u w q.low x.low q.id ∙ sym same in
          let least = m.top u l h in
          let differ = index-once u v z y ne kinds-same in
          let yes-kind : alike t v u ≡ true = alike-yes v u z kinds-same in
          let yes-index : ltb (index_at t u) (index_at t v) ≡ true = lt-ltb (index_at t u) (index_at t v) (strict (index_at t u) (index_at t v) least differ) in
          rw (yes-kind, yes-index))
          (λ h.
          let b = and_one t (alike t v u) _ h in
          let yes-kind : alike t w u ≡ true = sym (alike_same t v w u k.id) ∙ b.0 in
          let below = ltb-true (index_at t u) (index_at t v) b.1 in
          let yes-index : ltb (index_at t u) (index_at t w) ≡ true = lt-ltb (index_at t u) (index_at t w) (omega arith) in
          rw (yes-kind, yes-index))) in
          record { word = v; is = y; kind = same; lower = less; ranked = omega (arith, one, ranked) }
