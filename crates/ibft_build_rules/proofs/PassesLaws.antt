-- A built table passes the check: the facts of an accepted table hold of it, whatever bytes are lent behind the table.
--     header-facts, control-facts, word-facts, apart, entry-facts     each group of facts
--     begins-passes     a list that begins with the table
--     passes            the table, with any bytes behind it
-- Assumes nothing.
use mathlib.Core.Path.{◌≡◌, refl, sym, ap, ap₂, ◌∙◌}
use mathlib.Core.Logic.{◌⊎◌, inl, inr, ⊎_elim}
use mathlib.Core.Bool.{true}
use mathlib.Core.List.{List, ◌++◌}
use Prim.Native.Nat.{ℕ, ◌+◌, ◌-◌, ◌%◌, ◌≤◌, ◌<◌}
use native.Mathlib.Omega.{arith}
use native.Mathlib.Decide.{dec_lt}
use borrow.Author.Tests.{lt-ltb, le-ltb, ltb-false, not-false}
use lib.ListN.{length, take}
use lib.Bits.{bit_and}
use Rattle.octets.specs.Octets.{byte, word16, sum}
use Rattle.octets.proofs.TestLaws.{and-other, differs-no}
use Rattle.hostname.specs.Hostname.{is_host_name}
use Rattle.ibft_layout.specs.Layout.{Kind, control, entry_count, named_count, extra_nics, opened, slot_at, kind_of, chap_at, string_of}
use Rattle.ibft_layout.specs.Layout.{ibft_signature, control_at, least_length}
use Rattle.ibft_table.specs.Table.{word_count, start_at, used_at, kind_at, index_at, start_of, size_of, offset_of, holds_entry}
use Rattle.table_header.specs.Header.{padded}
use Rattle.ibft_table.specs.Check.{reserved_set, check_of}
use Rattle.ibft_table.specs.Record.{Content}
use Rattle.table_header.specs.Verdict.{Accepted}
use Rattle.ibft_table_laws.specs.Facts.{HeaderFacts, ControlFacts, WordFacts, EntryFacts, Apart}
use Rattle.ibft_table_laws.proofs.SeatBackLaws.{extra-back}
use Rattle.ibft_build_rules.proofs.WordsBackLaws.{seat-high}
use Rattle.ibft_table_laws.proofs.AcceptedLaws.{facts-accepted}
use Rattle.ibft_build_rules.specs.Plan.{offset_built}
use Rattle.ibft_build_rules.specs.TableBytes.{table_of}
use Rattle.ibft_build_rules.proofs.GoodContent.{Good}
use Rattle.ibft_build_rules.proofs.PlanLaws.{present-some, start-aligned, start-least, starts-disjoint, length-least}
use Rattle.ibft_build_rules.proofs.BuiltLaws.{WordIs, named-is, extra-is, words_are, control-end, used-present, word-ends, laid}
use Rattle.ibft_build_rules.proofs.BuiltLaws.{Begins, begins-append, begins-long, sums-back, signature-back, length_back}
use Rattle.ibft_build_rules.proofs.BuiltLaws.{revision-back, oem-id-back, oem-table-id-back, control-id-back, control-version-back}
use Rattle.ibft_build_rules.proofs.BuiltLaws.{control-length-back, control-index-back, control-flags-back, extensions-back}
use Rattle.ibft_build_rules.proofs.BuiltLaws.{start_back, structure-inside, id-back, version-back, structure-length-back, index_back}
use Rattle.ibft_build_rules.proofs.BuiltLaws.{flags-back, chap-back, holds-back, heap-back, entry-size-back, entry-offset-back}
use Rattle.ibft_build_rules.proofs.BuiltLaws.{entry-stands, entry-back}

module _ (c : Content) (good : Good c) (t : List ℕ) (front : Begins c t) where
  header-facts : HeaderFacts ibft_signature control_at least_length t
  header-facts =
      let fits = begins-long c good t front in
      let least = length-least c in
      let is = length_back c good t front in
      record {
        lent = omega arith;
        signed = signature-back c good t front;
        long = omega arith;
        whole = omega arith;
        sums = ap (λ (l : ℕ). sum (take l t) % 256) is ∙ sums-back c good t front;
        revision = revision-back c good t front;
        oem-id = ap padded (oem-id-back c good t front) ∙ good.oem-id-padded;
        oem-table-id = ap padded (oem-table-id-back c good t front) ∙ good.oem-table-id-padded;
      }

  control-facts : ControlFacts t
  unfolding reserved_set
  control-facts =
      let long = control-length-back c good t front in
      let nics = good.extras.nics in
      let targets = good.extras.targets in
      record {
        id = control-id-back c good t front;
        version = control-version-back c good t front;
        index_is = control-index-back c good t front;
        long = omega arith;
        short = omega arith;
        even = omega arith;
        inside = omega (arith, control-end c good t front, length-least c, length_back c good t front);
        reserved = ap (λ (f : ℕ). bit_and f control.reserved) (control-flags-back c good t front)
            ∙ differs-no (bit_and c.flags control.reserved) 0 good.control-flags;
        extensions = extensions-back c good t front;
      }

  -- ---- slots

  -- the structure of word w, which is that of slot k
  word_of : (w k : ℕ) → WordIs c good t front w k → (byte t (start_at t w + 4) ≡ index_at t w) → used_at t w ≡ true → WordFacts t w
  unfolding reserved_set
  word_of w k x indexed used =
      let h = x.slot in
      let on = used-present c good t front w k x used in
      let v = present-some (c.structure k) on in
      let b = v.0 in
      let is = v.1 in
      let start : start_of t k ≡ start_at t w = start_back c good t front k h ∙ sym x.start in
      let kind : kind_of k ≡ kind_at t w = sym x.kind in
      let body = good.body k b h is in
      record {
        aligned = ap (λ (q : ℕ). q % 8) x.start ∙ start-aligned c k on;
        least = omega (arith, x.start, start-least c k on, control-end c good t front);
        inside = omega (
          arith,
          length_back c good t front,
          word-ends c good t front w k x,
          start_back c good t front k h,
          structure-inside c good t front k h b is,
        );
        starts = record {
          id = ap (byte t) (sym start) ∙ id-back c good t front k h b is ∙ ap (λ (y : Kind). y.id) kind;
          version = ap (λ (q : ℕ). byte t (q + 1)) (sym start) ∙ version-back c good t front k h b is ∙ ap (λ (y : Kind). y.version) kind;
          length-is = ap (λ (q : ℕ). word16 t (q + 2)) (sym start) ∙ structure-length-back c good t front k h b is ∙ ap (λ (y : Kind). y.length) kind;
          index_is = indexed;
          reserved = ap₂ (λ (q : ℕ) (y : Kind). bit_and (byte t (q + 5)) y.reserved) (sym start) (sym kind)
              ∙ ap (λ (f : ℕ). bit_and f (kind_of k).reserved) (flags-back c good t front k h b is)
              ∙ differs-no (bit_and (byte b 0) (kind_of k).reserved) 0 body.body-flags;
        };
        chap = λ has.
            let own : (kind_of k).chap ≡ true = ap (λ (y : Kind). y.chap) kind ∙ has in
            omega (
              arith,
              ap (λ (q : ℕ). byte t (q + chap_at)) start,
              chap-back c good t front k h b is own,
              ltb-false 2 (byte b (chap_at - 5)) (and-other (kind_of k).chap _ body.body-chap own),
            );
      }

  named-index : (w : ℕ) → w < named_count → used_at t w ≡ true → byte t (start_at t w + 4) ≡ index_at t w
  unfolding index_at
  named-index w l used =
      let x = named-is c good t front w l in
      let v = present-some (c.structure w) (used-present c good t front w w x used) in
      rw (lt-ltb w named_count l)
      (ap (λ (q : ℕ). byte t (q + 4)) (x.start ∙ sym (start_back c good t front w x.slot))
      ∙ index_back c good t front w x.slot v.0 v.1 ∙ good.named w l)

  extra-index : (w : ℕ) → named_count ≤ w → byte t (start_at t w + 4) ≡ index_at t w
  unfolding index_at
  extra-index w l = rw (le-ltb w named_count l)

  within : (w : ℕ) → w < word_count t → w < named_count + (good.nics + good.targets)
  within w h = omega (arith, words_are c good t front)

  word-facts : (w : ℕ) → w < word_count t → used_at t w ≡ true → WordFacts t w
  word-facts w h used =
      elim (dec_lt w named_count) [
        | yes l ↦ word_of w w (named-is c good t front w l) (named-index w l used) used
        | no l ↦ word_of w (slot_at good.nics w) (extra-is c good t front w (omega arith) (within w h)) (extra-index w (omega arith)) used
      ]

  -- the slot of word w
  slot_of : (w : ℕ) → w < word_count t → (k : ℕ) × (WordIs c good t front w k)
      × (((k ≡ w) × (w < named_count)) ⊎ ((k ≡ slot_at good.nics w) × (named_count ≤ w)))
  slot_of w h =
      elim (dec_lt w named_count) [
        | yes l ↦ (w, named-is c good t front w l, inl (refl, l))
        | no l ↦ (slot_at good.nics w, extra-is c good t front w (omega arith) (within w h), inr (refl, omega arith))
      ]

  seats-differ : (v w : ℕ) → named_count ≤ v → v < w → w < word_count t → slot_at good.nics v ≡ slot_at good.nics w → ⊥
  unfolding opened
  seats-differ v w l less h e =
      elim (dec_lt w (extra_nics + good.nics)) [
        | yes m ↦ omega (arith, rw (lt-ltb v (extra_nics + good.nics) (omega arith), lt-ltb w (extra_nics + good.nics) m) at e)
        | no m ↦ elim (dec_lt v (extra_nics + good.nics)) [
          | yes q ↦ omega (arith, rw (lt-ltb v (extra_nics + good.nics) q, le-ltb w (extra_nics + good.nics) (omega arith)) at e, good.extras.nics)
          | no q ↦ omega (arith, rw (le-ltb v (extra_nics + good.nics) (omega arith), le-ltb w (extra_nics + good.nics) (omega arith)) at e)
        ]
      ]

  apart : (v w : ℕ) → v < w → w < word_count t → used_at t v ≡ true → used_at t w ≡ true → Apart t v w
  apart v w l h onv onw =
      let x = slot_of v (omega arith) in
      let y = slot_of w h in
      let differ : x.0 ≡ y.0 → ⊥ =
      λ e.
      ⊎_elim
      (λ p. ⊎_elim (λ q. omega (arith, p.0, q.0, e))
      (λ q. omega (
        arith,
        p.0,
        p.1,
        q.0,
        q.1,
        e,
        (seat-high c good.nics good.targets good.extras w q.1 (within w h)).0,
      )) y.2)
      (λ p. ⊎_elim (λ q. omega (arith, p.1, q.1)) (λ q. seats-differ v w p.1 l h (sym p.0 ∙ e ∙ q.0)) y.2)
      x.2 in
      let ex = word-ends c good t front v x.0 x.1 in
      let ey = word-ends c good t front w y.0 y.1 in
      let sx = x.1.start in
      let sy = y.1.start in
      ⊎_elim (λ z. inl (omega (arith, z))) (λ z. inr (omega (arith, z)))
      (starts-disjoint c x.0 y.0 x.1.slot y.1.slot differ (used-present c good t front v x.0 x.1 onv)
      (used-present c good t front w y.0 y.1 onw))

  -- ---- entries

  entry-facts : (n : ℕ) → n < entry_count → holds_entry t n ≡ true → EntryFacts t n
  entry-facts n h there =
      let w = present-some (c.entry n) (sym (holds-back c good t front n h) ∙ there) in
      let a = w.0 in
      let is = w.1 in
      let stands = entry-stands c good t front n h a is in
      let offset = entry-offset-back c good t front n h a is in
      let size = entry-size-back c good t front n h a is in
      let long = length_back c good t front in
      let heap = heap-back c good t front in
      let low = stands.low in
      let high = stands.high in
      let e = good.entry n a h is in
      let place : offset_of t n + size_of t n ≡ offset_built c n + length a = omega arith in
      record {
        low = omega arith;
        high = omega arith;
        ends = ap (byte t) place ∙ stands.ends;
        longest = omega (arith, e.not-long);
        host = λ needs. ap is_host_name (entry-back c good t front n h a is) ∙ not-false _ (and-other (string_of n).host _ e.host-name needs);
      }

  -- ---- all of them

  pub begins-passes : check_of t ≡ Accepted
  begins-passes =
      facts-accepted t
      (record {
        header = header-facts;
        control = control-facts;
        word = word-facts;
        extra = λ w l h on. extra-back t good.nics good.targets (laid c good t front) w l h on;
        apart = apart;
        entry = entry-facts;
      })

pub passes : (c : Content) → Good c → (rest : List ℕ) → check_of (table_of c ++ rest) ≡ Accepted
passes c good rest = begins-passes c good (table_of c ++ rest) (begins-append c good rest)
