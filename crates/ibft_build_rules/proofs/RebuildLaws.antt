-- Reading and rebuilding. A rebuild of an accepted table is a build of the range that says what the table holds, with the table
-- as the range of its strings; so what the build promises, the rebuild does. And since equal records have equal tables, what
-- was rebuilt is rebuilt as it is.
--     table-built                                    what an accepted build leaves is the table of its content
--     tables-tell-records                            two records that build are equal exactly where their tables are
--     record-read, clean-accepted, read-builds       a range that says what an accepted table holds, built
--     answer-range, room-range                       a rebuild of an accepted table as a build
--     rebuilds-the-same, rebuild-promise             the promises
--     rebuild-refused                                that of a table that the check refuses
--     rebuild-placed                                 the place of a refusal keeps to 24 bits
-- Assumes nothing.
use Rattle.std.specs.Prelude.{Ok, Err}
use mathlib.Core.Path.{◌≡◌, refl, sym, ap, ◌∙◌, subst}
use mathlib.Core.Logic.{⊎_elim}
use mathlib.Core.Bool.{Bool, true, false}
use mathlib.Core.List.{List, [], ◌∷◌, ◌++◌}
use Prim.Native.Nat.{ℕ, ◌≤◌, ◌<◌, ◌^◌}
use native.Mathlib.Omega.{arith}
use lib.ListN.{length, take, drop}
use lib.Dec.{ltb}
use Rattle.octets.specs.Counting.{gather}
use Rattle.octets.specs.Octets.{byte, part}
use Rattle.ibft_layout.specs.Layout.{entry_count}
use Rattle.table_header.specs.Verdict.{refuse, first_of, refusal_of, Verdict, Accepted, Refused}
use Rattle.ibft_table.specs.Table.{starts_of, size_of, offset_of, holds_entry}
use Rattle.ibft_table.specs.Check.{check_tests, check_of}
use Rattle.ibft_table.specs.Record.{Record, Content, listed, content_of, record_of}
use Rattle.table_header.specs.declared.verdict.Refusal.{Refusal}
use Rattle.table_header.specs.Promises.{ReturnsChecksum}
use Rattle.table_header.proofs.VerdictLaws.{accepted-not-refused, accept-none, accept-cons, passes, append-accepted, append-refused}
use Rattle.table_header.proofs.VerdictLaws.{append-same, gather-passes, gather-accepts, every-none, every_append, every-gather}
use Rattle.table_header.proofs.JudgesLaws.{test_plain, plain-returns, verdict-returns}
use Rattle.ibft_table.proofs.CheckLaws.{ibft-returns}
use Rattle.ibft_table_laws.proofs.PlaceLaws.{check-numbered, place-below}
use Rattle.ibft_table_laws.proofs.RecordLaws.{table-holds-same, table-entry-same}
use Rattle.ibft_build_rules.specs.RecordRange.{content_given, record_given}
use Rattle.ibft_build_rules.specs.Refusals.{has_zero, contents_tests, contents_verdict}
use Rattle.ibft_build_rules.specs.Plan.{length_built}
use Rattle.ibft_build_rules.specs.TableBytes.{table_of}
use Rattle.ibft_build_rules.specs.Build.{build_verdict, answer_from, answer_of, room_from, room_after}
use Rattle.ibft_build_rules.specs.Rebuild.{range_of, zero_in, holds_zero, zero_tests, rebuild_verdict, rebuild_from, rebuild_answer, rebuilt_from, rebuild_room}
use Rattle.ibft_build_rules.specs.Promises.{Serves, Accepts, Room, Promise}
use Rattle.ibft_build_rules.specs.RebuildPromises.{Clean, RebuildsTheSame, table_built, TablesTellRecords, Rebuild}
use Rattle.ibft_build_rules.specs.declared.Built.{Built}
use Rattle.ibft_build_rules.proofs.GoodContent.{Good}
use Rattle.ibft_build_rules.proofs.GoodLaws.{contents-good}
use Rattle.ibft_build_rules.proofs.BuiltLaws.{begins-append}
use Rattle.ibft_build_rules.proofs.BoundLaws.{length-bound}
use Rattle.ibft_build_rules.proofs.OutcomeLaws.{Builds, outcome, answer-placed}
use Rattle.ibft_build_rules.proofs.SpreadLaws.{spread, given-spread, records-tables}
use Rattle.ibft_build_rules.proofs.ServesLaws.{serves-append}
use Rattle.ibft_build_rules.proofs.PromiseLaws.{promise}
use Rattle.ibft_build_rules.proofs.ReadsLaws.{Reads}
use Rattle.ibft_build_rules.proofs.RangeLaws.{reads}
use Rattle.ibft_build_rules.proofs.RangeVerdictLaws.{content-range, contents-range}

-- ---- two builds

module _ (r s room : List ℕ) (built : (answer_of r s (length room)).refusal.number ≡ 0) where
  -- an accepted build is the third outcome
  builds : Builds r s (length room)
  unfolding answer_of answer_from
  builds =
      ⊎_elim (λ w. absurd (w.1.numbered (number _ w.1.verdict)))
      (⊎_elim (λ w. absurd (omega (arith, number _ w.verdict))) (λ w. w))
      (outcome r s (length room))
    where
      number : (e : Refusal) → build_verdict r s (length room) ≡ Refused e → e.number ≡ 0
      number e v = sym (ap (λ (v : Verdict). (answer_from r s v).refusal.number) v) ∙ built

  good : Good (content_given r s)
  good = contents-good r s builds.contents

  pub table-built : table_built r s room ≡ table_of (content_given r s)
  unfolding answer_of answer_from room_after room_from
  table-built =
      ap (λ (v : Verdict). take (answer_from r s v).length (room_from r s room v)) builds.verdict
      ∙ begins-append (content_given r s) good (drop (length_built (content_given r s)) room)

  room-built : room_after r s room ≡ table_of (content_given r s) ++ drop (length_built (content_given r s)) room
  unfolding room_after room_from
  room-built = ap (room_from r s room) builds.verdict

  record-built : record_given r s ≡ record_of (table_of (content_given r s) ++ [])
  unfolding record_given
  record-built = sym (serves-append (content_given r s) good []).reads-back

pub tables-tell-records : TablesTellRecords
tables-tell-records r s room r' s' room' p q = (
  λ e. table-built r s room p ∙ records-tables r s r' s' e ∙ sym (table-built r' s' room' q),
  λ e.
      let same : table_of (content_given r s) ≡ table_of (content_given r' s') = sym (table-built r s room p) ∙ e ∙ table-built r' s' room' q in
      record-built r s room p ∙ ap (λ (l : List ℕ). record_of (l ++ [])) same ∙ sym (record-built r' s' room' q),
)

-- ---- a range that says what an accepted table holds: a build of it leaves the table's record

-- where the contents are not refused and the room takes the table, it is built
enough-builds : (r s : List ℕ) → contents_verdict r s ≡ Accepted → (room : List ℕ) → length_built (content_given r s) ≤ length room
    → (answer_of r s (length room)).refusal.number ≡ 0
unfolding answer_of answer_from refusal_of
enough-builds r s accepted room enough =
    ⊎_elim (λ w. accepted-not-refused accepted w.1.contents)
    (⊎_elim (λ w. absurd (omega (arith, w.short))) (λ w. ap (λ (v : Verdict). (answer_from r s v).refusal.number) w.verdict))
    (outcome r s (length room))

module _ (t r s : List ℕ) (ok : check_of t ≡ Accepted) (told : Reads t r s) where
  pub record-read : record_given r s ≡ record_of t
  unfolding record_given record_of
  record-read = ap listed (content-range t r s ok told)

  pub clean-accepted : Clean t → contents_verdict r s ≡ Accepted
  unfolding zero_tests
  clean-accepted clean =
      contents-range t r s ok told
      ∙ gather-accepts (zero_tests (starts_of t) t) entry_count 0 (λ n l h. accept-cons _ _ (clean n (omega arith)) accept-none)

  accepted-clean : contents_verdict r s ≡ Accepted → Clean t
  unfolding zero_tests
  accepted-clean e n h =
      (passes _ _ (gather-passes (zero_tests (starts_of t) t) entry_count 0 n (sym (contents-range t r s ok told) ∙ e) (omega arith) (omega arith))).0

  -- what the room then holds reads as the record
  built-reads : (room : List ℕ) (built : (answer_of r s (length room)).refusal.number ≡ 0) → record_of (room_after r s room) ≡ record_of t
  unfolding room_after room_from record_given
  built-reads room built =
      let c : Content = content_given r s in
      ap (λ (v : Verdict). record_of (room_from r s room v)) (builds r s room built).verdict
      ∙ (serves-append c (good r s room built) (drop (length_built c) room)).reads-back
      ∙ record-read

  pub read-builds : Clean t → (room : List ℕ) → length_built (content_given r s) ≤ length room
      → ((answer_of r s (length room)).refusal.number ≡ 0) × (record_of (room_after r s room) ≡ record_of t)
  read-builds clean room enough =
      let built = enough-builds r s (clean-accepted clean) room enough in
      (built, built-reads room built)

-- ---- a rebuild of an accepted table is a build of its range

module _ (t : List ℕ) (ok : check_of t ≡ Accepted) where
  told : Reads t (range_of t) t
  told = reads t ok

  content : content_given (range_of t) t ≡ content_of t
  content = content-range t (range_of t) t ok told

  contents : contents_verdict (range_of t) t ≡ first_of (gather (zero_tests (starts_of t) t) 0 entry_count)
  contents = contents-range t (range_of t) t ok told

  pub record-range : record_given (range_of t) t ≡ record_of t
  record-range = record-read t (range_of t) t ok told

  -- the content of a table is that of its record
  content-spread : content_of t ≡ spread (record_of t)
  content-spread = sym content ∙ sym (given-spread (range_of t) t) ∙ ap spread record-range

  verdict-range : (n : ℕ) → rebuild_verdict t n ≡ build_verdict (range_of t) t n
  unfolding rebuild_verdict build_verdict check_of contents_verdict
  verdict-range n =
      append-accepted (check_tests t) _ ok
      ∙ append-same (gather (zero_tests (starts_of t) t) 0 entry_count) (contents_tests (range_of t) t) _ _ (sym contents)
      (λ e. ap (λ (c : Content). first_of (refuse 21 0 (ltb n (length_built c)) ∷ [])) (sym content))

  pub answer-range : (n : ℕ) → rebuild_answer t n ≡ answer_of (range_of t) t n
  unfolding rebuild_answer rebuild_from answer_of answer_from
  answer-range n = ap (rebuild_from t) (verdict-range n) ∙ go (build_verdict (range_of t) t n)
    where
      go : (v : Verdict) → rebuild_from t v ≡ answer_from (range_of t) t v
      go (Ok u) = ap (λ (c : Content). record { refusal = refusal_of Accepted; length = length_built c }) (sym content)
      go (Err e) = refl

  pub room-range : (room : List ℕ) → rebuild_room t room ≡ room_after (range_of t) t room
  unfolding rebuild_room rebuilt_from room_after room_from
  room-range room = ap (rebuilt_from t room) (verdict-range (length room)) ∙ go (build_verdict (range_of t) t (length room))
    where
      go : (v : Verdict) → rebuilt_from t room v ≡ room_from (range_of t) t room v
      go (Ok u) = ap (λ (c : Content). table_of c ++ drop (length_built c) room) (sym content)
      go (Err e) = refl

pub rebuilds-the-same : RebuildsTheSame
rebuilds-the-same t ok clean =
    let contents = clean-accepted t (range_of t) t ok (told t ok) clean in
    record {
      reads = record-range t ok;
      builds = contents;
      enough = length-bound (content_given (range_of t) t) (contents-good (range_of t) t contents);
      rebuilt = read-builds t (range_of t) t ok (told t ok) clean;
    }

-- ---- the call

-- tables of the same record hold the same strings
clean-same : (t u : List ℕ) → record_of u ≡ record_of t → Clean t → Clean u
unfolding zero_in
clean-same t u e clean n h = go (holds_entry u n) refl
  where
    go : (b : Bool) → holds_entry u n ≡ b → holds_zero u n ≡ false
    go false off = rw off
    go true on =
        let there : holds_entry t n ≡ true = sym (table-holds-same u t e n h) ∙ on in
        let bytes = table-entry-same u t e n h on in
        let none : has_zero (part t (offset_of t n) (size_of t n)) ≡ false = rw there at (clean n h) in
        rw (on, bytes) none

-- what an accepted rebuild of t leaves in front of the room is the table of its content
module _ (t : List ℕ) (ok : check_of t ≡ Accepted) (before : List ℕ) (accepted : (rebuild_answer t (length before)).refusal.number ≡ 0) where
  built : (answer_of (range_of t) t (length before)).refusal.number ≡ 0
  built = sym (ap (λ (b : Built). b.refusal.number) (answer-range t ok (length before))) ∙ accepted

  front-is : take (rebuild_answer t (length before)).length (rebuild_room t before) ≡ table_of (content_of t)
  front-is =
      ap (λ (b : Built). take b.length (rebuild_room t before)) (answer-range t ok (length before))
      ∙ ap (take (answer_of (range_of t) t (length before)).length) (room-range t ok before)
      ∙ table-built (range_of t) t before built
      ∙ ap table_of (content t ok)

  size_is : (rebuild_answer t (length before)).length ≡ length_built (content_of t)
  unfolding answer_of answer_from
  size_is =
      ap (λ (b : Built). b.length) (answer-range t ok (length before))
      ∙ ap (λ (v : Verdict). (answer_from (range_of t) t v).length) (builds (range_of t) t before built).verdict
      ∙ ap length_built (content t ok)

  -- a table u of the same record is rebuilt as that table, in any room that takes it
  rebuilt-again : (u : List ℕ) → check_of u ≡ Accepted → record_of u ≡ record_of t → (room : List ℕ) → length_built (content_of t) ≤ length room
      → take (length_built (content_of t)) (rebuild_room u room) ≡ table_of (content_of t)
  rebuilt-again u passes e room enough =
      let clean : Clean t = accepted-clean t (range_of t) t ok (told t ok) (builds (range_of t) t before built).contents in
      let contents = clean-accepted u (range_of u) u passes (told u passes) (clean-same t u e clean) in
      let same : content_given (range_of u) u ≡ content_of t = content u passes ∙ content-spread u passes ∙ ap spread e ∙ sym (content-spread t ok) in
      let again = enough-builds (range_of u) u contents room (omega (arith, ap length_built same)) in
      let sound : Good (content_of t) = subst Good (content t ok) (good (range_of t) t before built) in
      ap (take (length_built (content_of t)))
      (room-range u passes room ∙ room-built (range_of u) u room again ∙ ap (λ (c : Content). table_of c ++ drop (length_built c) room) same)
      ∙ begins-append (content_of t) sound (drop (length_built (content_of t)) room)

-- the check refuses
module _ (t : List ℕ) (e : Refusal) (told : check_of t ≡ Refused e) where
  verdict-refused : (n : ℕ) → rebuild_verdict t n ≡ Refused e
  unfolding rebuild_verdict check_of
  verdict-refused n = append-refused (check_tests t) _ e told

  pub rebuild-refused : (before : List ℕ) → Rebuild t before (record { refusal = e; length = 0 }) before
  unfolding rebuild_answer rebuild_from rebuild_room rebuilt_from
  rebuild-refused before = record {
    answer-is = sym (ap (rebuild_from t) (verdict-refused (length before)));
    room-is = sym (ap (rebuilt_from t before) (verdict-refused (length before)));
    refused = λ h. (refl, refl);
    checksum = ibft-returns t e told;
    accepted = λ z. absurd (check-numbered t e told z);
    room = λ ok. accepted-not-refused ok told;
    settles = λ z. absurd (check-numbered t e told z);
  }

-- it accepts: what the build of its range promises
module _ (t before : List ℕ) (ok : check_of t ≡ Accepted) where
  answer : Built
  answer = rebuild_answer t (length before)

  after : List ℕ
  after = rebuild_room t before

  -- what comes behind the check has no checksum byte
  refusal_is : (v : Verdict) → refusal_of v ≡ (rebuild_from t v).refusal
  unfolding rebuild_from refusal_of
  refusal_is (Ok u) = refl
  refusal_is (Err e) = refl

  checksum-none : (n : ℕ) → ReturnsChecksum t (rebuild_answer t n).refusal
  unfolding rebuild_answer rebuild_verdict zero_tests check_of
  checksum-none n =
      subst (ReturnsChecksum t) (refusal_is (rebuild_verdict t n))
      (verdict-returns t (rebuild_verdict t n)
      (λ r e. plain-returns t
      (every_append (every-gather (zero_tests (starts_of t) t) entry_count 0 (λ i h. test_plain _ _ _ _ (λ z. omega arith) every-none))
      (test_plain _ _ _ _ (λ z. omega arith) every-none)) r
      (sym (append-accepted (check_tests t) _ ok) ∙ e)))

  accepts : Rebuild t before answer after
  unfolding answer after
  accepts =
      let p : Promise (range_of t) t before answer after = promise (range_of t) t before answer after
      (answer-range t ok (length before)) (room-range t ok before) in
      let served : answer.refusal.number ≡ 0 → Accepts (record_of t) before answer.length after =
      λ z. subst (λ (c : Record). Accepts c before answer.length after) (record-range t ok) (p.accepted z) in
      record {
        answer-is = refl;
        room-is = refl;
        refused = p.refused;
        checksum = checksum-none (length before);
        accepted = served;
        room = λ _ clean. subst (λ (c : Record). Room c (length before) answer.refusal.number) (record-range t ok)
            (p.room (clean-accepted t (range_of t) t ok (told t ok) clean));
        settles = λ z room enough.
            let w : Serves (record_of t) (take answer.length after) = (served z).serves answer.length (omega arith) in
            let size : answer.length ≡ length_built (content_of t) = size_is t ok before z in
            ap (λ (n : ℕ). take n (rebuild_room (take answer.length after) room)) size
            ∙ rebuilt-again t ok before z (take answer.length after) w.passes w.reads-back room (omega arith)
            ∙ sym (front-is t ok before z);
      }

pub rebuild-promise : (t before : List ℕ) (answer : Built) (after : List ℕ) → answer ≡ rebuild_answer t (length before) → after ≡ rebuild_room t before
    → Rebuild t before answer after
rebuild-promise t before answer after p q = go (check_of t) refl
  where
    -- the answer and the room are the definitions'
    same : {a : Built} {m : List ℕ} → Rebuild t before a m → Rebuild t before answer after
    same {a} {m} w =
        let e : a ≡ answer = w.answer-is ∙ sym p in
        let f : m ≡ after = w.room-is ∙ sym q in
        subst (λ (x : Built). Rebuild t before x after) e (subst (λ (l : List ℕ). Rebuild t before a l) f w)

    go : (v : Verdict) → check_of t ≡ v → Rebuild t before answer after
    go (Ok u) ok = same (accepts t before ok)
    go (Err e) told = same (rebuild-refused t e told before)

-- its place keeps to 24 bits, of bytes
pub rebuild-placed : (t : List ℕ) (n : ℕ) → ((i : ℕ) → byte t i < 256) → (rebuild_answer t n).refusal.place < 2 ^ 24
unfolding rebuild_answer rebuild_from
rebuild-placed t n bytes = go (check_of t) refl
  where
    go : (v : Verdict) → check_of t ≡ v → (rebuild_answer t n).refusal.place < 2 ^ 24
    go (Ok u) ok = omega (arith, answer-placed (range_of t) t n, ap (λ (b : Built). b.refusal.place) (answer-range t ok n))
    go (Err e) told =
        omega (arith, place-below t bytes e told, ap (λ (v : Verdict). (rebuild_from t v).refusal.place) (verdict-refused t e told n))
