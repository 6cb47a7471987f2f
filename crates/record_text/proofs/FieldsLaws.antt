-- Laws of the fields' data, for code that knows them number by number: past the last of a list stands its first.
--     row                                    a value by number, where the number is known
--     group-past, count_past, plain-past     past the last kind
--     count_fits                             how many fields a kind has at most
--     notation-past, place-past              past the last field of a group
--     oem-notation, control-notation, control-place     the header's fields and Control's
--     text-kind, text-entry                  only structures have strings, and which entries they are
--     secret-string, secret-plain, secret-past     the secrets are those of the layout
--     names-past, flags-none                 the names of a kind's fields and flags
--     digits-short, number-low, index-low    an Index is a byte, of three digits at most
--     index-none, index-other, index-bad, index_read     what stands behind a kind's name
--     found-no-kind, found-no-field, found-no-index, found-field, named-nothing, named-found     what a name names, as the code
--                                                                                                finds it
--     dotted-none, dotted-some, index-put-none, index-put     a name, as the code puts it
-- Assumes nothing.
use mathlib.Core.Path.{◌≡◌, refl, sym, ap, ◌∙◌}
use mathlib.Core.List.{List, [], ◌∷◌}
use mathlib.Core.Bool.{Bool, true, false, cond, not, ◌&&◌, and-false}
use Prim.Native.Char.{code}
use Prim.Native.Nat.{ℕ, zero, suc, ◌+◌, ◌-◌, ◌≤◌, ◌<◌}
use native.Mathlib.Omega.{arith}
use borrow.Author.Tests.{lt-ltb, le-ltb, ltb-false, eq-eqb, ne_eqb}
use lib.ListN.{length, get_or, take, drop, length-drop, get_or-eq_default}
use lib.Seq.{take_all}
use lib.Dec.{eqb, ltb}
use Rattle.octets.specs.Counting.{first, any, tabulate}
use Rattle.octets.specs.Octets.{part}
use Rattle.octets.proofs.CountingLaws.{any_none, tabulate-equal}
use Rattle.text.specs.Split.{before, index_of, same}
use Rattle.text.specs.Words.{word_number}
use Rattle.notation.specs.Number.{number, number_up_to, digits}
use Rattle.notation.proofs.NumberLaws.{below-some}
use Rattle.ibft_layout.specs.Layout.{field, string, may_share, first_entry}
use Rattle.record_text.specs.Fields.{
  Group,
  oem,
  control,
  groups,
  group_names,
  kind_count,
  first_structure,
  first_indexed,
  group_of,
  field_count,
  plain_count,
  notation_in,
  place_in,
  is_secret,
  index_text,
  dotted,
  told as told_index,
  index_in,
  is_digit,
  found,
  found_in,
  field_named,
}
use Rattle.record_text.specs.Computing.{computing}
use Rattle.record_text.specs.declared.fields.Notation.TheVariants.{Oem, Mode}
use Rattle.std.specs.Prelude.{Option, None, Some}
use Rattle.record_text.specs.declared.fields.FieldName.{FieldName}

pub row {ℓ} : {A : Type ℓ} (f : ℕ → A) (m n : ℕ) (r : A) → r ≡ f m → n ≡ m → r ≡ f n
row f m n r e k = e ∙ ap f (sym k)

pub group-past : (kind : ℕ) → kind_count ≤ kind → group_of kind ≡ group_of 0
unfolding group_of
group-past kind h = get_or-eq_default groups _ h

pub count_past : (kind : ℕ) → kind_count ≤ kind → field_count kind ≡ field_count 0
unfolding field_count
count_past kind h = ap (λ (g : Group). length g.layout) (group-past kind h)

-- no kind has more than 12 fields
pub count_fits : (kind : ℕ) → field_count kind ≤ 12
unfolding field_count group_of
count_fits zero = omega arith
count_fits (suc zero) = omega arith
count_fits (suc (suc zero)) = omega arith
count_fits (suc (suc (suc zero))) = omega arith
count_fits (suc (suc (suc (suc zero)))) = omega arith
count_fits (suc (suc (suc (suc (suc kind))))) = omega arith

pub plain-past : (kind : ℕ) → kind_count ≤ kind → plain_count kind ≡ plain_count 0
unfolding plain_count field_count
plain-past kind h = ap (λ (g : Group). length g.layout - length g.strings) (group-past kind h)

-- the first of a list, whatever stands for it where there is none
first-own {ℓ} : {A : Type ℓ} (xs : List A) (x : A) → get_or xs 0 x ≡ get_or xs 0 (get_or xs 0 x)
first-own [] x = refl
first-own (y ∷ ys) x = refl

pub notation-past : (group : Group) (n : ℕ) → length group.notations ≤ n → notation_in group n ≡ notation_in group 0
unfolding notation_in
notation-past group n h = get_or-eq_default group.notations _ h ∙ first-own group.notations _

pub place-past : (group : Group) (n : ℕ) → length group.layout ≤ n → place_in group n ≡ place_in group 0
unfolding place_in
place-past group n h = get_or-eq_default group.layout _ h ∙ first-own group.layout _

-- the notation of every field of the header and of Control, and the place of Control's one
pub oem-notation : (n : ℕ) → Oem ≡ notation_in oem n
unfolding notation_in
oem-notation zero = refl
oem-notation (suc zero) = refl
oem-notation (suc (suc n)) = refl

pub control-notation : (n : ℕ) → Mode ≡ notation_in control n
unfolding notation_in
control-notation zero = refl
control-notation (suc n) = refl

pub control-place : (n : ℕ) → field 14 1 ≡ place_in control n
unfolding place_in
control-place zero = refl
control-place (suc n) = refl

-- ---- strings

-- only structures have strings
pub text-kind : (kind n : ℕ) → plain_count kind ≤ n → n < field_count kind → first_structure ≤ kind
unfolding plain_count field_count group_of
text-kind zero n h l = absurd (omega arith)
text-kind (suc zero) n h l = absurd (omega arith)
text-kind (suc (suc kind)) n h l = omega arith

-- the first entry of the slots that stand for the kinds
pub text-entry : (kind n : ℕ) → plain_count kind ≤ n → n < field_count kind → first_entry (kind - first_structure) ≤ 2
unfolding computing
text-entry zero n h l = absurd (omega arith)
text-entry (suc zero) n h l = absurd (omega arith)
text-entry (suc (suc zero)) n h l = omega arith
text-entry (suc (suc (suc zero))) n h l = omega arith
text-entry (suc (suc (suc (suc zero)))) n h l = omega arith
text-entry (suc (suc (suc (suc (suc kind))))) n h l = absurd (omega arith)

-- the secrets are those of the layout's strings
initiator-secrets : tabulate (λ (j : ℕ). not (may_share (first_entry 0 + j))) 0 1 ≡ tabulate (λ (j : ℕ). is_secret 2 (plain_count 2 + j)) 0 1
unfolding computing
initiator-secrets = refl

nic-secrets : tabulate (λ (j : ℕ). not (may_share (first_entry 1 + j))) 0 1 ≡ tabulate (λ (j : ℕ). is_secret 3 (plain_count 3 + j)) 0 1
unfolding computing
nic-secrets = refl

target-secrets : tabulate (λ (j : ℕ). not (may_share (first_entry 2 + j))) 0 5 ≡ tabulate (λ (j : ℕ). is_secret 4 (plain_count 4 + j)) 0 5
unfolding computing
target-secrets = refl

secret-at : (kind n count : ℕ)
    → tabulate (λ (j : ℕ). not (may_share (first_entry (kind - first_structure) + j))) 0 count ≡ tabulate (λ (j : ℕ). is_secret kind (plain_count kind + j)) 0 count
    → plain_count kind ≤ n → n < plain_count kind + count
    → not (may_share (first_entry (kind - first_structure) + (n - plain_count kind))) ≡ is_secret kind n
secret-at kind n count e h l =
    let same : plain_count kind + (n - plain_count kind) ≡ n = omega arith in
    tabulate-equal _ (λ (j : ℕ). is_secret kind (plain_count kind + j)) count e (n - plain_count kind) (omega arith) ∙ ap (is_secret kind) same

pub secret-string : (kind n : ℕ) → plain_count kind ≤ n → n < field_count kind
    → not (may_share (first_entry (kind - first_structure) + (n - plain_count kind))) ≡ is_secret kind n
unfolding plain_count field_count group_of
secret-string zero n h l = absurd (omega arith)
secret-string (suc zero) n h l = absurd (omega arith)
secret-string (suc (suc zero)) n h l = secret-at 2 n 1 initiator-secrets h l
secret-string (suc (suc (suc zero))) n h l = secret-at 3 n 1 nic-secrets h l
secret-string (suc (suc (suc (suc zero)))) n h l = secret-at 4 n 5 target-secrets h l
secret-string (suc (suc (suc (suc (suc kind))))) n h l = absurd (omega arith)

pub secret-plain : (kind n : ℕ) → n < plain_count kind → false ≡ is_secret kind n
unfolding is_secret
secret-plain kind n h = rw (lt-ltb n (plain_count kind) h)

-- past the last field of a kind is no secret
strings-fit : (kind : ℕ) → length (group_of kind).strings ≤ field_count kind
unfolding field_count group_of
strings-fit zero = omega arith
strings-fit (suc zero) = omega arith
strings-fit (suc (suc zero)) = omega arith
strings-fit (suc (suc (suc zero))) = omega arith
strings-fit (suc (suc (suc (suc zero)))) = omega arith
strings-fit (suc (suc (suc (suc (suc kind))))) = omega arith

no-string : (kind n : ℕ) → field_count kind ≤ n → length (group_of kind).strings ≤ n - plain_count kind
unfolding plain_count
no-string kind n h = omega (arith, strings-fit kind)

pub secret-past : (kind n : ℕ) → field_count kind ≤ n → false ≡ is_secret kind n
unfolding is_secret
secret-past kind n h =
    let nothing : get_or (group_of kind).strings (n - plain_count kind) (string 0 0 false)
    ≡ string 0 0 false = get_or-eq_default (group_of kind).strings _ (no-string kind n h) in
    rw nothing (sym (and-false (not (ltb n (plain_count kind)))))

-- ---- names

pub names-past : (kind : ℕ) → kind_count ≤ kind → (group_of kind).names ≡ (group_of 0).names
names-past kind h = ap (λ (x : Group). x.names) (group-past kind h)

-- kinds that are no structure's have no flags
pub flags-none : (kind : ℕ) → (first_structure ≤ kind → kind_count ≤ kind) → [] ≡ (group_of kind).flags
unfolding group_of
flags-none zero past = refl
flags-none (suc zero) past = refl
flags-none (suc (suc k)) past = sym (ap (λ (x : Group). x.flags) (get_or-eq_default groups oem (past (omega arith))))

-- an Index has three digits at most
short-digits : any 256 (λ (n : ℕ). ltb 3 (length (digits 10 n))) ≡ false
unfolding computing any first
short-digits = refl

pub digits-short : (n : ℕ) → n < 256 → length (digits 10 n) ≤ 3
digits-short n h = ltb-false 3 (length (digits 10 n)) (any_none 256 (λ (n : ℕ). ltb 3 (length (digits 10 n))) short-digits n h)

-- what stands behind a kind's name
module _ (kind : ℕ) (text : List ℕ) where
  pub index-none : kind < first_indexed → length text ≡ 0 → Some 0 ≡ index_in kind text
  unfolding index_in
  index-none h e = rw (lt-ltb kind first_indexed h, eq-eqb (length text) 0 e)

  pub index-other : kind < first_indexed → (length text ≡ 0 → ⊥) → None ≡ index_in kind text
  unfolding index_in
  index-other h e = rw (lt-ltb kind first_indexed h, ne_eqb (length text) 0 e)

  module _ (h : first_indexed ≤ kind) where
    index_is : (o : Option ℕ) → number_up_to 255 text ≡ o → told_index text o ≡ index_in kind text
    unfolding index_in
    index_is o e = rw (le-ltb kind first_indexed h, e)

    pub index-bad : number_up_to 255 text ≡ None → None ≡ index_in kind text
    index-bad e = index_is None e

    -- a number that is read, told so or not
    pub index_read : (n : ℕ) (b : Bool) → number_up_to 255 text ≡ Some n → b ≡ same (digits 10 n) text → cond b (Some n) None ≡ index_in kind text
    index_read n b e is = rw is (index_is (Some n) e)

-- an Index that is read is a byte
pub number-low : (text : List ℕ) (n : ℕ) → number_up_to 255 text ≡ Some n → n < 256
number-low text n e = (below-some 256 n (number text) e).1

-- .. where it is told, too
pub index-low : (kind : ℕ) (text : List ℕ) (n : ℕ) → index_in kind text ≡ Some n → n < 256
unfolding index_in
index-low kind text n e = go (ltb kind first_indexed) e
  where
    shown : (b : Bool) (m : ℕ) → m < 256 → cond b (Some m) None ≡ Some n → n < 256
    shown true m q e = let same_number : m ≡ n = cc in omega (arith, q)
    shown false m q e = absurd (let z : ◌≡◌ {A = ℕ} 0 1 = cc in omega arith)

    told-low : (o : Option ℕ) → ((m : ℕ) → o ≡ Some m → m < 256) → told_index text o ≡ Some n → n < 256
    told-low None q e = absurd (let z : ◌≡◌ {A = ℕ} 0 1 = cc in omega arith)
    told-low (Some m) q e = shown (same (digits 10 m) text) m (q m refl) e

    go : (b : Bool) → cond b (cond (eqb (length text) 0) (Some 0) None) (told_index text (number_up_to 255 text)) ≡ Some n → n < 256
    go true e = shown (eqb (length text) 0) 0 (omega arith) e
    go false e = told-low (number_up_to 255 text) (number-low text) e

-- ---- what a name names, as the code finds it

module _ (group own : List ℕ) (letters : ℕ) (split : letters ≡ before is_digit group) (kind : ℕ) (is : kind ≡ word_number group_names (take letters group)) where
  none_found : (n : ℕ) (o : Option ℕ) → (ltb kind kind_count && ltb n (field_count kind)) ≡ false → None ≡ found kind n o
  unfolding found
  none_found n None e = refl
  none_found n (Some i) e = rw e

  pub found-no-kind : kind_count ≤ kind → None ≡ found_in group own
  unfolding found_in
  found-no-kind h = rw (← split, ← is) (none_found (word_number (group_of kind).names own) (index_in kind (drop letters group)) (rw (le-ltb kind kind_count h)))

  module _ (n : ℕ) (number : n ≡ word_number (group_of kind).names own) where
    pub found-no-field : field_count kind ≤ n → None ≡ found_in group own
    unfolding found_in
    found-no-field h =
        rw (← split, ← is, ← number)
        (none_found n (index_in kind (drop letters group)) (rw (le-ltb n (field_count kind) h) (and-false (ltb kind kind_count))))

    module _ (low : kind < kind_count) (there : n < field_count kind) (behind : List ℕ) (rest : behind ≡ part group letters (length group)) where
      found-is : (o : Option ℕ) → index_in kind behind ≡ o → found kind n o ≡ found_in group own
      unfolding found_in part
      found-is o e =
          let all : behind ≡ drop letters group = rest ∙ take_all (length group) (drop letters group) (omega (arith, length-drop letters group)) in
          rw (← split, ← is, ← number, ← all, e)

      pub found-no-index : index_in kind behind ≡ None → None ≡ found_in group own
      unfolding found
      found-no-index e = found-is None e

      pub found-field : (i : ℕ) → index_in kind behind ≡ Some i → Some (record { kind = kind; index = i; field = n }) ≡ found_in group own
      unfolding found
      found-field i e =
          let whole : found kind n (Some i) ≡ Some (record { kind = kind; index = i; field = n }) = rw
          (lt-ltb kind kind_count low, lt-ltb n (field_count kind) there) in
          sym whole ∙ found-is (Some i) e

module _ (name : List ℕ) (dot : ℕ) (first : dot ≡ index_of (code ".") name) where
  pub named-nothing : dot + 1 ≡ length name → None ≡ field_named name
  unfolding field_named
  named-nothing e = rw (← first, eq-eqb (dot + 1) (length name) e)

  pub named-found : (dot + 1 ≡ length name → ⊥) → (rest : List ℕ) (r : Option FieldName) → rest ≡ part name (dot + 1) (length name)
      → r ≡ found_in (take dot name) rest → r ≡ field_named name
  unfolding field_named part
  named-found more rest r behind e =
      let all : rest ≡ drop (dot + 1) name = behind ∙ take_all (length name) (drop (dot + 1) name) (omega (arith, length-drop (dot + 1) name)) in
      rw (← first, ne_eqb (dot + 1) (length name) more, ← all) e

-- a word of no bytes has no dot before it, any other has
pub dotted-none : (w v : List ℕ) → w ≡ v → length w ≡ 0 → w ≡ dotted v
dotted-none [] v e h = rw (← e)
dotted-none (b ∷ w) v e h = absurd (omega arith)

pub dotted-some : (w v : List ℕ) → w ≡ v → (length w ≡ 0 → ⊥) → code "." ∷ w ≡ dotted v
dotted-some [] v e h = absurd (h refl)
dotted-some (b ∷ w) v e h = rw (← e)

-- a group's Index, as the code puts it
pub index-put-none : (kind index : ℕ) → kind < first_indexed → [] ≡ index_text kind index
unfolding index_text
index-put-none kind index h = rw (lt-ltb kind first_indexed h)

pub index-put : (kind index : ℕ) → first_indexed ≤ kind → digits 10 index ≡ index_text kind index
unfolding index_text
index-put kind index h = rw (le-ltb kind first_indexed h)
