-- Laws of the refusals, as functions and loops ask for them: a zero byte among the bytes from a place on, one image and one
-- entry from what is read of it, and the tests behind the last extra.
--     has-zero-step, has-zero-end                                the byte at that place and the rest decide; no bytes are left
--     image-off, string-off                                      nothing is refused of what is not given
--     image-reserved, image-plain, image-chap, image-pass        the verdict of an image
--     string-past, string-long, string-zero, string-plain        the verdict of an entry
--     string-alien, string-pass                                  and of one that holds a host name
--     images-end, strings-end                                    behind the limits nothing is given
-- Assumes nothing.
use mathlib.Core.Path.{◌≡◌, sym, ap, ap₂, ◌∙◌}
use mathlib.Core.Bool.{true, false, ◌||◌}
use mathlib.Core.List.{List}
use Prim.Native.Nat.{ℕ, ◌+◌, ◌-◌, ◌≤◌, ◌<◌}
use native.Mathlib.Omega.{arith}
use native.Mathlib.Numerals.{add-one}
use lib.Bits.{bit_and}
use lib.Dec.{eqb}
use lib.ListN.{length, drop, drop_of_length-le}
use lib.Seq.{drop-cons}
use borrow.Author.Tests.{lt-ltb, le-ltb, ne_eqb}
use Rattle.octets.specs.Octets.{byte, part, differs}
use Rattle.octets.specs.Counting.{gather}
use Rattle.hostname.specs.Hostname.{is_host_name}
use Rattle.ibft_layout.specs.Layout.{slot_count, entry_count, kind_of, chap_at, string_of, slot_number, entry_number}
use Rattle.ibft_layout.specs.Shapes.{shape_of, string_shape}
use Rattle.ibft_layout.specs.declared.shape.Shape.{Shape}
use Rattle.ibft_layout.specs.declared.shape.StringShape.{StringShape}
use Rattle.table_header.specs.Verdict.{Test, first_of, Accepted, Refused, refusal}
use Rattle.table_header.proofs.VerdictLaws.{Passed, gather-accepts}
use Rattle.ibft_table.specs.Check.{reserved_set}
use Rattle.ibft_build_rules.specs.RecordRange.{nics_given, image_at, structure_given, entry_given, start_given, length_given, bytes_given}
use Rattle.ibft_build_rules.specs.Refusals.{has_zero, image_tests, string_tests}
use Rattle.ibft_record.specs.Limits.{slot_limit, entry_limit}
use Rattle.ibft_record.proofs.RecordLaws.{slot-past, entry_past}

module _ (s : List ℕ) (i : ℕ) where
  pub has-zero-step : i < length s → has_zero (drop i s) ≡ (eqb (byte s i) 0 || has_zero (drop (i + 1) s))
  unfolding has_zero
  has-zero-step h = rw (drop-cons s i 0, add-one)

  pub has-zero-end : length s ≤ i → has_zero (drop i s) ≡ false
  unfolding has_zero
  has-zero-end h = rw drop_of_length-le

-- ---- one image, from what is read of it: where it starts, its kind, its flags and its CHAP type

module _ (r : List ℕ) (k : ℕ) where
  pub image-off : structure_given r k ≡ false → first_of (image_tests r k) ≡ Accepted
  unfolding first_of image_tests
  image-off off = rw off

  module _ (given : structure_given r k ≡ true) (image : ℕ) (at : image ≡ image_at r k) (shape : Shape) (kind : shape ≡ shape_of (kind_of k)) where
    chap-read : shape.chap ≡ (kind_of k).chap
    chap-read = ap (λ (s : Shape). s.chap) kind

    module _ (flags : ℕ) (read : flags ≡ byte r (image + 5)) where
      reserved-read : differs (bit_and flags shape.reserved) 0 ≡ reserved_set (byte r (image_at r k + 5)) (kind_of k)
      unfolding reserved_set
      reserved-read = rw (read, at, kind)

      pub image-reserved : (bit_and flags shape.reserved ≡ 0 → ⊥) → Refused (refusal 10 (slot_number (nics_given r) k)) ≡ first_of (image_tests r k)
      unfolding first_of image_tests
      image-reserved set = sym (rw (given, ← reserved-read, ne_eqb _ _ set))

      module _ (clear : bit_and flags shape.reserved ≡ 0) where
        pub image-plain : shape.chap ≡ false → Accepted ≡ first_of (image_tests r k)
        unfolding first_of image_tests
        image-plain none = sym (rw (given, ← reserved-read, clear, sym chap-read ∙ none))

        module _ (has : shape.chap ≡ true) (chap : ℕ) (type : chap ≡ byte r (image + chap_at)) where
          pub image-chap : 2 < chap → Refused (refusal 19 (slot_number (nics_given r) k)) ≡ first_of (image_tests r k)
          unfolding first_of image_tests
          image-chap other = sym (rw (given, ← reserved-read, clear, sym chap-read ∙ has, ← at, ← type, lt-ltb _ _ other))

          pub image-pass : chap ≤ 2 → Accepted ≡ first_of (image_tests r k)
          unfolding first_of image_tests
          image-pass low = sym (rw (given, ← reserved-read, clear, sym chap-read ∙ has, ← at, ← type, le-ltb _ _ low))

-- ---- one entry, from what is read of it: where it starts, how long it is, its shape and its bytes

module _ (r s : List ℕ) (n : ℕ) where
  abbrev tests : List Test
  tests = string_tests r s n

  pub string-off : entry_given r n ≡ false → first_of tests ≡ Accepted
  unfolding first_of string_tests
  string-off off = rw off

  abbrev Refuses : ℕ → Type 0
  Refuses rule = Refused (refusal rule (entry_number (nics_given r) n)) ≡ first_of tests

  module _ (given : entry_given r n ≡ true) (start long : ℕ) (at : start ≡ start_given r n) (size : long ≡ length_given r n) where
    pub string-past : length s < start + long → Refuses 24
    unfolding first_of string_tests
    string-past out = sym (rw (given, ← at, ← size, lt-ltb _ _ out))

    module _ (inside : start + long ≤ length s) (string : StringShape) (shape : string ≡ string_shape (string_of n)) where
      longest-is : string.longest ≡ (string_of n).longest
      longest-is = ap (λ (x : StringShape). x.longest) shape

      host-is : string.host ≡ (string_of n).host
      host-is = ap (λ (x : StringShape). x.host) shape

      pass1 : Passed tests 1
      unfolding first_of string_tests
      pass1 = rw (given, ← at, ← size, le-ltb _ _ inside)

      pub string-long : string.longest < long → Refuses 17
      unfolding first_of string_tests
      string-long more = sym (pass1 ∙ rw (given, ← longest-is, ← size, lt-ltb _ _ more))

      module _ (fits : long ≤ string.longest) (bytes : List ℕ) (are : bytes ≡ part s start long) where
        bytes-are : bytes ≡ bytes_given r s n
        unfolding bytes_given
        bytes-are = are ∙ ap₂ (part s) at size

        pass2 : Passed tests 2
        unfolding first_of string_tests
        pass2 = pass1 ∙ rw (given, ← longest-is, ← size, le-ltb _ _ fits)

        pub string-zero : has_zero bytes ≡ true → Refuses 20
        unfolding first_of string_tests
        string-zero zero = sym (pass2 ∙ rw (given, ← bytes-are, zero))

        module _ (none : has_zero bytes ≡ false) where
          pass3 : Passed tests 3
          unfolding first_of string_tests
          pass3 = pass2 ∙ rw (given, ← bytes-are, none)

          pub string-plain : string.host ≡ false → Accepted ≡ first_of tests
          unfolding first_of string_tests
          string-plain plain = sym (pass3 ∙ rw (given, sym host-is ∙ plain))

          module _ (host : string.host ≡ true) where
            pub string-alien : is_host_name bytes ≡ false → Refuses 18
            unfolding first_of string_tests
            string-alien other = sym (pass3 ∙ rw (given, sym host-is ∙ host, ← bytes-are, other))

            pub string-pass : is_host_name bytes ≡ true → Accepted ≡ first_of tests
            unfolding first_of string_tests
            string-pass named = sym (pass3 ∙ rw (given, sym host-is ∙ host, ← bytes-are, named))

-- ---- behind the limits nothing is given, so nothing is refused

pub images-end : (r : List ℕ) (k : ℕ) → slot_limit r ≤ k → k ≤ slot_count → first_of (gather (image_tests r) k (slot_count - k)) ≡ Accepted
images-end r k h low = gather-accepts (image_tests r) (slot_count - k) k (λ i l m. image-off r i (slot-past r i (omega arith)))

pub strings-end : (r s : List ℕ) (n : ℕ) → entry_limit r ≤ n → n ≤ entry_count → first_of (gather (string_tests r s) n (entry_count - n)) ≡ Accepted
strings-end r s n h low = gather-accepts (string_tests r s) (entry_count - n) n (λ i l m. string-off r s i (entry_past r i (omega arith)))
