-- The login order. Assumes nothing: these are definitions.
use Rattle.std.specs.Prelude.{ℕ, ◌+◌, List, [], ◌∷◌, ◌++◌, Bool, cond, ◌&&◌, length, get_or, ltb, Ok, Err}
use Rattle.std.specs.Int.Bits.{bit_and}
use Rattle.octets.specs.Counting.{first, tabulate, gather}
use Rattle.octets.specs.Octets.{byte, differs}
use Rattle.ibft_layout.specs.Layout.{target_slot, target_count}
use Rattle.table_header.specs.Verdict.{refusal_of, Verdict, Accepted, Refused}
use Rattle.ibft_table.specs.Table.{starts_of, start_in, present_in, index_in}
use Rattle.ibft_table.specs.Check.{check_of}
use Rattle.ibft_readings.specs.declared.login.LoginOrder.{LoginOrder}

-- a flag byte has this bit (1, 2, 4, ..) set
abbrev pub has : ℕ → ℕ → Bool
has bit flags = differs (bit_and flags bit) 0

-- Of a table with these starts by slot; target n is the n-th by Index: 0 and 1 the named ones, then the extras.
-- Its flags
unfoldable pub target_flags : List ℕ → List ℕ → ℕ → ℕ
target_flags starts t n = byte t (start_in starts (target_slot n) + 5)

-- it is present and valid
unfoldable pub valid : List ℕ → List ℕ → ℕ → Bool
valid starts t n = present_in starts (target_slot n) && has 1 (target_flags starts t n)

-- it is valid and selected
unfoldable pub selected : List ℕ → List ℕ → ℕ → Bool
selected starts t n = valid starts t n && has 2 (target_flags starts t n)

-- who comes first: in single mode the selected target (the lowest Index if several are), else nobody, `target_count`
unfoldable pub chosen : List ℕ → List ℕ → ℕ
chosen starts t = cond (has 1 (byte t 53)) (first target_count (selected starts t)) target_count

-- target n's Index, as it is placed
unfoldable pub target_index : List ℕ → List ℕ → ℕ → ℕ
target_index starts t n = index_in starts t (target_slot n)

-- the one that comes first, then the other valid targets by ascending Index
unfoldable pub order_in : List ℕ → List ℕ → List ℕ
order_in starts t =
    cond (ltb (chosen starts t) target_count) (target_index starts t (chosen starts t) ∷ []) []
    ++ gather (λ (n : ℕ). cond (valid starts t n && differs n (chosen starts t)) (target_index starts t n ∷ []) []) 0 target_count

unfoldable pub order_of : List ℕ → List ℕ
order_of t = order_in (starts_of t) t

-- how many places are used; a used place holds the Index (which may be 255 itself), the unused ones 255; refused, none is used
unfoldable pub placed : Verdict → List ℕ → LoginOrder
placed v order =
    record { refusal = refusal_of v; used = length order; places = tabulate (λ (i : ℕ). get_or order i 255) 0 target_count }

unfoldable pub login_from : List ℕ → Verdict → LoginOrder
login_from t (Ok u) = placed Accepted (order_of t)
login_from t (Err r) = placed (Refused r) []

unfoldable pub login_order_of : List ℕ → LoginOrder
login_order_of t = login_from t (check_of t)
