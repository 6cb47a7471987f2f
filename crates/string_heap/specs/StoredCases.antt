-- Worked cases by computation: entries of which some may not share, the heap that holds them, and where each stands in it.
use Rattle.std.specs.Prelude.{◌≡◌, refl, Bool, true, false, List, [], ◌∷◌, ◌++◌, map, ℕ, length, get_or, None, Some}
use Rattle.octets.specs.Counting.{tabulate}
use Rattle.string_heap.specs.Stored.{Entry, heap_size}
use Rattle.string_heap.specs.Places.{heap_to, place}
use Rattle.string_heap.specs.Computing.{computing}

-- an entry, and whether it may share
record Given : Type 0 where
  entry : Entry
  shares : Bool

name : List ℕ → Given
name a = record { entry = Some a; shares = true }

secret : List ℕ → Given
secret a = record { entry = Some a; shares = false }

missing : Given
missing = record { entry = None; shares = true }

-- a missing entry is said to stand at 0
record Case : Type 0 where
  given : List Given
  heap : List ℕ
  places : List ℕ

a_case : List Given → List ℕ → List ℕ → Case
a_case given heap places = record { given = given; heap = heap; places = places }

-- `depot7`, `depot` and `7`, and each with its zero
depot7 : List ℕ
depot7 = 100 ∷ 101 ∷ 112 ∷ 111 ∷ 116 ∷ 55 ∷ []

depot : List ℕ
depot = 100 ∷ 101 ∷ 112 ∷ 111 ∷ 116 ∷ []

seven : List ℕ
seven = 55 ∷ []

closed : List ℕ → List ℕ
closed a = a ++ (0 ∷ [])

cases : List Case
cases =
    -- a tail, an equal, a front; a tail with the lower number
    a_case (name depot7 ∷ name seven ∷ []) (closed depot7) (0 ∷ 5 ∷ [])
    ∷ a_case (name depot7 ∷ missing ∷ name depot7 ∷ []) (closed depot7) (0 ∷ 0 ∷ 0 ∷ [])
    ∷ a_case (name depot7 ∷ name depot ∷ []) (closed depot7 ++ closed depot) (0 ∷ 7 ∷ [])
    ∷ a_case (name seven ∷ name depot7 ∷ []) (closed depot7) (5 ∷ 0 ∷ [])
    -- a secret that is the tail of a name, or equals it
    ∷ a_case (name depot7 ∷ secret seven ∷ []) (closed depot7 ++ closed seven) (0 ∷ 7 ∷ [])
    ∷ a_case (name depot7 ∷ secret depot7 ∷ []) (closed depot7 ++ closed depot7) (0 ∷ 7 ∷ [])
    -- a name that is the tail of a secret, or equals it
    ∷ a_case (secret depot7 ∷ name seven ∷ []) (closed depot7 ++ closed seven) (0 ∷ 7 ∷ [])
    ∷ a_case (secret depot7 ∷ name depot7 ∷ []) (closed depot7 ++ closed depot7) (0 ∷ 7 ∷ [])
    -- two equal secrets, and one that is the tail of the other
    ∷ a_case (secret depot7 ∷ secret depot7 ∷ []) (closed depot7 ++ closed depot7) (0 ∷ 7 ∷ [])
    ∷ a_case (secret depot7 ∷ secret seven ∷ []) (closed depot7 ++ closed seven) (0 ∷ 7 ∷ [])
    -- an empty secret beside a name, an empty name beside a secret, two empty secrets, two empty names
    ∷ a_case (name depot7 ∷ secret [] ∷ []) (closed depot7 ++ closed []) (0 ∷ 7 ∷ [])
    ∷ a_case (secret depot7 ∷ name [] ∷ []) (closed depot7 ++ closed []) (0 ∷ 7 ∷ [])
    ∷ a_case (secret [] ∷ secret [] ∷ []) (closed [] ++ closed []) (0 ∷ 1 ∷ [])
    ∷ a_case (name [] ∷ name [] ∷ []) (closed []) (0 ∷ 0 ∷ [])
    -- the first stored entry that ends with the last one is a secret, and is passed by
    ∷ a_case (secret seven ∷ name depot7 ∷ name seven ∷ []) (closed seven ++ closed depot7) (0 ∷ 2 ∷ 7 ∷ [])
    ∷ []

-- what the definitions give
entry_in : List Given → ℕ → Entry
entry_in given i = (get_or given i missing).entry

shares_in : List Given → ℕ → Bool
shares_in given i = (get_or given i missing).shares

place_as : List Given → ℕ → Entry → ℕ
place_as given i None = 0
place_as given i (Some a) = place (length given) (shares_in given) (entry_in given) i a

worked : List Given → Case
worked given =
    a_case given (heap_to (length given) (shares_in given) (entry_in given) (length given))
    (tabulate (λ (i : ℕ). place_as given i (entry_in given i)) 0 (length given))

cases-hold : map (λ (c : Case). worked c.given) cases ≡ cases
unfolding computing name secret missing a_case depot7 depot seven closed cases entry_in shares_in place_as worked
cases-hold = refl

-- and what each heap takes
sizes-hold : map (λ (c : Case). heap_size (length c.given) (shares_in c.given) (entry_in c.given)) cases
    ≡ 7 ∷ 7 ∷ 13 ∷ 7 ∷ 9 ∷ 14 ∷ 9 ∷ 14 ∷ 14 ∷ 9 ∷ 8 ∷ 8 ∷ 2 ∷ 1 ∷ 9 ∷ []
unfolding computing name secret missing a_case depot7 depot seven closed cases entry_in shares_in
sizes-hold = refl
