-- What a build leaves in the room serves its record: the first Length bytes and any longer part of the room.
--     serves-begins     a list that begins with the table
--     serves-append     the table, with any bytes behind it
--     room-serves       the room after a build, cut at or behind Length
--     room-length, room-rest     its Length, and what it keeps
-- Assumes nothing.
use mathlib.Core.Path.{◌≡◌}
use mathlib.Core.List.{List, ◌++◌}
use Prim.Native.Nat.{ℕ, ◌≤◌}
use lib.ListN.{take, drop}
use lib.Seq.{drop_at}
use Rattle.table_header.specs.Header.{length_of}
use Rattle.ibft_table.specs.Record.{Content, listed}
use Rattle.ibft_build_rules.specs.Plan.{length_built}
use Rattle.ibft_build_rules.specs.TableBytes.{table_of}
use Rattle.ibft_build_rules.specs.Promises.{Serves}
use Rattle.ibft_build_rules.proofs.GoodContent.{Good}
use Rattle.ibft_build_rules.proofs.BytesLaws.{table-length}
use Rattle.ibft_build_rules.proofs.BuiltLaws.{Begins, begins-append, begins-cut, length_back}
use Rattle.ibft_build_rules.proofs.PassesLaws.{begins-passes}
use Rattle.ibft_build_rules.proofs.ReadsBackLaws.{begins-reads-back}
use Rattle.ibft_build_rules.proofs.BuiltOrderLaws.{begins-keeps-order}
use Rattle.ibft_build_rules.proofs.BuiltSecretsLaws.{begins-secrets-apart}

module _ (c : Content) (good : Good c) where
  pub serves-begins : (t : List ℕ) → Begins c t → Serves (listed c) t
  serves-begins t front =
      record {
        passes = begins-passes c good t front;
        reads-back = begins-reads-back c good t front;
        keeps-order = begins-keeps-order c good t front;
        secrets-apart = begins-secrets-apart c good t front;
      }

  pub serves-append : (rest : List ℕ) → Serves (listed c) (table_of c ++ rest)
  serves-append rest = serves-begins (table_of c ++ rest) (begins-append c good rest)

  -- the room after a build that had `before` in it
  module _ (before : List ℕ) where
    pub room-serves : (m : ℕ) → length_built c ≤ m → Serves (listed c) (take m (table_of c ++ drop (length_built c) before))
    room-serves m h =
        let after : List ℕ = table_of c ++ drop (length_built c) before in
        serves-begins (take m after) (begins-cut c good after m h (begins-append c good (drop (length_built c) before)))

    pub room-length : length_of (table_of c ++ drop (length_built c) before) ≡ length_built c
    room-length =
        length_back c good (table_of c ++ drop (length_built c) before) (begins-append c good (drop (length_built c) before))

    pub room-rest : drop (length_built c) (table_of c ++ drop (length_built c) before) ≡ drop (length_built c) before
    room-rest = drop_at (table_of c) (drop (length_built c) before) (length_built c) (table-length c good)
