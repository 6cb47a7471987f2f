-- `check_write` meets its contract: the OEM fields settle it (filled up with zero bytes they are padded exactly where they
-- were), or the room does. Assumes nothing.
use Rattle.std.proofs.Common.{◌≡◌, List, [], ◌∷◌, Bool, not, ℕ, take, sym, ap₂, ◌∙◌, arith, ltb, lt-ltb, le-ltb}
use Rattle.octets.specs.Octets.{part, bytes_at}
use Rattle.table_header.specs.Verdict.{Verdict, refuse, first_of}
use Rattle.table_header.specs.Header.{padded}
use Rattle.table_header.specs.Write.{write_tests}
use Rattle.table_header.proofs.VerdictLaws.{returned, accept-none, fail-cons, accept-cons, append-stop, append-go}
use Rattle.table_header.proofs.HeaderLaws.{padded-part}
use Rattle.table_header.proofs.write.check_write.Goals as goal

-- the verdict of the OEM fields, as the tests have it
oem : (image : List ℕ) (size room : ℕ) (v : Verdict)
    → v ≡ first_of (refuse 8 10 (not (padded (part image 10 6))) ∷ refuse 8 16 (not (padded (part image 16 8))) ∷ [])
    → v ≡ first_of (take 2 (write_tests (bytes_at image 10 6) (bytes_at image 16 8) size room))
unfolding write_tests
oem image size room v e =
    e ∙ ap₂ (λ (id table_id : Bool). first_of (refuse 8 10 (not id) ∷ refuse 8 16 (not table_id) ∷ []))
    (padded-part image 10 6) (padded-part image 16 8)

pub returns-in_err-check_oem : goal.returns-in_err-check_oem
unfolding write_tests
returns-in_err-check_oem c =
    let a = c.args in
    let refused = c.in_err-check_oem.was in
    returned _ _ _ c.from_residual.ensures.1 refused
    ∙ append-stop _ _ _ (oem a.image.now a.size a.room _ c.check_oem.ensures) _ refused

pub returns-then-room-size : goal.returns-then-room-size
unfolding write_tests
returns-then-room-size c =
    let a = c.args in
    c.refuse.ensures
    ∙ sym (fail-cons (refuse 21 0 (ltb a.room a.size)) [] (lt-ltb a.room a.size (omega arith)))
    ∙ append-go _ _ _ (oem a.image.now a.size a.room _ c.check_oem.ensures) (c.in_ok-check_oem.was)

pub returns : goal.returns
unfolding write_tests
returns c =
    let a = c.args in
    sym (accept-cons (refuse 21 0 (ltb a.room a.size)) [] (le-ltb a.room a.size (omega arith)) accept-none)
    ∙ append-go _ _ _ (oem a.image.now a.size a.room _ c.check_oem.ensures) (c.in_ok-check_oem.was)
