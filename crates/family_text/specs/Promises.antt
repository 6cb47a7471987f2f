-- What telling and entering promise. Nothing but the promises stands here.
use Rattle.std.specs.Prelude.{◌≡◌, List, ℕ, ◌≤◌, ◌<◌, length}
use Rattle.octets.specs.Octets.{byte}
use Rattle.table_header.specs.Verdict.{Accepted}
use Rattle.abft.specs.Abft.{check_of as abft_check, record_of as abft_record}
use Rattle.sbft.specs.Check.{check_of as sbft_check}
use Rattle.sbft.specs.Readings.{record_of as sbft_record}
use Rattle.sbft.specs.Write.{record_given}
use Rattle.family_text.specs.Fields.{abft, sbft}
use Rattle.family_text.specs.Family.{text_family, stray_in}
use Rattle.family_text.specs.Enter.{image_size, Outcome, entered_from}
use Rattle.family_text.specs.Tell.{table_text}

-- each is a byte
abbrev pub Bytes : List ℕ → Type 0
Bytes t = (i : ℕ) → byte t i < 256

-- Told and entered: the text that `tell` writes of a table of this family, and what `enter` reads it as.
pub record ToldAndEntered {R : Type 0} (family : ℕ) (text : List ℕ) (o : Outcome) (given held : R) : Type 0 where
  -- the text is of the family, and no line of it is of another
  pub of-family : text_family text ≡ family
  pub none-stray : stray_in text ≡ record { line = 0; family = 0 }
  -- every line is read
  pub read : o.reason ≡ 0
  -- the image's record is the table's
  pub same : given ≡ held

-- Of every aBFT that the check accepts, where `enter` is lent an image of which no record needs more.
abbrev pub EntersAbft : Type 0
EntersAbft = (t image : List ℕ) → Bytes t → abft_check t ≡ Accepted → image_size ≤ length image
    → let o = entered_from abft (table_text abft t) image in ToldAndEntered abft (table_text abft t) o (abft_record o.draft.image) (abft_record t)

-- .. of every sBFT
abbrev pub EntersSbft : Type 0
EntersSbft = (t image : List ℕ) → Bytes t → sbft_check t ≡ Accepted → image_size ≤ length image
    → let o = entered_from sbft (table_text sbft t) image in ToldAndEntered sbft (table_text sbft t) o (record_given o.draft.image) (sbft_record t)

pub record EntersWhatIsTold : Type 0 where
  pub of-abft : EntersAbft
  pub of-sbft : EntersSbft
