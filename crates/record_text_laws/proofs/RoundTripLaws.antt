-- The round trip: a table's text is read line by line into the draft that the laws of the record range are about; and tables of
-- equal records are equal bytes, so they have one text.
--     enters-what-is-told         the text of an accepted table enters its record
--     told-alike                  texts that enter equal records are told alike
-- Assumes nothing.
use mathlib.Core.Path.{refl, sym, ap, subst}
use Rattle.ibft_build_rules.proofs.RebuildLaws.{tables-tell-records}
use Rattle.record_text.specs.Tell.{table_text}
use Rattle.record_text.specs.Promises.{range_left, strings_left, ToldAndEntered, EntersWhatIsTold, ToldAlike}
use Rattle.record_text_laws.proofs.LentLaws.{Lent}
use Rattle.record_text_laws.proofs.NotedLaws.{noted-told}
use Rattle.record_text_laws.proofs.TextEnteredLaws.{marks_told, text-entered}
use Rattle.record_text_laws.proofs.RangeEnteredLaws.{entered-record, entered-builds, entered-built}
use Rattle.record_text_laws.proofs.TextSizeLaws.{text-fits}

pub enters-what-is-told : EntersWhatIsTold
enters-what-is-told t range strings small ok large roomy =
    let lent : Lent t (marks_told t) range strings = record { accepted = ok; seats = noted-told t ok small; large = large; roomy = roomy } in
    subst (ToldAndEntered t) (sym (text-entered t range strings small ok roomy))
    (record {
      fits = text-fits t ok small;
      read = refl;
      same = entered-record lent;
      builds = entered-builds lent;
      built = entered-built lent;
    })

pub told-alike : ToldAlike
told-alike o o' room room' hide p q e =
    ap (table_text hide) ((tables-tell-records (range_left o) (strings_left o) room (range_left o') (strings_left o') room' p q).0 e)
