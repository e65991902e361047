-- The records that are left of a text within a bound.
use Rattle.std.specs.Prelude.{◌≡◌, ⊤, ℕ, List, [], Bool, true, false, not, Option, Some, None, option_map, if◌then◌else◌}
use Rattle.csv.specs.Reading.{reader_state, source_of}
use Rattle.csv.specs.declared.parser.State.{State}
use Rattle.csv.specs.declared.parser.State.TheVariants as st
use Rattle.csv.specs.declared.reader.Reader.{Reader}
use Rattle.text_base.specs.BoundedReaders.{bounded_remaining}
use Rattle.text_base.specs.Marks.{is_marked, without_mark}
use Rattle.text_base.specs.CsvRecords.{Fields, rows_from}
use Rattle.text_base.specs.declared.bounded.Bounded.{Bounded}

-- whether a reader stands between two records
abbrev pub is_between : State → Bool
is_between st.StartRecord = true
is_between st.AfterCr = true
is_between st.StartField = false
is_between st.InField = false
is_between st.InQuoted = false
is_between st.AfterQuote = false
is_between st.InEscape = false
is_between st.InComment = false

-- what a reader of a bounded text has left, where it is known
abbrev pub marked_left : {R : Type 0} → (R → Option (List ℕ)) → Reader (Bounded R) → Option (List ℕ)
marked_left rem r = if is_between (reader_state r) then source_of (bounded_remaining rem) r else None

-- the records that it has left, also those past the bound, where its bytes are known
unfoldable pub rows_left : {R : Type 0} → (R → Option (List ℕ)) → Reader (Bounded R) → Option (List Fields)
rows_left rem r = option_map (λ text. rows_from (reader_state r) [] [] (without_mark text)) (marked_left rem r)

-- whether they end within the bound, where its bytes are known
unfoldable pub fits_left : {R : Type 0} → (R → Option (List ℕ)) → Reader (Bounded R) → Option Bool
fits_left rem r = option_map (λ text. not (is_marked text)) (marked_left rem r)

-- a read took a record, and the text still fits its bound or not; or there was none, and the text fits it
abbrev pub KeepsFit : Option Bool → Option Bool → Bool → Type 0
KeepsFit None new found = ⊤
KeepsFit (Some fits) new true = new ≡ Some fits
KeepsFit (Some fits) new false = fits ≡ true
