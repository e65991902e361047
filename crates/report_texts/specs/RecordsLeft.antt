-- The records that are left of a text, with the one at hand.
use Rattle.std.specs.Prelude.{◌≡◌, ℕ, List, [], ◌∷◌, ⊤, Bool, true, Option, Some, None, option_map, if◌then◌else◌}
use Rattle.csv.specs.Reading.{has_failed}
use Rattle.csv.specs.Records.{fields_of}
use Rattle.text_base.specs.Plain.{IsPlain}
use Rattle.text_base.specs.CsvRecords.{Fields}
use Rattle.text_base.specs.CsvRecordsLeft.{fits_left, rows_left}
use Rattle.report_texts.specs.Worst.{is_cert}
use Rattle.report_texts.specs.declared.report_reader.ReportReader.{ReportReader}

-- the record at hand, if there is one
abbrev pub hand_of : Bool → Fields → Option Fields
hand_of found fields = if found then Some fields else None

abbrev pub at_hand : {R : Type 0} → ReportReader R → Option Fields
at_hand r = hand_of r.found (fields_of r.fields)

-- the record at hand, if it isn't of a certificate
abbrev pub unless_cert : Option Fields → Option Fields
unless_cert None = None
unless_cert (Some fields) = if is_cert fields then None else Some fields

abbrev pub row_at_hand : {R : Type 0} → ReportReader R → Option Fields
row_at_hand r = unless_cert (at_hand r)

abbrev pub is_found : {R : Type 0} → ReportReader R → Bool
is_found r = r.found

-- the number of the record at hand, or the number that it would have
abbrev pub record_line : {R : Type 0} → ReportReader R → ℕ
record_line r = r.line

abbrev pub IsReady : {R : Type 0} → ReportReader R → Type 0
IsReady r = IsPlain r.rows

-- whether csv's reader has failed
abbrev pub reader_failed : {R : Type 0} → ReportReader R → Bool
reader_failed r = has_failed r.rows

-- the records that csv's reader has still to read, where they are known
abbrev pub records_unread : {R : Type 0} → (R → Option (List ℕ)) → ReportReader R → Option (List Fields)
records_unread rem r = rows_left rem r.rows

-- whether their text fits its bound, where it is known
abbrev pub unread_fit : {R : Type 0} → (R → Option (List ℕ)) → ReportReader R → Option Bool
unread_fit rem r = fits_left rem r.rows

-- the record at hand and those after it, where they are known
abbrev pub with_hand : Bool → Fields → Option (List Fields) → Option (List Fields)
with_hand found fields rest = if found then option_map (λ more. fields ∷ more) rest else Some []

-- the records that are left, where they are known
abbrev pub records_left : {R : Type 0} → (R → Option (List ℕ)) → ReportReader R → Option (List Fields)
records_left rem r = with_hand r.found (fields_of r.fields) (rows_left rem r.rows)

-- whether their text fits its bound, where it is known: at its end it does
abbrev pub with_fit : Bool → Option Bool → Option Bool
with_fit found fits = if found then fits else Some true

abbrev pub records_fit : {R : Type 0} → (R → Option (List ℕ)) → ReportReader R → Option Bool
records_fit rem r = with_fit r.found (fits_left rem r.rows)

-- what is known stays
abbrev pub Stays : {A : Type 0} → Option A → Option A → Type 0
Stays None new = ⊤
Stays (Some x) new = new ≡ Some x

-- known records lose the first
abbrev pub Loses : Option (List Fields) → Option (List Fields) → Type 0
Loses None new = ⊤
Loses (Some []) new = ⊥
Loses (Some (fields ∷ rest)) new = new ≡ Some rest
