-- What is kept of a report while it is read: all of it, or its work alone.
use Rattle.std.specs.Prelude.{◌≡◌, ℕ, List, length, map, Option, Result, Ok, Err, OnOk}
use Rattle.late_cert.specs.declared.certificates.Certificate.{Certificate}
use Rattle.slot_types.specs.declared.pages.PageData.{PageData}
use Rattle.slot_types.specs.declared.refusals.Refusal.{Refusal}
use Rattle.text_base.specs.CsvRecords.{Fields}
use Rattle.report_texts.specs.Numbering.{AreNumbered}
use Rattle.report_texts.specs.ReportOf.{Gathered, Reading, Reads, Says, certs_for, report_on, with_die}
use Rattle.report_texts.specs.Worst.{worst_of}
use Rattle.report_texts.specs.declared.gathered.KeptSoFar.{KeptSoFar}
use Rattle.report_texts.specs.declared.report_rows.DieRow.{DieRow}
use Rattle.report_texts.specs.declared.reports.DieReport.{DieReport}

-- what is kept of a row: all but what its reads gave, and of that what is kept of it
abbrev pub kept_row : (List PageData → List PageData) → DieRow → DieRow
kept_row reads x = record x { row = record x.row { reads = reads x.row.reads } }

-- what is kept of the rows so far
abbrev pub kept_so_far : {K : Type 0} → (DieReport → K) → Gathered → KeptSoFar K
kept_so_far kept g = record { done = map kept g.done; die = g.die; rows = length g.rows; last = kept (report_on g.die g.rows) }

-- a call read on from these records: it gave what is kept of numbered dies, and those that are left say after these dies
-- what all said
abbrev pub ReadsKept : {K : Type 0} → (DieReport → K) → (List Fields → Reading) → (List DieReport → List Fields → Reading)
    → Option (List Fields) → Option (List Fields) → Result (List K) Refusal → Type 0
ReadsKept kept before after old new (Ok all) = (dies : List DieReport) × (all ≡ map kept dies) × AreNumbered dies
    × Reads before after old new (Ok dies)
ReadsKept kept before after old new (Err e) = Reads before after old new (Err e)

-- a call read on for the certificate of a die, if the die has a done row: it keeps what is kept of the die with this
-- certificate, and those that are left say after this die what all said
abbrev pub ReadsCert : {K : Type 0} → (DieReport → K) → DieReport → K → (line line2 : ℕ) → (old left : Option (List Fields))
    → Result (Unit {0}) Refusal → Type 0
ReadsCert kept die new line line2 old left result = (cert : Option Certificate) × OnOk result (new ≡ kept (record die { cert = cert }))
    × ((more : ℕ → List Fields → Reading) → Reads (certs_for die more (worst_of die.rows) line)
    (λ (u : Unit {0}) rest. with_die (record die { cert = cert }) (more line2 rest)) old left result)

-- a call gave what is kept of a report whose rows are numbered, or a refusal, as the known reading of a text has it, if
-- memory and the reader didn't fail
abbrev pub SaysKept : {K : Type 0} → (DieReport → K) → Option Reading → Result (List K) Refusal → Type 0
SaysKept kept known (Ok all) = (report : List DieReport) × (all ≡ map kept report) × AreNumbered report × Says known (Ok report)
SaysKept kept known (Err e) = Says known (Err e)
