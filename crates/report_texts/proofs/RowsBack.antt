-- The rows of a well-formed report are gathered as they were.
use Rattle.std.proofs.Common.{◌≡◌, ℕ, ◌+◌, ◌<◌, ◌≤◌, ◌==◌, ◌^◌, List, [], ◌∷◌, ◌++◌, true, false, Option, Some, None, length, length-append}
use Rattle.std.proofs.Common.{map, refl, sym, ap, ◌∙◌, append_assoc, arith, zero, suc, ◌⊎◌, inl, inr}
use Rattle.std.specs.Prelude.{◌&&◌, nat_le, nat_lt, is_none, is_some, flat_map, ℤ, IfSome}
use Rattle.std.proofs.lemmas.Bool.{and_parts, cases_Bool, eq-eqb, eqb-true, leb-true, lt-ltb, ltb-true, ne_eqb}
use Rattle.std.proofs.lemmas.Bool.Decides.{Decides-int_eq}
use Rattle.std.proofs.lemmas.List.{append-nil}
use Rattle.csv.specs.Records.{field_at}
use Rattle.late_cert.specs.Schedule.{lateness_of}
use Rattle.report_texts.specs.ReportOf.{Gathered, Reading, all_dies, certs_from, may_follow, no_rows, report_on, rows_from, with_row}
use Rattle.report_texts.specs.ReportRows.{has_outcome, is_done, is_late, is_placed, is_sound, is_timed, kind_in, row_in, sound_row}
use Rattle.report_texts.specs.ReportText.{cert_record, cert_record_of, die_records, kind_word, row_fields}
use Rattle.text_base.specs.CsvRecords.{Fields}
use Rattle.report_texts.specs.WellFormed.{AreDies, AreRows, IsRow, on_die}
use Rattle.report_texts.specs.Worst.{is_cert}
use Rattle.late_cert.specs.declared.certificates.Certificate.{Certificate}
use Rattle.report_texts.specs.declared.report_rows.DieRow.{DieRow}
use Rattle.report_texts.specs.declared.reports.DieReport.{DieReport}
use Rattle.report_texts.specs.declared.reports.ReportRow.{ReportRow}
use Rattle.report_texts.specs.declared.reports.RowKind.{RowKind}
use Rattle.report_texts.specs.declared.reports.RowKind.TheVariants as kind
use Rattle.report_texts.proofs.FieldsBack.{lateness-field-back, number-back, number-field-back, pages-back, size_of}

-- What soundness says of the numbers

pub size-difference : (a b : ℕ) → a < 2 ^ 32 → b < 2 ^ 32 → size_of (lateness_of a b) < 2 ^ 32
size-difference a zero small low = omega arith
size-difference a (suc b) small low = elim (cases_Bool (nat_lt a (suc b))) [
  | inl below ↦ rw below (omega arith)
  | inr above ↦ rw above (omega arith)
]

said-late : (said : Option ℤ) (late : ℤ) → size_of late < 2 ^ 32 → is_late said late ≡ true → IfSome said (λ z. size_of z < 2 ^ 32)
said-late None late small is = tt
said-late (Some z) late small is = rw ((Decides-int_eq z late).0 is) small

none-said : (said : Option ℤ) → is_none said ≡ true → IfSome said (λ z. size_of z < 2 ^ 32)
none-said None is = tt
none-said (Some z) is = absurd (cc is)

-- the completion and the lateness of a row
pub record HasBounds (row : ReportRow) (completion : Option ℕ) : Type 0 where
  pub completion_fits : IfSome completion (λ n. n < 2 ^ 32)
  pub lateness_fits : IfSome row.lateness (λ z. size_of z < 2 ^ 32)

done-bounds : (row : ReportRow) (n : ℕ) → row.due < 2 ^ 32 → is_done row n ≡ true → HasBounds row (Some n)
done-bounds row n due is =
    let parts = and_parts (nat_le n 1048576) (nat_le 1 row.work && is_late row.lateness (lateness_of n row.due)) is in
    let late = (and_parts (nat_le 1 row.work) (is_late row.lateness (lateness_of n row.due)) parts.1).1 in
    let most : n ≤ 1048576 = leb-true n 1048576 parts.0 in
    let fits : n < 2 ^ 32 = omega arith in
    record {
      completion_fits = fits;
      lateness_fits = said-late row.lateness (lateness_of n row.due) (size-difference n row.due fits due)
          late;
    }

outcome-bounds : (row : ReportRow) (k : RowKind) (o : Option ℕ) → row.due < 2 ^ 32 → has_outcome row k o ≡ true → HasBounds row o
outcome-bounds row kind.Job (Some n) due is = done-bounds row n due
    (and_parts (is_done row n) (is_none row.given && nat_le (length row.reads) 64) is).0
outcome-bounds row kind.Collect (Some n) due is = done-bounds row n due
    (and_parts (is_done row n) (is_some row.given && (length row.reads == 0)) is).0
outcome-bounds row kind.Waived (Some n) due is = absurd (cc is)
outcome-bounds row kind.Job None due is = record {
  completion_fits = tt;
  lateness_fits = none-said row.lateness
      (and_parts (is_none row.lateness) (is_none row.given && (length row.reads == 0)) is).0;
}
outcome-bounds row kind.Collect None due is = record {
  completion_fits = tt;
  lateness_fits = none-said row.lateness
      (and_parts (is_none row.lateness) (is_none row.given && (length row.reads == 0)) is).0;
}
outcome-bounds row kind.Waived None due is =
    record {
      completion_fits = tt;
      lateness_fits = none-said row.lateness
          (and_parts (is_none row.lateness) (is_some row.given && ((length row.reads == 0) && (row.work == 0))) is).0;
    }

-- the numbers that each row has
pub record HasNumbers (x : DieRow) : Type 0 where
  pub die : x.die < 8
  pub task : x.row.task < 16
  pub job : x.row.job < 65536
  pub due : x.row.due ≤ 1048576
  pub release : x.row.release < x.row.due

pub sound-numbers : (x : DieRow) → is_sound x ≡ true → HasNumbers x
sound-numbers x sound =
    let parts = and_parts (is_placed x) (is_timed x.row && has_outcome x.row x.row.row x.row.completion) sound in
    let place = and_parts (nat_lt x.die 8) (nat_lt x.row.task 16 && nat_lt x.row.job 65536) parts.0 in
    let names = and_parts (nat_lt x.row.task 16) (nat_lt x.row.job 65536) place.1 in
    let times = and_parts (nat_lt x.row.release x.row.due) (nat_le x.row.due 1048576)
    (and_parts (is_timed x.row) (has_outcome x.row x.row.row x.row.completion) parts.1).0 in
    record {
      die = ltb-true x.die 8 place.0;
      task = ltb-true x.row.task 16 names.0;
      job = ltb-true x.row.job 65536 names.1;
      due = leb-true x.row.due 1048576 times.1;
      release = ltb-true x.row.release x.row.due times.0;
    }

sound-bounds : (x : DieRow) → is_sound x ≡ true → HasBounds x.row x.row.completion
sound-bounds x sound =
    let numbers = sound-numbers x sound in
    let due : x.row.due < 2 ^ 32 = omega arith in
    let parts = and_parts (is_placed x) (is_timed x.row && has_outcome x.row x.row.row x.row.completion) sound in
    outcome-bounds x.row x.row.row x.row.completion due (and_parts (is_timed x.row) (has_outcome x.row x.row.row x.row.completion)
    parts.1).1

-- A row reads as itself

kind-back : (k : RowKind) → kind_in (Some (kind_word k)) ≡ Some k
kind-back kind.Job = refl
kind-back kind.Collect = refl
kind-back kind.Waived = refl

row-in-back : (die n : ℕ) (row : ReportRow) → IsRow die n row → row_in (row_fields die row) ≡ Some (on_die die row)
unfolding row_in field_at
row-in-back die n row is =
    let numbers = sound-numbers (on_die die row) is.sound in
    let bounds = sound-bounds (on_die die row) is.sound in
    let a = number-back die (omega arith) in
    let b = number-back row.job (omega arith) in
    let c = number-back row.task (omega arith) in
    let d = number-back row.release (omega arith) in
    let e = number-back row.due (omega arith) in
    let f = number-back row.work is.work in
    let g = number-field-back row.completion bounds.completion_fits in
    let h = lateness-field-back row.lateness bounds.lateness_fits in
    let i = number-field-back row.given is.given in
    let j = pages-back row.reads is.reads in
    rw (kind-back row.row, a, b, c, d, e, f, g, h, i, j) refl

pub row-back : (die n : ℕ) (row : ReportRow) → IsRow die n row → sound_row (row_fields die row) ≡ Some (on_die die row)
row-back die n row is = rw (row-in-back die n row is, is.sound) refl

row-no_cert : (k : RowKind) (fields : List (List ℕ)) → is_cert (kind_word k ∷ fields) ≡ false
unfolding field_at
row-no_cert kind.Job fields = refl
row-no_cert kind.Collect fields = refl
row-no_cert kind.Waived fields = refl

-- one row that may come next
one-row : (g : Gathered) (die n line : ℕ) (row : ReportRow) (more : List Fields) → IsRow die n row → may_follow g (on_die die row) ≡ true
    → rows_from g line (row_fields die row ∷ more) ≡ rows_from (with_row g (on_die die row)) (line + 1) more
unfolding rows_from
one-row g die n line row more is follows = rw (row-no_cert row.row _, row-back die n row is, follows) refl

-- where records lead, whatever the number of the next one
abbrev pub LeadsTo : (ℕ → Reading) → Gathered → List Fields → Type 0
LeadsTo from g more = (line : ℕ) → (next : ℕ) × (from line ≡ rows_from g next more)

abbrev same-die : (die : ℕ) → (die == die) ≡ true
same-die die = eq-eqb die die refl

-- the rest of a die's rows
rows-on : (done : List DieReport) (die : ℕ) (before rows : List ReportRow) (more : List Fields) → AreRows die (length before) rows
    → LeadsTo (λ line. rows_from (record { done = done; die = die; rows = before }) line (map (row_fields die) rows ++ more))
    (record { done = done; die = die; rows = before ++ rows }) more
rows-on done die before [] more are line = (line, rw (append-nil before) refl)
rows-on done die before (row ∷ rows) more are line =
    let g : Gathered = record { done = done; die = die; rows = before } in
    let number : (row.job == length before) ≡ true = eq-eqb row.job (length before) are.0.number in
    let follows : may_follow g (on_die die row) ≡ true = rw (same-die die, number) refl in
    let longer : length (before ++ row ∷ []) ≡ length before + 1 = length-append before (row ∷ []) in
    let rest : AreRows die (length (before ++ row ∷ [])) rows = rw longer are.1 in
    let step = rows-on done die (before ++ row ∷ []) rows more rest (line + 1) in
    let made : with_row g (on_die die row) ≡ record { done = done; die = die; rows = before ++ row ∷ [] } = rw (same-die die) refl in (
      step.0,
      one-row g die (length before) line row (map (row_fields die) rows ++ more) are.0 follows
          ∙ ap (λ h. rows_from h (line + 1) (map (row_fields die) rows ++ more)) made ∙ step.1
          ∙ ap (λ rs. rows_from (record { done = done; die = die; rows = rs }) step.0 more) (append_assoc before (row ∷ []) rows),
    )

-- a later die may begin, or any die where no row was
abbrev pub Begins : Gathered → ℕ → Type 0
Begins g die = (g ≡ no_rows) ⊎ (g.die < die)

-- the first row of a die
first-follows : (g : Gathered) (die : ℕ) (row : ReportRow) → Begins g die → row.job ≡ 0 → may_follow g (on_die die row) ≡ true
first-follows g die row (inl fresh) first = rw fresh (elim (cases_Bool (die == 0)) [
  | inl zero_die ↦ rw (zero_die, eq-eqb row.job 0 first) refl
  | inr other ↦ rw (other, lt-ltb 0 die (grind (arith, other)), eq-eqb row.job 0 first) refl
])
first-follows g die row (inr later) first =
    let other : (die == g.die) ≡ false = ne_eqb die g.die (omega arith) in
    rw (other, lt-ltb g.die die later, eq-eqb row.job 0 first) refl

first-row : (g : Gathered) (die : ℕ) (row : ReportRow) → Begins g die → with_row g (on_die die row)
    ≡ record { done = all_dies g; die = die; rows = row ∷ [] }
first-row g die row (inl fresh) = rw fresh (elim (cases_Bool (die == 0)) [
  | inl zero_die ↦ rw zero_die (ap (λ (d : ℕ). let h : Gathered = record { done = []; die = d; rows = row ∷ [] } in h)
      (sym (eqb-true die 0 zero_die)))
  | inr other ↦ rw other refl
])
first-row g die row (inr later) =
    let other : (die == g.die) ≡ false = ne_eqb die g.die (omega arith) in
    rw other refl

-- a die without its certificate
abbrev pub bare : DieReport → DieReport
bare die = report_on die.die die.rows

-- all rows of a die
die-on : (g : Gathered) (die : ℕ) (rows : List ReportRow) (more : List Fields) → 0 < length rows → AreRows die 0 rows → Begins g die
    → LeadsTo (λ line. rows_from g line (map (row_fields die) rows ++ more)) (record { done = all_dies g; die = die; rows = rows }) more
die-on g die [] more some are begins line = absurd (omega arith)
die-on g die (row ∷ rows) more some are begins line =
    let follows = first-follows g die row begins are.0.number in
    let step = rows-on (all_dies g) die (row ∷ []) rows more are.1 (line + 1) in (
      step.0,
      one-row g die 0 line row (map (row_fields die) rows ++ more) are.0 follows
          ∙ ap (λ h. rows_from h (line + 1) (map (row_fields die) rows ++ more)) (first-row g die row begins) ∙ step.1,
    )

-- all dies of a report are gathered, and then comes what follows
pub record AllGathered (g : Gathered) (dies : List DieReport) (line : ℕ) (records more : List Fields) : Type 0 where
  pub last : Gathered
  pub next : ℕ
  pub leads : rows_from g line records ≡ rows_from last next more
  pub all : all_dies last ≡ all_dies g ++ map bare dies

pub dies-on : (dies : List DieReport) (low : ℕ) (g : Gathered) (line : ℕ) (more : List Fields) → AreDies low dies
    → ((die : ℕ) → low ≤ die → Begins g die)
    → AllGathered g dies line (flat_map die_records dies ++ more) more
dies-on [] low g line more are begins = record { last = g; next = line; leads = refl; all = sym (append-nil (all_dies g)) }
dies-on (die ∷ dies) low g line more are begins =
    let rest = flat_map die_records dies ++ more in
    let first = die-on g die.die die.rows rest are.1.some_rows are.1.rows (begins die.die are.0) line in
    let h : Gathered = record { done = all_dies g; die = die.die; rows = die.rows } in
    let later = dies-on dies (die.die + 1) h first.0 more are.2 (λ d above. inr (omega arith)) in
    let none_not : (length die.rows == 0) ≡ false = ne_eqb (length die.rows) 0 (omega (arith, are.1.some_rows)) in
    let now : all_dies h ≡ all_dies g ++ bare die ∷ [] = rw none_not refl in
    record {
      last = later.last;
      next = later.next;
      leads = ap (rows_from g line) (append_assoc (die_records die) (flat_map die_records dies) more) ∙ first.1 ∙ later.leads;
      all = later.all ∙ ap (λ ds. ds ++ map bare dies) now ∙ append_assoc (all_dies g) (bare die ∷ []) (map bare dies);
    }

-- the record of a certificate ends the rows
stop-at : (g : Gathered) (line die : ℕ) (cert : Option Certificate) (more : List Fields) → rows_from g line more
    ≡ certs_from (all_dies g) line more
    → rows_from g line (cert_record_of die cert ++ more) ≡ certs_from (all_dies g) line (cert_record_of die cert ++ more)
unfolding rows_from field_at
stop-at g line die None more rest = rest
stop-at g line die (Some cert) more rest = refl

-- at the certificates the rows end
pub rows-stop : (g : Gathered) (line : ℕ) (dies : List DieReport) → rows_from g line (flat_map cert_record dies)
    ≡ certs_from (all_dies g) line (flat_map cert_record dies)
unfolding rows_from
rows-stop g line [] = refl
rows-stop g line (die ∷ dies) = stop-at g line die.die die.cert (flat_map cert_record dies) (rows-stop g line dies)
