-- The report of exact logs is one that is read back from its text.
use Rattle.std.proofs.Common.{◌≡◌, ℕ, zero, suc, ◌+◌, ◌<◌, ◌≤◌, ◌==◌, ◌^◌, ◌&&◌, nat_lt, nat_le, Bool, true, false, cond, List, [], ◌∷◌}
use Rattle.std.proofs.Common.{Option, Some, None, refl, ap, subst, map, length, arith}
use Rattle.std.specs.Prelude.{All, Contains}
use Rattle.std.specs.List.{AllByRecursion}
use Rattle.std.proofs.lemmas.Bool.{and_from, lt-ltb, le-leb, eqb-false}
use Rattle.std.proofs.lemmas.Bool.Decides.{Decides-int_eq}
use Rattle.std.proofs.lemmas.List.Elements.{All-nil}
use Rattle.slot_types.specs.declared.plans.DiePlan.{DiePlan}
use Rattle.slot_types.specs.declared.pages.PageData.{PageData}
use Rattle.slot_types.specs.declared.replies.Waived.{Waived}
use Rattle.plan_rules.specs.Bound.{MeetsBound}
use Rattle.late_cert.specs.Schedule.{lateness_of}
use Rattle.die_log.specs.Model.Log.{Log, Job, jobs, acts, waived_collections, work}
use Rattle.die_log.specs.Model.Work.{is_done, completion}
use Rattle.die_log.specs.Model.Answers.{IsExact}
use Rattle.die_log.specs.Invariants.RunningCollections.{AreNumbered}
use Rattle.die_log.proofs.Choices.{OfSome}
use Rattle.die_log.proofs.Legal.Exact.{stands_well}
use Rattle.die_log.proofs.Limits.{few_work, keeps_limits}
use Rattle.slot_types.specs.declared.events.JobHead.{JobHead}
use Rattle.slot_core.specs.Outcomes.{outcome_by}
use Rattle.slot_core.specs.Records.{pages_given, reads_of, waiver_among}
use Rattle.report_texts.specs.ReportRows.{has_outcome, is_done as is_done_row, is_late, is_placed, is_sound, is_timed}
use Rattle.report_texts.specs.WellFormed.{AreDies, AreRows, IsDie, IsReport, IsRow, on_die}
use Rattle.text_base.specs.Pages.{IsPage}
use Rattle.report_texts.specs.declared.report_rows.DieRow.{DieRow}
use Rattle.report_texts.specs.declared.reports.DieReport.{DieReport}
use Rattle.report_texts.specs.declared.reports.ReportRow.{ReportRow}
use Rattle.report_texts.proofs.RowsBack.{HasNumbers}
use Rattle.task_script.specs.LogPages.{HasPages}
use Rattle.task_script.specs.DieReports.{die_report_of, report_row_of, report_rows_of, row_by}
use Rattle.task_script.specs.DieRuns.{DieRun}
use Rattle.task_script.specs.ExactRuns.{AreExact}
use Rattle.task_script.specs.TextRuns.{reports_from}
use Rattle.task_script.proofs.ExactNumbers.{completed_by_now, done_gives_few, done_worked, few_reads, waived_gives_few}
use Rattle.task_script.proofs.ExactPages.{collections_read_nothing, reads_are_pages}
use Rattle.task_script.proofs.ExactWorst.{contained_all, has_cert, number_small}
use Rattle.die_log.specs.Model.Start.{fresh}
use Rattle.die_log.proofs.Openings.{fresh_opens}

-- Rows

sound_if : (x : DieRow) → HasNumbers x → has_outcome x.row x.row.row x.row.completion ≡ true → is_sound x ≡ true
sound_if x h outcome =
    and_from (is_placed x) (is_timed x.row && has_outcome x.row x.row.row x.row.completion)
    (and_from (nat_lt x.die 8) (nat_lt x.row.task 16 && nat_lt x.row.job 65536) (lt-ltb x.die 8 h.die)
    (and_from (nat_lt x.row.task 16) (nat_lt x.row.job 65536) (lt-ltb x.row.task 16 h.task) (lt-ltb x.row.job 65536 h.job)))
    (and_from (is_timed x.row) (has_outcome x.row x.row.row x.row.completion)
    (and_from (nat_lt x.row.release x.row.due) (nat_le x.row.due 1048576) (lt-ltb x.row.release x.row.due h.release)
    (le-leb x.row.due 1048576 h.due))
    outcome)

-- a job of this number on this die, which took `took` slots
record IsPlaced (die n task release due took : ℕ) : Type 0 where
  on_die : die < 8
  numbered : n < 65536
  of_task : task < 16
  timed : release < due
  in_time : due ≤ 1048576
  fits : took < 2 ^ 32

-- what a done job or collection took, its completion, and what it gave
record IsEnded (collects : Bool) (took completion given : ℕ) (reads : List PageData) : Type 0 where
  worked : 1 ≤ took
  ended : completion ≤ 1048576
  gives : given < 2 ^ 32
  pages : All IsPage reads
  few : collects ≡ false → length reads ≤ 64
  none : collects ≡ true → reads ≡ []

abbrev head_with : Bool → ℕ → ℕ → ℕ → JobHead
head_with collects task release due = record { collects = collects; task = task; release = release; due = due }

abbrev row_with : Bool → ℕ → ℕ → ℕ → ℕ → ℕ → Option Waived → Bool → ℕ → ℕ → List PageData → ReportRow
row_with collects n task release due took waiver done completion given reads =
    row_by n (head_with collects task release due) took (outcome_by waiver done completion (lateness_of completion due) given reads)

done_row : (row : ReportRow) (n : ℕ) → n ≤ 1048576 → 1 ≤ row.work → row.lateness ≡ Some (lateness_of n row.due) → is_done_row row n ≡ true
done_row row n few worked late =
    and_from (nat_le n 1048576) (nat_le 1 row.work && is_late row.lateness (lateness_of n row.due)) (le-leb n 1048576 few)
    (and_from (nat_le 1 row.work) (is_late row.lateness (lateness_of n row.due)) (le-leb 1 row.work worked)
    (rw late ((Decides-int_eq (lateness_of n row.due) (lateness_of n row.due)).1 refl)))

done_outcome : (collects : Bool) (n task release due took c g : ℕ) (rs : List PageData) → IsEnded collects took c g rs
    → has_outcome (row_with collects n task release due took None true c g rs)
    (row_with collects n task release due took None true c g rs).row (Some c) ≡ true
done_outcome true n task release due took c g rs e =
    and_from (is_done_row (row_with true n task release due took None true c g rs) c) (length rs == 0)
    (done_row (row_with true n task release due took None true c g rs) c e.ended e.worked refl)
    (ap (λ (xs : List PageData). length xs == 0) (e.none refl))
done_outcome false n task release due took c g rs e =
    and_from (is_done_row (row_with false n task release due took None true c g rs) c) (nat_le (length rs) 64)
    (done_row (row_with false n task release due took None true c g rs) c e.ended e.worked refl)
    (le-leb (length rs) 64 (e.few refl))

row_good : (collects : Bool) (die n task release due took : ℕ) (o : Option Waived) (done : Bool) (c g : ℕ) (rs : List PageData)
    → IsPlaced die n task release due took
    → OfSome (λ (w : Waived). w.given < 2 ^ 32) o → (done ≡ true → IsEnded collects took c g rs)
    → IsRow die n (row_with collects n task release due took o done c g rs)
row_good collects die n task release due took (Some w) done c g rs p waived_given ended = record {
  sound = sound_if (on_die die (row_with collects n task release due took (Some w) done c g rs))
      (record { die = p.on_die; task = p.of_task; job = p.numbered; due = p.in_time; release = p.timed }) refl;
  number = refl;
  work = omega arith;
  given = waived_given;
  reads = All-nil IsPage;
}
row_good true die n task release due took None false c g rs p waived_given ended = record {
  sound = sound_if (on_die die (row_with true n task release due took None false c g rs))
      (record { die = p.on_die; task = p.of_task; job = p.numbered; due = p.in_time; release = p.timed }) refl;
  number = refl;
  work = p.fits;
  given = tt;
  reads = All-nil IsPage;
}
row_good false die n task release due took None false c g rs p waived_given ended = record {
  sound = sound_if (on_die die (row_with false n task release due took None false c g rs))
      (record { die = p.on_die; task = p.of_task; job = p.numbered; due = p.in_time; release = p.timed }) refl;
  number = refl;
  work = p.fits;
  given = tt;
  reads = All-nil IsPage;
}
row_good true die n task release due took None true c g rs p waived_given ended =
    let e = ended refl in
    record {
      sound = sound_if (on_die die (row_with true n task release due took None true c g rs))
          (record { die = p.on_die; task = p.of_task; job = p.numbered; due = p.in_time; release = p.timed })
          (done_outcome true n task release due took c g rs e);
      number = refl;
      work = p.fits;
      given = e.gives;
      reads = e.pages;
    }
row_good false die n task release due took None true c g rs p waived_given ended =
    let e = ended refl in
    record {
      sound = sound_if (on_die die (row_with false n task release due took None true c g rs))
          (record { die = p.on_die; task = p.of_task; job = p.numbered; due = p.in_time; release = p.timed })
          (done_outcome false n task release due took c g rs e);
      number = refl;
      work = p.fits;
      given = tt;
      reads = e.pages;
    }

-- Rows of a log

some_other : {X : Type 0} (P Q : X → Type 0) (o : Option X) → ((x : X) → P x → Q x) → OfSome P o → OfSome Q o
some_other P Q None f h = tt
some_other P Q (Some x) f h = f x h

alpha_small : (plan : DiePlan) → MeetsBound plan → plan.alpha ≤ 256
alpha_small plan bound = omega (arith, bound.limits.alpha_fits, bound.shape.few_pages)

job_placed : (plan : DiePlan) (log : Log) (die : ℕ) (j : Job) → MeetsBound plan → IsExact (fresh plan) log → die < 8 → Contains (jobs log) j
    → IsPlaced die j.number j.task j.release j.due (work j.number log)
job_placed plan log die j bound exact small stands =
    let limits = keeps_limits (fresh plan) log exact in
    let own = limits.each j stands in
    record {
      on_die = small;
      numbered = number_small plan log j bound exact stands;
      of_task = omega (arith, own.task, bound.limits.few_tasks);
      timed = own.time;
      in_time = own.due;
      fits = omega (arith, few_work j.number log, limits.slots);
    }

job_ended : (plan : DiePlan) (log : Log) (j : Job) → MeetsBound plan → IsExact (fresh plan) log → HasPages log → Contains (jobs log) j
    → is_done plan log j ≡ true
    → IsEnded j.collects (work j.number log) (completion j.number log) (pages_given (fresh plan) j.number log) (reads_of (acts j.number log))
job_ended plan log j bound exact asked stands done = record {
  worked = omega (arith, done_worked plan log j bound exact stands done);
  ended = omega (arith, completed_by_now j.number log, (keeps_limits (fresh plan) log exact).slots);
  gives = omega (arith, done_gives_few plan j.number log, alpha_small plan bound);
  pages = reads_are_pages plan log j bound exact asked stands;
  few = λ kind. few_reads plan log j exact stands kind done;
  none = collections_read_nothing plan log j bound exact asked stands;
}

job_row : (plan : DiePlan) (log : Log) (die : ℕ) (j : Job) → MeetsBound plan → IsExact (fresh plan) log → HasPages log → die < 8
    → Contains (jobs log) j → IsRow die j.number (report_row_of (fresh plan) log j)
job_row plan log die j bound exact asked small stands =
    row_good j.collects die j.number j.task j.release j.due (work j.number log) (waiver_among j.number (waived_collections log)) (is_done plan log j)
    (completion j.number log) (pages_given (fresh plan) j.number log) (reads_of (acts j.number log))
    (job_placed plan log die j bound exact small stands)
    (some_other (λ (w : Waived). w.given ≤ plan.alpha) (λ (w : Waived). w.given < 2 ^ 32) (waiver_among j.number (waived_collections log))
    (λ w few. omega (arith, few, alpha_small plan bound))
    (waived_gives_few plan log j.number (stands_well (fresh plan) (fresh_opens plan bound) log exact).1.legal))
    (job_ended plan log j bound exact asked stands)

rows_numbered : (plan : DiePlan) (log : Log) (die k : ℕ) (js : List Job) → AreNumbered k js
    → AllByRecursion (λ (j : Job). IsRow die j.number (report_row_of (fresh plan) log j)) js → AreRows die k (map (report_row_of (fresh plan) log) js)
rows_numbered plan log die k [] n h = tt
rows_numbered plan log die k (j ∷ js) n h =
    (subst (λ (i : ℕ). IsRow die i (report_row_of (fresh plan) log j)) n.0 h.0, rows_numbered plan log die (k + 1) js n.1 h.1)

-- Dies

pub exact_reports_are_well_formed : (plan : DiePlan) (log : Log) (die : ℕ) → MeetsBound plan → IsExact (fresh plan) log → HasPages log → die < 8 → 0
    < length (report_rows_of (fresh plan) log) → IsDie (die_report_of (fresh plan) log die)
exact_reports_are_well_formed plan log die bound exact asked small some = record {
  some_rows = some;
  rows = rows_numbered plan log die 0 (jobs log) (stands_well (fresh plan) (fresh_opens plan bound) log exact).0.numbered
      (contained_all (λ (j : Job). IsRow die j.number (report_row_of (fresh plan) log j)) (jobs log)
      (λ j stands. job_row plan log die j bound exact asked small stands));
  cert = has_cert plan log bound exact;
}

-- Reports

dies_above : (low high : ℕ) (dies : List DieReport) → low ≤ high → AreDies high dies → AreDies low dies
dies_above low high [] le h = tt
dies_above low high (d ∷ dies) le h = (omega (arith, le, h.0), h.1, h.2)

some_rows : (n : ℕ) → (n == 0) ≡ false → 0 < n
some_rows zero e = absurd (eqb-false 0 0 e refl)
some_rows (suc n) e = omega arith

reports_good : (die : ℕ) (plans : List DiePlan) (runs : List DieRun) → die + length plans ≤ 8 → AreExact plans runs
    → AreDies die (reports_from die plans runs)
reports_good die [] [] few h = tt
reports_good die [] (run ∷ runs) few h = absurd h
reports_good die (plan ∷ plans) [] few h = absurd h
reports_good die (plan ∷ plans) (run ∷ runs) few h = by_rows (length (report_rows_of (fresh plan) run.log) == 0) refl
    (reports_good (die + 1) plans runs (omega (arith, few)) h.3)
  where
    own : DieReport
    own = die_report_of (fresh plan) run.log die

    rest : List DieReport
    rest = reports_from (die + 1) plans runs

    by_rows : (b : Bool) → (length (report_rows_of (fresh plan) run.log) == 0) ≡ b → AreDies (die + 1) rest → AreDies die (cond b rest (own ∷ rest))
    by_rows true e later = dies_above die (die + 1) rest (omega arith) later
    by_rows false e later = (
      omega arith,
      exact_reports_are_well_formed plan run.log die h.0 h.1 h.2 (omega (arith, few)) (some_rows (length (report_rows_of (fresh plan) run.log)) e),
      later,
    )

pub reports_are_well_formed : (plans : List DiePlan) (runs : List DieRun) → length plans ≤ 8 → AreExact plans runs
    → IsReport (reports_from 0 plans runs)
reports_are_well_formed plans runs few h = reports_good 0 plans runs (omega (arith, few)) h
