use Rattle.std.proofs.Common.{◌≡◌, ℕ, Bool, true, false, List, Option, Some, None, slice_get, option_map, refl, ap, sym, ◌∙◌, ◌⊎◌, inl, inr}
use Rattle.std.proofs.lemmas.Option.{slice_get-map}
use Rattle.std.specs.Prelude.{Result, Ok, Err, IfOk, IfErr}
use Rattle.slot_types.specs.Refusal.{FailsForMemory}
use Rattle.slot_types.specs.declared.pages.PageData.{PageData}
use Rattle.slot_types.specs.declared.replies.Waived.{Waived}
use Rattle.slot_types.specs.declared.refusals.Refusal.{Refusal}
use Rattle.slot_types.specs.declared.refusals.Refusal.TheVariants.{UnknownJob, NoMemory}
use Rattle.late_cert.specs.Schedule as slots
use Rattle.job_table.specs.Jobs.{JobRecord}
use Rattle.die_log.specs.Model.Log.{Log, Job, job_at, jobs, acts, waived_collections}
use Rattle.die_log.specs.Model.Work.{is_done, completion}
use Rattle.die_log.specs.Model.Start.{Start, over}
use Rattle.slot_core.specs.declared.outcomes.Outcome.{Outcome}
use Rattle.slot_core.specs.Outcomes.{outcome_at, outcome_in, outcome_of, outcome_as, outcome_by, reads_given}
use Rattle.slot_core.specs.Records.{record_with, job_records, stage_by, waiver_among, pages_given, reads_of}
use Rattle.slot_core.specs.TableLog.{log_of}
use Rattle.slot_core.proofs.die_core.DieCore.outcome.Goals as goal

staged : (w : Option Waived) (d : Bool) (completion given due : ℕ) (reads : List PageData)
    → outcome_by w d completion (slots.lateness_of completion due) given reads ≡ outcome_as (stage_by w d completion given) due reads
staged (Some w) d completion given due reads = refl
staged None true completion given due reads = refl
staged None false completion given due reads = refl

job_told : (start : Start) (log : Log) (js : List JobRecord) (n : ℕ) (r : JobRecord) → js ≡ job_records start log → slice_get js n ≡ Some r
    → outcome_at start log n ≡ Some (outcome_in r)
job_told start log js n r is at = by_job (slice_get (jobs log) n)
    (sym (slice_get-map (record_with start log (waived_collections log)) (jobs log) n) ∙ ap (λ (rs : List JobRecord). slice_get rs n) (sym is) ∙ at)
  where
    by_job : (o : Option Job) → option_map (record_with start log (waived_collections log)) o ≡ Some r
        → option_map (outcome_of start log) o ≡ Some (outcome_in r)
    by_job (Some j) e = ap Some (staged (waiver_among j.number (waived_collections log)) (is_done start.plan log j) (completion j.number log)
        (pages_given start j.number log) j.due (reads_of (acts j.number log))) ∙ ap (λ (o : Option JobRecord). option_map outcome_in o) e
    by_job None e = absurd cc

job_missing : (start : Start) (log : Log) (js : List JobRecord) (n : ℕ) → js ≡ job_records start log → slice_get js n ≡ None → job_at log n ≡ None
job_missing start log js n is at = by_job (slice_get (jobs log) n)
    (sym (slice_get-map (record_with start log (waived_collections log)) (jobs log) n) ∙ ap (λ (rs : List JobRecord). slice_get rs n) (sym is) ∙ at)
  where
    by_job : (o : Option Job) → option_map (record_with start log (waived_collections log)) o ≡ None → o ≡ None
    by_job (Some j) e = absurd cc
    by_job None e = refl

not_missing : (start : Start) (log : Log) (n : ℕ) (x : Outcome) → outcome_at start log n ≡ Some x → job_at log n ≡ None → ⊥
not_missing start log n x at none = let nothing = ap (λ (o : Option Job). option_map (outcome_of start log) o) none in cc

same_outcome : (o : Option Outcome) (x y : Outcome) → o ≡ Some x → o ≡ Some y → x ≡ y
same_outcome o x y is at = cc

ok_where : (r : Result Outcome Refusal) (x : Outcome) (o : Option Outcome) → IfOk r (λ y. y ≡ x) → o ≡ Some x → IfOk r (λ y. o ≡ Some y)
ok_where (Ok y) x o is at = at ∙ ap Some (sym is)
ok_where (Err e) x o is at = tt

not_unknown : (r : Result Outcome Refusal) → FailsForMemory r → r ≡ Err UnknownJob → ⊥
not_unknown (Ok y) memory is = cc
not_unknown (Err e) memory is = cc

memory_refused : (r : Result Outcome Refusal) → FailsForMemory r → IfErr r (λ e. (e ≡ UnknownJob) ⊎ (e ≡ NoMemory))
memory_refused (Ok y) memory = tt
memory_refused (Err e) memory = inr memory

pub returns-in-None-clause-ok : goal.returns-in-None-clause-ok
returns-in-None-clause-ok g c = tt

pub returns-in-None-clause-unknown : goal.returns-in-None-clause-unknown
returns-in-None-clause-unknown g c =
    rw (← c.self.view_is) (
      (λ e. job_missing (over c.self.inside.volume.accounts.plan c.self.inside.start)
          (log_of c.self.inside.table c.self.inside.events.notes) c.self.inside.table.jobs c.args.job c.self.invariant.0.kept.jobs_are
          (c.job.ensures ∙ c.in-None.is)),
      (λ e. refl),
    )

pub returns-in-None-clause-nothing : goal.returns-in-None-clause-nothing
returns-in-None-clause-nothing g c = λ x at empty.
    absurd (not_missing c.args.self.now.start c.args.self.now.log c.args.job x at ((returns-in-None-clause-unknown g c).0 refl))

pub returns-in-None-clause-refused : goal.returns-in-None-clause-refused
returns-in-None-clause-refused g c = inl refl

pub returns-in-Some-clause-ok : goal.returns-in-Some-clause-ok
returns-in-Some-clause-ok g c =
    rw (← c.self.view_is) (ok_where c.outcome_in.result _ _ c.outcome_in.ensures.ok
    (job_told (over c.self.inside.volume.accounts.plan c.self.inside.start)
    (log_of c.self.inside.table c.self.inside.events.notes) c.self.inside.table.jobs c.args.job c.in-Some.kept c.self.invariant.0.kept.jobs_are
    (c.job.ensures ∙ c.in-Some.is)))

pub returns-in-Some-clause-unknown : goal.returns-in-Some-clause-unknown
returns-in-Some-clause-unknown g c =
    let told : outcome_at c.args.self.now.start c.args.self.now.log c.args.job ≡ Some (outcome_in c.in-Some.kept) =
    rw (← c.self.view_is) (job_told (over c.self.inside.volume.accounts.plan c.self.inside.start)
    (log_of c.self.inside.table c.self.inside.events.notes) c.self.inside.table.jobs c.args.job c.in-Some.kept c.self.invariant.0.kept.jobs_are
    (c.job.ensures ∙ c.in-Some.is)) in (
      (λ is. absurd (not_unknown c.outcome_in.result c.outcome_in.ensures.refused is)),
      (λ none. absurd (not_missing c.args.self.now.start c.args.self.now.log c.args.job _ told none)),
    )

pub returns-in-Some-clause-nothing : goal.returns-in-Some-clause-nothing
returns-in-Some-clause-nothing g c =
    let told : outcome_at c.args.self.now.start c.args.self.now.log c.args.job ≡ Some (outcome_in c.in-Some.kept) =
    rw (← c.self.view_is) (job_told (over c.self.inside.volume.accounts.plan c.self.inside.start)
    (log_of c.self.inside.table c.self.inside.events.notes) c.self.inside.table.jobs c.args.job c.in-Some.kept c.self.invariant.0.kept.jobs_are
    (c.job.ensures ∙ c.in-Some.is)) in λ x at empty.
    c.outcome_in.ensures.nothing (ap reads_given (same_outcome _ _ x told at) ∙ empty)

pub returns-in-Some-clause-refused : goal.returns-in-Some-clause-refused
returns-in-Some-clause-refused g c = memory_refused c.outcome_in.result c.outcome_in.ensures.refused
