use Rattle.std.proofs.Common.{◌≡◌, ℕ, List, Option, Some, None, slice_get, option_map, refl, ap, sym, ◌∙◌}
use Rattle.std.proofs.lemmas.Option.{slice_get-map}
use Rattle.slot_types.specs.declared.events.JobHead.{JobHead}
use Rattle.job_table.specs.Jobs.{JobRecord}
use Rattle.die_log.specs.Model.Log.{Log, Job, job_at, jobs, waived_collections}
use Rattle.die_log.specs.Model.Start.{Start, over}
use Rattle.slot_core.specs.Outcomes.{head_at, head_in, head_of}
use Rattle.slot_core.specs.Records.{record_with, job_records}
use Rattle.slot_core.specs.TableLog.{log_of}
use Rattle.slot_core.proofs.die_core.DieCore.job.Goals as goal

job_told : (start : Start) (log : Log) (js : List JobRecord) (n : ℕ) (r : JobRecord) → js ≡ job_records start log → slice_get js n ≡ Some r
    → head_at log n ≡ Some (head_in r)
job_told start log js n r is at = by_job (slice_get (jobs log) n)
    (sym (slice_get-map (record_with start log (waived_collections log)) (jobs log) n) ∙ ap (λ (rs : List JobRecord). slice_get rs n) (sym is) ∙ at)
  where
    by_job : (o : Option Job) → option_map (record_with start log (waived_collections log)) o ≡ Some r → option_map head_of o ≡ Some (head_in r)
    by_job (Some j) e = ap (λ (o : Option JobRecord). option_map head_in o) e
    by_job None e = absurd cc

job_missing : (start : Start) (log : Log) (js : List JobRecord) (n : ℕ) → js ≡ job_records start log → slice_get js n ≡ None → job_at log n ≡ None
job_missing start log js n is at = by_job (slice_get (jobs log) n)
    (sym (slice_get-map (record_with start log (waived_collections log)) (jobs log) n) ∙ ap (λ (rs : List JobRecord). slice_get rs n) (sym is) ∙ at)
  where
    by_job : (o : Option Job) → option_map (record_with start log (waived_collections log)) o ≡ None → o ≡ None
    by_job (Some j) e = absurd cc
    by_job None e = refl

not_missing : (log : Log) (n : ℕ) (h : JobHead) → head_at log n ≡ Some h → job_at log n ≡ None → ⊥
not_missing log n h at none = let nothing = ap (λ (o : Option Job). option_map head_of o) none in cc

pub returns-in-None-clause-ok : goal.returns-in-None-clause-ok
returns-in-None-clause-ok g c = tt

pub returns-in-None-clause-unknown : goal.returns-in-None-clause-unknown
returns-in-None-clause-unknown g c =
    rw (← c.self.view_is) (
      (λ e. job_missing (over c.self.inside.volume.accounts.plan c.self.inside.start)
          (log_of c.self.inside.table c.self.inside.events.notes) c.self.inside.table.jobs c.args.number c.self.invariant.0.kept.jobs_are
          (c.job.ensures ∙ c.in-None.is)),
      (λ e. refl),
    )

pub returns-in-None-clause-refused : goal.returns-in-None-clause-refused
returns-in-None-clause-refused g c = refl

pub returns-in-Some-clause-ok : goal.returns-in-Some-clause-ok
returns-in-Some-clause-ok g c =
    rw (← c.self.view_is) (job_told (over c.self.inside.volume.accounts.plan c.self.inside.start)
    (log_of c.self.inside.table c.self.inside.events.notes) c.self.inside.table.jobs c.args.number c.in-Some.kept c.self.invariant.0.kept.jobs_are
    (c.job.ensures ∙ c.in-Some.is) ∙ ap Some (sym c.head_in.ensures))

pub returns-in-Some-clause-unknown : goal.returns-in-Some-clause-unknown
returns-in-Some-clause-unknown g c =
    ((λ e. absurd cc), (λ none. absurd (not_missing c.args.self.now.log c.args.number _ (returns-in-Some-clause-ok g c) none)))

pub returns-in-Some-clause-refused : goal.returns-in-Some-clause-refused
returns-in-Some-clause-refused g c = tt
