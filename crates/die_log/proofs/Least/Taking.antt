-- A job or collection that is taken brings a row, and no other row changes.
use Rattle.std.proofs.Common.{◌≡◌, ◌⊎◌, ℕ, ◌≤◌, Bool, false, cond, List, [], ◌∷◌, ◌++◌, length, Some, None, refl, ap, sym, ◌∙◌, inl, inr}
use Rattle.std.proofs.Common.{arith, slice_get, option_map}
use Rattle.std.proofs.lemmas.Bool.{cases_eq}
use Rattle.std.proofs.lemmas.List.{length-map}
use Rattle.std.proofs.lemmas.Option.{slice_get_past}
use Rattle.slot_types.specs.declared.plans.DiePlan.{DiePlan}
use Rattle.slot_types.specs.declared.acts.Act.{Act}
use Rattle.late_cert.specs.declared.rows.JobRow.{JobRow}
use Rattle.late_cert.specs.BusyInterval.{CarriesLeastKeys}
use Rattle.late_cert.proofs.Moments.{accepts-keeps}
use Rattle.die_log.specs.Model.Log.{Log, Job, jobs, carried_slots, now, acts, is_waived}
use Rattle.die_log.specs.Model.Work.{are_all, completion}
use Rattle.die_log.specs.Model.Answers.{IsExact}
use Rattle.die_log.specs.Invariants.RunningCollections.{AreNumbered}
use Rattle.die_log.specs.Model.Rows.{row_for, rows, carried_numbers}
use Rattle.die_log.proofs.Collecting.{no_acts, not_waived}
use Rattle.die_log.proofs.LogInvariants.OneMoreEntry.{numbered_push, at_end, elsewhere}
use Rattle.die_log.proofs.Least.Lookups.{rows_by, row_in, Named, rows_rise, row_at}
use Rattle.die_log.proofs.Least.Steps.{IsNew, IsKept, accepts_by}
use Rattle.die_log.specs.Model.Start.{Start}

-- a new number, which wasn't waived, at the end of the jobs
adds_row : (row : Job → JobRow) (gone : ℕ → Bool) (js : List Job) (new : Job) (k : ℕ) → Named row → AreNumbered 0 js → new.number
    ≡ length js → gone (length js) ≡ false
    → IsNew (rows_by row gone js) (rows_by row gone (js ++ new ∷ [])) (length js) k (row new)
    ⊎ IsKept (rows_by row gone js) (rows_by row gone (js ++ new ∷ [])) (length js) k
adds_row row gone js new k named numbered number stays =
    let longer : AreNumbered 0 (js ++ new ∷ []) = numbered_push 0 js new numbered (omega (arith, number)) in
    elim (cases_eq k (length js)) [
      | inl e ↦ inl (record {
        is = e;
        before = row_at row gone js k named numbered ∙ ap (row_in row (gone k)) (slice_get_past js k (omega (arith, e)));
        after = row_at row gone (js ++ new ∷ []) k named longer
            ∙ (ap (row_in row (gone k)) (ap (slice_get (js ++ new ∷ [])) e ∙ at_end js new)
            ∙ ap (λ (b : Bool). row_in row b (Some new)) (ap gone e ∙ stays));
      })
      | inr apart ↦ inr (record {
        apart = apart;
        same = row_at row gone (js ++ new ∷ []) k named longer
            ∙ (ap (row_in row (gone k)) (elsewhere js new k apart) ∙ sym (row_at row gone js k named numbered));
      })
    ]

without_completion : (plan : DiePlan) (j : Job) (own : List Act) (n : ℕ) → own ≡ [] → are_all plan j [] ≡ false
    → cond (are_all plan j own) (Some n) None ≡ None
without_completion plan j own n e undone = ap (λ (b : Bool). cond b (Some n) None) (ap (are_all plan j) e ∙ undone)

-- what is taken waits at first, and is not released before the present slot
pub taken_keeps : (start : Start) (past : Log) (new : Job) → IsExact start past → AreNumbered 0 (jobs past) → new.number
    ≡ length (jobs past) → are_all start.plan new [] ≡ false → now past ≤ new.release
    → CarriesLeastKeys (rows start.plan past) (carried_numbers past)
    → CarriesLeastKeys (rows_by (row_for start.plan past) (is_waived past) (jobs past ++ new ∷ [])) (carried_numbers past)
taken_keeps start past new exact numbered number undone later keys =
    let row : Job → JobRow = row_for start.plan past in
    let own : acts new.number past ≡ [] = ap (λ (n : ℕ). acts n past) number ∙ no_acts start past exact in
    accepts-keeps (rows start.plan past) (rows_by row (is_waived past) (jobs past ++ new ∷ [])) (carried_numbers past) (length (jobs past)) keys (
    accepts_by (rows start.plan past) (rows_by row (is_waived past) (jobs past ++ new ∷ [])) (carried_numbers past) (length (jobs past)) (row new)
    (rows_rise row (is_waived past) (jobs past ++ new ∷ []) (λ j. refl) (numbered_push 0 (jobs past) new numbered (omega (arith, number))))
    (λ k. adds_row row (is_waived past) (jobs past) new k (λ j. refl) numbered number (not_waived start past exact))
    (without_completion start.plan new (acts new.number past) (completion new.number past) own undone)
    (ap (λ (l : List Act). length l) own)
    (omega (arith, later, length-map (carried_slots past) (λ c. option_map (λ ran. ran.0) c)))
    )
