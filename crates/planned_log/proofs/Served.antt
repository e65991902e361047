-- Each job that is due by now is done, and was by its deadline.
use Rattle.std.proofs.Common.{◌≡◌, ℕ, ◌≤◌, true, Some, ap, sym, ◌∙◌, inl, inr, arith, pos, ◌-ℤ◌, ◌≤ℤ◌}
use Rattle.std.specs.Prelude.{IsTrue}
use Rattle.std.proofs.lemmas.Bool.{true≢false}
use Rattle.std.proofs.lemmas.Int.{ints}
use Rattle.std.proofs.lemmas.Option.{same_Some}
use Rattle.demand_rules.specs.declared.terms.Terms.{Terms}
use Rattle.die_log.specs.Model.Log.{Log, Job, jobs, job_at, is_waived}
use Rattle.die_log.specs.Model.Lives.{Lives}
use Rattle.die_log.specs.Model.Work.{is_done, completion}
use Rattle.die_log.specs.Model.Start.{Start}
use Rattle.die_log.proofs.Legal.Exact.{stands_well}
use Rattle.die_log.proofs.LogInvariants.OneMoreEntry.{stands_at}
use Rattle.die_log.proofs.Supply.Waived.{waives_collections}
use Rattle.planned_log.specs.Laws.{IsKept, AreDoneInTime}
use Rattle.planned_log.proofs.Kept.{is_in_time}

by_deadline : (c d : ℕ) → (pos c -ℤ pos d) ≤ℤ pos 0 → c ≤ d
by_deadline c d h = omega (arith, ints, h)

pub done_in_time : (start : Start) (terms : Terms) (earlier : Lives) (life entered : ℕ) (log : Log) → IsKept start terms earlier life entered log
    → AreDoneInTime start.plan log
done_in_time start terms earlier life entered log k j stands kind due =
    let in_time = is_in_time start terms earlier life entered log k in
    let done : IsTrue (is_done start.plan log j) = elim (in_time.due_by_now j stands due) [
      | inl over ↦ over
      | inr gone ↦ absurd (unwaived gone)
    ] in
    (done, by_deadline (completion j.number log) j.due (in_time.never_late j stands done))
  where
    -- a job is never waived
    unwaived : is_waived log j.number ≡ true → ⊥
    unwaived gone =
        let c = waives_collections start k.opens log k.exact j.number gone in
        let at : job_at log j.number ≡ Some j = stands_at (jobs log) j (stands_well start k.opens log k.exact).0.numbered stands in
        true≢false (sym c.2 ∙ (ap (λ (i : Job). i.collects) (same_Some c.0 j (sym c.1 ∙ at)) ∙ kind))
