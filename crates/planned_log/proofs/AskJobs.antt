-- The jobs of an ask that isn't refused, one after the other, of either kind.
use Rattle.std.proofs.Common.{◌≡◌, ℕ, ◌+◌, ◌==◌, Bool, true, false, cond, List, [], ◌∷◌, length, None, refl, ap, ◌∙◌}
use Rattle.slot_types.specs.declared.events.Op.{Op}
use Rattle.slot_types.specs.Operations.{writes}
use Rattle.demand_rules.specs.declared.terms.Terms.{Terms}
use Rattle.die_log.specs.Model.Log.{Log, now}
use Rattle.die_log.specs.Model.Start.{Start}
use Rattle.die_log.specs.Model.Lives.{Lives, all_slots}
use Rattle.die_log.specs.Model.Answers.{after_call, with_answer, reply_if_accepted}
use Rattle.planned_log.specs.declared.ask_kinds.AskKind.{AskKind}
use Rattle.planned_log.specs.declared.ask_kinds.AskKind.TheVariants as kinds
use Rattle.planned_log.specs.Asks.{Asked, asked_by, asked_job, ask_refusal}
use Rattle.planned_log.specs.AskKinds.{refusal_as, jobs_as, with_jobs, with_asked}
use Rattle.planned_log.specs.Bursts.{AreUnrefused}
use Rattle.planned_log.specs.Laws.{IsKept}
use Rattle.planned_log.proofs.Kept.{after_accepted, ask_accepted, ask_goes_on}
use Rattle.planned_log.proofs.Bursts.{in_turn}

module _ (start : Start) (terms : Terms) (earlier : Lives) (life entered caller task : ℕ) where
  abbrev entering : Log → List Op → Log
  entering log ops = after_call start log (caller, asked_job terms log task ops)

  abbrev are_unrefused : Log → List (List Op) → Type 0
  are_unrefused log jobs = AreUnrefused start terms earlier life log caller task jobs

  -- one job is one entry more
  one_more : (log : Log) → IsKept start terms earlier life entered log → (ops : List Op)
      → ask_refusal start.plan terms life earlier log task ops ≡ None
      → entering log ops ≡ with_answer caller (asked_job terms log task ops) (reply_if_accepted start log (asked_job terms log task ops)) log
  one_more log k ops none = after_accepted start terms earlier life entered log k caller (asked_job terms log task ops)
      (ask_accepted start terms earlier life entered log k task ops none)

  one_asked : (log : Log) → IsKept start terms earlier life entered log → (ops : List Op)
      → ask_refusal start.plan terms life earlier log task ops ≡ None → (other : ℕ) (b : Bool) → (task == other) ≡ b
      → asked_by other (entering log ops ∷ earlier)
      ≡ cond b (record { at = all_slots earlier + now log; operations = length ops; writes = writes ops } ∷ asked_by other (log ∷ earlier))
      (asked_by other (log ∷ earlier))
  one_asked log k ops none other b is =
      ap (λ (l : Log). asked_by other (l ∷ earlier)) (one_more log k ops none)
      ∙ ap (λ c. cond c (record { at = all_slots earlier + now log; operations = length ops; writes = writes ops } ∷ asked_by other (log ∷ earlier))
      (asked_by other (log ∷ earlier))) is

  one_kept : (log : Log) → IsKept start terms earlier life entered log → (ops : List Op)
      → ask_refusal start.plan terms life earlier log task ops ≡ None → IsKept start terms earlier life entered (entering log ops)
  one_kept log k ops none = ask_goes_on start terms earlier life entered log k caller task ops none

  -- the log keeps the plan with all of them
  pub jobs_kept : (jobs : List (List Op)) (log : Log) → IsKept start terms earlier life entered log → are_unrefused log jobs
      → IsKept start terms earlier life entered (with_jobs start terms log caller task jobs)
  jobs_kept [] log k u = k
  jobs_kept (ops ∷ jobs) log k u = jobs_kept jobs (entering log ops) (one_kept log k ops u.0) u.1

  -- in the same slot
  pub jobs_now : (jobs : List (List Op)) (log : Log) → IsKept start terms earlier life entered log → are_unrefused log jobs
      → now (with_jobs start terms log caller task jobs) ≡ now log
  jobs_now [] log k u = refl
  jobs_now (ops ∷ jobs) log k u = jobs_now jobs (entering log ops) (one_kept log k ops u.0) u.1 ∙ ap now (one_more log k ops u.0)

  -- other tasks have asked for what they had
  pub jobs_others : (other : ℕ) → (task == other) ≡ false → (jobs : List (List Op)) (log : Log) → IsKept start terms earlier life entered log
      → are_unrefused log jobs → asked_by other (with_jobs start terms log caller task jobs ∷ earlier) ≡ asked_by other (log ∷ earlier)
  jobs_others other away [] log k u = refl
  jobs_others other away (ops ∷ jobs) log k u =
      jobs_others other away jobs (entering log ops) (one_kept log k ops u.0) u.1 ∙ one_asked log k ops u.0 other false away

  -- and the task for these jobs, too
  pub jobs_own : (own : ℕ) → (task == own) ≡ true → (jobs : List (List Op)) (log : Log) → IsKept start terms earlier life entered log
      → are_unrefused log jobs
      → asked_by own (with_jobs start terms log caller task jobs ∷ earlier) ≡ with_asked (all_slots earlier + now log) jobs (asked_by own (log ∷ earlier))
  jobs_own own same [] log k u = refl
  jobs_own own same (ops ∷ jobs) log k u =
      jobs_own own same jobs (entering log ops) (one_kept log k ops u.0) u.1
      ∙ (ap (λ n. with_asked (all_slots earlier + n) jobs (asked_by own (entering log ops ∷ earlier))) (ap now (one_more log k ops u.0))
      ∙ ap (λ (l : List Asked). with_asked (all_slots earlier + now log) jobs l) (one_asked log k ops u.0 own true same))

  -- each job of an ask that isn't refused isn't
  pub unrefused_as : (kind : AskKind) (log : Log) → IsKept start terms earlier life entered log → (ops : List Op)
      → refusal_as kind start.plan terms life earlier log task ops ≡ None → are_unrefused log (jobs_as kind ops)
  unrefused_as kinds.Job log k ops none = (none, tt)
  unrefused_as kinds.Burst log k ops none = in_turn start terms earlier life entered caller task ops log k (λ some. none)
