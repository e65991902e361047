-- Each job of a burst is an ask that is accepted, and what is left of it is a burst that isn't refused.
use Rattle.std.proofs.Common.{◌≡◌, ℕ, ◌+◌, ◌<◌, ◌≤◌, true, false, List, ◌∷◌, [], ◌++◌, length, take, drop, Option, None, Some, Err, ap, sym, subst, ◌∙◌, inl, inr, arith}
use Rattle.std.specs.Prelude.{IfSome, IfNone}
use Rattle.std.proofs.lemmas.Bool.{true≢false}
use Rattle.std.proofs.lemmas.List.{length_push}
use Rattle.slot_types.specs.declared.limits.TheConstants.{MAX_OPS, MAX_SLOT}
use Rattle.slot_types.specs.declared.events.Op.{Op}
use Rattle.slot_types.specs.declared.events.Event.{Event}
use Rattle.slot_types.specs.declared.replies.Reply.TheVariants as replies
use Rattle.demand_rules.specs.declared.terms.Terms.{Terms}
use Rattle.demand_rules.specs.Demand.{terms_of}
use Rattle.demand_rules.proofs.Fitting.{task_terms}
use Rattle.die_log.specs.Model.Log.{Log, Job, jobs, now}
use Rattle.die_log.specs.Model.Start.{Start}
use Rattle.die_log.specs.Model.Answers.{after_call, reply_if_accepted}
use Rattle.die_log.specs.Model.Lives.{Lives, all_slots}
use Rattle.die_log.proofs.Legality.{accepted_answer}
use Rattle.slot_core.specs.Core.{Core}
use Rattle.planned_log.specs.declared.refusals.AskRefusal.{AskRefusal}
use Rattle.planned_log.specs.Asks.{asked_job, asked_by, burst_refusal}
use Rattle.planned_log.specs.Bursts.{jobs_of}
use Rattle.planned_log.proofs.Asking.{timely}
use Rattle.planned_log.proofs.Bursts.{job_unrefused, left_unrefused, jobs_more}
use Rattle.planned_log.proofs.Kept.{ask_accepted}
use Rattle.planned_die.specs.Planned.{Planned, HasLived}
use Rattle.planned_die.specs.PlannedCalls.{refusal_in, burst_refusal_in, HasAsked, HaveAsked, IsAsk, RefusesBurst}
use Rattle.planned_die.proofs.Cores.{entered_log}

-- what the plan doesn't refuse isn't refused while the die runs
pub never_refused : {N : Type 0} (caller task : ℕ) (ops : List Op) (earlier : Lives) (refusal : AskRefusal) (before after : Planned N)
    → before.core.stopped ≡ false → refusal_in before earlier task ops ≡ None → IsAsk caller task ops earlier (Err refusal) before after → ⊥
never_refused caller task ops earlier refusal before after runs none h = elim h.1 [
  | inl stopped ↦ true≢false (sym stopped.0 ∙ runs)
  | inr why ↦ other refusal (sym none ∙ why.1)
]
  where
    other : (r : AskRefusal) → None ≡ Some r → ⊥
    other r e = absurd cc

-- why a burst is refused while the die runs, and that it isn't
pub some_refused : {N : Type 0} (die : Planned N) (task : ℕ) (ops : List Op) (o : Option AskRefusal) → die.core.stopped ≡ false
    → ((earlier : Lives) → HasLived die earlier → o ≡ burst_refusal_in die earlier task ops)
    → IfSome o (λ refusal. (earlier : Lives) → HasLived die earlier → RefusesBurst task ops earlier refusal die)
some_refused die task ops None runs why = tt
some_refused die task ops (Some refusal) runs why = λ earlier h. inr (runs, sym (why earlier h))

pub none_refused : {N : Type 0} (die : Planned N) (task : ℕ) (ops : List Op) (o : Option AskRefusal)
    → ((earlier : Lives) → HasLived die earlier → o ≡ burst_refusal_in die earlier task ops)
    → IfNone o ((earlier : Lives) → HasLived die earlier → burst_refusal_in die earlier task ops ≡ None)
none_refused die task ops None why = λ earlier h. sym (why earlier h)
none_refused die task ops (Some refusal) why = tt

-- A job that was entered
module _ {N : Type 0} (die after : Planned N) (earlier : Lives) (h : HasLived die earlier) (caller task number : ℕ) (job : List Op)
    (asked : HasAsked caller task job earlier number die after) where
  abbrev event : Event
  event = asked_job die.terms die.core.log task job

  start_is : after.core.start ≡ die.core.start
  start_is = ap (λ (c : Core N). c.start) asked.entered.logged

  log_is : after.core.log ≡ after_call die.core.start die.core.log (caller, event)
  log_is = ap (λ (c : Core N). c.log) (entered_log caller event number die.core after.core asked.entered)

  pub runs_on : after.core.stopped ≡ die.core.stopped
  runs_on = ap (λ (c : Core N). c.stopped) asked.entered.logged

  -- it has the next number
  pub number_is : number ≡ length (jobs die.core.log)
  number_is = sym (same (length (jobs die.core.log)) number (sym (accepted_answer die.core.start die.core.log event
      (ask_accepted die.core.start die.terms earlier die.life die.entered die.core.log h.kept task job asked.unrefused)) ∙ asked.entered.answered))
    where
      same : (m n : ℕ) → replies.Taken m ≡ replies.Taken n → m ≡ n
      same m n e = cc

  pub next_number : length (jobs after.core.log) ≡ number + 1
  next_number = omega (
    arith,
    ap (λ (c : Core N). length (jobs c.log)) asked.entered.logged,
    length_push (jobs die.core.log) taken,
    number_is,
  )
    where
      taken : Job
      taken = record {
        number = number;
        collects = false;
        task = task;
        release = now die.core.log;
        due = now die.core.log + (terms_of die.terms task).deadline;
        ops = job;
      }

  -- in the plan it leaves what its entry does
  pub refused_then : (ops : List Op)
      → burst_refusal_in after earlier task ops ≡ burst_refusal die.core.start.plan die.terms die.life earlier (after_call die.core.start die.core.log (caller, event)) task ops
  refused_then ops =
      ap (λ (s : Start). burst_refusal s.plan after.terms after.life earlier after.core.log task ops) start_is
      ∙ (ap (λ (l : Log). burst_refusal die.core.start.plan after.terms after.life earlier l task ops) log_is
      ∙ ap (λ (p : Planned N). burst_refusal die.core.start.plan p.terms p.life earlier (after_call die.core.start die.core.log (caller, event)) task ops)
      asked.stays)

-- A burst that isn't refused
module _ {N : Type 0} (die : Planned N) (earlier : Lives) (h : HasLived die earlier) (caller task : ℕ) (ops : List Op)
    (none : burst_refusal_in die earlier task ops ≡ None) where
  pub job_none : refusal_in die earlier task (take MAX_OPS ops) ≡ None
  job_none = job_unrefused die.core.start die.terms earlier die.life die.entered caller task die.core.log h.kept ops none

  pub left_none : (after : Planned N) (number : ℕ) → HasAsked caller task (take MAX_OPS ops) earlier number die after
      → 1 ≤ length (drop MAX_OPS ops) → burst_refusal_in after earlier task (drop MAX_OPS ops) ≡ None
  left_none after number asked some =
      refused_then die after earlier h caller task number (take MAX_OPS ops) asked (drop MAX_OPS ops)
      ∙ left_unrefused die.core.start die.terms earlier die.life die.entered caller task die.core.log h.kept ops none some

  -- it has no more operations than a life has slots
  pub few_ops : (1 ≤ length ops) × (length ops ≤ MAX_SLOT)
  few_ops =
      let t = timely (terms_of die.terms task).work die.core.start.plan die.terms die.life (all_slots earlier) (now die.core.log)
      (asked_by task (die.core.log ∷ earlier)) task ops none in
      let own = task_terms die.core.start.plan die.terms task h.kept.demand.has t.task_is in
      (t.some, omega (arith, t.few, own.few_work))

-- The first job and those of what is left are the jobs
pub one_more : {N : Type 0} (caller task number next : ℕ) (ops : List Op) (earlier : Lives) (die between after : Planned N) → 1 ≤ length ops
    → next ≡ number + 1
    → HasAsked caller task (take MAX_OPS ops) earlier number die between → HaveAsked caller task (jobs_of (drop MAX_OPS ops)) earlier next between after
    → HaveAsked caller task (jobs_of ops) earlier number die after
one_more {N} caller task number next ops earlier die between after some is asked rest =
    subst (λ (js : List (List Op)). HaveAsked caller task js earlier number die after) (sym (jobs_more ops some))
    (between, (asked, subst (λ n. HaveAsked caller task (jobs_of (drop MAX_OPS ops)) earlier n between after) is rest))
