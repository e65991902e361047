-- What stands of a die over all its lives.
use Rattle.std.proofs.Common.{◌≡◌, ℕ, ◌+◌, ◌<◌, ◌≤◌, ◌==◌, Bool, true, false, cond, List, [], ◌∷◌, length, map, get_or, Option, None, Some, refl, ap, sym, subst, ◌∙◌, arith}
use Rattle.std.proofs.lemmas.List.Sums.{sum_by-cons}
use Rattle.std.proofs.lemmas.Bool.Decides.{nat_tests}
use Rattle.slot_types.specs.declared.events.Op.{Op}
use Rattle.slot_types.specs.declared.events.Event.TheVariants as events
use Rattle.slot_types.specs.declared.refusals.Refusal.{Refusal}
use Rattle.demand_rules.specs.declared.terms.Terms.{Terms}
use Rattle.demand_rules.specs.Demand.{terms_of}
use Rattle.die_log.specs.Model.Log.{Log, now}
use Rattle.die_log.specs.Model.Start.{Start}
use Rattle.die_log.specs.Model.Lives.{Lives, all_slots}
use Rattle.ongoing_log.specs.PastLives.{PastLife, starts_after, counted, HavePassed}
use Rattle.die_log.specs.Model.Answers.{answer, answer_by, refusal_of, with_answer, after_call}
use Rattle.planned_log.specs.declared.refusals.AskRefusal.{AskRefusal}
use Rattle.planned_log.specs.declared.ask_kinds.AskKind.TheVariants as kinds
use Rattle.planned_log.specs.Asks.{asked_job, burst_refusal}
use Rattle.planned_log.specs.AskKinds.{with_jobs}
use Rattle.planned_log.specs.Bursts.{jobs_of}
use Rattle.planned_log.specs.Moves.{Ask, after_ask, after_move, after_moves}
use Rattle.ongoing_log.specs.Ongoing.{Ongoing, WaitingAsk, asks_of, start_of, clock_of, due_at, let_in, next_life, living_on, going_on, IsOngoing}
use Rattle.ongoing_log.proofs.WhatWaits.{none_of_all, all_left}
use Rattle.ongoing_log.proofs.GoingOn.{stays_so}
use Rattle.planned_die.specs.Planned.{HasLived}
use Rattle.ongoing_die.specs.Standing.{OngoingParts, NoneIsDue, standing, StandsAs}

-- in a life that hasn't ended
pub still_lives : (life : ℕ) (d : Ongoing) → now d.log < life → living_on life d ≡ d
still_lives life d lt =
    let away : (now d.log == life) ≡ false = grind (arith, nat_tests, lt) in
    rw away refl

-- and in one that has
pub next_lives : (life : ℕ) (d : Ongoing) → now d.log ≡ life → living_on life d ≡ next_life d
next_lives life d over =
    let there : (now d.log == life) ≡ true = grind (arith, nat_tests, over) in
    rw there refl

-- what waits, where none is due, waits for another slot
waits_else : (slot : ℕ) (v : Option WaitingAsk) (w : WaitingAsk) → due_at slot v ≡ None → v ≡ Some w → (w.until == slot) ≡ false
waits_else slot v w none is = by (w.until == slot) refl (sym (ap (due_at slot) is) ∙ none)
  where
    by : (b : Bool) → (w.until == slot) ≡ b → due_at slot (Some w) ≡ None → (w.until == slot) ≡ false
    by false e none_there = e
    by true e none_there = let no : Some w ≡ None = sym (rw e refl) ∙ none_there in absurd cc

-- and nothing enters
pub none_enters : (first : Start) (terms : Terms) (life : ℕ) (d : Ongoing) → NoneIsDue (clock_of d) d.waiting → let_in first terms life d ≡ d
none_enters first terms life d none =
    let away : (task : ℕ) (w : WaitingAsk) → get_or d.waiting task None ≡ Some w → (w.until == clock_of d) ≡ false =
    λ task w e. waits_else (clock_of d) (get_or d.waiting task None) w (none task) e in
    λ i. record d {
      log = after_moves (start_of first d) terms (counted d.earlier) life d.log (none_of_all (clock_of d) d.waiting away 0 i);
      waiting = all_left (clock_of d) d.waiting away i;
    }

module _ {N : Type 0} (first : Start) (d : Ongoing) (parts : OngoingParts N) where
  -- within a life, and where none is due, the die stands as its parts say
  pub within : (s : StandsAs first d parts) → parts.die.core.stopped ≡ false → now parts.die.core.log < parts.die.life
      → NoneIsDue (parts.die.first + now parts.die.core.log) parts.waiting → d ≡ standing parts s.past
  within s runs lt none =
      (s.runs runs).stands
      ∙ (ap (let_in first parts.die.terms parts.die.life) (still_lives parts.die.life (standing parts s.past) lt)
      ∙ none_enters first parts.die.terms parts.die.life (standing parts s.past)
      (subst (λ n. NoneIsDue (n + now parts.die.core.log) parts.waiting) s.lived.began none))

  -- what its parts say keeps the plan
  pub stands_in : (past : List PastLife) → HasLived parts.die (counted past) → parts.die.core.start ≡ starts_after first past → d ≡ standing parts past
      → IsOngoing first parts.die.terms parts.die.life d → parts.die.entered ≡ 0 → StandsAs first d parts
  stands_in past lived starts is k whole = record {
    past = past;
    lived = lived;
    starts = starts;
    passed = subst (λ (e : Ongoing). HavePassed first parts.die.life e.earlier) is k.passed;
    one_each = ap (λ (e : Ongoing). length e.waiting) (sym is)
        ∙ (k.tasks ∙ (ap (λ (e : Ongoing). length (start_of first e).plan.caps) is ∙ ap (λ (s : Start). length s.plan.caps) (sym starts)));
    runs = λ runs. record {
      stands = is ∙ sym (stays_so first parts.die.terms parts.die.life (standing parts past) (subst (IsOngoing first parts.die.terms parts.die.life) is k));
      goes_on = k;
      whole = whole;
    };
  }

-- The clock

-- no ask carries a slot out
asked_now : (start : Start) (log : Log) (caller task release due : ℕ) (ops : List Op)
    → now (after_call start log (caller, events.Submit task release due ops)) ≡ now log
unfolding answer
asked_now start log caller task release due ops = by (refusal_of start log (events.Submit task release due ops))
  where
    by : (o : Option Refusal) → now (with_answer caller (events.Submit task release due ops) (answer_by start log (events.Submit task release due ops) o) log) ≡ now log
    by None = refl
    by (Some refusal) = refl

-- nor do the jobs of one
jobs_now : (start : Start) (terms : Terms) (log : Log) (caller task : ℕ) (jobs : List (List Op))
    → now (with_jobs start terms log caller task jobs) ≡ now log
jobs_now start terms log caller task [] = refl
jobs_now start terms log caller task (ops ∷ jobs) =
    jobs_now start terms (after_call start log (caller, asked_job terms log task ops)) caller task jobs
    ∙ asked_now start log caller task (now log) (now log + (terms_of terms task).deadline) ops

entered_now : (start : Start) (terms : Terms) (earlier : Lives) (life n : ℕ) (ws : List (Option WaitingAsk)) (log : Log)
    → now (after_moves start terms earlier life log (asks_of n ws)) ≡ now log
entered_now start terms earlier life n [] log = refl
entered_now start terms earlier life n (None ∷ ws) log = entered_now start terms earlier life (n + 1) ws log
entered_now start terms earlier life n (Some w ∷ ws) log =
    entered_now start terms earlier life (n + 1) ws (after_move start terms earlier life log (Ask kinds.Burst w.caller n w.ops))
    ∙ by (burst_refusal start.plan terms life earlier log n w.ops)
  where
    by : (o : Option AskRefusal) → now (after_ask start terms log kinds.Burst w.caller n w.ops o) ≡ now log
    by None = jobs_now start terms log w.caller n (jobs_of w.ops)
    by (Some refusal) = refl

-- the next life begins in the slot in which the one before ended
living_slot : (life : ℕ) (d : Ongoing) → clock_of (living_on life d) ≡ clock_of d
living_slot life d = by (now d.log == life)
  where
    by : (b : Bool) → clock_of (cond b (next_life d) d) ≡ clock_of d
    by true = omega (arith, sum_by-cons now d.log (counted d.earlier))
    by false = refl

same_slot : (first : Start) (terms : Terms) (life : ℕ) (d : Ongoing) → clock_of (going_on first terms life d) ≡ clock_of d
same_slot first terms life d =
    let n : Ongoing = living_on life d in
    ap (λ m. all_slots (counted n.earlier) + m) (entered_now (start_of first n) terms (counted n.earlier) life 0 (map (due_at (clock_of n)) n.waiting) n.log)
    ∙ living_slot life d

pub clock_is : {N : Type 0} (first : Start) (d : Ongoing) (parts : OngoingParts N) → StandsAs first d parts → parts.die.core.stopped ≡ false
    → parts.die.first + now parts.die.core.log ≡ all_slots (counted d.earlier) + now d.log
clock_is first d parts s runs =
    let here : Ongoing = standing parts s.past in
    ap (λ n. n + now parts.die.core.log) s.lived.began
    ∙ (sym (same_slot first parts.die.terms parts.die.life here)
    ∙ sym (ap (λ (e : Ongoing). all_slots (counted e.earlier) + now e.log) (s.runs runs).stands))

-- there are few tasks
pub few_wait : {N : Type 0} (first : Start) (d : Ongoing) (parts : OngoingParts N) → StandsAs first d parts → length parts.waiting ≤ 16
few_wait first d parts s = omega (arith, s.one_each, s.lived.kept.opens.bound.limits.few_tasks)
