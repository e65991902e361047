-- Which outcomes a move adds: a slot its own, and an ask none.
use Rattle.std.proofs.Common.{◌≡◌, ℕ, ◌+◌, ◌<◌, ◌==◌, Bool, true, false, cond, List, [], ◌∷◌, ◌++◌, map, length, option_to_list}
use Rattle.std.proofs.Common.{Option, Some, None, refl, ap, sym, subst, ◌∙◌, arith}
use Rattle.std.specs.List.{AllByRecursion}
use Rattle.std.proofs.lemmas.Bool.{lt-ltb}
use Rattle.std.proofs.lemmas.List.{append-nil, append_assoc}
use Rattle.slot_types.specs.declared.events.Op.{Op}
use Rattle.slot_types.specs.declared.events.Event.{Event}
use Rattle.slot_types.specs.declared.events.Event.TheVariants as events
use Rattle.slot_types.specs.declared.refusals.Refusal.{Refusal}
use Rattle.demand_rules.specs.declared.terms.TaskTerms.{TaskTerms}
use Rattle.demand_rules.specs.declared.terms.Terms.{Terms}
use Rattle.die_log.specs.Model.Log.{Log, now}
use Rattle.die_log.specs.Model.Start.{Start}
use Rattle.die_log.specs.Model.Lives.{Lives, all_slots}
use Rattle.die_log.specs.Model.Answers.{refusal_of, answer, answer_by, reply_if_accepted, with_answer, after_call, run}
use Rattle.planned_log.specs.declared.ask_kinds.AskKind.{AskKind}
use Rattle.planned_log.specs.declared.ask_kinds.AskKind.TheVariants as kinds
use Rattle.planned_log.specs.declared.refusals.AskRefusal.{AskRefusal}
use Rattle.planned_log.specs.Asks.{asked_job}
use Rattle.planned_log.specs.AskKinds.{refusal_as, jobs_as, with_jobs}
use Rattle.planned_log.specs.KeptLogs.{comes_at, collections_at}
use Rattle.planned_log.specs.Laws.{IsKept}
use Rattle.planned_log.specs.Moves.{Ask, Slot, after_ask, after_own, after_move, after_moves}
use Rattle.planned_log.proofs.Kept.{slot_accepted, after_accepted}
use Rattle.planned_log.proofs.Moving.{come}
use Rattle.ongoing_log.specs.PastLives.{PastLife, Renewed, starts_after, counted}
use Rattle.ongoing_log.specs.Ongoing.{WaitingAsk, Ongoing, start_of, clock_of, Answer, Refused, Enters, Waits, WaitsAlready, Past, TooFarAhead}
use Rattle.ongoing_log.specs.Ongoing.{answer_to, after_answer, asks_of, due_at, let_in, next_life, living_on, going_on, carried, ongoing_after_move, IsOngoing}
use Rattle.ongoing_log.specs.Ahead.{answer_at, AskAt, ahead_after_move}
use Rattle.task_outcomes.specs.declared.task_outcome.TaskOutcome.{TaskOutcome}
use Rattle.task_outcomes.specs.Told.{newest_told, told_in, told_over, told_of, told_next}

abbrev IsNoSlot : Event → Type 0
IsNoSlot events.Slot = ⊥
IsNoSlot _ = Unit {0}

-- the collections of a slot are none
no_slots : (caller : ℕ) (ts : List TaskTerms) (task slot : ℕ)
    → AllByRecursion (λ (c : ℕ × Event). IsNoSlot c.1) (map (λ event. (caller, event)) (collections_at ts task slot))
no_slots caller [] task slot = tt
no_slots caller (t ∷ ts) task slot = by (no_slots caller ts (task + 1) slot) (comes_at t.collect_period slot)
  where
    rest : List Event
    rest = collections_at ts (task + 1) slot

    by : AllByRecursion (λ (c : ℕ × Event). IsNoSlot c.1) (map (λ event. (caller, event)) rest) → (b : Bool)
        → AllByRecursion (λ (c : ℕ × Event). IsNoSlot c.1)
        (map (λ event. (caller, event)) (cond b (events.Collect task slot (slot + t.collect_deadline) ∷ rest) rest))
    by later true = (tt, later)
    by later false = later

module _ (start : Start) (began : ℕ) where
  none_by : (caller : ℕ) (event : Event) (past : Log) → IsNoSlot event → (o : Option Refusal)
      → told_in start began (with_answer caller event (answer_by start past event o) past) ≡ told_in start began past
  none_by caller (events.Submit task release due ops) past plain None = append-nil (told_in start began past)
  none_by caller (events.Submit task release due ops) past plain (Some r) = refl
  none_by caller (events.Collect task release due) past plain None = append-nil (told_in start began past)
  none_by caller (events.Collect task release due) past plain (Some r) = refl
  none_by caller events.Slot past plain o = absurd plain

  call_none : (caller : ℕ) (event : Event) (past : Log) → IsNoSlot event
      → told_in start began (after_call start past (caller, event)) ≡ told_in start began past
  unfolding answer
  call_none caller event past plain = none_by caller event past plain (refusal_of start past event)

  run_none : (calls : List (ℕ × Event)) (past : Log) → AllByRecursion (λ (c : ℕ × Event). IsNoSlot c.1) calls
      → told_in start began (run start past calls) ≡ told_in start began past
  run_none [] past plain = refl
  run_none (call ∷ calls) past plain = run_none calls (after_call start past call) plain.1 ∙ call_none call.0 call.1 past plain.0

  -- the jobs of an ask
  jobs_none : (terms : Terms) (caller task : ℕ) (jobs : List (List Op)) (log : Log)
      → told_in start began (with_jobs start terms log caller task jobs) ≡ told_in start began log
  jobs_none terms caller task [] log = refl
  jobs_none terms caller task (ops ∷ jobs) log =
      jobs_none terms caller task jobs (after_call start log (caller, asked_job terms log task ops))
      ∙ call_none caller (asked_job terms log task ops) log tt

  ask_none : (terms : Terms) (kind : AskKind) (caller task : ℕ) (ops : List Op) (log : Log) (o : Option AskRefusal)
      → told_in start began (after_ask start terms log kind caller task ops o) ≡ told_in start began log
  ask_none terms kind caller task ops log None = jobs_none terms caller task (jobs_as kind ops) log
  ask_none terms kind caller task ops log (Some refusal) = refl

  -- what waits, where a life begins
  asks_none : (terms : Terms) (earlier : Lives) (life : ℕ) (ws : List (Option WaitingAsk)) (n : ℕ) (log : Log)
      → told_in start began (after_moves start terms earlier life log (asks_of n ws)) ≡ told_in start began log
  asks_none terms earlier life [] n log = refl
  asks_none terms earlier life (None ∷ ws) n log = asks_none terms earlier life ws (n + 1) log
  asks_none terms earlier life (Some w ∷ ws) n log =
      asks_none terms earlier life ws (n + 1) (after_move start terms earlier life log (Ask kinds.Burst w.caller n w.ops))
      ∙ ask_none terms kinds.Burst w.caller n w.ops log (refusal_as kinds.Burst start.plan terms life earlier log n w.ops)

  -- a slot adds the outcome of its entry
  module _ (terms : Terms) (earlier : Lives) (life : ℕ) (log : Log) (k : IsKept start terms earlier life 0 log) (caller : ℕ) (before : now log < life) where
    abbrev own : Log
    own = after_own start terms log caller

    abbrev next : Log
    next = with_answer caller events.Slot (reply_if_accepted start own events.Slot) own

    moved : after_move start terms earlier life log (Slot caller) ≡ next
    moved =
        let c = come start terms earlier life caller log k before in
        let is : after_call start own (caller, events.Slot) ≡ next =
        after_accepted start terms earlier life (length start.plan.caps) own c.kept caller events.Slot
        (slot_accepted start terms earlier life (length start.plan.caps) own c.kept refl (omega (arith, c.now_is, before))) in
        rw (lt-ltb (now log) life before) is

    own_none : told_in start began own ≡ told_in start began log
    own_none = run_none (map (λ event. (caller, event)) (collections_at terms.tasks 0 (now log))) log (no_slots caller terms.tasks 0 (now log))

    slot_adds : told_in start began (after_move start terms earlier life log (Slot caller))
        ≡ told_in start began log ++ option_to_list (newest_told start began (after_move start terms earlier life log (Slot caller)))
    slot_adds =
        subst (λ (l : Log). told_in start began l ≡ told_in start began log ++ option_to_list (newest_told start began l)) (sym moved)
        (ap (λ (os : List TaskOutcome). os ++ option_to_list (newest_told start began next)) own_none)

module _ (first : Start) (terms : Terms) (life : ℕ) where
  answer_tells : (d : Ongoing) (kind : AskKind) (caller task : ℕ) (ops : List Op) (a : Answer)
      → told_of first (after_answer first terms d kind caller task ops a) ≡ told_of first d
  answer_tells d kind caller task ops (Enters release due) =
      ap (λ (os : List TaskOutcome). told_over first d.earlier ++ os)
      (jobs_none (start_of first d) (all_slots (counted d.earlier)) terms caller task (jobs_as kind ops) d.log)
  answer_tells d kind caller task ops (Waits release due) = refl
  answer_tells d kind caller task ops (Refused refusal) = refl
  answer_tells d kind caller task ops WaitsAlready = refl
  answer_tells d kind caller task ops Past = refl
  answer_tells d kind caller task ops (TooFarAhead last) = refl

  -- an ask adds none
  pub ask_tells : (d : Ongoing) (kind : AskKind) (caller task : ℕ) (ops : List Op)
      → told_of first (ongoing_after_move first terms life d (Ask kind caller task ops)) ≡ told_of first d
  ask_tells d kind caller task ops = answer_tells d kind caller task ops (answer_to first terms life d kind task ops)

  pub ask_at_tells : (d : Ongoing) (kind : AskKind) (caller task : ℕ) (ops : List Op) (at : ℕ)
      → told_of first (ahead_after_move first terms life d (AskAt kind caller task ops at)) ≡ told_of first d
  ask_at_tells d kind caller task ops at = answer_tells d kind caller task ops (answer_at first terms life d kind task ops at)

  -- nor does a life that begins, or what waited for a slot
  begins : (d : Ongoing) (b : Bool) → told_of first (cond b (next_life d) d) ≡ told_of first d
  begins d false = refl
  begins d true = append-nil (told_of first d)

  enters : (d : Ongoing) → told_of first (let_in first terms life d) ≡ told_of first d
  enters d =
      ap (λ (os : List TaskOutcome). told_over first d.earlier ++ os)
      (asks_none (start_of first d) (all_slots (counted d.earlier)) terms (counted d.earlier) life (map (due_at (clock_of d)) d.waiting) 0 d.log)

  -- and a slot the one that comes with it
  pub slot_tells : (d : Ongoing) → IsOngoing first terms life d → (caller : ℕ)
      → told_of first (ongoing_after_move first terms life d (Slot caller)) ≡ told_of first d ++ option_to_list (told_next first terms life d caller)
  slot_tells d k caller =
      enters (living_on life (carried first terms life d caller))
      ∙ (begins (carried first terms life d caller) (now (carried first terms life d caller).log == life)
      ∙ (ap (λ (os : List TaskOutcome). told_over first d.earlier ++ os)
      (slot_adds (start_of first d) (all_slots (counted d.earlier)) terms (counted d.earlier) life d.log k.kept caller k.goes_on)
      ∙ sym (append_assoc (told_over first d.earlier) (told_in (start_of first d) (all_slots (counted d.earlier)) d.log)
      (option_to_list (told_next first terms life d caller)))))
