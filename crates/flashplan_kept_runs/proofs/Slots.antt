-- A slot and an ask of a die that keeps its plan are moves of its log.
use Rattle.std.proofs.Common.{◌≡◌, ℕ, ◌+◌, ◌<◌, ◌≤◌, nat_lt, Bool, true, false, List, [], ◌∷◌, length, map, Option, Some, None, Err, refl, ap, sym, subst, ◌∙◌, inl, inr, arith}
use Rattle.std.specs.Prelude.{if◌then◌else◌, not, option_map, slice_get, ◌==◌, ◌&&◌}
use Rattle.std.proofs.lemmas.Bool.{cases_Bool, lt-ltb, true≢false}
use Rattle.std.proofs.lemmas.List.{length_push, take_all}
use Rattle.std.proofs.lemmas.Option.{get_or_from_slice_get, slice_get_within}
use Rattle.slot_types.specs.declared.events.Event.{Event}
use Rattle.slot_types.specs.declared.events.Event.TheVariants as events
use Rattle.slot_types.specs.declared.events.Op.{Op}
use Rattle.slot_types.specs.declared.refusals.Refusal.{Refusal}
use Rattle.slot_types.specs.declared.replies.Reply.{Reply}
use Rattle.slot_types.specs.declared.replies.SlotReply.{SlotReply}
use Rattle.flash_die.specs.declared.nand.NandCall.{NandCall}
use Rattle.demand_rules.specs.declared.terms.TaskTerms.{TaskTerms}
use Rattle.demand_rules.specs.declared.terms.Terms.{Terms}
use Rattle.demand_rules.specs.Demand.{no_terms, terms_of}
use Rattle.die_log.specs.Model.Log.{Log, carried_slots, now}
use Rattle.die_log.specs.Model.Start.{Start}
use Rattle.die_log.specs.Model.Answers.{after_call, answer, refusal_of, run, with_answer}
use Rattle.die_log.proofs.Legality.{accepted_answer, refused_answer}
use Rattle.slot_core.specs.Core.{Core}
use Rattle.planned_log.specs.declared.refusals.AskRefusal.{AskRefusal}
use Rattle.planned_log.specs.declared.ask_kinds.AskKind.TheVariants as kinds
use Rattle.planned_log.specs.Asks.{asked_job}
use Rattle.planned_log.specs.KeptLogs.{collections_at, comes_at}
use Rattle.planned_log.specs.Moves.{Ask, Move, Slot, after_ask, after_move, after_own}
use Rattle.planned_die.specs.Planned.{HasLived, Planned}
use Rattle.planned_die.specs.PlannedCalls.{HasAsked, HasSlotted, RefusesAsk, RefusesSlot, own_calls, refusal_in, with_all_own}
use Rattle.flashplan_kept_runs.specs.declared.refusals.RowRefusal.TheVariants as rows
use Rattle.flashplan_kept_runs.specs.KeptDies.{HasMoved, RunsInFirstLife, kept_of}
use Rattle.flashplan_kept_runs.specs.KeptRows.{has_other_times, row_moves, row_refusal}
use Rattle.flashplan_kept_runs.proofs.OneDie.{no_moves}

-- Collections carry no slot

collection_stays : (start : Start) (past : Log) (caller task release due : ℕ)
    → now (after_call start past (caller, events.Collect task release due)) ≡ now past
collection_stays start past caller task release due = by (refusal_of start past event) refl
  where
    event : Event
    event = events.Collect task release due

    by : (o : Option Refusal) → refusal_of start past event ≡ o → now (with_answer caller event (answer start past event) past) ≡ now past
    by None is = ap (λ (r : Reply). now (with_answer caller event r past)) (accepted_answer start past event is)
    by (Some refusal) is = ap (λ (r : Reply). now (with_answer caller event r past)) (refused_answer start past event refusal is)

collections_stay : (start : Start) (caller : ℕ) (tasks : List TaskTerms) (task slot : ℕ) (log : Log)
    → now (run start log (map (λ event. (caller, event)) (collections_at tasks task slot))) ≡ now log
collections_stay start caller [] task slot log = refl
collections_stay start caller (t ∷ tasks) task slot log = elim (cases_Bool (comes_at t.collect_period slot)) [
  | inl due ↦ rw due (
      collections_stay start caller tasks (task + 1) slot (after_call start log (caller, events.Collect task slot (slot + t.collect_deadline)))
      ∙ collection_stays start log caller task slot (slot + t.collect_deadline))
  | inr not_due ↦ rw not_due (collections_stay start caller tasks (task + 1) slot log)
]

-- Slots

module _ {N : Type 0} (ends : N → NandCall → Bool → N → Type 0) (failures : N → ℕ) (never : Bool) (before after : Planned N)
    (k : RunsInFirstLife before) where
  abbrev start : Start
  start = before.core.start

  abbrev log : Log
  log = before.core.log

  one_each : length before.terms.tasks ≤ length start.plan.caps
  one_each = omega (arith, k.lived.kept.demand.has.one_each)

  -- all collections of the slot come
  own_log : (with_all_own 0 before).log ≡ after_own start before.terms log 0
  own_log =
      ap (λ n. run start log (own_calls 0 before.terms n (length start.plan.caps) (now log))) k.whole
      ∙ ap (λ (ts : List TaskTerms). run start log (map (λ (e : Event). (0, e)) (collections_at ts 0 (now log))))
      (take_all (length start.plan.caps) before.terms.tasks one_each)

  module _ (reply : SlotReply) (h : HasSlotted ends failures never 0 reply before after) where
    slot_log : after.core.log ≡ after_move start before.terms [] before.life log (Slot 0)
    slot_log =
        let early : nat_lt (now log) before.life ≡ true = lt-ltb (now log) before.life h.early in
        h.carried.ended.logged
        ∙ (sym (ap (λ (r : Reply). with_answer 0 events.Slot r (with_all_own 0 before).log) h.carried.ended.answered)
        ∙ (ap (λ (l : Log). after_call start l (0, events.Slot)) own_log
        ∙ rw early refl))

    terms_stay : after.terms ≡ before.terms
    terms_stay = ap (λ (p : Planned N). p.terms) h.stays

    life_stays : after.life ≡ before.life
    life_stays = ap (λ (p : Planned N). p.life) h.stays

    pub slot_moved : HasMoved (Slot 0 ∷ []) (kept_of before) (kept_of after)
    slot_moved = record {
      begun_stays = λ i. record { start = h.carried.start_stays i; terms = terms_stay i; life = life_stays i };
      moved = slot_log;
    }

    pub slot_counted : now after.core.log ≡ now log + 1
    slot_counted =
        ap now h.carried.ended.logged
        ∙ (length_push (carried_slots (with_all_own 0 before).log) reply.ran
        ∙ ap (λ n. n + 1) (ap now own_log ∙ collections_stay start 0 before.terms.tasks 0 (now log) log))

    pub slot_runs : HasLived after [] → RunsInFirstLife after
    slot_runs lived = record { runs = h.carried.ended.runs; lived = lived; whole = ap (λ (p : Planned N). p.entered) h.stays }

  -- before the end of the life it isn't refused, where the device never fails
  pub slot_unrefused : (refusal : Refusal) → never ≡ true → now log < before.life → RefusesSlot ends failures never 0 refusal before after → ⊥
  slot_unrefused refusal never_is early (inl stopped) = true≢false (sym stopped.0 ∙ k.runs)
  slot_unrefused refusal never_is early (inr (inl over)) = absurd (omega (arith, over.1, early))
  slot_unrefused refusal never_is early (inr (inr fault)) = fault.3.device.never never_is (ap Err fault.2)

-- Rows of jobs

-- the times that the plan gives, of a task that is there
pub not_times : (terms : Terms) (slot task release due : ℕ) (own : TaskTerms) (r : Bool) → slice_get terms.tasks task ≡ Some own
    → r ≡ ((release == slot) && (due == slot + own.deadline)) → not r ≡ has_other_times terms slot task release due
not_times terms slot task release due own r is e =
    let there : nat_lt task (length terms.tasks) ≡ true = lt-ltb task (length terms.tasks) (slice_get_within terms.tasks task own is) in
    let deadline : own.deadline ≡ (terms_of terms task).deadline =
    ap (λ (t : TaskTerms). t.deadline) (sym (get_or_from_slice_get terms.tasks task own no_terms is)) in
    let known : has_other_times terms slot task release due ≡ not ((release == slot) && (due == slot + (terms_of terms task).deadline)) =
    rw there refl in
    ap not e ∙ (ap (λ n. not ((release == slot) && (due == slot + n))) deadline ∙ sym known)

module _ {N : Type 0} (before after : Planned N) (k : RunsInFirstLife before) (task release due : ℕ) (ops : List Op) where
  abbrev row : Event
  row = events.Submit task release due ops

  abbrev other : Bool
  other = has_other_times before.terms (now before.core.log) task release due

  abbrev refusal : Option AskRefusal
  refusal = refusal_in before [] task ops

  refused_by : (b : Bool) → other ≡ b
      → row_refusal (kept_of before) row ≡ (if b then Some rows.OtherTimes else option_map rows.Ask refusal)
  refused_by b e = ap (λ (c : Bool). if c then Some rows.OtherTimes else option_map rows.Ask refusal) e

  moves_by : (b : Bool) → other ≡ b → row_moves before.terms (now before.core.log) row ≡ (if b then [] else Ask kinds.Job 0 task ops ∷ [])
  moves_by b e = ap (λ (c : Bool). if c then [] else Ask kinds.Job 0 task ops ∷ []) e

  -- one with other times
  pub other_refused : other ≡ true → Some rows.OtherTimes ≡ row_refusal (kept_of before) row
  other_refused e = sym (refused_by true e)

  pub other_moved : other ≡ true → HasMoved (row_moves before.terms (now before.core.log) row) (kept_of before) (kept_of before)
  other_moved e = subst (λ (moves : List Move). HasMoved moves (kept_of before) (kept_of before)) (sym (moves_by true e))
      (no_moves (kept_of before))

  -- one that is taken
  module _ (times : other ≡ false) (number : ℕ) (h : HasAsked 0 task ops [] number before after) where
    pub asked_unrefused : None ≡ row_refusal (kept_of before) row
    asked_unrefused = sym (refused_by false times ∙ ap (λ (o : Option AskRefusal). option_map rows.Ask o) h.unrefused)

    asked_log : after.core.log ≡ after_ask before.core.start before.terms before.core.log kinds.Job 0 task ops refusal
    asked_log =
        ap (λ (c : Core N). c.log) h.entered.logged
        ∙ (ap (λ (r : Reply). with_answer 0 (asked_job before.terms before.core.log task ops) r before.core.log) (sym h.entered.answered)
        ∙ ap (λ (o : Option AskRefusal). after_ask before.core.start before.terms before.core.log kinds.Job 0 task ops o) (sym h.unrefused))

    pub asked_moved : HasMoved (row_moves before.terms (now before.core.log) row) (kept_of before) (kept_of after)
    asked_moved = subst (λ (moves : List Move). HasMoved moves (kept_of before) (kept_of after)) (sym (moves_by false times)) (record {
      begun_stays = λ i. record {
        start = ap (λ (c : Core N). c.start) h.entered.logged i;
        terms = ap (λ (p : Planned N). p.terms) h.stays i;
        life = ap (λ (p : Planned N). p.life) h.stays i;
      };
      moved = asked_log;
    })

    pub asked_here : now after.core.log ≡ now before.core.log
    asked_here = ap (λ (c : Core N). now c.log) h.entered.logged

    pub asked_runs : HasLived after [] → RunsInFirstLife after
    asked_runs lived = record {
      runs = ap (λ (c : Core N). c.stopped) h.entered.logged ∙ k.runs;
      lived = lived;
      whole = ap (λ (p : Planned N). p.entered) h.stays ∙ k.whole;
    }

  -- one that the plan refuses
  module _ (times : other ≡ false) (r : AskRefusal) (same : after ≡ before) (h : RefusesAsk task ops [] r before) where
    is : refusal ≡ Some r
    is = elim h [ inl stopped ↦ absurd (true≢false (sym stopped.0 ∙ k.runs)) | inr why ↦ why.1 ]

    pub plan_refused : Some (rows.Ask r) ≡ row_refusal (kept_of before) row
    plan_refused = sym (refused_by false times ∙ ap (λ (o : Option AskRefusal). option_map rows.Ask o) is)

    pub plan_moved : HasMoved (row_moves before.terms (now before.core.log) row) (kept_of before) (kept_of after)
    plan_moved = subst (λ (p : Planned N). HasMoved (row_moves before.terms (now before.core.log) row) (kept_of before) (kept_of p)) (sym same)
        (subst (λ (moves : List Move). HasMoved moves (kept_of before) (kept_of before)) (sym (moves_by false times)) (record {
          begun_stays = refl;
          moved = sym (ap (λ (o : Option AskRefusal). after_ask before.core.start before.terms before.core.log kinds.Job 0 task ops o) is);
        }))

    pub plan_runs : RunsInFirstLife after
    plan_runs = subst RunsInFirstLife (sym same) k
