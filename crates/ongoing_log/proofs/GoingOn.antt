-- A die that goes on by itself keeps its plan in each life, and takes in its slot what waits for it.
use Rattle.std.proofs.Common.{◌≡◌, ◌≢◌, ℕ, zero, suc, ◌+◌, ◌-◌, ◌<◌, ◌≤◌, ◌==◌, not, nat_lt, nat_le, Bool, true, false, cond, List, subst}
use Rattle.std.proofs.Common.{[], ◌∷◌, length, map, replicate, get_or, set}
use Rattle.std.proofs.Common.{Option, Some, None, is_some, unwrap_or, sum_by, refl, ap, sym, ◌∙◌, inl, inr, arith, ◌⊎◌}
use Rattle.std.proofs.lemmas.Bool.{true≢false, and_parts, and_from, leb-true, le-leb, ltb-true, lt-ltb, eqb-true, cases_lt}
use Rattle.std.proofs.lemmas.Bool.Decides.{nat_tests}
use Rattle.std.proofs.lemmas.List.{length-set, length-replicate, length-map}
use Rattle.std.proofs.lemmas.List.Sums.{sum_by-cons, sum_by-le-sum_by}
use Rattle.std.proofs.lemmas.Option.{same_Some}
use Rattle.slot_types.specs.declared.limits.TheConstants.{MAX_OPS}
use Rattle.slot_types.specs.declared.events.Op.{Op}
use Rattle.slot_types.specs.declared.plans.DiePlan.{DiePlan}
use Rattle.slot_types.specs.Operations.{writes}
use Rattle.demand_rules.specs.declared.terms.TaskTerms.{TaskTerms}
use Rattle.demand_rules.specs.declared.terms.Terms.{Terms}
use Rattle.demand_rules.specs.Demand.{terms_of, no_terms}
use Rattle.die_log.specs.Model.Log.{Log, now}
use Rattle.die_log.specs.Model.Start.{Start}
use Rattle.die_log.specs.Model.Answers.{bad_page}
use Rattle.die_log.specs.Model.Lives.{Lives, all_slots}
use Rattle.die_log.specs.Model.Opening.{IsOpening, IsQuiet, renewed_start}
use Rattle.die_log.specs.Results.DemandedLives.{AreFull}
use Rattle.planned_log.specs.declared.ask_kinds.AskKind.{AskKind}
use Rattle.planned_log.specs.declared.ask_kinds.AskKind.TheVariants as kinds
use Rattle.planned_log.specs.declared.refusals.AskRefusal.{AskRefusal}
use Rattle.planned_log.specs.declared.refusals.AskRefusal.TheVariants as because
use Rattle.planned_log.specs.Asks.{Asked, asked_by, counts_in, counting, operations_in, writes_in, has_room, room_at, most_operations}
use Rattle.planned_log.specs.Asks.{burst_refusal, burst_refusals, refusals_above, first_refusal}
use Rattle.planned_log.specs.AskKinds.{most_of, refusal_as, jobs_as, with_jobs, with_asked}
use Rattle.planned_log.specs.Bursts.{AreUnrefused, jobs_of}
use Rattle.planned_log.specs.Laws.{IsKept, StartsFull, Accepted, answers_of}
use Rattle.planned_log.specs.Moves.{Move, Ask, Slot, after_ask, after_move, after_moves}
use Rattle.ongoing_log.specs.Ongoing.{WaitingAsk, Ongoing, waiting_of, begun_after, new_ongoing, start_of, clock_of, Answer, Refused, Enters, WaitsAlready, Past, TooFarAhead, unless_waits, answer_by, answer_to, after_answer, due_at, left_at, let_in, living_on, carried, going_on, IsAwaited}
use Rattle.ongoing_log.specs.PastLives.{PastLife, starts_after, counted, HavePassed}
use Rattle.ongoing_log.specs.Ongoing.{asks_of, next_life, ongoing_after_move, ongoing_after, shut_down, lost_power, AreLongEnough, IsOngoing, Waits}
use Rattle.planned_log.proofs.Kept.{ends_quiet, next_begins, begun}
use Rattle.planned_log.proofs.Asking.{timely}
use Rattle.ongoing_log.specs.Ahead.{refusal_at, last_slot, answer_ahead, answer_at, AheadMove, Now, AskAt, ahead_after_move, ahead_after, IsWaitAhead}
use Rattle.std.proofs.Math.Nat.{min-le_left, min-le_right}
use Rattle.planned_log.proofs.Bursts.{burst_alike}
use Rattle.planned_log.proofs.AskJobs.{jobs_kept, jobs_now, unrefused_as}
use Rattle.planned_log.proofs.Served.{done_in_time}
use Rattle.planned_log.proofs.Moving.{move_keeps, moves_keep}
use Rattle.planned_log.proofs.Answered.{other_ask, a_slot, answers_told, seen_answers}
use Rattle.ongoing_log.proofs.Late.{late_at, late_stays, late_enters, due_late, as_burst, taken_as_burst, known_task}
use Rattle.ongoing_log.proofs.WhatWaits.{set_reads, none_waits, due_reads, left_reads, left_was, none_due, one_due, one_left, none_of_all, all_left, asks_now, none_asked, own_asked, own_answered}

none_some : {A : Type 0} (x : A) (v : Option A) → v ≡ None → v ≡ Some x → ⊥
none_some x v none some = let no : None ≡ Some x = sym none ∙ some in absurd cc

same_slot : (n m : ℕ) → n ≡ m → (n == m) ≡ true
same_slot n m e = grind (arith, nat_tests, e)

other_slot : (n m : ℕ) → n < m → (n == m) ≡ false
other_slot n m lt = grind (arith, nat_tests, lt)

later_slot : (n m : ℕ) → m < n → (n == m) ≡ false
later_slot n m lt = grind (arith, nat_tests, lt)

-- what the plan says as at the slot of what waits
abbrev awaited_as : Bool → Option AskRefusal
awaited_as b = cond b (Some because.LifeEnd) None

module _ (plan : DiePlan) (terms : Terms) (life first slot : ℕ) (asked : List Asked) (task : ℕ) (w : WaitingAsk)
    (a : IsAwaited plan terms life first slot asked task w) where
  at_slot : (slot : ℕ) → w.until ≡ first + slot → w.until - first ≡ slot
  at_slot slot e = omega (arith, e)

  -- it is of a task of the plan
  awaited_known : task < length plan.caps
  awaited_known = by (w.until == first + life) refl
    where
      by : (b : Bool) → (w.until == first + life) ≡ b → task < length plan.caps
      by true e = known_task plan terms life task w.ops first (w.until - first) asked (a.taken ∙ ap awaited_as e)
      by false e = (timely (terms_of terms task).work plan terms life first (w.until - first) asked task w.ops (a.taken ∙ ap awaited_as e)).task_is

  -- it goes on to wait until its slot
  awaited_on : (later : ℕ) (next : List Asked) → first + later < w.until → next ≡ asked → IsAwaited plan terms life first later next task w
  awaited_on later next lt same = record {
    later = lt;
    by_end = a.by_end;
    taken = ap (λ (l : List Asked). first_refusal (burst_refusals plan terms life first (w.until - first) l task w.ops)) same ∙ a.taken;
  }

  -- in a slot of the life it isn't refused
  awaited_enters : (now : ℕ) → now < life → w.until ≡ first + now → first_refusal (burst_refusals plan terms life first now asked task w.ops) ≡ None
  awaited_enters now lt here =
      ap (λ n. first_refusal (burst_refusals plan terms life first n asked task w.ops)) (sym (at_slot now here))
      ∙ (a.taken ∙ ap awaited_as (other_slot w.until (first + life) (omega (arith, here, lt))))

  -- nor in the first one of the next
  awaited_begins : (terms_of terms task).deadline ≤ life → (next : ℕ) → first + life ≤ next → w.until ≡ first + life
      → first_refusal (burst_refusals plan terms life next 0 asked task w.ops) ≡ None
  awaited_begins few next le here = late_enters plan terms life task w.ops first life next le few asked
      (ap (λ n. first_refusal (burst_refusals plan terms life first n asked task w.ops)) (sym (at_slot life here))
      ∙ (a.taken ∙ ap awaited_as (same_slot w.until (first + life) here)))

-- an ask that is refused for the end of the life alone may wait for it
waits_for_end : (plan : DiePlan) (terms : Terms) (life first slot now : ℕ) (asked : List Asked) (task : ℕ) (kind : AskKind) (ops : List Op) → now < life
    → slot ≤ life → first_refusal (refusals_above (most_of kind (terms_of terms task)) plan terms life first slot asked task ops) ≡ Some because.LifeEnd
    → (caller : ℕ) → IsAwaited plan terms life first now asked task (record { caller = caller; ops = ops; until = first + life })
waits_for_end plan terms life first slot now asked task kind ops lt le late caller = record {
  later = omega (arith, lt);
  by_end = omega arith;
  taken =
      let at_end : first + life - first ≡ life = omega arith in
      ap (λ n. first_refusal (burst_refusals plan terms life first n asked task ops)) at_end
      ∙ (late_stays plan terms life task ops first slot life le asked (as_burst plan terms life task ops kind first slot asked late)
      ∙ sym (ap awaited_as (same_slot (first + life) (first + life) refl)));
}

-- and one that isn't refused as at its slot
waits_for_slot : (plan : DiePlan) (terms : Terms) (life first at now : ℕ) (asked : List Asked) (task : ℕ) (kind : AskKind) (ops : List Op)
    → 1 ≤ (terms_of terms task).deadline → first + now < at → at ≤ first + life
    → first_refusal (refusals_above (most_of kind (terms_of terms task)) plan terms life first (at - first) asked task ops) ≡ None → (caller : ℕ)
    → IsAwaited plan terms life first now asked task (record { caller = caller; ops = ops; until = at })
waits_for_slot plan terms life first at now asked task kind ops some lt le none caller = record {
  later = lt;
  by_end = le;
  taken =
      let q = timely (most_of kind (terms_of terms task)) plan terms life first (at - first) asked task ops none in
      taken_as_burst plan terms life task ops kind first (at - first) asked none
      ∙ sym (ap awaited_as (other_slot at (first + life) (omega (arith, q.due, some, lt))));
}

-- Moves

module _ (first : Start) (terms : Terms) (life : ℕ) where
  -- what stands as a slot begins: what waits for it isn't refused in it
  pub record Begins (d : Ongoing) : Type 0 where
    pub passed : HavePassed first life d.earlier
    pub kept : IsKept (start_of first d) terms (counted d.earlier) life 0 d.log
    pub goes_on : now d.log < life
    pub tasks : length d.waiting ≡ length (start_of first d).plan.caps
    pub waits : (task : ℕ) (w : WaitingAsk) → waiting_of d task ≡ Some w
        → ((w.until ≡ clock_of d) × (burst_refusal (start_of first d).plan terms life (counted d.earlier) d.log task w.ops ≡ None))
        ⊎ IsAwaited (start_of first d).plan terms life (all_slots (counted d.earlier)) (now d.log) (asked_by task (d.log ∷ counted d.earlier)) task w

  module _ (n : Ongoing) (b : Begins n) where
    abbrev entered_log : Log
    entered_log = (let_in first terms life n).log

    abbrev due_here : List (Option WaitingAsk)
    due_here = map (due_at (clock_of n)) n.waiting

    pub let_in_now : now entered_log ≡ now n.log
    let_in_now = asks_now (start_of first n) terms (counted n.earlier) life due_here 0 n.log b.kept

    -- what is left goes on to wait
    still_waits : (task : ℕ) (w : WaitingAsk) → waiting_of (let_in first terms life n) task ≡ Some w
        → IsAwaited (start_of first n).plan terms life (all_slots (counted n.earlier)) (now entered_log) (asked_by task (entered_log ∷ counted n.earlier)) task w
    still_waits task w e =
        let left = left_was (clock_of n) (waiting_of n task) w (sym (left_reads (clock_of n) n.waiting task) ∙ e) in
        let none : get_or due_here task None ≡ None = due_reads (clock_of n) n.waiting task ∙ none_due (clock_of n) (waiting_of n task) w left.0 left.1 in
        let same : asked_by task (entered_log ∷ counted n.earlier) ≡ asked_by task (n.log ∷ counted n.earlier) =
        none_asked (start_of first n) terms (counted n.earlier) life task due_here n.log b.kept none in
        elim (b.waits task w left.0) [
          | inl here ↦ absurd (true≢false (sym (same_slot w.until (clock_of n) here.0) ∙ left.1))
          | inr a ↦ awaited_on (start_of first n).plan terms life (all_slots (counted n.earlier)) (now n.log) (asked_by task (n.log ∷ counted n.earlier)) task w a
              (now entered_log) (asked_by task (entered_log ∷ counted n.earlier)) (omega (arith, let_in_now, a.later)) same
        ]

    pub lets_in : IsOngoing first terms life (let_in first terms life n)
    lets_in = record {
      passed = b.passed;
      kept = moves_keep (start_of first n) terms (counted n.earlier) life n.log (asks_of 0 due_here) b.kept;
      goes_on = omega (arith, let_in_now, b.goes_on);
      tasks = length-map {B = Option WaitingAsk} n.waiting (left_at (clock_of n)) ∙ b.tasks;
      waits = still_waits;
    }

    -- a task of which none enters has asked for what it had
    pub asks_none : (task : ℕ) → due_at (clock_of n) (waiting_of n task) ≡ None
        → asked_by task (entered_log ∷ counted n.earlier) ≡ asked_by task (n.log ∷ counted n.earlier)
    asks_none task none = none_asked (start_of first n) terms (counted n.earlier) life task due_here n.log b.kept (due_reads (clock_of n) n.waiting task ∙ none)

    -- what waits for the slot is accepted
    module _ (task : ℕ) (w : WaitingAsk) (is : waiting_of n task ≡ Some w) (here : clock_of n ≡ w.until) where
      due_is : get_or due_here task None ≡ Some w
      due_is = due_reads (clock_of n) n.waiting task ∙ one_due (clock_of n) (waiting_of n task) w is (same_slot w.until (clock_of n) (sym here))

      unrefused_here : burst_refusal (start_of first n).plan terms life (counted n.earlier) n.log task w.ops ≡ None
      unrefused_here = elim (b.waits task w is) [
        | inl enters ↦ enters.1
        | inr a ↦ absurd (omega (arith, here, a.later))
      ]

      pub asks_here : asked_by task (entered_log ∷ counted n.earlier) ≡ with_asked (clock_of n) (jobs_of w.ops) (asked_by task (n.log ∷ counted n.earlier))
      asks_here = own_asked (start_of first n) terms (counted n.earlier) life task due_here n.log b.kept w due_is unrefused_here

      pub answers_here : answers_of (start_of first n) terms (counted n.earlier) life task n.log (asks_of 0 due_here)
          ≡ Accepted (now n.log) (now n.log + (terms_of terms task).deadline) ∷ []
      answers_here = own_answered (start_of first n) terms (counted n.earlier) life task due_here n.log b.kept w due_is unrefused_here

module _ (first : Start) (terms : Terms) (life : ℕ) (d : Ongoing) (k : IsOngoing first terms life d) where
  abbrev start : Start
  start = start_of first d

  abbrev began : ℕ
  began = all_slots (counted d.earlier)

  abbrev has_asked : ℕ → List Asked
  has_asked task = asked_by task (d.log ∷ counted d.earlier)

  abbrev refuses : AskKind → ℕ → List Op → Option AskRefusal
  refuses kind task ops = refusal_as kind start.plan terms life (counted d.earlier) d.log task ops

  -- where an ask is answered so, nothing of the task waits; the plan doesn't refuse what enters; and what waits will be taken
  abbrev pub Sound : (kind : AskKind) (task : ℕ) → List Op → Answer → Type 0
  Sound kind task ops (Enters release due) = (waiting_of d task ≡ None) × (refuses kind task ops ≡ None)
  Sound kind task ops (Waits release due) = (waiting_of d task ≡ None)
      × ((caller : ℕ) → IsAwaited start.plan terms life began (now d.log) (has_asked task) task (record { caller = caller; ops = ops; until = release }))
  Sound kind task ops _ = Unit {0}

  pub sound_now : (kind : AskKind) (task : ℕ) (ops : List Op) → Sound kind task ops (answer_to first terms life d kind task ops)
  sound_now kind task ops = by (waiting_of d task) refl (refuses kind task ops) refl
    where
      by : (v : Option WaitingAsk) → waiting_of d task ≡ v → (o : Option AskRefusal) → refuses kind task ops ≡ o
          → Sound kind task ops (answer_by began (now d.log) life (terms_of terms task).deadline v o)
      by None free None e = (free, e)
      by (Some w) free None e = tt
      by None free (Some because.LifeEnd) e = (
        free,
        waits_for_end start.plan terms life began (now d.log) (now d.log) (has_asked task) task kind ops k.goes_on (omega (arith, k.goes_on)) e,
      )
      by (Some w) free (Some because.LifeEnd) e = tt
      by v free (Some because.DieStopped) e = tt
      by v free (Some because.UnknownTask) e = tt
      by v free (Some because.EmptyJob) e = tt
      by v free (Some (because.TooManyOps most)) e = tt
      by v free (Some (because.BadPage page)) e = tt
      by v free (Some (because.TooManyWrites most)) e = tt
      by v free (Some (because.TooSoon next)) e = tt

  pub sound_at : (kind : AskKind) (task : ℕ) (ops : List Op) (at : ℕ) → Sound kind task ops (answer_at first terms life d kind task ops at)
  sound_at kind task ops at = by_past (nat_lt at (clock_of d)) refl
    where
      t : TaskTerms
      t = terms_of terms task

      last : ℕ
      last = last_slot (clock_of d) t.period began life

      refuses_at : Option AskRefusal
      refuses_at = refusal_at kind start.plan terms life (counted d.earlier) d.log (at - began) task ops

      last_le : last ≤ began + life
      last_le = min-le_right (clock_of d + t.period - 1) (began + life)

      some_deadline : task < length start.plan.caps → 1 ≤ t.deadline
      some_deadline lt = (k.kept.demand.has.each task no_terms (omega (arith, lt, k.kept.demand.has.one_each))).some_deadline

      by_last : (release : ℕ) → (waiting_of d task ≡ None → at ≤ last
          → (caller : ℕ) → IsAwaited start.plan terms life began (now d.log) (has_asked task) task (record { caller = caller; ops = ops; until = release }))
          → (v : Option WaitingAsk) → waiting_of d task ≡ v → (b : Bool) → nat_lt last at ≡ b
          → Sound kind task ops (cond b (TooFarAhead last) (unless_waits v (Waits release (release + t.deadline))))
      by_last release waits v free true e = tt
      by_last release waits None free false e = (free, waits free (grind (arith, nat_tests, e)))
      by_last release waits (Some w) free false e = tt

      by_refusal : clock_of d < at → (o : Option AskRefusal) → refuses_at ≡ o
          → Sound kind task ops (answer_ahead at last began life t.deadline (waiting_of d task) o)
      by_refusal lt None e =
          by_last at (λ free le. waits_for_slot start.plan terms life began at (now d.log) (has_asked task) task kind ops
          (some_deadline (timely (most_of kind t) start.plan terms life began (at - began) (has_asked task) task ops e).task_is) lt (omega (arith, le, last_le)) e)
          (waiting_of d task) refl (nat_lt last at) refl
      by_refusal lt (Some because.LifeEnd) e =
          by_last (began + life) (λ free le. waits_for_end start.plan terms life began (at - began) (now d.log) (has_asked task) task kind ops k.goes_on
          (omega (arith, le, last_le)) e) (waiting_of d task) refl (nat_lt last at) refl
      by_refusal lt (Some because.DieStopped) e = tt
      by_refusal lt (Some because.UnknownTask) e = tt
      by_refusal lt (Some because.EmptyJob) e = tt
      by_refusal lt (Some (because.TooManyOps most)) e = tt
      by_refusal lt (Some (because.BadPage page)) e = tt
      by_refusal lt (Some (because.TooManyWrites most)) e = tt
      by_refusal lt (Some (because.TooSoon next)) e = tt

      ahead : Answer
      ahead = answer_ahead at last began life t.deadline (waiting_of d task) refuses_at

      by_now : clock_of d ≤ at → (b : Bool) → (at == clock_of d) ≡ b → Sound kind task ops (cond b (answer_to first terms life d kind task ops) ahead)
      by_now le true e = sound_now kind task ops
      by_now le false e = by_refusal (grind (arith, nat_tests, le, e)) refuses_at refl

      by_past : (b : Bool) → nat_lt at (clock_of d) ≡ b
          → Sound kind task ops (cond b Past (cond (at == clock_of d) (answer_to first terms life d kind task ops) ahead))
      by_past true e = tt
      by_past false e = by_now (grind (arith, nat_tests, e)) (at == clock_of d) refl

  -- an ask enters
  entered : (kind : AskKind) (caller task : ℕ) (ops : List Op) → waiting_of d task ≡ None → refuses kind task ops ≡ None
      → IsOngoing first terms life (record d { log = with_jobs start terms d.log caller task (jobs_as kind ops) })
  entered kind caller task ops free none = record {
    passed = k.passed;
    kept = jobs_kept start terms (counted d.earlier) life 0 caller task (jobs_as kind ops) d.log k.kept unrefused;
    goes_on = omega (arith, slot_is, k.goes_on);
    tasks = k.tasks;
    waits = λ other w e. still other w e (task == other) refl;
  }
    where
      next : Log
      next = with_jobs start terms d.log caller task (jobs_as kind ops)

      unrefused : AreUnrefused start terms (counted d.earlier) life d.log caller task (jobs_as kind ops)
      unrefused = unrefused_as start terms (counted d.earlier) life 0 caller task kind d.log k.kept ops none

      slot_is : now next ≡ now d.log
      slot_is = jobs_now start terms (counted d.earlier) life 0 caller task (jobs_as kind ops) d.log k.kept unrefused

      still : (other : ℕ) (w : WaitingAsk) → waiting_of d other ≡ Some w → (b : Bool) → (task == other) ≡ b
          → IsAwaited start.plan terms life began (now next) (asked_by other (next ∷ counted d.earlier)) other w
      still other w e true same = absurd (none_some w (waiting_of d other) (ap (waiting_of d) (sym (eqb-true task other same)) ∙ free) e)
      still other w e false away =
          let o = other_ask start terms (counted d.earlier) life other d.log k.kept kind caller task ops away None none in
          let a = k.waits other w e in
          awaited_on start.plan terms life began (now d.log) (has_asked other) other w a (now next) (asked_by other (next ∷ counted d.earlier))
          (omega (arith, o.0, a.later)) o.1

  -- an ask waits
  waits_then : (caller task : ℕ) (ops : List Op) (release : ℕ)
      → IsAwaited start.plan terms life began (now d.log) (has_asked task) task (record { caller = caller; ops = ops; until = release })
      → IsOngoing first terms life (record d { waiting = set d.waiting task (Some (record { caller = caller; ops = ops; until = release })) })
  waits_then caller task ops release a = record {
    passed = k.passed;
    kept = k.kept;
    goes_on = k.goes_on;
    tasks = length-set d.waiting task (Some (record { caller = caller; ops = ops; until = release })) ∙ k.tasks;
    waits = λ other w e. elim (set_reads d.waiting task other (record { caller = caller; ops = ops; until = release }) w e) [
      | inl both ↦ subst (λ (x : WaitingAsk). IsAwaited start.plan terms life began (now d.log) (has_asked other) other x) both.1
          (subst (λ i. IsAwaited start.plan terms life began (now d.log) (has_asked i) i (record { caller = caller; ops = ops; until = release })) (sym both.0) a)
      | inr before ↦ k.waits other w before
    ];
  }

  -- whatever an ask is answered that is sound
  pub answered : (kind : AskKind) (caller task : ℕ) (ops : List Op) (a : Answer) → Sound kind task ops a
      → IsOngoing first terms life (after_answer first terms d kind caller task ops a)
  answered kind caller task ops (Enters release due) s = entered kind caller task ops s.0 s.1
  answered kind caller task ops (Waits release due) s = waits_then caller task ops release (s.1 caller)
  answered kind caller task ops (Refused refusal) s = k
  answered kind caller task ops WaitsAlready s = k
  answered kind caller task ops Past s = k
  answered kind caller task ops (TooFarAhead last) s = k

  -- what waits of a task of the plan is kept
  pub known_waits : (task : ℕ) (w : WaitingAsk) → IsAwaited start.plan terms life began (now d.log) (has_asked task) task w → task < length d.waiting
  known_waits task w a = omega (arith, awaited_known start.plan terms life began (now d.log) (has_asked task) task w a, k.tasks)

  -- a slot
  abbrev pub slot_log : (caller : ℕ) → Log
  slot_log caller = after_move start terms (counted d.earlier) life d.log (Slot caller)

  slot_kept : (caller : ℕ) → IsKept start terms (counted d.earlier) life 0 (slot_log caller)
  slot_kept caller = move_keeps start terms (counted d.earlier) life d.log (Slot caller) k.kept

  in_life : nat_lt (now d.log) life ≡ true
  in_life = lt-ltb (now d.log) life k.goes_on

  pub slot_now : (caller : ℕ) → now (slot_log caller) ≡ now d.log + 1
  slot_now caller = (a_slot start terms (counted d.earlier) life 0 d.log k.kept caller (nat_lt (now d.log) life) refl).0
      ∙ ap (λ b. cond b (now d.log + 1) (now d.log)) in_life

  pub slot_asked : (caller task : ℕ) → asked_by task (slot_log caller ∷ counted d.earlier) ≡ has_asked task
  slot_asked caller task = (a_slot start terms (counted d.earlier) life task d.log k.kept caller (nat_lt (now d.log) life) refl).1

  -- the clock where the next life begins
  pub next_clock : (caller : ℕ) → all_slots (slot_log caller ∷ counted d.earlier) ≡ began + (now d.log + 1)
  next_clock caller = omega (arith, sum_by-cons now (slot_log caller) (counted d.earlier), slot_now caller)

  module _ (long : AreLongEnough terms life) (caller : ℕ) where
    abbrev log : Log
    log = slot_log caller

    -- in the life what waits for the slot isn't refused
    waits_in_life : (task : ℕ) (w : WaitingAsk) → waiting_of d task ≡ Some w → now log < life
        → ((w.until ≡ began + now log) × (burst_refusal start.plan terms life (counted d.earlier) log task w.ops ≡ None))
        ⊎ IsAwaited start.plan terms life began (now log) (asked_by task (log ∷ counted d.earlier)) task w
    waits_in_life task w e lt =
        let a = k.waits task w e in
        elim (cases_lt (began + now log) w.until) [
          | inl later ↦ inr (awaited_on start.plan terms life began (now d.log) (has_asked task) task w a (now log) (asked_by task (log ∷ counted d.earlier)) later
              (slot_asked caller task))
          | inr here ↦
              let is : w.until ≡ began + now log = omega (arith, here, a.later, slot_now caller) in
              inl (
                is,
                ap (λ (l : List Asked). first_refusal (burst_refusals start.plan terms life began (now log) l task w.ops)) (slot_asked caller task)
                    ∙ awaited_enters start.plan terms life began (now d.log) (has_asked task) task w a (now log) lt is,
              )
        ]

    pub slot_goes : (b : Bool) → (now log == life) ≡ b
        → Begins first terms life (cond b (next_life (carried first terms life d caller)) (carried first terms life d caller))
    slot_goes false e =
        let before : now log < life = grind (arith, nat_tests, e, slot_now caller, k.goes_on) in
        record {
          passed = k.passed;
          kept = slot_kept caller;
          goes_on = before;
          tasks = k.tasks;
          waits = λ task w h. waits_in_life task w h before;
        }
    slot_goes true e =
        let ended : now log ≡ life = eqb-true (now log) life e in
        let fresh : IsKept (renewed_start start log) terms (log ∷ counted d.earlier) life 0 [] =
        next_begins start terms (counted d.earlier) life 0 log (slot_kept caller) ended in
        record {
          passed = (
            k.passed,
            record {
              exact = (slot_kept caller).exact;
              in_time = done_in_time start terms (counted d.earlier) life 0 log (slot_kept caller);
              may_end = (ended, ends_quiet start terms (counted d.earlier) life 0 log (slot_kept caller) ended);
            },
          );
          kept = fresh;
          goes_on = long.some;
          tasks = k.tasks;
          waits = λ task w h.
              let a = k.waits task w h in
              let clock : began + life ≡ all_slots (log ∷ counted d.earlier) = omega (arith, next_clock caller, slot_now caller, ended) in
              let here : w.until ≡ began + life = omega (arith, a.by_end, a.later, slot_now caller, ended) in
              let within : task < length terms.tasks = omega (arith, awaited_known start.plan terms life began (now d.log) (has_asked task) task w a, k.kept.demand.has.one_each) in
              inl (
                omega (arith, here, clock),
                ap (λ (l : List Asked). first_refusal (burst_refusals start.plan terms life (all_slots (log ∷ counted d.earlier)) 0 l task w.ops)) (slot_asked caller task)
                    ∙ awaited_begins start.plan terms life began (now d.log) (has_asked task) task w a (long.jobs task within) (all_slots (log ∷ counted d.earlier))
                    (omega (arith, clock)) here,
              );
        }

    pub slot_begins : Begins first terms life (living_on life (carried first terms life d caller))
    slot_begins = slot_goes (now log == life) refl

    -- the task has asked for what it had where the slot begins
    pub begun_asked : (task : ℕ) → let n = living_on life (carried first terms life d caller) in asked_by task (n.log ∷ counted n.earlier) ≡ has_asked task
    begun_asked task = by (now log == life)
      where
        by : (b : Bool) → let n = cond b (next_life (carried first terms life d caller)) (carried first terms life d caller) in
            asked_by task (n.log ∷ counted n.earlier) ≡ has_asked task
        by true = slot_asked caller task
        by false = slot_asked caller task

    pub begun_waits : (task : ℕ) → waiting_of (living_on life (carried first terms life d caller)) task ≡ waiting_of d task
    begun_waits task = by (now log == life)
      where
        by : (b : Bool) → waiting_of (cond b (next_life (carried first terms life d caller)) (carried first terms life d caller)) task ≡ waiting_of d task
        by true = refl
        by false = refl

-- while the life goes on and nothing waits for the present slot, nothing is to be done
pub stays_so : (first : Start) (terms : Terms) (life : ℕ) (d : Ongoing) → IsOngoing first terms life d → going_on first terms life d ≡ d
stays_so first terms life d k =
    let away : (now d.log == life) ≡ false = other_slot (now d.log) life k.goes_on in
    let later : (task : ℕ) (w : WaitingAsk) → waiting_of d task ≡ Some w → (w.until == clock_of d) ≡ false =
    λ task w e. later_slot w.until (clock_of d) (k.waits task w e).later in
    rw away (λ i. record d {
      log = after_moves (start_of first d) terms (counted d.earlier) life d.log (none_of_all (clock_of d) d.waiting later 0 i);
      waiting = all_left (clock_of d) d.waiting later i;
    })

module _ (first : Start) (terms : Terms) (life : ℕ) (long : AreLongEnough terms life) where
  pub move_goes_on : (d : Ongoing) → IsOngoing first terms life d → (move : Move) → IsOngoing first terms life (ongoing_after_move first terms life d move)
  move_goes_on d k (Ask kind caller task ops) =
      answered first terms life d k kind caller task ops (answer_to first terms life d kind task ops) (sound_now first terms life d k kind task ops)
  move_goes_on d k (Slot caller) = lets_in first terms life (living_on life (carried first terms life d caller)) (slot_begins first terms life d k long caller)

  pub goes_on_for_ever : (d : Ongoing) → IsOngoing first terms life d → (moves : List Move) → IsOngoing first terms life (ongoing_after first terms life d moves)
  goes_on_for_ever d k [] = k
  goes_on_for_ever d k (move ∷ moves) = goes_on_for_ever (ongoing_after_move first terms life d move) (move_goes_on d k move) moves

  -- with asks ahead, too
  pub ahead_goes_on : (d : Ongoing) → IsOngoing first terms life d → (move : AheadMove) → IsOngoing first terms life (ahead_after_move first terms life d move)
  ahead_goes_on d k (Now move) = move_goes_on d k move
  ahead_goes_on d k (AskAt kind caller task ops at) =
      answered first terms life d k kind caller task ops (answer_at first terms life d kind task ops at) (sound_at first terms life d k kind task ops at)

  pub goes_on_ahead : (d : Ongoing) → IsOngoing first terms life d → (moves : List AheadMove) → IsOngoing first terms life (ahead_after first terms life d moves)
  goes_on_ahead d k [] = k
  goes_on_ahead d k (move ∷ moves) = goes_on_ahead (ahead_after_move first terms life d move) (ahead_goes_on d k move) moves

  -- a die on which nothing was done since these lives
  pub begins_after : (past : List PastLife) → HavePassed first life past → IsKept (starts_after first past) terms (counted past) life 0 []
      → IsOngoing first terms life (begun_after past (length (starts_after first past).plan.caps))
  begins_after past passed kept = record {
    passed = passed;
    kept = kept;
    goes_on = long.some;
    tasks = length-replicate {A = Option WaitingAsk} (length (starts_after first past).plan.caps) None;
    waits = λ task w e. absurd (none_waits (length (starts_after first past).plan.caps) task w e);
  }

  pub new_goes_on : StartsFull first terms life → IsOngoing first terms life (new_ongoing first.plan)
  new_goes_on full = begins_after [] tt (begun first terms life full)

-- Other ends of a life

-- the die is shut down
pub shuts_down : (first : Start) (terms : Terms) (life : ℕ) (d : Ongoing) → IsOngoing first terms life d → IsQuiet (start_of first d) d.log
    → (counts : Lives) → all_slots counts ≡ 0 → HavePassed first life (shut_down life counts d)
shuts_down first terms life d k quiet counts none = (
  k.passed,
  record {
    exact = k.kept.exact;
    in_time = done_in_time (start_of first d) terms (counted d.earlier) life 0 d.log k.kept;
    may_end = (k.kept.kept.within, quiet, none);
  },
)

-- it loses its power
pub loses_power : (first : Start) (terms : Terms) (life entered : ℕ) (d : Ongoing) → HavePassed first life d.earlier
    → IsKept (start_of first d) terms (counted d.earlier) life entered d.log → (start : Start) → IsOpening start
    → start.plan ≡ (start_of first d).plan → AreFull start → HavePassed first life (lost_power life start d)
loses_power first terms life entered d passed kept next opens plan full = (
  passed,
  record {
    exact = kept.exact;
    in_time = done_in_time (start_of first d) terms (counted d.earlier) life entered d.log kept;
    may_end = (kept.kept.within, opens, plan, full);
  },
)
