-- Lists of what waits, and what is asked for where it enters.
use Rattle.std.proofs.Common.{◌≡◌, ◌≢◌, ℕ, zero, suc, ◌+◌, ◌-◌, ◌<◌, ◌≤◌, ◌==◌, not, nat_lt, nat_le, Bool, true, false, cond, List}
use Rattle.std.proofs.Common.{[], ◌∷◌, length, map, replicate, get_or, set}
use Rattle.std.proofs.Common.{Option, Some, None, is_some, unwrap_or, sum_by, refl, ap, sym, ◌∙◌, inl, inr, arith, ◌⊎◌}
use Rattle.std.proofs.lemmas.Bool.{true≢false, and_parts, and_from, leb-true, le-leb, ltb-true, lt-ltb, eqb-true}
use Rattle.std.proofs.lemmas.Bool.Decides.{nat_tests}
use Rattle.std.proofs.lemmas.List.{length-set, length-replicate, length-map}
use Rattle.std.proofs.lemmas.List.Sums.{sum_by-cons, sum_by-le-sum_by}
use Rattle.std.proofs.lemmas.Option.{same_Some}
use Rattle.slot_types.specs.declared.limits.TheConstants.{MAX_OPS}
use Rattle.slot_types.specs.declared.events.Op.{Op}
use Rattle.slot_types.specs.declared.plans.DiePlan.{DiePlan}
use Rattle.slot_types.specs.Operations.{writes}
use Rattle.demand_rules.specs.declared.terms.TaskTerms.{TaskTerms}
use Rattle.demand_rules.specs.declared.terms.Terms.{Terms}
use Rattle.demand_rules.specs.Demand.{terms_of}
use Rattle.die_log.specs.Model.Log.{Log, now}
use Rattle.die_log.specs.Model.Start.{Start}
use Rattle.die_log.specs.Model.Answers.{bad_page}
use Rattle.die_log.specs.Model.Lives.{Lives, all_slots}
use Rattle.die_log.specs.Model.Opening.{IsOpening, IsQuiet, renewed_start}
use Rattle.die_log.specs.Results.DemandedLives.{AreFull}
use Rattle.planned_log.specs.declared.ask_kinds.AskKind.{AskKind}
use Rattle.planned_log.specs.declared.ask_kinds.AskKind.TheVariants as kinds
use Rattle.planned_log.specs.declared.refusals.AskRefusal.{AskRefusal}
use Rattle.planned_log.specs.declared.refusals.AskRefusal.TheVariants as because
use Rattle.planned_log.specs.Asks.{Asked, asked_by, counts_in, counting, operations_in, writes_in, has_room, room_at, most_operations}
use Rattle.planned_log.specs.Asks.{burst_refusal, burst_refusals, refusals_above, first_refusal}
use Rattle.planned_log.specs.AskKinds.{most_of, refusal_as, jobs_as, with_jobs, with_asked}
use Rattle.planned_log.specs.Bursts.{AreUnrefused, jobs_of}
use Rattle.planned_log.specs.Laws.{IsKept, StartsFull, Seen, Asks, Slots, Answer, Accepted, seen_by, answers_of}
use Rattle.planned_log.specs.Laws.{answer_by as answer_told}
use Rattle.planned_log.specs.Moves.{Move, Ask, Slot, after_ask, after_move, after_moves}
use Rattle.ongoing_log.specs.Ongoing.{WaitingAsk, Ongoing, waiting_of, due_at, left_at, begun_after, new_ongoing, start_of, answer_by, answer_to, after_answer}
use Rattle.ongoing_log.specs.PastLives.{PastLife, starts_after, counted, HavePassed}
use Rattle.ongoing_log.specs.Ongoing.{asks_of, next_life, ongoing_after_move, ongoing_after, shut_down, lost_power, AreLongEnough, IsOngoing, Waits}
use Rattle.planned_log.proofs.Kept.{ends_quiet, next_begins, begun}
use Rattle.planned_log.proofs.Asking.{timely}
use Rattle.planned_log.proofs.Bursts.{burst_alike}
use Rattle.planned_log.proofs.AskJobs.{jobs_kept, jobs_now, unrefused_as}
use Rattle.planned_log.proofs.Served.{done_in_time}
use Rattle.planned_log.proofs.Moving.{move_keeps, moves_keep}
use Rattle.planned_log.proofs.Answered.{other_ask, own_ask, then_asked, refused_now, answers_told, seen_answers}

-- Lists of what waits

-- what is read after one was set is that one, or what stood there
pub set_reads : (ws : List (Option WaitingAsk)) (i j : ℕ) (x w : WaitingAsk) → get_or (set ws i (Some x)) j None ≡ Some w
    → ((j ≡ i) × (x ≡ w)) ⊎ (get_or ws j None ≡ Some w)
set_reads [] i j x w e = inr e
set_reads (v ∷ ws) zero zero x w e = inl (refl, same_Some x w e)
set_reads (v ∷ ws) zero (suc j) x w e = inr e
set_reads (v ∷ ws) (suc i) zero x w e = inr e
set_reads (v ∷ ws) (suc i) (suc j) x w e = elim (set_reads ws i j x w e) [
  | inl both ↦ inl (ap suc both.0, both.1)
  | inr before ↦ inr before
]

pub none_waits : (n j : ℕ) (w : WaitingAsk) → get_or (replicate {A = Option WaitingAsk} n None) j None ≡ Some w → ⊥
none_waits zero j w e = absurd cc
none_waits (suc n) zero w e = absurd cc
none_waits (suc n) (suc j) w e = none_waits n j w e

-- what a task sees of the asks that waited
abbrev seen_of : Option WaitingAsk → List Seen
seen_of None = []
seen_of (Some w) = Asks kinds.Burst w.ops ∷ []

none_seen : (ws : List (Option WaitingAsk)) (n task : ℕ) → task < n → seen_by task (asks_of n ws) ≡ []
none_seen [] n task lt = refl
none_seen (None ∷ ws) n task lt = none_seen ws (n + 1) task (omega (arith, lt))
none_seen (Some w ∷ ws) n task lt = rw other (none_seen ws (n + 1) task (omega (arith, lt)))
  where
    other : (n == task) ≡ false
    other = grind (arith, nat_tests, lt)

own_seen : (ws : List (Option WaitingAsk)) (n k : ℕ) → seen_by (n + k) (asks_of n ws) ≡ seen_of (get_or ws k None)
own_seen [] n k = refl
own_seen (None ∷ ws) n zero = none_seen ws (n + 1) (n + 0) (omega arith)
own_seen (None ∷ ws) n (suc k) = ap (λ task. seen_by task (asks_of (n + 1) ws)) moved ∙ own_seen ws (n + 1) k
  where
    moved : n + suc k ≡ (n + 1) + k
    moved = omega arith
own_seen (Some w ∷ ws) n zero = rw same (ap (λ (l : List Seen). Asks kinds.Burst w.ops ∷ l) (none_seen ws (n + 1) (n + 0) (omega arith)))
  where
    same : (n == n + 0) ≡ true
    same = grind (arith, nat_tests)
own_seen (Some w ∷ ws) n (suc k) =
    rw other (ap (λ task. seen_by task (asks_of (n + 1) ws)) moved ∙ own_seen ws (n + 1) k)
  where
    other : (n == n + suc k) ≡ false
    other = grind (arith, nat_tests)

    moved : n + suc k ≡ (n + 1) + k
    moved = omega arith

-- What waits for a slot, and what doesn't

pub due_reads : (slot : ℕ) (ws : List (Option WaitingAsk)) (j : ℕ) → get_or (map (due_at slot) ws) j None ≡ due_at slot (get_or ws j None)
due_reads slot [] j = refl
due_reads slot (w ∷ ws) zero = refl
due_reads slot (w ∷ ws) (suc j) = due_reads slot ws j

pub left_reads : (slot : ℕ) (ws : List (Option WaitingAsk)) (j : ℕ) → get_or (map (left_at slot) ws) j None ≡ left_at slot (get_or ws j None)
left_reads slot [] j = refl
left_reads slot (w ∷ ws) zero = refl
left_reads slot (w ∷ ws) (suc j) = left_reads slot ws j

pub left_was : (slot : ℕ) (v : Option WaitingAsk) (w : WaitingAsk) → left_at slot v ≡ Some w → (v ≡ Some w) × ((w.until == slot) ≡ false)
left_was slot None w e = absurd cc
left_was slot (Some x) w e = by (x.until == slot) refl e
  where
    by : (b : Bool) → (x.until == slot) ≡ b → cond b None (Some x) ≡ Some w → (Some x ≡ Some w) × ((w.until == slot) ≡ false)
    by true is k = absurd cc
    by false is k = (k, ap (λ (y : WaitingAsk). y.until == slot) (sym (same_Some x w k)) ∙ is)

module _ (slot : ℕ) (v : Option WaitingAsk) (w : WaitingAsk) (is : v ≡ Some w) where
  pub none_due : (w.until == slot) ≡ false → due_at slot v ≡ None
  none_due away = ap (due_at slot) is ∙ rw away refl

  pub one_due : (w.until == slot) ≡ true → due_at slot v ≡ Some w
  one_due here = ap (due_at slot) is ∙ rw here refl

  pub one_left : (w.until == slot) ≡ false → left_at slot v ≡ Some w
  one_left away = ap (left_at slot) is ∙ rw away refl

-- where all that waits does so for other slots, none is due
pub none_of_all : (slot : ℕ) (ws : List (Option WaitingAsk))
    → ((j : ℕ) (w : WaitingAsk) → get_or ws j None ≡ Some w → (w.until == slot) ≡ false) → (n : ℕ) → asks_of n (map (due_at slot) ws) ≡ []
none_of_all slot [] h n = refl
none_of_all slot (None ∷ ws) h n = none_of_all slot ws (λ j. h (suc j)) (n + 1)
none_of_all slot (Some w ∷ ws) h n = rw (h zero w refl) (none_of_all slot ws (λ j. h (suc j)) (n + 1))

pub all_left : (slot : ℕ) (ws : List (Option WaitingAsk))
    → ((j : ℕ) (w : WaitingAsk) → get_or ws j None ≡ Some w → (w.until == slot) ≡ false) → map (left_at slot) ws ≡ ws
all_left slot [] h = refl
all_left slot (None ∷ ws) h = ap (λ (l : List (Option WaitingAsk)). None ∷ l) (all_left slot ws (λ j. h (suc j)))
all_left slot (Some w ∷ ws) h = rw (h zero w refl) (ap (λ (l : List (Option WaitingAsk)). Some w ∷ l) (all_left slot ws (λ j. h (suc j))))

-- What enters

module _ (start : Start) (terms : Terms) (earlier : Lives) (life : ℕ) where
  abbrev entering : ℕ → List (Option WaitingAsk) → Log → Log
  entering n ws log = after_moves start terms earlier life log (asks_of n ws)

  -- asks leave the slot
  pub asks_now : (ws : List (Option WaitingAsk)) (n : ℕ) (log : Log) → IsKept start terms earlier life 0 log → now (entering n ws log) ≡ now log
  asks_now [] n log k = refl
  asks_now (None ∷ ws) n log k = asks_now ws (n + 1) log k
  asks_now (Some w ∷ ws) n log k =
      asks_now ws (n + 1) (after_move start terms earlier life log (Ask kinds.Burst w.caller n w.ops))
      (move_keeps start terms earlier life log (Ask kinds.Burst w.caller n w.ops) k)
      ∙ asks_leave (burst_refusal start.plan terms life earlier log n w.ops) refl
    where
      asks_leave : (o : Option AskRefusal) → burst_refusal start.plan terms life earlier log n w.ops ≡ o
          → now (after_ask start terms log kinds.Burst w.caller n w.ops o) ≡ now log
      asks_leave None none = jobs_now start terms earlier life 0 w.caller n (jobs_as kinds.Burst w.ops) log k
          (unrefused_as start terms earlier life 0 w.caller n kinds.Burst log k w.ops none)
      asks_leave (Some refusal) none = refl

  module _ (task : ℕ) where
    abbrev asked_seen : ℕ → List Asked → List Seen → List Asked
    asked_seen slot asked [] = asked
    asked_seen slot asked (Asks kind ops ∷ rest) =
        asked_seen slot (then_asked (all_slots earlier + slot) (jobs_as kind ops) asked
        (refused_now start.plan terms life (all_slots earlier) task kind slot asked ops)) rest
    asked_seen slot asked (Slots ∷ rest) = asked_seen slot asked rest

    asks_asked : (ws : List (Option WaitingAsk)) (n : ℕ) (log : Log) → IsKept start terms earlier life 0 log
        → asked_by task (entering n ws log ∷ earlier) ≡ asked_seen (now log) (asked_by task (log ∷ earlier)) (seen_by task (asks_of n ws))
    asks_asked [] n log k = refl
    asks_asked (None ∷ ws) n log k = asks_asked ws (n + 1) log k
    asks_asked (Some w ∷ ws) n log k =
        by_test (asks_asked ws (n + 1) next (move_keeps start terms earlier life log (Ask kinds.Burst w.caller n w.ops) k)) (n == task) refl
      where
        next : Log
        next = after_move start terms earlier life log (Ask kinds.Burst w.caller n w.ops)

        by_test : asked_by task (after_moves start terms earlier life next (asks_of (n + 1) ws) ∷ earlier)
            ≡ asked_seen (now next) (asked_by task (next ∷ earlier)) (seen_by task (asks_of (n + 1) ws))
            → (b : Bool) → (n == task) ≡ b
            → asked_by task (after_moves start terms earlier life next (asks_of (n + 1) ws) ∷ earlier)
            ≡ asked_seen (now log) (asked_by task (log ∷ earlier)) (cond b (Asks kinds.Burst w.ops ∷ seen_by task (asks_of (n + 1) ws)) (seen_by task (asks_of (n + 1) ws)))
        by_test rest false e =
            let o = other_ask start terms earlier life task log k kinds.Burst w.caller n w.ops e (burst_refusal start.plan terms life earlier log n w.ops) refl in
            rest ∙ (ap (λ m. asked_seen m (asked_by task (next ∷ earlier)) (seen_by task (asks_of (n + 1) ws))) o.0
            ∙ ap (λ (l : List Asked). asked_seen (now log) l (seen_by task (asks_of (n + 1) ws))) o.1)
        by_test rest true e =
            let o = own_ask start terms earlier life task log k kinds.Burst w.caller n w.ops e (burst_refusal start.plan terms life earlier log n w.ops) refl in
            let same : burst_refusal start.plan terms life earlier log n w.ops ≡ burst_refusal start.plan terms life earlier log task w.ops =
            ap (λ i. burst_refusal start.plan terms life earlier log i w.ops) (eqb-true n task e) in
            rest ∙ (ap (λ m. asked_seen m (asked_by task (next ∷ earlier)) (seen_by task (asks_of (n + 1) ws))) o.0
            ∙ (ap (λ (l : List Asked). asked_seen (now log) l (seen_by task (asks_of (n + 1) ws))) o.1
            ∙ ap (λ (r : Option AskRefusal). asked_seen (now log) (then_asked (all_slots earlier + now log) (jobs_of w.ops) (asked_by task (log ∷ earlier)) r)
            (seen_by task (asks_of (n + 1) ws))) same))

    module _ (ws : List (Option WaitingAsk)) (log : Log) (k : IsKept start terms earlier life 0 log) where
      seen_here : (v : Option WaitingAsk) → get_or ws task None ≡ v → seen_by task (asks_of 0 ws) ≡ seen_of v
      seen_here v is = ap (λ n. seen_by n (asks_of 0 ws)) from_first ∙ (own_seen ws 0 task ∙ ap seen_of is)
        where
          from_first : task ≡ 0 + task
          from_first = omega arith

      -- a task of which none enters has asked for what it had
      pub none_asked : get_or ws task None ≡ None → asked_by task (entering 0 ws log ∷ earlier) ≡ asked_by task (log ∷ earlier)
      none_asked none =
          asks_asked ws 0 log k
          ∙ ap (λ (l : List Seen). asked_seen (now log) (asked_by task (log ∷ earlier)) l) (seen_here None none)

      module _ (w : WaitingAsk) (is : get_or ws task None ≡ Some w) (unrefused : burst_refusal start.plan terms life earlier log task w.ops ≡ None) where
        -- one that isn't refused has all its jobs asked for
        pub own_asked : asked_by task (entering 0 ws log ∷ earlier) ≡ with_asked (all_slots earlier + now log) (jobs_of w.ops) (asked_by task (log ∷ earlier))
        own_asked =
            asks_asked ws 0 log k
            ∙ (ap (λ (l : List Seen). asked_seen (now log) (asked_by task (log ∷ earlier)) l) (seen_here (Some w) is)
            ∙ ap (λ (r : Option AskRefusal). then_asked (all_slots earlier + now log) (jobs_of w.ops) (asked_by task (log ∷ earlier)) r) unrefused)

        pub own_answered : answers_of start terms earlier life task log (asks_of 0 ws)
            ≡ Accepted (now log) (now log + (terms_of terms task).deadline) ∷ []
        own_answered =
            answers_told start terms earlier life task (asks_of 0 ws) log k
            ∙ (ap (λ (l : List Seen). seen_answers start.plan terms life (all_slots earlier) task (now log) (asked_by task (log ∷ earlier)) l) (seen_here (Some w) is)
            ∙ ap (λ o. told_by o) unrefused)
          where
            told_by : Option AskRefusal → List Answer
            told_by o = answer_told terms task (now log) o ∷ []
