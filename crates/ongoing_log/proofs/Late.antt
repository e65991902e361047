-- Why an ask is refused for the end of the life alone, and that it stays so until a later life takes it.
use Rattle.std.proofs.Common.{◌≡◌, ◌≢◌, ℕ, zero, suc, ◌+◌, ◌-◌, ◌<◌, ◌≤◌, ◌==◌, not, nat_lt, nat_le, Bool, true, false, cond, List}
use Rattle.std.proofs.Common.{[], ◌∷◌, length, map, replicate, get_or, set}
use Rattle.std.proofs.Common.{Option, Some, None, is_some, unwrap_or, sum_by, refl, ap, sym, ◌∙◌, inl, inr, arith, ◌⊎◌}
use Rattle.std.proofs.lemmas.Bool.{true≢false, and_parts, and_from, leb-true, le-leb, ltb-true, lt-ltb, eqb-true}
use Rattle.std.proofs.lemmas.Bool.Decides.{nat_tests}
use Rattle.std.proofs.lemmas.List.{length-set, length-replicate, length-map}
use Rattle.std.proofs.lemmas.List.Sums.{sum_by-cons, sum_by-le-sum_by}
use Rattle.std.proofs.lemmas.Option.{same_Some}
use Rattle.slot_types.specs.declared.limits.TheConstants.{MAX_OPS}
use Rattle.slot_types.specs.declared.events.Op.{Op}
use Rattle.slot_types.specs.declared.plans.DiePlan.{DiePlan}
use Rattle.slot_types.specs.Operations.{writes}
use Rattle.demand_rules.specs.declared.terms.TaskTerms.{TaskTerms}
use Rattle.demand_rules.specs.declared.terms.Terms.{Terms}
use Rattle.demand_rules.specs.Demand.{terms_of}
use Rattle.die_log.specs.Model.Log.{Log, now}
use Rattle.die_log.specs.Model.Start.{Start}
use Rattle.die_log.specs.Model.Answers.{bad_page}
use Rattle.die_log.specs.Model.Lives.{Lives, all_slots}
use Rattle.die_log.specs.Model.Opening.{IsOpening, IsQuiet, renewed_start}
use Rattle.die_log.specs.Results.DemandedLives.{AreFull}
use Rattle.planned_log.specs.declared.ask_kinds.AskKind.{AskKind}
use Rattle.planned_log.specs.declared.ask_kinds.AskKind.TheVariants as kinds
use Rattle.planned_log.specs.declared.refusals.AskRefusal.{AskRefusal}
use Rattle.planned_log.specs.declared.refusals.AskRefusal.TheVariants as because
use Rattle.planned_log.specs.Asks.{Asked, asked_by, counts_in, counting, operations_in, writes_in, has_room, room_at, most_operations}
use Rattle.planned_log.specs.Asks.{burst_refusal, burst_refusals, refusals_above, first_refusal}
use Rattle.planned_log.specs.AskKinds.{most_of, refusal_as, jobs_as, with_jobs}
use Rattle.planned_log.specs.Bursts.{AreUnrefused}
use Rattle.planned_log.specs.Laws.{IsKept, StartsFull, Seen, Asks, Answer, Accepted, seen_by, answers_of}
use Rattle.planned_log.specs.Laws.{answer_by as answer_told}
use Rattle.planned_log.specs.Moves.{Move, Ask, Slot, after_ask, after_move, after_moves}
use Rattle.ongoing_log.specs.Ongoing.{WaitingAsk, Ongoing, waiting_of, begun_after, new_ongoing, start_of, answer_by, answer_to, after_answer}
use Rattle.ongoing_log.specs.PastLives.{PastLife, starts_after, counted, HavePassed}
use Rattle.ongoing_log.specs.Ongoing.{asks_of, next_life, ongoing_after_move, ongoing_after, shut_down, lost_power, AreLongEnough, IsOngoing, Waits}
use Rattle.planned_log.proofs.Kept.{ends_quiet, next_begins, begun}
use Rattle.planned_log.proofs.Asking.{timely, unrefused}
use Rattle.planned_log.proofs.Bursts.{burst_alike}
use Rattle.planned_log.proofs.AskJobs.{jobs_kept, jobs_now, unrefused_as}
use Rattle.planned_log.proofs.Served.{done_in_time}
use Rattle.planned_log.proofs.Moving.{move_keeps, moves_keep}
use Rattle.planned_log.proofs.Answered.{other_ask, a_slot, answers_told, seen_answers}

-- Why an ask waits

module _ (task_out empty long bad : Bool) (most page most_writes : ℕ) (many : Bool) where
  -- the conditions of an ask, of which the last two depend on the slot
  abbrev conditions : (soon : Bool) (next : ℕ) (late : Bool) → List (Bool × AskRefusal)
  conditions soon next late =
      (task_out, because.UnknownTask) ∷ (empty, because.EmptyJob) ∷ (long, because.TooManyOps most) ∷ (bad, because.BadPage page)
      ∷ (many, because.TooManyWrites most_writes) ∷ (soon, because.TooSoon next) ∷ (late, because.LifeEnd) ∷ []

  record StandFirst : Type 0 where
    pub out_is : task_out ≡ false
    pub empty_is : empty ≡ false
    pub long_is : long ≡ false
    pub bad_is : bad ≡ false
    pub many_is : many ≡ false

  -- where the end of the life is the cause, nothing else is
  late_alone : (soon : Bool) (next : ℕ) (late : Bool) → first_refusal (conditions soon next late) ≡ Some because.LifeEnd
      → StandFirst × (soon ≡ false) × (late ≡ true)
  late_alone soon next late e =
      let g : List (Bool × AskRefusal) = (late, because.LifeEnd) ∷ [] in
      let f : List (Bool × AskRefusal) = (soon, because.TooSoon next) ∷ g in
      let d : List (Bool × AskRefusal) = (many, because.TooManyWrites most_writes) ∷ f in
      let c : List (Bool × AskRefusal) = (bad, because.BadPage page) ∷ d in
      let b : List (Bool × AskRefusal) = (long, because.TooManyOps most) ∷ c in
      let a : List (Bool × AskRefusal) = (empty, because.EmptyJob) ∷ b in
      let p1 = passes task_out because.UnknownTask a (λ k. absurd cc) e in
      let p2 = passes empty because.EmptyJob b (λ k. absurd cc) p1.1 in
      let p3 = passes long (because.TooManyOps most) c (λ k. absurd cc) p2.1 in
      let p4 = passes bad (because.BadPage page) d (λ k. absurd cc) p3.1 in
      let p5 = passes many (because.TooManyWrites most_writes) f (λ k. absurd cc) p4.1 in
      let p6 = passes soon (because.TooSoon next) g (λ k. absurd cc) p5.1 in (
        record { out_is = p1.0; empty_is = p2.0; long_is = p3.0; bad_is = p4.0; many_is = p5.0 },
        p6.0,
        last late p6.1,
      )
    where
      passes : (b : Bool) (r : AskRefusal) (rest : List (Bool × AskRefusal)) → r ≢ because.LifeEnd
          → first_refusal ((b, r) ∷ rest) ≡ Some because.LifeEnd → (b ≡ false) × (first_refusal rest ≡ Some because.LifeEnd)
      passes true r rest other k = absurd (other (same_Some r because.LifeEnd k))
      passes false r rest other k = (refl, k)

      last : (b : Bool) → first_refusal ((b, because.LifeEnd) ∷ []) ≡ Some because.LifeEnd → b ≡ true
      last true k = refl
      last false k = absurd cc

  -- and so it is in each slot in which the last two conditions stand so
  then_first : StandFirst → (soon : Bool) (next : ℕ) (late : Bool) → soon ≡ false
      → first_refusal (conditions soon next late) ≡ cond late (Some because.LifeEnd) None
  then_first h soon next late e =
      rw h.out_is (rw h.empty_is (rw h.long_is (rw h.bad_is (rw h.many_is (rw e (last late))))))
    where
      last : (b : Bool) → first_refusal ((b, because.LifeEnd) ∷ []) ≡ cond b (Some because.LifeEnd) None
      last true = refl
      last false = refl

-- what counts gets less from slot to slot
fewer : (amount : Asked → ℕ) (period slot later : ℕ) → slot ≤ later → (asked : List Asked)
    → sum_by (λ a. cond (counts_in period later a) (amount a) 0) asked ≤ sum_by (λ a. cond (counts_in period slot a) (amount a) 0) asked
fewer amount period slot later le asked =
    sum_by-le-sum_by (λ a. cond (counts_in period later a) (amount a) 0) (λ a. cond (counts_in period slot a) (amount a) 0) asked
    (λ a. one a (counts_in period later a) refl)
  where
    still : (a : Asked) → counts_in period later a ≡ true → counts_in period slot a ≡ true
    still a e = grind (arith, nat_tests, le, e)

    one : (a : Asked) (b : Bool) → counts_in period later a ≡ b → cond b (amount a) 0 ≤ cond (counts_in period slot a) (amount a) 0
    one a false e = omega arith
    one a true e = rw (still a e) (omega arith)

-- so where there is room, there is in each later slot
room_stays : (t : TaskTerms) (slot later : ℕ) → slot ≤ later → (asked : List Asked) (ops written : ℕ) → has_room t slot asked ops written ≡ true
    → has_room t later asked ops written ≡ true
room_stays t slot later le asked ops written room =
    let p = and_parts (nat_le (operations_in t.period slot asked + ops) t.work) (nat_le (writes_in t.period slot asked + written) t.writes) room in
    and_from (nat_le (operations_in t.period later asked + ops) t.work) (nat_le (writes_in t.period later asked + written) t.writes)
    (le-leb _ _ (omega (arith, leb-true _ _ p.0, fewer (λ a. a.operations) t.period slot later le asked)))
    (le-leb _ _ (omega (arith, leb-true _ _ p.1, fewer (λ a. a.writes) t.period slot later le asked)))

not_true : (b : Bool) → not b ≡ false → b ≡ true
not_true true e = refl
not_true false e = absurd (true≢false e)

not_false : (b : Bool) → b ≡ true → not b ≡ false
not_false b e = ap not e

module _ (plan : DiePlan) (terms : Terms) (life task : ℕ) (ops : List Op) where
  abbrev t : TaskTerms
  t = terms_of terms task

  abbrev pub late_at : (first slot : ℕ) → List Asked → Type 0
  late_at first slot asked = first_refusal (burst_refusals plan terms life first slot asked task ops) ≡ Some because.LifeEnd

  abbrev task_out : Bool
  task_out = nat_le (length plan.caps) task

  abbrev empty : Bool
  empty = length ops == 0

  abbrev long : Bool
  long = nat_lt t.work (length ops)

  abbrev bad : Bool
  bad = is_some (bad_page plan ops)

  abbrev page : ℕ
  page = unwrap_or (bad_page plan ops) 0

  abbrev many : Bool
  many = nat_lt t.writes (writes ops)

  abbrev soon_at : ℕ → List Asked → Bool
  soon_at clock asked = not (has_room t clock asked (length ops) (writes ops))

  abbrev next_at : (first slot : ℕ) → List Asked → ℕ
  next_at first slot asked = room_at t (counting t.period (first + slot) asked) (length ops) (writes ops) - first

  parts : (first slot : ℕ) (asked : List Asked) → late_at first slot asked
      → StandFirst task_out empty long bad t.work page t.writes many × (soon_at (first + slot) asked ≡ false) × (nat_lt life (slot + t.deadline) ≡ true)
  parts first slot asked e = late_alone task_out empty long bad t.work page t.writes many (soon_at (first + slot) asked)
      (next_at first slot asked) (nat_lt life (slot + t.deadline)) e

  again : (first slot : ℕ) (asked : List Asked) → StandFirst task_out empty long bad t.work page t.writes many → soon_at (first + slot) asked ≡ false
      → first_refusal (burst_refusals plan terms life first slot asked task ops)
      ≡ cond (nat_lt life (slot + t.deadline)) (Some because.LifeEnd) None
  again first slot asked h e = then_first task_out empty long bad t.work page t.writes many h (soon_at (first + slot) asked)
      (next_at first slot asked) (nat_lt life (slot + t.deadline)) e

  -- an ask of either kind that comes too late is a burst that does
  pub as_burst : (kind : AskKind) (first slot : ℕ) (asked : List Asked)
      → first_refusal (refusals_above (most_of kind t) plan terms life first slot asked task ops) ≡ Some because.LifeEnd → late_at first slot asked
  as_burst kinds.Burst first slot asked e = e
  as_burst kinds.Job first slot asked e =
      let p = late_alone task_out empty (nat_lt (most_operations t) (length ops)) bad (most_operations t) page t.writes many
      (soon_at (first + slot) asked) (next_at first slot asked) (nat_lt life (slot + t.deadline)) e in
      again first slot asked (record {
        out_is = p.0.out_is;
        empty_is = p.0.empty_is;
        long_is = no_longer t.work (length ops) (nat_le t.work MAX_OPS) refl p.0.long_is;
        bad_is = p.0.bad_is;
        many_is = p.0.many_is;
      }) p.1
      ∙ ap (λ b. cond b (Some because.LifeEnd) None) p.2
    where
      no_longer : (work n : ℕ) (b : Bool) → nat_le work MAX_OPS ≡ b → nat_lt (cond b work MAX_OPS) n ≡ false → nat_lt work n ≡ false
      no_longer work n true e few = few
      no_longer work n false e few = grind (arith, nat_tests, e, few)

  roomy : (slot later : ℕ) → slot ≤ later → (asked : List Asked) → soon_at slot asked ≡ false → soon_at later asked ≡ false
  roomy slot later le asked e =
      ap not (room_stays t slot later le asked (length ops) (writes ops) (not_true (has_room t slot asked (length ops) (writes ops)) e))

  -- it goes on to wait while slots are carried out
  pub late_stays : (first slot later : ℕ) → slot ≤ later → (asked : List Asked) → late_at first slot asked → late_at first later asked
  late_stays first slot later le asked e =
      let p = parts first slot asked e in
      again first later asked p.0 (roomy (first + slot) (first + later) (omega (arith, le)) asked p.1)
      ∙ ap (λ b. cond b (Some because.LifeEnd) None) (still p.2)
    where
      still : nat_lt life (slot + t.deadline) ≡ true → nat_lt life (later + t.deadline) ≡ true
      still h = grind (arith, nat_tests, le, h)

  -- a later life that is long enough takes it in its first slot
  pub late_enters : (first slot next : ℕ) → first + slot ≤ next → t.deadline ≤ life → (asked : List Asked) → late_at first slot asked
      → first_refusal (burst_refusals plan terms life next 0 asked task ops) ≡ None
  late_enters first slot next le few asked e =
      let p = parts first slot asked e in
      again next 0 asked p.0 (roomy (first + slot) (next + 0) (omega (arith, le)) asked p.1)
      ∙ ap (λ b. cond b (Some because.LifeEnd) None) (fits few)
    where
      fits : t.deadline ≤ life → nat_lt life (0 + t.deadline) ≡ false
      fits h = grind (arith, nat_tests, h)

  -- it is of a task of the plan
  pub known_task : (first slot : ℕ) (asked : List Asked) → late_at first slot asked → task < length plan.caps
  known_task first slot asked e = below (parts first slot asked e).0.out_is
    where
      below : nat_le (length plan.caps) task ≡ false → task < length plan.caps
      below h = grind (arith, nat_tests, h)

  -- the jobs would be due after the end
  pub due_late : (first slot : ℕ) (asked : List Asked) → late_at first slot asked → life < slot + t.deadline
  due_late first slot asked e = ltb-true life (slot + t.deadline) (parts first slot asked e).2

  -- one of either kind that isn't refused is a burst that isn't
  pub taken_as_burst : (kind : AskKind) (first slot : ℕ) (asked : List Asked)
      → first_refusal (refusals_above (most_of kind t) plan terms life first slot asked task ops) ≡ None
      → first_refusal (burst_refusals plan terms life first slot asked task ops) ≡ None
  taken_as_burst kind first slot asked e =
      let q = timely (most_of kind t) plan terms life first slot asked task ops e in
      unrefused t.work plan terms life first slot asked task ops (record {
        task_is = q.task_is;
        some = q.some;
        few = omega (arith, q.few, within kind);
        pages = q.pages;
        operations = q.operations;
        writes_fit = q.writes_fit;
        due = q.due;
      })
    where
      no_more : (work : ℕ) (b : Bool) → nat_le work MAX_OPS ≡ b → cond b work MAX_OPS ≤ work
      no_more work true e = omega arith
      no_more work false e = grind (arith, nat_tests, e)

      within : (kind : AskKind) → most_of kind t ≤ t.work
      within kinds.Burst = omega arith
      within kinds.Job = no_more t.work (nat_le t.work MAX_OPS) refl
