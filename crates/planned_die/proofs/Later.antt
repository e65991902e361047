-- What the plan says of an ask as at a later slot follows from what it says now, and from which slot on there is room.
use Rattle.std.proofs.Common.{◌≡◌, ℕ, zero, suc, ◌+◌, ◌-◌, ◌<◌, ◌≤◌, ◌==◌, nat_lt, nat_le, not, Bool, true, false, cond, List, [], ◌∷◌, ◌++◌, length, map, get_or}
use Rattle.std.proofs.Common.{Option, Some, None, is_some, unwrap_or, refl, ap, sym, ◌∙◌, inl, inr, arith}
use Rattle.std.specs.Prelude.{All, IsTrue, ◌↔◌}
use Rattle.std.specs.List.{AllByRecursion}
use Rattle.std.proofs.lemmas.Bool.{true≢false, leb-true, cases_Bool, cases_lt}
use Rattle.std.proofs.lemmas.Bool.Decides.{nat_tests}
use Rattle.std.proofs.lemmas.List.Elements.{recursion_from_All}
use Rattle.slot_types.specs.declared.limits.TheConstants.{MAX_OPS}
use Rattle.slot_types.specs.declared.events.Op.{Op}
use Rattle.slot_types.specs.declared.plans.DiePlan.{DiePlan}
use Rattle.slot_types.specs.Operations.{writes}
use Rattle.demand_rules.specs.declared.terms.TaskTerms.{TaskTerms}
use Rattle.demand_rules.specs.declared.terms.Terms.{Terms}
use Rattle.demand_rules.specs.Demand.{terms_of}
use Rattle.die_log.specs.Model.Log.{now}
use Rattle.die_log.specs.Model.Lives.{Lives}
use Rattle.die_log.specs.Model.Answers.{bad_page}
use Rattle.planned_log.specs.declared.ask_kinds.AskKind.{AskKind}
use Rattle.planned_log.specs.declared.ask_kinds.AskKind.TheVariants as kinds
use Rattle.planned_log.specs.declared.refusals.AskRefusal.{AskRefusal}
use Rattle.planned_log.specs.declared.refusals.AskRefusal.TheVariants as because
use Rattle.planned_log.specs.Asks.{Asked, asked_by, counting, has_room, room_at, refusals_above, first_refusal}
use Rattle.planned_log.specs.AskKinds.{most_of}
use Rattle.planned_log.proofs.Waiting.{room_from}
use Rattle.planned_die.specs.declared.memory.AskedJob.{AskedJob}
use Rattle.planned_die.specs.declared.task_asks.TaskAsks.{TaskAsks}
use Rattle.planned_die.specs.Remembered.{newest_first, own_asks, jobs_of, CameInOrder, late_for, said_later}
use Rattle.planned_die.specs.Planned.{Planned, HasLived}
use Rattle.planned_die.specs.PlannedCalls.{refusal_at}
use Rattle.planned_die.proofs.Counting.{refused_alike}
use Rattle.planned_die.proofs.Passing.{as_asked}

-- The newest stands first

abbrev by_slot : ℕ → List Asked → Type 0
by_slot slot asked = AllByRecursion (λ a. a.at ≤ slot) asked

abbrev pub AreNewestFirst : List Asked → Type 0
AreNewestFirst [] = Unit {0}
AreNewestFirst (a ∷ older) = by_slot a.at older × AreNewestFirst older

-- an older one stands last
by_last : (slot : ℕ) (asked : List Asked) (a : Asked) → a.at ≤ slot → by_slot slot asked → by_slot slot (asked ++ a ∷ [])
by_last slot [] a le h = (le, tt)
by_last slot (b ∷ asked) a le h = (h.0, by_last slot asked a le h.1)

last_first : (asked : List Asked) (a : Asked) → AllByRecursion (λ b. a.at ≤ b.at) asked → AreNewestFirst asked → AreNewestFirst (asked ++ a ∷ [])
last_first [] a old h = (tt, tt)
last_first (b ∷ asked) a old h = (by_last b.at asked a old.0 h.0, last_first asked a old.1 h.1)

-- each of these came after that one
after_first : (slot : ℕ) (jobs : List AskedJob) → AllByRecursion (λ j. slot ≤ j.at) jobs → AllByRecursion (λ a. slot ≤ a.at) (newest_first jobs)
after_first slot [] h = tt
after_first slot (j ∷ jobs) h = after_last (newest_first jobs) (after_first slot jobs h.1)
  where
    after_last : (asked : List Asked) → AllByRecursion (λ a. slot ≤ a.at) asked → AllByRecursion (λ a. slot ≤ a.at) (asked ++ as_asked j ∷ [])
    after_last [] k = (h.0, tt)
    after_last (a ∷ asked) k = (k.0, after_last asked k.1)

pub in_order : (jobs : List AskedJob) → CameInOrder jobs → AreNewestFirst (newest_first jobs)
in_order [] h = tt
in_order (j ∷ jobs) h =
    last_first (newest_first jobs) (as_asked j) (after_first j.at jobs (recursion_from_All (λ k. j.at ≤ k.at) jobs h.0)) (in_order jobs h.1)

-- The first slot with room

module _ (t : TaskTerms) (asked : List Asked) (order : AreNewestFirst asked) (ops written : ℕ) (few : ops ≤ t.work) (few_written : written ≤ t.writes)
    (moment slot : ℕ) (le : moment ≤ slot) where
  abbrev room : ℕ → ℕ
  room n = room_at t (counting t.period n asked) ops written

  roomy : ℕ → Bool
  roomy n = has_room t n asked ops written

  -- where there is none in the later slot, the first that has is the same
  pub same_room : has_room t slot asked ops written ≡ false → room slot ≡ room moment
  same_room none =
      let beyond : slot < room slot = above (room slot) slot (λ by. (room_from t asked order slot slot ops written (omega arith) few few_written).1 by) none in
      let beyond_then : slot < room moment = above (room moment) slot (λ by. (room_from t asked order moment slot ops written le few few_written).1 by) none in
      let one : room moment ≤ room slot =
      (room_from t asked order moment (room slot) ops written (omega (arith, le, beyond)) few few_written).0
      ((room_from t asked order slot (room slot) ops written (omega (arith, beyond)) few few_written).1 (omega arith)) in
      let two : room slot ≤ room moment =
      (room_from t asked order slot (room moment) ops written (omega (arith, beyond_then)) few few_written).0
      ((room_from t asked order moment (room moment) ops written (omega (arith, le, beyond_then)) few few_written).1 (omega arith)) in
      omega (arith, one, two)
    where
      above : (n m : ℕ) → (n ≤ m → has_room t slot asked ops written ≡ true) → has_room t slot asked ops written ≡ false → m < n
      above n m has away = elim (cases_lt m n) [
        | inl lt ↦ lt
        | inr by ↦ absurd (true≢false (sym (has by) ∙ away))
      ]

-- What the plan says

module _ (most : ℕ) (plan : DiePlan) (terms : Terms) (life first now slot : ℕ) (asked : List Asked) (task : ℕ) (ops : List Op)
    (le : now ≤ slot) (order : AreNewestFirst asked) (small : most ≤ (terms_of terms task).work) where
  abbrev t : TaskTerms
  t = terms_of terms task

  abbrev roomy_at : ℕ → Bool
  roomy_at n = has_room t (first + n) asked (length ops) (writes ops)

  abbrev next_at : ℕ → ℕ
  next_at n = room_at t (counting t.period (first + n) asked) (length ops) (writes ops) - first

  -- the last two causes, as at a slot
  abbrev last_two : ℕ → List (Bool × AskRefusal)
  last_two n = (not (roomy_at n), because.TooSoon (next_at n)) ∷ (nat_lt life (n + t.deadline), because.LifeEnd) ∷ []

  abbrev late_only : Option AskRefusal
  late_only = late_for life t.deadline slot

  late_is : (n : ℕ) (b : Bool) → roomy_at n ≡ b → first_refusal (last_two n) ≡ cond b (late_for life t.deadline n) (Some (because.TooSoon (next_at n)))
  late_is n true e = rw e (ends (nat_lt life (n + t.deadline)))
    where
      ends : (b : Bool) → first_refusal ((b, because.LifeEnd) ∷ []) ≡ cond b (Some because.LifeEnd) None
      ends true = refl
      ends false = refl
  late_is n false e = rw e refl

  by_late : (n : ℕ) → said_later life t.deadline slot (late_for life t.deadline n) ≡ late_only
  by_late n = by (nat_lt life (n + t.deadline))
    where
      by : (b : Bool) → said_later life t.deadline slot (cond b (Some because.LifeEnd) None) ≡ late_only
      by true = refl
      by false = refl

  module _ (few : length ops ≤ t.work) (few_written : writes ops ≤ t.writes) where
    from : (moment n : ℕ) → moment ≤ n → IsTrue (roomy_at n) ↔ (room_at t (counting t.period (first + moment) asked) (length ops) (writes ops) ≤ first + n)
    from moment n by = room_from t asked order (first + moment) (first + n) (length ops) (writes ops) (omega (arith, by)) few few_written

    -- where there is none now, there is at the later slot just from the named one on
    then_room : roomy_at now ≡ false → (b : Bool) → nat_le (next_at now) slot ≡ b → roomy_at slot ≡ b
    then_room none true e = (from now slot le).1 (omega (arith, leb-true (next_at now) slot e))
    then_room none false e = elim (cases_Bool (roomy_at slot)) [
      | inl there ↦ absurd (omega (arith, not_le e, (from now slot le).0 there))
      | inr away ↦ away
    ]
      where
        not_le : nat_le (next_at now) slot ≡ false → slot < next_at now
        not_le h = grind (arith, nat_tests, h)

    same_next : roomy_at slot ≡ false → next_at slot ≡ next_at now
    same_next none = ap (λ n. n - first)
        (same_room t asked order (length ops) (writes ops) few few_written (first + now) (first + slot) (omega (arith, le)) none)

    -- where there is room, it stays
    room_on : roomy_at now ≡ true → roomy_at slot ≡ true
    room_on there = (from now slot le).1 (omega (arith, (from now now (omega arith)).0 there, le))

    last_said : (b : Bool) → roomy_at now ≡ b → first_refusal (last_two slot) ≡ said_later life t.deadline slot (first_refusal (last_two now))
    last_said true e =
        late_is slot true (room_on e)
        ∙ (sym (by_late now) ∙ ap (said_later life t.deadline slot) (sym (late_is now true e)))
    last_said false e =
        by_next (nat_le (next_at now) slot) refl
        ∙ ap (said_later life t.deadline slot) (sym (late_is now false e))
      where
        by_next : (b : Bool) → nat_le (next_at now) slot ≡ b → first_refusal (last_two slot) ≡ said_later life t.deadline slot (Some (because.TooSoon (next_at now)))
        by_next true by = late_is slot true (then_room e true by) ∙ rw by refl
        by_next false by =
            late_is slot false (then_room e false by)
            ∙ (ap (λ n. Some (because.TooSoon n)) (same_next (then_room e false by)) ∙ rw by refl)

  -- the other causes don't depend on the slot
  abbrev out : Bool
  out = nat_le (length plan.caps) task

  abbrev empty : Bool
  empty = length ops == 0

  abbrev long : Bool
  long = nat_lt most (length ops)

  abbrev bad : Bool
  bad = is_some (bad_page plan ops)

  abbrev many : Bool
  many = nat_lt t.writes (writes ops)

  said_by : (a b c d e : Bool) → long ≡ c → many ≡ e
      → first_refusal ((a, because.UnknownTask) ∷ (b, because.EmptyJob) ∷ (c, because.TooManyOps most)
      ∷ (d, because.BadPage (unwrap_or (bad_page plan ops) 0)) ∷ (e, because.TooManyWrites t.writes) ∷ last_two slot)
      ≡ said_later life t.deadline slot (first_refusal ((a, because.UnknownTask) ∷ (b, because.EmptyJob) ∷ (c, because.TooManyOps most)
      ∷ (d, because.BadPage (unwrap_or (bad_page plan ops) 0)) ∷ (e, because.TooManyWrites t.writes) ∷ last_two now))
  said_by true b c d e long_is many_is = refl
  said_by false true c d e long_is many_is = refl
  said_by false false true d e long_is many_is = refl
  said_by false false false true e long_is many_is = refl
  said_by false false false false true long_is many_is = refl
  said_by false false false false false long_is many_is =
      last_said (omega (arith, no_more most (length ops) long_is, small)) (no_more t.writes (writes ops) many_is) (roomy_at now) refl
    where
      no_more : (n m : ℕ) → nat_lt n m ≡ false → m ≤ n
      no_more n m h = grind (arith, nat_tests, h)

  pub said_then : first_refusal (refusals_above most plan terms life first slot asked task ops)
      ≡ said_later life t.deadline slot (first_refusal (refusals_above most plan terms life first now asked task ops))
  said_then = said_by out empty long bad many refl refl

-- an ask of either kind is no larger than a burst may be
pub most_within : (kind : AskKind) (t : TaskTerms) → most_of kind t ≤ t.work
most_within kinds.Burst t = omega arith
most_within kinds.Job t = within t.work (nat_le t.work MAX_OPS) refl
  where
    within : (work : ℕ) (b : Bool) → nat_le work MAX_OPS ≡ b → cond b work MAX_OPS ≤ work
    within work true e = omega arith
    within work false e = grind (arith, nat_tests, e)

-- what is remembered of a task came in order
pub own_in_order : (xs : List TaskAsks) → ((task : ℕ) (d : TaskAsks) → task < length xs → CameInOrder (get_or xs task d).jobs.items) → (task : ℕ)
    → AreNewestFirst (own_asks task (map jobs_of xs))
own_in_order [] h task = tt
own_in_order (x ∷ xs) h zero = in_order x.jobs.items (h zero x (omega arith))
own_in_order (x ∷ xs) h (suc task) = own_in_order xs (λ i d lt. h (suc i) d (omega (arith, lt))) task

-- the answer by what is remembered is the one by the lives
pub refusal_later : {N : Type 0} (kind : AskKind) (die : Planned N) (earlier : Lives) → HasLived die earlier → (plan : DiePlan) (present slot : ℕ)
    (jobs : List (List AskedJob)) (task : ℕ) (ops : List Op) (o : Option AskRefusal) (deadline : ℕ) (r : Option AskRefusal)
    → o ≡ first_refusal (refusals_above (most_of kind (terms_of die.terms task)) plan die.terms die.life die.first present (own_asks task jobs) task ops)
    → plan ≡ die.core.start.plan → present ≡ now die.core.log → jobs ≡ die.asked → present ≤ slot → AreNewestFirst (own_asks task die.asked)
    → r ≡ said_later die.life deadline slot o → deadline ≡ (terms_of die.terms task).deadline → r ≡ refusal_at kind die earlier slot task ops
refusal_later kind die earlier h plan present slot jobs task ops o deadline r is plan_is present_is jobs_is le order r_is deadline_is =
    let t : TaskTerms = terms_of die.terms task in
    let most : ℕ = most_of kind t in
    let own : List Asked = own_asks task die.asked in
    let said : o ≡ first_refusal (refusals_above most die.core.start.plan die.terms die.life die.first present own task ops) =
    is ∙ (λ i. first_refusal (refusals_above most (plan_is i) die.terms die.life die.first present (own_asks task (jobs_is i)) task ops)) in
    r_is
    ∙ ((λ i. said_later die.life (deadline_is i) slot (said i))
    ∙ (sym (said_then most die.core.start.plan die.terms die.life die.first present slot own task ops le order (most_within kind t))
    ∙ (refused_alike most die.core.start.plan die.terms die.life die.first slot own (asked_by task (die.core.log ∷ earlier)) task ops
    (λ lt. h.counts task (die.first + slot) lt (omega (arith, present_is, le)))
    ∙ ap (λ n. first_refusal (refusals_above most die.core.start.plan die.terms die.life n slot (asked_by task (die.core.log ∷ earlier)) task ops)) h.began)))
