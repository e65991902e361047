-- What an ask for a slot of the clock is answered, and how the die stands then.
use Rattle.std.proofs.Common.{◌≡◌, ℕ, ◌+◌, ◌-◌, ◌<◌, ◌≤◌, ◌==◌, nat_lt, min, Bool, true, false, cond, List, [], ◌∷◌, length, map, get_or, set, vec_capacity}
use Rattle.std.proofs.Common.{Option, Some, None, Result, Ok, Err, refl, ap, sym, subst, ◌∙◌, arith}
use Rattle.std.proofs.Math.Nat.{min-le_right}
use Rattle.std.proofs.lemmas.Bool.{true≢false}
use Rattle.std.proofs.lemmas.Bool.Decides.{nat_tests}
use Rattle.std.proofs.lemmas.List.{length-map, length-set}
use Rattle.slot_types.specs.declared.events.Op.{Op}
use Rattle.slot_types.specs.declared.plans.DiePlan.{DiePlan}
use Rattle.demand_rules.specs.declared.terms.TaskTerms.{TaskTerms}
use Rattle.demand_rules.specs.declared.terms.Terms.{Terms}
use Rattle.demand_rules.specs.Demand.{terms_of}
use Rattle.die_log.specs.Model.Log.{Log, now}
use Rattle.die_log.specs.Model.Start.{Start}
use Rattle.die_log.specs.Model.Lives.{Lives, all_slots}
use Rattle.planned_log.specs.declared.ask_kinds.AskKind.{AskKind}
use Rattle.planned_log.specs.declared.refusals.AskRefusal.{AskRefusal}
use Rattle.planned_log.specs.declared.refusals.AskRefusal.TheVariants as because
use Rattle.planned_log.specs.Asks.{Asked, asked_by, refusals_above, first_refusal}
use Rattle.planned_log.specs.AskKinds.{most_of}
use Rattle.planned_log.proofs.Asking.{timely}
use Rattle.ongoing_log.specs.PastLives.{starts_after, counted}
use Rattle.ongoing_log.specs.Ongoing.{Ongoing, WaitingAsk, clock_of, start_of, Answer, Refused, Waits, WaitsAlready, Past, TooFarAhead, unless_waits, answer_to, after_answer}
use Rattle.ongoing_log.specs.Ongoing.{AreLongEnough, IsOngoing}
use Rattle.ongoing_log.specs.Ahead.{last_slot, wait_until, answer_ahead, answer_at, AheadMove, AskAt, ahead_after_move, ahead_after}
use Rattle.planned_die.specs.Planned.{Planned, HasLived}
use Rattle.planned_die.specs.PlannedCalls.{refusal_at}
use Rattle.ongoing_die.specs.declared.waiting.Waiting.{Waiting}
use Rattle.ongoing_die.specs.declared.answers.Taken.{Taken}
use Rattle.ongoing_die.specs.declared.answers.Taken.TheVariants as taken
use Rattle.ongoing_die.specs.declared.refusals.LifeStop.{LifeStop}
use Rattle.ongoing_die.specs.declared.refusals.LifeStop.TheVariants as stops
use Rattle.ongoing_die.specs.declared.refusals.AskStop.{AskStop}
use Rattle.ongoing_die.specs.declared.refusals.AskStop.TheVariants as asks
use Rattle.ongoing_die.specs.declared.refusals.AskAtStop.{AskAtStop}
use Rattle.ongoing_die.specs.declared.refusals.AskAtStop.TheVariants as ahead
use Rattle.ongoing_die.specs.Standing.{OngoingParts, ask_in, standing, StandsAs, HaveRoom}
use Rattle.ongoing_die.specs.AsksAhead.{of_ask, release_by}
use Rattle.ongoing_die.specs.OngoingCalls.{HasStopped, HasBegun, HaveOnePlan, HasTakenAt, AnswersAt, IsOngoingAsk, IsOngoingAskAt}
use Rattle.ongoing_die.proofs.OverAllLives.{stands_in}
use Rattle.ongoing_die.proofs.NextLives.{begun_again}
use Rattle.ongoing_die.proofs.Asking.{most_within, late_ask}

-- what the laws of logs say
abbrev pub AheadLaw : Type 0
AheadLaw = (first : Start) (terms : Terms) (life : ℕ) → AreLongEnough terms life → (d : Ongoing) → IsOngoing first terms life d → (moves : List AheadMove)
    → IsOngoing first terms life (ahead_after first terms life d moves)

not_before : (n m : ℕ) → m ≤ n → nat_lt n m ≡ false
not_before n m le = grind (arith, nat_tests, le)

before_it : (n m : ℕ) → n < m → nat_lt n m ≡ true
before_it n m lt = grind (arith, nat_tests, lt)

same_number : (n m : ℕ) → n ≡ m → (n == m) ≡ true
same_number n m e = grind (arith, nat_tests, e)

other_number : (n m : ℕ) → m < n → (n == m) ≡ false
other_number n m lt = grind (arith, nat_tests, lt)

-- For the present slot, and for one that is over

module _ (first : Start) (terms : Terms) (life : ℕ) (d : Ongoing) (kind : AskKind) (task : ℕ) (ops : List Op) (at : ℕ) where
  present : at ≡ clock_of d → answer_at first terms life d kind task ops at ≡ answer_to first terms life d kind task ops
  present is = rw (not_before at (clock_of d) (omega (arith, is))) (rw (same_number at (clock_of d) is) refl)

  pub over : at < clock_of d → answer_at first terms life d kind task ops at ≡ Past
  over lt = rw (before_it at (clock_of d) lt) refl

module _ {N : Type 0} (kind : AskKind) (caller task : ℕ) (ops : List Op) (at : ℕ) (first : Start) (d : Ongoing) (before after : OngoingParts N)
    (is : at ≡ clock_of d) where
  now_is : answer_at first before.die.terms before.die.life d kind task ops at ≡ answer_to first before.die.terms before.die.life d kind task ops
  now_is = present first before.die.terms before.die.life d kind task ops at is

  pub at_present : (result : Result Taken AskStop) → IsOngoingAsk kind caller task ops first d result before after
      → IsOngoingAskAt kind caller task ops at first d (of_ask result) before after
  at_present (Ok answer) h = record {
    ran = h.ran;
    answered = now_is ∙ h.answered;
    stands = subst (λ (e : Ongoing). StandsAs first e after) (sym (ap (after_answer first before.die.terms d kind caller task ops) now_is)) h.stands;
    numbered = h.numbered;
  }
  at_present (Err (asks.Ended stop)) h = h
  at_present (Err (asks.Plan refusal)) h = (now_is ∙ h.0, h.1)
  at_present (Err asks.WaitsAlready) h = (now_is ∙ h.0, h.1)

-- It is the same before the slot began

module _ {N : Type 0} (kind : AskKind) (caller task : ℕ) (ops : List Op) (at : ℕ) (first : Start) (d : Ongoing) (before between after : OngoingParts N)
    (b : HasBegun first d before between) where
  -- a life that goes on hasn't stopped
  never_stopped : (stop : LifeStop) → HasStopped between stop → ⊥
  never_stopped stops.DieStopped h = true≢false (sym h ∙ b.runs)
  never_stopped stops.ClockEnd h = omega (arith, h.1, b.early)
  never_stopped (stops.WornOut block) h = omega (arith, h.1, b.early)

  answer_then : (a : Answer) → answer_at first between.die.terms between.die.life d kind task ops at ≡ a
      → answer_at first before.die.terms before.die.life d kind task ops at ≡ a
  answer_then a e =
      subst (λ n. answer_at first before.die.terms n d kind task ops at ≡ a) b.plan.life
      (subst (λ (t : Terms). answer_at first t between.die.life d kind task ops at ≡ a) b.plan.terms e)

  answers_then : (a : Answer) → AnswersAt kind task ops at first d a between after → AnswersAt kind task ops at first d a before after
  answers_then a h = (answer_then a h.0, begun_again first d before between after b h.1)

  pub at_before : (result : Result Taken AskAtStop) → IsOngoingAskAt kind caller task ops at first d result between after
      → IsOngoingAskAt kind caller task ops at first d result before after
  at_before (Ok (taken.Enters release due number jobs)) h = record {
    ran = b.ran;
    answered = answer_then _ h.answered;
    stands = subst (λ n. StandsAs first (ahead_after_move first before.die.terms n d (AskAt kind caller task ops at)) after) b.plan.life
        (subst (λ (t : Terms). StandsAs first (ahead_after_move first t between.die.life d (AskAt kind caller task ops at)) after) b.plan.terms h.stands);
    numbered = h.numbered;
  }
  at_before (Ok (taken.Waits release due)) h = record {
    ran = b.ran;
    answered = answer_then _ h.answered;
    stands = subst (λ n. StandsAs first (ahead_after_move first before.die.terms n d (AskAt kind caller task ops at)) after) b.plan.life
        (subst (λ (t : Terms). StandsAs first (ahead_after_move first t between.die.life d (AskAt kind caller task ops at)) after) b.plan.terms h.stands);
    numbered = h.numbered;
  }
  at_before (Err (ahead.Ended stop)) h = absurd (never_stopped stop h.0)
  at_before (Err ahead.Past) h = answers_then Past h
  at_before (Err (ahead.Plan refusal)) h = answers_then (Refused refusal) h
  at_before (Err (ahead.TooFarAhead last)) h = answers_then (TooFarAhead last) h
  at_before (Err ahead.WaitsAlready) h = answers_then WaitsAlready h

-- For a later slot

-- what the plan says decides when it is released
module _ (at last first life deadline : ℕ) (w : Option WaitingAsk) where
  ok_is : (n release : ℕ) → ◌≡◌ {A = Result ℕ AskRefusal} (Ok n) (Ok release) → n ≡ release
  ok_is n release e = cc

  err_is : (r refusal : AskRefusal) → ◌≡◌ {A = Result ℕ AskRefusal} (Err r) (Err refusal) → r ≡ refusal
  err_is r refusal e = cc

  released_in : (o : Option AskRefusal) (release : ℕ) → release_by at (first + life) o ≡ Ok release
      → answer_ahead at last first life deadline w o ≡ wait_until at last deadline w release
  released_in None release e = ap (wait_until at last deadline w) (ok_is at release e)
  released_in (Some because.LifeEnd) release e = ap (wait_until at last deadline w) (ok_is (first + life) release e)
  released_in (Some because.DieStopped) release e = absurd cc
  released_in (Some because.UnknownTask) release e = absurd cc
  released_in (Some because.EmptyJob) release e = absurd cc
  released_in (Some (because.TooManyOps most)) release e = absurd cc
  released_in (Some (because.BadPage page)) release e = absurd cc
  released_in (Some (because.TooManyWrites most)) release e = absurd cc
  released_in (Some (because.TooSoon next)) release e = absurd cc

  refused_in : (o : Option AskRefusal) (refusal : AskRefusal) → release_by at (first + life) o ≡ Err refusal
      → answer_ahead at last first life deadline w o ≡ Refused refusal
  refused_in None refusal e = absurd cc
  refused_in (Some because.LifeEnd) refusal e = absurd cc
  refused_in (Some because.DieStopped) refusal e = ap Refused (err_is because.DieStopped refusal e)
  refused_in (Some because.UnknownTask) refusal e = ap Refused (err_is because.UnknownTask refusal e)
  refused_in (Some because.EmptyJob) refusal e = ap Refused (err_is because.EmptyJob refusal e)
  refused_in (Some (because.TooManyOps most)) refusal e = ap Refused (err_is (because.TooManyOps most) refusal e)
  refused_in (Some (because.BadPage page)) refusal e = ap Refused (err_is (because.BadPage page) refusal e)
  refused_in (Some (because.TooManyWrites most)) refusal e = ap Refused (err_is (because.TooManyWrites most) refusal e)
  refused_in (Some (because.TooSoon next)) refusal e = ap Refused (err_is (because.TooSoon next) refusal e)

-- what isn't refused is of a task of the plan, and no larger than a burst may be
taken_ask : (plan : DiePlan) (terms : Terms) (life first slot : ℕ) (asked : List Asked) (kind : AskKind) (task : ℕ) (ops : List Op) (at end release : ℕ)
    (o : Option AskRefusal) → first_refusal (refusals_above (most_of kind (terms_of terms task)) plan terms life first slot asked task ops) ≡ o
    → release_by at end o ≡ Ok release → (task < length plan.caps) × (length ops ≤ (terms_of terms task).work)
taken_ask plan terms life first slot asked kind task ops at end release None e is =
    let q = timely (most_of kind (terms_of terms task)) plan terms life first slot asked task ops e in
    (q.task_is, omega (arith, q.few, most_within kind (terms_of terms task)))
taken_ask plan terms life first slot asked kind task ops at end release (Some because.LifeEnd) e is = late_ask plan terms life first slot asked kind task ops e
taken_ask plan terms life first slot asked kind task ops at end release (Some because.DieStopped) e is = absurd cc
taken_ask plan terms life first slot asked kind task ops at end release (Some because.UnknownTask) e is = absurd cc
taken_ask plan terms life first slot asked kind task ops at end release (Some because.EmptyJob) e is = absurd cc
taken_ask plan terms life first slot asked kind task ops at end release (Some (because.TooManyOps most)) e is = absurd cc
taken_ask plan terms life first slot asked kind task ops at end release (Some (because.BadPage page)) e is = absurd cc
taken_ask plan terms life first slot asked kind task ops at end release (Some (because.TooManyWrites most)) e is = absurd cc
taken_ask plan terms life first slot asked kind task ops at end release (Some (because.TooSoon next)) e is = absurd cc

module _ {N : Type 0} (first : Start) (d : Ongoing) (parts : OngoingParts N) (b : HasBegun first d parts parts) (kind : AskKind) (caller task : ℕ)
    (ops : List Op) (at : ℕ) (later : parts.die.first + now parts.die.core.log < at) where
  abbrev die : Planned N
  die = parts.die

  abbrev past : Lives
  past = counted b.stands.past

  abbrev t : TaskTerms
  t = terms_of die.terms task

  abbrev w : Option WaitingAsk
  w = get_or parts.waiting task None

  abbrev said : Option AskRefusal
  said = refusal_at kind die past (at - die.first) task ops

  abbrev last : ℕ
  last = last_slot (die.first + now die.core.log) t.period die.first die.life

  abbrev answer : Answer
  answer = answer_at first die.terms die.life d kind task ops at

  clock_is : all_slots past + now die.core.log ≡ die.first + now die.core.log
  clock_is = ap (λ n. n + now die.core.log) (sym b.stands.lived.began)

  answer_is : answer ≡ answer_ahead at last die.first die.life t.deadline w said
  answer_is =
      ap (λ (x : Ongoing). answer_at first die.terms die.life x kind task ops at) b.settled
      ∙ (rw (not_before at (all_slots past + now die.core.log) (omega (arith, clock_is, later)))
      (rw (other_number at (all_slots past + now die.core.log) (omega (arith, clock_is, later)))
      (λ i. answer_ahead at (last_slot (clock_is i) t.period (sym b.stands.lived.began i) die.life) (sym b.stands.lived.began i) die.life t.deadline w
      (first_refusal (refusals_above (most_of kind t) (sym b.stands.starts i).plan die.terms die.life (all_slots past) (at - sym b.stands.lived.began i)
      (asked_by task (die.core.log ∷ past)) task ops)))))

  module _ (result : Result ℕ AskRefusal) (result_is : result ≡ release_by at (die.first + die.life) said) where
    pub plan_refuses : (refusal : AskRefusal) → result ≡ Err refusal → answer ≡ Refused refusal
    plan_refuses refusal e = answer_is ∙ refused_in at last die.first die.life t.deadline w said refusal (sym result_is ∙ e)

    module _ (release : ℕ) (e : result ≡ Ok release) where
      waits_so : answer ≡ wait_until at last t.deadline w release
      waits_so = answer_is ∙ released_in at last die.first die.life t.deadline w said release (sym result_is ∙ e)

      pub too_far : last < at → answer ≡ TooFarAhead last
      too_far lt = waits_so ∙ rw (before_it last at lt) refl

      pub one_waits_already : at ≤ last → (v : WaitingAsk) → w ≡ Some v → answer ≡ WaitsAlready
      one_waits_already le v is =
          waits_so
          ∙ (ap (λ (x : Option WaitingAsk). wait_until at last t.deadline x release) is ∙ rw (not_before last at le) refl)

      pub waits_then : at ≤ last → w ≡ None → answer ≡ Waits release (release + t.deadline)
      waits_then le none =
          waits_so
          ∙ (ap (λ (x : Option WaitingAsk). wait_until at last t.deadline x release) none ∙ rw (not_before last at le) refl)

      pub of_the_plan : (task < length die.core.start.plan.caps) × (length ops ≤ t.work)
      of_the_plan = taken_ask die.core.start.plan die.terms die.life (all_slots past) (at - die.first) (asked_by task (die.core.log ∷ past)) kind task ops at
          (die.first + die.life) release said refl (sym result_is ∙ e)

  -- and the die stands so
  module _ (law : AheadLaw) (long : AreLongEnough die.terms die.life) (after : OngoingParts N) (same : after.die ≡ die) (release due : ℕ)
      (answered : answer ≡ Waits release due)
      (kept : after.waiting ≡ set parts.waiting task (Some (record { caller = caller; ops = ops; until = release }))) where
    abbrev next : Ongoing
    next = ahead_after_move first die.terms die.life d (AskAt kind caller task ops at)

    next_is : next ≡ standing after b.stands.past
    next_is =
        ap (after_answer first die.terms d kind caller task ops) answered
        ∙ (ap (λ (x : Ongoing). record x { waiting = set x.waiting task (Some (record { caller = caller; ops = ops; until = release })) }) b.settled
        ∙ (λ i. record { earlier = b.stands.past; log = (sym same i).core.log; waiting = sym kept i }))

    pub waits_at : HasTakenAt kind caller task ops at first d (taken.Waits release due) parts after
    waits_at = record {
      ran = b.runs;
      answered = answered;
      stands = stands_in first next after b.stands.past (subst (λ (p : Planned N). HasLived p past) (sym same) b.stands.lived)
          (ap (λ (p : Planned N). p.core.start) same ∙ b.stands.starts) next_is
          (subst (λ (p : Planned N). IsOngoing first p.terms p.life next) (sym same)
          (law first die.terms die.life long d (b.stands.runs b.runs).goes_on (AskAt kind caller task ops at ∷ [])))
          (ap (λ (p : Planned N). p.entered) same ∙ (b.stands.runs b.runs).whole);
      numbered = ap (λ (p : Planned N). p.core.log) same ∙ ap (λ (x : Ongoing). x.log) (sym b.settled);
    }
