-- What an ask is answered by the die below is what the rules of a die that goes on by itself say.
use Rattle.std.proofs.Common.{◌≡◌, ◌≢◌, ℕ, ◌+◌, ◌-◌, ◌<◌, ◌≤◌, ◌==◌, nat_le, nat_lt, not, Bool, true, false, cond, List, [], ◌∷◌, length, get_or, set, Option, None, Some}
use Rattle.std.proofs.Common.{is_some, unwrap_or, Ok, Err, refl, ap, sym, subst, ◌∙◌, inl, inr, arith}
use Rattle.std.proofs.lemmas.Bool.{true≢false}
use Rattle.std.proofs.lemmas.Bool.Decides.{nat_tests}
use Rattle.std.proofs.lemmas.Option.{same_Some}
use Rattle.slot_types.specs.declared.limits.TheConstants.{MAX_OPS}
use Rattle.slot_types.specs.declared.events.Op.{Op}
use Rattle.slot_types.specs.declared.plans.DiePlan.{DiePlan}
use Rattle.slot_types.specs.Operations.{writes}
use Rattle.demand_rules.specs.declared.terms.TaskTerms.{TaskTerms}
use Rattle.demand_rules.specs.declared.terms.Terms.{Terms}
use Rattle.demand_rules.specs.Demand.{terms_of}
use Rattle.die_log.specs.Model.Log.{Log, now}
use Rattle.die_log.specs.Model.Start.{Start}
use Rattle.die_log.specs.Model.Lives.{Lives, all_slots}
use Rattle.die_log.specs.Model.Answers.{bad_page}
use Rattle.planned_log.specs.declared.ask_kinds.AskKind.{AskKind}
use Rattle.planned_log.specs.declared.ask_kinds.AskKind.TheVariants as kinds
use Rattle.planned_log.specs.declared.refusals.AskRefusal.{AskRefusal}
use Rattle.planned_log.specs.declared.refusals.AskRefusal.TheVariants as because
use Rattle.planned_log.specs.Asks.{Asked, refusals_above, first_refusal, has_room, room_at, counting}
use Rattle.planned_log.specs.AskKinds.{most_of, refusal_as, jobs_as, with_jobs}
use Rattle.planned_log.specs.Moves.{Move, Ask}
use Rattle.ongoing_log.specs.Ongoing.{Ongoing, WaitingAsk, Answer, Refused, Enters, Waits, WaitsAlready, answer_by, answer_to, after_answer, start_of}
use Rattle.ongoing_log.specs.Ongoing.{ongoing_after_move, ongoing_after, IsOngoing}
use Rattle.planned_die.specs.Planned.{Planned, HasLived}
use Rattle.planned_die.specs.declared.bursts.Burst.{Burst}
use Rattle.ongoing_log.specs.PastLives.{starts_after, counted}
use Rattle.ongoing_die.specs.declared.answers.Taken.{Taken}
use Rattle.ongoing_die.specs.declared.answers.Taken.TheVariants as taken
use Rattle.ongoing_die.specs.Standing.{OngoingParts, standing, StandsAs}
use Rattle.ongoing_die.specs.declared.refusals.AskStop.{AskStop}
use Rattle.ongoing_die.specs.OngoingCalls.{HasBegun, HasTaken, RefusesAsk, told, with_numbered}
use Rattle.ongoing_die.specs.DieAsks.{refusal_of, while_waiting, HasAskedFor, IsDieAsk}
use Rattle.ongoing_die.proofs.OverAllLives.{stands_in}
use Rattle.ongoing_die.proofs.Entering.{asked_same, jobs_log, jobs_numbered, numbered_now}

-- Why an ask waits

passes : (b : Bool) (r : AskRefusal) (rest : List (Bool × AskRefusal)) → r ≢ because.LifeEnd
    → first_refusal ((b, r) ∷ rest) ≡ Some because.LifeEnd → (b ≡ false) × (first_refusal rest ≡ Some because.LifeEnd)
passes true r rest other e = absurd (other (same_Some r because.LifeEnd e))
passes false r rest other e = (refl, e)

-- an ask of either kind is no larger than a burst may be
pub most_within : (kind : AskKind) (t : TaskTerms) → most_of kind t ≤ t.work
most_within kinds.Burst t = omega arith
most_within kinds.Job t = within t.work (nat_le t.work MAX_OPS) refl
  where
    within : (work : ℕ) (b : Bool) → nat_le work MAX_OPS ≡ b → cond b work MAX_OPS ≤ work
    within work true e = omega arith
    within work false e = grind (arith, nat_tests, e)

-- an ask that is refused for the end of the life alone is of a task of the plan, and no larger than a burst may be
pub late_ask : (plan : DiePlan) (terms : Terms) (life first slot : ℕ) (asked : List Asked) (kind : AskKind) (task : ℕ) (ops : List Op)
    → first_refusal (refusals_above (most_of kind (terms_of terms task)) plan terms life first slot asked task ops) ≡ Some because.LifeEnd
    → (task < length plan.caps) × (length ops ≤ (terms_of terms task).work)
late_ask plan terms life first slot asked kind task ops e =
    let t : TaskTerms = terms_of terms task in
    let most : ℕ = most_of kind t in
    let f : List (Bool × AskRefusal) = (
      not (has_room t (first + slot) asked (length ops) (writes ops)),
      because.TooSoon (room_at t (counting t.period (first + slot) asked) (length ops) (writes ops) - first),
    )
    ∷ (nat_lt life (slot + t.deadline), because.LifeEnd) ∷ [] in
    let d : List (Bool × AskRefusal) = (nat_lt t.writes (writes ops), because.TooManyWrites t.writes) ∷ f in
    let c : List (Bool × AskRefusal) = (is_some (bad_page plan ops), because.BadPage (unwrap_or (bad_page plan ops) 0)) ∷ d in
    let b : List (Bool × AskRefusal) = (nat_lt most (length ops), because.TooManyOps most) ∷ c in
    let a : List (Bool × AskRefusal) = (length ops == 0, because.EmptyJob) ∷ b in
    let known = passes (nat_le (length plan.caps) task) because.UnknownTask a (λ k. absurd cc) e in
    let some = passes (length ops == 0) because.EmptyJob b (λ k. absurd cc) known.1 in
    let short = passes (nat_lt most (length ops)) (because.TooManyOps most) c (λ k. absurd cc) some.1 in
    (below known.0, omega (arith, few most short.0, most_within kind t))
  where
    below : nat_le (length plan.caps) task ≡ false → task < length plan.caps
    below h = grind (arith, nat_tests, h)

    few : (n : ℕ) → nat_lt n (length ops) ≡ false → length ops ≤ n
    few n h = grind (arith, nat_tests, h)

-- any other cause is answered as it is
plain : (first slot life deadline : ℕ) (w : Option WaitingAsk) (refusal : AskRefusal) → refusal ≢ because.LifeEnd
    → answer_by first slot life deadline w (Some refusal) ≡ Refused refusal
plain first slot life deadline w because.DieStopped other = refl
plain first slot life deadline w because.UnknownTask other = refl
plain first slot life deadline w because.EmptyJob other = refl
plain first slot life deadline w (because.TooManyOps most) other = refl
plain first slot life deadline w (because.BadPage page) other = refl
plain first slot life deadline w (because.TooManyWrites most) other = refl
plain first slot life deadline w (because.TooSoon next) other = refl
plain first slot life deadline w because.LifeEnd other = absurd (other refl)

module _ {N : Type 0} (first : Start) (d : Ongoing) (parts : OngoingParts N) (s : StandsAs first d parts) (is : d ≡ standing parts s.past)
    (runs : parts.die.core.stopped ≡ false) (kind : AskKind) (caller task : ℕ) (ops : List Op) where
  abbrev die : Planned N
  die = parts.die

  abbrev log : Log
  log = die.core.log

  abbrev here : Ongoing
  here = standing parts s.past

  abbrev deadline : ℕ
  deadline = (terms_of die.terms task).deadline

  abbrev w : Option WaitingAsk
  w = get_or parts.waiting task None

  -- it is answered by what the plan says of it
  answer_as : (o : Option AskRefusal) → refusal_of kind die (counted s.past) task ops ≡ o
      → answer_to first die.terms die.life d kind task ops ≡ answer_by die.first (now log) die.life deadline w o
  answer_as o e =
      ap (λ (x : Ongoing). answer_to first die.terms die.life x kind task ops) is
      ∙ (ap (λ (t : Start). answer_by (all_slots (counted s.past)) (now log) die.life deadline w
      (refusal_as kind t.plan die.terms die.life (counted s.past) log task ops)) (sym s.starts)
      ∙ (ap (λ (v : Option AskRefusal). answer_by (all_slots (counted s.past)) (now log) die.life deadline w v) e
      ∙ ap (λ n. answer_by n (now log) die.life deadline w o) (sym s.lived.began)))

  -- the die stands as after the move
  abbrev next : Ongoing
  next = ongoing_after_move first die.terms die.life d (Ask kind caller task ops)

  module _ (law : (moves : List Move) → IsOngoing first die.terms die.life (ongoing_after first die.terms die.life d moves)) (after : OngoingParts N)
      (lived : HasLived after.die (counted s.past)) (terms_is : after.die.terms ≡ die.terms) (life_is : after.die.life ≡ die.life)
      (start_is : after.die.core.start ≡ die.core.start) (whole : after.die.entered ≡ die.entered) where
    then_stands : next ≡ standing after s.past → StandsAs first next after
    then_stands e = stands_in first next after s.past lived (start_is ∙ s.starts) e
        (subst (λ n. IsOngoing first after.die.terms n next) (sym life_is)
        (subst (λ (t : Terms). IsOngoing first t die.life next) (sym terms_is) (law (Ask kind caller task ops ∷ []))))
        (whole ∙ (s.runs runs).whole)

    -- an ask that enters
    module _ (release due : ℕ) (burst : Burst) (at : release ≡ die.first + now log) (due_is : due ≡ release + deadline) (none : w ≡ None)
        (same : after.waiting ≡ parts.waiting) (h : HasAskedFor kind caller task ops (counted s.past) burst die after.die) where
      enters : answer_to first die.terms die.life d kind task ops ≡ Enters release due
      enters =
          answer_as None h.unrefused
          ∙ (ap (λ (v : Option WaitingAsk). answer_by die.first (now log) die.life deadline v None) none
          ∙ (λ i. Enters (sym at i) (due_here i)))
        where
          due_here : die.first + now log + deadline ≡ due
          due_here = omega (arith, at, due_is)

      logged : with_jobs (starts_after first s.past) die.terms log caller task (jobs_as kind ops) ≡ after.die.core.log
      logged =
          ap (λ (t : Start). with_jobs t die.terms log caller task (jobs_as kind ops)) (sym s.starts)
          ∙ sym (jobs_log caller task (counted s.past) (jobs_as kind ops) burst.first die after.die h.asked)

      entered_is : next ≡ standing after s.past
      entered_is =
          ap (after_answer first die.terms d kind caller task ops) enters
          ∙ (ap (λ (x : Ongoing). record x { log = with_jobs (start_of first x) die.terms x.log caller task (jobs_as kind ops) }) is
          ∙ (λ i. record { earlier = s.past; log = logged i; waiting = sym same i }))

      pub has_entered : HasTaken kind caller task ops first d (taken.Enters release due burst.first burst.jobs) parts after
      has_entered = record {
        ran = runs;
        answered = enters;
        stands = then_stands entered_is;
        numbered = (
          h.counted,
          jobs_numbered caller task (counted s.past) (jobs_as kind ops) burst.first die after.die h.asked
              ∙ (ap (λ (t : Terms). with_numbered t caller task (jobs_as kind ops) burst.first log) (sym terms_is)
              ∙ ap (λ (x : Ongoing). with_numbered after.die.terms caller task (jobs_as kind ops) burst.first x.log) (sym is)),
        );
      }

    -- one that waits
    module _ (release due : ℕ) (at : release ≡ die.first + die.life) (due_is : due ≡ release + deadline)
        (late : refusal_of kind die (counted s.past) task ops ≡ Some because.LifeEnd) (none : w ≡ None)
        (kept : after.waiting ≡ set parts.waiting task (Some (record { caller = caller; ops = ops; until = release }))) (log_is : after.die.core.log ≡ log) where
      waits : answer_to first die.terms die.life d kind task ops ≡ Waits release due
      waits =
          answer_as (Some because.LifeEnd) late
          ∙ (ap (λ (v : Option WaitingAsk). answer_by die.first (now log) die.life deadline v (Some because.LifeEnd)) none
          ∙ (λ i. Waits (sym at i) (due_here i)))
        where
          due_here : die.first + die.life + deadline ≡ due
          due_here = omega (arith, at, due_is)

      waits_is : next ≡ standing after s.past
      waits_is =
          ap (after_answer first die.terms d kind caller task ops) waits
          ∙ (ap (λ (x : Ongoing). record x { waiting = set x.waiting task (Some (record { caller = caller; ops = ops; until = release })) }) is
          ∙ (λ i. record { earlier = s.past; log = sym log_is i; waiting = sym kept i }))

      pub has_waited : HasTaken kind caller task ops first d (taken.Waits release due) parts after
      has_waited = record {
        ran = runs;
        answered = waits;
        stands = then_stands waits_is;
        numbered = log_is ∙ ap (λ (x : Ongoing). x.log) (sym is);
      }

  -- one that is refused
  pub waits_already : (v : WaitingAsk) (o : Option AskRefusal) → refusal_of kind die (counted s.past) task ops ≡ o → w ≡ Some v
      → ((x : WaitingAsk) → answer_by die.first (now log) die.life deadline (Some x) o ≡ WaitsAlready)
      → answer_to first die.terms die.life d kind task ops ≡ WaitsAlready
  waits_already v o said there already =
      answer_as o said ∙ (ap (λ (x : Option WaitingAsk). answer_by die.first (now log) die.life deadline x o) there ∙ already v)

  pub refused_so : (refusal : AskRefusal) → refusal_of kind die (counted s.past) task ops ≡ Some refusal → refusal ≢ because.LifeEnd
      → answer_to first die.terms die.life d kind task ops ≡ Refused refusal
  refused_so refusal why other = answer_as (Some refusal) why ∙ plain die.first (now log) die.life deadline w refusal other

-- what is refused while the die runs
pub refused_by : {N : Type 0} (kind : AskKind) (caller task : ℕ) (ops : List Op) (earlier : Lives) (refusal : AskRefusal) (before after : Planned N)
    → before.core.stopped ≡ false → IsDieAsk kind caller task ops earlier (Err refusal) before after → refusal_of kind before earlier task ops ≡ Some refusal
refused_by kind caller task ops earlier refusal before after runs h = elim h.1 [
  | inl stopped ↦ absurd (true≢false (sym stopped.0 ∙ runs))
  | inr why ↦ why.1
]

-- The answer is the same before the next life began
module _ {N : Type 0} (first : Start) (d : Ongoing) (before between : OngoingParts N) (b : HasBegun first d before between) (kind : AskKind)
    (task : ℕ) (ops : List Op) where
  pub answer_before : (a : Answer) → answer_to first between.die.terms between.die.life d kind task ops ≡ a
      → answer_to first before.die.terms before.die.life d kind task ops ≡ a
  answer_before a e =
      subst (λ n. answer_to first before.die.terms n d kind task ops ≡ a) b.plan.life
      (subst (λ (t : Terms). answer_to first t between.die.life d kind task ops ≡ a) b.plan.terms e)

  pub taken_before : (caller : ℕ) (answer : Taken) (after : OngoingParts N) → HasTaken kind caller task ops first d answer between after
      → HasTaken kind caller task ops first d answer before after
  taken_before caller answer after h = record {
    ran = b.ran;
    answered = answer_before (told answer) h.answered;
    stands = subst (λ n. StandsAs first (ongoing_after_move first before.die.terms n d (Ask kind caller task ops)) after) b.plan.life
        (subst (λ (t : Terms). StandsAs first (ongoing_after_move first t between.die.life d (Ask kind caller task ops)) after) b.plan.terms h.stands);
    numbered = h.numbered;
  }

-- What a call of the die below means
module _ {N : Type 0} (first : Start) (d : Ongoing) (before between : OngoingParts N) (b : HasBegun first d before between)
    (law : (moves : List Move) → IsOngoing first between.die.terms between.die.life (ongoing_after first between.die.terms between.die.life d moves))
    (kind : AskKind) (caller task : ℕ) (ops : List Op) (after : OngoingParts N) (lived : HasLived after.die (counted b.stands.past)) where
  pub ask_enters : (burst : Burst) (release due : ℕ) → IsDieAsk kind caller task ops (counted b.stands.past) (Ok burst) between.die after.die
      → release ≡ after.die.first + now after.die.core.log → due ≡ release + (terms_of between.die.terms task).deadline
      → get_or between.waiting task None ≡ None → after.waiting ≡ between.waiting
      → HasTaken kind caller task ops first d (taken.Enters release due burst.first burst.jobs) before after
  ask_enters burst release due h at due_is none same =
      let kept = asked_same kind caller task ops (counted b.stands.past) between.die after.die (Ok burst) h in
      taken_before first d before between b kind task ops caller (taken.Enters release due burst.first burst.jobs) after
      (has_entered first d between b.stands b.settled b.runs kind caller task ops law after lived kept.terms kept.life kept.start kept.entered release due burst
      (omega (
        arith,
        at,
        kept.first,
        ap now (jobs_numbered caller task (counted b.stands.past) (jobs_as kind ops) burst.first between.die after.die h.asked),
        numbered_now between.die.terms caller task (jobs_as kind ops) burst.first between.die.core.log,
      ))
      due_is none same h)

  pub ask_waits : (release due : ℕ) → IsDieAsk kind caller task ops (counted b.stands.past) (Err because.LifeEnd) between.die after.die
      → release ≡ after.die.first + after.die.life → due ≡ release + (terms_of between.die.terms task).deadline
      → get_or between.waiting task None ≡ None → after.waiting ≡ set between.waiting task (Some (record { caller = caller; ops = ops; until = release }))
      → HasTaken kind caller task ops first d (taken.Waits release due) before after
  ask_waits release due h at due_is none same =
      let kept = asked_same kind caller task ops (counted b.stands.past) between.die after.die (Err because.LifeEnd) h in
      taken_before first d before between b kind task ops caller (taken.Waits release due) after
      (has_waited first d between b.stands b.settled b.runs kind caller task ops law after lived kept.terms kept.life kept.start kept.entered release due
      (omega (arith, at, kept.first, kept.life)) due_is
      (refused_by kind caller task ops (counted b.stands.past) because.LifeEnd between.die after.die b.runs h) none same (ap (λ (p : Planned N). p.core.log) h.0))

-- a refused ask leaves the die in its life
pub begun_still : {N : Type 0} (first : Start) (d : Ongoing) (before between after : OngoingParts N) → after ≡ between → HasBegun first d before between
    → HasBegun first d before after
begun_still first d before between after is b = subst (λ (p : OngoingParts _). HasBegun first d before p) (sym is) b

-- one that is refused since one of the task waits
module _ {N : Type 0} (first : Start) (d : Ongoing) (before between after : OngoingParts N) (b : HasBegun first d before between) (same : after ≡ between)
    (kind : AskKind) (task : ℕ) (ops : List Op) (v : WaitingAsk) (there : get_or between.waiting task None ≡ Some v) where
  refuses_by : (o : Option AskRefusal) → refusal_of kind between.die (counted b.stands.past) task ops ≡ o
      → RefusesAsk kind task ops first d (while_waiting o) before after
  refuses_by None e = (
    answer_before first d before between b kind task ops WaitsAlready
        (waits_already first d between b.stands b.settled b.runs kind 0 task ops v None e there (λ x. refl)),
    begun_still first d before between after same b,
  )
  refuses_by (Some refusal) e = by refusal e
    where
      already : refusal_of kind between.die (counted b.stands.past) task ops ≡ Some because.LifeEnd
          → answer_to first before.die.terms before.die.life d kind task ops ≡ WaitsAlready
      already k = answer_before first d before between b kind task ops WaitsAlready
          (waits_already first d between b.stands b.settled b.runs kind 0 task ops v (Some because.LifeEnd) k there (λ x. refl))

      plain_one : (r : AskRefusal) → refusal_of kind between.die (counted b.stands.past) task ops ≡ Some r → r ≢ because.LifeEnd
          → (answer_to first before.die.terms before.die.life d kind task ops ≡ Refused r) × HasBegun first d before after
      plain_one r k other = (
        answer_before first d before between b kind task ops (Refused r)
            (refused_so first d between b.stands b.settled b.runs kind 0 task ops r k other),
        begun_still first d before between after same b,
      )

      by : (r : AskRefusal) → refusal_of kind between.die (counted b.stands.past) task ops ≡ Some r
          → RefusesAsk kind task ops first d (while_waiting (Some r)) before after
      by because.LifeEnd k = (already k, begun_still first d before between after same b)
      by because.DieStopped k = plain_one because.DieStopped k (λ e. absurd cc)
      by because.UnknownTask k = plain_one because.UnknownTask k (λ e. absurd cc)
      by because.EmptyJob k = plain_one because.EmptyJob k (λ e. absurd cc)
      by (because.TooManyOps most) k = plain_one (because.TooManyOps most) k (λ e. absurd cc)
      by (because.BadPage page) k = plain_one (because.BadPage page) k (λ e. absurd cc)
      by (because.TooManyWrites most) k = plain_one (because.TooManyWrites most) k (λ e. absurd cc)
      by (because.TooSoon next) k = plain_one (because.TooSoon next) k (λ e. absurd cc)

  pub refused_while : (stop : AskStop) → stop ≡ while_waiting (refusal_of kind between.die (counted b.stands.past) task ops)
      → RefusesAsk kind task ops first d stop before after
  refused_while stop is = subst (λ (x : AskStop). RefusesAsk kind task ops first d x before after) (sym is)
      (refuses_by (refusal_of kind between.die (counted b.stands.past) task ops) refl)
