-- Work with bursts is never refused and never late, life after life, where each ends where the periods do.
use Rattle.std.proofs.Common.{◌≡◌, ℕ, ◌+◌, ◌*◌, ◌≤◌, List, [], ◌∷◌, ◌++◌, map, slice_index, refl, ap, sym, subst}
use Rattle.std.proofs.Common.{◌∙◌, arith, append_assoc, append-nil}
use Rattle.std.specs.List.{AllByRecursion}
use Rattle.std.proofs.Math.Nat.{mul-le-mul_left}
use Rattle.std.proofs.lemmas.List.Elements.{recursion_from_All}
use Rattle.slot_types.specs.declared.plans.DiePlan.{DiePlan}
use Rattle.slot_types.specs.declared.events.Event.{Event}
use Rattle.slot_types.specs.declared.replies.Reply.{Reply}
use Rattle.slot_types.specs.declared.replies.Reply.TheVariants as replies
use Rattle.plan_rules.specs.Keeping.{TaskArrival, arrivals, slots}
use Rattle.demand_rules.specs.declared.terms.TaskTerms.{TaskTerms}
use Rattle.demand_rules.specs.declared.terms.Terms.{Terms}
use Rattle.demand_rules.specs.Demand.{terms_of, PassesDemand}
use Rattle.demand_rules.specs.Supply.{PassesSupply}
use Rattle.demand_rules.specs.Keeping.{KeepsDemandPlan}
use Rattle.die_log.specs.Model.Log.{Log, jobs, now}
use Rattle.die_log.specs.Model.Start.{Start}
use Rattle.die_log.specs.Model.Answers.{IsExact, IsAccepted, answer, with_answer, after_call, run}
use Rattle.die_log.specs.Model.Opening.{IsOpening, IsQuiet, renewed_start}
use Rattle.die_log.specs.Model.Lives.{Lives, start_after, HaveEnded}
use Rattle.die_log.specs.Results.InTime.{events_of_log, AreAccepted}
use Rattle.die_log.specs.Results.PlannedLives.{Calls, events_of_calls, lives_of, IsServedInTime, AreServedInTime}
use Rattle.die_log.proofs.Runs.{run_exact}
use Rattle.die_log.proofs.Life.Starting.{plan_same, ended_opens}
use Rattle.die_log.specs.Results.Covered.{AreStockedFor, AreStocked}
use Rattle.die_log.specs.Results.DemandedLives.{IsAtPeriodEnd, EndPeriods, at_later, slots_of_all, all_arrivals, WritesAreFew, KeepDemandPlans}
use Rattle.die_log.specs.Results.DemandedLives.{AreStockedAfter, AreFull}
use Rattle.die_log.proofs.Planned.Rooms.{demanded_run_in_time}
use Rattle.die_log.proofs.Supply.Following.{Follows, follows, of_job}
use Rattle.die_log.proofs.Supply.Accepted.{run_accepted}
use Rattle.die_log.proofs.Supply.Owing.{come_by}
use Rattle.die_log.proofs.Restocking.{goes_on, stocked_for_next}

-- A run's log has its events

reported_with : (past : Log) (caller : ℕ) (event : Event) (r : Reply) → IsAccepted r → events_of_log (with_answer caller event r past) ≡ events_of_log past ++ event ∷ []
reported_with past caller event (replies.Taken number) h = refl
reported_with past caller event (replies.Slot s) h = refl
reported_with past caller event (replies.Refused refusal) h = absurd h

pub run_reported : (start : Start) (past : Log) (calls : Calls) → AreAccepted start past calls
    → events_of_log (run start past calls) ≡ events_of_log past ++ events_of_calls calls
run_reported start past [] h = sym (append-nil (events_of_log past))
run_reported start past (call ∷ calls) h =
    run_reported start (after_call start past call) calls h.1
    ∙ (ap (λ l. l ++ events_of_calls calls) (reported_with past call.0 call.1 (answer start past call.1) h.0)
    ∙ append_assoc (events_of_log past) (call.1 ∷ []) (events_of_calls calls))

-- One log

pub period_end : (plan : DiePlan) (terms : Terms) (log : Log) → Follows plan terms log → EndPeriods plan terms (events_of_log log)
    → IsAtPeriodEnd plan terms log
period_end plan terms log f ends = record {
  due_by_now = λ j stands.
      let r = of_job (λ a. a.due ≤ slots (events_of_log log)) (arrivals 0 (events_of_log log)) (jobs log) f.came
      (recursion_from_All (λ a. a.due ≤ slots (events_of_log log)) (arrivals 0 (events_of_log log)) ends.due) j stands in
      omega (arith, r.2, r.1.due, f.clock);
  none_left_out = λ task slot lt before. ends.none_left_out task slot lt (omega (arith, before, f.clock));
}

-- A start that is full is stocked, whatever came before it
pub full_stocked : (start : Start) (terms : Terms) (before : List TaskArrival) (first : ℕ) → AreFull start → AreStockedAfter start terms before first
full_stocked start terms before first full task lt =
    let t : TaskTerms = terms_of terms task in
    let cap : ℕ = slice_index start.plan.caps task in
    let bal : ℕ = slice_index start.accounts.balances task in
    let none : start.plan.alpha * 0 ≡ 0 = grind arith in
    let turned : t.collect_period * (bal + start.plan.alpha) ≡ t.collect_period * (bal + 0) + start.plan.alpha * t.collect_period = grind arith in
    record {
      gap = 0;
      owed = 0;
      stocked = omega (arith, mul-le-mul_left t.collect_period (full task lt), none, turned);
      known = omega arith;
    }

pub full_starts : (start : Start) (terms : Terms) → AreFull start → AreStocked start terms
full_starts start terms full task lt =
    let p : ℕ = (terms_of terms task).period in
    let bal : ℕ = slice_index start.accounts.balances task in
    let turned : p * (bal + start.plan.alpha) ≡ p * bal + start.plan.alpha * p = grind arith in
    omega (arith, mul-le-mul_left p (full task lt), turned)

pub balances_full : (start : Start) → start.accounts.balances ≡ start.plan.caps → AreFull start
balances_full start same task lt = omega (arith, ap (λ (ns : List ℕ). slice_index ns task) same)

module _ (start : Start) (terms : Terms) (bound : IsOpening start) (passes : PassesDemand start.plan terms)
    (supply : PassesSupply start.plan terms) (calls : Calls) (keeps : KeepsDemandPlan start.plan terms (events_of_calls calls)) where
  pub served : AreStockedFor start terms (events_of_calls calls) → IsServedInTime start calls
  served stocked = record {
    accepted = run_accepted start terms bound passes supply [] calls tt keeps stocked;
    in_time = demanded_run_in_time start terms bound passes calls keeps;
  }

  pub exact_run : IsExact start (run start [] calls)
  exact_run = run_exact start [] calls tt

  pub renews : (before : List TaskArrival) (first : ℕ) → AreStockedAfter start terms before first
      → AreStockedFor start terms (events_of_calls calls) → EndPeriods start.plan terms (events_of_calls calls)
      → IsQuiet start (run start [] calls)
      × AreStockedAfter (renewed_start start (run start [] calls)) terms
      (before ++ map (at_later first) (arrivals 0 (events_of_calls calls))) (first + slots (events_of_calls calls))
  renews before first after stocked ends =
      let log : Log = run start [] calls in
      let same : events_of_log log ≡ events_of_calls calls = run_reported start [] calls (served stocked).accepted in
      let kept : KeepsDemandPlan start.plan terms (events_of_log log ++ []) =
      subst (KeepsDemandPlan start.plan terms) (sym (append-nil (events_of_log log) ∙ same)) keeps in
      let f = follows start terms log exact_run [] kept in
      let g = goes_on start terms before first bound passes after log [] exact_run kept
      (period_end start.plan terms log f (subst (EndPeriods start.plan terms) (sym same) ends)) in
      let clock : first + now log ≡ first + slots (events_of_calls calls) =
      omega (arith, f.clock, ap (λ (es : List Event). slots es) same) in (
        g.0,
        subst (λ (n : ℕ). AreStockedAfter (renewed_start start log) terms (before ++ map (at_later first) (arrivals 0 (events_of_calls calls))) n)
            clock
            (subst (λ (es : List Event). AreStockedAfter (renewed_start start log) terms (before ++ map (at_later first) (arrivals 0 es))
            (first + now log)) same g.1),
      )

-- What came came by the present slot of the clock

all_joined : (P : TaskArrival → Type 0) (xs ys : List TaskArrival) → AllByRecursion P xs → AllByRecursion P ys → AllByRecursion P (xs ++ ys)
all_joined P [] ys h k = k
all_joined P (x ∷ xs) ys h k = (h.0, all_joined P xs ys h.1 k)

sooner_all : (n m : ℕ) → n ≤ m → (xs : List TaskArrival) → AllByRecursion (λ a. a.at ≤ n) xs → AllByRecursion (λ a. a.at ≤ m) xs
sooner_all n m le [] h = tt
sooner_all n m le (a ∷ xs) h = (omega (arith, le, h.0), sooner_all n m le xs h.1)

later_all : (first n : ℕ) (xs : List TaskArrival) → AllByRecursion (λ a. a.at ≤ n) xs → AllByRecursion (λ a. a.at ≤ first + n) (map (at_later first) xs)
later_all first n [] h = tt
later_all first n (a ∷ xs) h = (omega (arith, h.0), later_all first n xs h.1)

came_by : (all : List Calls) → AllByRecursion (λ a. a.at ≤ slots_of_all all) (all_arrivals all)
came_by [] = tt
came_by (calls ∷ earlier) =
    let first : ℕ = slots_of_all earlier in
    let own : AllByRecursion (λ a. a.at ≤ 0 + slots (events_of_calls calls)) (arrivals 0 (events_of_calls calls)) = come_by 0 (events_of_calls calls) in
    all_joined (λ a. a.at ≤ first + slots (events_of_calls calls)) (all_arrivals earlier) (map (at_later first) (arrivals 0 (events_of_calls calls)))
    (sooner_all first (first + slots (events_of_calls calls)) (omega arith) (all_arrivals earlier) (came_by earlier))
    (later_all first (slots (events_of_calls calls)) (arrivals 0 (events_of_calls calls))
    (sooner_all (0 + slots (events_of_calls calls)) (slots (events_of_calls calls)) (omega arith) (arrivals 0 (events_of_calls calls)) own))

-- All lives

-- the lives have ended, and the next one starts stocked after them
pub record GoOn (first : Start) (terms : Terms) (all : List Calls) : Type 0 where
  pub ended : HaveEnded first (lives_of first all)
  pub stocked : AreStockedAfter (start_after first (lives_of first all)) terms (all_arrivals all) (slots_of_all all)

module _ (first : Start) (terms : Terms) (opens : IsOpening first) (passes : PassesDemand first.plan terms)
    (supply : PassesSupply first.plan terms) (full : AreFull first) where
  next_passes : (lives : Lives) → PassesDemand (start_after first lives).plan terms
  next_passes lives = subst (λ p. PassesDemand p terms) (sym (plan_same first lives)) passes

  next_supply : (lives : Lives) → PassesSupply (start_after first lives).plan terms
  next_supply lives = subst (λ p. PassesSupply p terms) (sym (plan_same first lives)) supply

  next_keeps : (lives : Lives) (all : List Event) → KeepsDemandPlan first.plan terms all → KeepsDemandPlan (start_after first lives).plan terms all
  next_keeps lives all keeps = subst (λ p. KeepsDemandPlan p terms all) (sym (plan_same first lives)) keeps

  -- the next life is stocked for its events
  next_stocked : (earlier : List Calls) (calls : Calls) → GoOn first terms earlier → KeepsDemandPlan first.plan terms (events_of_calls calls)
      → WritesAreFew first.plan terms (calls ∷ earlier) → AreStockedFor (start_after first (lives_of first earlier)) terms (events_of_calls calls)
  next_stocked earlier calls before keeps few =
      let lives : Lives = lives_of first earlier in
      stocked_for_next (start_after first lives) terms (all_arrivals earlier) (slots_of_all earlier) (events_of_calls calls)
      (next_keeps lives (events_of_calls calls) keeps) (came_by earlier)
      (subst (λ p. WritesAreFew p terms (calls ∷ earlier)) (sym (plan_same first lives)) few) before.stocked

  pub lives_go_on : (all : List Calls) → KeepDemandPlans first.plan terms all → GoOn first terms all
  lives_go_on [] keep = record { ended = tt; stocked = full_stocked first terms [] 0 full }
  lives_go_on (calls ∷ earlier) keep =
      let before : GoOn first terms earlier = lives_go_on earlier keep.0 in
      let lives : Lives = lives_of first earlier in
      let start : Start = start_after first lives in
      let kept = next_keeps lives (events_of_calls calls) keep.1 in
      let q = renews start terms (ended_opens first opens lives before.ended) (next_passes lives) (next_supply lives) calls kept
      (all_arrivals earlier) (slots_of_all earlier) before.stocked (next_stocked earlier calls before keep.1 keep.3)
      (subst (λ p. EndPeriods p terms (events_of_calls calls)) (sym (plan_same first lives)) keep.2) in
      record { ended = (before.ended, run_exact start [] calls tt, q.0); stocked = q.1 }

  pub next_served : (all : List Calls) → KeepDemandPlans first.plan terms all → (calls : Calls) → KeepsDemandPlan first.plan terms (events_of_calls calls)
      → WritesAreFew first.plan terms (calls ∷ all) → IsServedInTime (start_after first (lives_of first all)) calls
  next_served all keep calls keeps few =
      let before : GoOn first terms all = lives_go_on all keep in
      let lives : Lives = lives_of first all in
      served (start_after first lives) terms (ended_opens first opens lives before.ended) (next_passes lives) (next_supply lives) calls
      (next_keeps lives (events_of_calls calls) keeps) (next_stocked all calls before keeps few)

  pub all_served : (all : List Calls) → KeepDemandPlans first.plan terms all → AreServedInTime first all
  all_served [] keep = tt
  all_served (calls ∷ earlier) keep = (all_served earlier keep.0, next_served earlier keep.0 calls keep.1 keep.3)
