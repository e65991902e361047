-- The present slot begins, and the die stands as it did.
use Rattle.std.proofs.Common.{◌≡◌, ℕ, ◌+◌, ◌<◌, ◌==◌, false, List, ◌∷◌, map, get_or, Option, Some, None, refl, ap, sym, subst, ◌∙◌, inl, inr, arith}
use Rattle.std.proofs.lemmas.Bool.Decides.{nat_tests}
use Rattle.demand_rules.specs.declared.terms.Terms.{Terms}
use Rattle.die_log.specs.Model.Log.{Log, now}
use Rattle.die_log.specs.Model.Start.{Start}
use Rattle.die_log.specs.Model.Lives.{Lives, all_slots}
use Rattle.die_log.specs.Model.Opening.{renewed_start}
use Rattle.planned_log.specs.Moves.{after_moves}
use Rattle.ongoing_log.specs.Ongoing.{Ongoing, WaitingAsk, waiting_of, clock_of, asks_of, due_at, left_at, let_in, living_on, AreLongEnough, IsOngoing}
use Rattle.planned_die.specs.Planned.{Planned, HasLived}
use Rattle.ongoing_log.specs.PastLives.{PastLife, Renewed, starts_after, counted}
use Rattle.ongoing_die.specs.Standing.{OngoingParts, NoneIsDue, standing, StandsAs, IsOngoingDie}
use Rattle.ongoing_die.specs.Entering.{HasLivedOn, IsSameDie}
use Rattle.ongoing_die.specs.OngoingCalls.{HasBegun, HaveOnePlan}
use Rattle.ongoing_die.proofs.OverAllLives.{within, stands_in, still_lives, next_lives}

-- one plan, twice
pub plan_then : {N : Type 0} (one two three : OngoingParts N) → HaveOnePlan one two → HaveOnePlan two three → HaveOnePlan one three
plan_then one two three a b = record { terms = b.terms ∙ a.terms; life = b.life ∙ a.life }

-- a die that nothing happened to
pub same_plan : {N : Type 0} (one two : OngoingParts N) → two ≡ one → HaveOnePlan one two
same_plan {N} one two is = record { terms = ap (λ (p : OngoingParts N). p.die.terms) is; life = ap (λ (p : OngoingParts N). p.die.life) is }

-- its lives stay long enough
pub goes_on_so : {N : Type 0} (first : Start) (d : Ongoing) (before after : OngoingParts N) → HaveOnePlan before after
    → AreLongEnough before.die.terms before.die.life → StandsAs first d after → IsOngoingDie after
goes_on_so first d before after plan long s = record {
  long = subst (λ n. AreLongEnough after.die.terms n) (sym plan.life)
      (subst (λ (t : Terms). AreLongEnough t before.die.life) (sym plan.terms) long);
  first = first;
  ongoing = d;
  stands = s;
}

-- a life that goes on, in a slot for which none waits
pub goes_on_yet : {N : Type 0} (first : Start) (d : Ongoing) (parts : OngoingParts N) → StandsAs first d parts → parts.die.core.stopped ≡ false
    → now parts.die.core.log < parts.die.life → NoneIsDue (parts.die.first + now parts.die.core.log) parts.waiting → HasBegun first d parts parts
goes_on_yet first d parts s runs early none = record {
  ran = runs;
  runs = runs;
  stands = s;
  settled = within first d parts s runs early none;
  early = early;
  plan = record { terms = refl; life = refl };
  device = refl;
}

-- what begins twice has begun
pub begun_again : {N : Type 0} (first : Start) (d : Ongoing) (before between after : OngoingParts N) → HasBegun first d before between
    → HasBegun first d between after → HasBegun first d before after
begun_again first d before between after a b = record {
  ran = a.ran;
  runs = b.runs;
  stands = b.stands;
  settled = b.settled;
  early = b.early;
  plan = plan_then before between after a.plan b.plan;
  device = b.device ∙ a.device;
}

-- The present slot begins

module _ {N : Type 0} (first : Start) (d : Ongoing) (before after : OngoingParts N) (s : StandsAs first d before)
    (runs : before.die.core.stopped ≡ false) (lived : Planned N) (on : HasLivedOn before.die lived) (same : IsSameDie lived after.die) (clock : ℕ)
    (clock_at : clock ≡ lived.first + now lived.core.log) where
  abbrev terms : Terms
  terms = before.die.terms

  abbrev life : ℕ
  life = before.die.life

  -- the die of the life that goes on, before anything enters
  record GoesOn : Type 0 where
    pub past : List PastLife
    pub had : HasLived lived (counted past)
    pub starts : lived.core.start ≡ starts_after first past
    pub lives : living_on life (standing before s.past) ≡ standing (record { die = lived; waiting = before.waiting }) past
    pub terms_is : lived.terms ≡ terms
    pub life_is : lived.life ≡ life
    pub whole : lived.entered ≡ 0
    pub ran : lived.core.stopped ≡ false
    pub device : lived.core.device ≡ before.die.core.device

  goes : GoesOn
  goes = elim on [
    | inl still ↦ record {
      past = s.past;
      had = subst (λ (p : Planned N). HasLived p (counted s.past)) (sym still.1) s.lived;
      starts = ap (λ (p : Planned N). p.core.start) still.1 ∙ s.starts;
      lives = still_lives life (standing before s.past) still.0
          ∙ ap (λ (p : Planned N). standing (record { die = p; waiting = before.waiting }) s.past) (sym still.1);
      terms_is = ap (λ (p : Planned N). p.terms) still.1;
      life_is = ap (λ (p : Planned N). p.life) still.1;
      whole = ap (λ (p : Planned N). p.entered) still.1 ∙ (s.runs runs).whole;
      ran = ap (λ (p : Planned N). p.core.stopped) still.1 ∙ runs;
      device = ap (λ (p : Planned N). p.core.device) still.1;
    }
    | inr ended ↦
        let past : List PastLife = record { log = before.die.core.log; ended = Renewed } ∷ s.past in
        record {
          past = past;
          had = ended.2 (counted s.past) s.lived;
          starts = ap (λ (p : Planned N). p.core.start) ended.1 ∙ ap (λ (t : Start). renewed_start t before.die.core.log) s.starts;
          lives = next_lives life (standing before s.past) ended.0
              ∙ ap (λ (p : Planned N). standing (record { die = p; waiting = before.waiting }) past) (sym ended.1);
          terms_is = ap (λ (p : Planned N). p.terms) ended.1;
          life_is = ap (λ (p : Planned N). p.life) ended.1;
          whole = ap (λ (p : Planned N). p.entered) ended.1;
          ran = ap (λ (p : Planned N). p.core.stopped) ended.1 ∙ runs;
          device = ap (λ (p : Planned N). p.core.device) ended.1;
        }
  ]

  k : IsOngoing first terms life d
  k = (s.runs runs).goes_on

  pub plan : HaveOnePlan before after
  plan = record { terms = same.terms ∙ goes.terms_is; life = same.life ∙ goes.life_is }

  pub runs_on : after.die.core.stopped ≡ false
  runs_on = same.stopped ∙ goes.ran

  pub lived_on : (earlier : Lives) × HasLived lived earlier
  lived_on = (counted goes.past, goes.had)

  module _ (has : (earlier : Lives) → HasLived lived earlier → HasLived after.die earlier)
      (log_is : (earlier : Lives) → HasLived lived earlier → after.die.core.log
      ≡ after_moves lived.core.start lived.terms earlier lived.life lived.core.log (asks_of 0 (map (due_at clock) before.waiting)))
      (left : after.waiting ≡ map (left_at clock) before.waiting) where
    abbrev lives : Lives
    lives = counted goes.past

    clock_is : clock ≡ all_slots lives + now lived.core.log
    clock_is = clock_at ∙ ap (λ n. n + now lived.core.log) goes.had.began

    entered : after_moves (starts_after first goes.past) terms lives life lived.core.log (asks_of 0 (map (due_at (all_slots lives + now lived.core.log)) before.waiting))
        ≡ after.die.core.log
    entered =
        (λ i. after_moves (sym goes.starts i) (sym goes.terms_is i) lives (sym goes.life_is i) lived.core.log (asks_of 0 (map (due_at (sym clock_is i)) before.waiting)))
        ∙ sym (log_is lives goes.had)

    left_is : map (left_at (all_slots lives + now lived.core.log)) before.waiting ≡ after.waiting
    left_is = ap (λ n. map (left_at n) before.waiting) (sym clock_is) ∙ sym left

    as_parts : d ≡ standing after goes.past
    as_parts =
        (s.runs runs).stands
        ∙ (ap (let_in first terms life) goes.lives
        ∙ (λ i. record { earlier = goes.past; log = entered i; waiting = left_is i }))

    stands_there : StandsAs first d after
    stands_there = stands_in first d after goes.past (has lives goes.had) (same.start ∙ goes.starts) as_parts
        (subst (λ n. IsOngoing first after.die.terms n d) (sym plan.life)
        (subst (λ (t : Terms). IsOngoing first t life d) (sym plan.terms) k))
        (same.entered ∙ goes.whole)

    early_there : now after.die.core.log < after.die.life
    early_there = subst (λ (l : Log). now l < after.die.life) (ap (λ (e : Ongoing). e.log) as_parts)
        (subst (λ n. now d.log < n) (sym plan.life) k.goes_on)

    -- what waited for the present slot waits no more
    pub none_due : NoneIsDue (after.die.first + now after.die.core.log) after.waiting
    none_due task = by (get_or after.waiting task None) refl
      where
        clock_there : after.die.first + now after.die.core.log ≡ clock_of d
        clock_there =
            ap (λ n. n + now after.die.core.log) (has lives goes.had).began
            ∙ sym (ap clock_of as_parts)

        by : (v : Option WaitingAsk) → get_or after.waiting task None ≡ v → due_at (after.die.first + now after.die.core.log) v ≡ None
        by None e = refl
        by (Some w) e =
            let there : waiting_of d task ≡ Some w = ap (λ (x : Ongoing). waiting_of x task) as_parts ∙ e in
            let later = (k.waits task w there).later in
            let away : (w.until == after.die.first + now after.die.core.log) ≡ false = grind (arith, nat_tests, later, clock_there) in
            rw away refl

    pub begun : HasBegun first d before after
    begun = record {
      ran = runs;
      runs = runs_on;
      stands = stands_there;
      settled = within first d after stands_there runs_on early_there none_due;
      early = early_there;
      plan = plan;
      device = same.device ∙ goes.device;
    }
