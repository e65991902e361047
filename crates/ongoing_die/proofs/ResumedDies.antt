-- A die that begins after some lives, on which nothing was done since.
use Rattle.std.proofs.Common.{◌≡◌, ℕ, [], List, length, replicate, Option, None, refl, ap, sym, subst, ◌∙◌, arith}
use Rattle.slot_types.specs.declared.plans.DiePlan.{DiePlan}
use Rattle.demand_rules.specs.declared.terms.Terms.{Terms}
use Rattle.die_log.specs.Model.Log.{Log}
use Rattle.die_log.specs.Model.Start.{Start}
use Rattle.die_log.specs.Model.Lives.{Lives}
use Rattle.planned_log.specs.Laws.{IsKept}
use Rattle.ongoing_log.specs.PastLives.{PastLife, starts_after, counted, HavePassed}
use Rattle.ongoing_log.specs.Ongoing.{WaitingAsk, begun_after, new_ongoing, shut_down, AreLongEnough, IsOngoing}
use Rattle.planned_die.specs.Planned.{Planned, HasLived}
use Rattle.ongoing_die.specs.Standing.{OngoingParts, StandsAs}
use Rattle.ongoing_die.specs.Resuming.{GoesOnAfter}
use Rattle.ongoing_die.proofs.OverAllLives.{stands_in}
use Rattle.ongoing_die.proofs.Shutting.{nobody_in}

-- a die with the plan kept after these lives goes on by itself
abbrev pub Begins : Type 0
Begins = (first : Start) (terms : Terms) (life : ℕ) → AreLongEnough terms life → (past : List PastLife) → HavePassed first life past
    → IsKept (starts_after first past) terms (counted past) life 0 []
    → IsOngoing first terms life (begun_after past (length (starts_after first past).plan.caps))

module _ {N : Type 0} (plan : DiePlan) (die : Planned N) (of_plan : die.core.start.plan ≡ plan) (whole : die.entered ≡ 0) (empty : die.core.log ≡ [])
    (long : AreLongEnough die.terms die.life) (ws : List (Option WaitingAsk)) (none : ws ≡ replicate (length die.terms.tasks) None) (law : Begins) where
  abbrev parts : OngoingParts N
  parts = record { die = die; waiting = ws }

  module _ (first : Start) (past : List PastLife) (after : GoesOnAfter first past die.core.start) (lived : HasLived die (counted past)) where
    kept : IsKept (starts_after first past) die.terms (counted past) die.life 0 []
    kept = subst (λ (l : Log). IsKept (starts_after first past) die.terms (counted past) die.life 0 l) empty
        (subst (λ n. IsKept (starts_after first past) die.terms (counted past) die.life n die.core.log) whole
        (subst (λ (t : Start). IsKept t die.terms (counted past) die.life die.entered die.core.log) after.starts lived.kept))

    tasks : length (starts_after first past).plan.caps ≡ length plan.caps
    tasks = ap (λ (t : Start). length t.plan.caps) (sym after.starts) ∙ ap (λ (p : DiePlan). length p.caps) of_plan

    none_of_plan : ws ≡ replicate (length plan.caps) None
    none_of_plan = none ∙ ap (λ n. replicate n None) (lived.kept.demand.has.one_each ∙ ap (λ (p : DiePlan). length p.caps) of_plan)

    pub begun_stands : StandsAs first (begun_after past (length plan.caps)) parts
    begun_stands = stands_in first (begun_after past (length plan.caps)) parts past lived after.starts
        (λ i. record { earlier = past; log = sym empty i; waiting = sym none_of_plan i })
        (subst (λ n. IsOngoing first die.terms die.life (begun_after past n)) tasks
        (law first die.terms die.life long past (after.passed die.life) kept)) whole

  -- where nobody knows what came before
  pub alone : (counts : Lives) → die.first ≡ 0 → HasLived die counts
      → StandsAs die.core.start (begun_after (shut_down 0 counts (new_ongoing plan)) (length plan.caps)) parts
  alone counts at_zero lived = begun_stands die.core.start (shut_down 0 counts (new_ongoing plan)) after lived
    where
      after : GoesOnAfter die.core.start (shut_down 0 counts (new_ongoing plan)) die.core.start
      after = record {
        passed = λ life. (
          tt,
          record {
            exact = tt;
            in_time = λ j h. nobody_in j h;
            may_end = (omega arith, (λ j h. nobody_in j h), sym lived.began ∙ at_zero);
          },
        );
        starts = refl;
      }
