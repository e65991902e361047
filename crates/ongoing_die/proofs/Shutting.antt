-- A die that is shut down, or loses its power: its present life is one more of those that passed.
use Rattle.std.proofs.Common.{◌≡◌, ℕ, ◌+◌, ◌<◌, ◌==◌, Bool, true, false, List, [], Option, refl, ap, sym, subst, ◌∙◌, arith}
use Rattle.std.specs.Prelude.{Contains}
use Rattle.std.proofs.lemmas.Bool.{eqb-true}
use Rattle.std.proofs.lemmas.Bool.Decides.{nat_tests}
use Rattle.demand_rules.specs.declared.terms.Terms.{Terms}
use Rattle.die_log.specs.Model.Log.{Log, Job, now}
use Rattle.die_log.specs.Model.Start.{Start}
use Rattle.die_log.specs.Model.Opening.{IsOpening, IsQuiet, renewed_start}
use Rattle.die_log.specs.Model.Lives.{Lives, all_slots}
use Rattle.die_log.specs.Results.DemandedLives.{AreFull}
use Rattle.planned_log.specs.Laws.{IsKept}
use Rattle.ongoing_log.specs.PastLives.{starts_after, counted, HavePassed}
use Rattle.ongoing_log.specs.Ongoing.{Ongoing, WaitingAsk, start_of, clock_of, due_at, let_in, next_life, shut_down, lost_power, IsOngoing}
use Rattle.ongoing_die.specs.Standing.{OngoingParts, NoneIsDue, standing, StandsAs}
use Rattle.ongoing_die.specs.Resuming.{NoneWaits, GoesOnAfter}
use Rattle.ongoing_die.proofs.OverAllLives.{within, next_lives, none_enters}

-- where none waits none is due
none_is_due : (slot : ℕ) (ws : List (Option WaitingAsk)) → NoneWaits ws → NoneIsDue slot ws
none_is_due slot ws h task = ap (due_at slot) (h task)

pub nobody_in : {P : Type 0} (j : Job) → Contains [] j → P
nobody_in j h = absurd (omega (arith, h.1))

-- the present life is quiet, and leaves this
abbrev pub Leaves : Start → Start → Ongoing → Type 0
Leaves first left d = IsQuiet (start_of first d) d.log × (left ≡ renewed_start (start_of first d) d.log)

-- a life on which nothing was done
leaves_none : (first left : Start) (d : Ongoing) → d.log ≡ [] → left ≡ start_of first d → Leaves first left d
leaves_none first left d none is = (
  subst (λ (l : Log). IsQuiet (start_of first d) l) (sym none) (λ j h. nobody_in j h),
  is ∙ ap (λ (l : Log). renewed_start (start_of first d) l) (sym none),
)

module _ {N : Type 0} (first : Start) (d : Ongoing) (parts : OngoingParts N) (s : StandsAs first d parts) (runs : parts.die.core.stopped ≡ false)
    (quiet : IsQuiet parts.die.core.start parts.die.core.log) (none : NoneWaits parts.waiting) where
  abbrev terms : Terms
  terms = parts.die.terms

  abbrev life : ℕ
  life = parts.die.life

  abbrev log : Log
  log = parts.die.core.log

  abbrev left : Start
  left = renewed_start parts.die.core.start log

  left_is : left ≡ renewed_start (starts_after first s.past) log
  left_is = ap (λ (t : Start). renewed_start t log) s.starts

  abbrev here : Ongoing
  here = standing parts s.past

  leaves : (b : Bool) → (now log == life) ≡ b → Leaves first left d
  leaves false e =
      subst (Leaves first left) (sym (within first d parts s runs before (none_is_due (parts.die.first + now log) parts.waiting none)))
      (subst (λ (t : Start). IsQuiet t log) s.starts quiet, left_is)
    where
      before : now log < life
      before = let most = s.lived.kept.kept.within in grind (arith, nat_tests, e, most)
  leaves true e =
      subst (Leaves first left) (sym ((s.runs runs).stands
      ∙ (ap (let_in first terms life) (next_lives life here (eqb-true (now log) life e))
      ∙ none_enters first terms life (next_life here) (none_is_due (clock_of (next_life here)) parts.waiting none))))
      (leaves_none first left (next_life here) refl left_is)

  -- so it is shut down
  pub shut : ((d : Ongoing) → IsOngoing first terms life d → IsQuiet (start_of first d) d.log → (counts : Lives) → all_slots counts ≡ 0
      → (next : ℕ) → HavePassed first next (shut_down life counts d))
      → (counts : Lives) → all_slots counts ≡ 0 → (start : Start) → start ≡ left → GoesOnAfter first (shut_down life counts d) start
  shut law counts zero start is =
      let l = leaves (now log == life) refl in record {
        passed = law d (s.runs runs).goes_on l.0 counts zero;
        starts = is ∙ l.1;
      }

-- it loses its power, also where a fault has stopped it
pub loses_power : {N : Type 0} (first : Start) (d : Ongoing) (parts : OngoingParts N) → (s : StandsAs first d parts)
    → ((entered : ℕ) (d : Ongoing) → HavePassed first parts.die.life d.earlier
    → IsKept (start_of first d) parts.die.terms (counted d.earlier) parts.die.life entered d.log → (start : Start) → IsOpening start
    → start.plan ≡ (start_of first d).plan → AreFull start → (next : ℕ) → HavePassed first next (lost_power parts.die.life start d))
    → (start : Start) → IsOpening start → start.plan ≡ parts.die.core.start.plan → AreFull start
    → GoesOnAfter first (lost_power parts.die.life start (standing parts s.past)) start
loses_power first d parts s law start opens plan full = record {
  passed = law parts.die.entered (standing parts s.past) s.passed
      (subst (λ (t : Start). IsKept t parts.die.terms (counted s.past) parts.die.life parts.die.entered parts.die.core.log) s.starts s.lived.kept)
      start opens (plan ∙ ap (λ (t : Start). t.plan) s.starts) full;
  starts = refl;
}
