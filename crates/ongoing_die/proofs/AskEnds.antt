-- What an ask leaves, with what the die below answered.
use Rattle.std.proofs.Common.{◌≡◌, ℕ, ◌+◌, ◌<◌, ◌≤◌, true, false, List, Option, is_some, ◌∷◌, length, map, get_or, set, vec_capacity, None, Some, Ok, Err, refl, ap, sym, ◌∙◌, arith}
use Rattle.std.proofs.lemmas.Bool.{true≢false}
use Rattle.std.proofs.lemmas.List.{length-map, get_or-map}
use Rattle.slot_types.specs.declared.events.Op.{Op}
use Rattle.demand_rules.specs.declared.terms.Terms.{Terms}
use Rattle.demand_rules.specs.Demand.{terms_of}
use Rattle.die_log.specs.Model.Log.{now}
use Rattle.die_log.specs.Model.Start.{Start}
use Rattle.die_log.specs.Model.Lives.{Lives, all_slots}
use Rattle.planned_log.specs.declared.ask_kinds.AskKind.{AskKind}
use Rattle.planned_log.specs.declared.refusals.AskRefusal.TheVariants as because
use Rattle.planned_log.specs.Asks.{asked_by}
use Rattle.planned_log.specs.Moves.{Move}
use Rattle.ongoing_log.specs.Ongoing.{Ongoing, WaitingAsk, ongoing_after, AreLongEnough, IsOngoing}
use Rattle.planned_die.specs.Planned.{Planned, HasLived}
use Rattle.planned_die.specs.declared.bursts.Burst.{Burst}
use Rattle.ongoing_log.specs.PastLives.{counted}
use Rattle.ongoing_die.specs.declared.waiting.Waiting.{Waiting}
use Rattle.ongoing_die.specs.declared.answers.Taken.TheVariants as taken
use Rattle.ongoing_die.specs.Standing.{OngoingParts, ask_in, StandsAs, HaveRoom}
use Rattle.ongoing_die.specs.OngoingCalls.{HasBegun, HasTaken}
use Rattle.ongoing_die.specs.DieAsks.{IsDieAsk}
use Rattle.ongoing_die.proofs.Asking.{late_ask, refused_by, ask_enters, ask_waits}

-- what the laws of logs say
abbrev pub Law : Type 0
Law = (first : Start) (terms : Terms) (life : ℕ) → AreLongEnough terms life → (d : Ongoing) → IsOngoing first terms life d → (moves : List Move)
    → IsOngoing first terms life (ongoing_after first terms life d moves)

module _ {N : Type 0} (law : Law) (kind : AskKind) (caller task : ℕ) (ops : List Op) (die after : Planned N) (long : AreLongEnough die.terms die.life)
    (lives : (earlier : Lives) → HasLived die earlier → HasLived after earlier) (ws : List (Option WaitingAsk)) where
  pub entered : (burst : Burst) (release due : ℕ) (asked : (earlier : Lives) → HasLived die earlier → IsDieAsk kind caller task ops earlier (Ok burst) die after)
      → release ≡ after.first + now after.core.log → due ≡ release + (terms_of die.terms task).deadline → get_or ws task None ≡ None → (first : Start) (d : Ongoing)
      (before : OngoingParts N) → HasBegun first d before (record { die = die; waiting = ws })
      → HasTaken kind caller task ops first d (taken.Enters release due burst.first burst.jobs) before (record { die = after; waiting = ws })
  entered burst release due asked at due_is none first d before b =
      ask_enters first d before (record { die = die; waiting = ws }) b (law first die.terms die.life long d (b.stands.runs b.runs).goes_on) kind caller task ops
      (record { die = after; waiting = ws }) (lives (counted b.stands.past) b.stands.lived) burst release due (asked (counted b.stands.past) b.stands.lived) at due_is none refl

  pub waited : (release due : ℕ) (left : List (Option WaitingAsk))
      (asked : (earlier : Lives) → HasLived die earlier → IsDieAsk kind caller task ops earlier (Err because.LifeEnd) die after)
      → release ≡ after.first + after.life → due ≡ release + (terms_of die.terms task).deadline → get_or ws task None ≡ None
      → left ≡ set ws task (Some (record { caller = caller; ops = ops; until = release })) → (first : Start) (d : Ongoing)
      (before : OngoingParts N) → HasBegun first d before (record { die = die; waiting = ws })
      → HasTaken kind caller task ops first d (taken.Waits release due) before (record { die = after; waiting = left })
  waited release due left asked at due_is none kept first d before b =
      ask_waits first d before (record { die = die; waiting = ws }) b (law first die.terms die.life long d (b.stands.runs b.runs).goes_on) kind caller task ops
      (record { die = after; waiting = left }) (lives (counted b.stands.past) b.stands.lived) release due (asked (counted b.stands.past) b.stands.lived) at due_is none kept

-- What waits

module _ (ws : List Waiting) (task : ℕ) (w : Waiting) (lt : task < length ws) (is : w ≡ get_or ws task w) where
  pub one_waits : w.waits ≡ true → get_or (map ask_in ws) task None ≡ Some (record { caller = w.caller; ops = w.ops.items; until = w.until })
  one_waits waits = get_or-map ask_in ws task w None lt ∙ (sym (ap ask_in is) ∙ rw waits refl)

  pub none_waits : w.waits ≡ false → get_or (map ask_in ws) task None ≡ None
  none_waits waits = get_or-map ask_in ws task w None lt ∙ (sym (ap ask_in is) ∙ rw waits refl)

module _ {N : Type 0} (first : Start) (d : Ongoing) (die after : Planned N) (ws : List Waiting) (s : StandsAs first d (record { die = die; waiting = map ask_in ws }))
    (runs : die.core.stopped ≡ false) (kind : AskKind) (caller task : ℕ) (ops : List Op)
    (asked : (earlier : Lives) → HasLived die earlier → IsDieAsk kind caller task ops earlier (Err because.LifeEnd) die after) where
  late : (task < length die.core.start.plan.caps) × (length ops ≤ (terms_of die.terms task).work)
  late = late_ask die.core.start.plan die.terms die.life (all_slots (counted s.past)) (now die.core.log) (asked_by task (die.core.log ∷ counted s.past)) kind task ops
      (refused_by kind caller task ops (counted s.past) because.LifeEnd die after runs (asked (counted s.past) s.lived))

  pub late_known : task < length ws
  late_known = omega (arith, late.0, s.one_each, length-map ws ask_in)

  pub late_fits : HaveRoom die.terms ws → (own : Waiting) → length ops ≤ vec_capacity (get_or ws task own).ops
  late_fits room own = omega (arith, late.1, room task own late_known)

-- whether one waits
pub none_if : {A : Type 0} (v : Option A) → is_some v ≡ false → v ≡ None
none_if None e = refl
none_if (Some x) e = absurd (true≢false e)

pub some_if : {A : Type 0} (v : Option A) → is_some v ≡ true → (x : A) × (v ≡ Some x)
some_if None e = absurd (true≢false (sym e))
some_if (Some x) e = (x, refl)
