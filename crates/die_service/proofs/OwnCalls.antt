-- What a worker has asked of a die that its run owns.
use Rattle.std.proofs.Common.{◌≡◌, ◌∙◌, ℕ, ◌+◌, ◌-◌, Bool, List, [], ◌∷◌, Option, Result, Ok, Err, max, ap, sym, subst}
use Rattle.std.specs.List.{FoldsTo}
use Rattle.slot_types.specs.declared.events.Event.{Event}
use Rattle.slot_types.specs.declared.events.Event.TheVariants as events
use Rattle.slot_types.specs.declared.replies.Reply.{Reply}
use Rattle.slot_types.specs.declared.replies.Reply.TheVariants as replies
use Rattle.flash_die.specs.declared.nand.NandCall.{NandCall}
use Rattle.slot_core.specs.Core.{Core}
use Rattle.slot_types.specs.declared.refusals.Refusal.{Refusal}
use Rattle.die_service.specs.declared.refused.RefusedAt.{RefusedAt}
use Rattle.die_service.specs.Drives.{WorkerState, first_state}
use Rattle.die_service.specs.OwnRuns.{HasRunOn, IsAsked, MayCallOwn, result_of_stop}
use Rattle.die_service.specs.Runs.{AskedEvent, asked_event, InClockOrder}
use Rattle.die_service.specs.Work.{WorkCall, WorksOff, calls_for}

module _ {N : Type 0} (ends : N → NandCall → Bool → N → Type 0) (failures : N → ℕ) (never : Bool) (die : ℕ) where
  abbrev Calls : Core N → List WorkCall → Core N → Type 0
  Calls = FoldsTo (MayCallOwn ends failures never)

  abbrev Asks : Core N → List AskedEvent → Core N → Type 0
  Asks = FoldsTo (IsAsked ends failures never)

  asked_by : (e : Event) (r : Result Reply RefusedAt) (saids : List AskedEvent) (clock : ℕ) (before after : Core N)
      → ((next : ℕ) (x : Core N) → Calls x (calls_for die next saids) after → Asks x saids after)
      → Calls before (calls_for die clock (asked_event e r ∷ saids)) after → Asks before (asked_event e r ∷ saids) after
  asked_by events.Slot (Ok (replies.Slot reply)) saids clock before after later c = (
    c.2.0,
    subst (λ (x : Core N). IsAsked ends failures never x (asked_event events.Slot (Ok (replies.Slot reply))) c.2.0) c.1 c.2.1,
    later (reply.slot + 1) c.2.0 (subst (λ (x : Core N). Calls x (calls_for die (reply.slot + 1) saids) after) c.2.2.1 c.2.2.2),
  )
  asked_by events.Slot (Ok (replies.Taken number)) saids clock before after later c = (c.0, c.1, later clock c.0 c.2)
  asked_by events.Slot (Ok (replies.Refused refusal)) saids clock before after later c = (c.0, c.1, later clock c.0 c.2)
  asked_by events.Slot (Err refused) saids clock before after later c = (
    c.2.0,
    subst (λ (x : Core N). IsAsked ends failures never x (asked_event events.Slot (Err refused)) c.2.0) c.1 c.2.1,
    later clock c.2.0 c.2.2,
  )
  asked_by (events.Submit task release due ops) r saids clock before after later c = (c.0, c.1, later clock c.0 c.2)
  asked_by (events.Collect task release due) r saids clock before after later c = (c.0, c.1, later clock c.0 c.2)

  -- hooks leave the die, so what is left of the calls is what was asked
  pub asked_all : (saids : List AskedEvent) (clock : ℕ) (before after : Core N) → Calls before (calls_for die clock saids) after
      → Asks before saids after
  asked_all [] clock before after calls = calls
  asked_all (s ∷ saids) clock before after calls =
      asked_by s.event s.reply saids clock before after (λ next x rest. asked_all saids next x after rest) calls

  -- a worker ran it up to a slot, and then forgot what came of it
  pub has_run_on : (until clock slots next : ℕ) (s t f : WorkerState (Core N)) (stop : Option RefusedAt) (result : Result Unit Refusal)
      → slots ≡ until - clock → WorksOff (MayCallOwn ends failures never) die clock slots s t → stop ≡ t.stop
      → f ≡ first_state t.work t.course → next ≡ max clock until → result ≡ result_of_stop stop
      → HasRunOn ends failures never until (record { die = s.work; clock = clock; course = s.course }) result
      (record { die = f.work; clock = next; course = f.course })
  has_run_on until clock slots next s t f stop result count off why forgot later is = record {
    saids = off.saids;
    ordered = subst (λ (n : ℕ). InClockOrder n clock s.course.rest off.saids) count off.ordered;
    asked = subst (λ (x : WorkerState (Core N)). Asks s.work off.saids x.work) (sym forgot) (asked_all off.saids clock s.work t.work off.asks.made);
    clock = later;
    place = ap (λ x. x.course.place) forgot ∙ off.asks.place;
    rest = ap (λ x. x.course.rest) forgot ∙ off.asks.rest;
    refused = ap (λ x. x.course.refused) forgot ∙ off.asks.refused;
    result_is = is ∙ ap result_of_stop (why ∙ off.stop_is);
  }
