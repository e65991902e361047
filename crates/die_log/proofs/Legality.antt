-- From exact to legal: arrivals.
use Rattle.std.proofs.Common.{◌≡◌, ℕ, Bool, true, false, List, [], ◌∷◌, Option, Some, None, refl, ap, sym, ◌∙◌, subst, arith, nat_lt}
use Rattle.std.proofs.Common.{nat_le, ◌||◌}
use Rattle.std.specs.List.{AllByRecursion}
use Rattle.std.proofs.lemmas.Bool.Decides.{nat_tests}
use Rattle.slot_types.specs.declared.limits.TheConstants.{MAX_SLOT}
use Rattle.slot_types.specs.declared.events.Event.{Event}
use Rattle.slot_types.specs.declared.events.Event.TheVariants as events
use Rattle.slot_types.specs.declared.replies.Reply.{Reply}
use Rattle.slot_types.specs.declared.replies.Reply.TheVariants.{Refused}
use Rattle.slot_types.specs.declared.replies.Entry.{Entry}
use Rattle.slot_types.specs.declared.refusals.Refusal.{Refusal}
use Rattle.die_log.specs.Model.Log.{Log, now}
use Rattle.die_log.specs.Model.Answers.{first_that_holds, refusals, refusal_of, reply_if_accepted, answer, IsAccepted, IsExact, answer_by}
use Rattle.die_log.specs.Results.Legal.{IsTimely, ArrivesInTime}
use Rattle.die_log.specs.Model.Start.{Start}

abbrev pub entry : ℕ → Event → Reply → Entry
entry caller event reply = record { caller = caller; event = event; reply = reply }

-- where none stands, each condition is false
pub none_stands : (cs : List (Bool × Refusal)) → first_that_holds cs ≡ None → AllByRecursion (λ c. c.0 ≡ false) cs
none_stands [] e = tt
none_stands ((true, r) ∷ cs) e = absurd cc
none_stands ((false, r) ∷ cs) e = (refl, none_stands cs e)

by_none : (start : Start) (past : Log) (event : Event) (o : Option Refusal) → IsAccepted (answer_by start past event o) → (o ≡ None)
    × (answer_by start past event o ≡ reply_if_accepted start past event)
by_none start past event None h = (refl, refl)
by_none start past event (Some r) h = absurd h

-- an event that is accepted meets no refusal
pub taken_answer : (start : Start) (past : Log) (event : Event) → IsAccepted (answer start past event) → (refusal_of start past event ≡ None)
    × (answer start past event ≡ reply_if_accepted start past event)
unfolding answer
taken_answer start past event h = by_none start past event (refusal_of start past event) h

-- what an event is answered that is refused, and what one that isn't
pub refused_answer : (start : Start) (past : Log) (event : Event) (r : Refusal) → refusal_of start past event ≡ Some r
    → answer start past event ≡ Refused r
unfolding answer
refused_answer start past event r e = ap (answer_by start past event) e

pub accepted_answer : (start : Start) (past : Log) (event : Event) → refusal_of start past event ≡ None → answer start past event
    ≡ reply_if_accepted start past event
unfolding answer
accepted_answer start past event e = ap (answer_by start past event) e

timely : (past : Log) (release due : ℕ) → nat_lt release (now past) ≡ false → (nat_le due release || nat_lt MAX_SLOT due) ≡ false
    → IsTimely past release due
timely past release due a b = grind (arith, nat_tests)

-- what an exact log takes arrives in time
pub in_time : (start : Start) (past : Log) (event : Event) → AllByRecursion (λ c. c.0 ≡ false) (refusals start past event)
    → ArrivesInTime past event
in_time start past (events.Submit task release due ops) h = timely past release due h.1.1.1.1.0 h.1.1.1.1.1.0
in_time start past (events.Collect task release due) h = timely past release due h.1.0 h.1.1.0
in_time start past events.Slot h = tt

-- a law of exact logs holds if it holds of the empty log, and an accepted event with its answer keeps it
pub exact_induction : (start : Start) (Q : Log → Type 0) → Q []
    → ((past : Log) (caller : ℕ) (event : Event) → IsExact start past → Q past → AllByRecursion (λ c. c.0 ≡ false) (refusals start past event)
    → Q (entry caller event (reply_if_accepted start past event) ∷ past))
    → (log : Log) → IsExact start log → Q log
exact_induction start Q none step [] h = none
exact_induction start Q none step (e ∷ past) h =
    let taken = taken_answer start past e.event (subst IsAccepted h.1 h.2) in
    let is : e.reply ≡ reply_if_accepted start past e.event = h.1 ∙ taken.1 in
    let goal : Reply → Type 0 = λ r. Q (entry e.caller e.event r ∷ past) in
    subst goal (sym is) (step past e.caller e.event h.0 (exact_induction start Q none step past h.0)
    (none_stands (refusals start past e.event) taken.0))
