-- Laws of exact logs.
use Rattle.std.proofs.Common.{◌≡◌, ℕ, [], ◌∷◌, ◌++◌, refl, ap}
use Rattle.slot_types.specs.declared.events.Event.{Event}
use Rattle.slot_types.specs.declared.replies.Reply.{Reply}
use Rattle.slot_types.specs.declared.replies.Entry.{Entry}
use Rattle.die_log.specs.Model.Log.{Log, calls}
use Rattle.die_log.specs.Model.Answers.{IsExact}
use Rattle.die_log.specs.Model.Start.{Start}

abbrev entry : ℕ → Event → Reply → Entry
entry caller event reply = record { caller = caller; event = event; reply = reply }

abbrev call : Entry → ℕ × Event
call e = (e.caller, e.event)

same_entry : (k l : ℕ) (v w : Event) (r s : Reply) → k ≡ l → v ≡ w → r ≡ s → entry k v r ≡ entry l w s
same_entry k l v w r s p q t = cc

-- the callers and events of two exact logs determine both
pub same_calls_lem : (start : Start) (first second : Log) → IsExact start first → IsExact start second → calls first ≡ calls second → first
    ≡ second
same_calls_lem start [] [] x y e = refl
same_calls_lem start [] (d ∷ qs) x y e = absurd cc
same_calls_lem start (c ∷ ps) [] x y e = absurd cc
same_calls_lem start (c ∷ ps) (d ∷ qs) x y e =
    let pasts : ps ≡ qs = same_calls_lem start ps qs x.0 y.0 cc in
    let both : call c ≡ call d = cc in
    let callers : c.caller ≡ d.caller = ap (λ (p : ℕ × Event). p.0) both in
    let events : c.event ≡ d.event = ap (λ (p : ℕ × Event). p.1) both in
    let heads : c ≡ d = same_entry c.caller d.caller c.event d.event c.reply d.reply callers events (cc) in
    cc

-- a moment of an exact log: what stands after its last entries
pub moment_exact : (start : Start) (later moment : Log) → IsExact start (later ++ moment) → IsExact start moment
moment_exact start [] moment h = h
moment_exact start (e ∷ later) moment h = moment_exact start later moment h.0
