-- Nothing is late in a run of events that keep a passing plan, also where the device fails at its end.
use Rattle.std.proofs.Common.{◌≡◌, ◌⊎◌, inl, inr, ◌+◌, ◌≤◌, ℕ, Bool, false, true, List, [], ◌∷◌, ◌++◌, All, map, refl, ap, sym, subst, ◌∙◌, Ok, Err, IfOk, append_assoc, arith}
use Rattle.std.specs.declared.result.Result.{Result}
use Rattle.std.specs.List.{AllByRecursion}
use Rattle.std.proofs.lemmas.Bool.{true≢false}
use Rattle.std.proofs.lemmas.List.Elements.{recursion_from_All}
use Rattle.slot_types.specs.declared.events.Event.{Event}
use Rattle.slot_types.specs.declared.refusals.Refusal.{Refusal}
use Rattle.slot_types.specs.declared.replies.Reply.{Reply}
use Rattle.slot_types.specs.declared.replies.Reply.TheVariants as replies
use Rattle.slot_types.specs.declared.plans.Times.{Times}
use Rattle.flash_die.specs.declared.nand.NandCall.{NandCall}
use Rattle.plan_rules.specs.Keeping.{KeepsPlan}
use Rattle.die_log.specs.Model.Log.{Log}
use Rattle.die_log.specs.Model.Start.{Start}
use Rattle.die_log.specs.Model.Opening.{IsOpening}
use Rattle.die_log.specs.Model.Answers.{answer, with_answer, after_call, run, IsExact}
use Rattle.die_log.specs.Results.InTime.{IsInTime, AreEntered}
use Rattle.die_log.proofs.Planned.InTime.{planned_in_time}
use Rattle.die_log.proofs.Planned.Running.{events_of, run_enters}
use Rattle.die_log.proofs.Runs.{run_exact}
use Rattle.slot_core.specs.Core.{Core}
use Rattle.slot_core.specs.Calls.{IsAnswered, RefusesCall}
use Rattle.slot_core.specs.AcceptedRuns.{IsPlanned, FindsMemory}
use Rattle.slot_core.proofs.Running.{Calls, Runs, by_reply, entered}

-- the calls of a run
calls_of : List Event → List (ℕ × Event)
calls_of all = map (λ event. (0, event)) all

same_events : (all : List Event) → events_of (calls_of all) ≡ all
unfolding calls_of
same_events [] = refl
same_events (event ∷ all) = ap (λ rest. event ∷ rest) (same_events all)

-- a longer run leaves a longer log
answered_longer : (caller : ℕ) (event : Event) (reply : Reply) (past log : Log) → (later : Log) × (log ≡ later ++ with_answer caller event reply past)
    → (later : Log) × (log ≡ later ++ past)
answered_longer caller event (replies.Refused refusal) past log (later, is) = (later, is)
answered_longer caller event (replies.Taken number) past log (later, is) = (
  later ++ record { caller = caller; event = event; reply = replies.Taken number } ∷ [],
  is ∙ sym (append_assoc later (record { caller = caller; event = event; reply = replies.Taken number } ∷ []) past),
)
answered_longer caller event (replies.Slot slot) past log (later, is) = (
  later ++ record { caller = caller; event = event; reply = replies.Slot slot } ∷ [],
  is ∙ sym (append_assoc later (record { caller = caller; event = event; reply = replies.Slot slot } ∷ []) past),
)

run_longer : (start : Start) (past : Log) (calls : List (ℕ × Event)) → (later : Log) × (run start past calls ≡ later ++ past)
run_longer start past [] = ([], refl)
run_longer start past (call ∷ calls) = answered_longer call.0 call.1 (answer start past call.1) past (run start past (call ∷ calls))
    (run_longer start (after_call start past call) calls)

-- What was carried out until a fault

-- the log of the run's first calls, which others could follow
record IsLogWithin (start : Start) (past : Log) (all : List Event) (log : Log) : Type 0 where
  later : Log
  is : run start past (calls_of all) ≡ later ++ log

with_call_first : (start : Start) (past : Log) (event : Event) (rest : List Event) (next log : Log) → after_call start past (0, event) ≡ next
    → IsLogWithin start next rest log → IsLogWithin start past (event ∷ rest) log
unfolding calls_of
with_call_first start past event rest next log is w = record {
  later = w.later;
  is = ap (λ l. run start l (calls_of rest)) is ∙ w.is;
}

at_start : (start : Start) (past : Log) (all : List Event) (log : Log) → log ≡ past → IsLogWithin start past all log
at_start start past all log is =
    let longer = run_longer start past (calls_of all) in
    record { later = longer.0; is = longer.1 ∙ ap (λ l. longer.0 ++ l) (sym is) }

module _ {N : Type 0} (ends : N → NandCall → Bool → N → Type 0) (failures : N → ℕ) (never : Bool) where
  -- nothing comes after a fault
  stays : (before after : Core N) (all : List Event) (rs : List Reply) → before.stopped ≡ true → Runs ends failures never before all rs after
      → after.log ≡ before.log
  stays before after [] [] stops h = ap (λ (c : Core N). c.log) h
  stays before after [] (reply ∷ rs) stops h = absurd h
  stays before after (event ∷ all) [] stops h = absurd h
  stays before after (event ∷ all) (reply ∷ rs) stops (between, call, h) =
      let same = by (by_reply ends failures never event reply before between call) in
      stays between after all rs (ap (λ (c : Core N). c.stopped) same ∙ stops) h ∙ ap (λ (c : Core N). c.log) same
    where
      by_cause : (refusal : Refusal) → RefusesCall event refusal before between → between ≡ before
      by_cause refusal (inl x) = absurd (true≢false (sym stops ∙ x.ran))
      by_cause refusal (inr (inl x)) = absurd (true≢false (sym stops ∙ x.ran))
      by_cause refusal (inr (inr (inl x))) = absurd (true≢false (sym stops ∙ x.ran))
      by_cause refusal (inr (inr (inr x))) = x.unchanged

      by : IsAnswered 0 event reply before between
          ⊎ ((refusal : Refusal) × (reply ≡ replies.Refused refusal) × RefusesCall event refusal before between) → between ≡ before
      by (inl a) = absurd (true≢false (sym stops ∙ a.ran))
      by (inr (refusal, is, x)) = by_cause refusal x

  within : (start : Start) (before after : Core N) (all : List Event) (rs : List Reply) → before.start ≡ start → before.stopped ≡ false
      → AllByRecursion FindsMemory rs → Runs ends failures never before all rs after → IsLogWithin start before.log all after.log
  within start before after [] [] starts runs found h = at_start start before.log [] after.log (ap (λ (c : Core N). c.log) h)
  within start before after [] (reply ∷ rs) starts runs found h = absurd h
  within start before after (event ∷ all) [] starts runs found h = absurd h
  within start before after (event ∷ all) (reply ∷ rs) starts runs found (between, call, h) =
      by (by_reply ends failures never event reply before between call)
      (λ still. within start between after all rs (call.start_stays ∙ starts) still found.1 h)
    where
      Later : Type 0
      Later = between.stopped ≡ false → IsLogWithin start between.log all after.log

      goes_on : Later → between.stopped ≡ false → after_call start before.log (0, event) ≡ between.log
          → IsLogWithin start before.log (event ∷ all) after.log
      goes_on ih still is = with_call_first start before.log event all between.log after.log is (ih still)

      by_cause : (refusal : Refusal) → reply ≡ replies.Refused refusal → RefusesCall event refusal before between → Later
          → IsLogWithin start before.log (event ∷ all) after.log
      by_cause refusal is (inl x) ih = goes_on ih (ap (λ (c : Core N). c.stopped) x.unchanged ∙ runs)
          (ap (λ r. with_answer 0 event r before.log) (subst (λ (s : Start). answer s before.log event ≡ replies.Refused refusal) starts x.answered)
          ∙ sym (ap (λ (c : Core N). c.log) x.unchanged))
      by_cause refusal is (inr (inl x)) ih = absurd (found.0 (is ∙ ap replies.Refused x.refusal_is))
      by_cause refusal is (inr (inr (inl x))) ih = at_start start before.log (event ∷ all) after.log
          (stays between after all rs x.stops h ∙ x.log_stays)
      by_cause refusal is (inr (inr (inr x))) ih = absurd (true≢false (sym x.was_stopped ∙ runs))

      by : IsAnswered 0 event reply before between
          ⊎ ((refusal : Refusal) × (reply ≡ replies.Refused refusal) × RefusesCall event refusal before between) → Later
          → IsLogWithin start before.log (event ∷ all) after.log
      by (inl a) ih = goes_on ih a.runs
          (ap (λ r. with_answer 0 event r before.log) (subst (λ (s : Start). answer s before.log event ≡ reply) starts a.answered)
          ∙ (sym (entered 0 event reply before.log a.accepted) ∙ sym a.logged))
      by (inr (refusal, is, x)) ih = by_cause refusal is x ih

-- so nothing is late
pub planned_run : {N : Type 0} (ends : N → NandCall → Bool → N → Type 0) (failures : N → ℕ) (never : Bool) (before after : Core N)
    (all : List Event) (rs : List Reply) → IsOpening before.start → Runs ends failures never before all rs after
    → (times : Times) → IsPlanned times before all rs → IsInTime before.start.plan after.log
planned_run {N} ends failures never before after all rs bound h times planned =
    let start = before.start in
    let w : IsLogWithin start [] all after.log = subst (λ (l : Log). IsLogWithin start l all after.log) planned.unused.empty
    (within ends failures never start before after all rs refl planned.unused.runs (recursion_from_All FindsMemory rs planned.found) h) in
    let keeps = subst (KeepsPlan start.plan times) (sym (same_events all)) planned.keeps in
    planned_in_time start times bound planned.passes (events_of (calls_of all)) keeps w.later after.log
    (subst (IsExact start) w.is (run_exact start [] (calls_of all) tt))
    (subst (AreEntered (events_of (calls_of all)) []) w.is (run_enters start (calls_of all) [] (omega (arith, keeps.few_slots))))

-- what holds of a result holds of it by a fact that follows
pub if_ok : {T E : Type 0} (P Q : T → Type 0) (result : Result T E) → ((x : T) → P x → Q x) → IfOk result P → IfOk result Q
if_ok P Q (Ok x) f h = f x h
if_ok P Q (Err e) f h = tt
