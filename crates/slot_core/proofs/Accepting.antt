-- Events that keep a passing plan are all accepted in a run, until the device fails.
use Rattle.std.proofs.Common.{◌≡◌, false, Bool, ℕ, List, [], ◌∷◌, ◌++◌, All, refl, ap, sym, subst, ◌∙◌, ◌⊎◌, inl, inr, append_assoc}
use Rattle.std.specs.List.{AllByRecursion}
use Rattle.std.proofs.lemmas.Bool.{true≢false}
use Rattle.std.proofs.lemmas.List.Elements.{recursion_from_All}
use Rattle.slot_types.specs.declared.events.Event.{Event}
use Rattle.slot_types.specs.declared.refusals.Refusal.{Refusal}
use Rattle.slot_types.specs.declared.replies.Reply.{Reply}
use Rattle.slot_types.specs.declared.replies.Reply.TheVariants.{Refused}
use Rattle.slot_types.specs.declared.plans.Times.{Times}
use Rattle.flash_die.specs.declared.nand.NandCall.{NandCall}
use Rattle.plan_rules.specs.Times.{Passes}
use Rattle.plan_rules.specs.Keeping.{KeepsPlan}
use Rattle.die_log.specs.Model.Log.{Log}
use Rattle.die_log.specs.Model.Start.{Start}
use Rattle.die_log.specs.Model.Opening.{IsOpening}
use Rattle.die_log.specs.Model.Answers.{answer, IsAccepted, IsExact}
use Rattle.die_log.specs.Results.InTime.{events_of_log}
use Rattle.die_log.specs.Results.Supply.{AreStocked}
use Rattle.die_log.proofs.Legality.{accepted_answer}
use Rattle.die_log.proofs.Supply.Unrefused.{unrefused, entered}
use Rattle.slot_core.specs.Core.{Core}
use Rattle.slot_core.specs.Calls.{IsAnswered, RefusesCall}
use Rattle.slot_core.specs.AcceptedRuns.{IsPlanned, FindsMemory, AreAcceptedUntilFault}
use Rattle.slot_core.proofs.Running.{Calls, Runs, by_reply}

not_refused : (start : Start) (log : Log) (event : Event) (r : Refusal) → IsAccepted (answer start log event) → answer start log event ≡ Refused r → ⊥
not_refused start log event r taken is = subst IsAccepted is taken

-- a moment of the run: the die runs, its log is exact, and with the events that are left its own keep the plan
record Continues {N : Type 0} (start : Start) (times : Times) (before : Core N) (rest : List Event) : Type 0 where
  start_is : before.start ≡ start
  runs : before.stopped ≡ false
  exact : IsExact start before.log
  keeps : KeepsPlan start.plan times (events_of_log before.log ++ rest)

-- one event further
further : {N : Type 0} (start : Start) (times : Times) (event : Event) (rest : List Event) (reply : Reply) (before between : Core N)
    → Continues start times before (event ∷ rest) → between.start ≡ before.start → IsAnswered 0 event reply before between
    → Continues start times between rest
further start times event rest reply before between c starts a = record {
  start_is = starts ∙ c.start_is;
  runs = a.runs;
  exact = subst (IsExact start) (sym a.logged)
      (c.exact, sym (subst (λ (s : Start). answer s before.log event ≡ reply) c.start_is a.answered), a.accepted);
  keeps = subst (λ l. KeepsPlan start.plan times (events_of_log l ++ rest)) (sym a.logged)
      (subst (KeepsPlan start.plan times) (sym (append_assoc (events_of_log before.log) (event ∷ []) rest)) c.keeps);
}

module _ {N : Type 0} (ends : N → NandCall → Bool → N → Type 0) (failures : N → ℕ) (never : Bool) (start : Start) (times : Times)
    (bound : IsOpening start) (passes : Passes start.plan times) (stocked : AreStocked start times) where
  continued : (all : List Event) (rs : List Reply) (before after : Core N) → Continues start times before all
      → Runs ends failures never before all rs after → AllByRecursion FindsMemory rs → AreAcceptedUntilFault rs
  continued [] [] before after c run found = tt
  continued [] (reply ∷ rs) before after c run found = absurd run
  continued (event ∷ rest) [] before after c run found = absurd run
  continued (event ∷ rest) (reply ∷ rs) before after c (between, call, run) found =
      by (by_reply ends failures never event reply before between call) (λ c. continued rest rs between after c run found.1)
    where
      taken : IsAccepted (answer before.start before.log event)
      taken = rw c.start_is (subst IsAccepted
          (sym (accepted_answer start before.log event (unrefused start times bound passes stocked before.log event rest c.exact c.keeps)))
          (entered start before.log 0 event).0)

      by_cause : (refusal : Refusal) → reply ≡ Refused refusal → RefusesCall event refusal before between → AreAcceptedUntilFault (reply ∷ rs)
      by_cause refusal is (inl h) = absurd (not_refused before.start before.log event refusal taken h.answered)
      by_cause refusal is (inr (inl h)) = absurd (found.0 (is ∙ ap Refused h.refusal_is))
      by_cause refusal is (inr (inr (inl h))) = inr (is ∙ ap Refused h.refusal_is)
      by_cause refusal is (inr (inr (inr h))) = absurd (true≢false (sym h.was_stopped ∙ c.runs))

      by : IsAnswered 0 event reply before between ⊎ ((refusal : Refusal) × (reply ≡ Refused refusal) × RefusesCall event refusal before between)
          → (Continues start times between rest → AreAcceptedUntilFault rs) → AreAcceptedUntilFault (reply ∷ rs)
      by (inl a) ih = inl (a.accepted, ih (further start times event rest reply before between c call.start_stays a))
      by (inr (refusal, is, h)) ih = by_cause refusal is h

pub accepted_until_fault : {N : Type 0} (ends : N → NandCall → Bool → N → Type 0) (failures : N → ℕ) (never : Bool) (before after : Core N)
    (all : List Event) (rs : List Reply) → IsOpening before.start → Runs ends failures never before all rs after
    → (times : Times) → IsPlanned times before all rs → AreStocked before.start times → AreAcceptedUntilFault rs
accepted_until_fault ends failures never before after all rs bound run times planned stocked =
    continued ends failures never before.start times bound planned.passes stocked all rs before after (record {
      start_is = refl;
      runs = planned.unused.runs;
      exact = subst (IsExact before.start) (sym planned.unused.empty) tt;
      keeps = subst (λ l. KeepsPlan before.start.plan times (events_of_log l ++ all)) (sym planned.unused.empty) planned.keeps;
    }) run (recursion_from_All FindsMemory rs planned.found)
