-- A request in the book of a shared die.
use Rattle.std.proofs.Common.{◌≡◌, ◌≢◌, Option, IsSomeAnd, IfOk, OnOk, OnErr, ap, ℕ, ◌<◌, Bool, List, [], ◌∷◌, ◌++◌, length, Result, Ok, Err, sym, subst, ◌∙◌, arith}
use Rattle.std.proofs.lemmas.List.{length_push}
use Rattle.slot_types.specs.declared.events.Op.{Op}
use Rattle.slot_types.specs.declared.replies.SlotReply.{SlotReply}
use Rattle.flash_die.specs.declared.nand.NandCall.{NandCall}
use Rattle.demand_rules.specs.declared.terms.Terms.{Terms}
use Rattle.die_log.specs.Model.Start.{Start}
use Rattle.planned_log.specs.declared.ask_kinds.AskKind.{AskKind}
use Rattle.ongoing_log.specs.Ongoing.{Ongoing}
use Rattle.turn_lock.specs.Log.{entry}
use Rattle.ongoing_die.specs.declared.answers.Taken.{Taken}
use Rattle.ongoing_die.specs.declared.refusals.AskAtStop.{AskAtStop}
use Rattle.ongoing_die.specs.declared.refusals.AskStop.{AskStop}
use Rattle.ongoing_die.specs.declared.refusals.SlotStop.{SlotStop}
use Rattle.ongoing_die.specs.Standing.{OngoingParts, StandsAs}
use Rattle.ongoing_die.specs.OngoingCalls.{IsOngoingAsk, IsOngoingAskAt, IsOngoingSlot, HaveOnePlan}
use Rattle.task_outcomes.specs.declared.task_outcome.TaskOutcome.{TaskOutcome}
use Rattle.task_outcomes.specs.Queues.{Queue, first_of, with_taken}
use Rattle.task_outcomes.specs.OutcomeDies.{OutcomeParts, HasTold}
use Rattle.task_outcomes.specs.OutcomeMoves.{Told}
use Rattle.planned_ports.specs.declared.calls.Request.{Request}
use Rattle.planned_ports.specs.declared.calls.Request.TheVariants as requests
use Rattle.planned_ports.specs.declared.calls.Granted.{Granted}
use Rattle.planned_ports.specs.declared.calls.Refused.{Refused}
use Rattle.planned_ports.specs.Calls.{PortCall, after_calls}
use Rattle.planned_ports.specs.Replies.{IsReply, after_reply, opened_as}
use Rattle.planned_ports.specs.Shared.{SharedDie, IsSharedDie}
use Rattle.planned_ports.proofs.Carrying.{of_ask, of_ask_at, of_slot, of_take, IsLeft, ask_reply, ask_leaves, ask_at_reply, ask_at_leaves, take_reply, take_leaves, slot_reply, slot_leaves}
use Rattle.planned_ports.proofs.Growing.{after_one_more, granted_one_more}

-- how the die answers a request, and what it leaves
pub record Answers {N : Type 0} (caller : ℕ) (request : Request) (result : Result Granted Refused) (before after : OutcomeParts N) : Type 0 where
  pub reply : (first : Start) (d : Ongoing) → StandsAs first d before.die
      → IsReply N first before.die.die.terms before.die.die.life (opened_as before d) caller request result
  pub leaves : (first : Start) (d : Ongoing) → StandsAs first d before.die
      → IsLeft first (after_reply first before.die.die.terms before.die.die.life (opened_as before d) caller request result) after
  pub plan : HaveOnePlan before.die after.die

module _ {N : Type 0} (caller : ℕ) (before after : OutcomeParts N) where
  pub ask_answers : HaveOnePlan before.die after.die → (kind : AskKind) (task : ℕ) (ops : List Op) (result : Result Taken AskStop)
      → ((first : Start) (d : Ongoing) → StandsAs first d before.die → IsOngoingAsk kind caller task ops first d result before.die after.die)
      → after.queues ≡ before.queues → Answers caller (requests.Ask kind task ops) (of_ask result) before after
  ask_answers plan kind task ops result h same = record {
    reply = λ first d s. ask_reply caller first d before after s kind task ops same result (h first d s);
    leaves = λ first d s. ask_leaves caller first d before after s kind task ops same result (h first d s);
    plan = plan;
  }

  pub ask_at_answers : HaveOnePlan before.die after.die → (kind : AskKind) (task : ℕ) (ops : List Op) (at : ℕ) (result : Result Taken AskAtStop)
      → ((first : Start) (d : Ongoing) → StandsAs first d before.die → IsOngoingAskAt kind caller task ops at first d result before.die after.die)
      → after.queues ≡ before.queues → Answers caller (requests.AskAt kind task ops at) (of_ask_at result) before after
  ask_at_answers plan kind task ops at result h same = record {
    reply = λ first d s. ask_at_reply caller first d before after s kind task ops at same result (h first d s);
    leaves = λ first d s. ask_at_leaves caller first d before after s kind task ops at same result (h first d s);
    plan = plan;
  }

  pub slot_answers : HaveOnePlan before.die after.die → (ends : N → NandCall → Bool → N → Type 0) (failures : N → ℕ) (never : Bool)
      (result : Result SlotReply SlotStop)
      → ((first : Start) (d : Ongoing) → StandsAs first d before.die → IsOngoingSlot ends failures never caller first d result before.die after.die)
      → OnOk result (HasTold caller before after) → OnErr result (after.queues ≡ before.queues)
      → Answers caller requests.Slot (of_slot result) before after
  slot_answers plan ends failures never result h told kept = record {
    reply = λ first d s. slot_reply caller first d before after s ends failures never result (h first d s);
    leaves = λ first d s. slot_leaves caller first d before after s ends failures never result (h first d s) told kept;
    plan = plan;
  }

  pub take_answers : {E : Type 0} → after.die ≡ before.die → (task : ℕ) (result : Result (Option TaskOutcome) E)
      → IfOk result (λ outcome. first_of before.queues task ≡ outcome) → OnOk result (after.queues ≡ with_taken before.queues task)
      → OnErr result (IsSomeAnd (first_of before.queues task) (λ o. o.reads ≢ [])) → OnErr result (after.queues ≡ before.queues)
      → Answers caller (requests.Outcome task) (of_take result) before after
  take_answers same task result is left gave kept = record {
    reply = λ first d s. take_reply caller first d before after s task same result is gave;
    leaves = λ first d s. take_leaves caller first d before after s task same result is left kept;
    plan = record { terms = ap (λ (p : OngoingParts N). p.die.terms) same; life = ap (λ (p : OngoingParts N). p.die.life) same };
  }

module _ {N : Type 0} (shared : SharedDie N) (is : IsSharedDie shared) (caller : ℕ) (request : Request) (after : OutcomeParts N) where
  abbrev opened : OutcomeParts N
  opened = shared.opened

  abbrev calls : List PortCall
  calls = shared.calls

  abbrev terms : Terms
  terms = opened.die.die.terms

  abbrev life : ℕ
  life = opened.die.die.life

  module _ (result : Result Granted Refused) (h : Answers caller request result shared.die after) where
    -- what stands after the calls is answered so
    pub replied : (first : Start) (d : Ongoing) → StandsAs first d opened.die
        → IsReply N first terms life (after_calls first terms life (opened_as opened d) calls) caller request result
    replied first d s =
        let there : Told = after_calls first terms life (opened_as opened d) calls in
        let m = is.moved first d s in
        subst (λ n. IsReply N first terms n there caller request result) is.plan.life
        (subst (λ (t : Terms). IsReply N first t shared.die.die.die.life there caller request result) is.plan.terms
        (subst (λ (qs : List Queue). IsReply N first shared.die.die.die.terms shared.die.die.die.life
        (record { ongoing = there.ongoing; queues = qs }) caller request result) (sym m.1) (h.reply first there.ongoing m.0)))

    moved_on : (first : Start) (d : Ongoing) → StandsAs first d opened.die
        → IsLeft first (after_reply first terms life (after_calls first terms life (opened_as opened d) calls) caller request result) after
    moved_on first d s =
        let there : Told = after_calls first terms life (opened_as opened d) calls in
        let m = is.moved first d s in
        subst (λ n. IsLeft first (after_reply first terms n there caller request result) after) is.plan.life
        (subst (λ (t : Terms). IsLeft first (after_reply first t shared.die.die.die.life there caller request result) after) is.plan.terms
        (subst (λ (qs : List Queue). IsLeft first (after_reply first shared.die.die.die.terms shared.die.die.die.life
        (record { ongoing = there.ongoing; queues = qs }) caller request result) after) (sym m.1) (h.leaves first there.ongoing m.0)))

    one_plan : HaveOnePlan opened.die after.die
    one_plan = record { terms = h.plan.terms ∙ is.plan.terms; life = h.plan.life ∙ is.plan.life }

  pub with_entry : (answer : Granted) → Answers caller request (Ok answer) shared.die after → length calls < 4294967295
      → IsSharedDie (record { opened = opened; calls = calls ++ entry caller request (Ok answer) ∷ []; die = after })
  with_entry answer h room = record {
    log = record {
      is_die = is.log.is_die;
      granted = λ first d s. granted_one_more first terms life (opened_as opened d) calls (entry caller request (Ok answer)) (is.log.granted first d s)
          (replied (Ok answer) h first d s);
    };
    moved = λ first d s. subst (λ (x : Told). IsLeft first x after)
        (sym (after_one_more first terms life (opened_as opened d) calls (entry caller request (Ok answer)))) (moved_on (Ok answer) h first d s);
    plan = one_plan (Ok answer) h;
    few = omega (arith, room, length_push calls (entry caller request (Ok answer)));
  }

  pub without_entry : (refusal : Refused) → Answers caller request (Err refusal) shared.die after
      → IsSharedDie (record { opened = opened; calls = calls; die = after })
  without_entry refusal h = record {
    log = is.log;
    moved = moved_on (Err refusal) h;
    plan = one_plan (Err refusal) h;
    few = is.few;
  }
