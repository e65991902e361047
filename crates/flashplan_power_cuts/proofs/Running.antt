-- What a slot or a row is to a die on a part, as one that runs the rows of a script, and to what is noted of its writes.
use Rattle.std.proofs.Common.{◌≡◌, ◌⊎◌, ℕ, ◌+◌, List, ◌++◌, Some, None, Result, ap, ◌∙◌, sym, subst, inl, inr, false, true, refl}
use Rattle.std.specs.Prelude.{IfSome}
use Rattle.std.proofs.lemmas.List.{append-nil, length_push}
use Rattle.slot_types.specs.Arrivals.{IsArrival}
use Rattle.slot_types.specs.declared.events.Event.{Event}
use Rattle.slot_types.specs.declared.events.Event.TheVariants as events
use Rattle.slot_types.specs.declared.pages.PageData.{PageData}
use Rattle.slot_types.specs.declared.refusals.Refusal.{Refusal}
use Rattle.slot_types.specs.declared.refusals.Refusal.TheVariants as refuses
use Rattle.slot_types.specs.declared.replies.Reply.{Reply}
use Rattle.slot_types.specs.declared.replies.Reply.TheVariants as replies
use Rattle.slot_types.specs.declared.replies.SlotReply.{SlotReply}
use Rattle.die_log.specs.Model.Answers.{answer, IsAccepted}
use Rattle.die_log.specs.Model.Log.{Log, now, carried_slots}
use Rattle.die_log.specs.Model.Start.{Start}
use Rattle.slot_core.specs.Calls.{HasEntered, RefusesCall}
use Rattle.slot_core.specs.Core.{Core, with_entry}
use Rattle.stepped_die.specs.Steps.{HasBegun, HasEnded, HasFailed}
use Rattle.stepped_die.specs.Stepped.{Stepped}
use Rattle.stepped_die.specs.declared.calls.Begun.{Begun}
use Rattle.stepped_die.specs.declared.refusals.StepRefusal.{StepRefusal}
use Rattle.stepped_die.specs.declared.refusals.StepRefusal.TheVariants as steps
use Rattle.flashplan_script_runs.specs.RunningDies.{Accepts, CarriesSlot, RefusesSlot, RunningDie, running_of as core_running}
use Rattle.flashplan_script_runs.proofs.Calls.{not_both}
use Rattle.flashplan_power_cuts.specs.declared.cut_dies.Ended.{Ended}
use Rattle.flashplan_power_cuts.specs.declared.cut_dies.Ended.TheVariants as ends
use Rattle.flashplan_power_cuts.specs.declared.page_writes.PageWrite.{PageWrite}
use Rattle.flashplan_power_cuts.specs.CutDies.{AsksDie, Cutting, EndsNoting, EndsSlot, IsCutting, StopsSlot, has_stopped, refusal_by, running_of}
use Rattle.flashplan_power_cuts.specs.Writes.{listed, write_in, writes_of}

-- One slot

counted : (past log : Log) (reply : SlotReply) → log ≡ with_entry 0 events.Slot (replies.Slot reply) past → now log ≡ now past + 1
counted past log reply logged = ap now logged ∙ length_push (carried_slots past) reply.ran

accepts : (start : Start) (past log : Log) (event : Event) (reply : Reply) → answer start past event ≡ reply → IsAccepted reply
    → log ≡ with_entry 0 event reply past → Accepts start past event log
accepts start past log event reply is taken logged =
    (subst IsAccepted (sym is) taken, logged ∙ ap (λ (r : Reply). with_entry 0 event r past) (sym is))

-- a slot that ended is one that was carried out, and what it wrote goes on with the log
pub ends_noting : (bytes : PageData) (reply : SlotReply) (before after : Stepped) (noted now_noted : List PageWrite)
    → HasEnded true bytes reply before after → IfSome before.begun (λ begun. begun.caller ≡ 0)
    → now_noted ≡ noted ++ listed (write_in reply.ran) → EndsNoting (core_running before.core) noted (core_running after.core) now_noted
ends_noting bytes reply before after noted now_noted ended called more =
    let zero : ended.begun.caller ≡ 0 = rw ended.held at called in
    let logged : after.core.log ≡ with_entry 0 events.Slot (replies.Slot reply) before.core.log =
    ended.carried.logged ∙ ap (λ (n : ℕ). with_entry n events.Slot (replies.Slot reply) before.core.log) zero in
    record {
      carried = record {
        start_stays = ended.start_stays;
        ran = ended.carried.ran;
        runs = ended.carried.runs;
        accepted = accepts before.core.start before.core.log after.core.log events.Slot (replies.Slot reply) ended.carried.answered
            ended.carried.accepted logged;
        counted = counted before.core.log after.core.log reply logged;
      };
      more = λ are. more ∙ (ap (λ (ws : List PageWrite). ws ++ listed (write_in reply.ran)) are ∙ sym (ap writes_of logged));
    }

-- one whose write found no memory
pub unnoted : (bytes : PageData) (reply : SlotReply) (before after : Stepped) (noted now_noted : List PageWrite)
    → HasEnded true bytes reply before after → StopsSlot ends.NoMemory (core_running before.core) noted (core_running after.core) now_noted
unnoted bytes reply before after noted now_noted ended = record {
  start_stays = ended.start_stays;
  log_stays = λ not. absurd (not refl);
  noted_stay = λ not. absurd (not refl);
  runs = λ _. ended.carried.runs;
}

-- one whose read gave other bytes
pub misreads : (bytes : PageData) (refusal : StepRefusal) (before after : Stepped) (noted : List PageWrite)
    → (refusal ≡ steps.Die refuses.DeviceFault → HasFailed true bytes before after)
    → ((refusal ≡ steps.Die refuses.DeviceFault)
    ⊎ (((refusal ≡ steps.Die refuses.DieStopped) ⊎ (refusal ≡ steps.NotBegun)) × (after ≡ before)))
    → StopsSlot ends.Misread (core_running before.core) noted (core_running after.core) noted
misreads bytes refusal before after noted failed (inl is) = record {
  start_stays = ap (λ (d : Stepped). d.core.start) (failed is).stops;
  log_stays = λ _. ap (λ (d : Stepped). d.core.log) (failed is).stops;
  noted_stay = λ _. refl;
  runs = λ not. absurd (not refl);
}
misreads bytes refusal before after noted failed (inr other) = record {
  start_stays = ap (λ (d : Stepped). d.core.start) other.1;
  log_stays = λ _. ap (λ (d : Stepped). d.core.log) other.1;
  noted_stay = λ _. refl;
  runs = λ not. absurd (not refl);
}

-- that it was begun is no more than that memory is reserved
begun_is : (begun : Begun) (before mid : Stepped) → HasBegun 0 begun before mid → core_running mid.core ≡ core_running before.core
begun_is begun before mid begins = ap (λ (d : Stepped). core_running d.core) begins.begins

pub from_begun : {A : Type 0} (result : Result A Ended) (begun : Begun) (before mid : Stepped) (after : RunningDie)
    (noted held now_noted : List PageWrite) → HasBegun 0 begun before mid → held ≡ noted
    → EndsSlot result (core_running mid.core) held after now_noted → EndsSlot result (core_running before.core) noted after now_noted
from_begun result begun before mid after noted held now_noted begins same ended =
    subst (λ (r : RunningDie). EndsSlot result r noted after now_noted) (begun_is begun before mid begins)
    (subst (λ (ws : List PageWrite). EndsSlot result (core_running mid.core) ws after now_noted) same ended)

pub stops_begun : (ended : Ended) (begun : Begun) (before mid : Stepped) (noted now_noted : List PageWrite) → HasBegun 0 begun before mid
    → now_noted ≡ noted → StopsSlot ended (core_running before.core) noted (core_running mid.core) now_noted
stops_begun ended begun before mid noted now_noted begins same = record {
  start_stays = ap (λ (r : RunningDie). r.start) (begun_is begun before mid begins);
  log_stays = λ _. ap (λ (r : RunningDie). r.log) (begun_is begun before mid begins);
  noted_stay = λ _. same;
  runs = λ _. ap (λ (r : RunningDie). r.stopped) (begun_is begun before mid begins) ∙ begins.runs;
}

pub stops_unbegun : (ended : Ended) (before after : Stepped) (noted : List PageWrite) → after ≡ before → before.core.stopped ≡ false
    → StopsSlot ended (core_running before.core) noted (core_running after.core) noted
stops_unbegun ended before after noted same ran = record {
  start_stays = ap (λ (d : Stepped). d.core.start) same;
  log_stays = λ _. ap (λ (d : Stepped). d.core.log) same;
  noted_stay = λ _. refl;
  runs = λ _. ap (λ (d : Stepped). d.core.stopped) same ∙ ran;
}

-- What stands of a die on a part

pub cutting_on : (old new : Cutting) → IsCutting old → old.ended ≡ None → new.ended ≡ None
    → EndsNoting (core_running old.die.core) old.writes (core_running new.die.core) new.writes → new.die.begun ≡ None → IsCutting new
cutting_on old new is ran runs ends idle = record {
  idle = λ _. idle;
  runs = λ _. ends.carried.runs;
  writes = λ _. ends.more (is.writes (λ other. absurd cc));
}

pub cutting_stops : (old new : Cutting) (ended : Ended) → IsCutting old → old.ended ≡ None → new.ended ≡ Some ended
    → StopsSlot ended (core_running old.die.core) old.writes (core_running new.die.core) new.writes → IsCutting new
cutting_stops old new ended is ran now stops = record {
  idle = λ none. absurd cc;
  runs = λ not. stops.runs (λ (e : ended ≡ ends.Misread). not (now ∙ ap Some e));
  writes = λ not.
      let free : ended ≡ ends.NoMemory → ⊥ = λ (e : ended ≡ ends.NoMemory). not (now ∙ ap Some e) in
      stops.noted_stay free ∙ (is.writes (λ other. absurd cc) ∙ sym (ap writes_of (stops.log_stays free)));
}

-- As one that runs rows

pub carries : (old new : Cutting) → CarriesSlot (core_running old.die.core) (core_running new.die.core) → old.ended ≡ None
    → new.ended ≡ None → CarriesSlot (running_of old) (running_of new)
carries old new carried ran runs = record {
  start_stays = carried.start_stays;
  ran = ap has_stopped ran;
  runs = ap has_stopped runs;
  accepted = carried.accepted;
  counted = carried.counted;
}

for_memory : (ended : Ended) → has_stopped (Some ended) ≡ false → refusal_by ended ≡ refuses.NoMemory
for_memory (ends.Cut call) up = absurd cc
for_memory (ends.Misused misuse) up = absurd cc
for_memory ends.Misread up = absurd cc
for_memory ends.NoMemory up = refl

not_for_memory : (ended : Ended) → has_stopped (Some ended) ≡ true → ended ≡ ends.NoMemory → ⊥
not_for_memory ended stops is = let runs : has_stopped (Some ended) ≡ false = ap (λ (e : Ended). has_stopped (Some e)) is in not_both _ runs stops

pub refuses_now : (old new : Cutting) (ended : Ended) (noted now_noted : List PageWrite)
    → StopsSlot ended (core_running old.die.core) noted (core_running new.die.core) now_noted → old.ended ≡ None → new.ended ≡ Some ended
    → RefusesSlot (refusal_by ended) (running_of old) (running_of new)
refuses_now old new ended noted now_noted stops ran is = record {
  start_stays = stops.start_stays;
  memory = λ up. for_memory ended (sym (ap has_stopped is) ∙ up);
  log_stays = λ down. stops.log_stays (not_for_memory ended (sym (ap has_stopped is) ∙ down));
  stays = λ down. not_both (has_stopped old.ended) (ap has_stopped ran) down;
}

-- one that ended before stays as it is
pub refuses_still : (d : Cutting) (ended : Ended) → d.ended ≡ Some ended → RefusesSlot (refusal_by ended) (running_of d) (running_of d)
refuses_still d ended is = record {
  start_stays = refl;
  memory = λ up. for_memory ended (sym (ap has_stopped is) ∙ up);
  log_stays = λ _. refl;
  stays = λ _. refl;
}

-- One row

module _ {N : Type 0} where
  pub enters : (event : Event) (number : ℕ) (before after : Core N) → before.stopped ≡ false → HasEntered 0 event number before after
      → AsksDie event None before after
  enters event number before after ran entered =
      let logged : after.log ≡ with_entry 0 event (replies.Taken number) before.log = ap (λ (c : Core N). c.log) entered.logged in record {
        asked = record {
          start_stays = ap (λ (c : Core N). c.start) entered.logged;
          stopped_stays = ap (λ (c : Core N). c.stopped) entered.logged;
          ended = λ _. accepts before.start before.log after.log event (replies.Taken number) entered.answered tt logged;
          refused = λ down. not_both before.stopped ran down;
        };
        writes = ap writes_of logged ∙ append-nil (writes_of before.log);
      }

  pub refuses_row : (event : Event) (refusal : Refusal) (before after : Core N) → IsArrival event → before.stopped ≡ false
      → RefusesCall event refusal before after → AsksDie event (Some refusal) before after
  refuses_row event refusal before after arrives ran call = by call
    where
      by : RefusesCall event refusal before after → AsksDie event (Some refusal) before after
      by (inl h) = record {
        asked = record {
          start_stays = ap (λ (c : Core N). c.start) h.unchanged;
          stopped_stays = ap (λ (c : Core N). c.stopped) h.unchanged;
          ended = λ _. (inl h.answered, ap (λ (c : Core N). c.log) h.unchanged);
          refused = λ down. not_both before.stopped ran down;
        };
        writes = ap (λ (c : Core N). writes_of c.log) h.unchanged;
      }
      by (inr (inl h)) = record {
        asked = record {
          start_stays = ap (λ (c : Core N). c.start) h.unchanged;
          stopped_stays = ap (λ (c : Core N). c.stopped) h.unchanged;
          ended = λ _. (inr (h.accepted, h.refusal_is), ap (λ (c : Core N). c.log) h.unchanged);
          refused = λ down. not_both before.stopped ran down;
        };
        writes = ap (λ (c : Core N). writes_of c.log) h.unchanged;
      }
      by (inr (inr (inl h))) = absurd (subst IsArrival h.slot arrives)
      by (inr (inr (inr h))) = not_both before.stopped ran h.was_stopped
