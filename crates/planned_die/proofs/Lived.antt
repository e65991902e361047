-- What a call leaves of a die that has had these lives.
use Rattle.std.proofs.Common.{◌≡◌, ℕ, ◌+◌, ◌<◌, ◌≤◌, Bool, List, [], ◌∷◌, ◌++◌, length, get_or, set, drop, refl, ap, sym, subst, ◌∙◌, arith, Ok}
use Rattle.std.proofs.lemmas.List.{length_push}
use Rattle.std.proofs.lemmas.List.Sums.{sum_by-cons}
use Rattle.slot_types.specs.declared.events.Op.{Op}
use Rattle.slot_types.specs.declared.events.Event.TheVariants as events
use Rattle.slot_types.specs.declared.replies.Reply.TheVariants as replies
use Rattle.slot_types.specs.declared.replies.SlotReply.{SlotReply}
use Rattle.slot_types.specs.Operations.{writes}
use Rattle.flash_die.specs.declared.nand.NandCall.{NandCall}
use Rattle.demand_rules.specs.Demand.{terms_of}
use Rattle.die_log.specs.Model.Log.{Log, now, carried_slots}
use Rattle.die_log.specs.Model.Start.{Start}
use Rattle.die_log.specs.Model.Lives.{Lives, all_slots}
use Rattle.slot_core.specs.Core.{Core}
use Rattle.slot_core.specs.Calls.{IsCall, HasEntered}
use Rattle.slot_core.specs.Renewals.{renewed_core}
use Rattle.planned_log.specs.Asks.{asked_job, asked_by}
use Rattle.planned_log.specs.Laws.{IsKept}
use Rattle.planned_log.proofs.Kept.{next_begins}
use Rattle.planned_die.specs.declared.memory.AskedJob.{AskedJob}
use Rattle.planned_die.specs.declared.task_asks.TaskAsks.{TaskAsks}
use Rattle.planned_die.specs.Remembered.{CountAs, IsKeptFor}
use Rattle.planned_die.specs.Planned.{Planned, HasLived}
use Rattle.planned_die.specs.PlannedCalls.{with_own}
use Rattle.planned_die.proofs.Counting.{ask_counts, run_asks, later_counts}

module _ {N : Type 0} (before : Planned N) (earlier : Lives) (h : HasLived before earlier) where
  -- a log in which no task asked for more, and that is no shorter
  pub moved : (core : Core N) (entered : ℕ) → core.start ≡ before.core.start → IsKept core.start before.terms earlier before.life entered core.log
      → now before.core.log ≤ now core.log → ((task : ℕ) → asked_by task (core.log ∷ earlier) ≡ asked_by task (before.core.log ∷ earlier))
      → HasLived (record before { core = core; entered = entered }) earlier
  moved core entered starts kept le same = record {
    kept = kept;
    began = h.began;
    counts = subst (λ (s : Start). CountAs s.plan before.terms (before.first + now core.log) before.asked (core.log ∷ earlier)) (sym starts)
        (later_counts before.core.start.plan before.terms (before.first + now before.core.log) (before.first + now core.log) before.asked
        (before.core.log ∷ earlier) (core.log ∷ earlier) (omega (arith, le)) same h.counts);
  }

  -- own collections
  pub own_lived : (caller from to : ℕ) (core : Core N) → core ≡ with_own caller before.terms before.core from to → now core.log ≡ now before.core.log
      → IsKept core.start before.terms earlier before.life to core.log → HasLived (record before { core = core; entered = to }) earlier
  own_lived caller from to core is slot kept =
      moved core to (ap (λ (c : Core N). c.start) is) kept (omega (arith, slot))
      (λ task. ap (λ (c : Core N). asked_by task (c.log ∷ earlier)) is
      ∙ run_asks before.core.start task (all_slots earlier) caller (now before.core.log) (asked_by task earlier) _ from before.core.log)

  -- an accepted ask
  pub ask_lived : (caller task number clock : ℕ) (ops : List Op) (core : Core N) (t : TaskAsks) (j : AskedJob) (asked : List (List AskedJob))
      → HasEntered caller (asked_job before.terms before.core.log task ops) number before.core core
      → IsKept core.start before.terms earlier before.life before.entered core.log
      → clock ≡ before.first + now before.core.log → IsKeptFor (terms_of before.terms task).period clock t
      → t.jobs.items ≡ get_or before.asked task [] → task < length before.asked
      → j ≡ record { at = clock; operations = length ops; writes = writes ops }
      → asked ≡ set before.asked task (drop t.passed t.jobs.items ++ j ∷ [])
      → HasLived (record before { core = core; asked = asked }) earlier
  ask_lived caller task number clock ops core t j asked entered kept clock_is sums jobs known is noted = record {
    kept = kept;
    began = h.began;
    counts = subst (λ (c : Core N). CountAs c.start.plan before.terms (before.first + now c.log) asked (c.log ∷ earlier)) (sym entered.logged)
        (subst (λ (l : List (List AskedJob)). CountAs before.core.start.plan before.terms (before.first + now before.core.log) l (log ∷ earlier)) (sym noted)
        (ask_counts before.core.start.plan before.terms caller task (now before.core.log + (terms_of before.terms task).deadline)
        (before.first + now before.core.log) ops (replies.Taken number) before.asked before.core.log earlier t j job_is
        (subst (λ n. IsKeptFor (terms_of before.terms task).period n t) clock_is sums) jobs known h.counts));
  }
    where
      log : Log
      log = record {
        caller = caller;
        event = asked_job before.terms before.core.log task ops;
        reply = replies.Taken number;
      } ∷ before.core.log

      job_is : j ≡ record { at = all_slots earlier + now before.core.log; operations = length ops; writes = writes ops }
      job_is = is ∙ ap (λ n. record { at = n; operations = length ops; writes = writes ops })
          (clock_is ∙ ap (λ n. n + now before.core.log) h.began)

  -- the next life
  pub next_lived : now before.core.log ≡ before.life → (core : Core N) (first : ℕ) → core ≡ renewed_core before.core
      → first ≡ before.first + now before.core.log
      → HasLived (record before { core = core; entered = 0; first = first }) (before.core.log ∷ earlier)
  next_lived ended core first is first_is = record {
    kept = subst (λ (c : Core N). IsKept c.start before.terms (before.core.log ∷ earlier) before.life 0 c.log) (sym is)
        (next_begins before.core.start before.terms earlier before.life before.entered before.core.log h.kept ended);
    began = first_is ∙ omega (arith, sum_by-cons now before.core.log earlier, h.began);
    counts = subst (λ (c : Core N). CountAs c.start.plan before.terms (first + now c.log) before.asked (c.log ∷ before.core.log ∷ earlier)) (sym is)
        (later_counts before.core.start.plan before.terms (before.first + now before.core.log) (first + 0) before.asked
        (before.core.log ∷ earlier) ([] ∷ before.core.log ∷ earlier) (omega (arith, first_is)) (λ task. refl) h.counts);
  }

  -- Slots

  module _ (ends : N → NandCall → Bool → N → Type 0) (failures : N → ℕ) (never : Bool) (caller : ℕ) (core : Core N) where
    pub slot_lived : (reply : SlotReply) → IsCall ends failures never caller events.Slot (Ok (replies.Slot reply)) before.core core
        → IsKept core.start before.terms earlier before.life 0 core.log → HasLived (record before { core = core; entered = 0 }) earlier
    slot_lived reply call kept =
        moved core 0 call.start_stays kept
        (omega (arith, ap now call.ended.logged, length_push (carried_slots before.core.log) reply.ran))
        (λ task. ap (λ (l : Log). asked_by task (l ∷ earlier)) call.ended.logged)
