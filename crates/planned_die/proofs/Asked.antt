-- What a die answers an ask, by what it remembers, is what its lives say; and what an ask leaves that the plan doesn't refuse.
use Rattle.std.proofs.Common.{◌≡◌, ℕ, ◌+◌, ◌<◌, ◌≤◌, false, Bool, List, [], ◌∷◌, ◌++◌, length, get_or, set, map, drop, refl, ap, sym, subst, ◌∙◌, arith}
use Rattle.std.proofs.Common.{Option, None, Ok, Err}
use Rattle.std.specs.Prelude.{All}
use Rattle.std.proofs.lemmas.List.{get_or-map, length-map, length-set}
use Rattle.std.proofs.lemmas.List.Elements.{All-push, All-drop, All-set}
use Rattle.slot_types.specs.declared.events.Op.{Op}
use Rattle.slot_types.specs.declared.events.Event.{Event}
use Rattle.slot_types.specs.declared.events.Event.TheVariants as events
use Rattle.slot_types.specs.declared.plans.DiePlan.{DiePlan}
use Rattle.slot_types.specs.declared.refusals.Refusal.{Refusal}
use Rattle.slot_types.specs.declared.replies.Reply.TheVariants as replies
use Rattle.slot_types.specs.Operations.{writes}
use Rattle.flash_die.specs.declared.nand.NandCall.{NandCall}
use Rattle.demand_rules.specs.Demand.{terms_of}
use Rattle.die_log.specs.Model.Log.{now}
use Rattle.die_log.specs.Model.Start.{Start}
use Rattle.die_log.specs.Model.Lives.{Lives, all_slots}
use Rattle.slot_core.specs.Core.{Core}
use Rattle.slot_core.specs.Calls.{IsCall}
use Rattle.planned_log.specs.declared.refusals.AskRefusal.{AskRefusal}
use Rattle.planned_log.specs.Asks.{asked_by, most_operations, refusals_above, ask_refusals, first_refusal}
use Rattle.planned_die.specs.declared.memory.AskedJob.{AskedJob}
use Rattle.planned_die.specs.declared.task_asks.TaskAsks.{TaskAsks}
use Rattle.planned_die.specs.Remembered.{own_asks, jobs_of, AreKept}
use Rattle.planned_die.specs.Planned.{Planned, HasLived, IsPlanned}
use Rattle.planned_die.specs.PlannedCalls.{refusal_in, HasAsked}
use Rattle.planned_die.proofs.Passing.{kept_later}
use Rattle.planned_die.proofs.Counting.{refused_alike}
use Rattle.planned_die.proofs.Cores.{ask_entered, ask_keeps, ask_stands, ask_reserved}
use Rattle.planned_die.proofs.Lived.{ask_lived}

-- the answer by what is remembered is the one by the lives, to an ask or a burst of at most `most` operations
pub refusal_above : {N : Type 0} (most : ℕ) (die : Planned N) (earlier : Lives) → HasLived die earlier → (plan : DiePlan) (slot : ℕ)
    (jobs : List (List AskedJob)) (task : ℕ) (ops : List Op) (o : Option AskRefusal)
    → o ≡ first_refusal (refusals_above most plan die.terms die.life die.first slot (own_asks task jobs) task ops)
    → plan ≡ die.core.start.plan → slot ≡ now die.core.log → jobs ≡ die.asked
    → o ≡ first_refusal (refusals_above most die.core.start.plan die.terms die.life (all_slots earlier) (now die.core.log)
    (asked_by task (die.core.log ∷ earlier)) task ops)
refusal_above most die earlier h plan slot jobs task ops o is plan_is slot_is jobs_is =
    is
    ∙ (ap (λ (p : DiePlan). first_refusal (refusals_above most p die.terms die.life die.first slot (own_asks task jobs) task ops)) plan_is
    ∙ (ap (λ n. first_refusal (refusals_above most die.core.start.plan die.terms die.life die.first n (own_asks task jobs) task ops)) slot_is
    ∙ (ap (λ (l : List (List AskedJob)). first_refusal (refusals_above most die.core.start.plan die.terms die.life die.first (now die.core.log) (own_asks task l)
    task ops)) jobs_is
    ∙ (refused_alike most die.core.start.plan die.terms die.life die.first (now die.core.log) (own_asks task die.asked)
    (asked_by task (die.core.log ∷ earlier)) task ops (λ lt. h.counts task (die.first + now die.core.log) lt (omega arith))
    ∙ ap (λ n. first_refusal (refusals_above most die.core.start.plan die.terms die.life n (now die.core.log) (asked_by task (die.core.log ∷ earlier)) task
    ops)) h.began))))

-- of an ask
pub refusal_is : {N : Type 0} (die : Planned N) (earlier : Lives) → HasLived die earlier → (plan : DiePlan) (slot : ℕ) (jobs : List (List AskedJob)) (task : ℕ)
    (ops : List Op) (o : Option AskRefusal)
    → o ≡ first_refusal (ask_refusals plan die.terms die.life die.first slot (own_asks task jobs) task ops)
    → plan ≡ die.core.start.plan → slot ≡ now die.core.log → jobs ≡ die.asked
    → o ≡ refusal_in die earlier task ops
refusal_is die earlier h plan slot jobs task ops o = refusal_above (most_operations (terms_of die.terms task)) die earlier h plan slot jobs task ops o

-- what was passed by, and memory, change nothing of what contracts see
pub asked_same : {N : Type 0} (die : Planned N) (asked : List (List AskedJob)) → asked ≡ die.asked → record die { asked = asked } ≡ die
asked_same die asked is = ap (λ (l : List (List AskedJob)). record die { asked = l }) is

-- The plan doesn't refuse the ask, which comes in this slot and is due `deadline` slots later, whatever lives the die
-- has had.
pub record IsUnrefused {N : Type 0} (die : Planned N) (task slot deadline : ℕ) (ops : List Op) : Type 0 where
  pub runs : die.core.stopped ≡ false
  pub none : (earlier : Lives) → HasLived die earlier → refusal_in die earlier task ops ≡ None
  pub present : slot ≡ now die.core.log
  pub terms : deadline ≡ (terms_of die.terms task).deadline
  pub some : 1 ≤ length ops

module _ {N : Type 0} (ends : N → NandCall → Bool → N → Type 0) (failures : N → ℕ) (never : Bool) (die : Planned N) (caller task slot deadline : ℕ)
    (ops : List Op) (u : IsUnrefused die task slot deadline ops) (after : Core N) (asked : List (List AskedJob)) where
  abbrev entry : Event
  entry = events.Submit task slot (slot + deadline) ops

  abbrev next : Planned N
  next = record die { core = after; asked = asked }

  -- it is accepted
  module _ (number : ℕ) (call : IsCall ends failures never caller entry (Ok (replies.Taken number)) die.core after) where
    pub has_asked : (earlier : Lives) → HasLived die earlier → HasAsked caller task ops earlier number die next
    has_asked earlier h = record {
      ran = u.runs;
      unrefused = u.none earlier h;
      entered = ask_entered ends failures never die.core after die.terms earlier die.life die.entered caller task slot deadline ops h.kept u.runs
          (u.none earlier h) u.present u.terms number call;
      stays = refl;
    }

    -- and its job is noted
    module _ (kept : List TaskAsks) (same : map jobs_of kept ≡ die.asked) (clock : ℕ) (clock_is : clock ≡ die.first + now die.core.log)
        (sums : AreKept die.terms clock kept) (known : task < length kept) (d : TaskAsks) (j : AskedJob)
        (job_is : j ≡ record { at = clock; operations = length ops; writes = writes ops })
        (noted : asked ≡ set die.asked task (drop (get_or kept task d).passed (get_or kept task d).jobs.items ++ j ∷ [])) where
      abbrev t : TaskAsks
      t = get_or kept task d

      known_here : task < length die.asked
      known_here = omega (arith, known, length-map kept jobs_of, ap length same)

      jobs_are : t.jobs.items ≡ get_or die.asked task []
      jobs_are = sym (get_or-map jobs_of kept task d [] known) ∙ ap (λ l. get_or l task []) same

      pub asked_lived : (earlier : Lives) → HasLived die earlier → HasLived next earlier
      asked_lived earlier h = ask_lived die earlier h caller task number clock ops after t j asked (has_asked earlier h).entered
          (ask_keeps ends failures never die.core after die.terms earlier die.life die.entered caller task slot deadline ops h.kept u.runs
          (u.none earlier h) u.present u.terms number call)
          clock_is (sums task d known) jobs_are known_here job_is noted

      early_now : IsPlanned die → All (λ (k : AskedJob). k.at ≤ 4611686018427387904) (drop t.passed t.jobs.items ++ j ∷ [])
      early_now p = All-push (λ (k : AskedJob). k.at ≤ 4611686018427387904) (drop t.passed t.jobs.items) j
          (All-drop (λ (k : AskedJob). k.at ≤ 4611686018427387904) t.passed t.jobs.items
          (subst (All (λ (k : AskedJob). k.at ≤ 4611686018427387904)) (sym jobs_are) (p.asked_early task [] known_here)))
          (omega (arith, ap (λ (k : AskedJob). k.at) job_is, clock_is, p.early, p.lived.kept.kept.within, p.lived.kept.is_life.within))

      pub asked_planned : IsPlanned die → IsPlanned next
      asked_planned p = record {
        reserved = ask_reserved ends failures never die.core after die.terms p.earlier die.life die.entered caller task slot deadline ops
            p.lived.kept u.runs (u.none p.earlier p.lived) u.present u.terms number u.some p.reserved call;
        earlier = p.earlier;
        lived = asked_lived p.earlier p.lived;
        early = p.early;
        asked_early = rw noted (All-set (All (λ (k : AskedJob). k.at ≤ 4611686018427387904)) die.asked task
            (drop t.passed t.jobs.items ++ j ∷ []) (early_now p) p.asked_early);
        one_each = rw noted (length-set die.asked task (drop t.passed t.jobs.items ++ j ∷ []))
            ∙ (p.one_each ∙ ap (λ (s : Start). length s.plan.caps) (sym call.start_stays));
      }

      pub asked_kept : IsPlanned die → (xs : List TaskAsks) → AreKept die.terms j.at xs → AreKept die.terms (die.first + now after.log) xs
      asked_kept p xs sums_now = kept_later die.terms j.at (die.first + now after.log) xs
          (omega (arith, ap (λ (k : AskedJob). k.at) job_is, clock_is, ap (λ (core : Core N). now core.log) (has_asked p.earlier p.lived).entered.logged))
          sums_now

      -- in the same slot
      pub asked_now : IsPlanned die → now after.log ≡ now die.core.log
      asked_now p = ap (λ (core : Core N). now core.log) (has_asked p.earlier p.lived).entered.logged

  -- it is never refused
  pub asked_stands : (r : Refusal) → IsPlanned die → IsCall ends failures never caller entry (Err r) die.core after → ⊥
  asked_stands r p call =
      ask_stands ends failures never die.core after die.terms p.earlier die.life die.entered caller task slot deadline ops p.lived.kept u.runs
      (u.none p.earlier p.lived) u.present u.terms r u.some p.reserved call

-- any of a list that has some
pub some_of : (xs : List TaskAsks) → 0 < length xs → TaskAsks
some_of [] lt = absurd (omega (arith, lt))
some_of (x ∷ xs) lt = x
