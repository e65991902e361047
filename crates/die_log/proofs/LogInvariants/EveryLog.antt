-- What stands of every exact log.
use Rattle.std.proofs.Common.{◌≡◌, ◌⊎◌, ℕ, ◌<◌, true, false, List, [], ◌∷◌, ◌++◌, Option, Some, None, refl, ap, sym, ◌∙◌, subst, inl, inr}
use Rattle.std.proofs.Common.{arith, length, slice_get}
use Rattle.std.specs.Prelude.{Contains}
use Rattle.std.proofs.lemmas.Bool.{and_parts, not-true, cases_eq}
use Rattle.std.proofs.lemmas.Option.{slice_get_within}
use Rattle.std.proofs.lemmas.List.{length_push}
use Rattle.std.proofs.lemmas.List.Elements.{Contains-append_left, Contains-push_cases}
use Rattle.slot_types.specs.declared.plans.DiePlan.{DiePlan}
use Rattle.slot_types.specs.declared.acts.Act.{Act}
use Rattle.slot_types.specs.declared.acts.Act.TheVariants as does
use Rattle.slot_types.specs.declared.events.Op.{Op}
use Rattle.slot_types.specs.declared.events.Event.{Event}
use Rattle.slot_types.specs.declared.events.Event.TheVariants as events
use Rattle.slot_types.specs.declared.replies.Reply.TheVariants as replies
use Rattle.slot_types.specs.declared.replies.Entry.{Entry}
use Rattle.slot_types.specs.declared.replies.Waived.{Waived}
use Rattle.die_log.specs.Model.Log.{Log, Job, jobs, act_of, acts, work}
use Rattle.die_log.specs.Model.Flash.{ran_by}
use Rattle.die_log.specs.Model.Work.{is_done, is_ready}
use Rattle.die_log.specs.Model.Answers.{is_running, reply_if_accepted, act_for, act_of_op, reply_with, slot_reply, choice, IsExact}
use Rattle.die_log.specs.Results.Legal.{FindsFree}
use Rattle.die_log.specs.Invariants.RunningCollections.{AreNumbered, KeepsToOps, KeepsJobsAndCells}
use Rattle.die_log.proofs.LogInvariants.CellsFromAccounts.{FindsBy}
use Rattle.die_log.proofs.Choices.{OfSome}
use Rattle.die_log.proofs.Legality.{entry}
use Rattle.die_log.proofs.Collecting.{no_acts}
use Rattle.die_log.specs.Model.Opening.{IsOpening}
use Rattle.die_log.proofs.LogInvariants.OneMoreEntry.{numbered_push, same_job, acts_stay, acts_grow, act_other, act_own, IsWaiting, waits}
use Rattle.die_log.proofs.LogInvariants.AfterNoAct.{runs_says, quiet}
use Rattle.die_log.proofs.LogInvariants.HeadActs.{IsJobAct, job_erases_not, op_act, job_act, head_acted}
use Rattle.die_log.specs.Model.Start.{Start}

pub waiting_undone : (plan : DiePlan) (past : Log) (j : Job) → is_ready plan past j ≡ true → is_done plan past j ≡ false
waiting_undone plan past j h = not-true (is_done plan past j) (and_parts _ _ (and_parts _ _ h).0).1

-- Jobs

keeps_same : (log past : Log) (j : Job) → acts j.number log ≡ acts j.number past → KeepsToOps past j → KeepsToOps log j
keeps_same log past j e k = record {
  within = omega (arith, ap length e, k.within);
  unerased = λ b h. k.unerased b (subst (λ (xs : List Act). Contains xs (does.Erase b)) e h);
}

keeps_new : (log : Log) (j : Job) → acts j.number log ≡ [] → KeepsToOps log j
keeps_new log j e = record {
  within = omega (arith, ap length e);
  unerased = λ b h. absurd (omega (arith, (subst (λ (xs : List Act). Contains xs (does.Erase b)) e h).1));
}

op_within : (start : Start) (past : Log) (ops : List Op) (n : ℕ) (act : Act) (o : Option Op) → slice_get ops n ≡ o → act_of_op start past o
    ≡ Some act → n < length ops
op_within start past ops n act None is e = absurd cc
op_within start past ops n act (Some op) is e = slice_get_within ops n op is

-- a job's act is one of its operations
keeps_more : (start : Start) (e : Entry) (past : Log) (j : Job) (act : Act) → acts j.number (e ∷ past) ≡ acts j.number past ++ act ∷ []
    → act_of_op start past (slice_get j.ops (work j.number past)) ≡ Some act → KeepsToOps past j → KeepsToOps (e ∷ past) j
keeps_more start e past j act grown is k =
    let lt : work j.number past < length j.ops = op_within start past j.ops (work j.number past) act (slice_get j.ops (work j.number past))
    refl is in
    let kind : IsJobAct act = op_act start past (slice_get j.ops (work j.number past)) act is in record {
      within = omega (arith, ap length grown, length_push (acts j.number past) act);
      unerased = λ b h. by_case b (Contains-push_cases (acts j.number past) act (does.Erase b)
          (subst (λ (xs : List Act). Contains xs (does.Erase b)) grown h)) kind;
    }
  where
    by_case : (b : ℕ) → Contains (acts j.number past) (does.Erase b) ⊎ (act ≡ does.Erase b) → IsJobAct act → ⊥
    by_case b (inl h) kind = k.unerased b h
    by_case b (inr x) kind = job_erases_not act kind b x

-- Entries

-- an entry that carried nothing and brought nobody
quiet_stands : (start : Start) (e : Entry) (past : Log) → ran_by e.reply ≡ None → jobs (e ∷ past) ≡ jobs past → KeepsJobsAndCells start past
    → KeepsJobsAndCells start (e ∷ past)
quiet_stands start e past none same s = record {
  numbered = subst (AreNumbered 0) (sym same) s.numbered;
  of_jobs = λ j h kind. keeps_same (e ∷ past) past j (acts_stay j.number e past (ap (act_of j.number) none))
      (s.of_jobs j (subst (λ (js : List Job). Contains js j) same h) kind);
  collects = quiet start e past none (λ j h. subst (λ (js : List Job). Contains js j) (sym same) h)
      (λ j h r. subst (λ (js : List Job). Contains js j) same h) s.collects;
}

-- an entry that brought a job or a collection
taken_stands : (start : Start) (e : Entry) (past : Log) (new : Job) → ran_by e.reply ≡ None → jobs (e ∷ past) ≡ jobs past ++ new ∷ []
    → new.number ≡ length (jobs past) → acts (length (jobs past)) past ≡ [] → KeepsJobsAndCells start past → KeepsJobsAndCells start (e ∷ past)
taken_stands start e past new none same is nil s = record {
  numbered = subst (AreNumbered 0) (sym same) (numbered_push 0 (jobs past) new s.numbered (omega arith));
  of_jobs = λ j h kind. job_by_case j kind (Contains-push_cases (jobs past) new j (subst (λ (js : List Job). Contains js j) same h));
  collects = quiet start e past none
      (λ j h. subst (λ (js : List Job). Contains js j) (sym same) (Contains-append_left (jobs past) (new ∷ []) j h))
      (λ j h r. old_by_case j r (Contains-push_cases (jobs past) new j (subst (λ (js : List Job). Contains js j) same h)))
      s.collects;
}
  where
    stays : (j : Job) → acts j.number (e ∷ past) ≡ acts j.number past
    stays j = acts_stay j.number e past (ap (act_of j.number) none)

    new_nil : (j : Job) → new ≡ j → acts j.number (e ∷ past) ≡ []
    new_nil j it = stays j ∙ (ap (λ (n : ℕ). acts n past) (sym (ap (λ (x : Job). x.number) it) ∙ is) ∙ nil)

    job_by_case : (j : Job) → j.collects ≡ false → Contains (jobs past) j ⊎ (new ≡ j) → KeepsToOps (e ∷ past) j
    job_by_case j kind (inl h) = keeps_same (e ∷ past) past j (stays j) (s.of_jobs j h kind)
    job_by_case j kind (inr it) = keeps_new (e ∷ past) j (new_nil j it)

    old_by_case : (j : Job) → is_running start.plan (e ∷ past) j ≡ true → Contains (jobs past) j ⊎ (new ≡ j) → Contains (jobs past) j
    old_by_case j r (inl h) = h
    old_by_case j r (inr it) = absurd (omega (arith, (runs_says start.plan j (acts j.number (e ∷ past)) r).begun, ap length (new_nil j it)))

-- an entry that carried the head's act
acted_stands : (start : Start) (e : Entry) (past : Log) (j : Job) (act : Act) → 0 < start.plan.shape.pages → 0 < start.plan.shape.erase_slots
    → ran_by e.reply ≡ Some (j.number, act) → jobs (e ∷ past) ≡ jobs past
    → Contains (jobs past) j → is_done start.plan past j ≡ false → act_for start past j ≡ Some act → FindsFree start past act → KeepsJobsAndCells start past
    → KeepsJobsAndCells start (e ∷ past)
acted_stands start e past j act pages more ran same stands undone is finds s = record {
  numbered = subst (AreNumbered 0) (sym same) s.numbered;
  of_jobs = λ i h kind. by_case i (subst (λ (js : List Job). Contains js i) same h) kind (cases_eq i.number j.number);
  collects = head_acted start e past j act pages more ran same s.numbered stands undone is finds s.collects;
}
  where
    by_case : (i : Job) → Contains (jobs past) i → i.collects ≡ false → (i.number ≡ j.number) ⊎ (i.number ≡ j.number → ⊥)
        → KeepsToOps (e ∷ past) i
    by_case i h kind (inr other) = keeps_same (e ∷ past) past i
        (acts_stay i.number e past (ap (act_of i.number) ran ∙ act_other j.number i.number act (λ x. other (sym x)))) (s.of_jobs i h kind)
    by_case i h kind (inl at) =
        let it : i ≡ j = same_job (jobs past) i j s.numbered h stands at in
        let its : j.collects ≡ false = subst (λ (x : Job). x.collects ≡ false) it kind in
        subst (KeepsToOps (e ∷ past)) (sym it)
        (keeps_more start e past j act (acts_grow j.number e past act (ap (act_of j.number) ran ∙ act_own j.number act))
        (job_act start past j act its is) (s.of_jobs j stands its))

-- Logs

nobody_in : {P : Type 0} (j : Job) → Contains [] j → P
nobody_in j h = absurd (omega (arith, h.1))

pub fresh_stands : (start : Start) → IsOpening start → KeepsJobsAndCells start []
fresh_stands start bound = record {
  numbered = tt;
  of_jobs = λ j h kind. nobody_in j h;
  collects = record {
    sound = bound.sound;
    shown = λ j h r. nobody_in j h;
    collecting = λ j b r. nobody_in j r.stands;
    different = λ i j b r s. nobody_in i r.stands;
    owned = λ b h. absurd (omega (arith, bound.idle b));
  };
}

slot_act : (start : Start) (past : Log) (caller : ℕ) (ws : List Waived) (j : Job) (o : Option Act) → 0 < start.plan.shape.pages → 0
    < start.plan.shape.erase_slots → IsWaiting start.plan past j → act_for start past j ≡ o
    → FindsBy start past (reply_with start.plan past ws j o).ran → KeepsJobsAndCells start past
    → KeepsJobsAndCells start (entry caller events.Slot (replies.Slot (reply_with start.plan past ws j o)) ∷ past)
slot_act start past caller ws j None pages more w e finds s = quiet_stands start
    (entry caller events.Slot (replies.Slot (reply_with start.plan past ws j None))) past refl refl s
slot_act start past caller ws j (Some act) pages more w e finds s =
    acted_stands start (entry caller events.Slot (replies.Slot (reply_with start.plan past ws j (Some act)))) past j act pages more refl refl w.0
    (waiting_undone start.plan past j w.1) e finds s

slot_head : (start : Start) (past : Log) (caller : ℕ) (ws : List Waived) (o : Option Job) → 0 < start.plan.shape.pages → 0
    < start.plan.shape.erase_slots → OfSome (IsWaiting start.plan past) o
    → FindsBy start past (slot_reply start past ws o).ran → KeepsJobsAndCells start past
    → KeepsJobsAndCells start (entry caller events.Slot (replies.Slot (slot_reply start past ws o)) ∷ past)
slot_head start past caller ws None pages more w finds s = quiet_stands start
    (entry caller events.Slot (replies.Slot (slot_reply start past ws None))) past refl refl s
slot_head start past caller ws (Some j) pages more w finds s = slot_act start past caller ws j (act_for start past j) pages more w refl finds s

-- one accepted event keeps what stands
pub accepted_stands : (start : Start) (past : Log) (caller : ℕ) (event : Event) → 0 < start.plan.shape.pages → 0 < start.plan.shape.erase_slots
    → IsExact start past → FindsBy start past (ran_by (reply_if_accepted start past event)) → KeepsJobsAndCells start past
    → KeepsJobsAndCells start (entry caller event (reply_if_accepted start past event) ∷ past)
accepted_stands start past caller (events.Submit task release due ops) pages more x finds s =
    taken_stands start (entry caller (events.Submit task release due ops) (reply_if_accepted start past (events.Submit task release due ops))) past _
    refl refl refl (no_acts start past x) s
accepted_stands start past caller (events.Collect task release due) pages more x finds s =
    taken_stands start (entry caller (events.Collect task release due) (reply_if_accepted start past (events.Collect task release due))) past _ refl
    refl refl (no_acts start past x) s
accepted_stands start past caller events.Slot pages more x finds s = slot_head start past caller (choice start past).waived
    (choice start past).head pages more (waits start past).head finds s
