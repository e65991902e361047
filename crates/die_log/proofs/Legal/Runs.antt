-- A slot carries nothing only where nothing waits; and what else a legal entry wants.
use Rattle.std.proofs.Common.{◌≡◌, ℕ, zero, suc, ◌<◌, ◌≤◌, ◌==◌, Bool, true, false, cond, List, [], ◌∷◌, Option, Some, None, refl, sym, ◌∙◌}
use Rattle.std.proofs.Common.{subst, inl, inr, arith, length, slice_get, filter}
use Rattle.std.specs.Prelude.{Contains}
use Rattle.std.specs.List.{AllByRecursion, last_or}
use Rattle.std.proofs.lemmas.Bool.{true≢false, eqb-true, eqb-false}
use Rattle.std.proofs.lemmas.Option.{slice_get-get_or}
use Rattle.std.proofs.lemmas.List.Elements.{All-contains, All-from_recursion}
use Rattle.slot_types.specs.declared.plans.DiePlan.{DiePlan}
use Rattle.slot_types.specs.declared.acts.Act.{Act}
use Rattle.slot_types.specs.declared.events.Op.{Op}
use Rattle.slot_types.specs.declared.events.Op.TheVariants as asks
use Rattle.slot_types.specs.declared.events.Event.{Event}
use Rattle.slot_types.specs.declared.events.Event.TheVariants as events
use Rattle.slot_types.specs.declared.replies.Waived.{Waived}
use Rattle.die_log.specs.Model.Log.{Log, Job, jobs, acts, work, waived_collections}
use Rattle.die_log.specs.Model.Flash.{ran_by, Cells, cells, free}
use Rattle.die_log.specs.Model.Work.{are_all, is_done, is_ready, ready, victim_of, owed_writes}
use Rattle.die_log.specs.Model.Accounts.{accounts}
use Rattle.die_log.specs.Model.Answers.{Choice, choice, reply_if_accepted, victim, block_for, buffer_after, is_placed_in, collect_act, act_of_op, act_for}
use Rattle.die_log.specs.Model.Answers.{reply_with, slot_reply, refusals}
use Rattle.die_log.specs.Results.Legal.{is_among, NothingWaits, AreWaivers, IsLegalRun, IsLegalReply, IsLegalEntry}
use Rattle.die_log.specs.Invariants.RunningCollections.{KeepsToOps, KeepsJobsAndCells}
use Rattle.die_log.proofs.LogInvariants.CellsFromAccounts.{FindsBy, FindsVictim}
use Rattle.die_log.proofs.Choices.{OfSome}
use Rattle.die_log.proofs.Heads.{IsPassed, NotBefore, all_passed}
use Rattle.die_log.proofs.Legality.{entry, in_time}
use Rattle.die_log.proofs.Numbered.{numbered}
use Rattle.die_log.proofs.Known.{waived_is}
use Rattle.die_log.proofs.LogInvariants.OneMoreEntry.{IsWaiting, waits}
use Rattle.die_log.proofs.LogInvariants.HeadActs.{runs_from}
use Rattle.die_log.proofs.LogInvariants.EveryLog.{waiting_undone}
use Rattle.die_log.proofs.Legal.Acts.{head_unwaived, head_legal}
use Rattle.die_log.specs.Model.Start.{Start}

-- The head acts

some_act : (start : Start) (past : Log) (o : Option Op) (op : Op) → o ≡ Some op → (act : Act) × (act_of_op start past o ≡ Some act)
some_act start past None op e = absurd cc
some_act start past (Some (asks.Read page)) op e = (_, refl)
some_act start past (Some (asks.Write page bytes)) op e = (_, refl)
some_act start past (Some (asks.Trim page)) op e = (_, refl)

some_collect : (plan : DiePlan) (c : Cells) (buffer o : Option ℕ) (b : ℕ) → o ≡ Some b → (act : Act)
    × (collect_act plan c buffer o ≡ Some act)
some_collect plan c buffer None b e = absurd cc
some_collect plan c buffer (Some v) b e = by_test (is_placed_in c v buffer) _ _
  where
    by_test : (t : Bool) (x y : Act) → (act : Act) × (cond t (Some x) (Some y) ≡ Some act)
    by_test true x y = (x, refl)
    by_test false x y = (y, refl)

-- an undone job has an operation left
pub operation_left : (plan : DiePlan) (past : Log) (j : Job) → KeepsToOps past j → j.collects ≡ false → is_done plan past j ≡ false
    → work j.number past < length j.ops
operation_left plan past j k kind undone =
    let test : (work j.number past == length j.ops) ≡ false = sym (all_ops (acts j.number past)) ∙ undone in
    less (work j.number past) (length j.ops) k.within (eqb-false (work j.number past) (length j.ops) test)
  where
    all_ops : (own : List Act) → are_all plan j own ≡ (length own == length j.ops)
    all_ops own = rw kind refl

    less : (m n : ℕ) → m ≤ n → (m ≡ n → ⊥) → m < n
    less m n le differs = grind arith

-- the head acts, if a collection that begins finds a victim
pub head_has_act : (start : Start) (past : Log) (j : Job) → KeepsJobsAndCells start past → IsWaiting start.plan past j
    → (j.collects ≡ true → work j.number past ≡ 0 → (b : ℕ) × (victim start past ≡ Some b)) → (act : Act) × (act_for start past j ≡ Some act)
head_has_act start past j s w finds = by_kind j.collects refl
  where
    undone : is_done start.plan past j ≡ false
    undone = waiting_undone start.plan past j w.1

    positive : (n : ℕ) → (n ≡ 0 → ⊥) → 0 < n
    positive zero h = absurd (h refl)
    positive (suc n) h = omega arith

    block : j.collects ≡ true → (t : Bool) → (work j.number past == 0) ≡ t → (b : ℕ)
        × (cond t (victim start past) (victim_of start j.number past) ≡ Some b)
    block kind true e = finds kind (eqb-true (work j.number past) 0 e)
    block kind false e =
        let r = s.collects.shown j w.0 (runs_from start.plan j (acts j.number past)
        (record { collects = kind; begun = positive (work j.number past) (eqb-false (work j.number past) 0 e); undone = undone })) in
        (r.0, r.1.victim)

    by_kind : (t : Bool) → j.collects ≡ t → (act : Act) × (cond t
        (collect_act start.plan (cells start past) (buffer_after (last_or None (acts j.number past))) (block_for start past j))
        (act_of_op start past (slice_get j.ops (work j.number past))) ≡ Some act)
    by_kind false kind =
        let lt : work j.number past < length j.ops = operation_left start.plan past j (s.of_jobs j w.0 kind) kind undone in
        some_act start past (slice_get j.ops (work j.number past)) _ (slice_get-get_or j.ops (work j.number past) (asks.Read 0) lt)
    by_kind true kind =
        let b = block kind (work j.number past == 0) refl in
        some_collect start.plan (cells start past) (buffer_after (last_or None (acts j.number past))) (block_for start past j) b.0 b.1

-- Nothing waits

-- what holds of all that pass a test
pub kept_in : {X : Type 0} (t : X → Bool) (Q : X → Type 0) (xs : List X) → AllByRecursion Q (filter t xs)
    → AllByRecursion (λ x. t x ≡ true → Q x) xs
kept_in t Q [] h = tt
kept_in {X = X} t Q (x ∷ xs) h = by_test (t x) refl h (λ k. kept_in t Q xs k)
  where
    by_test : (b : Bool) → t x ≡ b → AllByRecursion Q (cond b (x ∷ filter t xs) (filter t xs))
        → (AllByRecursion Q (filter t xs) → AllByRecursion (λ y. t y ≡ true → Q y) xs) → AllByRecursion (λ y. t y ≡ true → Q y) (x ∷ xs)
    by_test true e g again = (λ k. g.0, again g.1)
    by_test false e g again = (λ k. absurd (true≢false (sym k ∙ e)), again g)

all_passed_now : (start : Start) (past : Log) → AllByRecursion (IsPassed (choice start past)) (ready start.plan past)
all_passed_now start past = all_passed start.plan past (length (ready start.plan past)) (accounts start past) (ready start.plan past) (omega arith)

passed_none : (c : Choice) (i : Job) → c.head ≡ None → IsPassed c i → is_among i.number c.waived ≡ true
passed_none c i e (inl h) = h
passed_none c i e (inr h) = absurd (subst (NotBefore i) e h)

-- each that is ready is waived in the slot, or not before its head
pub all_passed_ready : (start : Start) (past : Log) (j : Job) → Contains (jobs past) j → is_ready start.plan past j ≡ true
    → IsPassed (choice start past) j
all_passed_ready start past j stands is_ready_now =
    let all = kept_in (is_ready start.plan past) (IsPassed (choice start past)) (jobs past) (all_passed_now start past) in
    All-contains (λ (x : Job). is_ready start.plan past x ≡ true → IsPassed (choice start past) x) (jobs past) j
    (All-from_recursion (λ (x : Job). is_ready start.plan past x ≡ true → IsPassed (choice start past) x) (jobs past) all) stands is_ready_now

-- without a head nothing waits
pub nothing_waits : (start : Start) (past : Log) → (choice start past).head ≡ None → NothingWaits start.plan past (choice start past).waived
nothing_waits start past none j stands is_ready_now = passed_none (choice start past) j none
    (all_passed_ready start past j stands is_ready_now)

run_by_act : (start : Start) (past : Log) (ws : List Waived) (j : Job) (o : Option Act) (act : Act) → 0 < start.plan.shape.erase_slots
    → KeepsJobsAndCells start past → IsWaiting start.plan past j → is_among j.number ws ≡ false
    → act_for start past j ≡ o → o ≡ Some act → FindsBy start past (reply_with start.plan past ws j o).ran
    → IsLegalRun start past ws (reply_with start.plan past ws j o).ran
run_by_act start past ws j None act more s w unwaived e some finds = absurd cc
run_by_act start past ws j (Some a) act more s w unwaived e some finds = (j, head_legal start past ws j a more s w unwaived e finds)

run_by_head : (start : Start) (past : Log) (ws : List Waived) (o : Option Job) → 0 < start.plan.shape.erase_slots → KeepsJobsAndCells start past
    → OfSome (IsWaiting start.plan past) o → OfSome (λ j. is_among j.number ws ≡ false) o
    → (o ≡ None → NothingWaits start.plan past ws) → ((j : Job) → o ≡ Some j → j.collects ≡ true → work j.number past ≡ 0 → (b : ℕ)
    × (victim start past ≡ Some b))
    → FindsBy start past (slot_reply start past ws o).ran → IsLegalRun start past ws (slot_reply start past ws o).ran
run_by_head start past ws None more s w unwaived idle victims finds = idle refl
run_by_head start past ws (Some j) more s w unwaived idle victims finds =
    let a = head_has_act start past j s w (victims j refl) in
    run_by_act start past ws j (act_for start past j) a.0 more s w unwaived refl a.1 finds

-- what a slot carries is legal: an act of the head, or nothing where nothing waits
pub run_legal : (start : Start) (past : Log) → 0 < start.plan.shape.erase_slots → KeepsJobsAndCells start past → FindsVictim start past
    → FindsBy start past (slot_reply start past (choice start past).waived (choice start past).head).ran
    → IsLegalRun start past (choice start past).waived (slot_reply start past (choice start past).waived (choice start past).head).ran
run_legal start past more s victims finds =
    run_by_head start past (choice start past).waived (choice start past).head more s (waits start past).head
    (head_unwaived start.plan past (length (ready start.plan past)) (accounts start past) (ready start.plan past))
    (nothing_waits start past) victims finds

-- Entries

reply_legal : (start : Start) (past : Log) (event : Event) → 0 < start.plan.shape.erase_slots → KeepsJobsAndCells start past → FindsVictim start past
    → FindsBy start past (ran_by (reply_if_accepted start past event))
    → AreWaivers start.plan past (waived_collections past) (accounts start past) (choice start past).waived → IsLegalReply start past (reply_if_accepted start past event)
reply_legal start past (events.Submit task release due ops) more s victims finds waivers = tt
reply_legal start past (events.Collect task release due) more s victims finds waivers = tt
reply_legal start past events.Slot more s victims finds waivers =
    let same : (slot_reply start past (choice start past).waived (choice start past).head).waived
    ≡ (choice start past).waived = waived_is start past (choice start past).waived (choice start past).head in
    let ran = (slot_reply start past (choice start past).waived (choice start past).head).ran in (
      subst (AreWaivers start.plan past (waived_collections past) (accounts start past)) (sym same) waivers,
      subst (λ (ws : List Waived). IsLegalRun start past ws ran) (sym same) (run_legal start past more s victims finds),
    )

-- an accepted event makes a legal entry, by what the accounts still owe: waivers, victims, free pages and room
pub entry_legal : (start : Start) (past : Log) (caller : ℕ) (event : Event) → 0 < start.plan.shape.erase_slots → KeepsJobsAndCells start past
    → AllByRecursion (λ c. c.0 ≡ false) (refusals start past event)
    → FindsVictim start past → FindsBy start past (ran_by (reply_if_accepted start past event))
    → AreWaivers start.plan past (waived_collections past) (accounts start past) (choice start past).waived
    → owed_writes (entry caller event (reply_if_accepted start past event) ∷ past) ≤ free start (entry caller event (reply_if_accepted start past event) ∷ past)
    → IsLegalEntry start past (entry caller event (reply_if_accepted start past event))
entry_legal start past caller event more s none victims finds waivers room = record {
  numbered = numbered start past event;
  in_time = in_time start past event none;
  slot = reply_legal start past event more s victims finds waivers;
  room = room;
}
