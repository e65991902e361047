-- Each slot of an exact log carried a least key; so at each moment its greatest lateness is least.
use Rattle.std.proofs.Common.{◌≡◌, ℕ, ◌<◌, ◌==◌, true, false, List, ◌∷◌, ◌++◌, length, Option, Some, None, MatchOption, refl, sym, subst}
use Rattle.std.proofs.Common.{◌∙◌, inl, inr, arith}
use Rattle.std.specs.Prelude.{Contains}
use Rattle.std.specs.List.{AllByRecursion}
use Rattle.std.proofs.lemmas.Bool.{true≢false, ne_eqb, eqb-false}
use Rattle.std.proofs.lemmas.Option.{none-some}
use Rattle.slot_types.specs.declared.plans.DiePlan.{DiePlan}
use Rattle.slot_types.specs.declared.acts.Act.{Act}
use Rattle.slot_types.specs.declared.events.Op.{Op}
use Rattle.slot_types.specs.declared.events.Event.{Event}
use Rattle.slot_types.specs.declared.events.Event.TheVariants as events
use Rattle.slot_types.specs.declared.replies.Reply.TheVariants as replies
use Rattle.slot_types.specs.declared.replies.Waived.{Waived}
use Rattle.late_cert.specs.declared.rows.JobRow.{JobRow}
use Rattle.late_cert.specs.Schedule.{IsLeastLate}
use Rattle.late_cert.specs.BusyInterval.{CarriesLeastKeys}
use Rattle.late_cert.proofs.Moments.{nothing-carried, slot-keeps}
use Rattle.late_cert.proofs.Least.{least-late}
use Rattle.die_log.specs.Model.Log.{Log, Job, jobs, now, waived_collections}
use Rattle.die_log.specs.Model.Work.{is_ready, goes_first}
use Rattle.die_log.specs.Model.Accounts.{accounts}
use Rattle.die_log.specs.Model.Answers.{IsExact, reply_if_accepted, refusals, choice, slot_reply, reply_with, act_for}
use Rattle.die_log.specs.Results.Legal.{is_among}
use Rattle.die_log.specs.Model.Rows.{rows, carried_numbers}
use Rattle.die_log.proofs.Exact.{moment_exact}
use Rattle.die_log.proofs.Legality.{entry, in_time, exact_induction}
use Rattle.die_log.proofs.Choices.{OfSome}
use Rattle.die_log.proofs.Heads.{IsPassed, NotBefore}
use Rattle.die_log.proofs.LogInvariants.OneMoreEntry.{IsWaiting, waits}
use Rattle.die_log.proofs.LogInvariants.CellsFromAccounts.{FindsVictim}
use Rattle.die_log.proofs.Legal.Runs.{head_has_act, all_passed_ready, nothing_waits}
use Rattle.die_log.proofs.Legal.Exact.{StandsWell, stands_well, well_served, chosen_is, finds_victim, has_slots}
use Rattle.die_log.proofs.Tokens.Waivers.{Waits}
use Rattle.die_log.proofs.Least.Taking.{taken_keeps}
use Rattle.die_log.proofs.Least.Waiving.{waivers_keep}
use Rattle.die_log.proofs.Least.Carrying.{after_waivers_rows, carries_nothing, carries_head, carried_more}
use Rattle.die_log.specs.Model.Start.{Start}
use Rattle.die_log.specs.Model.Opening.{IsOpening}

-- the rows and the slots of a log, where each slot carried a least key
abbrev pub HasLeastKeys : DiePlan → Log → Type 0
HasLeastKeys plan log = CarriesLeastKeys (rows plan log) (carried_numbers log)

-- the rows after the waivers of the next slot
abbrev rows_after : Start → Log → List JobRow
rows_after start past = after_waivers_rows start.plan past (choice start past).waived

-- the head goes before all that are ready and not waived
first_of_ready : (start : Start) (past : Log) (j : Job) → (choice start past).head ≡ Some j → (i : Job) → Contains (jobs past) i
    → is_ready start.plan past i ≡ true → is_among i.number (choice start past).waived ≡ false → goes_first i j ≡ false
first_of_ready start past j head i stands is_ready_now unwaived = by_case (all_passed_ready start past i stands is_ready_now)
  where
    by_case : IsPassed (choice start past) i → goes_first i j ≡ false
    by_case (inl waived_now) = absurd (true≢false (sym waived_now ∙ unwaived))
    by_case (inr beyond) = subst (NotBefore i) head beyond

slot_act : (start : Start) (past : Log) (caller : ℕ) (j : Job) (o : Option Act) (act : Act) → StandsWell start past
    → Waits start.plan past (waived_collections past ++ (choice start past).waived) j → (choice start past).head ≡ Some j → o ≡ Some act
    → CarriesLeastKeys (rows_after start past) (carried_numbers past)
    → HasLeastKeys start.plan (entry caller events.Slot (replies.Slot (reply_with start.plan past (choice start past).waived j o)) ∷ past)
slot_act start past caller j None act h w head e keys = absurd (none-some act e)
slot_act start past caller j (Some a) act h w head e keys =
    let ws : List Waived = (choice start past).waived in
    let log : Log = entry caller events.Slot (replies.Slot (reply_with start.plan past ws j (Some a))) ∷ past in
    subst (CarriesLeastKeys (rows start.plan log)) (sym (carried_more past (Some (j.number, a)))) (
    slot-keeps (rows_after start past) (rows start.plan log) (carried_numbers past) (Some j.number) keys (
    carries_head start.plan past caller (now past) ws (reply_with start.plan past ws j (Some a)).finished j a h.0.numbered w
    (first_of_ready start past j head)
    )
    )

slot_head : (start : Start) (past : Log) (caller : ℕ) (o : Option Job) → StandsWell start past → FindsVictim start past
    → (choice start past).head ≡ o → MatchOption o (Unit {0}) (λ j. Waits start.plan past (waived_collections past ++ (choice start past).waived) j)
    → OfSome (IsWaiting start.plan past) o → CarriesLeastKeys (rows_after start past) (carried_numbers past)
    → HasLeastKeys start.plan (entry caller events.Slot (replies.Slot (slot_reply start past (choice start past).waived o)) ∷ past)
slot_head start past caller None h finds head w waiting keys =
    let ws : List Waived = (choice start past).waived in
    let log : Log = entry caller events.Slot (replies.Slot (slot_reply start past ws None)) ∷ past in
    subst (CarriesLeastKeys (rows start.plan log)) (sym (carried_more past None)) (
    slot-keeps (rows_after start past) (rows start.plan log) (carried_numbers past) None keys
    (carries_nothing start.plan past caller (now past) ws None h.0.numbered (nothing_waits start past head))
    )
slot_head start past caller (Some j) h finds head w waiting keys =
    let a = head_has_act start past j h.0 waiting (finds j head) in
    slot_act start past caller j (act_for start past j) a.0 h w head a.1 keys

slot_keeps : (start : Start) (past : Log) (caller : ℕ) → IsOpening start → StandsWell start past → HasLeastKeys start.plan past
    → HasLeastKeys start.plan (entry caller events.Slot (reply_if_accepted start past events.Slot) ∷ past)
slot_keeps start past caller bound h keys =
    let c = chosen_is start past (well_served start past bound h) in
    slot_head start past caller (choice start past).head h (finds_victim start past bound h) refl c.head (waits start past).head
    (waivers_keep start.plan past (waived_collections past) (choice start past).waived (accounts start past) (carried_numbers past) (has_slots start.plan bound.bound)
    h.0.numbered c.waivers keys)

pub no_operations : (ops : List Op) → (length ops == 0) ≡ false → (0 == length ops) ≡ false
no_operations ops h = ne_eqb 0 (length ops) (λ e. eqb-false (length ops) 0 h (sym e))

-- an accepted event keeps least keys
keeps_least : (start : Start) (past : Log) (caller : ℕ) (event : Event) → IsOpening start → IsExact start past → StandsWell start past
    → AllByRecursion (λ c. c.0 ≡ false) (refusals start past event)
    → HasLeastKeys start.plan past → HasLeastKeys start.plan (entry caller event (reply_if_accepted start past event) ∷ past)
keeps_least start past caller (events.Submit task release due ops) bound exact h none keys =
    taken_keeps start past _ exact h.0.numbered refl (no_operations ops none.1.0)
    (in_time start past (events.Submit task release due ops) none).0 keys
keeps_least start past caller (events.Collect task release due) bound exact h none keys =
    let more : 0 < start.plan.shape.erase_slots = has_slots start.plan bound.bound in
    taken_keeps start past _ exact h.0.numbered refl (ne_eqb 0 start.plan.shape.erase_slots (λ e. absurd (omega (arith, e, more))))
    (in_time start past (events.Collect task release due) none).0 keys
keeps_least start past caller events.Slot bound exact h none keys = slot_keeps start past caller bound h keys

-- of each exact log of a plan within its bound
pub least_keys : (start : Start) → IsOpening start → (log : Log) → IsExact start log → HasLeastKeys start.plan log
least_keys start bound =
    exact_induction start (HasLeastKeys start.plan) nothing-carried
    (λ past caller event exact keys none. keeps_least start past caller event bound exact (stands_well start bound past exact) none keys)

-- and so is the lateness of what was done by any moment
pub exact_least : (start : Start) → IsOpening start → (later moment : Log) → IsExact start (later ++ moment)
    → IsLeastLate (rows start.plan moment) (carried_numbers moment)
exact_least start bound later moment exact = least-late (rows start.plan moment) (carried_numbers moment)
    (least_keys start bound moment (moment_exact start later moment exact))
