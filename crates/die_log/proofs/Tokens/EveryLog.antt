-- Exact logs are well, given the cells.
use Rattle.std.proofs.Common.{◌≡◌, ℕ, ◌+◌, ◌<◌, ◌≤◌, true, false, List, [], ◌∷◌, ◌++◌, length, count_by, Option, Some, None, MatchOption}
use Rattle.std.proofs.Common.{refl, ap, sym, ◌∙◌, inl, inr, arith, slice_get, length-append}
use Rattle.std.proofs.lemmas.Bool.{cases_lt}
use Rattle.std.proofs.lemmas.Option.{slice_get_within}
use Rattle.slot_types.specs.declared.acts.Act.{Act}
use Rattle.slot_types.specs.declared.acts.Act.TheVariants as does
use Rattle.slot_types.specs.declared.events.Event.{Event}
use Rattle.slot_types.specs.declared.events.Event.TheVariants as events
use Rattle.slot_types.specs.declared.replies.Reply.TheVariants as replies
use Rattle.slot_types.specs.declared.replies.Waived.{Waived}
use Rattle.die_log.specs.Model.Log.{Log, Job, jobs, job_at, now, acts, waived_collections, is_waived}
use Rattle.die_log.specs.Model.Flash.{cells, valid}
use Rattle.die_log.specs.Model.Work.{is_copy_program, victim_of, shown_by, is_ready}
use Rattle.die_log.specs.Model.Accounts.{accounts, after_waivers}
use Rattle.die_log.specs.Invariants.TrueAccounts.{reserve_full}
use Rattle.die_log.specs.Model.Answers.{IsExact, reply_if_accepted, choice, slot_reply, reply_with, act_for, is_waivable}
use Rattle.die_log.specs.Results.Legal.{AreWaivers, is_among}
use Rattle.die_log.proofs.Legality.{entry}
use Rattle.die_log.proofs.Collecting.{no_acts}
use Rattle.die_log.proofs.Tokens.Waivers.{Waits}
use Rattle.die_log.proofs.Tokens.Given.{CellsServe}
use Rattle.die_log.specs.Invariants.TrueAccounts.{is_pending, copied_of, AreTrueAccounts}
use Rattle.die_log.specs.Invariants.TrueAndLegal.{FewCopies}
use Rattle.die_log.proofs.Tokens.Waivers.{choice_is}
use Rattle.die_log.proofs.Tokens.Doing.{act_kind}
use Rattle.die_log.proofs.Tokens.Changes.{pending_other}
use Rattle.die_log.proofs.Tokens.Slots.{slot_entry, slot_waives, idle_acts}
use Rattle.die_log.proofs.Tokens.Turns.{no_job_copy}
use Rattle.die_log.proofs.Tokens.TrueAccounts.{all_known}
use Rattle.die_log.proofs.LogInvariants.OneMoreEntry.{elsewhere, shown_none, no_victim}
use Rattle.die_log.proofs.Tokens.Few.{few_now, few_turn}
use Rattle.die_log.specs.Model.Start.{Start}
use Rattle.die_log.specs.Model.Opening.{IsOpening}

none_some : (o : Option ℕ) (b : ℕ) → o ≡ None → o ≡ Some b → ⊥
none_some None b e h = absurd cc
none_some (Some d) b e h = absurd cc

-- one more job
few_taken : (start : Start) (past : Log) (new i : Job) (b : ℕ) → IsExact start past → FewCopies start past
    → slice_get (jobs past ++ new ∷ []) i.number ≡ Some i → is_pending start.plan (λ n. acts n past) (is_waived past) i ≡ true
    → shown_by start past (victim_of start i.number past) None ≡ Some b → copied_of (λ n. acts n past) i + valid (cells start past) b
    ≤ reserve_full start.plan
few_taken start past new i b exact few e is shows =
    let shown : victim_of start i.number past ≡ Some b = sym (shown_none start past (victim_of start i.number past)) ∙ shows in
    elim (cases_lt i.number (length (jobs past))) [
      | inl below ↦ few.few i b (sym (elsewhere (jobs past) new i.number (λ x. absurd (omega (arith, below, x)))) ∙ e) is shown
      | inr past_it ↦
          let last : i.number ≡ length (jobs past) = omega
          (arith, past_it, slice_get_within (jobs past ++ new ∷ []) i.number i e, length-append (jobs past) (new ∷ [])) in
          absurd (none_some (victim_of start i.number past) b
          (no_victim start i.number past (ap (λ n. acts n past) last ∙ no_acts start past exact)) shown)
    ]

few_idle : (start : Start) (past : Log) (caller slot : ℕ) (ws : List Waived) (finished : Option ℕ) → CellsServe start past
    → AreWaivers start.plan past (waived_collections past) (accounts start past) ws → FewCopies start past
    → FewCopies start (slot_entry caller slot ws None finished ∷ past)
few_idle start past caller slot ws finished c are few = record { few = each }
  where
    each : (i : Job) (b : ℕ) → job_at past i.number ≡ Some i
        → is_pending start.plan (λ n. acts n (slot_entry caller slot ws None finished ∷ past))
        (is_waived (slot_entry caller slot ws None finished ∷ past)) i ≡ true
        → victim_of start i.number (slot_entry caller slot ws None finished ∷ past) ≡ Some b
        → copied_of (λ n. acts n (slot_entry caller slot ws None finished ∷ past)) i + valid (cells start past) b ≤ reserve_full start.plan
    each i b known is shows =
        let log : Log = slot_entry caller slot ws None finished ∷ past in
        let same = idle_acts caller slot ws finished past i.number in
        let w = slot_waives start caller slot ws None finished past c.numbered are in
        let was = pending_other start.plan (λ n. acts n past) (λ n. acts n log) (is_waived past) (is_waived log) (λ n. is_among n ws) i w same is
        in
        let copied : copied_of (λ n. acts n past) i ≡ copied_of (λ n. acts n log) i = ap (λ (l : List Act). count_by is_copy_program l) same
        in
        omega (arith, copied, few.few i b known was (sym (shown_none start past (victim_of start i.number past)) ∙ shows))

few_act : (start : Start) (past : Log) (caller : ℕ) (ws : List Waived) (j : Job) (o : Option Act) → IsOpening start → AreTrueAccounts start past
    → CellsServe start past → FewCopies start past
    → AreWaivers start.plan past (waived_collections past) (accounts start past) ws → Waits start.plan past (waived_collections past ++ ws) j
    → is_waivable start.plan past (after_waivers past ws (accounts start past)) j ≡ false → act_for start past j ≡ o
    → FewCopies start (entry caller events.Slot (replies.Slot (reply_with start.plan past ws j o)) ∷ past)
few_act start past caller ws j None bound h c few are waits unwaivable e = few_idle start past caller (now past) ws None c are few
few_act start past caller ws j (Some act) bound h c few are waits unwaivable e =
    few_turn start past caller (now past) ws (reply_with start.plan past ws j (Some act)).finished j act
    (record { true_before = h; serve = c; waivers = are; waits = waits; does_it = e })
    (record { bound = bound; few_before = few; unwaivable = unwaivable })

few_head : (start : Start) (past : Log) (caller : ℕ) (ws : List Waived) (o : Option Job) → IsOpening start → AreTrueAccounts start past
    → CellsServe start past → FewCopies start past
    → AreWaivers start.plan past (waived_collections past) (accounts start past) ws → MatchOption o (Unit {0}) (λ j. Waits start.plan past (waived_collections past ++ ws) j)
    → MatchOption o (Unit {0}) (λ j. is_waivable start.plan past (after_waivers past ws (accounts start past)) j ≡ false)
    → FewCopies start (entry caller events.Slot (replies.Slot (slot_reply start past ws o)) ∷ past)
few_head start past caller ws None bound h c few are waits unwaivable = few_idle start past caller (now past) ws None c are few
few_head start past caller ws (Some j) bound h c few are waits unwaivable = few_act start past caller ws j (act_for start past j) bound h c few
    are waits unwaivable refl

-- an accepted event keeps the copies few
pub keeps_few : (start : Start) (past : Log) (caller : ℕ) (event : Event) → IsOpening start → IsExact start past → AreTrueAccounts start past
    → CellsServe start past → FewCopies start past
    → FewCopies start (entry caller event (reply_if_accepted start past event) ∷ past)
keeps_few start past caller (events.Submit task release due ops) bound exact h c few = record
    { few = λ i b. few_taken start past _ i b exact few }
keeps_few start past caller (events.Collect task release due) bound exact h c few = record
    { few = λ i b. few_taken start past _ i b exact few }
keeps_few start past caller events.Slot bound exact h c few =
    let is = choice_is start past (all_known past c.numbered) in
    few_head start past caller (choice start past).waived (choice start past).head bound h c few is.waivers is.head is.unwaivable

-- a copy finds its reserve above 0
pub copies_fit : (start : Start) (past : Log) (j : Job) (page : ℕ) → FewCopies start past → job_at past j.number ≡ Some j
    → is_ready start.plan past j ≡ true → act_for start past j ≡ Some (does.CopyProgram page) → count_by is_copy_program (acts j.number past)
    < reserve_full start.plan
copies_fit start past j page few known ready e = elim (act_kind start past j (does.CopyProgram page) e) [
  | inl k ↦ absurd (no_job_copy k.op page k.done)
  | inr k ↦ few_now start past j page few known ready k.collection e
]
