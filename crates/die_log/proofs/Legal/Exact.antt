-- Exact logs are legal: what stands of cells gives the accounts what they take of them, and the accounts give each program its free page.
use Rattle.std.proofs.Common.{◌≡◌, ℕ, ◌<◌, ◌≤◌, Bool, true, false, List, [], ◌∷◌, ◌++◌, length, count_by, Option, Some, MatchOption, refl, ap}
use Rattle.std.proofs.Common.{sym, ◌∙◌, subst, arith, slice_get, ◌&&◌, not}
use Rattle.std.specs.List.{AllByRecursion}
use Rattle.std.proofs.lemmas.Bool.{and_parts, not-true}
use Rattle.std.proofs.lemmas.Option.{none-some}
use Rattle.slot_types.specs.declared.plans.DiePlan.{DiePlan}
use Rattle.slot_types.specs.declared.acts.Act.{Act}
use Rattle.slot_types.specs.declared.acts.Act.TheVariants as does
use Rattle.slot_types.specs.declared.events.Event.{Event}
use Rattle.slot_types.specs.declared.events.Event.TheVariants as events
use Rattle.plan_rules.specs.Bound.{MeetsBound}
use Rattle.die_log.specs.Model.Log.{Log, Job, jobs, job_at, acts, work, waived_collections, is_waived}
use Rattle.die_log.specs.Model.Flash.{cells, block_at, ran_by, valid}
use Rattle.die_log.specs.Model.Work.{is_erase, is_done, is_ready, victim_of}
use Rattle.die_log.specs.Model.Accounts.{accounts, after_waivers}
use Rattle.die_log.specs.Model.Answers.{IsExact, reply_if_accepted, refusals, act_for, is_running, choice, is_waivable, victim}
use Rattle.die_log.specs.Results.Legal.{IsLegal}
use Rattle.die_log.specs.Invariants.SoundCells.{IsClosed}
use Rattle.die_log.specs.Invariants.RunningCollections.{KeepsJobsAndCells}
use Rattle.die_log.proofs.LogInvariants.CellsFromAccounts.{FindsBy, FindsVictim}
use Rattle.die_log.proofs.Tokens.Waivers.{Waits, IsChosen}
use Rattle.die_log.specs.Invariants.TrueAccounts.{is_pending, reserve_full, AreTrueAccounts}
use Rattle.die_log.specs.Invariants.TrueAndLegal.{FewCopies, IsTrueAndLegal}
use Rattle.die_log.proofs.Legality.{entry, exact_induction}
use Rattle.die_log.proofs.LogInvariants.OneMoreEntry.{number_at, contained, no_victim}
use Rattle.die_log.proofs.LogInvariants.HeadActs.{runs_from, job_erases_not, op_act, job_act, collection_may}
use Rattle.die_log.proofs.LogInvariants.EveryLog.{waiting_undone, fresh_stands, accepted_stands}
use Rattle.die_log.proofs.Legal.Runs.{entry_legal}
use Rattle.die_log.proofs.Tokens.Given.{CellsServe}
use Rattle.die_log.proofs.Tokens.Opening.{true_opening}
use Rattle.die_log.proofs.Tokens.Waivers.{choice_is}
use Rattle.die_log.proofs.Tokens.Begins.{fresh_finds}
use Rattle.die_log.proofs.Tokens.TrueAccounts.{all_known, keeps_slot, keeps, owed_is_free}
use Rattle.die_log.proofs.Tokens.EveryLog.{copies_fit, keeps_few}
use Rattle.die_log.specs.Model.Start.{Start}
use Rattle.die_log.specs.Model.Opening.{IsOpening}

-- What stands serves the accounts

pub erases_own : (start : Start) (past : Log) (j : Job) (b : ℕ) → 0 < start.plan.shape.erase_slots → KeepsJobsAndCells start past → job_at past j.number ≡ Some j
    → is_ready start.plan past j ≡ true → act_for start past j ≡ Some (does.Erase b)
    → IsClosed start.plan (cells start past) b × ((block_at (cells start past) b).erasing ≡ count_by is_erase (acts j.number past))
erases_own start past j b more s known ready e = by_kind j.collects refl
  where
    by_kind : (t : Bool) → j.collects ≡ t → IsClosed start.plan (cells start past) b
        × ((block_at (cells start past) b).erasing ≡ count_by is_erase (acts j.number past))
    by_kind false kind = absurd (job_erases_not (does.Erase b)
        (op_act start past (slice_get j.ops (work j.number past)) (does.Erase b) (job_act start past j (does.Erase b) kind e)) b refl)
    by_kind true kind =
        let m = collection_may start past j (does.Erase b) more s.collects (contained (jobs past) j.number j known) kind
        (waiting_undone start.plan past j ready) e in (
          subst (IsClosed start.plan (cells start past)) (sym m.2.same) m.2.closed,
          ap (λ (x : ℕ). (block_at (cells start past) x).erasing) m.2.same ∙ m.1.collecting.erases,
        )

-- who has shown a block has begun
pub victim_begun : (start : Start) (n b : ℕ) (past : Log) (own : List Act) → acts n past ≡ own → victim_of start n past ≡ Some b → 0
    < length own
victim_begun start n b past [] e shows = absurd (none-some b (sym (no_victim start n past e) ∙ shows))
victim_begun start n b past (x ∷ own) e shows = omega arith

victim_closed : (start : Start) (past : Log) (j : Job) (b : ℕ) → KeepsJobsAndCells start past → job_at past j.number ≡ Some j
    → is_pending start.plan (λ n. acts n past) (is_waived past) j ≡ true → victim_of start j.number past ≡ Some b
    → IsClosed start.plan (cells start past) b
victim_closed start past j b s known is shows =
    let parts = and_parts (j.collects && not (is_done start.plan past j)) (not (is_waived past j.number)) is in
    let kind = and_parts j.collects (not (is_done start.plan past j)) parts.0 in
    let running : is_running start.plan past j ≡ true = runs_from start.plan j (acts j.number past) (record {
      collects = kind.0;
      begun = victim_begun start j.number b past (acts j.number past) refl shows;
      undone = not-true (is_done start.plan past j) kind.1;
    }) in
    (s.collects.collecting j b (record { stands = contained (jobs past) j.number j known; running = running; victim = shows })).closed

serves : (start : Start) (past : Log) → 0 < start.plan.shape.erase_slots → KeepsJobsAndCells start past → FewCopies start past → CellsServe start past
serves start past more s few = record {
  numbered = λ k j e. omega (arith, number_at 0 (jobs past) k j s.numbered e);
  sound = s.collects.sound;
  few_copies = λ j page. copies_fit start past j page few;
  erases = λ j b known ready e. erases_own start past j b more s known ready e;
  victims_full = λ j b known is shows. victim_closed start past j b s known is shows;
}

-- Logs

-- jobs, cells and collections stand, the accounts come to what the log says, and the log is legal
abbrev pub StandsWell : Start → Log → Type 0
StandsWell start log = KeepsJobsAndCells start log × IsTrueAndLegal start log

pub has_pages : (plan : DiePlan) → MeetsBound plan → 0 < plan.shape.pages
has_pages plan bound = omega (arith, bound.shape.some_pages)

pub has_slots : (plan : DiePlan) → MeetsBound plan → 0 < plan.shape.erase_slots
has_slots plan bound = omega (arith, bound.shape.some_slots)

pub well_served : (start : Start) (past : Log) → IsOpening start → StandsWell start past → CellsServe start past
well_served start past bound h = serves start past (has_slots start.plan bound.bound) h.0 h.1.copies

-- a slot's choice waives by the rules, and its head waits
pub chosen_is : (start : Start) (past : Log) → CellsServe start past
    → IsChosen start.plan past (waived_collections past) (accounts start past) (choice start past)
chosen_is start past c = choice_is start past (all_known past c.numbered)

-- what an accepted event carries finds its free page
pub event_finds : (start : Start) (past : Log) (event : Event) → IsOpening start → StandsWell start past
    → FindsBy start past (ran_by (reply_if_accepted start past event))
event_finds start past (events.Submit task release due ops) bound h = tt
event_finds start past (events.Collect task release due) bound h = tt
event_finds start past events.Slot bound h = (keeps_slot start past 0 bound h.1.true_accounts (well_served start past bound h)).1

-- a head that begins finds its block, in which few pages are placed
pub finds_few : (start : Start) (past : Log) → IsOpening start → StandsWell start past → (j : Job) → (choice start past).head ≡ Some j
    → j.collects ≡ true → work j.number past ≡ 0
    → (b : ℕ) × (victim start past ≡ Some b) × (valid (cells start past) b ≤ reserve_full start.plan)
finds_few start past bound h j head is fresh =
    let served = well_served start past bound h in
    let c = chosen_is start past served in
    let waits : Waits start.plan past (waived_collections past ++ (choice start past).waived) j = subst
    (λ (o : Option Job). MatchOption o (Unit {0}) (λ i. Waits start.plan past (waived_collections past ++ (choice start past).waived) i)) head c.head in
    let unwaivable : is_waivable start.plan past (after_waivers past (choice start past).waived (accounts start past)) j ≡ false =
    subst (λ (o : Option Job). MatchOption o (Unit {0}) (λ i. is_waivable start.plan past
    (after_waivers past (choice start past).waived (accounts start past)) i ≡ false)) head c.unwaivable in
    fresh_finds start past (choice start past).waived j bound h.1.true_accounts served c.waivers waits unwaivable is fresh

pub finds_victim : (start : Start) (past : Log) → IsOpening start → StandsWell start past → FindsVictim start past
finds_victim start past bound h j head is fresh = let v = finds_few start past bound h j head is fresh in (v.0, v.1)

-- an accepted event keeps both
keeps_both : (start : Start) (past : Log) (caller : ℕ) (event : Event) → IsOpening start → IsExact start past → StandsWell start past
    → AllByRecursion (λ c. c.0 ≡ false) (refusals start past event)
    → StandsWell start (entry caller event (reply_if_accepted start past event) ∷ past)
keeps_both start past caller event bound exact h none =
    let c : CellsServe start past = well_served start past bound h in
    let finds = event_finds start past event bound h in
    let after : AreTrueAccounts start (entry caller event (reply_if_accepted start past event) ∷ past) = keeps start past caller event bound exact
    h.1.true_accounts c none in (
      accepted_stands start past caller event (has_pages start.plan bound.bound) (has_slots start.plan bound.bound) exact finds h.0,
      record {
        true_accounts = after;
        copies = keeps_few start past caller event bound exact h.1.true_accounts c h.1.copies;
        legal = (
          h.1.legal,
          entry_legal start past caller event (has_slots start.plan bound.bound) h.0 none (finds_victim start past bound h) finds
              (chosen_is start past c).waivers
              (owed_is_free start (entry caller event (reply_if_accepted start past event) ∷ past) after),
        );
      },
    )

at_start : (start : Start) → IsOpening start → StandsWell start []
at_start start bound = (
  fresh_stands start bound,
  record {
    true_accounts = true_opening start bound;
    copies = record { few = λ j b e. absurd cc };
    legal = tt;
  },
)

pub stands_well : (start : Start) → IsOpening start → (log : Log) → IsExact start log → StandsWell start log
stands_well start bound =
    exact_induction start (StandsWell start) (at_start start bound)
    (λ past caller event exact h none. keeps_both start past caller event bound exact h none)

-- exact logs of a plan within its bound are legal
pub exact_legal : (start : Start) → IsOpening start → (log : Log) → IsExact start log → IsLegal start log
exact_legal start bound log exact = (stands_well start bound log exact).1.legal
