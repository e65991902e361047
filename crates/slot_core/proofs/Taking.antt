-- What a slot of a collection leaves is what the log says.
use Rattle.std.proofs.Common.{◌≡◌, inl, inr, ℕ, ◌+◌, ◌-◌, ◌<◌, ◌==◌, ◌&&◌, not, nat_lt, Bool, true, false, cond, List, [], ◌∷◌, ◌++◌}
use Rattle.std.proofs.Common.{Option, Some, None, refl, ap, sym, ◌∙◌, subst, length, length-set, slice_index, slice_set, slice_index_or}
use Rattle.std.proofs.Common.{unwrap_or, if◌then◌else◌, arith}
use Rattle.std.specs.Prelude.{Contains, count_by, IsSome}
use Rattle.std.specs.List.{last_or}
use Rattle.std.proofs.lemmas.Bool.{ne_eqb, eq-eqb}
use Rattle.std.proofs.lemmas.List.{length_push}
use Rattle.std.proofs.lemmas.List.Sums.{sum_by_push}
use Rattle.slot_types.specs.declared.plans.DiePlan.{DiePlan}
use Rattle.slot_types.specs.declared.acts.Act.{Act}
use Rattle.slot_types.specs.declared.acts.Act.TheVariants as does
use Rattle.slot_types.specs.declared.pages.Place.{Place}
use Rattle.slot_types.specs.declared.replies.Waived.{Waived}
use Rattle.slot_types.specs.Places.{place_of}
use Rattle.plan_rules.specs.Bound.{MeetsBound}
use Rattle.plan_rules.specs.Accounts.{Accounts, given_of, accounts_after_copy, accounts_after_collection}
use Rattle.flash_die.specs.Flash as device
use Rattle.flash_volume.specs.declared.collection.Collection.{Collection}
use Rattle.flash_volume.specs.declared.collection.Collected.{Collected}
use Rattle.flash_volume.specs.declared.collection.Collected.TheVariants as acts_of
use Rattle.flash_volume.specs.Acts.{HasDropped, IsUnplaced, IsFirstInBlock, Reads, Programs, Goes, Finishes, Does}
use Rattle.flash_volume.specs.Cells.{open_in, next_cell}
use Rattle.flash_volume.specs.Running.{running_of, with_buffer, copied_of}
use Rattle.flash_volume.specs.State.{State}
use Rattle.die_log.specs.Model.Log.{Log, Job, jobs, job_at, acts, is_waived}
use Rattle.die_log.specs.Model.Flash.{Block, cells, block_at, free_block}
use Rattle.die_log.specs.Model.Work.{are_all, is_done, is_erase, is_copy_program, victim_of, shown_by}
use Rattle.die_log.specs.Model.Accounts.{accounts, after_waiver, after_waivers}
use Rattle.die_log.specs.Model.Answers.{act_for, collect_act, buffer_after}
use Rattle.die_log.specs.Invariants.TrueAccounts.{is_pending}
use Rattle.die_log.specs.Results.Legal.{changed_since}
use Rattle.die_log.specs.Invariants.SoundCells.{MayDo}
use Rattle.die_log.proofs.Cells.Collections.{last_push, next_may}
use Rattle.die_log.proofs.Legal.Exact.{StandsWell, has_slots}
use Rattle.die_log.proofs.LogInvariants.OneMoreEntry.{act_own, acts_grow}
use Rattle.die_log.proofs.LogInvariants.AfterNoAct.{runs_with}
use Rattle.die_log.proofs.LogInvariants.HeadActs.{IsBegun, begun, act_shows, all_is, erases_push, runs_from}
use Rattle.die_log.proofs.Tokens.Reserves.{reserve_lacks}
use Rattle.slot_core.specs.declared.head_step.HeadStep.{HeadStep}
use Rattle.slot_core.specs.Device.{FlashState, flash_of, counts_of, page_in, AreRunning, IsFlashOf}
use Rattle.slot_core.specs.WithinSlot.{IsWaivedFlash, RunsHead, OthersRun}
use Rattle.slot_core.specs.HeadSteps.{head_step_by}
use Rattle.slot_core.proofs.Collections.{own_running, other_running, OwnRun, running_acted}
use Rattle.slot_core.proofs.Emptying.{copies, reads, erases, collect_is}
use Rattle.slot_core.proofs.Flashing.{counted, slot_entry, slot_with, state_programmed, state_erased, flash-copy_read, flash-copy}
use Rattle.slot_core.proofs.Flashing.{flash-erase}
use Rattle.slot_core.proofs.Opened.{opens_same}
use Rattle.die_log.specs.Model.Start.{Start, over}

-- Waivers

reserves_stay : (past : Log) (ws : List Waived) (a : Accounts) → (after_waivers past ws a).reserves ≡ a.reserves
reserves_stay past [] a = refl
reserves_stay past (w ∷ ws) a = reserves_stay past ws (after_waiver (job_at past w.number) a) ∙ one (job_at past w.number)
  where
    one : (o : Option Job) → (after_waiver o a).reserves ≡ a.reserves
    one None = refl
    one (Some j) = refl

-- A collection that is the head

pub record IsCollector (start : Start) {N : Type 0} (blocks_of : N → List device.Block) (log : Log) (ws : List Waived) (j : Job) (v : State N)
    (c : Collection) : Type 0 where
  pub bound : MeetsBound v.accounts.plan
  pub both : StandsWell (over v.accounts.plan start) log
  pub stands : Contains (jobs log) j
  pub at : job_at log j.number ≡ Some j
  pub collects : j.collects ≡ true
  pub undone : is_done v.accounts.plan log j ≡ false
  pub opened : is_pending v.accounts.plan (λ n. acts n log) (is_waived log) j ≡ true
  pub task : j.task < length v.accounts.plan.caps
  pub flash : IsWaivedFlash (over v.accounts.plan start) log ws (flash_of blocks_of v)
  pub run : RunsHead (over v.accounts.plan start) log j (flash_of blocks_of v) c
  pub others : OthersRun (over v.accounts.plan start) log j (flash_of blocks_of v)

-- what it did: its act, whether that was the last, and what it gave; and the flash is that of the log with that act
pub record IsTaken (start : Start) {N : Type 0} (blocks_of : N → List device.Block) (log : Log) (caller : ℕ) (ws : List Waived) (j : Job) (v w : State N)
    (turn : HeadStep) : Type 0 where
  pub act_is : act_for (over v.accounts.plan start) log j ≡ Some turn.act
  pub last_is : are_all v.accounts.plan j (acts j.number log ++ turn.act ∷ []) ≡ turn.last
  pub given_is : turn.last ≡ true → turn.given ≡ (if j.collects then given_of (after_waivers log ws (accounts (over v.accounts.plan start) log)) j.task
      else 0)
  pub flash : (slot : ℕ) (finished : Option ℕ) → IsFlashOf (over v.accounts.plan start) (slot_with caller slot ws j.number turn.act finished log)
      (flash_of blocks_of w)

-- Its acts

no_erase : (own : List Act) (act : Act) → is_erase act ≡ false → count_by is_erase (own ++ act ∷ []) ≡ count_by is_erase own
no_erase own act e = let none : cond (is_erase act) 1 0 ≡ 0 = ap {B = ℕ} (λ (b : Bool). cond b 1 0) e in omega
    (arith, sum_by_push (λ x. cond (is_erase x) 1 0) own act, none)

-- an act that erases nothing is not the last
goes_on : (plan : DiePlan) (log : Log) (j : Job) (act : Act) → j.collects ≡ true → is_done plan log j ≡ false → is_erase act ≡ false
    → are_all plan j (acts j.number log ++ act ∷ []) ≡ false
goes_on plan log j act collects undone e =
    all_is plan j (acts j.number log ++ act ∷ []) collects
    ∙ (ap (λ (n : ℕ). n == plan.shape.erase_slots) (no_erase (acts j.number log) act e)
    ∙ (sym (all_is plan j (acts j.number log) collects) ∙ undone))

not_both : (a b : Bool) → b ≡ true → (a && not b) ≡ false
not_both true b e = rw e refl
not_both false b e = refl

-- Of one such collection

is_begun : (start : Start) {N : Type 0} (blocks_of : N → List device.Block) (log : Log) (ws : List Waived) (j : Job) (v : State N) (c : Collection)
    → IsCollector start blocks_of log ws j v c → IsBegun (over v.accounts.plan start) log j c.victim
is_begun start blocks_of log ws j v c k = begun (over v.accounts.plan start) log j c.victim k.both.0.collects k.stands k.collects k.undone k.run.victim

-- its block on the device is the log's
block_is : (start : Start) {N : Type 0} (blocks_of : N → List device.Block) (log : Log) (ws : List Waived) (j : Job) (v : State N) (c : Collection)
    → IsCollector start blocks_of log ws j v c → (b : ℕ)
    → counts_of (device.block_at (blocks_of v.device) b) ≡ block_at (cells (over v.accounts.plan start) log) b
block_is start blocks_of log ws j v c k b = counted (blocks_of v.device) b
    ∙ ap (λ (bs : List Block). slice_index_or bs b free_block) k.flash.blocks_are

-- its erase has had as many slots as it did
erased_so_far : (start : Start) {N : Type 0} (blocks_of : N → List device.Block) (log : Log) (ws : List Waived) (j : Job) (v : State N) (c : Collection)
    → IsCollector start blocks_of log ws j v c
    → (device.block_at (blocks_of v.device) c.victim).erasing ≡ count_by is_erase (acts j.number log)
erased_so_far start blocks_of log ws j v c k =
    ap (λ (s : Block). s.erasing) (block_is start blocks_of log ws j v c k c.victim) ∙ (is_begun start blocks_of log ws j v c k).collecting.erases

-- it runs on, after an act that isn't its last
runs_on : (start : Start) {N : Type 0} (blocks_of : N → List device.Block) (log : Log) (caller slot : ℕ) (ws : List Waived) (finished : Option ℕ) (j : Job)
    (v : State N) (c d : Collection) (act : Act) (after : List (Option Collection))
    → IsCollector start blocks_of log ws j v c → act_for (over v.accounts.plan start) log j ≡ Some act
    → are_all v.accounts.plan j (acts j.number log ++ act ∷ []) ≡ false
    → d.victim ≡ c.victim → page_in d ≡ buffer_after (Some act) → after ≡ slice_set v.running j.task (Some d)
    → OwnRun (over v.accounts.plan start) (slot_with caller slot ws j.number act finished log) j after
runs_on start blocks_of log caller slot ws finished j v c d act after k act_is undone victim_is holds after_is = inl (
  d,
  ap (λ (l : List (Option Collection)). running_of l j.task) after_is
      ∙ own_running v.running j.task (Some d) (omega (arith, k.task, k.others.len)),
  record {
    runs = record {
      stands = k.stands;
      running = ap (runs_with v.accounts.plan j) grown ∙ runs_from v.accounts.plan j (acts j.number log ++ act ∷ []) (record {
        collects = k.collects;
        begun = omega (arith, length_push (acts j.number log) act);
        undone = undone;
      });
      victim = ap (shown_by (over v.accounts.plan start) log (victim_of (over v.accounts.plan start) j.number log)) (act_own j.number act)
          ∙ (act_shows (over v.accounts.plan start) log j c.victim act (is_begun start blocks_of log ws j v c k) may ∙ ap Some (sym victim_is));
    };
    task_is = refl;
    holds = holds ∙ ap buffer_after (sym (ap (last_or None) grown ∙ last_push None (acts j.number log) act));
  },
)
  where
    grown : acts j.number (slot_with caller slot ws j.number act finished log) ≡ acts j.number log ++ act ∷ []
    grown = acts_grow j.number (slot_entry caller slot ws j.number act finished) log act (act_own j.number act)

    may : MayDo v.accounts.plan (cells (over v.accounts.plan start) log) (acts j.number log) (λ p. changed_since j.number p log) c.victim act
    may = next_may v.accounts.plan (cells (over v.accounts.plan start) log) (acts j.number log) (λ p. changed_since j.number p log) c.victim act
        (has_slots v.accounts.plan k.bound) k.both.0.collects.sound
        (is_begun start blocks_of log ws j v c k).collecting
        (ap (λ (o : Option ℕ). collect_act v.accounts.plan (cells (over v.accounts.plan start) log) o (Some c.victim)) (sym k.run.holds)
        ∙ (sym (collect_is (over v.accounts.plan start) log j c k.collects k.run.victim k.run.holds) ∙ act_is))

-- it is done with its last act
runs_out : (start : Start) {N : Type 0} (blocks_of : N → List device.Block) (log : Log) (caller slot : ℕ) (ws : List Waived) (finished : Option ℕ) (j : Job)
    (v : State N) (c : Collection) (act : Act) (after : List (Option Collection))
    → IsCollector start blocks_of log ws j v c → are_all v.accounts.plan j (acts j.number log ++ act ∷ []) ≡ true → after
    ≡ slice_set v.running j.task None
    → OwnRun (over v.accounts.plan start) (slot_with caller slot ws j.number act finished log) j after
runs_out start blocks_of log caller slot ws finished j v c act after k done after_is = inr (
  ap (λ (l : List (Option Collection)). running_of l j.task) after_is
      ∙ own_running v.running j.task None (omega (arith, k.task, k.others.len)),
  ap (runs_with v.accounts.plan j) (acts_grow j.number (slot_entry caller slot ws j.number act finished) log act (act_own j.number act))
      ∙ not_both (j.collects && nat_lt 0 (length (acts j.number log ++ act ∷ [])))
      (are_all v.accounts.plan j (acts j.number log ++ act ∷ [])) done,
)

-- the others run as before
all_run : (start : Start) {N : Type 0} (blocks_of : N → List device.Block) (log : Log) (caller slot : ℕ) (ws : List Waived) (finished : Option ℕ) (j : Job)
    (v : State N) (c : Collection) (act : Act) (o : Option Collection) (after : List (Option Collection))
    → IsCollector start blocks_of log ws j v c → after ≡ slice_set v.running j.task o
    → OwnRun (over v.accounts.plan start) (slot_with caller slot ws j.number act finished log) j after
    → AreRunning (over v.accounts.plan start) (slot_with caller slot ws j.number act finished log) after
all_run start blocks_of log caller slot ws finished j v c act o after k after_is own =
    running_acted (over v.accounts.plan start) (slot_entry caller slot ws j.number act finished) log j act (flash_of blocks_of v) after refl refl
    k.both.0.numbered k.stands k.others
    (ap length after_is ∙ (length-set v.running j.task o ∙ k.others.len))
    (λ task apart. ap (λ (l : List (Option Collection)). running_of l task) after_is
    ∙ other_running v.running j.task task o (apart k.collects))
    (λ collects. own)

-- Its step

same_state : (f g : FlashState) → f.tokens ≡ g.tokens → f.pages ≡ g.pages → f.places ≡ g.places → f.blocks ≡ g.blocks → f.running
    ≡ g.running → f ≡ g
same_state f g a b c d e = rw a (rw b (rw c (rw d (rw e refl))))

dropped_there : (start : Start) {N : Type 0} (blocks_of : N → List device.Block) (log : Log) (ws : List Waived) (j : Job) (v : State N) (c : Collection)
    → IsCollector start blocks_of log ws j v c → HasDropped v.places c → HasDropped (cells (over v.accounts.plan start) log).places c
dropped_there start blocks_of log ws j v c k h = subst (λ (ps : List (Option Place)). HasDropped ps c) k.flash.places_are h

took_read : (start : Start) {N : Type 0} (blocks_of : N → List device.Block) (log : Log) (caller : ℕ) (ws : List Waived) (j : Job) (v w : State N)
    (c : Collection) (page : ℕ) → IsCollector start blocks_of log ws j v c → Reads blocks_of v j.task c page w
    → IsTaken start blocks_of log caller ws j v w (head_step_by (acts_of.CopyRead page))
took_read start blocks_of log caller ws j v w c page k d = record {
  act_is = act_is;
  last_is = last_is;
  given_is = λ h. absurd cc;
  flash = λ slot finished.
      subst (IsFlashOf (over v.accounts.plan start) (slot_with caller slot ws j.number (does.CopyRead page) finished log))
      (sym (same_state (flash_of blocks_of w) (record (flash_of blocks_of v) { running = w.running }) d.accounts d.pages d.places
      d.cells refl))
      (flash-copy_read (over v.accounts.plan start) log caller slot ws j page finished (flash_of blocks_of v) w.running k.at k.flash
      (all_run start blocks_of log caller slot ws finished j v c (does.CopyRead page)
      (Some (with_buffer c (Some (copied_of (blocks_of v.device) page d.source)))) w.running k d.running
      (runs_on start blocks_of log caller slot ws finished j v c (with_buffer c (Some (copied_of (blocks_of v.device) page d.source)))
      (does.CopyRead page) w.running k act_is last_is refl refl d.running)));
}
  where
    act_is : act_for (over v.accounts.plan start) log j ≡ Some (does.CopyRead page)
    act_is = reads (over v.accounts.plan start) log j c page d.source k.both.0.collects.sound k.collects k.run.victim k.run.holds
        (dropped_there start blocks_of log ws j v c k d.dropped)
        (subst (λ (ps : List (Option Place)). IsFirstInBlock ps c.victim page d.source) k.flash.places_are d.first)

    last_is : are_all v.accounts.plan j (acts j.number log ++ does.CopyRead page ∷ []) ≡ false
    last_is = goes_on v.accounts.plan log j (does.CopyRead page) k.collects k.undone refl

some_is : (o : Option ℕ) → IsSome o → (b : ℕ) × (o ≡ Some b)
some_is None h = absurd cc
some_is (Some b) h = (b, refl)

next_is : (pages : ℕ) (blocks : List device.Block) (b : ℕ) → open_in pages blocks ≡ Some b → next_cell pages blocks
    ≡ record { block = b; page = length (device.block_at blocks b).pages }
next_is pages blocks b e = ap (λ (o : Option ℕ). record {
  block = unwrap_or o 0;
  page = length
      (device.block_at blocks (unwrap_or o 0)).pages;
}) e

took_copy : (start : Start) {N : Type 0} (blocks_of : N → List device.Block) (log : Log) (caller : ℕ) (ws : List Waived) (j : Job) (v w : State N)
    (c : Collection) (page : ℕ) → IsCollector start blocks_of log ws j v c → Programs blocks_of v j.task c page w
    → IsTaken start blocks_of log caller ws j v w (head_step_by (acts_of.CopyProgram page))
took_copy start blocks_of log caller ws j v w c page k d = record {
  act_is = act_is;
  last_is = last_is;
  given_is = λ h. absurd cc;
  flash = λ slot finished.
      subst (IsFlashOf (over v.accounts.plan start) (slot_with caller slot ws j.number (does.CopyProgram page) finished log))
      (sym (same_state (flash_of blocks_of w) (after b.0) d.accounts d.pages places_are blocks_are refl))
      (flash-copy (over v.accounts.plan start) log caller slot ws j page d.copied.bytes finished (flash_of blocks_of v) w.running b.0 k.at
      (sym (opens_same v.accounts.plan (cells (over v.accounts.plan start) log) (blocks_of v.device) k.flash.blocks_are) ∙ b.1) k.flash
      (all_run start blocks_of log caller slot ws finished j v c (does.CopyProgram page) (Some (with_buffer c None)) w.running k d.running
      (runs_on start blocks_of log caller slot ws finished j v c (with_buffer c None) (does.CopyProgram page) w.running k act_is last_is refl refl
      d.running)));
}
  where
    act_is : act_for (over v.accounts.plan start) log j ≡ Some (does.CopyProgram page)
    act_is =
        copies (over v.accounts.plan start) log j c d.copied k.collects k.run.victim k.run.holds d.holds d.here
        (ap (λ (ps : List (Option Place)). place_of ps d.copied.page) (sym k.flash.places_are)
        ∙ (ap (place_of v.places) d.page_is ∙ d.lies))
        ∙ ap (λ (p : ℕ). Some (does.CopyProgram p)) d.page_is

    last_is : are_all v.accounts.plan j (acts j.number log ++ does.CopyProgram page ∷ []) ≡ false
    last_is = goes_on v.accounts.plan log j (does.CopyProgram page) k.collects k.undone refl

    b : (b : ℕ) × (open_in v.accounts.plan.shape.pages (blocks_of v.device) ≡ Some b)
    b = some_is (open_in v.accounts.plan.shape.pages (blocks_of v.device)) d.finds

    after : ℕ → FlashState
    after o = state_programmed (flash_of blocks_of v) (accounts_after_copy v.accounts j.task) v.pages page o d.copied.bytes w.running

    next : next_cell v.accounts.plan.shape.pages (blocks_of v.device)
        ≡ record { block = b.0; page = length (device.block_at (blocks_of v.device) b.0).pages }
    next = next_is v.accounts.plan.shape.pages (blocks_of v.device) b.0 b.1

    places_are : w.places ≡ (after b.0).places
    places_are = d.places ∙ ap (λ (q : Place). slice_set v.places page (Some q)) next

    blocks_are : blocks_of w.device ≡ (after b.0).blocks
    blocks_are = d.cells ∙ ap (λ (q : Place). device.blocks_after_program (blocks_of v.device) q.block d.copied.bytes) next

-- the erase of its block has one slot more
erase_count : (start : Start) {N : Type 0} (blocks_of : N → List device.Block) (log : Log) (ws : List Waived) (j : Job) (v : State N) (c : Collection)
    (block : ℕ) → IsCollector start blocks_of log ws j v c → block ≡ c.victim
    → are_all v.accounts.plan j (acts j.number log ++ does.Erase block ∷ [])
    ≡ ((device.block_at (blocks_of v.device) block).erasing + 1 == v.accounts.plan.shape.erase_slots)
erase_count start blocks_of log ws j v c block k is =
    all_is v.accounts.plan j (acts j.number log ++ does.Erase block ∷ []) k.collects
    ∙ ap (λ (n : ℕ). n == v.accounts.plan.shape.erase_slots)
    (erases_push (acts j.number log) block ∙ ap (λ (n : ℕ). n + 1) (sym (erased_so_far start blocks_of log ws j v c k)
    ∙ ap (λ (x : ℕ). (device.block_at (blocks_of v.device) x).erasing) (sym is)))

erase_is : (start : Start) {N : Type 0} (blocks_of : N → List device.Block) (log : Log) (ws : List Waived) (j : Job) (v : State N) (c : Collection)
    (block : ℕ) → IsCollector start blocks_of log ws j v c → block ≡ c.victim → HasDropped v.places c → IsUnplaced v.places block
    → act_for (over v.accounts.plan start) log j ≡ Some (does.Erase block)
erase_is start blocks_of log ws j v c block k is dropped unplaced =
    erases (over v.accounts.plan start) log j c k.collects k.run.victim k.run.holds (dropped_there start blocks_of log ws j v c k dropped)
    (subst (λ (ps : List (Option Place)). IsUnplaced ps c.victim) k.flash.places_are (subst (IsUnplaced v.places) is unplaced))
    ∙ ap (λ (b : ℕ). Some (does.Erase b)) (sym is)

took_erase : (start : Start) {N : Type 0} (blocks_of : N → List device.Block) (log : Log) (caller : ℕ) (ws : List Waived) (j : Job) (v w : State N)
    (c : Collection) (block : ℕ) → IsCollector start blocks_of log ws j v c → Goes blocks_of v j.task c block w
    → IsTaken start blocks_of log caller ws j v w (head_step_by (acts_of.EraseSlot block))
took_erase start blocks_of log caller ws j v w c block k d = record {
  act_is = act_is;
  last_is = last_is;
  given_is = λ h. absurd cc;
  flash = λ slot finished.
      subst (IsFlashOf (over v.accounts.plan start) (slot_with caller slot ws j.number (does.Erase block) finished log))
      (sym (same_state (flash_of blocks_of w) (state_erased (flash_of blocks_of v) w.accounts block w.running) refl d.erases.pages
      d.erases.places d.erases.cells refl))
      (flash-erase (over v.accounts.plan start) log caller slot ws j block finished (flash_of blocks_of v) w.accounts w.running k.at refl k.flash
      (d.accounts ∙ (k.flash.accounts_are ∙ sym (ap (λ (b : Bool). cond b
      (accounts_after_collection (waived_by log) j.task (count_by is_copy_program (acts j.number log))) (waived_by log)) last_is)))
      (all_run start blocks_of log caller slot ws finished j v c (does.Erase block) (Some (with_buffer c None)) w.running k d.running
      (runs_on start blocks_of log caller slot ws finished j v c (with_buffer c None) (does.Erase block) w.running k act_is last_is refl refl
      d.running)));
}
  where
    waived_by : Log → Accounts
    waived_by past = after_waivers past ws (accounts (over v.accounts.plan start) past)

    act_is : act_for (over v.accounts.plan start) log j ≡ Some (does.Erase block)
    act_is = erase_is start blocks_of log ws j v c block k d.erases.victim d.dropped d.erases.unplaced

    last_is : are_all v.accounts.plan j (acts j.number log ++ does.Erase block ∷ []) ≡ false
    last_is = erase_count start blocks_of log ws j v c block k d.erases.victim
        ∙ ne_eqb ((device.block_at (blocks_of v.device) block).erasing + 1) v.accounts.plan.shape.erase_slots d.going

-- what its reserve lacks is what it copied
copied_is : (start : Start) {N : Type 0} (blocks_of : N → List device.Block) (log : Log) (ws : List Waived) (j : Job) (v : State N) (c : Collection)
    → IsCollector start blocks_of log ws j v c
    → v.accounts.plan.shape.pages - v.accounts.plan.alpha - slice_index v.accounts.reserves j.task
    ≡ count_by is_copy_program (acts j.number log)
copied_is start blocks_of log ws j v c k =
    let lacks = reserve_lacks (over v.accounts.plan start) log j k.both.1.true_accounts k.at k.task k.opened in
    let same : slice_index v.accounts.reserves j.task ≡ slice_index (accounts (over v.accounts.plan start) log).reserves j.task =
    ap (λ (l : List ℕ). slice_index l j.task) (ap (λ (a : Accounts). a.reserves) k.flash.accounts_are
    ∙ reserves_stay log ws (accounts (over v.accounts.plan start) log)) in
    omega (arith, lacks, same)

took_last : (start : Start) {N : Type 0} (blocks_of : N → List device.Block) (log : Log) (caller : ℕ) (ws : List Waived) (j : Job) (v w : State N)
    (c : Collection) (block gift : ℕ) → IsCollector start blocks_of log ws j v c → Finishes blocks_of v j.task c block gift w
    → IsTaken start blocks_of log caller ws j v w (head_step_by (acts_of.Finished block gift))
took_last start blocks_of log caller ws j v w c block gift k d = record {
  act_is = erase_is start blocks_of log ws j v c block k d.erases.victim d.dropped d.erases.unplaced;
  last_is = last_is;
  given_is = λ h. rw k.collects (d.given ∙ ap (λ (a : Accounts). given_of a j.task) k.flash.accounts_are);
  flash = λ slot finished.
      subst (IsFlashOf (over v.accounts.plan start) (slot_with caller slot ws j.number (does.Erase block) finished log))
      (sym (same_state (flash_of blocks_of w) (state_erased (flash_of blocks_of v) w.accounts block w.running) refl d.erases.pages
      d.erases.places d.erases.cells refl))
      (flash-erase (over v.accounts.plan start) log caller slot ws j block finished (flash_of blocks_of v) w.accounts w.running k.at refl k.flash
      (d.accounts ∙ (ap (λ (n : ℕ). accounts_after_collection v.accounts j.task n) (copied_is start blocks_of log ws j v c k)
      ∙ (ap (λ (a : Accounts). accounts_after_collection a j.task (count_by is_copy_program (acts j.number log))) k.flash.accounts_are
      ∙ sym (ap (λ (b : Bool). cond b (accounts_after_collection (waived_by log) j.task (count_by is_copy_program (acts j.number log))) (waived_by log))
      last_is))))
      (all_run start blocks_of log caller slot ws finished j v c (does.Erase block) None w.running k d.running
      (runs_out start blocks_of log caller slot ws finished j v c (does.Erase block) w.running k last_is d.running)));
}
  where
    waived_by : Log → Accounts
    waived_by past = after_waivers past ws (accounts (over v.accounts.plan start) past)

    last_is : are_all v.accounts.plan j (acts j.number log ++ does.Erase block ∷ []) ≡ true
    last_is = erase_count start blocks_of log ws j v c block k d.erases.victim
        ∙ eq-eqb ((device.block_at (blocks_of v.device) block).erasing + 1) v.accounts.plan.shape.erase_slots d.last

pub took : (start : Start) {N : Type 0} (blocks_of : N → List device.Block) (log : Log) (caller : ℕ) (ws : List Waived) (j : Job) (v w : State N)
    (c : Collection) (did : Collected) → IsCollector start blocks_of log ws j v c → Does blocks_of v j.task c did w
    → IsTaken start blocks_of log caller ws j v w (head_step_by did)
took start blocks_of log caller ws j v w c (acts_of.CopyRead page) k d = took_read start blocks_of log caller ws j v w c page k d
took start blocks_of log caller ws j v w c (acts_of.CopyProgram page) k d = took_copy start blocks_of log caller ws j v w c page k d
took start blocks_of log caller ws j v w c (acts_of.EraseSlot block) k d = took_erase start blocks_of log caller ws j v w c block k d
took start blocks_of log caller ws j v w c (acts_of.Finished block given) k d = took_last start blocks_of log caller ws j v w c block given k d

-- the plan stays, and the volume has not failed
pub did_leaves : {N : Type 0} (blocks_of : N → List device.Block) (v w : State N) (task : ℕ) (c : Collection) (did : Collected)
    → Does blocks_of v task c did w → (w.accounts.plan ≡ v.accounts.plan) × (w.failed ≡ false)
did_leaves blocks_of v w task c (acts_of.CopyRead page) d = (ap (λ (a : Accounts). a.plan) d.accounts, d.well)
did_leaves blocks_of v w task c (acts_of.CopyProgram page) d = (ap (λ (a : Accounts). a.plan) d.accounts, d.well)
did_leaves blocks_of v w task c (acts_of.EraseSlot block) d = (ap (λ (a : Accounts). a.plan) d.accounts, d.erases.well)
did_leaves blocks_of v w task c (acts_of.Finished block given) d = (ap (λ (a : Accounts). a.plan) d.accounts, d.erases.well)
