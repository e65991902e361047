-- What one more entry of a log does to the flash of its die.
use Rattle.std.proofs.Common.{◌≡◌, ◌⊎◌, inl, inr, ℕ, zero, suc, ◌+◌, ◌==◌, Bool, true, false, cond, List, [], ◌∷◌, ◌++◌, Option, Some, None}
use Rattle.std.proofs.Common.{refl, ap, sym, ◌∙◌, subst, length, map, slice_set, slice_index_or, get_or, replicate, arith}
use Rattle.std.specs.Prelude.{Contains}
use Rattle.std.proofs.lemmas.List.{map-set, length_push}
use Rattle.std.proofs.lemmas.List.Elements.{Contains-append_left, Contains-push_cases}
use Rattle.slot_types.specs.declared.plans.DiePlan.{DiePlan}
use Rattle.slot_types.specs.declared.acts.Act.{Act}
use Rattle.slot_types.specs.declared.acts.Act.TheVariants as does
use Rattle.slot_types.specs.declared.events.Op.{Op}
use Rattle.slot_types.specs.declared.events.Event.TheVariants as events
use Rattle.slot_types.specs.declared.replies.Reply.TheVariants as replies
use Rattle.slot_types.specs.declared.replies.Waived.{Waived}
use Rattle.slot_types.specs.declared.pages.PageData.{PageData}
use Rattle.slot_types.specs.declared.replies.Entry.{Entry}
use Rattle.plan_rules.specs.Accounts.{Accounts, accounts_after_admit, accounts_after_write, accounts_after_copy, opening_accounts}
use Rattle.flash_volume.specs.declared.collection.Collection.{Collection}
use Rattle.flash_die.specs.Flash as device
use Rattle.die_log.specs.Model.Log.{Log, Job, jobs, job_at, act_of, acts}
use Rattle.die_log.specs.Model.Flash.{Block, Cells, block_at, contents, cells, open_block, block_after_erase_slot, ran_by, free_block, content}
use Rattle.slot_types.specs.Operations.{writes}
use Rattle.die_log.specs.Model.Accounts.{accounts, after_act, after_waivers}
use Rattle.die_log.specs.Model.Answers.{IsExact, is_running}
use Rattle.die_log.proofs.Collecting.{no_acts}
use Rattle.die_log.proofs.LogInvariants.OneMoreEntry.{acts_stay}
use Rattle.die_log.proofs.LogInvariants.AfterNoAct.{runs_says}
use Rattle.die_log.proofs.Legality.{entry}
use Rattle.slot_core.specs.Device.{FlashState, counts_of, IsFlashOf, AreRunning}
use Rattle.slot_core.specs.WithinSlot.{IsWaivedFlash}
use Rattle.slot_core.proofs.Collections.{none_running, running_quiet}
use Rattle.die_log.specs.Model.Start.{Start, fresh}

-- A fresh die

map_replicate : (n : ℕ) → map counts_of (replicate n device.free_block) ≡ replicate n free_block
map_replicate zero = refl
map_replicate (suc n) = ap (λ bs. free_block ∷ bs) (map_replicate n)

abbrev pub fresh_state : DiePlan → FlashState
fresh_state plan = record {
  tokens = opening_accounts plan;
  pages = replicate plan.logical device.blank;
  places = replicate plan.logical None;
  blocks = replicate plan.shape.blocks device.free_block;
  running = replicate (length plan.caps) None;
}

pub fresh_flash : (plan : DiePlan) → IsFlashOf (fresh plan) [] (fresh_state plan)
fresh_flash plan = record {
  accounts_are = refl;
  pages_are = refl;
  places_are = refl;
  blocks_are = map_replicate plan.shape.blocks;
  running_are = none_running (fresh plan);
}

-- Arrivals

-- what arrives has not begun
running_taken : (start : Start) (e : Entry) (past : Log) (new : Job) (running : List (Option Collection)) → ran_by e.reply ≡ None
    → jobs (e ∷ past) ≡ jobs past ++ new ∷ [] → new.number ≡ length (jobs past)
    → acts (length (jobs past)) past ≡ [] → AreRunning start past running → AreRunning start (e ∷ past) running
running_taken start e past new running none same is nil r = running_quiet start e past running none
    (λ j h. subst (λ (js : List Job). Contains js j) (sym same) (Contains-append_left (jobs past) (new ∷ []) j h))
    (λ j h runs. old_by_case j runs (Contains-push_cases (jobs past) new j (subst (λ (js : List Job). Contains js j) same h))) r
  where
    new_nil : (j : Job) → new ≡ j → acts j.number (e ∷ past) ≡ []
    new_nil j it = acts_stay j.number e past (ap (act_of j.number) none)
        ∙ (ap (λ (n : ℕ). acts n past) (sym (ap (λ (x : Job). x.number) it) ∙ is) ∙ nil)

    old_by_case : (j : Job) → is_running start.plan (e ∷ past) j ≡ true → Contains (jobs past) j ⊎ (new ≡ j) → Contains (jobs past) j
    old_by_case j runs (inl h) = h
    old_by_case j runs (inr it) = absurd (omega (arith, (runs_says start.plan j (acts j.number (e ∷ past)) runs).begun, ap length (new_nil j it)))

pub flash-submit : (start : Start) (past : Log) (caller task release due : ℕ) (ops : List Op) (f : FlashState) → IsExact start past
    → IsFlashOf start past f
    → IsFlashOf start (entry caller (events.Submit task release due ops) (replies.Taken (length (jobs past))) ∷ past)
    (record f { tokens = accounts_after_admit f.tokens task (writes ops) })
flash-submit start past caller task release due ops f exact h = record {
  accounts_are = ap (λ a. accounts_after_admit a task (writes ops)) h.accounts_are;
  pages_are = h.pages_are;
  places_are = h.places_are;
  blocks_are = h.blocks_are;
  running_are = running_taken start (entry caller (events.Submit task release due ops) (replies.Taken (length (jobs past)))) past _ f.running
      refl refl refl (no_acts start past exact) h.running_are;
}

pub flash-collect : (start : Start) (past : Log) (caller task release due : ℕ) (f : FlashState) → IsExact start past → IsFlashOf start past f
    → IsFlashOf start (entry caller (events.Collect task release due) (replies.Taken (length (jobs past))) ∷ past) f
flash-collect start past caller task release due f exact h = record {
  accounts_are = h.accounts_are;
  pages_are = h.pages_are;
  places_are = h.places_are;
  blocks_are = h.blocks_are;
  running_are = running_taken start (entry caller (events.Collect task release due) (replies.Taken (length (jobs past)))) past _ f.running
      refl refl refl (no_acts start past exact) h.running_are;
}

-- Slots

pub unwaived_flash : (start : Start) (past : Log) (f : FlashState) → IsFlashOf start past f → IsWaivedFlash start past [] f
unwaived_flash start past f h = record {
  accounts_are = h.accounts_are;
  pages_are = h.pages_are;
  places_are = h.places_are;
  blocks_are =
      h.blocks_are;
}

pub flash-idle : (start : Start) (past : Log) (caller slot : ℕ) (ws : List Waived) (f : FlashState) → IsWaivedFlash start past ws f
    → AreRunning start past f.running
    → IsFlashOf start (entry caller events.Slot (replies.Slot (record { slot = slot; waived = ws; ran = None; finished = None })) ∷ past) f
flash-idle start past caller slot ws f h r = record {
  accounts_are = h.accounts_are;
  pages_are = h.pages_are;
  places_are = h.places_are;
  blocks_are = h.blocks_are;
  running_are = running_quiet start (entry caller events.Slot
      (replies.Slot (record { slot = slot; waived = ws; ran = None; finished = None }))) past f.running refl (λ j h. h) (λ j h runs. h) r;
}

abbrev pub slot_entry : ℕ → ℕ → List Waived → ℕ → Act → Option ℕ → Entry
slot_entry caller slot ws number act finished = entry caller events.Slot
    (replies.Slot (record { slot = slot; waived = ws; ran = Some (number, act); finished = finished }))

abbrev pub slot_with : ℕ → ℕ → List Waived → ℕ → Act → Option ℕ → Log → Log
slot_with caller slot ws number act finished past = slot_entry caller slot ws number act finished ∷ past

pub flash-read : (start : Start) (past : Log) (caller slot : ℕ) (ws : List Waived) (j : Job) (page : ℕ) (bytes : PageData)
    (finished : Option ℕ) (f : FlashState)
    → job_at past j.number ≡ Some j → IsWaivedFlash start past ws f
    → AreRunning start (slot_with caller slot ws j.number (does.Read page bytes) finished past) f.running
    → IsFlashOf start (slot_with caller slot ws j.number (does.Read page bytes) finished past) f
flash-read start past caller slot ws j page bytes finished f at h r =
    record {
      accounts_are = rw at h.accounts_are;
      pages_are = h.pages_are;
      places_are = h.places_are;
      blocks_are = h.blocks_are;
      running_are
          = r;
    }

-- a copy's read
pub flash-copy_read : (start : Start) (past : Log) (caller slot : ℕ) (ws : List Waived) (j : Job) (page : ℕ) (finished : Option ℕ)
    (f : FlashState) (running : List (Option Collection))
    → job_at past j.number ≡ Some j → IsWaivedFlash start past ws f
    → AreRunning start (slot_with caller slot ws j.number (does.CopyRead page) finished past) running
    → IsFlashOf start (slot_with caller slot ws j.number (does.CopyRead page) finished past) (record f { running = running })
flash-copy_read start past caller slot ws j page finished f running at h r =
    record {
      accounts_are = rw at h.accounts_are;
      pages_are = h.pages_are;
      places_are = h.places_are;
      blocks_are = h.blocks_are;
      running_are
          = r;
    }

-- a block of the device, as the log counts it
pub counted : (blocks : List device.Block) (b : ℕ) → counts_of (device.block_at blocks b)
    ≡ slice_index_or (map counts_of blocks) b free_block
counted blocks b = sym (by_get blocks b)
  where
    by_get : (bs : List device.Block) (k : ℕ) → get_or (map counts_of bs) k free_block ≡ counts_of (slice_index_or bs k device.free_block)
    by_get [] k = refl
    by_get (x ∷ bs) zero = refl
    by_get (x ∷ bs) (suc k) = by_get bs k

programmed_counts : (blocks : List device.Block) (b : ℕ) (bytes : PageData) (c : Cells) → map counts_of blocks ≡ c.blocks
    → map counts_of (device.blocks_after_program blocks b bytes) ≡ slice_set c.blocks b (record (block_at c b) { filled = (block_at c b).filled + 1 })
programmed_counts blocks b bytes c is =
    map-set counts_of blocks b _
    ∙ (ap (λ n. slice_set (map counts_of blocks) b (record
    { filled = n; erasing = (device.block_at blocks b).erasing; erases = (device.block_at blocks b).erases }))
    (length_push (device.block_at blocks b).pages bytes)
    ∙ (ap (λ (s : Block). slice_set (map counts_of blocks) b (record s { filled = s.filled + 1 })) (counted blocks b)
    ∙ ap (λ (bs : List Block). slice_set bs b (record (slice_index_or bs b free_block)
    { filled = (slice_index_or bs b free_block).filled + 1 })) is))

-- a program of the open block of the log
abbrev pub state_programmed : FlashState → Accounts → List PageData → ℕ → ℕ → PageData → List (Option Collection) → FlashState
state_programmed f tokens pages page b bytes running = record {
  tokens = tokens;
  pages = pages;
  places = slice_set f.places page (Some (record { block = b; page = length (device.block_at f.blocks b).pages }));
  blocks = device.blocks_after_program f.blocks b bytes;
  running = running;
}

place_is : (start : Start) (past : Log) (page b : ℕ) (f : FlashState) → map counts_of f.blocks ≡ (cells start past).blocks
    → slice_set f.places page (Some (record { block = b; page = length (device.block_at f.blocks b).pages }))
    ≡ slice_set f.places page (Some (record { block = b; page = (block_at (cells start past) b).filled }))
place_is start past page b f is =
    ap (λ (n : ℕ). slice_set f.places page (Some (record { block = b; page = n })))
    (ap (λ (s : Block). s.filled) (counted f.blocks b) ∙ ap (λ (bs : List Block). (slice_index_or bs b free_block).filled) is)

-- a write
pub flash-write : (start : Start) (past : Log) (caller slot : ℕ) (ws : List Waived) (j : Job) (page : ℕ) (bytes : PageData)
    (finished : Option ℕ) (f : FlashState) (b : ℕ)
    → job_at past j.number ≡ Some j → open_block start.plan (cells start past) ≡ Some b → IsWaivedFlash start past ws f
    → AreRunning start (slot_with caller slot ws j.number (does.Write page bytes) finished past) f.running
    → IsFlashOf start (slot_with caller slot ws j.number (does.Write page bytes) finished past)
    (state_programmed f (accounts_after_write f.tokens j.task) (slice_set f.pages page bytes) page b bytes f.running)
flash-write start past caller slot ws j page bytes finished f b at opens h r = record {
  accounts_are = rw at (ap (λ a. accounts_after_write a j.task) h.accounts_are);
  pages_are = ap (λ ps. slice_set ps page bytes) h.pages_are;
  places_are = rw opens (place_is start past page b f h.blocks_are
      ∙ ap (λ ps. slice_set ps page (Some (record { block = b; page = (block_at (cells start past) b).filled }))) h.places_are);
  blocks_are = rw opens (programmed_counts f.blocks b bytes (cells start past) h.blocks_are);
  running_are = r;
}

-- a trim
pub flash-trim : (start : Start) (past : Log) (caller slot : ℕ) (ws : List Waived) (j : Job) (page : ℕ) (finished : Option ℕ)
    (f : FlashState)
    → job_at past j.number ≡ Some j → IsWaivedFlash start past ws f
    → AreRunning start (slot_with caller slot ws j.number (does.Trim page) finished past) f.running
    → IsFlashOf start (slot_with caller slot ws j.number (does.Trim page) finished past)
    (record f { pages = slice_set f.pages page device.blank; places = slice_set f.places page None })
flash-trim start past caller slot ws j page finished f at h r = record {
  accounts_are = rw at h.accounts_are;
  pages_are = ap (λ ps. slice_set ps page device.blank) h.pages_are;
  places_are = ap (λ ps. slice_set ps page None) h.places_are;
  blocks_are = h.blocks_are;
  running_are = r;
}

-- a copy's program
pub flash-copy : (start : Start) (past : Log) (caller slot : ℕ) (ws : List Waived) (j : Job) (page : ℕ) (bytes : PageData)
    (finished : Option ℕ) (f : FlashState) (running : List (Option Collection)) (b : ℕ)
    → job_at past j.number ≡ Some j → open_block start.plan (cells start past) ≡ Some b → IsWaivedFlash start past ws f
    → AreRunning start (slot_with caller slot ws j.number (does.CopyProgram page) finished past) running
    → IsFlashOf start (slot_with caller slot ws j.number (does.CopyProgram page) finished past)
    (state_programmed f (accounts_after_copy f.tokens j.task) f.pages page b bytes running)
flash-copy start past caller slot ws j page bytes finished f running b at opens h r = record {
  accounts_are = rw at (ap (λ a. accounts_after_copy a j.task) h.accounts_are);
  pages_are = h.pages_are;
  places_are = rw opens (place_is start past page b f h.blocks_are
      ∙ ap (λ ps. slice_set ps page (Some (record { block = b; page = (block_at (cells start past) b).filled }))) h.places_are);
  blocks_are = rw opens (programmed_counts f.blocks b bytes (cells start past) h.blocks_are);
  running_are = r;
}

-- a slot of an erase
erased_counts : (slots : ℕ) (blocks : List device.Block) (b : ℕ) (plan : DiePlan) (c : Cells) → slots ≡ plan.shape.erase_slots
    → map counts_of blocks ≡ c.blocks
    → map counts_of (device.blocks_after_erase_slot blocks slots b) ≡ slice_set c.blocks b (block_after_erase_slot plan (block_at c b))
erased_counts slots blocks b plan c slots_are is =
    map-set counts_of blocks b _
    ∙ (ap (λ s. slice_set (map counts_of blocks) b s) (once (device.block_at blocks b) (device.block_at blocks b).erasing refl)
    ∙ (ap (λ (s : Block). slice_set (map counts_of blocks) b (block_after_erase_slot plan s)) (counted blocks b)
    ∙ ap (λ (bs : List Block). slice_set bs b (block_after_erase_slot plan (slice_index_or bs b free_block))) is))
  where
    by_test : (t : Bool) (s : device.Block)
        → counts_of (cond t (record { pages = []; erasing = 0; erases = s.erases + 1 }) (record s { erasing = s.erasing + 1 }))
        ≡ cond t (record { filled = 0; erasing = 0; erases = s.erases + 1 }) (record (counts_of s) { erasing = s.erasing + 1 })
    by_test true s = refl
    by_test false s = refl

    once : (s : device.Block) (n : ℕ) → s.erasing ≡ n → counts_of (device.block_after_erase_slot slots s) ≡ block_after_erase_slot plan (counts_of s)
    once s n e = by_test (s.erasing + 1 == slots) s ∙ ap
        (λ (t : ℕ). cond (s.erasing + 1 == t) (record { filled = 0; erasing = 0; erases = s.erases + 1 })
        (record (counts_of s) { erasing = s.erasing + 1 })) slots_are

abbrev pub state_erased : FlashState → Accounts → ℕ → List (Option Collection) → FlashState
state_erased f tokens b running = record {
  tokens = tokens;
  pages = f.pages;
  places = f.places;
  blocks = device.blocks_after_erase_slot f.blocks
      f.tokens.plan.shape.erase_slots b;
  running = running;
}

pub flash-erase : (start : Start) (past : Log) (caller slot : ℕ) (ws : List Waived) (j : Job) (b : ℕ) (finished : Option ℕ)
    (f : FlashState) (tokens : Accounts) (running : List (Option Collection))
    → job_at past j.number ≡ Some j → f.tokens.plan ≡ start.plan → IsWaivedFlash start past ws f
    → tokens ≡ after_act start.plan (Some j) (acts j.number past) (does.Erase b) (after_waivers past ws (accounts start past))
    → AreRunning start (slot_with caller slot ws j.number (does.Erase b) finished past) running
    → IsFlashOf start (slot_with caller slot ws j.number (does.Erase b) finished past) (state_erased f tokens b running)
flash-erase start past caller slot ws j b finished f tokens running at plan_is h tokens_are r = record {
  accounts_are = rw at tokens_are;
  pages_are = h.pages_are;
  places_are = h.places_are;
  blocks_are = erased_counts f.tokens.plan.shape.erase_slots f.blocks b start.plan (cells start past)
      (ap (λ (p : DiePlan). p.shape.erase_slots) plan_is) h.blocks_are;
  running_are = r;
}

-- what a read gives is the page's content
pub content_is : (start : Start) (past : Log) (pages : List PageData) (page : ℕ) → pages ≡ contents start past
    → slice_index_or pages page device.blank ≡ content start past page
content_is start past pages page is = ap (λ (ps : List PageData). slice_index_or ps page device.blank) is
