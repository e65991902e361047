-- What fits a plan is exactly an opening, and an opening is what its checkpoint makes.
use Rattle.std.proofs.Common.{◌≡◌, ◌≢◌, ℕ, suc, ◌+◌, ◌-◌, ◌*◌, ◌<◌, ◌≤◌, List, [], ◌∷◌, length, get_or, map, Option, Some, None, refl, sym, ap, ◌∙◌}
use Rattle.std.proofs.Common.{subst, arith, inl, inr, sum_by, Bool, false}
use Rattle.std.specs.Prelude.{replicate, Contains}
use Rattle.std.proofs.lemmas.Bool.{cases_lt}
use Rattle.std.proofs.lemmas.List.{get_or-map, get_or_past, length-map, length-replicate, get_or-replicate, ext_get_or}
use Rattle.std.proofs.lemmas.List.Sums.{sum_by-cons}
use Rattle.std.proofs.lemmas.List.Folds.{sum_by-replicate}
use Rattle.slot_types.specs.declared.pages.Place.{Place}
use Rattle.slot_types.specs.declared.pages.PageData.{PageData}
use Rattle.slot_types.specs.declared.plans.DiePlan.{DiePlan}
use Rattle.slot_types.specs.declared.plans.Shape.{Shape}
use Rattle.slot_types.specs.Places.{place_of}
use Rattle.plan_rules.specs.Accounts.{Accounts}
use Rattle.page_ledger.specs.Quiet.{quiet_accounts}
use Rattle.die_checkpoint.specs.declared.checkpoint.BlockCounts.{BlockCounts}
use Rattle.die_checkpoint.specs.declared.checkpoint.Checkpoint.{Checkpoint}
use Rattle.die_checkpoint.specs.Counts.{no_counts, counts_at, free_in}
use Rattle.die_checkpoint.specs.Fits.{Fits, free_pages}
use Rattle.flash_die.specs.Flash as device
use Rattle.flash_volume.specs.Cells as volume
use Rattle.flash_volume.specs.Checkpoints as left_volume
use Rattle.flash_volume.specs.Running.{running_of}
use Rattle.flash_volume.specs.declared.collection.Collection.{Collection}
use Rattle.flash_volume.proofs.Fresh.{none_running}
use Rattle.job_table.specs.Table.{Table, empty_table}
use Rattle.flash_volume.specs.State.{State}
use Rattle.die_log.specs.Model.Start.{Start, Block, blank_page, free_block, over}
use Rattle.die_log.specs.Model.Flash.{cells}
use Rattle.die_log.specs.Model.Flash as flash
use Rattle.die_log.specs.Invariants.TrueAccounts.{AccountsAgree}
use Rattle.die_log.specs.Model.Opening.{IsOpening, IsQuiet, CanBeErased, renewed_start}
use Rattle.die_log.specs.Model.Log.{Log, Job}
use Rattle.die_log.proofs.Renewal.{renewed_opens}
use Rattle.slot_core.specs.Device.{flash_of, IsFlashOf, counts_of}
use Rattle.slot_core.specs.Agreement.{AgreeWithLog}
use Rattle.slot_core.specs.Resumptions.{counts_in, idle_block, checkpoint_of, start_with, resumed_start}

-- Blocks

-- a block of a start that a checkpoint makes
idle_at : (said : List BlockCounts) (b : ℕ) → get_or (map idle_block said) b free_block ≡ idle_block (counts_at said b)
idle_at said b =
    elim (cases_lt b (length said)) [
      | inl below ↦ get_or-map idle_block said b no_counts free_block below
      | inr past ↦ get_or_past (map idle_block said) b free_block (omega (arith, past, length-map said idle_block))
          ∙ ap idle_block (sym (get_or_past said b no_counts past))
    ]

free_made : (plan : DiePlan) (said : List BlockCounts) → sum_by (flash.free_in plan) (map idle_block said)
    ≡ sum_by (free_in plan.shape.pages) said
free_made plan [] = refl
free_made plan (b ∷ bs) = sum_by-cons (flash.free_in plan) (idle_block b) (map idle_block bs)
    ∙ ap (λ (n : ℕ). (plan.shape.pages - b.filled) + n) (free_made plan bs)
    ∙ sym (sum_by-cons (free_in plan.shape.pages) b bs)

-- What fits is an opening

pub fits_opens : (plan : DiePlan) (c : Checkpoint) (blocks : List device.Block) → Fits plan c → IsOpening (resumed_start plan c blocks)
fits_opens plan c blocks fits =
    let all = fits.all_else.blocks in
    let n = length plan.caps in
    let reserve = plan.shape.pages - plan.alpha in
    let filled : (b : ℕ) → (get_or (map idle_block c.blocks) b free_block).filled ≡ (counts_at c.blocks b).filled = λ b.
    ap (λ (x : Block). x.filled) (idle_at c.blocks b) in
    let idle : (b : ℕ) → (get_or (map idle_block c.blocks) b free_block).erasing ≡ 0 = λ b.
    ap (λ (x : Block). x.erasing) (idle_at c.blocks b) in
    let nothing : (task : ℕ) → get_or (replicate n 0) task 0 ≡ 0 = λ task. elim (cases_lt task n) [
      | inl below ↦ get_or-replicate n task 0 0 below
      | inr past ↦ get_or_past (replicate n 0) task 0 (omega (arith, past, length-replicate {A = ℕ} n 0))
    ] in
    record {
      bound = all.plan_is.bound;
      sound = record {
        blocks = length-map c.blocks idle_block ∙ all.plan_is.shape.blocks;
        places = all.plan_is.shape.pages;
        within = λ b. omega (arith, filled b, all.within b);
        placed = λ page q lies. omega (arith, filled q.block, fits.all_else.placed page q lies);
        apart = λ page other q r lies also same_block same_page. fits.apart.apart page other q lies
            (also ∙ sym (ap Some (one_place q r same_block same_page)));
        one_open = λ a b is also. all.one_open a b
            (omega (arith, filled a, is.0), omega (arith, filled a, is.1)) (omega (arith, filled b, also.0), omega (arith, filled b, also.1));
        erasing = λ b some. absurd (omega (arith, idle b, some));
      };
      idle = idle;
      agree = record {
        plan_is = refl;
        balances_len = all.plan_is.shape.tasks;
        holds_len = length-replicate {A = ℕ} n 0;
        reserves_len = length-replicate n reserve;
        owned = λ task. omega (arith, nothing task, fits.all_else.capped task);
        holds_are = λ task below. nothing task;
        reserves_are = λ task below. omega (arith, get_or-replicate n task reserve 0 below);
        owed_is = omega (arith, sum_by-replicate (λ (k : ℕ). k) n 0);
        total_is = omega (
          arith,
          sum_by-replicate (λ (k : ℕ). k) n 0,
          sum_by-replicate (λ (k : ℕ). k) n reserve,
          fits.all_else.sums,
          free_made plan c.blocks,
        );
      };
      pages = length-map c.places (volume.content_at blocks) ∙ all.plan_is.shape.pages;
      blank = λ page nowhere. elim (cases_lt page (length c.places)) [
        | inl below ↦ get_or-map (volume.content_at blocks) c.places page None blank_page below ∙ ap (volume.content_at blocks) nowhere
        | inr past ↦ get_or_past (map (volume.content_at blocks) c.places) page blank_page
            (omega (arith, past, length-map c.places (volume.content_at blocks)))
      ];
    }
  where
    one_place : (q r : Place) → q.block ≡ r.block → q.page ≡ r.page → q ≡ r
    one_place q r e f = λ i. record { block = e i; page = f i }

pub fits_erased : (plan : DiePlan) (c : Checkpoint) (blocks : List device.Block) → Fits plan c → CanBeErased (resumed_start plan c blocks)
fits_erased plan c blocks fits b = omega (
  arith,
  ap (λ (x : Block). x.erases) (idle_at c.blocks b),
  fits.all_else.blocks.unworn b,
)

-- An opening fits

pub opening_fits : (plan : DiePlan) (c : Checkpoint) (pages : List PageData) → IsOpening (start_with plan c pages)
    → CanBeErased (start_with plan c pages) → Fits plan c
opening_fits plan c pages opens left =
    let n = length plan.caps in
    let reserve = plan.shape.pages - plan.alpha in
    let filled : (b : ℕ) → (get_or (map idle_block c.blocks) b free_block).filled ≡ (counts_at c.blocks b).filled = λ b.
    ap (λ (x : Block). x.filled) (idle_at c.blocks b) in
    record {
      all_else = record {
        blocks = record {
          plan_is = record {
            shape = record {
              blocks = sym (length-map c.blocks idle_block) ∙ opens.sound.blocks;
              pages = opens.sound.places;
              tasks = opens.agree.balances_len;
            };
            bound = opens.bound;
          };
          within = λ b. omega (arith, filled b, opens.sound.within b);
          one_open = λ a b is also. opens.sound.one_open a b
              (omega (arith, filled a, is.0), omega (arith, filled a, is.1)) (omega (arith, filled b, also.0), omega (arith, filled b, also.1));
          unworn = λ b. omega (arith, ap (λ (x : Block). x.erases) (idle_at c.blocks b), left b);
        };
        placed = λ page q lies. omega (arith, filled q.block, opens.sound.placed page q lies);
        capped = λ task. omega (arith, opens.agree.owned task);
        sums = omega (
          arith,
          sum_by-replicate (λ (k : ℕ). k) n 0,
          sum_by-replicate (λ (k : ℕ). k) n reserve,
          opens.agree.total_is,
          free_made plan c.blocks,
        );
      };
      apart = record { apart = λ i j place lies also. opens.sound.apart i j place place lies also refl refl };
    }

-- An opening is what its checkpoint makes

idle_again : (bs : List Block) → ((k : ℕ) → (get_or bs k free_block).erasing ≡ 0) → map idle_block (map counts_in bs) ≡ bs
idle_again [] h = refl
idle_again (b ∷ bs) h = λ i. record { filled = b.filled; erasing = sym (h 0) i; erases = b.erases } ∷ idle_again bs (λ k. h (suc k)) i

quiet_again : (plan : DiePlan) (a : Accounts) (free : ℕ) → AccountsAgree plan a (λ task. 0) (λ task. 0) 0 free
    → quiet_accounts plan a.spare a.balances ≡ a
quiet_again plan a free g =
    let n = length plan.caps in
    let reserve = plan.shape.pages - plan.alpha in
    let holds : replicate n 0 ≡ a.holds = sym (ext_get_or 0 a.holds (replicate n 0) (g.holds_len ∙ sym (length-replicate {A = ℕ} n 0))
    (λ k inside. g.holds_are k (omega (arith, inside, g.holds_len))
    ∙ sym (get_or-replicate n k 0 0 (omega (arith, inside, g.holds_len))))) in
    let reserves : replicate n reserve ≡ a.reserves = sym (ext_get_or 0 a.reserves (replicate n reserve)
    (g.reserves_len ∙ sym (length-replicate n reserve))
    (λ k inside. let below : k < n = omega (arith, inside, g.reserves_len) in
    omega (arith, g.reserves_are k below, get_or-replicate n k reserve 0 below))) in
    λ i. record { plan = sym g.plan_is i; spare = a.spare; balances = a.balances; holds = holds i; reserves = reserves i }

pub opening_again : (s : Start) → IsOpening s → start_with s.plan (checkpoint_of s) s.contents ≡ s
opening_again s opens = λ i. record {
  plan = s.plan;
  contents = s.contents;
  cells = record { blocks = idle_again s.cells.blocks opens.idle i; places = s.cells.places };
  accounts = quiet_again s.plan s.accounts _ opens.agree i;
}

-- What stands on a die's flash

-- a block of a log as its device has it
counted_at : (bs : List device.Block) (b : ℕ) → get_or (map counts_of bs) b free_block ≡ counts_of (device.block_at bs b)
counted_at bs b =
    elim (cases_lt b (length bs)) [
      | inl below ↦ get_or-map counts_of bs b device.free_block free_block below
      | inr past ↦ get_or_past (map counts_of bs) b free_block (omega (arith, past, length-map bs counts_of))
          ∙ ap counts_of (sym (get_or_past bs b device.free_block past))
    ]

counted_again : (bs : List device.Block) → map left_volume.counts_of bs ≡ map counts_in (map counts_of bs)
counted_again [] = refl
counted_again (b ∷ bs) = ap (λ (l : List BlockCounts). left_volume.counts_of b ∷ l) (counted_again bs)

-- a die that may be renewed, and the checkpoint that its volume gives
module _ {N : Type 0} (blocks_of : N → List device.Block) (start : Start) (log : Log) (present : ℕ) (t : Table) (v : State N) (c : Checkpoint)
    (k : AgreeWithLog start log present t v.failed (flash_of blocks_of v)) (alive : v.failed ≡ false) (quiet : IsQuiet start log)
    (taken : c ≡ left_volume.checkpoint_of blocks_of v) where
  opens : IsOpening (renewed_start start log)
  opens = renewed_opens start log k.bound k.exact quiet

  f : IsFlashOf start log (flash_of blocks_of v)
  f = k.flash alive

  blocks_reported : map left_volume.counts_of (blocks_of v.device) ≡ map counts_in (cells start log).blocks
  blocks_reported = counted_again (blocks_of v.device) ∙ ap (map counts_in) f.blocks_are

  pub taken_reported : c ≡ checkpoint_of (renewed_start start log)
  taken_reported = taken ∙ (λ i. record {
    places = f.places_are i;
    blocks = blocks_reported i;
    spare = (f.accounts_are i).spare;
    balances = (f.accounts_are i).balances;
  })

  pub idle_reported : left_volume.IsIdle (blocks_of v.device)
  idle_reported b =
      let here : counts_of (device.block_at (blocks_of v.device) b) ≡ get_or (cells start log).blocks b free_block =
      sym (counted_at (blocks_of v.device) b) ∙ ap (λ (l : List Block). get_or l b free_block) f.blocks_are in
      ap (λ (x : Block). x.erasing) here ∙ opens.idle b

  pub goes_on_reported : v.pages ≡ volume.contents (blocks_of v.device) v.places
      → resumed_start start.plan c (blocks_of v.device) ≡ renewed_start start log
  goes_on_reported pages =
      let held : volume.contents (blocks_of v.device) (cells start log).places ≡ (renewed_start start log).contents =
      ap (volume.contents (blocks_of v.device)) (sym f.places_are) ∙ sym pages ∙ f.pages_are in
      ap (λ (d : Checkpoint). resumed_start start.plan d (blocks_of v.device)) taken_reported
      ∙ ap (λ (p : List PageData). start_with start.plan (checkpoint_of (renewed_start start log)) p) held
      ∙ opening_again (renewed_start start log) opens

  pub fits_reported : CanBeErased (renewed_start start log) → Fits start.plan c
  fits_reported left =
      let again = opening_again (renewed_start start log) opens in
      subst (Fits start.plan) (sym taken_reported)
      (opening_fits start.plan (checkpoint_of (renewed_start start log)) (renewed_start start log).contents
      (subst IsOpening (sym again) opens) (subst CanBeErased (sym again) left))

-- A die that goes on

blocks_again : (bs : List device.Block) → ((b : ℕ) → (device.block_at bs b).erasing ≡ 0)
    → map counts_of bs ≡ map idle_block (map left_volume.counts_of bs)
blocks_again [] h = refl
blocks_again (b ∷ bs) h = λ i. record { filled = length b.pages; erasing = h 0 i; erases = b.erases } ∷ blocks_again bs (λ k. h (suc k)) i

nobody_in : {P : Type 0} (j : Job) → Contains [] j → P
nobody_in j h = absurd (omega (arith, h.1))

none_runs : (n task : ℕ) (d : Collection) → running_of (replicate n None) task ≡ Some d → ⊥
none_runs n task d is = let none : running_of (replicate n None) task ≡ None = none_running n task in absurd cc

resumed_flash : {N : Type 0} (blocks_of : N → List device.Block) (plan : DiePlan) (c : Checkpoint) (nand : N) (failures : ℕ)
    → left_volume.IsAsLeft c (blocks_of nand) failures
    → IsFlashOf (resumed_start plan c (blocks_of nand)) [] (flash_of blocks_of (left_volume.resumed_volume blocks_of plan c nand))
resumed_flash blocks_of plan c nand failures left = record {
  accounts_are = refl;
  pages_are = refl;
  places_are = refl;
  blocks_are = blocks_again (blocks_of nand) left.idle ∙ ap (map idle_block) left.counts;
  running_are = record {
    len = length-replicate (length plan.caps) None;
    each = λ task d is. absurd (none_runs (length plan.caps) task d is);
    all = λ j b r. nobody_in j r.stands;
  };
}

pub keeps_resumed : {N : Type 0} (blocks_of : N → List device.Block) (plan : DiePlan) (c : Checkpoint) (nand : N) (failures : ℕ) (log : Log)
    (t : Table) (v : State N) (start : Start) → Fits plan c → left_volume.IsAsLeft c (blocks_of nand) failures → log ≡ []
    → t ≡ empty_table (length plan.caps) → v ≡ left_volume.resumed_volume blocks_of plan c nand
    → start ≡ resumed_start plan c (blocks_of nand)
    → AgreeWithLog (over v.accounts.plan start) log 0 t v.failed (flash_of blocks_of v)
keeps_resumed blocks_of plan c nand failures log t v start fits left none table_is volume_is start_is =
    rw start_is (rw volume_is (rw none (rw table_is (record {
      exact = tt;
      bound = fits_opens plan c (blocks_of nand) fits;
      left = fits_erased plan c (blocks_of nand) fits;
      now_is = refl;
      tasks_are = refl;
      clock_by = omega arith;
      ended_is = refl;
      jobs_are = refl;
      places_are = (resumed_flash blocks_of plan c nand failures left).places_are;
      flash = λ alive. resumed_flash blocks_of plan c nand failures left;
    }))))
