-- Where a mount has ended, what stands on the die beside the block aside is a checkpoint that fits, and of a start.
use Rattle.std.proofs.Common.{◌≡◌, ◌⊎◌, ℕ, suc, ◌+◌, ◌++◌, ◌-◌, ◌<◌, ◌≤◌, List, [], ◌∷◌, length, map, Option, Some, None, refl, ap, sym, ◌∙◌, inl, inr, subst}
use Rattle.std.proofs.Common.{◌==◌, arith, get_or, position, replicate, take}
use Rattle.std.specs.Prelude.{sum_by}
use Rattle.std.proofs.Math.ListN.{get_or-map}
use Rattle.std.proofs.lemmas.Bool.{cases_lt, eq-eqb, eqb-true, true≢false}
use Rattle.std.proofs.lemmas.List.Quantifiers.{position-Some}
use Rattle.std.proofs.lemmas.List.{length-map, length-replicate, get_or-replicate, map_more}
use Rattle.std.proofs.lemmas.List.Sums.{sum_by-cons}
use Rattle.slot_types.specs.declared.plans.DiePlan.{DiePlan}
use Rattle.slot_types.specs.declared.pages.Place.{Place}
use Rattle.slot_types.specs.declared.pages.PageData.{PageData}
use Rattle.slot_types.specs.declared.acts.Act.{Act}
use Rattle.plan_rules.specs.Bound.{MeetsBound}
use Rattle.die_checkpoint.specs.declared.checkpoint.BlockCounts.{BlockCounts}
use Rattle.die_checkpoint.specs.declared.checkpoint.Checkpoint.{Checkpoint}
use Rattle.die_checkpoint.specs.Counts as counts
use Rattle.die_checkpoint.specs.Fits.{Fits}
use Rattle.die_log.specs.Model.Flash.{Block, Cells, block_at, free_block, free_in}
use Rattle.die_log.specs.Model.Start.{Start}
use Rattle.die_log.specs.Invariants.SoundCells.{AreSoundCells}
use Rattle.die_log.proofs.Cells.FreePages.{free_idle}
use Rattle.die_log.proofs.Cells.Steps.{no_position}
use Rattle.die_log.proofs.Legal.Exact.{has_pages}
use Rattle.power_loss.specs.Aside.{MountsTo, StartsBeside, die_cells, die_labels, most_rounds_beside, on_die, on_part, part_of, renumbered_places, without_aside}
use Rattle.power_loss.specs.Labels.{Labels, Shown}
use Rattle.power_loss.specs.Mounted.{all_count}
use Rattle.power_loss.specs.Recovery.{AreIdle, AreMountActs, IsFreeBlock, cells_of, enough_of, full_accounts, labels_of, mounted_start, remounted_cells}
use Rattle.power_loss.specs.Recovery.{remounted_labels}
use Rattle.power_loss.proofs.Aside.ComingBack.{ends_beside, part_bound}
use Rattle.power_loss.proofs.Aside.Lists.{without_at, without_length, without_past}
use Rattle.power_loss.proofs.Aside.Parts.{die_free, die_idle, stands_on_die}
use Rattle.power_loss.proofs.Aside.Renumbering.{renumbered_sound}
use Rattle.power_loss.proofs.FreeBlocks.{has_free_block}
use Rattle.die_mount.specs.Cutting.{GoesBy}
use Rattle.die_mount.specs.declared.part.PartBlock.{PartBlock}
use Rattle.die_mount.specs.declared.stage.Stage.TheVariants as stage
use Rattle.die_mount.specs.Ending.{IsEndOf, checkpoint_beside, counts_of, start_beside}
use Rattle.die_mount.specs.Erases.{counted}
use Rattle.die_mount.specs.Mounting.{ErasedAtMost, IsAt, IsAtEnd, Mounting, first_cells, goal_of}
use Rattle.die_mount.specs.PartState.{PartState}
use Rattle.die_mount.specs.SoundMount.{CountsPart, StandsWell}
use Rattle.die_mount.specs.SoundPart.{block_of}
use Rattle.die_mount.proofs.Counted.{acts_counted, counted_at as counted_there, counted_free, counted_free_block, counted_idle, counted_erases, counted_length, counted_sound, first_counted}
use Rattle.die_mount.proofs.Counted.{labels_counted, may_counted}
use Rattle.die_mount.proofs.Parts.{block_is}

-- a block and what the checkpoint says of it
counted_at : (bs : List Block) (b : ℕ) → counts.counts_at (map counts_of bs) b ≡ counts_of (get_or bs b free_block)
counted_at bs b = get_or-map counts_of bs b free_block

free_made : (plan : DiePlan) (bs : List Block) → ((b : ℕ) → (get_or bs b free_block).erasing ≡ 0)
    → sum_by (counts.free_in plan.shape.pages) (map counts_of bs) ≡ sum_by (free_in plan) bs
free_made plan [] idle = refl
free_made plan (b ∷ bs) idle = omega (
  arith,
  sum_by-cons (counts.free_in plan.shape.pages) (counts_of b) (map counts_of bs),
  sum_by-cons (free_in plan) b bs,
  free_idle plan b (idle 0),
  free_made plan bs (λ k. idle (suc k)),
)

-- The first block of which no cell is programmed stands aside

pub aside_is_free : (c : Cells) (b : ℕ) → AreIdle c → position (λ (t : Block). t.filled == 0) c.blocks ≡ Some b → IsFreeBlock c b
aside_is_free c b idle is =
    let k = position-Some (λ (t : Block). t.filled == 0) c.blocks b free_block is in
    record { stands = k.0; unfilled = eqb-true (block_at c b).filled 0 k.1; idle = idle b }

-- there is one
pub one_is_free : (m : Mounting) → StandsWell m → IsAtEnd m → position (λ (t : Block). t.filled == 0) m.cells.blocks ≡ None → ⊥
one_is_free m w h none =
    let free = has_free_block (part_of m.plan) m.cells (has_pages (part_of m.plan) (part_bound m.plan w.bound w.beside)) w.sound (omega (arith, h.enough)) in
    true≢false (sym (eq-eqb (block_at m.cells free.0).filled 0 free.1.unfilled)
    ∙ no_position (λ (t : Block). t.filled == 0) m.cells.blocks none free.0 free_block free.1.stands)

module _ (plan : DiePlan) (aside : ℕ) (p : Cells) (s : AreSoundCells (part_of plan) p) (free_aside : IsFreeBlock p aside) where
  abbrev last : ℕ
  last = plan.shape.blocks

  abbrev own : Cells
  own = die_cells plan.shape.blocks aside p

  abbrev bare : Labels
  bare = record { blocks = replicate (plan.shape.blocks + 1) []; next = 0 }

  own_sound : AreSoundCells plan own
  own_sound =
      renumbered_sound (part_of plan) plan (on_die last aside) (on_part last aside) p own bare.blocks (die_labels last aside bare).blocks (refl, refl, refl)
      (stands_on_die plan aside p bare free_aside (get_or-replicate (last + 1) aside [] [] (omega (arith, free_aside.stands, s.blocks))) s (length-replicate (last + 1) []))
      (without_length last aside free_block p.blocks s.blocks) (length-map p.places _) s

  own_erased : (most : ℕ) → ErasedAtMost p most → ErasedAtMost own most
  own_erased most h b = by_case (cases_lt b last)
    where
      by_case : (b < last) ⊎ (last ≤ b) → (block_at own b).erases ≤ most
      by_case (inl lt) = omega (arith, ap (λ (t : Block). t.erases) (without_at last aside free_block p.blocks b s.blocks lt), h (on_part last aside b))
      by_case (inr past) = omega (arith, ap (λ (t : Block). t.erases) (without_past last aside free_block p.blocks b s.blocks past))

  -- the pages that are free beyond the goal are spare
  pub spare_is : (free goal : ℕ) → free ≡ sum_by (free_in plan) p.blocks → goal ≡ enough_of plan + plan.shape.pages
      → free - goal ≡ (checkpoint_beside plan aside p).spare
  spare_is free goal all is = omega (arith, all, is, die_free plan aside p s.blocks free_aside)

  pub checkpoint_fits : MeetsBound plan → plan.shape.blocks < 1024 → AreIdle p → enough_of plan + plan.shape.pages ≤ sum_by (free_in plan) p.blocks
      → ErasedAtMost p counts.most_erases → Fits plan (checkpoint_beside plan aside p)
  checkpoint_fits bound beside idle enough erased =
      let filled : (b : ℕ) → (counts.counts_at (map counts_of own.blocks) b).filled ≡ (block_at own b).filled = λ b.
      ap (λ (x : BlockCounts). x.filled) (counted_at own.blocks b) in
      let erases : (b : ℕ) → (counts.counts_at (map counts_of own.blocks) b).erases ≡ (block_at own b).erases = λ b.
      ap (λ (x : BlockCounts). x.erases) (counted_at own.blocks b) in
      record {
        all_else = record {
          blocks = record {
            plan_is = record {
              shape = record { blocks = length-map own.blocks counts_of ∙ own_sound.blocks; pages = own_sound.places; tasks = refl };
              bound = bound;
            };
            within = λ b. omega (arith, filled b, own_sound.within b);
            one_open = λ a b is also. own_sound.one_open a b
                (omega (arith, filled a, is.0), omega (arith, filled a, is.1)) (omega (arith, filled b, also.0), omega (arith, filled b, also.1));
            unworn = λ b. omega (arith, erases b, own_erased counts.most_erases erased b);
          };
          placed = λ page q lies. omega (arith, filled q.block, own_sound.placed page q lies);
          capped = λ task. omega arith;
          sums = omega (arith, free_made plan own.blocks (die_idle plan aside p s.blocks idle), die_free plan aside p s.blocks free_aside, enough);
        };
        apart = record { apart = λ i j place lies also. own_sound.apart i j place place lies also refl refl };
      }

-- The start is one to which the mount goes by what it saw, and the serial goes on from there
module _ (pages : List PageData) (before : Shown) (erased next : ℕ) (acts : List Act) (m : Mounting) (g : GoesBy pages before erased next acts m) where
  abbrev erases : ℕ → ℕ
  erases b = get_or m.counts b 0

  -- the cells with which it began, with the erases of before
  abbrev begun : Cells
  begun = remounted_cells (part_of m.plan) all_count erased erases before

  abbrev Starts : List PageData → (aside : ℕ) → Start → Labels → Type 0
  Starts ps aside start first = StartsBeside m.plan all_count begun ps (remounted_labels erased before next) acts aside start first

  abbrev begun_by : (aside : ℕ) → Cells → Start
  begun_by aside c = mounted_start m.plan c pages (full_accounts m.plan (sum_by (free_in m.plan) c.blocks))

  now_is : cells_of (part_of m.plan) acts begun ≡ counted m.counts m.cells
  now_is =
      ap (cells_of (part_of m.plan) acts) (sym (first_counted m.counts m.plan erased before))
      ∙ (sym (acts_counted m.counts (part_of m.plan) acts (first_cells m.plan erased before)) ∙ ap (counted m.counts) g.is.cells)

  may_now : AreMountActs (part_of m.plan) begun acts
  may_now = subst (λ (c : Cells). AreMountActs (part_of m.plan) c acts) (first_counted m.counts m.plan erased before)
      (may_counted m.counts (part_of m.plan) (first_cells m.plan erased before) acts g.is.may)

  same_labels : labels_of (part_of m.plan) pages acts begun (remounted_labels erased before next)
      ≡ labels_of (part_of m.plan) pages acts (first_cells m.plan erased before) (remounted_labels erased before next)
  same_labels =
      ap (λ (c : Cells). labels_of (part_of m.plan) pages acts c (remounted_labels erased before next)) (sym (first_counted m.counts m.plan erased before))
      ∙ labels_counted m.counts (part_of m.plan) pages acts (first_cells m.plan erased before) (remounted_labels erased before next)

  by_labels : (aside : ℕ) (start : Start) (first : Labels) → Starts pages aside start first
      → (first : Labels) × MountsTo m.plan all_count before (start_beside m.plan aside (counted m.counts m.cells) pages) first × (first.next ≡ m.next)
  by_labels aside start first s =
      let is : start ≡ start_beside m.plan aside (counted m.counts m.cells) pages =
      s.is ∙ ap (begun_by aside) (s.cells ∙ ap (die_cells m.plan.shape.blocks aside) now_is) in (
        first,
        record {
          erased = erased;
          rule = g.may;
          next = next;
          above = g.above;
          erases = erases;
          acts = acts;
          may = may_now;
          aside = aside;
          starts = subst (λ (ps : List PageData). Starts ps aside (start_beside m.plan aside (counted m.counts m.cells) pages) first) (sym g.stood.found)
              (subst (λ (x : Start). Starts pages aside x first) is s);
        },
        ap (λ (l : Labels). l.next) s.labels ∙ (ap (λ (l : Labels). l.next) same_labels ∙ g.is.serial pages),
      )

  pub leaves_die : IsAtEnd m → (aside : ℕ) → IsFreeBlock m.cells aside
      → (first : Labels) × MountsTo m.plan all_count before (start_beside m.plan aside (counted m.counts m.cells) pages) first × (first.next ≡ m.next)
  leaves_die h aside free =
      let s = ends_beside m.plan pages all_count before g.bound g.beside g.stood erased g.may erases next g.above acts may_now
      (subst AreIdle (sym now_is) (counted_idle m.counts m.cells h.idle)) aside
      (subst (λ (c : Cells). IsFreeBlock c aside) (sym now_is) (counted_free_block m.counts m.cells aside free))
      (subst (λ (c : Cells). enough_of m.plan + m.plan.shape.pages ≤ sum_by (free_in m.plan) c.blocks) (sym now_is)
      (omega (arith, h.enough, counted_free m.counts m.plan m.cells))) in
      by_labels aside s.0 s.1 s.2

-- What a mount tells

-- a block more of those beside the one aside
pub block_more : (items : List PartBlock) (c : Cells) (before : List ℕ) (last aside n from : ℕ) (s : PartBlock) (done : List BlockCounts)
    → map block_of items ≡ c.blocks → length items ≡ last + 1 → n < last → from ≤ last → from ≡ on_part last aside n → s ≡ get_or items from s
    → done ≡ map counts_of (take n (without_aside last aside free_block (counted before c).blocks))
    → done ++ record { filled = s.filled; erases = get_or before from 0 + s.erases } ∷ []
    ≡ map counts_of (take (n + 1) (without_aside last aside free_block (counted before c).blocks))
block_more items c before last aside n from s done e l lt le from_is is done_is =
    let bs = (counted before c).blocks in
    let own = without_aside last aside free_block bs in
    let wide : length c.blocks ≡ last + 1 = sym (ap length e) ∙ (length-map items block_of ∙ l) in
    let long : length bs ≡ last + 1 = counted_length before c ∙ wide in
    let there : block_at c from ≡ block_of s = ap (λ (xs : List Block). get_or xs from free_block) (sym e)
    ∙ block_is items from s (omega (arith, le, l)) is in
    let at : get_or own n free_block ≡ record (block_of s) { erases = get_or before from 0 + s.erases } = without_at last aside free_block bs n long lt
    ∙ (ap (λ (k : ℕ). get_or bs k free_block) (sym from_is)
    ∙ (counted_there before c from (omega (arith, le, wide))
    ∙ ap (λ (t : Block). record t { erases = get_or before from 0 + t.erases }) there)) in
    ap (λ (xs : List BlockCounts). xs ++ record { filled = s.filled; erases = get_or before from 0 + s.erases } ∷ []) done_is
    ∙ (ap (λ (t : Block). map counts_of (take n own) ++ counts_of t ∷ []) (sym at)
    ∙ sym (map_more counts_of own n free_block (omega (arith, lt, without_length last aside free_block bs long))))

pub at_end : (m : Mounting) → StandsWell m → m.stage ≡ stage.Done → IsAtEnd m
at_end m w e = subst (IsAt m) e w.at

-- a mount that stands as it is seen, and what it tells at its end
module _ (m now : Mounting) (same : m ≡ now) (p : PartState) (w : StandsWell m) (k : CountsPart m p) (cells : p.cells ≡ m.cells)
    (goal : ℕ) (goal_is : goal ≡ goal_of m.plan) (aside : ℕ) (free_now : IsFreeBlock now.cells aside)
    (places : List (Option Place)) (blocks : List BlockCounts) (balances : List ℕ) (free : ℕ)
    (places_are : places ≡ renumbered_places (on_die m.plan.shape.blocks aside) p.cells.places)
    (blocks_are : blocks ≡ map counts_of (without_aside m.plan.shape.blocks aside free_block (counted m.counts p.cells).blocks))
    (balances_are : balances ≡ m.plan.caps) (free_is : free ≡ p.free) where
  abbrev told : Checkpoint
  told = record { places = places; blocks = blocks; spare = free - goal; balances = balances }

  free_there : IsFreeBlock m.cells aside
  free_there = subst (λ (x : Mounting). IsFreeBlock x.cells aside) (sym same) free_now

  abbrev all : Cells
  all = counted m.counts m.cells

  told_is : told ≡ checkpoint_beside m.plan aside all
  told_is =
      let ps : places ≡ (checkpoint_beside m.plan aside all).places = places_are
      ∙ ap (λ (c : Cells). (checkpoint_beside m.plan aside c).places) cells in
      let bs : blocks ≡ (checkpoint_beside m.plan aside all).blocks = blocks_are
      ∙ ap (λ (c : Cells). (checkpoint_beside m.plan aside (counted m.counts c)).blocks) cells in
      let ss = spare_is m.plan aside all (counted_sound m.counts (part_of m.plan) m.cells w.sound) (counted_free_block m.counts m.cells aside free_there)
      free goal (free_is ∙ (k.free ∙ sym (counted_free m.counts m.plan m.cells))) goal_is in
      λ i. record { places = ps i; blocks = bs i; spare = ss i; balances = balances_are i }

  pub ends_so : IsEndOf now (record { aside = aside; checkpoint = told; next = m.next })
  ends_so = subst (λ (x : Mounting). IsEndOf x (record { aside = aside; checkpoint = told; next = m.next })) same
      (record { free = free_there; checkpoint = told_is; next = refl })

  pub told_fits : now.stage ≡ stage.Done → Fits now.plan told
  told_fits e =
      let h = at_end m w (ap (λ (x : Mounting). x.stage) same ∙ e) in
      subst (λ (x : Mounting). Fits x.plan told) same (subst (Fits m.plan) (sym told_is)
      (checkpoint_fits m.plan aside all (counted_sound m.counts (part_of m.plan) m.cells w.sound)
      (counted_free_block m.counts m.cells aside free_there) w.bound w.beside (counted_idle m.counts m.cells h.idle)
      (omega (arith, h.enough, counted_free m.counts m.plan m.cells))
      (counted_erases m.counts m.cells (most_rounds_beside m.plan) counts.most_erases h.erased w.unworn)))
