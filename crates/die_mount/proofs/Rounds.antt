-- The calls of a mount, one by one.
use Rattle.std.proofs.Common.{◌≡◌, ◌≢◌, ◌⊎◌, ℕ, ◌+◌, ◌-◌, ◌*◌, ◌<◌, ◌≤◌, ◌==◌, Bool, true, false, cond, List, [], ◌∷◌, length, Option, Some}
use Rattle.std.proofs.Common.{refl, ap, sym, ◌∙◌, subst, inl, inr, arith}
use Rattle.std.specs.Prelude.{sum_by, count_by, slice_index_or, slice_set}
use Rattle.std.proofs.Math.Nat.{suc-mul}
use Rattle.std.proofs.lemmas.Bool.{cases_eq, cases_lt, eq-eqb, ne_eqb}
use Rattle.std.proofs.lemmas.List.{get_or-set_same, get_or-set_other}
use Rattle.std.proofs.lemmas.Option.{none-some, same_Some}
use Rattle.slot_types.specs.Places.{place_of}
use Rattle.slot_types.specs.declared.pages.Place.{Place}
use Rattle.slot_types.specs.declared.pages.PageData.{PageData}
use Rattle.slot_types.specs.declared.acts.Act.{Act}
use Rattle.slot_types.specs.declared.acts.Act.TheVariants as does
use Rattle.plan_rules.specs.Bound.{MeetsBound}
use Rattle.page_map.proofs.Owners.{same_place, unowned}
use Rattle.die_log.specs.Model.Flash.{Cells, Block, block_at, cells_after, cells_after_program, cells_after_program_in, free_block, free_in}
use Rattle.die_log.specs.Model.Flash.{open_block, valid}
use Rattle.die_log.specs.Model.Start.{blank_page}
use Rattle.die_log.specs.Model.Work.{is_copy_program, is_erase}
use Rattle.die_log.specs.Invariants.SoundCells.{AreSoundCells, IsClosed, IsOpen, IsProgram, IsEraseSlot, TakesNext}
use Rattle.die_log.proofs.Cells.Acts.{in_block, program_sound}
use Rattle.die_log.proofs.Cells.FreePages.{erase_free}
use Rattle.die_log.proofs.Cells.Steps.{open_is, program_is, erase_slot_is, within_blocks}
use Rattle.die_log.proofs.Cells.Valid.{unplaced_is}
use Rattle.die_log.proofs.Legal.Exact.{has_pages, has_slots}
use Rattle.power_loss.specs.Aside.{most_rounds_beside, part_of}
use Rattle.power_loss.specs.Labels.{Labels, Shown, labels_after_program}
use Rattle.power_loss.specs.Recovery.{AreIdle, CanGoBack, IsFreeBlock, IsWorthIt, MayMount, cells_of}
use Rattle.power_loss.specs.Recovery.{labels_of, remounted_labels}
use Rattle.power_loss.proofs.Aside.ComingBack.{part_bound, raised_length, raised_sum}
use Rattle.power_loss.proofs.Compacting.{IsCopied, MayCopyOn, after_erase, copied, copies_on, copy_counts}
use Rattle.power_loss.proofs.Compacting.{erase_safe, free_pages, safe_there, slot_counts}
use Rattle.power_loss.proofs.MountActs.{after_sound, mount_act}
use Rattle.power_loss.proofs.MountedStarts.{finds_block}
use Rattle.die_mount.specs.declared.stage.Stage.{Stage}
use Rattle.die_mount.specs.declared.stage.Stage.TheVariants as stage
use Rattle.die_mount.specs.Choosing.{BeginsRound, IsChosen, IsNextIn, LieFrom}
use Rattle.die_mount.specs.Mounting.{Mounting, IsAt, IsAtProgram, IsAtErase, IsMountOf, GoesOnAt, calls_left_at}
use Rattle.die_mount.specs.Mounting.{IsTaken, copies_left_at, slots_left_at, first_cells, free_of, goal_of, round_calls, victim_at}
use Rattle.die_mount.specs.PartState.{PartState, IsFewest, IsFirstPage}

-- A block that is emptied

-- no page of the block lies before its first one
first_is : (c : Cells) (block from page : ℕ) (q : Place) → LieFrom c block from → IsFirstPage c block from page q → (other : ℕ) (r : Place)
    → place_of c.places other ≡ Some r → r.block ≡ q.block → q.page ≤ r.page
first_is c block from page q lie n other r e is = by_case (cases_lt r.page q.page)
  where
    at : Place
    at = record { block = block; page = r.page }

    by_case : (r.page < q.page) ⊎ (q.page ≤ r.page) → q.page ≤ r.page
    by_case (inl lt) = absurd (unowned c.places other at (n.first r.page (lie other r e (is ∙ n.own)) lt)
        (e ∙ ap (λ (p : Place). Some p) (same_place r at (is ∙ n.own) refl)))
    by_case (inr le) = le

-- a closed block whose pages are copied, beside blocks of which none is in erase
pub record IsEmptying (m : Mounting) (block from : ℕ) : Type 0 where
  pub slots : 0 < m.plan.shape.erase_slots
  pub idle : AreIdle m.cells
  pub closed : IsClosed (part_of m.plan) m.cells block
  pub lie : LieFrom m.cells block from
  pub room : valid m.cells block ≤ free_of m
  pub few : valid m.cells block ≤ m.plan.shape.pages - m.plan.alpha
  pub reaches : goal_of m.plan + valid m.cells block ≤ free_of m + m.plan.shape.pages + m.rounds * m.plan.alpha
  pub erased : (b : ℕ) → (block_at m.cells b).erases + m.rounds < most_rounds_beside m.plan

-- what comes next of it
pub at_next : (m : Mounting) (block from : ℕ) (after : Stage) → IsEmptying m block from → IsNextIn m.cells block from after → IsAt m after
at_next m block from (stage.First b k) h n = absurd n
at_next m block from (stage.Read page q) h n =
    let same : valid m.cells q.block ≡ valid m.cells block = ap (valid m.cells) n.own in record {
      idle = h.idle;
      closed = subst (IsClosed (part_of m.plan) m.cells) (sym n.own) h.closed;
      lies = n.lies;
      first = first_is m.cells block from page q h.lie n;
      room = omega (arith, same, h.room);
      few = omega (arith, same, h.few);
      reaches = omega (arith, same, h.reaches);
      erased = h.erased;
    }
at_next m block from (stage.Program page q to) h n = absurd n
at_next m block from (stage.Erase b k) h n =
    let none : valid m.cells b ≡ 0 = ap (valid m.cells) n.0 ∙ n.1 in record {
      closed = subst (IsClosed (part_of m.plan) m.cells) (sym n.0) h.closed;
      none = none;
      erasing = h.idle b ∙ sym n.2;
      more = omega (arith, n.2, h.slots);
      others = λ a other. h.idle a;
      reaches = omega (arith, h.reaches);
      erased = h.erased;
    }
at_next m block from stage.Done h n = absurd n

-- how many calls it takes at most, how many copies, and how many slots of erases
pub calls_next : (m : Mounting) (block from : ℕ) (after : Stage) → IsNextIn m.cells block from after
    → calls_left_at m.plan m.cells m.rounds after ≤ 2 * valid m.cells block + m.plan.shape.erase_slots + m.rounds * round_calls m.plan
calls_next m block from (stage.First b k) n = absurd n
calls_next m block from (stage.Read page q) n = omega (arith, ap (valid m.cells) n.own)
calls_next m block from (stage.Program page q to) n = absurd n
calls_next m block from (stage.Erase b k) n = omega arith
calls_next m block from stage.Done n = absurd n

pub copies_next : (m : Mounting) (block from : ℕ) (after : Stage) → IsNextIn m.cells block from after
    → copies_left_at m.plan m.cells m.rounds after ≤ valid m.cells block + m.rounds * (m.plan.shape.pages - m.plan.alpha)
copies_next m block from (stage.First b k) n = absurd n
copies_next m block from (stage.Read page q) n = omega (arith, ap (valid m.cells) n.own)
copies_next m block from (stage.Program page q to) n = absurd n
copies_next m block from (stage.Erase b k) n = omega arith
copies_next m block from stage.Done n = absurd n

pub slots_next : (m : Mounting) (block from : ℕ) (after : Stage) → IsNextIn m.cells block from after
    → slots_left_at m.plan m.rounds after ≤ m.plan.shape.erase_slots + m.rounds * m.plan.shape.erase_slots
slots_next m block from (stage.First b k) n = absurd n
slots_next m block from (stage.Read page q) n = omega arith
slots_next m block from (stage.Program page q to) n = absurd n
slots_next m block from (stage.Erase b k) n = omega arith
slots_next m block from stage.Done n = absurd n

-- A copy

same_erases : (page o : ℕ) (c : Cells) → o < length c.blocks → (b : ℕ)
    → (block_at (cells_after_program_in page (Some o) c) b).erases ≡ (block_at c b).erases
same_erases page o c lt b = by_case (cases_eq b o)
  where
    by_case : (b ≡ o) ⊎ (b ≡ o → ⊥) → (block_at (cells_after_program_in page (Some o) c) b).erases ≡ (block_at c b).erases
    by_case (inl is) = ap (λ (x : ℕ). (block_at (cells_after_program_in page (Some o) c) x).erases) is
        ∙ (ap (λ (s : Block). s.erases) (get_or-set_same c.blocks o _ free_block lt) ∙ sym (ap (λ (x : ℕ). (block_at c x).erases) is))
    by_case (inr other) = ap (λ (s : Block). s.erases) (get_or-set_other c.blocks o b _ free_block other)

abbrev pub copied_cells : ℕ → Place → Cells → Cells
copied_cells page to c = cells_after_program_in page (Some to.block) c

-- the mount once the page is programmed there
abbrev pub copied_mount : Mounting → ℕ → Place → Stage → Mounting
copied_mount m page to after = record {
  plan = m.plan;
  cells = cells_after_program_in page (Some to.block) m.cells;
  counts = m.counts;
  next = m.next + 1;
  rounds = m.rounds;
  stage = after;
}

module _ (m : Mounting) (page : ℕ) (from to : Place) (bound : MeetsBound m.plan) (less : m.plan.shape.blocks < 1024)
    (s : AreSoundCells (part_of m.plan) m.cells) (h : IsAtProgram m page from to) where
  wide : MeetsBound (part_of m.plan)
  wide = part_bound m.plan bound less

  pub some_lie : 0 < valid m.cells from.block
  some_lie = by_case (cases_eq (valid m.cells from.block) 0)
    where
      by_case : (valid m.cells from.block ≡ 0) ⊎ (valid m.cells from.block ≡ 0 → ⊥) → 0 < valid m.cells from.block
      by_case (inl none) = absurd (unplaced_is (part_of m.plan) m.cells from.block none page (in_block m.cells page from.block from h.at.lies refl))
      by_case (inr has) = omega arith

  pub has_room : 0 < free_of m
  has_room = omega (arith, some_lie, h.at.room)

  pub takes : TakesNext (part_of m.plan) m.cells to.block
  takes = open_is (part_of m.plan) m.cells to.block (has_pages (part_of m.plan) wide) s h.opens

  steps : IsProgram (part_of m.plan) page to.block m.cells (copied_cells page to m.cells)
  steps = program_is (part_of m.plan) page to.block m.cells takes.stands takes.room takes.alone

  copy_is : IsCopied (part_of m.plan) m.cells (copied_cells page to m.cells) from.block
  copy_is = subst (λ (x : Option ℕ). IsCopied (part_of m.plan) m.cells (cells_after_program_in page x m.cells) from.block) h.opens
      (copied (part_of m.plan) m.cells from.block page from wide s h.at.idle h.at.closed has_room h.at.lies refl)

  pub copied_sound : AreSoundCells (part_of m.plan) (copied_cells page to m.cells)
  copied_sound = program_sound (part_of m.plan) page to.block m.cells (copied_cells page to m.cells) s steps

  -- no other block is open
  pub copied_last : (a : ℕ) → IsOpen (part_of m.plan) (copied_cells page to m.cells) a → a ≡ to.block
  copied_last a is_open = by_case (cases_eq a to.block)
    where
      by_case : (a ≡ to.block) ⊎ (a ≡ to.block → ⊥) → a ≡ to.block
      by_case (inl is) = is
      by_case (inr other) =
          let same = ap (λ (t : Block). t.filled) (steps.others a other) in
          takes.alone a (omega (arith, same, is_open.0), omega (arith, same, is_open.1))

  pub copied_free : sum_by (free_in m.plan) (copied_cells page to m.cells).blocks + 1 ≡ free_of m
  copied_free = copy_is.free

  pub lie_on : LieFrom (copied_cells page to m.cells) from.block (from.page + 1)
  lie_on other q e is = by_move (steps.moved other q e)
    where
      by_page : (other ≢ page) → place_of m.cells.places other ≡ Some q → (from.page ≡ q.page) ⊎ (from.page ≡ q.page → ⊥) → from.page + 1 ≤ q.page
      by_page ne lies (inl same) = absurd (ne (s.apart other page q from lies h.at.lies is (sym same)))
      by_page ne lies (inr apart) = omega (arith, h.at.first other q lies is)

      by_move : ((other ≡ page) × (q.block ≡ to.block) × (q.page ≡ (block_at m.cells to.block).filled))
          ⊎ ((other ≢ page) × (place_of m.cells.places other ≡ Some q)) → from.page + 1 ≤ q.page
      by_move (inl v) = absurd (omega (arith, takes.room, h.at.closed, ap (λ (x : ℕ). (block_at m.cells x).filled) (sym v.1 ∙ is)))
      by_move (inr v) = by_page v.0 v.1 (cases_eq from.page q.page)

  pub copied_emptying : (after : Stage) → IsEmptying (copied_mount m page to after) from.block (from.page + 1)
  copied_emptying after = record {
    slots = has_slots m.plan bound;
    idle = copy_is.idle;
    closed = copy_is.closed;
    lie = lie_on;
    room = omega (arith, copy_is.fewer, copy_is.free, h.at.room);
    few = omega (arith, copy_is.fewer, h.at.few);
    reaches = omega (arith, copy_is.fewer, copy_is.free, h.at.reaches);
    erased = λ b. omega (arith, same_erases page to.block m.cells takes.stands b, h.at.erased b);
  }

  -- a call less may come
  pub copied_less : (after : Stage) → IsNextIn (copied_cells page to m.cells) from.block (from.page + 1) after
      → calls_left_at m.plan (copied_cells page to m.cells) m.rounds after
      < 2 * valid m.cells from.block - 1 + m.plan.shape.erase_slots + m.rounds * round_calls m.plan
  copied_less after n = omega (arith, calls_next (copied_mount m page to after) from.block (from.page + 1) after n, copy_is.fewer)

  pub copied_may : MayMount (part_of m.plan) m.cells (does.CopyProgram page)
  copied_may = (has_room, (from.block, in_block m.cells page from.block from h.at.lies refl))

  module _ (seen : Shown) (erased next : ℕ) (acts : List Act) (at : m.stage ≡ stage.Program page from to) (g : IsMountOf seen erased next acts m) where
    whole : ((b : ℕ) × IsFreeBlock m.cells b) ⊎ CanGoBack (part_of m.plan) (first_cells m.plan erased seen) acts
        → MayCopyOn (part_of m.plan) (first_cells m.plan erased seen) m.cells acts
    whole (inl f) = inl (record { b = f.0; stands = f.1.stands; none = f.1.unfilled })
    whole (inr back) = inr back

    on : MayCopyOn (part_of m.plan) (first_cells m.plan erased seen) (cells_after_program (part_of m.plan) page m.cells) (does.CopyProgram page ∷ acts)
    on = copies_on (part_of m.plan) (first_cells m.plan erased seen) m.cells page wide
        (record { acts = acts; may = g.may; safe = g.safe; is = g.cells; sound = s }) h.at.idle has_room
        (whole (subst (GoesOnAt m.plan (first_cells m.plan erased seen) m.cells erased acts) at g.goes_on))

    goes_back : MayCopyOn (part_of m.plan) (first_cells m.plan erased seen) (copied_cells page to m.cells) (does.CopyProgram page ∷ acts)
        → ((b : ℕ) × IsFreeBlock (copied_cells page to m.cells) b)
        ⊎ CanGoBack (part_of m.plan) (first_cells m.plan erased seen) (does.CopyProgram page ∷ acts)
    goes_back (inl f) = inl (f.b, record { stands = f.stands; unfilled = f.none; idle = copy_is.idle f.b })
    goes_back (inr back) = inr back

    there : ((b : ℕ) × IsFreeBlock (copied_cells page to m.cells) b)
        ⊎ CanGoBack (part_of m.plan) (first_cells m.plan erased seen) (does.CopyProgram page ∷ acts)
    there = goes_back (subst (λ (x : Option ℕ). MayCopyOn (part_of m.plan) (first_cells m.plan erased seen) (cells_after_program_in page x m.cells)
        (does.CopyProgram page ∷ acts)) h.opens on)

    goes : (after : Stage) → IsNextIn (copied_cells page to m.cells) from.block (from.page + 1) after
        → GoesOnAt m.plan (first_cells m.plan erased seen) (copied_cells page to m.cells) erased (does.CopyProgram page ∷ acts) after
    goes (stage.First b k) n = absurd n
    goes (stage.Read p q) n = there
    goes (stage.Program p q r) n = absurd n
    goes (stage.Erase b k) n = tt
    goes stage.Done n = absurd n

    pub copied_acts : (after : Stage) → IsNextIn (copied_cells page to m.cells) from.block (from.page + 1) after
        → IsMountOf seen erased next (does.CopyProgram page ∷ acts) (copied_mount m page to after)
    copied_acts after n =
        let act : Act = does.CopyProgram page in
        let is = ap (cells_after (part_of m.plan) (Some (0, act))) g.cells in record {
          cells = is ∙ ap (λ (x : Option ℕ). cells_after_program_in page x m.cells) h.opens;
          may = (g.may, subst (λ (x : Cells). MayMount (part_of m.plan) x (does.CopyProgram page)) (sym g.cells) copied_may);
          safe = (
            g.safe,
            safe_there (part_of m.plan) (first_cells m.plan erased seen) (cells_after_program (part_of m.plan) page m.cells) (does.CopyProgram page ∷ acts) is
                (subst (λ (x : Option ℕ). AreSoundCells (part_of m.plan) (cells_after_program_in page x m.cells)) (sym h.opens) copied_sound) on,
          );
          goes_on = goes after n;
          serial = λ pages.
              let l : Labels = labels_of (part_of m.plan) pages acts (first_cells m.plan erased seen) (remounted_labels erased seen next) in
              let bytes : PageData = slice_index_or pages page blank_page in
              ap (λ (x : Cells). (labels_after_program page bytes (open_block (part_of m.plan) x) l).next) g.cells
              ∙ (ap (λ (o : Option ℕ). (labels_after_program page bytes o l).next) h.opens ∙ ap (λ (k : ℕ). k + 1) (g.serial pages));
          rounds =
              let k = copied_mount m page to after in
              let older = subst (λ (st : Stage). count_by is_copy_program acts + copies_left_at m.plan m.cells m.rounds st
              ≤ most_rounds_beside m.plan * (m.plan.shape.pages - m.plan.alpha)) at g.rounds.copies in
              let slots = subst (λ (st : Stage). count_by is_erase acts + slots_left_at m.plan m.rounds st
              ≤ most_rounds_beside m.plan * m.plan.shape.erase_slots) at g.rounds.slots in record {
                copies = omega (arith, older, copies_next k from.block (from.page + 1) after n, copy_is.fewer, (copy_counts page acts).0);
                slots = omega (arith, slots, slots_next k from.block (from.page + 1) after n, (copy_counts page acts).1);
              };
        }

-- Between rounds

-- no block is in erase, one is wholly free, and with the rounds that are left enough pages come free
pub record IsBetween (m : Mounting) : Type 0 where
  pub idle : AreIdle m.cells
  pub block : ℕ
  pub free : IsFreeBlock m.cells block
  pub reaches : goal_of m.plan ≤ free_of m + m.rounds * m.plan.alpha
  pub erased : (b : ℕ) → (block_at m.cells b).erases + m.rounds ≤ most_rounds_beside m.plan

-- the mount once it was chosen what comes next
abbrev pub chosen_mount : Mounting → ℕ → Stage → Mounting
chosen_mount m left after = record { plan = m.plan; cells = m.cells; counts = m.counts; next = m.next; rounds = left; stage = after }

-- the state of the mount's part, with the number of its free pages
abbrev pub state_of : Mounting → (last : ℕ) → PartState
state_of m last = record { shape = (part_of m.plan).shape; cells = m.cells; last = last; free = free_of m }

module _ (m : Mounting) (bound : MeetsBound m.plan) (less : m.plan.shape.blocks < 1024) (s : AreSoundCells (part_of m.plan) m.cells)
    (h : IsBetween m) where
  wide_between : MeetsBound (part_of m.plan)
  wide_between = part_bound m.plan bound less

  -- where too few pages are free, a closed block has few
  pub worth : free_of m < goal_of m.plan → (b : ℕ) × IsWorthIt (part_of m.plan) m.cells b
  worth short =
      let pages = m.plan.shape.pages in
      let long = raised_length pages m.plan.caps in
      finds_block (part_of m.plan) m.cells wide_between s h.idle
      (omega (arith, short, ap (λ (n : ℕ). n * (pages - m.plan.alpha)) long, raised_sum pages m.plan.caps bound.limits.some_tasks, bound.limits.some_alpha))

  pub rounds_left : free_of m < goal_of m.plan → 0 < m.rounds
  rounds_left short = by_case (cases_eq m.rounds 0)
    where
      by_case : (m.rounds ≡ 0) ⊎ (m.rounds ≡ 0 → ⊥) → 0 < m.rounds
      by_case (inl none) = absurd (omega (arith, short, h.reaches, ap (λ (n : ℕ). n * m.plan.alpha) none))
      by_case (inr some) = omega arith

  block_room : m.plan.shape.pages ≤ free_of m
  block_room = free_pages (part_of m.plan) m.cells h.idle (record { b = h.block; stands = h.free.stands; none = h.free.unfilled })

  begun : (last left : ℕ) (after : Stage) → (g : BeginsRound (state_of m last) (goal_of m.plan) m.rounds after left)
      → IsEmptying (chosen_mount m left after) g.block 0
  begun last left after g =
      let w = worth g.short in
      let few : valid m.cells g.block ≤ m.plan.shape.pages - m.plan.alpha = omega (arith, g.fewest.fewest w.0 w.1.stands w.1.closed, w.1.few) in
      let fits = bound.limits.alpha_fits in
      let one : m.rounds * m.plan.alpha ≡ left * m.plan.alpha + m.plan.alpha =
      ap (λ (n : ℕ). n * m.plan.alpha) (sym g.one ∙ omega arith) ∙ suc-mul left m.plan.alpha in
      record {
        slots = has_slots m.plan bound;
        idle = h.idle;
        closed = g.fewest.closed;
        lie = λ page q e is. omega arith;
        room = omega (arith, few, block_room);
        few = few;
        reaches = omega (arith, h.reaches, one, few, fits);
        erased = λ b. omega (arith, h.erased b, g.one);
      }

  -- it stands well there
  pub chosen_at : (last left : ℕ) (after : Stage) → IsChosen (state_of m last) (goal_of m.plan) m.rounds after left
      → IsAt (chosen_mount m left after) after
  chosen_at last left after (inl e) = subst (IsAt (chosen_mount m left after)) (sym e.is) (record {
    idle = h.idle;
    enough = e.enough;
    erased = λ b. omega (arith, h.erased b);
  })
  chosen_at last left after (inr g) = at_next (chosen_mount m left after) g.block 0 after (begun last left after g) g.is

  -- no more calls, copies and slots than the rounds that were left have
  pub chosen_calls : (last left : ℕ) (after : Stage) → IsChosen (state_of m last) (goal_of m.plan) m.rounds after left
      → calls_left_at m.plan m.cells left after ≤ m.rounds * round_calls m.plan
  chosen_calls last left after (inl e) = subst (λ (st : Stage). calls_left_at m.plan m.cells left st ≤ m.rounds * round_calls m.plan) (sym e.is) (omega arith)
  chosen_calls last left after (inr g) =
      let few = (begun last left after g).few in
      let one : m.rounds * round_calls m.plan ≡ left * round_calls m.plan + round_calls m.plan =
      ap (λ (n : ℕ). n * round_calls m.plan) (sym g.one ∙ omega arith) ∙ suc-mul left (round_calls m.plan) in
      omega (arith, calls_next (chosen_mount m left after) g.block 0 after g.is, one, few)

  pub chosen_copies : (last left : ℕ) (after : Stage) → IsChosen (state_of m last) (goal_of m.plan) m.rounds after left
      → copies_left_at m.plan m.cells left after ≤ m.rounds * (m.plan.shape.pages - m.plan.alpha)
  chosen_copies last left after (inl e) =
      subst (λ (st : Stage). copies_left_at m.plan m.cells left st ≤ m.rounds * (m.plan.shape.pages - m.plan.alpha)) (sym e.is) (omega arith)
  chosen_copies last left after (inr g) =
      let few = (begun last left after g).few in
      let n = m.plan.shape.pages - m.plan.alpha in
      let one : m.rounds * n ≡ left * n + n = ap (λ (k : ℕ). k * n) (sym g.one ∙ omega arith) ∙ suc-mul left n in
      omega (arith, copies_next (chosen_mount m left after) g.block 0 after g.is, one, few)

  pub chosen_slots : (last left : ℕ) (after : Stage) → IsChosen (state_of m last) (goal_of m.plan) m.rounds after left
      → slots_left_at m.plan left after ≤ m.rounds * m.plan.shape.erase_slots
  chosen_slots last left after (inl e) =
      subst (λ (st : Stage). slots_left_at m.plan left st ≤ m.rounds * m.plan.shape.erase_slots) (sym e.is) (omega arith)
  chosen_slots last left after (inr g) =
      let n = m.plan.shape.erase_slots in
      let one : m.rounds * n ≡ left * n + n = ap (λ (k : ℕ). k * n) (sym g.one ∙ omega arith) ∙ suc-mul left n in
      omega (arith, slots_next (chosen_mount m left after) g.block 0 after g.is, one)

  -- a block is wholly free, so the power may go while it copies
  pub chosen_goes : (last left erased : ℕ) (first : Cells) (acts : List Act) (after : Stage)
      → IsChosen (state_of m last) (goal_of m.plan) m.rounds after left → GoesOnAt m.plan first m.cells erased acts after
  chosen_goes last left erased first acts after (inl e) = subst (GoesOnAt m.plan first m.cells erased acts) (sym e.is) tt
  chosen_goes last left erased first acts after (inr g) = by_stage after g.is
    where
      by_stage : (st : Stage) → IsNextIn m.cells g.block 0 st → GoesOnAt m.plan first m.cells erased acts st
      by_stage (stage.First b k) n = absurd n
      by_stage (stage.Read p q) n = inl (h.block, h.free)
      by_stage (stage.Program p q r) n = absurd n
      by_stage (stage.Erase b k) n = tt
      by_stage stage.Done n = absurd n

  -- a block that it takes now has the fewest pages
  pub chosen_takes : (last left : ℕ) (after : Stage) → IsChosen (state_of m last) (goal_of m.plan) m.rounds after left
      → (b : ℕ) → victim_at after ≡ Some b → IsTaken (chosen_mount m left after) b
  chosen_takes last left after (inl e) b v = absurd (none-some b (sym (ap victim_at e.is) ∙ v))
  chosen_takes last left after (inr g) b v = by_stage after g.is v
    where
      taken : g.block ≡ b → IsTaken (chosen_mount m left after) b
      taken is = record { short = g.short; fewest = subst (IsFewest m.plan.shape.pages m.cells) is g.fewest }

      by_stage : (st : Stage) → IsNextIn m.cells g.block 0 st → victim_at st ≡ Some b → IsTaken (chosen_mount m left after) b
      by_stage (stage.First a k) n e = absurd n
      by_stage (stage.Read p q) n e = taken (sym n.own ∙ same_Some q.block b e)
      by_stage (stage.Program p q r) n e = absurd n
      by_stage (stage.Erase a k) n e = taken (sym n.0 ∙ same_Some a b e)
      by_stage stage.Done n e = absurd n

-- A slot of an erase

-- the mount once the block had one slot more
abbrev pub slot_mount : Mounting → ℕ → Stage → Mounting
slot_mount m b after = record {
  plan = m.plan;
  cells = after_erase (part_of m.plan) b m.cells;
  counts = m.counts;
  next = m.next;
  rounds = m.rounds;
  stage = after;
}

module _ (m : Mounting) (b slots : ℕ) (bound : MeetsBound m.plan) (less : m.plan.shape.blocks < 1024)
    (s : AreSoundCells (part_of m.plan) m.cells) (h : IsAtErase m b slots) where
  wide_slot : MeetsBound (part_of m.plan)
  wide_slot = part_bound m.plan bound less

  pub erase_stands : b < length m.cells.blocks
  erase_stands = within_blocks (part_of m.plan) m.cells b (omega (arith, h.closed, has_pages (part_of m.plan) wide_slot)) (cases_lt b (length m.cells.blocks))

  slot_is : IsEraseSlot (part_of m.plan) b m.cells (after_erase (part_of m.plan) b m.cells)
  slot_is = erase_slot_is (part_of m.plan) b m.cells erase_stands

  pub slot_may : MayMount (part_of m.plan) m.cells (does.Erase b)
  slot_may = (h.closed, h.none)

  pub slot_sound : AreSoundCells (part_of m.plan) (after_erase (part_of m.plan) b m.cells)
  slot_sound = after_sound (part_of m.plan) m.cells (does.Erase b) wide_slot s (mount_act (part_of m.plan) m.cells (does.Erase b) slot_may)

  pub slot_free : sum_by (free_in m.plan) (after_erase (part_of m.plan) b m.cells).blocks
      ≡ free_of m + cond ((block_at m.cells b).erasing + 1 == m.plan.shape.erase_slots) m.plan.shape.pages 0
  slot_free = erase_free (part_of m.plan) 0 b m.cells (has_pages (part_of m.plan) wide_slot) h.closed

  -- the block's own state then
  own_state : (e : (block_at m.cells b).erasing + 1 ≡ m.plan.shape.erase_slots)
      → block_at (after_erase (part_of m.plan) b m.cells) b ≡ record { filled = 0; erasing = 0; erases = (block_at m.cells b).erases + 1 }
  own_state e = get_or-set_same m.cells.blocks b _ free_block erase_stands
      ∙ ap (λ (t : Bool). cond t (record { filled = 0; erasing = 0; erases = (block_at m.cells b).erases + 1 })
      (record { filled = (block_at m.cells b).filled; erasing = (block_at m.cells b).erasing + 1; erases = (block_at m.cells b).erases }))
      (eq-eqb ((block_at m.cells b).erasing + 1) m.plan.shape.erase_slots e)

  own_more : (e : (block_at m.cells b).erasing + 1 ≢ m.plan.shape.erase_slots)
      → block_at (after_erase (part_of m.plan) b m.cells) b
      ≡ record { filled = (block_at m.cells b).filled; erasing = (block_at m.cells b).erasing + 1; erases = (block_at m.cells b).erases }
  own_more e = get_or-set_same m.cells.blocks b _ free_block erase_stands
      ∙ ap (λ (t : Bool). cond t (record { filled = 0; erasing = 0; erases = (block_at m.cells b).erases + 1 })
      (record { filled = (block_at m.cells b).filled; erasing = (block_at m.cells b).erasing + 1; erases = (block_at m.cells b).erases }))
      (ne_eqb ((block_at m.cells b).erasing + 1) m.plan.shape.erase_slots e)

  state_by : (P : Block → Type 0) → P (block_at (after_erase (part_of m.plan) b m.cells) b) → (a : ℕ) → (a ≡ b → ⊥)
      ⊎ (a ≡ b) → ((a ≡ b → ⊥) → P (block_at m.cells a)) → P (block_at (after_erase (part_of m.plan) b m.cells) a)
  state_by P own a (inl other) others = subst P (sym (slot_is.others a other)) (others other)
  state_by P own a (inr is) others = subst (λ (x : ℕ). P (block_at (after_erase (part_of m.plan) b m.cells) x)) (sym is) own

  which : (a : ℕ) → (a ≡ b → ⊥) ⊎ (a ≡ b)
  which a = by_case (cases_eq a b)
    where
      by_case : (a ≡ b) ⊎ (a ≡ b → ⊥) → (a ≡ b → ⊥) ⊎ (a ≡ b)
      by_case (inl e) = inr e
      by_case (inr e) = inl e

  module _ (more : slots + 1 < m.plan.shape.erase_slots) where
    more_ne : (block_at m.cells b).erasing + 1 ≢ m.plan.shape.erase_slots
    more_ne e = omega (arith, e, more, h.erasing)

    pub more_free : sum_by (free_in m.plan) (after_erase (part_of m.plan) b m.cells).blocks ≡ free_of m
    more_free = slot_free ∙ (ap (λ (t : Bool). free_of m + cond t m.plan.shape.pages 0)
        (ne_eqb ((block_at m.cells b).erasing + 1) m.plan.shape.erase_slots more_ne) ∙ omega arith)

    pub more_at : IsAtErase (slot_mount m b (stage.Erase b (slots + 1))) b (slots + 1)
    more_at =
        let own = own_more more_ne in record {
          closed = ap (λ (t : Block). t.filled) own ∙ h.closed;
          none = h.none;
          erasing = ap (λ (t : Block). t.erasing) own ∙ omega (arith, h.erasing);
          more = more;
          others = λ a other. ap (λ (t : Block). t.erasing) (slot_is.others a other) ∙ h.others a other;
          reaches = omega (arith, h.reaches, more_free);
          erased = λ a. state_by (λ t. t.erases + m.rounds < most_rounds_beside m.plan)
              (omega (arith, ap (λ (t : Block). t.erases) own, h.erased b)) a (which a) (λ other. h.erased a);
        }

    -- a block that isn't closed is as it was
    pub more_last : (last : ℕ) → ((a : ℕ) → IsOpen (part_of m.plan) m.cells a → a ≡ last) → (a : ℕ)
        → IsOpen (part_of m.plan) (after_erase (part_of m.plan) b m.cells) a → a ≡ last
    more_last last alone a =
        let own = own_more more_ne in
        state_by (λ t. ((0 < t.filled) × (t.filled < m.plan.shape.pages)) → a ≡ last)
        (λ w. absurd (omega (arith, w.1, ap (λ (t : Block). t.filled) own, h.closed))) a (which a) (λ other. alone a)

  module _ (last_one : slots + 1 ≡ m.plan.shape.erase_slots) where
    last_is : (block_at m.cells b).erasing + 1 ≡ m.plan.shape.erase_slots
    last_is = omega (arith, last_one, h.erasing)

    pub last_free : sum_by (free_in m.plan) (after_erase (part_of m.plan) b m.cells).blocks ≡ free_of m + m.plan.shape.pages
    last_free = slot_free ∙ ap (λ (t : Bool). free_of m + cond t m.plan.shape.pages 0)
        (eq-eqb ((block_at m.cells b).erasing + 1) m.plan.shape.erase_slots last_is)

    pub last_between : (after : Stage) → IsBetween (slot_mount m b after)
    last_between after =
        let own = own_state last_is in record {
          idle = λ a. state_by (λ t. t.erasing ≡ 0) (ap (λ (t : Block). t.erasing) own) a (which a) (λ other. h.others a other);
          block = b;
          free = record {
            stands = omega (arith, erase_stands, slot_is.blocks);
            unfilled = ap (λ (t : Block). t.filled) own;
            idle = ap (λ (t : Block). t.erasing) own;
          };
          reaches = omega (arith, h.reaches, last_free);
          erased = λ a. state_by (λ t. t.erases + m.rounds ≤ most_rounds_beside m.plan)
              (omega (arith, ap (λ (t : Block). t.erases) own, h.erased b)) a (which a) (λ other. omega (arith, h.erased a));
        }

    pub last_last : (last : ℕ) → ((a : ℕ) → IsOpen (part_of m.plan) m.cells a → a ≡ last) → (a : ℕ)
        → IsOpen (part_of m.plan) (after_erase (part_of m.plan) b m.cells) a → a ≡ last
    last_last last alone a =
        let own = own_state last_is in
        state_by (λ t. ((0 < t.filled) × (t.filled < m.plan.shape.pages)) → a ≡ last)
        (λ w. absurd (omega (arith, w.0, ap (λ (t : Block). t.filled) own))) a (which a) (λ other. alone a)

  -- the acts then
  module _ (seen : Shown) (erased next : ℕ) (acts : List Act) (at : m.stage ≡ stage.Erase b slots) (g : IsMountOf seen erased next acts m)
      (left : ℕ) (after : Stage)
      (goes : GoesOnAt m.plan (first_cells m.plan erased seen) (after_erase (part_of m.plan) b m.cells) erased (does.Erase b ∷ acts) after)
      (copies : copies_left_at m.plan (after_erase (part_of m.plan) b m.cells) left after ≤ m.rounds * (m.plan.shape.pages - m.plan.alpha))
      (rest : slots_left_at m.plan left after + 1 ≤ m.plan.shape.erase_slots - slots + m.rounds * m.plan.shape.erase_slots) where
    pub slot_acts : IsMountOf seen erased next (does.Erase b ∷ acts) (chosen_mount (slot_mount m b after) left after)
    slot_acts = record {
      cells = ap (after_erase (part_of m.plan) b) g.cells;
      may = (g.may, subst (λ (x : Cells). MayMount (part_of m.plan) x (does.Erase b)) (sym g.cells) slot_may);
      safe = (g.safe, erase_safe (part_of m.plan) (first_cells m.plan erased seen) m.cells b acts g.cells slot_is erase_stands h.none);
      goes_on = goes;
      serial = λ pages. by_test (labels_of (part_of m.plan) pages acts (first_cells m.plan erased seen) (remounted_labels erased seen next))
          ((block_at (cells_of (part_of m.plan) acts (first_cells m.plan erased seen)) b).erasing + 1 == m.plan.shape.erase_slots) ∙ g.serial pages;
      rounds =
          let older = subst (λ (st : Stage). count_by is_copy_program acts + copies_left_at m.plan m.cells m.rounds st
          ≤ most_rounds_beside m.plan * (m.plan.shape.pages - m.plan.alpha)) at g.rounds.copies in
          let slots_too = subst (λ (st : Stage). count_by is_erase acts + slots_left_at m.plan m.rounds st
          ≤ most_rounds_beside m.plan * m.plan.shape.erase_slots) at g.rounds.slots in record {
            copies = omega (arith, older, copies, (slot_counts b acts).0);
            slots = omega (arith, slots_too, rest, (slot_counts b acts).1);
          };
    }
      where
        by_test : (l : Labels) (t : Bool) → (cond t (record l { blocks = slice_set l.blocks b [] }) l).next ≡ l.next
        by_test l true = refl
        by_test l false = refl
