-- What a call that was carried out makes of a mount.
use Rattle.std.proofs.Common.{◌≡◌, ◌⊎◌, ℕ, ◌+◌, ◌-◌, ◌*◌, ◌^◌, ◌<◌, ◌≤◌, ◌==◌, nat_lt, Bool, true, false, cond, List, [], ◌∷◌, length, Option, Some, None}
use Rattle.std.proofs.Common.{refl, ap, sym, ◌∙◌, subst, inl, inr, arith, option_map, position}
use Rattle.std.specs.Prelude.{sum_by, count_by}
use Rattle.std.specs.Option.{option_or}
use Rattle.std.proofs.lemmas.Bool.{true≢false, cases_eq, and_parts, and_from, eqb-true, ltb-true, lt-ltb}
use Rattle.std.proofs.lemmas.List.Quantifiers.{position-Some}
use Rattle.std.proofs.lemmas.Option.{none-some, same_Some}
use Rattle.std.proofs.lemmas.List.Sums.{sum_by-cons}
use Rattle.page_map.specs.Placing.{IsCell}
use Rattle.page_map.proofs.Owners.{no_owner}
use Rattle.slot_types.specs.Places.{owner_of}
use Rattle.slot_types.specs.declared.plans.DiePlan.{DiePlan}
use Rattle.slot_types.specs.declared.plans.Shape.{Shape}
use Rattle.slot_types.specs.declared.pages.Place.{Place}
use Rattle.slot_types.specs.declared.acts.Act.{Act}
use Rattle.slot_types.specs.declared.acts.Act.TheVariants as does
use Rattle.plan_rules.specs.Bound.{MeetsBound}
use Rattle.die_log.specs.Model.Flash.{Cells, Block, block_at, cells_after, cells_after_program_in, free_block, free_in, is_open, open_block, valid}
use Rattle.die_log.specs.Invariants.SoundCells.{AreSoundCells, IsOpen}
use Rattle.die_log.proofs.Cells.Acts.{in_block}
use Rattle.die_log.proofs.Cells.Steps.{open_is, opens}
use Rattle.die_log.proofs.Cells.Valid.{unplaced_is}
use Rattle.die_log.specs.Model.Work.{is_copy_program, is_erase}
use Rattle.die_log.proofs.Legal.Exact.{has_pages}
use Rattle.power_loss.specs.Aside.{most_rounds_beside, part_of}
use Rattle.power_loss.specs.Recovery.{MayMount}
use Rattle.power_loss.proofs.Aside.ComingBack.{part_bound}
use Rattle.power_loss.proofs.Compacting.{after_erase}
use Rattle.die_mount.specs.declared.stage.Stage.{Stage}
use Rattle.die_mount.specs.declared.stage.Stage.TheVariants as stage
use Rattle.die_mount.specs.Choosing.{HasClosed, IsChosen, IsNextIn, LieWithin}
use Rattle.die_mount.specs.Mounting.{Mounting, IsAt, IsAtFirst, IsAtPage, IsAtProgram, IsAtErase, IsMountOf, IsStep, GoesOnAt}
use Rattle.die_mount.specs.Mounting.{acts_after, act_at, calls_left_at, carried_at, copies_left_at, first_cells, free_of, goal_of, programs_at}
use Rattle.die_mount.specs.Mounting.{slots_left_at, victim_at}
use Rattle.die_mount.specs.PartState.{PartState, freed_by, is_open_at, next_cell_of}
use Rattle.die_mount.specs.SoundMount.{CountsPart, StandsWell}
use Rattle.die_mount.proofs.Rounds.{IsBetween, at_next, chosen_at, chosen_calls, chosen_copies, chosen_goes, chosen_mount, chosen_slots, chosen_takes}
use Rattle.die_mount.proofs.Rounds.{copied_acts, copied_cells, copied_emptying, copied_free, copied_last, copied_less, copied_may, copied_mount}
use Rattle.die_mount.proofs.Rounds.{copied_sound, has_room, takes, worth, last_between, last_last, more_at, more_last, slot_acts, slot_free, slot_may}
use Rattle.die_mount.proofs.Rounds.{slot_mount, slot_sound, state_of}

-- what stands after a call, and what the call did
pub record Steps (old new : Mounting) (p : PartState) : Type 0 where
  pub stands : StandsWell new
  pub counts : CountsPart new p
  pub step : IsStep old new

-- with these cells, serial, rounds and stage
abbrev pub remade : Mounting → Cells → (next rounds : ℕ) → Stage → Mounting
remade m c next rounds after = record { plan = m.plan; cells = c; counts = m.counts; next = next; rounds = rounds; stage = after }

-- pages lie in cells of their blocks
pub lie_within : (plan : DiePlan) (c : Cells) → AreSoundCells plan c → LieWithin plan.shape.pages c
lie_within plan c s page q e = omega (arith, s.placed page q e, s.within q.block)

-- with another stage alone
abbrev pub staged : Mounting → Stage → Mounting
staged m after = record { plan = m.plan; cells = m.cells; counts = m.counts; next = m.next; rounds = m.rounds; stage = after }

-- A copy

victim_next : (c : Cells) (block from : ℕ) (after : Stage) → IsNextIn c block from after → (b : ℕ) → victim_at after ≡ Some b → block ≡ b
victim_next c block from (stage.First a k) n b e = absurd n
victim_next c block from (stage.Read p q) n b e = sym n.own ∙ same_Some q.block b e
victim_next c block from (stage.Program p q r) n b e = absurd n
victim_next c block from (stage.Erase a k) n b e = sym n.0 ∙ same_Some a b e
victim_next c block from stage.Done n b e = absurd n

pub copy_steps : (m : Mounting) (p : PartState) (page : ℕ) (from to : Place) (after : Stage) → StandsWell m → CountsPart m p
    → m.stage ≡ stage.Program page from to → IsNextIn (copied_cells page to m.cells) from.block (from.page + 1) after
    → (r : PartState) → r.shape ≡ p.shape → r.free ≡ p.free - 1 → r.last ≡ to.block → Steps m (copied_mount m page to after) r
copy_steps m p page from to after w k at n r shape free last =
    let h : IsAtProgram m page from to = subst (IsAt m) at w.at in
    let b = w.bound in
    let s = w.sound in
    let less : calls_left_at m.plan (copied_cells page to m.cells) m.rounds after < calls_left_at m.plan m.cells m.rounds m.stage =
    subst (λ (st : Stage). calls_left_at m.plan (copied_cells page to m.cells) m.rounds after < calls_left_at m.plan m.cells m.rounds st) (sym at)
    (copied_less m page from to b w.beside s h after n) in record {
      stands = record {
        bound = b;
        beside = w.beside;
        sound = copied_sound m page from to b w.beside s h;
        at = at_next (copied_mount m page to after) from.block (from.page + 1) after (copied_emptying m page from to b w.beside s h after) n;
        counts = w.counts;
        unworn = w.unworn;
        few = omega (arith, less, w.few);
        serials = omega (arith, less, w.serials);
      };
      counts = record {
        shape = shape ∙ k.shape;
        free = free ∙ omega (arith, k.free, copied_free m page from to b w.beside s h, has_room m page from to b w.beside s h);
        last = λ a opened. copied_last m page from to b w.beside s h a opened ∙ sym last;
      };
      step = record {
        plan = refl;
        cells = ap (λ (x : Option ℕ). cells_after_program_in page x m.cells) (sym h.opens)
            ∙ ap (λ (st : Stage). cells_after (part_of m.plan) (carried_at st) m.cells) (sym at);
        counts = refl;
        next = ap (λ (st : Stage). m.next + programs_at st) (sym at);
        may = λ act e. subst (MayMount (part_of m.plan) m.cells) (same_Some (does.CopyProgram page) act (sym (ap act_at at) ∙ e))
            (copied_may m page from to b w.beside s h);
        less = less;
        takes = λ a v. inl (ap victim_at at
            ∙ ap (λ (x : ℕ). Some x) (victim_next (copied_cells page to m.cells) from.block (from.page + 1) after n a v));
        acts = λ seen erased next acts g. subst (λ (st : Stage). IsMountOf seen erased next (acts_after st acts) (copied_mount m page to after)) (sym at)
            (copied_acts m page from to b w.beside s h seen erased next acts at g after n);
      };
    }

-- The cell of the next program

opened_of : (plan : DiePlan) (t : Block) → is_open plan t ≡ true → (0 < t.filled) × (t.filled < plan.shape.pages)
opened_of plan t h =
    let parts = and_parts (nat_lt 0 t.filled) (nat_lt t.filled plan.shape.pages) h in
    (ltb-true 0 t.filled parts.0, ltb-true t.filled plan.shape.pages parts.1)

opened_from : (plan : DiePlan) (t : Block) → (0 < t.filled) × (t.filled < plan.shape.pages) → is_open plan t ≡ true
opened_from plan t h = and_from (nat_lt 0 t.filled) (nat_lt t.filled plan.shape.pages) (lt-ltb 0 t.filled h.0) (lt-ltb t.filled plan.shape.pages h.1)

abbrev at_start : ℕ → Place
at_start b = record { block = b; page = 0 }

abbrev next_by : Bool → Cells → ℕ → Option Place
next_by t c last =
    cond t (Some (record { block = last; page = (block_at c last).filled })) (option_map (λ b. record { block = b; page = 0 }) (position (λ t. t.filled == 0) c.blocks))

pub record IsNextCell (plan : DiePlan) (c : Cells) (to : Place) : Type 0 where
  pub opens : open_block plan c ≡ Some to.block
  pub next : to.page ≡ (block_at c to.block).filled

module _ (plan : DiePlan) (c : Cells) (last : ℕ) (more : 0 < plan.shape.pages) (s : AreSoundCells plan c) (room : 0 < sum_by (free_in plan) c.blocks)
    (alone : (a : ℕ) → IsOpen plan c a → a ≡ last) where
  -- where the last block isn't open, none is
  none_open : is_open plan (block_at c last) ≡ false → (o : Option ℕ) → position (is_open plan) c.blocks ≡ o → o ≡ None
  none_open shut None e = refl
  none_open shut (Some d) e =
      let k = position-Some (is_open plan) c.blocks d free_block e in
      let is = alone d (opened_of plan (block_at c d) k.1) in
      absurd (true≢false (sym k.1 ∙ (ap (λ (x : ℕ). is_open plan (block_at c x)) is ∙ shut)))

  first_one : is_open plan (block_at c last) ≡ false → open_block plan c ≡ position (λ (t : Block). t.filled == 0) c.blocks
  first_one shut = ap (λ (o : Option ℕ). option_or o (position (λ (t : Block). t.filled == 0) c.blocks))
      (none_open shut (position (is_open plan) c.blocks) refl)

  by_first : (f : Option ℕ) → position (λ (t : Block). t.filled == 0) c.blocks ≡ f → is_open plan (block_at c last) ≡ false → (to : Place)
      → option_map (λ b. record { block = b; page = 0 }) f ≡ Some to → IsNextCell plan c to
  by_first None e shut to is = absurd (none-some to is)
  by_first (Some b) e shut to is =
      let same : at_start b ≡ to = same_Some (at_start b) to is in
      let k = position-Some (λ (t : Block). t.filled == 0) c.blocks b free_block e in
      subst (IsNextCell plan c) same (record { opens = first_one shut ∙ e; next = sym (eqb-true (block_at c b).filled 0 k.1) })

  by_open : (t : Bool) → is_open plan (block_at c last) ≡ t → (to : Place) → next_by t c last ≡ Some to → IsNextCell plan c to
  by_open false shut to is = by_first (position (λ (t : Block). t.filled == 0) c.blocks) refl shut to is
  by_open true opened to is =
      let same = same_Some _ to is in
      let o = opens plan c room in
      let k = open_is plan c o.0 more s o.1 in
      subst (IsNextCell plan c) same (record {
        opens = o.1 ∙ ap (λ (x : ℕ). Some x) (sym (k.alone last (opened_of plan (block_at c last) opened)));
        next = refl;
      })

  pub next_is : (to : Place) → next_by (is_open plan (block_at c last)) c last ≡ Some to → IsNextCell plan c to
  next_is to is = by_open (is_open plan (block_at c last)) refl to is

  none_by : (t : Bool) → is_open plan (block_at c last) ≡ t → next_by t c last ≡ None → ⊥
  none_by true opened is = none-some _ (sym is)
  none_by false shut is = by_position (position (λ (t : Block). t.filled == 0) c.blocks) refl is
    where
      by_position : (f : Option ℕ) → position (λ (t : Block). t.filled == 0) c.blocks ≡ f
          → option_map at_start f ≡ None → ⊥
      by_position None e none = let o = opens plan c room in none-some o.0 (sym e ∙ (sym (first_one shut) ∙ o.1))
      by_position (Some b) e none = none-some (at_start b) (sym none)

  pub next_some : next_by (is_open plan (block_at c last)) c last ≡ None → ⊥
  next_some is = none_by (is_open plan (block_at c last)) refl is

-- A read

cell_is : (m : Mounting) (p : PartState) → CountsPart m p → p.cells ≡ m.cells
    → next_cell_of p ≡ next_by (is_open (part_of m.plan) (block_at m.cells p.last)) m.cells p.last
cell_is m p k cells =
    ap (λ (sh : Shape). next_by (is_open_at sh.pages (block_at p.cells p.last)) p.cells p.last) k.shape
    ∙ ap (λ (c : Cells). next_by (is_open (part_of m.plan) (block_at c p.last)) c p.last) cells

page_room : (m : Mounting) (page : ℕ) (from : Place) → IsAtPage m page from → 0 < valid m.cells from.block → 0 < free_of m
page_room m page from h some = omega (arith, h.room, some)

page_lies : (m : Mounting) (page : ℕ) (from : Place) → IsAtPage m page from → 0 < valid m.cells from.block
page_lies m page from h = by_case (cases_eq (valid m.cells from.block) 0)
  where
    by_case : (valid m.cells from.block ≡ 0) ⊎ (valid m.cells from.block ≡ 0 → ⊥) → 0 < valid m.cells from.block
    by_case (inl none) = absurd (unplaced_is (part_of m.plan) m.cells from.block none page (in_block m.cells page from.block from h.lies refl))
    by_case (inr has) = omega arith

-- there is a next cell
pub has_cell : (m : Mounting) (p : PartState) (page : ℕ) (from : Place) → StandsWell m → CountsPart m p → p.cells ≡ m.cells
    → m.stage ≡ stage.Read page from → next_cell_of p ≡ None → ⊥
has_cell m p page from w k cells at none =
    let h : IsAtPage m page from = subst (IsAt m) at w.at in
    let wide = part_bound m.plan w.bound w.beside in
    next_some (part_of m.plan) m.cells p.last (has_pages (part_of m.plan) wide) w.sound (page_room m page from h (page_lies m page from h)) k.last
    (sym (cell_is m p k cells) ∙ none)

pub read_steps : (m : Mounting) (p : PartState) (page : ℕ) (from to : Place) → StandsWell m → CountsPart m p → p.cells ≡ m.cells
    → m.stage ≡ stage.Read page from → next_cell_of p ≡ Some to → Steps m (staged m (stage.Program page from to)) p
read_steps m p page from to w k cells at is =
    let h : IsAtPage m page from = subst (IsAt m) at w.at in
    let some = page_lies m page from h in
    let wide = part_bound m.plan w.bound w.beside in
    let cell = next_is (part_of m.plan) m.cells p.last (has_pages (part_of m.plan) wide) w.sound (page_room m page from h some) k.last to
    (sym (cell_is m p k cells) ∙ is) in
    let less : calls_left_at m.plan m.cells m.rounds (stage.Program page from to) < calls_left_at m.plan m.cells m.rounds m.stage =
    subst (λ (st : Stage). calls_left_at m.plan m.cells m.rounds (stage.Program page from to) < calls_left_at m.plan m.cells m.rounds st) (sym at)
    (omega (arith, some)) in record {
      stands = record {
        bound = w.bound;
        beside = w.beside;
        sound = w.sound;
        at = record {
          at = record {
            idle = h.idle;
            closed = h.closed;
            lies = h.lies;
            first = h.first;
            room = h.room;
            few = h.few;
            reaches = h.reaches;
            erased = h.erased;
          };
          opens = cell.opens;
          next = cell.next;
        };
        counts = w.counts;
        unworn = w.unworn;
        few = omega (arith, less, w.few);
        serials = omega (arith, less, w.serials);
      };
      counts = record { shape = k.shape; free = k.free; last = k.last };
      step = record {
        plan = refl;
        cells = ap (λ (st : Stage). cells_after (part_of m.plan) (carried_at st) m.cells) (sym at);
        counts = refl;
        next = omega (arith, ap programs_at at);
        may = λ act e. absurd (none-some act (sym (ap act_at at) ∙ e));
        less = less;
        takes = λ b v. inl (ap victim_at at ∙ v);
        acts = λ seen erased next acts g.
            let same = ap (λ (st : Stage). acts_after st acts) at in
            subst (λ (xs : List Act). IsMountOf seen erased next xs (staged m (stage.Program page from to))) (sym same) (record {
              cells = g.cells;
              may = g.may;
              safe = g.safe;
              goes_on = subst (GoesOnAt m.plan (first_cells m.plan erased seen) m.cells erased acts) at g.goes_on;
              serial = g.serial;
              rounds = record {
                copies = subst (λ (st : Stage). count_by is_copy_program acts + copies_left_at m.plan m.cells m.rounds st
                    ≤ most_rounds_beside m.plan * (m.plan.shape.pages - m.plan.alpha)) at g.rounds.copies;
                slots = subst (λ (st : Stage). count_by is_erase acts + slots_left_at m.plan m.rounds st
                    ≤ most_rounds_beside m.plan * m.plan.shape.erase_slots) at g.rounds.slots;
              };
            });
      };
    }

-- A slot of the first erase

between_first : (m : Mounting) (block slots : ℕ) → IsAtFirst m block slots → IsBetween m
between_first m block slots h = record { idle = h.idle; block = block; free = h.free; reaches = h.reaches; erased = h.erased }

pub first_steps : (m : Mounting) (p : PartState) (block slots : ℕ) → StandsWell m → CountsPart m p → m.stage ≡ stage.First block slots
    → slots + 1 < m.plan.shape.erase_slots → Steps m (staged m (stage.First block (slots + 1))) p
first_steps m p block slots w k at more =
    let h : IsAtFirst m block slots = subst (IsAt m) at w.at in
    let less : calls_left_at m.plan m.cells m.rounds (stage.First block (slots + 1)) < calls_left_at m.plan m.cells m.rounds m.stage =
    subst (λ (st : Stage). calls_left_at m.plan m.cells m.rounds (stage.First block (slots + 1)) < calls_left_at m.plan m.cells m.rounds st) (sym at)
    (omega (arith, more)) in record {
      stands = record {
        bound = w.bound;
        beside = w.beside;
        sound = w.sound;
        at = record { idle = h.idle; free = h.free; more = more; reaches = h.reaches; erased = h.erased };
        counts = w.counts;
        unworn = w.unworn;
        few = omega (arith, less, w.few);
        serials = omega (arith, less, w.serials);
      };
      counts = record { shape = k.shape; free = k.free; last = k.last };
      step = record {
        plan = refl;
        cells = ap (λ (st : Stage). cells_after (part_of m.plan) (carried_at st) m.cells) (sym at);
        counts = refl;
        next = omega (arith, ap programs_at at);
        may = λ act e. absurd (none-some act (sym (ap act_at at) ∙ e));
        less = less;
        takes = λ b v. absurd (none-some b v);
        acts = λ seen erased next acts g.
            let same = ap (λ (st : Stage). acts_after st acts) at in
            let begins = subst (GoesOnAt m.plan (first_cells m.plan erased seen) m.cells erased acts) at g.goes_on in
            subst (λ (xs : List Act). IsMountOf seen erased next xs (staged m (stage.First block (slots + 1)))) (sym same) (record {
              cells = g.cells;
              may = g.may;
              safe = g.safe;
              goes_on = (begins.0, begins.1);
              serial = g.serial;
              rounds = record {
                copies = subst (λ (st : Stage). count_by is_copy_program acts + copies_left_at m.plan m.cells m.rounds st
                    ≤ most_rounds_beside m.plan * (m.plan.shape.pages - m.plan.alpha)) at g.rounds.copies;
                slots = subst (λ (st : Stage). count_by is_erase acts + slots_left_at m.plan m.rounds st
                    ≤ most_rounds_beside m.plan * m.plan.shape.erase_slots) at g.rounds.slots;
              };
            });
      };
    }

pub first_between : (m : Mounting) (block slots : ℕ) → StandsWell m → m.stage ≡ stage.First block slots → IsBetween m
first_between m block slots w at = between_first m block slots (subst (IsAt m) at w.at)

pub first_chosen : (m : Mounting) (p : PartState) (block slots left : ℕ) (after : Stage) → StandsWell m → CountsPart m p
    → m.stage ≡ stage.First block slots → slots + 1 ≡ m.plan.shape.erase_slots
    → IsChosen (state_of m p.last) (goal_of m.plan) m.rounds after left → Steps m (chosen_mount m left after) p
first_chosen m p block slots left after w k at last x =
    let h : IsAtFirst m block slots = subst (IsAt m) at w.at in
    let i = between_first m block slots h in
    let less : calls_left_at m.plan m.cells left after < calls_left_at m.plan m.cells m.rounds m.stage =
    subst (λ (st : Stage). calls_left_at m.plan m.cells left after < calls_left_at m.plan m.cells m.rounds st) (sym at)
    (omega (arith, last, chosen_calls m w.bound w.beside w.sound i p.last left after x)) in record {
      stands = record {
        bound = w.bound;
        beside = w.beside;
        sound = w.sound;
        at = chosen_at m w.bound w.beside w.sound i p.last left after x;
        counts = w.counts;
        unworn = w.unworn;
        few = omega (arith, less, w.few);
        serials = omega (arith, less, w.serials);
      };
      counts = record { shape = k.shape; free = k.free; last = k.last };
      step = record {
        plan = refl;
        cells = ap (λ (st : Stage). cells_after (part_of m.plan) (carried_at st) m.cells) (sym at);
        counts = refl;
        next = omega (arith, ap programs_at at);
        may = λ act e. absurd (none-some act (sym (ap act_at at) ∙ e));
        less = less;
        takes = λ b v. inr (chosen_takes m w.bound w.beside w.sound i p.last left after x b v);
        acts = λ seen erased next acts g.
            let same = ap (λ (st : Stage). acts_after st acts) at in
            subst (λ (xs : List Act). IsMountOf seen erased next xs (chosen_mount m left after)) (sym same) (record {
              cells = g.cells;
              may = g.may;
              safe = g.safe;
              goes_on = chosen_goes m w.bound w.beside w.sound i p.last left erased (first_cells m.plan erased seen) acts after x;
              serial = g.serial;
              rounds =
                  let copies = subst (λ (st : Stage). count_by is_copy_program acts + copies_left_at m.plan m.cells m.rounds st
                  ≤ most_rounds_beside m.plan * (m.plan.shape.pages - m.plan.alpha)) at g.rounds.copies in
                  let slots = subst (λ (st : Stage). count_by is_erase acts + slots_left_at m.plan m.rounds st
                  ≤ most_rounds_beside m.plan * m.plan.shape.erase_slots) at g.rounds.slots in record {
                    copies = omega (arith, copies, chosen_copies m w.bound w.beside w.sound i p.last left after x);
                    slots = omega (arith, slots, chosen_slots m w.bound w.beside w.sound i p.last left after x);
                  };
            });
      };
    }

-- A slot of the erase of the block that was emptied

pub slot_steps : (m : Mounting) (p r : PartState) (b slots : ℕ) → StandsWell m → CountsPart m p → m.stage ≡ stage.Erase b slots
    → slots + 1 < m.plan.shape.erase_slots → r.shape ≡ p.shape → r.last ≡ p.last
    → r.free ≡ p.free + freed_by (part_of m.plan) (block_at m.cells b) → Steps m (slot_mount m b (stage.Erase b (slots + 1))) r
slot_steps m p r b slots w k at more shape last free =
    let h : IsAtErase m b slots = subst (IsAt m) at w.at in
    let less : calls_left_at m.plan (after_erase (part_of m.plan) b m.cells) m.rounds (stage.Erase b (slots + 1))
    < calls_left_at m.plan m.cells m.rounds m.stage =
    subst (λ (st : Stage). calls_left_at m.plan (after_erase (part_of m.plan) b m.cells) m.rounds (stage.Erase b (slots + 1))
    < calls_left_at m.plan m.cells m.rounds st) (sym at) (omega (arith, more)) in record {
      stands = record {
        bound = w.bound;
        beside = w.beside;
        sound = slot_sound m b slots w.bound w.beside w.sound h;
        at = more_at m b slots w.bound w.beside w.sound h more;
        counts = w.counts;
        unworn = w.unworn;
        few = omega (arith, less, w.few);
        serials = omega (arith, less, w.serials);
      };
      counts = record {
        shape = shape ∙ k.shape;
        free = free ∙ (ap (λ (n : ℕ). n + freed_by (part_of m.plan) (block_at m.cells b)) k.free ∙ sym (slot_free m b slots w.bound w.beside w.sound h));
        last = λ a opened. more_last m b slots w.bound w.beside w.sound h more p.last k.last a opened ∙ sym last;
      };
      step = record {
        plan = refl;
        cells = ap (λ (st : Stage). cells_after (part_of m.plan) (carried_at st) m.cells) (sym at);
        counts = refl;
        next = omega (arith, ap programs_at at);
        may = λ act e. subst (MayMount (part_of m.plan) m.cells) (same_Some (does.Erase b) act (sym (ap act_at at) ∙ e))
            (slot_may m b slots w.bound w.beside w.sound h);
        less = less;
        takes = λ a v. inl (ap victim_at at ∙ v);
        acts = λ seen erased next acts g.
            let same = ap (λ (st : Stage). acts_after st acts) at in
            subst (λ (xs : List Act). IsMountOf seen erased next xs (slot_mount m b (stage.Erase b (slots + 1)))) (sym same)
            (slot_acts m b slots w.bound w.beside w.sound h seen erased next acts at g m.rounds (stage.Erase b (slots + 1)) tt (omega arith) (omega (arith, more)));
      };
    }

pub slot_between : (m : Mounting) (b slots : ℕ) → StandsWell m → m.stage ≡ stage.Erase b slots → slots + 1 ≡ m.plan.shape.erase_slots
    → IsBetween (slot_mount m b m.stage)
slot_between m b slots w at last = last_between m b slots w.bound w.beside w.sound (subst (IsAt m) at w.at) last m.stage

pub slot_sounds : (m : Mounting) (b slots : ℕ) → StandsWell m → m.stage ≡ stage.Erase b slots
    → AreSoundCells (part_of m.plan) (after_erase (part_of m.plan) b m.cells)
slot_sounds m b slots w at = slot_sound m b slots w.bound w.beside w.sound (subst (IsAt m) at w.at)

-- fewer slots than an erase has
pub slots_few : (m : Mounting) (b slots : ℕ) → StandsWell m → m.stage ≡ stage.Erase b slots → slots < m.plan.shape.erase_slots
slots_few m b slots w at = let h : IsAtErase m b slots = subst (IsAt m) at w.at in h.more

pub first_few : (m : Mounting) (b slots : ℕ) → StandsWell m → m.stage ≡ stage.First b slots → slots < m.plan.shape.erase_slots
first_few m b slots w at = let h : IsAtFirst m b slots = subst (IsAt m) at w.at in h.more

-- what the part counts as free then
pub slot_counts_free : (m : Mounting) (p r : PartState) (b slots : ℕ) → StandsWell m → CountsPart m p → m.stage ≡ stage.Erase b slots
    → r.free ≡ p.free + freed_by (part_of m.plan) (block_at m.cells b) → r.free ≡ free_of (slot_mount m b m.stage)
slot_counts_free m p r b slots w k at free =
    free ∙ (ap (λ (n : ℕ). n + freed_by (part_of m.plan) (block_at m.cells b)) k.free
    ∙ sym (slot_free m b slots w.bound w.beside w.sound (subst (IsAt m) at w.at)))

pub slot_chosen : (m : Mounting) (p r : PartState) (b slots left : ℕ) (after : Stage) → StandsWell m → CountsPart m p → m.stage ≡ stage.Erase b slots
    → slots + 1 ≡ m.plan.shape.erase_slots → r.shape ≡ p.shape → r.last ≡ p.last
    → r.free ≡ p.free + freed_by (part_of m.plan) (block_at m.cells b)
    → IsChosen (state_of (slot_mount m b m.stage) r.last) (goal_of m.plan) m.rounds after left
    → Steps m (chosen_mount (slot_mount m b m.stage) left after) r
slot_chosen m p r b slots left after w k at last shape same_last free x =
    let h : IsAtErase m b slots = subst (IsAt m) at w.at in
    let n = slot_mount m b m.stage in
    let sound = slot_sound m b slots w.bound w.beside w.sound h in
    let i = last_between m b slots w.bound w.beside w.sound h last m.stage in
    let less : calls_left_at m.plan (after_erase (part_of m.plan) b m.cells) left after < calls_left_at m.plan m.cells m.rounds m.stage =
    subst (λ (st : Stage). calls_left_at m.plan (after_erase (part_of m.plan) b m.cells) left after < calls_left_at m.plan m.cells m.rounds st) (sym at)
    (omega (arith, last, chosen_calls n w.bound w.beside sound i r.last left after x)) in record {
      stands = record {
        bound = w.bound;
        beside = w.beside;
        sound = sound;
        at = chosen_at n w.bound w.beside sound i r.last left after x;
        counts = w.counts;
        unworn = w.unworn;
        few = omega (arith, less, w.few);
        serials = omega (arith, less, w.serials);
      };
      counts = record {
        shape = shape ∙ k.shape;
        free = free ∙ (ap (λ (n : ℕ). n + freed_by (part_of m.plan) (block_at m.cells b)) k.free ∙ sym (slot_free m b slots w.bound w.beside w.sound h));
        last = λ a opened. last_last m b slots w.bound w.beside w.sound h last p.last k.last a opened ∙ sym same_last;
      };
      step = record {
        plan = refl;
        cells = ap (λ (st : Stage). cells_after (part_of m.plan) (carried_at st) m.cells) (sym at);
        counts = refl;
        next = omega (arith, ap programs_at at);
        may = λ act e. subst (MayMount (part_of m.plan) m.cells) (same_Some (does.Erase b) act (sym (ap act_at at) ∙ e))
            (slot_may m b slots w.bound w.beside w.sound h);
        less = less;
        takes = λ a v. inr (chosen_takes n w.bound w.beside sound i r.last left after x a v);
        acts = λ seen erased next acts g.
            let same = ap (λ (st : Stage). acts_after st acts) at in
            subst (λ (xs : List Act). IsMountOf seen erased next xs (chosen_mount n left after)) (sym same)
            (slot_acts m b slots w.bound w.beside w.sound h seen erased next acts at g left after
            (chosen_goes n w.bound w.beside sound i r.last left erased (first_cells m.plan erased seen) (does.Erase b ∷ acts) after x)
            (chosen_copies n w.bound w.beside sound i r.last left after x)
            (omega (arith, last, chosen_slots n w.bound w.beside sound i r.last left after x)));
      };
    }

-- What the calls require

-- the next cell is one of the part
pub cell_fits : (m : Mounting) (p : PartState) (page : ℕ) (from to : Place) → StandsWell m → CountsPart m p → m.stage ≡ stage.Program page from to
    → IsCell p.shape to
cell_fits m p page from to w k at =
    let h : IsAtProgram m page from to = subst (IsAt m) at w.at in
    let t = takes m page from to w.bound w.beside w.sound h in record {
      block = omega (arith, t.stands, w.sound.blocks, ap (λ (x : Shape). x.blocks) k.shape);
      page = omega (arith, t.room, h.next, ap (λ (x : Shape). x.pages) k.shape);
    }

-- and no page lies there
pub cell_free : (m : Mounting) (page : ℕ) (from to : Place) → StandsWell m → m.stage ≡ stage.Program page from to
    → owner_of m.cells.places to ≡ None
cell_free m page from to w at =
    let h : IsAtProgram m page from to = subst (IsAt m) at w.at in
    no_owner m.cells.places to (λ other e. omega (arith, w.sound.placed other to e, h.next))

pub serial_fits : (m : Mounting) (page : ℕ) (from to : Place) → StandsWell m → m.stage ≡ stage.Program page from to → m.next + 1 < 2 ^ 64
serial_fits m page from to w at =
    let h : IsAtProgram m page from to = subst (IsAt m) at w.at in
    let left = subst (λ (st : Stage). m.next + calls_left_at m.plan m.cells m.rounds st < 2 ^ 64) at w.serials in
    omega (arith, left, page_lies m page from h.at)

-- the free pages fit a word
free_few : (plan : DiePlan) (xs : List Block) → plan.shape.pages ≤ 256 → sum_by (free_in plan) xs ≤ 256 * length xs
free_few plan [] few = omega arith
free_few plan (x ∷ xs) few = omega (arith, sum_by-cons (free_in plan) x xs, one (x.erasing == 0), free_few plan xs few)
  where
    one : (t : Bool) → cond t (plan.shape.pages - x.filled) 0 ≤ 256
    one true = omega (arith, few)
    one false = omega arith

pub free_fits : (m : Mounting) (p : PartState) → StandsWell m → CountsPart m p → p.free + p.shape.pages < 4294967296
free_fits m p w k =
    let shape = w.bound.shape in
    omega (arith, free_few m.plan m.cells.blocks shape.few_pages, shape.few_pages, w.beside, w.sound.blocks, k.free, ap (λ (x : Shape). x.pages) k.shape)

-- where too few pages are free, a closed block is there
pub closed_there : (m : Mounting) (p : PartState) → MeetsBound m.plan → m.plan.shape.blocks < 1024 → AreSoundCells (part_of m.plan) m.cells → IsBetween m
    → p.shape ≡ (part_of m.plan).shape → p.cells ≡ m.cells → p.free ≡ free_of m → (goal : ℕ) → goal ≡ goal_of m.plan → p.free < goal
    → HasClosed p.shape.pages p
closed_there m p bound less s i shape cells free goal is short =
    let b = worth m bound less s i (omega (arith, free, is, short)) in record {
      b = b.0;
      stands = omega (arith, b.1.stands, s.blocks, ap (λ (x : Shape). x.blocks) shape);
      closed = ap (λ (x : Cells). (block_at x b.0).filled) cells ∙ b.1.closed ∙ sym (ap (λ (x : Shape). x.pages) shape);
    }

-- what was chosen by the part is chosen of the mount
pub chosen_of : (m : Mounting) (p : PartState) (goal rounds : ℕ) (after : Stage) (left : ℕ) → p.shape ≡ (part_of m.plan).shape → p.cells ≡ m.cells
    → p.free ≡ free_of m → goal ≡ goal_of m.plan → IsChosen p goal rounds after left → IsChosen (state_of m p.last) (goal_of m.plan) rounds after left
chosen_of m p goal rounds after left shape cells free is x =
    subst (λ (g : ℕ). IsChosen (state_of m p.last) g rounds after left) is
    (subst (λ (r : PartState). IsChosen r goal rounds after left)
    (ap (λ (sh : Shape). put sh p.cells p.free) shape ∙ (ap (λ (c : Cells). put (part_of m.plan).shape c p.free) cells
    ∙ ap (λ (n : ℕ). put (part_of m.plan).shape m.cells n) free)) x)
  where
    put : Shape → Cells → ℕ → PartState
    put sh c n = record { shape = sh; cells = c; last = p.last; free = n }
