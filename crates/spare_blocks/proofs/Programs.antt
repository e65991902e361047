-- A program: the cells and the spare blocks that it leaves.
use Rattle.std.proofs.Common.{◌≡◌, ◌≢◌, ◌⊎◌, ℕ, ◌+◌, ◌*◌, ◌<◌, ◌≤◌, Bool, true, false, List, [], ◌∷◌, ◌++◌, length, map, get_or}
use Rattle.std.proofs.Common.{Option, refl, ap, sym, ◌∙◌, inl, inr, arith}
use Rattle.std.proofs.lemmas.Bool.{cases_eq}
use Rattle.std.proofs.lemmas.List.{map-append, length-set}
use Rattle.slot_types.specs.declared.pages.PageData.{PageData}
use Rattle.slot_types.specs.declared.pages.Place.{Place}
use Rattle.slot_types.specs.declared.plans.Shape.{Shape}
use Rattle.flash_die.specs.Flash.{Block, block_at, blocks_after_program}
use Rattle.flash_die.specs.declared.nand.NandCall.TheVariants as calls
use Rattle.spare_blocks.specs.declared.blocks.Health.{Health}
use Rattle.spare_blocks.specs.declared.blocks.Health.TheVariants as health
use Rattle.spare_blocks.specs.declared.cells.BlockUse.TheVariants as use_as
use Rattle.spare_blocks.specs.declared.cells.Cell.{Cell}
use Rattle.spare_blocks.specs.declared.cells.Ended.TheVariants as ended
use Rattle.spare_blocks.specs.Parts.{PartBlock, part_block, free_part_block, programmed_cell, serial_after, blocks_after_program as part_after_program, IsFreeCell}
use Rattle.spare_blocks.specs.Tables.{Table, IsTable, IsSpare, use_of, on_part, replaced}
use Rattle.spare_blocks.specs.Spares.{Spared, numbered, spared_block, spared_blocks, IsSoundSpared, EndsSpared}
use Rattle.spare_blocks.specs.Trying.{cost_with, IsSource, IsUsedUp, IsTaken, AreFree}
use Rattle.spare_blocks.proofs.Numbers.{bad-spare, numbers_apart, numbered_apart, not_spare, on_here, on_other, replaced_spares, replaced_bad, spares_replaced, cost_less, cost_later}
use Rattle.spare_blocks.proofs.PlanCells.{NextHere, set_here, set_other, one_changed, block_is}
use Rattle.spare_blocks.proofs.Ends.{change_sound, changed, worn_sound, worn_out}

more_still : (a b c d k p : ℕ) → a + p ≡ b → b ≤ c + p → c ≤ d + k → a ≤ d + k
more_still a b c d k p e f g = omega (arith, e, f, g)

module _ {N : Type 0} (shape_of : N → Shape) (blocks : N → List PartBlock) (faulted : N → Bool) (next spent : N → ℕ) (keeps : Bool)
    (d : Spared N) (s : IsSoundSpared shape_of blocks faulted d) (t : IsTable d.table) (works : d.health ≡ health.Working)
    (place : Place) (page : Option ℕ) (bytes : PageData) (here : NextHere blocks d d.shape.pages place) where
  abbrev b : ℕ
  b = place.block

  abbrev on : ℕ
  on = on_part d.table place.block

  abbrev old : PartBlock
  old = numbered blocks d place.block

  abbrev cell : Cell
  cell = programmed_cell keeps (next d.part) page bytes

  numbered_lt : (k : ℕ) → k < d.shape.blocks → k < length d.table.blocks
  numbered_lt k lt = omega (arith, lt, s.count)

  whole : old.failed ≡ false
  whole = s.works works b here.lt

  works_on : d.health ≡ health.Faulted → ⊥
  works_on h = worn h works
    where
      worn : {x : Health} → x ≡ health.Faulted → x ≡ health.Working → ⊥
      worn e f = cc

  -- the call of the part may be made
  pub free_cell : IsFreeCell (blocks d.part) (shape_of d.part).pages (record { block = on; page = place.page })
  free_cell = record { whole = whole; next = here.next; room = omega (arith, here.room, s.pages); quiet = here.quiet }

  -- the blocks of the plan, where the block of this number has the cells with one more
  programmed : (p : N) (u : Table) → (part_block (blocks p) (on_part u b)).cells ≡ old.cells ++ cell ∷ []
      → (part_block (blocks p) (on_part u b)).erasing ≡ old.erasing
      → ((k : ℕ) → k < d.shape.blocks → k ≢ b → part_block (blocks p) (on_part u k) ≡ numbered blocks d k)
      → spared_blocks blocks (record d { part = p; table = u }) ≡ blocks_after_program (spared_blocks blocks d) b bytes
  programmed p u cells erasing others =
      let F : List PageData → ℕ → Block = λ l n. record { pages = l; erasing = n; erases = get_or d.erases b 0 } in
      let G : ℕ → PartBlock → Block = λ k x. record { pages = map (λ c. c.bytes) x.cells; erasing = x.erasing; erases = get_or d.erases k 0 } in
      let one_more : Block → Block = λ x. record x { pages = x.pages ++ bytes ∷ [] } in
      one_changed d.shape.blocks b (spared_block blocks d) (spared_block blocks (record d { part = p; table = u }))
      (one_more (block_at (spared_blocks blocks d) b)) here.lt
      (ap (λ (l : List Cell). F (map (λ c. c.bytes) l) (part_block (blocks p) (on_part u b)).erasing) cells
      ∙ (ap (F (map (λ c. c.bytes) (old.cells ++ cell ∷ []))) erasing
      ∙ (ap (λ (l : List PageData). F l old.erasing) (map-append (λ (c : Cell). c.bytes) old.cells (cell ∷ []))
      ∙ ap one_more (sym (block_is blocks d b here.lt)))))
      (λ k lt other. ap (G k) (others k lt other))

  -- The program was done

  module _ (p : N) (after : blocks p ≡ part_after_program ended.Done (blocks d.part) on cell) where
    done_here : part_block (blocks p) on ≡ record old { cells = old.cells ++ cell ∷ [] }
    done_here =
        ap (λ (l : List PartBlock). part_block l on) after
        ∙ set_here (blocks d.part) on (record old { cells = old.cells ++ cell ∷ [] }) whole

    done_others : (k : ℕ) → k < d.shape.blocks → k ≢ b → part_block (blocks p) (on_part d.table k) ≡ numbered blocks d k
    done_others k lt other =
        ap (λ (l : List PartBlock). part_block l (on_part d.table k)) after
        ∙ set_other (blocks d.part) on (on_part d.table k) (record old { cells = old.cells ++ cell ∷ [] })
        (numbers_apart d.table t b k (numbered_lt b here.lt) (numbered_lt k lt) other)

    done_free : (x : ℕ) → IsSpare d.table x → part_block (blocks p) x ≡ free_part_block
    done_free x is =
        ap (λ (l : List PartBlock). part_block l x) after
        ∙ (set_other (blocks d.part) on x (record old { cells = old.cells ++ cell ∷ [] })
        (λ same. numbered_apart d.table t b x (numbered_lt b here.lt) is (sym same)) ∙ s.free works_on x is)

    pub done_sound : faulted p ≡ false → shape_of p ≡ shape_of d.part → IsSoundSpared shape_of blocks faulted (record d { part = p })
    done_sound well shape =
        change_sound shape_of blocks faulted next spent keeps d s b p d.table d.erases works done_others well shape s.count s.counted done_free
        (ap (λ (x : PartBlock). x.failed) done_here ∙ whole)

    pub done : next p ≡ serial_after ended.Done page (next d.part) → spent p ≤ spent d.part + 1
        → EndsSpared blocks next spent keeps d (calls.Program place page bytes) true (record d { part = p })
    done serial cost =
        changed shape_of blocks faulted next spent keeps d s b p d.table d.erases works done_others (calls.Program place page bytes) works
        (λ k same. (refl, same)) (ap (λ (x : PartBlock). x.cells) done_here) serial (λ x e. e)
        (cost_later d.shape.pages d.table (spent p) (spent d.part) 1 cost)

    pub done_blocks : spared_blocks blocks (record d { part = p }) ≡ blocks_after_program (spared_blocks blocks d) b bytes
    done_blocks = programmed p d.table (ap (λ (x : PartBlock). x.cells) done_here) (ap (λ (x : PartBlock). x.erasing) done_here) done_others

  -- The block failed

  module _ (m : N) (failing : blocks m ≡ part_after_program ended.Failed (blocks d.part) on cell) where
    failed_here : part_block (blocks m) on ≡ record old { failed = true }
    failed_here = ap (λ (l : List PartBlock). part_block l on) failing ∙ set_here (blocks d.part) on (record old { failed = true }) whole

    failed_other : (x : ℕ) → x ≢ on → part_block (blocks m) x ≡ part_block (blocks d.part) x
    failed_other x other =
        ap (λ (l : List PartBlock). part_block l x) failing ∙ set_other (blocks d.part) on x (record old { failed = true }) other

    pub spares_free : AreFree d.table (blocks m)
    spares_free x is = failed_other x (λ same. numbered_apart d.table t b x (numbered_lt b here.lt) is (sym same)) ∙ s.free works_on x is

    pub source : IsSource (blocks m) on place.page
    source = record {
      count = ap (λ (x : PartBlock). length x.cells) failed_here ∙ sym here.next;
      quiet = ap (λ (x : PartBlock). x.erasing) failed_here ∙ here.quiet;
    }

    pub on_not_spare : IsSpare d.table on → ⊥
    on_not_spare = not_spare d.table t b (numbered_lt b here.lt)

    pub room : shape_of m ≡ shape_of d.part → place.page < (shape_of m).pages
    room shape = omega (arith, here.room, s.pages, ap (λ (x : Shape). x.pages) shape)

    module _ (p : N) (u : Table) (used : IsUsedUp d.table u)
        (others : (x : ℕ) → (IsSpare d.table x → ⊥) → part_block (blocks p) x ≡ part_block (blocks m) x) where
      same_number : (k : ℕ) → on_part u k ≡ on_part d.table k
      same_number k = ap (λ (l : List ℕ). get_or l k 0) used.numbers

      kept_other : (k : ℕ) → k < d.shape.blocks → k ≢ b → part_block (blocks p) (on_part u k) ≡ numbered blocks d k
      kept_other k lt other =
          ap (part_block (blocks p)) (same_number k)
          ∙ (others (on_part d.table k) (not_spare d.table t k (numbered_lt k lt))
          ∙ failed_other (on_part d.table k) (numbers_apart d.table t b k (numbered_lt b here.lt) (numbered_lt k lt) other))

      kept_here : part_block (blocks p) (on_part u b) ≡ record old { failed = true }
      kept_here = ap (part_block (blocks p)) (same_number b) ∙ (others on on_not_spare ∙ failed_here)

      pub bad_stays : (x : ℕ) → use_of d.table x ≡ use_as.Bad → use_of u x ≡ use_as.Bad
      bad_stays x bad = used.others x (λ is. bad-spare (sym bad ∙ is)) ∙ bad

      -- no spare block was left
      module _ (none : (x : ℕ) → IsSpare u x → ⊥) (n : ℕ) where
        pub worn_program_sound : faulted p ≡ false → shape_of p ≡ shape_of d.part
            → IsSoundSpared shape_of blocks faulted (record d { part = p; table = u; health = health.WornOut; failures = n })
        worn_program_sound well shape =
            worn_sound shape_of blocks faulted next spent keeps d s b p u n here.lt used.numbers well shape none
            (ap (λ (x : PartBlock). x.failed) kept_here)

        pub worn_program : spent m ≤ spent d.part + 1
            → cost_with d.shape.pages u (spent p) ≤ cost_with d.shape.pages d.table (spent m)
            → EndsSpared blocks next spent keeps d (calls.Program place page bytes) false
            (record d { part = p; table = u; health = health.WornOut; failures = n })
        worn_program one cost =
            worn_out shape_of blocks faulted next spent keeps d s b p u n here.lt used.numbers (calls.Program place page bytes) unfit
            (λ k lt far. kept k lt (cases_eq k b)) bad_stays
            (omega (arith, cost, cost_later d.shape.pages d.table (spent m) (spent d.part) 1 one))
          where
            unfit : health.WornOut ≡ health.Working → ⊥
            unfit e = cc

            kept : (k : ℕ) → k < d.shape.blocks → (k ≡ b) ⊎ (k ≡ b → ⊥) → (part_block (blocks p) (on_part u k)).cells ≡ (numbered blocks d k).cells
            kept k lt (inl same) =
                ap (λ (j : ℕ). (part_block (blocks p) (on_part u j)).cells) same
                ∙ (ap (λ (x : PartBlock). x.cells) kept_here ∙ ap (λ (j : ℕ). (numbered blocks d j).cells) (sym same))
            kept k lt (inr other) = ap (λ (x : PartBlock). x.cells) (kept_other k lt other)

      -- a spare block took the number
      module _ (w : IsTable u) (spare : ℕ) (same_serial : next m ≡ next d.part)
          (taken : IsTaken spare ((part_block (blocks m) on).cells ++ programmed_cell keeps (next m) page bytes ∷ []) u (blocks p)) where
        abbrev v : Table
        v = replaced b spare u

        lt_here : b < length u.blocks
        lt_here = omega (arith, numbered_lt b here.lt, ap (λ (l : List ℕ). length l) used.numbers)

        taken_here : part_block (blocks p) (on_part v b) ≡ record { cells = old.cells ++ cell ∷ []; erasing = 0; failed = false }
        taken_here =
            let B : List Cell → PartBlock = λ l. record { cells = l; erasing = 0; failed = false } in
            ap (part_block (blocks p)) (on_here u w b spare lt_here taken.spare)
            ∙ (taken.holds
            ∙ (ap (λ (x : PartBlock). B (x.cells ++ programmed_cell keeps (next m) page bytes ∷ [])) failed_here
            ∙ ap (λ (n : ℕ). B (old.cells ++ programmed_cell keeps n page bytes ∷ [])) same_serial))

        taken_other : (k : ℕ) → k < d.shape.blocks → k ≢ b → part_block (blocks p) (on_part v k) ≡ numbered blocks d k
        taken_other k lt other =
            ap (part_block (blocks p)) (on_other u w b spare lt_here taken.spare k other) ∙ kept_other k lt other

        taken_free : (x : ℕ) → IsSpare v x → part_block (blocks p) x ≡ free_part_block
        taken_free x is =
            let r = replaced_spares u w b spare lt_here taken.spare x is in
            taken.rest x r.0 r.1

        pub taken_sound : faulted p ≡ false → shape_of p ≡ shape_of d.part → IsSoundSpared shape_of blocks faulted (record d { part = p; table = v })
        taken_sound well shape =
            change_sound shape_of blocks faulted next spent keeps d s b p v d.erases works taken_other well shape
            (omega (arith, s.count, ap (λ (l : List ℕ). length l) used.numbers, length_kept)) s.counted taken_free
            (ap (λ (x : PartBlock). x.failed) taken_here)
          where
            length_kept : length v.blocks ≡ length u.blocks
            length_kept = length-set u.blocks b spare

        pub taken_ends : next p ≡ serial_after ended.Done page (next m) → spent m ≤ spent d.part + 1
            → cost_with d.shape.pages u (spent p) ≤ cost_with d.shape.pages d.table (spent m) + 2 * d.shape.pages
            → EndsSpared blocks next spent keeps d (calls.Program place page bytes) true (record d { part = p; table = v })
        taken_ends serial one cost =
            changed shape_of blocks faulted next spent keeps d s b p v d.erases works taken_other (calls.Program place page bytes) works
            (λ k same. (refl, same)) (ap (λ (x : PartBlock). x.cells) taken_here)
            (serial ∙ ap (λ (n : ℕ). serial_after ended.Done page n) same_serial)
            (λ x e. replaced_bad u w b spare lt_here taken.spare x (bad_stays x e))
            (more_still (cost_with d.shape.pages v (spent p)) (cost_with d.shape.pages u (spent p)) (cost_with d.shape.pages d.table (spent m))
            (cost_with d.shape.pages d.table (spent d.part)) 1 (2 * d.shape.pages)
            (cost_less d.shape.pages (spent p) u v (spares_replaced u w b spare lt_here taken.spare)) cost
            (cost_later d.shape.pages d.table (spent m) (spent d.part) 1 one))

        pub taken_blocks : spared_blocks blocks (record d { part = p; table = v }) ≡ blocks_after_program (spared_blocks blocks d) b bytes
        taken_blocks = programmed p v (ap (λ (x : PartBlock). x.cells) taken_here)
            (ap (λ (x : PartBlock). x.erasing) taken_here ∙ sym here.quiet) taken_other
