-- A slot of an erase: the blocks that it leaves.
use Rattle.std.proofs.Common.{◌≡◌, ◌≢◌, ℕ, ◌+◌, ◌<◌, ◌≤◌, ◌==◌, Bool, true, false, cond, List, [], length, map, get_or, set}
use Rattle.std.proofs.Common.{refl, ap, sym, ◌∙◌, arith}
use Rattle.std.proofs.lemmas.List.{length-set, get_or-set_same, get_or-set_other}
use Rattle.slot_types.specs.declared.plans.Shape.{Shape}
use Rattle.flash_die.specs.Flash.{Block, block_at, block_after_erase_slot, blocks_after_erase_slot}
use Rattle.flash_die.specs.declared.nand.NandCall.TheVariants as calls
use Rattle.spare_blocks.specs.declared.blocks.Health.{Health}
use Rattle.spare_blocks.specs.declared.blocks.Health.TheVariants as health
use Rattle.spare_blocks.specs.declared.cells.Erased.{Erased}
use Rattle.spare_blocks.specs.declared.cells.Erased.TheVariants as erased
use Rattle.spare_blocks.specs.Parts.{PartBlock, part_block, free_part_block, block_after_slot, blocks_after_slot, is_last_slot}
use Rattle.spare_blocks.specs.Tables.{Table, IsTable, IsSpare, on_part, replaced}
use Rattle.spare_blocks.specs.Spares.{Spared, numbered, spared_block, spared_blocks, IsSoundSpared, EndsSpared}
use Rattle.spare_blocks.proofs.Numbers.{numbers_apart, numbered_apart, on_here, on_other, replaced_spares, replaced_bad, spares_replaced, cost_less, cost_later}
use Rattle.spare_blocks.proofs.PlanCells.{ErasableHere, set_here, set_other, one_changed, block_is}
use Rattle.spare_blocks.proofs.Ends.{change_sound, changed, worn_sound, worn_out}

after_partly : (slots : ℕ) (b : Block) → false ≡ (b.erasing + 1 == slots) → record b { erasing = b.erasing + 1 } ≡ block_after_erase_slot slots b
after_partly slots b e = ap (λ (v : Bool). cond v (record { pages = []; erasing = 0; erases = b.erases + 1 }) (record b { erasing = b.erasing + 1 })) e

after_slot_cells : (how : Erased) (b : PartBlock) → (block_after_slot how b).cells ≡ cond (is_last_slot how) [] b.cells
after_slot_cells erased.Partly b = refl
after_slot_cells erased.Wholly b = refl
after_slot_cells erased.Failed b = refl

after_wholly : (slots : ℕ) (b : Block) → true ≡ (b.erasing + 1 == slots)
    → record { pages = []; erasing = 0; erases = b.erases + 1 } ≡ block_after_erase_slot slots b
after_wholly slots b e = ap (λ (v : Bool). cond v (record { pages = []; erasing = 0; erases = b.erases + 1 }) (record b { erasing = b.erasing + 1 })) e

module _ {N : Type 0} (shape_of : N → Shape) (blocks : N → List PartBlock) (faulted : N → Bool) (next spent : N → ℕ) (keeps : Bool)
    (d : Spared N) (s : IsSoundSpared shape_of blocks faulted d) (t : IsTable d.table) (works : d.health ≡ health.Working)
    (b : ℕ) (here : ErasableHere blocks d b) where
  abbrev on : ℕ
  on = on_part d.table b

  abbrev old : PartBlock
  old = numbered blocks d b

  numbered_lt : (k : ℕ) → k < d.shape.blocks → k < length d.table.blocks
  numbered_lt k lt = omega (arith, lt, s.count)

  pub whole : old.failed ≡ false
  whole = s.works works b here.lt

  works_on : d.health ≡ health.Faulted → ⊥
  works_on h = differ h works
    where
      differ : {x : Health} → x ≡ health.Faulted → x ≡ health.Working → ⊥
      differ e f = cc

  -- whether the slot was the last, as the store sees it
  pub last_is : (how : Erased) → is_last_slot how ≡ (old.erasing + 1 == (shape_of d.part).erase_slots)
      → is_last_slot how ≡ ((block_at (spared_blocks blocks d) b).erasing + 1 == d.shape.erase_slots)
  last_is how last =
      last
      ∙ (ap (λ (n : ℕ). old.erasing + 1 == n) s.slots
      ∙ ap (λ (n : ℕ). n + 1 == d.shape.erase_slots) (sym here.erasing))

  -- the blocks of the plan, where the block of this number is this one now and the others are as they were
  erased_blocks : (p : N) (u : Table) (erases : List ℕ) (new : Block)
      → spared_block blocks (record d { part = p; table = u; erases = erases }) b ≡ new
      → ((k : ℕ) → k < d.shape.blocks → k ≢ b → part_block (blocks p) (on_part u k) ≡ numbered blocks d k)
      → ((k : ℕ) → k ≢ b → get_or erases k 0 ≡ get_or d.erases k 0)
      → spared_blocks blocks (record d { part = p; table = u; erases = erases }) ≡ set (spared_blocks blocks d) b new
  erased_blocks p u erases new is others worn =
      let G : PartBlock → ℕ → Block = λ x n. record { pages = map (λ c. c.bytes) x.cells; erasing = x.erasing; erases = n } in
      one_changed d.shape.blocks b (spared_block blocks d) (spared_block blocks (record d { part = p; table = u; erases = erases })) new here.lt is
      (λ k lt other. ap (λ (x : PartBlock). G x (get_or erases k 0)) (others k lt other) ∙ ap (G (numbered blocks d k)) (worn k other))

  -- The part's block after the slot

  module _ (how : Erased) (p : N) (after : blocks p ≡ blocks_after_slot how (blocks d.part) on) where
    slot_here : part_block (blocks p) on ≡ block_after_slot how old
    slot_here = ap (λ (l : List PartBlock). part_block l on) after ∙ set_here (blocks d.part) on (block_after_slot how old) whole

    slot_other : (x : ℕ) → x ≢ on → part_block (blocks p) x ≡ part_block (blocks d.part) x
    slot_other x other = ap (λ (l : List PartBlock). part_block l x) after ∙ set_other (blocks d.part) on x (block_after_slot how old) other

    slot_others : (k : ℕ) → k < d.shape.blocks → k ≢ b → part_block (blocks p) (on_part d.table k) ≡ numbered blocks d k
    slot_others k lt other =
        slot_other (on_part d.table k) (numbers_apart d.table t b k (numbered_lt b here.lt) (numbered_lt k lt) other)

    slot_free : (x : ℕ) → IsSpare d.table x → part_block (blocks p) x ≡ free_part_block
    slot_free x is = slot_other x (λ same. numbered_apart d.table t b x (numbered_lt b here.lt) is (sym same)) ∙ s.free works_on x is

    slot_cells : is_last_slot how ≡ (old.erasing + 1 == (shape_of d.part).erase_slots)
        → (part_block (blocks p) on).cells ≡ cond (old.erasing + 1 == d.shape.erase_slots) [] old.cells
    slot_cells last =
        ap (λ (x : PartBlock). x.cells) slot_here
        ∙ (after_slot_cells how old
        ∙ ap (λ (v : Bool). cond v [] old.cells) (last ∙ ap (λ (n : ℕ). old.erasing + 1 == n) s.slots))

    -- the block didn't fail
    module _ (erases : List ℕ) (counted : length erases ≡ d.shape.blocks) (unfailed : (block_after_slot how old).failed ≡ false) where
      pub slot_sound : faulted p ≡ false → shape_of p ≡ shape_of d.part
          → IsSoundSpared shape_of blocks faulted (record d { part = p; erases = erases })
      slot_sound well shape =
          change_sound shape_of blocks faulted next spent keeps d s b p d.table erases works slot_others well shape s.count counted slot_free
          (ap (λ (x : PartBlock). x.failed) slot_here ∙ unfailed)

      pub slot_ends : is_last_slot how ≡ (old.erasing + 1 == (shape_of d.part).erase_slots) → next p ≡ next d.part → spent p ≤ spent d.part + 1
          → EndsSpared blocks next spent keeps d (calls.EraseSlot b) true (record d { part = p; erases = erases })
      slot_ends last serial cost =
          changed shape_of blocks faulted next spent keeps d s b p d.table erases works slot_others (calls.EraseSlot b) works
          (λ k same. same) (slot_cells last) serial (λ x e. e) (cost_later d.shape.pages d.table (spent p) (spent d.part) 1 cost)

    -- the block failed, and no spare one is left
    module _ (lost : how ≡ erased.Failed) (none : (x : ℕ) → IsSpare d.table x → ⊥) (n : ℕ) where
      pub worn_erase_sound : faulted p ≡ false → shape_of p ≡ shape_of d.part
          → IsSoundSpared shape_of blocks faulted (record d { part = p; health = health.WornOut; failures = n })
      worn_erase_sound well shape =
          worn_sound shape_of blocks faulted next spent keeps d s b p d.table n here.lt refl well shape none
          (ap (λ (x : PartBlock). x.failed) slot_here ∙ ap (λ (h : Erased). (block_after_slot h old).failed) lost)

      pub worn_erase : spent p ≤ spent d.part + 1
          → EndsSpared blocks next spent keeps d (calls.EraseSlot b) false (record d { part = p; health = health.WornOut; failures = n })
      worn_erase cost =
          worn_out shape_of blocks faulted next spent keeps d s b p d.table n here.lt refl (calls.EraseSlot b) unfit
          (λ k lt far. ap (λ (x : PartBlock). x.cells) (slot_others k lt far)) (λ x e. e)
          (cost_later d.shape.pages d.table (spent p) (spent d.part) 1 cost)
        where
          unfit : health.WornOut ≡ health.Working → ⊥
          unfit e = cc

  -- The erase goes on

  pub partly_blocks : (p : N) → blocks p ≡ blocks_after_slot erased.Partly (blocks d.part) on
      → false ≡ (old.erasing + 1 == (shape_of d.part).erase_slots)
      → spared_blocks blocks (record d { part = p }) ≡ blocks_after_erase_slot (spared_blocks blocks d) d.shape.erase_slots b
  partly_blocks p after last =
      let seen : Block = block_at (spared_blocks blocks d) b in
      let F : PartBlock → Block = λ x. record { pages = map (λ c. c.bytes) x.cells; erasing = x.erasing; erases = get_or d.erases b 0 } in
      let more : Block → Block = λ x. record x { erasing = x.erasing + 1 } in
      erased_blocks p d.table d.erases (block_after_erase_slot d.shape.erase_slots seen)
      (ap F (slot_here erased.Partly p after)
      ∙ (ap more (sym (block_is blocks d b here.lt)) ∙ after_partly d.shape.erase_slots seen (last_is erased.Partly last)))
      (slot_others erased.Partly p after) (λ k other. refl)

  -- The block was freed, and its erases counted

  freed_blocks : (p : N) (u : Table) (how : Erased) → is_last_slot how ≡ true
      → part_block (blocks p) (on_part u b) ≡ free_part_block
      → ((k : ℕ) → k < d.shape.blocks → k ≢ b → part_block (blocks p) (on_part u k) ≡ numbered blocks d k)
      → is_last_slot how ≡ (old.erasing + 1 == (shape_of d.part).erase_slots)
      → spared_blocks blocks (record d { part = p; table = u; erases = set d.erases b (get_or d.erases b 0 + 1) })
      ≡ blocks_after_erase_slot (spared_blocks blocks d) d.shape.erase_slots b
  freed_blocks p u how is free others last =
      let seen : Block = block_at (spared_blocks blocks d) b in
      let F : PartBlock → ℕ → Block = λ x n. record { pages = map (λ c. c.bytes) x.cells; erasing = x.erasing; erases = n } in
      let freed : Block → Block = λ x. record { pages = []; erasing = 0; erases = x.erases + 1 } in
      let count : get_or (set d.erases b (get_or d.erases b 0 + 1)) b 0 ≡ get_or d.erases b 0 + 1 = get_or-set_same d.erases b
      (get_or d.erases b 0 + 1) 0 (omega (arith, here.lt, s.counted)) in
      erased_blocks p u (set d.erases b (get_or d.erases b 0 + 1)) (block_after_erase_slot d.shape.erase_slots seen)
      (ap (λ (x : PartBlock). F x (get_or (set d.erases b (get_or d.erases b 0 + 1)) b 0)) free
      ∙ (ap (F free_part_block) count
      ∙ (ap freed (sym (block_is blocks d b here.lt)) ∙ after_wholly d.shape.erase_slots seen (sym is ∙ last_is how last))))
      others (λ k other. get_or-set_other d.erases b k (get_or d.erases b 0 + 1) 0 other)

  pub wholly_blocks : (p : N) → blocks p ≡ blocks_after_slot erased.Wholly (blocks d.part) on
      → true ≡ (old.erasing + 1 == (shape_of d.part).erase_slots)
      → spared_blocks blocks (record d { part = p; erases = set d.erases b (get_or d.erases b 0 + 1) })
      ≡ blocks_after_erase_slot (spared_blocks blocks d) d.shape.erase_slots b
  wholly_blocks p after last =
      freed_blocks p d.table erased.Wholly refl (slot_here erased.Wholly p after) (slot_others erased.Wholly p after) last

  -- A spare block took the number

  module _ (p : N) (after : blocks p ≡ blocks_after_slot erased.Failed (blocks d.part) on) (spare : ℕ) (is : IsSpare d.table spare) where
    abbrev v : Table
    v = replaced b spare d.table

    abbrev erases : List ℕ
    erases = set d.erases b (get_or d.erases b 0 + 1)

    spare_here : part_block (blocks p) (on_part v b) ≡ free_part_block
    spare_here =
        ap (part_block (blocks p)) (on_here d.table t b spare (numbered_lt b here.lt) is) ∙ slot_free erased.Failed p after spare is

    spare_others : (k : ℕ) → k < d.shape.blocks → k ≢ b → part_block (blocks p) (on_part v k) ≡ numbered blocks d k
    spare_others k lt other =
        ap (part_block (blocks p)) (on_other d.table t b spare (numbered_lt b here.lt) is k other) ∙ slot_others erased.Failed p after k lt other

    pub spare_sound : faulted p ≡ false → shape_of p ≡ shape_of d.part
        → IsSoundSpared shape_of blocks faulted (record d { part = p; table = v; erases = erases })
    spare_sound well shape =
        change_sound shape_of blocks faulted next spent keeps d s b p v erases works spare_others well shape
        (length-set d.table.blocks b spare ∙ s.count) (length-set d.erases b (get_or d.erases b 0 + 1) ∙ s.counted)
        (λ x has. slot_free erased.Failed p after x (replaced_spares d.table t b spare (numbered_lt b here.lt) is x has).1)
        (ap (λ (x : PartBlock). x.failed) spare_here)

    spare_cells : true ≡ (old.erasing + 1 == (shape_of d.part).erase_slots)
        → (part_block (blocks p) (on_part v b)).cells ≡ cond (old.erasing + 1 == d.shape.erase_slots) [] old.cells
    spare_cells last =
        ap (λ (x : PartBlock). x.cells) spare_here
        ∙ ap (λ (w : Bool). cond w [] old.cells) (last ∙ ap (λ (n : ℕ). old.erasing + 1 == n) s.slots)

    pub spare_ends : true ≡ (old.erasing + 1 == (shape_of d.part).erase_slots) → next p ≡ next d.part → spent p ≤ spent d.part + 1
        → EndsSpared blocks next spent keeps d (calls.EraseSlot b) true (record d { part = p; table = v; erases = erases })
    spare_ends last serial cost =
        changed shape_of blocks faulted next spent keeps d s b p v erases works spare_others (calls.EraseSlot b) works
        (λ k same. same) (spare_cells last) serial (replaced_bad d.table t b spare (numbered_lt b here.lt) is)
        (omega (
          arith,
          cost_less d.shape.pages (spent p) d.table v (spares_replaced d.table t b spare (numbered_lt b here.lt) is),
          cost_later d.shape.pages d.table (spent p) (spent d.part) 1 cost,
        ))

    pub spare_blocks : true ≡ (old.erasing + 1 == (shape_of d.part).erase_slots)
        → spared_blocks blocks (record d { part = p; table = v; erases = erases })
        ≡ blocks_after_erase_slot (spared_blocks blocks d) d.shape.erase_slots b
    spare_blocks last = freed_blocks p v erased.Failed refl spare_here spare_others last
