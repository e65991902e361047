-- What a call leaves of a device with spare blocks, by how it ends.
use Rattle.std.proofs.Common.{◌≡◌, ◌≢◌, ◌⊎◌, ℕ, ◌+◌, ◌*◌, ◌<◌, ◌≤◌, Bool, true, false, List, length}
use Rattle.std.proofs.Common.{refl, ap, sym, ◌∙◌, inl, inr, arith}
use Rattle.std.proofs.lemmas.Bool.{cases_eq, false≢true}
use Rattle.slot_types.specs.declared.plans.Shape.{Shape}
use Rattle.flash_die.specs.declared.nand.NandCall.{NandCall}
use Rattle.flash_die.specs.declared.nand.NandCall.TheVariants as calls
use Rattle.spare_blocks.specs.declared.blocks.Health.TheVariants as health
use Rattle.spare_blocks.specs.declared.cells.BlockUse.TheVariants as use_as
use Rattle.spare_blocks.specs.Parts.{PartBlock, part_block, free_part_block}
use Rattle.spare_blocks.specs.Tables.{Table, IsSpare, use_of, on_part}
use Rattle.spare_blocks.specs.Spares.{Spared, numbered, IsSoundSpared, EndsSpared, IsFitFor, MayChange, IsLabelled, serial_after_call}
use Rattle.spare_blocks.specs.Trying.{cost_with}

working-faulted : health.Working ≡ health.Faulted → ⊥
working-faulted e = cc

worn-faulted : health.WornOut ≡ health.Faulted → ⊥
worn-faulted e = cc

worn-working : health.WornOut ≡ health.Working → ⊥
worn-working e = cc

faulted_unfit : (call : NandCall) → IsFitFor call health.Faulted → ⊥
faulted_unfit (calls.Read place) fit = fit refl
faulted_unfit (calls.Program place page bytes) fit = working-faulted (sym fit)
faulted_unfit (calls.EraseSlot b) fit = working-faulted (sym fit)

module _ {N : Type 0} (shape_of : N → Shape) (blocks : N → List PartBlock) (faulted : N → Bool) (next spent : N → ℕ) (keeps : Bool)
    (d : Spared N) (s : IsSoundSpared shape_of blocks faulted d) where
  abbrev IsSound : Spared N → Type 0
  IsSound = IsSoundSpared shape_of blocks faulted

  abbrev Ends : NandCall → Bool → Spared N → Type 0
  Ends = EndsSpared blocks next spent keeps d

  -- The part got no call

  pub refused_sound : (n : ℕ) → IsSound (record d { failures = n })
  refused_sound n = record {
    pages = s.pages;
    slots = s.slots;
    count = s.count;
    counted = s.counted;
    faults = s.faults;
    well = s.well;
    free = s.free;
    works = s.works;
    worn = λ h. record { none = (s.worn h).none; failed = (s.worn h).failed };
  }

  pub refused : (call : NandCall) (n : ℕ) → (IsFitFor call d.health → ⊥) → Ends call false (record d { failures = n })
  refused call n unfit = record {
    shape = refl;
    fit = ((λ e. absurd (false≢true e)), (λ fit. absurd (unfit fit)));
    kept = λ h b lt far. refl;
    labelled = λ e. absurd (false≢true e);
    serial = λ e. absurd (false≢true e);
    bad = λ x e. e;
    cost = λ h. omega arith;
    cost_of_fault = omega arith;
  }

  -- The part had a fault

  pub fault_sound : (p : N) (t : Table) (n : ℕ) → faulted p ≡ true → shape_of p ≡ shape_of d.part → t.blocks ≡ d.table.blocks
      → IsSound (record d { part = p; table = t; health = health.Faulted; failures = n })
  fault_sound p t n had shape numbers = record {
    pages = ap (λ (x : Shape). x.pages) shape ∙ s.pages;
    slots = ap (λ (x : Shape). x.erase_slots) shape ∙ s.slots;
    count = ap (λ (l : List ℕ). length l) numbers ∙ s.count;
    counted = s.counted;
    faults = λ h. had;
    well = λ no. absurd (no refl);
    free = λ no. absurd (no refl);
    works = λ h. absurd (working-faulted (sym h));
    worn = λ h. absurd (worn-faulted (sym h));
  }

  pub fault : (call : NandCall) (p : N) (t : Table) (n : ℕ)
      → ((x : ℕ) → use_of d.table x ≡ use_as.Bad → use_of t x ≡ use_as.Bad)
      → cost_with d.shape.pages t (spent p) ≤ cost_with d.shape.pages d.table (spent d.part) + (1 + 2 * d.shape.pages)
      → Ends call false (record d { part = p; table = t; health = health.Faulted; failures = n })
  fault call p t n bad cost = record {
    shape = refl;
    fit = ((λ e. absurd (false≢true e)), (λ fit. absurd (faulted_unfit call fit)));
    kept = λ no. absurd (no refl);
    labelled = λ e. absurd (false≢true e);
    serial = λ e. absurd (false≢true e);
    bad = bad;
    cost = λ no. absurd (no refl);
    cost_of_fault = cost;
  }

  -- A block was changed, and the part works on

  module _ (b : ℕ) (p : N) (t : Table) (erases : List ℕ) (works : d.health ≡ health.Working)
      (others : (k : ℕ) → k < d.shape.blocks → k ≢ b → part_block (blocks p) (on_part t k) ≡ numbered blocks d k) where
    abbrev after : Spared N
    after = record d { part = p; table = t; erases = erases }

    works_on : d.health ≡ health.Faulted → ⊥
    works_on h = working-faulted (sym works ∙ h)

    pub change_sound : faulted p ≡ false → shape_of p ≡ shape_of d.part → length t.blocks ≡ d.shape.blocks → length erases ≡ d.shape.blocks
        → ((x : ℕ) → IsSpare t x → part_block (blocks p) x ≡ free_part_block)
        → (part_block (blocks p) (on_part t b)).failed ≡ false → IsSound after
    change_sound well shape count counted free whole = record {
      pages = ap (λ (x : Shape). x.pages) shape ∙ s.pages;
      slots = ap (λ (x : Shape). x.erase_slots) shape ∙ s.slots;
      count = count;
      counted = counted;
      faults = λ h. absurd (works_on h);
      well = λ h. well;
      free = λ h. free;
      works = λ h k lt. whole_at k lt (cases_eq k b);
      worn = λ h. absurd (worn-working (sym h ∙ works));
    }
      where
        whole_at : (k : ℕ) → k < d.shape.blocks → (k ≡ b) ⊎ (k ≡ b → ⊥) → (part_block (blocks p) (on_part t k)).failed ≡ false
        whole_at k lt (inl same) = ap (λ (j : ℕ). (part_block (blocks p) (on_part t j)).failed) same ∙ whole
        whole_at k lt (inr other) = ap (λ (x : PartBlock). x.failed) (others k lt other) ∙ s.works works k lt

    pub changed : (call : NandCall) → IsFitFor call d.health → ((k : ℕ) → k ≡ b → MayChange call true k)
        → IsLabelled keeps (next d.part) d.shape.erase_slots call (numbered blocks d) (λ k. part_block (blocks p) (on_part t k))
        → next p ≡ serial_after_call call (next d.part)
        → ((x : ℕ) → use_of d.table x ≡ use_as.Bad → use_of t x ≡ use_as.Bad)
        → cost_with d.shape.pages t (spent p) ≤ cost_with d.shape.pages d.table (spent d.part) + 1
        → Ends call true after
    changed call fit may labelled serial bad cost = record {
      shape = refl;
      fit = ((λ e. fit), (λ f. refl));
      kept = λ h k lt far. ap (λ (x : PartBlock). x.cells) (others k lt (λ same. far (may k same)));
      labelled = λ e. labelled;
      serial = λ e. serial;
      bad = bad;
      cost = λ h. cost;
      cost_of_fault = omega (arith, cost);
    }

  -- A block failed, and no spare one is left

  module _ (b : ℕ) (p : N) (t : Table) (n : ℕ) (lt : b < d.shape.blocks) (numbers : t.blocks ≡ d.table.blocks) where
    abbrev worn : Spared N
    worn = record d { part = p; table = t; health = health.WornOut; failures = n }

    pub worn_sound : faulted p ≡ false → shape_of p ≡ shape_of d.part → ((x : ℕ) → IsSpare t x → ⊥)
        → (part_block (blocks p) (on_part t b)).failed ≡ true → IsSound worn
    worn_sound well shape none failed = record {
      pages = ap (λ (x : Shape). x.pages) shape ∙ s.pages;
      slots = ap (λ (x : Shape). x.erase_slots) shape ∙ s.slots;
      count = ap (λ (l : List ℕ). length l) numbers ∙ s.count;
      counted = s.counted;
      faults = λ h. absurd (worn-faulted h);
      well = λ h. well;
      free = λ h x is. absurd (none x is);
      works = λ h. absurd (worn-working h);
      worn = λ h. record { none = none; failed = (b, lt, failed) };
    }

    pub worn_out : (call : NandCall) → (IsFitFor call health.WornOut → ⊥)
        → ((k : ℕ) → k < d.shape.blocks → (MayChange call false k → ⊥)
        → (part_block (blocks p) (on_part t k)).cells ≡ (numbered blocks d k).cells)
        → ((x : ℕ) → use_of d.table x ≡ use_as.Bad → use_of t x ≡ use_as.Bad)
        → cost_with d.shape.pages t (spent p) ≤ cost_with d.shape.pages d.table (spent d.part) + 1
        → Ends call false worn
    worn_out call unfit kept bad cost = record {
      shape = refl;
      fit = ((λ e. absurd (false≢true e)), (λ fit. absurd (unfit fit)));
      kept = λ h. kept;
      labelled = λ e. absurd (false≢true e);
      serial = λ e. absurd (false≢true e);
      bad = bad;
      cost = λ h. cost;
      cost_of_fault = omega (arith, cost);
    }
