-- Blocks are erased before they are used, one by one.
use Rattle.std.proofs.Common.{◌≡◌, ◌≢◌, ℕ, ◌+◌, ◌<◌, ◌≤◌, Bool, true, false, List, length, set, refl, ap, sym, ◌∙◌, subst, inl, inr, arith}
use Rattle.std.specs.Prelude.{Option, Some, None}
use Rattle.std.proofs.lemmas.Bool.{cases_eq, cases_lt, false≢true}
use Rattle.std.proofs.lemmas.List.{get_or-set_same, length-set}
use Rattle.std.proofs.lemmas.Option.{none-some}
use Rattle.spare_blocks.specs.declared.cells.BlockUse.{BlockUse}
use Rattle.spare_blocks.specs.declared.cells.BlockUse.TheVariants as use_as
use Rattle.spare_blocks.specs.declared.cells.Cell.{Cell}
use Rattle.spare_blocks.specs.declared.cells.Ended.TheVariants as ended
use Rattle.spare_blocks.specs.Parts.{PartBlock, part_block, free_part_block, blocks_after_erase}
use Rattle.spare_blocks.specs.Tables.{Table, IsTable, IsSpare, use_of, on_part, replaced, without_spare}
use Rattle.spare_blocks.specs.Trying.{IsUsedUp}
use Rattle.spare_blocks.proofs.Numbers.{bad-spare, spare_within, use_failed, use_other, replaced_bad}
use Rattle.spare_blocks.proofs.PlanCells.{set_here, set_other}
use Rattle.stepped_spares.specs.declared.moves.Move.{Move}
use Rattle.stepped_spares.specs.declared.moves.Move.TheVariants as moves
use Rattle.stepped_spares.specs.declared.moves.Outcome.{Outcome}
use Rattle.stepped_spares.specs.declared.moves.Outcome.TheVariants as outcome
use Rattle.stepped_spares.specs.declared.moves.Stage.{Stage}
use Rattle.stepped_spares.specs.declared.moves.Stage.TheVariants as stage
use Rattle.stepped_spares.specs.Stepping.{IsLost, IsMovedBy, IsNextErase, must_erase, move_at}
use Rattle.stepped_spares.specs.Carrying.{IsCarried, MayCarry}
use Rattle.stepped_spares.specs.Erasing.{AreErased, HasErased}
use Rattle.stepped_spares.proofs.Filling.{spares_of, other_of}

-- the blocks before this one were erased
pub record IsErasedTo (all : Bool) (first t : Table) (before b : List PartBlock) (from : ℕ) : Type 0 where
  pub count : length t.blocks ≡ length first.blocks
  pub uses : length t.uses ≡ length first.uses
  pub bad : (x : ℕ) → use_of first x ≡ use_as.Bad → use_of t x ≡ use_as.Bad
  pub free : (y : ℕ) → y < from → must_erase all (use_of t y) ≡ true → part_block b y ≡ free_part_block
  pub whole : (y : ℕ) → from ≤ y → must_erase all (use_of t y) ≡ true → (part_block b y).failed ≡ false
  pub used : all ≡ false → IsUsedUp first t
  pub others : all ≡ false → (x : ℕ) → (IsSpare first x → ⊥) → part_block b x ≡ part_block before x

abbrev pub IsErasingOn : (all : Bool) (first t : Table) (before b : List PartBlock) (faulted : Bool) → Stage → Type 0
IsErasingOn all first t before b faulted (stage.Erasing x every) =
    (every ≡ all) × (must_erase all (use_of t x) ≡ true) × IsErasedTo all first t before b x × (faulted ≡ false)
IsErasingOn all first t before b faulted stage.Working = AreErased all first t before b × (faulted ≡ false)
IsErasingOn all first t before b faulted stage.WornOut = faulted ≡ false
IsErasingOn all first t before b faulted stage.Faulted = faulted ≡ true
IsErasingOn all first t before b faulted (stage.Filling n spare c k) = ⊥

-- The next block that is erased: those between need it not

next_on : (all : Bool) (first t : Table) (before b : List PartBlock) (from : ℕ) (s : Stage) → IsErasedTo all first t before b from
    → IsNextErase all t from s → IsErasingOn all first t before b false s
next_on all first t before b from (stage.Erasing x every) is (same, far, must, none) = (
  same,
  must,
  record {
    count = is.count;
    uses = is.uses;
    bad = is.bad;
    free = λ y lt e. elim (cases_lt y from) [
      | inl below ↦ is.free y below e
      | inr past ↦ absurd (false≢true (sym (none y past lt) ∙ e))
    ];
    whole = λ y le e. is.whole y (omega (arith, le, far)) e;
    used = is.used;
    others = is.others;
  },
  refl,
)
next_on all first t before b from stage.Working is none = (
  record {
    count = is.count;
    uses = is.uses;
    bad = is.bad;
    free = λ y e. elim (cases_lt y from) [
      | inl below ↦ is.free y below e
      | inr past ↦ absurd (false≢true (sym (none y past) ∙ e))
    ];
    used = is.used;
    others = is.others;
  },
  refl,
)
next_on all first t before b from stage.WornOut is e = absurd e
next_on all first t before b from stage.Faulted is e = absurd e
next_on all first t before b from (stage.Filling n spare c k) is e = absurd e

pub erasing_begins : (all : Bool) (t : Table) (b : List PartBlock) (s : Stage) → IsNextErase all t 0 s
    → ((x : ℕ) → must_erase all (use_of t x) ≡ true → (part_block b x).failed ≡ false) → IsErasingOn all t t b b false s
erasing_begins all t b s next whole = next_on all t t b b 0 s (record {
  count = refl;
  uses = refl;
  bad = λ x e. e;
  free = λ y lt. absurd (omega (arith, lt));
  whole = λ y le e. whole y e;
  used = λ a. record { numbers = refl; others = λ x other. refl; spares = λ x has. has };
  others = λ a x other. refl;
}) next

-- A block was erased, or failed

module _ (all : Bool) (first t : Table) (before b : List PartBlock) (x : ℕ) (must : must_erase all (use_of t x) ≡ true) (is : IsErasedTo all first t before b x) where
  whole : (part_block b x).failed ≡ false
  whole = is.whole x (omega arith) must

  -- where spare blocks alone are erased this was one
  was_spare : all ≡ false → IsSpare first x
  was_spare e = (is.used e).spares x (by_use (use_of t x) refl (subst (λ (a : Bool). must_erase a (use_of t x) ≡ true) e must))
    where
      by_use : (u : BlockUse) → use_of t x ≡ u → must_erase false u ≡ true → IsSpare t x
      by_use (use_as.InPlan n) h m = absurd (false≢true m)
      by_use use_as.Spare h m = h
      by_use use_as.Bad h m = absurd (false≢true m)

  others_by : (new : PartBlock) → all ≡ false → (y : ℕ) → (IsSpare first y → ⊥) → part_block (set b x new) y ≡ part_block before y
  others_by new e y other = set_other b x y new (λ same. other (subst (IsSpare first) (sym same) (was_spare e))) ∙ is.others e y other

  done_to : IsErasedTo all first t before (blocks_after_erase ended.Done b x) (x + 1)
  done_to = record {
    count = is.count;
    uses = is.uses;
    bad = is.bad;
    free = λ y lt e. elim (cases_eq y x) [
      | inl same ↦ ap (part_block (set b x free_part_block)) same ∙ set_here b x free_part_block whole
      | inr other ↦ set_other b x y free_part_block other ∙ is.free y (omega (arith, lt, other)) e
    ];
    whole = λ y le e. ap (λ (p : PartBlock). p.failed) (set_other b x y free_part_block (λ same. absurd (omega (arith, le, same)))) ∙ is.whole y (omega (arith, le)) e;
    used = is.used;
    others = others_by free_part_block;
  }

  -- the table is another one, in which this block is bad, and what has to be erased had to be before
  failed_to : (u : Table) → length u.blocks ≡ length t.blocks → length u.uses ≡ length t.uses → ((y : ℕ) → use_of t y ≡ use_as.Bad → use_of u y ≡ use_as.Bad)
      → use_of u x ≡ use_as.Bad → ((y : ℕ) → y ≢ x → must_erase all (use_of u y) ≡ true → must_erase all (use_of t y) ≡ true)
      → (all ≡ false → IsUsedUp first u) → IsErasedTo all first u before (blocks_after_erase ended.Failed b x) (x + 1)
  failed_to u count uses bad here same used = record {
    count = count ∙ is.count;
    uses = uses ∙ is.uses;
    bad = λ y e. bad y (is.bad y e);
    free = λ y lt e. set_other b x y _ (far y e) ∙ is.free y (omega (arith, lt, far y e)) (same y (far y e) e);
    whole = λ y le e. ap (λ (p : PartBlock). p.failed) (set_other b x y _ (far y e)) ∙ is.whole y (omega (arith, le)) (same y (far y e) e);
    used = used;
    others = others_by _;
  }
    where
      far : (y : ℕ) → must_erase all (use_of u y) ≡ true → y ≢ x
      far y e at = false≢true (ap (must_erase all) (sym (ap (use_of u) at ∙ here)) ∙ e)

  spare_to : IsSpare t x → IsErasedTo all first (without_spare x t) before (blocks_after_erase ended.Failed b x) (x + 1)
  spare_to spare = failed_to (without_spare x t) refl (length-set t.uses x use_as.Bad) bad_on (get_or-set_same t.uses x use_as.Bad use_as.Bad (spare_within t x spare))
      (λ y other e. ap (must_erase all) (sym (other_of t x y other)) ∙ e) used_on
    where
      bad_on : (y : ℕ) → use_of t y ≡ use_as.Bad → use_of (without_spare x t) y ≡ use_as.Bad
      bad_on y e = other_of t x y (λ same. bad-spare (sym e ∙ (ap (use_of t) same ∙ spare))) ∙ e

      used_on : all ≡ false → IsUsedUp first (without_spare x t)
      used_on e = record {
        numbers = (is.used e).numbers;
        others = λ y other. other_of t x y (λ same. other (subst (IsSpare first) (sym same) (was_spare e))) ∙ (is.used e).others y other;
        spares = λ y has. (is.used e).spares y (spares_of t x y spare has).1;
      }

  number_to : IsTable t → (number spare : ℕ) → use_of t x ≡ use_as.InPlan number → IsSpare t spare
      → IsErasedTo all first (replaced number spare t) before (blocks_after_erase ended.Failed b x) (x + 1)
  number_to sound number spare in_plan has = failed_to (replaced number spare t) (length-set t.blocks number spare)
      (length-set (set t.uses (on_part t number) use_as.Bad) spare (use_as.InPlan number) ∙ length-set t.uses (on_part t number) use_as.Bad)
      (replaced_bad t sound number spare within has) (ap (use_of u) (sym on) ∙ use_failed t sound number spare within has) must_on not_alone
    where
      u : Table
      u = replaced number spare t

      within : number < length t.blocks
      within = (sound.listed x number in_plan).0

      on : on_part t number ≡ x
      on = (sound.listed x number in_plan).1

      must_on : (y : ℕ) → y ≢ x → must_erase all (use_of u y) ≡ true → must_erase all (use_of t y) ≡ true
      must_on y far e = elim (cases_eq y spare) [
        | inl same ↦ ap (must_erase all) (ap (use_of t) same ∙ has)
        | inr other ↦ ap (must_erase all) (sym (use_other t sound number spare within has y other (λ at. far (at ∙ on)))) ∙ e
      ]

      not_alone : all ≡ false → IsUsedUp first u
      not_alone e = absurd (false≢true (sym e ∙ (ap (must_erase all) (sym in_plan) ∙ must)))

  lost_on : IsTable t → (u : BlockUse) → use_of t x ≡ u → (q r : ℕ) (w : Table) (v : Stage)
      → IsLost all x u (record { table = t; pages = q; stage = stage.Erasing x all }) (record { table = w; pages = r; stage = v })
      → IsErasingOn all first w before (blocks_after_erase ended.Failed b x) false v
  lost_on sound use_as.Spare e q r w v (same, next) =
      subst (λ (z : Table). IsErasingOn all first z before (blocks_after_erase ended.Failed b x) false v) (sym same)
      (next_on all first (without_spare x t) before (blocks_after_erase ended.Failed b x) (x + 1) v (spare_to e)
      (subst (λ (z : Table). IsNextErase all z (x + 1) v) same next))
  lost_on sound (use_as.InPlan number) e q r w v (inl (spare, has, same, next)) =
      subst (λ (z : Table). IsErasingOn all first z before (blocks_after_erase ended.Failed b x) false v) (sym same)
      (next_on all first (replaced number spare t) before (blocks_after_erase ended.Failed b x) (x + 1) v (number_to sound number spare e has)
      (subst (λ (z : Table). IsNextErase all z (x + 1) v) same next))
  lost_on sound (use_as.InPlan number) e q r w v (inr (none, same, worn)) =
      subst (IsErasingOn all first w before (blocks_after_erase ended.Failed b x) false) (sym worn) refl
  lost_on sound use_as.Bad e q r w v is_lost = absurd is_lost

  pub moved_on : IsTable t → (how : Outcome) (cell : Cell) (page : Option ℕ) (a : List PartBlock) (serial next : ℕ) (f : Bool) (q r : ℕ) (w : Table) (v : Stage)
      → IsCarried how (moves.Erase x) cell page b a serial next f
      → IsMovedBy how (record { table = t; pages = q; stage = stage.Erasing x all }) (record { table = w; pages = r; stage = v })
      → IsErasingOn all first w before a f v
  moved_on sound outcome.Done cell page a serial next f q r w v (blocks, serials, well) (same, then_on) =
      subst (λ (z : Bool). IsErasingOn all first w before a z v) (sym well)
      (subst (λ (l : List PartBlock). IsErasingOn all first w before l false v) (sym blocks)
      (subst (λ (z : Table). IsErasingOn all first z before (blocks_after_erase ended.Done b x) false v) (sym same)
      (next_on all first t before (blocks_after_erase ended.Done b x) (x + 1) v done_to then_on)))
  moved_on sound outcome.Failed cell page a serial next f q r w v (blocks, serials, well) is_lost =
      subst (λ (z : Bool). IsErasingOn all first w before a z v) (sym well)
      (subst (λ (l : List PartBlock). IsErasingOn all first w before l false v) (sym blocks)
      (lost_on sound (use_of t x) refl q r w v is_lost))
  moved_on sound outcome.Fault cell page a serial next f q r w v fault (same, at_end) =
      subst (IsErasingOn all first w before a f) (sym at_end) fault

-- The next call, whichever it is

some_is : {x y : Move} → Some x ≡ Some y → x ≡ y
some_is e = grind arith

module _ (all : Bool) (first : Table) (before : List PartBlock) where
  pub is_well : (t : Table) (b : List PartBlock) (f : Bool) (s : Stage) (call : Move) → move_at t s ≡ Some call → IsErasingOn all first t before b f s → f ≡ false
  is_well t b f (stage.Erasing x every) call e (same, must, is, well) = well
  is_well t b f (stage.Filling m spare c k) call e on_it = absurd on_it
  is_well t b f stage.Working call e on_it = absurd (none-some call e)
  is_well t b f stage.WornOut call e on_it = absurd (none-some call e)
  is_well t b f stage.Faulted call e on_it = absurd (none-some call e)

  pub may_erase : (t : Table) (b : List PartBlock) (pages : ℕ) (f : Bool) (s : Stage) (call : Move) → move_at t s ≡ Some call → IsErasingOn all first t before b f s
      → MayCarry b pages call
  may_erase t b pages f (stage.Erasing x every) call e (same, must, is, well) =
      subst (MayCarry b pages) (some_is e) (is.whole x (omega arith) must)
  may_erase t b pages f (stage.Filling m spare c k) call e on_it = absurd on_it
  may_erase t b pages f stage.Working call e on_it = absurd (none-some call e)
  may_erase t b pages f stage.WornOut call e on_it = absurd (none-some call e)
  may_erase t b pages f stage.Faulted call e on_it = absurd (none-some call e)

  pub erased_on : (t w : Table) (b a : List PartBlock) (cell : Cell) (page : Option ℕ) (serial next q r : ℕ) (f g : Bool) (s v : Stage) (how : Outcome) (call : Move)
      → IsTable t → move_at t s ≡ Some call → IsErasingOn all first t before b f s → IsCarried how call cell page b a serial next g
      → IsMovedBy how (record { table = t; pages = q; stage = s }) (record { table = w; pages = r; stage = v })
      → IsErasingOn all first w before a g v
  erased_on t w b a cell page serial next q r f g (stage.Erasing x every) v how call sound e (same, must, is, well) carried moved =
      moved_on all first t before b x must is sound how cell page a serial next g q r w v
      (subst (λ (z : Move). IsCarried how z cell page b a serial next g) (sym (some_is e)) carried)
      (subst (λ (z : Bool). IsMovedBy how (record { table = t; pages = q; stage = stage.Erasing x z }) (record { table = w; pages = r; stage = v })) same moved)
  erased_on t w b a cell page serial next q r f g (stage.Filling m spare c k) v how call sound e on_it carried moved = absurd on_it
  erased_on t w b a cell page serial next q r f g stage.Working v how call sound e on_it carried moved = absurd (none-some call e)
  erased_on t w b a cell page serial next q r f g stage.WornOut v how call sound e on_it carried moved = absurd (none-some call e)
  erased_on t w b a cell page serial next q r f g stage.Faulted v how call sound e on_it carried moved = absurd (none-some call e)

  pub has_erased : (t : Table) (b : List PartBlock) (f : Bool) (s : Stage) → move_at t s ≡ None → IsErasingOn all first t before b f s
      → HasErased s all first t before b f
  has_erased t b f (stage.Erasing x every) e on_it = absurd (none-some (moves.Erase x) (sym e))
  has_erased t b f (stage.Filling m spare c k) e on_it = absurd on_it
  has_erased t b f stage.Working e on_it = on_it
  has_erased t b f stage.WornOut e on_it = on_it
  has_erased t b f stage.Faulted e on_it = on_it
