-- What is found without a block, and with it.
use Rattle.std.proofs.Common.{◌≡◌, ◌≢◌, ◌⊎◌, ℕ, ◌+◌, ◌<◌, ◌≤◌, List, [], length, get_or, Option, Some, None, refl, ap, sym, ◌∙◌, subst, inl, inr, arith}
use Rattle.std.specs.Prelude.{IfSome, ◌↔◌}
use Rattle.std.proofs.lemmas.Bool.{cases_eq, cases_lt}
use Rattle.std.proofs.lemmas.List.{get_or_past}
use Rattle.std.proofs.lemmas.Option.{none-some, same_Some}
use Rattle.slot_types.specs.declared.pages.Place.{Place}
use Rattle.slot_types.specs.declared.plans.DiePlan.{DiePlan}
use Rattle.slot_types.specs.declared.plans.Shape.{Shape}
use Rattle.flash_die.specs.Flash as device
use Rattle.flash_die.specs.Flash.{IsProgrammed}
use Rattle.die_mount.specs.Beginning.{IsIdleIn}
use Rattle.die_mount.specs.Scanned.{IsScanOf, Scanned}
use Rattle.die_mount.proofs.PagesFound.{none_counted}
use Rattle.part_mount.proofs.Bearing.{is_there}
use Rattle.part_mount.proofs.Powered.{is_quiet}
use Rattle.power_loss.specs.Aside.{part_of}
use Rattle.power_loss.specs.Labels.{FitPlan, Label, Labels, Shown, label_at, labels_in}
use Rattle.power_loss.specs.Mounted.{all_count, bytes_at, mounted_content, mounted_place}
use Rattle.power_loss.specs.Recovery.{FindsNoneIn, IsNewestBlock, MayErase, without_block}
use Rattle.power_loss.proofs.Mounting.{mounted_stands}
use Rattle.power_loss.proofs.TwoMounts.{bytes_found, same_content}
use Rattle.device_mount.specs.Parts.{HasLabel, IsPartOf, KeepsPage, KeepsPages}
use Rattle.device_mount.proofs.Again.{less, none_there, stays}

-- Labels of what is found

pub has_label : (page : ℕ) (seen : Shown) (q : Place) → mounted_place (all_count page) page seen ≡ Some q → HasLabel seen q
has_label page seen q e = let f = mounted_stands (all_count page) page seen q e in (f.0, f.1)

pub has_label_still : (page : ℕ) (seen : Shown) (block : ℕ) (o : Option Place) → o ≡ mounted_place (all_count page) page (without_block block seen)
    → IfSome o (HasLabel seen)
has_label_still page seen block None e = tt
has_label_still page seen block (Some q) e =
    let f = has_label page (without_block block seen) q (sym e) in (f.0, less seen block q f.0 f.1)

-- Bytes

bytes_still : (page : ℕ) (seen : Shown) (block : ℕ) (o : Option Place) → o ≡ mounted_place (all_count page) page (without_block block seen)
    → bytes_at (without_block block seen) o ≡ bytes_at seen o
bytes_still page seen block None e = refl
bytes_still page seen block (Some q) e =
    let f = has_label page (without_block block seen) q (sym e) in
    bytes_found (without_block block seen) q f.0 f.1 ∙ sym (bytes_found seen q f.0 (less seen block q f.0 f.1))

-- without the block the page is found there, and with it here
module _ (page : ℕ) (seen : Shown) (block : ℕ) (here there : Option Place) (h : here ≡ mounted_place (all_count page) page seen)
    (t : there ≡ mounted_place (all_count page) page (without_block block seen)) where
  same_bytes : bytes_at seen there ≡ mounted_content (all_count page) page (without_block block seen)
  same_bytes = sym (bytes_still page seen block there t) ∙ ap (bytes_at (without_block block seen)) t

  pub keeps_by : bytes_at seen here ≡ bytes_at seen there → KeepsPage seen block page
  keeps_by same = sym same_bytes ∙ (sym same ∙ ap (bytes_at seen) h)

  pub by_keeping : KeepsPage seen block page → bytes_at seen here ≡ bytes_at seen there
  by_keeping same = ap (bytes_at seen) h ∙ (sym same ∙ sym same_bytes)

-- a page that isn't found in the block is found without it
pub keeps_other : (plan : DiePlan) (page : ℕ) (seen : Shown) (block : ℕ) → FitPlan plan seen
    → ((q : Place) → mounted_place (all_count page) page seen ≡ Some q → q.block ≢ block) → KeepsPage seen block page
keeps_other plan page seen block fit elsewhere =
    same_content plan (all_count page) page seen (without_block block seen) fit (less seen block) (λ q x e f. stays seen block q x (elsewhere q e) f)

-- so is one that is found nowhere, or in another block
pub keeps_nowhere : (plan : DiePlan) (page : ℕ) (seen : Shown) (block : ℕ) → FitPlan plan seen → None ≡ mounted_place (all_count page) page seen
    → KeepsPage seen block page
keeps_nowhere plan page seen block fit e = keeps_other plan page seen block fit (λ q f. absurd (none-some q (e ∙ f)))

pub keeps_there : (plan : DiePlan) (page : ℕ) (seen : Shown) (block : ℕ) (q : Place) → FitPlan plan seen
    → Some q ≡ mounted_place (all_count page) page seen → q.block ≢ block → KeepsPage seen block page
keeps_there plan page seen block q fit e other =
    keeps_other plan page seen block fit (λ r f is. other (ap (λ (p : Place). p.block) (same_Some q r (e ∙ f)) ∙ is))

pub keeps_idle : (plan : DiePlan) (seen : Shown) (block : ℕ) → FitPlan (part_of plan) seen → FindsNoneIn (part_of plan) all_count seen block
    → KeepsPages plan seen block
keeps_idle plan seen block fit none page lt = keeps_other (part_of plan) page seen block fit (λ q e. none page lt q e)

-- The first erase

-- the newest block is one
newest_one : (seen : Shown) (a b : ℕ) → IsNewestBlock seen a → IsNewestBlock seen b → a ≡ b
newest_one seen a b one other = by_case (cases_eq a b)
  where
    by_case : (a ≡ b) ⊎ (a ≡ b → ⊥) → a ≡ b
    by_case (inl is) = is
    by_case (inr apart) = absurd (omega (
      arith,
      one.newest other.place other.label other.stands (λ (is : other.place.block ≡ a). apart (sym is ∙ other.own)),
      other.newest one.place one.label one.stands (λ (is : one.place.block ≡ b). apart (sym one.own ∙ is)),
    ))

-- where some block is idle, one that may be erased is
pub keeps_first_idle : (plan : DiePlan) (seen : Shown) (idle erased : ℕ) → FitPlan (part_of plan) seen
    → FindsNoneIn (part_of plan) all_count seen idle → MayErase (part_of plan) all_count seen idle → MayErase (part_of plan) all_count seen erased
    → KeepsPages plan seen erased
keeps_first_idle plan seen idle erased fit none own (inl may) = keeps_idle plan seen erased fit may.1
keeps_first_idle plan seen idle erased fit none (inl own) (inr may) = absurd (may.0 idle own.0 none)
keeps_first_idle plan seen idle erased fit none (inr own) (inr may) = keeps_by_newest
  where
    keeps_by_newest : KeepsPages plan seen erased
    keeps_by_newest = subst (KeepsPages plan seen) (newest_one seen idle erased own.1 may.1) (keeps_idle plan seen idle fit none)

-- and where none is, it is the newest one
pub keeps_newest : (plan : DiePlan) (seen : Shown) (block erased : ℕ)
    → ((other : ℕ) → other < (part_of plan).shape.blocks → FindsNoneIn (part_of plan) all_count seen other → ⊥)
    → MayErase (part_of plan) all_count seen block → MayErase (part_of plan) all_count seen erased → KeepsPages plan seen block → KeepsPages plan seen erased
keeps_newest plan seen block erased none own (inl may) keeps = absurd (none erased may.0 may.1)
keeps_newest plan seen block erased none (inl own) (inr may) keeps = absurd (none block own.0 own.1)
keeps_newest plan seen block erased none (inr own) (inr may) keeps = subst (KeepsPages plan seen) (newest_one seen block erased own.1 may.1) keeps

pub newest_of : (plan : DiePlan) (seen : Shown) (block : ℕ)
    → ((other : ℕ) → other < (part_of plan).shape.blocks → FindsNoneIn (part_of plan) all_count seen other → ⊥)
    → MayErase (part_of plan) all_count seen block → IsNewestBlock seen block
newest_of plan seen block none (inl may) = absurd (none block may.0 may.1)
newest_of plan seen block none (inr may) = may.1

-- Cells

labelled_within : (xs : List (Option Label)) (k : ℕ) (x : Label) → get_or xs k None ≡ Some x → k < length xs
labelled_within xs k x e = by_case (cases_lt k (length xs))
  where
    by_case : (k < length xs) ⊎ (length xs ≤ k) → k < length xs
    by_case (inl lt) = lt
    by_case (inr past) = absurd (none-some x (sym (get_or_past xs k None past) ∙ e))

block_within : (seen : Shown) (q : Place) (x : Label) → label_at seen q ≡ Some x → q.block < length seen
block_within seen q x e = by_case (cases_lt q.block (length seen))
  where
    by_case : (q.block < length seen) ⊎ (length seen ≤ q.block) → q.block < length seen
    by_case (inl lt) = lt
    by_case (inr past) =
        absurd (none-some x (sym (ap (λ (xs : List (Option Label)). get_or xs q.page None) (get_or_past seen q.block [] past)) ∙ e))

-- without labels in the block no page is found there
pub idle_again : (plan : DiePlan) (s : Scanned) (seen : Shown) (block : ℕ) → IsScanOf (part_of plan) s (without_block block seen) → block < length seen
    → length seen ≡ plan.shape.blocks + 1 → IsIdleIn s block
idle_again plan s seen block h lt long = record {
  stands = omega (arith, lt, long, ap (λ (x : Shape). x.blocks) h.shape);
  none = none_counted (part_of plan) s (without_block block seen) h block (λ page below q e.
      let f = has_label page (without_block block seen) q e in none_there seen block q f.0 lt f.1);
}

-- a block that may be erased is there
pub may_within : (plan : DiePlan) (seen : Shown) (block : ℕ) → length seen ≡ plan.shape.blocks + 1 → MayErase (part_of plan) all_count seen block
    → block < length seen
may_within plan seen block long (inl may) = omega (arith, may.0, long)
may_within plan seen block long (inr may) =
    let n = may.1 in subst (λ (b : ℕ). b < length seen) n.own (block_within seen n.place n.label n.stands)

-- a cell with a label may be read, and holds its bytes
module _ {N : Type 0} (shape_of : N → Shape) (blocks : N → List device.Block) (labels : N → Labels) (failures : N → ℕ) (plan : DiePlan) (part : N)
    (h : IsPartOf shape_of blocks labels failures plan part) (q : Place) (l : HasLabel (labels part).blocks q) where
  pub programmed : IsProgrammed (blocks part) q
  programmed = record {
    in_range = is_there (blocks part) q.block (omega (arith, filled));
    filled = filled;
    quiet = is_quiet (shape_of part) (blocks part) (labels part) (failures part) h.powered q.block;
  }
    where
      filled : q.page < length (device.block_at (blocks part) q.block).pages
      filled = omega (arith, labelled_within (labels_in (labels part).blocks q.block) q.page l.0 l.1, h.powered.borne.long q.block)

  pub reads : device.cell_at (blocks part) q ≡ bytes_at (labels part).blocks (Some q)
  reads = h.powered.borne.bytes q l.0 l.1 ∙ sym (bytes_found (labels part).blocks q l.0 l.1)

-- Two cells

-- what is asked of bytes that were read is asked of those that are there
pub same_iff : {A : Type 0} (P : Type 0) (a b x y : A) → P ↔ (x ≡ y) → x ≡ a → y ≡ b → P ↔ (a ≡ b)
same_iff P a b x y h e f = subst (λ z. P ↔ (a ≡ z)) f (subst (λ z. P ↔ (z ≡ y)) e h)

-- a cell has its label after looks, too
pub label_still : {N : Type 0} (labels : N → Labels) (old new : N) (o : Option Place) → labels new ≡ labels old → IfSome o (HasLabel (labels old).blocks)
    → IfSome o (HasLabel (labels new).blocks)
label_still labels old new None same h = tt
label_still labels old new (Some q) same h = subst (λ (l : Labels). HasLabel l.blocks q) (sym same) h
