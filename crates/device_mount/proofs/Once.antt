-- The acts of a mount, where one erase more of its first block is counted.
use Rattle.std.proofs.Common.{◌≡◌, ◌⊎◌, ℕ, ◌+◌, ◌<◌, ◌==◌, Bool, true, false, cond, List, [], ◌∷◌, length, get_or, set, map}
use Rattle.std.proofs.Common.{Option, Some, refl, ap, sym, ◌∙◌, subst, inl, inr, arith}
use Rattle.std.specs.List.{range_with_len}
use Rattle.std.proofs.lemmas.Bool.{cases_eq, eq-eqb, ne_eqb}
use Rattle.std.proofs.lemmas.List.{ext_get_or, get_or-set_same, get_or-set_other, length-set}
use Rattle.std.proofs.lemmas.List.FromFn.{get_or-map-range_with_len, length-map-range_with_len}
use Rattle.slot_types.specs.declared.acts.Act.{Act}
use Rattle.slot_types.specs.declared.acts.Act.TheVariants as does
use Rattle.slot_types.specs.declared.pages.PageData.{PageData}
use Rattle.slot_types.specs.declared.plans.DiePlan.{DiePlan}
use Rattle.die_log.specs.Model.Flash.{Block, Cells, cells_after, cells_after_program_in, free_block, open_block}
use Rattle.die_log.specs.Model.Start.{blank_page}
use Rattle.power_loss.specs.Labels.{Labels, Shown, labels_after, labels_after_program}
use Rattle.power_loss.specs.Mounted.{mounted_places}
use Rattle.power_loss.specs.Recovery.{AreMountActs, MayMount, cells_of, labels_of, remounted_block, remounted_cells, without_block}
use Rattle.die_mount.specs.Mounting.{never_erased}
use Rattle.part_mount.specs.OnPart.{erased_more, once_erased}
use Rattle.part_mount.proofs.Erased.{alike, erase_kept, free_kept, open_kept, program_kept}

-- this block was erased once, and no other one
abbrev pub once : (first : ℕ) → ℕ → ℕ
once first b = cond (b == first) 1 0

-- Cells

program_once : (plan : DiePlan) (e page : ℕ) (c : Cells)
    → cells_after_program_in page (open_block plan (once_erased e c)) (once_erased e c) ≡ once_erased e (cells_after_program_in page (open_block plan c) c)
program_once plan e page c =
    ap (λ (o : Option ℕ). cells_after_program_in page o (once_erased e c)) (open_kept plan e c) ∙ program_kept e page (open_block plan c) c

after_once : (plan : DiePlan) (e : ℕ) (act : Act) (c : Cells)
    → cells_after plan (Some (0, act)) (once_erased e c) ≡ once_erased e (cells_after plan (Some (0, act)) c)
after_once plan e (does.Read page bytes) c = refl
after_once plan e (does.Write page bytes) c = program_once plan e page c
after_once plan e (does.Trim page) c = refl
after_once plan e (does.CopyRead page) c = refl
after_once plan e (does.CopyProgram page) c = program_once plan e page c
after_once plan e (does.Erase block) c = erase_kept plan e block c

pub cells_once : (plan : DiePlan) (e : ℕ) (acts : List Act) (c : Cells) → cells_of plan acts (once_erased e c) ≡ once_erased e (cells_of plan acts c)
cells_once plan e [] c = refl
cells_once plan e (act ∷ earlier) c =
    ap (cells_after plan (Some (0, act))) (cells_once plan e earlier c) ∙ after_once plan e act (cells_of plan earlier c)

-- Acts

may_once : (plan : DiePlan) (e : ℕ) (act : Act) (c : Cells) → MayMount plan c act → MayMount plan (once_erased e c) act
may_once plan e (does.Read page bytes) c may = absurd may
may_once plan e (does.Write page bytes) c may = absurd may
may_once plan e (does.Trim page) c may = absurd may
may_once plan e (does.CopyRead page) c may = absurd may
may_once plan e (does.CopyProgram page) c may = (omega (arith, may.0, free_kept plan e c), may.1)
may_once plan e (does.Erase block) c may = ((alike e c block).filled ∙ may.0, may.1)

pub acts_once : (plan : DiePlan) (e : ℕ) (acts : List Act) (c : Cells) → AreMountActs plan c acts → AreMountActs plan (once_erased e c) acts
acts_once plan e [] c may = tt
acts_once plan e (act ∷ earlier) c may = (
  acts_once plan e earlier c may.0,
  subst (λ (d : Cells). MayMount plan d act) (sym (cells_once plan e earlier c)) (may_once plan e act (cells_of plan earlier c) may.1),
)

-- Labels

program_labels_once : (plan : DiePlan) (e page : ℕ) (bytes : PageData) (c : Cells) (l : Labels)
    → labels_after_program page bytes (open_block plan (once_erased e c)) l ≡ labels_after_program page bytes (open_block plan c) l
program_labels_once plan e page bytes c l = ap (λ (o : Option ℕ). labels_after_program page bytes o l) (open_kept plan e c)

after_labels : (plan : DiePlan) (e : ℕ) (pages : List PageData) (act : Act) (c : Cells) (l : Labels)
    → labels_after plan (once_erased e c) pages (Some (0, act)) l ≡ labels_after plan c pages (Some (0, act)) l
after_labels plan e pages (does.Read page bytes) c l = refl
after_labels plan e pages (does.Write page bytes) c l = program_labels_once plan e page bytes c l
after_labels plan e pages (does.Trim page) c l = refl
after_labels plan e pages (does.CopyRead page) c l = refl
after_labels plan e pages (does.CopyProgram page) c l = program_labels_once plan e page (get_or pages page blank_page) c l
after_labels plan e pages (does.Erase block) c l =
    ap (λ (n : ℕ). cond (n + 1 == plan.shape.erase_slots) (record l { blocks = set l.blocks block [] }) l) (alike e c block).erasing

pub labels_once : (plan : DiePlan) (e : ℕ) (pages : List PageData) (acts : List Act) (c : Cells) (l : Labels)
    → labels_of plan pages acts (once_erased e c) l ≡ labels_of plan pages acts c l
labels_once plan e pages [] c l = refl
labels_once plan e pages (act ∷ earlier) c l =
    ap (labels_after plan (cells_of plan earlier (once_erased e c)) pages (Some (0, act))) (labels_once plan e pages earlier c l)
    ∙ (ap (λ (d : Cells). labels_after plan d pages (Some (0, act)) (labels_of plan pages earlier c l)) (cells_once plan e earlier c)
    ∙ after_labels plan e pages act (cells_of plan earlier c) (labels_of plan pages earlier c l))

-- Where it begins

block_once : (plan : DiePlan) (first b : ℕ) → remounted_block plan first (once first) b
    ≡ cond (b == first) (erased_more (remounted_block plan first never_erased b)) (remounted_block plan first never_erased b)
block_once plan first b = by_test (b == first)
  where
    free : ℕ → Block
    free erases = record { filled = 0; erasing = 0; erases = erases }

    closed : ℕ → Block
    closed erases = record { filled = plan.shape.pages; erasing = 0; erases = erases }

    by_test : (t : Bool) → cond t (free (cond t 1 0)) (closed (cond t 1 0)) ≡ cond t (erased_more (cond t (free 0) (closed 0))) (cond t (free 0) (closed 0))
    by_test true = refl
    by_test false = refl

pub remounted_once : (plan : DiePlan) (from : ℕ → ℕ) (first : ℕ) (seen : Shown) → first < plan.shape.blocks
    → remounted_cells plan from first (once first) seen ≡ once_erased first (remounted_cells plan from first never_erased seen)
remounted_once plan from first seen lt = λ i. record {
  blocks = blocks_are i;
  places = mounted_places from plan.logical (without_block first seen);
}
  where
    n : ℕ
    n = plan.shape.blocks

    made : (ℕ → ℕ) → List Block
    made erases = map (remounted_block plan first erases) (range_with_len 0 n)

    long : (erases : ℕ → ℕ) → length (made erases) ≡ n
    long erases = length-map-range_with_len (remounted_block plan first erases) 0 n

    at : (erases : ℕ → ℕ) (b : ℕ) → b < n → get_or (made erases) b free_block ≡ remounted_block plan first erases b
    at erases b less = get_or-map-range_with_len (remounted_block plan first erases) 0 n b b free_block less (omega arith)

    more : Block
    more = erased_more (get_or (made never_erased) first free_block)

    at_block : (b : ℕ) → b < n → (b ≡ first) ⊎ (b ≡ first → ⊥) → get_or (made (once first)) b free_block ≡ get_or (set (made never_erased) first more) b free_block
    at_block b less (inl is) =
        at (once first) b less ∙ (block_once plan first b
        ∙ (ap (λ (t : Bool). cond t (erased_more (remounted_block plan first never_erased b)) (remounted_block plan first never_erased b)) (eq-eqb b first is)
        ∙ (ap erased_more (sym (at never_erased b less))
        ∙ (ap (λ (k : ℕ). erased_more (get_or (made never_erased) k free_block)) is
        ∙ sym (ap (λ (k : ℕ). get_or (set (made never_erased) first more) k free_block) is
        ∙ get_or-set_same (made never_erased) first more free_block (omega (arith, lt, long never_erased)))))))
    at_block b less (inr other) =
        at (once first) b less ∙ (block_once plan first b
        ∙ (ap (λ (t : Bool). cond t (erased_more (remounted_block plan first never_erased b)) (remounted_block plan first never_erased b)) (ne_eqb b first other)
        ∙ (sym (at never_erased b less) ∙ sym (get_or-set_other (made never_erased) first b more free_block other))))

    blocks_are : made (once first) ≡ set (made never_erased) first more
    blocks_are = ext_get_or free_block (made (once first)) (set (made never_erased) first more)
        (long (once first) ∙ sym (length-set (made never_erased) first more ∙ long never_erased))
        (λ b less. at_block b (omega (arith, less, long (once first))) (cases_eq b first))
