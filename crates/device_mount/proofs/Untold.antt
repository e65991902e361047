-- A mount to which no erases were reported counts that of its first block alone, and wears no block out.
use Rattle.std.proofs.Common.{◌≡◌, ◌⊎◌, ℕ, suc, ◌+◌, ◌<◌, ◌≤◌, ◌==◌, Bool, cond, List, [], ◌∷◌, map, Option, get_or}
use Rattle.std.proofs.Common.{refl, ap, sym, ◌∙◌, subst, inl, inr, arith}
use Rattle.std.specs.List.{range_with_len}
use Rattle.std.proofs.lemmas.Bool.{cases_lt, ne_eqb}
use Rattle.std.proofs.lemmas.List.{get_or_past}
use Rattle.std.proofs.lemmas.List.FromFn.{get_or-map-range_with_len, length-map-range_with_len}
use Rattle.slot_types.specs.declared.plans.DiePlan.{DiePlan}
use Rattle.plan_rules.specs.Bound.{MeetsBound}
use Rattle.die_mount.specs.declared.stage.Stage.{Stage}
use Rattle.die_mount.specs.declared.stage.Stage.TheVariants as stage
use Rattle.die_mount.specs.Beginning.{HasBeginFault, IsScanned}
use Rattle.die_mount.specs.declared.begin_fault.BeginFault.TheVariants as begin
use Rattle.die_mount.specs.Scanned.{Scanned}
use Rattle.die_mount.specs.Erases.{CountsFrom, IsFirstWorn, above_told, counts_with, erases_of, one_more, told_or}
use Rattle.die_mount.specs.Mounting.{Mounting}
use Rattle.die_mount.specs.Nexts.{BeginsFirst}
use Rattle.die_mount.proofs.Beginning.{rounds_few}
use Rattle.labelled_die.specs.Scanning.{IsUntold}
use Rattle.part_mount.specs.OnPart.{BeginsToCount, CountsOne}

none_above : (told : List (Option ℕ)) → IsUntold told → above_told told ≡ 0
none_above [] none = refl
none_above (first ∷ rest) none = omega (arith, ap one_more (none 0), none_above rest (λ b. none (suc b)))

pub no_erases : (told : List (Option ℕ)) → IsUntold told → (block : ℕ) → erases_of told block ≡ 0
no_erases told none block = ap (told_or (above_told told)) (none block) ∙ none_above told none

not_worn : (plan : DiePlan) → MeetsBound plan → plan.shape.blocks < 1024 → (told : List (Option ℕ)) → IsUntold told → (block : ℕ)
    → IsFirstWorn plan told block → ⊥
not_worn plan bound beside told none block worn = omega (arith, worn.worn, no_erases told none block, rounds_few plan bound beside)

pub never_worn : (plan : DiePlan) (s : Scanned) (told : List (Option ℕ)) → IsUntold told → IsScanned plan s → {IsIdle : Type 0} → (block : ℕ)
    → HasBeginFault plan s told IsIdle (begin.WornOut block) → ⊥
never_worn plan s told none scanned block h = not_worn plan scanned.may.0 scanned.may.1 told none block h.2

abbrev block_in : Stage → ℕ
block_in (stage.First block slots) = block
block_in (stage.Read page from) = 0
block_in (stage.Program page from to) = 0
block_in (stage.Erase block slots) = 0
block_in stage.Done = 0

pub begins_to_count : (plan : DiePlan) (told : List (Option ℕ)) → IsUntold told → (m : Mounting) → BeginsFirst plan m → CountsFrom told m → BeginsToCount m
begins_to_count plan told none m b from erased at = subst (λ (first : ℕ). CountsOne first m) (ap block_in (sym from.stage_is ∙ at)) one
  where
    n : ℕ
    n = m.plan.shape.blocks + 1

    first_is : from.erased ≡ b.block
    first_is = ap block_in (sym from.stage_is ∙ b.stage_is)

    blocks_are : m.plan.shape.blocks ≡ plan.shape.blocks
    blocks_are = ap (λ (p : DiePlan). p.shape.blocks) b.plan_is

    here : from.erased < n
    here = omega (arith, b.stands, first_is, blocks_are)

    own : (k : ℕ) (t : Bool) → k ≡ 0 → cond t (k + 1) k ≡ cond t 1 0
    own k t is = ap (λ (j : ℕ). cond t (j + 1) j) is

    by_case : (block : ℕ) → (block < n) ⊎ (n ≤ block) → get_or (map (counts_with told from.erased) (range_with_len 0 n)) block 0 ≡ cond (block == from.erased) 1 0
    by_case block (inl below) =
        get_or-map-range_with_len (counts_with told from.erased) 0 n block block 0 below (omega arith)
        ∙ own (erases_of told block) (block == from.erased) (no_erases told none block)
    by_case block (inr past) =
        get_or_past (map (counts_with told from.erased) (range_with_len 0 n)) block 0
        (omega (arith, past, length-map-range_with_len (counts_with told from.erased) 0 n))
        ∙ sym (ap (λ (t : Bool). cond t 1 0) (ne_eqb block from.erased (λ (e : block ≡ from.erased). omega (arith, e, here, past))))

    one : CountsOne from.erased m
    one block = ap (λ (counts : List ℕ). get_or counts block 0) from.counts ∙ by_case block (cases_lt block n)
