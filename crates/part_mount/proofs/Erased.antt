-- Cells with one erase more of a block: no act of a mount looks at it.
use Rattle.std.proofs.Common.{◌≡◌, ◌⊎◌, ℕ, ◌+◌, ◌<◌, ◌≤◌, ◌==◌, nat_lt, Bool, true, false, cond, List, length, get_or, set}
use Rattle.std.proofs.Common.{Option, Some, None, refl, ap, sym, ◌∙◌, subst, inl, inr, arith}
use Rattle.std.specs.Prelude.{sum_by}
use Rattle.std.specs.List.{position, position_or_len}
use Rattle.std.specs.Option.{option_or}
use Rattle.std.proofs.lemmas.Bool.{cases_eq, cases_lt}
use Rattle.std.proofs.lemmas.List.{get_or-set_same, get_or-set_other, length-set, set_comm, set_past, set-set}
use Rattle.std.proofs.lemmas.List.Folds.{position_or_len-set}
use Rattle.std.proofs.lemmas.List.Sums.{sum_by-set}
use Rattle.slot_types.specs.declared.acts.Act.TheVariants as does
use Rattle.slot_types.specs.declared.plans.DiePlan.{DiePlan}
use Rattle.die_log.specs.Model.Flash.{Block, Cells, block_after_erase_slot, block_at, cells_after, cells_after_program_in, free_block, free_in, is_open, open_block}
use Rattle.part_mount.specs.OnPart.{erased_more, once_erased}

-- the same block, maybe with an erase more
pub record IsAlike (s t : Block) : Type 0 where
  pub filled : t.filled ≡ s.filled
  pub erasing : t.erasing ≡ s.erasing
  pub few : t.erases ≤ s.erases + 1

pub alike : (e : ℕ) (c : Cells) (b : ℕ) → IsAlike (block_at c b) (block_at (once_erased e c) b)
alike e c b = by_case (cases_eq b e) (cases_lt e (length c.blocks))
  where
    more : List Block
    more = set c.blocks e (erased_more (block_at c e))

    by_case : (b ≡ e) ⊎ (b ≡ e → ⊥) → (e < length c.blocks) ⊎ (length c.blocks ≤ e) → IsAlike (block_at c b) (get_or more b free_block)
    by_case (inl is) (inl lt) =
        let at : get_or more b free_block ≡ erased_more (block_at c b) = ap (λ i. get_or more i free_block) is
        ∙ (get_or-set_same c.blocks e (erased_more (block_at c e)) free_block lt ∙ ap (λ i. erased_more (block_at c i)) (sym is)) in
        subst (IsAlike (block_at c b)) (sym at) (record { filled = refl; erasing = refl; few = omega arith })
    by_case (inl is) (inr past) =
        let at : get_or more b free_block ≡ block_at c b = ap (λ bs. get_or bs b free_block) (set_past c.blocks e (erased_more (block_at c e)) past) in
        subst (IsAlike (block_at c b)) (sym at) (record { filled = refl; erasing = refl; few = omega arith })
    by_case (inr other) h =
        subst (IsAlike (block_at c b)) (sym (get_or-set_other c.blocks e b (erased_more (block_at c e)) free_block other))
        (record { filled = refl; erasing = refl; few = omega arith })

-- The open block, and free pages

position_kept : (p : Block → Bool) (e : ℕ) (bs : List Block) → p (erased_more (get_or bs e free_block)) ≡ p (get_or bs e free_block)
    → position p (set bs e (erased_more (get_or bs e free_block))) ≡ position p bs
position_kept p e bs h =
    let x = erased_more (get_or bs e free_block) in
    ap (λ (n : ℕ). found n (length (set bs e x))) (position_or_len-set p bs e x free_block h)
    ∙ ap (found (position_or_len p bs)) (length-set bs e x)
  where
    found : ℕ → ℕ → Option ℕ
    found k n = cond (nat_lt k n) (Some k) None

pub open_kept : (plan : DiePlan) (e : ℕ) (c : Cells) → open_block plan (once_erased e c) ≡ open_block plan c
open_kept plan e c =
    ap (λ (o : Option ℕ). option_or o (position (λ s. s.filled == 0) (once_erased e c).blocks)) (position_kept (is_open plan) e c.blocks refl)
    ∙ ap (option_or (position (is_open plan) c.blocks)) (position_kept (λ s. s.filled == 0) e c.blocks refl)

pub free_kept : (plan : DiePlan) (e : ℕ) (c : Cells) → sum_by (free_in plan) (once_erased e c).blocks ≡ sum_by (free_in plan) c.blocks
free_kept plan e c = by_case (cases_lt e (length c.blocks))
  where
    by_case : (e < length c.blocks) ⊎ (length c.blocks ≤ e)
        → sum_by (free_in plan) (set c.blocks e (erased_more (block_at c e))) ≡ sum_by (free_in plan) c.blocks
    by_case (inl lt) = omega (arith, sum_by-set (free_in plan) c.blocks e (erased_more (block_at c e)) free_block lt)
    by_case (inr past) = ap (sum_by (free_in plan)) (set_past c.blocks e (erased_more (block_at c e)) past)

-- Acts

-- a change of one block, for which it is the same whether an erase more was counted
changed_kept : (f : Block → Block) (e b : ℕ) (bs : List Block) → ((s : Block) → f (erased_more s) ≡ erased_more (f s))
    → set (set bs e (erased_more (get_or bs e free_block))) b (f (get_or (set bs e (erased_more (get_or bs e free_block))) b free_block))
    ≡ set (set bs b (f (get_or bs b free_block))) e (erased_more (get_or (set bs b (f (get_or bs b free_block))) e free_block))
changed_kept f e b bs h = by_case (cases_lt e (length bs)) (cases_eq b e)
  where
    x : Block
    x = erased_more (get_or bs e free_block)

    y : Block
    y = f (get_or bs b free_block)

    by_case : (e < length bs) ⊎ (length bs ≤ e) → (b ≡ e) ⊎ (b ≡ e → ⊥)
        → set (set bs e x) b (f (get_or (set bs e x) b free_block)) ≡ set (set bs b y) e (erased_more (get_or (set bs b y) e free_block))
    by_case (inl lt) (inl is) =
        let left : set (set bs e x) b (f (get_or (set bs e x) b free_block)) ≡ set bs e (f x) =
        ap (λ (i : ℕ). set (set bs e x) i (f (get_or (set bs e x) i free_block))) is
        ∙ (ap (λ (s : Block). set (set bs e x) e (f s)) (get_or-set_same bs e x free_block lt) ∙ set-set bs e x (f x)) in
        let z = f (get_or bs e free_block) in
        let right : set (set bs b y) e (erased_more (get_or (set bs b y) e free_block)) ≡ set bs e (erased_more z) =
        ap (λ (i : ℕ). set (set bs i (f (get_or bs i free_block))) e (erased_more (get_or (set bs i (f (get_or bs i free_block))) e free_block))) is
        ∙ (ap (λ (s : Block). set (set bs e z) e (erased_more s)) (get_or-set_same bs e z free_block lt) ∙ set-set bs e z (erased_more z)) in
        left ∙ (ap (set bs e) (h (get_or bs e free_block)) ∙ sym right)
    by_case (inl lt) (inr other) =
        let left : set (set bs e x) b (f (get_or (set bs e x) b free_block)) ≡ set (set bs e x) b y =
        ap (λ (s : Block). set (set bs e x) b (f s)) (get_or-set_other bs e b x free_block other) in
        let right : set (set bs b y) e (erased_more (get_or (set bs b y) e free_block)) ≡ set (set bs b y) e x =
        ap (λ (s : Block). set (set bs b y) e (erased_more s)) (get_or-set_other bs b e y free_block (λ (is : e ≡ b). other (sym is))) in
        left ∙ (set_comm bs e b x y (λ (is : e ≡ b). other (sym is)) ∙ sym right)
    by_case (inr past) any =
        ap (λ (l : List Block). set l b (f (get_or l b free_block))) (set_past bs e x past)
        ∙ sym (set_past (set bs b y) e (erased_more (get_or (set bs b y) e free_block)) (omega (arith, past, length-set bs b y)))

pub program_kept : (e page : ℕ) (o : Option ℕ) (c : Cells) → cells_after_program_in page o (once_erased e c) ≡ once_erased e (cells_after_program_in page o c)
program_kept e page None c = refl
program_kept e page (Some b) c = λ i. record {
  blocks = changed_kept (λ (s : Block). record s { filled = s.filled + 1 }) e b c.blocks (λ s. refl) i;
  places = set c.places page (Some (record { block = b; page = (alike e c b).filled i }));
}

erase_more : (plan : DiePlan) (s : Block) → block_after_erase_slot plan (erased_more s) ≡ erased_more (block_after_erase_slot plan s)
erase_more plan s = by_test (s.erasing + 1 == plan.shape.erase_slots)
  where
    by_test : (t : Bool) → cond t (record { filled = 0; erasing = 0; erases = s.erases + 1 + 1 }) (record (erased_more s) { erasing = s.erasing + 1 })
        ≡ erased_more (cond t (record { filled = 0; erasing = 0; erases = s.erases + 1 }) (record s { erasing = s.erasing + 1 }))
    by_test true = refl
    by_test false = refl

pub erase_kept : (plan : DiePlan) (e b : ℕ) (c : Cells) → cells_after plan (Some (0, does.Erase b)) (once_erased e c) ≡ once_erased e (cells_after plan (Some (0, does.Erase b)) c)
erase_kept plan e b c = λ i. record {
  blocks = changed_kept (block_after_erase_slot plan) e b c.blocks (erase_more plan) i;
  places = c.places;
}
