-- The acts of a mount leave the same cells, whatever the erases that blocks have had before.
use Rattle.std.proofs.Common.{◌≡◌, ◌⊎◌, ℕ, suc, ◌+◌, ◌<◌, ◌≤◌, ◌==◌, Bool, true, false, cond, List, [], ◌∷◌, length, Option, Some, None}
use Rattle.std.proofs.Common.{refl, ap, sym, ◌∙◌, subst, inl, inr, arith, get_or, position}
use Rattle.std.specs.Prelude.{slice_set, sum_by}
use Rattle.std.specs.List.{position_or_len}
use Rattle.std.proofs.lemmas.Bool.{cases_eq, cases_lt}
use Rattle.std.proofs.lemmas.List.{ext_get_or, get_or_past, get_or-set_same, get_or-set_other, length-set}
use Rattle.std.proofs.lemmas.List.FromFn.{length-map-range_with_len, get_or-map-range_with_len}
use Rattle.std.proofs.lemmas.List.Sums.{sum_by-cons}
use Rattle.slot_types.specs.declared.pages.PageData.{PageData}
use Rattle.slot_types.specs.declared.acts.Act.{Act}
use Rattle.slot_types.specs.declared.acts.Act.TheVariants as does
use Rattle.slot_types.specs.declared.plans.DiePlan.{DiePlan}
use Rattle.die_log.specs.Model.Flash.{Block, Cells, block_after_erase_slot, block_at, cells_after_program_in, free_block, free_in, is_open, open_block}
use Rattle.die_log.specs.Model.Start.{blank_page}
use Rattle.die_log.specs.Invariants.SoundCells.{AreSoundCells}
use Rattle.power_loss.specs.Aside.{part_of}
use Rattle.power_loss.specs.Labels.{Labels, Shown, labels_after, labels_after_erase_slot, labels_after_program}
use Rattle.power_loss.specs.Mounted.{all_count}
use Rattle.power_loss.specs.Recovery.{AreIdle, AreMountActs, IsFreeBlock, MayMount, cells_of, labels_of, remounted_block, remounted_cells}
use Rattle.die_mount.specs.Erases.{block_counted, counted}
use Rattle.die_mount.specs.Mounting.{ErasedAtMost, first_cells, never_erased}

-- Lists of blocks that differ in their erases alone

abbrev Alike : (xs ys : List Block) → Type 0
Alike xs ys = (length ys ≡ length xs) × ((b : ℕ) → ((get_or ys b free_block).filled ≡ (get_or xs b free_block).filled)
    × ((get_or ys b free_block).erasing ≡ (get_or xs b free_block).erasing))

rest : (x y : Block) (xs ys : List Block) → Alike (x ∷ xs) (y ∷ ys) → Alike xs ys
rest x y xs ys a = (omega (arith, a.0), λ b. a.1 (suc b))

first_alike : (p : ℕ → Bool) (xs ys : List Block) → Alike xs ys
    → position_or_len (λ (t : Block). p t.filled) ys ≡ position_or_len (λ (t : Block). p t.filled) xs
first_alike p [] [] a = refl
first_alike p [] (y ∷ ys) a = absurd (omega (arith, a.0))
first_alike p (x ∷ xs) [] a = absurd (omega (arith, a.0))
first_alike p (x ∷ xs) (y ∷ ys) a =
    rw ((a.1 0).0, first_alike p xs ys (rest x y xs ys a)) refl

position_alike : (p : ℕ → Bool) (xs ys : List Block) → Alike xs ys
    → position (λ (t : Block). p t.filled) ys ≡ position (λ (t : Block). p t.filled) xs
position_alike p xs ys a = rw (first_alike p xs ys a, a.0) refl

free_by : (plan : DiePlan) (s t : Block) → s.filled ≡ t.filled → s.erasing ≡ t.erasing → free_in plan s ≡ free_in plan t
free_by plan s t f e = rw (f, e) refl

free_alike : (plan : DiePlan) (xs ys : List Block) → Alike xs ys → sum_by (free_in plan) ys ≡ sum_by (free_in plan) xs
free_alike plan [] [] a = refl
free_alike plan [] (y ∷ ys) a = absurd (omega (arith, a.0))
free_alike plan (x ∷ xs) [] a = absurd (omega (arith, a.0))
free_alike plan (x ∷ xs) (y ∷ ys) a = omega (
  arith,
  sum_by-cons (free_in plan) x xs,
  sum_by-cons (free_in plan) y ys,
  free_by plan y x (a.1 0).0 (a.1 0).1,
  free_alike plan xs ys (rest x y xs ys a),
)

module _ (counts : List ℕ) where
  pub counted_length : (c : Cells) → length (counted counts c).blocks ≡ length c.blocks
  counted_length c = length-map-range_with_len (block_counted counts c) 0 (length c.blocks)

  pub counted_at : (c : Cells) (b : ℕ) → b < length c.blocks → block_at (counted counts c) b ≡ block_counted counts c b
  counted_at c b below = get_or-map-range_with_len (block_counted counts c) 0 (length c.blocks) b b free_block below (omega arith)

  past : (c : Cells) (b : ℕ) → length c.blocks ≤ b → block_at (counted counts c) b ≡ block_at c b
  past c b beyond = get_or_past (counted counts c).blocks b free_block (omega (arith, counted_length c, beyond))
      ∙ sym (get_or_past c.blocks b free_block beyond)

  pub alike : (c : Cells) → Alike c.blocks (counted counts c).blocks
  alike c = (counted_length c, λ b. by_case b (cases_lt b (length c.blocks)))
    where
      by_case : (b : ℕ) → (b < length c.blocks) ⊎ (length c.blocks ≤ b)
          → ((block_at (counted counts c) b).filled ≡ (block_at c b).filled) × ((block_at (counted counts c) b).erasing ≡ (block_at c b).erasing)
      by_case b (inl below) = (ap (λ (t : Block). t.filled) (counted_at c b below), ap (λ (t : Block). t.erasing) (counted_at c b below))
      by_case b (inr beyond) = (ap (λ (t : Block). t.filled) (past c b beyond), ap (λ (t : Block). t.erasing) (past c b beyond))

  pub counted_free : (plan : DiePlan) (c : Cells) → sum_by (free_in plan) (counted counts c).blocks ≡ sum_by (free_in plan) c.blocks
  counted_free plan c = free_alike plan c.blocks (counted counts c).blocks (alike c)

  pub counted_idle : (c : Cells) → AreIdle c → AreIdle (counted counts c)
  counted_idle c idle b = ((alike c).1 b).1 ∙ idle b

  pub counted_free_block : (c : Cells) (b : ℕ) → IsFreeBlock c b → IsFreeBlock (counted counts c) b
  counted_free_block c b free = record {
    stands = omega (arith, free.stands, counted_length c);
    unfilled = ((alike c).1 b).0 ∙ free.unfilled;
    idle = ((alike c).1 b).1 ∙ free.idle;
  }

  pub counted_sound : (plan : DiePlan) (c : Cells) → AreSoundCells plan c → AreSoundCells plan (counted counts c)
  counted_sound plan c s = record {
    blocks = counted_length c ∙ s.blocks;
    places = s.places;
    within = λ b. omega (arith, ((alike c).1 b).0, s.within b);
    placed = λ page q lies. omega (arith, ((alike c).1 q.block).0, s.placed page q lies);
    apart = s.apart;
    one_open = λ a b is also. s.one_open a b (omega (arith, ((alike c).1 a).0, is.0), omega (arith, ((alike c).1 a).0, is.1))
        (omega (arith, ((alike c).1 b).0, also.0), omega (arith, ((alike c).1 b).0, also.1));
    erasing = λ b some.
        let h = s.erasing b (omega (arith, ((alike c).1 b).1, some)) in
        (omega (arith, ((alike c).1 b).1, h.0), ((alike c).1 b).0 ∙ h.1, h.2);
  }

  -- no block has had more than this in all
  pub counted_erases : (c : Cells) (rounds most : ℕ) → ErasedAtMost c rounds → ((b : ℕ) → get_or counts b 0 + rounds ≤ most)
      → ErasedAtMost (counted counts c) most
  counted_erases c rounds most few unworn b = by_case (cases_lt b (length c.blocks))
    where
      by_case : (b < length c.blocks) ⊎ (length c.blocks ≤ b) → (block_at (counted counts c) b).erases ≤ most
      by_case (inl below) = omega (arith, ap (λ (t : Block). t.erases) (counted_at c b below), few b, unworn b)
      by_case (inr beyond) = omega (arith, ap (λ (t : Block). t.erases) (past c b beyond), few b, unworn b)

  same_open : (plan : DiePlan) (c : Cells) → open_block plan (counted counts c) ≡ open_block plan c
  same_open plan c = rw (
    position_alike (λ (n : ℕ). is_open plan (record { filled = n; erasing = 0; erases = 0 })) c.blocks (counted counts c).blocks (alike c),
    position_alike (λ (n : ℕ). n == 0) c.blocks (counted counts c).blocks (alike c),
  ) refl

  -- Where a block becomes another one

  set_counted : (c d : Cells) (b : ℕ) (s t : Block) → d.blocks ≡ slice_set c.blocks b t
      → (b < length c.blocks → s ≡ record t { erases = get_or counts b 0 + t.erases }) → (counted counts d).blocks ≡ slice_set (counted counts c).blocks b s
  set_counted c d b s t is made =
      ext_get_or free_block (counted counts d).blocks (slice_set (counted counts c).blocks b s) long (λ k below. by_case k (omega (arith, below, counted_length d)) (cases_eq k b))
    where
      wide : length d.blocks ≡ length c.blocks
      wide = ap (λ (bs : List Block). length bs) is ∙ length-set c.blocks b t

      long : length (counted counts d).blocks ≡ length (slice_set (counted counts c).blocks b s)
      long = counted_length d ∙ wide ∙ sym (counted_length c) ∙ sym (length-set (counted counts c).blocks b s)

      by_case : (k : ℕ) → k < length d.blocks → (k ≡ b) ⊎ (k ≡ b → ⊥)
          → get_or (counted counts d).blocks k free_block ≡ get_or (slice_set (counted counts c).blocks b s) k free_block
      by_case k below (inl own) =
          let there : block_at d k ≡ t = ap (λ (bs : List Block). get_or bs k free_block) is ∙ (ap (λ (n : ℕ). get_or (slice_set c.blocks b t) n free_block) own
          ∙ get_or-set_same c.blocks b t free_block (omega (arith, below, own, wide))) in
          counted_at d k below
          ∙ (ap (λ (x : Block). record x { erases = get_or counts k 0 + x.erases }) there
          ∙ (ap (λ (n : ℕ). record t { erases = get_or counts n 0 + t.erases }) own
          ∙ (sym (made (omega (arith, below, own, wide))) ∙ sym (ap (λ (n : ℕ). get_or (slice_set (counted counts c).blocks b s) n free_block) own
          ∙ get_or-set_same (counted counts c).blocks b s free_block (omega (arith, below, own, wide, counted_length c))))))
      by_case k below (inr other) =
          let there : block_at d k ≡ block_at c k = ap (λ (bs : List Block). get_or bs k free_block) is
          ∙ get_or-set_other c.blocks b k t free_block other in
          counted_at d k below
          ∙ (ap (λ (x : Block). record x { erases = get_or counts k 0 + x.erases }) there
          ∙ (sym (counted_at c k (omega (arith, below, wide)))
          ∙ sym (get_or-set_other (counted counts c).blocks b k s free_block other)))

  programmed : (page : ℕ) (to : Option ℕ) (c : Cells) → counted counts (cells_after_program_in page to c) ≡ cells_after_program_in page to (counted counts c)
  programmed page None c = refl
  programmed page (Some b) c =
      let after = cells_after_program_in page (Some b) c in
      let was = block_at (counted counts c) b in
      let blocks = set_counted c after b (record was { filled = was.filled + 1 }) (record (block_at c b) { filled = (block_at c b).filled + 1 }) refl
      (λ below. ap (λ (t : Block). record t { filled = t.filled + 1 }) (counted_at c b below)) in
      let at : (block_at c b).filled ≡ was.filled = sym ((alike c).1 b).0 in
      λ i. record { blocks = blocks i; places = slice_set c.places page (Some (record { block = b; page = at i })) }

  erased_by : (n : ℕ) (s : Block) (ends : Bool)
      → cond ends (record { filled = 0; erasing = 0; erases = n + s.erases + 1 }) (record s { erasing = s.erasing + 1; erases = n + s.erases })
      ≡ record (cond ends (record { filled = 0; erasing = 0; erases = s.erases + 1 }) (record s { erasing = s.erasing + 1 })) {
        erases = n + (cond ends (record { filled = 0; erasing = 0; erases = s.erases + 1 }) (record s { erasing = s.erasing + 1 })).erases;
      }
  erased_by n s true = let more : n + s.erases + 1 ≡ n + (s.erases + 1) = omega arith in λ i. record { filled = 0; erasing = 0; erases = more i }
  erased_by n s false = refl

  step : (plan : DiePlan) (act : Act) (c : Cells) → counted counts (cells_of plan (act ∷ []) c) ≡ cells_of plan (act ∷ []) (counted counts c)
  step plan (does.Read page bytes) c = refl
  step plan (does.Write page bytes) c =
      programmed page (open_block plan c) c ∙ ap (λ (to : Option ℕ). cells_after_program_in page to (counted counts c)) (sym (same_open plan c))
  step plan (does.Trim page) c = refl
  step plan (does.CopyRead page) c = refl
  step plan (does.CopyProgram page) c =
      programmed page (open_block plan c) c ∙ ap (λ (to : Option ℕ). cells_after_program_in page to (counted counts c)) (sym (same_open plan c))
  step plan (does.Erase b) c =
      let blocks = set_counted c (cells_of plan (does.Erase b ∷ []) c) b (block_after_erase_slot plan (block_at (counted counts c) b))
      (block_after_erase_slot plan (block_at c b)) refl
      (λ below. ap (block_after_erase_slot plan) (counted_at c b below)
      ∙ erased_by (get_or counts b 0) (block_at c b) ((block_at c b).erasing + 1 == plan.shape.erase_slots)) in
      λ i. record { blocks = blocks i; places = c.places }

  pub acts_counted : (plan : DiePlan) (acts : List Act) (c : Cells) → counted counts (cells_of plan acts c) ≡ cells_of plan acts (counted counts c)
  acts_counted plan [] c = refl
  acts_counted plan (act ∷ earlier) c =
      step plan act (cells_of plan earlier c) ∙ ap (λ (d : Cells). cells_of plan (act ∷ []) d) (acts_counted plan earlier c)

  -- Their labels

  label_step : (plan : DiePlan) (pages : List PageData) (act : Act) (c : Cells) (l : Labels)
      → labels_after plan (counted counts c) pages (Some (0, act)) l ≡ labels_after plan c pages (Some (0, act)) l
  label_step plan pages (does.Read page bytes) c l = refl
  label_step plan pages (does.Write page bytes) c l = ap (λ (to : Option ℕ). labels_after_program page bytes to l) (same_open plan c)
  label_step plan pages (does.Trim page) c l = refl
  label_step plan pages (does.CopyRead page) c l = refl
  label_step plan pages (does.CopyProgram page) c l =
      ap (λ (to : Option ℕ). labels_after_program page (get_or pages page blank_page) to l) (same_open plan c)
  label_step plan pages (does.Erase b) c l =
      ap (λ (n : ℕ). labels_after_erase_slot plan (record { filled = 0; erasing = n; erases = 0 }) b l) ((alike c).1 b).1

  pub labels_counted : (plan : DiePlan) (pages : List PageData) (acts : List Act) (c : Cells) (l : Labels)
      → labels_of plan pages acts (counted counts c) l ≡ labels_of plan pages acts c l
  labels_counted plan pages [] c l = refl
  labels_counted plan pages (act ∷ earlier) c l =
      ap (λ (d : Cells). labels_after plan d pages (Some (0, act)) (labels_of plan pages earlier (counted counts c) l)) (sym (acts_counted plan earlier c))
      ∙ (label_step plan pages act (cells_of plan earlier c) (labels_of plan pages earlier (counted counts c) l)
      ∙ ap (labels_after plan (cells_of plan earlier c) pages (Some (0, act))) (labels_counted plan pages earlier c l))

  -- What they may do

  may_one : (plan : DiePlan) (c : Cells) (act : Act) → MayMount plan c act → MayMount plan (counted counts c) act
  may_one plan c (does.CopyProgram page) may = (omega (arith, counted_free plan c, may.0), may.1)
  may_one plan c (does.Erase b) may = (((alike c).1 b).0 ∙ may.0, may.1)
  may_one plan c (does.Read page bytes) may = may
  may_one plan c (does.Write page bytes) may = may
  may_one plan c (does.Trim page) may = may
  may_one plan c (does.CopyRead page) may = may

  pub may_counted : (plan : DiePlan) (c : Cells) (acts : List Act) → AreMountActs plan c acts → AreMountActs plan (counted counts c) acts
  may_counted plan c [] may = may
  may_counted plan c (act ∷ earlier) may = (
    may_counted plan c earlier may.0,
    subst (λ (d : Cells). MayMount plan d act) (acts_counted plan earlier c) (may_one plan (cells_of plan earlier c) act may.1),
  )

  -- The cells with which a mount begins

  abbrev first_block : (pages n : ℕ) (first : Bool) → Block
  first_block pages n first = cond first (record { filled = 0; erasing = 0; erases = n }) (record { filled = pages; erasing = 0; erases = n })

  remounted_by : (pages n : ℕ) (first : Bool) → first_block pages n first
      ≡ record (first_block pages 0 first) { erases = n + (first_block pages 0 first).erases }
  remounted_by pages n true = let same : n ≡ n + 0 = omega arith in λ i. record { filled = 0; erasing = 0; erases = same i }
  remounted_by pages n false = let same : n ≡ n + 0 = omega arith in λ i. record { filled = pages; erasing = 0; erases = same i }

  pub first_counted : (plan : DiePlan) (erased : ℕ) (seen : Shown)
      → counted counts (first_cells plan erased seen) ≡ remounted_cells (part_of plan) all_count erased (λ b. get_or counts b 0) seen
  first_counted plan erased seen = λ i. record { blocks = blocks i; places = (first_cells plan erased seen).places }
    where
      own : Cells
      own = first_cells plan erased seen

      with : List Block
      with = (remounted_cells (part_of plan) all_count erased (λ b. get_or counts b 0) seen).blocks

      long : length own.blocks ≡ plan.shape.blocks + 1
      long = length-map-range_with_len (remounted_block (part_of plan) erased never_erased) 0 (plan.shape.blocks + 1)

      wide : length with ≡ plan.shape.blocks + 1
      wide = length-map-range_with_len (remounted_block (part_of plan) erased (λ b. get_or counts b 0)) 0 (plan.shape.blocks + 1)

      at : (b : ℕ) → b < plan.shape.blocks + 1 → block_at (counted counts own) b ≡ get_or with b free_block
      at b below =
          counted_at own b (omega (arith, below, long))
          ∙ (ap (λ (t : Block). record t { erases = get_or counts b 0 + t.erases })
          (get_or-map-range_with_len (remounted_block (part_of plan) erased never_erased) 0 (plan.shape.blocks + 1) b b free_block below (omega arith))
          ∙ (sym (remounted_by plan.shape.pages (get_or counts b 0) (b == erased))
          ∙ sym (get_or-map-range_with_len (remounted_block (part_of plan) erased (λ a. get_or counts a 0)) 0 (plan.shape.blocks + 1) b b free_block below
          (omega arith))))

      blocks : (counted counts own).blocks ≡ with
      blocks = ext_get_or free_block (counted counts own).blocks with (counted_length own ∙ long ∙ sym wide)
          (λ b below. at b (omega (arith, below, counted_length own, long)))
