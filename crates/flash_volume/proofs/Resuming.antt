-- The tables of a checkpoint belong to the device that it was taken of.
use Rattle.std.proofs.Common.{◌≡◌, ◌≢◌, ℕ, suc, ◌+◌, ◌-◌, ◌*◌, ◌<◌, ◌≤◌, List, [], ◌∷◌, length, get_or, map, Option, Some, None, refl, sym, ap, ◌∙◌, subst, arith, inl, inr}
use Rattle.std.proofs.Common.{sum_by, count_by}
use Rattle.std.specs.Prelude.{replicate, position, IsSome, unwrap_or, slice_set, Result, Ok, Err, IfOk}
use Rattle.std.proofs.lemmas.Bool.{cases_lt, cases_eq}
use Rattle.std.proofs.lemmas.List.{get_or-map, get_or_past, length-map, length-replicate, get_or-replicate, ext_get_or}
use Rattle.std.proofs.Math.ListN.{set}
use Rattle.std.proofs.lemmas.List.{length-set, get_or-set_same, get_or-set_other}
use Rattle.std.proofs.lemmas.List.Sums.{sum_by-cons}
use Rattle.std.proofs.lemmas.List.Folds.{sum_by-replicate}
use Rattle.slot_types.specs.declared.pages.Place.{Place}
use Rattle.slot_types.specs.declared.plans.Shape.{Shape}
use Rattle.slot_types.specs.declared.plans.DiePlan.{DiePlan}
use Rattle.slot_types.specs.Places.{is_in}
use Rattle.slot_types.specs.Shapes.{IsShape}
use Rattle.plan_rules.specs.Accounts.{total_of}
use Rattle.page_ledger.specs.Quiet.{quiet_accounts}
use Rattle.victim_pick.specs.Candidates.{Candidates, count_of, erases_of}
use Rattle.page_map.specs.Placing.{Placing}
use Rattle.die_checkpoint.specs.declared.checkpoint.BlockCounts.{BlockCounts}
use Rattle.die_checkpoint.specs.declared.checkpoint.Checkpoint.{Checkpoint}
use Rattle.die_checkpoint.specs.Counts.{no_counts, counts_at, free_in}
use Rattle.die_checkpoint.specs.Fits.{Fits, in_accounts}
use Rattle.die_checkpoint.proofs.Looking.{in_blocks}
use Rattle.flash_die.specs.Flash.{Block, block_at, free_block}
use Rattle.flash_volume.specs.Cells.{filled_of, fills_of, erases_in, is_open_with, free_cells}
use Rattle.flash_volume.specs.Array.{IsSoundState}
use Rattle.flash_volume.specs.Running.{running_of}
use Rattle.flash_volume.specs.SoundVolume.{IsSoundVolume}
use Rattle.flash_volume.specs.Checkpoints.{counts_of, IsAsLeft, AreClosedBelow}
use Rattle.flash_volume.specs.declared.collection.Collection.{Collection}
use Rattle.flash_volume.proofs.Opening.{seen}
use Rattle.flash_volume.proofs.Fresh.{none_running}
use Rattle.flash_volume.proofs.Pigeon.{few_in}

-- a block as the checkpoint has it
pub counts_are : (blocks : List Block) (said : List BlockCounts) (b : ℕ) → map counts_of blocks ≡ said
    → counts_at said b ≡ counts_of (block_at blocks b)
counts_are blocks said b is = ap (λ (l : List BlockCounts). counts_at l b) (sym is) ∙ read b
  where
    read : (k : ℕ) → counts_at (map counts_of blocks) k ≡ counts_of (block_at blocks k)
    read k =
        elim (cases_lt k (length blocks)) [
          | inl below ↦ get_or-map counts_of blocks k free_block no_counts below
          | inr past ↦ get_or_past (map counts_of blocks) k no_counts (omega (arith, past, length-map blocks counts_of))
              ∙ ap counts_of (sym (get_or_past blocks k free_block past))
        ]

fills_said : (blocks : List Block) → map (λ (b : BlockCounts). b.filled) (map counts_of blocks) ≡ fills_of blocks
fills_said [] = refl
fills_said (b ∷ bs) = ap (λ (l : List ℕ). filled_of b ∷ l) (fills_said bs)

erases_said : (blocks : List Block) → map (λ (b : BlockCounts). b.erases) (map counts_of blocks) ≡ erases_in blocks
erases_said [] = refl
erases_said (b ∷ bs) = ap (λ (l : List ℕ). b.erases ∷ l) (erases_said bs)

-- a count of programmed pages as the checkpoint has it
fill_at : (said : List BlockCounts) (b : ℕ) → get_or (map (λ (c : BlockCounts). c.filled) said) b 0 ≡ (counts_at said b).filled
fill_at said b =
    elim (cases_lt b (length said)) [
      | inl below ↦ get_or-map (λ (c : BlockCounts). c.filled) said b no_counts 0 below
      | inr past ↦ get_or_past (map (λ (c : BlockCounts). c.filled) said) b 0
          (omega (arith, past, length-map said (λ (c : BlockCounts). c.filled)))
          ∙ ap (λ (c : BlockCounts). c.filled) (sym (get_or_past said b no_counts past))
    ]

-- no more pages lie in a block than are programmed in it
pub few_valid : (plan : DiePlan) (c : Checkpoint) (b : ℕ) → Fits plan c → count_by (is_in b) c.places ≤ (counts_at c.blocks b).filled
few_valid plan c b fits = few_in c.places b (counts_at c.blocks b).filled fits.apart
    (λ page place lies here. subst (λ (k : ℕ). place.page < (counts_at c.blocks k).filled) here (fits.all_else.placed page place lies))

pub stands_resumed : (plan : DiePlan) (c : Checkpoint) (shape : Shape) (blocks : List Block) (failures : ℕ) (fills erases : List ℕ)
    (writing : Option ℕ) (candidates : Candidates) → Fits plan c → shape ≡ plan.shape → IsAsLeft c blocks failures
    → fills ≡ map (λ (b : BlockCounts). b.filled) c.blocks → erases ≡ map (λ (b : BlockCounts). b.erases) c.blocks
    → writing ≡ position (is_open_with plan.shape.pages) fills
    → AreClosedBelow plan.shape.pages c.blocks c.places candidates plan.shape.blocks
    → IsSoundState shape failures blocks (record { shape = plan.shape; places = c.places }) fills erases writing candidates
stands_resumed plan c shape blocks failures fills erases writing candidates fits same left fills_are erases_are writing_is closed =
    let all = fits.all_else.blocks in
    let said : (b : ℕ) → counts_at c.blocks b ≡ counts_of (block_at blocks b) = λ b. counts_are blocks c.blocks b left.counts in
    let filled_said : (b : ℕ) → (counts_at c.blocks b).filled ≡ filled_of (block_at blocks b) = λ b.
    ap (λ (x : BlockCounts). x.filled) (said b) in
    let fill : (b : ℕ) → get_or fills b 0 ≡ (counts_at c.blocks b).filled = λ b. ap (λ (l : List ℕ). get_or l b 0) fills_are
    ∙ fill_at c.blocks b in
    let pages_are : shape.pages ≡ plan.shape.pages = ap (λ (s : Shape). s.pages) same in
    let blocks_are : shape.blocks ≡ plan.shape.blocks = ap (λ (s : Shape). s.blocks) same in
    record {
      limits = subst IsShape (sym same) all.plan_is.bound.shape;
      map_shape = sym same;
      well = left.well;
      count = sym (length-map blocks counts_of) ∙ ap length left.counts ∙ all.plan_is.shape.blocks ∙ sym blocks_are;
      fills_are = fills_are ∙ ap (map (λ (b : BlockCounts). b.filled)) (sym left.counts) ∙ fills_said blocks;
      erases_are = erases_are ∙ ap (map (λ (b : BlockCounts). b.erases)) (sym left.counts) ∙ erases_said blocks;
      within = λ b. omega (arith, fill b, all.within b, pages_are);
      one_open = λ i j some_i few_i some_j few_j. all.one_open i j
          (omega (arith, fill i), omega (arith, fill i, pages_are)) (omega (arith, fill j), omega (arith, fill j, pages_are));
      writing_is = ap (λ (n : ℕ). position (is_open_with n) fills) pages_are ∙ sym writing_is;
      quiet = λ b room. left.idle b;
      placed = λ page place lies.
          let programmed = fits.all_else.placed page place lies in
          let inside = in_blocks c.blocks plan.shape.pages place.block place.page all.within programmed in
          record {
            in_range = omega (arith, inside.0, ap length left.counts, length-map blocks counts_of);
            filled = omega (arith, programmed, filled_said place.block);
            quiet = left.idle place.block;
          };
      few_valid = λ b. omega (arith, few_valid plan c b fits, filled_said b);
      candidates_len = closed.counts_len ∙ all.plan_is.shape.blocks ∙ sym blocks_are;
      worn_len = closed.erases_len ∙ all.plan_is.shape.blocks ∙ sym blocks_are;
      candidates_pages = closed.pages_are ∙ sym pages_are;
      counted = λ b n is. let o = closed.counted b n is in (sym (filled_said b) ∙ o.0 ∙ sym pages_are, o.1);
      worn = λ b n is. closed.worn b n is ∙ ap (λ (x : BlockCounts). x.erases) (said b);
    }

free_said : (pages : ℕ) (blocks : List Block) → sum_by (free_in pages) (map counts_of blocks) ≡ free_cells pages blocks
free_said pages [] = refl
free_said pages (b ∷ bs) = sum_by-cons (free_in pages) (counts_of b) (map counts_of bs)
    ∙ ap (λ (n : ℕ). (pages - filled_of b) + n) (free_said pages bs)
    ∙ sym (sum_by-cons (λ (c : Block). pages - filled_of c) b bs)

total_said : (plan : DiePlan) (c : Checkpoint) → total_of (quiet_accounts plan c.spare c.balances) ≡ in_accounts plan c
total_said plan c = omega (
  arith,
  sum_by-replicate (λ (n : ℕ). n) (length plan.caps) 0,
  sum_by-replicate (λ (n : ℕ). n) (length plan.caps) (plan.shape.pages - plan.alpha),
)

pub sound_resumed : (plan : DiePlan) (c : Checkpoint) (shape : Shape) (blocks : List Block) (failures : ℕ) (placing : Placing) (fills erases : List ℕ)
    (writing : Option ℕ) (candidates : Candidates) → Fits plan c → shape ≡ plan.shape → IsAsLeft c blocks failures
    → placing ≡ record { shape = plan.shape; places = c.places }
    → IsSoundState shape failures blocks placing fills erases writing candidates
    → AreClosedBelow plan.shape.pages c.blocks c.places candidates plan.shape.blocks
    → IsSoundVolume (quiet_accounts plan c.spare c.balances) shape failures blocks placing candidates (replicate (length plan.caps) None)
sound_resumed plan c shape blocks failures placing fills erases writing candidates fits same left placing_is stands closed =
    let all = fits.all_else.blocks in
    let pages_are : shape.pages ≡ plan.shape.pages = ap (λ (s : Shape). s.pages) same in
    let none : (task : ℕ) → running_of (replicate (length plan.caps) None) task ≡ None = none_running (length plan.caps) in
    let nobody : (task : ℕ) (d : Collection) → running_of (replicate (length plan.caps) None) task ≡ Some d
    → ⊥ = λ task d is. let nothing : running_of (replicate (length plan.caps) None) task ≡ None = none task in cc in
    record {
      stands = seen stands;
      bound = all.plan_is.bound;
      shape_is = same;
      map_len = ap (λ (p : Placing). length p.places) placing_is ∙ all.plan_is.shape.pages;
      total = ap (λ (n : ℕ). free_cells n blocks) pages_are ∙ sym (free_said plan.shape.pages blocks)
          ∙ ap (sum_by (free_in plan.shape.pages)) left.counts ∙ sym fits.all_else.sums ∙ sym (total_said plan c);
      runs = record {
        len = length-replicate (length plan.caps) None;
        each = λ task d is. absurd (nobody task d is);
        apart = λ task other d e is also victim. absurd (nobody task d is);
        idle = λ task below is. get_or-replicate (length plan.caps) task (plan.shape.pages - plan.alpha) 0 below
            ∙ ap (λ (n : ℕ). n - plan.alpha) (sym pages_are);
      };
      picks = record {
        taken = λ task d is. absurd (nobody task d is);
        closed = λ b below full none_counted.
            let said = counts_are blocks c.blocks b left.counts in
            let some : IsSome (count_of candidates.counts b) = closed.closed b
            (omega (arith, below, ap length left.counts, length-map blocks counts_of, all.plan_is.shape.blocks))
            (ap (λ (x : BlockCounts). x.filled) said ∙ full ∙ pages_are) in
            absurd (some_none (count_of candidates.counts b) some none_counted);
      };
    }
  where
    some_none : (o : Option ℕ) → IsSome o → o ≡ None → ⊥
    some_none (Some n) h is = cc
    some_none None h is = absurd cc

-- One more block

-- a block that isn't closed is no candidate
pub next_open : (pages block : ℕ) (blocks : List BlockCounts) (places : List (Option Place)) (v : Candidates)
    → AreClosedBelow pages blocks places v block → (counts_at blocks block).filled ≢ pages
    → AreClosedBelow pages blocks places v (block + 1)
next_open pages block blocks places v so differs = record {
  pages_are = so.pages_are;
  counts_len = so.counts_len;
  erases_len = so.erases_len;
  counted = so.counted;
  worn = so.worn;
  closed = λ b below full. elim (cases_eq b block) [
    | inl same ↦ absurd (differs (ap (λ (k : ℕ). (counts_at blocks k).filled) (sym same) ∙ full))
    | inr other ↦ so.closed b (omega arith) full
  ];
  others = λ b n is. omega (arith, so.others b n is);
}

-- a closed one becomes one
pub next_closed : (pages block : ℕ) (blocks : List BlockCounts) (places : List (Option Place)) (v : Candidates)
    → AreClosedBelow pages blocks places v block → block < length blocks → (counts_at blocks block).filled ≡ pages
    → AreClosedBelow pages blocks places (record v {
      counts = slice_set v.counts block (Some (count_by (is_in block) places));
      erases = slice_set v.erases block (Some (counts_at blocks block).erases);
    }) (block + 1)
next_closed pages block blocks places v so inside full =
    let valid = count_by (is_in block) places in
    let worn_by = (counts_at blocks block).erases in
    let fits : block < length v.counts = omega (arith, so.counts_len) in
    let fits_too : block < length v.erases = omega (arith, so.erases_len) in
    record {
      pages_are = so.pages_are;
      counts_len = length-set v.counts block (Some valid) ∙ so.counts_len;
      erases_len = length-set v.erases block (Some worn_by) ∙ so.erases_len;
      counted = λ b n is. elim (cases_eq b block) [
        | inl same ↦ (let here : count_of (set v.counts block (Some valid)) b ≡ Some valid = ap (count_of (set v.counts block (Some valid))) same
            ∙ get_or-set_same v.counts block (Some valid) None fits in
            let n_is : n ≡ valid = cc in
            (ap (λ (k : ℕ). (counts_at blocks k).filled) same ∙ full, n_is ∙ ap (λ (k : ℕ). count_by (is_in k) places) (sym same)))
        | inr other ↦ so.counted b n (sym (get_or-set_other v.counts block b (Some valid) None other) ∙ is)
      ];
      worn = λ b n is. elim (cases_eq b block) [
        | inl same ↦ ap (erases_of (set v.erases block (Some worn_by))) same
            ∙ ap (λ (o : Option ℕ). unwrap_or o 0) (get_or-set_same v.erases block (Some worn_by) None fits_too)
            ∙ ap (λ (k : ℕ). (counts_at blocks k).erases) (sym same)
        | inr other ↦ ap (λ (o : Option ℕ). unwrap_or o 0) (get_or-set_other v.erases block b (Some worn_by) None other)
            ∙ so.worn b n (sym (get_or-set_other v.counts block b (Some valid) None other) ∙ is)
      ];
      closed = λ b below full_b. elim (cases_eq b block) [
        | inl same ↦ rw same (rw (get_or-set_same v.counts block (Some valid) None fits) refl)
        | inr other ↦ rw (get_or-set_other v.counts block b (Some valid) None other) (so.closed b (omega arith) full_b)
      ];
      others = λ b n is. elim (cases_eq b block) [
        | inl same ↦ omega arith
        | inr other ↦ (let before = so.others b n (sym (get_or-set_other v.counts block b (Some valid) None other) ∙ is) in omega arith)
      ];
    }

-- a block that is still to come is no candidate yet
pub not_yet : (pages block : ℕ) (blocks : List BlockCounts) (places : List (Option Place)) (v : Candidates)
    → AreClosedBelow pages blocks places v block → count_of v.counts block ≡ None
not_yet pages block blocks places v so = by_count (count_of v.counts block) refl
  where
    by_count : (o : Option ℕ) → count_of v.counts block ≡ o → count_of v.counts block ≡ None
    by_count None is = is
    by_count (Some n) is = absurd (omega (arith, so.others block n is))

-- The counts of a device's blocks

pub counts_made : (blocks : List Block) (fills erases : List ℕ) (made : List BlockCounts) → fills ≡ fills_of blocks → erases ≡ erases_in blocks
    → length made ≡ length fills
    → ((k : ℕ) → k < length fills → counts_at made k ≡ record { filled = get_or fills k 0; erases = get_or erases k 0 })
    → made ≡ map counts_of blocks
counts_made blocks fills erases made fills_are erases_are len each =
    let count : length made ≡ length blocks = len ∙ ap length fills_are ∙ length-map blocks filled_of in
    ext_get_or no_counts made (map counts_of blocks) (count ∙ sym (length-map blocks counts_of))
    (λ k inside.
    let below : k < length blocks = omega (arith, inside, count) in
    let filled : get_or fills k 0 ≡ filled_of (block_at blocks k) = ap (λ (l : List ℕ). get_or l k 0) fills_are
    ∙ get_or-map filled_of blocks k free_block 0 below in
    let worn : get_or erases k 0 ≡ (block_at blocks k).erases = ap (λ (l : List ℕ). get_or l k 0) erases_are
    ∙ get_or-map (λ (b : Block). b.erases) blocks k free_block 0 below in
    let P : ℕ → ℕ → BlockCounts = λ f e. record { filled = f; erases = e } in
    each k (omega (arith, inside, len)) ∙ ap (λ (f : ℕ). P f (get_or erases k 0)) filled
    ∙ ap (λ (e : ℕ). P (filled_of (block_at blocks k)) e) worn ∙ sym (get_or-map counts_of blocks k free_block no_counts below))

-- the accounts have no more pages than the die
pub few_free : (pages : ℕ) (said : List BlockCounts) → sum_by (free_in pages) said ≤ length said * pages
few_free pages [] = omega arith
few_free pages (b ∷ bs) = omega (arith, sum_by-cons (free_in pages) b bs, few_free pages bs, one_more (length bs) pages)
  where
    one_more : (n k : ℕ) → suc n * k ≡ n * k + k
    one_more n k = let e : suc n ≡ n + 1 = omega arith in ap (λ (m : ℕ). m * k) e ∙ grind arith

pub if_ok_both : {A E : Type 0} (r : Result A E) (P Q R : A → Type 0) → IfOk r P → IfOk r Q → ((x : A) → P x → Q x → R x) → IfOk r R
if_ok_both (Ok x) P Q R h k f = f x h k
if_ok_both (Err e) P Q R h k f = tt

-- a checkpoint's accounts have no more pages than the die
pub room_resumed : (plan : DiePlan) (c : Checkpoint) → Fits plan c → in_accounts plan c ≤ plan.shape.blocks * plan.shape.pages
room_resumed plan c fits = omega (
  arith,
  fits.all_else.sums,
  few_free plan.shape.pages c.blocks,
  ap (λ (n : ℕ). n * plan.shape.pages) fits.all_else.blocks.plan_is.shape.blocks,
)
