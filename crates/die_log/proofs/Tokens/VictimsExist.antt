-- A collection that begins while few pages are spare finds its block.
use Rattle.std.proofs.Common.{◌≡◌, ℕ, ◌+◌, ◌<◌, ◌≤◌, ◌==◌, ◌&&◌, nat_lt, not, Bool, true, false, List, [], length, map, sum_by, count_by}
use Rattle.std.proofs.Common.{get_or, Option, Some, None, refl, ap, sym, ◌∙◌, inl, inr, ◌⊎◌, arith, slice_get, position}
use Rattle.std.specs.List.{list_any, range_with_len}
use Rattle.std.proofs.lemmas.Bool.{true≢false, false_from_ne_true, cases_eq, cases_lt, cases_Bool, and_parts, and_from, ltb-true, lt-ltb}
use Rattle.std.proofs.lemmas.Bool.{eq-eqb, not_from_false}
use Rattle.std.proofs.lemmas.Option.{same_Some, slice_get-get_or}
use Rattle.std.proofs.lemmas.List.FromFn.{length-map-range_with_len, get_or-map-range_with_len}
use Rattle.std.proofs.lemmas.List.Quantifiers.{position-Some}
use Rattle.slot_types.specs.declared.plans.DiePlan.{DiePlan}
use Rattle.slot_types.specs.declared.acts.Act.{Act}
use Rattle.plan_rules.specs.Bound.{fmax_of}
use Rattle.plan_rules.specs.Blocks.{is_of}
use Rattle.plan_rules.proofs.Spread.{choice}
use Rattle.die_log.specs.Model.Log.{Log, Job, jobs, job_at, acts, is_waived, work}
use Rattle.die_log.specs.Model.Flash.{Block, Cells, cells, block_at, free_block, free, free_in, is_closed, is_open, valid}
use Rattle.die_log.specs.Model.Work.{is_done, victim_of}
use Rattle.die_log.specs.Invariants.TrueAccounts.{reserve_full}
use Rattle.die_log.specs.Model.Answers.{is_running, is_block, is_collected, candidates, victim}
use Rattle.die_log.specs.Invariants.SoundCells.{AreSoundCells, IsOpen}
use Rattle.die_log.specs.Invariants.TrueAccounts.{is_pending, AreTrueAccounts}
use Rattle.die_log.proofs.Tokens.Sums.{le_at, one_if}
use Rattle.die_log.proofs.Tokens.Changes.{one_less}
use Rattle.die_log.proofs.Cells.Steps.{no_position}
use Rattle.die_log.proofs.Cells.FreePages.{free_idle, free_erasing}
use Rattle.die_log.proofs.Tokens.Searches.{first_with, finds_it, is_found, any_found, any_from, keeps_passing, least_le, range_at, sum_places}
use Rattle.die_log.specs.Model.Start.{Start}
use Rattle.die_log.specs.Model.Opening.{IsOpening}

-- Running collections

-- a collection of the task runs
abbrev runs : DiePlan → Log → ℕ → Job → Bool
runs plan past task j = (j.task == task) && is_running plan past j

no_work : (l : List Act) → l ≡ [] → 0 < length l → ⊥
no_work l e h = omega (arith, h, ap (λ (x : List Act). length x) e)

-- what runs is open
running_pending : (start : Start) (past : Log) (j : Job) → AreTrueAccounts start past → is_running start.plan past j ≡ true
    → is_pending start.plan (λ n. acts n past) (is_waived past) j ≡ true
running_pending start past j h is =
    let parts = and_parts (j.collects && nat_lt 0 (work j.number past)) (not (is_done start.plan past j)) is in
    let begun = and_parts j.collects (nat_lt 0 (work j.number past)) parts.0 in
    let there : 0 < work j.number past = ltb-true 0 (work j.number past) begun.1 in
    let stays : is_waived past j.number ≡ false = false_from_ne_true (is_waived past j.number)
    (λ e. no_work (acts j.number past) (h.idle_waived j.number e) there) in
    and_from (j.collects && not (is_done start.plan past j)) (not (is_waived past j.number))
    (and_from j.collects (not (is_done start.plan past j)) begun.0 parts.1) (not_from_false (is_waived past j.number) stays)

few_run : (start : Start) (past : Log) (task : ℕ) → AreTrueAccounts start past → count_by (runs start.plan past task) (jobs past) ≤ 1
few_run start past task h =
    omega (
      arith,
      h.one_each task,
      le_at (λ i. one_if (runs start.plan past task i)) (λ i. one_if ((i.task == task) && is_pending start.plan (λ n. acts n past) (is_waived past) i))
          (jobs past)
          (λ k i e. one_less (i.task == task) (is_pending start.plan (λ n. acts n past) (is_waived past) i) (is_running start.plan past i)
          (running_pending start past i h)),
    )

abbrev block_in : Start → Log → Option Job → Option ℕ
block_in start past None = None
block_in start past (Some j) = victim_of start j.number past

-- the block that the running collection of a task collects
abbrev pub victim_by : Start → Log → ℕ → Option ℕ
victim_by start past task = block_in start past (first_with (runs start.plan past task) (jobs past))

abbrev pub victims : Start → Log → List (Option ℕ)
victims start past = map (victim_by start past) (range_with_len 0 (length start.plan.caps))

victim_at : (start : Start) (past : Log) (task : ℕ) → task < length start.plan.caps → get_or (victims start past) task None
    ≡ victim_by start past task
victim_at start past task h = get_or-map-range_with_len (victim_by start past) 0 (length start.plan.caps) task task None h (omega arith)

-- each running collection is in the list
victim_listed : (start : Start) (past : Log) (k : ℕ) (j : Job) → AreTrueAccounts start past → slice_get (jobs past) k ≡ Some j
    → is_running start.plan past j ≡ true → victim_by start past j.task ≡ victim_of start j.number past
victim_listed start past k j h e is =
    ap (block_in start past) (finds_it (runs start.plan past j.task) (jobs past) k j (few_run start past j.task h) e
    (and_from (j.task == j.task) (is_running start.plan past j) (eq-eqb j.task j.task refl) is))

in_victims : (start : Start) (past : Log) (task : ℕ) → task < length start.plan.caps → slice_get (victims start past) task
    ≡ Some (victim_by start past task)
in_victims start past task h =
    slice_get-get_or (victims start past) task None (omega (arith, h, length-map-range_with_len (victim_by start past) 0 (length start.plan.caps)))
    ∙ ap (λ (v : Option ℕ). Some v) (victim_at start past task h)

is_of_block : (b : ℕ) (o : Option ℕ) → is_block b o ≡ true → is_of b o ≡ true
is_of_block b None e = e
is_of_block b (Some v) e = e

-- a block that is nobody's in the list is collected by nobody
free_of : (start : Start) (past : Log) (b : ℕ) → AreTrueAccounts start past
    → ((j : Job) (k : ℕ) → slice_get (jobs past) k ≡ Some j → j.task < length start.plan.caps) → list_any (is_of b) (victims start past) ≡ false
    → is_collected start past b ≡ false
free_of start past b h within none = false_from_ne_true (is_collected start past b) contradicts
  where
    contradicts : is_collected start past b ≡ true → ⊥
    contradicts e =
        let f = any_found (λ j. is_running start.plan past j && is_block b (victim_of start j.number past)) (jobs past) e in
        let both = and_parts (is_running start.plan past f.0) (is_block b (victim_of start f.0.number past)) f.1.passes in
        let task_in = within f.0 f.1.place f.1.stands in
        let there : is_of b (victim_by start past f.0.task) ≡ true = ap (is_of b) (victim_listed start past f.1.place f.0 h f.1.stands both.0)
        ∙ is_of_block b (victim_of start f.0.number past) both.1 in
        true≢false (sym (any_from (is_of b) (victims start past) f.0.task (victim_by start past f.0.task)
        (in_victims start past f.0.task task_in) there) ∙ none)

-- a collection that is open and has no act leaves its task without a running one
none_runs : (start : Start) (past : Log) (j : Job) (o : Option Job) → AreTrueAccounts start past → job_at past j.number ≡ Some j
    → is_pending start.plan (λ n. acts n past) (is_waived past) j ≡ true → work j.number past ≡ 0
    → first_with (runs start.plan past j.task) (jobs past) ≡ o → block_in start past o ≡ None
none_runs start past j None h known is fresh e = refl
none_runs start past j (Some i) h known is fresh e =
    let f = is_found (runs start.plan past j.task) (jobs past) i e in
    let test : Job → Bool = λ x. (x.task == j.task) && is_pending start.plan (λ n. acts n past) (is_waived past) x in
    let both = and_parts (i.task == j.task) (is_running start.plan past i) f.passes in
    let first_i : first_with test (jobs past) ≡ Some i = finds_it test (jobs past) f.place i (h.one_each j.task) f.stands
    (and_from (i.task == j.task) (is_pending start.plan (λ n. acts n past) (is_waived past) i) both.0 (running_pending start past i h both.1))
    in
    let first_j : first_with test (jobs past) ≡ Some j = finds_it test (jobs past) j.number j (h.one_each j.task) known
    (and_from (j.task == j.task) (is_pending start.plan (λ n. acts n past) (is_waived past) j) (eq-eqb j.task j.task refl) is) in
    let same : i ≡ j = same_Some i j (sym first_i ∙ first_j) in
    let parts = and_parts (i.collects && nat_lt 0 (work i.number past)) (not (is_done start.plan past i)) both.1 in
    let begun : 0 < work i.number past = ltb-true 0 (work i.number past) (and_parts i.collects (nat_lt 0 (work i.number past)) parts.0).1 in
    absurd (omega (arith, begun, fresh, ap (λ (x : Job). work x.number past) same))

-- Blocks

abbrev free_at : DiePlan → Cells → ℕ → ℕ
free_at plan c b = free_in plan (block_at c b)

free_sum : (plan : DiePlan) (c : Cells) → length c.blocks ≡ plan.shape.blocks → sum_by (free_at plan c) (range_with_len 0 plan.shape.blocks)
    ≡ sum_by (free_in plan) c.blocks + 0
free_sum plan c e = sum_places (free_in plan) (free_at plan c) free_block 0 plan.shape.blocks c.blocks e
    (λ i. ap (free_at plan c) (omega arith))

-- the block that is open, if there is one
abbrev opened : DiePlan → Cells → Option ℕ
opened plan c = position (is_open plan) c.blocks

opened_of : (plan : DiePlan) (c : Cells) (b : ℕ) → is_open plan (block_at c b) ≡ true → IsOpen plan c b
opened_of plan c b h =
    let parts = and_parts (nat_lt 0 (block_at c b).filled) (nat_lt (block_at c b).filled plan.shape.pages) h in
    (ltb-true 0 (block_at c b).filled parts.0, ltb-true (block_at c b).filled plan.shape.pages parts.1)

writing_is : (plan : DiePlan) (c : Cells) (b : ℕ) (o : Option ℕ) → AreSoundCells plan c → b < length c.blocks → is_open plan (block_at c b)
    ≡ true → opened plan c ≡ o → o ≡ Some b
writing_is plan c b None are h is e =
    absurd (true≢false (sym is ∙ no_position (is_open plan) c.blocks e b free_block h))
writing_is plan c b (Some d) are h is e =
    let p = position-Some (is_open plan) c.blocks d free_block e in
    ap (λ (n : ℕ). Some n) (are.one_open d b (opened_of plan c d p.1) (opened_of plan c b is))

-- a block that isn't open has no page free, or all
other_free : (plan : DiePlan) (s : Block) → is_open plan s ≡ false → (free_in plan s ≡ 0) ⊎ (plan.shape.pages ≤ free_in plan s)
other_free plan s e = elim (cases_eq s.erasing 0) [
  | inl idle ↦ elim (cases_lt 0 s.filled) [
    | inl some ↦ elim (cases_lt s.filled plan.shape.pages) [
      | inl few ↦ absurd (true≢false (sym (and_from (nat_lt 0 s.filled) (nat_lt s.filled plan.shape.pages) (lt-ltb 0 s.filled some)
          (lt-ltb s.filled plan.shape.pages few)) ∙ e))
      | inr closed ↦ inl (omega (arith, closed, free_idle plan s idle))
    ]
    | inr none ↦ inr (omega (arith, none, free_idle plan s idle))
  ]
  | inr busy ↦ inl (free_erasing plan s busy)
]

one_open : (plan : DiePlan) (c : Cells) (b : ℕ) → AreSoundCells plan c → b < plan.shape.blocks → (opened plan c ≡ Some b)
    ⊎ ((free_at plan c b ≡ 0) ⊎ (plan.shape.pages ≤ free_at plan c b))
one_open plan c b are h = elim (cases_Bool (is_open plan (block_at c b))) [
  | inl is ↦ inl (writing_is plan c b (opened plan c) are (omega (arith, h, are.blocks)) is refl)
  | inr no_part ↦ inr (other_free plan (block_at c b) no_part)
]

closed_if : (plan : DiePlan) (c : Cells) (b : ℕ) → AreSoundCells plan c → b < plan.shape.blocks → free_at plan c b ≡ 0
    → is_closed plan (block_at c b) ≡ true
closed_if plan c b are h e =
    let s : Block = block_at c b in
    eq-eqb s.filled plan.shape.pages (elim (cases_lt 0 s.erasing) [
      | inl busy ↦ (are.erasing b busy).1
      | inr idle ↦ omega (arith, e, are.within b, free_idle plan s (omega (arith, idle)))
    ])

-- a closed block that nobody collects, with few placed pages, which a collection takes
pub record IsTakable (start : Start) (past : Log) (b : ℕ) : Type 0 where
  pub in_range : b < start.plan.shape.blocks
  pub closed : is_closed start.plan (block_at (cells start past) b) ≡ true
  pub alone : is_collected start past b ≡ false
  pub few_valid : valid (cells start past) b ≤ reserve_full start.plan

-- with few cells free, a collection that begins finds a block that it may take
pub takable : (start : Start) (past : Log) (j : Job) → IsOpening start → AreTrueAccounts start past → AreSoundCells start.plan (cells start past)
    → job_at past j.number ≡ Some j → is_pending start.plan (λ n. acts n past) (is_waived past) j ≡ true → work j.number past ≡ 0 → free start past
    ≤ fmax_of start.plan → ((i : Job) (k : ℕ) → slice_get (jobs past) k ≡ Some i → i.task < length start.plan.caps)
    → (b : ℕ) × IsTakable start past b
takable start past j bound h are known is fresh few within =
    let c : Cells = cells start past in
    let inside : j.task < length start.plan.caps = within j j.number known in
    let found = choice start.plan (free_at start.plan c) c.places (victims start past) (opened start.plan c) bound.bound (record {
      places_len = are.places;
      victims_len = length-map-range_with_len (victim_by start past) 0 (length start.plan.caps);
      none_yet = (
        j.task,
        omega (arith, inside, length-map-range_with_len (victim_by start past) 0 (length start.plan.caps)),
        victim_at start past
            j.task inside ∙ none_runs start past j (first_with (runs start.plan past j.task) (jobs past)) h known is fresh refl,
      );
      one_open = λ b below. one_open start.plan c b are below;
      few_free = omega (arith, few, free_sum start.plan c are.blocks);
    }) in (
      found.0,
      record {
        in_range = found.1.in_range;
        closed = closed_if start.plan c found.0 are found.1.in_range found.1.closed;
        alone = free_of start past found.0 h within found.1.alone;
        few_valid = found.1.few_valid;
      },
    )

-- and the victim rule takes one with as few placed pages, or fewer
pub victim_found : (start : Start) (past : Log) (b : ℕ) → IsTakable start past b → (v : ℕ) × (victim start past ≡ Some v)
    × (valid (cells start past) v ≤ reserve_full start.plan)
victim_found start past b t =
    let c : Cells = cells start past in
    let test : ℕ → Bool = λ d. is_closed start.plan (block_at c d) && not (is_collected start past d) in
    let s = keeps_passing test (range_with_len 0 start.plan.shape.blocks) b b (range_at 0 start.plan.shape.blocks b t.in_range
    ∙ ap (λ (n : ℕ). Some n) (omega arith)) (and_from (is_closed start.plan (block_at c b)) (not (is_collected start past b)) t.closed
    (not_from_false (is_collected start past b) t.alone)) in
    let v = least_le (valid c) (λ (d : ℕ). (block_at c d).erases) (candidates start past) s.place b s.is in
    (v.0, v.1, omega (arith, v.2, t.few_valid))
