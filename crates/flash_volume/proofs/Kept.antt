-- What each call keeps of a volume.
use Rattle.std.proofs.Common.{◌≡◌, ◌≢◌, ℕ, ◌+◌, ◌-◌, ◌*◌, ◌<◌, ◌≤◌, List, [], ◌∷◌, length, get_or, set, sum, sum_by, Option, Some, None}
use Rattle.std.proofs.Common.{IsSome, refl, sym, ap, ◌∙◌, subst, arith, inl, inr}
use Rattle.std.specs.Prelude.{is_some}
use Rattle.std.proofs.lemmas.Bool.{cases_lt}
use Rattle.std.proofs.lemmas.List.{length-set, get_or_past, get_or-set_same, get_or-set_other}
use Rattle.std.proofs.lemmas.List.Sums.{sum_by-set, sum_by-cons, get_or-le-sum_by}
use Rattle.slot_types.specs.declared.pages.Place.{Place}
use Rattle.slot_types.specs.declared.plans.Shape.{Shape}
use Rattle.slot_types.specs.declared.pages.PageData.{PageData}
use Rattle.slot_types.specs.Places.{place_of}
use Rattle.plan_rules.specs.Bound.{MeetsBound}
use Rattle.plan_rules.specs.Accounts.{Accounts, total_of}
use Rattle.victim_pick.specs.Candidates.{Candidates, count_of}
use Rattle.page_map.specs.Placing.{Placing, placing_with}
use Rattle.page_map.proofs.Owners.{within}
use Rattle.flash_die.specs.Flash.{Block, free_block, block_at, blocks_after_program}
use Rattle.flash_volume.specs.declared.collection.Collection.{Collection}
use Rattle.flash_volume.specs.declared.collection.Copied.{Copied}
use Rattle.flash_volume.specs.Cells.{filled_of, free_in, free_cells}
use Rattle.flash_volume.specs.Running.{running_of, with_buffer, copied_of}
use Rattle.flash_volume.specs.SoundVolume.{IsSoundVolume}
use Rattle.flash_volume.proofs.Opening.{Sound, Fits}
use Rattle.flash_volume.proofs.Running.{run_written, run_copied, run_read, run_going, run_emptied, run_still}
use Rattle.flash_volume.proofs.Collections.{runs_kept, runs_changed, runs_ended, picks_written, picks_changed, picks_erased, picks_ended}

-- the accounts moved, but no reserve
pub sound_still : {accounts : Accounts} (after : Accounts) {shape : Shape} {failures : ℕ} {blocks : List Block} {placing : Placing}
    {candidates : Candidates} {running : List (Option Collection)} → IsSoundVolume accounts shape failures blocks placing candidates running
    → after.plan ≡ accounts.plan → after.reserves ≡ accounts.reserves → total_of after ≡ total_of accounts
    → IsSoundVolume after shape failures blocks placing candidates running
sound_still after {blocks = blocks} {placing = placing} sound plan reserves total = record {
  stands = sound.stands;
  bound = subst MeetsBound (sym plan) sound.bound;
  shape_is = sound.shape_is ∙ ap (λ p. p.shape) (sym plan);
  map_len = sound.map_len ∙ ap (λ p. p.logical) (sym plan);
  total = sound.total ∙ sym total;
  runs = runs_kept after blocks placing.places sound.runs plan reserves (λ t c run same. run_still after run same);
  picks = sound.picks;
}

-- what a write of the array tells of it
pub record IsWritten (shape : Shape) (blocks : List Block) (placing : Placing) (candidates : Candidates) (page : ℕ) (bytes : PageData)
    (place : Place) (shape_then : Shape) (failures_then : ℕ) (blocks_then : List Block) (placing_then : Placing)
    (candidates_then : Candidates) : Type 0 where
  pub stands : Sound shape_then failures_then blocks_then placing_then candidates_then
  pub shape_is : shape_then ≡ shape
  pub cells : blocks_then ≡ blocks_after_program blocks place.block bytes
  pub placing_is : placing_then ≡ placing_with placing page place
  pub free : free_cells shape_then.pages blocks_then + 1 ≡ free_cells shape.pages blocks
  pub others : (block : ℕ) → block ≢ place.block → is_some (count_of candidates_then.counts block)
      ≡ is_some (count_of candidates.counts block)
  pub closes : filled_of (block_at blocks_then place.block) ≡ shape.pages → IsSome (count_of candidates_then.counts place.block)

-- after a write
pub sound_written : {accounts : Accounts} (after : Accounts) {shape : Shape} {failures : ℕ} {blocks : List Block} {placing : Placing}
    {candidates : Candidates} {running : List (Option Collection)} {page : ℕ} {bytes : PageData} {place : Place} {shape_then : Shape}
    {failures_then : ℕ} {blocks_then : List Block} {placing_then : Placing} {candidates_then : Candidates}
    → IsSoundVolume accounts shape failures blocks placing candidates running → Fits shape blocks place → page < length placing.places
    → IsWritten shape blocks placing candidates page bytes place shape_then failures_then blocks_then placing_then candidates_then
    → after.plan ≡ accounts.plan → after.reserves ≡ accounts.reserves → total_of after + 1 ≡ total_of accounts
    → IsSoundVolume after shape_then failures_then blocks_then placing_then candidates_then running
sound_written after {shape} {failures} {blocks} {placing} {candidates} {running} {page} {bytes} {place} {shape_then} {failures_then}
    {blocks_then} {placing_then} {candidates_then} sound fit below is plan reserves total = record {
      stands = is.stands;
      bound = subst MeetsBound (sym plan) sound.bound;
      shape_is = is.shape_is ∙ sound.shape_is ∙ ap (λ p. p.shape) (sym plan);
      map_len = ap (λ (m : Placing). length m.places) is.placing_is ∙ length-set placing.places page (Some place) ∙ sound.map_len
          ∙ ap (λ p. p.logical) (sym plan);
      total = omega (arith, is.free, sound.total, total);
      runs = rw (is.shape_is, is.cells, is.placing_is) (runs_kept after (blocks_after_program blocks place.block bytes)
          (set placing.places page (Some place)) sound.runs plan reserves
          (λ t c run same. run_written after page bytes run fit sound.stands.placed below same));
      picks = rw (is.shape_is, is.cells) (picks_written bytes candidates_then.counts sound.runs sound.picks fit is.others
          (rw is.cells at is.closes));
    }

-- after a copy was programmed
pub sound_copied : {accounts : Accounts} (after : Accounts) {shape : Shape} {failures : ℕ} {blocks : List Block} {placing : Placing}
    {candidates : Candidates} {running : List (Option Collection)} {place : Place} {shape_then : Shape} {failures_then : ℕ}
    {blocks_then : List Block} {placing_then : Placing} {candidates_then : Candidates} (task : ℕ) (c : Collection) (k : Copied)
    → IsSoundVolume accounts shape failures blocks placing candidates running → Fits shape blocks place → task < length accounts.plan.caps
    → running_of running task ≡ Some c → c.buffer ≡ Some k → place_of placing.places k.page ≡ Some k.source
    → IsWritten shape blocks placing candidates k.page k.bytes place shape_then failures_then blocks_then placing_then candidates_then
    → after.plan ≡ accounts.plan → after.reserves ≡ set accounts.reserves task (get_or accounts.reserves task 0 - 1) → task
    < length accounts.reserves → total_of after + 1 ≡ total_of accounts
    → IsSoundVolume after shape_then failures_then blocks_then placing_then candidates_then (set running task (Some (with_buffer c None)))
sound_copied {accounts} after {shape} {failures} {blocks} {placing} {candidates} {running} {place} {shape_then} {failures_then}
    {blocks_then} {placing_then} {candidates_then} task c k sound fit in_caps runs holds lies is plan reserves in_reserves total =
    let below : k.page < length placing.places = within placing.places k.page k.source lies in
    let new : Collection = with_buffer c None in
    let in_running : task < length running = omega (arith, sound.runs.len, in_caps) in
    let mine : get_or after.reserves task 0 ≡ get_or accounts.reserves task 0 - 1 = ap (λ (l : List ℕ). get_or l task 0) reserves
    ∙ get_or-set_same accounts.reserves task (get_or accounts.reserves task 0 - 1) 0 in_reserves in
    let theirs : (u : ℕ) → u ≢ task → get_or after.reserves u 0
    ≡ get_or accounts.reserves u 0 = λ u other. ap (λ (l : List ℕ). get_or l u 0) reserves
    ∙ get_or-set_other accounts.reserves task u (get_or accounts.reserves task 0 - 1) 0 other in
    record {
      stands = is.stands;
      bound = subst MeetsBound (sym plan) sound.bound;
      shape_is = is.shape_is ∙ sound.shape_is ∙ ap (λ p. p.shape) (sym plan);
      map_len = ap (λ (m : Placing). length m.places) is.placing_is ∙ length-set placing.places k.page (Some place) ∙ sound.map_len
          ∙ ap (λ p. p.logical) (sym plan);
      total = omega (arith, is.free, sound.total, total);
      runs = rw (is.shape_is, is.cells, is.placing_is) (runs_changed after task c new (blocks_after_program blocks place.block k.bytes)
          (set placing.places k.page (Some place)) sound.runs in_caps runs refl plan theirs
          (run_copied after k (sound.runs.each task c runs) fit holds lies mine)
          (λ u d other d_runs run. run_written after k.page k.bytes run fit sound.stands.placed below (theirs u other)));
      picks = rw (is.shape_is, is.cells) (picks_changed task c new
          (picks_written k.bytes candidates_then.counts sound.runs sound.picks fit is.others (rw is.cells at is.closes)) in_running runs
          refl);
    }

-- after a page of the victim was read
pub sound_read : {accounts : Accounts} {shape : Shape} {failures : ℕ} {blocks : List Block} {placing : Placing} {candidates : Candidates}
    {running : List (Option Collection)} (task page : ℕ) (source : Place) (c : Collection)
    → IsSoundVolume accounts shape failures blocks placing candidates running → task < length accounts.plan.caps → running_of running task
    ≡ Some c → source.block ≡ c.victim → place_of placing.places page ≡ Some source
    → IsSoundVolume accounts shape failures blocks placing candidates
    (set running task (Some (with_buffer c (Some (copied_of blocks page source)))))
sound_read {accounts} {shape} {failures} {blocks} {placing} {candidates} {running} task page source c sound in_caps runs here lies =
    let new : Collection = with_buffer c (Some (copied_of blocks page source)) in
    record {
      stands = sound.stands;
      bound = sound.bound;
      shape_is = sound.shape_is;
      map_len = sound.map_len;
      total = sound.total;
      runs = runs_changed accounts task c new blocks placing.places sound.runs in_caps runs refl refl (λ u other. refl)
          (run_read page source (sound.runs.each task c runs) here lies) (λ u d other d_runs run. run);
      picks = picks_changed task c new sound.picks (omega (arith, sound.runs.len, in_caps)) runs refl;
    }

-- after a slot of the victim's erase, not the last
pub sound_going : {accounts : Accounts} {shape : Shape} {failures : ℕ} {blocks : List Block} {placing : Placing} {candidates : Candidates}
    {running : List (Option Collection)} {shape_then : Shape} {failures_then : ℕ} {blocks_then : List Block} (task : ℕ) (c : Collection)
    → IsSoundVolume accounts shape failures blocks placing candidates running → task < length accounts.plan.caps → running_of running task
    ≡ Some c → Sound shape_then failures_then blocks_then placing candidates → shape_then ≡ shape → blocks_then
    ≡ set blocks c.victim (record (block_at blocks c.victim) { erasing = (block_at blocks c.victim).erasing + 1 })
    → free_cells shape_then.pages blocks_then ≡ free_cells shape.pages blocks
    → IsSoundVolume accounts shape_then failures_then blocks_then placing candidates (set running task (Some (with_buffer c None)))
sound_going {accounts} {shape} {failures} {blocks} {placing} {candidates} {running} {shape_then} {failures_then} {blocks_then} task c sound
    in_caps runs stands same cells free =
    let new : Collection = with_buffer c None in
    let block : Block = record (block_at blocks c.victim) { erasing = (block_at blocks c.victim).erasing + 1 } in
    let run = sound.runs.each task c runs in
    let mine = run_going c.victim (run_emptied accounts run run.lent) run.in_range in
    record {
      stands = stands;
      bound = sound.bound;
      shape_is = same ∙ sound.shape_is;
      map_len = sound.map_len;
      total = omega (arith, free, sound.total);
      runs = rw (same, cells) (runs_changed accounts task c new (set blocks c.victim block) placing.places sound.runs in_caps runs refl refl
          (λ u other. refl) mine (λ u d other d_runs its. run_going c.victim its run.in_range));
      picks = rw (same, cells) (picks_changed task c new (picks_erased c.victim block sound.picks run.in_range run.closed)
          (omega (arith, sound.runs.len, in_caps)) runs refl);
    }

-- after the last one
pub sound_ended : {accounts : Accounts} (after : Accounts) {shape : Shape} {failures : ℕ} {blocks : List Block} {placing : Placing}
    {candidates : Candidates} {running : List (Option Collection)} {shape_then : Shape} {failures_then : ℕ} {blocks_then : List Block}
    (task erases reserve : ℕ) (c : Collection) → IsSoundVolume accounts shape failures blocks placing candidates running → task
    < length accounts.plan.caps → running_of running task ≡ Some c → Sound shape_then failures_then blocks_then placing candidates
    → shape_then ≡ shape → blocks_then ≡ set blocks c.victim (record { pages = []; erasing = 0; erases = erases })
    → free_cells shape_then.pages blocks_then ≡ free_cells shape.pages blocks + shape.pages → after.plan ≡ accounts.plan → after.reserves
    ≡ set accounts.reserves task reserve → reserve ≡ accounts.plan.shape.pages - accounts.plan.alpha → task < length accounts.reserves
    → total_of after ≡ total_of accounts + accounts.plan.shape.pages
    → IsSoundVolume after shape_then failures_then blocks_then placing candidates (set running task None)
sound_ended {accounts} after {shape} {failures} {blocks} {placing} {candidates} {running} {shape_then} {failures_then} {blocks_then} task
    erases reserve c sound in_caps runs stands same cells free plan reserves refilled in_reserves total =
    let new : Block = record { pages = []; erasing = 0; erases = erases } in
    let mine : get_or after.reserves task 0 ≡ shape.pages - accounts.plan.alpha = ap (λ (l : List ℕ). get_or l task 0) reserves
    ∙ get_or-set_same accounts.reserves task reserve 0 in_reserves ∙ refilled
    ∙ ap (λ (s : Shape). s.pages - accounts.plan.alpha) (sym sound.shape_is) in
    let theirs : (u : ℕ) → u ≢ task → get_or after.reserves u 0
    ≡ get_or accounts.reserves u 0 = λ u other. ap (λ (l : List ℕ). get_or l u 0) reserves
    ∙ get_or-set_other accounts.reserves task u reserve 0 other in
    record {
      stands = stands;
      bound = subst MeetsBound (sym plan) sound.bound;
      shape_is = same ∙ sound.shape_is ∙ ap (λ p. p.shape) (sym plan);
      map_len = sound.map_len ∙ ap (λ p. p.logical) (sym plan);
      total = omega (
        arith,
        free,
        sound.total,
        total,
        ap (λ (s : Shape). s.pages)
            sound.shape_is,
      );
      runs = rw (same, cells) (runs_ended after task c new sound.runs in_caps runs plan theirs mine);
      picks = rw (same, cells) (picks_ended task erases c sound.runs sound.picks in_caps runs
          (omega (arith, sound.stands.limits.some_pages)));
    }

-- Free cells

in_sum : (xs : List ℕ) (i : ℕ) → get_or xs i 0 ≤ sum xs
in_sum xs i =
    elim (cases_lt i (length xs)) [
      | inl below ↦ get_or-le-sum_by (λ (n : ℕ). n) xs i 0 below
      | inr past ↦ omega (arith, get_or_past xs i 0 past)
    ]

-- who holds a page finds a free cell
pub some_free : {accounts : Accounts} {shape : Shape} {failures : ℕ} {blocks : List Block} {placing : Placing} {candidates : Candidates}
    {running : List (Option Collection)} (task : ℕ) → IsSoundVolume accounts shape failures blocks placing candidates running → 0
    < get_or accounts.holds task 0 → 0 < free_cells shape.pages blocks
some_free {accounts} task sound held = omega (arith, sound.total, held, in_sum accounts.holds task)

-- and who has a page in reserve
pub some_lent : {accounts : Accounts} {shape : Shape} {failures : ℕ} {blocks : List Block} {placing : Placing} {candidates : Candidates}
    {running : List (Option Collection)} (task : ℕ) → IsSoundVolume accounts shape failures blocks placing candidates running → 0
    < get_or accounts.reserves task 0 → 0 < free_cells shape.pages blocks
some_lent {accounts} task sound lent = omega (arith, sound.total, lent, in_sum accounts.reserves task)

one_more : (n k : ℕ) → (n + 1) * k ≡ n * k + k
one_more n k = grind arith

free_le : (pages : ℕ) (xs : List Block) → sum_by (free_in pages) xs ≤ length xs * pages
free_le pages [] = omega arith
free_le pages (x ∷ xs) = omega (arith, sum_by-cons (free_in pages) x xs, free_le pages xs, one_more (length xs) pages)

-- the cells of a victim are not among the free ones
pub room : {accounts : Accounts} {shape : Shape} {failures : ℕ} {blocks : List Block} {placing : Placing} {candidates : Candidates}
    {running : List (Option Collection)} (task : ℕ) (c : Collection) → IsSoundVolume accounts shape failures blocks placing candidates running
    → running_of running task ≡ Some c → total_of accounts + accounts.plan.shape.pages
    ≤ accounts.plan.shape.blocks * accounts.plan.shape.pages
room {accounts} {shape} {failures} {blocks} {placing} {candidates} {running} task c sound is =
    let run = sound.runs.each task c is in
    let here : total_of accounts + shape.pages ≤ shape.blocks * shape.pages =
    omega (
      arith,
      sum_by-set (free_in shape.pages) blocks c.victim free_block free_block run.in_range,
      free_le shape.pages
          (set blocks c.victim free_block),
      ap (λ (n : ℕ). n * shape.pages) (length-set blocks c.victim free_block ∙ sound.stands.count),
      run.closed,
      sound.total,
    ) in
    subst (λ (x : Shape). total_of accounts + x.pages ≤ x.blocks * x.pages) sound.shape_is here
