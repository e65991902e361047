-- What each step keeps of one running collection.
use Rattle.flash_volume.specs.Acts.{HasLeft, HasDropped}
use Rattle.std.proofs.Common.{◌≡◌, ◌≢◌, ℕ, ◌+◌, ◌-◌, ◌<◌, ◌≤◌, List, length, get_or, set, count_by, Option, Some, None, sym, ap, ◌∙◌, arith}
use Rattle.std.proofs.Common.{inl, inr}
use Rattle.std.proofs.lemmas.Bool.{cases_eq, cases_lt}
use Rattle.std.proofs.lemmas.List.{get_or-set_same, get_or-set_other, length-set, get_or_past}
use Rattle.std.proofs.lemmas.List.Sums.{get_or-le-sum_by}
use Rattle.slot_types.specs.declared.pages.Place.{Place}
use Rattle.slot_types.specs.declared.plans.Shape.{Shape}
use Rattle.slot_types.specs.declared.pages.PageData.{PageData}
use Rattle.slot_types.specs.Places.{place_of, is_in}
use Rattle.plan_rules.specs.Accounts.{Accounts}
use Rattle.page_map.proofs.Owners.{within}
use Rattle.flash_die.specs.Flash.{Block, free_block, blank, block_at, cell_at, IsProgrammed, blocks_after_program}
use Rattle.flash_volume.specs.declared.collection.Collection.{Collection}
use Rattle.flash_volume.specs.declared.collection.Copied.{Copied}
use Rattle.flash_volume.specs.Cells.{filled_of}
use Rattle.flash_volume.specs.Running.{with_buffer, copied_of, RunWell}
use Rattle.flash_volume.proofs.Opening.{Fits, stays, other_block, count_programmed}
use Rattle.flash_volume.proofs.Counting.{here, here_same, here_other, moves}
use Rattle.flash_volume.proofs.Erasing.{same_cell}

-- the victim is closed, so not the open block
pub not_open : {accounts : Accounts} {shape : Shape} {blocks : List Block} {places : List (Option Place)} {task : ℕ} {c : Collection}
    {place : Place} → RunWell accounts shape.pages blocks places task c → Fits shape blocks place → c.victim ≢ place.block
not_open {accounts} {shape} {blocks} run fit same =
    omega (arith, run.closed, fit.next, fit.room, ap (λ (b : ℕ). filled_of (block_at blocks b)) same)

-- where a page lies after another one, or it itself, came to a cell
lay_before : (places : List (Option Place)) (page p : ℕ) (place q : Place) → page < length places
    → place_of (set places page (Some place)) p ≡ Some q → (p ≡ page → place ≡ q) × (p ≢ page → place_of places p ≡ Some q)
lay_before places page p place q below lies = (
  λ same.
      let there : Some place ≡ Some q = sym (get_or-set_same places page (Some place) None below)
      ∙ ap (λ (j : ℕ). place_of (set places page (Some place)) j) (sym same) ∙ lies in
      cc,
  λ other. sym (get_or-set_other places page p (Some place) None other) ∙ lies,
)

-- a page was programmed elsewhere
pub run_written : {accounts : Accounts} (after : Accounts) {shape : Shape} {blocks : List Block} {places : List (Option Place)} {task : ℕ}
    {c : Collection} {place : Place} (page : ℕ) (bytes : PageData) → RunWell accounts shape.pages blocks places task c
    → Fits shape blocks place → ((p : ℕ) (q : Place) → place_of places p ≡ Some q → IsProgrammed blocks q) → page < length places
    → get_or after.reserves task 0 ≡ get_or accounts.reserves task 0
    → RunWell after shape.pages (blocks_after_program blocks place.block bytes) (set places page (Some place)) task c
run_written {accounts} after {shape} {blocks} {places} {task} {c} {place} page bytes run fit placed below reserve = record {
  in_range = omega (arith, run.in_range, count_programmed blocks place.block bytes);
  closed = ap filled_of (other_block blocks place.block c.victim bytes (not_open run fit)) ∙ run.closed;
  lent = omega (arith, run.lent, moves c.victim page place places below, here_other c.victim place (not_open run fit), reserve);
  source = run.source;
  home = λ k q holds lies here.
      let was = lay_before places page k.page place q below lies in
      elim (cases_eq k.page page) [
        | inl same ↦ absurd (not_open run fit (sym here ∙ ap (λ (r : Place). r.block) (sym (was.0 same))))
        | inr other ↦ run.home k q holds (was.1 other) here
      ];
  bytes = λ k holds lies.
      let was = lay_before places page k.page place k.source below lies in
      elim (cases_eq k.page page) [
        | inl same ↦ absurd (not_open run fit (sym (run.source k holds) ∙ ap (λ (r : Place). r.block) (sym (was.0 same))))
        | inr other ↦ run.bytes k holds (was.1 other) ∙ sym
            (stays blocks place.block bytes k.source fit.in_range (placed k.page k.source (was.1 other))).1
      ];
}

-- who holds a page that still lies in the victim has a page in reserve
pub reserved : {accounts : Accounts} {pages : ℕ} {blocks : List Block} {places : List (Option Place)} {task : ℕ} {c : Collection}
    (k : Copied) → RunWell accounts pages blocks places task c → c.buffer ≡ Some k → place_of places k.page ≡ Some k.source → 0
    < get_or accounts.reserves task 0
reserved {accounts} {pages} {blocks} {places} {task} {c} k run holds lies =
    omega (
      arith,
      run.lent,
      get_or-le-sum_by (here c.victim) places k.page None (within places k.page k.source lies),
      ap (here c.victim)
          lies,
      here_same c.victim k.source (sym (run.source k holds)),
    )

-- with no buffer little is to be said
pub run_emptied : {accounts : Accounts} (after : Accounts) {pages : ℕ} {blocks : List Block} {places : List (Option Place)} {task : ℕ}
    {c : Collection} → RunWell accounts pages blocks places task c → count_by (is_in c.victim) places ≤ get_or after.reserves task 0
    → RunWell after pages blocks places task (with_buffer c None)
run_emptied after {c} run lent = record {
  in_range = run.in_range;
  closed = run.closed;
  lent = lent;
  source = λ k holds. absurd (cc);
  home = λ k place holds lies here. absurd (cc);
  bytes = λ k holds lies. absurd (cc);
}

-- its own copy was programmed
pub run_copied : {accounts : Accounts} (after : Accounts) {shape : Shape} {blocks : List Block} {places : List (Option Place)} {task : ℕ}
    {c : Collection} {place : Place} (k : Copied) → RunWell accounts shape.pages blocks places task c → Fits shape blocks place → c.buffer
    ≡ Some k → place_of places k.page ≡ Some k.source → get_or after.reserves task 0 ≡ get_or accounts.reserves task 0 - 1
    → RunWell after shape.pages (blocks_after_program blocks place.block k.bytes) (set places k.page (Some place)) task (with_buffer c None)
run_copied {accounts} after {shape} {blocks} {places} {task} {c} {place} k run fit holds lies reserve =
    let below : k.page < length places = within places k.page k.source lies in
    record {
      in_range = omega (arith, run.in_range, count_programmed blocks place.block k.bytes);
      closed = ap filled_of (other_block blocks place.block c.victim k.bytes (not_open run fit)) ∙ run.closed;
      lent = omega (
        arith,
        run.lent,
        moves c.victim k.page place places below,
        here_other c.victim place (not_open run fit),
        ap
            (here c.victim) lies,
        here_same c.victim k.source (sym (run.source k holds)),
        reserve,
      );
      source = λ j has. absurd (cc);
      home = λ j q has there here. absurd (cc);
      bytes = λ j has there. absurd (cc);
    }

-- it read a page of its victim
pub run_read : {accounts : Accounts} {pages : ℕ} {blocks : List Block} {places : List (Option Place)} {task : ℕ} {c : Collection} (page : ℕ)
    (source : Place) → RunWell accounts pages blocks places task c → source.block ≡ c.victim → place_of places page ≡ Some source
    → RunWell accounts pages blocks places task (with_buffer c (Some (copied_of blocks page source)))
run_read {accounts} {pages} {blocks} {places} {task} {c} page source run here lies = record {
  in_range = run.in_range;
  closed = run.closed;
  lent = run.lent;
  source = λ k holds.
      let is : copied_of blocks page source ≡ k = cc in
      ap (λ (x : Copied). x.source.block) (sym is) ∙ here;
  home = λ k q holds there in_victim.
      let is : copied_of blocks page source ≡ k = cc in
      let both : Some source ≡ Some q = sym lies ∙ ap (λ (x : Copied). place_of places x.page) is ∙ there in
      let same : source ≡ q = cc in
      sym same ∙ ap (λ (x : Copied). x.source) is;
  bytes = λ k holds there.
      let is : copied_of blocks page source ≡ k = cc in
      ap (λ (x : Copied). x.bytes) (sym is) ∙ ap (λ (x : Copied). cell_at blocks x.source) is;
}

-- a block had a slot of its erase, not the last
pub run_going : {accounts : Accounts} {pages : ℕ} {blocks : List Block} {places : List (Option Place)} {task : ℕ} {c : Collection}
    (block : ℕ) → RunWell accounts pages blocks places task c → block < length blocks
    → RunWell accounts pages (set blocks block (record (block_at blocks block) { erasing = (block_at blocks block).erasing + 1 })) places
    task c
run_going {accounts} {pages} {blocks} {places} {task} {c} block run below =
    let new : Block = record (block_at blocks block) { erasing = (block_at blocks block).erasing + 1 } in
    let same_pages : (k : ℕ) → (block_at (set blocks block new) k).pages ≡ (block_at blocks k).pages = (λ k.
    elim (cases_eq k block) [
      | inl same ↦ ap (λ (b : ℕ). (block_at (set blocks block new) b).pages) same
          ∙ ap (λ (b : Block). b.pages) (get_or-set_same blocks block new free_block below)
          ∙ ap (λ (b : ℕ). (block_at blocks b).pages) (sym same)
      | inr other ↦ ap (λ (b : Block). b.pages) (get_or-set_other blocks block k new free_block other)
    ]) in
    record {
      in_range = omega (arith, run.in_range, length-set blocks block new);
      closed = ap length (same_pages c.victim) ∙ run.closed;
      lent = run.lent;
      source = run.source;
      home = run.home;
      bytes = λ k holds lies. run.bytes k holds lies ∙ ap (λ (l : List PageData). get_or l k.source.page blank)
          (sym (same_pages k.source.block));
    }

-- another block changed
pub run_elsewhere : {accounts : Accounts} (after : Accounts) {pages : ℕ} {blocks : List Block} {places : List (Option Place)} {task : ℕ}
    {c : Collection} (block : ℕ) (new : Block) → RunWell accounts pages blocks places task c → c.victim ≢ block
    → get_or after.reserves task 0 ≡ get_or accounts.reserves task 0 → RunWell after pages (set blocks block new) places task c
run_elsewhere {accounts} after {pages} {blocks} {places} {task} {c} block new run other reserve = record {
  in_range = omega (arith, run.in_range, length-set blocks block new);
  closed = ap filled_of (get_or-set_other blocks block c.victim new free_block other) ∙ run.closed;
  lent = omega (arith, run.lent, reserve);
  source = run.source;
  home = run.home;
  bytes = λ k holds lies. run.bytes k holds lies ∙ sym (same_cell blocks block new k.source
      (λ same. other (sym (run.source k holds) ∙ same)));
}

-- the accounts moved, but not its reserve
pub run_still : {accounts : Accounts} (after : Accounts) {pages : ℕ} {blocks : List Block} {places : List (Option Place)} {task : ℕ}
    {c : Collection} → RunWell accounts pages blocks places task c → get_or after.reserves task 0 ≡ get_or accounts.reserves task 0
    → RunWell after pages blocks places task c
run_still after run reserve = record {
  in_range = run.in_range;
  closed = run.closed;
  lent = omega (arith, run.lent, reserve);
  source = run.source;
  home = run.home;
  bytes = run.bytes;
}

-- a page that left its cell left the victim
pub dropped : {accounts : Accounts} {pages : ℕ} {blocks : List Block} {places : List (Option Place)} {task : ℕ} {c : Collection}
    → RunWell accounts pages blocks places task c → HasLeft places c → HasDropped places c
dropped {places = places} run left k place holds lies same =
    let home : place ≡ k.source = run.home k place holds lies same in
    left k holds (lies ∙ ap (λ (q : Place). Some q) home)

pub in_list : (xs : List ℕ) (i : ℕ) → 0 < get_or xs i 0 → i < length xs
in_list xs i some =
    elim (cases_lt i (length xs)) [
      | inl below ↦ below
      | inr past ↦ absurd (omega (arith, get_or_past xs i 0 past, some))
    ]
