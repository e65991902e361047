-- A collection that begins while few pages are spare finds its victim.
use Rattle.std.proofs.Common.{◌≡◌, ◌≢◌, ℕ, zero, suc, ◌-◌, ◌<◌, ◌≤◌, Bool, true, false, List, [], ◌∷◌, length, map, get_or, set, sum_by}
use Rattle.std.proofs.Common.{count_by, Option, Some, None, refl, sym, ap, ◌∙◌, arith, ◌⊎◌, inl, inr}
use Rattle.std.specs.Prelude.{position, ◌==◌, ◌||◌}
use Rattle.std.specs.List.{range_with_len, list_any}
use Rattle.std.proofs.lemmas.Bool.{cases_lt, cases_eq, eqb-false}
use Rattle.std.proofs.lemmas.List.{length-map, get_or-map, get_or_past, get_or-set_same, get_or-set_other}
use Rattle.std.proofs.lemmas.List.FromFn.{fill_by_all}
use Rattle.std.proofs.lemmas.List.Sums.{sum_by-cons}
use Rattle.slot_types.specs.declared.pages.Place.{Place}
use Rattle.slot_types.specs.declared.plans.Shape.{Shape}
use Rattle.slot_types.specs.Places.{is_in}
use Rattle.plan_rules.specs.Bound.{fmax_of}
use Rattle.plan_rules.specs.Blocks.{BeginsShort, is_of}
use Rattle.plan_rules.specs.Accounts.{Accounts, total_of}
use Rattle.plan_rules.proofs.Spread.{choice}
use Rattle.victim_pick.specs.Candidates.{Candidates, count_of, erases_of, HasNone, IsLeast}
use Rattle.page_map.specs.Placing.{Placing}
use Rattle.flash_die.specs.Flash.{Block, free_block, block_at}
use Rattle.flash_volume.specs.declared.collection.Collection.{Collection}
use Rattle.flash_volume.specs.Cells.{fills_of, is_open_with, opened_in, free_in, free_cells}
use Rattle.flash_volume.specs.Array.{without_candidate}
use Rattle.flash_volume.specs.Running.{running_of, RunWell}
use Rattle.flash_volume.specs.Picks.{IsCandidate, IsVictim, PicksWell}
use Rattle.flash_volume.specs.SoundVolume.{IsSoundVolume}
use Rattle.flash_volume.proofs.Opening.{Sound, OneOpen, fill_is, opened_is}
use Rattle.flash_volume.proofs.Counting.{none_set}
use Rattle.flash_volume.proofs.Collections.{who_runs, runs_begun}

-- The pigeonhole's premises

abbrev victim_of : Option Collection → Option ℕ
victim_of None = None
victim_of (Some c) = Some c.victim

abbrev free_of : ℕ → List Block → ℕ → ℕ
free_of pages blocks k = free_in pages (block_at blocks k)

sum_by-map : {X Y : Type 0} (g : Y → ℕ) (f : X → Y) (xs : List X) → sum_by g (map f xs) ≡ sum_by (λ x. g (f x)) xs
sum_by-map g f [] = refl
sum_by-map g f (x ∷ xs) = omega (arith, sum_by-cons g (f x) (map f xs), sum_by-cons (λ y. g (f y)) x xs, sum_by-map g f xs)

by_block : (pages : ℕ) (blocks : List Block) (n : ℕ) → length blocks ≡ n → sum_by (free_of pages blocks) (range_with_len 0 n)
    ≡ free_cells pages blocks
by_block pages blocks n is =
    let same : blocks ≡ map (block_at blocks) (range_with_len 0 n) = fill_by_all (block_at blocks) blocks n free_block is (λ k _. refl) in
    sym (sum_by-map (free_in pages) (block_at blocks) (range_with_len 0 n)) ∙ ap (λ (l : List Block). sum_by (free_in pages) l) (sym same)

open_or_whole : (pages : ℕ) (fills : List ℕ) (block free : ℕ) → OneOpen pages fills → free ≡ pages - get_or fills block 0
    → (position (is_open_with pages) fills ≡ Some block) ⊎ ((free ≡ 0) ⊎ (pages ≤ free))
open_or_whole pages fills block free one is =
    elim (cases_lt 0 (get_or fills block 0)) [
      | inl some ↦ elim (cases_lt (get_or fills block 0) pages) [
        | inl few ↦ inl (opened_is pages fills block (position (is_open_with pages) fills) refl one some few)
        | inr closed ↦ inr (inl (omega (arith, is, closed)))
      ]
      | inr none ↦ inr (inr (omega (arith, is, none)))
    ]

begins_short : {accounts : Accounts} {shape : Shape} {failures : ℕ} {blocks : List Block} {placing : Placing} {candidates : Candidates}
    {running : List (Option Collection)} (task : ℕ) → IsSoundVolume accounts shape failures blocks placing candidates running → total_of accounts
    ≤ fmax_of accounts.plan → task < length accounts.plan.caps → running_of running task ≡ None
    → BeginsShort accounts.plan (free_of accounts.plan.shape.pages blocks) placing.places (map victim_of running)
    (opened_in accounts.plan.shape.pages blocks)
begins_short {accounts} {shape} {failures} {blocks} {placing} {candidates} {running} task sound few in_caps none =
    let pages_are : shape.pages ≡ accounts.plan.shape.pages = ap (λ (s : Shape). s.pages) sound.shape_is in
    let blocks_are : length blocks ≡ accounts.plan.shape.blocks = sound.stands.count ∙ ap (λ (s : Shape). s.blocks) sound.shape_is in
    let in_running : task < length running = omega (arith, in_caps, sound.runs.len) in
    record {
      places_len = sound.map_len;
      victims_len = length-map running victim_of ∙ sound.runs.len;
      none_yet = (
        task,
        omega (arith, in_running, length-map running victim_of),
        get_or-map victim_of running task None None in_running
            ∙ ap victim_of none,
      );
      one_open = λ block below. open_or_whole accounts.plan.shape.pages (fills_of blocks) block
          (free_of accounts.plan.shape.pages blocks block)
          (λ i j some_i few_i some_j few_j. sound.stands.one_open i j some_i (omega (arith, few_i, pages_are)) some_j
          (omega (arith, few_j, pages_are))) (omega (arith, fill_is blocks block));
      few_free = omega (
        arith,
        by_block accounts.plan.shape.pages blocks accounts.plan.shape.blocks blocks_are,
        ap
            (λ (p : ℕ). free_cells p blocks) pages_are,
        sound.total,
        few,
      );
    }

-- The candidates

either_false : (a b : Bool) → (a || b) ≡ false → (a ≡ false) × (b ≡ false)
either_false false b is = (refl, is)
either_false true b is = absurd (cc)

none_any : (block : ℕ) (running : List (Option Collection)) (t : ℕ) (c : Collection) → list_any (is_of block) (map victim_of running)
    ≡ false → running_of running t ≡ Some c → c.victim ≢ block
none_any block [] t c none is same = cc
none_any block (o ∷ os) zero c none is same =
    let fails : is_of block (victim_of o) ≡ false = (either_false (is_of block (victim_of o)) (list_any (is_of block) (map victim_of os))
    none).0 in
    let other : (c.victim == block) ≡ false = ap (λ (x : Option Collection). is_of block (victim_of x)) (sym is) ∙ fails in
    eqb-false c.victim block other same
none_any block (o ∷ os) (suc t) c none is same =
    none_any block os t c (either_false (is_of block (victim_of o)) (list_any (is_of block) (map victim_of os)) none).1 is same

counted_by : {accounts : Accounts} {shape : Shape} {failures : ℕ} {blocks : List Block} {placing : Placing} {candidates : Candidates}
    {running : List (Option Collection)} (block : ℕ) (o : Option ℕ) → count_of candidates.counts block ≡ o
    → IsSoundVolume accounts shape failures blocks placing candidates running → IsCandidate shape.pages blocks running block
    → count_of candidates.counts block ≡ Some (count_by (is_in block) placing.places)
counted_by block None is sound closed =
    let it = sound.picks.closed block closed.in_range closed.closed is in
    absurd (closed.alone it.task it.collection it.runs it.victim)
counted_by block (Some n) is sound closed = is ∙ ap (λ (m : ℕ). Some m) (sound.stands.counted block n is).1

-- a closed block that no collection works on is counted
pub counted_closed : {accounts : Accounts} {shape : Shape} {failures : ℕ} {blocks : List Block} {placing : Placing}
    {candidates : Candidates} {running : List (Option Collection)} (block : ℕ)
    → IsSoundVolume accounts shape failures blocks placing candidates running → IsCandidate shape.pages blocks running block
    → count_of candidates.counts block ≡ Some (count_by (is_in block) placing.places)
counted_closed {candidates = candidates} block sound closed = counted_by block (count_of candidates.counts block) refl sound closed

in_counts : (counts : List (Option ℕ)) (block n : ℕ) → count_of counts block ≡ Some n → block < length counts
in_counts counts block n is =
    elim (cases_lt block (length counts)) [
      | inl below ↦ below
      | inr past ↦ let none : count_of counts block ≡ None = get_or_past counts block None past in absurd (cc)
    ]

-- and only those are
pub closed_counted : {accounts : Accounts} {shape : Shape} {failures : ℕ} {blocks : List Block} {placing : Placing}
    {candidates : Candidates} {running : List (Option Collection)} (block n : ℕ)
    → IsSoundVolume accounts shape failures blocks placing candidates running → count_of candidates.counts block ≡ Some n
    → IsCandidate shape.pages blocks running block
closed_counted {candidates = candidates} block n sound is = record {
  in_range = omega (arith, in_counts candidates.counts block n is, sound.stands.candidates_len, sound.stands.count);
  closed = (sound.stands.counted block n is).0;
  alone = λ t c runs same.
      let none : count_of candidates.counts block ≡ None = ap (λ (b : ℕ). count_of candidates.counts b) (sym same)
      ∙ sound.picks.taken t c runs in
      cc;
}

-- a candidate in which few pages lie
pub record Chosen (accounts : Accounts) (places : List (Option Place)) (counts : List (Option ℕ)) : Type 0 where
  pub block : ℕ
  pub counted : count_of counts block ≡ Some (count_by (is_in block) places)
  pub few : count_by (is_in block) places ≤ accounts.plan.shape.pages - accounts.plan.alpha

pub chosen : {accounts : Accounts} {shape : Shape} {failures : ℕ} {blocks : List Block} {placing : Placing} {candidates : Candidates}
    {running : List (Option Collection)} (task : ℕ) → IsSoundVolume accounts shape failures blocks placing candidates running → total_of accounts
    ≤ fmax_of accounts.plan → task < length accounts.plan.caps → running_of running task ≡ None
    → Chosen accounts placing.places candidates.counts
chosen {accounts} {shape} {failures} {blocks} {placing} {candidates} {running} task sound few in_caps none =
    let it = choice accounts.plan (free_of accounts.plan.shape.pages blocks) placing.places (map victim_of running)
    (opened_in accounts.plan.shape.pages blocks) sound.bound (begins_short task sound few in_caps none) in
    let pages_are : shape.pages ≡ accounts.plan.shape.pages = ap (λ (s : Shape). s.pages) sound.shape_is in
    let closed : IsCandidate shape.pages blocks running it.0 = record {
      in_range = omega (arith, it.1.in_range, sound.stands.count, ap (λ (s : Shape). s.blocks) sound.shape_is);
      closed = omega (arith, it.1.closed, sound.stands.within it.0, fill_is blocks it.0, pages_are);
      alone = λ t c runs. none_any it.0 running t c it.1.alone runs;
    } in
    record { block = it.0; counted = counted_closed it.0 sound closed; few = it.1.few_valid }

-- so there is a candidate
pub not_none : {accounts : Accounts} {places : List (Option Place)} {counts : List (Option ℕ)} → Chosen accounts places counts
    → HasNone counts → ⊥
not_none it none = let nothing = none it.block in let some = it.counted in cc

-- The victim

pub is_victim : {accounts : Accounts} {shape : Shape} {failures : ℕ} {blocks : List Block} {placing : Placing} {candidates : Candidates}
    {running : List (Option Collection)} (victim : ℕ) → IsSoundVolume accounts shape failures blocks placing candidates running
    → IsLeast candidates.counts candidates.erases victim → IsVictim shape.pages blocks placing.places running victim
is_victim {shape = shape} {blocks = blocks} {placing = placing} {candidates = candidates} {running = running} victim sound least =
    let valid : least.valid ≡ count_by (is_in victim) placing.places = (sound.stands.counted victim least.valid least.counted).1 in
    let as_valid : (other : ℕ) → IsCandidate shape.pages blocks running other → count_by (is_in other) placing.places
    ≡ count_by (is_in victim) placing.places → count_of candidates.counts other
    ≡ Some least.valid = (λ other closed as_few. counted_closed other sound closed ∙ ap (λ (n : ℕ). Some n) (as_few ∙ sym valid)) in
    let mine : erases_of candidates.erases victim ≡ (block_at blocks victim).erases = sound.stands.worn victim least.valid least.counted in
    let theirs : (other : ℕ) → IsCandidate shape.pages blocks running other → erases_of candidates.erases other
    ≡ (block_at blocks other).erases = (λ other closed. sound.stands.worn other (count_by (is_in other) placing.places)
    (counted_closed other sound closed)) in
    record {
      candidate = closed_counted victim least.valid sound least.counted;
      fewest = λ other closed. omega (
        arith,
        valid,
        least.fewest other (count_by (is_in other) placing.places)
            (counted_closed other sound closed),
      );
      least_worn = λ other closed as_few. omega (arith, least.least_worn other (as_valid other closed as_few), mine, theirs other closed);
      first = λ other closed as_few as_worn. least.first other (as_valid other closed as_few)
          (omega (arith, mine, theirs other closed, as_worn));
    }

-- in which few pages lie
pub few_in_victim : {accounts : Accounts} {shape : Shape} {failures : ℕ} {blocks : List Block} {placing : Placing} {candidates : Candidates}
    {running : List (Option Collection)} (victim : ℕ) → IsSoundVolume accounts shape failures blocks placing candidates running
    → IsLeast candidates.counts candidates.erases victim → Chosen accounts placing.places candidates.counts
    → count_by (is_in victim) placing.places ≤ accounts.plan.shape.pages - accounts.plan.alpha
few_in_victim {placing = placing} victim sound least it =
    omega (
      arith,
      (sound.stands.counted victim least.valid least.counted).1,
      least.fewest it.block
          (count_by (is_in it.block) placing.places) it.counted,
      it.few,
    )

-- What the beginning keeps

picks_begun : {pages : ℕ} {blocks : List Block} {counts : List (Option ℕ)} {running : List (Option Collection)} (task n : ℕ)
    (new : Collection) → PicksWell pages blocks counts running → task < length running → running_of running task ≡ None
    → count_of counts new.victim ≡ Some n → PicksWell pages blocks (set counts new.victim None) (set running task (Some new))
picks_begun {pages} {blocks} {counts} {running} task n new picks below none counted = record {
  taken = λ u d now. elim (who_runs running task u (Some new) d below now) [
    | inl it ↦
        let d_is : new ≡ d = (let e : Some new ≡ Some d = it.1 in cc) in
        ap (λ (x : Collection). count_of (set counts new.victim None) x.victim) (sym d_is)
        ∙ get_or-set_same counts new.victim None None (in_counts counts new.victim n counted)
    | inr it ↦ none_set counts new.victim d.victim (picks.taken u d it.1)
  ];
  closed = λ block in_range closed gone. elim (cases_eq block new.victim) [
    | inl same ↦ record { task = task; collection = new; runs = get_or-set_same running task (Some new) None below; victim = sym same }
    | inr other ↦
        let it = picks.closed block in_range closed (sym (get_or-set_other counts new.victim block None None other) ∙ gone) in
        let apart : it.task ≢ task = (λ same. let nothing : running_of running it.task ≡ None = ap (λ (j : ℕ). running_of running j) same
        ∙ none in let some = it.runs in cc) in
        record {
          task = it.task;
          collection = it.collection;
          runs = get_or-set_other running task it.task (Some new) None apart
              ∙ it.runs;
          victim = it.victim;
        }
  ];
}

pub sound_begun : {accounts : Accounts} {shape : Shape} {failures : ℕ} {blocks : List Block} {placing : Placing} {candidates : Candidates}
    {running : List (Option Collection)} (task victim : ℕ) → IsSoundVolume accounts shape failures blocks placing candidates running → task
    < length accounts.plan.caps → running_of running task ≡ None → IsLeast candidates.counts candidates.erases victim
    → Chosen accounts placing.places candidates.counts → Sound shape failures blocks placing (without_candidate victim candidates)
    → IsSoundVolume accounts shape failures blocks placing (without_candidate victim candidates)
    (set running task (Some (record { victim = victim; buffer = None })))
sound_begun {accounts} {shape} {failures} {blocks} {placing} {candidates} {running} task victim sound in_caps none least it stands =
    let new : Collection = record { victim = victim; buffer = None } in
    let closed = closed_counted victim least.valid sound least.counted in
    let mine : RunWell accounts shape.pages blocks placing.places task new = record {
      in_range = closed.in_range;
      closed = closed.closed;
      lent = omega (
        arith,
        few_in_victim victim sound least it,
        sound.runs.idle task in_caps none,
        ap (λ (s : Shape). s.pages)
            sound.shape_is,
      );
      source = λ k holds. absurd (cc);
      home = λ k place holds lies here. absurd (cc);
      bytes = λ k holds lies. absurd (cc);
    } in
    record {
      stands = stands;
      bound = sound.bound;
      shape_is = sound.shape_is;
      map_len = sound.map_len;
      total = sound.total;
      runs = runs_begun task new sound.runs in_caps none mine closed.alone;
      picks = picks_begun task least.valid new sound.picks (omega (arith, sound.runs.len, in_caps)) none least.counted;
    }
