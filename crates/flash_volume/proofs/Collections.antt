-- What each step keeps of all running collections, and of the blocks that may be collected.
use Rattle.std.proofs.Common.{◌≡◌, ◌≢◌, ℕ, ◌-◌, ◌<◌, false, List, [], length, get_or, set, Option, Some, None, IsSome, refl, sym, ap, ◌∙◌}
use Rattle.std.proofs.Common.{subst, arith, ◌⊎◌, inl, inr}
use Rattle.std.specs.Prelude.{is_some}
use Rattle.std.proofs.lemmas.Bool.{cases_eq}
use Rattle.std.proofs.lemmas.List.{get_or-set_same, get_or-set_other, length-set}
use Rattle.slot_types.specs.declared.pages.Place.{Place}
use Rattle.slot_types.specs.declared.plans.Shape.{Shape}
use Rattle.slot_types.specs.declared.pages.PageData.{PageData}
use Rattle.plan_rules.specs.Accounts.{Accounts}
use Rattle.victim_pick.specs.Candidates.{count_of}
use Rattle.flash_die.specs.Flash.{Block, free_block, block_at, blocks_after_program}
use Rattle.flash_volume.specs.declared.collection.Collection.{Collection}
use Rattle.flash_volume.specs.Cells.{filled_of}
use Rattle.flash_volume.specs.Running.{running_of, RunWell, RunsWell}
use Rattle.flash_volume.specs.Picks.{PicksWell}
use Rattle.flash_volume.proofs.Opening.{Fits, other_block, count_programmed}
use Rattle.flash_volume.proofs.Running.{not_open, run_elsewhere}

-- The running collections

-- who runs after a task's collection changed
pub who_runs : (running : List (Option Collection)) (task u : ℕ) (new : Option Collection) (d : Collection) → task < length running
    → running_of (set running task new) u ≡ Some d → ((u ≡ task) × (new ≡ Some d)) ⊎ ((u ≢ task) × (running_of running u ≡ Some d))
who_runs running task u new d below now =
    elim (cases_eq u task) [
      | inl same ↦ inl (
        same,
        sym (get_or-set_same running task new None below)
            ∙ ap (λ (j : ℕ). running_of (set running task new) j) (sym same) ∙ now,
      )
      | inr other ↦ inr (other, sym (get_or-set_other running task u new None other) ∙ now)
    ]

-- nobody's collection changed
pub runs_kept : {accounts : Accounts} (after : Accounts) {pages : ℕ} {blocks : List Block} {places : List (Option Place)}
    {running : List (Option Collection)} (blocks_then : List Block) (places_then : List (Option Place))
    → RunsWell accounts pages blocks places running → after.plan ≡ accounts.plan → after.reserves ≡ accounts.reserves
    → ((task : ℕ) (c : Collection) → RunWell accounts pages blocks places task c → get_or after.reserves task 0
    ≡ get_or accounts.reserves task 0 → RunWell after pages blocks_then places_then task c)
    → RunsWell after pages blocks_then places_then running
runs_kept {accounts} after {pages} blocks_then places_then runs plan reserves each = record {
  len = runs.len ∙ ap (λ p. length p.caps) (sym plan);
  each = λ t c is. each t c (runs.each t c is) (ap (λ (l : List ℕ). get_or l t 0) reserves);
  apart = runs.apart;
  idle = λ t h is. ap (λ (l : List ℕ). get_or l t 0) reserves ∙ runs.idle t (omega (arith, h, ap (λ p. length p.caps) plan)) is
      ∙ ap (λ p. pages - p.alpha) (sym plan);
}

-- its victim is as before
old_victim : (running : List (Option Collection)) (task u : ℕ) (c new d : Collection) → task < length running → running_of running task
    ≡ Some c → new.victim ≡ c.victim → running_of (set running task (Some new)) u ≡ Some d → (e : Collection)
    × (running_of running u ≡ Some e) × (e.victim ≡ d.victim)
old_victim running task u c new d below is victim now = elim (who_runs running task u (Some new) d below now) [
  | inl it ↦
      let d_is : new ≡ d = (let e : Some new ≡ Some d = it.1 in cc) in
      (c, ap (λ (j : ℕ). running_of running j) it.0 ∙ is, sym victim ∙ ap (λ (x : Collection). x.victim) d_is)
  | inr it ↦ (d, it.1, refl)
]

-- a task's collection changed, but not its victim
pub runs_changed : {accounts : Accounts} (after : Accounts) {pages : ℕ} {blocks : List Block} {places : List (Option Place)}
    {running : List (Option Collection)} (task : ℕ) (c new : Collection) (blocks_then : List Block) (places_then : List (Option Place))
    → RunsWell accounts pages blocks places running → task < length accounts.plan.caps → running_of running task ≡ Some c → new.victim
    ≡ c.victim → after.plan ≡ accounts.plan → ((u : ℕ) → u ≢ task → get_or after.reserves u 0 ≡ get_or accounts.reserves u 0)
    → RunWell after pages blocks_then places_then task new
    → ((u : ℕ) (d : Collection) → u ≢ task → running_of running u ≡ Some d → RunWell accounts pages blocks places u d
    → RunWell after pages blocks_then places_then u d) → RunsWell after pages blocks_then places_then (set running task (Some new))
runs_changed {accounts} after {pages} {blocks} {places} {running} task c new blocks_then places_then runs in_caps is victim plan reserves
    mine others =
    let below : task < length running = omega (arith, runs.len, in_caps) in
    record {
      len = length-set running task (Some new) ∙ runs.len ∙ ap (λ p. length p.caps) (sym plan);
      each = λ u d now. elim (who_runs running task u (Some new) d below now) [
        | inl it ↦
            let d_is : new ≡ d = (let e : Some new ≡ Some d = it.1 in cc) in
            subst (λ (x : Collection). RunWell after pages blocks_then places_then u x) d_is
            (subst (λ (t : ℕ). RunWell after pages blocks_then places_then t new) (sym it.0) mine)
        | inr it ↦ others u d it.0 it.1 (runs.each u d it.1)
      ];
      apart = λ u x d f now too same.
          let at_u = old_victim running task u c new d below is victim now in
          let at_x = old_victim running task x c new f below is victim too in
          runs.apart u x at_u.0 at_x.0 at_u.1 at_x.1 (at_u.2 ∙ same ∙ sym at_x.2);
      idle = λ u h now. elim (cases_eq u task) [
        | inl same ↦
            let there : running_of (set running task (Some new)) u
            ≡ Some new = ap (λ (j : ℕ). running_of (set running task (Some new)) j) same
            ∙ get_or-set_same running task (Some new) None below in
            absurd (cc)
        | inr other ↦ reserves u other ∙ runs.idle u (omega (arith, h, ap (λ p. length p.caps) plan))
            (sym (get_or-set_other running task u (Some new) None other) ∙ now) ∙ ap (λ p. pages - p.alpha) (sym plan)
      ];
    }

-- a task's collection is done
pub runs_ended : {accounts : Accounts} (after : Accounts) {pages : ℕ} {blocks : List Block} {places : List (Option Place)}
    {running : List (Option Collection)} (task : ℕ) (c : Collection) (new : Block) → RunsWell accounts pages blocks places running → task
    < length accounts.plan.caps → running_of running task ≡ Some c → after.plan ≡ accounts.plan
    → ((u : ℕ) → u ≢ task → get_or after.reserves u 0 ≡ get_or accounts.reserves u 0) → get_or after.reserves task 0
    ≡ pages - accounts.plan.alpha → RunsWell after pages (set blocks c.victim new) places (set running task None)
runs_ended {accounts} after {pages} {blocks} {places} {running} task c new runs in_caps is plan reserves refilled =
    let below : task < length running = omega (arith, runs.len, in_caps) in
    let still : (u : ℕ) (d : Collection) → running_of (set running task None) u ≡ Some d → (u ≢ task)
    × (running_of running u ≡ Some d) = (λ u d now. elim (who_runs running task u None d below now) [
      | inl it ↦ absurd (let e : None ≡ Some d = it.1 in cc)
      | inr it ↦ (it.0, it.1)
    ]) in
    record {
      len = length-set running task None ∙ runs.len ∙ ap (λ p. length p.caps) (sym plan);
      each = λ u d now.
          let was = still u d now in
          run_elsewhere after c.victim new (runs.each u d was.1) (λ same. was.0 (runs.apart u task d c was.1 is same)) (reserves u was.0);
      apart = λ u x d f now too same. runs.apart u x d f (still u d now).1 (still x f too).1 same;
      idle = λ u h now. elim (cases_eq u task) [
        | inl same ↦ ap (λ (j : ℕ). get_or after.reserves j 0) same ∙ refilled ∙ ap (λ p. pages - p.alpha) (sym plan)
        | inr other ↦ reserves u other ∙ runs.idle u (omega (arith, h, ap (λ p. length p.caps) plan))
            (sym (get_or-set_other running task u None None other) ∙ now) ∙ ap (λ p. pages - p.alpha) (sym plan)
      ];
    }

-- a task's collection begins
pub runs_begun : {accounts : Accounts} {pages : ℕ} {blocks : List Block} {places : List (Option Place)} {running : List (Option Collection)}
    (task : ℕ) (new : Collection) → RunsWell accounts pages blocks places running → task < length accounts.plan.caps
    → running_of running task ≡ None → RunWell accounts pages blocks places task new
    → ((u : ℕ) (d : Collection) → running_of running u ≡ Some d → d.victim ≢ new.victim)
    → RunsWell accounts pages blocks places (set running task (Some new))
runs_begun {accounts} {pages} {blocks} {places} {running} task new runs in_caps none mine alone =
    let below : task < length running = omega (arith, runs.len, in_caps) in
    record {
      len = length-set running task (Some new) ∙ runs.len;
      each = λ u d now. elim (who_runs running task u (Some new) d below now) [
        | inl it ↦
            let d_is : new ≡ d = (let e : Some new ≡ Some d = it.1 in cc) in
            subst (λ (x : Collection). RunWell accounts pages blocks places u x) d_is
            (subst (λ (t : ℕ). RunWell accounts pages blocks places t new) (sym it.0) mine)
        | inr it ↦ runs.each u d it.1
      ];
      apart = λ u x d f now too same. elim (who_runs running task u (Some new) d below now) [
        | inl at_u ↦ elim (who_runs running task x (Some new) f below too) [
          | inl at_x ↦ at_u.0 ∙ sym at_x.0
          | inr at_x ↦
              let d_is : new ≡ d = (let e : Some new ≡ Some d = at_u.1 in cc) in
              absurd (alone x f at_x.1 (sym same ∙ ap (λ (y : Collection). y.victim) (sym d_is)))
        ]
        | inr at_u ↦ elim (who_runs running task x (Some new) f below too) [
          | inl at_x ↦
              let f_is : new ≡ f = (let e : Some new ≡ Some f = at_x.1 in cc) in
              absurd (alone u d at_u.1 (same ∙ ap (λ (y : Collection). y.victim) (sym f_is)))
          | inr at_x ↦ runs.apart u x d f at_u.1 at_x.1 same
        ]
      ];
      idle = λ u h now. elim (cases_eq u task) [
        | inl same ↦
            let there : running_of (set running task (Some new)) u
            ≡ Some new = ap (λ (j : ℕ). running_of (set running task (Some new)) j) same
            ∙ get_or-set_same running task (Some new) None below in
            absurd (cc)
        | inr other ↦ runs.idle u h (sym (get_or-set_other running task u (Some new) None other) ∙ now)
      ];
    }

-- The blocks that may be collected

none_of : (o : Option ℕ) → is_some o ≡ false → o ≡ None
none_of None is = refl
none_of (Some n) is = absurd (cc)

some_not_none : (o : Option ℕ) → IsSome o → o ≡ None → ⊥
some_not_none None some is = cc
some_not_none (Some n) some is = cc

-- a page was programmed
pub picks_written : {accounts : Accounts} {shape : Shape} {blocks : List Block} {places : List (Option Place)}
    {running : List (Option Collection)} {counts : List (Option ℕ)} {place : Place} (bytes : PageData) (counts_then : List (Option ℕ))
    → RunsWell accounts shape.pages blocks places running → PicksWell shape.pages blocks counts running → Fits shape blocks place
    → ((block : ℕ) → block ≢ place.block → is_some (count_of counts_then block) ≡ is_some (count_of counts block))
    → (filled_of (block_at (blocks_after_program blocks place.block bytes) place.block) ≡ shape.pages → IsSome (count_of counts_then place.block))
    → PicksWell shape.pages (blocks_after_program blocks place.block bytes) counts_then running
picks_written {accounts} {shape} {blocks} {places} {running} {counts} {place} bytes counts_then runs picks fit others closes = record {
  taken = λ t c is. none_of (count_of counts_then c.victim) (others c.victim (not_open (runs.each t c is) fit)
      ∙ ap is_some (picks.taken t c is));
  closed = λ block below closed none. elim (cases_eq block place.block) [
    | inl same ↦
        let some : IsSome (count_of counts_then place.block) = closes
        (ap (λ (b : ℕ). filled_of (block_at (blocks_after_program blocks place.block bytes) b)) (sym same) ∙ closed) in
        let nothing : count_of counts_then place.block ≡ None = ap (λ (b : ℕ). count_of counts_then b) (sym same) ∙ none in
        absurd (some_not_none (count_of counts_then place.block) some nothing)
    | inr other ↦ picks.closed block (omega (arith, below, count_programmed blocks place.block bytes))
        (sym (ap filled_of (other_block blocks place.block block bytes other)) ∙ closed)
        (none_of (count_of counts block) (sym (others block other) ∙ ap is_some none))
  ];
}

-- the same blocks are candidates
pub picks_kept : {pages : ℕ} {blocks : List Block} {running : List (Option Collection)} {counts : List (Option ℕ)}
    (counts_then : List (Option ℕ)) → PicksWell pages blocks counts running
    → ((block : ℕ) → is_some (count_of counts_then block) ≡ is_some (count_of counts block)) → PicksWell pages blocks counts_then running
picks_kept {counts = counts} counts_then picks same = record {
  taken = λ t c is. none_of (count_of counts_then c.victim) (same c.victim ∙ ap is_some (picks.taken t c is));
  closed = λ block below closed none. picks.closed block below closed
      (none_of (count_of counts block) (sym (same block) ∙ ap is_some none));
}

-- a task's collection changed, but not its victim
pub picks_changed : {pages : ℕ} {blocks : List Block} {counts : List (Option ℕ)} {running : List (Option Collection)} (task : ℕ)
    (c new : Collection) → PicksWell pages blocks counts running → task < length running → running_of running task ≡ Some c → new.victim
    ≡ c.victim → PicksWell pages blocks counts (set running task (Some new))
picks_changed {pages} {blocks} {counts} {running} task c new picks below is victim = record {
  taken = λ u d now.
      let was = old_victim running task u c new d below is victim now in
      ap (λ (v : ℕ). count_of counts v) (sym was.2) ∙ picks.taken u was.0 was.1;
  closed = λ block in_range closed none.
      let it = picks.closed block in_range closed none in
      elim (cases_eq it.task task) [
        | inl same ↦
            let c_is : c ≡ it.collection = (let e : Some c ≡ Some it.collection = sym is ∙ ap (λ (j : ℕ). running_of running j) (sym same)
            ∙ it.runs in cc) in
            record {
              task = task;
              collection = new;
              runs = get_or-set_same running task (Some new) None below;
              victim = victim
                  ∙ ap (λ (x : Collection). x.victim) c_is ∙ it.victim;
            }
        | inr other ↦ record {
          task = it.task;
          collection = it.collection;
          runs = get_or-set_other running task it.task (Some new) None
              other ∙ it.runs;
          victim = it.victim;
        }
      ];
}

-- a block had a slot of its erase
pub picks_erased : {pages : ℕ} {blocks : List Block} {counts : List (Option ℕ)} {running : List (Option Collection)} (block : ℕ)
    (new : Block) → PicksWell pages blocks counts running → block < length blocks → filled_of (block_at blocks block) ≡ pages
    → PicksWell pages (set blocks block new) counts running
picks_erased {pages} {blocks} {counts} {running} block new picks in_range closed = record {
  taken = picks.taken;
  closed = λ k below filled none. elim (cases_eq k block) [
    | inl same ↦ picks.closed k (omega (arith, below, length-set blocks block new)) (ap (λ (b : ℕ). filled_of (block_at blocks b)) same
        ∙ closed) none
    | inr other ↦ picks.closed k (omega (arith, below, length-set blocks block new))
        (sym (ap filled_of (get_or-set_other blocks block k new free_block other)) ∙ filled) none
  ];
}

-- a block was freed, and its collection is done
pub picks_ended : {accounts : Accounts} {pages : ℕ} {blocks : List Block} {places : List (Option Place)} {counts : List (Option ℕ)}
    {running : List (Option Collection)} (task erases : ℕ) (c : Collection) → RunsWell accounts pages blocks places running
    → PicksWell pages blocks counts running → task < length accounts.plan.caps → running_of running task ≡ Some c → 0 < pages
    → PicksWell pages (set blocks c.victim (record { pages = []; erasing = 0; erases = erases })) counts (set running task None)
picks_ended {accounts} {pages} {blocks} {places} {counts} {running} task erases c runs picks in_caps is some =
    let new : Block = record { pages = []; erasing = 0; erases = erases } in
    let below : task < length running = omega (arith, runs.len, in_caps) in
    record {
      taken = λ u d now. elim (who_runs running task u None d below now) [
        | inl it ↦ absurd (let e : None ≡ Some d = it.1 in cc)
        | inr it ↦ picks.taken u d it.1
      ];
      closed = λ k in_range filled none. elim (cases_eq k c.victim) [
        | inl same ↦
            let freed : filled_of (block_at (set blocks c.victim new) k)
            ≡ 0 = ap (λ (b : ℕ). filled_of (block_at (set blocks c.victim new) b)) same
            ∙ ap filled_of (get_or-set_same blocks c.victim new free_block (runs.each task c is).in_range) in
            absurd (omega (arith, freed, filled, some))
        | inr other ↦
            let it = picks.closed k (omega (arith, in_range, length-set blocks c.victim new))
            (sym (ap filled_of (get_or-set_other blocks c.victim k new free_block other)) ∙ filled) none in
            let apart : it.task ≢ task = (λ same.
            let c_is : c ≡ it.collection = (let e : Some c ≡ Some it.collection = sym is ∙ ap (λ (j : ℕ). running_of running j) (sym same)
            ∙ it.runs in cc) in
            other (sym it.victim ∙ ap (λ (x : Collection). x.victim) (sym c_is))) in
            record {
              task = it.task;
              collection = it.collection;
              runs = get_or-set_other running task it.task None None apart
                  ∙ it.runs;
              victim = it.victim;
            }
      ];
    }
