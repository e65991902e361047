-- The victim that a volume takes is the log's.
use Rattle.std.proofs.Common.{◌≡◌, ◌⊎◌, inl, inr, ℕ, zero, suc, ◌+◌, ◌<◌, ◌≤◌, ◌==◌, ◌&&◌, ◌||◌, not, nat_lt, Bool, true, false, cond, List}
use Rattle.std.proofs.Common.{[], ◌∷◌, Option, Some, None, refl, ap, sym, ◌∙◌, subst, length, map, filter, fold, count_by, slice_index_or}
use Rattle.std.proofs.Common.{if◌then◌else◌, arith}
use Rattle.std.specs.List.{AllByRecursion, range_with_len, reduce}
use Rattle.std.proofs.lemmas.Bool.{cases_lt, true≢false, and_parts, and_from, not-true, not_from_false, false_from_ne_true, eqb-true}
use Rattle.std.proofs.lemmas.Bool.{eq-eqb}
use Rattle.std.proofs.lemmas.Bool.Decides.{nat_tests}
use Rattle.std.proofs.lemmas.List.{length-map}
use Rattle.slot_types.specs.declared.plans.DiePlan.{DiePlan}
use Rattle.slot_types.specs.declared.pages.Place.{Place}
use Rattle.slot_types.specs.Places.{is_in}
use Rattle.flash_die.specs.Flash as device
use Rattle.flash_volume.specs.declared.collection.Collection.{Collection}
use Rattle.flash_volume.specs.Cells.{filled_of}
use Rattle.flash_volume.specs.Running.{running_of}
use Rattle.flash_volume.specs.Picks.{IsCandidate, IsVictim}
use Rattle.die_log.specs.Model.Log.{Log, jobs}
use Rattle.die_log.specs.Model.Flash.{Block, cells, block_at, is_closed, valid, free_block}
use Rattle.die_log.specs.Model.Work.{victim_of}
use Rattle.die_log.specs.Model.Answers.{goes_before, is_running, is_block, is_collected, candidates, victim}
use Rattle.die_log.specs.Invariants.SoundCells.{AreSoundCells}
use Rattle.die_log.specs.Invariants.RunningCollections.{RunsOnBlock}
use Rattle.die_log.proofs.Cells.Collections.{is_block_says}
use Rattle.die_log.proofs.LogInvariants.HeadActs.{runs_collected}
use Rattle.die_log.proofs.LogInvariants.OneMoreEntry.{contained}
use Rattle.die_log.proofs.Tokens.Searches.{any_found}
use Rattle.slot_core.specs.Device.{counts_of, AreRunning}
use Rattle.slot_core.proofs.Flashing.{counted}
use Rattle.die_log.specs.Model.Start.{Start}

-- The least of a rising list

-- each is above the one before, and the first is at least `low`
abbrev RisesFrom : ℕ → List ℕ → Type 0
RisesFrom low [] = Unit {0}
RisesFrom low (x ∷ xs) = (low ≤ x) × RisesFrom (x + 1) xs

abbrev IsOneOf : ℕ → List ℕ → Type 0
IsOneOf v [] = ⊥
IsOneOf v (x ∷ xs) = (x ≡ v) ⊎ IsOneOf v xs

rises_lower : (low high : ℕ) (xs : List ℕ) → low ≤ high → RisesFrom high xs → RisesFrom low xs
rises_lower low high [] le h = tt
rises_lower low high (x ∷ xs) le h = (omega (arith, le, h.0), h.1)

-- no key is smaller, of equal ones none is less worn, and of these none comes before
pub record NotAfter (key worn : ℕ → ℕ) (v o : ℕ) : Type 0 where
  pub least : key v ≤ key o
  pub least_worn : key o ≡ key v → worn v ≤ worn o
  pub first : key o ≡ key v → worn o ≡ worn v → v ≤ o

abbrev goes : (ℕ → ℕ) → (ℕ → ℕ) → ℕ → ℕ → Bool
goes key worn b best = nat_lt (key b) (key best) || ((key b == key best) && nat_lt (worn b) (worn best))

abbrev lesser : (ℕ → ℕ) → (ℕ → ℕ) → ℕ → ℕ → ℕ
lesser key worn best b = if goes key worn b best then b else best

more_stays : (m n p q : ℕ) → n < m → (nat_lt m n || ((m == n) && nat_lt p q)) ≡ false
more_stays m n p q h = grind (arith, nat_tests)

worn_stays : (m n p q : ℕ) → m ≡ n → q ≤ p → (nat_lt m n || ((m == n) && nat_lt p q)) ≡ false
worn_stays m n p q same h = grind (arith, nat_tests)

not_less : (m n p q : ℕ) → n ≤ m → (m ≡ n → q ≤ p) → (nat_lt m n || ((m == n) && nat_lt p q)) ≡ false
not_less m n p q h worn = elim (cases_lt n m) [
  | inl more ↦ more_stays m n p q more
  | inr few ↦ let same : m ≡ n = omega (arith, h, few) in worn_stays m n p q same (worn same)
]

stays_least : (m n p q : ℕ) → (nat_lt m n || ((m == n) && nat_lt p q)) ≡ false → n ≤ m
stays_least m n p q e = grind (arith, nat_tests)

stays_worn : (m n p q : ℕ) → (nat_lt m n || ((m == n) && nat_lt p q)) ≡ false → m ≡ n → q ≤ p
stays_worn m n p q e same = grind (arith, nat_tests)

fold_least : (key worn : ℕ → ℕ) (v best : ℕ) (xs : List ℕ) → RisesFrom (best + 1) xs → NotAfter key worn v best
    → AllByRecursion (NotAfter key worn v) xs → (best ≡ v) ⊎ IsOneOf v xs → fold (lesser key worn) best xs ≡ v
fold_least key worn v best [] rises before all (inl is) = is
fold_least key worn v best [] rises before all (inr none) = absurd none
fold_least key worn v best (x ∷ xs) rises before all (inl is) =
    ap (λ (b : Bool). fold (lesser key worn) (cond b x best) xs)
    (not_less (key x) (key best) (worn x) (worn best) (omega (arith, all.0.least, ap key is))
    (λ same. omega (arith, all.0.least_worn (same ∙ ap key is), ap worn is)))
    ∙ fold_least key worn v best xs (rises_lower (best + 1) (x + 1) xs (omega (arith, rises.0)) rises.1) before all.1 (inl is)
fold_least key worn v best (x ∷ xs) rises before all (inr found) =
    by_test (goes key worn x best) refl found (λ place. fold_least key worn v x xs rises.1 all.0 all.1 place)
    (λ later. fold_least key worn v best xs (rises_lower (best + 1) (x + 1) xs (omega (arith, rises.0)) rises.1) before all.1 (inr later))
  where
    too_late : goes key worn x best ≡ false → x ≡ v → ⊥
    too_late e is =
        let le : key best ≤ key x = stays_least (key x) (key best) (worn x) (worn best) e in
        let same : key x ≡ key v = ap key is in
        let as_few : key best ≡ key v = omega (arith, le, same, before.least) in
        let worn_le : worn best ≤ worn x = stays_worn (key x) (key best) (worn x) (worn best) e (same ∙ sym as_few) in
        let as_worn : worn best ≡ worn v = omega (arith, worn_le, ap worn is, before.least_worn as_few) in
        absurd (omega (arith, before.first as_few as_worn, rises.0, is))

    by_test : (b : Bool) → goes key worn x best ≡ b → (x ≡ v) ⊎ IsOneOf v xs → ((x ≡ v) ⊎ IsOneOf v xs → fold (lesser key worn) x xs ≡ v)
        → (IsOneOf v xs → fold (lesser key worn) best xs ≡ v) → fold (lesser key worn) (cond b x best) xs ≡ v
    by_test true e place taken kept = taken place
    by_test false e (inl is) taken kept = absurd (too_late e is)
    by_test false e (inr later) taken kept = kept later

reduce_least : (key worn : ℕ → ℕ) (v : ℕ) (xs : List ℕ) → RisesFrom 0 xs → AllByRecursion (NotAfter key worn v) xs → IsOneOf v xs
    → reduce (lesser key worn) xs ≡ Some v
reduce_least key worn v [] rises all none = absurd none
reduce_least key worn v (x ∷ xs) rises all found = ap (λ (n : ℕ). Some n) (fold_least key worn v x xs rises.1 all.0 all.1 found)

-- The numbers that pass a test

filter_rises : (t : ℕ → Bool) (a n : ℕ) → RisesFrom a (filter t (range_with_len a n))
filter_rises t a zero = tt
filter_rises t a (suc n) = by_test (t a) (filter_rises t (a + 1) n)
  where
    by_test : (b : Bool) → RisesFrom (a + 1) (filter t (range_with_len (a + 1) n))
        → RisesFrom a (cond b (a ∷ filter t (range_with_len (a + 1) n)) (filter t (range_with_len (a + 1) n)))
    by_test true h = (omega arith, h)
    by_test false h = rises_lower a (a + 1) (filter t (range_with_len (a + 1) n)) (omega arith) h

filter_all : (t : ℕ → Bool) (Q : ℕ → Type 0) (a n : ℕ) → ((o : ℕ) → o < a + n → t o ≡ true → Q o)
    → AllByRecursion Q (filter t (range_with_len a n))
filter_all t Q a zero h = tt
filter_all t Q a (suc n) h = by_test (t a) refl (filter_all t Q (a + 1) n (λ o lt e. h o (omega (arith, lt)) e))
  where
    by_test : (b : Bool) → t a ≡ b → AllByRecursion Q (filter t (range_with_len (a + 1) n))
        → AllByRecursion Q (cond b (a ∷ filter t (range_with_len (a + 1) n)) (filter t (range_with_len (a + 1) n)))
    by_test true e again = (h a (omega arith) e, again)
    by_test false e again = again

filter_has : (t : ℕ → Bool) (a n v : ℕ) → a ≤ v → v < a + n → t v ≡ true → IsOneOf v (filter t (range_with_len a n))
filter_has t a zero v low high e = absurd (omega (arith, low, high))
filter_has t a (suc n) v low high e = by_place (a == v) refl (λ above. filter_has t (a + 1) n v above (omega (arith, high)) e)
  where
    there : a ≡ v → IsOneOf v (cond (t a) (a ∷ filter t (range_with_len (a + 1) n)) (filter t (range_with_len (a + 1) n)))
    there is = rw (ap t is ∙ e) (inl is)

    later : (b : Bool) → IsOneOf v (filter t (range_with_len (a + 1) n))
        → IsOneOf v (cond b (a ∷ filter t (range_with_len (a + 1) n)) (filter t (range_with_len (a + 1) n)))
    later true h = inr h
    later false h = h

    above : (x y : ℕ) → x ≤ y → (x == y) ≡ false → x + 1 ≤ y
    above x y le ne = grind (arith, nat_tests)

    by_place : (b : Bool) → (a == v) ≡ b → (a + 1 ≤ v → IsOneOf v (filter t (range_with_len (a + 1) n)))
        → IsOneOf v (cond (t a) (a ∷ filter t (range_with_len (a + 1) n)) (filter t (range_with_len (a + 1) n)))
    by_place true is again = there (eqb-true a v is)
    by_place false apart again = later (t a) (again (above a v low apart))

-- Closed blocks

abbrev is_candidate : Start → Log → ℕ → Bool
is_candidate start past b = is_closed start.plan (block_at (cells start past) b) && not (is_collected start past b)

filled_is : (start : Start) (past : Log) (blocks : List device.Block) (b : ℕ) → map counts_of blocks ≡ (cells start past).blocks
    → filled_of (device.block_at blocks b) ≡ (block_at (cells start past) b).filled
filled_is start past blocks b are = ap (λ (s : Block). s.filled) (counted blocks b
    ∙ ap (λ (bs : List Block). slice_index_or bs b free_block) are)

pub erases_is : (start : Start) (past : Log) (blocks : List device.Block) (b : ℕ) → map counts_of blocks ≡ (cells start past).blocks
    → (device.block_at blocks b).erases ≡ (block_at (cells start past) b).erases
erases_is start past blocks b are = ap (λ (s : Block). s.erases) (counted blocks b
    ∙ ap (λ (bs : List Block). slice_index_or bs b free_block) are)

closed_is : (start : Start) (past : Log) (blocks : List device.Block) (running : List (Option Collection)) (b : ℕ)
    → AreSoundCells start.plan (cells start past) → map counts_of blocks ≡ (cells start past).blocks → AreRunning start past running
    → b < start.plan.shape.blocks → is_candidate start past b ≡ true → IsCandidate start.plan.shape.pages blocks running b
closed_is start past blocks running b sound are r lt e =
    let parts = and_parts (is_closed start.plan (block_at (cells start past) b)) (not (is_collected start past b)) e in record {
      in_range = omega (arith, lt, sound.blocks, length-map blocks counts_of, ap length are);
      closed = filled_is start past blocks b are ∙ eqb-true _ _ parts.0;
      alone = λ task c at is.
          let i = r.each task c at in
          true≢false (sym (runs_collected start past i.0 b (subst (λ (x : ℕ). RunsOnBlock start past i.0 x) is i.1.runs))
          ∙ not-true (is_collected start past b) parts.1);
    }

-- a block that somebody collects in the log is a victim of the volume
collected_runs : (start : Start) (past : Log) (running : List (Option Collection)) (b : ℕ) → AreRunning start past running
    → is_collected start past b ≡ true
    → (task : ℕ) × (c : Collection) × (running_of running task ≡ Some c) × (c.victim ≡ b)
collected_runs start past running b r e =
    let f = any_found (λ j. is_running start.plan past j && is_block b (victim_of start j.number past)) (jobs past) e in
    let both = and_parts (is_running start.plan past f.0) (is_block b (victim_of start f.0.number past)) f.1.passes in
    let c = r.all f.0 b (record {
      stands = contained (jobs past) f.1.place f.0 f.1.stands;
      running = both.0;
      victim = is_block_says b
          (victim_of start f.0.number past) both.1;
    }) in
    (f.0.task, c.0, c.1, c.2)

candidate_is : (start : Start) (past : Log) (blocks : List device.Block) (running : List (Option Collection)) (b : ℕ)
    → map counts_of blocks ≡ (cells start past).blocks → AreRunning start past running
    → IsCandidate start.plan.shape.pages blocks running b → is_candidate start past b ≡ true
candidate_is start past blocks running b are r closed =
    and_from (is_closed start.plan (block_at (cells start past) b)) (not (is_collected start past b))
    (eq-eqb _ _ (sym (filled_is start past blocks b are) ∙ closed.closed))
    (not_from_false (is_collected start past b) (false_from_ne_true (is_collected start past b)
    (λ e. let t = collected_runs start past running b r e in closed.alone t.0 t.1 t.2 t.3)))

-- the volume's choice is the log's
pub victim_is : (start : Start) (past : Log) (blocks : List device.Block) (places : List (Option Place))
    (running : List (Option Collection)) (b : ℕ) → AreSoundCells start.plan (cells start past) → map counts_of blocks ≡ (cells start past).blocks
    → places ≡ (cells start past).places
    → AreRunning start past running → IsVictim start.plan.shape.pages blocks places running b → victim start past ≡ Some b
victim_is start past blocks places running b sound are places_are r v =
    reduce_least (valid (cells start past)) (λ (d : ℕ). (block_at (cells start past) d).erases) b (candidates start past)
    (filter_rises (is_candidate start past) 0 start.plan.shape.blocks)
    (filter_all (is_candidate start past) (NotAfter (valid (cells start past)) (λ (d : ℕ). (block_at (cells start past) d).erases) b) 0
    start.plan.shape.blocks not_after)
    (filter_has (is_candidate start past) 0 start.plan.shape.blocks b (omega arith)
    (omega (arith, v.candidate.in_range, sound.blocks, length-map blocks counts_of, ap length are))
    (candidate_is start past blocks running b are r v.candidate))
  where
    count_is : (o : ℕ) → count_by (is_in o) places ≡ valid (cells start past) o
    count_is o = ap (count_by (is_in o)) places_are

    worn_is : (o : ℕ) → (device.block_at blocks o).erases ≡ (block_at (cells start past) o).erases
    worn_is o = erases_is start past blocks o are

    not_after : (o : ℕ) → o < 0 + start.plan.shape.blocks → is_candidate start past o ≡ true
        → NotAfter (valid (cells start past)) (λ (d : ℕ). (block_at (cells start past) d).erases) b o
    not_after o lt e =
        let closed = closed_is start past blocks running o sound are r (omega (arith, lt)) e in
        let as_few : valid (cells start past) o ≡ valid (cells start past) b → count_by (is_in o) places
        ≡ count_by (is_in b) places = (λ same. count_is o ∙ (same ∙ sym (count_is b))) in
        record {
          least = omega (arith, v.fewest o closed, count_is b, count_is o);
          least_worn = λ same. omega (arith, v.least_worn o closed (as_few same), worn_is b, worn_is o);
          first = λ same as_worn. v.first o closed (as_few same) (worn_is o ∙ (as_worn ∙ sym (worn_is b)));
        }

none_pass : (t : ℕ → Bool) (a n : ℕ) → ((o : ℕ) → o < a + n → t o ≡ true → ⊥) → filter t (range_with_len a n) ≡ []
none_pass t a zero h = refl
none_pass t a (suc n) h = by_test (t a) refl (none_pass t (a + 1) n (λ o lt e. h o (omega (arith, lt)) e))
  where
    by_test : (b : Bool) → t a ≡ b → filter t (range_with_len (a + 1) n) ≡ []
        → cond b (a ∷ filter t (range_with_len (a + 1) n)) (filter t (range_with_len (a + 1) n)) ≡ []
    by_test true e again = absurd (h a (omega arith) e)
    by_test false e again = again

-- where no block is a candidate, the log has no victim
pub no_victim : (start : Start) (past : Log) (blocks : List device.Block) (running : List (Option Collection))
    → AreSoundCells start.plan (cells start past) → map counts_of blocks ≡ (cells start past).blocks → AreRunning start past running
    → ((b : ℕ) → ¬ IsCandidate start.plan.shape.pages blocks running b) → victim start past ≡ None
no_victim start past blocks running sound are r none =
    ap (reduce (λ best b. if goes_before (cells start past) b best then b else best))
    (none_pass (is_candidate start past) 0 start.plan.shape.blocks
    (λ o lt e. none o (closed_is start past blocks running o sound are r (omega (arith, lt)) e)))
