-- The head of a table is the least of those that are ready in its log.
use Rattle.std.proofs.Common.{◌≡◌, ℕ, zero, suc, ◌<◌, ◌==◌, ◌||◌, ◌&&◌, not, nat_le, Bool, true, false, cond, List, [], ◌∷◌, ◌++◌, Option}
use Rattle.std.proofs.Common.{Some, None, refl, ap, sym, ◌∙◌, subst, length, map, filter, slice_get, arith}
use Rattle.std.specs.Prelude.{Contains}
use Rattle.std.specs.List.{AllByRecursion}
use Rattle.std.proofs.lemmas.Bool.{true≢false}
use Rattle.std.proofs.lemmas.Bool.Decides.{nat_tests}
use Rattle.std.proofs.lemmas.List.{length-map, get_or-map}
use Rattle.std.proofs.lemmas.List.Elements.{All-contains_itself, recursion_from_All}
use Rattle.std.proofs.lemmas.Option.{slice_get-get_or, get_or_from_slice_get, slice_get_within, same_Some, none-some}
use Rattle.slot_types.specs.declared.plans.DiePlan.{DiePlan}
use Rattle.slot_types.specs.declared.replies.Waived.{Waived}
use Rattle.job_table.specs.Jobs.{JobRecord, is_pending}
use Rattle.job_table.specs.Table.{Table}
use Rattle.job_table.specs.Order as table
use Rattle.die_log.specs.Model.Log.{Log, Job, jobs, now, waived_collections, is_waived}
use Rattle.die_log.specs.Model.Work.{is_ready, ready, is_done, goes_first, least, completion}
use Rattle.die_log.specs.Results.Legal.{is_among}
use Rattle.die_log.specs.Invariants.RunningCollections.{AreNumbered}
use Rattle.die_log.proofs.Choices.{OfSome, least_all}
use Rattle.die_log.proofs.Heads.{none_before}
use Rattle.die_log.proofs.LogInvariants.OneMoreEntry.{number_at, stands_at, same_job, kept_both}
use Rattle.slot_core.specs.Records.{record_with, waiver_among, stage_by, pages_given}
use Rattle.slot_core.specs.WithinSlot.{without_waived}
use Rattle.slot_core.proofs.Choosing.{filter_twice}
use Rattle.die_log.specs.Model.Start.{Start}

-- Lists that are mapped

pub slice_get-map : {X Y : Type 0} (f : X → Y) (xs : List X) (n : ℕ) (x : X) → slice_get xs n ≡ Some x → slice_get (map f xs) n ≡ Some (f x)
slice_get-map f xs n x at =
    let lt : n < length xs = slice_get_within xs n x at in
    slice_get-get_or (map f xs) n (f x) (omega (arith, length-map xs f))
    ∙ ap Some (get_or-map f xs n x (f x) lt ∙ ap f (get_or_from_slice_get xs n x x at))

nothing_within : {X : Type 0} (zs : List X) (k : ℕ) → slice_get zs k ≡ None → k < length zs → ⊥
nothing_within [] k h lt = omega arith
nothing_within (z ∷ zs) zero h lt = none-some z (sym h)
nothing_within (z ∷ zs) (suc k) h lt = nothing_within zs k h (omega arith)

pub slice_get-mapped : {X Y : Type 0} (f : X → Y) (xs : List X) (n : ℕ) (y : Y) → slice_get (map f xs) n ≡ Some y → (x : X)
    × (slice_get xs n ≡ Some x) × (f x ≡ y)
slice_get-mapped {X = X} {Y = Y} f xs n y at = by_found (slice_get xs n) refl
  where
    by_found : (o : Option X) → slice_get xs n ≡ o → (x : X) × (slice_get xs n ≡ Some x) × (f x ≡ y)
    by_found (Some x) e = (x, e, same_Some (f x) y (sym (slice_get-map f xs n x e) ∙ at))
    by_found None e = absurd (nothing_within xs n e (omega (arith, slice_get_within (map f xs) n y at, length-map xs f)))

-- Pending and ready ones

abbrev pub is_some_waiver : Option Waived → Bool
is_some_waiver None = false
is_some_waiver (Some w) = true

pub waiver_is : (n : ℕ) (ws : List Waived) → is_some_waiver (waiver_among n ws) ≡ is_among n ws
waiver_is n [] = refl
waiver_is n (w ∷ ws) = by_case (w.number == n) (waiver_is n ws)
  where
    by_case : (b : Bool) → is_some_waiver (waiver_among n ws) ≡ is_among n ws → is_some_waiver (cond b (Some w) (waiver_among n ws))
        ≡ (b || is_among n ws)
    by_case true h = refl
    by_case false h = h

pending_by : (o : Option Waived) (done : Bool) (c g : ℕ) → is_pending (stage_by o done c g) ≡ (not done && not (is_some_waiver o))
pending_by (Some w) true c g = refl
pending_by (Some w) false c g = refl
pending_by None true c g = refl
pending_by None false c g = refl

-- a record is pending where the job is neither done nor among the waived
pub pending_is : (start : Start) (past : Log) (ws : List Waived) (j : Job) → is_pending (record_with start past ws j).stage
    ≡ (not (is_done start.plan past j) && not (is_among j.number ws))
pending_is start past ws j =
    pending_by (waiver_among j.number ws) (is_done start.plan past j) (completion j.number past) (pages_given start j.number past)
    ∙ ap (λ b. not (is_done start.plan past j) && not b) (waiver_is j.number ws)

pub among_both : (n : ℕ) (xs ys : List Waived) → is_among n (xs ++ ys) ≡ (is_among n xs || is_among n ys)
among_both n [] ys = refl
among_both n (x ∷ xs) ys = by_case (x.number == n) (among_both n xs ys)
  where
    by_case : (b : Bool) → is_among n (xs ++ ys) ≡ (is_among n xs || is_among n ys) → (b || is_among n (xs ++ ys))
        ≡ ((b || is_among n xs) || is_among n ys)
    by_case true h = refl
    by_case false h = h

-- ready, and not among these waived
abbrev pub stays : DiePlan → Log → List Waived → Job → Bool
stays plan past ws i = is_ready plan past i && not (is_among i.number ws)

tests_join : (a b c d : Bool) → (a && (not b && not (c || d))) ≡ (((a && not b) && not c) && not d)
tests_join true true true true = refl
tests_join true true true false = refl
tests_join true true false true = refl
tests_join true true false false = refl
tests_join true false true true = refl
tests_join true false true false = refl
tests_join true false false true = refl
tests_join true false false false = refl
tests_join false b c d = refl

-- a record is ready where its job is ready and stays
pub ready_is : (start : Start) (past : Log) (ws : List Waived) (j : Job)
    → table.is_ready (now past) (record_with start past (waived_collections past ++ ws) j) ≡ stays start.plan past ws j
ready_is start past ws j =
    ap (λ b. nat_le j.release (now past) && b) (pending_is start past (waived_collections past ++ ws) j
    ∙ ap (λ b. not (is_done start.plan past j) && not b) (among_both j.number (waived_collections past) ws))
    ∙ tests_join (nat_le j.release (now past)) (is_done start.plan past j) (is_waived past j.number) (is_among j.number ws)

pub unwaived_is : (plan : DiePlan) (past : Log) (ws : List Waived) → without_waived ws (ready plan past) ≡ filter (stays plan past ws) (jobs past)
unwaived_is plan past ws = filter_twice (is_ready plan past) (λ i. not (is_among i.number ws)) (jobs past)

-- The least

-- what holds of all that are kept holds of one that passes
of_kept : (Q : Job → Type 0) (t : Job → Bool) (js : List Job) (n : ℕ) (j : Job) → slice_get js n ≡ Some j → t j ≡ true
    → AllByRecursion Q (filter t js) → Q j
of_kept Q t [] n j at passes h = absurd (none-some j at)
of_kept Q t (x ∷ js) zero j at passes h = by_head (t x) refl h
  where
    is : x ≡ j
    is = same_Some x j at

    by_head : (b : Bool) → t x ≡ b → AllByRecursion Q (cond b (x ∷ filter t js) (filter t js)) → Q j
    by_head true e k = subst Q is k.0
    by_head false e k = absurd (true≢false (sym passes ∙ (ap t (sym is) ∙ e)))
of_kept Q t (x ∷ js) (suc n) j at passes h = by_tail (t x) h (of_kept Q t js n j at passes)
  where
    by_tail : (b : Bool) → AllByRecursion Q (cond b (x ∷ filter t js) (filter t js)) → (AllByRecursion Q (filter t js) → Q j) → Q j
    by_tail true k again = again k.1
    by_tail false k again = again k

same_key : (i j : Job) → goes_first i j ≡ false → goes_first j i ≡ false → i.number ≡ j.number
same_key i j p q = grind (arith, nat_tests)

least_none : (xs : List Job) → least xs ≡ None → AllByRecursion (λ (i : Job). ⊥) xs
least_none [] e = tt
least_none (x ∷ xs) e = absurd cc

-- a table like this one, as the log has it with these waivers
abbrev pub table_at : Table → Start → Log → List Waived → Table
table_at like start past ws = record like { clock = now past; jobs = map (record_with start past (waived_collections past ++ ws)) (jobs past) }

-- the head of the table is the least of those that stay
pub head_least : (start : Start) (past : Log) (ws : List Waived) (like : Table) (n : ℕ) (j : Job) → AreNumbered 0 (jobs past)
    → slice_get (jobs past) n ≡ Some j
    → table.IsHead (table_at like start past ws) n → least (without_waived ws (ready start.plan past)) ≡ Some j
head_least start past ws like n j numbered at h = rw (unwaived_is start.plan past ws)
    (by_least (least (filter (stays start.plan past ws) (jobs past))) refl)
  where
    t : Job → Bool
    t = stays start.plan past ws

    head_is : record_with start past (waived_collections past ++ ws) j ≡ h.head
    head_is = same_Some _ _ (sym (slice_get-map (record_with start past (waived_collections past ++ ws)) (jobs past) n j at) ∙ h.is_at)

    passes : stays start.plan past ws j ≡ true
    passes = sym (ready_is start past ws j) ∙ (ap (table.is_ready (now past)) head_is ∙ h.ready)

    number_is : j.number ≡ n
    number_is = omega (arith, number_at 0 (jobs past) n j numbered at)

    by_least : (o : Option Job) → least (filter (stays start.plan past ws) (jobs past)) ≡ o → o ≡ Some j
    by_least None e = absurd (of_kept (λ (i : Job). ⊥) (stays start.plan past ws) (jobs past) n j at passes
        (least_none (filter (stays start.plan past ws) (jobs past)) e))
    by_least (Some m) e = ap Some (same_job (jobs past) m j numbered member.0 contained (same_key m j not_m not_j))
      where
        member : Contains (jobs past) m × (stays start.plan past ws m ≡ true)
        member = subst (OfSome (λ i. Contains (jobs past) i × (stays start.plan past ws i ≡ true))) e
            (least_all (λ i. Contains (jobs past) i × (stays start.plan past ws i ≡ true)) (filter (stays start.plan past ws) (jobs past))
            (kept_both (Contains (jobs past)) (stays start.plan past ws) (jobs past)
            (recursion_from_All (Contains (jobs past)) (jobs past) (All-contains_itself (jobs past)))))

        contained : Contains (jobs past) j
        contained = (n, slice_get_within (jobs past) n j at, get_or_from_slice_get (jobs past) n j j at)

        not_j : goes_first j m ≡ false
        not_j = of_kept (λ i. goes_first i m ≡ false) (stays start.plan past ws) (jobs past) n j at passes
            (subst (OfSome (λ k. AllByRecursion (λ i. goes_first i k ≡ false) (filter (stays start.plan past ws) (jobs past)))) e
            (none_before (filter (stays start.plan past ws) (jobs past))))

        there : slice_get (jobs past) m.number ≡ Some m
        there = stands_at (jobs past) m numbered member.0

        not_m : goes_first m j ≡ false
        not_m = subst (λ (k : ℕ). goes_first m (record j { number = k }) ≡ false) (sym number_is)
            (subst (λ (r : JobRecord). table.goes_before m.number (record_with start past (waived_collections past ++ ws) m) n r ≡ false) (sym head_is)
            (h.first m.number (record_with start past (waived_collections past ++ ws) m)
            (slice_get-map (record_with start past (waived_collections past ++ ws)) (jobs past) m.number m there) (ready_is start past ws m
            ∙ member.1)))

none_kept : (t : Job → Bool) (js : List Job) → ((n : ℕ) (j : Job) → slice_get js n ≡ Some j → t j ≡ false) → filter t js ≡ []
none_kept t [] h = refl
none_kept t (x ∷ js) h = rw (h 0 x refl) (none_kept t js (λ n j e. h (suc n) j e))

-- where no record is ready, nobody stays
pub nothing_least : (start : Start) (past : Log) (ws : List Waived) (like : Table)
    → table.NothingReady (table_at like start past ws) → least (without_waived ws (ready start.plan past)) ≡ None
nothing_least start past ws like h =
    ap least (unwaived_is start.plan past ws
    ∙ none_kept (stays start.plan past ws) (jobs past) (λ n j e. sym (ready_is start past ws j)
    ∙ h n (record_with start past (waived_collections past ++ ws) j) (slice_get-map (record_with start past (waived_collections past ++ ws)) (jobs past) n j e)))
