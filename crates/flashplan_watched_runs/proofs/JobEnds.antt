-- What became of the jobs and collections of a log, one after the other.
use Rattle.std.proofs.Common.{◌≡◌, ◌∙◌, ap, sym, ℕ, zero, suc, ◌+◌, ◌≤◌, Bool, true, false, List, [], ◌∷◌, ◌++◌, length, map, take, refl, arith, Option, Some, None}
use Rattle.std.specs.Prelude.{nat_le, slice_get}
use Rattle.std.proofs.lemmas.List.{length-map}
use Rattle.std.proofs.lemmas.Option.{same_Some, none-some}
use Rattle.slot_types.specs.declared.replies.Waived.{Waived}
use Rattle.late_cert.specs.Schedule.{lateness_of as lateness_by}
use Rattle.job_table.specs.Jobs.{JobRecord}
use Rattle.die_log.specs.Model.Log.{Log, Job, jobs, now, waived_collections}
use Rattle.die_log.specs.Model.Start.{Start}
use Rattle.die_log.specs.Model.Work.{completion, is_done}
use Rattle.slot_core.specs.Records.{job_records, pages_given, record_with, stage_by, waiver_among}
use Rattle.flashplan_run_figures.specs.declared.ends.Ended.{Ended}
use Rattle.flashplan_run_figures.specs.declared.ends.JobEnd.{JobEnd}
use Rattle.flashplan_watched_runs.specs.Ends.{end_in, end_of, ended_as, ended_in, ends_of}

same_ended : (waiver : Option Waived) (done : Bool) (end given due slots : ℕ)
    → ended_in (stage_by waiver done end given) due slots ≡ ended_as waiver done (lateness_by end due) (nat_le due slots)
same_ended (Some w) done end given due slots = refl
same_ended None true end given due slots = refl
same_ended None false end given due slots = refl

same_end : (start : Start) (log : Log) (j : Job) → end_in (now log) (record_with start log (waived_collections log) j) ≡ end_of start.plan log j
same_end start log j =
    ap (λ (ended : Ended). let end : JobEnd = record { task = j.task; collects = j.collects; ended = ended } in end)
    (same_ended (waiver_among j.number (waived_collections log)) (is_done start.plan log j) (completion j.number log)
    (pages_given start j.number log) j.due (now log))

same_map : {X Y Z : Type 0} (f : Y → Z) (g : X → Y) (h : X → Z) → ((x : X) → f (g x) ≡ h x) → (xs : List X) → map f (map g xs) ≡ map h xs
same_map f g h same [] = refl
same_map {X} {Y} {Z} f g h same (x ∷ xs) =
    ap (λ (z : Z). z ∷ map f (map g xs)) (same x) ∙ ap (λ (zs : List Z). h x ∷ zs) (same_map f g h same xs)

-- as the table has them
all_ends : (start : Start) (log : Log) → map (end_in (now log)) (job_records start log) ≡ ends_of start.plan log
all_ends start log =
    same_map (end_in (now log)) (record_with start log (waived_collections log)) (end_of start.plan log) (same_end start log) (jobs log)

take_next : {X Y : Type 0} (f : X → Y) (xs : List X) (n : ℕ) (x : X) → slice_get xs n ≡ Some x
    → map f (take (n + 1) xs) ≡ map f (take n xs) ++ f x ∷ []
take_next f [] n x at = absurd (none-some x at)
take_next {X} {Y} f (y ∷ xs) zero x at = ap (λ (z : X). f z ∷ []) (same_Some y x at)
take_next {X} {Y} f (y ∷ xs) (suc n) x at =
    let next : suc n + 1 ≡ suc (n + 1) = omega arith in
    ap (λ (k : ℕ). map f (take k (y ∷ xs))) next ∙ ap (λ (zs : List Y). f y ∷ zs) (take_next f xs n x at)

take_past : {X : Type 0} (xs : List X) (n : ℕ) → slice_get xs n ≡ None → take n xs ≡ xs
take_past [] zero at = refl
take_past [] (suc n) at = refl
take_past (x ∷ xs) zero at = absurd (none-some x (sym at))
take_past {X} (x ∷ xs) (suc n) at = ap (λ (ys : List X). x ∷ ys) (take_past xs n at)

take_most : {X : Type 0} (xs : List X) (n : ℕ) → length xs ≤ n → take n xs ≡ xs
take_most [] zero all = refl
take_most [] (suc n) all = refl
take_most (x ∷ xs) zero all = absurd (omega (arith, all))
take_most {X} (x ∷ xs) (suc n) all = ap (λ (ys : List X). x ∷ ys) (take_most xs n (omega (arith, all)))

-- the ends of the numbers before this one
abbrev pub AreEndsTo : Start → Log → ℕ → List JobEnd → Type 0
AreEndsTo start log number ends = ends ≡ map (end_in (now log)) (take number (job_records start log))

pub one_end : (start : Start) (log : Log) (number slots : ℕ) (job : JobRecord) (old new : List JobEnd)
    → slice_get (job_records start log) number ≡ Some job → slots ≡ now log → new ≡ old ++ end_in slots job ∷ []
    → AreEndsTo start log number old → AreEndsTo start log (number + 1) new
one_end start log number slots job old new at is pushed so_far =
    pushed ∙ (ap (λ (n : ℕ). old ++ end_in n job ∷ []) is ∙ (ap (λ (xs : List JobEnd). xs ++ end_in (now log) job ∷ []) so_far
    ∙ sym (take_next (end_in (now log)) (job_records start log) number job at)))

pub no_more : (start : Start) (log : Log) (number : ℕ) (ends : List JobEnd) → slice_get (job_records start log) number ≡ None
    → AreEndsTo start log number ends → ends ≡ ends_of start.plan log
no_more start log number ends past so_far =
    so_far ∙ (ap (map (end_in (now log))) (take_past (job_records start log) number past) ∙ all_ends start log)

pub at_most : (start : Start) (log : Log) (number : ℕ) (ends : List JobEnd) → length (jobs log) ≤ number → AreEndsTo start log number ends
    → ends ≡ ends_of start.plan log
at_most start log number ends all so_far =
    so_far ∙ (ap (map (end_in (now log))) (take_most (job_records start log) number
    (omega (arith, length-map (jobs log) (record_with start log (waived_collections log)), all))) ∙ all_ends start log)
