-- Waivers that are taken back leave the jobs as they were.
use Rattle.std.proofs.Common.{◌≡◌, ◌≢◌, ℕ, zero, suc, ◌<◌, Bool, true, false, not, subst, refl, sym, ap, ◌∙◌, arith, List, [], ◌∷◌, ◌++◌}
use Rattle.std.proofs.Common.{slice_get, Option, Some, None, option_map, MatchOption, inl, inr, length, take, get_or, ◌+◌}
use Rattle.std.specs.List.{AllByRecursion}
use Rattle.std.proofs.lemmas.Bool.{cases_eq}
use Rattle.std.proofs.lemmas.List.{take_more}
use Rattle.std.proofs.lemmas.List.Elements.{All-get_or, All-from_recursion}
use Rattle.due_queue.proofs.Inserted.{every}
use Rattle.slot_types.specs.declared.replies.Waived.{Waived}
use Rattle.job_table.specs.declared.stages.Stage.{Stage}
use Rattle.job_table.specs.declared.stages.Stage.TheVariants as stages
use Rattle.job_table.specs.Jobs.{JobRecord, is_pending, is_waived, is_done, with_stage}
use Rattle.job_table.specs.Table.{Table, changed_at}
use Rattle.job_table.specs.Order.{IsHead}
use Rattle.job_table.specs.Waivers.{jobs_after_waiver, jobs_after_waivers, IsPendingAt, WerePending, without_waiver, without_waivers, is_waived_one}
use Rattle.job_table.specs.Waivers.{AreWaived}
use Rattle.job_table.specs.Worst.{IsWorst, NothingDone}
use Rattle.job_table.proofs.Changed.{changed_here, changed_elsewhere, length-changed_at, same_at}
use Rattle.job_table.proofs.Heads.{ready_pending}
use Rattle.job_table.proofs.Worsts.{undone_worst}

-- a head is pending
pub head_pending : (table : Table) (n : ℕ) → IsHead table n → IsPendingAt table.jobs n
head_pending table n head = record {
  job = head.head;
  is_at = head.is_at;
  pending_is = pending_stage head.head.stage
      (ready_pending table.clock head.head head.ready);
}
  where
    pending_stage : (s : Stage) → is_pending s ≡ true → s ≡ stages.Pending
    pending_stage stages.Pending h = refl
    pending_stage (stages.Done completion given) h = absurd cc
    pending_stage (stages.Waived given) h = absurd cc

-- one more waiver at the end

pub waived_push : (jobs : List JobRecord) (ws : List Waived) (w : Waived) → jobs_after_waivers jobs (ws ++ w ∷ [])
    ≡ jobs_after_waiver (jobs_after_waivers jobs ws) w
waived_push jobs [] w = refl
waived_push jobs (v ∷ ws) w = waived_push (jobs_after_waiver jobs v) ws w

pub WerePending-push : (jobs : List JobRecord) (ws : List Waived) (w : Waived) → WerePending jobs ws
    → IsPendingAt (jobs_after_waivers jobs ws) w.number → WerePending jobs (ws ++ w ∷ [])
WerePending-push jobs [] w were here = (here, tt)
WerePending-push jobs (v ∷ ws) w were here = (were.0, WerePending-push (jobs_after_waiver jobs v) ws w were.1 here)

-- two changes of one job, and changes of two
changed_twice : (jobs : List JobRecord) (n : ℕ) (f g : JobRecord → JobRecord) → changed_at (changed_at jobs n f) n g
    ≡ changed_at jobs n (λ job. g (f job))
changed_twice [] n f g = refl
changed_twice (j ∷ jobs) zero f g = refl
changed_twice (j ∷ jobs) (suc n) f g = ap (λ l. j ∷ l) (changed_twice jobs n f g)

changed_comm : (jobs : List JobRecord) (m n : ℕ) (f g : JobRecord → JobRecord) → m ≢ n → changed_at (changed_at jobs m f) n g
    ≡ changed_at (changed_at jobs n g) m f
changed_comm [] m n f g differs = refl
changed_comm (j ∷ jobs) zero zero f g differs = absurd (differs refl)
changed_comm (j ∷ jobs) zero (suc n) f g differs = refl
changed_comm (j ∷ jobs) (suc m) zero f g differs = refl
changed_comm (j ∷ jobs) (suc m) (suc n) f g differs = ap (λ l. j ∷ l) (changed_comm jobs m n f g (λ e. differs (ap suc e)))

-- a change that leaves a job as it is
changed_same : (jobs : List JobRecord) (n : ℕ) (f : JobRecord → JobRecord) (job : JobRecord) → slice_get jobs n ≡ Some job → f job ≡ job
    → changed_at jobs n f ≡ jobs
changed_same [] n f job e same = refl
changed_same (j ∷ jobs) zero f job e same = let h : j ≡ job = cc in ap (λ x. x ∷ jobs) (ap f h ∙ same ∙ sym h)
changed_same (j ∷ jobs) (suc n) f job e same = ap (λ l. j ∷ l) (changed_same jobs n f job e same)

-- a waiver and its taking back
without_waived : (jobs : List JobRecord) (w : Waived) → IsPendingAt jobs w.number → without_waiver (jobs_after_waiver jobs w) w ≡ jobs
without_waived jobs w here =
    changed_twice jobs w.number (with_stage (stages.Waived w.given)) (with_stage stages.Pending)
    ∙ changed_same jobs w.number (with_stage stages.Pending) here.job here.is_at (ap (λ s. with_stage s here.job) (sym here.pending_is))

-- the job of this number is there, and waived
pub record IsWaivedAt (jobs : List JobRecord) (number : ℕ) : Type 0 where
  pub job : JobRecord
  pub is_at : slice_get jobs number ≡ Some job
  pub waived_is : is_waived job.stage ≡ true

waived_here : (jobs : List JobRecord) (w : Waived) → IsPendingAt jobs w.number → IsWaivedAt (jobs_after_waiver jobs w) w.number
waived_here jobs w here = record {
  job = with_stage (stages.Waived w.given) here.job;
  is_at = changed_here jobs w.number (with_stage (stages.Waived w.given)) ∙ ap (option_map (with_stage (stages.Waived w.given))) here.is_at;
  waived_is = refl;
}

-- one that is waived isn't pending
apart : (jobs : List JobRecord) (m n : ℕ) → IsWaivedAt jobs m → IsPendingAt jobs n → m ≢ n
apart jobs m n waived pending_one same =
    absurd (let e = same_at m n jobs waived.job pending_one.job same waived.is_at pending_one.is_at in
    let f : is_waived pending_one.job.stage ≡ true = ap (λ j. is_waived j.stage) (sym e) ∙ waived.waived_is in
    let g : is_waived pending_one.job.stage ≡ false = ap is_waived pending_one.pending_is in cc)

still_waived : (jobs : List JobRecord) (n : ℕ) (w : Waived) → n ≢ w.number → IsWaivedAt jobs n → IsWaivedAt (jobs_after_waiver jobs w) n
still_waived jobs n w differs waived = record {
  job = waived.job;
  is_at = changed_elsewhere jobs w.number (with_stage (stages.Waived w.given)) n differs ∙ waived.is_at;
  waived_is = waived.waived_is;
}

-- taking one back goes before the others' waivers as well as after them
without_first : (jobs : List JobRecord) (v : Waived) (ws : List Waived) → IsWaivedAt jobs v.number → WerePending jobs ws
    → without_waiver (jobs_after_waivers jobs ws) v ≡ jobs_after_waivers (without_waiver jobs v) ws
without_first jobs v [] waived were = refl
without_first jobs v (w ∷ ws) waived were =
    let differs : v.number ≢ w.number = apart jobs v.number w.number waived were.0 in
    without_first (jobs_after_waiver jobs w) v ws (still_waived jobs v.number w differs waived) were.1
    ∙ ap (λ l. jobs_after_waivers l ws) (changed_comm jobs w.number v.number (with_stage (stages.Waived w.given)) (with_stage stages.Pending)
    (λ e. differs (sym e)))

-- those that were pending were pending also where one that is waived is taken back
pending_after : (jobs : List JobRecord) (v : Waived) (ws : List Waived) → IsWaivedAt jobs v.number → WerePending jobs ws
    → WerePending (without_waiver jobs v) ws
pending_after jobs v [] waived were = tt
pending_after jobs v (w ∷ ws) waived were =
    let differs : v.number ≢ w.number = apart jobs v.number w.number waived were.0 in (
      record {
        job = were.0.job;
        is_at = changed_elsewhere jobs v.number (with_stage stages.Pending) w.number (λ e. differs (sym e)) ∙ were.0.is_at;
        pending_is = were.0.pending_is;
      },
      subst (λ l. WerePending l ws) (changed_comm jobs w.number v.number (with_stage (stages.Waived w.given)) (with_stage stages.Pending)
          (λ e. differs (sym e)))
          (pending_after (jobs_after_waiver jobs w) v ws (still_waived jobs v.number w differs waived) were.1),
    )

-- what was waived and taken back is as it was
pub without_waivers-waived_in : (jobs : List JobRecord) (ws : List Waived) → WerePending jobs ws → without_waivers (jobs_after_waivers jobs ws) ws
    ≡ jobs
without_waivers-waived_in jobs [] were = refl
without_waivers-waived_in jobs (w ∷ ws) were =
    let waived = waived_here jobs w were.0 in
    let back = without_waived jobs w were.0 in
    ap (λ l. without_waivers l ws) (without_first (jobs_after_waiver jobs w) w ws waived were.1 ∙ ap (λ l. jobs_after_waivers l ws) back)
    ∙ without_waivers-waived_in jobs ws (subst (λ l. WerePending l ws) back (pending_after (jobs_after_waiver jobs w) w ws waived were.1))

-- Waivers that are there may be taken back

one_waived : (jobs : List JobRecord) (n : ℕ) → IsWaivedAt jobs n → is_waived_one (slice_get jobs n) ≡ true
one_waived jobs n waived = ap is_waived_one waived.is_at ∙ waived.waived_is

last_waived : (jobs : List JobRecord) (v : Waived) (ws : List Waived) → IsWaivedAt jobs v.number → WerePending jobs ws
    → IsWaivedAt (jobs_after_waivers jobs ws) v.number
last_waived jobs v [] waived were = waived
last_waived jobs v (w ∷ ws) waived were =
    last_waived (jobs_after_waiver jobs w) v ws (still_waived jobs v.number w (apart jobs v.number w.number waived were.0) waived) were.1

pub AreWaived-waived_in : (jobs : List JobRecord) (ws : List Waived) → WerePending jobs ws → AreWaived (jobs_after_waivers jobs ws) ws
AreWaived-waived_in jobs [] were = tt
AreWaived-waived_in jobs (w ∷ ws) were = (
  one_waived (jobs_after_waivers (jobs_after_waiver jobs w) ws) w.number (last_waived (jobs_after_waiver jobs w) w ws (waived_here jobs w were.0) were.1),
  AreWaived-waived_in (jobs_after_waiver jobs w) ws were.1,
)

-- Taking waivers back, for the table

-- not done
abbrev is_undone : Option JobRecord → Bool
is_undone None = true
is_undone (Some job) = not (is_done job.stage)

abbrev AreUndone : List JobRecord → List Waived → Type 0
AreUndone jobs waived = AllByRecursion (λ w. is_undone (slice_get jobs w.number) ≡ true) waived

waived_undone : (o : Option JobRecord) → is_waived_one o ≡ true → is_undone o ≡ true
waived_undone None h = refl
waived_undone (Some job) h = stage_undone job.stage h
  where
    stage_undone : (s : Stage) → is_waived s ≡ true → not (is_done s) ≡ true
    stage_undone stages.Pending h = refl
    stage_undone (stages.Done completion given) h = absurd cc
    stage_undone (stages.Waived given) h = refl

undone_after : (jobs : List JobRecord) (w : Waived) (n : ℕ) → is_undone (slice_get jobs n) ≡ true
    → is_undone (slice_get (without_waiver jobs w) n) ≡ true
undone_after jobs w n h =
    elim (cases_eq n w.number) [
      | inl same ↦ ap (λ m. is_undone (slice_get (without_waiver jobs w) m)) same
          ∙ ap is_undone (changed_here jobs w.number (with_stage stages.Pending)) ∙ pending_undone (slice_get jobs w.number)
      | inr differs ↦ ap is_undone (changed_elsewhere jobs w.number (with_stage stages.Pending) n differs) ∙ h
    ]
  where
    pending_undone : (o : Option JobRecord) → is_undone (option_map (with_stage stages.Pending) o) ≡ true
    pending_undone None = refl
    pending_undone (Some job) = refl

pub without_worst : (jobs : List JobRecord) (ws : List Waived) (worst : Option ℕ) → AreUndone jobs ws
    → MatchOption worst (NothingDone jobs) (IsWorst jobs)
    → MatchOption worst (NothingDone (without_waivers jobs ws)) (IsWorst (without_waivers jobs ws))
without_worst jobs [] worst undone kept = kept
without_worst jobs (w ∷ ws) worst undone kept =
    without_worst (without_waiver jobs w) ws worst
    (every (λ v. is_undone (slice_get jobs v.number) ≡ true) (λ v. is_undone (slice_get (without_waiver jobs w) v.number) ≡ true)
    (λ v h. undone_after jobs w v.number h) ws undone.1)
    (undone_worst jobs w.number (with_stage stages.Pending) worst (λ job at_w. (not_done job (sym (ap is_undone at_w) ∙ undone.0), refl))
    kept)
  where
    not_done : (job : JobRecord) → not (is_done job.stage) ≡ true → is_done job.stage ≡ false
    not_done job h = grind arith

pub undone-waived : (jobs : List JobRecord) (ws : List Waived) → AreWaived jobs ws → AreUndone jobs ws
undone-waived jobs ws waived =
    every (λ w. is_waived_one (slice_get jobs w.number) ≡ true) (λ w. is_undone (slice_get jobs w.number) ≡ true)
    (λ w h. waived_undone (slice_get jobs w.number) h) ws waived

pub length-without_waivers : (jobs : List JobRecord) (ws : List Waived) → length (without_waivers jobs ws) ≡ length jobs
length-without_waivers jobs [] = refl
length-without_waivers jobs (w ∷ ws) = length-without_waivers (without_waiver jobs w) ws
    ∙ length-changed_at jobs w.number (with_stage stages.Pending)

-- A loop over the waivers

without_waivers-append : (jobs : List JobRecord) (ws vs : List Waived) → without_waivers jobs (ws ++ vs)
    ≡ without_waivers (without_waivers jobs ws) vs
without_waivers-append jobs [] vs = refl
without_waivers-append jobs (w ∷ ws) vs = without_waivers-append (without_waiver jobs w) ws vs

pub without_more : (jobs : List JobRecord) (ws : List Waived) (i : ℕ) (w : Waived) → i < length ws → w ≡ get_or ws i w
    → without_waivers jobs (take (i + 1) ws) ≡ without_waiver (without_waivers jobs (take i ws)) w
without_more jobs ws i w lt read =
    ap (without_waivers jobs) (take_more ws i w lt ∙ ap (λ v. take i ws ++ v ∷ []) (sym read))
    ∙ without_waivers-append jobs (take i ws) (w ∷ [])

-- each waiver that may be taken back is of a job that is there
pub waived_in_range : (jobs : List JobRecord) (ws : List Waived) (i : ℕ) (w : Waived) → AreWaived jobs ws → i < length ws → w
    ≡ get_or ws i w → w.number < length jobs
waived_in_range jobs ws i w waived lt read =
    there jobs w.number (rw (sym read) at (All-get_or (λ v. is_waived_one (slice_get jobs v.number) ≡ true) ws i w lt
    (All-from_recursion (λ v. is_waived_one (slice_get jobs v.number) ≡ true) ws waived)))
  where
    there : (jobs : List JobRecord) (n : ℕ) → is_waived_one (slice_get jobs n) ≡ true → n < length jobs
    there [] n h = absurd cc
    there (j ∷ jobs) zero h = omega arith
    there (j ∷ jobs) (suc n) h = let lt = there jobs n h in omega arith
