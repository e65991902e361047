-- As jobs grow, old events say what they said.
use Rattle.std.proofs.Common.{◌≡◌, ℕ, zero, suc, true, List, [], ◌∷◌, ◌++◌, Some, refl, ap, sym, ◌∙◌, subst, slice_get}
use Rattle.std.proofs.Common.{append_assoc, append-nil}
use Rattle.std.proofs.lemmas.Option.{same_Some}
use Rattle.slot_types.specs.declared.pages.PageData.{PageData}
use Rattle.slot_types.specs.declared.events.Op.{Op}
use Rattle.slot_types.specs.declared.events.Op.TheVariants as asks
use Rattle.job_table.specs.declared.stages.Stage.{Stage}
use Rattle.slot_types.specs.declared.replies.Waived.{Waived}
use Rattle.job_table.specs.Jobs.{JobRecord, is_read, with_one_more_slot, with_read, with_stage}
use Rattle.job_table.specs.Table.{changed_at}
use Rattle.event_log.specs.declared.deeds.Deed.{Deed}
use Rattle.event_log.specs.declared.deeds.Deed.TheVariants.{Submit, Collect, Idle, Operation, LastOperation, CopyRead}
use Rattle.event_log.specs.declared.deeds.Deed.TheVariants.{CopyProgram, EraseSlot, LastEraseSlot}
use Rattle.event_log.specs.Notes.{Note}
use Rattle.event_log.specs.Entries.{act_doing, act_at, event_of, ran_by, reply_of, entry_of, slots_in, entries_of, reads_before}
use Rattle.event_log.specs.GrownTable.{HasDone, Fits, AllFit, IsGrown, GrewAt, Grew}

-- what stands in a list stands in a longer one
pub get_front : {T : Type 0} (xs ys : List T) (k : ℕ) (x : T) → slice_get xs k ≡ Some x → slice_get (xs ++ ys) k ≡ Some x
get_front [] ys k x e = absurd (cc)
get_front (y ∷ xs) ys zero x e = e
get_front (y ∷ xs) ys (suc k) x e = get_front xs ys k x e

-- Acts

doing_stays : (job later : JobRecord) (place : ℕ) (op : Op) → IsGrown job later → slice_get job.ops place ≡ Some op
    → (is_read op ≡ true → (bytes : PageData) × (slice_get job.reads (reads_before job place) ≡ Some bytes))
    → act_doing later place (slice_get later.ops place) ≡ act_doing job place (slice_get job.ops place)
doing_stays job later place (asks.Write page bytes) grown stands gave = rw (grown.ops_are, stands) refl
doing_stays job later place (asks.Trim page) grown stands gave = rw (grown.ops_are, stands) refl
doing_stays job later place (asks.Read page) grown stands gave =
    let given = gave refl in
    rw (grown.ops_are, stands, grown.reads_are, get_front job.reads grown.more (reads_before job place) given.0 given.1, given.1) refl

-- an act that was done stays what it was
pub act_stays : (jobs later : List JobRecord) (number place : ℕ) → Grew jobs later → HasDone jobs number place
    → act_at later number place ≡ act_at jobs number place
act_stays jobs later number place grew done =
    let now = grew.each number done.job done.is_at in
    rw (now.is_at, done.is_at) (doing_stays done.job now.job place done.op now.grown done.stands done.gave)

-- Entries

event_stays : (jobs later : List JobRecord) (d : Deed) → Grew jobs later → Fits jobs d → event_of later d ≡ event_of jobs d
event_stays jobs later (Submit number) grew fits =
    let now = grew.each number fits.0 fits.1 in
    rw (now.is_at, fits.1, now.grown.task_is, now.grown.release_is, now.grown.due_is, now.grown.ops_are) refl
event_stays jobs later (Collect number) grew fits =
    let now = grew.each number fits.0 fits.1 in
    rw (now.is_at, fits.1, now.grown.task_is, now.grown.release_is, now.grown.due_is) refl
event_stays jobs later Idle grew fits = refl
event_stays jobs later (Operation number place) grew fits = refl
event_stays jobs later (LastOperation number place) grew fits = refl
event_stays jobs later (CopyRead number page) grew fits = refl
event_stays jobs later (CopyProgram number page) grew fits = refl
event_stays jobs later (EraseSlot number block) grew fits = refl
event_stays jobs later (LastEraseSlot number block) grew fits = refl

ran_stays : (jobs later : List JobRecord) (d : Deed) → Grew jobs later → Fits jobs d → ran_by later d ≡ ran_by jobs d
ran_stays jobs later (Submit number) grew fits = refl
ran_stays jobs later (Collect number) grew fits = refl
ran_stays jobs later Idle grew fits = refl
ran_stays jobs later (Operation number place) grew fits = rw (act_stays jobs later number place grew fits) refl
ran_stays jobs later (LastOperation number place) grew fits = rw (act_stays jobs later number place grew fits) refl
ran_stays jobs later (CopyRead number page) grew fits = refl
ran_stays jobs later (CopyProgram number page) grew fits = refl
ran_stays jobs later (EraseSlot number block) grew fits = refl
ran_stays jobs later (LastEraseSlot number block) grew fits = refl

reply_stays : (jobs later : List JobRecord) (slot : ℕ) (ws : List Waived) (d : Deed) → ran_by later d ≡ ran_by jobs d
    → reply_of later slot ws d ≡ reply_of jobs slot ws d
reply_stays jobs later slot ws (Submit number) e = refl
reply_stays jobs later slot ws (Collect number) e = refl
reply_stays jobs later slot ws Idle e = refl
reply_stays jobs later slot ws (Operation number place) e = rw e refl
reply_stays jobs later slot ws (LastOperation number place) e = rw e refl
reply_stays jobs later slot ws (CopyRead number page) e = refl
reply_stays jobs later slot ws (CopyProgram number page) e = refl
reply_stays jobs later slot ws (EraseSlot number block) e = refl
reply_stays jobs later slot ws (LastEraseSlot number block) e = refl

entry_stays : (jobs later : List JobRecord) (slot : ℕ) (s : Note) → Grew jobs later → Fits jobs s.deed
    → entry_of later slot s ≡ entry_of jobs slot s
entry_stays jobs later slot s grew fits =
    rw (event_stays jobs later s.deed grew fits, reply_stays jobs later slot s.waived s.deed (ran_stays jobs later s.deed grew fits)) refl

-- the entries of old events are the same
pub entries_stay : (jobs later : List JobRecord) (notes : List Note) → Grew jobs later → AllFit jobs notes
    → entries_of later notes ≡ entries_of jobs notes
entries_stay jobs later [] grew fits = refl
entries_stay jobs later (s ∷ past) grew fits =
    rw (entry_stays jobs later (slots_in past) s grew fits.0) (ap (λ es. entry_of jobs (slots_in past) s ∷ es)
    (entries_stay jobs later past grew fits.1))

-- What fits goes on fitting

done_stays : (jobs later : List JobRecord) (number place : ℕ) → Grew jobs later → HasDone jobs number place → HasDone later number place
done_stays jobs later number place grew done =
    let now = grew.each number done.job done.is_at in
    record {
      job = now.job;
      is_at = now.is_at;
      op = done.op;
      stands = rw now.grown.ops_are done.stands;
      gave = λ reads. let given = done.gave reads in (
        given.0,
        rw (now.grown.ops_are, now.grown.reads_are)
            (get_front done.job.reads now.grown.more (reads_before done.job place) given.0 given.1),
      );
    }

fits_stay : (jobs later : List JobRecord) (d : Deed) → Grew jobs later → Fits jobs d → Fits later d
fits_stay jobs later (Submit number) grew fits = let now = grew.each number fits.0 fits.1 in (now.job, now.is_at)
fits_stay jobs later (Collect number) grew fits = let now = grew.each number fits.0 fits.1 in (now.job, now.is_at)
fits_stay jobs later Idle grew fits = tt
fits_stay jobs later (Operation number place) grew fits = done_stays jobs later number place grew fits
fits_stay jobs later (LastOperation number place) grew fits = done_stays jobs later number place grew fits
fits_stay jobs later (CopyRead number page) grew fits = tt
fits_stay jobs later (CopyProgram number page) grew fits = tt
fits_stay jobs later (EraseSlot number block) grew fits = tt
fits_stay jobs later (LastEraseSlot number block) grew fits = tt

pub all_fit_stay : (jobs later : List JobRecord) (notes : List Note) → Grew jobs later → AllFit jobs notes → AllFit later notes
all_fit_stay jobs later [] grew fits = tt
all_fit_stay jobs later (s ∷ past) grew fits = (fits_stay jobs later s.deed grew fits.0, all_fit_stay jobs later past grew fits.1)

-- What grows

grown_self : (job : JobRecord) → IsGrown job job
grown_self job =
    record { task_is = refl; release_is = refl; due_is = refl; ops_are = refl; more = []; reads_are = sym (append-nil job.reads) }

pub carried_grown : (job : JobRecord) → IsGrown job (with_one_more_slot job)
carried_grown job =
    record { task_is = refl; release_is = refl; due_is = refl; ops_are = refl; more = []; reads_are = sym (append-nil job.reads) }

pub read_grown : (bytes : PageData) (job : JobRecord) → IsGrown job (with_read bytes (with_one_more_slot job))
read_grown bytes job = record { task_is = refl; release_is = refl; due_is = refl; ops_are = refl; more = bytes ∷ []; reads_are = refl }

pub stage_grown : (stage : Stage) (job : JobRecord) → IsGrown job (with_stage stage job)
stage_grown stage job =
    record { task_is = refl; release_is = refl; due_is = refl; ops_are = refl; more = []; reads_are = sym (append-nil job.reads) }

grown_then : (a b c : JobRecord) → IsGrown a b → IsGrown b c → IsGrown a c
grown_then a b c g h = record {
  task_is = h.task_is ∙ g.task_is;
  release_is = h.release_is ∙ g.release_is;
  due_is = h.due_is ∙ g.due_is;
  ops_are = h.ops_are ∙ g.ops_are;
  more = g.more ++ h.more;
  reads_are = rw (h.reads_are, g.reads_are) (append_assoc a.reads g.more h.more);
}

pub grew_self : (jobs : List JobRecord) → Grew jobs jobs
grew_self jobs = record { each = λ number job at. record { job = job; is_at = at; grown = grown_self job } }

pub grew_then : (a b c : List JobRecord) → Grew a b → Grew b c → Grew a c
grew_then a b c g h = record {
  each = λ number job at.
      let first = g.each number job at in
      let second = h.each number first.job first.is_at in
      record { job = second.job; is_at = second.is_at; grown = grown_then job first.job second.job first.grown second.grown };
}

-- one more job
pub grew_push : (jobs : List JobRecord) (job : JobRecord) → Grew jobs (jobs ++ job ∷ [])
grew_push jobs job =
    record { each = λ number old at. record { job = old; is_at = get_front jobs (job ∷ []) number old at; grown = grown_self old } }

changed_grows : (jobs : List JobRecord) (n : ℕ) (change : JobRecord → JobRecord) → ((job : JobRecord) → IsGrown job (change job))
    → (number : ℕ) (job : JobRecord) → slice_get jobs number ≡ Some job → GrewAt (changed_at jobs n change) number job
changed_grows [] n change grows number job at = absurd (cc)
changed_grows (j ∷ jobs) zero change grows zero job at =
    record { job = change j; is_at = refl; grown = subst (λ (i : JobRecord). IsGrown i (change j)) (same_Some j job at) (grows j) }
changed_grows (j ∷ jobs) zero change grows (suc number) job at = record { job = job; is_at = at; grown = grown_self job }
changed_grows (j ∷ jobs) (suc n) change grows zero job at = record { job = job; is_at = at; grown = grown_self job }
changed_grows (j ∷ jobs) (suc n) change grows (suc number) job at =
    let rest = changed_grows jobs n change grows number job at in
    record { job = rest.job; is_at = rest.is_at; grown = rest.grown }

-- one job that grows
pub grew_change : (jobs : List JobRecord) (n : ℕ) (change : JobRecord → JobRecord) → ((job : JobRecord) → IsGrown job (change job))
    → Grew jobs (changed_at jobs n change)
grew_change jobs n change grows = record { each = changed_grows jobs n change grows }
