-- The rows of a die's report follow its log, one by one.
use Rattle.std.proofs.Common.{◌≡◌, ℕ, zero, suc, ◌+◌, List, [], ◌∷◌, ◌++◌, Option, Some, None, refl, ap, sym, ◌∙◌, map, take}
use Rattle.std.proofs.Common.{slice_get, arith, Result, Ok, Err, OnOk}
use Rattle.std.specs.Prelude.{option_map}
use Rattle.std.proofs.lemmas.Option.{same_Some, none-some}
use Rattle.slot_types.specs.declared.events.Event.{Event}
use Rattle.slot_types.specs.declared.events.Event.TheVariants as events
use Rattle.slot_types.specs.declared.replies.Reply.{Reply}
use Rattle.slot_types.specs.declared.replies.Reply.TheVariants as replies
use Rattle.die_log.specs.Model.Log.{Log, Job, jobs, job_at, with_taken}
use Rattle.die_log.specs.Results.Legal.{IsLegal, IsNumbered}
use Rattle.die_log.specs.Invariants.RunningCollections.{AreNumbered}
use Rattle.die_log.proofs.LogInvariants.OneMoreEntry.{numbered_push, number_at}
use Rattle.slot_core.specs.Summaries.{JobSummary, summary_of, summary_at}
use Rattle.report_texts.specs.declared.reports.ReportRow.{ReportRow}
use Rattle.report_texts.specs.TextSoFar.{TextSoFar, row_added, rows_added}
use Rattle.report_texts.proofs.TextParts.{rows_push}
use Rattle.task_script.specs.DieReports.{row_as, report_row_of, report_rows_of}
use Rattle.die_log.specs.Model.Start.{Start}

-- Numbers

taken_numbered : (past : Log) (event : Event) (reply : Reply) → IsNumbered past event reply → AreNumbered 0 (jobs past)
    → AreNumbered 0 (with_taken event reply (jobs past))
taken_numbered past (events.Submit task release due ops) (replies.Taken number) is h = numbered_push 0 (jobs past) _ h (omega (arith, is))
taken_numbered past (events.Collect task release due) (replies.Taken number) is h = numbered_push 0 (jobs past) _ h (omega (arith, is))
taken_numbered past events.Slot (replies.Slot s) is h = h
taken_numbered past events.Slot (replies.Taken number) is h = absurd is
taken_numbered past events.Slot (replies.Refused refusal) is h = absurd is
taken_numbered past (events.Submit task release due ops) (replies.Slot s) is h = absurd is
taken_numbered past (events.Submit task release due ops) (replies.Refused refusal) is h = absurd is
taken_numbered past (events.Collect task release due) (replies.Slot s) is h = absurd is
taken_numbered past (events.Collect task release due) (replies.Refused refusal) is h = absurd is

pub are_numbered : (start : Start) (log : Log) → IsLegal start log → AreNumbered 0 (jobs log)
are_numbered start [] h = tt
are_numbered start (e ∷ past) h = taken_numbered past e.event e.reply h.1.numbered (are_numbered start past h.0)

-- Lists

take_next : {A : Type 0} (xs : List A) (n : ℕ) (x : A) → slice_get xs n ≡ Some x → take (n + 1) xs ≡ take n xs ++ x ∷ []
take_next [] n x at = absurd (none-some x at)
take_next (y ∷ xs) zero x at = ap (λ z. z ∷ []) (same_Some y x at)
take_next (y ∷ xs) (suc n) x at =
    let next : suc n + 1 ≡ suc (n + 1) = omega arith in
    ap (λ (k : ℕ). take k (y ∷ xs)) next ∙ ap (λ ys. y ∷ ys) (take_next xs n x at)

take_past : {A : Type 0} (xs : List A) (n : ℕ) → slice_get xs n ≡ None → take n xs ≡ xs
take_past [] zero at = refl
take_past [] (suc n) at = refl
take_past (x ∷ xs) zero at = absurd (none-some x (sym at))
take_past (x ∷ xs) (suc n) at = ap (λ ys. x ∷ ys) (take_past xs n at)

map_push : {A B : Type 0} (f : A → B) (xs : List A) (x : A) → map f (xs ++ x ∷ []) ≡ map f xs ++ f x ∷ []
map_push f [] x = refl
map_push f (y ∷ xs) x = ap (λ ys. f y ∷ ys) (map_push f xs x)

-- One more row

-- a text has the rows of the jobs before a number
abbrev pub HasSoFar : Start → Log → ℕ → ℕ → TextSoFar → TextSoFar → Type 0
HasSoFar start log die n old text = text ≡ rows_added die (map (report_row_of start log) (take n (jobs log))) old

found : (start : Start) (log : Log) (summary : JobSummary) (o : Option Job) → option_map (summary_of start log) o ≡ Some summary
    → (j : Job) × (o ≡ Some j) × (summary_of start log j ≡ summary)
found start log summary None e = absurd (none-some summary e)
found start log summary (Some j) e = (j, refl, same_Some (summary_of start log j) summary e)

-- the rows up to the next number
row_next : (start : Start) (log : Log) (n : ℕ) (summary : JobSummary) → IsLegal start log → summary_at start log n ≡ Some summary
    → map (report_row_of start log) (take (n + 1) (jobs log)) ≡ map (report_row_of start log) (take n (jobs log)) ++ row_as n summary ∷ []
row_next start log n summary legal summary_is =
    let f = found start log summary (job_at log n) summary_is in
    let number : f.0.number ≡ n = omega (arith, number_at 0 (jobs log) n f.0 (are_numbered start log legal) f.1) in
    let row : row_as n summary ≡ report_row_of start log f.0 = ap (row_as n) (sym f.2)
    ∙ ap (λ (k : ℕ). row_as k (summary_of start log f.0)) (sym number) in
    ap (map (report_row_of start log)) (take_next (jobs log) n f.0 f.1)
    ∙ (map_push (report_row_of start log) (take n (jobs log)) f.0
    ∙ ap (λ (r : ReportRow). map (report_row_of start log) (take n (jobs log)) ++ r ∷ []) (sym row))

pub one_more : (start : Start) (log : Log) (die n : ℕ) (old text new : TextSoFar) (summary : JobSummary) → IsLegal start log
    → summary_at start log n ≡ Some summary → new ≡ row_added die (row_as n summary) text → HasSoFar start log die n old text
    → HasSoFar start log die (n + 1) old new
one_more start log die n old text new summary legal summary_is added so_far =
    let before = map (report_row_of start log) (take n (jobs log)) in
    added ∙ (ap (row_added die (row_as n summary)) so_far ∙ (rows_push die before (row_as n summary) old
    ∙ ap (λ (rows : List ReportRow). rows_added die rows old) (sym (row_next start log n summary legal summary_is))))

pub none_more : (start : Start) (log : Log) (die n : ℕ) (old text : TextSoFar) → job_at log n ≡ None → HasSoFar start log die n old text
    → text ≡ rows_added die (report_rows_of start log) old
none_more start log die n old text past so_far =
    so_far ∙ ap (λ (js : List Job). rows_added die (map (report_row_of start log) js) old) (take_past (jobs log) n past)

-- what follows of a call that ends well
pub ok_then : {T E P Q : Type 0} (result : Result T E) → (P → Q) → OnOk result P → OnOk result Q
ok_then (Ok made) f p = f p
ok_then (Err e) f p = tt
