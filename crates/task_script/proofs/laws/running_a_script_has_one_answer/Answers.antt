use Rattle.std.proofs.Common.{◌≡◌, ◌≢◌, ◌⊎◌, inl, inr, ℕ, ◌+◌, Bool, true, false, List, [], ◌∷◌, ◌++◌, All, length, Option, Some, None, Result, Ok, Err}
use Rattle.std.proofs.Common.{refl, sym, ap, ◌∙◌, subst, append_assoc, append-nil}
use Rattle.std.specs.Prelude.{IfOk, IfErr, OnOk, IsErrAnd}
use Rattle.std.specs.List.{AllByRecursion}
use Rattle.std.specs.Io.KnownBytes.{Appends}
use Rattle.std.proofs.lemmas.List.Elements.{recursion_from_All}
use Rattle.slot_types.specs.declared.events.Event.{Event}
use Rattle.slot_types.specs.declared.plans.DiePlan.{DiePlan}
use Rattle.slot_types.specs.declared.refusals.Refusal.{Refusal}
use Rattle.slot_types.specs.declared.refusals.Refusal.TheVariants.{NoMemory, WriteFault}
use Rattle.slot_types.specs.declared.replies.Reply.{Reply}
use Rattle.slot_types.specs.declared.replies.Reply.TheVariants as replies
use Rattle.die_log.specs.Model.Log.{Log}
use Rattle.die_log.specs.Model.Start.{fresh}
use Rattle.die_log.specs.Model.Answers.{answer, IsAccepted}
use Rattle.text_base.specs.Readings.{IsOutside}
use Rattle.text_base.specs.Flags.{KeepsFlag, SetsFlag}
use Rattle.text_base.specs.Writing.{RefusesOrCuts}
use Rattle.text_base.proofs.WriterEnds.{appended, fresh_flag, no_flag, set_flag}
use Rattle.report_texts.specs.ReportText.{report_text}
use Rattle.script_texts.specs.Script.{Script, script_of}
use Rattle.script_texts.specs.declared.script_rows.ScriptItem.{ScriptItem}
use Rattle.task_script.specs.declared.run_counts.RowEnd.{RowEnd}
use Rattle.task_script.specs.declared.run_counts.RunCount.{RunCount}
use Rattle.task_script.specs.DieRuns.{DieRun, ScriptCall, Row, Slot, Ends, MakesCalls, calls_of, end_of, fresh_run}
use Rattle.task_script.specs.Feeds.{RefusesScript, feed_of}
use Rattle.task_script.specs.PlannedRuns.{RunsSo}
use Rattle.task_script.specs.RunCounts.{count_of}
use Rattle.task_script.specs.TextRuns.{AreRuns, RunsText, ends_of, reports_from}
use Rattle.task_script.proofs.laws.running_a_script_has_one_answer.Goals as goal

-- no row was refused out of memory

abbrev IsLogs : RowEnd → Type 0
IsLogs end = end.refusal ≢ Some NoMemory

abbrev AreLogs : List RowEnd → Type 0
AreLogs ends = AllByRecursion IsLogs ends

front_of : (xs ys : List RowEnd) → AreLogs (xs ++ ys) → AreLogs xs
front_of [] ys h = tt
front_of (x ∷ xs) ys h = (h.0, front_of xs ys h.1)

rest_of : (xs ys : List RowEnd) → AreLogs (xs ++ ys) → AreLogs ys
rest_of [] ys h = h
rest_of (x ∷ xs) ys h = rest_of xs ys h.1

-- One row

not_both : (reply : Reply) (refusal : Refusal) → IsAccepted reply → reply ≡ replies.Refused refusal → ⊥
not_both reply refusal accepted is = subst IsAccepted is accepted

one_refusal : (d e : Refusal) → replies.Refused d ≡ replies.Refused e → d ≡ e
one_refusal d e is = cc

-- the row was refused by the log's own answer
by_log : (plan : DiePlan) (past log : Log) (event : Event) (refusal : Refusal) → Ends plan past event (Some refusal) log
    → (Some refusal ≢ Some NoMemory) → answer (fresh plan) past event ≡ replies.Refused refusal
by_log plan past log event refusal (inl is, same) not = is
by_log plan past log event refusal (inr memory, same) not = absurd (not (ap (λ (r : Refusal). Some r) memory.1))

one_end : (plan : DiePlan) (past log later : Log) (event : Event) (p q : Option Refusal) → Ends plan past event p log
    → Ends plan past event q later → p ≢ Some NoMemory → q ≢ Some NoMemory → (p ≡ q) × (log ≡ later)
one_end plan past log later event None None h k not not' = (refl, h.1 ∙ sym k.1)
one_end plan past log later event None (Some e) h k not not' =
    absurd (not_both (answer (fresh plan) past event) e h.0 (by_log plan past later event e k not'))
one_end plan past log later event (Some d) None h k not not' =
    absurd (not_both (answer (fresh plan) past event) d k.0 (by_log plan past log event d h not))
one_end plan past log later event (Some d) (Some e) h k not not' = (
  ap (λ (r : Refusal). Some r)
      (one_refusal d e (sym (by_log plan past log event d h not) ∙ by_log plan past later event e k not')),
  h.1 ∙ sym k.1,
)

-- One die

-- the rows that ended before a run are the front of those that ended in it
grown : (plan : DiePlan) (calls : List ScriptCall) (before after : DieRun) → MakesCalls plan before calls after
    → (more : List RowEnd) × (after.ends ≡ before.ends ++ more)
grown plan [] before after h = ([], ap (λ (r : DieRun). r.ends) h ∙ sym (append-nil before.ends))
grown plan (Row item ∷ calls) before after (between, step, h) =
    let later = grown plan calls between after h in (
      end_of item step.0 ∷ later.0,
      later.1 ∙ (ap (λ (l : List RowEnd). l ++ later.0) step.2 ∙ append_assoc before.ends (end_of item step.0 ∷ []) later.0),
    )
grown plan (Slot ∷ calls) before after (between, step, h) =
    let later = grown plan calls between after h in (later.0, later.1 ∙ ap (λ (l : List RowEnd). l ++ later.0) step.1)

logs_of : (plan : DiePlan) (calls : List ScriptCall) (before after : DieRun) → MakesCalls plan before calls after → AreLogs after.ends
    → AreLogs before.ends
logs_of plan calls before after h logs =
    let more = grown plan calls before after h in front_of before.ends more.0 (subst AreLogs more.1 logs)

last_end : (plan : DiePlan) (item : ScriptItem) (refusal : Option Refusal) (before between : DieRun)
    → between.ends ≡ before.ends ++ end_of item refusal ∷ [] → AreLogs between.ends → refusal ≢ Some NoMemory
last_end plan item refusal before between is logs =
    (rest_of before.ends (end_of item refusal ∷ []) (subst AreLogs is logs)).0

one_die : (plan : DiePlan) (calls : List ScriptCall) (before first second : DieRun) → MakesCalls plan before calls first
    → MakesCalls plan before calls second → AreLogs first.ends → AreLogs second.ends → first ≡ second
one_die plan [] before first second h k logs logs' = h ∙ sym k
one_die plan (Row item ∷ calls) before first second (one, (p, ended, ends), h) (other, (q, ended', ends'), k) logs logs' =
    let here = logs_of plan calls one first h logs in
    let there = logs_of plan calls other second k logs' in
    let same = one_end plan before.log one.log other.log item.event p q ended ended' (last_end plan item p before one ends here)
    (last_end plan item q before other ends' there) in
    let rows : one.ends ≡ other.ends = ends ∙ (ap (λ (r : Option Refusal). before.ends ++ end_of item r ∷ []) same.0 ∙ sym ends') in
    let between : one ≡ other = λ i. record { log = same.1 i; ends = rows i } in
    one_die plan calls one first second h (subst (λ (r : DieRun). MakesCalls plan r calls second) (sym between) k) logs logs'
one_die plan (Slot ∷ calls) before first second (one, (taken, ends), h) (other, (taken', ends'), k) logs logs' =
    let log : one.log ≡ other.log = taken.1 ∙ sym taken'.1 in
    let rows : one.ends ≡ other.ends = ends ∙ sym ends' in
    let between : one ≡ other = λ i. record { log = log i; ends = rows i } in
    one_die plan calls one first second h (subst (λ (r : DieRun). MakesCalls plan r calls second) (sym between) k) logs logs'

one_store : (slots : ℕ) (feed : ℕ → List ScriptItem) (die : ℕ) (plans : List DiePlan) (xs ys : List DieRun) → AreRuns slots feed die plans xs
    → AreRuns slots feed die plans ys → AreLogs (ends_of xs) → AreLogs (ends_of ys) → xs ≡ ys
one_store slots feed die [] [] [] h k logs logs' = refl
one_store slots feed die [] [] (y ∷ ys) h k logs logs' = absurd k
one_store slots feed die [] (x ∷ xs) ys h k logs logs' = absurd h
one_store slots feed die (p ∷ ps) [] ys h k logs logs' = absurd h
one_store slots feed die (p ∷ ps) (x ∷ xs) [] h k logs logs' = absurd k
one_store slots feed die (p ∷ ps) (x ∷ xs) (y ∷ ys) h k logs logs' =
    let first : x ≡ y = one_die p (calls_of slots (feed die)) fresh_run x y h.0.ran k.0.ran (front_of x.ends (ends_of xs) logs)
    (front_of y.ends (ends_of ys) logs') in
    let others = one_store slots feed (die + 1) ps xs ys h.1 k.1 (rest_of x.ends (ends_of xs) logs) (rest_of y.ends (ends_of ys) logs') in
    λ i. first i ∷ others i

-- The whole

one_items : (script : Script) (xs ys : List ScriptItem) → script ≡ Ok xs → script ≡ Ok ys → xs ≡ ys
one_items script xs ys is is' = cc

one_fault : (script : Script) (d e : Refusal) → script ≡ Err d → script ≡ Err e → d ≡ e
one_fault script d e is is' = cc

read_or_refused : (script : Script) (xs : List ScriptItem) (e : Refusal) → script ≡ Ok xs → script ≡ Err e → ⊥
read_or_refused script xs e is is' = absurd (cc)

module _ {W : Type 0} (contents : W → Option (List ℕ)) (has_failed : W → Option Bool) (text known : List ℕ) (plans : List DiePlan) (slots : ℕ)
    (before left right : W) (known_is : contents before ≡ Some known) where
  abbrev Runs : W → RunCount → Type 0
  Runs new count =
      (ran : RunsText (Some text) plans slots count (contents before) (contents new)) × All IsLogs (ends_of ran.runs)

  abbrev Refuses : W → Refusal → Type 0
  Refuses new refusal =
      RefusesOrCuts contents has_failed (RefusesScript (Some text) (length plans) slots) (RunsSo (Some text) plans slots) before new refusal

  one_run : (one other : RunCount) → Runs left one → Runs right other → (one ≡ other) × (contents left ≡ contents right)
  one_run one other (ran, logs) (again, logs') =
      let items : again.items ≡ ran.items = one_items (script_of (length plans) slots text) again.items ran.items again.script ran.script in
      let runs : ran.runs ≡ again.runs =
      one_store slots (feed_of ran.items) 0 plans ran.runs again.runs ran.ran
      (subst (λ (l : List ScriptItem). AreRuns slots (feed_of l) 0 plans again.runs) items again.ran)
      (recursion_from_All IsLogs (ends_of ran.runs) logs) (recursion_from_All IsLogs (ends_of again.runs) logs') in (
        ran.counted ∙ (ap (λ (l : List DieRun). count_of (ends_of l)) runs ∙ sym again.counted),
        appended (report_text (reports_from 0 plans again.runs)) known (contents before) (contents left) (contents right) known_is
            (subst (λ (l : List DieRun). Appends (contents before) (contents left) (report_text (reports_from 0 plans l))) runs ran.written)
            again.written,
      )

  abbrev IsByChance : Refusal → Type 0
  IsByChance refusal = IsOutside refusal ⊎ (refusal ≡ WriteFault)

  one_answer : (one other : Result RunCount Refusal) → IfOk one (Runs left) → IfOk other (Runs right) → IfErr one (Refuses left)
      → IfErr other (Refuses right)
      → ((one ≡ other) × OnOk one (contents left ≡ contents right)) ⊎ IsErrAnd one IsByChance ⊎ IsErrAnd other IsByChance
  one_answer (Ok a) (Ok b) h k r r' =
      let both = one_run a b h k in inl (ap Ok both.0, both.1)
  one_answer (Err d) other h k (inl (inl out, same)) r' = inr (inl (inl out))
  one_answer (Err d) other h k (inr cut) r' = inr (inl (inr cut.refusal_is))
  one_answer (Ok a) (Err e) h k r (inl (inl out, same)) = inr (inr (inl out))
  one_answer (Ok a) (Err e) h k r (inr cut) = inr (inr (inr cut.refusal_is))
  one_answer (Ok a) (Err e) h k r (inl (inr is, same)) =
      absurd (read_or_refused (script_of (length plans) slots text) h.0.items e h.0.script is)
  one_answer (Err d) (Ok b) h k (inl (inr is, same)) r' =
      absurd (read_or_refused (script_of (length plans) slots text) k.0.items d k.0.script is)
  one_answer (Err d) (Err e) h k (inl (inr is, same)) (inl (inl out, same')) = inr (inr (inl out))
  one_answer (Err d) (Err e) h k (inl (inr is, same)) (inr cut) = inr (inr (inr cut.refusal_is))
  one_answer (Err d) (Err e) h k (inl (inr is, same)) (inl (inr is', same')) =
      inl (ap Err (one_fault (script_of (length plans) slots text) d e is is'), tt)

  kept_flag : (fresh : has_failed before ≡ Some false) (new : W) → KeepsFlag (has_failed before) (has_failed new)
      → has_failed new ≡ Some false
  kept_flag fresh new = fresh_flag (has_failed before) (has_failed new) fresh

  cut_flag : (fresh : has_failed before ≡ Some false) (new : W) → SetsFlag (has_failed before) (has_failed new)
      → has_failed new ≡ Some true
  cut_flag fresh new = set_flag (has_failed before) (has_failed new) fresh

  one_by_flag : (one other : Result RunCount Refusal) → has_failed before ≡ Some false → IfOk one (Runs left) → IfOk other (Runs right)
      → OnOk one (KeepsFlag (has_failed before) (has_failed left)) → OnOk other (KeepsFlag (has_failed before) (has_failed right))
      → IfErr one (Refuses left) → IfErr other (Refuses right) → has_failed left ≡ has_failed right
      → ((one ≡ other) × OnOk one (contents left ≡ contents right)) ⊎ IsErrAnd one IsOutside ⊎ IsErrAnd other IsOutside
  one_by_flag (Ok a) (Ok b) fresh h k f f' r r' flags =
      let both = one_run a b h k in inl (ap Ok both.0, both.1)
  one_by_flag (Err d) other fresh h k f f' (inl (inl out, same)) r' flags = inr (inl out)
  one_by_flag (Ok a) (Err e) fresh h k f f' r (inl (inl out, same)) flags = inr (inr out)
  one_by_flag (Ok a) (Err e) fresh h k f f' r (inl (inr is, same)) flags =
      absurd (read_or_refused (script_of (length plans) slots text) h.0.items e h.0.script is)
  one_by_flag (Ok a) (Err e) fresh h k f f' r (inr cut) flags =
      absurd (no_flag (has_failed right) (sym flags ∙ kept_flag fresh left f) (cut_flag fresh right cut.failed))
  one_by_flag (Err d) (Ok b) fresh h k f f' (inl (inr is, same)) r' flags =
      absurd (read_or_refused (script_of (length plans) slots text) k.0.items d k.0.script is)
  one_by_flag (Err d) (Ok b) fresh h k f f' (inr cut) r' flags =
      absurd (no_flag (has_failed left) (flags ∙ kept_flag fresh right f') (cut_flag fresh left cut.failed))
  one_by_flag (Err d) (Err e) fresh h k f f' (inl (inr is, same)) (inl (inl out, same')) flags = inr (inr out)
  one_by_flag (Err d) (Err e) fresh h k f f' (inr cut) (inl (inl out, same')) flags = inr (inr out)
  one_by_flag (Err d) (Err e) fresh h k f f' (inl (inr is, same)) (inl (inr is', same')) flags =
      inl (ap Err (one_fault (script_of (length plans) slots text) d e is is'), tt)
  one_by_flag (Err d) (Err e) fresh h k f f' (inl (inr is, same)) (inr cut) flags =
      absurd (no_flag (has_failed right) (sym flags ∙ ap has_failed same ∙ fresh) (cut_flag fresh right cut.failed))
  one_by_flag (Err d) (Err e) fresh h k f f' (inr cut) (inl (inr is', same')) flags =
      absurd (no_flag (has_failed left) (flags ∙ ap has_failed same' ∙ fresh) (cut_flag fresh left cut.failed))
  one_by_flag (Err d) (Err e) fresh h k f f' (inr cut) (inr cut') flags = inl (ap Err (cut.refusal_is ∙ sym cut'.refusal_is), tt)

pub returns-clause-written : goal.returns-clause-written
returns-clause-written g c text known plans slots before left right one other is =
    one_answer g.W.Write.contents g.W.Output.has_failed text known plans slots before left right is one other

pub returns-clause-flagged : goal.returns-clause-flagged
returns-clause-flagged g c text known plans slots before left right one other is fresh =
    one_by_flag g.W.Write.contents g.W.Output.has_failed text known plans slots before left right is one other fresh
