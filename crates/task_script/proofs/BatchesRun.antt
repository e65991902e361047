-- A die that runs the batches that it was sent, one after the other.
use Rattle.std.proofs.Common.{◌≡◌, ◌⊎◌, inl, inr, ℕ, suc, ◌+◌, ◌-◌, ◌*◌, ◌<◌, ◌≤◌, List, [], ◌∷◌, ◌++◌, refl, ap, sym, ◌∙◌, subst}
use Rattle.std.proofs.Common.{append-nil, append_assoc, length, map, length-append, arith, None, Result, Ok, Err}
use Rattle.std.proofs.lemmas.List.Elements.{recursion_from_All}
use Rattle.std.specs.List.{AllByRecursion, AllZip, FoldsTo}
use Rattle.slot_types.specs.declared.plans.DiePlan.{DiePlan}
use Rattle.slot_types.specs.declared.refusals.Refusal.{Refusal}
use Rattle.slot_types.specs.declared.refusals.Refusal.TheVariants.{NoMemory}
use Rattle.script_texts.specs.RowTexts.{RowText}
use Rattle.script_texts.specs.declared.script_rows.ScriptItem.{ScriptItem}
use Rattle.task_script.specs.DieRuns.{ScriptCall, Row, Slot, DieRun, MakesCalls, calls_from, fresh_run, run_at}
use Rattle.task_script.specs.RowDies.{HasCome, HasRunOn, IsIdle, core_of, latest_slot}
use Rattle.die_service.specs.Runners.{HasRunAll, SentTo, WasGiven, nothing_sent}
use Rattle.task_script.specs.RanScripts.{AllRan, LastAlone}
use Rattle.task_script.specs.RowRunners.{IsFresh, IsFreshOf, MayFollow, RunsBatches, RunsOn, RunsOnDie, rows_of_batches, rows_sent, until_of}
use Rattle.task_script.specs.RowTexts.{read_of}
use Rattle.task_script.specs.RunCounts.{counted_after, rows_in}
use Rattle.task_script.specs.declared.row_batches.RowBatch.{RowBatch}
use Rattle.task_script.specs.declared.row_dies.RowDie.{RowDie}
use Rattle.task_script.specs.declared.row_runners.RowRunner.{RowRunner}
use Rattle.task_script.specs.declared.run_counts.RowEnd.{RowEnd}
use Rattle.task_script.proofs.BatchCalls.{calls_join, latest_more}
use Rattle.task_script.proofs.Calling.{ran_more}
use Rattle.task_script.proofs.Counting.{counts_more}
use Rattle.task_script.proofs.ReadSoFar.{with_items}
use Rattle.task_script.proofs.Sent.{Sents, few_rows, none_alone, rows_more, until_more}
use Rattle.task_script.proofs.RowReading.{as_many, fault_then, read_then, whole_nil, zipped}

-- calls after rows that ended before
pub ran_after : (plan : DiePlan) (first : List RowEnd) (calls : List ScriptCall) (before after : DieRun) → MakesCalls plan before calls after
    → MakesCalls plan (run_at before.log (first ++ before.ends)) calls (run_at after.log (first ++ after.ends))
ran_after plan first [] before after is = ap (λ (r : DieRun). run_at r.log (first ++ r.ends)) is
ran_after plan first (Row item ∷ calls) before after (between, (refusal, ended, more), rest) = (
  run_at between.log (first ++ between.ends),
  (
    refusal,
    ended,
    ap (λ (l : List RowEnd). first ++ l) more ∙ sym (append_assoc first before.ends (record { line = item.line; refusal = refusal } ∷ [])),
  ),
  ran_after plan first calls between after rest,
)
ran_after plan first (Slot ∷ calls) before after (between, (accepted, same), rest) = (
  run_at between.log (first ++ between.ends),
  (accepted, ap (λ (l : List RowEnd). first ++ l) same),
  ran_after plan first calls between after rest,
)

-- before the first one
pub runs_none : (plan : DiePlan) (die : RowDie) → HasCome plan [] 0 die → RunsBatches plan [] (Ok die)
unfolding until_of
runs_none plan die fresh = ([], whole_nil None, fresh)

come_on : (plan : DiePlan) (until : ℕ) (old new : RowDie) (items more : List ScriptItem) → HasCome plan items 0 old
    → HasRunOn until more old new → HasCome plan (items ++ more) until new
come_on plan until old new items more come r =
    let same : r.plan ≡ plan = ap (λ s. s.plan) (sym r.was_idle.start_is ∙ come.idle.start_is) in
    let left = new.die.clock - old.die.clock in
    let here : old.die.clock ≡ latest_slot items = omega (arith, come.clock_is) in
    let there : old.die.clock + left ≡ new.die.clock = omega (arith, r.clock_is) in
    let second : MakesCalls plan (run_at (core_of old).log come.ends) (calls_from old.die.clock left more)
    (run_at (core_of new).log (come.ends ++ r.ends)) = subst (λ (es : List RowEnd).
    MakesCalls plan (run_at (core_of old).log es) (calls_from old.die.clock left more) (run_at (core_of new).log (come.ends ++ r.ends)))
    (append-nil come.ends) (ran_after plan come.ends (calls_from old.die.clock left more) (run_at (core_of old).log [])
    (run_at (core_of new).log r.ends) (subst (λ (p : DiePlan). MakesCalls p (run_at (core_of old).log [])
    (calls_from old.die.clock left more) (run_at (core_of new).log r.ends)) same r.ran)) in
    record {
      ends = come.ends ++ r.ends;
      idle = subst (λ (p : DiePlan). IsIdle p new) same r.idle;
      clock_is = r.clock_is ∙ omega (arith, here, latest_more items more);
      ran = subst (λ (calls : List ScriptCall). MakesCalls plan fresh_run calls (run_at (core_of new).log (come.ends ++ r.ends)))
          (calls_join old.die.clock left 0 items more (omega (arith, here)) (λ some. omega (arith, here))
          ∙ ap (λ (n : ℕ). calls_from 0 n (items ++ more)) there)
          (ran_more plan fresh_run (run_at (core_of old).log come.ends) (run_at (core_of new).log (come.ends ++ r.ends))
          (calls_from 0 old.die.clock items) (calls_from (0 + old.die.clock) left more) come.ran
          (subst (λ (n : ℕ). MakesCalls plan (run_at (core_of old).log come.ends) (calls_from n left more) (run_at (core_of new).log (come.ends ++ r.ends)))
          (let same : old.die.clock ≡ 0 + old.die.clock = omega arith in same) second));
      counted = r.counted ∙ (ap (λ c. counted_after c r.ends) come.counted ∙ counts_more come.ends r.ends);
      rows = omega (arith, r.rows, come.rows, length-append items more);
    }

-- what the rows say, with those of one batch more
read_on : (before : List RowBatch) (batch : RowBatch) (items : List ScriptItem) → read_of (rows_of_batches before) ≡ Ok items
    → read_of (rows_of_batches (before ++ batch ∷ [])) ≡ with_items items (read_of batch.rows)
read_on before batch items read = ap read_of (rows_more before batch) ∙ read_then (rows_of_batches before) items read batch.rows None

pub runs_on : (plan : DiePlan) (before : List RowBatch) (batch : RowBatch) (old new : Result RowDie Refusal) → until_of before ≡ 0
    → RunsOnDie old batch new → RunsBatches plan before old → RunsBatches plan (before ++ batch ∷ []) new
runs_on plan before batch (Ok old) (Ok new) none (more, is, ran) (items, read, come) = (
  items ++ more,
  read_on before batch items read ∙ ap (with_items items) is,
  subst (λ (until : ℕ). HasCome plan (items ++ more) until new) (sym (until_more before batch none))
      (come_on plan batch.until old new items more (subst (λ (until : ℕ). HasCome plan items until old) none come) ran),
)
runs_on plan before batch (Ok old) (Err e) none (inl memory) runs = inl memory
runs_on plan before batch (Ok old) (Err e) none (inr is) (items, read, come) = inr (read_on before batch items read ∙ ap (with_items items) is)
runs_on plan before batch (Err e) new none same runs = subst (RunsBatches plan (before ++ batch ∷ [])) (sym same) (by runs)
  where
    by : (e ≡ NoMemory) ⊎ (read_of (rows_of_batches before) ≡ Err e) → (e ≡ NoMemory) ⊎ (read_of (rows_of_batches (before ++ batch ∷ [])) ≡ Err e)
    by (inl memory) = inl memory
    by (inr is) = inr (ap read_of (rows_more before batch) ∙ fault_then (rows_of_batches before) e is batch.rows None)

-- How many rows are counted

pub few_counted : (plan : DiePlan) (before : List RowBatch) (d : RowDie) → AllByRecursion (λ (b : RowBatch). length b.rows ≤ 8192) before
    → RunsBatches plan before (Ok d) → rows_in d.count ≤ length before * 8192
few_counted plan before d short (items, read, come) =
    omega (arith, few_rows before short, come.rows, as_many (rows_of_batches before) items (zipped (rows_of_batches before) items read))

-- All that was sent

pub runs_all : (plan : DiePlan) (done batches : List RowBatch) (old new : RowRunner) → until_of done ≡ 0 → LastAlone batches
    → RunsBatches plan done old.die → FoldsTo RunsOn old batches new → RunsBatches plan (done ++ batches) new.die
runs_all plan done [] old new none alone ran folds =
    subst (λ (bs : List RowBatch). RunsBatches plan bs new.die) (sym (append-nil done))
    (subst (λ (r : RowRunner). RunsBatches plan done r.die) folds ran)
runs_all plan done (b ∷ []) old new none alone ran (mid, step, rest) =
    subst (λ (r : RowRunner). RunsBatches plan (done ++ b ∷ []) r.die) rest (runs_on plan done b old.die mid.die none step ran)
runs_all plan done (b ∷ c ∷ batches) old new none alone ran (mid, step, rest) =
    subst (λ (bs : List RowBatch). RunsBatches plan bs new.die) (append_assoc done (b ∷ []) (c ∷ batches))
    (runs_all plan (done ++ b ∷ []) (c ∷ batches) mid new (until_more done b none ∙ alone.0) alone.1
    (runs_on plan done b old.die mid.die none step ran) rest)

none_until : until_of [] ≡ 0
unfolding until_of
none_until = refl

-- a runner that was given these batches has run them
pub given_runs : (before : List RowBatch) (runner : RowRunner) → until_of before ≡ 0 → WasGiven IsFresh RunsOn before runner
    → (plan : DiePlan) × RunsBatches plan before runner.die
given_runs before runner none (first, (plan, fresh), ran) =
    (plan, runs_all plan [] before first runner none_until (none_alone before none) fresh ran)

pub all_ran : (plans : List DiePlan) (sents : Sents) (firsts runners : List RowRunner)
    → map (λ (s : SentTo RowRunner RowBatch). s.first) sents ≡ firsts → AllZip IsFreshOf plans firsts
    → AllByRecursion (λ (s : SentTo RowRunner RowBatch). LastAlone s.batches) sents → AllZip (HasRunAll RunsOn) sents runners
    → AllRan plans (map (λ (s : SentTo RowRunner RowBatch). s.batches) sents) runners
all_ran [] [] [] [] are fresh alone ran = tt
all_ran [] [] [] (r ∷ runners) are fresh alone ran = absurd ran
all_ran plans [] (f ∷ firsts) runners are fresh alone ran = absurd cc
all_ran (plan ∷ plans) [] [] runners are fresh alone ran = absurd fresh
all_ran plans (s ∷ sents) [] runners are fresh alone ran = absurd cc
all_ran [] (s ∷ sents) (f ∷ firsts) runners are fresh alone ran = absurd fresh
all_ran (plan ∷ plans) (s ∷ sents) (f ∷ firsts) [] are fresh alone ran = absurd ran
all_ran (plan ∷ plans) (s ∷ sents) (f ∷ firsts) (r ∷ runners) are fresh alone ran =
    let here : s.first ≡ f = cc in
    let rest : map (λ (x : SentTo RowRunner RowBatch). x.first) sents ≡ firsts = cc in (
      runs_all plan [] s.batches s.first r none_until alone.0 (subst (IsFreshOf plan) (sym here) fresh.0) ran.0,
      all_ran plans sents firsts runners rest fresh.1 alone.1 ran.1,
    )

pub all_fresh : (plans : List DiePlan) (runners : List RowRunner) → AllZip IsFreshOf plans runners → AllByRecursion IsFresh runners
all_fresh [] [] fresh = tt
all_fresh (plan ∷ plans) (r ∷ runners) fresh = ((plan, fresh.0), all_fresh plans runners fresh.1)
all_fresh [] (r ∷ runners) fresh = absurd fresh
all_fresh (plan ∷ plans) [] fresh = absurd fresh

-- Where nothing was sent yet

pub nothing_long : (runners : List RowRunner) → length (nothing_sent {B = RowBatch} runners) ≡ length runners
nothing_long [] = refl
nothing_long (r ∷ runners) = ap suc (nothing_long runners)

pub nothing_none : (runners : List RowRunner) → AllByRecursion (λ (s : SentTo RowRunner RowBatch). s.batches ≡ []) (nothing_sent runners)
nothing_none [] = tt
nothing_none (r ∷ runners) = (refl, nothing_none runners)

pub nothing_firsts : (runners : List RowRunner) → map (λ (s : SentTo RowRunner RowBatch). s.first) (nothing_sent runners) ≡ runners
nothing_firsts [] = refl
nothing_firsts (r ∷ runners) = ap (λ (rs : List RowRunner). r ∷ rs) (nothing_firsts runners)

-- the rows of batches that were sent
pub rows_again : (sents : Sents) → map rows_of_batches (map (λ (s : SentTo RowRunner RowBatch). s.batches) sents) ≡ rows_sent sents
rows_again [] = refl
rows_again (s ∷ sents) = ap (λ (rows : List (List RowText)). rows_of_batches s.batches ∷ rows) (rows_again sents)

-- A runner that is given a batch more

pub is_ready : (before : List RowBatch) (batch : RowBatch) (runner : RowRunner) (d : RowDie) → WasGiven IsFresh RunsOn before runner
    → MayFollow before batch → runner.die ≡ Ok d
    → ((plan : DiePlan) × IsIdle plan d) × (rows_in d.count + length batch.rows < 18446744073709551616)
is_ready before batch runner d given follows is =
    let ran = given_runs before runner follows.goes_on given in
    let come = subst (λ (r : Result RowDie Refusal). RunsBatches ran.0 before r) is ran.1 in
    let count = few_counted ran.0 before d
    (recursion_from_All (λ (b : RowBatch). length b.rows ≤ 8192) before follows.all_short) come in (
      (ran.0, come.2.idle),
      omega (arith, count, follows.few, follows.short),
    )
