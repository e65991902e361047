-- A script whose rows were sent to its dies, and run.
use Rattle.std.proofs.Common.{◌≡◌, ℕ, suc, ◌+◌, ◌*◌, ◌<◌, ◌≤◌, List, [], ◌∷◌, refl, ap, sym, subst, ◌∙◌, arith}
use Rattle.std.proofs.Common.{length, map, get_or, Option, Result, Ok}
use Rattle.std.specs.Prelude.{IfSome, option_map}
use Rattle.std.specs.List.{AllByRecursion}
use Rattle.std.proofs.lemmas.List.Elements.{All-nil}
use Rattle.std.proofs.lemmas.List.Sums.{sum_by-cons}
use Rattle.slot_types.specs.declared.plans.DiePlan.{DiePlan}
use Rattle.slot_types.specs.declared.refusals.Refusal.{Refusal}
use Rattle.script_texts.specs.Arrivals.{Arrives}
use Rattle.script_texts.specs.AskedPages.{RowHasPages}
use Rattle.script_texts.specs.RowTexts.{RowText}
use Rattle.script_texts.specs.Script.{Reading, Script, script_of}
use Rattle.script_texts.specs.declared.script_rows.ScriptItem.{ScriptItem}
use Rattle.report_texts.specs.TextSoFar.{TextSoFar}
use Rattle.task_script.specs.Feeds.{RefusesScript, feed_of}
use Rattle.task_script.specs.RanScripts.{AllRan, AreReported, total_rows}
use Rattle.task_script.specs.RowDies.{HasCome}
use Rattle.task_script.specs.RowRunners.{RunsBatches, rows_of_batches, until_of}
use Rattle.task_script.specs.RowTexts.{AreRead, FailsToRead, HasReadTexts}
use Rattle.task_script.specs.RunCounts.{rows_in}
use Rattle.task_script.specs.TextRuns.{RanScript}
use Rattle.task_script.specs.declared.feeds.ReadEnd.{ReadEnd}
use Rattle.task_script.specs.declared.feeds.ReadEnd.TheVariants.{Ended, Refused}
use Rattle.task_script.specs.declared.row_batches.RowBatch.{RowBatch}
use Rattle.task_script.specs.declared.row_dies.RowDie.{RowDie}
use Rattle.task_script.specs.declared.row_runners.RowRunner.{RowRunner}
use Rattle.task_script.specs.declared.run_counts.RunCount.{RunCount}
use Rattle.task_script.proofs.Gathering.{HaveCome, ran_script}
use Rattle.task_script.proofs.ReadSoFar.{FailsIn, IsReadTo, known_by, read_none}
use Rattle.task_script.proofs.RowReading.{as_many, zipped}
use Rattle.task_script.proofs.ScriptReading.{as_script, fails_after, fails_within, reads_last}
use Rattle.task_script.proofs.ScriptFaults.{fails_by, in_time_more}

-- Die by die

-- dies that ran all rows that they were sent, up to this slot at the least
pub record AllCome (slots : ℕ) (plans : List DiePlan) (sents : List (List RowBatch)) (dies : List RowDie) : Type 0 where
  pub items : List (List ScriptItem)
  pub read : AreRead (map rows_of_batches sents) items
  pub come : (feed : ℕ → List ScriptItem) (number : ℕ) → ((k : ℕ) → k < length items → get_or items k [] ≡ feed (number + k))
      → HaveCome slots feed number plans dies
  pub counted : total_rows dies ≤ length dies * 8192024576
  pub long : length dies ≡ length plans

none_come : (slots : ℕ) → AllCome slots [] [] []
none_come slots = record { items = []; read = refl; come = λ feed number are. tt; counted = omega arith; long = refl }

one_come : (slots : ℕ) (plan : DiePlan) (plans : List DiePlan) (batches : List RowBatch) (sents : List (List RowBatch)) (d : RowDie)
    (dies : List RowDie) → RunsBatches plan batches (Ok d) → until_of batches ≡ slots → length (rows_of_batches batches) ≤ 8192024576
    → AllCome slots plans sents dies → AllCome slots (plan ∷ plans) (batches ∷ sents) (d ∷ dies)
one_come slots plan plans batches sents d dies (items, read, came) until few rest =
    let come : HasCome plan items slots d = subst (λ (n : ℕ). HasCome plan items n d) until came in
    record {
      items = items ∷ rest.items;
      read = λ i. read i ∷ rest.read i;
      come = λ feed number are. (
        subst (λ (xs : List ScriptItem). HasCome plan xs slots d) (here feed number are) come,
        rest.come feed (number + 1) (later feed number are),
      );
      counted = omega (
        arith,
        few,
        rest.counted,
        come.rows,
        as_many (rows_of_batches batches) items (zipped (rows_of_batches batches) items read),
        sum_by-cons (λ (x : RowDie). rows_in x.count) d dies,
      );
      long = ap suc rest.long;
    }
  where
    here : (feed : ℕ → List ScriptItem) (number : ℕ)
        → ((k : ℕ) → k < length (items ∷ rest.items) → get_or (items ∷ rest.items) k [] ≡ feed (number + k)) → items ≡ feed number
    here feed number are = are 0 (omega arith) ∙ ap feed (let same : number + 0 ≡ number = omega arith in same)

    later : (feed : ℕ → List ScriptItem) (number : ℕ)
        → ((k : ℕ) → k < length (items ∷ rest.items) → get_or (items ∷ rest.items) k [] ≡ feed (number + k))
        → (k : ℕ) → k < length rest.items → get_or rest.items k [] ≡ feed (number + 1 + k)
    later feed number are k below = are (suc k) (omega (arith, below))
        ∙ ap feed (let same : number + suc k ≡ number + 1 + k = omega arith in same)

pub all_come : (slots : ℕ) (plans : List DiePlan) (sents : List (List RowBatch)) (runners : List RowRunner) (dies : List RowDie)
    → AllRan plans sents runners → map (λ (r : RowRunner). r.die) runners ≡ map Ok dies
    → AllByRecursion (λ (batches : List RowBatch). until_of batches ≡ slots) sents
    → AllByRecursion (λ (batches : List RowBatch). length (rows_of_batches batches) ≤ 8192024576) sents → AllCome slots plans sents dies
all_come slots [] [] [] [] ran are until few = none_come slots
all_come slots [] [] [] (d ∷ dies) ran are until few = absurd cc
all_come slots [] [] (r ∷ runners) dies ran are until few = absurd ran
all_come slots [] (batches ∷ sents) runners dies ran are until few = absurd ran
all_come slots (plan ∷ plans) [] runners dies ran are until few = absurd ran
all_come slots (plan ∷ plans) (batches ∷ sents) [] dies ran are until few = absurd ran
all_come slots (plan ∷ plans) (batches ∷ sents) (r ∷ runners) [] ran are until few = absurd cc
all_come slots (plan ∷ plans) (batches ∷ sents) (r ∷ runners) (d ∷ dies) ran are until few =
    let first : r.die ≡ Ok d = cc in
    let rest : map (λ (x : RowRunner). x.die) runners ≡ map Ok dies = cc in
    one_come slots plan plans batches sents d dies
    (subst (λ (die : Result RowDie Refusal). RunsBatches plan batches die) first ran.0) until.0 few.0
    (all_come slots plans sents runners dies ran.1 rest until.1 few.1)

-- The script

module _ (text : Option (List ℕ)) (first : Option (Reading RowText)) (plans : List DiePlan) (slots : ℕ)
    (same : as_script first ≡ option_map (script_of (length plans) slots) text) where
  -- the fault of what was read of it is its own
  pub refuses : (e : Refusal) → FailsIn (as_script first) e → RefusesScript text (length plans) slots e
  refuses e fails = fails_by text (as_script first) (length plans) slots [] e
      (subst (λ (o : Option Script). IsReadTo (option_map (script_of (length plans) slots) text) o []) (sym same)
      (read_none (option_map (script_of (length plans) slots) text))) fails

  pub refuses_within : (new : Option (Reading RowText)) (from next : ℕ) (texts : List (List RowText)) (end : ReadEnd) (e : Refusal)
      → HasReadTexts first new (length plans) slots from next texts end → FailsToRead texts e → RefusesScript text (length plans) slots e
  refuses_within new from next texts end e h fails =
      refuses e (fails_within first new (length plans) slots from next texts end e h fails)

  pub refuses_after : (new : Option (Reading RowText)) (from next : ℕ) (texts : List (List RowText)) (e : Refusal)
      → HasReadTexts first new (length plans) slots from next texts (Refused e)
      → (items : List (List ScriptItem)) × AreRead texts items → RefusesScript text (length plans) slots e
  refuses_after new from next texts e h (items, read) =
      refuses e (fails_after first new (length plans) slots from next texts items e h read)

  -- the parts of the report of dies that ran all of it, and the count
  pub script_ran : (new : Option (Reading RowText)) (from next : ℕ) (sents : List (List RowBatch)) (dies : List RowDie)
      (said : List TextSoFar) (count : RunCount)
      → HasReadTexts first new (length plans) slots from next (map rows_of_batches sents) Ended
      → AllCome slots plans sents dies → AreReported dies said count → RanScript text plans slots said count
  script_ran new from next sents dies said count h c reported =
      let r = reads_last first new (length plans) slots from next (map rows_of_batches sents) c.items h c.read in
      ran_script text plans slots dies said count r.items
      (known_by (λ (script : Script). script ≡ Ok r.items) (script_of (length plans) slots) text
      (subst (λ (o : Option Script). IfSome o (λ left. left ≡ Ok r.items)) same r.all))
      (in_time_more (length plans) slots [] r.items c.items (record {
        arrive = λ die below. All-nil (Arrives slots);
        pages = λ die below. All-nil RowHasPages;
      }) r.dealt)
      (c.come (feed_of r.items) 0 (λ k below. r.dealt.rows k (omega (arith, below, r.dealt.all))
      ∙ ap (feed_of r.items) (let plain : k ≡ 0 + k = omega arith in plain))) reported
