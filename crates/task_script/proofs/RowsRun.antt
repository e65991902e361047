-- A die reads the rows of a batch, and runs them.
use Rattle.std.proofs.Common.{◌≡◌, ℕ, ◌+◌, ◌-◌, ◌≤◌, max, Bool, true, false, List, [], ◌∷◌, ◌++◌, refl, ap, sym, ◌∙◌, subst, length}
use Rattle.std.proofs.Common.{arith, Option, None, Some, Result, Ok, Err, All, drop}
use Rattle.std.specs.Prelude.{IfSome}
use Rattle.std.proofs.lemmas.List.{length-map, map-append}
use Rattle.std.proofs.lemmas.List.Elements.{All-from_recursion, All-weaker, recursion_from_All}
use Rattle.slot_types.specs.Arrivals.{IsArrival}
use Rattle.slot_types.specs.declared.limits.TheConstants.{MAX_SLOT}
use Rattle.slot_types.specs.declared.plans.DiePlan.{DiePlan}
use Rattle.slot_types.specs.declared.refusals.Refusal.{Refusal}
use Rattle.slot_types.specs.declared.refusals.Refusal.TheVariants.{NoMemory}
use Rattle.flash_die.specs.Memory.{Memory}
use Rattle.flash_die.specs.declared.nand.NandCall.{NandCall}
use Rattle.die_log.specs.Model.Log.{now}
use Rattle.die_log.specs.Model.Start.{fresh}
use Rattle.die_service.specs.Drives.{Course, whole_course}
use Rattle.die_service.specs.OwnRuns as own
use Rattle.die_service.specs.OwnRuns.{result_of_stop}
use Rattle.die_service.specs.Runs.{stop_of}
use Rattle.die_service.specs.declared.refused.RefusedAt.{RefusedAt}
use Rattle.script_texts.specs.RowTexts.{RowText, row_text}
use Rattle.script_texts.specs.declared.script_rows.RowHead.{RowHead}
use Rattle.script_texts.specs.declared.script_rows.ScriptItem.{ScriptItem}
use Rattle.task_script.specs.DieRuns.{MakesCalls, calls_from, run_at}
use Rattle.task_script.specs.RowDies.{AddsRow, HasRead, HasRunOn, IsIdle, core_of, latest_slot}
use Rattle.task_script.specs.RowEnds.{arrival_of, arrivals_of, ends_from, lines_of}
use Rattle.task_script.specs.RowRunners.{AreInReach}
use Rattle.task_script.specs.RowTexts.{read_of}
use Rattle.slot_core.specs.Core.{Core}
use Rattle.task_script.specs.RunCounts.{counted_after, rows_in}
use Rattle.task_script.specs.declared.row_dies.RowDie.{RowDie}
use Rattle.task_script.specs.declared.run_counts.RowEnd.{RowEnd}
use Rattle.task_script.proofs.BatchCalls.{latest_all, latest_more}
use Rattle.task_script.proofs.Counting.{rows_of_batch}
use Rattle.task_script.proofs.DieCalls.{slots_run, stops_for_memory}
use Rattle.task_script.proofs.Gathering.{latest_within}
use Rattle.task_script.proofs.RowReading.{IsReadBefore, arrive, arrive_by, no_items, read_all_of, read_fault_of, read_more_of, zipped}

-- Row by row

-- the rows before those that are left were read as these items, which come next
pub record HaveBeenRead (texts left : List RowText) (old here : RowDie) : Type 0 where
  pub items : List ScriptItem
  pub so_far : IsReadBefore (read_of texts) left items
  pub die : here.die ≡ record old.die { course = whole_course (arrivals_of items) }
  pub lines : here.lines.items ≡ lines_of items
  pub latest : here.latest ≡ latest_slot items
  pub count : here.count ≡ old.count

pub none_read_yet : (texts : List RowText) (plan : DiePlan) (old : RowDie) → IsIdle plan old
    → HaveBeenRead texts texts old (record old { latest = 0 })
none_read_yet texts plan old idle = record {
  items = [];
  so_far = no_items (read_of texts);
  die = ap (λ (c : Course). record old.die { course = c }) idle.none;
  lines = idle.no_lines;
  latest = refl;
  count = refl;
}

pub one_read : (texts left rest : List RowText) (head : RowHead) (text : List ℕ) (old here next : RowDie) → left ≡ row_text head text ∷ rest
    → HaveBeenRead texts left old here → AddsRow head text here (Ok tt) next → HaveBeenRead texts rest old next
one_read texts left rest head text old here next at h (item, is, added, lines) = record {
  items = h.items ++ item ∷ [];
  so_far = read_more_of (read_of texts) left rest (row_text head text) h.items item at is h.so_far;
  die = ap (λ (d : RowDie). d.die) added
      ∙ (ap (λ (d : own.DieRun Memory). record d { course = record d.course { rest = d.course.rest ++ arrival_of item ∷ [] } }) h.die
      ∙ ap (λ l. record old.die { course = whole_course l }) (sym (map-append arrival_of h.items (item ∷ []))));
  lines = lines ∙ (ap (λ l. l ++ item.line ∷ []) h.lines ∙ sym (map-append (λ (i : ScriptItem). i.line) h.items (item ∷ [])));
  latest = omega (arith, ap (λ (d : RowDie). d.latest) added, h.latest, latest_more h.items (item ∷ []));
  count = ap (λ (d : RowDie). d.count) added ∙ h.count;
}

pub row_at_fault : (texts left rest : List RowText) (head : RowHead) (text : List ℕ) (old here next : RowDie) (e : Refusal)
    → left ≡ row_text head text ∷ rest → HaveBeenRead texts left old here → AddsRow head text here (Err e) next → HasRead texts old (Err e) next
row_at_fault texts left rest head text old here next e at h added =
    read_fault_of (read_of texts) left rest (row_text head text) h.items e at h.so_far added

pub all_read : (texts : List RowText) (place : ℕ) (old here : RowDie) → length texts ≤ place → HaveBeenRead texts (drop place texts) old here
    → HasRead texts old (Ok tt) here
all_read texts place old here past h =
    (h.items, read_all_of (read_of texts) place texts h.items past h.so_far, h.die, h.lines, h.latest, h.count)

-- Slot by slot

ok_none : (o : Option RefusedAt) → ◌≡◌ {A = Result Unit Refusal} (Ok tt) (result_of_stop o) → o ≡ None
ok_none None is = refl
ok_none (Some refused) is = absurd cc

err_memory : (o : Option RefusedAt) (e : Refusal) → ◌≡◌ {A = Result Unit Refusal} (Err e) (result_of_stop o)
    → IfSome o (λ refused. refused.refusal ≡ NoMemory) → e ≡ NoMemory
err_memory None e is memory = absurd cc
err_memory (Some refused) e is memory = let same : e ≡ refused.refusal = cc in same ∙ memory

module _ (ends : Memory → NandCall → Bool → Memory → Type 0) (failures : Memory → ℕ) (plan : DiePlan) (texts : List RowText)
    (items : List ScriptItem) (until : ℕ) (old : RowDie) (idle : IsIdle plan old) (read : read_of texts ≡ Ok items) where
  abbrev pub Ran : Result Unit Refusal → own.DieRun Memory → Type 0
  Ran result after = own.HasRunOn ends failures true (max (latest_slot items) until)
      (record old.die { course = whole_course (arrivals_of items) }) result after

  arrivals : All (λ item. IsArrival item.event) items
  arrivals = All-from_recursion (λ (item : ScriptItem). IsArrival item.event) items (arrive texts items (zipped texts items read))

  pub record CameOn (after : own.DieRun Memory) : Type 0 where
    pub ends_of : List RowEnd
    pub ran : MakesCalls plan (run_at (core_of old).log []) (calls_from old.die.clock (after.clock - old.die.clock) items)
        (run_at after.die.log ends_of)
    pub start_is : after.die.start ≡ fresh plan
    pub runs : after.die.stopped ≡ false
    pub clock_now : after.clock ≡ now after.die.log
    pub clock_is : after.clock ≡ max (max old.die.clock (latest_slot items)) until
    pub ends_are : ends_of ≡ ends_from 0 (lines_of items) after.course.refused

  -- a batch was run
  pub batch_ran : (after : own.DieRun Memory) → Ran (Ok tt) after → CameOn after
  batch_ran after r =
      let left = max (latest_slot items) until - old.die.clock in
      let due = All-weaker (λ (item : ScriptItem). item.at ≤ latest_slot items) (λ item. item.at ≤ old.die.clock + left)
      (λ (item : ScriptItem) h. omega (arith, h)) items (latest_all items) in
      let came = slots_run ends failures plan left old.die.clock items (core_of old) after.die r.saids [] 0 r.ordered r.asked
      (record { start_is = idle.start_is; runs = idle.runs }) (sym idle.clock_is) (ok_none (stop_of r.saids) r.result_is) due arrivals in
      let slots : left ≡ after.clock - old.die.clock = omega (arith, r.clock) in record {
        ends_of = came.more;
        ran = subst (λ (n : ℕ). MakesCalls plan (run_at (core_of old).log []) (calls_from old.die.clock n items) (run_at after.die.log came.more))
            slots came.ran;
        start_is = came.running.start_is;
        runs = came.running.runs;
        clock_now = omega (arith, r.clock, came.slots);
        clock_is = omega (arith, r.clock);
        ends_are = came.more_is ∙ ap (ends_from 0 (lines_of items)) (sym r.refused);
      }

  -- or memory ran out
  pub batch_stopped : (e : Refusal) (after : own.DieRun Memory) → AreInReach texts → until ≤ MAX_SLOT → Ran (Err e) after → e ≡ NoMemory
  batch_stopped e after reach few r =
      let left = max (latest_slot items) until - old.die.clock in
      let due : latest_slot items ≤ MAX_SLOT = latest_within MAX_SLOT items (arrive_by MAX_SLOT texts items
      (recursion_from_All (λ (row : RowText). row.head.at ≤ MAX_SLOT) texts reach) (zipped texts items read)) in
      err_memory (stop_of r.saids) e r.result_is (stops_for_memory ends failures plan left old.die.clock items (core_of old) after.die r.saids
      r.ordered r.asked (record { start_is = idle.start_is; runs = idle.runs }) (sym idle.clock_is) (omega (arith, due, few, idle.within)) arrivals)

  -- as calls say it
  pub batch_ran_from : (last : ℕ) (before after : own.DieRun Memory) → last ≡ max (latest_slot items) until
      → before ≡ record old.die { course = whole_course (arrivals_of items) } → own.HasRunOn ends failures true last before (Ok tt) after
      → CameOn after
  batch_ran_from last before after top is ran =
      batch_ran after (subst (λ (n : ℕ). own.HasRunOn ends failures true n (record old.die { course = whole_course (arrivals_of items) }) (Ok tt) after)
      top (subst (λ (d : own.DieRun Memory). own.HasRunOn ends failures true last d (Ok tt) after) is ran))

  pub batch_stopped_from : (e : Refusal) (last : ℕ) (before after : own.DieRun Memory) → AreInReach texts → until ≤ MAX_SLOT
      → last ≡ max (latest_slot items) until → before ≡ record old.die { course = whole_course (arrivals_of items) }
      → own.HasRunOn ends failures true last before (Err e) after → e ≡ NoMemory
  batch_stopped_from e last before after reach few top is ran =
      batch_stopped e after reach few
      (subst (λ (n : ℕ). own.HasRunOn ends failures true n (record old.die { course = whole_course (arrivals_of items) }) (Err e) after)
      top (subst (λ (d : own.DieRun Memory). own.HasRunOn ends failures true last d (Err e) after) is ran))

  -- the die after that, once its events and lines were taken away
  pub has_run : (after : own.DieRun Memory) (new : RowDie) → AreInReach texts → until ≤ MAX_SLOT → CameOn after → new.die.die ≡ after.die
      → new.die.clock ≡ after.clock → new.die.course ≡ whole_course [] → new.lines.items ≡ []
      → new.count ≡ counted_after old.count (ends_from 0 (lines_of items) after.course.refused) → HasRunOn until items old new
  has_run after new reach few came d k none no_lines is =
      let due : latest_slot items ≤ MAX_SLOT = latest_within MAX_SLOT items (arrive_by MAX_SLOT texts items
      (recursion_from_All (λ (row : RowText). row.head.at ≤ MAX_SLOT) texts reach) (zipped texts items read)) in record {
        plan = plan;
        ends = came.ends_of;
        was_idle = idle;
        idle = record {
          start_is = ap (λ (x : Core Memory). x.start) d ∙ came.start_is;
          runs = ap (λ (x : Core Memory). x.stopped) d ∙ came.runs;
          clock_is = k ∙ (came.clock_now ∙ ap (λ (x : Core Memory). now x.log) (sym d));
          within = omega (arith, k, came.clock_is, idle.within, due, few);
          none = none;
          no_lines = no_lines;
        };
        clock_is = k ∙ came.clock_is;
        ran = subst (λ (n : ℕ). MakesCalls plan (run_at (core_of old).log []) (calls_from old.die.clock (n - old.die.clock) items)
            (run_at (core_of new).log came.ends_of)) (sym k)
            (subst (λ (x : Core Memory). MakesCalls plan (run_at (core_of old).log [])
            (calls_from old.die.clock (after.clock - old.die.clock) items) (run_at x.log came.ends_of)) (sym d) came.ran);
        counted = is ∙ ap (counted_after old.count) (sym came.ends_are);
        rows = omega (
          arith,
          ap rows_in is,
          rows_of_batch old.count (lines_of items) after.course.refused,
          length-map items (λ (i : ScriptItem). i.line),
        );
      }
