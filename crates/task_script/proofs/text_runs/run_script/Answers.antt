use Rattle.std.proofs.Common.{◌≡◌, ◌≤◌, ◌∙◌, List, ap, arith, length, map, subst, sym, All}
use Rattle.std.proofs.lemmas.Grind.{common_steps}
use Rattle.std.proofs.lemmas.List.Elements.{recursion_from_All}
use Rattle.slot_types.specs.declared.plans.DiePlan.{DiePlan}
use Rattle.plan_rules.specs.Bound.{MeetsBound}
use Rattle.script_texts.specs.ScriptLeft.{line_of, script_rows_left}
use Rattle.task_script.specs.Feeds.{RefusesScript}
use Rattle.task_script.specs.RanScripts.{AllRan, dies_in}
use Rattle.task_script.specs.RowRunners.{rows_of_batches, until_of}
use Rattle.task_script.specs.RowTexts.{HasReadTexts}
use Rattle.task_script.specs.declared.feeds.ReadEnd.{ReadEnd}
use Rattle.task_script.specs.declared.row_batches.RowBatch.{RowBatch}
use Rattle.task_script.proofs.Dealing.{texts_as}
use Rattle.task_script.proofs.OpsReading.{runs_read, runs_refused}
use Rattle.task_script.proofs.Refusals.{none_refused}
use Rattle.task_script.proofs.ScriptReading.{not_of_reader, whole_rows}
use Rattle.task_script.proofs.ScriptRuns.{all_come, refuses_after, refuses_within, script_ran}
use Rattle.task_script.proofs.text_runs.run_script.Goals as goal

pub returns-in-Some-clause-refused : goal.returns-in-Some-clause-refused
returns-in-Some-clause-refused g c =
    let text = g.S.Read.remaining c.args.script in
    let first = script_rows_left g.S.Read.remaining c.in_ok-reader.reader in
    let whole = whole_rows text first (length c.args.plan.now) c.args.slots c.in_ok-reader.ensures.rows in
    let new = script_rows_left g.S.Read.remaining c.in_ok-sent.sent.script in
    let dies = c.in_ok-sent.sent.dies.items in
    let ran = c.in_ok-sent.ensures.ran in
    subst (RefusesScript text (length c.args.plan.now) c.args.slots) (sym c.from.ensures)
    (refuses_within text first c.args.plan.now c.args.slots whole new (line_of c.in_ok-reader.reader)
    (line_of c.in_ok-sent.sent.script) (map rows_of_batches ran.sents) c.in_ok-sent.sent.end c.in-Some.refusal
    (texts_as first new _ _ _ _ _ _ _ _ c.in_ok-reader.ensures.dies c.in_ok-reader.ensures.slots ran.rows)
    (runs_refused c.as_slice.result.now ran.sents dies c.in-Some.refusal ran.dies
    (sym (rw c.as_slice-2.ensures.value at c.first_refusal.ensures) ∙ c.in-Some.is)))

pub returns-in-Some-clause-failed : goal.returns-in-Some-clause-failed
returns-in-Some-clause-failed g c = λ is.
    let dies = c.in_ok-sent.sent.dies.items in
    let ran = c.in_ok-sent.ensures.ran in
    absurd (not_of_reader (map rows_of_batches ran.sents) c.in-Some.refusal
    (runs_refused c.as_slice.result.now ran.sents dies c.in-Some.refusal ran.dies
    (sym (rw c.as_slice-2.ensures.value at c.first_refusal.ensures) ∙ c.in-Some.is)) (sym c.from.ensures ∙ is))

pub finish-requires-clause-whole : goal.finish-requires-clause-whole
finish-requires-clause-whole g c κs within =
    none_refused c.in_ok-sent.sent.dies.items (sym (rw c.as_slice-2.ensures.value at c.first_refusal.ensures) ∙ c.in-None.is)

pub finish-requires-clause-counted : goal.finish-requires-clause-counted
finish-requires-clause-counted g c κs within =
    let dies = c.in_ok-sent.sent.dies.items in
    let ran = c.in_ok-sent.ensures.ran in
    let all = all_come c.args.slots c.as_slice.result.now ran.sents dies (dies_in dies) ran.dies
    (none_refused dies (sym (rw c.as_slice-2.ensures.value at c.first_refusal.ensures) ∙ c.in-None.is))
    (recursion_from_All (λ (batches : List RowBatch). until_of batches ≡ c.args.slots) ran.sents (ran.last c.in-Ended.is))
    (recursion_from_All (λ (batches : List RowBatch). length (rows_of_batches batches) ≤ 8192024576) ran.sents ran.few) in
    omega (arith, all.counted, all.long, ap length c.as_slice.ensures, c.requires.dies)

pub finish-requires-clause-few : goal.finish-requires-clause-few
finish-requires-clause-few g c κs within =
    let dies = c.in_ok-sent.sent.dies.items in
    let ran = c.in_ok-sent.ensures.ran in
    let all = all_come c.args.slots c.as_slice.result.now ran.sents dies (dies_in dies) ran.dies
    (none_refused dies (sym (rw c.as_slice-2.ensures.value at c.first_refusal.ensures) ∙ c.in-None.is))
    (recursion_from_All (λ (batches : List RowBatch). until_of batches ≡ c.args.slots) ran.sents (ran.last c.in-Ended.is))
    (recursion_from_All (λ (batches : List RowBatch). length (rows_of_batches batches) ≤ 8192024576) ran.sents ran.few) in
    omega (arith, all.long, ap length c.as_slice.ensures, c.requires.dies)

pub finish-requires-clause-workers : goal.finish-requires-clause-workers
finish-requires-clause-workers g c κs within = c.requires.workers

pub returns-in_ok-whole-in-Ended-clause-ran : goal.returns-in_ok-whole-in-Ended-clause-ran
returns-in_ok-whole-in-Ended-clause-ran g c =
    let text = g.S.Read.remaining c.args.script in
    let first = script_rows_left g.S.Read.remaining c.in_ok-reader.reader in
    let whole = whole_rows text first (length c.args.plan.now) c.args.slots c.in_ok-reader.ensures.rows in
    let new = script_rows_left g.S.Read.remaining c.in_ok-sent.sent.script in
    let dies = c.in_ok-sent.sent.dies.items in
    let sent = c.in_ok-sent.ensures.ran in
    let all = all_come c.args.slots c.args.plan.now sent.sents dies (dies_in dies)
    (subst (λ (plans : List DiePlan). AllRan plans sent.sents dies) c.as_slice.ensures sent.dies)
    (none_refused dies (sym (rw c.as_slice-2.ensures.value at c.first_refusal.ensures) ∙ c.in-None.is))
    (recursion_from_All (λ (batches : List RowBatch). until_of batches ≡ c.args.slots) sent.sents (sent.last c.in-Ended.is))
    (recursion_from_All (λ (batches : List RowBatch). length (rows_of_batches batches) ≤ 8192024576) sent.sents sent.few) in
    let ran = c.in_ok-whole-in-Ended.whole in
    script_ran text first c.args.plan.now c.args.slots whole new (line_of c.in_ok-reader.reader)
    (line_of c.in_ok-sent.sent.script) sent.sents (dies_in dies) ran.parts.items ran.count
    (subst (λ (end : ReadEnd). HasReadTexts first new (length c.args.plan.now) c.args.slots (line_of c.in_ok-reader.reader)
    (line_of c.in_ok-sent.sent.script) (map rows_of_batches sent.sents) end) c.in-Ended.is
    (texts_as first new _ _ _ _ _ _ _ _ c.in_ok-reader.ensures.dies c.in_ok-reader.ensures.slots sent.rows)) all
    c.in_ok-whole-in-Ended.ensures.reported

pub returns-in-Refused-clause-refused : goal.returns-in-Refused-clause-refused
returns-in-Refused-clause-refused g c =
    let text = g.S.Read.remaining c.args.script in
    let first = script_rows_left g.S.Read.remaining c.in_ok-reader.reader in
    let whole = whole_rows text first (length c.args.plan.now) c.args.slots c.in_ok-reader.ensures.rows in
    let new = script_rows_left g.S.Read.remaining c.in_ok-sent.sent.script in
    let dies = c.in_ok-sent.sent.dies.items in
    let ran = c.in_ok-sent.ensures.ran in
    refuses_after text first c.args.plan.now c.args.slots whole new (line_of c.in_ok-reader.reader)
    (line_of c.in_ok-sent.sent.script) (map rows_of_batches ran.sents) c.in-Refused.refusal
    (subst (λ (end : ReadEnd). HasReadTexts first new (length c.args.plan.now) c.args.slots (line_of c.in_ok-reader.reader)
    (line_of c.in_ok-sent.sent.script) (map rows_of_batches ran.sents) end) c.in-Refused.is
    (texts_as first new _ _ _ _ _ _ _ _ c.in_ok-reader.ensures.dies c.in_ok-reader.ensures.slots ran.rows))
    (runs_read c.as_slice.result.now ran.sents dies ran.dies
    (sym (rw c.as_slice-2.ensures.value at c.first_refusal.ensures) ∙ c.in-None.is))

pub send_script-requires-clause-dies : goal.send_script-requires-clause-dies
send_script-requires-clause-dies g c κs within = grind (arith, common_steps)

pub send_script-requires-clause-first : goal.send_script-requires-clause-first
send_script-requires-clause-first g c κs within = grind (arith, common_steps)

pub send_script-requires-clause-slots : goal.send_script-requires-clause-slots
send_script-requires-clause-slots g c κs within = c.in_ok-reader.ensures.slots

pub send_script-requires-clause-few : goal.send_script-requires-clause-few
send_script-requires-clause-few g c κs within = c.requires.few

pub send_script-requires-clause-bound : goal.send_script-requires-clause-bound
send_script-requires-clause-bound g c κs within =
    subst (λ (plans : List DiePlan). All MeetsBound plans) (sym c.as_slice.ensures) c.requires.bound

pub unreachable-requires : goal.unreachable-requires
unreachable-requires g c = c.in_ok-sent.ensures.ran.over c.in-More.is
