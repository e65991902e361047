use Rattle.std.proofs.Common.{◌≡◌, ◌≤◌, ◌∙◌, List, [], ap, length, map, subst, sym}
use Rattle.std.proofs.lemmas.List.Elements.{All-from_recursion, All-map, recursion_from_All}
use Rattle.die_service.specs.Runners.{SentTo}
use Rattle.script_texts.specs.RowTexts.{RowText}
use Rattle.script_texts.specs.ScriptLeft.{dies_of, line_of, script_rows_left, slots_of}
use Rattle.task_script.specs.RanScripts.{LastAlone, NoneSent}
use Rattle.task_script.specs.RowRunners.{rows_of_batches, until_of}
use Rattle.task_script.specs.RowTexts.{HasReadTexts}
use Rattle.task_script.specs.declared.row_batches.RowBatch.{RowBatch}
use Rattle.task_script.specs.declared.row_runners.RowRunner.{RowRunner}
use Rattle.task_script.proofs.BatchesRun.{all_ran, nothing_firsts, nothing_long, nothing_none, rows_again}
use Rattle.task_script.proofs.sending.send_by.Goals as goal

pub begin-requires-after_bounds : goal.begin-requires-after_bounds
begin-requires-after_bounds g c κs within = c.requires.fresh

pub send_all-end-requires-clause-dies : goal.send_all-end-requires-clause-dies
send_all-end-requires-clause-dies g c =
    ap length c.in-Ok.ensures.begun ∙ (nothing_long c.args.runners.items ∙ c.requires.dies)

pub send_all-end-requires-clause-none : goal.send_all-end-requires-clause-none
send_all-end-requires-clause-none g c =
    subst NoneSent (sym c.in-Ok.ensures.begun)
    (All-from_recursion (λ (s : SentTo RowRunner RowBatch). s.batches ≡ []) _ (nothing_none c.args.runners.items))

pub returns-clause-ran : goal.returns-clause-ran
returns-clause-ran g c = λ plans fresh.
    let after = c.send_all-end.new.run in
    let sent = c.in_ok-end.ensures.sent in
    let firsts = sent.firsts ∙ (ap (map (λ (s : SentTo RowRunner RowBatch). s.first)) c.in-Ok.ensures.begun ∙ nothing_firsts c.args.runners.items) in
    record {
      sents = map (λ (s : SentTo RowRunner RowBatch). s.batches) after;
      dies = all_ran plans after c.args.runners.items c.in_ok-dies.dies.items firsts fresh
          (recursion_from_All (λ (s : SentTo RowRunner RowBatch). LastAlone s.batches) after sent.alone) c.in_ok-dies.ensures.ran;
      rows = subst (λ (rows : List (List RowText)). HasReadTexts (script_rows_left g.S.Read.remaining c.args.script)
          (script_rows_left g.S.Read.remaining c.send_all-end.new.script) (dies_of c.args.script) (slots_of c.args.script)
          (line_of c.args.script) (line_of c.send_all-end.new.script) rows c.in_ok-end.end) (sym (rows_again after)) sent.rows;
      last = λ ended. All-map (λ (batches : List RowBatch). until_of batches ≡ c.args.slots) (λ (s : SentTo RowRunner RowBatch). s.batches) after
          (sent.last ended);
      few = All-map (λ (batches : List RowBatch). length (rows_of_batches batches) ≤ 8192024576) (λ (s : SentTo RowRunner RowBatch). s.batches)
          after sent.few;
      failed = sent.failed;
      over = sent.over;
    }
