use Rattle.std.proofs.Common.{◌≡◌, ◌++◌, List, map, ◌∙◌, ap}
use Rattle.std.proofs.lemmas.Result.{on_ok_weaker}
use Rattle.script_texts.specs.declared.script_rows.ScriptItem.{ScriptItem}
use Rattle.flashplan_script_runs.specs.ScriptRuns.{HaveEnded, refused_by}
use Rattle.flashplan_script_runs.specs.declared.refused.Asker.{Asker}
use Rattle.flashplan_script_runs.proofs.DieRows.{ended_more}
use Rattle.flashplan_script_runs.proofs.rows.run_row.Goals as goal

pub returns-clause-ran : goal.returns-clause-ran
returns-clause-ran g c =
    let f = g.D.ScriptDie.running in
    let old = c.args.refused.now.items in
    let new = c.note_refused.new.rows.items in
    let refusal = c.in_ok-refusal.refusal in
    on_ok_weaker c.note_refused.result
    (λ (noted : new ≡ old ++ refused_by c.asker_of-asker.result refusal) (items : List ScriptItem)
    (h : HaveEnded items old 0 (map f c.args.dies.now.items)).
    ended_more items c.args.item refusal old new (map f c.args.dies.now.items) (map f c.take_own.new.dies.items) c.in_ok-refusal.ensures.ran
    (noted ∙ ap (λ (asker : Asker). old ++ refused_by asker refusal) c.asker_of-asker.ensures) h)
    c.note_refused.ensures.ok
