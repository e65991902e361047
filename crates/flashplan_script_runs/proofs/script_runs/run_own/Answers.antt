use Rattle.std.proofs.Common.{◌≡◌, ◌++◌, List, ◌∙◌, ap, arith}
use Rattle.std.proofs.lemmas.Result.{on_ok_weaker}
use Rattle.script_texts.specs.declared.script_rows.ScriptItem.{ScriptItem}
use Rattle.flashplan_script_runs.specs.ScriptRuns.{HasEnded, items_of_die, refused_by}
use Rattle.flashplan_script_runs.specs.declared.refused.Asker.{Asker}
use Rattle.flashplan_script_runs.proofs.DieRows.{own_ended}
use Rattle.flashplan_script_runs.proofs.script_runs.run_own.Goals as goal

pub returns-clause-ran : goal.returns-clause-ran
returns-clause-ran g c =
    let f = g.D.ScriptDie.running in
    let old = c.args.refused.now.items in
    let new = c.note_refused.new.rows.items in
    let refusal = c.in_ok-refusal.refusal in
    let own : c.args.item.die ≡ c.args.number = omega arith in
    on_ok_weaker c.note_refused.result
    (λ (noted : new ≡ old ++ refused_by c.asker_of-asker.result refusal) (items : List ScriptItem)
    (h : HasEnded (items_of_die items c.args.number) old 0 (f c.args.die.now)).
    own_ended items c.args.item refusal c.args.number old new (f c.args.die.now) (f c.take_row.new.die) own c.in_ok-refusal.ensures.taken
    (noted ∙ ap (λ (asker : Asker). old ++ refused_by asker refusal) c.asker_of-asker.ensures) h)
    c.note_refused.ensures.ok
