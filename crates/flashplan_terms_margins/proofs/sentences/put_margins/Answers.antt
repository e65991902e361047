use Rattle.std.proofs.Common.{◌∙◌, ℕ, List, [], ◌++◌, ◌<◌, ◌≤◌, arith, append_assoc, length, refl, subst, get_or}
use Rattle.std.proofs.lemmas.List.{append-nil, drop_all}
use Rattle.demand_rules.specs.Demand.{no_terms, terms_of}
use Rattle.terms_texts.specs.declared.stores.DieTerms.{DieTerms}
use Rattle.flashplan_terms_margins.specs.Changes.{AreMargins}
use Rattle.flashplan_terms_margins.specs.MarginTexts.{margins_line}
use Rattle.flashplan_terms_margins.proofs.Lines.{lines-from}
use Rattle.flashplan_terms_margins.proofs.sentences.put_margins.Goals as goal

pub loop-task-preserved : goal.loop-task-preserved
loop-task-preserved c =
    let made = c.args.made in
    let task = c.loop-task.task in
    let m = c.task_margins-made.result.margins in
    let line : List ℕ = margins_line c.args.slot_us c.args.die task m in
    let before = c.loop-task.invariant.said in
    let below : task < length made.terms.tasks = omega (arith, c.loop-task-test.true, c.len-tasks.ensures) in
    let margins : AreMargins made task (get_or made.terms.tasks task no_terms) m =
    subst (λ (d : DieTerms). AreMargins d task (terms_of d.terms task) m) c.loop-task.invariant.same c.task_margins-made.ensures.margins in
    record {
      same = c.task_margins-made.ensures.same ∙ c.loop-task.invariant.same;
      said = (
        before.0 ++ line,
        c.in_ok-put_line.ensures ∙ rw before.1 (append_assoc c.args.text.now.items before.0 line),
        λ rest more. rw (append_assoc before.0 line rest)
            (before.2 (line ++ rest) (lines-from c.args.slot_us made c.args.die task made.terms.tasks no_terms m rest below margins more)),
      );
    }

pub returns : goal.returns
returns c =
    let before = c.loop-task.invariant.said in
    let over : length c.args.made.terms.tasks ≤ c.loop-task.task = omega (arith, c.loop-task-test.false, c.len-tasks.ensures) in (
      before.0,
      rw (append-nil before.0) at (before.2 [] (rw (drop_all c.loop-task.task c.args.made.terms.tasks over) refl)),
      before.1,
    )
