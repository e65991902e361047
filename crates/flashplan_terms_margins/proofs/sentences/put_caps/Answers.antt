use Rattle.std.proofs.Common.{◌∙◌, ℕ, List, [], ◌++◌, ◌<◌, ◌≤◌, arith, append_assoc, length, refl, subst}
use Rattle.std.proofs.lemmas.List.{append-nil, drop_all}
use Rattle.terms_texts.specs.declared.stores.DieTerms.{DieTerms}
use Rattle.flashplan_terms_margins.specs.Changes.{FindsCap}
use Rattle.flashplan_terms_margins.specs.MarginTexts.{cap_line}
use Rattle.flashplan_terms_margins.proofs.Lines.{caps-from}
use Rattle.flashplan_terms_margins.proofs.sentences.put_caps.Goals as goal

pub loop-task-preserved : goal.loop-task-preserved
loop-task-preserved c =
    let made = c.args.made in
    let task = c.loop-task.task in
    let found = c.cap_margin-made.result.found in
    let line : List ℕ = cap_line c.args.die task found in
    let before = c.loop-task.invariant.said in
    let below : task < length made.plan.caps = omega (arith, c.loop-task-test.true, c.len-tasks.ensures) in
    let finds : FindsCap made.plan task found =
    subst (λ (d : DieTerms). FindsCap d.plan task found) c.loop-task.invariant.same c.cap_margin-made.ensures.found in
    record {
      same = c.cap_margin-made.ensures.same ∙ c.loop-task.invariant.same;
      said = (
        before.0 ++ line,
        c.in_ok-put_cap.ensures ∙ rw before.1 (append_assoc c.args.text.now.items before.0 line),
        λ rest more. rw (append_assoc before.0 line rest)
            (before.2 (line ++ rest) (caps-from made.plan c.args.die task made.plan.caps 0 found rest below finds more)),
      );
    }

pub returns-clause-said : goal.returns-clause-said
returns-clause-said c =
    let before = c.loop-task.invariant.said in
    let over : length c.args.made.plan.caps ≤ c.loop-task.task = omega (arith, c.loop-task-test.false, c.len-tasks.ensures) in (
      before.0,
      rw (append-nil before.0) at (before.2 [] (rw (drop_all c.loop-task.task c.args.made.plan.caps over) refl)),
      before.1,
    )
