use Rattle.flashplan_words.proofs.syntax.compare.compare_of_task.Goals as goal

pub returns : goal.returns
returns c =
    let of_a_die = c.with_arg-of_a_die.ensures _ _ c.compare_timed.ensures c.die.ensures.rule in
    c.with_arg.ensures _ _ of_a_die c.task.ensures.rule
