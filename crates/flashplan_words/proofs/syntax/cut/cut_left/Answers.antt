use Rattle.flashplan_words.proofs.syntax.cut.cut_left.Goals as goal

pub returns : goal.returns
returns c =
    let after = c.with_arg-after.ensures _ _ c.cut_at.ensures c.left.ensures.rule in
    let looking = c.with_arg-looking.ensures _ _ after c.looks.ensures.rule in
    c.with_arg.ensures _ _ looking c.mounts.ensures.rule
