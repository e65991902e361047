use Rattle.flashplan_words.proofs.syntax.program_words.Goals as goal

pub returns : goal.returns
returns c =
    let explaining = c.with_command-explaining.ensures _ _ c.name.ensures c.explain_words.ensures in
    let fitting = c.with_command-fitting.ensures _ _ explaining c.fit_words.ensures in
    let designing = c.with_command-designing.ensures _ _ fitting c.design_words.ensures in
    let arriving = c.with_command-arriving.ensures _ _ designing c.arrivals_words.ensures in
    let filling = c.with_command-filling.ensures _ _ arriving c.fill_words.ensures in
    let keeping = c.with_command-keeping.ensures _ _ filling c.keeps_words.ensures in
    let wearing = c.with_command-wearing.ensures _ _ keeping c.wear_words.ensures in
    let reporting = c.with_command-reporting.ensures _ _ wearing c.report_words.ensures in
    let drawing = c.with_command-drawing.ensures _ _ reporting c.draw_words.ensures in
    let comparing = c.with_command-comparing.ensures _ _ drawing c.compare_words.ensures in
    let importing = c.with_command-importing.ensures _ _ comparing c.import_words.ensures in
    let running = c.with_command-running.ensures _ _ importing c.run_words.ensures in
    let cutting = c.with_command-cutting.ensures _ _ running c.cut_words.ensures in
    c.with_command.ensures _ _ cutting c.audit_words.ensures
