use Rattle.std.proofs.Common.{◌++◌, refl, ap, sym, ◌∙◌}
use Rattle.std.specs.Prelude.{replicate}
use Rattle.late_cert.specs.BusyInterval.{is_within}
use Rattle.slot_core.specs.TableRows.{rows_in}
use Rattle.slot_core.proofs.BusyIntervals.{walk_starts, walk_goes_on, walk_ends}
use Rattle.slot_core.proofs.certificates.walk_back.Goals as goal

pub loop-run-init : goal.loop-run-init
loop-run-init c =
    rw c.new-numbers.ensures.items (walk_starts (rows_in 0 c.args.table.now.jobs) c.args.slots c.args.last.now.number c.args.completion
    c.requires.len)

pub returns-in_default-within-clause-start : goal.returns-in_default-within-clause-start
returns-in_default-within-clause-start c =
    walk_ends (rows_in 0 c.args.table.now.jobs) c.args.slots c.loop-run.slots c.pop.new.self c.args.last.now.number c.args.completion
    c.loop-run.start c.loop-run.numbers.items c.in-Some.run'.count c.in-Some.run'.number c.loop-run.invariant c.in-Some.ensures.slots
    c.in-Some.ensures.some (c.in_default-within.ensures.outside refl)

pub loop-run-preserved : goal.loop-run-preserved
loop-run-preserved c =
    walk_goes_on (rows_in 0 c.args.table.now.jobs) c.args.slots c.loop-run.slots c.pop.new.self c.args.last.now.number c.args.completion
    c.loop-run.start c.loop-run.numbers.items c.note.new.numbers.items c.in-Some.run'.count c.in-Some-within.number c.loop-run.invariant
    (c.in-Some.ensures.slots ∙ ap (λ o. c.pop.new.self ++ replicate c.in-Some.run'.count o) c.in-Some-within.ensures.within.0)
    c.in-Some.ensures.some
    (sym (ap (is_within (rows_in 0 c.args.table.now.jobs) c.args.last.now.number) c.in-Some-within.ensures.within.0)
    ∙ c.in-Some-within.ensures.within.1) c.in_ok-note.ensures.noted
