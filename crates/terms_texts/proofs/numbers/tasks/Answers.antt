use Rattle.std.proofs.Common.{inr, rules, ◌≡◌, sym, Some, None, get_or}
use Rattle.toml.specs.Data.{as_table}
use Rattle.toml.specs.View.{view, table_view}
use Rattle.terms_texts.proofs.TermsLaws.{tasks-untabled, tasks-fault, tasks-more, tasks-end}
use Rattle.terms_texts.proofs.numbers.tasks.Goals as goal

pub returns-in_default : goal.returns-in_default
returns-in_default c =
    let d = c.index-tables-i.result in
    let seen = rw c.in_default.is at c.as_table.ensures in
    let none : as_table (view (get_or c.args.tables.now c.loop-i.i d)) ≡ None = rw (← c.index-tables-i.is) (sym seen) in
    inr (tasks-untabled c.args.tables.now c.loop-i.i d _ c.loop-i-test.true none c.loop-i.invariant)

pub returns-in-Err : goal.returns-in-Err
returns-in-Err c =
    let d = c.index-tables-i.result in
    let seen = rw c.in-Some.is at c.as_table.ensures in
    let some : as_table (view (get_or c.args.tables.now c.loop-i.i d))
    ≡ Some (table_view c.in-Some.table.now) = rw (← c.index-tables-i.is) (sym seen) in
    let good = c.task.ensures in
    inr (tasks-fault c.args.tables.now c.loop-i.i d (table_view c.in-Some.table.now) c.in-Err.refusal _ c.loop-i-test.true some
    (sym (rw c.in-Err.is at good)) c.loop-i.invariant)

pub loop-i-preserved : goal.loop-i-preserved
loop-i-preserved c =
    let d = c.index-tables-i.result in
    let seen = rw c.in-Some.is at c.as_table.ensures in
    let some : as_table (view (get_or c.args.tables.now c.loop-i.i d))
    ≡ Some (table_view c.in-Some.table.now) = rw (← c.index-tables-i.is) (sym seen) in
    let good = c.task.ensures in
    tasks-more c.args.tables.now c.loop-i.i d (table_view c.in-Some.table.now) c.in-Ok.task _ _ c.loop-i-test.true some
    (sym (rw c.in-Ok.is at good)) c.in_ok-push-in-Ok.ensures.ok c.loop-i.invariant

pub returns : goal.returns
returns c = tasks-end c.args.tables.now c.loop-i.i c.loop-i.tasks (search rules) c.loop-i.invariant
