use Rattle.std.proofs.Common.{◌∙◌, ◌-◌, ap, drop, subst, sym, arith}
use Rattle.event_log.specs.Spread.{spread, AreSome}
use Rattle.event_log.specs.NotesFrom.{items_left}
use Rattle.event_log.proofs.Reading.{run_passed, run_begun}
use Rattle.event_log.proofs.items_from.ItemsFrom.new.Goals as goal

pub returns-then-passed-first : goal.returns-then-passed-first
returns-then-passed-first g c =
    let is = c.in-Some.ensures.cases.0 in
    ap (items_left (c.in-Some.first.now.count - c.loop-first.passed)) is
    ∙ run_begun c.in-Some.first.now.count c.loop-first.passed c.in-Some.first.now.item (spread c.in-Some.later.now) (omega arith)
    ∙ ap (λ rs. drop c.loop-first.passed (spread rs)) (sym is)
    ∙ c.loop-first.invariant.left

pub loop-first-preserved : goal.loop-first-preserved
loop-first-preserved g c =
    let is = c.in-Some.ensures.cases.0 in record {
      some = (subst AreSome is c.loop-first.invariant.some).1;
      left = run_passed c.in-Some.first.now.count c.loop-first.passed c.in-Some.first.now.item (spread c.in-Some.later.now)
          c.if-passed-first.false
          ∙ ap (λ rs. drop c.loop-first.passed (spread rs)) (sym is)
          ∙ c.loop-first.invariant.left;
    }
