use Rattle.std.proofs.Common.{◌≡◌, ◌==◌, true, List, Option, ap, sym, ◌∙◌, arith}
use Rattle.std.proofs.lemmas.Bool.Decides.{nat_tests}
use Rattle.slot_types.specs.declared.events.Op.{Op}
use Rattle.planned_log.specs.declared.ask_kinds.AskKind.TheVariants as kinds
use Rattle.planned_log.specs.Moves.{Ask, after_move}
use Rattle.ongoing_log.specs.Ongoing.{WaitingAsk}
use Rattle.planned_die.specs.Planned.{Planned}
use Rattle.ongoing_die.specs.Entering.{after_one}
use Rattle.ongoing_die.proofs.Entering.{asked_same, asked_log, is_due}
use Rattle.ongoing_die.proofs.next_life.enter_one.Goals as goal

pub returns-clause-log : goal.returns-clause-log
returns-clause-log g c earlier h =
    let die : Planned g.row.N.Denot = c.args.die.now in
    let here : (c.args.waiting.now.until == c.args.clock) ≡ true = grind (arith, nat_tests, c.if-waiting-clock.false) in
    asked_log kinds.Burst c.args.waiting.now.caller c.args.task c.as_slice.result.now earlier die c.ask_die.new.die c.ask_die.result c.requires.runs
    (c.ask_die.ensures.ask earlier h)
    ∙ (ap (λ (ops : List Op). after_move die.core.start die.terms earlier die.life die.core.log (Ask kinds.Burst c.args.waiting.now.caller c.args.task ops))
    c.as_slice.ensures.value
    ∙ sym (ap (λ (w : Option WaitingAsk). after_one die.core.start die.terms earlier die.life die.core.log c.args.task w)
    (is_due c.args.waiting.now c.args.clock c.if-not-waiting.false here)))

pub returns-clause-same : goal.returns-clause-same
returns-clause-same g c =
    let lived = c.keeps_plan.ensures.lived in
    asked_same kinds.Burst c.args.waiting.now.caller c.args.task c.as_slice.result.now lived.0 c.args.die.now c.ask_die.new.die c.ask_die.result
    (c.ask_die.ensures.ask lived.0 lived.1)
