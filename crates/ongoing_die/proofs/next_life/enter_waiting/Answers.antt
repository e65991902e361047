use Rattle.std.proofs.Common.{◌≡◌, ◌<◌, List, Option, None, length, map, get_or, refl, ap, sym, ◌∙◌, arith}
use Rattle.std.proofs.lemmas.List.{drop_all, length-map}
use Rattle.planned_log.specs.Moves.{after_moves}
use Rattle.ongoing_log.specs.Ongoing.{WaitingAsk, asks_of, due_at, left_at}
use Rattle.ongoing_log.proofs.WhatWaits.{due_reads}
use Rattle.ongoing_die.specs.Standing.{ask_in}
use Rattle.ongoing_die.specs.Entering.{after_one}
use Rattle.ongoing_die.proofs.Entering.{entered_more, here_waits, then_left, all_left, as_many, rooms_stay, same_die, itself}
use Rattle.ongoing_die.proofs.next_life.enter_waiting.Goals as goal

pub loop-task-init : goal.loop-task-init
loop-task-init g c = record {
  log = λ earlier h. refl;
  lived = λ earlier h. h;
  same = itself c.args.die.now;
  left = refl;
  room = λ task d. refl;
}

pub loop-task-preserved : goal.loop-task-preserved
loop-task-preserved g c =
    let l = c.loop-task in
    let die = c.args.die.now in
    let clock = c.args.clock in
    let ws : List (Option WaitingAsk) = map ask_in c.args.waiting.now.items in
    let one = c.enter_one.ensures in
    let same = l.invariant.same in
    let count : length l.waiting.items ≡ length c.args.waiting.now.items = as_many clock c.args.waiting.now.items l.waiting.items l.task l.invariant.left in
    let lt : l.task < length c.args.waiting.now.items = omega (arith, c.loop-task-test.true, c.len-task-end.ensures) in
    let lt_left : l.task < length l.waiting.items = omega (arith, lt, count) in
    let here : ask_in c.index_mut.result.now ≡ get_or ws l.task None =
    here_waits clock c.args.waiting.now.items l.waiting.items l.task l.invariant.left c.index_mut.result.now lt c.index_mut.ensures.value in
    let due : due_at clock (ask_in c.index_mut.result.now) ≡ get_or (map (due_at clock) ws) l.task None =
    ap (due_at clock) here ∙ sym (due_reads clock ws l.task) in
    record {
      log = λ earlier h. entered_more die.core.start die.terms earlier die.life (map (due_at clock) ws) l.task l.die.core.log c.enter_one.new.die.core.log
          (omega (arith, lt, length-map c.args.waiting.now.items ask_in, length-map {B = Option WaitingAsk} ws (due_at clock)))
          (one.log earlier (l.invariant.lived earlier h)
          ∙ (λ i. after_one (same.start i) (same.terms i) earlier (same.life i) l.die.core.log l.task (due i)))
          ∙ l.invariant.log earlier h;
      lived = λ earlier h. one.lived earlier (l.invariant.lived earlier h);
      same = same_die die l.die c.enter_one.new.die same one.same;
      left = then_left clock c.args.waiting.now.items l.waiting.items l.task l.invariant.left c.enter_one.new.waiting (one.left ∙ ap (left_at clock) here);
      room = λ task d. rooms_stay l.waiting.items l.task c.enter_one.new.waiting c.index_mut.result.now lt_left c.index_mut.ensures.value one.room task d
          ∙ l.invariant.room task d;
    }

pub returns-clause-log : goal.returns-clause-log
returns-clause-log g c earlier h =
    let l = c.loop-task in
    let die = c.args.die.now in
    let ws : List (Option WaitingAsk) = map (due_at c.args.clock) (map ask_in c.args.waiting.now.items) in
    sym (ap (λ (left : List (Option WaitingAsk)). after_moves die.core.start die.terms earlier die.life l.die.core.log (asks_of l.task left))
    (drop_all l.task ws (omega (
      arith,
      c.loop-task-test.false,
      length-map c.args.waiting.now.items ask_in,
      length-map {B = Option WaitingAsk} (map ask_in c.args.waiting.now.items) (due_at c.args.clock),
    ))))
    ∙ l.invariant.log earlier h

pub returns-clause-left : goal.returns-clause-left
returns-clause-left g c =
    let l = c.loop-task in
    all_left c.args.clock c.args.waiting.now.items l.waiting.items l.task (omega (arith, c.loop-task-test.false)) l.invariant.left
