use Rattle.ongoing_log.proofs.OngoingAnswers.{ongoing_answered_alike, ahead_answered_alike}
use Rattle.ongoing_log.proofs.laws.ongoing_tasks_are_answered_for_their_own_asks.Goals as goal

pub returns : goal.returns
returns c = record {
  asks = λ first other terms life task long plan one two k h clock slot asked awaits moves others same.
      ongoing_answered_alike first other terms life task long plan one two k h clock slot asked awaits moves others same;
  ahead = λ first other terms life task long plan one two k h clock slot asked awaits moves others same.
      ahead_answered_alike first other terms life task long plan one two k h clock slot asked awaits moves others same;
}
