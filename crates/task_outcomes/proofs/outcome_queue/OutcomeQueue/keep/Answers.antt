use Rattle.std.proofs.Common.{◌≡◌, ◌≢◌, ◌++◌, ◌∷◌, [], length, true, false, sym, ap, ◌∙◌, arith, rules}
use Rattle.std.proofs.lemmas.Bool.Decides.{nat_tests}
use Rattle.task_outcomes.specs.declared.task_outcome.TaskOutcome.{TaskOutcome}
use Rattle.task_outcomes.specs.Queues.{have_room, with_outcome}
use Rattle.task_outcomes.specs.Rings.{with_reads}
use Rattle.task_outcomes.proofs.Queues.{room_is, fits, oldest_goes}
use Rattle.task_outcomes.proofs.outcome_queue.OutcomeQueue.keep.Goals as goal

pub loop-self-preserved : goal.loop-self-preserved
loop-self-preserved c =
    let q = c.loop-self.self in
    let o : TaskOutcome = with_reads c.args.job c.args.reads.now in
    let test : c.has_room.result ≡ false = search rules in
    let some : length q.kept ≢ 0 = λ e. absurd (grind (arith, nat_tests, c.if-len-eq0.false, c.len.ensures, e)) in
    let none : have_room q.room (q.kept ++ o ∷ []) ≡ false = room_is q.room q.kept o ∙ (sym c.has_room.ensures.room ∙ test) in
    ap (with_outcome o) c.drop_first.ensures ∙ (oldest_goes o q some none ∙ c.loop-self.invariant)

pub returns : goal.returns
returns c =
    let q = c.loop-self.self in
    let o : TaskOutcome = with_reads c.args.job c.args.reads.now in
    let test : c.has_room.result ≡ true = search rules in
    let some : have_room q.room (q.kept ++ o ∷ []) ≡ true = room_is q.room q.kept o ∙ (sym c.has_room.ensures.room ∙ test) in
    c.add.ensures ∙ (fits o q c.has_room.ensures.counts some ∙ c.loop-self.invariant)
