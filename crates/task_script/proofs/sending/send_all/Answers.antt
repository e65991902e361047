use Rattle.std.proofs.Common.{◌≡◌, ◌≤◌, ℕ, All, arith, refl, sym, ◌∙◌, subst}
use Rattle.slot_types.specs.declared.limits.TheConstants.{MAX_SLOT}
use Rattle.die_service.specs.Runners.{SentTo}
use Rattle.task_script.specs.RowRunners.{until_of}
use Rattle.task_script.specs.declared.feeds.ReadEnd.{ReadEnd}
use Rattle.task_script.specs.declared.feeds.ReadEnd.TheVariants.{Ended, More}
use Rattle.task_script.specs.declared.row_batches.RowBatch.{RowBatch}
use Rattle.task_script.specs.declared.row_runners.RowRunner.{RowRunner}
use Rattle.task_script.proofs.Dealing.{texts_as}
use Rattle.task_script.proofs.Sent.{batch_alone, batch_few, batch_firsts, batch_last, batch_more, batch_read, few_batches, follows, sent_first}
use Rattle.task_script.proofs.sending.send_all.Goals as goal
use Rattle.task_script.proofs.sending.send_all.Goals.{in-Ended, in_default}

pub loop-init : goal.loop-init
loop-init g c = record {
  dies = refl;
  slots = refl;
  sent = sent_first _ _ _ _ c.args.run.now c.requires.dies c.requires.none;
  later = omega arith;
  below = λ some. omega (arith, some);
}

pub send_rows-requires : goal.send_rows-requires
send_rows-requires g c =
    let read = texts_as _ _ _ _ _ _ _ _ _ _ c.loop.invariant.dies c.loop.invariant.slots c.in_ok-read.ensures.rows in
    let last : c.match-read.until ≤ MAX_SLOT = elim c.match-read.branch [
      | in-Ended w ↦ omega (arith, w.until-is, c.requires.few)
      | in_default w ↦ omega (arith, w.until-is)
    ] in
    record {
      follow = follows _ _ _ _ _ _ _ _ c.loop.counter c.match-read.until _ _ _ _ _ c.loop.invariant.sent c.in_ok-empty.ensures.same read
          (omega (arith, c.requires.slots, c.requires.few)) last c.in_ok-read.ensures.few (few_batches _ _ c.loop.counter c.requires.first c.loop.invariant.later c.loop.invariant.below);
    }

pub returns-in_default-end : goal.returns-in_default-end
returns-in_default-end g c =
    let read = texts_as _ _ _ _ _ _ _ _ _ _ c.loop.invariant.dies c.loop.invariant.slots c.in_ok-read.ensures.rows in
    let few : c.loop.counter ≤ 1000002 = few_batches _ _ c.loop.counter c.requires.first c.loop.invariant.later c.loop.invariant.below in
    let is = c.go_on.ensures ∙ c.send_rows.ensures in
    record {
      sent = record {
        firsts = batch_firsts _ _ _ _ _ _ _ _ c.loop.counter c.match-read.until _ _ _ _ _ c.loop.invariant.sent c.in_ok-empty.ensures.same read
            _ is c.in_ok-read.ensures.few;
        rows = batch_read _ _ _ _ _ _ _ _ c.loop.counter c.match-read.until _ _ _ _ _ c.loop.invariant.sent c.in_ok-empty.ensures.same read
            _ is c.in_ok-read.ensures.few;
        last = λ is_end.
            let end : c.in_ok-read.read.end ≡ Ended = cc in
            let all : c.match-read.until ≡ c.args.slots = elim c.match-read.branch
            [ in-Ended w ↦ w.until-is | in_default w ↦ absurd (w.in_default.not-Ended end) ] in
            subst (λ (n : ℕ). All (λ (s : SentTo RowRunner RowBatch). until_of s.batches ≡ n) c.go_on.new.self) all
            (batch_last _ _ _ _ _ _ _ _ c.loop.counter c.match-read.until _ _ _ _ _ c.loop.invariant.sent c.in_ok-empty.ensures.same read
            _ is c.in_ok-read.ensures.few);
        few = batch_few _ _ _ _ _ _ _ _ c.loop.counter c.match-read.until _ _ _ _ _ c.loop.invariant.sent c.in_ok-empty.ensures.same read
            _ is c.in_ok-read.ensures.few few;
        alone = batch_alone _ _ _ _ _ _ _ _ c.loop.counter c.match-read.until _ _ _ _ _ c.loop.invariant.sent c.in_ok-empty.ensures.same read
            _ is c.in_ok-read.ensures.few;
        failed = c.in_ok-read.ensures.failed;
        over = c.in_default-end.not-More;
      };
      refused = tt;
    }

pub loop-preserved : goal.loop-preserved
loop-preserved g c =
    let read = texts_as _ _ _ _ _ _ _ _ _ _ c.loop.invariant.dies c.loop.invariant.slots c.in_ok-read.ensures.rows in
    let grown = rw c.in-More.is at c.in_ok-read.ensures.more in
    let none : c.match-read.until ≡ 0 = elim c.match-read.branch [
      | in-Ended w ↦ let apart : ◌≡◌ {A = ReadEnd} More Ended = sym c.in-More.is ∙ w.in-Ended.is in absurd cc
      | in_default w ↦ w.until-is
    ] in
    record {
      dies = c.in_ok-read.ensures.dies ∙ c.loop.invariant.dies;
      slots = c.in_ok-read.ensures.slots ∙ c.loop.invariant.slots;
      sent = batch_more _ _ _ _ _ _ _ _ c.loop.counter c.match-read.until _ _ _ _ _ c.loop.invariant.sent c.in_ok-empty.ensures.same read
          _ (c.go_on.ensures ∙ c.send_rows.ensures) c.in_ok-read.ensures.few c.in-More.is none;
      later = omega (arith, c.loop.invariant.later, grown.0);
      below = λ some. omega (arith, grown.1);
    }
