use Rattle.std.proofs.Common.{inr, refl}
use Rattle.text_base.proofs.WritingLaws.{on-error}
use Rattle.flashplan_commands.proofs.runs.print_drawn.Goals as goal

pub returns-clause-printed : goal.returns-clause-printed
returns-clause-printed g c = record {
  store = c.in_ok-timed.timed.store;
  read = c.in_ok-timed.ensures.store;
  saved = c.in_ok-from.from;
  begun = c.in_ok-from.ensures;
  said = c.in_ok-drawn.drawn;
  ran = c.in_ok-drawn.ensures.ran;
  written = rw c.deref.ensures.value at c.in_ok-write_whole.ensures.whole;
}

pub returns-in_err-write_whole-clause-part : goal.returns-in_err-write_whole-clause-part
returns-in_err-write_whole-clause-part g c =
    on-error c.from_residual-in_err-write_whole.result _
    (inr (
      c.in_err-write_whole.ensures.failed,
      (
        c.in_ok-drawn.drawn.text.items,
        record {
          store = c.in_ok-timed.timed.store;
          read = c.in_ok-timed.ensures.store;
          saved = c.in_ok-from.from;
          begun = c.in_ok-from.ensures;
          said = c.in_ok-drawn.drawn;
          ran = c.in_ok-drawn.ensures.ran;
          written = refl;
        },
        rw c.deref.ensures.value at c.in_err-write_whole.ensures.part,
      ),
    ))
