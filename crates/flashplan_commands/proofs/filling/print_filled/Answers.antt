use Rattle.std.proofs.Common.{inr, refl}
use Rattle.text_base.proofs.WritingLaws.{on-error}
use Rattle.flashplan_commands.proofs.FilledDies.{filled-few}
use Rattle.flashplan_commands.proofs.filling.print_filled.Goals as goal

pub returns-clause-printed : goal.returns-clause-printed
returns-clause-printed g c = record {
  store = c.in_ok-store.store;
  read = c.in_ok-store.ensures.store;
  filled = c.in_ok-filled.filled;
  full = c.in_ok-filled.ensures.filled;
  text = (c.in_ok-text.text.items, rw c.deref.ensures.value at c.in_ok-write_whole.ensures.whole);
}

pub returns-clause-few : goal.returns-clause-few
returns-clause-few g c =
    filled-few c.in_ok-store.store c.args.lives c.in_ok-filled.filled c.in_ok-filled.ensures.filled c.in_ok-store.ensures.few

pub returns-in_err-write_whole-clause-part : goal.returns-in_err-write_whole-clause-part
returns-in_err-write_whole-clause-part g c =
    on-error c.from_residual-in_err-write_whole.result _
    (inr (
      c.in_err-write_whole.ensures.failed,
      (
        c.in_ok-text.text.items,
        record {
          store = c.in_ok-store.store;
          read = c.in_ok-store.ensures.store;
          filled = c.in_ok-filled.filled;
          full = c.in_ok-filled.ensures.filled;
          text = (c.in_ok-text.text.items, refl);
        },
        rw c.deref.ensures.value at c.in_err-write_whole.ensures.part,
      ),
    ))
