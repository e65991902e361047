use Rattle.std.proofs.Common.{inr, refl}
use Rattle.text_base.proofs.WritingLaws.{on-error}
use Rattle.flashplan_commands.proofs.cutting.print_cut.Goals as goal

pub returns-clause-printed : goal.returns-clause-printed
returns-clause-printed g c = record {
  store = c.in_ok-store.field-0.store;
  read = c.in_ok-store.ensures.store;
  slot_us = c.in_ok-store.field-0.slot_us;
  told = c.in_ok-told.told;
  tells = rw c.cut_at-at.ensures at c.in_ok-told.ensures.told;
  verdict = refl;
  written = rw c.deref.ensures.value at c.in_ok-write_whole.ensures.whole;
}

pub returns-in_err-write_whole-clause-part : goal.returns-in_err-write_whole-clause-part
returns-in_err-write_whole-clause-part g c =
    on-error c.from_residual-in_err-write_whole.result _
    (inr (
      c.in_err-write_whole.ensures.failed,
      (
        c.in_ok-told.told.text.items,
        (
          c.in_ok-told.told.right,
          record {
            store = c.in_ok-store.field-0.store;
            read = c.in_ok-store.ensures.store;
            slot_us = c.in_ok-store.field-0.slot_us;
            told = c.in_ok-told.told;
            tells = rw c.cut_at-at.ensures at c.in_ok-told.ensures.told;
            verdict = refl;
            written = refl;
          },
        ),
        rw c.deref.ensures.value at c.in_err-write_whole.ensures.part,
      ),
    ))
