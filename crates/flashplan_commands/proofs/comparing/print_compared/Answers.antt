use Rattle.std.proofs.Common.{inr, refl, subst, List}
use Rattle.die_log.specs.Model.Start.{Start}
use Rattle.text_base.proofs.WritingLaws.{on-error}
use Rattle.flashplan_store_compare.specs.Runs.{HasStoreRun}
use Rattle.flashplan_commands.proofs.comparing.print_compared.Goals as goal

pub returns-clause-printed : goal.returns-clause-printed
returns-clause-printed g c = record {
  store = c.in_ok-store.field-0.store;
  read = c.in_ok-store.ensures.store;
  saved = c.in_ok-saved.saved;
  begun = c.in_ok-saved.ensures;
  counts = c.in_ok-compared.compared.refused;
  ran = subst (λ (starts : List Start). HasStoreRun starts (g.S.Read.remaining c.args.script) c.args.measure.slots c.in_ok-compared.compared.refused)
      c.in_ok-dies.ensures.starts (rw c.timed_measure-timed.ensures at c.in_ok-compared.ensures);
  text = (c.in_ok-compared.compared.text.items, rw c.deref.ensures.value at c.in_ok-write_whole.ensures.whole);
}

pub returns-in_err-write_whole-clause-part : goal.returns-in_err-write_whole-clause-part
returns-in_err-write_whole-clause-part g c =
    on-error c.from_residual-in_err-write_whole.result _
    (inr (
      c.in_err-write_whole.ensures.failed,
      (
        c.in_ok-compared.compared.text.items,
        record {
          store = c.in_ok-store.field-0.store;
          read = c.in_ok-store.ensures.store;
          saved = c.in_ok-saved.saved;
          begun = c.in_ok-saved.ensures;
          counts = c.in_ok-compared.compared.refused;
          ran = subst (λ (starts : List Start). HasStoreRun starts (g.S.Read.remaining c.args.script) c.args.measure.slots c.in_ok-compared.compared.refused)
              c.in_ok-dies.ensures.starts (rw c.timed_measure-timed.ensures at c.in_ok-compared.ensures);
          text = (c.in_ok-compared.compared.text.items, refl);
        },
        rw c.deref.ensures.value at c.in_err-write_whole.ensures.part,
      ),
    ))
