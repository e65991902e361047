use Rattle.std.proofs.Common.{◌↔◌, List, All, IsTrue, subst}
use Rattle.flashplan_power_cuts.specs.Said.{IsRight}
use Rattle.flashplan_power_cuts.specs.declared.said.PageSaid.{PageSaid}
use Rattle.flashplan_power_cuts.proofs.Sentences.{tells_cut}
use Rattle.flashplan_power_cuts.proofs.told.tell_cut.Goals as goal

pub returns : goal.returns
returns g c = record {
  told = tells_cut c.args.store.now (g.R.Read.remaining c.args.script) c.args.slots c.args.at c.args.slot_us _ c.in_ok-run.run'
      c.in_ok-run.ensures.cut c.in_ok-text.ensures.text
      (subst (λ (said : List PageSaid). IsTrue c.is_right-right.result ↔ All IsRight said) c.deref.ensures.value c.is_right-right.ensures);
}
