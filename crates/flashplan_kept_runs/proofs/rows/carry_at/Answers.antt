use Rattle.std.proofs.Common.{◌≤◌}
use Rattle.flashplan_kept_runs.specs.KeptDies.{KeptStart}
use Rattle.flashplan_kept_runs.proofs.EachDie.{begins_stay, one_begins, one_carried}
use Rattle.flashplan_kept_runs.proofs.rows.carry_at.Goals as goal

pub carry_to-requires : goal.carry_to-requires
carry_to-requires g c = record {
  within = one_begins (λ (begun : KeptStart). c.args.slot ≤ begun.life) g.D.KeptScriptDie.kept c.args.dies.now.items c.args.place
      c.index_mut.result.now c.requires.there c.index_mut.ensures.value c.requires.within;
}

pub returns-clause-ran : goal.returns-clause-ran
returns-clause-ran g c =
    one_carried g.D.KeptScriptDie.kept c.args.dies.now.items c.args.place c.args.slot c.index_mut.result.now c.carry_to.new.self
    c.index_mut.ensures.value c.carry_to.ensures.carried c.carry_to.ensures.here c.carry_to.ensures.in_time

pub returns-clause-begins : goal.returns-clause-begins
returns-clause-begins g c =
    begins_stay g.D.KeptScriptDie.kept c.args.dies.now.items c.args.place c.index_mut.result.now c.carry_to.new.self
    c.carry_to.ensures.carried.begun_stays c.index_mut.ensures.value
