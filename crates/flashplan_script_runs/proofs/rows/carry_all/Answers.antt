use Rattle.std.proofs.Common.{rules, ◌≡◌, arith, length, vec_len}
use Rattle.flashplan_script_runs.proofs.EachDie.{all_carried}
use Rattle.flashplan_script_runs.proofs.rows.carry_all.Goals as goal

pub returns-clause-ran : goal.returns-clause-ran
returns-clause-ran g c = λ rows h.
    let whole : vec_len c.args.dies.now ≡ length c.args.dies.now.items = search rules in
    all_carried g.D.ScriptDie.running c.loop-place.dies.items c.args.slot c.loop-place.place
    (omega (arith, whole, c.len-place-end.ensures, c.loop-place-test.false, c.loop-place.invariant.count)) rows
    (c.loop-place.invariant.ran rows h)
