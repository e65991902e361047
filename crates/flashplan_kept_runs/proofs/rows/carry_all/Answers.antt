use Rattle.std.proofs.Common.{rules, ◌≡◌, ◌≤◌, List, arith, length, map, refl, subst, sym, vec_len}
use Rattle.std.specs.Prelude.{All}
use Rattle.flashplan_kept_runs.specs.KeptDies.{KeptStart}
use Rattle.flashplan_kept_runs.proofs.EachDie.{kept_up_to, none_carried}
use Rattle.flashplan_kept_runs.proofs.rows.carry_all.Goals as goal

pub loop-place-init : goal.loop-place-init
loop-place-init g c = record {
  ran = λ rows h. none_carried rows c.args.slot (map g.D.KeptScriptDie.kept c.args.dies.now.items) h;
  begins = refl;
  count = refl;
}

pub carry_at-requires-clause-within : goal.carry_at-requires-clause-within
carry_at-requires-clause-within g c =
    subst (λ (all : List KeptStart). All (λ (begun : KeptStart). c.args.slot ≤ begun.life) all) (sym c.loop-place.invariant.begins) c.requires.within

pub returns-clause-ran : goal.returns-clause-ran
returns-clause-ran g c = λ rows h.
    let whole : vec_len c.args.dies.now ≡ length c.args.dies.now.items = search rules in
    kept_up_to g.D.KeptScriptDie.kept rows c.args.slot c.loop-place.place c.loop-place.dies.items
    (omega (arith, whole, c.len-place-end.ensures, c.loop-place-test.false, c.loop-place.invariant.count))
    (c.loop-place.invariant.ran rows h)
