use Rattle.std.proofs.Common.{rules, arith, ◌≡◌, ◌∙◌, ◌+◌, sym, below_more}
use Rattle.std.proofs.lemmas.List.FromFn.{map-range_with_len_more}
use Rattle.terms_texts.specs.Stores.{IsUsable, die_of}
use Rattle.terms_texts.proofs.stores.usable_dies.Goals as goal

pub loop-die-preserved : goal.loop-die-preserved
loop-die-preserved c =
    let plan = c.args.plan.now in
    let die = c.loop-die.die in
    let same : c.in_ok-made.made ≡ die_of plan die = c.in_ok-made.ensures.ok in
    let next : 0 + die ≡ die = omega arith in
    let made : IsUsable c.in_ok-made.made = search rules in
    let usable : IsUsable (die_of plan die) = rw same at made in
    record {
      made = c.in_ok-push.ensures.ok ∙ rw (c.loop-die.invariant.made, same) (sym (map-range_with_len_more (die_of plan) 0 die die next));
      usable = below_more _ _ c.loop-die.invariant.usable usable;
    }
