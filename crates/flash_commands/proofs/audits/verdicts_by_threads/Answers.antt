use Rattle.std.proofs.Common.{◌≡◌, ◌∙◌, ap, arith, get_or, length, map, rules, subst}
use Rattle.flash_commands.specs.Audit.{verdict_in}
use Rattle.flash_commands.proofs.Verdicts.{all_judged, written_over}
use Rattle.flash_commands.proofs.audits.verdicts_by_threads.Goals as goal

pub returns-clause-ok : goal.returns-clause-ok
returns-clause-ok g c =
    let over : length c.for_each_mut.new.s ≡ length c.as_mut_slice.result.now = search rules in
    let start : length c.as_mut_slice.result.now ≡ length c.in_ok-verdicts.verdicts.items = ap length c.as_mut_slice.ensures.value in
    let many : length c.as_mut_slice.result.now ≡ length c.args.dies.now
    = omega (arith, start, c.in_ok-verdicts.ensures.ok) in
    written_over c.in_ok-verdicts.verdicts.len c.in_ok-verdicts.verdicts.items c.for_each_mut.new.s (over ∙ start) (search rules)
    ∙ all_judged c.args.dies.now c.for_each_mut.new.s (over ∙ many)
    (λ i d below. let call = (c.for_each_mut.ensures i d (omega (arith, below, over))).1 in
    subst (λ v. v ≡ get_or (map verdict_in c.args.dies.now) i v) call.left call.call)
