use Rattle.std.proofs.Common.{◌∙◌, rules, subst, arith}
use Rattle.std.proofs.lemmas.Grind.{common_steps}
use Rattle.die_service.proofs.LastPasses.{written}
use Rattle.task_script.proofs.Parting.{made_length, parts_are}
use Rattle.task_script.specs.DieTexts.{AreMade}
use Rattle.task_script.proofs.Results.{ok_weaker}
use Rattle.task_script.proofs.die_texts.parts_of.Goals as goal

pub returns-clause-ok : goal.returns-clause-ok
returns-clause-ok g c =
    let made = subst (λ xs. AreMade 0 xs c.make_all.new.texts) c.as_mut_slice.ensures.value c.make_all.ensures in
    let same = made_length 0 _ _ made in
    let whole = c.as_mut_slice-2.ensures.value ∙ written c.in_ok-texts.texts.len c.in_ok-texts.texts.items c.make_all.new.texts same (search rules) in
    ok_weaker _ _ c.parts_in.result (λ parts gathered. parts_are _ _ c.make_all.new.texts _ c.in_ok-texts.ensures.ok made (rw whole at gathered))
    c.parts_in.ensures.ok

pub make_all-requires-clause-few : goal.make_all-requires-clause-few
make_all-requires-clause-few g c κs within = grind (arith, common_steps)

pub make_all-requires-clause-threads : goal.make_all-requires-clause-threads
make_all-requires-clause-threads g c κs within = c.requires.threads
