-- A collection erases its block with a page still placed in it.
use Rattle.std.proofs.Common.{◌≡◌, [], ◌∷◌, refl, ap, sym, ◌∙◌}
use Rattle.slot_types.specs.declared.acts.Act.TheVariants as does
use Rattle.die_log.specs.Model.Log.{Log}
use Rattle.die_log.specs.Model.Flash.{cells, valid}
use Rattle.die_log.specs.Model.Answers.{run, answer}
use Rattle.die_log.specs.Results.Legal.{IsLegal, IsNextCollectAct}
use Rattle.die_log.proofs.Worked.Plans.{tight, collect}
use Rattle.die_log.proofs.Worked.FillingHistory.{full}
use Rattle.die_log.proofs.Wrong.Entries.{ran, next_of}

abbrev begins : Log
begins = run tight full (collect 19 40 ∷ [])

placed : valid (cells tight begins) 1 ≡ 1
unfolding answer
placed = refl

unerased : (IsNextCollectAct tight begins 11 (does.Erase 1)) → valid (cells tight begins) 1 ≡ 0
unfolding answer
unerased h = ap (λ b. valid (cells tight begins) b) h.2.own ∙ h.2.unplaced refl

not_legal : IsLegal tight (ran 19 11 (does.Erase 1) ∷ begins) → ⊥
not_legal h = absurd (cc (sym placed ∙ unerased (next_of tight begins 19 11 (does.Erase 1) tt h)))
