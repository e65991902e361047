use Rattle.std.proofs.Common.{◌==◌, ◌+◌, ◌∷◌, ap, sym, ◌∙◌, take}
use Rattle.std.specs.List.{slice_split}
use Rattle.text_base.proofs.WordLaws.{from-place, split-found, split-unfound}
use Rattle.text_base.proofs.words.cut.Goals as goal

pub returns-in-Some-clause-parts : goal.returns-in-Some-clause-parts
returns-in-Some-clause-parts c =
    let text = c.args.text.now in
    let space = c.in-Some.space in
    split-found (λ b. b == 32) text space 0 (sym c.in-Some.ensures)
    ∙ ap (λ rest. take space text ∷ slice_split (λ b. b == 32) rest) (sym (from-place text (space + 1)))

pub returns-in-None-clause-parts : goal.returns-in-None-clause-parts
returns-in-None-clause-parts c = split-unfound (λ b. b == 32) c.args.text.now (sym c.in-None.ensures)
