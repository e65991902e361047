use Rattle.std.proofs.Common.{◌∙◌, ap, sym}
use Rattle.std.proofs.lemmas.Option.{none-some}
use Rattle.std.specs.Prelude.{position}
use Rattle.text_base.proofs.WordLaws.{from-place}
use Rattle.flashplan_slot_times.specs.Comments.{is_space}
use Rattle.flashplan_slot_times.proofs.Reading.{ends-there, read-there}
use Rattle.flashplan_slot_times.proofs.comments.number_in.Goals as goal

pub returns-in_err-end : goal.returns-in_err-end
returns-in_err-end c = λ us small says.
    let found = c.space_in.ensures.found ∙ ap (position is_space) (from-place c.args.text.now 12) in
    absurd (none-some _ (sym (c.in_err-end.was) ∙ found ∙ ends-there c.args.text.now says.0 us small says.1))

pub returns : goal.returns
returns c = λ us small says.
    let found = c.space_in.ensures.found ∙ ap (position is_space) (from-place c.args.text.now 12) in
    c.number.ensures ∙ rw (from-place c.args.text.now 12)
    (read-there c.args.text.now says.0 us c.in_ok-end.end small says.1 (sym found ∙ c.in_ok-end.was))
