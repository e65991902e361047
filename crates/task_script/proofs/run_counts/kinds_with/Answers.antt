use Rattle.std.proofs.Common.{rules, ◌≡◌, ◌∙◌, refl, ap, sym, length}
use Rattle.std.specs.Prelude.{Option, None, Some}
use Rattle.slot_types.specs.declared.refusals.Refusal.{Refusal}
use Rattle.task_script.specs.RunCounts.{by_number, kind_with}
use Rattle.task_script.proofs.Counting.{by_numbers}
use Rattle.task_script.proofs.run_counts.kinds_with.Goals as goal

pub returns-in-Some : goal.returns-in-Some
returns-in-Some c =
    by_numbers c.with_one.result (kind_with (Some c.in-Some.refusal) c.args.kinds) c.with_one.ensures.long c.with_one.ensures.each
    ∙ ap (λ (r : Option Refusal). by_number (kind_with r c.args.kinds)) (sym c.in-Some.is)

pub returns-in-None : goal.returns-in-None
returns-in-None c =
    let long : length c.args.kinds ≡ 25 = search rules in
    by_numbers c.args.kinds (kind_with None c.args.kinds) long (λ number below. refl)
    ∙ ap (λ (r : Option Refusal). by_number (kind_with r c.args.kinds)) (sym c.in-None.is)
