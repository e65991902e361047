use Rattle.std.proofs.Common.{map, set, ap, ◌∙◌}
use Rattle.std.proofs.lemmas.List.{map-set}
use Rattle.ongoing_die.specs.Standing.{ask_in}
use Rattle.ongoing_die.proofs.waiting.keep_waiting.Goals as goal

pub returns-clause-kept : goal.returns-clause-kept
returns-clause-kept c =
    map-set ask_in c.args.waiting.now.items c.args.task c.keep.new.self
    ∙ ap (set (map ask_in c.args.waiting.now.items) c.args.task) c.keep.ensures.kept
