use Rattle.std.proofs.Common.{◌≡◌, ◌++◌, drop}
use Rattle.std.specs.Prelude.{codes, flat_map}
use Rattle.flashplan_power_cuts.specs.Texts.{in_erase_text}
use Rattle.flashplan_power_cuts.proofs.texts.put_more_in_erase.Given as goal

abbrev pub invariant-loop-own : goal.invariant-loop-own
invariant-loop-own l = l.text.items ++ flat_map (λ own. codes ", " ++ in_erase_text own) (drop l.own-index l.rest)
    ≡ l.initial.text.items ++ flat_map (λ own. codes ", " ++ in_erase_text own) l.rest
