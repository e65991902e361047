use Rattle.std.proofs.Common.{◌≡◌, ◌++◌, ◌∷◌, drop}
use Rattle.std.specs.Prelude.{decimal, flat_map}
use Rattle.report_texts.proofs.report_lines.put_more_numbers.Given as goal

abbrev pub invariant-loop-number : goal.invariant-loop-number
invariant-loop-number l = l.text.items ++ flat_map (λ number. 32 ∷ decimal number) (drop l.number-index l.numbers) ≡ l.initial.text.items
    ++ flat_map (λ number. 32 ∷ decimal number) l.numbers
