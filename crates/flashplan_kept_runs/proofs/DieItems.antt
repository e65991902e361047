-- The items of one die, and one item more.
use Rattle.std.proofs.Common.{◌≡◌, ℕ, List, [], ◌∷◌, ◌++◌, ap, ◌∙◌, sym, arith}
use Rattle.std.specs.Prelude.{◌==◌}
use Rattle.std.proofs.lemmas.List.{append-nil}
use Rattle.std.proofs.lemmas.List.Elements.{filter-append}
use Rattle.script_texts.specs.declared.script_rows.ScriptItem.{ScriptItem}
use Rattle.flashplan_script_runs.specs.ScriptRuns.{items_of_die}

own_item : (item : ScriptItem) (die : ℕ) → item.die ≡ die → items_of_die (item ∷ []) die ≡ item ∷ []
own_item item die is = grind arith

other_item : (item : ScriptItem) (die : ℕ) → (item.die ≡ die → ⊥) → items_of_die (item ∷ []) die ≡ []
other_item item die isnt = grind arith

pub items_of_own : (items : List ScriptItem) (item : ScriptItem) (die : ℕ) → item.die ≡ die
    → items_of_die items die ++ item ∷ [] ≡ items_of_die (items ++ item ∷ []) die
items_of_own items item die is =
    sym (filter-append (λ (x : ScriptItem). x.die == die) items (item ∷ [])
    ∙ ap (λ (xs : List ScriptItem). items_of_die items die ++ xs) (own_item item die is))

pub items_of_other : (items : List ScriptItem) (item : ScriptItem) (die : ℕ) → (item.die ≡ die → ⊥)
    → items_of_die items die ≡ items_of_die (items ++ item ∷ []) die
items_of_other items item die isnt =
    sym (filter-append (λ (x : ScriptItem). x.die == die) items (item ∷ [])
    ∙ (ap (λ (xs : List ScriptItem). items_of_die items die ++ xs) (other_item item die isnt) ∙ append-nil (items_of_die items die)))
