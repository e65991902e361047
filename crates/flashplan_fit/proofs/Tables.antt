-- The tables of tasks, as values and as data.
use Rattle.std.proofs.Common.{List, [], ◌∷◌}
use Rattle.std.specs.List.{AllZip}
use Rattle.toml.specs.View.{items_view, view}
use Rattle.toml.specs.declared.value.Value.{Value}
use Rattle.flashplan_fit.specs.Sheets.{AreNeedsIn, IsNeedIn}
use Rattle.flashplan_fit.specs.declared.datasheets.Need.{Need}

-- what values say one by one they say as the items of an array
pub needs_in : (values : List Value) (needs : List Need) → AllZip (λ v need. IsNeedIn (view v) need) values needs
    → AreNeedsIn (items_view values) needs
needs_in [] [] h = tt
needs_in [] (need ∷ needs) h = absurd h
needs_in (v ∷ values) [] h = absurd h
needs_in (v ∷ values) (need ∷ needs) h = (h.0, needs_in values needs h.1)
