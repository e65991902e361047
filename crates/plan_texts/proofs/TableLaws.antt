-- A table's keys beside the members that it stands for.
use Rattle.std.proofs.Common.{◌≡◌, ℕ, List, [], ◌∷◌, Bool, String, Global, string_bytes, refl, ap, ◌&&◌}
use Rattle.std.specs.List.{list_all}
use Rattle.std.specs.Map.{keys_of}
use Rattle.toml.specs.View.{members_view}
use Rattle.toml.specs.declared.value.Value.{Value}
use Rattle.plan_texts.specs.Tables.{has_only}

-- a test of each key
pub only-view : (test : List ℕ → Bool) (es : List (String Global × Value)) → list_all (λ k. test (string_bytes k)) (keys_of es)
    ≡ has_only test (members_view es)
unfolding has_only
only-view test [] = refl
only-view test (e ∷ es) = ap (λ b. test (string_bytes e.0) && b) (only-view test es)
