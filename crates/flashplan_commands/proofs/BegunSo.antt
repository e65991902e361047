-- What is printed of dies that begin fresh where their command names no checkpoint.
use Rattle.std.proofs.Common.{◌≡◌, ℕ, List, [], Bool, true, false, not, Option, Some, None, refl, inl, inr}
use Rattle.std.specs.Prelude.{is_none, is_some}
use Rattle.flashplan_watched_runs.specs.declared.failing.FailAt.{FailAt}
use Rattle.flashplan_commands.specs.Acts.{Ends, PrintsDrawing, PrintsRunFigures}

-- a command that ends with what prints so ends with what that is
pub ends_as : {W : Type 0} (contents : W → Option (List ℕ)) (has_failed : W → Option Bool)
    (prints wanted : Option (List ℕ) → Option (List ℕ) → Type 0) (old new : W) (status : ℕ)
    → ((before after : Option (List ℕ)) → prints before after → wanted before after)
    → Ends contents has_failed prints old new status → Ends contents has_failed wanted old new status
ends_as contents has_failed prints wanted old new status is (inl (printed, ended)) = inl (is (contents old) (contents new) printed, ended)
ends_as contents has_failed prints wanted old new status is (inr (inl same, ended)) = inr (inl same, ended)
ends_as contents has_failed prints wanted old new status is (inr (inr (failed, (whole, printed, part)), ended)) =
    inr (inr (failed, (whole, is (Some []) (Some whole) printed, part)), ended)

-- figures of dies that began fresh where these do
pub figures_begun : (plan script : Option (List ℕ)) (slots : ℕ) (fail : Option FailAt) (as_csv fresh wanted : Bool) → (wanted ≡ true → fresh ≡ true)
    → (old new : Option (List ℕ)) → PrintsRunFigures plan script slots fail as_csv fresh old new
    → PrintsRunFigures plan script slots fail as_csv wanted old new
figures_begun plan script slots fail as_csv fresh wanted then old new printed = record {
  store = printed.store;
  read = printed.read;
  saved = printed.saved;
  begun = λ begins. printed.begun (then begins);
  said = printed.said;
  life = printed.life;
  units = printed.units;
  ran = printed.ran;
  written = printed.written;
}

-- and a picture of them
pub drawing_begun : (plan script : Option (List ℕ)) (slots die : ℕ) (fail : Option FailAt) (fresh wanted : Bool) → (wanted ≡ true → fresh ≡ true)
    → (old new : Option (List ℕ)) → PrintsDrawing plan script slots die fail fresh old new
    → PrintsDrawing plan script slots die fail wanted old new
drawing_begun plan script slots die fail fresh wanted then old new printed = record {
  store = printed.store;
  read = printed.read;
  saved = printed.saved;
  begun = λ begins. printed.begun (then begins);
  said = printed.said;
  ran = printed.ran;
  written = printed.written;
}

-- what was answered of a checkpoint that isn't named
pub answered_none : {A : Type 0} (from : Option A) (answer : Bool) → is_some from ≡ not answer → is_none from ≡ true → answer ≡ true
answered_none None true answered is = refl
answered_none None false answered is = answered
answered_none (Some x) true answered is = refl
answered_none (Some x) false answered is = is
