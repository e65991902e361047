-- Runs of a script by its text, and dies that are made for one.
use Rattle.std.proofs.Common.{◌≡◌, ℕ, List, [], ◌∷◌, ◌++◌, map, refl, ap, sym, ◌∙◌, subst, length, Option, Some, Result, Ok, Err}
use Rattle.std.specs.Prelude.{IfOk, All, option_map, slice_get}
use Rattle.std.proofs.lemmas.List.Elements.{All-append, All-cons, All-nil}
use Rattle.std.proofs.lemmas.List.{length-map, map-append}
use Rattle.die_log.specs.Model.Start.{Start}
use Rattle.script_texts.specs.Script.{Script, script_of}
use Rattle.flashplan_script_runs.specs.RunningDies.{HasEmptyLog, RunningDie, starts_of}
use Rattle.flashplan_script_runs.specs.declared.refused.RefusedRow.{RefusedRow}
use Rattle.flashplan_script_runs.specs.ScriptRuns.{IsRunAs, IsRunOf, RanAsDie, RanScript}

-- two clauses of a result give a third one
pub both_ok : {A E : Type 0} (r : Result A E) {P Q S : A → Type 0} → ((x : A) → P x → Q x → S x) → IfOk r P → IfOk r Q → IfOk r S
both_ok (Ok x) both p q = both x p q
both_ok (Err e) both p q = tt

-- one more die stands where the first of those that were left was to start
pub starts_more : {D : Type 0} (f : D → RunningDie) (xs : List D) (x : D) (start : Start) (left all : List Start) → (f x).start ≡ start
    → starts_of (map f xs) ++ start ∷ left ≡ all → starts_of (map f (xs ++ x ∷ [])) ++ left ≡ all
starts_more f [] x start left all is so = ap (λ (s : Start). s ∷ left) is ∙ so
starts_more f (y ∷ xs) x start left all is so =
    ap (λ (l : List Start). (f y).start ∷ l) (starts_more f xs x start left (starts_of (map f xs) ++ start ∷ left) is refl) ∙ so

-- there are as many dies as starts
pub as_many : {D S : Type 0} (f : D → RunningDie) (start : S → Start) (xs : List D) (ys : List S) → starts_of (map f xs) ≡ map start ys
    → length xs ≡ length ys
as_many f start xs ys are =
    sym (length-map (map f xs) (λ (die : RunningDie). die.start) ∙ length-map xs f) ∙ (ap length are ∙ length-map ys start)

pub empty_more : {D : Type 0} (f : D → RunningDie) (xs : List D) (x : D) → All HasEmptyLog (map f xs) → HasEmptyLog (f x)
    → All HasEmptyLog (map f (xs ++ x ∷ []))
empty_more f xs x all is = subst (All HasEmptyLog) (sym (map-append f xs (x ∷ [])))
    (All-append HasEmptyLog (map f xs) (f x ∷ []) all (All-cons HasEmptyLog (f x) [] is (All-nil HasEmptyLog)))

-- a run of what a reader has left is one of its text
pub run_of_text : (starts : List Start) (text : Option (List ℕ)) (slots count : ℕ) (left : Option Script) (refused : List RefusedRow) (dies : List RunningDie)
    → length starts ≡ count → left ≡ option_map (script_of count slots) text → starts_of dies ≡ starts → RanScript left slots refused dies
    → IsRunOf starts text slots refused dies
run_of_text starts text slots count left refused dies many is begun ran = record {
  starts_are = begun;
  ran = subst (λ (o : Option Script). RanScript o slots refused dies)
      (is ∙ ap (λ (n : ℕ). option_map (script_of n slots) text) (sym many)) ran;
}

pub run_as_text : (starts : List Start) (text : Option (List ℕ)) (slots count number : ℕ) (left : Option Script) (refused : List RefusedRow) (die : RunningDie)
    → length starts ≡ count → left ≡ option_map (script_of count slots) text → slice_get starts number ≡ Some die.start
    → RanAsDie left slots number refused die → IsRunAs starts text slots number refused die
run_as_text starts text slots count number left refused die many is begun ran = record {
  start_is = begun;
  ran = subst (λ (o : Option Script). RanAsDie o slots number refused die)
      (is ∙ ap (λ (n : ℕ). option_map (script_of n slots) text) (sym many)) ran;
}
