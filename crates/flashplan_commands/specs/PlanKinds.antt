-- Texts of plans, with terms or without.
use Rattle.std.specs.Prelude.{◌≡◌, ◌≤◌, ℕ, List, All, length, take, Bool, true, false, Option, IfSome, MatchBool}
use Rattle.plan_rules.specs.Bound.{MeetsBound}
use Rattle.plan_texts.specs.PlanReading.{IsStoreOf}
use Rattle.slot_types.specs.declared.plans.DiePlan.{DiePlan}
use Rattle.terms_texts.specs.Plans.{plans_in}
use Rattle.terms_texts.specs.Stores.{IsUsable}
use Rattle.terms_texts.specs.TermsReading.{IsStoreOf as IsTermsStoreOf}
use Rattle.terms_texts.specs.declared.stores.DieTerms.{DieTerms}
use Rattle.flashplan_terms_design.specs.Kinds.{is_terms_text}
use Rattle.flashplan_commands.specs.declared.stores.PlanRead.{PlanRead}
use Rattle.flashplan_commands.specs.declared.stores.PlanRead.TheVariants.{Plain, WithTerms}

-- what was read of a text: all of it, or its first 1,048,577 bytes
abbrev pub IsReadOf : Option (List ℕ) → List ℕ → Type 0
IsReadOf text read = IfSome text (λ bytes. read ≡ take 1048577 bytes)

-- the one holds of a plan with terms, the other of one without: what was read of its text says which it is
pub record ByKind (plan : Option (List ℕ)) (with_terms without : Type 0) : Type 0 where
  pub text : List ℕ
  pub read : IsReadOf plan text
  pub holds : MatchBool (is_terms_text text) with_terms without

-- the plans, without their terms, of the store that a plan with terms makes, whose dies pass their tests
pub record ArePlansOf (plan : Option (List ℕ)) (store : List DiePlan) : Type 0 where
  pub dies : List DieTerms
  pub made : IsTermsStoreOf plan dies
  pub plans : store ≡ plans_in dies

-- the store that a plan's text makes, with terms or without
abbrev pub ReadsStore : Option (List ℕ) → List DiePlan → Type 0
ReadsStore plan store = ByKind plan (ArePlansOf plan store) (IsStoreOf plan store)

-- While a plan is read

-- what was read of a plan's text has terms, or hasn't
pub record IsOfKind (plan : Option (List ℕ)) (has_terms : Bool) : Type 0 where
  pub text : List ℕ
  pub read : IsReadOf plan text
  pub kind : is_terms_text text ≡ has_terms

-- one to eight dies, each of which may be used, of the store that a plan without terms makes
pub record ReadsPlain (plan : Option (List ℕ)) (store : List DiePlan) : Type 0 where
  pub kind : IsOfKind plan false
  pub made : IsStoreOf plan store
  pub some : 1 ≤ length store
  pub few : length store ≤ 8
  pub bound : All MeetsBound store

-- and of the store that one with terms makes
pub record ReadsTerms (plan : Option (List ℕ)) (store : List DieTerms) : Type 0 where
  pub kind : IsOfKind plan true
  pub made : IsTermsStoreOf plan store
  pub some : 1 ≤ length store
  pub few : length store ≤ 8
  pub usable : All IsUsable store

-- a plan as it was read
abbrev pub ReadsPlan : Option (List ℕ) → PlanRead → Type 0
ReadsPlan plan (Plain store) = ReadsPlain plan store
ReadsPlan plan (WithTerms store) = ReadsTerms plan store
