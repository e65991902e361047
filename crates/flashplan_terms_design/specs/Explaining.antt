-- What is said of the text of a plan with terms.
use Rattle.std.specs.Prelude.{◌≡◌, ℕ, zero, suc, ◌+◌, List, [], ◌∷◌, ◌++◌, codes, Bool, true, false, Option, Result, Ok, IfOk}
use Rattle.slot_types.specs.Texts.{refusal_text}
use Rattle.demand_rules.specs.Faults.{IsDemandLoad}
use Rattle.demand_rules.specs.declared.demands.DemandLoad.{DemandLoad}
use Rattle.terms_texts.specs.Refusing.{refusal_of}
use Rattle.terms_texts.specs.Stores.{IsStore, RefusesText, die_of}
use Rattle.terms_texts.specs.TermsText.{read_numbers}
use Rattle.terms_texts.specs.declared.faults.DieFault.{DieFault}
use Rattle.terms_texts.specs.declared.faults.DieFault.TheVariants as die_fault
use Rattle.terms_texts.specs.declared.faults.TermsRefusal.{TermsRefusal}
use Rattle.terms_texts.specs.declared.faults.TermsRefusal.TheVariants.{Outside, Text, BadShape, NoDie, Die}
use Rattle.terms_texts.specs.declared.numbers.TermsNumbers.{TermsNumbers}
use Rattle.terms_texts.specs.declared.stores.DieTerms.{DieTerms}
use Rattle.flashplan_design.specs.Trials.{FindsBlocks, FindsLogical}
use Rattle.flashplan_terms_margins.specs.MarginTexts.{SaysCaps, SaysMargins, room_line}
use Rattle.flashplan_terms_changes.specs.Alphas.{SaysAlphas}
use Rattle.flashplan_terms_changes.specs.Changes.{SaysCheapest}
use Rattle.flashplan_terms_design.specs.DieTexts.{full_stop, numbers_text, passing_text}
use Rattle.flashplan_terms_design.specs.FaultTexts.{bound_text, shape_text, stray_text, terms_text, text_fault}

-- the numbers of a die that passes, with what the demand test answers
pub record ExplainsDie (us : Option ℕ) (die : ℕ) (made : DieTerms) (said : List ℕ) : Type 0 where
  pub found : DemandLoad
  pub tested : IsDemandLoad made.plan made.terms found
  pub is : said ≡ passing_text us die made found

-- those of dies, the first of which has this number
abbrev pub ExplainsDies : Option ℕ → ℕ → List DieTerms → List ℕ → Type 0
ExplainsDies us die [] said = said ≡ []
ExplainsDies us die (made ∷ more) said =
    (first rest : List ℕ) × (said ≡ first ++ rest) × ExplainsDie us die made first × ExplainsDies us (die + 1) more rest

-- how far the logical pages, the blocks and the caps of a die may change by its bound, and the terms of its tasks
pub record SaysChanges (us : Option ℕ) (made : DieTerms) (die : ℕ) (said : List ℕ) : Type 0 where
  pub logical : Option ℕ
  pub greatest : FindsLogical made.plan logical
  pub blocks : Option ℕ
  pub least : FindsBlocks made.plan blocks
  pub caps : List ℕ
  pub largest : SaysCaps made.plan die 0 made.plan.caps caps
  pub tasks : List ℕ
  pub margins : SaysMargins us made die 0 made.terms.tasks tasks
  pub is : said ≡ room_line die logical blocks ++ caps ++ tasks

-- so it is of a die of a plan; and of a number of its first dies
abbrev pub SaysDieMargins : Option ℕ → TermsNumbers → ℕ → List ℕ → Type 0
SaysDieMargins us plan die said = SaysChanges us (die_of plan die) die said

abbrev pub SaysAllMargins : Option ℕ → TermsNumbers → ℕ → List ℕ → Type 0
SaysAllMargins us plan zero said = said ≡ []
SaysAllMargins us plan (suc die) said =
    (first last : List ℕ) × SaysAllMargins us plan die first × SaysDieMargins us plan die last × (said ≡ first ++ last)

-- the plan makes a store, of whose dies this is said; and of what each alpha comes to with the numbers that go with it
pub record ExplainsStore (us : Option ℕ) (plan : TermsNumbers) (text : List ℕ) : Type 0 where
  pub store : List DieTerms
  pub made : IsStore plan store
  pub said : List ℕ
  pub dies : ExplainsDies us 0 store said
  pub more : List ℕ
  pub margins : SaysAllMargins us plan plan.top.dies more
  pub rows : List ℕ
  pub alphas : SaysAlphas us plan plan.top.pages rows
  pub is : text ≡ (codes "The plan is accepted" ++ full_stop) ++ said ++ more ++ rows

-- a die that doesn't meet its bound, with the other logical and blocks with which it would
abbrev pub ExplainsBound : ℕ → DieTerms → List ℕ → Type 0
ExplainsBound die made said = (logical blocks : Option ℕ) × FindsLogical made.plan logical × FindsBlocks made.plan blocks
    × (said ≡ bound_text die logical blocks)

-- that; or the fault of its tests, with the other numbers of its tasks with which it would pass them
abbrev pub ExplainsDieFault : Option ℕ → ℕ → DieTerms → DieFault → List ℕ → Type 0
ExplainsDieFault us die made die_fault.Bound said = ExplainsBound die made said
ExplainsDieFault us die made (die_fault.Terms fault) said = (margins : List ℕ) × SaysMargins us made die 0 made.terms.tasks margins
    × (said ≡ terms_text us die fault ++ margins)

-- the numbers of a die that may not be used, and why
pub record ExplainsUnusable (us : Option ℕ) (die : ℕ) (made : DieTerms) (fault : DieFault) (said : List ℕ) : Type 0 where
  pub why : List ℕ
  pub explained : ExplainsDieFault us die made fault why
  pub is : said ≡ numbers_text us die made ++ why

-- that, what each alpha comes to with the numbers that go with it, and the cheapest changes with which the plan would do
pub record ExplainsFirst (us : Option ℕ) (plan : TermsNumbers) (die : ℕ) (fault : DieFault) (said : List ℕ) : Type 0 where
  pub own : List ℕ
  pub unusable : ExplainsUnusable us die (die_of plan die) fault own
  pub rows : List ℕ
  pub alphas : SaysAlphas us plan plan.top.pages rows
  pub changes : List ℕ
  pub cheapest : SaysCheapest us plan changes
  pub is : said ≡ own ++ rows ++ changes

-- why the text makes no store
abbrev pub ExplainsRefusal : Option ℕ → Result TermsNumbers TermsRefusal → TermsRefusal → List ℕ → Type 0
ExplainsRefusal us read (Text cause place) said = said ≡ text_fault cause place
ExplainsRefusal us read BadShape said = said ≡ shape_text
ExplainsRefusal us read (NoDie task) said = said ≡ stray_text task
ExplainsRefusal us read (Die die fault) said = IfOk read (λ plan. ExplainsFirst us plan die fault said)
ExplainsRefusal us read (Outside refusal) said = ⊥

-- the text makes no store: its refusal by name, and why
pub record ExplainsRefused (us : Option ℕ) (read : Result TermsNumbers TermsRefusal) (text : List ℕ) : Type 0 where
  pub refusal : TermsRefusal
  pub refuses : RefusesText read refusal
  pub said : List ℕ
  pub why : ExplainsRefusal us read refusal said
  pub is : text ≡ (codes "The plan is refused: " ++ refusal_text (refusal_of refusal) ++ full_stop) ++ said

-- what is said of a plan's text, where a slot takes `us` us if that is known: whether it makes a store whose dies pass
-- their tests
abbrev pub ExplainsTerms : Option ℕ → List ℕ → Bool → List ℕ → Type 0
ExplainsTerms us plan true text = (numbers : TermsNumbers) × (read_numbers plan ≡ Ok numbers) × ExplainsStore us numbers text
ExplainsTerms us plan false text = ExplainsRefused us (read_numbers plan) text
