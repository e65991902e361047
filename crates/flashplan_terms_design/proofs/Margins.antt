-- What is said of how far numbers may change, after what else is said.
use Rattle.std.proofs.Common.{◌≡◌, ◌∙◌, ℕ, ◌+◌, List, ◌++◌, Option, refl, sym, subst, append_assoc, add-one}
use Rattle.demand_rules.specs.declared.plans.TermsFault.{TermsFault}
use Rattle.slot_types.specs.declared.plans.DiePlan.{DiePlan}
use Rattle.terms_texts.specs.declared.faults.DieFault.TheVariants as die_fault
use Rattle.terms_texts.specs.declared.numbers.TermsNumbers.{TermsNumbers}
use Rattle.terms_texts.specs.declared.stores.DieTerms.{DieTerms}
use Rattle.flashplan_terms_margins.specs.MarginTexts.{SaysCaps, SaysMargins, room_line}
use Rattle.flashplan_design.specs.Trials.{FindsBlocks, FindsLogical}
use Rattle.flashplan_terms_design.specs.Explaining.{ExplainsDieFault, SaysAllMargins, SaysChanges, SaysDieMargins}
use Rattle.flashplan_terms_design.specs.FaultTexts.{terms_text}

-- why a die doesn't pass its tests, and then which numbers would do
pub fault-and-margins : (us : Option ℕ) (die : ℕ) (made : DieTerms) (fault : TermsFault) (start middle end : List ℕ)
    → middle ≡ start ++ terms_text us die fault
    → (margins : List ℕ) × SaysMargins us made die 0 made.terms.tasks margins × (end ≡ middle ++ margins)
    → (said : List ℕ) × ExplainsDieFault us die made (die_fault.Terms fault) said × (end ≡ start ++ said)
fault-and-margins us die made fault start middle end why (margins, says, put) = (
  terms_text us die fault ++ margins,
  (margins, says, refl),
  put ∙ rw why (append_assoc start (terms_text us die fault) margins),
)

-- those of one die more
pub one-more : (us : Option ℕ) (plan : TermsNumbers) (die : ℕ) (first last : List ℕ) → SaysAllMargins us plan die first
    → SaysDieMargins us plan die last → SaysAllMargins us plan (die + 1) (first ++ last)
one-more us plan die first last some more =
    subst (λ n. SaysAllMargins us plan n (first ++ last)) (sym (add-one die)) (first, last, some, more, refl)

-- how far the numbers of a die may change, of the die as it is after its plan was tried and put back
pub room-and-margins : (us : Option ℕ) (die : ℕ) (made after again : DieTerms) (plan : DiePlan) (logical blocks : Option ℕ) (start middle capped end : List ℕ)
    → plan ≡ made.plan → after ≡ made → again ≡ after → FindsLogical made.plan logical → FindsBlocks plan blocks
    → middle ≡ start ++ room_line die logical blocks
    → (caps : List ℕ) × SaysCaps after.plan die 0 after.plan.caps caps × (capped ≡ middle ++ caps)
    → (margins : List ℕ) × SaysMargins us again die 0 again.terms.tasks margins × (end ≡ capped ++ margins)
    → (said : List ℕ) × SaysChanges us made die said × (end ≡ start ++ said)
room-and-margins us die made after again plan logical blocks start middle capped end same is is_again greatest least room (caps, largest, first)
    (margins, says, put) = (
      room_line die logical blocks ++ caps ++ margins,
      record {
        logical = logical;
        greatest = greatest;
        blocks = blocks;
        least = subst (λ (p : DiePlan). FindsBlocks p blocks) same least;
        caps = caps;
        largest = subst (λ (d : DieTerms). SaysCaps d.plan die 0 d.plan.caps caps) is largest;
        tasks = margins;
        margins = subst (λ (d : DieTerms). SaysMargins us d die 0 d.terms.tasks margins) (is_again ∙ is) says;
        is = refl;
      },
      put ∙ rw first (rw room (rw (append_assoc start (room_line die logical blocks) caps)
          (append_assoc start (room_line die logical blocks ++ caps) margins))),
    )
