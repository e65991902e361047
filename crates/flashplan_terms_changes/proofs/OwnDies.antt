-- The nearest number with which a plan does: the dies whose number it is, while the others do.
use Rattle.std.proofs.Common.{ℕ, Option}
use Rattle.terms_texts.specs.declared.numbers.TermsNumbers.{TermsNumbers}
use Rattle.flashplan_design.specs.declared.subjects.TaskName.{TaskName}
use Rattle.flashplan_terms_changes.specs.Changes.{Does, IsNearest, OthersDo, OwnDo}
use Rattle.flashplan_terms_changes.specs.declared.plan_numbers.PlanNumber.{PlanNumber}

-- none, where they do as they are
pub none-as-it-is : (plan : TermsNumbers) (of : Option TaskName) (which : PlanNumber) (from to : ℕ) → OwnDo plan of which from
    → ¬ Does plan of which from → ¬ Does plan of which to
none-as-it-is plan of which from to own not does = not (record { own = own; others = does.others })

-- none, where they don't with the number that asks for least
pub none-with-loosest : (plan : TermsNumbers) (of : Option TaskName) (which : PlanNumber) (from to : ℕ) → ¬ OwnDo plan of which to
    → ¬ Does plan of which from → ¬ Does plan of which to
none-with-loosest plan of which from to own not does = own does.own

-- none, where the others don't
pub none-of-others : (plan : TermsNumbers) (of : Option TaskName) (which : PlanNumber) (from to : ℕ) → ¬ OthersDo plan of
    → ¬ Does plan of which from → ¬ Does plan of which to
none-of-others plan of which from to others not does = others does.others

-- and else theirs
pub nearest-of-all : (plan : TermsNumbers) (of : Option TaskName) (which : PlanNumber) (from n : ℕ) → OthersDo plan of
    → IsNearest (OwnDo plan of which) from n → IsNearest (Does plan of which) from n
nearest-of-all plan of which from n others i = record {
  does = record { own = i.does; others = others };
  other = i.other;
  nearer = λ does. i.nearer does.own;
}
