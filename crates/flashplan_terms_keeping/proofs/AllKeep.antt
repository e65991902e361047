-- Where the rows of each die keep its plan, the script keeps the plans of the store.
use Rattle.std.proofs.Common.{◌≡◌, ℕ, ◌<◌, ◌≤◌, List, length, Option, Some, None, Result, Ok, refl, sym, ◌∙◌, subst, arith}
use Rattle.std.specs.Prelude.{slice_get, IfSome}
use Rattle.std.proofs.lemmas.Option.{slice_get_within}
use Rattle.slot_types.specs.declared.refusals.Refusal.{Refusal}
use Rattle.script_texts.specs.declared.script_rows.ScriptItem.{ScriptItem}
use Rattle.task_script.specs.Feeds.{feed_of}
use Rattle.terms_texts.specs.declared.stores.DieTerms.{DieTerms}
use Rattle.flashplan_terms_keeping.specs.Verdicts.{IsKeptScript, KeepsBelow, RowsKeepTerms}

same_items : (a b : List ScriptItem) → ◌≡◌ {A = Result (List ScriptItem) Refusal} (Ok a) (Ok b) → a ≡ b
same_items a b e = cc

if_some : (o : Option DieTerms) (P : DieTerms → Type 0) → ((made : DieTerms) → o ≡ Some made → P made) → IfSome o P
if_some None P each = tt
if_some (Some made) P each = each made refl

pub all_keep : (store : List DieTerms) (slots : ℕ) (text : List ℕ) (n : ℕ) → 1 ≤ length store → n ≡ length store
    → KeepsBelow store slots text n → IsKeptScript store slots text
all_keep store slots text n some all each =
    let first = each 0 (omega (arith, some, all)) in
    record {
      items = first.items;
      said = first.said;
      kept = λ die. if_some (slice_get store die) (λ made. RowsKeepTerms made slots (feed_of first.items die)) (λ made at.
          let own = each die (subst (λ (m : ℕ). die < m) (sym all) (slice_get_within store die made at)) in
          subst (λ (items : List ScriptItem). RowsKeepTerms made slots (feed_of items die)) (same_items own.items first.items (sym own.said ∙ first.said))
          (own.kept made at));
    }
