-- How the rows of a script become the events of a die.
use Rattle.std.proofs.Common.{◌≡◌, ℕ, ◌-◌, List, [], ◌∷◌, ◌++◌, ap, sym, ◌∙◌, subst, map}
use Rattle.std.proofs.Common.{replicate, append_assoc, arith, Option, Some, None, Ok}
use Rattle.std.specs.Prelude.{option_map}
use Rattle.std.proofs.lemmas.List.{append-nil}
use Rattle.slot_types.specs.declared.events.Event.{Event}
use Rattle.slot_types.specs.declared.events.Event.TheVariants as events
use Rattle.script_texts.specs.Script.{Script, Yields, script_of}
use Rattle.script_texts.specs.declared.script_rows.ScriptItem.{ScriptItem}
use Rattle.task_script.proofs.ReadSoFar.{IsReadTo, read_none, read_more, read_all, known_by}
use Rattle.task_script.specs.DieRuns.{calls_from}
use Rattle.task_script.specs.Feeds.{feed_of}
use Rattle.task_script.specs.PlannedRuns.{event_of, events_of_rows}
use Rattle.flashplan_arrivals.specs.PlannedScripts.{AreEventsOf}
use Rattle.flashplan_arrivals.specs.Steps.{later_events}
use Rattle.flashplan_arrivals.proofs.Carrying.{rows_over}

-- these items were read, and these are the events so far
pub record HasCome (whole left : Option Script) (slots now die : ℕ) (events : List Event) : Type 0 where
  pub items : List ScriptItem
  pub read : IsReadTo whole left items
  pub come : (rest : List ScriptItem) → events_of_rows slots (feed_of (items ++ rest) die) ≡ events ++ later_events slots now (feed_of rest die)

pub come_none : (whole left : Option Script) (slots die : ℕ) (events : List Event) → left ≡ whole → events ≡ []
    → HasCome whole left slots 0 die events
come_none whole left slots die evs same is = record {
  items = [];
  read = subst (λ (o : Option Script). IsReadTo whole o []) (sym same) (read_none whole);
  come = λ rest. ap (λ n. map event_of (calls_from 0 n (feed_of rest die))) (let all : slots ≡ slots - 0 = omega arith in all)
      ∙ ap (λ (l : List Event). l ++ later_events slots 0 (feed_of rest die)) (sym is);
}

pub come_more : (whole left new : Option Script) (slots now after die : ℕ) (old evs : List Event) (item : ScriptItem)
    → Yields left new (Ok (Some item))
    → ((rest : List ScriptItem) → old ++ later_events slots now (feed_of (item ∷ rest) die) ≡ evs
    ++ later_events slots after (feed_of rest die))
    → HasCome whole left slots now die old → HasCome whole new slots after die evs
come_more whole left new slots now after die old evs item step took h = record {
  items = h.items ++ item ∷ [];
  read = read_more whole left new h.items item h.read step;
  come = λ rest. ap (λ (l : List ScriptItem). events_of_rows slots (feed_of l die)) (append_assoc h.items (item ∷ []) rest)
      ∙ (h.come (item ∷ rest) ∙ took rest);
}

pub come_all : (text : Option (List ℕ)) (left new : Option Script) (dies slots now die : ℕ) (old evs : List Event)
    → Yields left new (Ok None)
    → evs ≡ old ++ replicate (slots - now) events.Slot → HasCome (option_map (script_of dies slots) text) left slots now die old
    → AreEventsOf text dies slots die evs
come_all text left new dies slots now die old evs step carried h = (
  h.items,
  known_by (λ (all : Script). all ≡ Ok h.items) (script_of dies slots) text (read_all _ left new h.items h.read step),
  rows_over slots now (events_of_rows slots (feed_of h.items die)) old evs
      (ap (λ (l : List ScriptItem). events_of_rows slots (feed_of l die)) (sym (append-nil h.items)) ∙ h.come []) carried,
)
