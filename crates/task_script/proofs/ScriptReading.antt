-- What is read of a script, batch by batch.
use Rattle.std.proofs.Common.{◌≡◌, ◌≢◌, inl, inr, ℕ, List, [], ◌∷◌, ap, sym}
use Rattle.std.proofs.Common.{◌∙◌, get_or, Option, Some, None, Ok, Err}
use Rattle.std.specs.Prelude.{IfSome, option_map}
use Rattle.std.proofs.lemmas.List.{append-nil}
use Rattle.slot_types.specs.declared.refusals.Refusal.{Refusal}
use Rattle.slot_types.specs.declared.refusals.Refusal.TheVariants.{ReadFault}
use Rattle.script_texts.specs.RowTexts.{RowText}
use Rattle.script_texts.specs.Script.{Reading, Script, items_in, rows_in, script_of, whole}
use Rattle.script_texts.proofs.RowItems.{no-read-fault}
use Rattle.script_texts.specs.declared.script_rows.ScriptItem.{ScriptItem}
use Rattle.task_script.specs.RowTexts.{AreRead, FailsToRead, HasReadTexts, LeavesOff, read_of, rows_then}
use Rattle.task_script.proofs.ReadSoFar.{FailsIn, IsDealt, with_items}
use Rattle.task_script.specs.declared.feeds.ReadEnd.{ReadEnd}
use Rattle.task_script.specs.declared.feeds.ReadEnd.TheVariants.{Ended, Refused}
use Rattle.task_script.proofs.RowReading.{Fails, fails, fault_then, none_fail, read_then, whole_nil}
use Rattle.task_script.proofs.DieReading.{dealt_fails, dealt_read}

-- what was left of a script's rows, as a whole
abbrev pub as_script : Option (Reading RowText) → Option Script
as_script rows = option_map whole (option_map items_in rows)

-- the rows of a text, as a whole
pub whole_rows : (text : Option (List ℕ)) (first : Option (Reading RowText)) (dies slots : ℕ) → first ≡ option_map (rows_in dies slots) text
    → as_script first ≡ option_map (script_of dies slots) text
whole_rows None first dies slots is = ap as_script is
whole_rows (Some bytes) first dies slots is = ap as_script is

-- these items are all of it, by die
pub record EndsWith (old : Option Script) (dies slots : ℕ) (rows : List (List ScriptItem)) : Type 0 where
  pub items : List ScriptItem
  pub all : IfSome old (λ left. left ≡ Ok items)
  pub dealt : IsDealt dies slots items rows

pub reads_last : (old new : Option (Reading RowText)) (dies slots from next : ℕ) (texts : List (List RowText)) (rows : List (List ScriptItem))
    → HasReadTexts old new dies slots from next texts Ended → AreRead texts rows → EndsWith (as_script old) dies slots rows
reads_last old new dies slots from next texts rows h are =
    let d = dealt_read dies slots from h.behind h.rows texts h.dealt rows are in
    record { items = d.all; all = by old h.read d.all d.read; dealt = d.dealt }
  where
    by : (old : Option (Reading RowText)) → IfSome old (λ all. (more : Reading RowText) × (all ≡ rows_then h.rows more) × LeavesOff new more Ended)
        → (items : List ScriptItem) → read_of h.rows ≡ Ok items → IfSome (as_script old) (λ left. left ≡ Ok items)
    by None read items is = tt
    by (Some all) (more, all_is, left) items is =
        ap (λ (r : Reading RowText). whole (items_in r)) all_is
        ∙ (read_then h.rows items is more.items more.fault
        ∙ (ap (λ (r : Reading RowText). with_items items (whole (items_in r))) left
        ∙ (ap (with_items items) (whole_nil None) ∙ ap (λ (xs : List ScriptItem). Ok xs) (append-nil items))))

-- where their operations were read, the fault after them is that of the script
pub fails_after : (old new : Option (Reading RowText)) (dies slots from next : ℕ) (texts : List (List RowText)) (rows : List (List ScriptItem))
    (e : Refusal) → HasReadTexts old new dies slots from next texts (Refused e) → AreRead texts rows → FailsIn (as_script old) e
fails_after old new dies slots from next texts rows e h are = let d = dealt_read dies slots from h.behind h.rows texts h.dealt rows are in by old h.read d.all d.read
  where
    by : (old : Option (Reading RowText))
        → IfSome old (λ all. (more : Reading RowText) × (all ≡ rows_then h.rows more) × LeavesOff new more (Refused e))
        → (items : List ScriptItem) → read_of h.rows ≡ Ok items → FailsIn (as_script old) e
    by None read items is = inr tt
    by (Some all) (more, all_is, inl out) items is = inl out
    by (Some all) (more, all_is, inr left) items is = inr (ap (λ (r : Reading RowText). whole (items_in r)) all_is
        ∙ (read_then h.rows items is more.items more.fault
        ∙ (ap (λ (r : Reading RowText). with_items items (whole (items_in r))) left
        ∙ ap (with_items items) (whole_nil (Some e)))))

-- their own first fault is that of the script, whatever comes after them
pub fails_within : (old new : Option (Reading RowText)) (dies slots from next : ℕ) (texts : List (List RowText)) (end : ReadEnd) (e : Refusal)
    → HasReadTexts old new dies slots from next texts end → FailsToRead texts e → FailsIn (as_script old) e
fails_within old new dies slots from next texts end e h (inl memory) = inl (inl memory)
fails_within old new dies slots from next texts end e h (inr f) = inr (by old h.read (dealt_fails dies slots from h.behind h.rows texts h.dealt e f))
  where
    by : (old : Option (Reading RowText)) → IfSome old (λ all. (more : Reading RowText) × (all ≡ rows_then h.rows more) × LeavesOff new more end)
        → read_of h.rows ≡ Err e → IfSome (as_script old) (λ left. left ≡ Err e)
    by None read is = tt
    by (Some all) (more, all_is, left) is = ap (λ (r : Reading RowText). whole (items_in r)) all_is
        ∙ fault_then h.rows e is more.items more.fault

-- it is never ReadFault
rows_fault : (rows : List RowText) (e : Refusal) → read_of rows ≡ Err e → e ≢ ReadFault
rows_fault [] e is = absurd (none_fail e is)
rows_fault (row ∷ rows) e is = by (λ later. rows_fault rows e later) (fails row rows e is)
  where
    by : (read_of rows ≡ Err e → e ≢ ReadFault) → Fails row rows e → e ≢ ReadFault
    by again (inl here) = no-read-fault row e (inr here)
    by again (inr (item, first, later)) = again later

pub not_of_reader : (texts : List (List RowText)) (e : Refusal) → FailsToRead texts e → e ≢ ReadFault
not_of_reader texts e (inl memory) is = absurd (cc (sym memory ∙ is))
not_of_reader texts e (inr f) is = rows_fault (get_or texts f.die []) e f.fault is
