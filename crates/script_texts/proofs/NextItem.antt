-- How the next item follows from the next row.
use Rattle.std.proofs.Common.{◌≡◌, ◌⊎◌, inr, ℕ, List, [], Option, Some, None, Ok, Err, ◌∙◌}
use Rattle.slot_types.specs.declared.events.Op.{Op}
use Rattle.slot_types.specs.declared.refusals.Refusal.{Refusal}
use Rattle.slot_types.specs.declared.refusals.Refusal.TheVariants.{NoMemory}
use Rattle.script_texts.specs.declared.script_rows.RowHead.{RowHead}
use Rattle.script_texts.specs.declared.scripts.ScriptReader.{ScriptReader}
use Rattle.script_texts.specs.AskedPages.{RowHasPages}
use Rattle.script_texts.specs.Heads.{row_of}
use Rattle.script_texts.specs.NextItem.{ReadsNext, ReadsRow}
use Rattle.script_texts.specs.RowTexts.{item_in, row_text}
use Rattle.script_texts.specs.Script.{Gives}
use Rattle.script_texts.specs.ScriptLeft.{dies_of, ops_text, reader_failed, reading_left, script_fits, script_rows_left, slots_of}
use Rattle.script_texts.proofs.RowItems.{arrives, fit-fault, fit-read, items-end, items-fault, items-item, items-ops, no-read-fault, whole-step}

-- of the reader `old` a row was read, or not, which left the reader `mid`
module _ {R : Type 0} (rem : R → Option (List ℕ)) (old mid : ScriptReader R) where
  pub next-end : ReadsRow rem old mid (Ok None) → ReadsNext rem old mid (Ok None)
  next-end r =
      let gives : Gives (reading_left rem old) (reading_left rem mid) (Ok None) = items-end (script_rows_left rem old) _ r.gives in
      record {
        gives = gives;
        item = whole-step _ _ (Ok None) gives;
        bound = fit-read (script_fits rem old) _ None [] r.bound;
        row = tt;
        pages = tt;
        dies = r.dies;
        slots = r.slots;
        again = r.again;
        failed = r.failed;
      }

  pub next-fault : (e : Refusal) → ReadsRow rem old mid (Err e) → ReadsNext rem old mid (Err e)
  next-fault e r =
      let gives : Gives (reading_left rem old) (reading_left rem mid) (Err e) = items-fault (script_rows_left rem old) _ _ e r.gives in
      record {
        gives = gives;
        item = whole-step _ _ (Err e) gives;
        bound = fit-fault (script_fits rem old) _ e;
        row = tt;
        pages = tt;
        dies = r.dies;
        slots = r.slots;
        again = r.again;
        failed = r.failed;
      }

  pub next-item : (head : RowHead) (ops : List Op) → ReadsRow rem old mid (Ok (Some head)) → item_in (row_text head (ops_text mid)) ≡ Ok (row_of head ops)
      → RowHasPages (row_of head ops) → ReadsNext rem old mid (Ok (Some (row_of head ops)))
  next-item head ops r is pages =
      let gives : Gives (reading_left rem old) (reading_left rem mid) (Ok (Some (row_of head ops))) =
      items-item (script_rows_left rem old) _ (row_text head (ops_text mid)) _ r.gives is in
      record {
        gives = gives;
        item = whole-step _ _ (Ok (Some (row_of head ops))) gives;
        bound = fit-read (script_fits rem old) _ (Some head) ops r.bound;
        row = (r.row.0, (r.row.1, arrives head.job ops));
        pages = pages;
        dies = r.dies;
        slots = r.slots;
        again = r.again;
        failed = r.failed;
      }

  -- its operations are at fault, and the reader will say so
  pub next-ops : (new : ScriptReader R) (head : RowHead) (e : Refusal) → ReadsRow rem old mid (Ok (Some head))
      → (e ≡ NoMemory) ⊎ (item_in (row_text head (ops_text mid)) ≡ Err e)
      → new.refused ≡ Some e → dies_of new ≡ dies_of mid → slots_of new ≡ slots_of mid → reader_failed new ≡ reader_failed mid
      → ReadsNext rem old new (Err e)
  next-ops new head e r why refused dies slots failed =
      let gives : Gives (reading_left rem old) (reading_left rem new) (Err e) =
      items-ops (script_rows_left rem old) _ _ (row_text head (ops_text mid)) e r.gives why in
      record {
        gives = gives;
        item = whole-step _ _ (Err e) gives;
        bound = fit-fault (script_fits rem old) _ e;
        row = tt;
        pages = tt;
        dies = dies ∙ r.dies;
        slots = slots ∙ r.slots;
        again = (refused, rw r.again.0 tt);
        failed = inr (no-read-fault (row_text head (ops_text mid)) e why, failed ∙ r.failed);
      }
