-- The moves of rows and of slots, one more at a time.
use Rattle.std.proofs.Common.{◌≡◌, ℕ, zero, suc, List, [], ◌∷◌, ◌++◌, refl, ap, sym, ◌∙◌, append_assoc}
use Rattle.std.specs.Prelude.{◌-◌, max}
use Rattle.std.proofs.lemmas.List.{append-nil}
use Rattle.demand_rules.specs.declared.terms.Terms.{Terms}
use Rattle.die_log.specs.Model.Log.{Log}
use Rattle.planned_log.specs.Moves.{Move, Slot, after_move}
use Rattle.script_texts.specs.declared.script_rows.ScriptItem.{ScriptItem}
use Rattle.flashplan_kept_runs.specs.KeptDies.{KeptStart, log_after}
use Rattle.flashplan_kept_runs.specs.KeptRows.{row_moves, rows_moves, slot_after, slot_moves}

pub moves_both : (begun : KeptStart) (log : Log) (some more : List Move)
    → log_after begun log (some ++ more) ≡ log_after begun (log_after begun log some) more
moves_both begun log [] more = refl
moves_both begun log (move ∷ some) more =
    moves_both begun (after_move begun.start begun.terms [] begun.life log move) some more

pub slot_more : (n : ℕ) → slot_moves (suc n) ≡ slot_moves n ++ Slot 0 ∷ []
slot_more zero = refl
slot_more (suc n) = ap (λ (moves : List Move). Slot 0 ∷ moves) (slot_more n)

pub slot_after_more : (slot : ℕ) (items : List ScriptItem) (item : ScriptItem)
    → slot_after slot (items ++ item ∷ []) ≡ max item.at (slot_after slot items)
slot_after_more slot [] item = refl
slot_after_more slot (x ∷ items) item = slot_after_more (max x.at slot) items item

-- the slots up to a row, and the row
abbrev pub one_row : Terms → ℕ → ScriptItem → List Move
one_row terms slot item = slot_moves (item.at - slot) ++ row_moves terms (max item.at slot) item.event

pub rows_more : (terms : Terms) (slot : ℕ) (items : List ScriptItem) (item : ScriptItem)
    → rows_moves terms slot (items ++ item ∷ []) ≡ rows_moves terms slot items ++ one_row terms (slot_after slot items) item
rows_more terms slot [] item = append-nil (one_row terms slot item)
rows_more terms slot (x ∷ items) item =
    ap (λ (moves : List Move). one_row terms slot x ++ moves) (rows_more terms (max x.at slot) items item)
    ∙ sym (append_assoc (one_row terms slot x) (rows_moves terms (max x.at slot) items) (one_row terms (slot_after (max x.at slot) items) item))
