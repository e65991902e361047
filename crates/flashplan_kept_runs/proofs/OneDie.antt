-- One die: one row more, and then slots.
use Rattle.std.proofs.Common.{◌≡◌, ℕ, List, [], ◌∷◌, ◌++◌, refl, ap, sym, ◌∙◌, subst}
use Rattle.std.specs.Prelude.{◌-◌, max}
use Rattle.die_log.specs.Model.Log.{Log, now}
use Rattle.planned_log.specs.Laws.{AreDoneInTime}
use Rattle.planned_log.specs.Moves.{Move}
use Rattle.script_texts.specs.declared.script_rows.ScriptItem.{ScriptItem}
use Rattle.flashplan_kept_runs.specs.KeptDies.{HasEmptyLog, HasMoved, KeptDie, KeptStart, log_after}
use Rattle.flashplan_kept_runs.specs.KeptRows.{row_moves, rows_moves, slot_after, slot_moves}
use Rattle.flashplan_kept_runs.specs.KeptRuns.{HasKept, HasTaken, TakesRow}
use Rattle.flashplan_kept_runs.proofs.Moving.{moves_both, one_row, rows_more, slot_after_more}

-- a die without an entry took no row
pub none_taken : (die : KeptDie) → HasEmptyLog die → HasTaken [] die
none_taken die empty = record { moved = empty; here = ap now empty }

-- no move, and two lists of moves one after the other
pub no_moves : (die : KeptDie) → HasMoved [] die die
no_moves die = record { begun_stays = refl; moved = refl }

pub moved_both : (some more : List Move) (before between after : KeptDie) → HasMoved some before between → HasMoved more between after
    → HasMoved (some ++ more) before after
moved_both some more before between after one other = record {
  begun_stays = other.begun_stays ∙ one.begun_stays;
  moved = other.moved
      ∙ (ap (λ (b : KeptStart). log_after b between.log more) one.begun_stays
      ∙ (ap (λ (l : Log). log_after before.begun l more) one.moved
      ∙ sym (moves_both before.begun before.log some more)));
}

-- what was taken of rows, and moves after it
after_rows : (items : List ScriptItem) (more : List Move) (before after : KeptDie) → HasTaken items before → HasMoved more before after
    → after.log ≡ log_after after.begun [] (rows_moves after.begun.terms 0 items ++ more)
after_rows items more before after h m =
    subst (λ (b : KeptStart). after.log ≡ log_after b [] (rows_moves b.terms 0 items ++ more)) (sym m.begun_stays)
    (m.moved
    ∙ (ap (λ (l : Log). log_after before.begun l more) h.moved
    ∙ sym (moves_both before.begun [] (rows_moves before.begun.terms 0 items) more)))

pub row_more : (items : List ScriptItem) (item : ScriptItem) (before after : KeptDie) → HasTaken items before → TakesRow item before after
    → HasTaken (items ++ item ∷ []) after
row_more items item before after h t = record {
  moved = after_rows items (one_row before.begun.terms (slot_after 0 items) item) before after h both
      ∙ ap (λ (moves : List Move). log_after after.begun [] moves)
      (ap (λ (b : KeptStart). rows_moves after.begun.terms 0 items ++ one_row b.terms (slot_after 0 items) item) (sym begun_is)
      ∙ sym (rows_more after.begun.terms 0 items item));
  here = t.here ∙ (t.come_here ∙ (ap (max item.at) h.here ∙ sym (slot_after_more 0 items item)));
}
  where
    begun_is : after.begun ≡ before.begun
    begun_is = t.taken.begun_stays ∙ t.carried.begun_stays

    there : now t.come.log ≡ max item.at (slot_after 0 items)
    there = t.come_here ∙ ap (max item.at) h.here

    both : HasMoved (one_row before.begun.terms (slot_after 0 items) item) before after
    both = moved_both (slot_moves (item.at - slot_after 0 items)) (row_moves before.begun.terms (max item.at (slot_after 0 items)) item.event)
        before t.come after
        (subst (λ n. HasMoved (slot_moves (item.at - n)) before t.come) h.here t.carried)
        (subst (λ n. HasMoved (row_moves before.begun.terms n item.event) t.come after) there t.taken)

-- then it carries out slots, and all is in time
pub slots_more : (items : List ScriptItem) (slots : ℕ) (before after : KeptDie) → HasTaken items before
    → HasMoved (slot_moves (slots - now before.log)) before after → now after.log ≡ max slots (now before.log)
    → AreDoneInTime after.begun.start.plan after.log → HasKept items slots after
slots_more items slots before after h moved there in_time = record {
  moved = after_rows items (slot_moves (slots - slot_after 0 items)) before after h
      (subst (λ n. HasMoved (slot_moves (slots - n)) before after) h.here moved);
  here = there ∙ ap (max slots) h.here;
  in_time = in_time;
}
