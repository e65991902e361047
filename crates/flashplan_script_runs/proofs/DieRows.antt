-- The rows of one die: one more, and then slots.
use Rattle.std.proofs.Common.{◌≡◌, ℕ, Bool, true, false, List, [], ◌∷◌, ◌++◌, append_assoc, ap, ◌∙◌, sym, subst, refl, arith}
use Rattle.std.specs.Prelude.{◌-◌, ◌==◌}
use Rattle.std.specs.Prelude.{Option}
use Rattle.std.proofs.lemmas.List.{append-nil, map-append}
use Rattle.std.proofs.lemmas.List.Elements.{All-append, All-cons, All-nil, filter-append}
use Rattle.std.proofs.lemmas.Grind.{flat_map-append}
use Rattle.slot_types.specs.declared.refusals.Refusal.{Refusal}
use Rattle.die_log.specs.Model.Log.{Log, now}
use Rattle.die_log.specs.Model.Start.{Start}
use Rattle.script_texts.specs.declared.script_rows.ScriptItem.{ScriptItem}
use Rattle.flashplan_script_runs.specs.RunningDies.{CarriesOut, EndsRow, HasEmptyLog, IsCarriedTo, RunningDie}
use Rattle.flashplan_script_runs.proofs.Calls.{not_both}
use Rattle.flashplan_script_runs.specs.ScriptRuns.{EndedRow, FindsStopped, HasEnded, HasRun, HaveEnded, HaveRun}
use Rattle.flashplan_script_runs.specs.ScriptRuns.{RunsRow, RunsRows, TakesRow, asker_of, ended_row, items_of, items_of_die, refused_by}
use Rattle.flashplan_script_runs.specs.ScriptRuns.{refused_rows, rows_of_die}
use Rattle.flashplan_script_runs.specs.declared.refused.RefusedRow.{RefusedRow}

-- a die without an entry ran no row
pub none_ran : (die : RunningDie) → HasEmptyLog die → HasRun [] 0 die
none_ran die empty = record {
  front = [];
  rest = [];
  all = refl;
  after_rows = [];
  ran = refl;
  more = 0;
  carried = empty;
  whole = λ _. (refl, refl);
  refused = All-nil FindsStopped;
}

rows_more : (start : Start) (first before after : Log) (items : List EndedRow) (item : EndedRow) → RunsRows start first items before
    → RunsRow start before item after → RunsRows start first (items ++ item ∷ []) after
rows_more start first before after [] item h row = (after, subst (λ (log : Log). RunsRow start log item after) h row, refl)
rows_more start first before after (x ∷ items) item h row = (h.0, h.1, rows_more start h.0 before after items item h.2 row)

-- a die that runs ran all its rows, and nothing came after them
record RanAll (items : List EndedRow) (die : RunningDie) : Type 0 where
  ran : RunsRows die.start [] items die.log

none_more : (start : Start) (more : ℕ) (rows log : Log) → CarriesOut start more rows log → more ≡ 0 → log ≡ rows
none_more start more rows log h is = subst (λ (n : ℕ). CarriesOut start n rows log) is h

no_slots : (n : ℕ) → 0 - n ≡ 0
no_slots n = omega arith

ran_all : (items : List EndedRow) (die : RunningDie) → die.stopped ≡ false → HasRun items 0 die → RanAll items die
ran_all items die runs h =
    let w = h.whole runs in
    let log_is : die.log ≡ h.after_rows = none_more die.start h.more h.after_rows die.log h.carried (w.1 ∙ no_slots (now h.after_rows)) in
    let items_are : items ≡ h.front = h.all ∙ (ap (λ (xs : List EndedRow). h.front ++ xs) w.0 ∙ append-nil h.front) in
    record {
      ran = subst (λ (xs : List EndedRow). RunsRows die.start [] xs die.log) (sym items_are)
          (subst (λ (log : Log). RunsRows die.start [] h.front log) (sym log_is) h.ran);
    }

-- a stopped die refuses one row more
stopped_row : (items : List EndedRow) (item : EndedRow) (before after : RunningDie) → before.stopped ≡ true → HasRun items 0 before
    → TakesRow item before after → HasRun (items ++ item ∷ []) 0 after
stopped_row items item before after down h t =
    let come_is : t.come ≡ before = t.carried.stays down in
    let come_stopped : t.come.stopped ≡ true = ap (λ (d : RunningDie). d.stopped) come_is ∙ down in
    let start_is : after.start ≡ before.start = t.asked.start_stays ∙ ap (λ (d : RunningDie). d.start) come_is in
    let log_is : after.log ≡ before.log = (t.asked.refused come_stopped).1 ∙ ap (λ (d : RunningDie). d.log) come_is in
    record {
      front = h.front;
      rest = h.rest ++ item ∷ [];
      all = ap (λ (xs : List EndedRow). xs ++ item ∷ []) h.all ∙ append_assoc h.front h.rest (item ∷ []);
      after_rows = h.after_rows;
      ran = subst (λ (s : Start). RunsRows s [] h.front h.after_rows) (sym start_is) h.ran;
      more = h.more;
      carried = subst (λ (s : Start). CarriesOut s h.more h.after_rows after.log) (sym start_is)
          (subst (λ (log : Log). CarriesOut before.start h.more h.after_rows log) (sym log_is) h.carried);
      whole = λ up. not_both after.stopped up (t.asked.stopped_stays ∙ come_stopped);
      refused = All-append FindsStopped h.rest (item ∷ []) h.refused
          (All-cons FindsStopped item [] (t.asked.refused come_stopped).0 (All-nil FindsStopped));
    }

-- a die whose device fails on the way to its row refuses it
failed_row : (items : List EndedRow) (item : EndedRow) (before after : RunningDie) → before.stopped ≡ false → HasRun items 0 before
    → (t : TakesRow item before after) → t.come.stopped ≡ true → HasRun (items ++ item ∷ []) 0 after
failed_row items item before after runs h t fails =
    let start_is : after.start ≡ before.start = t.asked.start_stays ∙ t.carried.start_stays in
    record {
      front = items;
      rest = item ∷ [];
      all = refl;
      after_rows = before.log;
      ran = subst (λ (s : Start). RunsRows s [] items before.log) (sym start_is) (ran_all items before runs h).ran;
      more = t.carried.more;
      carried = subst (λ (s : Start). CarriesOut s t.carried.more before.log after.log) (sym start_is)
          (subst (λ (log : Log). CarriesOut before.start t.carried.more before.log log) (sym (t.asked.refused fails).1) t.carried.carried);
      whole = λ up. not_both after.stopped up (t.asked.stopped_stays ∙ fails);
      refused = All-cons FindsStopped item [] (t.asked.refused fails).0 (All-nil FindsStopped);
    }

-- one that runs ends it
row_ended : (items : List EndedRow) (item : EndedRow) (before after : RunningDie) → before.stopped ≡ false → HasRun items 0 before
    → (t : TakesRow item before after) → t.come.stopped ≡ false → HasRun (items ++ item ∷ []) 0 after
row_ended items item before after runs h t goes_on =
    let start_is : after.start ≡ before.start = t.asked.start_stays ∙ t.carried.start_stays in
    let row : RunsRow before.start before.log item after.log = record {
      come = t.come.log;
      carried = subst (λ (n : ℕ). CarriesOut before.start n before.log t.come.log) (t.carried.all goes_on) t.carried.carried;
      ended = subst (λ (s : Start). EndsRow s t.come.log item.item.event item.refusal after.log) t.carried.start_stays (t.asked.ended goes_on);
    } in
    record {
      front = items ++ item ∷ [];
      rest = [];
      all = sym (append-nil (items ++ item ∷ []));
      after_rows = after.log;
      ran = subst (λ (s : Start). RunsRows s [] (items ++ item ∷ []) after.log) (sym start_is)
          (rows_more before.start [] before.log after.log items item (ran_all items before runs h).ran row);
      more = 0;
      carried = refl;
      whole = λ _. (refl, sym (no_slots (now after.log)));
      refused = All-nil FindsStopped;
    }

pub row_more : (items : List EndedRow) (item : EndedRow) (before after : RunningDie) → HasRun items 0 before → TakesRow item before after
    → HasRun (items ++ item ∷ []) 0 after
row_more items item before after h t = by before.stopped refl
  where
    came : before.stopped ≡ false → (b : Bool) → t.come.stopped ≡ b → HasRun (items ++ item ∷ []) 0 after
    came runs true is = failed_row items item before after runs h t is
    came runs false is = row_ended items item before after runs h t is

    by : (b : Bool) → before.stopped ≡ b → HasRun (items ++ item ∷ []) 0 after
    by true is = stopped_row items item before after is h t
    by false is = came is t.come.stopped refl

-- then it carries out slots
pub slots_more : (items : List EndedRow) (slots : ℕ) (before after : RunningDie) → HasRun items 0 before → IsCarriedTo slots before after
    → HasRun items slots after
slots_more items slots before after h c = by before.stopped refl
  where
    by : (b : Bool) → before.stopped ≡ b → HasRun items slots after
    by true is = subst (λ (d : RunningDie). HasRun items slots d) (sym (c.stays is)) (record {
      front = h.front;
      rest = h.rest;
      all = h.all;
      after_rows = h.after_rows;
      ran = h.ran;
      more = h.more;
      carried = h.carried;
      whole = λ up. not_both before.stopped up is;
      refused = h.refused;
    })
    by false is = record {
      front = items;
      rest = [];
      all = sym (append-nil items);
      after_rows = before.log;
      ran = subst (λ (s : Start). RunsRows s [] items before.log) (sym c.start_stays) (ran_all items before is h).ran;
      more = c.more;
      carried = subst (λ (s : Start). CarriesOut s c.more before.log after.log) (sym c.start_stays) c.carried;
      whole = λ up. (refl, c.all up);
      refused = All-nil FindsStopped;
    }

-- By die

own_row : (row : EndedRow) (die : ℕ) → row.item.die ≡ die → rows_of_die (row ∷ []) die ≡ row ∷ []
own_row row die is = grind arith

other_row : (row : EndedRow) (die : ℕ) → (row.item.die ≡ die → ⊥) → rows_of_die (row ∷ []) die ≡ []
other_row row die isnt = grind arith

rows_of_own : (rows : List EndedRow) (row : EndedRow) (die : ℕ) → row.item.die ≡ die
    → rows_of_die rows die ++ row ∷ [] ≡ rows_of_die (rows ++ row ∷ []) die
rows_of_own rows row die is =
    sym (filter-append (λ (x : EndedRow). x.item.die == die) rows (row ∷ [])
    ∙ ap (λ (xs : List EndedRow). rows_of_die rows die ++ xs) (own_row row die is))

rows_of_other : (rows : List EndedRow) (row : EndedRow) (die : ℕ) → (row.item.die ≡ die → ⊥)
    → rows_of_die rows die ≡ rows_of_die (rows ++ row ∷ []) die
rows_of_other rows row die isnt =
    sym (filter-append (λ (x : EndedRow). x.item.die == die) rows (row ∷ [])
    ∙ (ap (λ (xs : List EndedRow). rows_of_die rows die ++ xs) (other_row row die isnt) ∙ append-nil (rows_of_die rows die)))

pub own_more : (rows : List EndedRow) (row : EndedRow) (die : ℕ) (before after : RunningDie) → row.item.die ≡ die
    → HasRun (rows_of_die rows die) 0 before → TakesRow row before after → HasRun (rows_of_die (rows ++ row ∷ []) die) 0 after
own_more rows row die before after is h t =
    subst (λ (xs : List EndedRow). HasRun xs 0 after) (rows_of_own rows row die is) (row_more (rows_of_die rows die) row before after h t)

pub other_more : (rows : List EndedRow) (row : EndedRow) (die : ℕ) (at : RunningDie) → (row.item.die ≡ die → ⊥)
    → HasRun (rows_of_die rows die) 0 at → HasRun (rows_of_die (rows ++ row ∷ []) die) 0 at
other_more rows row die at isnt h = subst (λ (xs : List EndedRow). HasRun xs 0 at) (rows_of_other rows row die isnt) h

-- Items

own_item : (item : ScriptItem) (die : ℕ) → item.die ≡ die → items_of_die (item ∷ []) die ≡ item ∷ []
own_item item die is = grind arith

other_item : (item : ScriptItem) (die : ℕ) → (item.die ≡ die → ⊥) → items_of_die (item ∷ []) die ≡ []
other_item item die isnt = grind arith

items_of_own : (items : List ScriptItem) (item : ScriptItem) (die : ℕ) → item.die ≡ die
    → items_of_die items die ++ item ∷ [] ≡ items_of_die (items ++ item ∷ []) die
items_of_own items item die is =
    sym (filter-append (λ (x : ScriptItem). x.die == die) items (item ∷ [])
    ∙ ap (λ (xs : List ScriptItem). items_of_die items die ++ xs) (own_item item die is))

items_of_other : (items : List ScriptItem) (item : ScriptItem) (die : ℕ) → (item.die ≡ die → ⊥)
    → items_of_die items die ≡ items_of_die (items ++ item ∷ []) die
items_of_other items item die isnt =
    sym (filter-append (λ (x : ScriptItem). x.die == die) items (item ∷ [])
    ∙ (ap (λ (xs : List ScriptItem). items_of_die items die ++ xs) (other_item item die isnt) ∙ append-nil (items_of_die items die)))

-- Ended rows

-- the items of rows, and one more
items_push : (rows : List EndedRow) (items : List ScriptItem) (row : EndedRow) → items_of rows ≡ items
    → items_of (rows ++ row ∷ []) ≡ items ++ row.item ∷ []
items_push rows items row are =
    map-append (λ (r : EndedRow). r.item) rows (row ∷ []) ∙ ap (λ (xs : List ScriptItem). xs ++ row.item ∷ []) are

-- the refused ones, and one more
refused_push : (rows : List EndedRow) (row : EndedRow) (old new : List RefusedRow) → old ≡ refused_rows rows
    → new ≡ old ++ refused_by (asker_of row.item) row.refusal → new ≡ refused_rows (rows ++ row ∷ [])
refused_push rows row old new are noted =
    noted ∙ (ap (λ (xs : List RefusedRow). xs ++ refused_by (asker_of row.item) row.refusal) are
    ∙ (ap (λ (xs : List RefusedRow). refused_rows rows ++ xs) (sym (append-nil (refused_by (asker_of row.item) row.refusal)))
    ∙ sym (flat_map-append (λ (r : EndedRow). refused_by (asker_of r.item) r.refusal) rows (row ∷ []))))

pub none_ended : (dies : List RunningDie) → HaveRun (rows_of_die []) 0 dies → HaveEnded [] [] 0 dies
none_ended dies ran = record { rows = []; items_are = refl; ran = ran; refused_are = refl }

pub ended_more : (items : List ScriptItem) (item : ScriptItem) (refusal : Option Refusal) (old new : List RefusedRow)
    (before after : List RunningDie)
    → ((rows : List EndedRow) → HaveRun (rows_of_die rows) 0 before → HaveRun (rows_of_die (rows ++ ended_row item refusal ∷ [])) 0 after)
    → new ≡ old ++ refused_by (asker_of item) refusal → HaveEnded items old 0 before → HaveEnded (items ++ item ∷ []) new 0 after
ended_more items item refusal old new before after ran noted h = record {
  rows = h.rows ++ ended_row item refusal ∷ [];
  items_are = items_push h.rows items (ended_row item refusal) h.items_are;
  ran = ran h.rows h.ran;
  refused_are = refused_push h.rows (ended_row item refusal) old new h.refused_are noted;
}

pub none_ended_as : (die : RunningDie) → HasEmptyLog die → HasEnded [] [] 0 die
none_ended_as die empty = record { rows = []; items_are = refl; ran = none_ran die empty; refused_are = refl }

pub own_ended : (items : List ScriptItem) (item : ScriptItem) (refusal : Option Refusal) (die : ℕ) (old new : List RefusedRow)
    (before after : RunningDie) → item.die ≡ die → TakesRow (ended_row item refusal) before after
    → new ≡ old ++ refused_by (asker_of item) refusal → HasEnded (items_of_die items die) old 0 before
    → HasEnded (items_of_die (items ++ item ∷ []) die) new 0 after
own_ended items item refusal die old new before after is took noted h = record {
  rows = h.rows ++ ended_row item refusal ∷ [];
  items_are = items_push h.rows (items_of_die items die) (ended_row item refusal) h.items_are ∙ items_of_own items item die is;
  ran = row_more h.rows (ended_row item refusal) before after h.ran took;
  refused_are = refused_push h.rows (ended_row item refusal) old new h.refused_are noted;
}

pub other_ended : (items : List ScriptItem) (item : ScriptItem) (die : ℕ) (refused : List RefusedRow) (at : RunningDie)
    → (item.die ≡ die → ⊥) → HasEnded (items_of_die items die) refused 0 at
    → HasEnded (items_of_die (items ++ item ∷ []) die) refused 0 at
other_ended items item die refused at isnt h =
    subst (λ (xs : List ScriptItem). HasEnded xs refused 0 at) (items_of_other items item die isnt) h
