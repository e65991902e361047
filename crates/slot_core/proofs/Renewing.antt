-- The flash of a die at a quiet moment is that of a log that starts there.
use Rattle.std.proofs.Common.{◌≡◌, ℕ, Bool, [], length, List, Option, Some, arith, refl, sym, subst, ap, ◌∙◌}
use Rattle.std.specs.Prelude.{Contains, false, position}
use Rattle.std.proofs.Common.{None, ◌∷◌, map}
use Rattle.job_table.specs.Reserves.{Reserve}
use Rattle.job_table.specs.Table.{Table, empty_table}
use Rattle.flash_volume.specs.declared.collection.Collection.{Collection}
use Rattle.flash_die.specs.Flash as device
use Rattle.flash_volume.specs.State.{State}
use Rattle.die_log.specs.Model.Start.{Start, over}
use Rattle.die_log.specs.Model.Start.{Block}
use Rattle.die_log.specs.Model.Flash.{cells}
use Rattle.die_log.specs.Model.Opening.{IsOpening, IsQuiet, CanBeErased, renewed_start}
use Rattle.flash_volume.specs.Cells.{erases_in, first_worn, is_worn_beyond}
use Rattle.die_log.specs.Model.Log.{Log, Job}
use Rattle.die_log.specs.Model.Answers.{IsExact}
use Rattle.die_log.proofs.Renewal.{none_runs, renewed_opens}
use Rattle.slot_core.specs.Device.{FlashState, flash_of, IsFlashOf, counts_of}
use Rattle.flash_volume.proofs.Worn.{none_worn}
use Rattle.slot_core.proofs.Victims.{erases_is}
use Rattle.slot_core.specs.Renewals.{most_erases, IsFirstWorn}
use Rattle.slot_core.specs.Agreement.{AgreeWithLog}

nobody_in : {P : Type 0} (j : Job) → Contains [] j → P
nobody_in j h = absurd (omega (arith, h.1))

pub renewed_flash : (start : Start) (log : Log) (f : FlashState) → IsOpening start → IsExact start log → IsQuiet start log
    → IsFlashOf start log f → IsFlashOf (renewed_start start log) [] f
renewed_flash start log f bound exact quiet k = record {
  accounts_are = k.accounts_are;
  pages_are = k.pages_are;
  places_are = k.places_are;
  blocks_are = k.blocks_are;
  running_are = record {
    len = k.running_are.len;
    each = λ task c is. let o = k.running_are.each task c is in absurd (none_runs start log bound exact quiet o.0 c.victim o.1.runs);
    all = λ j b r. nobody_in j r.stands;
  };
}

-- an empty table of as many tasks, with memory for what is kept
abbrev pub emptied : Table → Reserve → Table
emptied t kept = record (empty_table t.tasks) { reserve = kept; lasting = kept }

-- the fields of a die that is renewed: its table and its log are empty, and its flash stays
pub keeps_renewed : (start : Start) (log : Log) (present : ℕ) (t : Table) (kept : Reserve) (f : FlashState) → AgreeWithLog start log present t false f
    → IsQuiet start log → CanBeErased (renewed_start start log)
    → AgreeWithLog (renewed_start start log) [] 0 (emptied t kept) false f
keeps_renewed start log present t kept f k quiet left = record {
  exact = tt;
  bound = renewed_opens start log k.bound k.exact quiet;
  left = left;
  now_is = refl;
  tasks_are = k.tasks_are;
  clock_by = omega arith;
  ended_is = refl;
  jobs_are = refl;
  places_are = (k.flash refl).places_are;
  flash = λ alive. renewed_flash start log f k.bound k.exact quiet (k.flash refl);
}

-- so it is where the note of the start, the table and the log are made
pub renewed_kept : {N : Type 0} (blocks_of : N → List device.Block) (start made : Start) (log after : Log) (present : ℕ) (t u : Table) (kept : Reserve)
    (v : State N) → AgreeWithLog (over v.accounts.plan start) log present t v.failed (flash_of blocks_of v) → v.failed ≡ false
    → IsQuiet (over v.accounts.plan start) log → CanBeErased (renewed_start (over v.accounts.plan start) log)
    → made ≡ renewed_start (over v.accounts.plan start) log → u ≡ emptied t kept → after ≡ []
    → AgreeWithLog (over v.accounts.plan made) after 0 u v.failed (flash_of blocks_of v)
renewed_kept blocks_of start made log after present t u kept v k alive quiet left made_is table_is after_is =
    let s : Start = over v.accounts.plan start in
    rw made_is (rw table_is (rw after_is (
    subst (λ (b : Bool). AgreeWithLog (renewed_start s log) [] 0 (emptied t kept) b (flash_of blocks_of v)) (sym alive)
    (keeps_renewed s log present t kept (flash_of blocks_of v)
    (subst (λ (b : Bool). AgreeWithLog s log present t b (flash_of blocks_of v)) alive k) quiet left))))

-- Erases

-- the erases of the device's blocks are those of the log's
erases_are : (start : Start) (log : Log) (f : FlashState) → IsFlashOf start log f
    → erases_in f.blocks ≡ map (λ (b : Block). b.erases) (cells start log).blocks
erases_are start log f k = counted f.blocks ∙ ap (map (λ (b : Block). b.erases)) k.blocks_are
  where
    counted : (bs : List device.Block) → erases_in bs ≡ map (λ (b : Block). b.erases) (map counts_of bs)
    counted [] = refl
    counted (b ∷ bs) = ap (λ (es : List ℕ). b.erases ∷ es) (counted bs)

pub worn_reported : (start : Start) (log : Log) (f : FlashState) (block : ℕ) → IsFlashOf start log f
    → first_worn most_erases f.blocks ≡ Some block → IsFirstWorn start log block
worn_reported start log f block k is =
    subst (λ (es : List ℕ). position (is_worn_beyond most_erases) es ≡ Some block) (erases_are start log f k) is

-- where no block is worn out, each may be erased as often as a life has slots
pub unworn_reported : (start : Start) (log : Log) (f : FlashState) → IsFlashOf start log f → first_worn most_erases f.blocks ≡ None
    → CanBeErased (renewed_start start log)
unworn_reported start log f k none b = omega (arith, none_worn most_erases f.blocks b none, erases_is start log f.blocks b k.blocks_are)
