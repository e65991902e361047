-- The rows of a script by die: that they come in time, and that a fault of what is left of it is its own.
use Rattle.std.proofs.Common.{◌≡◌, ℕ, ◌<◌, List, [], ◌++◌, sym, subst, arith}
use Rattle.std.proofs.Common.{◌==◌, Option, Err, inl, inr}
use Rattle.std.specs.Prelude.{option_map}
use Rattle.std.proofs.lemmas.List.Elements.{All-append, All-get_or, filter-append}
use Rattle.slot_types.specs.declared.refusals.Refusal.{Refusal}
use Rattle.script_texts.specs.Arrivals.{Arrives}
use Rattle.script_texts.specs.AskedPages.{RowHasPages, RowsHavePages}
use Rattle.script_texts.specs.Script.{Script, script_of}
use Rattle.script_texts.specs.declared.script_rows.ScriptItem.{ScriptItem}
use Rattle.task_script.proofs.ReadSoFar.{FailsIn, IsDealt, IsReadTo, fault_on, known_by}
use Rattle.task_script.specs.Feeds.{AllArrive, AreInTime, RefusesScript, feed_of}

feeds_more : (xs ys : List ScriptItem) (die : ℕ) → feed_of (xs ++ ys) die ≡ feed_of xs die ++ feed_of ys die
feeds_more xs ys die = filter-append (λ item. item.die == die) xs ys

module _ (dies slots : ℕ) (items : List ScriptItem) (rows : List (List ScriptItem)) (d : IsDealt dies slots items rows) where
  dealt_arrive : (die : ℕ) → die < dies → AllArrive slots (feed_of items die)
  dealt_arrive die below = subst (AllArrive slots) (d.rows die below)
      (All-get_or (AllArrive slots) rows die [] (omega (arith, below, d.all)) d.arrive)

  dealt_pages : (die : ℕ) → die < dies → RowsHavePages (feed_of items die)
  dealt_pages die below = subst RowsHavePages (d.rows die below)
      (All-get_or RowsHavePages rows die [] (omega (arith, below, d.all)) d.pages)

-- one batch more

pub in_time_more : (dies slots : ℕ) (items more : List ScriptItem) (rows : List (List ScriptItem)) → AreInTime dies slots items
    → IsDealt dies slots more rows → AreInTime dies slots (items ++ more)
in_time_more dies slots items more rows t d = record {
  arrive = λ die below. subst (AllArrive slots) (sym (feeds_more items more die)) (All-append (Arrives slots) (feed_of items die)
      (feed_of more die) (t.arrive die below) (dealt_arrive dies slots more rows d die below));
  pages = λ die below. subst RowsHavePages (sym (feeds_more items more die)) (All-append RowHasPages (feed_of items die)
      (feed_of more die) (t.pages die below) (dealt_pages dies slots more rows d die below));
}

-- the script has the fault of what is left of it
pub fails_by : (text : Option (List ℕ)) (left : Option Script) (dies slots : ℕ) (items : List ScriptItem) (e : Refusal)
    → IsReadTo (option_map (script_of dies slots) text) left items → FailsIn left e → RefusesScript text dies slots e
fails_by text left dies slots items e read (inl out) = inl out
fails_by text left dies slots items e read (inr is) =
    inr (known_by (λ (script : Script). script ≡ Err e) (script_of dies slots) text (fault_on _ left items e read is))
