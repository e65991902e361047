-- How the dies of a checkpoint are gathered, record by record.
use Rattle.std.specs.Prelude.{ℕ, ◌==◌, ◌&&◌, Bool, nat_lt, not, List, [], ◌∷◌, ◌++◌, length, Ok, if◌then◌else◌}
use Rattle.text_base.specs.CsvRecords.{Fields}
use Rattle.checkpoint_texts.specs.Readings.{◌>>=◌, broken_field}
use Rattle.checkpoint_texts.specs.Records.{OrFault, item_of}
use Rattle.checkpoint_texts.specs.declared.fault.RecordFault.TheVariants as fault
use Rattle.checkpoint_texts.specs.declared.gathered.Gathered.{Gathered}
use Rattle.checkpoint_texts.specs.declared.items.Item.{Item}
use Rattle.checkpoint_texts.specs.declared.items.Item.TheVariants.{Page, Block, Task, Die}
use Rattle.checkpoint_texts.specs.declared.saved.SavedDie.{SavedDie}

-- these dies, and nothing yet of the next
abbrev pub between : List SavedDie → Gathered
between dies = record { done = dies; pages = []; blocks = []; balances = [] }

-- the die at hand, with these spare pages
abbrev pub die_at_hand : Gathered → ℕ → SavedDie
die_at_hand g spare = record { pages = g.pages; blocks = g.blocks; balances = g.balances; spare = spare }

abbrev pub has_none : {A : Type 0} → List A → Bool
has_none xs = length xs == 0

-- what is gathered with one more item, which the record of this number says: a die's pages come first, then its blocks,
-- then its tasks, and then its number and its spare pages
abbrev pub with_item : ℕ → Gathered → Item → OrFault Gathered
with_item n g (Page page) =
    if has_none g.blocks && has_none g.balances then Ok (record g { pages = g.pages ++ page ∷ [] }) else broken_field n 1 fault.Order
with_item n g (Block block) = if has_none g.balances then Ok (record g { blocks = g.blocks ++ block ∷ [] }) else broken_field n 1 fault.Order
with_item n g (Task balance) = Ok (record g { balances = g.balances ++ balance ∷ [] })
with_item n g (Die number spare) =
    if (number == length g.done) && nat_lt number 8 then Ok (between (g.done ++ die_at_hand g spare ∷ []))
    else broken_field n 2 fault.Die

-- what is gathered with one more record, which has this number
abbrev pub with_record : ℕ → Gathered → Fields → OrFault Gathered
with_record n g fields = item_of n fields >>= with_item n g

-- whether a text may end here: there is a die, and nothing of a next one
abbrev pub may_end : Gathered → Bool
may_end g = not (has_none g.done) && (has_none g.pages && (has_none g.blocks && has_none g.balances))
