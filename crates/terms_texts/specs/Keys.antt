-- The keys of a plan with terms.
use Rattle.std.specs.Prelude.{ℕ, List, codes, Bool, ◌||◌}
use Rattle.plan_texts.specs.Tables.{is_text}
use Rattle.terms_texts.specs.declared.keys.Key.{Key}
use Rattle.terms_texts.specs.declared.keys.Key.TheVariants as key

-- a key as it stands in a text
abbrev pub name_of : Key → List ℕ
name_of key.Version = codes "version"
name_of key.Terms = codes "terms"
name_of key.Dies = codes "dies"
name_of key.Blocks = codes "blocks"
name_of key.Pages = codes "pages"
name_of key.EraseSlots = codes "erase_slots"
name_of key.Logical = codes "logical"
name_of key.Alpha = codes "alpha"
name_of key.Task = codes "task"
name_of key.Die = codes "die"
name_of key.Cap = codes "cap"
name_of key.Period = codes "period"
name_of key.Deadline = codes "deadline"
name_of key.Held = codes "held"
name_of key.Work = codes "work"
name_of key.Writes = codes "writes"
name_of key.CollectPeriod = codes "collect_period"
name_of key.CollectDeadline = codes "collect_deadline"

-- whether a key is one of the top table
abbrev pub is_top_key : List ℕ → Bool
is_top_key k = is_text k (name_of key.Terms) || (is_text k (name_of key.Dies) || (is_text k (name_of key.Blocks)
    || (is_text k (name_of key.Pages) || (is_text k (name_of key.EraseSlots) || (is_text k (name_of key.Logical)
    || (is_text k (name_of key.Alpha) || is_text k (name_of key.Task)))))))

-- whether a key is one of a task
abbrev pub is_task_key : List ℕ → Bool
is_task_key k = is_text k (name_of key.Die) || (is_text k (name_of key.Cap) || (is_text k (name_of key.Period)
    || (is_text k (name_of key.Deadline) || (is_text k (name_of key.Held) || (is_text k (name_of key.Work)
    || (is_text k (name_of key.Writes) || (is_text k (name_of key.CollectPeriod)
    || is_text k (name_of key.CollectDeadline))))))))
