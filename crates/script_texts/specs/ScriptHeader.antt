-- The header of a script.
use Rattle.std.specs.Prelude.{ℕ, ◌==◌, ◌&&◌, Bool, List, length, codes}
use Rattle.csv.specs.Records.{field_at}
use Rattle.text_base.specs.Fields.{has_text}

-- whether a record is the header of a script
abbrev pub is_script_header : List (List ℕ) → Bool
is_script_header fields =
    (length fields == 7)
    && (has_text (field_at fields 0) (codes "at") && (has_text (field_at fields 1) (codes "die")
    && (has_text (field_at fields 2) (codes "task")
    && (has_text (field_at fields 3) (codes "kind") && (has_text (field_at fields 4) (codes "release")
    && (has_text (field_at fields 5) (codes "due") && has_text (field_at fields 6) (codes "ops")))))))
