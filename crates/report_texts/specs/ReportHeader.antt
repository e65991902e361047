-- The header of a report.
use Rattle.std.specs.Prelude.{ℕ, ◌==◌, ◌&&◌, Bool, List, length, codes}
use Rattle.csv.specs.Records.{field_at}
use Rattle.text_base.specs.Fields.{has_text}

-- whether a record is the header of a report
abbrev pub is_report_header : List (List ℕ) → Bool
is_report_header fields =
    (length fields == 11)
    && (has_text (field_at fields 0) (codes "row") && (has_text (field_at fields 1) (codes "die")
    && (has_text (field_at fields 2) (codes "job")
    && (has_text (field_at fields 3) (codes "task") && (has_text (field_at fields 4) (codes "release")
    && (has_text (field_at fields 5) (codes "due")
    && (has_text (field_at fields 6) (codes "work") && (has_text (field_at fields 7) (codes "completion")
    && (has_text (field_at fields 8) (codes "lateness")
    && (has_text (field_at fields 9) (codes "given") && has_text (field_at fields 10) (codes "items")))))))))))
