-- A line that is made from its end.
use Rattle.std.specs.Prelude.{ℕ, List, drop}
use Rattle.report_texts.specs.declared.lines.Line.{Line}

-- what a line has so far
abbrev pub line_text : Line → List ℕ
line_text line = drop line.start line.bytes

-- how many bytes more may stand before it
abbrev pub line_room : Line → ℕ
line_room line = line.start
