-- Figures as texts.
use Rattle.std.specs.Prelude.{ℕ, suc, ℤ, pos, negsuc, ◌+◌, ◌*◌, ◌/◌, ◌%◌, ◌==◌, if◌then◌else◌, List, [], ◌∷◌, ◌++◌, Option, Some, None}
use Rattle.std.specs.Prelude.{codes, decimal}
use Rattle.std.specs.Fmt.{signed_decimal}
use Rattle.flashplan_run_figures.specs.declared.figures.Figure.{Figure}
use Rattle.flashplan_run_figures.specs.declared.figures.Figure.TheVariants as figure

-- Numbers

-- hundredths, with two digits after the point
abbrev pub in_hundredths : ℕ → List ℕ
in_hundredths n = decimal (n / 100) ++ codes "." ++ decimal (n / 10 % 10) ++ decimal (n % 10)

abbrev pub signed_hundredths : ℤ → List ℕ
signed_hundredths (pos n) = in_hundredths n
signed_hundredths (negsuc n) = 45 ∷ in_hundredths (suc n)

-- thousandths, with three digits after the point
abbrev pub in_thousandths : ℕ → List ℕ
in_thousandths n = decimal (n / 1000) ++ codes "." ++ decimal (n / 100 % 10) ++ decimal (n / 10 % 10) ++ decimal (n % 10)

abbrev pub figure_text : Figure → List ℕ
figure_text figure.Nothing = []
figure_text (figure.Whole n) = signed_decimal n
figure_text (figure.Hundredths n) = signed_hundredths n
figure_text (figure.Thousandths n) = in_thousandths n
figure_text figure.Refused = codes "refused"

-- Figures

abbrev pub count_of : ℕ → Figure
count_of n = figure.Whole (pos n)

abbrev pub whole_of : Option ℤ → Figure
whole_of None = figure.Nothing
whole_of (Some n) = figure.Whole n

abbrev pub hundredths_of : Option ℤ → Figure
hundredths_of None = figure.Nothing
hundredths_of (Some n) = figure.Hundredths n

-- the pages that were programmed for each page that was written, to the thousandth below; nothing where none was written
abbrev pub amplification : ℕ → ℕ → Figure
amplification written copied = if written == 0 then figure.Nothing else figure.Thousandths ((written + copied) * 1000 / written)
