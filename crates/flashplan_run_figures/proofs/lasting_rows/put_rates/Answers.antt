use Rattle.std.proofs.Common.{◌≡◌, ◌∙◌, ◌++◌, List, ℕ, ap, append_assoc}
use Rattle.std.specs.Prelude.{codes}
use Rattle.flashplan_run_figures.specs.Tables.{daily, own_row, rate_rows, run_of}
use Rattle.flashplan_run_figures.specs.declared.figures.Figure.{Figure}
use Rattle.flashplan_run_figures.proofs.lasting_rows.put_rates.Goals as goal

-- three rows, one after the other
three : (old first second third one two all : List ℕ) → one ≡ old ++ first → two ≡ one ++ second → all ≡ two ++ third
    → all ≡ old ++ (first ++ second ++ third)
three old first second third one two all is_one is_two is_all =
    is_all ∙ (ap (λ (xs : List ℕ). xs ++ third) (is_two ∙ (ap (λ (xs : List ℕ). xs ++ second) is_one ∙ append_assoc old first second))
    ∙ append_assoc old (first ++ second) third)

pub returns : goal.returns
unfolding rate_rows
returns c =
    let t = c.args.layout.now in
    let records = c.args.records.now in
    three c.args.text.now.items (own_row t records (codes "seconds of the run") (run_of c.args.lasting))
    (own_row t records (codes "erases of a block a day") (daily c.args.lasting.mean))
    (own_row t records (codes "  of the one erased most") (daily c.args.lasting.worst))
    c.put_own.new.text.items c.put_own-2.new.text.items c.put_own-3.new.text.items
    (c.in_ok-put_own.ensures
    ∙ ap (λ (f : Figure). c.args.text.now.items ++ own_row t records (codes "seconds of the run") f) c.run_of-run.ensures)
    (c.in_ok-put_own-2.ensures
    ∙ ap (λ (f : Figure). c.put_own.new.text.items ++ own_row t records (codes "erases of a block a day") f) c.daily-mean.ensures)
    (c.in_ok-put_own-3.ensures
    ∙ ap (λ (f : Figure). c.put_own-2.new.text.items ++ own_row t records (codes "  of the one erased most") f) c.daily-worst.ensures)
