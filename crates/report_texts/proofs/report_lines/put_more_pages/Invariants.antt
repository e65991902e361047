use Rattle.std.proofs.Common.{◌≡◌, ◌++◌, ◌∷◌, drop}
use Rattle.std.specs.Prelude.{flat_map}
use Rattle.text_base.specs.Pages.{page_word}
use Rattle.report_texts.proofs.report_lines.put_more_pages.Given as goal

abbrev pub invariant-loop-page : goal.invariant-loop-page
invariant-loop-page l = l.text.items ++ flat_map (λ page. 32 ∷ page_word page) (drop l.page-index l.pages) ≡ l.initial.text.items
    ++ flat_map (λ page. 32 ∷ page_word page) l.pages
