use Rattle.std.proofs.Common.{◌≡◌, ◌++◌, drop}
use Rattle.std.specs.Prelude.{flat_map}
use Rattle.csv.specs.Writing.{default_writer, row_text}
use Rattle.checkpoint_texts.specs.CheckpointText.{page_record}
use Rattle.checkpoint_texts.proofs.writing.put_pages.Given as goal

abbrev pub invariant-loop-page : goal.invariant-loop-page
invariant-loop-page l = l.text.items ++ flat_map (λ page. row_text default_writer (page_record page)) (drop l.page-index l.pages)
    ≡ l.initial.text.items ++ flat_map (λ page. row_text default_writer (page_record page)) l.pages
