use Rattle.std.specs.Prelude.{option_map}
use Rattle.text_base.specs.Pages.{page_of}
use Rattle.text_base.proofs.StartLaws.{first-shorter, first-starts}
use Rattle.text_base.proofs.words.skip_page.Goals as goal

pub returns-in-Some-clause-word : goal.returns-in-Some-clause-word
returns-in-Some-clause-word c = (
  c.in-Some.ensures.0,
  first-starts page_of c.args.text.now c.in-Some.ensures.0 (option_map (λ text. text.now) c.in-Some.rest) c.in-Some.ensures.1,
)

pub returns-in-Some-clause-shorter : goal.returns-in-Some-clause-shorter
returns-in-Some-clause-shorter c =
    first-shorter page_of c.args.text.now c.in-Some.ensures.0 (λ text. text.now) c.in-Some.rest c.in-Some.ensures.1
