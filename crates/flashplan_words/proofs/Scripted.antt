-- What a command comes to whose plan, script and number of slots were met.
use Rattle.std.proofs.Common.{◌≡◌, ◌∙◌, ℕ, List, Option, sym}
use Rattle.clap.specs.Words.{Row, Text}
use Rattle.flashplan_words.specs.RequestTexts.{CommandText}
use Rattle.flashplan_words.specs.Commands.{on_script}

pub when_scripted : (rows : List Row) (next : Text → Text → ℕ → Option CommandText) (plan script : Text) (slots : ℕ) (made : Option CommandText)
    → on_script rows next ≡ next plan script slots → made ≡ next plan script slots → made ≡ on_script rows next
when_scripted rows next plan script slots made met same = same ∙ sym met
