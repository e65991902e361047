-- Which texts are taken for plans with terms.
use Rattle.std.specs.Prelude.{ℕ, List, Bool, false, Result, Ok, Err}
use Rattle.toml.specs.Data.{Members}
use Rattle.plan_texts.specs.Tables.{has_member}
use Rattle.terms_texts.specs.Keys.{name_of}
use Rattle.terms_texts.specs.TermsText.{table_of}
use Rattle.terms_texts.specs.declared.faults.TermsRefusal.{TermsRefusal}
use Rattle.terms_texts.specs.declared.keys.Key.TheVariants as key

-- a table has the key `terms`
abbrev pub has_terms_key : Result Members TermsRefusal → Bool
has_terms_key (Ok ms) = has_member ms (name_of key.Terms)
has_terms_key (Err fault) = false

-- a text that is TOML and has the key `terms` on top
abbrev pub is_terms_text : List ℕ → Bool
is_terms_text text = has_terms_key (table_of text)
