use Rattle.std.proofs.Common.{inr, rules, ◌≡◌, false, length}
use Rattle.std.specs.Prelude.{nat_lt}
use Rattle.toml.specs.View.{table_view}
use Rattle.terms_texts.proofs.TermsLaws.{table-no_text, table-found}
use Rattle.terms_texts.proofs.numbers.table.Goals as goal

pub returns-in_default : goal.returns-in_default
returns-in_default c =
    let short : nat_lt 1048576 (length c.args.text.now) ≡ false = search rules in
    inr (table-no_text c.args.text.now short c.in_default.ensures.cases.0)

pub returns-in-Ok-table_from_str : goal.returns-in-Ok-table_from_str
returns-in-Ok-table_from_str c =
    let short : nat_lt 1048576 (length c.args.text.now) ≡ false = search rules in
    let same = c.in-Ok.ensures.cases.0 in
    table-found c.args.text.now (table_view c.in-Ok-table_from_str.table) short c.in-Ok.ensures.cases.1
    (rw same at c.in-Ok-table_from_str.ensures.ok)
