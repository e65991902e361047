use Rattle.std.proofs.Common.{rules, ◌≡◌, false, length, ap, sym}
use Rattle.std.specs.Prelude.{nat_lt}
use Rattle.toml.specs.View.{table_view}
use Rattle.terms_texts.proofs.TermsLaws.{table-no_text, table-found}
use Rattle.flashplan_terms_design.specs.Kinds.{has_terms_key}
use Rattle.flashplan_terms_design.proofs.kinds.is_terms_text.Goals as goal

pub returns-in_default-clause-kind : goal.returns-in_default-clause-kind
returns-in_default-clause-kind c =
    let short : nat_lt 1048576 (length c.args.text.now) ≡ false = search rules in
    sym (ap has_terms_key (table-no_text c.args.text.now short c.in_default.ensures.cases.0))

pub returns-in-Ok-table_from_str-clause-kind : goal.returns-in-Ok-table_from_str-clause-kind
returns-in-Ok-table_from_str-clause-kind c =
    let short : nat_lt 1048576 (length c.args.text.now) ≡ false = search rules in
    let same = c.in-Ok.ensures.cases.0 in
    rw (table-found c.args.text.now (table_view c.in-Ok-table_from_str.table) short c.in-Ok.ensures.cases.1
    (rw same at c.in-Ok-table_from_str.ensures.ok)) c.has_terms_key.ensures
