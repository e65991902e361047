use Rattle.std.proofs.Common.{rules, ◌≡◌, false, length, string_bytes, Some}
use Rattle.std.specs.Prelude.{nat_lt}
use Rattle.std.proofs.lemmas.Str.{IsUtf8-string_bytes}
use Rattle.toml.specs.Parse.{parse_document}
use Rattle.toml.specs.View.{table_view}
use Rattle.terms_texts.proofs.TermsLaws.{table-found}
use Rattle.terms_texts.proofs.Written.{same-tasks}
use Rattle.terms_texts.proofs.writing.write_terms.Goals as goal

pub returns-clause-back : goal.returns-clause-back
returns-clause-back c =
    let text = string_bytes c.in-Ok.text in
    let short : nat_lt 1048576 (length text) ≡ false = search rules in
    let said : parse_document text ≡ Some (table_view c.in_ok-table.table) =
    c.in-Ok.ensures.reads_back (c.in_ok-table.ensures.flat c.in_ok-tasks.ensures.flat) in
    rw (table-found text _ short (IsUtf8-string_bytes c.in-Ok.text) said)
    (same-tasks _ c.args.plan.now.top _ _ c.as_slice.ensures (c.in_ok-table.ensures.back _ c.in_ok-tasks.ensures.back))
