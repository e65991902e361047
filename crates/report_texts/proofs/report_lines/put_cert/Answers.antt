use Rattle.std.proofs.Common.{◌++◌, ◌∷◌, [], sym}
use Rattle.std.specs.Prelude.{codes}
use Rattle.std.specs.Fmt.{signed_decimal}
use Rattle.std.proofs.lemmas.List.{append-nil}
use Rattle.late_cert.specs.Schedule.{lateness_of}
use Rattle.report_texts.specs.ReportText.{cert_numbers, numbers_field}
use Rattle.report_texts.proofs.PlainFields.{field-made, record-made}
use Rattle.report_texts.proofs.PlainRecords.{cert-fields-plain}
use Rattle.report_texts.proofs.report_lines.put_cert.Goals as goal

pub returns : goal.returns
returns c =
    let old = c.args.text.now.items in
    let cert = c.args.cert.now in
    let late = signed_decimal (lateness_of cert.completion cert.due) in
    let numbers = cert_numbers c.args.die cert in
    let one = field-made old (codes "cert") numbers late _ _ _ c.in_ok-put_cert_start.ensures c.in_ok-push.ensures.items
    c.in_ok-put_cert_lateness.ensures in
    let two = field-made old (codes "cert") (numbers ++ late ∷ []) [] _ _ _ one c.in_ok-push-2.ensures.items (sym (append-nil _)) in
    let three = field-made old (codes "cert") (numbers ++ late ∷ [] ∷ []) (numbers_field cert.jobs) _ _ _ two c.in_ok-push-3.ensures.items
    (rw c.as_slice.ensures at c.in_ok-put_numbers.ensures) in
    record-made old (codes "cert") _ _ _ _ (cert-fields-plain c.args.die cert) three c.in_ok-push-4.ensures.items
