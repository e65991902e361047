-- The verdicts that threads gave on the dies of a report are those on their work.
use Rattle.std.proofs.Common.{◌≡◌, ℕ, ◌<◌, List, ◌++◌, length, map, take, drop, get_or, Option, None, ap, ◌∙◌, arith, append-nil}
use Rattle.std.proofs.lemmas.List.{drop_all, ext_get_or, get_or_default, length-map, take_all}
use Rattle.late_cert.specs.declared.verdicts.Verdict.{Verdict}
use Rattle.report_texts.specs.declared.report_work.DieWork.{DieWork}
use Rattle.flash_commands.specs.Audit.{verdict_in}

pub all_judged : (dies : List DieWork) (verdicts : List (Option Verdict)) → length verdicts ≡ length dies
    → ((i : ℕ) (d : Option Verdict) → i < length verdicts
    → get_or verdicts i d ≡ get_or (map verdict_in dies) i (get_or verdicts i d))
    → verdicts ≡ map verdict_in dies
all_judged dies verdicts same each =
    let long : length (map verdict_in dies) ≡ length dies = length-map dies verdict_in in
    ext_get_or None verdicts (map verdict_in dies) (omega (arith, same, long))
    (λ i below. each i None below
    ∙ get_or_default (map verdict_in dies) i (get_or verdicts i None) None (omega (arith, below, same, long)))

-- what was written over all places is what is there
pub written_over : {A : Type 0} (n : ℕ) (olds news : List A) → length news ≡ length olds → n ≡ length olds
    → take n (news ++ drop (length news) olds) ≡ news
written_over n olds news same count =
    ap (λ rest. take n (news ++ rest)) (drop_all (length news) olds (omega (arith, same)))
    ∙ (ap (take n) (append-nil news) ∙ take_all n news (omega (arith, same, count)))
