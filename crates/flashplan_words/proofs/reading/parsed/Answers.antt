use Rattle.std.proofs.Common.{◌∙◌, ap, sym, subst, map, string_bytes}
use Rattle.clap.specs.Words.{is_simple, is_simple_and_free, subcommand_of}
use Rattle.clap.specs.Kinds.{HasKind}
use Rattle.clap.specs.Faults.{fault_of}
use Rattle.flashplan_words.specs.Syntax.{flashplan_app}
use Rattle.flashplan_words.specs.Reading.{command_asked_by}
use Rattle.flashplan_words.proofs.SimpleWords.{simple_words, free_words, fails_still}
use Rattle.flashplan_words.proofs.reading.parsed.Goals as goal

pub returns-in_err-matches-clause-fault : goal.returns-in_err-matches-clause-fault
returns-in_err-matches-clause-fault c =
    fails_still (fault_of flashplan_app (map string_bytes c.args.words.now)) c.in_err-matches.field-0.0 c.from_residual.result
    (subst (λ a. HasKind (fault_of a (map string_bytes c.args.words.now)) c.in_err-matches.field-0.0) c.requires
    (c.in_err-matches.ensures.kinds (ap is_simple_and_free c.requires ∙ free_words)))
    c.from_residual.ensures.1

pub returns-clause-ok : goal.returns-clause-ok
returns-clause-ok c =
    c.in_ok-met.ensures.asked
    ∙ ap command_asked_by ((c.in_ok-matches.ensures.ok.2 (ap is_simple c.requires ∙ simple_words)).1
    ∙ ap (λ a. subcommand_of a (map string_bytes c.args.words.now)) c.requires)

pub returns-clause-fault : goal.returns-clause-fault
returns-clause-fault c =
    sym (ap (λ a. fault_of a (map string_bytes c.args.words.now)) c.requires)
    ∙ c.in_ok-matches.ensures.kinds (ap is_simple_and_free c.requires ∙ free_words)
