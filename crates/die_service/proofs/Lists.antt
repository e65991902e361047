-- The lock's list of calls, and the log of the die.
use Rattle.std.proofs.Common.{◌≡◌, List, [], ◌∷◌, length, map, reverse, refl, ap, ◌∙◌}
use Rattle.std.proofs.lemmas.List.{reverse-reverse, length-reverse, length-map}
use Rattle.slot_types.specs.declared.replies.Entry as log
use Rattle.die_log.specs.Model.Log.{Log}
use Rattle.die_service.specs.Logs.{entry_of, log_of, call_of, calls_of}

entries_of_calls : (es : List log.Entry) → map entry_of (map call_of es) ≡ es
entries_of_calls [] = refl
entries_of_calls (e ∷ es) = ap (λ rest. e ∷ rest) (entries_of_calls es)

-- the log of a log's calls
pub log_of_calls : (past : Log) → log_of (calls_of past) ≡ past
log_of_calls past = ap reverse (entries_of_calls (reverse past)) ∙ reverse-reverse past

pub length_of_calls : (past : Log) → length (calls_of past) ≡ length past
length_of_calls past = length-map (reverse past) call_of ∙ length-reverse past
