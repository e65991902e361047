-- An audit of what a reader gives is one of its file.
use Rattle.std.proofs.Common.{ℕ, List, Bool, Option, None, Some, Result, Ok, Err, inl, inr}
use Rattle.slot_types.specs.declared.refusals.Refusal.{Refusal}
use Rattle.flash_commands.specs.Files.{GivesFile}
use Rattle.flashplan_commands.specs.Acts.{IsAudited}

pub audited_file : (file text : Option (List ℕ)) (audited : Result Bool Refusal) → GivesFile file text → IsAudited text audited → IsAudited file audited
audited_file None text (Ok refused) gives (report, is, status) = (report, tt, status)
audited_file None text (Err refusal) gives (inl host) = inl host
audited_file None text (Err refusal) gives (inr why) = inr tt
audited_file (Some bytes) text audited gives is = rw gives at is
