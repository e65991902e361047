-- What an export answers of a die.
use Rattle.std.specs.Prelude.{◌≡◌, ℕ, Bool, List, IfSome}
use Rattle.slot_types.specs.declared.pages.PageData.{PageData}
use Rattle.slot_types.specs.declared.plans.DiePlan.{DiePlan}
use Rattle.slot_types.specs.declared.refusals.Refusal.{Refusal}
use Rattle.slot_types.specs.declared.replies.SlotReply.{SlotReply}
use Rattle.stepped_die.specs.declared.refusals.StepRefusal.{StepRefusal}
use Rattle.stepped_die.specs.declared.refusals.StepRefusal.TheVariants.{Die}
use Rattle.stepped_die.specs.Stepped.{Stepped}
use Rattle.stepped_die.specs.Steps.{HasEnded, RefusesBeginning}
use Rattle.flash_c.specs.declared.shapes.FlashWhy.{FlashWhy}
use Rattle.flash_c.specs.declared.shapes.FlashReply.{FlashReply}
use Rattle.flash_c.specs.declared.shapes.FlashWaived.{FlashWaived}
use Rattle.flash_c.specs.Codes.{code_of, why_of}
use Rattle.flash_c.specs.Lists.{array_with}
use Rattle.flash_c.specs.Plans.{RefusesPlan}
use Rattle.flash_c.specs.Slots.{reply_of, waived_of}

-- the number of a refusal of this kind, with its numbers
pub record SaysRefusal (Refuses : StepRefusal → Type 0) (code : ℕ) (why : FlashWhy) : Type 0 where
  pub refusal : StepRefusal
  pub refuses : Refuses refusal
  pub code_is : code ≡ code_of refusal
  pub why_is : why ≡ why_of refusal

-- the number of why no die is made of a plan
pub record SaysNoPlan (plan : DiePlan) (code : ℕ) : Type 0 where
  pub refusal : Refusal
  pub refuses : RefusesPlan plan refusal
  pub code_is : code ≡ code_of (Die refusal)

-- the number of why no slot is begun
pub record SaysUnbegun (die : Stepped) (code : ℕ) : Type 0 where
  pub refusal : StepRefusal
  pub refuses : RefusesBeginning die refusal
  pub code_is : code ≡ code_of refusal

-- a slot has ended with a reply, which is reported with who began it and the collections that were waived
pub record SaysReply (ok : Bool) (bytes : PageData) (before after : Stepped) (said : FlashReply) (room waived : List FlashWaived) : Type 0 where
  pub reply : SlotReply
  pub ended : HasEnded ok bytes reply before after
  pub caller : ℕ
  pub began : IfSome before.begun (λ begun. caller ≡ begun.caller)
  pub said_is : said ≡ reply_of caller reply
  pub waived_is : waived ≡ array_with waived_of room reply.waived
