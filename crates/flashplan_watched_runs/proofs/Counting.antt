-- What a slot adds to the counts of a log, and how great they are at most.
use Rattle.std.proofs.Common.{◌≡◌, ◌∙◌, ap, sym, ℕ, ◌+◌, ◌<◌, ◌≤◌, Bool, true, false, List, [], ◌∷◌, length, get_or, refl, arith}
use Rattle.std.specs.Prelude.{◌==◌, cond, is_some, slice_set, Some}
use Rattle.std.proofs.lemmas.List.Sums.{sum_by-cons}
use Rattle.std.proofs.lemmas.Grind.{common_steps}
use Rattle.std.proofs.lemmas.List.{length-set}
use Rattle.slot_types.specs.declared.refusals.Refusal.{Refusal}
use Rattle.slot_types.specs.declared.replies.Entry.{Entry}
use Rattle.slot_types.specs.declared.replies.Reply.{Reply}
use Rattle.slot_types.specs.declared.replies.Reply.TheVariants as replies
use Rattle.die_log.specs.Model.Log.{Log, Carried, carried_slots, now, with_slot}
use Rattle.slot_types.specs.declared.acts.Act.{Act}
use Rattle.slot_types.specs.declared.replies.SlotReply.{SlotReply}
use Rattle.flashplan_run_pictures.specs.Briefs.{brief_of}
use Rattle.flashplan_run_pictures.specs.declared.briefs.ActBrief.{ActBrief}
use Rattle.flashplan_run_pictures.specs.declared.briefs.Kind.TheVariants as kind
use Rattle.flashplan_watched_runs.specs.Wear.{IsWearOf, slot_entry, does_copy, does_write, ends_erase, ends_erase_of, slots_of}
use Rattle.flashplan_watched_runs.specs.declared.tallies.Tally.{Tally}

-- nothing but a slot is counted
pub record CountsSlots (is : Reply → Bool) : Type 0 where
  pub taken : (n : ℕ) → is (replies.Taken n) ≡ false
  pub refused : (r : Refusal) → is (replies.Refused r) ≡ false

pub count_step : (is : Reply → Bool) (e : Entry) (past : Log) → slots_of is (e ∷ past) ≡ cond (is e.reply) 1 0 + slots_of is past
count_step is e past = sum_by-cons (λ (x : Entry). cond (is x.reply) 1 0) e past

at_most_one : (b : Bool) → cond b 1 0 ≤ 1
at_most_one true = omega arith
at_most_one false = omega arith

one_slot : (is : Reply → Bool) → CountsSlots is → (reply : Reply) (n : ℕ) (earlier : List Carried) → n ≤ length earlier
    → cond (is reply) 1 0 + n ≤ length (with_slot reply earlier)
one_slot is only (replies.Slot s) n earlier h = grind (arith, common_steps, at_most_one (is (replies.Slot s)), h)
one_slot is only (replies.Taken job) n earlier h = rw (only.taken job) (omega (arith, h))
one_slot is only (replies.Refused r) n earlier h = rw (only.refused r) (omega (arith, h))

-- at most as many as slots
pub at_most_now : (is : Reply → Bool) → CountsSlots is → (log : Log) → slots_of is log ≤ now log
at_most_now is only [] = omega arith
at_most_now is only (e ∷ past) = rw (count_step is e past)
    (one_slot is only e.reply (slots_of is past) (carried_slots past) (at_most_now is only past))

counts_writes : CountsSlots does_write
counts_writes = record { taken = λ _. refl; refused = λ _. refl }

counts_copies : CountsSlots does_copy
counts_copies = record { taken = λ _. refl; refused = λ _. refl }

counts_ends : CountsSlots ends_erase
counts_ends = record { taken = λ _. refl; refused = λ _. refl }

counts_ends_of : (block : ℕ) → CountsSlots (ends_erase_of block)
counts_ends_of block = record { taken = λ _. refl; refused = λ _. refl }

-- There is room for one more

pub room_written : (blocks : ℕ) (past : Log) (t : Tally) → IsWearOf blocks past t → now past < 4294967295 → t.written < 4294967295
room_written blocks past t worn few = omega (arith, worn.written, at_most_now does_write counts_writes past, few)

pub room_copied : (blocks : ℕ) (past : Log) (t : Tally) → IsWearOf blocks past t → now past < 4294967295 → t.copied < 4294967295
room_copied blocks past t worn few = omega (arith, worn.copied, at_most_now does_copy counts_copies past, few)

pub room_erased : (blocks : ℕ) (past : Log) (t : Tally) → IsWearOf blocks past t → now past < 4294967295 → t.erased < 4294967295
room_erased blocks past t worn few = omega (arith, worn.erased, at_most_now ends_erase counts_ends past, few)

within : (blocks : ℕ) (past : Log) (t : Tally) (block : ℕ) → IsWearOf blocks past t → now past < 4294967295 → block < blocks
    → get_or t.erases.items block 0 < 4294967295
within blocks past t block worn few is =
    omega (arith, worn.by_block block is, at_most_now (ends_erase_of block) (counts_ends_of block) past, few)

pub room_of_block : (blocks : ℕ) (past : Log) (t : Tally) (block : ℕ) → IsWearOf blocks past t → now past < 4294967295
    → block < length t.erases.items → get_or t.erases.items block 0 < 4294967295
room_of_block blocks past t block worn few is = within blocks past t block worn few (rw worn.all at is)

-- What an erase that has ended leaves

set_step : (items : List ℕ) (b j : ℕ) → j < length items
    → get_or (slice_set items b (get_or items b 0 + 1)) j 0 ≡ cond (b == j) 1 0 + get_or items j 0
set_step items b j is = grind (arith, common_steps)

ended_of : (reply : SlotReply) (did : ℕ × Act) (block : ℕ) → reply.ran ≡ Some did → (brief_of did.1).kind ≡ kind.Erase
    → is_some reply.finished ≡ true
    → ends_erase_of block (replies.Slot reply) ≡ ((brief_of did.1).of == block)
ended_of reply did block ran erases done = rw (done, ran, erases) refl

ended : (reply : SlotReply) (did : ℕ × Act) → reply.ran ≡ Some did → (brief_of did.1).kind ≡ kind.Erase → is_some reply.finished ≡ true
    → ends_erase (replies.Slot reply) ≡ true
ended reply did ran erases done = rw (done, ran, erases) refl

no_write : (reply : SlotReply) (did : ℕ × Act) → reply.ran ≡ Some did → (brief_of did.1).kind ≡ kind.Erase → does_write (replies.Slot reply)
    ≡ false
no_write reply did ran erases = rw (ran, erases) refl

no_copy : (reply : SlotReply) (did : ℕ × Act) → reply.ran ≡ Some did → (brief_of did.1).kind ≡ kind.Erase → does_copy (replies.Slot reply)
    ≡ false
no_copy reply did ran erases = rw (ran, erases) refl

counted : (is : Reply → Bool) (reply : SlotReply) (past : Log) (b : Bool) → is (replies.Slot reply) ≡ b
    → slots_of is (slot_entry reply ∷ past) ≡ cond b 1 0 + slots_of is past
counted is reply past b so = count_step is (slot_entry reply) past ∙ ap (λ x. cond x 1 0 + slots_of is past) so

after_erase : (blocks : ℕ) (past : Log) (old new : Tally) (reply : SlotReply) (did : ℕ × Act)
    → reply.ran ≡ Some did → (brief_of did.1).kind ≡ kind.Erase → is_some reply.finished ≡ true
    → new.erases.items ≡ slice_set old.erases.items (brief_of did.1).of (get_or old.erases.items (brief_of did.1).of 0 + 1)
    → new.erased ≡ old.erased + 1 → new.written ≡ old.written → new.copied ≡ old.copied
    → IsWearOf blocks past old → IsWearOf blocks (slot_entry reply ∷ past) new
after_erase blocks past old new reply did ran erases done items erased written copied worn = record {
  all = ap length items ∙ length-set old.erases.items (brief_of did.1).of (get_or old.erases.items (brief_of did.1).of 0 + 1) ∙ worn.all;
  by_block = λ block is.
      ap (λ (l : List ℕ). get_or l block 0) items
      ∙ set_step old.erases.items (brief_of did.1).of block (rw (sym worn.all) at is)
      ∙ ap (λ n. cond ((brief_of did.1).of == block) 1 0 + n) (worn.by_block block is)
      ∙ sym (counted (ends_erase_of block) reply past ((brief_of did.1).of == block) (ended_of reply did block ran erases done));
  erased = omega (arith, erased, worn.erased, counted ends_erase reply past true (ended reply did ran erases done));
  written = omega (arith, written, worn.written, counted does_write reply past false (no_write reply did ran erases));
  copied = omega (arith, copied, worn.copied, counted does_copy reply past false (no_copy reply did ran erases));
}

-- the same, where the brief has a name of its own
pub after_erase_by : (blocks : ℕ) (past : Log) (old new : Tally) (reply : SlotReply) (job : ℕ) (act : Act) (brief : ActBrief)
    → reply.ran ≡ Some (job, act) → brief ≡ brief_of act → brief.kind ≡ kind.Erase → is_some reply.finished ≡ true
    → new.erases.items ≡ slice_set old.erases.items brief.of (get_or old.erases.items brief.of 0 + 1)
    → new.erased ≡ old.erased + 1 → new.written ≡ old.written → new.copied ≡ old.copied
    → IsWearOf blocks past old → IsWearOf blocks (slot_entry reply ∷ past) new
after_erase_by blocks past old new reply job act brief ran is erases done items erased written copied worn =
    after_erase blocks past old new reply (job, act) ran (rw is at erases) done (rw is at items) erased written copied worn

-- What an accepted job or collection leaves
