-- The records of a log's events are those that its entries take.
use Rattle.std.proofs.Common.{◌≡◌, ℕ, ◌+◌, ◌==◌, ◌&&◌, Bool, true, false, List, [], ◌∷◌, Option, Some, None, refl, ap, sym, ◌∙◌, slice_get}
use Rattle.slot_types.specs.declared.acts.Act.{Act}
use Rattle.slot_types.specs.declared.acts.Act.TheVariants as does
use Rattle.slot_types.specs.declared.events.Op.{Op}
use Rattle.slot_types.specs.declared.events.Op.TheVariants as asks
use Rattle.slot_types.specs.declared.pages.PageData.{PageData}
use Rattle.slot_types.specs.declared.replies.Reply.{Reply}
use Rattle.slot_types.specs.declared.replies.Reply.TheVariants as replies
use Rattle.slot_types.specs.declared.replies.SlotReply.{SlotReply}
use Rattle.slot_types.specs.declared.replies.Waived.{Waived}
use Rattle.job_table.specs.Jobs.{JobRecord}
use Rattle.event_log.specs.declared.deeds.Deed.{Deed}
use Rattle.event_log.specs.declared.deeds.Deed.TheVariants.{Submit, Collect, Idle, Operation, LastOperation, CopyRead}
use Rattle.event_log.specs.declared.deeds.Deed.TheVariants.{CopyProgram, EraseSlot, LastEraseSlot}
use Rattle.event_log.specs.Notes.{Note, is_none}
use Rattle.event_log.specs.NoteRecords.{alike_deeds, alike_notes, new_records, records}
use Rattle.event_log.specs.RecordCounts.{waives_none, erases_block, is_quiet, same_erase, replied_alike, replies_alike, alike, count_if, record_count}
use Rattle.event_log.specs.Entries.{act_reading, act_doing, act_in, act_at, reply_of, entry_of, slots_in, entries_of, reads_before}

-- No operation is an erase

abbrev is_erase : Act → Bool
is_erase (does.Erase block) = true
is_erase _ = false

of_no_block : (block : ℕ) (act : Act) → is_erase act ≡ false → erases_block block act ≡ false
of_no_block block (does.Read page bytes) h = refl
of_no_block block (does.Write page bytes) h = refl
of_no_block block (does.Trim page) h = refl
of_no_block block (does.CopyRead page) h = refl
of_no_block block (does.CopyProgram page) h = refl
of_no_block block (does.Erase b) h = absurd (cc)

of_no_erase : (n : ℕ) (act : Act) (other : Option (ℕ × Act)) → is_erase act ≡ false → same_erase n act other ≡ false
of_no_erase n (does.Read page bytes) other h = refl
of_no_erase n (does.Write page bytes) other h = refl
of_no_erase n (does.Trim page) other h = refl
of_no_erase n (does.CopyRead page) other h = refl
of_no_erase n (does.CopyProgram page) other h = refl
of_no_erase n (does.Erase b) other h = absurd (cc)

no_erase_read : (page : ℕ) (given : Option PageData) → is_erase (act_reading page given) ≡ false
no_erase_read page None = refl
no_erase_read page (Some bytes) = refl

no_erase_doing : (job : JobRecord) (place : ℕ) (op : Option Op) → is_erase (act_doing job place op) ≡ false
no_erase_doing job place None = refl
no_erase_doing job place (Some (asks.Read page)) = no_erase_read page (slice_get job.reads (reads_before job place))
no_erase_doing job place (Some (asks.Write page bytes)) = refl
no_erase_doing job place (Some (asks.Trim page)) = refl

no_erase_in : (job : Option JobRecord) (place : ℕ) → is_erase (act_in job place) ≡ false
no_erase_in None place = refl
no_erase_in (Some job) place = no_erase_doing job place (slice_get job.ops place)

no_erase : (jobs : List JobRecord) (number place : ℕ) → is_erase (act_at jobs number place) ≡ false
no_erase jobs number place = no_erase_in (slice_get jobs number) place

-- Tests

and_false : (a : Bool) → (a && false) ≡ false
and_false true = refl
and_false false = refl

both_quiet : (a b r : Bool) → ((a && true) && (b && true) && r) ≡ (a && b && r)
both_quiet true true r = refl
both_quiet true false r = refl
both_quiet false b r = refl

one_ends : (a b r : Bool) → ((a && true) && (b && false) && r) ≡ (a && b && false)
one_ends true true r = refl
one_ends true false r = refl
one_ends false b r = refl

other_act : (a b q e : Bool) → e ≡ false → ((a && true) && (b && true) && (q && e)) ≡ (a && b && false)
other_act a b q e h = rw (h, and_false q) (both_quiet a b false)

-- an entry whose act is no erase goes on with none
acts_apart : (s : SlotReply) (n : ℕ) (act : Act) (r : Reply) → s.ran ≡ Some (n, act) → is_erase act ≡ false → replied_alike s r ≡ false
acts_apart s n act (replies.Taken number) e h = refl
acts_apart s n act (replies.Refused refusal) e h = refl
acts_apart s n act (replies.Slot t) e h = rw (e, of_no_erase n act t.ran h) (and_false (is_quiet s && is_quiet t))

-- nor does one that ends its job
ends_apart : (s : SlotReply) (n : ℕ) (r : Reply) → s.finished ≡ Some n → replied_alike s r ≡ false
ends_apart s n (replies.Taken number) e = refl
ends_apart s n (replies.Refused refusal) e = refl
ends_apart s n (replies.Slot t) e = rw (e, and_false (waives_none s.waived)) refl

-- Entries

idle_alike : (jobs : List JobRecord) (k m : ℕ) (ws vs : List Waived) (e : Deed)
    → replies_alike (reply_of jobs k ws Idle) (reply_of jobs m vs e) ≡ (waives_none ws && waives_none vs && alike_deeds Idle e)
idle_alike jobs k m ws vs (Submit n) = sym (and_false (waives_none ws && waives_none vs))
idle_alike jobs k m ws vs (Collect n) = sym (and_false (waives_none ws && waives_none vs))
idle_alike jobs k m ws vs Idle = both_quiet (waives_none ws) (waives_none vs) true
idle_alike jobs k m ws vs (Operation n p) = both_quiet (waives_none ws) (waives_none vs) false
idle_alike jobs k m ws vs (LastOperation n p) = one_ends (waives_none ws) (waives_none vs) false
idle_alike jobs k m ws vs (CopyRead n p) = both_quiet (waives_none ws) (waives_none vs) false
idle_alike jobs k m ws vs (CopyProgram n p) = both_quiet (waives_none ws) (waives_none vs) false
idle_alike jobs k m ws vs (EraseSlot n b) = both_quiet (waives_none ws) (waives_none vs) false
idle_alike jobs k m ws vs (LastEraseSlot n b) = one_ends (waives_none ws) (waives_none vs) false

erase_alike : (jobs : List JobRecord) (k m : ℕ) (ws vs : List Waived) (n b : ℕ) (e : Deed)
    → replies_alike (reply_of jobs k ws (EraseSlot n b)) (reply_of jobs m vs e) ≡
    (waives_none ws && waives_none vs && alike_deeds (EraseSlot n b) e)
erase_alike jobs k m ws vs n b (Submit i) = sym (and_false (waives_none ws && waives_none vs))
erase_alike jobs k m ws vs n b (Collect i) = sym (and_false (waives_none ws && waives_none vs))
erase_alike jobs k m ws vs n b Idle = both_quiet (waives_none ws) (waives_none vs) false
erase_alike jobs k m ws vs n b (Operation i p) =
    other_act (waives_none ws) (waives_none vs) (n == i) (erases_block b (act_at jobs i p))
    (of_no_block b (act_at jobs i p) (no_erase jobs i p))
erase_alike jobs k m ws vs n b (LastOperation i p) = one_ends (waives_none ws) (waives_none vs) ((n == i) && erases_block b (act_at jobs i p))
erase_alike jobs k m ws vs n b (CopyRead i p) = other_act (waives_none ws) (waives_none vs) (n == i) false refl
erase_alike jobs k m ws vs n b (CopyProgram i p) = other_act (waives_none ws) (waives_none vs) (n == i) false refl
erase_alike jobs k m ws vs n b (EraseSlot i c) = both_quiet (waives_none ws) (waives_none vs) ((n == i) && (b == c))
erase_alike jobs k m ws vs n b (LastEraseSlot i c) = one_ends (waives_none ws) (waives_none vs) ((n == i) && (b == c))

replied_as : (jobs : List JobRecord) (k m : ℕ) (ws vs : List Waived) (d e : Deed)
    → replies_alike (reply_of jobs k ws d) (reply_of jobs m vs e) ≡ (waives_none ws && waives_none vs && alike_deeds d e)
replied_as jobs k m ws vs (Submit n) e = sym (and_false (waives_none ws && waives_none vs))
replied_as jobs k m ws vs (Collect n) e = sym (and_false (waives_none ws && waives_none vs))
replied_as jobs k m ws vs Idle e = idle_alike jobs k m ws vs e
replied_as jobs k m ws vs (Operation n p) e =
    acts_apart (record { slot = k; waived = ws; ran = Some (n, act_at jobs n p); finished = None }) n (act_at jobs n p)
    (reply_of jobs m vs e) refl (no_erase jobs n p) ∙ sym (and_false (waives_none ws && waives_none vs))
replied_as jobs k m ws vs (LastOperation n p) e =
    ends_apart (record { slot = k; waived = ws; ran = Some (n, act_at jobs n p); finished = Some n }) n (reply_of jobs m vs e) refl ∙ sym
    (and_false (waives_none ws && waives_none vs))
replied_as jobs k m ws vs (CopyRead n p) e =
    acts_apart (record { slot = k; waived = ws; ran = Some (n, does.CopyRead p); finished = None }) n (does.CopyRead p)
    (reply_of jobs m vs e) refl refl ∙ sym (and_false (waives_none ws && waives_none vs))
replied_as jobs k m ws vs (CopyProgram n p) e =
    acts_apart (record { slot = k; waived = ws; ran = Some (n, does.CopyProgram p); finished = None }) n (does.CopyProgram p)
    (reply_of jobs m vs e) refl refl ∙ sym (and_false (waives_none ws && waives_none vs))
replied_as jobs k m ws vs (EraseSlot n b) e = erase_alike jobs k m ws vs n b e
replied_as jobs k m ws vs (LastEraseSlot n b) e =
    ends_apart (record { slot = k; waived = ws; ran = Some (n, does.Erase b); finished = Some n }) n (reply_of jobs m vs e) refl ∙ sym
    (and_false (waives_none ws && waives_none vs))

none_as : (ws : List Waived) → waives_none ws ≡ is_none ws
none_as [] = refl
none_as (w ∷ ws) = refl

four : (a b c d : Bool) → (a && (b && c && d)) ≡ (a && b && c && d)
four true b c d = refl
four false b c d = refl

entries_alike : (jobs : List JobRecord) (k m : ℕ) (s t : Note) → alike (entry_of jobs k s) (entry_of jobs m t) ≡ alike_notes s t
entries_alike jobs k m s t =
    ap (λ r. (s.caller == t.caller) && r) (replied_as jobs k m s.waived t.waived s.deed t.deed)
    ∙ rw (none_as s.waived, none_as t.waived) (four (s.caller == t.caller) (is_none s.waived) (is_none t.waived)
    (alike_deeds s.deed t.deed))

counted_as : (b : Bool) → count_if b ≡ new_records b
counted_as true = refl
counted_as false = refl

-- a log has as many records as its events take
pub records_are : (jobs : List JobRecord) (notes : List Note) → record_count (entries_of jobs notes) ≡ records notes
records_are jobs [] = refl
records_are jobs (s ∷ []) = refl
records_are jobs (s ∷ (t ∷ past)) =
    rw (entries_alike jobs (slots_in (t ∷ past)) (slots_in past) s t, counted_as (alike_notes s t))
    (ap (λ n. new_records (alike_notes s t) + n) (records_are jobs (t ∷ past)))
