use Rattle.std.proofs.Common.{◌∙◌, arith, sym}
use Rattle.flashplan_watched_runs.proofs.Counting.{after_erase_by, room_copied, room_erased, room_of_block, room_written}
use Rattle.flashplan_watched_runs.proofs.tallies.Tally.note.Goals as goal

pub overflow_add-self : goal.overflow_add-self
overflow_add-self c = omega (arith, room_written c.requires.0 c.requires.1 c.args.self.now c.requires.2 c.requires.3)

pub overflow_add-self-in-CopyProgram : goal.overflow_add-self-in-CopyProgram
overflow_add-self-in-CopyProgram c = omega (arith, room_copied c.requires.0 c.requires.1 c.args.self.now c.requires.2 c.requires.3)

pub add_erase-requires-clause-room : goal.add_erase-requires-clause-room
add_erase-requires-clause-room c = room_erased c.requires.0 c.requires.1 c.args.self.now c.requires.2 c.requires.3

pub add_erase-requires-clause-block_room : goal.add_erase-requires-clause-block_room
add_erase-requires-clause-block_room c = room_of_block c.requires.0 c.requires.1 c.args.self.now _ c.requires.2 c.requires.3

pub returns-in-Erase : goal.returns-in-Erase
returns-in-Erase c = λ blocks past worn.
    after_erase_by blocks past c.args.self.now c.add_erase.new.self c.args.reply.now c.in-Some.field-0-0 c.in-Some.act c.brief_of-kind.result
    c.in-Some.is c.brief_of-kind.ensures c.in-Erase.is (sym c.is_some.ensures ∙ c.if-is_some.true)
    c.add_erase.ensures.by_block c.add_erase.ensures.erased c.add_erase.ensures.written c.add_erase.ensures.copied worn
