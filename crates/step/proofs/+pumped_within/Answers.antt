-- Where it calls itself, the state is longer than the room, and the next larger lists have more room; all else is handed on.
use Rattle.std.proofs.Common.{◌≤◌, length, arith, rules}
use Rattle.step.proofs.Rooms.{room_few, room_grows}
use Rattle.step.proofs.+pumped_within.Goals as goal

pub pumped_within-requires : goal.pumped_within-requires
pumped_within-requires g t c =
    let few : length c.args.next.now ≤ 49408 = room_few _ _ _ _ c.requires.site in
    λ κs lives. (omega (arith, c.more_room.ensures, room_grows c.args.room c.if-next-room.true few), search rules)

pub pumped_on-requires-2 : goal.pumped_on-requires-2
pumped_on-requires-2 g t c =
    let few : length c.args.next.now ≤ 49408 = room_few _ _ _ _ c.requires.site in
    search (rules, few)
