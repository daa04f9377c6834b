-- Where it calls itself, the state is longer than the room, and the next larger lists have more room; all else is handed on.
use Rattle.std.proofs.Common.{◌≤◌, length, arith, rules}
use Rattle.step.proofs.Rooms.{room_few, room_grows}
use Rattle.step.proofs.+step_within.Goals as goal

pub step_within-requires : goal.step_within-requires
step_within-requires g t c =
    let few : length c.args.next.now ≤ 49408 = room_few _ _ _ _ c.requires in
    λ κs lives. (omega (arith, c.more_room.ensures, room_grows c.args.room c.if-next-room.true few), search rules)

pub step_on-requires-2 : goal.step_on-requires-2
step_on-requires-2 g t c =
    let few : length c.args.next.now ≤ 49408 = room_few _ _ _ _ c.requires in
    search (rules, few)
