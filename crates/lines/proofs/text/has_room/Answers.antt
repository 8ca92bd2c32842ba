-- `lines::text::has_room` meets its contract.
use Rattle.lines.proofs.LineLaws.{room-small, room-large}
use Rattle.lines.proofs.text.has_room.Goals as goal

pub returns-then-room-ge-OTHER_ROOM : goal.returns-then-room-ge-OTHER_ROOM
returns-then-room-ge-OTHER_ROOM c = room-large _ _ c.if-room-ge-OTHER_ROOM.true

pub returns-else-room-ge-OTHER_ROOM : goal.returns-else-room-ge-OTHER_ROOM
returns-else-room-ge-OTHER_ROOM c = room-small _ _ c.if-room-ge-OTHER_ROOM.false
