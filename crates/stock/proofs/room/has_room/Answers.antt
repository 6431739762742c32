use Rattle.stock.proofs.RoomSteps.{room-limited, room-few, room-none, room_fits, room_by}
use Rattle.stock.proofs.room.has_room.Goals as goal

pub returns-then-c-lt-LIMITED : goal.returns-then-c-lt-LIMITED
returns-then-c-lt-LIMITED c = search room-limited

pub returns-then-k-lt-STOCK_LEAST : goal.returns-then-k-lt-STOCK_LEAST
returns-then-k-lt-STOCK_LEAST c = search room-few

pub returns-then-k-ge-STOCK_LIMIT : goal.returns-then-k-ge-STOCK_LIMIT
returns-then-k-ge-STOCK_LIMIT c = search room-none

pub overflow_mul-result : goal.overflow_mul-result
overflow_mul-result c = search room_fits

pub returns : goal.returns
returns c = search room_by
