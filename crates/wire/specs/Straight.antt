-- The straight wire: a queue for each side.
use Rattle.std.specs.Prelude.{◌≡◌, ℕ, List, [], ◌++◌, map, drop, Option}
use Rattle.medium.specs.Waiting.{Waiting, fresh}
use Rattle.medium.specs.declared.side.Side.{Side}
use Rattle.medium.specs.declared.side.Side.TheVariants.{Left, Right}
use Rattle.wire.specs.Frames.{held, older, added, frame_at}
use Rattle.wire.specs.Rules.{PutBy, TakeBy}
use Rattle.wire.specs.declared.straight.StraightWire.{StraightWire}

-- What waits for each side, oldest first.
pub record Queues : Type 0 where
  pub left : List Waiting
  pub right : List Waiting

abbrev pub queue : Side → Queues → List Waiting
queue Left q = q.left
queue Right q = q.right

-- Every frame of a queue waits for its side.
abbrev pub to : Side → Waiting → Waiting
to s w = record { side = s; bytes = w.bytes; age = w.age }

abbrev pub queues_of : StraightWire → Queues
queues_of w = record { left = map (to Left) (held w.queues.left); right = map (to Right) (held w.queues.right) }

-- A frame enters the queue for the other side; those in both queues are one older.
abbrev pub put_queued : Side → List ℕ → Queues → Queues
put_queued Left f q = record { left = older q.left; right = added (fresh Right f) (older q.right) }
put_queued Right f q = record { left = added (fresh Left f) (older q.left); right = older q.right }

-- The oldest comes out.
abbrev pub given_first : Side → Queues → Option (List ℕ)
given_first s q = frame_at (queue s q) 0

abbrev pub take_queued : Side → Queues → Queues
take_queued Left q = record { left = drop 1 q.left; right = q.right }
take_queued Right q = record { left = q.left; right = drop 1 q.right }

-- What waits on the wire.
abbrev pub all_queued : Queues → List Waiting
all_queued q = q.left ++ q.right

abbrev pub straight_empty : StraightWire → Type 0
straight_empty w = queues_of w ≡ record { left = []; right = [] }

abbrev pub straight_waiting : StraightWire → List Waiting
straight_waiting w = all_queued (queues_of w)

-- The rule of the straight wire.
abbrev pub StraightPut : StraightWire → Side → List ℕ → StraightWire → Type 0
StraightPut w from f v = PutBy queues_of put_queued w from f v

abbrev pub StraightTake : StraightWire → Side → ℕ → Option (List ℕ) → StraightWire → Type 0
StraightTake w side room r v = TakeBy queues_of given_first take_queued w side room r v
