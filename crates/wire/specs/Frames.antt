-- What a put does to a list of waiting frames, oldest first.
use Rattle.std.specs.Prelude.{ℕ, ◌+◌, cond, List, [], ◌∷◌, ◌++◌, map, length, Option, nat_lt}
use Rattle.std.specs.List.{slice_get}
use Rattle.std.specs.Option.{option_map}
use Rattle.ring.specs.Items.{items}
use Rattle.medium.specs.Waiting.{Waiting, age_limit, older_by}
use Rattle.wire.specs.Content.{content}
use Rattle.wire.specs.Records.{waiting_as}
use Rattle.wire.specs.declared.store.Store.{Store}

-- The frames of a store, oldest first.
abbrev pub held : Store → List Waiting
held s = map (waiting_as s.puts (map content s.slots)) (items s.ring s.records)

-- One put later: each frame is one older, and what reaches the age limit is gone.
abbrev pub older : List Waiting → List Waiting
older [] = []
older (w ∷ ws) = cond (nat_lt (w.age + 1) age_limit) (older_by 1 w ∷ older ws) (older ws)

-- One frame more behind the others; where 64 wait, it is lost.
abbrev pub added : Waiting → List Waiting → List Waiting
added w ws = cond (nat_lt (length ws) 64) (ws ++ w ∷ []) ws

-- The bytes of the frame at a distance from the oldest, if there is one.
abbrev pub frame_at : List Waiting → ℕ → Option (List ℕ)
frame_at ws i = option_map (λ w. w.bytes) (slice_get ws i)
