-- What the straight wire makes of a row of puts and takes, at either side.
use Rattle.std.specs.Prelude.{◌≡◌, ℕ, ◌+◌, ◌-◌, ◌<◌, ◌≤◌, Bool, cond, ◌&&◌, List, [], ◌∷◌, ◌++◌, map, length, Some, None, Option, nat_le, nat_lt}
use mathlib.Core.List.{Memᴰ}
use Rattle.medium.specs.Waiting.{Waiting, other_side, longest_frame, age_limit}
use Rattle.medium.specs.declared.side.Side.{Side}
use Rattle.wire.specs.Choice.{same_side}
use Rattle.wire.specs.Straight.{queue, queues_of, StraightPut, StraightTake}
use Rattle.wire.specs.declared.straight.StraightWire.{StraightWire}

-- A frame put in at a side, or a take at a side, by the length of its place and the frame if one came out.
pub data Step : Type 0 where
  put : (from : Side) → (frame : List ℕ) → Step
  took : (at : Side) → (room : ℕ) → (frame : Option (List ℕ)) → Step

-- The frames that wait for a side, oldest first.
abbrev pub frames_for : Side → StraightWire → List (List ℕ)
frames_for side w = map (λ x. x.bytes) (queue side (queues_of w))

-- With this frame put in, no frame that waits for the side reaches the age limit.
abbrev pub AllStay : Side → (frame : List ℕ) → StraightWire → Type 0
AllStay side frame w = length frame ≤ longest_frame → (x : Waiting) → Memᴰ x (queue side (queues_of w)) → x.age + 1 < age_limit

-- These steps lead by the wire's own rule from before to after.
abbrev pub Went : List Step → (before after : StraightWire) → Type 0
Went [] before after = after ≡ before
Went (put from f ∷ steps) before after = (next : StraightWire) × StraightPut before from f next × Went steps next after
Went (took at room r ∷ steps) before after = (next : StraightWire) × StraightTake before at room r next × Went steps next after

-- In these steps no frame that waits for the side ages out.
abbrev pub NoneAgesOut : Side → (steps : List Step) → (before after : StraightWire) → Went steps before after → Type 0
NoneAgesOut side [] before after g = Unit {0}
NoneAgesOut side (put from f ∷ steps) before after g = AllStay side f before × NoneAgesOut side steps g.0 after g.2
NoneAgesOut side (took at room r ∷ steps) before after g = NoneAgesOut side steps g.0 after g.2

-- How many frames that are not too long are put in, at either side.
abbrev pub put_in : List Step → ℕ
put_in [] = 0
put_in (put from f ∷ steps) = cond (nat_le (length f) longest_frame) 1 0 + put_in steps
put_in (took at room r ∷ steps) = put_in steps

-- Whether a frame put in finds room in the queue for a side, where so many frames wait: it is for that side, not too long, and fewer than 64 wait.
abbrev pub finds_room : Side → (waiting : ℕ) → (from : Side) → (frame : List ℕ) → Bool
finds_room side n from f = same_side side (other_side from) && (nat_le (length f) longest_frame && nat_lt n 64)

-- The frames put in that find room in the queue for a side, where so many frames wait at first.
abbrev pub entered : Side → (waiting : ℕ) → List Step → List (List ℕ)
entered side n [] = []
entered side n (put from f ∷ steps) = cond (finds_room side n from f) (f ∷ entered side (n + 1) steps) (entered side n steps)
entered side n (took at room None ∷ steps) = entered side n steps
entered side n (took at room (Some f) ∷ steps) = entered side (cond (same_side side at) (n - 1) n) steps

-- The frames that come out at a side.
abbrev pub came_out : Side → List Step → List (List ℕ)
came_out side [] = []
came_out side (put from f ∷ steps) = came_out side steps
came_out side (took at room None ∷ steps) = came_out side steps
came_out side (took at room (Some f) ∷ steps) = cond (same_side side at) (f ∷ came_out side steps) (came_out side steps)

-- The order of frames, and what none means, after any steps.
pub record InOrder (side : Side) (w : StraightWire) : Type 0 where
  -- While nothing ages out, what waited and then what found room comes out in the order put, unaltered; the rest of it waits.
  pub order : (steps : List Step) (v : StraightWire) (g : Went steps w v) → NoneAgesOut side steps w v g → frames_for side w ++ entered side (length (frames_for side w)) steps ≡ came_out side steps ++ frames_for side v
  -- Nothing ages out while so few frames are put in that each of them, and each that waited, stays below the age limit.
  pub in_time : (steps : List Step) (v : StraightWire) (g : Went steps w v) → put_in steps ≤ age_limit → ((x : Waiting) → Memᴰ x (queue side (queues_of w)) → x.age + put_in steps < age_limit) → NoneAgesOut side steps w v g
  -- A take with room for every frame that gives none finds nothing waiting.
  pub none : (steps : List Step) (v : StraightWire) → Went steps w v → (room : ℕ) (u : StraightWire) → longest_frame ≤ room → StraightTake v side room None u → frames_for side v ≡ []
