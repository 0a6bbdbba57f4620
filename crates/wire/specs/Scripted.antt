-- The scripted wire: one row of frames for both sides, and a script that says which comes out.
use Rattle.std.specs.Prelude.{◌≡◌, ℕ, ◌%◌, Bool, cond, List, [], length, drop, Some, None, Option, ◌==◌, nat_le, slice_index}
use Rattle.std.specs.List.{remove}
use Rattle.std.specs.Vec.Iter.{into_iter_items}
use Rattle.medium.specs.Waiting.{Waiting, other_side, fresh}
use Rattle.medium.specs.declared.side.Side.{Side}
use Rattle.wire.specs.Choice.{for_side, distance}
use Rattle.wire.specs.Frames.{held, older, added, frame_at}
use Rattle.wire.specs.Rules.{PutBy, TakeBy}
use Rattle.wire.specs.declared.script.Script.{Script}
use Rattle.wire.specs.declared.scripted.ScriptedWire.{ScriptedWire}

-- What waits for either side, oldest first, and what is left of the script.
pub record Row : Type 0 where
  pub frames : List Waiting
  pub script : List ℕ

abbrev pub script_left : Script → List ℕ
script_left s = into_iter_items s.0

abbrev pub row_of : ScriptedWire → Row
row_of w = record { frames = held w.store; script = script_left w.script }

-- A frame enters behind all others, which are one older.
abbrev pub put_in_row : Side → List ℕ → Row → Row
put_in_row from f r = record { frames = added (fresh (other_side from) f) (older r.frames); script = r.script }

-- The next byte of the script, 0 when it is spent.
abbrev pub next_byte : List ℕ → ℕ
next_byte script = slice_index script 0

-- Which of the frames for a side comes out, counted from the oldest of these.
abbrev pub chosen : Side → Row → ℕ
chosen side r = (next_byte r.script % 128) % length (for_side side r.frames)

abbrev pub given_chosen : Side → Row → Option (List ℕ)
given_chosen side r = frame_at (for_side side r.frames) (chosen side r)

-- Where the frame that comes out stands among all, and whether it stays: it leaves, unless its script byte is 128 or more.
-- None where nothing waits for the side.
abbrev pub choice : Side → Row → Option (ℕ × Bool)
choice side r =
    cond (length (for_side side r.frames) == 0) None (Some (distance side (chosen side r) r.frames, nat_le 128 (next_byte r.script)))

-- A take uses one byte of the script, if a frame waits for its side.
abbrev pub script_behind : Side → Row → List ℕ
script_behind side r = drop (cond (length (for_side side r.frames) == 0) 0 1) r.script

abbrev pub left_by : Option (ℕ × Bool) → List Waiting → List Waiting
left_by None ws = ws
left_by (Some p) ws = cond p.1 ws (remove ws p.0)

abbrev pub take_chosen : Side → Row → Row
take_chosen side r = record { frames = left_by (choice side r) r.frames; script = script_behind side r }

abbrev pub scripted_empty : ScriptedWire → Type 0
scripted_empty w = (row_of w).frames ≡ []

abbrev pub scripted_waiting : ScriptedWire → List Waiting
scripted_waiting w = (row_of w).frames

-- The rule of the scripted wire.
abbrev pub ScriptedPut : ScriptedWire → Side → List ℕ → ScriptedWire → Type 0
ScriptedPut w from f v = PutBy row_of put_in_row w from f v

abbrev pub ScriptedTake : ScriptedWire → Side → ℕ → Option (List ℕ) → ScriptedWire → Type 0
ScriptedTake w side room r v = TakeBy row_of given_chosen take_chosen w side room r v
