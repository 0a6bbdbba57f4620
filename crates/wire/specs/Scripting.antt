-- The scripted wire: its meaning keeps to what every medium keeps to.
use Rattle.std.specs.Prelude.{◌≡◌, ℕ, Bool, true, false, cond, List, Some, None, Option}
use Rattle.std.proofs.Common.{inl, inr, ⊎_elim}
use mathlib.Core.List.{Memᴰ}
use Rattle.std.specs.List.{remove}
use Rattle.medium.specs.Laws.{Laws, AgedOrNew}
use Rattle.medium.specs.Waiting.{Waiting, other_side, fresh}
use Rattle.medium.specs.declared.side.Side.{Side}
use Rattle.wire.specs.Choice.{for_side}
use Rattle.wire.specs.Frames.{older}
use Rattle.wire.specs.Scripted.{Row, row_of, put_in_row, chosen, given_chosen, choice, left_by, take_chosen, scripted_empty, scripted_waiting, ScriptedPut, ScriptedTake}
use Rattle.wire.specs.declared.scripted.ScriptedWire.{ScriptedWire}
use Rattle.wire.specs.Choosing.{in_for_side}
use Rattle.wire.specs.Lawful.{Meant, laws}
use Rattle.wire.specs.Members.{in_older, in_added, in_removed, in_nth, frame_from, held_young}

abbrev frames : Row → List Waiting
frames r = r.frames

ages : (r : Row) (from : Side) (f : List ℕ) (x : Waiting) → Memᴰ x (frames (put_in_row from f r)) → AgedOrNew from f (frames r) x
ages r from f x i = ⊎_elim (λ j. inl (in_older r.frames x j)) inr (in_added (fresh (other_side from) f) (older r.frames) x i)

gives : (w : ScriptedWire) (side : Side) (f : List ℕ) → Some f ≡ given_chosen side (row_of w) → (x : Waiting) × Memᴰ x (scripted_waiting w) × (x.side ≡ side) × (x.bytes ≡ f)
gives w side f e =
    let ws = for_side side (scripted_waiting w) in
    let r = frame_from ws (chosen side (row_of w)) f e in
    let m = in_for_side side (scripted_waiting w) r.0 (in_nth ws (chosen side (row_of w)) r.0 r.1) in
    (r.0, m.0, m.1, r.2)

in_left : (o : Option (ℕ × Bool)) (ws : List Waiting) (x : Waiting) → Memᴰ x (left_by o ws) → Memᴰ x ws
in_left None ws x i = i
in_left (Some p) ws x i = go p.1 i
  where
    go : (b : Bool) → Memᴰ x (cond b ws (remove ws p.0)) → Memᴰ x ws
    go true j = j
    go false j = in_removed ws p.0 x j

meant : Meant row_of put_in_row given_chosen take_chosen scripted_empty frames
meant = record { empty = λ w e. e; young = λ w x i. held_young w.store x i; ages = ages; gives = gives; keeps = λ r side x i. in_left (choice side r) r.frames x i }

pub scripted_laws : Laws scripted_empty scripted_waiting ScriptedPut ScriptedTake
scripted_laws = laws row_of put_in_row given_chosen take_chosen scripted_empty frames meant
