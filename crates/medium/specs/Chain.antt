-- A row of frames, put into a medium one after the other.
use Rattle.std.specs.Prelude.{◌≡◌, ℕ, ◌-◌, ◌<◌, cond, ◌⊎◌, List, [], ◌∷◌, length, nat_le, slice_index_or}
use mathlib.Core.List.{Memᴰ}
use Rattle.medium.specs.declared.side.Side.{Side}
use Rattle.medium.specs.Waiting.{Waiting, other_side, older_by, longest_frame}

-- These frames, in this order, lead by the medium's own rule of put from before to after.
abbrev pub Puts : {S : Type 0} → (puts : S → Side → List ℕ → S → Type 0) → Side → (frames : List (List ℕ)) → (before after : S) → Type 0
Puts puts from [] before after = after ≡ before
Puts {S} puts from (f ∷ fs) before after = (next : S) × puts before from f next × Puts puts from fs next after

-- The frames that a medium takes in: those that are not too long.
abbrev pub carried : List (List ℕ) → List (List ℕ)
carried [] = []
carried (f ∷ fs) = cond (nat_le (length f) longest_frame) (f ∷ carried fs) (carried fs)

-- The i-th of the new frames, as old as there are new ones behind it.
abbrev pub new_one : Side → (new : List (List ℕ)) → (i : ℕ) → Waiting
new_one from new i = record { side = other_side from; bytes = slice_index_or new i []; age = length new - 1 - i }

-- x waited before and is older by all the new frames, or it is one of these.
abbrev pub AgedOrOneOf : Side → (new : List (List ℕ)) → (before : List Waiting) → Waiting → Type 0
AgedOrOneOf from new before x =
    ((y : Waiting) × Memᴰ y before × (x ≡ older_by (length new) y)) ⊎ ((i : ℕ) × (i < length new) × (x ≡ new_one from new i))

-- All that waits after a row of frames was put in.
abbrev pub Chained : Side → (frames : List (List ℕ)) → (before after : List Waiting) → Type 0
Chained from frames before after = (x : Waiting) → Memᴰ x after → AgedOrOneOf from (carried frames) before x
