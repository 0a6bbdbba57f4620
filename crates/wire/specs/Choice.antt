-- The frames for one side, among those for both.
use Rattle.std.specs.Prelude.{ℕ, zero, suc, Bool, true, false, cond, List, [], ◌∷◌}
use Rattle.medium.specs.Waiting.{Waiting}
use Rattle.medium.specs.declared.side.Side.{Side}
use Rattle.medium.specs.declared.side.Side.TheVariants.{Left, Right}

-- Whether two sides are the same.
abbrev pub same_side : Side → Side → Bool
same_side Left Left = true
same_side Left Right = false
same_side Right Left = false
same_side Right Right = true

-- The frames for a side, oldest first.
abbrev pub for_side : Side → List Waiting → List Waiting
for_side s [] = []
for_side s (w ∷ ws) = cond (same_side s w.side) (w ∷ for_side s ws) (for_side s ws)

-- Where the k-th frame for a side stands among all, counted from the oldest; behind all where there are not so many.
abbrev pub distance : Side → (k : ℕ) → List Waiting → ℕ
distance s k [] = 0
distance s zero (w ∷ ws) = cond (same_side s w.side) 0 (suc (distance s zero ws))
distance s (suc k) (w ∷ ws) = suc (cond (same_side s w.side) (distance s k ws) (distance s (suc k) ws))
