-- A medium that loses every frame.
use Rattle.std.specs.Prelude.{◌≡◌, ℕ, List, [], None, Option}
use Rattle.medium.specs.declared.side.Side.{Side}
use Rattle.medium.specs.declared.lossy.Lossy.{Lossy}
use Rattle.medium.specs.Waiting.{Waiting}

-- Nothing ever waits.
abbrev pub waiting_in : Lossy → List Waiting
waiting_in m = []

-- As it is made, nothing waits either.
abbrev pub Begins : Lossy → Type 0
Begins m = waiting_in m ≡ []

-- A put changes nothing.
abbrev pub Loses : Lossy → Side → List ℕ → Lossy → Type 0
Loses before from frame after = after ≡ before

-- A take gives none and changes nothing.
abbrev pub GivesNone : Lossy → Side → (room : ℕ) → Option (List ℕ) → Lossy → Type 0
GivesNone before side room given after = (given ≡ None) × (after ≡ before)
