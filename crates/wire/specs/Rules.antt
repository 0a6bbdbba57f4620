-- The rule of a wire, from what it means before and after: `model_of` says what a wire means, `after_put`, `given` and `after_take`
-- what its calls make of that.
use Rattle.std.specs.Prelude.{◌≡◌, ℕ, ◌<◌, ◌≤◌, List, length, None, Option}
use Rattle.medium.specs.Waiting.{longest_frame}
use Rattle.medium.specs.declared.side.Side.{Side}

-- A put: a frame that is too long changes nothing, any other goes in.
pub record PutBy {S M : Type 0} (model_of : S → M) (after_put : Side → List ℕ → M → M) (w : S) (from : Side) (frame : List ℕ) (v : S) : Type 0 where
  pub long : longest_frame < length frame → v ≡ w
  pub carried : length frame ≤ longest_frame → model_of v ≡ after_put from frame (model_of w)

-- A take: a place that is too short gets none and changes nothing; any other gets what is given.
pub record TakeBy {S M : Type 0} (model_of : S → M) (given : Side → M → Option (List ℕ)) (after_take : Side → M → M) (w : S) (side : Side) (room : ℕ) (r : Option (List ℕ)) (v : S) : Type 0 where
  pub short : room < longest_frame → (r ≡ None) × (v ≡ w)
  pub gives : longest_frame ≤ room → r ≡ given side (model_of w)
  pub leaves : longest_frame ≤ room → model_of v ≡ after_take side (model_of w)
