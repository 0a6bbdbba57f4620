-- What a take does to a place, by what it does to the front of it.
use Rattle.std.proofs.Common.{◌≡◌, ℕ, List, ◌++◌, length, drop, Some, None, Option, refl, arith}
use Rattle.std.proofs.lemmas.Grind.{common_steps}
use Rattle.std.proofs.lemmas.List.{drop-append-le}
use Rattle.std.specs.Array.{IsFirstChunk}
use Rattle.medium.specs.Laws.{frame_given, Filled}

module _ (before front after : List ℕ) (n : ℕ) (chunk : IsFirstChunk before front n) (kept : length (after ++ drop n before) ≡ length before) where
  pub given : (r : Option ℕ) → Filled r front after → frame_given r (after ++ drop n before) ≡ frame_given r after
  given None f = refl
  given (Some m) f = grind (arith, common_steps)

  pub filled : (r : Option ℕ) → Filled r front after → Filled r before (after ++ drop n before)
  filled None f = grind (arith, common_steps)
  filled (Some m) f =
      let whole : front ++ drop n before ≡ before = grind (arith, common_steps) in
      (grind (arith, common_steps), grind (arith, drop-append-le, common_steps))
