-- One for each side.
use Rattle.medium.specs.declared.side.Side.{Side}
use Rattle.medium.specs.declared.side.Side.TheVariants.{Left, Right}
use Rattle.wire.specs.declared.sided.Sided.{Sided}

-- The one for a side.
abbrev pub at : {X : Type 0} → Side → Sided X → X
at Left s = s.left
at Right s = s.right

-- Another for a side; the other side's stays.
abbrev pub with_at : {X : Type 0} → Side → Sided X → X → Sided X
with_at Left s x = record { left = x; right = s.right }
with_at Right s x = record { left = s.left; right = x }
