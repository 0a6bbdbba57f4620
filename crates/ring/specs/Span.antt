-- A row of neighbouring places among 64, round the end.
use Rattle.std.specs.Prelude.{ℕ, ◌+◌, ◌-◌, ◌%◌, cond, List, ◌++◌, take, drop, Some, None, Option, nat_lt}

-- The place of the oldest element, and how many elements there are.
pub record Span : Type 0 where
  pub head : ℕ
  pub count : ℕ

-- The place at a distance from the oldest.
abbrev pub spot : Span → ℕ → ℕ
spot s i = (s.head + i) % 64

-- The place of the element at a distance, if there is one.
abbrev pub taken_at : Span → ℕ → Option ℕ
taken_at s i = cond (nat_lt i s.count) (Some (spot s i)) None

-- The place behind the newest, if one is free.
abbrev pub free_at : Span → Option ℕ
free_at s = cond (nat_lt s.count 64) (Some (spot s s.count)) None

-- One more at the newer end, if a place is free.
abbrev pub longer : Span → Span
longer s = cond (nat_lt s.count 64) (record { head = s.head; count = s.count + 1 }) s

-- One less at the older end, if there is one.
abbrev pub shorter : Span → Span
shorter s = cond (nat_lt 0 s.count) (record { head = spot s 1; count = s.count - 1 }) s

-- The elements that lie in these places of a list of 64, oldest first.
abbrev pub rung : {X : Type 0} → List X → Span → List X
rung xs s = take s.count (drop s.head (xs ++ xs))
