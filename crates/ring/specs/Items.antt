-- What a ring holds.
use Rattle.std.specs.Prelude.{ℕ, Bool, cond, ◌&&◌, List, ◌∷◌, length, take, drop, None, Option, ◌==◌, nat_lt, slice_index_or}
use Rattle.std.specs.List.{remove, slice_get}
use Rattle.ring.specs.Span.{Span, rung}
use Rattle.ring.specs.declared.ring.Ring.{Ring}

abbrev pub span_of : Ring → Span
span_of r = record { head = r.head; count = r.count }

-- No element, and the first place comes first.
abbrev pub nothing : Span
nothing = record { head = 0; count = 0 }

-- The elements of a ring over its places, oldest first.
abbrev pub items : {X : Type 0} → Ring → List X → List X
items r xs = rung xs (span_of r)

-- Those of them that lie before the round goes on at the first place.
abbrev pub up_to_end : {X : Type 0} → Ring → List X → List X
up_to_end r xs = take r.count (drop r.head xs)

-- Whether a slice has as many places as a ring.
abbrev pub is_places : {X : Type 0} → List X → Bool
is_places xs = length xs == 64

-- Whether a ring takes in one more element.
abbrev pub has_room : {X : Type 0} → Ring → List X → Bool
has_room r xs = is_places xs && nat_lt r.count 64

-- Whether a ring holds an element at a distance from the oldest.
abbrev pub holds : {X : Type 0} → Ring → List X → ℕ → Bool
holds r xs i = is_places xs && nat_lt i r.count

-- The element at a distance from the oldest, if there is one.
abbrev pub element_at : {X : Type 0} → Ring → List X → ℕ → Option X
element_at r xs i = cond (is_places xs) (slice_get (items r xs) i) None

-- An element before all others, which keep their order.
abbrev pub brought : {X : Type 0} → List X → ℕ → X → List X
brought xs i d = slice_index_or xs i d ∷ remove xs i
