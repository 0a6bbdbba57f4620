-- The ages of a store's frames fall from the oldest on.
use Rattle.std.specs.Prelude.{◌≡◌, ℕ, ◌<◌, true, List, [], ◌∷◌}
use Rattle.std.proofs.lemmas.Bool.{and_parts, ltb-true}
use Rattle.wire.specs.Records.{age_at, falling}
use Rattle.wire.specs.declared.record.Record.{Record}

-- `falling` as a fact.
abbrev pub Falling : ℕ → ℕ → List Record → Type 0
Falling p b [] = Unit {0}
Falling p b (r ∷ rs) = (r.stamp < 65536) × ((age_at p r < b) × Falling p (age_at p r) rs)

pub falling_is : (p b : ℕ) (rs : List Record) → falling p b rs ≡ true → Falling p b rs
falling_is p b [] e = tt
falling_is p b (r ∷ rs) e =
    let one = and_parts _ _ e in
    let two = and_parts _ _ one.1 in
    (ltb-true _ _ one.0, (ltb-true _ _ two.0, falling_is p (age_at p r) rs two.1))
