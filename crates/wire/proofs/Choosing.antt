-- Counting and finding the frames for one side.
use Rattle.std.specs.Prelude.{◌≡◌, ℕ, zero, suc, ◌+◌, ◌<◌, Bool, true, false, cond, List, [], ◌∷◌, map, length, refl}
use Rattle.std.proofs.Common.{◌∙◌, ap, arith}
use Rattle.std.proofs.lemmas.Bool.{cond-true, eq-eqb}
use Rattle.std.proofs.lemmas.List.{length-map}
use Rattle.std.specs.List.{slice_get, filter, enumerate_from}
use Rattle.std.specs.Option.{option_map, option_map_or}
use Rattle.medium.specs.Waiting.{Waiting}
use Rattle.medium.specs.declared.side.Side.{Side}
use Rattle.wire.specs.Choice.{same_side, for_side, distance}
use Rattle.ring.specs.Items.{is_places, items}
use Rattle.wire.specs.Content.{content}
use Rattle.wire.specs.Frames.{held, frame_at}
use Rattle.wire.specs.Records.{waiting_as}
use Rattle.wire.specs.declared.record.Record.{Record}
use Rattle.wire.specs.declared.store.Store.{Store}

-- The records of the frames for a side.
pub for_side_kept : (s : Side) (p : ℕ) (frames : List (List ℕ)) (rs : List Record) → for_side s (map (waiting_as p frames) rs) ≡ map (waiting_as p frames) (filter (λ r. same_side s r.side) rs)
for_side_kept s p frames [] = refl
for_side_kept s p frames (r ∷ rs) = go (same_side s r.side) (for_side_kept s p frames rs)
  where
    go : (b : Bool) → for_side s (map (waiting_as p frames) rs) ≡ map (waiting_as p frames) (filter (λ r. same_side s r.side) rs) → cond b (waiting_as p frames r ∷ for_side s (map (waiting_as p frames) rs)) (for_side s (map (waiting_as p frames) rs)) ≡ map (waiting_as p frames) (cond b (r ∷ filter (λ r. same_side s r.side) rs) (filter (λ r. same_side s r.side) rs))
    go true e = ap (λ ws. waiting_as p frames r ∷ ws) e
    go false e = e

-- These records, counted from n on.
abbrev pub numbered : Side → (n : ℕ) → List Record → List (ℕ × Record)
numbered s n rs = filter (λ (q : ℕ × Record). same_side s q.1.side) (enumerate_from n rs)

-- The number of the k-th of them, or another where there are not so many.
abbrev pub place : Side → (n : ℕ) → List Record → (k other : ℕ) → ℕ
place s n rs k other = option_map_or (λ (q : ℕ × Record). q.0) (slice_get (numbered s n rs) k) other

module _ (s : Side) (p : ℕ) (frames : List (List ℕ)) where
  abbrev distance_in : ℕ → List Record → ℕ
  distance_in k rs = distance s k (map (waiting_as p frames) rs)

  place_is : (n : ℕ) (rs : List Record) (k other : ℕ) → other ≡ n + length rs → place s n rs k other ≡ n + distance_in k rs
  place_is n [] k other e = e
  place_is n (r ∷ rs) zero other e = go (same_side s r.side) (place_is (n + 1) rs zero other (omega arith))
    where
      go : (b : Bool) → place s (n + 1) rs zero other ≡ n + 1 + distance_in zero rs → option_map_or (λ (q : ℕ × Record). q.0) (slice_get (cond b ((n, r) ∷ numbered s (n + 1) rs) (numbered s (n + 1) rs)) 0) other ≡ n + cond b 0 (suc (distance_in zero rs))
      go true below = omega arith
      go false below = omega arith
  place_is n (r ∷ rs) (suc k) other e = go (same_side s r.side) (place_is (n + 1) rs k other (omega arith)) (place_is (n + 1) rs (suc k) other (omega arith))
    where
      go : (b : Bool) → place s (n + 1) rs k other ≡ n + 1 + distance_in k rs → place s (n + 1) rs (suc k) other ≡ n + 1 + distance_in (suc k) rs → option_map_or (λ (q : ℕ × Record). q.0) (slice_get (cond b ((n, r) ∷ numbered s (n + 1) rs) (numbered s (n + 1) rs)) (suc k)) other ≡ n + suc (cond b (distance_in k rs) (distance_in (suc k) rs))
      go true less same = omega arith
      go false less same = omega arith

-- The k-th frame for a side stands where `distance` says.
pub nth_distance : (s : Side) (k : ℕ) (ws : List Waiting) → k < length (for_side s ws) → slice_get ws (distance s k ws) ≡ slice_get (for_side s ws) k
nth_distance s k [] l = absurd (omega arith)
nth_distance s zero (w ∷ ws) l = go (same_side s w.side) (λ h. nth_distance s zero ws h) l
  where
    go : (b : Bool) → (0 < length (for_side s ws) → slice_get ws (distance s zero ws) ≡ slice_get (for_side s ws) 0) → 0 < length (cond b (w ∷ for_side s ws) (for_side s ws)) → slice_get (w ∷ ws) (cond b 0 (suc (distance s zero ws))) ≡ slice_get (cond b (w ∷ for_side s ws) (for_side s ws)) 0
    go true below l = refl
    go false below l = below l
nth_distance s (suc k) (w ∷ ws) l = go (same_side s w.side) (λ h. nth_distance s k ws h) (λ h. nth_distance s (suc k) ws h) l
  where
    go : (b : Bool) → (k < length (for_side s ws) → slice_get ws (distance s k ws) ≡ slice_get (for_side s ws) k) → (suc k < length (for_side s ws) → slice_get ws (distance s (suc k) ws) ≡ slice_get (for_side s ws) (suc k)) → suc k < length (cond b (w ∷ for_side s ws) (for_side s ws)) → slice_get ws (cond b (distance s k ws) (distance s (suc k) ws)) ≡ slice_get (cond b (w ∷ for_side s ws) (for_side s ws)) (suc k)
    go true less same l = less (omega arith)
    go false less same l = same l

pub frame_distance : (s : Side) (k : ℕ) (ws : List Waiting) → k < length (for_side s ws) → frame_at ws (distance s k ws) ≡ frame_at (for_side s ws) k
frame_distance s k ws l = ap (option_map (λ (w : Waiting). w.bytes)) (nth_distance s k ws l)

-- The ring of a store answers for its records.
pub held_records : (s : Store) → cond (is_places s.records) (items s.ring s.records) [] ≡ items s.ring s.records
held_records s = cond-true _ _ [] (eq-eqb (length s.records) 64 s.places)

pub length_for_side : (side : Side) (s : Store) → length (for_side side (held s)) ≡ length (filter (λ r. same_side side r.side) (items s.ring s.records))
length_for_side side s =
    let rs = items s.ring s.records in
    ap length (for_side_kept side s.puts (map content s.slots) rs) ∙ length-map (filter (λ r. same_side side r.side) rs) (waiting_as s.puts (map content s.slots))

pub place_held : (side : Side) (s : Store) (k other : ℕ) → other ≡ length (held s) → place side 0 (items s.ring s.records) k other ≡ distance side k (held s)
place_held side s k other e =
    let rs = items s.ring s.records in
    let long = length-map rs (waiting_as s.puts (map content s.slots)) in
    let at = place_is side s.puts (map content s.slots) 0 rs k other (omega arith) in
    omega arith
