-- What a store holds once a frame was brought forward and released.
use Rattle.std.proofs.Common.{◌≡◌, ℕ, ◌≤◌, Bool, true, false, cond, List, map, length, drop, sym, refl, ap, ◌∙◌, ⊎_elim, arith}
use Rattle.std.proofs.lemmas.List.{map-append, take-map, drop-map}
use Rattle.std.proofs.lemmas.Grind.{common_steps}
use Rattle.std.proofs.lemmas.Bool.{cond-true, cond-false, and_cases, eq-eqb, ltb-false, both_ways}
use Rattle.std.specs.List.{remove}
use Rattle.std.specs.List.Sorted.{IsPermutation}
use Rattle.ring.specs.Span.{Span, shorter, rung}
use Rattle.ring.specs.Items.{span_of, items, holds, brought}
use Rattle.ring.proofs.Spans.{rung_released, length_rung}
use Rattle.medium.specs.declared.side.Side.TheVariants.{Left}
use Rattle.wire.specs.Content.{content}
use Rattle.wire.specs.Records.{falling, waiting_as}
use Rattle.wire.specs.Frames.{held}
use Rattle.wire.specs.declared.record.Record.{Record}
use Rattle.wire.specs.declared.store.Store.{Store}
use Rattle.wire.specs.Ageing.{falling_is}
use Rattle.wire.proofs.Ageing.{is_falling, falling_removed}
use Rattle.wire.proofs.Naming.{Apart, apart_shuffled}

map_removed : {X Y : Type 0} (f : X → Y) (xs : List X) (i : ℕ) → map f (remove xs i) ≡ remove (map f xs) i
map_removed f xs i = simp (map-append, take-map, drop-map) refl

removed_past : {X : Type 0} (xs : List X) (i : ℕ) → length xs ≤ i → remove xs i ≡ xs
removed_past xs i l = grind (arith, common_steps)

module _ (s : Store) (ts : List Record) (b : Bool) (i : ℕ) (answer : b ≡ holds s.ring s.records i) (lies : (d : Record) → items s.ring ts ≡ cond b (brought (items s.ring s.records) i d) (items s.ring s.records)) (shuffled : IsPermutation s.records ts) where
  abbrev before : List Record
  before = items s.ring s.records

  abbrev none : Record
  none = record { slot = 0; stamp = 0; side = Left }

  pub apart : Apart ts
  apart = apart_shuffled s.records ts (record { places = s.places; slotted = s.slotted; single = s.single }) shuffled

  -- The records of what waits, without the one.
  pub left_released : b ≡ true → (after : Span) → after ≡ shorter (span_of s.ring) → rung ts after ≡ remove before i
  left_released e after a =
      ap (rung ts) a
      ∙ rung_released ts (span_of s.ring) apart.places s.ring.start s.ring.few
      ∙ ap (drop 1) (lies none ∙ cond-true b _ before e)

  pub left_same : b ≡ false → items s.ring ts ≡ remove before i
  left_same e =
      let n = length_rung s.records (span_of s.ring) s.places s.ring.start s.ring.few in
      let past : length before ≤ i =
      ⊎_elim
      (λ t. absurd (both_ways _ t (eq-eqb (length s.records) 64 s.places)))
      (λ t. let l = ltb-false i s.ring.count t in omega arith)
      (and_cases _ _ (sym answer ∙ e)) in
      lies none ∙ cond-false b _ before e ∙ sym (removed_past before i past)

  pub young : (left : List Record) → left ≡ remove before i → falling s.puts 2048 left ≡ true
  young left e = ap (falling s.puts 2048) e ∙ is_falling s.puts 2048 (remove before i) (falling_removed s.puts 2048 before i (falling_is s.puts 2048 before s.young))

  pub waiting_left : (left : List Record) → left ≡ remove before i → map (waiting_as s.puts (map content s.slots)) left ≡ remove (held s) i
  waiting_left left e = ap (map (waiting_as s.puts (map content s.slots))) e ∙ map_removed (waiting_as s.puts (map content s.slots)) before i
