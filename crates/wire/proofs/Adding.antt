-- What a new record in a free place adds to the frames of a store.
use Rattle.std.proofs.Common.{◌≡◌, ℕ, suc, ◌<◌, Bool, true, cond, ◌≢◌, List, [], ◌∷◌, ◌++◌, map, length, get_or, take, drop, set, Some, sym, refl, ap, ◌∙◌, subst, arith}
use Rattle.std.proofs.lemmas.List.{get_or-map, get_or-set_same, get_or-set_other, length-map, map_push, map-append, take-map, drop-map}
use Rattle.std.proofs.lemmas.Bool.{lt-ltb}
use Rattle.ring.specs.Span.{Span, spot, free_at, longer, rung}
use Rattle.ring.specs.Items.{span_of, items}
use Rattle.ring.proofs.Rungs.{get_or_row}
use Rattle.ring.proofs.Spans.{below_some, length_rung, rung_longer}
use Rattle.medium.specs.Waiting.{Waiting, fresh}
use Rattle.medium.specs.declared.side.Side.{Side}
use Rattle.wire.specs.Content.{content}
use Rattle.wire.specs.Records.{age_at, waiting_as, slots_named, Slotted, Single, falling, Aged}
use Rattle.wire.specs.Frames.{held, added}
use Rattle.wire.specs.declared.record.Record.{Record}
use Rattle.wire.specs.declared.store.Store.{Store}
use Rattle.wire.specs.Ageing.{falling_is}
use Rattle.wire.proofs.Ageing.{is_falling, falling_push}
use Rattle.wire.proofs.Naming.{slot_of, named_same}

-- None of the records names a slot.
abbrev Avoids : ℕ → List Record → Type 0
Avoids n [] = Unit {0}
Avoids n (r ∷ rs) = (r.slot ≢ n) × Avoids n rs

avoids_all : (n : ℕ) (rs : List Record) → ((k : ℕ) → k < length rs → get_or (slots_named rs) k 0 ≢ n) → Avoids n rs
avoids_all n [] h = tt
avoids_all n (r ∷ rs) h = (h 0 (omega arith), avoids_all n rs (λ k l. h (suc k) (omega arith)))

-- Frames are not changed by a write to a slot that none of them has.
waiting_avoids : (p n : ℕ) (frames : List (List ℕ)) (f : List ℕ) (rs : List Record) → Avoids n rs → map (waiting_as p (set frames n f)) rs ≡ map (waiting_as p frames) rs
waiting_avoids p n frames f [] a = refl
waiting_avoids p n frames f (r ∷ rs) a =
    let same = get_or-set_other frames n r.slot f [] a.0 in
    ap (λ (bs : List ℕ). record { side = r.side; bytes = bs; age = age_at p r } ∷ map (waiting_as p (set frames n f)) rs) same
    ∙ ap (λ (ws : List Waiting). waiting_as p frames r ∷ ws) (waiting_avoids p n frames f rs a.1)

-- Naming goes place by place.
pub named_rung : (rs : List Record) (s : Span) → slots_named (rung rs s) ≡ rung (slots_named rs) s
named_rung rs s =
    sym (take-map slot_of s.count (drop s.head (rs ++ rs)))
    ∙ ap (take s.count) (sym (drop-map slot_of s.head (rs ++ rs)) ∙ ap (drop s.head) (map-append slot_of rs rs))

module _ (s : Store) (at : ℕ) (side : Side) (f : List ℕ) (free : Some at ≡ free_at (span_of s.ring)) (d : Record) where
  abbrev rs : List Record
  rs = s.records

  abbrev before : List Record
  before = items s.ring rs

  -- The record that is written.
  abbrev new : Record
  new = record { slot = (get_or rs at d).slot; stamp = s.puts; side = side }

  here : (s.ring.count < 64) × (at ≡ spot (span_of s.ring) s.ring.count)
  here = below_some s.ring.count 64 (spot (span_of s.ring) s.ring.count) at free

  pub within : at < 64
  within = let e = here.1 in let h = s.ring.start in omega arith

  slot_at : get_or (slots_named rs) at 0 ≡ new.slot
  slot_at = get_or-map slot_of rs at d 0 (let l = s.places in let w = within in omega arith)

  pub slot_within : new.slot < 64
  slot_within = let e = slot_at in let l = s.slotted at in omega arith

  named : slots_named (set rs at new) ≡ slots_named rs
  named = named_same rs at new (sym slot_at)

  -- No waiting frame has the slot of the free place.
  avoids : Avoids new.slot before
  avoids = avoids_all new.slot before (λ k l e.
      let n : length before ≡ s.ring.count = length_rung rs (span_of s.ring) s.places s.ring.start s.ring.few in
      let names : length (slots_named rs) ≡ 64 = length-map rs slot_of ∙ s.places in
      let lt : k < s.ring.count = omega arith in
      let spots : get_or (slots_named before) k 0 ≡ get_or (slots_named rs) (spot (span_of s.ring) k) 0 = ap (λ (ns : List ℕ). get_or ns k 0) (named_rung rs (span_of s.ring)) ∙ get_or_row (slots_named rs) s.ring.head s.ring.count names s.ring.start s.ring.few k 0 lt in
      let same : spot (span_of s.ring) k ≡ at = s.single (spot (span_of s.ring) k) at (omega arith, within, sym spots ∙ e ∙ sym slot_at) in
      let h = here in
      omega arith)

  pub young : Aged s.puts before → falling s.puts 2048 (before ++ new ∷ []) ≡ true
  young a = is_falling s.puts 2048 (before ++ new ∷ []) (falling_push s.puts 2048 before new (falling_is s.puts 2048 before s.young) a (omega arith) s.low (let l = s.low in omega arith))

  pub slotted : Slotted (slots_named (set rs at new))
  slotted = subst Slotted (sym named) s.slotted

  pub single : Single (slots_named (set rs at new))
  single = subst Single (sym named) s.single

  pub entered : rung (set rs at new) (longer (span_of s.ring)) ≡ before ++ new ∷ []
  entered = rung_longer rs (span_of s.ring) s.places s.ring.start s.ring.few at new free

  -- The frames with the new one behind them.
  pub waiting_new : (frames : List (List ℕ)) → frames ≡ set (map content s.slots) new.slot f → map (waiting_as s.puts frames) (before ++ new ∷ []) ≡ added (fresh side f) (held s)
  waiting_new frames e =
      let old = map content s.slots in
      let many : length old ≡ 64 = length-map s.slots content ∙ s.wide in
      let fits : new.slot < length old = let w = slot_within in omega arith in
      let bytes : get_or (set old new.slot f) new.slot [] ≡ f = get_or-set_same old new.slot f [] fits in
      let age : age_at s.puts new ≡ 0 = let l = s.low in omega arith in
      let n : length (held s) ≡ s.ring.count = length-map before (waiting_as s.puts old) ∙ length_rung rs (span_of s.ring) s.places s.ring.start s.ring.few in
      let room : length (held s) < 64 = let h = here in omega arith in
      ap (λ (fs : List (List ℕ)). map (waiting_as s.puts fs) (before ++ new ∷ [])) e
      ∙ map_push (waiting_as s.puts (set old new.slot f)) before new
      ∙ ap (λ (ws : List Waiting). ws ++ waiting_as s.puts (set old new.slot f) new ∷ []) (waiting_avoids s.puts new.slot old f before avoids)
      ∙ ap (λ (bs : List ℕ). held s ++ record { side = side; bytes = bs; age = age_at s.puts new } ∷ []) bytes
      ∙ ap (λ (a : ℕ). held s ++ record { side = side; bytes = f; age = a } ∷ []) age
      ∙ ap (λ (b : Bool). cond b (held s ++ fresh side f ∷ []) (held s)) (sym (lt-ltb _ _ room))
