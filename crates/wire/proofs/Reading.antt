-- What a store reads at a distance from the oldest.
use Rattle.std.proofs.Common.{◌≡◌, ℕ, ◌<◌, List, [], ◌++◌, map, length, get_or, drop, Some, None, Option, sym, ap, ◌∙◌, ⊎_elim, arith}
use Rattle.std.proofs.lemmas.List.{length-map, get_or_past, get_or-map}
use Rattle.std.proofs.lemmas.Grind.{common_steps}
use Rattle.std.proofs.lemmas.Bool.{cases_lt, cond-true, eq-eqb}
use Rattle.std.proofs.lemmas.Option.{slice_get-map, get_or_from_slice_get}
use Rattle.std.specs.List.{slice_get}
use Rattle.std.specs.Option.{option_map}
use Rattle.ring.specs.Span.{spot, rung}
use Rattle.ring.specs.Items.{span_of, items, element_at}
use Rattle.ring.proofs.Rungs.{get_or_row, length_row}
use Rattle.medium.specs.Laws.{frame_given}
use Rattle.medium.specs.Waiting.{Waiting}
use Rattle.wire.specs.Content.{content}
use Rattle.wire.specs.Records.{waiting_as, slots_named}
use Rattle.wire.specs.Frames.{held, frame_at}
use Rattle.wire.specs.declared.record.Record.{Record}
use Rattle.wire.specs.declared.slot.Slot.{Slot}
use Rattle.wire.specs.declared.store.Store.{Store}
use Rattle.wire.proofs.Adding.{named_rung}
use Rattle.wire.proofs.Naming.{slot_of}

named_nth : (rs : List Record) (i : ℕ) (r : Record) → slice_get rs i ≡ Some r → get_or (slots_named rs) i 0 ≡ r.slot
named_nth rs i r e = get_or_from_slice_get (slots_named rs) i r.slot 0 (slice_get-map slot_of rs i ∙ ap (option_map slot_of) e)

module _ (s : Store) where
  abbrev rs : List Record
  rs = s.records

  -- What the ring answers for a place is the record there.
  at_is : (i : ℕ) → element_at s.ring rs i ≡ slice_get (items s.ring rs) i
  at_is i = cond-true _ _ None (eq-eqb (length rs) 64 s.places)

  slot_low : (i : ℕ) → get_or (slots_named (items s.ring rs)) i 0 < 64
  slot_low i =
      let names : length (slots_named rs) ≡ 64 = length-map rs slot_of ∙ s.places in
      let e : get_or (slots_named (items s.ring rs)) i 0 ≡ get_or (rung (slots_named rs) (span_of s.ring)) i 0 = ap (λ (ns : List ℕ). get_or ns i 0) (named_rung rs (span_of s.ring)) in
      let n : length (rung (slots_named rs) (span_of s.ring)) ≡ s.ring.count = length_row (slots_named rs) s.ring.head s.ring.count names s.ring.start s.ring.few in
      ⊎_elim
      (λ l. let h = s.slotted (spot (span_of s.ring) i) in let f = get_or_row (slots_named rs) s.ring.head s.ring.count names s.ring.start s.ring.few i 0 l in omega arith)
      (λ l. let f = get_or_past (rung (slots_named rs) (span_of s.ring)) i 0 (omega arith) in omega arith)
      (cases_lt i s.ring.count)

  pub slot_within : (i : ℕ) (r : Record) → Some r ≡ element_at s.ring rs i → r.slot < 64
  slot_within i r e = let n = named_nth (items s.ring rs) i r (sym (e ∙ at_is i)) in let l = slot_low i in omega arith

  pub held_at : (i : ℕ) (o : Option Record) → o ≡ element_at s.ring rs i → slice_get (held s) i ≡ option_map (waiting_as s.puts (map content s.slots)) o
  held_at i o e = slice_get-map (waiting_as s.puts (map content s.slots)) (items s.ring rs) i ∙ ap (option_map (waiting_as s.puts (map content s.slots))) (sym (e ∙ at_is i))

  -- The bytes of the frame are those in the slot of its record.
  pub bytes_at : (i : ℕ) (r : Record) (t : Slot) → Some r ≡ element_at s.ring rs i → t ≡ get_or s.slots r.slot t → get_or (map content s.slots) r.slot [] ≡ content t
  bytes_at i r t e is =
      let w = slot_within i r e in
      let l = s.wide in
      get_or-map content s.slots r.slot t [] (omega arith) ∙ ap content (sym is)

  pub frame_some : (i : ℕ) (r : Record) (t : Slot) → Some r ≡ element_at s.ring rs i → t ≡ get_or s.slots r.slot t → frame_at (held s) i ≡ Some (content t)
  frame_some i r t e is = ap (option_map (λ (w : Waiting). w.bytes)) (held_at i (Some r) e) ∙ ap Some (bytes_at i r t e is)

-- A frame laid at the front of a place.
pub laid_given : (f before after : List ℕ) (n : ℕ) → n ≡ length f → after ≡ f ++ drop n before → frame_given (Some n) after ≡ Some f
laid_given f before after n e a = grind (arith, common_steps)
