-- The straight wire: its meaning keeps to what every medium keeps to.
use Rattle.std.specs.Prelude.{◌≡◌, ℕ, ◌<◌, ◌⊎◌, List, [], map, Some}
use Rattle.std.proofs.Common.{sym, ap, subst, inl, inr, ⊎_elim}
use mathlib.Core.List.Memᴰ
use mathlib.Core.List.{Memᴰ}
use Rattle.medium.specs.Laws.{Laws, AgedOrNew}
use Rattle.medium.specs.Waiting.{Waiting, other_side, fresh, age_limit}
use Rattle.medium.specs.declared.side.Side.{Side}
use Rattle.medium.specs.declared.side.Side.TheVariants.{Left, Right}
use Rattle.wire.specs.Frames.{held, older, added}
use Rattle.wire.specs.Straight.{Queues, queue, to, queues_of, put_queued, given_first, take_queued, all_queued, straight_empty, straight_waiting, StraightPut, StraightTake}
use Rattle.wire.specs.declared.store.Store.{Store}
use Rattle.wire.specs.declared.straight.StraightWire.{StraightWire}
use Rattle.wire.specs.Lawful.{Meant, laws}
use Rattle.wire.specs.Members.{in_older, in_added, in_rest, in_nth, in_map, frame_from, held_young}

-- x waits in the queue for a side.
abbrev In : Side → Queues → Waiting → Type 0
In s q x = Memᴰ x (queue s q)

into : (s : Side) (q : Queues) (x : Waiting) → In s q x → Memᴰ x (all_queued q)
into Left q x i = Memᴰ.append_left _ i
into Right q x i = Memᴰ.append_right q.left i

out : (q : Queues) (x : Waiting) → Memᴰ x (all_queued q) → In Left q x ⊎ In Right q x
out q x i = Memᴰ.append_cases q.left i

aged : (s from : Side) (f : List ℕ) (q : Queues) (x : Waiting) → Memᴰ x (older (queue s q)) → AgedOrNew from f (all_queued q) x
aged s from f q x i = let r = in_older (queue s q) x i in inl (r.0, into s q r.0 r.1, r.2)

entered : (from : Side) (f : List ℕ) (q : Queues) (x : Waiting) → Memᴰ x (added (fresh (other_side from) f) (older (queue (other_side from) q))) → AgedOrNew from f (all_queued q) x
entered from f q x i = ⊎_elim (aged (other_side from) from f q x) inr (in_added (fresh (other_side from) f) (older (queue (other_side from) q)) x i)

ages : (q : Queues) (from : Side) (f : List ℕ) (x : Waiting) → Memᴰ x (all_queued (put_queued from f q)) → AgedOrNew from f (all_queued q) x
ages q Left f x i = ⊎_elim (aged Left Left f q x) (entered Left f q x) (out (put_queued Left f q) x i)
ages q Right f x i = ⊎_elim (entered Right f q x) (aged Right Right f q x) (out (put_queued Right f q) x i)

keeps : (q : Queues) (side : Side) (x : Waiting) → Memᴰ x (all_queued (take_queued side q)) → Memᴰ x (all_queued q)
keeps q Left x i = ⊎_elim (λ j. into Left q x (in_rest q.left x j)) (into Right q x) (out (take_queued Left q) x i)
keeps q Right x i = ⊎_elim (into Left q x) (λ j. into Right q x (in_rest q.right x j)) (out (take_queued Right q) x i)

young : (w : StraightWire) (x : Waiting) → Memᴰ x (straight_waiting w) → x.age < age_limit
young w x i = ⊎_elim (one Left w.queues.left) (one Right w.queues.right) (out (queues_of w) x i)
  where
    one : (s : Side) (t : Store) → Memᴰ x (map (to s) (held t)) → x.age < age_limit
    one s t j = let r = in_map (to s) (held t) x j in subst (λ (y : Waiting). y.age < age_limit) (sym r.2) (held_young t r.0 r.1)

sided : (w : StraightWire) (side : Side) (x : Waiting) → In side (queues_of w) x → x.side ≡ side
sided w Left x i = ap (λ (y : Waiting). y.side) (in_map (to Left) (held w.queues.left) x i).2
sided w Right x i = ap (λ (y : Waiting). y.side) (in_map (to Right) (held w.queues.right) x i).2

gives : (w : StraightWire) (side : Side) (f : List ℕ) → Some f ≡ given_first side (queues_of w) → (x : Waiting) × Memᴰ x (straight_waiting w) × (x.side ≡ side) × (x.bytes ≡ f)
gives w side f e =
    let q = queues_of w in
    let r = frame_from (queue side q) 0 f e in
    let m = in_nth (queue side q) 0 r.0 r.1 in
    (r.0, into side q r.0 m, sided w side r.0 m, r.2)

empty : (w : StraightWire) → straight_empty w → straight_waiting w ≡ []
empty w e = ap all_queued e

meant : Meant queues_of put_queued given_first take_queued straight_empty all_queued
meant = record { empty = empty; young = young; ages = ages; gives = gives; keeps = keeps }

pub straight_laws : Laws straight_empty straight_waiting StraightPut StraightTake
straight_laws = laws queues_of put_queued given_first take_queued straight_empty all_queued meant
