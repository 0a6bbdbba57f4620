-- The straight wire: a put by the changes to its stores.
use Rattle.std.specs.Prelude.{◌≡◌, ℕ, ◌+◌, ◌≤◌, Bool, true, false, cond, List, [], ◌∷◌, ◌++◌, map, length, drop, nat_lt, refl}
use Rattle.std.proofs.Common.{sym, ◌∙◌, ap, arith}
use Rattle.std.proofs.lemmas.List.{map_push, length-map, drop-map}
use Rattle.medium.specs.Waiting.{Waiting, other_side, fresh, older_by, age_limit}
use Rattle.medium.specs.declared.side.Side.{Side}
use Rattle.medium.specs.declared.side.Side.TheVariants.{Left, Right}
use Rattle.wire.specs.Frames.{held, older, added, frame_at}
use Rattle.wire.specs.Straight.{queue, to, queues_of, put_queued, given_first, take_queued}
use Rattle.wire.specs.Sided.{at, with_at}
use Rattle.wire.specs.declared.store.Store.{Store}
use Rattle.wire.specs.declared.straight.StraightWire.{StraightWire}
use Rattle.wire.proofs.Members.{held_few}

sides_differ : Left ≡ Right → ⊥
sides_differ e = let z : ◌≡◌ {A = ℕ} 0 1 = cc in omega arith

-- That frames wait for the side of their queue changes nothing else.
to_older : (s : Side) (ws : List Waiting) → map (to s) (older ws) ≡ older (map (to s) ws)
to_older s [] = refl
to_older s (w ∷ ws) = go (nat_lt (w.age + 1) age_limit) (to_older s ws)
  where
    go : (b : Bool) → map (to s) (older ws) ≡ older (map (to s) ws) → map (to s) (cond b (older_by 1 w ∷ older ws) (older ws)) ≡ cond b (older_by 1 (to s w) ∷ older (map (to s) ws)) (older (map (to s) ws))
    go true e = ap (λ (xs : List Waiting). older_by 1 (to s w) ∷ xs) e
    go false e = e

to_added : (s : Side) (f : List ℕ) (ws : List Waiting) → map (to s) (added (fresh s f) ws) ≡ added (fresh s f) (map (to s) ws)
to_added s f ws = go (nat_lt (length ws) 64) ∙ ap (λ (n : ℕ). cond (nat_lt n 64) (map (to s) ws ++ fresh s f ∷ []) (map (to s) ws)) (sym (length-map ws (to s)))
  where
    go : (b : Bool) → map (to s) (cond b (ws ++ fresh s f ∷ []) ws) ≡ cond b (map (to s) ws ++ fresh s f ∷ []) (map (to s) ws)
    go true = map_push (to s) ws (fresh s f)
    go false = refl

-- A queue by the change to its store, where the frame went by it or went in.
passed : (s : Side) (before after : Store) → held after ≡ older (held before) → map (to s) (held after) ≡ older (map (to s) (held before))
passed s before after e = ap (map (to s)) e ∙ to_older s (held before)

entered : (s : Side) (f : List ℕ) (before after : Store) → held after ≡ added (fresh s f) (older (held before)) → map (to s) (held after) ≡ added (fresh s f) (older (map (to s) (held before)))
entered s f before after e = ap (map (to s)) e ∙ to_added s f (older (held before)) ∙ ap (added (fresh s f)) (to_older s (held before))

-- A put by the changes to the two stores.
pub put_both : (w : StraightWire) (from into : Side) (f : List ℕ) (a b : Store) → into ≡ other_side from → held a ≡ older (held (at from w.queues)) → held b ≡ added (fresh into f) (older (held (at into (with_at from w.queues a)))) → queues_of (record { queues = with_at into (with_at from w.queues a) b }) ≡ put_queued from f (queues_of w)
put_both w Left Right f a b i e d = let l = passed Left w.queues.left a e in let r = entered Right f w.queues.right b d in cc
put_both w Right Left f a b i e d = let r = passed Right w.queues.right a e in let l = entered Left f w.queues.left b d in cc
put_both w Left Left f a b i e d = absurd (sides_differ i)
put_both w Right Right f a b i e d = absurd (sides_differ (sym i))

-- A queue has the frames of its store, as frames for its side.
pub queue_is : (w : StraightWire) (s : Side) → queue s (queues_of w) ≡ map (to s) (held (at s w.queues))
queue_is w Left = refl
queue_is w Right = refl

-- The oldest of a queue is its store's, and so is what is left without it.
pub given_is : (w : StraightWire) (s : Side) → given_first s (queues_of w) ≡ frame_at (held (at s w.queues)) 0
given_is w s = ap (λ (ws : List Waiting). frame_at ws 0) (queue_is w s) ∙ first (held (at s w.queues))
  where
    first : (ws : List Waiting) → frame_at (map (to s) ws) 0 ≡ frame_at ws 0
    first [] = refl
    first (x ∷ ws) = refl

pub take_one : (w : StraightWire) (s : Side) (left : Store) → held left ≡ drop 1 (held (at s w.queues)) → queues_of (record { queues = with_at s w.queues left }) ≡ take_queued s (queues_of w)
take_one w Left left e = let q = ap (map (to Left)) e ∙ sym (drop-map (to Left) 1 (held w.queues.left)) in cc
take_one w Right left e = let q = ap (map (to Right)) e ∙ sym (drop-map (to Right) 1 (held w.queues.right)) in cc

-- A queue has at most 64 frames.
pub queue_few : (w : StraightWire) (s : Side) → length (queue s (queues_of w)) ≤ 64
queue_few w s =
    let n = ap length (queue_is w s) ∙ length-map (held (at s w.queues)) (to s) in
    let f = held_few (at s w.queues) in
    omega arith
