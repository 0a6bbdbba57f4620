-- On the straight wire nothing ages out while few frames are put in.
use Rattle.std.proofs.Common.{◌≡◌, ℕ, ◌+◌, ◌<◌, ◌≤◌, Bool, true, false, cond, leb, List, [], ◌∷◌, length, drop, Option, sym, refl, ap, subst, ⊎_elim, arith}
use mathlib.Core.List.{Memᴰ}
use Rattle.std.proofs.lemmas.Bool.{cases_lt, le-leb, lt-leb}
use Rattle.medium.specs.Waiting.{Waiting, other_side, fresh, longest_frame, age_limit}
use Rattle.medium.specs.declared.side.Side.{Side}
use Rattle.medium.specs.declared.side.Side.TheVariants.{Left, Right}
use Rattle.wire.specs.Frames.{older, added}
use Rattle.wire.specs.Choice.{same_side}
use Rattle.wire.specs.Order.{Step, NoneAgesOut, Went, put_in}
use Rattle.wire.specs.Order.Step.{put, took}
use Rattle.wire.specs.Straight.{Queues, queue, queues_of, put_queued, take_queued, StraightPut, StraightTake}
use Rattle.wire.specs.declared.straight.StraightWire.{StraightWire}
use Rattle.wire.specs.Members.{in_older, in_added, in_rest}

-- What the rule makes of the queue for a side.
pub put_queue : (side from : Side) (f : List ℕ) (q : Queues) → queue side (put_queued from f q) ≡ cond (same_side side (other_side from)) (added (fresh side f) (older (queue side q))) (older (queue side q))
put_queue Left Left f q = refl
put_queue Left Right f q = refl
put_queue Right Left f q = refl
put_queue Right Right f q = refl

pub take_queue : (side at : Side) (q : Queues) → queue side (take_queued at q) ≡ cond (same_side side at) (drop 1 (queue side q)) (queue side q)
take_queue Left Left q = refl
take_queue Left Right q = refl
take_queue Right Left q = refl
take_queue Right Right q = refl

-- Every frame is still below the age limit after so many puts.
abbrev Young : ℕ → List Waiting → Type 0
Young k ws = (x : Waiting) → Memᴰ x ws → x.age + k < age_limit

young_older : (k : ℕ) (ws : List Waiting) → Young (1 + k) ws → Young k (older ws)
young_older k ws young x i = let r = in_older ws x i in let h = young r.0 r.1 in let e = ap (λ (y : Waiting). y.age) r.2 in omega arith

young_put : (k : ℕ) (b : Bool) (side : Side) (f : List ℕ) (ws : List Waiting) → 1 + k ≤ age_limit → Young (1 + k) ws → Young k (cond b (added (fresh side f) (older ws)) (older ws))
young_put k true side f ws few young x i = ⊎_elim (young_older k ws young x) (λ e. let a = ap (λ (y : Waiting). y.age) e in omega arith) (in_added (fresh side f) (older ws) x i)
young_put k false side f ws few young x i = young_older k ws young x i

young_rest : (k : ℕ) (b : Bool) (ws : List Waiting) → Young k ws → Young k (cond b (drop 1 ws) ws)
young_rest k true ws young x i = young x (in_rest ws x i)
young_rest k false ws young x i = young x i

-- The queue for a side is young enough for so many puts.
abbrev YoungAt : Side → ℕ → StraightWire → Type 0
YoungAt side k w = Young k (queue side (queues_of w))

over_take : (side at : Side) (k room : ℕ) (r : Option (List ℕ)) (w u : StraightWire) → StraightTake w at room r u → YoungAt side k w → YoungAt side k u
over_take side at k room r w u t young =
    ⊎_elim
    (λ l. subst (YoungAt side k) (sym (t.short l).1) young)
    (λ l. subst (λ (q : Queues). Young k (queue side q)) (sym (t.leaves l)) (subst (Young k) (sym (take_queue side at (queues_of w))) (young_rest k (same_side side at) (queue side (queues_of w)) young)))
    (cases_lt room longest_frame)

-- A put, by whether the frame is not too long: what was enough before it is enough for the puts behind it.
over_put : (side from : Side) (k : ℕ) (f : List ℕ) (w u : StraightWire) → StraightPut w from f u → cond (leb (length f) longest_frame) 1 0 + k ≤ age_limit → YoungAt side (cond (leb (length f) longest_frame) 1 0 + k) w → YoungAt side k u
over_put side from k f w u p few young = ⊎_elim long fits (cases_lt longest_frame (length f))
  where
    long : longest_frame < length f → YoungAt side k u
    long l = subst (YoungAt side k) (sym (p.long l)) (λ x i. let h = young x i in let e = ap {B = ℕ} (λ (b : Bool). cond b 1 0) (lt-leb (length f) longest_frame l) in omega arith)

    fits : length f ≤ longest_frame → YoungAt side k u
    fits l =
        let e = ap {B = ℕ} (λ (b : Bool). cond b 1 0) (le-leb (length f) longest_frame l) in
        subst (λ (q : Queues). Young k (queue side q)) (sym (p.carried l))
        (subst (Young k) (sym (put_queue side from f (queues_of w)))
        (young_put k (same_side side (other_side from)) side f (queue side (queues_of w)) (omega arith) (λ x i. let h = young x i in omega arith)))

pub all_young : (side : Side) (steps : List Step) (w v : StraightWire) (g : Went steps w v) → put_in steps ≤ age_limit → YoungAt side (put_in steps) w → NoneAgesOut side steps w v g
all_young side [] w v g few young = tt
all_young side (put from f ∷ steps) w v g few young = (
  (λ l x i. let h = young x i in let e = ap {B = ℕ} (λ (b : Bool). cond b 1 0) (le-leb (length f) longest_frame l) in omega arith),
  all_young side steps g.0 v g.2 (omega arith) (over_put side from (put_in steps) f w g.0 g.1 few young),
)
all_young side (took at room r ∷ steps) w v g few young = all_young side steps g.0 v g.2 few (over_take side at (put_in steps) room r w g.0 g.1 young)
