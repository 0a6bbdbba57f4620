-- The straight wire keeps the order of what is put.
use Rattle.std.proofs.Common.{◌≡◌, ℕ, suc, ◌+◌, ◌-◌, ◌<◌, ◌≤◌, Bool, true, false, cond, ◌&&◌, ltb, leb, List, [], ◌∷◌, ◌++◌, map, length, drop, Some, None, Option, sym, refl, ap, ◌∙◌, subst, ⊎_elim, append_assoc, arith}
use mathlib.Core.List.{Memᴰ}
use Rattle.std.proofs.lemmas.List.{append-nil, map_push, length-map, length_push}
use Rattle.std.proofs.lemmas.Bool.{false≢true, cases_lt, lt-ltb, le-leb, lt-leb}
use Rattle.std.proofs.lemmas.Option.{none-some, same_Some}
use Rattle.medium.specs.Waiting.{Waiting, other_side, fresh, older_by, longest_frame, age_limit}
use Rattle.medium.specs.declared.side.Side.{Side}
use Rattle.medium.specs.declared.side.Side.TheVariants.{Left, Right}
use Rattle.wire.specs.Frames.{older, added, frame_at}
use Rattle.wire.specs.Choice.{same_side}
use Rattle.wire.specs.Order.{Step, frames_for, AllStay, NoneAgesOut, Went, finds_room, entered, came_out, InOrder}
use Rattle.wire.specs.Order.Step.{put, took}
use Rattle.wire.specs.Straight.{Queues, queue, queues_of, StraightPut, StraightTake}
use Rattle.wire.specs.declared.straight.StraightWire.{StraightWire}
use Rattle.wire.proofs.InTime.{put_queue, take_queue, all_young}

abbrev bytes_of : List Waiting → List (List ℕ)
bytes_of ws = map (λ x. x.bytes) ws

-- One frame more, if it finds room.
abbrev grown : Bool → List ℕ → List (List ℕ) → List (List ℕ)
grown b f fs = cond b (fs ++ f ∷ []) fs

same_queue : (side at : Side) (q : Queues) → same_side side at ≡ true → queue at q ≡ queue side q
same_queue Left Left q e = refl
same_queue Left Right q e = absurd (false≢true e)
same_queue Right Left q e = absurd (false≢true e)
same_queue Right Right q e = refl

-- Where none ages out, all stay.
stay : (ws : List Waiting) → ((x : Waiting) → Memᴰ x ws → x.age + 1 < age_limit) → bytes_of (older ws) ≡ bytes_of ws
stay [] young = refl
stay (w ∷ ws) young = go (ltb (w.age + 1) age_limit) (lt-ltb _ _ (young w (Memᴰ.head refl))) (stay ws (λ x i. young x (Memᴰ.tail i)))
  where
    go : (b : Bool) → b ≡ true → bytes_of (older ws) ≡ bytes_of ws → bytes_of (cond b (older_by 1 w ∷ older ws) (older ws)) ≡ w.bytes ∷ bytes_of ws
    go true t e = ap (λ (fs : List (List ℕ)). w.bytes ∷ fs) e
    go false t e = absurd (false≢true t)

bytes_added : (side : Side) (f : List ℕ) (ws : List Waiting) → bytes_of (added (fresh side f) ws) ≡ grown (ltb (length (bytes_of ws)) 64) f (bytes_of ws)
bytes_added side f ws = go (ltb (length ws) 64) ∙ ap (λ (n : ℕ). grown (ltb n 64) f (bytes_of ws)) (sym (length-map ws (λ x. x.bytes)))
  where
    go : (b : Bool) → bytes_of (cond b (ws ++ fresh side f ∷ []) ws) ≡ grown b f (bytes_of ws)
    go true = map_push (λ x. x.bytes) ws (fresh side f)
    go false = refl

bytes_put : (b : Bool) (side : Side) (f : List ℕ) (ws : List Waiting) → bytes_of (cond b (added (fresh side f) ws) ws) ≡ grown (b && ltb (length (bytes_of ws)) 64) f (bytes_of ws)
bytes_put true side f ws = bytes_added side f ws
bytes_put false side f ws = refl

-- What a put makes of the frames for a side, by whether the frame is not too long.
abbrev Grew : Side → Side → List ℕ → (before after : List (List ℕ)) → Bool → Type 0
Grew side from f fs gs b = gs ≡ grown (same_side side (other_side from) && (b && ltb (length fs) 64)) f fs

put_frames : (side from : Side) (f : List ℕ) (w u : StraightWire) → StraightPut w from f u → AllStay side f w → frames_for side u ≡ grown (finds_room side (length (frames_for side w)) from f) f (frames_for side w)
put_frames side from f w u p young = ⊎_elim long fits (cases_lt longest_frame (length f))
  where
    no_room : (b : Bool) → frames_for side w ≡ grown (b && false) f (frames_for side w)
    no_room true = refl
    no_room false = refl

    long : longest_frame < length f → Grew side from f (frames_for side w) (frames_for side u) (leb (length f) longest_frame)
    long l = subst (Grew side from f (frames_for side w) (frames_for side u)) (sym (lt-leb (length f) longest_frame l)) (ap (frames_for side) (p.long l) ∙ no_room (same_side side (other_side from)))

    fits : length f ≤ longest_frame → Grew side from f (frames_for side w) (frames_for side u) (leb (length f) longest_frame)
    fits l =
        subst (Grew side from f (frames_for side w) (frames_for side u)) (sym (le-leb (length f) longest_frame l))
        (ap (λ (q : Queues). bytes_of (queue side q)) (p.carried l)
        ∙ ap bytes_of (put_queue side from f (queues_of w))
        ∙ bytes_put (same_side side (other_side from)) side f (older (queue side (queues_of w)))
        ∙ ap (λ (fs : List (List ℕ)). grown (same_side side (other_side from) && ltb (length fs) 64) f fs) (stay (queue side (queues_of w)) (young l)))

-- What a take that gave none found, where it had room for every frame.
found_none : (ws : List Waiting) → None ≡ frame_at ws 0 → ws ≡ []
found_none [] e = refl
found_none (w ∷ ws) e = absurd (none-some w.bytes e)

-- What a take that gave a frame found.
found_some : (ws : List Waiting) (f : List ℕ) → Some f ≡ frame_at ws 0 → bytes_of ws ≡ f ∷ bytes_of (drop 1 ws)
found_some [] f e = absurd (none-some f (sym e))
found_some (w ∷ ws) f e = ap (λ (g : List ℕ). g ∷ bytes_of ws) (sym (same_Some f w.bytes e))

-- A take by what it gave: the frames for a side before it, from those after it.
abbrev restored : Bool → Option (List ℕ) → List (List ℕ) → List (List ℕ)
restored b None fs = fs
restored b (Some f) fs = cond b (f ∷ fs) fs

take_bytes : (b : Bool) (r : Option (List ℕ)) (ws : List Waiting) → (b ≡ true → r ≡ frame_at ws 0) → bytes_of ws ≡ restored b r (bytes_of (cond b (drop 1 ws) ws))
take_bytes true None ws e = ap bytes_of (found_none ws (e refl)) ∙ ap (λ (xs : List Waiting). bytes_of (drop 1 xs)) (sym (found_none ws (e refl)))
take_bytes true (Some f) ws e = found_some ws f (e refl)
take_bytes false None ws e = refl
take_bytes false (Some f) ws e = refl

take_frames : (side at : Side) (room : ℕ) (r : Option (List ℕ)) (w u : StraightWire) → StraightTake w at room r u → frames_for side w ≡ restored (same_side side at) r (frames_for side u)
take_frames side at room r w u t = ⊎_elim short fits (cases_lt room longest_frame)
  where
    short : room < longest_frame → frames_for side w ≡ restored (same_side side at) r (frames_for side u)
    short l = ap (frames_for side) (sym (t.short l).1) ∙ ap (λ (o : Option (List ℕ)). restored (same_side side at) o (frames_for side u)) (sym (t.short l).0)

    fits : longest_frame ≤ room → frames_for side w ≡ restored (same_side side at) r (frames_for side u)
    fits l =
        take_bytes (same_side side at) r (queue side (queues_of w)) (λ e. t.gives l ∙ ap (λ (ws : List Waiting). frame_at ws 0) (same_queue side at (queues_of w) e))
        ∙ ap (λ (ws : List Waiting). restored (same_side side at) r (bytes_of ws)) (sym (take_queue side at (queues_of w)) ∙ ap (queue side) (sym (t.leaves l)))

-- What waits and what is to enter, before a put and after it.
over_put : (side : Side) (f : List ℕ) (steps : List Step) (fs gs : List (List ℕ)) (b : Bool) → gs ≡ grown b f fs → fs ++ cond b (f ∷ entered side (length fs + 1) steps) (entered side (length fs) steps) ≡ gs ++ entered side (length gs) steps
over_put side f steps fs gs true e = subst (λ (hs : List (List ℕ)). fs ++ f ∷ entered side (length fs + 1) steps ≡ hs ++ entered side (length hs) steps) (sym e) (rw (length_push fs f, append_assoc fs (f ∷ [])) refl)
over_put side f steps fs gs false e = ap (λ (hs : List (List ℕ)). hs ++ entered side (length hs) steps) (sym e)

-- The same over a take that gave a frame, where all is in order from there on.
over_take : (side : Side) (f : List ℕ) (steps : List Step) (fs gs hs : List (List ℕ)) (b : Bool) → fs ≡ cond b (f ∷ gs) gs → gs ++ entered side (length gs) steps ≡ came_out side steps ++ hs → fs ++ entered side (cond b (length fs - 1) (length fs)) steps ≡ cond b (f ∷ came_out side steps) (came_out side steps) ++ hs
over_take side f steps fs gs hs true e h =
    ap (λ (xs : List (List ℕ)). xs ++ entered side (length xs - 1) steps) e
    ∙ ap (λ (n : ℕ). f ∷ gs ++ entered side n steps) (let z : suc (length gs) - 1 ≡ length gs = omega arith in z)
    ∙ ap (λ (xs : List (List ℕ)). f ∷ xs) h
over_take side f steps fs gs hs false e h = ap (λ (xs : List (List ℕ)). xs ++ entered side (length xs) steps) e ∙ h

ordered : (side : Side) (steps : List Step) (w v : StraightWire) (g : Went steps w v) → NoneAgesOut side steps w v g → frames_for side w ++ entered side (length (frames_for side w)) steps ≡ came_out side steps ++ frames_for side v
ordered side [] w v e a = append-nil (frames_for side w) ∙ ap (frames_for side) (sym e)
ordered side (put from f ∷ steps) w v g a = over_put side f steps (frames_for side w) (frames_for side g.0) _ (put_frames side from f w g.0 g.1 a.0) ∙ ordered side steps g.0 v g.2 a.1
ordered side (took at room None ∷ steps) w v g a = ap (λ (fs : List (List ℕ)). fs ++ entered side (length fs) steps) (take_frames side at room None w g.0 g.1) ∙ ordered side steps g.0 v g.2 a
ordered side (took at room (Some f) ∷ steps) w v g a = over_take side f steps (frames_for side w) (frames_for side g.0) (frames_for side v) _ (take_frames side at room (Some f) w g.0 g.1) (ordered side steps g.0 v g.2 a)

pub in_order : (side : Side) (w : StraightWire) → InOrder side w
in_order side w = record {
  order = λ steps v g a. ordered side steps w v g a;
  in_time = λ steps v g few young. all_young side steps w v g few young;
  none = λ steps v g room u l t. ap bytes_of (found_none (queue side (queues_of v)) (t.gives l));
}
