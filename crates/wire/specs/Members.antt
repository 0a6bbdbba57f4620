-- Which frames are in a list of waiting frames after a put or a take.
use Rattle.std.specs.Prelude.{◌≡◌, ℕ, zero, suc, ◌+◌, ◌<◌, Bool, true, false, cond, ◌⊎◌, List, [], ◌∷◌, ◌++◌, map, length, drop, Some, nat_lt, refl}
use Rattle.std.proofs.Common.{sym, subst, inl, inr, ⊎_elim}
use Rattle.std.proofs.Math.Nat.{lt_trans}
use Rattle.std.proofs.lemmas.Option.{none-some, same_Some}
use mathlib.Core.List.Memᴰ
use mathlib.Core.List.{Memᴰ}
use Rattle.std.specs.List.{slice_get, remove}
use Rattle.medium.specs.Waiting.{Waiting, older_by, age_limit}
use Rattle.wire.specs.Content.{content}
use Rattle.wire.specs.Frames.{held, older, added, frame_at}
use Rattle.wire.specs.Records.{age_at, waiting_as}
use Rattle.wire.specs.declared.record.Record.{Record}
use Rattle.wire.specs.declared.store.Store.{Store}
use Rattle.wire.specs.Ageing.{Falling, falling_is}
use Rattle.ring.specs.Items.{items}

-- x is one of the frames, one older.
abbrev pub Older : List Waiting → Waiting → Type 0
Older ws x = (y : Waiting) × Memᴰ y ws × (x ≡ older_by 1 y)

pub in_older : (ws : List Waiting) (x : Waiting) → Memᴰ x (older ws) → Older ws x
in_older [] x i = absurd (Memᴰ.not-nil i)
in_older (w ∷ ws) x i = go (nat_lt (w.age + 1) age_limit) (λ k. in_older ws x k) i
  where
    more : Older ws x → Older (w ∷ ws) x
    more r = (r.0, Memᴰ.tail r.1, r.2)

    go : (b : Bool) → (Memᴰ x (older ws) → Older ws x) → Memᴰ x (cond b (older_by 1 w ∷ older ws) (older ws)) → Older (w ∷ ws) x
    go true below j = ⊎_elim (λ e. (w, Memᴰ.head refl, e)) (λ k. more (below k)) (Memᴰ.cases_cons j)
    go false below j = more (below j)

pub in_added : (w : Waiting) (ws : List Waiting) (x : Waiting) → Memᴰ x (added w ws) → Memᴰ x ws ⊎ (x ≡ w)
in_added w ws x i = go (nat_lt (length ws) 64) i
  where
    go : (b : Bool) → Memᴰ x (cond b (ws ++ w ∷ []) ws) → Memᴰ x ws ⊎ (x ≡ w)
    go true j = ⊎_elim inl (λ k. inr (Memᴰ.eq_of_singleton k)) (Memᴰ.append_cases ws j)
    go false j = inl j

pub in_removed : {X : Type 0} (xs : List X) (i : ℕ) (x : X) → Memᴰ x (remove xs i) → Memᴰ x xs
in_removed [] zero x m = m
in_removed [] (suc i) x m = m
in_removed (y ∷ xs) zero x m = Memᴰ.tail m
in_removed (y ∷ xs) (suc i) x m = ⊎_elim Memᴰ.head (λ k. Memᴰ.tail (in_removed xs i x k)) (Memᴰ.cases_cons m)

pub in_rest : {X : Type 0} (xs : List X) (x : X) → Memᴰ x (drop 1 xs) → Memᴰ x xs
in_rest [] x m = m
in_rest (y ∷ xs) x m = Memᴰ.tail m

pub in_nth : {X : Type 0} (xs : List X) (i : ℕ) (x : X) → slice_get xs i ≡ Some x → Memᴰ x xs
in_nth [] i x e = absurd (none-some x e)
in_nth (y ∷ xs) zero x e = Memᴰ.head (sym (same_Some y x e))
in_nth (y ∷ xs) (suc i) x e = Memᴰ.tail (in_nth xs i x e)

pub in_map : {X Y : Type 0} (f : X → Y) (xs : List X) (y : Y) → Memᴰ y (map f xs) → (x : X) × Memᴰ x xs × (y ≡ f x)
in_map f xs y m = let r = Memᴰ.of_map f xs m in (r.0, r.1, sym r.2)

-- The frame whose bytes are told.
pub frame_from : (ws : List Waiting) (i : ℕ) (f : List ℕ) → Some f ≡ frame_at ws i → (x : Waiting) × (slice_get ws i ≡ Some x) × (x.bytes ≡ f)
frame_from [] i f e = absurd (none-some f (sym e))
frame_from (w ∷ ws) zero f e = (w, refl, sym (same_Some f w.bytes e))
frame_from (w ∷ ws) (suc i) f e = frame_from ws i f e

young_all : (p b : ℕ) (frames : List (List ℕ)) (rs : List Record) (x : Waiting) → Falling p b rs → Memᴰ x (map (waiting_as p frames) rs) → x.age < b
young_all p b frames [] x f m = absurd (Memᴰ.not-nil m)
young_all p b frames (r ∷ rs) x f m =
    ⊎_elim
    (λ e. subst (λ (w : Waiting). w.age < b) (sym e) f.1.0)
    (λ k. lt_trans (young_all p (age_at p r) frames rs x f.1.1 k) f.1.0)
    (Memᴰ.cases_cons m)

-- No frame of a store has reached the age limit.
pub held_young : (s : Store) (x : Waiting) → Memᴰ x (held s) → x.age < age_limit
held_young s x m = young_all s.puts 2048 (map content s.slots) (items s.ring s.records) x (falling_is s.puts 2048 (items s.ring s.records) s.young) m
