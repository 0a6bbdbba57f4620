-- What the rules of every medium keep to.
use Rattle.std.specs.Prelude.{◌≡◌, ℕ, ◌<◌, ◌≤◌, ◌⊎◌, List, [], length, take, drop, Some, None, Option, MatchOption}
use mathlib.Core.List.{Memᴰ}
use Rattle.std.specs.Option.{option_map}
use Rattle.medium.specs.declared.side.Side.{Side}
use Rattle.medium.specs.Waiting.{Waiting, other_side, fresh, older_by, longest_frame, age_limit}

-- The frame that came out, by the length that a take answered and the place afterwards.
abbrev pub frame_given : Option ℕ → (place : List ℕ) → Option (List ℕ)
frame_given r place = option_map (λ n. take n place) r

-- What a take does to the place: none leaves it as it was, a frame leaves what stands behind it.
abbrev pub Filled : Option ℕ → (before after : List ℕ) → Type 0
Filled r before after = MatchOption r (after ≡ before) (λ n. (n ≤ length before) × (drop n after ≡ drop n before))

-- After a put, x is one that waited before, one older, or the new frame, for the other side.
abbrev pub AgedOrNew : Side → (frame : List ℕ) → (before : List Waiting) → Waiting → Type 0
AgedOrNew from frame before x =
    ((y : Waiting) × Memᴰ y before × (x ≡ older_by 1 y)) ⊎ (x ≡ fresh (other_side from) frame)

-- Some frame with these bytes waited for a side, young enough to come out.
pub record Due (side : Side) (frame : List ℕ) (before : List Waiting) : Type 0 where
  pub one : Waiting
  pub waited : Memᴰ one before
  pub here : one.side ≡ side
  pub same : one.bytes ≡ frame
  pub young : one.age < age_limit

-- What the rules of put and take keep to, for any kind of medium S.
pub record Laws {S : Type 0} (begins : S → Type 0) (waiting : S → List Waiting) (puts : S → Side → List ℕ → S → Type 0) (takes : S → Side → ℕ → Option (List ℕ) → S → Type 0) : Type 0 where
  -- It begins with nothing waiting.
  pub starts_empty : (m : S) → begins m → waiting m ≡ []
  -- After a put each waiting frame waited before for the same side and is one older, or is the new one at age 0 for the other side.
  pub put_ages : (m : S) (from : Side) (frame : List ℕ) (n : S) → puts m from frame n → length frame ≤ longest_frame → (x : Waiting) → Memᴰ x (waiting n) → AgedOrNew from frame (waiting m) x
  -- A frame that is too long changes nothing.
  pub put_long : (m : S) (from : Side) (frame : List ℕ) (n : S) → puts m from frame n → longest_frame < length frame → n ≡ m
  -- What comes out waited for that side and is young enough.
  pub take_due : (m : S) (side : Side) (room : ℕ) (frame : List ℕ) (n : S) → takes m side room (Some frame) n → Due side frame (waiting m)
  -- What waits after a take waited before, for the same side at the same age.
  pub take_keeps : (m : S) (side : Side) (room : ℕ) (r : Option (List ℕ)) (n : S) → takes m side room r n → (x : Waiting) → Memᴰ x (waiting n) → Memᴰ x (waiting m)
  -- A place that is too short gets none, and nothing changes.
  pub take_short : (m : S) (side : Side) (room : ℕ) (r : Option (List ℕ)) (n : S) → takes m side room r n → room < longest_frame → (r ≡ None) × (n ≡ m)
