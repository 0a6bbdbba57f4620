-- What the records of a store mean, and what keeps them apart.
use Rattle.std.specs.Prelude.{◌≡◌, ℕ, ◌+◌, ◌-◌, ◌%◌, ◌<◌, Bool, true, false, ◌&&◌, List, [], ◌∷◌, map, nat_le, nat_lt, slice_index, slice_index_or}
use Rattle.medium.specs.Waiting.{Waiting, age_limit}
use Rattle.wire.specs.declared.record.Record.{Record}

-- How many frames were put in after the frame of a record, at a count of puts that goes round at 65,536.
abbrev pub age_at : ℕ → Record → ℕ
age_at puts r = (puts + 65536 - r.stamp) % 65536

-- The waiting frame that a record stands for, by the frames in the slots.
abbrev pub waiting_as : ℕ → List (List ℕ) → Record → Waiting
waiting_as puts frames r = record { side = r.side; bytes = slice_index_or frames r.slot []; age = age_at puts r }

-- From the oldest on, ages fall, and the first lies below a bound.
abbrev pub falling : ℕ → (bound : ℕ) → List Record → Bool
falling puts bound [] = true
falling puts bound (r ∷ rs) = nat_lt r.stamp 65536 && (nat_lt (age_at puts r) bound && falling puts (age_at puts r) rs)

-- Whether the oldest frame reaches the age limit with one more put.
abbrev pub last_put : ℕ → List Record → Bool
last_put puts [] = false
last_put puts (r ∷ rs) = nat_le (age_limit - 1) (age_at puts r)

-- No frame is new.
abbrev pub Aged : ℕ → List Record → Type 0
Aged puts [] = Unit {0}
Aged puts (r ∷ rs) = (0 < age_at puts r) × Aged puts rs

-- The slots that the records name, free ones too.
abbrev pub slots_named : List Record → List ℕ
slots_named rs = map (λ r. r.slot) rs

-- The first n records name the slots of their own numbers.
abbrev pub Numbered : ℕ → List Record → Type 0
Numbered n rs = (i : ℕ) → i < n → slice_index (slots_named rs) i ≡ i

-- Only the 64 slots are named.
abbrev pub Slotted : List ℕ → Type 0
Slotted ns = (i : ℕ) → slice_index ns i < 64

-- No slot is named twice.
abbrev pub Single : List ℕ → Type 0
Single ns = (i j : ℕ) → (i < 64) × (j < 64) × (slice_index ns i ≡ slice_index ns j) → i ≡ j
