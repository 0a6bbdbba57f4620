-- What writing a frame into a place answers, and what the place holds afterwards.
use Rattle.std.specs.Prelude.{◌≡◌, ℕ, not, List, [], ◌∷◌, ◌++◌, length, drop, Ok, Err, Result, nat_lt, codes}
use Rattle.frame.specs.declared.writer.Refusal.{Refusal}
use Rattle.frame.specs.declared.writer.Refusal.TheVariants.{Range, Room}
use Rattle.frame.specs.Fields.{Fields}
use Rattle.frame.specs.Layout.{size, bytes}
use Rattle.frame.specs.Ranges.{in_range}
use Rattle.frame.specs.Checks.{judged}

-- The length of the frame, or why it is not written.
abbrev pub written : Fields → List ℕ → Result ℕ Refusal
written f place = judged ((not (in_range f), Range) ∷ (nat_lt (length place) (size f), Room) ∷ []) (size f)

-- The frame stands at the front and what lies behind it stays; a refusal leaves the place as it was.
abbrev pub placed : Result ℕ Refusal → Fields → List ℕ → List ℕ
placed (Ok n) f place = bytes f ++ drop n place
placed (Err e) f place = place

abbrev pub refusal_text : Refusal → List ℕ
refusal_text Range = codes "a field lies outside its range"
refusal_text Room = codes "the place is shorter than the frame"

-- A frame that fits was written: its length, and its bytes before what stood behind.
pub record Wrote (f : Fields) (before : List ℕ) (n : ℕ) (after : List ℕ) : Type 0 where
  pub value : n ≡ size f
  pub place : after ≡ bytes f ++ drop (size f) before
