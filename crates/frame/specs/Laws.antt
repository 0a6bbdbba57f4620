-- What reading and writing mean, whatever their steps: the format of `Layout` and the ranges of `Ranges` alone.
use Rattle.std.specs.Prelude.{◌≡◌, ℕ, true, List, ◌++◌, Ok, Err, Result}
use Rattle.frame.specs.Fields.{Fields}
use Rattle.frame.specs.Layout.{bytes}
use Rattle.frame.specs.Ranges.{in_range}
use Rattle.frame.specs.Reader.{frame_of}

-- The bytes are the frame of these fields, which are in range, and then padding.
pub record Carries (bs : List ℕ) (f : Fields) : Type 0 where
  pub range : in_range f ≡ true
  pub padding : List ℕ
  pub same : bs ≡ bytes f ++ padding

-- What an answer of the reader means for the bytes that it read.
pub record Means {E : Type 0} (bs : List ℕ) (r : Result Fields E) : Type 0 where
  -- a frame is read as the fields that it was made of, whatever padding lies behind
  pub reads_back : (f : Fields) → Carries bs f → r ≡ Ok f
  -- what is accepted is exactly the frame of the fields answered, and then padding
  pub accepted : (f : Fields) → r ≡ Ok f → Carries bs f
  -- what is refused is no frame
  pub refused : (e : E) → r ≡ Err e → (f : Fields) → Carries bs f → ⊥
  -- what is no frame is refused
  pub no_frame : ((f : Fields) → Carries bs f → ⊥) → (e : E) × (r ≡ Err e)
  -- no bytes are the frame of two sets of fields
  pub one : (f g : Fields) → Carries bs f → Carries bs g → f ≡ g

-- A frame that was written reads as the fields it was made of.
abbrev pub ReadsBack : {E : Type 0} → Result ℕ E → Fields → List ℕ → Type 0
ReadsBack (Ok n) f place = frame_of place ≡ Ok f
ReadsBack (Err e) f place = Unit {0}
