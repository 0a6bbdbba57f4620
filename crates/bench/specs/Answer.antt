-- What the bench prints for a line.
use Rattle.std.specs.Prelude.{◌≡◌, ℕ, true, cond, List, [], ◌∷◌, ◌++◌, drop, Some, None, Ok, Err, codes, decimal, Option, Result}
use Rattle.frame.specs.Fields.{Fields}
use Rattle.frame.specs.Faults.{fault_text}
use Rattle.frame.specs.Kinds.{code}
use Rattle.frame.specs.Layout.{bytes}
use Rattle.frame.specs.Ranges.{in_range}
use Rattle.frame.specs.Reader.{frame_of}
use Rattle.frame.specs.declared.fault.FrameFault.{FrameFault}
use Rattle.scenario.specs.Form.{line, form_text}
use Rattle.scenario.specs.Hex.{hexed}
use Rattle.scenario.specs.Lines.{Said, nothing, read, cread, write, said_by}

-- What was read, or why nothing was.
abbrev pub read_text : Result Fields FrameFault → List ℕ
read_text (Ok f) = codes "read -> " ++ form_text f
read_text (Err e) = codes "read -> " ++ fault_text e

-- The number that a caller from C is told.
abbrev pub cread_text : List ℕ → List ℕ
cread_text bs = codes "cread -> " ++ decimal (code (frame_of bs))

-- The bytes of a frame, or none where a field is out of its range.
abbrev pub write_text : Fields → List ℕ
write_text f = codes "write -> " ++ cond (in_range f) (hexed (bytes f)) (codes "none")

-- The answer to what a line says.
abbrev pub answer_of : Said → Option (List ℕ)
answer_of nothing = None
answer_of (read bs) = Some (read_text (frame_of bs))
answer_of (cread bs) = Some (cread_text bs)
answer_of (write f) = Some (write_text f)

-- What is wrong with the line of a number.
abbrev pub wrong_line : ℕ → (wrong : List ℕ) → List ℕ
wrong_line n wrong = line (codes "line " ∷ decimal n ∷ codes ": " ∷ wrong ∷ [])

-- What is printed for the line of a number: the answer, or what is wrong with it.
abbrev pub printed : ℕ → Result Said (List ℕ) → Option (List ℕ)
printed n (Ok s) = answer_of s
printed n (Err wrong) = Some (wrong_line n wrong)

-- What was printed for fields in range, typed behind `read`, prints the form of these fields.
abbrev pub ReadsBack : Fields → (text : List ℕ) → Type 0
ReadsBack f text = in_range f ≡ true → (n : ℕ) → printed n (said_by (codes "read " ++ drop 9 text)) ≡ Some (codes "read -> " ++ form_text f)

-- What was printed for a frame that was read, typed behind `write`, prints the bytes of that frame, without its padding.
abbrev pub WritesBack : Result Fields FrameFault → (text : List ℕ) → Type 0
WritesBack r text =
    (f : Fields) → r ≡ Ok f → (n : ℕ) → printed n (said_by (codes "write " ++ drop 8 text)) ≡ Some (codes "write -> " ++ hexed (bytes f))
