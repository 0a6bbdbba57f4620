-- A frame that waits in a medium.
use Rattle.std.specs.Prelude.{ℕ, ◌+◌, List}
use Rattle.medium.specs.declared.side.Side.{Side}
use Rattle.medium.specs.declared.side.Side.TheVariants.{Left, Right}

-- The longest frame that is carried, in bytes.
abbrev pub longest_frame : ℕ
longest_frame = 276

-- The age at which a frame no longer comes out.
abbrev pub age_limit : ℕ
age_limit = 2048

-- The side across.
abbrev pub other_side : Side → Side
other_side Left = Right
other_side Right = Left

-- A waiting frame: the side it waits for, its bytes, and its age, the number of frames put in after it from either side.
pub record Waiting : Type 0 where
  pub side : Side
  pub bytes : List ℕ
  pub age : ℕ

-- A frame as it is put in.
abbrev pub fresh : Side → List ℕ → Waiting
fresh s f = record { side = s; bytes = f; age = 0 }

-- The same frame after k more puts.
abbrev pub older_by : ℕ → Waiting → Waiting
older_by k w = record { side = w.side; bytes = w.bytes; age = w.age + k }
