-- A row of checks: the first that fails names the fault.
use Rattle.std.specs.Prelude.{Bool, cond, List, [], ◌∷◌, Ok, Err, Result}

-- What is wrong where the test holds, in the order of trying.
abbrev pub Checks : Type 0 → Type 0
Checks E = List (Bool × E)

abbrev pub judged : {A E : Type 0} → Checks E → A → Result A E
judged [] x = Ok x
judged (c ∷ cs) x = cond c.0 (Err c.1) (judged cs x)

-- Goes on with what was read; a fault of the layer below is passed on whole.
abbrev pub then : {A B E F : Type 0} → (E → F) → Result A E → (A → Result B F) → Result B F
then up (Ok x) go = go x
then up (Err e) go = Err (up e)
