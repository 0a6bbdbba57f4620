-- What is wrong with a line, in words.
use Rattle.std.specs.Prelude.{ℕ, List, [], ◌∷◌, codes}
use Rattle.scenario.specs.Form.{line}
use Rattle.scenario.specs.declared.wrong.Wrong.{Wrong}
use Rattle.scenario.specs.declared.wrong.Wrong.TheVariants.{Command, Form, Gap, Missing, Word, Number, Bytes, Rest}

abbrev pub command_text : (found : List ℕ) → List ℕ
command_text found = line (codes "unknown command `" ∷ found ∷ codes "`" ∷ [])

abbrev pub unknown_text : (found : List ℕ) → List ℕ
unknown_text found = line (codes "unknown form `" ∷ found ∷ codes "`; a form is conn, ack, nack, udata or frag" ∷ [])

abbrev pub gap_text : List ℕ
gap_text = codes "words stand apart by one space, and none ends the line"

abbrev pub missing_text : (wanted : List ℕ) → List ℕ
missing_text wanted = line (codes "too few words: " ∷ wanted ∷ codes " should follow" ∷ [])

abbrev pub word_text : (wanted found : List ℕ) → List ℕ
word_text wanted found = line (codes "expected the word `" ∷ wanted ∷ codes "`, found `" ∷ found ∷ codes "`" ∷ [])

abbrev pub number_text : (found : List ℕ) → List ℕ
number_text found = line (codes "`" ∷ found ∷ codes "` is not a number; a number is decimal digits" ∷ [])

abbrev pub bytes_text : (found : List ℕ) → List ℕ
bytes_text found =
    line (codes "`" ∷ found ∷ codes "` is not bytes; bytes are upper-case pairs without spaces, as AABB, or - for none" ∷ [])

abbrev pub rest_text : (found : List ℕ) → List ℕ
rest_text found = line (codes "too many words: `" ∷ found ∷ codes "` follows a whole line" ∷ [])

abbrev pub wrong_text : Wrong → List ℕ
wrong_text (Command found) = command_text found.now
wrong_text (Form found) = unknown_text found.now
wrong_text Gap = gap_text
wrong_text (Missing wanted) = missing_text wanted.now
wrong_text (Word wanted found) = word_text wanted.now found.now
wrong_text (Number found) = number_text found.now
wrong_text (Bytes found) = bytes_text found.now
wrong_text (Rest found) = rest_text found.now
