-- The words of a line, which stand apart by one space, taken one after the other.
use Rattle.std.specs.Prelude.{◌≡◌, ℕ, min, cond, ◌&&◌, List, [], ◌∷◌, length, Some, None, Ok, Err, codes, Option, Result, ◌==◌, nat_lt}
use Rattle.std.specs.Borrow.{Bor}
use Rattle.std.specs.Option.{option_map, option_and_then}
use Rattle.std.specs.Str.Parse.{digits_value}
use Rattle.std.specs.Str.{all_ascii_digits, bytes_eq}
use Rattle.scenario.specs.declared.words.Words.{Words}
use Rattle.scenario.specs.declared.wrong.Wrong.{Wrong}
use Rattle.scenario.specs.declared.wrong.Stop.{Stop}
use Rattle.scenario.specs.declared.wrong.Stop.TheVariants as stop
use Rattle.scenario.specs.Hex.{unhexed}
use Rattle.scenario.specs.Wrong.{wrong_text, gap_text, missing_text, word_text, number_text, bytes_text, rest_text}

-- What is left of a line: none behind the last word.
abbrev pub Rest : Type 0
Rest = Option (List ℕ)

abbrev pub rest_of : Words → Rest
rest_of w = option_map (λ t. t.now) w.rest

-- Up to the first space.
abbrev pub first_word : List ℕ → List ℕ
first_word [] = []
first_word (c ∷ cs) = cond (c == 32) [] (c ∷ first_word cs)

-- Behind the first space.
abbrev pub behind_word : List ℕ → Rest
behind_word [] = None
behind_word (c ∷ cs) = cond (c == 32) (Some cs) (behind_word cs)

-- What a call of `next` gives: the word up to the next space, and what is left behind it.
pub record Cuts (old : Words) (word : Option (Bor (List ℕ))) (new : Words) : Type 0 where
  pub first : option_map (λ t. t.now) word ≡ option_map first_word (rest_of old)
  pub left : rest_of new ≡ option_and_then behind_word (rest_of old)

-- What was taken from a line and what is left of it, or what is wrong, in words.
abbrev pub Taken : Type 0 → Type 0
Taken A = Result (A × Rest) (List ℕ)

abbrev pub next : {A B : Type 0} → Taken A → (A → Rest → Taken B) → Taken B
next (Ok p) go = go p.0 p.1
next (Err wrong) go = Err wrong

-- The next word, which is not empty.
abbrev pub some_word : List ℕ → Taken (List ℕ)
some_word t = cond (length (first_word t) == 0) (Err gap_text) (Ok (first_word t, behind_word t))

abbrev pub word_after : (wanted : List ℕ) → Rest → Taken (List ℕ)
word_after wanted None = Err (missing_text wanted)
word_after wanted (Some t) = some_word t

-- The word that names what follows.
abbrev pub name_after : (name : List ℕ) → Rest → Taken (Unit {0})
name_after name rest =
    next (word_after name rest) (λ found left. cond (bytes_eq found name) (Ok (tt, left)) (Err (word_text name found)))

-- The number that a word writes, digits only. Past 32 bits it counts as the largest of these, which no field holds either.
abbrev pub number_of : List ℕ → Option ℕ
number_of w = cond (all_ascii_digits w && nat_lt 0 (length w)) (Some (min (digits_value 10 w) 4294967295)) None

abbrev pub or_wrong : {A : Type 0} → Option A → (wrong : List ℕ) → Rest → Taken A
or_wrong (Some x) wrong left = Ok (x, left)
or_wrong None wrong left = Err wrong

-- The number behind its name.
abbrev pub number_after : (name : List ℕ) → Rest → Taken ℕ
number_after name rest =
    next (name_after name rest) (λ _ left. next (word_after (codes "a number") left) (λ word end. or_wrong (number_of word) (number_text word) end))

abbrev pub bytes_after : Rest → Taken (List ℕ)
bytes_after rest = next (word_after (codes "bytes") rest) (λ word left. or_wrong (unhexed word) (bytes_text word) left)

-- Nothing is left.
abbrev pub end_after : Rest → Taken (Unit {0})
end_after None = Ok (tt, None)
end_after (Some t) = cond (length t == 0) (Err gap_text) (Err (rest_text t))

-- What a call answered, with what it left.
abbrev pub told : {A B : Type 0} → (A → B) → Result A Wrong → Rest → Taken B
told f (Ok x) left = Ok (f x, left)
told f (Err w) left = Err (wrong_text w)

-- The same where memory may run out, of which nothing is said.
abbrev pub Tells : {A B : Type 0} → (A → B) → Result A Stop → Result B (List ℕ) → Type 0
Tells f (Ok x) said = said ≡ Ok (f x)
Tells f (Err (stop.Wrong w)) said = said ≡ Err (wrong_text w)
Tells f (Err (stop.Memory e)) said = Unit {0}
