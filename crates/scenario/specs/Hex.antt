-- Bytes as text: two digits for each byte, `-` for no bytes.
use Rattle.std.specs.Prelude.{ℕ, ◌+◌, ◌-◌, ◌*◌, ◌/◌, ◌%◌, cond, List, [], ◌∷◌, ◌++◌, Some, None, Option, ◌==◌, nat_lt}
use Rattle.std.specs.List.{flat_map}

-- The digit of a value below 16: 0 to 9, then A to F.
abbrev pub digit_of : ℕ → ℕ
digit_of n = cond (nat_lt n 10) (48 + n) (55 + n)

-- The two digits of a byte.
abbrev pub pair_of : ℕ → List ℕ
pair_of b = digit_of (b / 16) ∷ digit_of (b % 16) ∷ []

-- The text of bytes.
abbrev pub hexed : List ℕ → List ℕ
hexed [] = 45 ∷ []
hexed (b ∷ bs) = flat_map pair_of (b ∷ bs)

-- The value of a digit. Lower-case letters are no digits.
abbrev pub nibble_of : ℕ → Option ℕ
nibble_of c =
    cond (nat_lt c 48) None (cond (nat_lt c 58) (Some (c - 48)) (cond (nat_lt c 65) None (cond (nat_lt c 71) (Some (c - 55)) None)))

abbrev pub byte_of : Option ℕ → Option ℕ → Option ℕ
byte_of None low = None
byte_of (Some h) None = None
byte_of (Some h) (Some l) = Some (h * 16 + l)

-- Bytes before what follows, if it can be read.
abbrev pub before : List ℕ → Option (List ℕ) → Option (List ℕ)
before bs None = None
before bs (Some cs) = Some (bs ++ cs)

abbrev pub and_then : Option ℕ → Option (List ℕ) → Option (List ℕ)
and_then None bs = None
and_then (Some b) bs = before (b ∷ []) bs

-- The bytes of a row of pairs; an odd digit stands for none.
abbrev pub paired : List ℕ → Option (List ℕ)
paired [] = Some []
paired (c ∷ []) = None
paired (c ∷ d ∷ cs) = and_then (byte_of (nibble_of c) (nibble_of d)) (paired cs)

-- The bytes that a text stands for. An empty text stands for none at all: no bytes are written `-`.
abbrev pub unhexed : List ℕ → Option (List ℕ)
unhexed [] = None
unhexed (c ∷ []) = cond (c == 45) (Some []) None
unhexed (c ∷ d ∷ cs) = paired (c ∷ d ∷ cs)
