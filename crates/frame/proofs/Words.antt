-- A word and its four bytes give each other.
use Rattle.std.proofs.Common.{◌≡◌, ℕ, ◌+◌, ◌*◌, ◌/◌, ◌%◌, ◌<◌, ◌≤◌, List, [], ◌∷◌, ◌++◌, length, get_or, drop, refl, subst, arith}
use Rattle.std.proofs.lemmas.List.{drop_more}
use Rattle.frame.specs.Layout.{Row, packed, big_endian}
use Rattle.frame.specs.Reader.{word_at}
use Rattle.frame.proofs.Rows.{Stand, stand_packed, packed_stand}

-- A list of bytes.
abbrev pub Bytes : List ℕ → Type 0
Bytes bs = (i : ℕ) → get_or bs i 0 < 256

-- Four bytes are a row of four fields.
four : (a b c d : ℕ) → Row
four a b c d = (8, a) ∷ (8, b) ∷ (8, c) ∷ (8, d) ∷ []

pub word_laid : (w : ℕ) (rest : List ℕ) → w < 4294967296 → word_at (big_endian w ++ rest) 0 ≡ w
unfolding four
word_laid w rest h =
    let e : w ≡ packed (four (w / 16777216 % 256) (w / 65536 % 256) (w / 256 % 256) (w % 256)) = stand_packed w (four (w / 16777216 % 256) (w / 65536 % 256) (w / 256 % 256) (w % 256)) h (refl, (refl, (refl, (omega arith, tt)))) in
    omega arith

bytes_stand : (w a b c d : ℕ) → Stand w (four a b c d) → big_endian w ≡ a ∷ b ∷ c ∷ d ∷ []
unfolding four
bytes_stand w a b c d t = let last : w / 1 % 256 ≡ w % 256 = omega arith in cc

bytes_laid : (a b c d : ℕ) → a < 256 → b < 256 → c < 256 → d < 256 → big_endian (a * 16777216 + b * 65536 + c * 256 + d) ≡ a ∷ b ∷ c ∷ d ∷ []
unfolding four
bytes_laid a b c d ha hb hc hd =
    let w : ℕ = a * 16777216 + b * 65536 + c * 256 + d in
    let same : packed (four a b c d) ≡ w = omega arith in
    bytes_stand w a b c d (subst (λ (v : ℕ). Stand v (four a b c d)) same (packed_stand (four a b c d) (ha, (hb, (hc, (hd, tt))))))

-- The word at a place and what lies behind it.
pub word_split : (bs : List ℕ) (at : ℕ) → Bytes bs → at + 4 ≤ length bs → drop at bs ≡ big_endian (word_at bs at) ++ drop (at + 4) bs
word_split bs at small room =
    let laid : big_endian (word_at bs at) ≡ get_or bs at 0 ∷ get_or bs (at + 1) 0 ∷ get_or bs (at + 2) 0 ∷ get_or bs (at + 3) 0 ∷ [] = bytes_laid (get_or bs at 0) (get_or bs (at + 1) 0) (get_or bs (at + 2) 0) (get_or bs (at + 3) 0) (small at) (small (at + 1)) (small (at + 2)) (small (at + 3)) in
    let e0 : drop at bs ≡ get_or bs at 0 ∷ drop (at + 1) bs = drop_more bs at 0 (omega arith) in
    let e1 : drop (at + 1) bs ≡ get_or bs (at + 1) 0 ∷ drop (at + 1 + 1) bs = drop_more bs (at + 1) 0 (omega arith) in
    let e2 : drop (at + 2) bs ≡ get_or bs (at + 2) 0 ∷ drop (at + 2 + 1) bs = drop_more bs (at + 2) 0 (omega arith) in
    let e3 : drop (at + 3) bs ≡ get_or bs (at + 3) 0 ∷ drop (at + 3 + 1) bs = drop_more bs (at + 3) 0 (omega arith) in
    let two : at + 1 + 1 ≡ at + 2 = omega arith in
    let three : at + 2 + 1 ≡ at + 3 = omega arith in
    let next : at + 3 + 1 ≡ at + 4 = omega arith in
    cc
