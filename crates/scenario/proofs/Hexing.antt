-- Bytes laid out as text, and the text read back.
use Rattle.std.proofs.Common.{◌≡◌, ℕ, suc, ◌-◌, ◌/◌, ◌%◌, ◌<◌, ◌≤◌, List, [], ◌∷◌, ◌++◌, map, length, get_or, take, drop, Some, None, Option, sym, refl, ap, ◌∙◌, append_assoc, arith}
use Rattle.std.specs.List.{flat_map}
use Rattle.std.specs.Str.{IsAscii}
use Rattle.std.proofs.lemmas.List.Folds.{flat_map-map}
use Rattle.std.proofs.lemmas.Str.Ascii.{IsAscii-nil, IsAscii-cons}
use Rattle.std.proofs.lemmas.List.{take_all}
use Rattle.std.proofs.lemmas.Bool.Decides.{nat_tests}
use Rattle.scenario.specs.Hex.{digit_of, pair_of, hexed, nibble_of, byte_of, before, and_then, paired, unhexed}

nibble_digit : (n : ℕ) → n < 16 → nibble_of (digit_of n) ≡ Some n
nibble_digit n h = grind (arith, nat_tests)

byte_pair : (b : ℕ) → b < 256 → byte_of (nibble_of (digit_of (b / 16))) (nibble_of (digit_of (b % 16))) ≡ Some b
byte_pair b h = rw (nibble_digit (b / 16) (omega arith), nibble_digit (b % 16) (omega arith)) (ap (λ (n : ℕ). Some n) (omega arith))

paired_back : (bs : List ℕ) → ((i : ℕ) → get_or bs i 0 < 256) → paired (flat_map pair_of bs) ≡ Some bs
paired_back [] h = refl
paired_back (b ∷ bs) h = ap (λ (o : Option ℕ). and_then o (paired (flat_map pair_of bs))) (byte_pair b (h 0)) ∙ ap (before (b ∷ [])) (paired_back bs (λ i. h (suc i)))

-- What was laid out as text reads back as the same bytes.
pub unhexed_hexed : (bs : List ℕ) → ((i : ℕ) → get_or bs i 0 < 256) → unhexed (hexed bs) ≡ Some bs
unhexed_hexed [] h = refl
unhexed_hexed (b ∷ bs) h = paired_back (b ∷ bs) h

pub two_first : (bs : List ℕ) → 2 ≤ length bs → bs ≡ get_or bs 0 0 ∷ get_or bs 1 0 ∷ take (length bs - 2) (drop 2 bs)
two_first [] h = absurd (omega arith)
two_first (a ∷ []) h = absurd (omega arith)
two_first (a ∷ b ∷ bs) h = ap (λ (l : List ℕ). a ∷ b ∷ l) (sym (take_all (length (a ∷ b ∷ bs) - 2) bs (omega arith)))

-- Bytes read one after the other.
before_before : (xs ys : List ℕ) (o : Option (List ℕ)) → before xs (before ys o) ≡ before (xs ++ ys) o
before_before xs ys None = refl
before_before xs ys (Some zs) = ap (λ (l : List ℕ). Some l) (sym (append_assoc xs ys zs))

pub read_more : (xs rest : List ℕ) (c d b : ℕ) (tail : List ℕ) → rest ≡ c ∷ d ∷ tail → Some b ≡ byte_of (nibble_of c) (nibble_of d) → before xs (paired rest) ≡ before (xs ++ (b ∷ [])) (paired tail)
read_more xs rest c d b tail e h =
    ap (λ (l : List ℕ). before xs (paired l)) e
    ∙ ap (λ (o : Option ℕ). before xs (and_then o (paired tail))) (sym h)
    ∙ before_before xs (b ∷ []) (paired tail)

digit_ascii : (n : ℕ) → n < 16 → digit_of n < 128
digit_ascii n h = grind (arith, nat_tests)

-- The digits of bytes are ASCII.
pub pairs_ascii : (bs : List ℕ) → ((i : ℕ) → get_or bs i 0 < 256) → IsAscii (flat_map pair_of bs)
pairs_ascii [] h = IsAscii-nil
pairs_ascii (b ∷ bs) h =
    let byte = h 0 in
    IsAscii-cons (digit_of (b / 16)) (digit_of (b % 16) ∷ flat_map pair_of bs) (digit_ascii (b / 16) (omega (arith, byte)))
    (IsAscii-cons (digit_of (b % 16)) (flat_map pair_of bs) (digit_ascii (b % 16) (omega arith)) (pairs_ascii bs (λ i. h (suc i))))

-- A row that begins with the pairs of bytes begins with their digits.
pub row_is : (row : List (List ℕ)) (bs : List ℕ) (i : ℕ) → i ≡ length bs → take i row ≡ map pair_of (take i bs) → flat_map (λ x. x) (take (length bs) row) ≡ flat_map pair_of bs
row_is row bs i all e =
    ap (λ (n : ℕ). flat_map (λ (x : List ℕ). x) (take n row)) (sym all)
    ∙ ap (flat_map (λ (x : List ℕ). x)) e
    ∙ flat_map-map (λ (x : List ℕ). x) pair_of (take i bs)
    ∙ ap (flat_map pair_of) (take_all i bs (omega (arith, all)))
