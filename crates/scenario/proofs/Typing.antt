-- What is printed can be typed again: bytes behind `read` say these bytes.
use Rattle.std.proofs.Common.{◌≡◌, ℕ, zero, suc, ◌/◌, ◌%◌, ◌<◌, List, [], ◌∷◌, ◌++◌, length, get_or, Some, None, Ok, codes, Option, ap, ◌∙◌, arith, ne_eqb}
use Rattle.std.specs.List.{flat_map}
use Rattle.std.proofs.lemmas.Bool.Decides.{nat_tests}
use Rattle.scenario.specs.Hex.{digit_of, pair_of, hexed, unhexed}
use Rattle.scenario.specs.Words.{Taken, next, some_word, or_wrong, bytes_after}
use Rattle.scenario.specs.Wrong.{bytes_text}
use Rattle.scenario.specs.Lines.{read, ended, said_by}
use Rattle.scenario.proofs.Cutting.{Unspaced, first_alone, behind_alone}
use Rattle.scenario.proofs.Hexing.{unhexed_hexed}

unspaced_more : (c : ℕ) (cs : List ℕ) → (c ≡ 32 → ⊥) → Unspaced cs → Unspaced (c ∷ cs)
unspaced_more c cs other u zero h e = other e
unspaced_more c cs other u (suc i) h e = u i (omega arith) e

digit_other : (n : ℕ) → digit_of n ≡ 32 → ⊥
digit_other n e = grind (arith, nat_tests)

pairs_unspaced : (bs : List ℕ) → Unspaced (flat_map pair_of bs)
pairs_unspaced [] = λ i h e. omega arith
pairs_unspaced (b ∷ bs) =
    unspaced_more (digit_of (b / 16)) (digit_of (b % 16) ∷ flat_map pair_of bs) (digit_other (b / 16))
    (unspaced_more (digit_of (b % 16)) (flat_map pair_of bs) (digit_other (b % 16)) (pairs_unspaced bs))

hexed_unspaced : (bs : List ℕ) → Unspaced (hexed bs)
hexed_unspaced [] = unspaced_more 45 [] (λ e. omega arith) (λ i h e. omega arith)
hexed_unspaced (b ∷ bs) = pairs_unspaced (b ∷ bs)

-- A text without a space is one word.
pub word_alone : (w : List ℕ) → Unspaced w → 0 < length w → some_word w ≡ Ok (w, None)
word_alone w u some' = rw (first_alone w u, behind_alone w u, ne_eqb (length w) 0 (λ e. omega arith))

pub bytes_alone : (bs : List ℕ) → ((i : ℕ) → get_or bs i 0 < 256) → bytes_after (Some (hexed bs)) ≡ Ok (bs, None)
bytes_alone bs small =
    ap (λ (t : Taken (List ℕ)). next t (λ word left. or_wrong (unhexed word) (bytes_text word) left)) (word_alone (hexed bs) (hexed_unspaced bs) (let u = unhexed_hexed bs small in grind (arith, u)))
    ∙ ap (λ (o : Option (List ℕ)). or_wrong o (bytes_text (hexed bs)) None) (unhexed_hexed bs small)

pub read_typed : (bs : List ℕ) → ((i : ℕ) → get_or bs i 0 < 256) → said_by (codes "read " ++ hexed bs) ≡ Ok (read bs)
read_typed bs small = ap (λ (t : Taken (List ℕ)). ended (next t (λ bs left. Ok (read bs, left)))) (bytes_alone bs small)
