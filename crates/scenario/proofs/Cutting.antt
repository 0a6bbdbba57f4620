-- The first word of a text and what lies behind it.
use Rattle.std.proofs.Common.{◌≡◌, ℕ, suc, ◌<◌, false, eqb, List, [], ◌∷◌, ◌++◌, length, get_or, Some, None, refl, ap, arith, ne_eqb}
use Rattle.scenario.specs.Words.{first_word, behind_word}

-- No byte of it is a space.
abbrev pub Unspaced : List ℕ → Type 0
Unspaced w = (i : ℕ) → i < length w → get_or w i 0 ≡ 32 → ⊥

head_other : (c : ℕ) (cs : List ℕ) → Unspaced (c ∷ cs) → eqb c 32 ≡ false
head_other c cs u = ne_eqb c 32 (λ e. u 0 (omega arith) e)

tail_unspaced : (c : ℕ) (cs : List ℕ) → Unspaced (c ∷ cs) → Unspaced cs
tail_unspaced c cs u i h e = u (suc i) (omega arith) e

pub first_before : (w t : List ℕ) → Unspaced w → first_word (w ++ (32 ∷ t)) ≡ w
first_before [] t u = refl
first_before (c ∷ cs) t u = rw (head_other c cs u) (ap (λ (l : List ℕ). c ∷ l) (first_before cs t (tail_unspaced c cs u)))

pub behind_before : (w t : List ℕ) → Unspaced w → behind_word (w ++ (32 ∷ t)) ≡ Some t
behind_before [] t u = refl
behind_before (c ∷ cs) t u = rw (head_other c cs u) (behind_before cs t (tail_unspaced c cs u))

pub first_alone : (w : List ℕ) → Unspaced w → first_word w ≡ w
first_alone [] u = refl
first_alone (c ∷ cs) u = rw (head_other c cs u) (ap (λ (l : List ℕ). c ∷ l) (first_alone cs (tail_unspaced c cs u)))

pub behind_alone : (w : List ℕ) → Unspaced w → behind_word w ≡ None
behind_alone [] u = refl
behind_alone (c ∷ cs) u = rw (head_other c cs u) (behind_alone cs (tail_unspaced c cs u))
