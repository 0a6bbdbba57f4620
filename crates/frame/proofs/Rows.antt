-- A word and the fields of its row give each other, whatever the row.
use Rattle.std.proofs.Common.{◌≡◌, ℕ, ◌+◌, ◌*◌, ◌%◌, ◌^◌, ◌<◌, [], ◌∷◌, sym, ap, ◌∙◌, subst, add_assoc, mod-eq_of_lt, mul_assoc, add-mul, arith, lit<}
use lib.Arith.{digits_lt}
use Rattle.std.proofs.lemmas.Nat.{pow-add, mod-pow-add, shr_high, mod_low}
use Rattle.frame.specs.Layout.{Row, width, packed}
use Rattle.frame.specs.Reader.{field}

-- Every value fits its width.
abbrev pub Fit : Row → Type 0
Fit [] = Unit {0}
Fit (f ∷ fs) = (f.1 < 2 ^ f.0) × Fit fs

-- Every field stands in the word, at its place.
abbrev pub Stand : ℕ → Row → Type 0
Stand w [] = Unit {0}
Stand w (f ∷ fs) = (field w (width fs) f.0 ≡ f.1) × Stand w fs

pub packed_below : (r : Row) → Fit r → packed r < 2 ^ width r
packed_below [] h = lit< tt
packed_below (f ∷ fs) h = rw pow-add (digits_lt h.0 (packed_below fs h.1))

-- Whatever stands above the row.
stand_below : (x : ℕ) (r : Row) → Fit r → Stand (x * 2 ^ width r + packed r) r
stand_below x [] h = tt
stand_below x (f ∷ fs) h =
    let k : ℕ = f.0 in
    let n : ℕ = width fs in
    let low : packed fs < 2 ^ n = packed_below fs h.1 in
    let same : (x * 2 ^ k + f.1) * 2 ^ n + packed fs ≡ x * 2 ^ (k + n) + (f.1 * 2 ^ n + packed fs) = simp (pow-add, add-mul, mul_assoc, add_assoc) in
    subst (λ (w : ℕ). Stand w (f ∷ fs)) same (
      ap (λ (q : ℕ). q % 2 ^ k) (shr_high (x * 2 ^ k + f.1) n (packed fs) low) ∙ mod_low x k f.1 h.0,
      stand_below (x * 2 ^ k + f.1) fs h.1,
    )

-- The fields that a row was made of stand in its word.
pub packed_stand : (r : Row) → Fit r → Stand (packed r) r
packed_stand r h = subst (λ (w : ℕ). Stand w r) (omega arith) (stand_below 0 r h)

lower : (w : ℕ) (r : Row) → Stand w r → w % 2 ^ width r ≡ packed r
lower w [] h = omega arith
lower w (f ∷ fs) h = mod-pow-add w f.0 (width fs) ∙ ap (λ (v : ℕ). v * 2 ^ width fs + w % 2 ^ width fs) h.0 ∙ ap (λ (p : ℕ). f.1 * 2 ^ width fs + p) (lower w fs h.1)

-- A word is the row of the fields that stand in it.
pub stand_packed : (w : ℕ) (r : Row) → w < 2 ^ width r → Stand w r → w ≡ packed r
stand_packed w r h s = sym (mod-eq_of_lt h) ∙ lower w r s
