-- What the answers of a ring's cursor say of the list that the ring stands for.
use Rattle.std.proofs.Common.{◌≡◌, ℕ, zero, suc, ◌+◌, ◌-◌, ◌<◌, ◌≤◌, Bool, cond, ltb, List, [], ◌∷◌, ◌++◌, length, get_or, drop, set, Some, None, sym, refl, ap, ◌∙◌, ⊎_elim, arith}
use Rattle.std.proofs.lemmas.List.{nil_from_length}
use Rattle.std.proofs.lemmas.Bool.{cases_Bool, ltb-true, ltb-false, lt-ltb, le-ltb, cases_lt}
use Rattle.std.specs.List.{slice_get, swap}
use Rattle.ring.specs.Span.{Span, spot, taken_at, free_at, longer, shorter, rung}
use Rattle.ring.proofs.Rungs.{row, length_row, row_set, row_push, row_pop, row_swap}

-- A place is named exactly below a bound.
pub below_some : (a b x y : ℕ) → Some y ≡ cond (ltb a b) (Some x) None → (a < b) × (y ≡ x)
below_some a b x y e =
    ⊎_elim
    (λ t. (ltb-true a b t, (let f = ap (λ (z : Bool). cond z (Some x) None) t in cc)))
    (λ t. absurd (let f = ap (λ (z : Bool). cond z (Some x) None) t in let z : ◌≡◌ {A = ℕ} 0 1 = cc in omega arith))
    (cases_Bool (ltb a b))

pub above_none : (a b x : ℕ) → None ≡ cond (ltb a b) (Some x) None → b ≤ a
above_none a b x e =
    ⊎_elim
    (λ t. absurd (let f = ap (λ (z : Bool). cond z (Some x) None) t in let z : ◌≡◌ {A = ℕ} 0 1 = cc in omega arith))
    (λ t. ltb-false a b t)
    (cases_Bool (ltb a b))

module _ {X : Type 0} (xs : List X) (s : Span) (places : length xs ≡ 64) (start : s.head < 64) (few : s.count ≤ 64) where
  pub length_rung : length (rung xs s) ≡ s.count
  length_rung = length_row xs s.head s.count places start few

  pub rung_set : (i at : ℕ) (x : X) → Some at ≡ taken_at s i → rung (set xs at x) s ≡ set (rung xs s) i x
  rung_set i at x e =
      let here = below_some i s.count (spot s i) at e in
      ap (λ (k : ℕ). rung (set xs k x) s) here.1 ∙ row_set xs s.head s.count places start i x few here.0

  pub rung_swap : (i j p q : ℕ) → Some p ≡ taken_at s i → Some q ≡ taken_at s j → rung (swap xs p q) s ≡ swap (rung xs s) i j
  rung_swap i j p q e f =
      let a = below_some i s.count (spot s i) p e in
      let b = below_some j s.count (spot s j) q f in
      ap (λ (k : ℕ). rung (swap xs k q) s) a.1
      ∙ ap (λ (k : ℕ). rung (swap xs (spot s i) k) s) b.1
      ∙ row_swap xs s.head s.count places start i j few a.0 b.0

  -- One more, in the place that was free.
  pub rung_longer : (at : ℕ) (x : X) → Some at ≡ free_at s → rung (set xs at x) (longer s) ≡ rung xs s ++ x ∷ []
  rung_longer at x e =
      let here = below_some s.count 64 (spot s s.count) at e in
      let room = lt-ltb s.count 64 here.0 in
      ap (λ (b : Bool). rung (set xs at x) (cond b (record { head = s.head; count = s.count + 1 }) s)) room
      ∙ ap (λ (k : ℕ). row (set xs k x) s.head (s.count + 1)) here.1
      ∙ row_push xs s.head s.count places start x here.0

  -- One less: the oldest is gone.
  pub rung_shorter : (x : X) → 0 < s.count → rung xs s ≡ get_or xs s.head x ∷ rung xs (shorter s)
  rung_shorter x some =
      let t = lt-ltb 0 s.count some in
      row_pop xs s.head s.count places start x some few
      ∙ ap (λ (b : Bool). get_or xs s.head x ∷ rung xs (cond b (record { head = spot s 1; count = s.count - 1 }) s)) (sym t)

  -- Releasing the oldest place, if there is one.
  pub rung_released : rung xs (shorter s) ≡ drop 1 (rung xs s)
  rung_released = ⊎_elim some none (cases_lt 0 s.count)
    where
      lone : (y : X) (ys : List X) → 0 < s.count → rung xs (shorter s) ≡ drop 1 (rung xs s)
      lone y ys lt = sym (ap (drop 1) (rung_shorter y lt))

      from : (ys : List X) → length ys ≡ 64 → 0 < s.count → rung xs (shorter s) ≡ drop 1 (rung xs s)
      from [] l lt = absurd (omega arith)
      from (y ∷ ys) l lt = lone y ys lt

      some : 0 < s.count → rung xs (shorter s) ≡ drop 1 (rung xs s)
      some lt = from xs places lt

      none : s.count ≤ 0 → rung xs (shorter s) ≡ drop 1 (rung xs s)
      none le =
          let nil : rung xs s ≡ [] = nil_from_length (rung xs s) (omega (arith, length_rung)) in
          ap (λ (b : Bool). rung xs (cond b (record { head = spot s 1; count = s.count - 1 }) s)) (le-ltb 0 s.count le) ∙ nil ∙ sym (ap (drop 1) nil)

-- A write at one distance is not seen at another.
pub nth_set_other : {X : Type 0} (xs : List X) (i k : ℕ) (x : X) → (k ≡ i → ⊥) → slice_get (set xs i x) k ≡ slice_get xs k
nth_set_other [] i k x ne = refl
nth_set_other (y ∷ xs) zero zero x ne = absurd (ne refl)
nth_set_other (y ∷ xs) zero (suc k) x ne = refl
nth_set_other (y ∷ xs) (suc i) zero x ne = refl
nth_set_other (y ∷ xs) (suc i) (suc k) x ne = nth_set_other xs i k x (λ e. ne (ap suc e))
