-- What every medium makes of a row of frames.
use Rattle.std.proofs.Common.{◌≡◌, ℕ, suc, ◌+◌, ◌-◌, ◌≤◌, leb, List, [], ◌∷◌, map, length, get_or, drop, Option, sym, refl, ap, ◌∙◌, subst, inl, inr, arith}
use mathlib.Core.List.{Memᴰ}
use Rattle.std.proofs.lemmas.List.{drop_all}
use Rattle.std.proofs.lemmas.Bool.{cond_both, leb-true, leb-false}
use Rattle.medium.specs.declared.side.Side.{Side}
use Rattle.medium.specs.Waiting.{Waiting, other_side, older_by, longest_frame}
use Rattle.medium.specs.Laws.{Laws, AgedOrNew}
use Rattle.medium.specs.Chain.{Puts, carried, new_one, AgedOrOneOf, Chained}

module _ {S X : Type 0} (puts : S → Side → List ℕ → S → Type 0) (from : Side) (bytes : X → List ℕ) (xs : List X) where
  -- The frames from the i-th on lead from before to after.
  abbrev pub PutsFrom : ℕ → (before after : S) → Type 0
  PutsFrom i before after = Puts puts from (map bytes (drop i xs)) before after

  -- With no frame left, all have led there.
  pub puts_all : (i : ℕ) (start m : S) → length xs ≤ i → ((n : S) → PutsFrom i m n → PutsFrom 0 start n) → PutsFrom 0 start m
  puts_all i start m h leads =
      let P : List X → Type 0 = λ l. Puts puts from (map bytes l) m m in
      leads m (subst P (sym (drop_all i xs h)) refl)

-- What aged by one more carried frame f first, and then by the frames new.
aged_cons : (from : Side) (f : List ℕ) (new : List (List ℕ)) (before : List Waiting) (x y : Waiting) → x ≡ older_by (length new) y → AgedOrNew from f before y → AgedOrOneOf from (f ∷ new) before x
aged_cons from f new before x y e (inl (z, waited, d)) =
    let sum : z.age + 1 + length new ≡ z.age + suc (length new) = omega arith in
    inl (z, waited, e ∙ ap (older_by (length new)) d ∙ ap (λ a. record { side = z.side; bytes = z.bytes; age = a }) sum)
aged_cons from f new before x y e (inr d) =
    let sum : 0 + length new ≡ suc (length new) - 1 - 0 = omega arith in
    inr (0, omega arith, e ∙ ap (older_by (length new)) d ∙ ap (λ a. record { side = other_side from; bytes = f; age = a }) sum)

-- The i-th of new is the next one behind f.
new_one_cons : (from : Side) (f : List ℕ) (new : List (List ℕ)) (i : ℕ) → new_one from new i ≡ new_one from (f ∷ new) (suc i)
new_one_cons from f new i =
    let sum : length new - 1 - i ≡ suc (length new) - 1 - suc i = omega arith in
    ap (λ a. record { side = other_side from; bytes = get_or new i []; age = a }) sum

module _ {S : Type 0} {begins : S → Type 0} {waiting : S → List Waiting} {puts : S → Side → List ℕ → S → Type 0} {takes : S → Side → ℕ → Option (List ℕ) → S → Type 0} (lawful : Laws begins waiting puts takes) (from : Side) where
  -- A frame that is carried, and then a row.
  chained_short : (f : List ℕ) (new : List (List ℕ)) (m next n : S) → puts m from f next → length f ≤ longest_frame → ((x : Waiting) → Memᴰ x (waiting n) → AgedOrOneOf from new (waiting next) x) → (x : Waiting) → Memᴰ x (waiting n) → AgedOrOneOf from (f ∷ new) (waiting m) x
  chained_short f new m next n p short rest x waits =
      elim (rest x waits) [
        | inl o ↦ aged_cons from f new (waiting m) x o.0 o.2 (lawful.put_ages m from f next p short o.0 o.1)
        | inr o ↦ inr (suc o.0, omega (arith, o.1), o.2 ∙ new_one_cons from f new o.0)
      ]

  -- The chain law: each medium that went through its rule for these frames holds old ones, older by the carried ones, and carried ones.
  pub puts_chained : (frames : List (List ℕ)) (m n : S) → Puts puts from frames m n → Chained from frames (waiting m) (waiting n)
  puts_chained [] m n p = λ x waits.
      let P : S → Type 0 = λ s. Memᴰ x (waiting s) in
      let same : x.age ≡ x.age + 0 = omega arith in
      inl (x, subst P p waits, ap (λ a. record { side = x.side; bytes = x.bytes; age = a }) same)
  puts_chained (f ∷ fs) m n p =
      cond_both (leb (length f) longest_frame) (f ∷ carried fs) (carried fs)
      (λ new. (x : Waiting) → Memᴰ x (waiting n) → AgedOrOneOf from new (waiting m) x)
      (λ t. chained_short f (carried fs) m p.0 n p.1 (leb-true _ _ t) (puts_chained fs p.0 n p.2))
      (λ t.
      let P : S → Type 0 = λ s. (x : Waiting) → Memᴰ x (waiting n) → AgedOrOneOf from (carried fs) (waiting s) x in
      subst P (lawful.put_long m from f p.0 p.1 (leb-false _ _ t)) (puts_chained fs p.0 n p.2))
