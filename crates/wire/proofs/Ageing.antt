-- What one more put does to the ages that the stamps tell.
use Rattle.std.specs.Prelude.{◌≡◌, ℕ, zero, suc, ◌+◌, ◌%◌, ◌<◌, ◌≤◌, Bool, true, false, cond, List, [], ◌∷◌, ◌++◌, map, drop, refl}
use Rattle.std.proofs.Common.{sym, ◌∙◌, ap, subst, arith}
use Rattle.std.proofs.lemmas.Bool.{false≢true, and_from, lt-ltb, le-ltb, leb-true, leb-false}
use Rattle.std.specs.List.{remove}
use Rattle.medium.specs.Waiting.{Waiting, older_by}
use Rattle.wire.specs.Records.{age_at, waiting_as, falling, last_put, Aged}
use Rattle.wire.specs.Frames.{older}
use Rattle.wire.specs.declared.record.Record.{Record}
use Rattle.wire.specs.Ageing.{Falling, falling_is}

pub is_falling : (p b : ℕ) (rs : List Record) → Falling p b rs → falling p b rs ≡ true
is_falling p b [] f = refl
is_falling p b (r ∷ rs) f = and_from _ _ (lt-ltb _ _ f.0) (and_from _ _ (lt-ltb _ _ f.1.0) (is_falling p (age_at p r) rs f.1.1))

-- Only the first is held to the bound.
falling_below : (p a b : ℕ) (rs : List Record) → a ≤ b → Falling p a rs → Falling p b rs
falling_below p a b [] l f = tt
falling_below p a b (r ∷ rs) l f = (f.0, (omega arith, f.1.1))

-- With one frame less, ages still fall.
pub falling_removed : (p b : ℕ) (rs : List Record) (i : ℕ) → Falling p b rs → Falling p b (remove rs i)
falling_removed p b [] zero f = tt
falling_removed p b [] (suc i) f = tt
falling_removed p b (r ∷ rs) zero f = falling_below p (age_at p r) b rs (let l = f.1.0 in omega arith) f.1.1
falling_removed p b (r ∷ rs) (suc i) f = (f.0, (f.1.0, falling_removed p (age_at p r) rs i f.1.1))

-- A new frame is younger than all that have aged.
pub falling_push : (p b : ℕ) (rs : List Record) (r : Record) → Falling p b rs → Aged p rs → 0 < b → r.stamp < 65536 → age_at p r ≡ 0 → Falling p b (rs ++ r ∷ [])
falling_push p b [] r f a l h z = (h, (omega arith, tt))
falling_push p b (x ∷ rs) r f a l h z = (f.0, (f.1.0, falling_push p (age_at p x) rs r f.1.1 a.1 a.0 h z))

module _ (p q : ℕ) (low : p < 65536) (next : q ≡ (p + 1) % 65536) where
  one_older : (r : Record) → r.stamp < 65536 → age_at p r < 65535 → age_at q r ≡ age_at p r + 1
  one_older r h l = omega arith

  falling_later : (b : ℕ) (rs : List Record) → b ≤ 65535 → Falling p b rs → Falling q (b + 1) rs
  falling_later b [] l f = tt
  falling_later b (r ∷ rs) l f =
      let lt = f.1.0 in
      let e = one_older r f.0 (omega arith) in
      (f.0, (omega arith, subst (λ (a : ℕ). Falling q a rs) (sym e) (falling_later (age_at p r) rs (omega arith) f.1.1)))

  aged_later : (b : ℕ) (rs : List Record) → b ≤ 65535 → Falling p b rs → Aged q rs
  aged_later b [] l f = tt
  aged_later b (r ∷ rs) l f =
      let lt = f.1.0 in
      let e = one_older r f.0 (omega arith) in
      (omega arith, aged_later (age_at p r) rs (omega arith) f.1.1)

  -- Frames that all stay.
  older_stay : (frames : List (List ℕ)) (b : ℕ) (rs : List Record) → b ≤ 2047 → Falling p b rs → map (waiting_as q frames) rs ≡ older (map (waiting_as p frames) rs)
  older_stay frames b [] l f = refl
  older_stay frames b (r ∷ rs) l f =
      let lt = f.1.0 in
      let w = waiting_as p frames r in
      let below : age_at p r + 1 < 2048 = omega arith in
      let rest = older_stay frames (age_at p r) rs (omega arith) f.1.1 in
      let this : waiting_as q frames r ≡ older_by 1 w = ap (λ (a : ℕ). record { side = w.side; bytes = w.bytes; age = a }) (one_older r f.0 (omega arith)) in
      ap (λ (x : Waiting). x ∷ map (waiting_as q frames) rs) this
      ∙ ap (λ (xs : List Waiting). older_by 1 w ∷ xs) rest
      ∙ ap (λ (t : Bool). cond t (older_by 1 w ∷ older (map (waiting_as p frames) rs)) (older (map (waiting_as p frames) rs))) (sym (lt-ltb _ _ below))

  -- The first frame is gone.
  older_goes : (frames : List (List ℕ)) (r : Record) (rs : List Record) → 2047 ≤ age_at p r → older (map (waiting_as p frames) (r ∷ rs)) ≡ older (map (waiting_as p frames) rs)
  older_goes frames r rs l =
      let above : 2048 ≤ age_at p r + 1 = omega arith in
      ap (λ (t : Bool). cond t (older_by 1 (waiting_as p frames r) ∷ older (map (waiting_as p frames) rs)) (older (map (waiting_as p frames) rs))) (le-ltb _ _ above)

  -- What a put that passes leaves of the records.
  pub record Passed (frames : List (List ℕ)) (rs left : List Record) : Type 0 where
    pub young : falling q 2048 left ≡ true
    pub is : map (waiting_as q frames) left ≡ older (map (waiting_as p frames) rs)
    pub aged : Aged q left

  pub passed_stay : (frames : List (List ℕ)) (rs : List Record) → falling p 2048 rs ≡ true → last_put p rs ≡ false → Passed frames rs rs
  passed_stay frames [] f e = record { young = refl; is = refl; aged = tt }
  passed_stay frames (r ∷ rs) f e =
      let f0 = falling_is p 2048 (r ∷ rs) f in
      let lt : age_at p r < 2047 = leb-false _ _ e in
      let f1 : Falling p 2047 (r ∷ rs) = (f0.0, (lt, f0.1.1)) in
      record {
        young = is_falling q 2048 (r ∷ rs) (falling_later 2047 (r ∷ rs) (omega arith) f1);
        is = older_stay frames 2047 (r ∷ rs) (omega arith) f1;
        aged = aged_later 2047 (r ∷ rs) (omega arith) f1;
      }

  pub passed_goes : (frames : List (List ℕ)) (rs : List Record) → falling p 2048 rs ≡ true → last_put p rs ≡ true → Passed frames rs (drop 1 rs)
  passed_goes frames [] f e = absurd (false≢true e)
  passed_goes frames (r ∷ rs) f e =
      let f0 = falling_is p 2048 (r ∷ rs) f in
      let ge : 2047 ≤ age_at p r = leb-true _ _ e in
      let lt = f0.1.0 in
      let f1 : Falling p 2047 rs = falling_below p (age_at p r) 2047 rs (omega arith) f0.1.1 in
      record {
        young = is_falling q 2048 rs (falling_later 2047 rs (omega arith) f1);
        is = older_stay frames 2047 rs (omega arith) f1 ∙ sym (older_goes frames r rs ge);
        aged = aged_later 2047 rs (omega arith) f1;
      }
