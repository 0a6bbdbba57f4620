-- A row of checks passes exactly if no test in it holds.
use Rattle.std.proofs.Common.{◌≡◌, ℕ, Bool, true, false, cond, [], ◌∷◌, Ok, Err, Result, refl, arith}
use Rattle.frame.specs.Checks.{Checks, judged, then}

-- The way that a test took.
pub ways : {A P : Type 0} (t : Bool) (x y z : A) → cond t x y ≡ z → (t ≡ true → x ≡ z → P) → (t ≡ false → y ≡ z → P) → P
ways true x y z h then' else' = then' refl h
ways false x y z h then' else' = else' refl h

abbrev pub NoneHolds : {E : Type 0} → Checks E → Type 0
NoneHolds [] = Unit {0}
NoneHolds (c ∷ cs) = (c.0 ≡ false) × NoneHolds cs

pub judged_passed : {A E : Type 0} (cs : Checks E) (x y : A) → judged cs x ≡ Ok y → NoneHolds cs × (x ≡ y)
judged_passed [] x y h = (tt, cc)
judged_passed (c ∷ cs) x y h =
    elim c.0 as (λ b. cond b (Err c.1) (judged cs x) ≡ Ok y → ((b ≡ false) × NoneHolds cs) × (x ≡ y)) [
      | true ↦ λ k. let z : ◌≡◌ {A = ℕ} 0 1 = cc in absurd (omega arith)
      | false ↦ λ k. let t = judged_passed cs x y k in ((refl, t.0), t.1)
    ] h

-- What was gone on with, where all went well.
pub then_passed : {A B E F : Type 0} (up : E → F) (r : Result A E) (go : A → Result B F) (y : B) → then up r go ≡ Ok y → (x : A) × (r ≡ Ok x) × (go x ≡ Ok y)
then_passed up (Ok x) go y h = (x, refl, h)
then_passed up (Err e) go y h = grind arith
