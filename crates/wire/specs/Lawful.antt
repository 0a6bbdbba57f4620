-- A wire whose rule goes by what it means keeps to what every medium keeps to, if its meaning does.
use Rattle.std.specs.Prelude.{◌≡◌, ℕ, ◌<◌, List, [], Some, Option}
use Rattle.std.proofs.Common.{sym, subst, ⊎_elim}
use mathlib.Core.List.{Memᴰ}
use Rattle.std.proofs.lemmas.Bool.{cases_lt}
use Rattle.std.proofs.lemmas.Option.{none-some}
use Rattle.medium.specs.Laws.{Laws, AgedOrNew, Due}
use Rattle.medium.specs.Waiting.{Waiting, age_limit, longest_frame}
use Rattle.medium.specs.declared.side.Side.{Side}
use Rattle.wire.specs.Rules.{PutBy, TakeBy}

-- What is asked of the meaning.
pub record Meant {S M : Type 0} (model_of : S → M) (after_put : Side → List ℕ → M → M) (given : Side → M → Option (List ℕ)) (after_take : Side → M → M) (begins : S → Type 0) (waiting : M → List Waiting) : Type 0 where
  pub empty : (w : S) → begins w → waiting (model_of w) ≡ []
  pub young : (w : S) (x : Waiting) → Memᴰ x (waiting (model_of w)) → x.age < age_limit
  pub ages : (m : M) (from : Side) (f : List ℕ) (x : Waiting) → Memᴰ x (waiting (after_put from f m)) → AgedOrNew from f (waiting m) x
  pub gives : (w : S) (side : Side) (f : List ℕ) → Some f ≡ given side (model_of w) → (x : Waiting) × Memᴰ x (waiting (model_of w)) × (x.side ≡ side) × (x.bytes ≡ f)
  pub keeps : (m : M) (side : Side) (x : Waiting) → Memᴰ x (waiting (after_take side m)) → Memᴰ x (waiting m)

module _ {S M : Type 0} (model_of : S → M) (after_put : Side → List ℕ → M → M) (given : Side → M → Option (List ℕ)) (after_take : Side → M → M) (begins : S → Type 0) (waiting : M → List Waiting) (meant : Meant model_of after_put given after_take begins waiting) where
  due : (w : S) (side : Side) (room : ℕ) (f : List ℕ) (v : S) → TakeBy model_of given after_take w side room (Some f) v → Due side f (waiting (model_of w))
  due w side room f v t =
      ⊎_elim
      (λ l. absurd (none-some f (sym (t.short l).0)))
      (λ g. let x = meant.gives w side f (t.gives g) in
      record { one = x.0; waited = x.1; here = x.2; same = x.3; young = meant.young w x.0 x.1 })
      (cases_lt room longest_frame)

  keeps : (w : S) (side : Side) (room : ℕ) (r : Option (List ℕ)) (v : S) → TakeBy model_of given after_take w side room r v → (x : Waiting) → Memᴰ x (waiting (model_of v)) → Memᴰ x (waiting (model_of w))
  keeps w side room r v t x i =
      ⊎_elim
      (λ l. subst (λ (z : S). Memᴰ x (waiting (model_of z))) (t.short l).1 i)
      (λ g. meant.keeps (model_of w) side x (subst (λ (m : M). Memᴰ x (waiting m)) (t.leaves g) i))
      (cases_lt room longest_frame)

  pub laws : Laws begins (λ w. waiting (model_of w)) (λ w from f v. PutBy model_of after_put w from f v) (λ w side room r v. TakeBy model_of given after_take w side room r v)
  laws = record {
    starts_empty = meant.empty;
    put_ages = λ w from f v p l x i. meant.ages (model_of w) from f x (subst (λ (m : M). Memᴰ x (waiting m)) (p.carried l) i);
    put_long = λ w from f v p l. p.long l;
    take_due = due;
    take_keeps = keeps;
    take_short = λ w side room r v t l. t.short l;
  }
