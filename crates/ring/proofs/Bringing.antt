-- An element that is swapped forward, step by step.
use Rattle.std.proofs.Common.{◌≡◌, ℕ, zero, suc, ◌+◌, ◌<◌, ◌≤◌, Bool, true, cond, ◌&&◌, ◌≢◌, List, length, get_or, sym, ap, ◌∙◌, ⊎_elim, arith}
use Rattle.std.proofs.lemmas.List.Edits.{swapped_from_swap, length-swap, length-remove, get_or-remove_below, get_or-remove_above}
use Rattle.std.proofs.lemmas.List.{same_lists, get_or_default}
use Rattle.std.proofs.lemmas.List.Sorted.{IsPermutation-swap, IsPermutation-trans}
use Rattle.std.proofs.lemmas.Bool.{cases_lt, cases_eq, cond-true, and_from, eq-eqb, lt-ltb}
use Rattle.std.specs.List.{swap}
use Rattle.std.specs.List.Sorted.{IsPermutation}
use Rattle.ring.specs.Span.{spot}
use Rattle.ring.specs.Items.{span_of, items, holds, brought}
use Rattle.ring.specs.declared.ring.Ring.{Ring}

-- `now` is `old` with the element at i moved forward to k.
pub record Moved {X : Type 0} (old now : List X) (i k : ℕ) : Type 0 where
  pub same : length now ≡ length old
  pub within : i < length old
  pub forward : k ≤ i
  pub before : (m : ℕ) (d : X) → m < k → get_or now m d ≡ get_or old m d
  pub here : (d : X) → get_or now k d ≡ get_or old i d
  pub between : (m : ℕ) (d : X) → k ≤ m → m < i → get_or now (m + 1) d ≡ get_or old m d
  pub behind : (m : ℕ) (d : X) → i < m → get_or now m d ≡ get_or old m d

-- One step further.
pub moved_more : {X : Type 0} (old now after : List X) (i k : ℕ) → Moved old now i (k + 1) → after ≡ swap now k (k + 1) → Moved old after i k
moved_more old now after i k v e =
    let w = v.within in
    let f = v.forward in
    let n = v.same in
    record {
      same = ap length e ∙ length-swap now k (k + 1) ∙ n;
      within = w;
      forward = omega arith;
      before = λ m d h. (swapped d).2 m (λ z. omega arith) (λ z. omega arith) ∙ v.before m d (omega arith);
      here = λ d. (swapped d).0 ∙ v.here d;
      between = λ m d h l. ⊎_elim (first m d) (λ ne. (swapped d).2 (m + 1) (λ z. omega arith) (λ z. ne (omega arith)) ∙ v.between m d (let q : m ≢ k = ne in omega arith) l) (cases_eq m k);
      behind = λ m d h. (swapped d).2 m (λ z. omega arith) (λ z. omega arith) ∙ v.behind m d h;
    }
  where
    swapped : (d : _) → Rattle.std.proofs.lemmas.List.Edits.Swapped (λ m. get_or now m d) (λ m. get_or after m d) k (k + 1)
    swapped d =
        let w = v.within in
        let f = v.forward in
        let n = v.same in
        swapped_from_swap now after k (k + 1) d (omega arith) (omega arith) e

    first : (m : ℕ) (d : _) → m ≡ k → get_or after (m + 1) d ≡ get_or old m d
    first m d z =
        let b : k < k + 1 = omega arith in
        ap (λ (q : ℕ). get_or after (q + 1) d) z ∙ (swapped d).1 ∙ v.before k d b ∙ sym (ap (λ (q : ℕ). get_or old q d) z)

pub moved_all : {X : Type 0} (old now : List X) (i : ℕ) (d : X) → Moved old now i 0 → now ≡ brought old i d
moved_all old now i d v =
    let w = v.within in
    let n = v.same in
    let r = length-remove old i w in
    same_lists now (brought old i d) (omega arith) at
  where
    at : (m : ℕ) (e : _) → m < length now → get_or now m e ≡ get_or (brought old i d) m e
    at zero e l = v.here e ∙ get_or_default old i e d v.within
    at (suc m) e l =
        ⊎_elim
        (λ lt. next m e ∙ v.between m e (omega arith) lt ∙ sym (get_or-remove_below old i e m lt v.within))
        (λ ge. v.behind (suc m) e (omega arith) ∙ sym (get_or-remove_above old i e m ge v.within ∙ ap (λ (q : ℕ). get_or old q e) (omega arith)))
        (cases_lt m i)
      where
        next : (m : ℕ) (e : _) → get_or now (suc m) e ≡ get_or now (m + 1) e
        next m e = ap (λ (q : ℕ). get_or now q e) (omega arith)

-- The loop's invariant.
pub record Lifted {X : Type 0} (r : Ring) (old now : List X) (i k : ℕ) : Type 0 where
  pub places : length now ≡ 64
  pub moved : Moved (items r old) (items r now) i k
  pub shuffled : IsPermutation old now

module _ {X : Type 0} (r : Ring) where
  pub holds_below : (xs : List X) (i : ℕ) → length xs ≡ 64 → i < r.count → holds r xs i ≡ true
  holds_below xs i l h = and_from _ _ (eq-eqb (length xs) 64 l) (lt-ltb i r.count h)

  pub lifted_more : (old now after : List X) (i k : ℕ) (b : Bool) → Lifted r old now i (k + 1) → length old ≡ 64 → i < r.count → b ≡ (holds r now k && holds r now (k + 1)) → items r after ≡ cond b (swap (items r now) k (k + 1)) (items r now) → after ≡ cond b (swap now (spot (span_of r) k) (spot (span_of r) (k + 1))) now → Lifted r old after i k
  lifted_more old now after i k b v l c answer swapped places =
      let n = v.places in
      let f = v.moved.forward in
      let both : b ≡ true = answer ∙ and_from _ _ (holds_below now k n (omega arith)) (holds_below now (k + 1) n (omega arith)) in
      let at : after ≡ swap now (spot (span_of r) k) (spot (span_of r) (k + 1)) = places ∙ cond-true b _ now both in
      record {
        places = ap length at ∙ length-swap now _ _ ∙ n;
        moved = moved_more (items r old) (items r now) (items r after) i k v.moved (swapped ∙ cond-true b _ (items r now) both);
        shuffled = IsPermutation-trans old now after v.shuffled (IsPermutation-swap now after (spot (span_of r) k) (spot (span_of r) (k + 1)) (omega arith) (omega arith) at);
      }
