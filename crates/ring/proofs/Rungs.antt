-- The list that a row of places stands for, under a write, one more, one less and a swap.
use Rattle.std.proofs.Common.{◌≡◌, ℕ, zero, suc, ◌+◌, ◌-◌, ◌%◌, ◌<◌, ◌≤◌, ◌≢◌, List, [], ◌∷◌, ◌++◌, length, get_or, take, drop, set, sym, refl, ap, ◌∙◌, ⊎_elim, arith}
use Rattle.std.proofs.Math.Seq.{take-append-add}
use Rattle.std.proofs.lemmas.List.{drop-append-le, take-take, same_lists, length-take, length-drop, length-append, length-set, length_push, get_or-take, get_or-drop, get_or_append_left, get_or-append_right, get_or-set_same, get_or-set_other, get_or_push, get_or_default}
use Rattle.std.proofs.lemmas.Bool.{cases_lt, cases_eq}
use Rattle.std.proofs.lemmas.List.Edits.{swapped_from_swap, length-swap}
use Rattle.std.specs.List.{swap}

-- `rung` by its two numbers.
abbrev pub row : {X : Type 0} → List X → ℕ → ℕ → List X
row xs h n = take n (drop h (xs ++ xs))

module _ {X : Type 0} (xs : List X) (h n : ℕ) (l : length xs ≡ 64) (a : h < 64) (b : n ≤ 64) where
  pub length_row : length (row xs h n) ≡ n
  length_row = simp (length-take, length-drop, length-append) (omega arith)

  -- what stands at k in the list stands at (h + k) mod 64 in the ring
  pub get_or_row : (k : ℕ) (d : X) → k < n → get_or (row xs h n) k d ≡ get_or xs ((h + k) % 64) d
  get_or_row k d c =
      let front : get_or (row xs h n) k d ≡ get_or (xs ++ xs) (h + k) d = get_or-take n (drop h (xs ++ xs)) k d c ∙ get_or-drop h (xs ++ xs) k d in
      ⊎_elim
      (λ lt.
      let e : (h + k) % 64 ≡ h + k = omega arith in
      let i : h + k < length xs = omega arith in
      front ∙ get_or_append_left xs xs d (h + k) i ∙ sym (ap (λ (m : ℕ). get_or xs m d) e))
      (λ ge.
      let e : (h + k) % 64 ≡ h + k - 64 = omega arith in
      front ∙ get_or-append_right xs xs 64 (h + k) d l ge ∙ sym (ap (λ (m : ℕ). get_or xs m d) e))
      (cases_lt (h + k) 64)

module _ {X : Type 0} (xs : List X) (h n : ℕ) (l : length xs ≡ 64) (a : h < 64) where
  len_set : (i : ℕ) (v : X) → length (set xs i v) ≡ 64
  len_set i v = length-set xs i v ∙ l

  pub row_set : (i : ℕ) (v : X) → n ≤ 64 → i < n → row (set xs ((h + i) % 64) v) h n ≡ set (row xs h n) i v
  row_set i v b c =
      let ys = set xs ((h + i) % 64) v in
      let ly : length ys ≡ 64 = len_set ((h + i) % 64) v in
      let here : (h + i) % 64 < length xs = omega arith in
      let lr : length (row xs h n) ≡ n = length_row xs h n l a b in
      let same : length (row ys h n) ≡ length (set (row xs h n) i v) = length_row ys h n ly a b ∙ sym (length-set (row xs h n) i v ∙ lr) in
      same_lists _ _ same
      (λ k d m.
      let kn : k < n = omega (arith, length_row ys h n ly a b) in
      let left : get_or (row ys h n) k d ≡ get_or ys ((h + k) % 64) d = get_or_row ys h n ly a b k d kn in
      ⊎_elim
      (λ e.
      let ir : i < length (row xs h n) = omega arith in
      left ∙ ap (λ (j : ℕ). get_or ys ((h + j) % 64) d) e ∙ get_or-set_same xs ((h + i) % 64) v d here
      ∙ sym (ap (λ (j : ℕ). get_or (set (row xs h n) i v) j d) e ∙ get_or-set_same (row xs h n) i v d ir))
      (λ ne.
      let other : (h + k) % 64 ≢ (h + i) % 64 = omega arith in
      left ∙ get_or-set_other xs ((h + i) % 64) ((h + k) % 64) v d other
      ∙ sym (get_or-set_other (row xs h n) i k v d ne ∙ get_or_row xs h n l a b k d kn))
      (cases_eq k i))

  pub row_push : (v : X) → n < 64 → row (set xs ((h + n) % 64) v) h (n + 1) ≡ row xs h n ++ v ∷ []
  row_push v b =
      let ys = set xs ((h + n) % 64) v in
      let ly : length ys ≡ 64 = len_set ((h + n) % 64) v in
      let b1 : n + 1 ≤ 64 = omega arith in
      let b0 : n ≤ 64 = omega arith in
      let here : (h + n) % 64 < length xs = omega arith in
      let lr : length (row xs h n) ≡ n = length_row xs h n l a b0 in
      let lp : length (row ys h (n + 1)) ≡ n + 1 = length_row ys h (n + 1) ly a b1 in
      let same : length (row ys h (n + 1)) ≡ length (row xs h n ++ v ∷ []) = omega (arith, length_push (row xs h n) v) in
      same_lists _ _ same
      (λ k d m.
      let kn : k < n + 1 = omega arith in
      let left : get_or (row ys h (n + 1)) k d ≡ get_or ys ((h + k) % 64) d = get_or_row ys h (n + 1) ly a b1 k d kn in
      ⊎_elim
      (λ lt.
      let other : (h + k) % 64 ≢ (h + n) % 64 = omega arith in
      let kr : k < length (row xs h n) = omega arith in
      left ∙ get_or-set_other xs ((h + n) % 64) ((h + k) % 64) v d other
      ∙ sym (get_or_append_left (row xs h n) (v ∷ []) d k kr ∙ get_or_row xs h n l a b0 k d lt))
      (λ ge.
      let e : k ≡ n = omega arith in
      let f : length (row xs h n) ≡ k = omega arith in
      left ∙ ap (λ (j : ℕ). get_or ys ((h + j) % 64) d) e ∙ get_or-set_same xs ((h + n) % 64) v d here ∙ sym (get_or_push (row xs h n) v d k f))
      (cases_lt k n))

  at_pop : (d : X) → 0 < n → n ≤ 64 → (k : ℕ) (e : X) → k < n → get_or (row xs h n) k e ≡ get_or (get_or xs h d ∷ row xs ((h + 1) % 64) (n - 1)) k e
  at_pop d p b zero e m =
      let z : (h + 0) % 64 ≡ h = omega arith in
      let hl : h < length xs = omega arith in
      get_or_row xs h n l a b 0 e m ∙ ap (λ (j : ℕ). get_or xs j e) z ∙ get_or_default xs h e d hl
  at_pop d p b (suc k) e m =
      let a1 : (h + 1) % 64 < 64 = omega arith in
      let b1 : n - 1 ≤ 64 = omega arith in
      let m1 : k < n - 1 = omega arith in
      let z : (h + suc k) % 64 ≡ ((h + 1) % 64 + k) % 64 = omega arith in
      get_or_row xs h n l a b (suc k) e m ∙ ap (λ (j : ℕ). get_or xs j e) z ∙ sym (get_or_row xs ((h + 1) % 64) (n - 1) l a1 b1 k e m1)

  -- Swapping two places swaps the two elements.
  pub row_swap : (i j : ℕ) → n ≤ 64 → i < n → j < n → row (swap xs ((h + i) % 64) ((h + j) % 64)) h n ≡ swap (row xs h n) i j
  row_swap i j b ci cj =
      let p = (h + i) % 64 in
      let q = (h + j) % 64 in
      let ys = swap xs p q in
      let ly : length ys ≡ 64 = length-swap xs p q ∙ l in
      let lr : length (row xs h n) ≡ n = length_row xs h n l a b in
      let lx : length (swap (row xs h n) i j) ≡ n = length-swap (row xs h n) i j ∙ lr in
      let same : length (row ys h n) ≡ length (swap (row xs h n) i j) = length_row ys h n ly a b ∙ sym lx in
      same_lists _ _ same
      (λ k d m.
      let kn : k < n = omega (arith, length_row ys h n ly a b) in
      let left : get_or (row ys h n) k d ≡ get_or ys ((h + k) % 64) d = get_or_row ys h n ly a b k d kn in
      let pl : p < length xs = omega arith in
      let ql : q < length xs = omega arith in
      let il : i < length (row xs h n) = omega arith in
      let jl : j < length (row xs h n) = omega arith in
      let S = swapped_from_swap xs ys p q d pl ql refl in
      let R = swapped_from_swap (row xs h n) (swap (row xs h n) i j) i j d il jl refl in
      let at : (m : ℕ) → m < n → get_or (row xs h n) m d ≡ get_or xs ((h + m) % 64) d = λ m c. get_or_row xs h n l a b m d c in
      ⊎_elim
      (λ e. left ∙ ap (λ (z : ℕ). get_or ys ((h + z) % 64) d) e ∙ S.0 ∙ sym (at j cj) ∙ sym (ap (λ (z : ℕ). get_or (swap (row xs h n) i j) z d) e ∙ R.0))
      (λ ne. ⊎_elim
      (λ e. left ∙ ap (λ (z : ℕ). get_or ys ((h + z) % 64) d) e ∙ S.1 ∙ sym (at i ci) ∙ sym (ap (λ (z : ℕ). get_or (swap (row xs h n) i j) z d) e ∙ R.1))
      (λ nf.
      let o1 : (h + k) % 64 ≡ p → ⊥ = λ e. ne (omega arith) in
      let o2 : (h + k) % 64 ≡ q → ⊥ = λ e. nf (omega arith) in
      left ∙ S.2 ((h + k) % 64) o1 o2 ∙ sym (at k kn) ∙ sym (R.2 k ne nf))
      (cases_eq k j))
      (cases_eq k i))

  pub row_pop : (d : X) → 0 < n → n ≤ 64 → row xs h n ≡ get_or xs h d ∷ row xs ((h + 1) % 64) (n - 1)
  row_pop d p b =
      let a1 : (h + 1) % 64 < 64 = omega arith in
      let b1 : n - 1 ≤ 64 = omega arith in
      let lr : length (row xs h n) ≡ n = length_row xs h n l a b in
      let lt : length (row xs ((h + 1) % 64) (n - 1)) ≡ n - 1 = length_row xs ((h + 1) % 64) (n - 1) l a1 b1 in
      same_lists _ _ (omega arith) (λ k e m. at_pop d p b k e (omega arith))

-- Round the end: what lies from the oldest to the last place, and then what goes on at the first.
pub row_wraps : {X : Type 0} (xs : List X) (h n : ℕ) → h ≤ length xs → n ≤ length xs → length (drop h xs) < n → drop h xs ++ take (n - length (drop h xs)) (take h xs) ≡ row xs h n
row_wraps xs h n a b c =
    let l : length (drop h xs) ≡ length xs - h = length-drop h xs in
    let m : ℕ = n - length (drop h xs) in
    let e : length (drop h xs) + m ≡ n = omega arith in
    let f : take m (take h xs) ≡ take m xs = take-take m h xs (omega arith) in
    ap (λ ys. drop h xs ++ ys) f ∙ sym (take-append-add (drop h xs) xs m) ∙ ap (λ (k : ℕ). take k (drop h xs ++ xs)) e ∙ sym (ap (take n) (drop-append-le h xs xs a))
