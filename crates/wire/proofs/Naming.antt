-- Which slots the records name.
use Rattle.std.proofs.Common.{◌≡◌, ℕ, ◌<◌, cond, eqb, List, length, get_or, set, sym, refl, ap, ◌∙◌, subst, ⊎_elim, arith}
use Rattle.std.proofs.lemmas.List.Edits.{swapped_from_swap, length-swap}
use Rattle.std.proofs.lemmas.List.{map-set, length-map, get_or_past, set-get_or}
use Rattle.std.proofs.lemmas.List.Sorted.{IsPermutation-keeps, IsPermutation-map, length_permutation}
use Rattle.std.proofs.lemmas.Bool.{cases_lt, cases_eq}
use Rattle.std.proofs.lemmas.Bool.Decides.{nat_tests}
use Rattle.std.specs.List.{swap}
use Rattle.std.specs.List.Sorted.{IsPermutation}
use Rattle.wire.specs.Records.{slots_named, Numbered, Slotted, Single}
use Rattle.wire.specs.declared.record.Record.{Record}

abbrev pub slot_of : Record → ℕ
slot_of r = r.slot

pub numbered_slotted : (rs : List Record) → length rs ≡ 64 → Numbered 64 rs → Slotted (slots_named rs)
numbered_slotted rs long n i =
    ⊎_elim (λ l. omega (arith, n i l)) (λ ge. omega (arith, get_or_past (slots_named rs) i 0 (omega (arith, length-map rs slot_of)))) (cases_lt i 64)

pub numbered_single : (rs : List Record) → Numbered 64 rs → Single (slots_named rs)
numbered_single rs n i j h = omega (arith, h.2, n i h.0, n j h.1)

-- A record that takes over the slot of the one it replaces changes nothing that is named.
pub named_same : (rs : List Record) (i : ℕ) (r : Record) → r.slot ≡ get_or (slots_named rs) i 0 → slots_named (set rs i r) ≡ slots_named rs
named_same rs i r e = grind (arith, map-set, set-get_or)

-- Where the element at k stood before two were swapped.
abbrev source : (i j k : ℕ) → ℕ
source i j k = cond (eqb k i) j (cond (eqb k j) i k)

source_source : (i j k : ℕ) → source i j (source i j k) ≡ k
source_source i j k = grind (arith, nat_tests)

source_within : (i j k n : ℕ) → i < n → j < n → k < n → source i j k < n
source_within i j k n a b c = grind (arith, nat_tests)

source_first : (i j k : ℕ) → k ≡ i → source i j k ≡ j
source_first i j k e = grind (arith, nat_tests)

source_second : (i j k : ℕ) → (k ≡ i → ⊥) → k ≡ j → source i j k ≡ i
source_second i j k ne e = grind (arith, nat_tests)

source_other : (i j k : ℕ) → (k ≡ i → ⊥) → (k ≡ j → ⊥) → source i j k ≡ k
source_other i j k ne nf = grind (arith, nat_tests)

get_or_exchanged : (ns : List ℕ) (i j k : ℕ) → i < length ns → j < length ns → get_or (swap ns i j) k 0 ≡ get_or ns (source i j k) 0
get_or_exchanged ns i j k a b =
    let s = swapped_from_swap ns (swap ns i j) i j 0 a b refl in
    ⊎_elim
    (λ e. ap (λ (m : ℕ). get_or (swap ns i j) m 0) e ∙ s.0 ∙ sym (ap (λ (m : ℕ). get_or ns m 0) (source_first i j k e)))
    (λ ne. ⊎_elim
    (λ f. ap (λ (m : ℕ). get_or (swap ns i j) m 0) f ∙ s.1 ∙ sym (ap (λ (m : ℕ). get_or ns m 0) (source_second i j k ne f)))
    (λ nf. s.2 k ne nf ∙ sym (ap (λ (m : ℕ). get_or ns m 0) (source_other i j k ne nf)))
    (cases_eq k j))
    (cases_eq k i)

-- 64 numbers of slots, no two of which are the same.
record Distinct (ns : List ℕ) : Type 0 where
  pub long : length ns ≡ 64
  pub slotted : Slotted ns
  pub single : Single ns

distinct_exchanged : (ns : List ℕ) (i j : ℕ) → i < length ns → j < length ns → Distinct ns → Distinct (swap ns i j)
distinct_exchanged ns i j a b v =
    let n = v.long in
    let at = λ (k : ℕ). get_or_exchanged ns i j k a b in
    record {
      long = length-swap ns i j ∙ n;
      slotted = λ k. subst (λ (m : ℕ). m < 64) (sym (at k)) (v.slotted (source i j k));
      single = λ k l h.
          sym (source_source i j k)
          ∙ ap (source i j) (v.single (source i j k) (source i j l) (source_within i j k 64 (omega arith) (omega arith) h.0, source_within i j l 64 (omega arith) (omega arith) h.1, sym (at k) ∙ h.2 ∙ at l))
          ∙ source_source i j l;
    }

-- 64 records that name each slot once.
pub record Apart (rs : List Record) : Type 0 where
  pub places : length rs ≡ 64
  pub slotted : Slotted (slots_named rs)
  pub single : Single (slots_named rs)

-- Records that only change places name each slot once still.
pub apart_shuffled : (rs ts : List Record) → Apart rs → IsPermutation rs ts → Apart ts
apart_shuffled rs ts v s =
    let ns = slots_named rs in
    let start : Distinct ns = record { long = length-map rs slot_of ∙ v.places; slotted = v.slotted; single = v.single } in
    let d = IsPermutation-keeps ns Distinct start (λ l i j a b w. distinct_exchanged l i j a b w) (slots_named ts) (IsPermutation-map slot_of rs ts s) in
    record { places = length_permutation rs ts s ∙ v.places; slotted = d.slotted; single = d.single }
