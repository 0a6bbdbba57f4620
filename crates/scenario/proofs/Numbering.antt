-- The number that a word writes.
use Rattle.std.proofs.Common.{◌≡◌, ℕ, ◌^◌, ◌<◌, min, true, ◌&&◌, ltb, List, length, Some, Ok, Err, Result, ap, arith, ltb-true}
use Rattle.std.proofs.lemmas.Str.Parse.{IsNumeralModel, numerals_by_value, tells_all_ascii_digits, parse_digits}
use Rattle.std.proofs.lemmas.Bool.{and_parts}
use Rattle.std.specs.Result.{OkIff, result_unwrap_or}
use Rattle.std.specs.Str.Parse.{digits_value, ParsesUnsigned}
use Rattle.std.specs.Str.{all_ascii_digits}
use Rattle.scenario.specs.Words.{number_of}

pub own : IsNumeralModel (λ ds. all_ascii_digits ds ≡ true) (digits_value 10)
own = numerals_by_value (λ ds. all_ascii_digits ds ≡ true) tells_all_ascii_digits

-- What stands for a number that was read, or for one that does not fit.
least : {E : Type 0} (n : ℕ) (P : Type 0) (r : Result ℕ E) → P → OkIff r (P × (n < 2 ^ 32)) n → result_unwrap_or r 4294967295 ≡ min n 4294967295
least n P (Ok x) p told = omega (arith, told.0.1, told.1)
least n P (Err e) p told = grind (arith, told)

-- A number that does not fit counts as the largest that does.
pub number_read : {E : Type 0} (bs : List ℕ) (r : Result ℕ E) → (all_ascii_digits bs && ltb 0 (length bs)) ≡ true → ParsesUnsigned 32 10 bs r → Some (result_unwrap_or r 4294967295) ≡ number_of bs
number_read bs r number reads =
    let parts = and_parts (all_ascii_digits bs) (ltb 0 (length bs)) number in
    let some : 0 < length bs = ltb-true 0 (length bs) parts.1 in
    rw number (ap (λ (n : ℕ). Some n) (least (digits_value 10 bs) (0 < length bs) r some (parse_digits own 32 bs r reads parts.0)))
