-- The text of a form, typed behind `write`, says the fields it was made of.
use Rattle.std.proofs.Common.{◌≡◌, ℕ, ◌^◌, ◌<◌, ◌≤◌, true, List, ◌∷◌, ◌++◌, length, get_or, Some, None, Ok, codes, decimal, ap, ◌∙◌, arith, lt-ltb, ne_eqb}
use Rattle.std.proofs.lemmas.Str.Parse.{digit_at}
use Rattle.std.proofs.lemmas.Fmt.{decimal_is_IsNumeral, decimal_nonempty, digits_decimal, digits_value-decimal}
use Rattle.frame.specs.Fields.{HeadFields, Fields, conn, ack, nack, udata, frag}
use Rattle.scenario.specs.Wrong.{number_text}
use Rattle.scenario.specs.Form.{head_text, form_text}
use Rattle.scenario.specs.Words.{Taken, next, some_word, number_of, or_wrong}
use Rattle.scenario.specs.Lines.{head_after, form_after, write, ended, said_by}
use Rattle.scenario.proofs.Cutting.{Unspaced, first_before, behind_before}
use Rattle.frame.specs.Layout.{payload}
use Rattle.frame.specs.Ranges.{in_range}
use Rattle.frame.proofs.Fitting.{HeadFacts, head_fits_is, conn_fits_is, udata_fits_is, frag_fits_is, udata_below, frag_below}
use Rattle.std.proofs.lemmas.List.{append_assoc}
use Rattle.scenario.specs.Hex.{hexed}
use Rattle.scenario.proofs.Typing.{word_alone, bytes_alone}
use Rattle.scenario.proofs.Numbering.{own}

word_before : (w t : List ℕ) → Unspaced w → 0 < length w → some_word (w ++ (32 ∷ t)) ≡ Ok (w, Some t)
word_before w t u some' = rw (first_before w t u, behind_before w t u, ne_eqb (length w) 0 (λ e. omega arith))

-- A number of 32 bits, as it is written.
module _ (n : ℕ) (h : n ≤ 4294967295) where
  fits : n < 2 ^ 64
  fits = omega arith

  written : number_of (decimal n) ≡ Some n
  written =
      rw (digits_decimal own n fits, lt-ltb 0 (length (decimal n)) (decimal_nonempty n fits), digits_value-decimal own n fits) (ap (λ (x : ℕ). Some x) (omega arith))

  unspaced : Unspaced (decimal n)
  unspaced i l e = let d = digit_at (decimal n) i (decimal_is_IsNumeral n fits).0.1 l in omega arith

  some : 0 < length (decimal n)
  some = decimal_nonempty n fits

  -- Before a space and at the end of the line.
  pub number_before : (t : List ℕ) → next (some_word (decimal n ++ (32 ∷ t))) (λ word end. or_wrong (number_of word) (number_text word) end) ≡ Ok (n, Some t)
  number_before t = rw (word_before (decimal n) t unspaced some, written)

  pub number_alone : next (some_word (decimal n)) (λ word end. or_wrong (number_of word) (number_text word) end) ≡ Ok (n, None)
  number_alone = rw (word_alone (decimal n) unspaced some, written)

conn_typed : (to type winsize published : ℕ) → to ≤ 4294967295 → type ≤ 4294967295 → winsize ≤ 4294967295 → published ≤ 4294967295 → form_after (Some (form_text (conn to type winsize published))) ≡ Ok (conn to type winsize published, None)
conn_typed to type winsize published a b c d =
    rw (number_before to a, number_before type b, number_before winsize c, number_alone published d)

-- The four numbers that most forms begin with, before `t`.
abbrev begun : HeadFields → List ℕ → List ℕ
begun h t =
    codes "to " ++ (decimal h.to ++ (codes " r " ++ (decimal h.r ++ (codes " ackno " ++ (decimal h.ackno ++ (codes " seqno " ++ (decimal h.seqno ++ t)))))))

begun_is : (h : HeadFields) (t : List ℕ) → head_text h ++ t ≡ begun h t
begun_is h t = simp append_assoc

module _ (h : HeadFields) (k : HeadFacts h) where
  to_fits : h.to ≤ 4294967295
  to_fits = omega (arith, k.to)

  r_fits : h.r ≤ 4294967295
  r_fits = omega (arith, k.r)

  ackno_fits : h.ackno ≤ 4294967295
  ackno_fits = omega (arith, k.ackno)

  seqno_fits : h.seqno ≤ 4294967295
  seqno_fits = omega (arith, k.seqno)

  ack_typed : form_after (Some (form_text (ack h))) ≡ Ok (ack h, None)
  ack_typed = rw (number_before h.to to_fits, number_before h.r r_fits, number_before h.ackno ackno_fits, number_alone h.seqno seqno_fits)

  head_before : (t : List ℕ) → head_after (Some (begun h (32 ∷ t))) ≡ Ok (h, Some t)
  head_before t = rw (number_before h.to to_fits, number_before h.r r_fits, number_before h.ackno ackno_fits, number_before h.seqno seqno_fits)

  nack_typed : (count from : ℕ) → count ≤ 4294967295 → from ≤ 4294967295 → form_after (Some (form_text (nack h count from))) ≡ Ok (nack h count from, None)
  nack_typed count from a b =
      let t : List ℕ = codes "count " ++ (decimal count ++ (codes " from " ++ decimal from)) in
      ap (λ (x : List ℕ). form_after (Some (codes "nack " ++ x))) (begun_is h (32 ∷ t))
      ∙ rw (head_before t, number_before count a, number_alone from b)

  frag_typed : (more number : ℕ) (p : List ℕ) → more ≤ 4294967295 → number ≤ 4294967295 → ((i : ℕ) → get_or p i 0 < 256) → form_after (Some (form_text (frag h more number p))) ≡ Ok (frag h more number p, None)
  frag_typed more number p a b small =
      let t : List ℕ = codes "more " ++ (decimal more ++ (codes " frag " ++ (decimal number ++ (codes " payload " ++ hexed p)))) in
      ap (λ (x : List ℕ). form_after (Some (codes "frag " ++ x))) (begun_is h (32 ∷ t))
      ∙ rw (head_before t, number_before more a, number_before number b, bytes_alone p small)

  udata_typed : (more number dst src : ℕ) (p : List ℕ) → more ≤ 4294967295 → number ≤ 4294967295 → dst ≤ 4294967295 → src ≤ 4294967295 → ((i : ℕ) → get_or p i 0 < 256) → form_after (Some (form_text (udata h more number dst src p))) ≡ Ok (udata h more number dst src p, None)
  udata_typed more number dst src p a b c d small =
      let t : List ℕ = codes "more " ++ (decimal more ++ (codes " frag " ++ (decimal number ++ (codes " dst " ++ (decimal dst ++ (codes " src " ++ (decimal src ++ (codes " payload " ++ hexed p)))))))) in
      ap (λ (x : List ℕ). form_after (Some (codes "udata " ++ x))) (begun_is h (32 ∷ t))
      ∙ rw (head_before t, number_before more a, number_before number b, number_before dst c, number_before src d, bytes_alone p small)

form_typed : (f : Fields) → in_range f ≡ true → ((i : ℕ) → get_or (payload f) i 0 < 256) → form_after (Some (form_text f)) ≡ Ok (f, None)
form_typed (conn to type winsize published) h small =
    let t = conn_fits_is to type winsize published h in
    conn_typed to type winsize published (omega (arith, t.low_to)) (omega (arith, t.low_type)) (omega (arith, t.low_winsize)) (omega (arith, t.low_published))
form_typed (ack k) h small = ack_typed k (head_fits_is k h)
form_typed (nack k count from) h small =
    nack_typed k (head_fits_is k (grind arith)) count from (grind arith) (grind arith)
form_typed (udata k more number dst src p) h small =
    let t = udata_fits_is k more number dst src p h in
    let b = udata_below more number t.0.fits in
    udata_typed k t.0.head more number dst src p (omega (arith, b.0)) (omega (arith, b.1)) (omega (arith, t.1.to_dst)) (omega (arith, t.1.from_src)) small
form_typed (frag k more number p) h small =
    let t = frag_fits_is k more number p h in
    let b = frag_below more number t.fits in
    frag_typed k t.head more number p (omega (arith, b.0)) (omega (arith, b.1)) small

pub write_typed : (f : Fields) → in_range f ≡ true → ((i : ℕ) → get_or (payload f) i 0 < 256) → said_by (codes "write " ++ form_text f) ≡ Ok (write f)
write_typed f h small = ap (λ (t : Taken Fields). ended (next t (λ f left. Ok (write f, left)))) (form_typed f h small)
