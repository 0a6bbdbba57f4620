-- What writing into a place that holds every frame answers.
use Rattle.std.proofs.Common.{◌≡◌, ℕ, ◌≤◌, Bool, true, false, not, ltb, List, [], ◌∷◌, ◌++◌, length, take, drop, Some, Ok, Err, codes, Result, sym, refl, ap, ◌∙◌, arith}
use Rattle.std.proofs.lemmas.List.{take_at, append-nil}
use Rattle.std.proofs.lemmas.Bool.Decides.{nat_tests}
use Rattle.frame.specs.declared.writer.Refusal.{Refusal}
use Rattle.frame.specs.declared.writer.Refusal.TheVariants.{Range, Room}
use Rattle.frame.specs.Checks.{judged}
use Rattle.frame.specs.Fields.{Fields, conn, ack, nack, udata, frag}
use Rattle.frame.specs.Layout.{size, bytes}
use Rattle.frame.specs.Ranges.{in_range}
use Rattle.frame.specs.Writer.{written, placed}
use Rattle.frame.proofs.Fitting.{frag_fits_is, udata_fits_is}
use Rattle.frame.specs.Reader.{frame_of}
use Rattle.frame.specs.declared.fault.FrameFault.{FrameFault}
use Rattle.frame.proofs.ReadBack.{reads_back}
use Rattle.scenario.specs.Lines.{read, said_by}
use Rattle.bench.specs.Answer.{read_text, write_text, printed, ReadsBack}
use Rattle.scenario.specs.Hex.{hexed}

-- No frame is longer than 276 bytes.
size_fits : (f : Fields) → in_range f ≡ true → size f ≤ 276
size_fits (conn to type winsize published) h = omega arith
size_fits (ack b) h = omega arith
size_fits (nack b count from) h = omega arith
size_fits (udata b more number dst src p) h = let few = (udata_fits_is b more number dst src p h).0.few in omega arith
size_fits (frag b more number p) h = let few = (frag_fits_is b more number p h).few in omega arith

length_bytes : (f : Fields) → length (bytes f) ≡ size f
length_bytes (conn to type winsize published) = refl
length_bytes (ack b) = refl
length_bytes (nack b count from) = refl
length_bytes (udata b more number dst src p) = omega arith
length_bytes (frag b more number p) = omega arith

abbrev judgement : Bool → Bool → ℕ → Result ℕ Refusal
judgement fits short n = judged ((not fits, Range) ∷ (short, Room) ∷ []) n

judged_ok : (fits short : Bool) (m n : ℕ) → judgement fits short m ≡ Ok n → (fits ≡ true) × (n ≡ m)
judged_ok fits short m n e = grind arith

judged_err : (fits short : Bool) (m : ℕ) (e : Refusal) → judgement fits short m ≡ Err e → (fits ≡ true → short ≡ false) → fits ≡ false
judged_err fits short m e h enough = grind arith

module _ (f : Fields) (place : List ℕ) (r : Result ℕ Refusal) (is : r ≡ written f place) (room : 276 ≤ length place) where
  pub accepted : (n : ℕ) → r ≡ Ok n → (in_range f ≡ true) × (n ≡ size f) × (n ≤ length place)
  accepted n ok =
      let told = judged_ok (in_range f) (ltb (length place) (size f)) (size f) n (sym is ∙ ok) in
      let small = size_fits f told.0 in
      (told.0, told.1, omega (arith, told.1))

  pub refused : (e : Refusal) → r ≡ Err e → in_range f ≡ false
  refused e err =
      judged_err (in_range f) (ltb (length place) (size f)) (size f) e (sym is ∙ err) (λ fits. let small = size_fits f fits in grind (arith, nat_tests))

  -- What stands at the front of the place is the frame.
  pub front : (n : ℕ) → r ≡ Ok n → (after : List ℕ) → after ≡ placed r f place → take n after ≡ bytes f
  front n ok after e =
      let here : after ≡ bytes f ++ drop n place = e ∙ ap (λ (x : Result ℕ Refusal). placed x f place) ok in
      let long : length (bytes f) ≡ n = length_bytes f ∙ sym (accepted n ok).1 in
      ap (take n) here ∙ take_at (bytes f) (drop n place) n long

-- The text of the bytes written.
pub written_text : (f : Fields) (bs : List ℕ) → in_range f ≡ true → bs ≡ bytes f → codes "write -> " ++ hexed bs ≡ write_text f
written_text f bs fits e = rw (fits, e) refl

-- Bytes that say the frame of fields in range print the form of these fields.
pub again : (f : Fields) (bs text : List ℕ) → bs ≡ bytes f → said_by (codes "read " ++ drop 9 text) ≡ Ok (read bs) → ReadsBack f text
again f bs text e h range n =
    let frame : frame_of bs ≡ Ok f = ap frame_of (e ∙ sym (append-nil (bytes f))) ∙ reads_back f [] range in
    ap (printed n) h ∙ ap (λ (r : Result Fields FrameFault). Some (read_text r)) frame
