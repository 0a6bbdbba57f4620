-- Every set of fields in range reads back from its bytes, whatever lies behind.
use Rattle.std.proofs.Common.{◌≡◌, ℕ, ◌+◌, ◌-◌, ◌<◌, ◌≤◌, true, false, eqb, List, [], ◌∷◌, ◌++◌, length, take, Ok, Result, refl, ap, ◌∙◌, arith, lit<}
use Rattle.std.proofs.lemmas.List.{take_at, length-append}
use Rattle.frame.specs.declared.fault.FrameFault.{FrameFault}
use Rattle.frame.specs.declared.fault.FrameFault.TheVariants.{Header}
use Rattle.frame.specs.declared.fault.HeaderFault.{HeaderFault}
use Rattle.frame.specs.Numbers.{CONN, UDATA, ACK, NACK, FRAG, LAST}
use Rattle.frame.specs.Fields.{HeadFields, Fields, conn, ack, nack, udata, frag}
use Rattle.frame.specs.Layout.{packed, main_row, conn_row, ack_row, nack_row, frag_row, address_row, big_endian, bytes}
use Rattle.frame.specs.Ranges.{all, count_fits, in_range}
use Rattle.frame.specs.Checks.{judged, then}
use Rattle.frame.specs.Reader.{MainFields, AckFields, word_at, field, is_one_of, main_checks, main_word, main_of, conn_checks, ack_checks, ack_word, ack_of, nack_checks, udata_checks, frag_checks, behind_ack, behind_main, frame_of}
use Rattle.frame.proofs.Rows.{Fit, packed_below, packed_stand}
use Rattle.frame.proofs.Words.{word_laid}
use Rattle.frame.proofs.Fitting.{HeadFacts, head_fits_is, conn_fits_is, udata_below, frag_below, udata_fits_is, frag_fits_is}
use Rattle.frame.proofs.Passing.{main_passes, conn_passes, ack_passes, nack_passes, udata_passes, frag_passes}

-- Header after header.
framed : (bs : List ℕ) (m : MainFields) (f : Fields) → main_of bs ≡ Ok m → behind_main bs m ≡ Ok f → frame_of bs ≡ Ok f
framed bs m f a b =
    let go : MainFields → Result Fields FrameFault = λ m. then Header (behind_main bs m) Ok in
    ap (λ (r : Result MainFields FrameFault). then (λ e. e) r go) a ∙ ap (λ (r : Result Fields HeaderFault). then Header r Ok) b

acked : (bs : List ℕ) (to size : ℕ) (a : AckFields) (f : Fields) → main_of bs ≡ Ok (record { next = ACK; to = to; size = size }) → ack_of bs (record { next = ACK; to = to; size = size }) ≡ Ok a → behind_ack bs (record { next = ACK; to = to; size = size }) a ≡ Ok f → frame_of bs ≡ Ok f
acked bs to size a f m e b =
    framed bs (record { next = ACK; to = to; size = size }) f m
    (ap (λ (r : Result AckFields HeaderFault). then (λ e. e) r (behind_ack bs (record { next = ACK; to = to; size = size }))) e ∙ b)

conn_reads : (to type winsize published : ℕ) (pad : List ℕ) → in_range (conn to type winsize published) ≡ true → frame_of (bytes (conn to type winsize published) ++ pad) ≡ Ok (conn to type winsize published)
conn_reads to type winsize published pad h =
    let bs : List ℕ = bytes (conn to type winsize published) ++ pad in
    let t = conn_fits_is to type winsize published h in
    let m : MainFields = record { next = CONN; to = to; size = 8 } in
    let fit0 : Fit (main_row CONN to 8) = (lit< tt, (lit< tt, (lit< tt, (omega (arith, t.low_to), (lit< tt, (lit< tt, tt)))))) in
    let fit1 : Fit (conn_row type winsize published) = (lit< tt, (t.low_type, (t.low_winsize, (lit< tt, (omega (arith, t.low_published), tt))))) in
    let w0 : ℕ = packed (main_row CONN to 8) in
    let w1 : ℕ = packed (conn_row type winsize published) in
    framed bs m (conn to type winsize published)
    (ap (λ (w : ℕ). judged (main_checks (length bs) w) (main_word w)) (word_laid w0 (big_endian w1 ++ pad) (packed_below (main_row CONN to 8) fit0))
    ∙ main_passes (length bs) w0 CONN to 8 (packed_stand (main_row CONN to 8) fit0) (omega arith) (omega arith) refl refl)
    (ap (λ (w : ℕ). judged (conn_checks m w) (conn to (field w 24 4) (field w 20 4) (field w 0 8))) (word_laid w1 pad (packed_below (conn_row type winsize published) fit1))
    ∙ conn_passes w1 to type winsize published (packed_stand (conn_row type winsize published) fit1) h)

-- MAIN and ACK of the other forms; `rest` begins with the header that Next names, if any.
start : (next size : ℕ) → HeadFields → List ℕ → List ℕ
start next size h rest = big_endian (packed (main_row ACK h.to size)) ++ (big_endian (packed (ack_row next h)) ++ rest)

addressed : (h : HeadFields) → HeadFacts h → all (eqb ACK ACK ∷ eqb h.to 0 ∷ []) ≡ false
addressed h k = grind arith

module _ (next size : ℕ) (h : HeadFields) (rest : List ℕ) (k : HeadFacts h) (low : next < 16) (follows : is_one_of next (LAST ∷ NACK ∷ UDATA ∷ FRAG ∷ []) ≡ true) (few : size < 32768) (eight : 8 ≤ size) (room : size ≤ 8 + length rest) where
  headed : (f : Fields) → behind_ack (start next size h rest) (record { next = ACK; to = h.to; size = size }) (record { next = next; head = h }) ≡ Ok f → frame_of (start next size h rest) ≡ Ok f
  unfolding start
  headed f b =
      let bs : List ℕ = start next size h rest in
      let fit0 : Fit (main_row ACK h.to size) = (lit< tt, (lit< tt, (lit< tt, (omega (arith, k.to), (lit< tt, (few, tt)))))) in
      let fit1 : Fit (ack_row next h) = (low, (omega (arith, k.r), (lit< tt, (omega (arith, k.ackno), (omega (arith, k.seqno), tt))))) in
      let w0 : ℕ = packed (main_row ACK h.to size) in
      let w1 : ℕ = packed (ack_row next h) in
      acked bs h.to size (record { next = next; head = h }) f
      (ap (λ (w : ℕ). judged (main_checks (length bs) w) (main_word w)) (word_laid w0 (big_endian w1 ++ rest) (packed_below (main_row ACK h.to size) fit0))
      ∙ main_passes (length bs) w0 ACK h.to size (packed_stand (main_row ACK h.to size) fit0) (omega arith) (omega arith) refl (addressed h k))
      (ap (λ (w : ℕ). judged (ack_checks (record { next = ACK; to = h.to; size = size }) w) (ack_word h.to w)) (word_laid w1 rest (packed_below (ack_row next h) fit1))
      ∙ ack_passes w1 next size h (packed_stand (ack_row next h) fit1) eight follows)
      b

ack_reads : (h : HeadFields) (pad : List ℕ) → in_range (ack h) ≡ true → frame_of (bytes (ack h) ++ pad) ≡ Ok (ack h)
unfolding start
ack_reads h pad fits = headed LAST 8 h pad (head_fits_is h fits) (lit< tt) refl (lit< tt) (omega arith) (omega arith) (ack h) refl

nack_reads : (h : HeadFields) (count from : ℕ) (pad : List ℕ) → in_range (nack h count from) ≡ true → frame_of (bytes (nack h count from) ++ pad) ≡ Ok (nack h count from)
unfolding start
nack_reads h count from pad fits =
    let counted : count_fits count ≡ true = grind arith in
    let fit : Fit (nack_row count from) = (lit< tt, (lit< tt, (grind arith, (lit< tt, (grind arith, tt))))) in
    let w : ℕ = packed (nack_row count from) in
    headed NACK 12 h (big_endian w ++ pad) (head_fits_is h (grind arith)) (lit< tt) refl (lit< tt) (omega arith) (omega arith) (nack h count from)
    (ap (λ (v : ℕ). judged (nack_checks (record { next = ACK; to = h.to; size = 12 }) v) (nack h (field v 16 8) (field v 0 12))) (word_laid w pad (packed_below (nack_row count from) fit))
    ∙ nack_passes w h count from (packed_stand (nack_row count from) fit) counted)

-- The payload before the padding.
payload_read : (n : ℕ) (p pad : List ℕ) → take (n + length p - n) (p ++ pad) ≡ p
payload_read n p pad = take_at p pad (n + length p - n) (omega arith)

frag_reads : (h : HeadFields) (more number : ℕ) (p pad : List ℕ) → in_range (frag h more number p) ≡ true → frame_of (bytes (frag h more number p) ++ pad) ≡ Ok (frag h more number p)
unfolding start
frag_reads h more number p pad fits =
    let t = frag_fits_is h more number p fits in
    let b = frag_below more number t.fits in
    let fit : Fit (frag_row more number) = (lit< tt, (lit< tt, (b.0, (b.1, tt)))) in
    let w : ℕ = packed (frag_row more number) in
    let m : MainFields = record { next = ACK; to = h.to; size = 12 + length p } in
    let long = length-append p pad in
    headed FRAG (12 + length p) h (big_endian w ++ (p ++ pad)) t.head (lit< tt) refl (omega arith) (omega arith) (omega arith) (frag h more number p)
    (ap (λ (q : List ℕ). judged (frag_checks m (word_at (big_endian w ++ (p ++ pad)) 0)) (frag h (field (word_at (big_endian w ++ (p ++ pad)) 0) 15 1) (field (word_at (big_endian w ++ (p ++ pad)) 0) 0 15) q)) (payload_read 12 p pad)
    ∙ ap (λ (v : ℕ). judged (frag_checks m v) (frag h (field v 15 1) (field v 0 15) p)) (word_laid w (p ++ pad) (packed_below (frag_row more number) fit))
    ∙ frag_passes w h more number p (packed_stand (frag_row more number) fit) t.fits t.long)

udata_reads : (h : HeadFields) (more number dst src : ℕ) (p pad : List ℕ) → in_range (udata h more number dst src p) ≡ true → frame_of (bytes (udata h more number dst src p) ++ pad) ≡ Ok (udata h more number dst src p)
unfolding start
udata_reads h more number dst src p pad fits =
    let all_fit = udata_fits_is h more number dst src p fits in
    let t = all_fit.0 in
    let b = udata_below more number t.fits in
    let fit : Fit (frag_row more number) = (lit< tt, (lit< tt, (b.0, (b.1, tt)))) in
    let fit-a : Fit (address_row dst src) = (omega (arith, all_fit.1.to_dst), (omega (arith, all_fit.1.from_src), tt)) in
    let w : ℕ = packed (frag_row more number) in
    let a : ℕ = packed (address_row dst src) in
    let m : MainFields = record { next = ACK; to = h.to; size = 20 + length p } in
    let long = length-append p pad in
    let tail : List ℕ = big_endian 0 ++ (big_endian a ++ (p ++ pad)) in
    headed UDATA (20 + length p) h (big_endian w ++ tail) t.head (lit< tt) refl (omega arith) (omega arith) (omega arith) (udata h more number dst src p)
    (ap (λ (q : List ℕ). judged (udata_checks m (word_at (big_endian w ++ tail) 0) 0) (udata h (field (word_at (big_endian w ++ tail) 0) 15 1) (field (word_at (big_endian w ++ tail) 0) 0 15) (field (word_at (big_endian a ++ (p ++ pad)) 0) 16 16) (field (word_at (big_endian a ++ (p ++ pad)) 0) 0 16) q)) (payload_read 20 p pad)
    ∙ ap (λ (v : ℕ). judged (udata_checks m v 0) (udata h (field v 15 1) (field v 0 15) (field (word_at (big_endian a ++ (p ++ pad)) 0) 16 16) (field (word_at (big_endian a ++ (p ++ pad)) 0) 0 16) p)) (word_laid w tail (packed_below (frag_row more number) fit))
    ∙ ap (λ (v : ℕ). judged (udata_checks m w 0) (udata h (field w 15 1) (field w 0 15) (field v 16 16) (field v 0 16) p)) (word_laid a (p ++ pad) (packed_below (address_row dst src) fit-a))
    ∙ udata_passes w h 0 a more number dst src p (packed_stand (frag_row more number) fit) refl (packed_stand (address_row dst src) fit-a) t.fits t.long)

pub reads_back : (f : Fields) (pad : List ℕ) → in_range f ≡ true → frame_of (bytes f ++ pad) ≡ Ok f
reads_back (conn to type winsize published) pad h = conn_reads to type winsize published pad h
reads_back (ack k) pad h = ack_reads k pad h
reads_back (nack k count from) pad h = nack_reads k count from pad h
reads_back (udata k more number dst src p) pad h = udata_reads k more number dst src p pad h
reads_back (frag k more number p) pad h = frag_reads k more number p pad h
