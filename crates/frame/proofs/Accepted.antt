-- What is read is exactly the frame of the fields answered, and then padding.
use Rattle.std.proofs.Common.{◌≡◌, ℕ, ◌+◌, ◌-◌, ◌<◌, ◌≤◌, true, false, eqb, List, [], ◌∷◌, ◌++◌, length, take, drop, Ok, sym, refl, ap, ◌∙◌, subst, arith, ltb-false, eqb-true}
use Rattle.std.proofs.lemmas.Bool.{not-false}
use Rattle.std.proofs.lemmas.List.{take-append-drop, drop-drop, length-take-le, length-drop}
use Rattle.frame.specs.declared.fault.FrameFault.TheVariants.{Header}
use Rattle.frame.specs.Numbers.{CONN, UDATA, ACK, NACK, FRAG, LAST}
use Rattle.frame.specs.Fields.{HeadFields, Fields, conn, ack, nack, udata, frag}
use Rattle.frame.specs.Layout.{packed, main_row, conn_row, ack_row, nack_row, frag_row, address_row, big_endian}
use Rattle.frame.specs.Ranges.{all, within, is_number, conn_fits, head_fits, count_fits, udata_fits, frag_fits, length_fits}
use Rattle.frame.specs.Checks.{then}
use Rattle.frame.specs.Reader.{MainFields, word_at, field, part, is_not, is_one_of, main_checks, main_word, main_of, conn_checks, conn_of, ack_checks, ack_word, ack_of, last_checks, last_of, nack_checks, nack_of, udata_checks, udata_of, frag_checks, frag_of, behind_ack, behind_main, frame_of}
use Rattle.frame.specs.Laws.{Carries}
use Rattle.frame.proofs.Judging.{ways, NoneHolds, judged_passed, then_passed}
use Rattle.frame.proofs.Rows.{stand_packed}
use Rattle.frame.proofs.Words.{Bytes, word_split}
use Rattle.frame.proofs.Fitting.{all_true, within_is}

same_is : (a b : ℕ) → is_not a b ≡ false → a ≡ b
same_is a b h = eqb-true a b (not-false (eqb a b) h)

-- A word at a place of a list of bytes is below 2 ^ 32.
word_below : (bs : List ℕ) (at : ℕ) → Bytes bs → word_at bs at < 4294967296
word_below bs at small = omega (arith, small at, small (at + 1), small (at + 2), small (at + 3))

-- The bytes from a place on: a word that is known, and what lies behind it.
laid_at : (bs : List ℕ) (at v : ℕ) → Bytes bs → at + 4 ≤ length bs → word_at bs at ≡ v → drop at bs ≡ big_endian v ++ drop (at + 4) bs
laid_at bs at v small room e = word_split bs at small room ∙ ap (λ (w : ℕ). big_endian w ++ drop (at + 4) bs) e

-- The bytes from a place on: the payload, and what lies behind the packet size.
part_split : (bs : List ℕ) (from size : ℕ) → from ≤ size → drop from bs ≡ part from size bs ++ drop size bs
part_split bs from size h =
    let back : drop (size - from) (drop from bs) ≡ drop (from + (size - from)) bs = drop-drop (size - from) from bs in
    let same : from + (size - from) ≡ size = omega arith in
    let whole : take (size - from) (drop from bs) ++ drop (size - from) (drop from bs) ≡ drop from bs = take-append-drop (size - from) (drop from bs) in
    cc

part_length : (bs : List ℕ) (from size : ℕ) → from ≤ size → size ≤ length bs → from + length (part from size bs) ≡ size
part_length bs from size h room =
    let behind = length-drop from bs in
    let long : length (part from size bs) ≡ size - from = length-take-le (size - from) (drop from bs) (omega arith) in
    omega arith

main_row_is : (long w : ℕ) → w < 4294967296 → NoneHolds (main_checks long w) → w ≡ packed (main_row (field w 28 4) (field w 16 8) (field w 0 15))
main_row_is long w h (short, (room, (ver, (res, (res2, _))))) =
    stand_packed w (main_row (field w 28 4) (field w 16 8) (field w 0 15)) h
    (refl, (same_is (field w 25 3) 3 ver, (same_is (field w 24 1) 0 res, (refl, (same_is (field w 15 1) 0 res2, (refl, tt))))))

conn_row_is : (m : MainFields) (w : ℕ) → w < 4294967296 → NoneHolds (conn_checks m w) → w ≡ packed (conn_row (field w 24 4) (field w 20 4) (field w 0 8))
conn_row_is m w h (room, (res, (next, _))) =
    stand_packed w (conn_row (field w 24 4) (field w 20 4) (field w 0 8)) h
    (same_is (field w 28 4) LAST next, (refl, (refl, (same_is (field w 8 12) 0 res, (refl, tt)))))

ack_row_is : (m : MainFields) (w : ℕ) → w < 4294967296 → NoneHolds (ack_checks m w) → w ≡ packed (ack_row (ack_word m.to w).next (ack_word m.to w).head)
ack_row_is m w h (room, (res, _)) =
    stand_packed w (ack_row (field w 28 4) (ack_word m.to w).head) h
    (refl, (refl, (same_is (field w 24 3) 0 res, (refl, (refl, tt)))))

nack_row_is : (m : MainFields) (w : ℕ) → w < 4294967296 → NoneHolds (nack_checks m w) → w ≡ packed (nack_row (field w 16 8) (field w 0 12))
nack_row_is m w h (room, (res, (res2, (next, _)))) =
    stand_packed w (nack_row (field w 16 8) (field w 0 12)) h
    (same_is (field w 28 4) LAST next, (same_is (field w 24 4) 0 res, (refl, (same_is (field w 12 4) 0 res2, (refl, tt)))))

frag_row_is : (w : ℕ) → w < 4294967296 → field w 28 4 ≡ LAST → field w 16 12 ≡ 0 → w ≡ packed (frag_row (field w 15 1) (field w 0 15))
frag_row_is w h next res = stand_packed w (frag_row (field w 15 1) (field w 0 15)) h (next, (res, (refl, (refl, tt))))

address_row_is : (w : ℕ) → w < 4294967296 → w ≡ packed (address_row (field w 16 16) (field w 0 16))
address_row_is w h = stand_packed w (address_row (field w 16 16) (field w 0 16)) h (refl, (refl, tt))

-- MAIN CONN
conn_carries : (bs : List ℕ) (f : Fields) → Bytes bs → NoneHolds (main_checks (length bs) (word_at bs 0)) → field (word_at bs 0) 28 4 ≡ CONN → conn_of bs (main_word (word_at bs 0)) ≡ Ok f → Carries bs f
conn_carries bs f small passed next h =
    let w0 : ℕ = word_at bs 0 in
    let w1 : ℕ = word_at bs 4 in
    let m : MainFields = main_word w0 in
    let g : Fields = conn m.to (field w1 24 4) (field w1 20 4) (field w1 0 8) in
    let t = judged_passed (conn_checks m w1) g f h in
    let eight : m.size ≡ 8 = same_is m.size 8 t.0.1.1.1.1.0 in
    let room : m.size ≤ length bs = ltb-false (length bs) m.size passed.1.0 in
    let row0 : w0 ≡ packed (main_row CONN m.to 8) = main_row_is (length bs) w0 (word_below bs 0 small) passed ∙ cc in
    let row1 : w1 ≡ packed (conn_row (field w1 24 4) (field w1 20 4) (field w1 0 8)) = conn_row_is m w1 (word_below bs 4 small) t.0 in
    subst (Carries bs) t.1
    (record {
      range = not-false (conn_fits m.to (field w1 24 4) (field w1 20 4) (field w1 0 8)) t.0.1.1.1.0;
      padding = drop 8 bs;
      same = laid_at bs 0 (packed (main_row CONN m.to 8)) small (omega arith) row0
          ∙ ap (λ (rest : List ℕ). big_endian (packed (main_row CONN m.to 8)) ++ rest) (laid_at bs 4 (packed (conn_row (field w1 24 4) (field w1 20 4) (field w1 0 8))) small (omega arith) row1);
    })

one_of_two : (n a b : ℕ) → is_one_of n (a ∷ b ∷ []) ≡ true → eqb n a ≡ false → n ≡ b
one_of_two n a b h other = grind arith

one_of_four : (n : ℕ) → is_one_of n (LAST ∷ NACK ∷ UDATA ∷ FRAG ∷ []) ≡ true → eqb n LAST ≡ false → eqb n NACK ≡ false → eqb n UDATA ≡ false → n ≡ FRAG
one_of_four n h a b c = grind arith

-- Conn ID is not 0 where ACK follows.
nonzero : (next to : ℕ) → next ≡ ACK → all (eqb next ACK ∷ eqb to 0 ∷ []) ≡ false → 0 < to
nonzero next to e h = grind arith

-- The frames that go on behind ACK. `w0` and `w1` are the words of MAIN and ACK.
module _ (bs : List ℕ) (small : Bytes bs) where
  abbrev w0 : ℕ
  w0 = word_at bs 0

  abbrev w1 : ℕ
  w1 = word_at bs 4

  abbrev m : MainFields
  m = main_word w0

  abbrev h : HeadFields
  h = (ack_word m.to w1).head

  -- What the checks of MAIN and ACK leave: the receiver is a number, and both words are those of the fields.
  record Headed : Type 0 where
    fits : head_fits h ≡ true
    room : m.size ≤ length bs
    eight : 8 ≤ m.size
    main : w0 ≡ packed (main_row ACK h.to m.size)
    behind : w1 ≡ packed (ack_row (field w1 28 4) h)

  -- MAIN and ACK, with the size and the next header that are known of them.
  started : Headed → (n size : ℕ) → field w1 28 4 ≡ n → m.size ≡ size → bs ≡ big_endian (packed (main_row ACK h.to size)) ++ (big_endian (packed (ack_row n h)) ++ drop 8 bs)
  started k n size e z =
      laid_at bs 0 (packed (main_row ACK h.to size)) small (omega arith) (k.main ∙ ap (λ (x : ℕ). packed (main_row ACK h.to x)) z)
      ∙ ap (λ (rest : List ℕ). big_endian (packed (main_row ACK h.to size)) ++ rest) (laid_at bs 4 (packed (ack_row n h)) small (omega arith) (k.behind ∙ ap (λ (x : ℕ). packed (ack_row x h)) e))

  last_carries : Headed → (f : Fields) → field w1 28 4 ≡ LAST → last_of m h ≡ Ok f → Carries bs f
  last_carries k f next e =
      let t = judged_passed (last_checks m) (ack h) f e in
      subst (Carries bs) t.1
      (record { range = k.fits; padding = drop 8 bs; same = started k LAST 8 next (same_is m.size 8 t.0.0) })

  nack_carries : Headed → (f : Fields) → field w1 28 4 ≡ NACK → nack_of bs m h ≡ Ok f → Carries bs f
  nack_carries k f next e =
      let w : ℕ = word_at bs 8 in
      let t = judged_passed (nack_checks m w) (nack h (field w 16 8) (field w 0 12)) f e in
      let size : m.size ≡ 12 = same_is m.size 12 t.0.1.1.1.1.1.0 in
      let row : w ≡ packed (nack_row (field w 16 8) (field w 0 12)) = nack_row_is m w (word_below bs 8 small) t.0 in
      subst (Carries bs) t.1
      (record {
        range = all_true (head_fits h ∷ count_fits (field w 16 8) ∷ within 0 4095 (field w 0 12) ∷ []) (k.fits, (not-false (count_fits (field w 16 8)) t.0.1.1.1.1.0, (within_is 0 4095 (field w 0 12) (omega arith) (omega arith), tt)));
        padding = drop 12 bs;
        same = started k NACK 12 next size
            ∙ ap (λ (rest : List ℕ). big_endian (packed (main_row ACK h.to 12)) ++ (big_endian (packed (ack_row NACK h)) ++ rest)) (laid_at bs 8 (packed (nack_row (field w 16 8) (field w 0 12))) small (omega (arith, k.room)) row);
      })

  frag_carries : Headed → (f : Fields) → field w1 28 4 ≡ FRAG → frag_of bs m h ≡ Ok f → Carries bs f
  frag_carries k f next e =
      let w : ℕ = word_at bs 8 in
      let p : List ℕ = part 12 m.size bs in
      let more : ℕ = field w 15 1 in
      let number : ℕ = field w 0 15 in
      let t = judged_passed (frag_checks m w) (frag h more number p) f e in
      let twelve : 12 ≤ m.size = ltb-false m.size 12 t.0.0 in
      let size : 12 + length p ≡ m.size = part_length bs 12 m.size twelve k.room in
      let long : m.size - 12 ≡ length p = omega arith in
      let row : w ≡ packed (frag_row more number) = frag_row_is w (word_below bs 8 small) (same_is (field w 28 4) LAST t.0.1.1.0) (same_is (field w 16 12) 0 t.0.1.0) in
      let front : List ℕ → List ℕ = λ rest. big_endian (packed (main_row ACK h.to (12 + length p))) ++ (big_endian (packed (ack_row FRAG h)) ++ rest) in
      subst (Carries bs) t.1
      (record {
        range = all_true (head_fits h ∷ frag_fits more number ∷ length_fits 1 more (length p) ∷ [])
            (k.fits, (not-false (frag_fits more number) t.0.1.1.1.0, (ap (length_fits 1 more) (sym long) ∙ not-false (length_fits 1 more (m.size - 12)) t.0.1.1.1.1.0, tt)));
        padding = drop m.size bs;
        same = started k FRAG (12 + length p) next (sym size)
            ∙ ap front (laid_at bs 8 (packed (frag_row more number)) small (omega (arith, k.room)) row
            ∙ ap (λ (rest : List ℕ). big_endian (packed (frag_row more number)) ++ rest) (part_split bs 12 m.size twelve));
      })

  udata_carries : Headed → (f : Fields) → field w1 28 4 ≡ UDATA → udata_of bs m h ≡ Ok f → Carries bs f
  udata_carries k f next e =
      let w : ℕ = word_at bs 8 in
      let a : ℕ = word_at bs 16 in
      let p : List ℕ = part 20 m.size bs in
      let more : ℕ = field w 15 1 in
      let number : ℕ = field w 0 15 in
      let dst : ℕ = field a 16 16 in
      let src : ℕ = field a 0 16 in
      let t = judged_passed (udata_checks m w (word_at bs 12)) (udata h more number dst src p) f e in
      let twenty : 20 ≤ m.size = ltb-false m.size 20 t.0.0 in
      let size : 20 + length p ≡ m.size = part_length bs 20 m.size twenty k.room in
      let long : m.size - 20 ≡ length p = omega arith in
      let row : w ≡ packed (frag_row more number) = frag_row_is w (word_below bs 8 small) (same_is (field w 28 4) LAST t.0.1.1.1.0) (same_is (field w 16 12) 0 t.0.1.0) in
      let front : List ℕ → List ℕ = λ rest. big_endian (packed (main_row ACK h.to (20 + length p))) ++ (big_endian (packed (ack_row UDATA h)) ++ (big_endian (packed (frag_row more number)) ++ rest)) in
      subst (Carries bs) t.1
      (record {
        range = all_true (head_fits h ∷ udata_fits more number ∷ length_fits 0 more (length p) ∷ within 0 65535 dst ∷ within 0 65535 src ∷ [])
            (k.fits, (not-false (udata_fits more number) t.0.1.1.1.1.0, (ap (length_fits 0 more) (sym long) ∙ not-false (length_fits 0 more (m.size - 20)) t.0.1.1.1.1.1.0, (within_is 0 65535 dst (omega arith) (omega arith), (within_is 0 65535 src (omega arith) (omega arith), tt)))));
        padding = drop m.size bs;
        same = started k UDATA (20 + length p) next (sym size)
            ∙ ap (λ (rest : List ℕ). big_endian (packed (main_row ACK h.to (20 + length p))) ++ (big_endian (packed (ack_row UDATA h)) ++ rest)) (laid_at bs 8 (packed (frag_row more number)) small (omega (arith, k.room)) row)
            ∙ ap front (laid_at bs 12 0 small (omega (arith, k.room)) (same_is (word_at bs 12) 0 t.0.1.1.0)
            ∙ ap (λ (rest : List ℕ). big_endian 0 ++ rest) (laid_at bs 16 (packed (address_row dst src)) small (omega (arith, k.room)) (address_row_is a (word_below bs 16 small))
            ∙ ap (λ (rest : List ℕ). big_endian (packed (address_row dst src)) ++ rest) (part_split bs 20 m.size twenty)));
      })

  headed : NoneHolds (main_checks (length bs) w0) → eqb m.next CONN ≡ false → NoneHolds (ack_checks m w1) → Headed
  headed passed other (eight, (res, (follows, _))) =
      let ack-next : m.next ≡ ACK = one_of_two m.next CONN ACK (not-false (is_one_of m.next (CONN ∷ ACK ∷ [])) passed.1.1.1.1.1.0) other in
      let named : 0 < m.to = nonzero m.next m.to ack-next passed.1.1.1.1.1.1.0 in
      record {
        fits = all_true (is_number h.to ∷ within 0 1 h.r ∷ within 0 4095 h.ackno ∷ within 0 4095 h.seqno ∷ [])
            (within_is 1 255 h.to named (omega arith), (within_is 0 1 h.r (omega arith) (omega arith), (within_is 0 4095 h.ackno (omega arith) (omega arith), (within_is 0 4095 h.seqno (omega arith) (omega arith), tt))));
        room = ltb-false (length bs) m.size passed.1.0;
        eight = ltb-false m.size 8 eight;
        main = main_row_is (length bs) w0 (word_below bs 0 small) passed ∙ ap (λ (x : ℕ). packed (main_row x m.to m.size)) ack-next;
        behind = ack_row_is m w1 (word_below bs 4 small) (eight, (res, (follows, tt)));
      }

  -- Next names one of four headers.
  behind_carries : Headed → is_one_of (field w1 28 4) (LAST ∷ NACK ∷ UDATA ∷ FRAG ∷ []) ≡ true → (f : Fields) → behind_ack bs m (ack_word m.to w1) ≡ Ok f → Carries bs f
  behind_carries k follows f e =
      let n : ℕ = field w1 28 4 in
      ways (eqb n LAST) _ _ (Ok f) e (λ y r. last_carries k f (eqb-true n LAST y) r) (λ n1 e1.
      ways (eqb n NACK) _ _ (Ok f) e1 (λ y r. nack_carries k f (eqb-true n NACK y) r) (λ n2 e2.
      ways (eqb n UDATA) _ _ (Ok f) e2 (λ y r. udata_carries k f (eqb-true n UDATA y) r) (λ n3 e3.
      frag_carries k f (one_of_four n follows n1 n2 n3) e3)))

pub accepted : (bs : List ℕ) → Bytes bs → (f : Fields) → frame_of bs ≡ Ok f → Carries bs f
accepted bs small f e =
    let w : ℕ = word_at bs 0 in
    let r = then_passed (λ x. x) (main_of bs) (λ m. then Header (behind_main bs m) Ok) f e in
    let t = judged_passed (main_checks (length bs) w) (main_word w) r.0 r.1 in
    let later = then_passed Header (behind_main bs r.0) Ok f r.2 in
    let same : later.0 ≡ f = cc in
    let m : MainFields = main_word w in
    let body : behind_main bs m ≡ Ok f = ap (behind_main bs) t.1 ∙ later.1 ∙ ap Ok same in
    ways (eqb m.next CONN) _ _ (Ok f) body (λ y c. conn_carries bs f small t.0 (eqb-true m.next CONN y) c) (λ other c.
    let a = then_passed (λ x. x) (ack_of bs m) (behind_ack bs m) f c in
    let u = judged_passed (ack_checks m (word_at bs 4)) (ack_word m.to (word_at bs 4)) a.0 a.1 in
    behind_carries bs small (headed bs small t.0 other u.0) (not-false (is_one_of (field (word_at bs 4) 28 4) (LAST ∷ NACK ∷ UDATA ∷ FRAG ∷ [])) u.0.1.1.0) f
    (ap (behind_ack bs m) u.1 ∙ a.2))
