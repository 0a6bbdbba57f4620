-- A header whose fields stand in its word and are in range passes its checks, and gives these fields.
use Rattle.std.proofs.Common.{◌≡◌, ℕ, ◌+◌, ◌≤◌, true, false, eqb, List, [], ◌∷◌, length, Ok, arith}
use Rattle.frame.specs.Numbers.{CONN, UDATA, ACK, NACK, FRAG, LAST}
use Rattle.frame.specs.Fields.{HeadFields, conn, nack, udata, frag}
use Rattle.frame.specs.Layout.{main_row, conn_row, ack_row, nack_row, frag_row, address_row}
use Rattle.frame.specs.Ranges.{all, conn_fits, count_fits, udata_fits, frag_fits, length_fits}
use Rattle.frame.specs.Checks.{judged}
use Rattle.frame.specs.Reader.{field, is_one_of, main_checks, main_word, conn_checks, ack_checks, ack_word, nack_checks, udata_checks, frag_checks}
use Rattle.frame.proofs.Rows.{Stand}

pub main_passes : (long w next to size : ℕ) → Stand w (main_row next to size) → 4 ≤ long → size ≤ long → is_one_of next (CONN ∷ ACK ∷ []) ≡ true → all (eqb next ACK ∷ eqb to 0 ∷ []) ≡ false → judged (main_checks long w) (main_word w) ≡ Ok (record { next = next; to = to; size = size })
main_passes long w next to size (n, (ver, (res, (t, (res2, (z, _)))))) four fits follows addressed = grind arith

pub conn_passes : (w to type winsize published : ℕ) → Stand w (conn_row type winsize published) → conn_fits to type winsize published ≡ true → judged (conn_checks (record { next = CONN; to = to; size = 8 }) w) (conn to (field w 24 4) (field w 20 4) (field w 0 8)) ≡ Ok (conn to type winsize published)
conn_passes w to type winsize published (next, (t, (win, (res, (pub', _))))) fits = grind arith

pub ack_passes : (w next size : ℕ) (h : HeadFields) → Stand w (ack_row next h) → 8 ≤ size → is_one_of next (LAST ∷ NACK ∷ UDATA ∷ FRAG ∷ []) ≡ true → judged (ack_checks (record { next = ACK; to = h.to; size = size }) w) (ack_word h.to w) ≡ Ok (record { next = next; head = h })
ack_passes w next size h (n, (r, (res, (a, (s, _))))) room follows = grind arith

-- The headers at byte 8 follow MAIN with the same receiver.
module _ (w : ℕ) (h : HeadFields) where
  pub nack_passes : (count from : ℕ) → Stand w (nack_row count from) → count_fits count ≡ true → judged (nack_checks (record { next = ACK; to = h.to; size = 12 }) w) (nack h (field w 16 8) (field w 0 12)) ≡ Ok (nack h count from)
  nack_passes count from (next, (res, (c, (res2, (f, _))))) fits = grind arith

  pub udata_passes : (res a more number dst src : ℕ) (p : List ℕ) → Stand w (frag_row more number) → res ≡ 0 → Stand a (address_row dst src) → udata_fits more number ≡ true → length_fits 0 more (length p) ≡ true → judged (udata_checks (record { next = ACK; to = h.to; size = 20 + length p }) w res) (udata h (field w 15 1) (field w 0 15) (field a 16 16) (field a 0 16) p) ≡ Ok (udata h more number dst src p)
  udata_passes res a more number dst src p (next, (zero, (m, (n, _)))) none (d, (s, _)) fits long = grind arith

  pub frag_passes : (more number : ℕ) (p : List ℕ) → Stand w (frag_row more number) → frag_fits more number ≡ true → length_fits 1 more (length p) ≡ true → judged (frag_checks (record { next = ACK; to = h.to; size = 12 + length p }) w) (frag h (field w 15 1) (field w 0 15) p) ≡ Ok (frag h more number p)
  frag_passes more number p (next, (zero, (m, (n, _)))) fits long = grind arith
