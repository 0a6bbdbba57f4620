-- What reading a list of bytes answers: the fields of a form, or the fault that is tried first.
use Rattle.std.specs.Prelude.{ℕ, ◌+◌, ◌-◌, ◌*◌, ◌/◌, ◌%◌, ◌^◌, Bool, true, false, cond, not, List, [], ◌∷◌, length, Ok, Result, ◌==◌, nat_lt, slice_index, slice_range}
use Rattle.frame.specs.declared.fault.Cause.TheVariants.{Short, Version, Reserved, Next, Size, Range}
use Rattle.frame.specs.declared.fault.HeaderFault.{HeaderFault}
use Rattle.frame.specs.declared.fault.FrameFault.{FrameFault}
use Rattle.frame.specs.declared.fault.FrameFault.TheVariants.{Main, Header}
use Rattle.frame.specs.Numbers.{CONN, UDATA, ACK, NACK, FRAG, LAST}
use Rattle.frame.specs.Faults.{at}
use Rattle.frame.specs.Fields.{HeadFields, Fields, conn, ack, nack, udata, frag}
use Rattle.frame.specs.Ranges.{all, conn_fits, count_fits, udata_fits, frag_fits, length_fits}
use Rattle.frame.specs.Checks.{Checks, judged, then}

-- The word of four bytes at a place, high byte first.
abbrev pub word_at : List ℕ → ℕ → ℕ
word_at bs at = slice_index bs at * 16777216 + slice_index bs (at + 1) * 65536 + slice_index bs (at + 2) * 256 + slice_index bs (at + 3)

-- The field of a word whose lowest bit is `low`.
abbrev pub field : (word low width : ℕ) → ℕ
field w low width = w / 2 ^ low % 2 ^ width

abbrev pub is_not : ℕ → ℕ → Bool
is_not n m = not (n == m)

abbrev pub is_one_of : ℕ → List ℕ → Bool
is_one_of n [] = false
is_one_of n (m ∷ ms) = cond (n == m) true (is_one_of n ms)

-- The bytes behind the headers and before the padding.
abbrev pub part : (from size : ℕ) → List ℕ → List ℕ
part from size bs = slice_range bs from size

-- MAIN, at byte 0: Next 4, Ver 3, Res 1, Conn ID 8, Res 1, Packet size 15. `long` counts the bytes at hand.
pub record MainFields : Type 0 where
  pub next : ℕ
  pub to : ℕ
  pub size : ℕ

abbrev pub main_checks : (long word : ℕ) → Checks FrameFault
main_checks long w =
    (nat_lt long 4, Main Short)
    ∷ (nat_lt long (field w 0 15), Main Short)
    ∷ (is_not (field w 25 3) 3, Main Version)
    ∷ (is_not (field w 24 1) 0, Main Reserved)
    ∷ (is_not (field w 15 1) 0, Main Reserved)
    ∷ (not (is_one_of (field w 28 4) (CONN ∷ ACK ∷ [])), Main Next)
    ∷ (all ((field w 28 4 == ACK) ∷ (field w 16 8 == 0) ∷ []), Main Range)
    ∷ []

abbrev pub main_word : ℕ → MainFields
main_word w = record { next = field w 28 4; to = field w 16 8; size = field w 0 15 }

abbrev pub main_of : List ℕ → Result MainFields FrameFault
main_of bs = judged (main_checks (length bs) (word_at bs 0)) (main_word (word_at bs 0))

-- CONN, at byte 4: Next 4, Type 4, Winsize 4, Res 12, Published 8
abbrev pub conn_checks : MainFields → ℕ → Checks HeaderFault
conn_checks m w =
    (nat_lt m.size 8, at 4 Size)
    ∷ (is_not (field w 8 12) 0, at 4 Reserved)
    ∷ (is_not (field w 28 4) LAST, at 4 Next)
    ∷ (not (conn_fits m.to (field w 24 4) (field w 20 4) (field w 0 8)), at 4 Range)
    ∷ (is_not m.size 8, at 4 Size)
    ∷ []

abbrev pub conn_of : List ℕ → MainFields → Result Fields HeaderFault
conn_of bs m =
    let w : ℕ = word_at bs 4 in
    judged (conn_checks m w) (conn m.to (field w 24 4) (field w 20 4) (field w 0 8))

-- ACK, at byte 4: Next 4, R 1, Res 3, Ackno 12, Seqno 12
pub record AckFields : Type 0 where
  pub next : ℕ
  pub head : HeadFields

abbrev pub ack_checks : MainFields → ℕ → Checks HeaderFault
ack_checks m w =
    (nat_lt m.size 8, at 4 Size)
    ∷ (is_not (field w 24 3) 0, at 4 Reserved)
    ∷ (not (is_one_of (field w 28 4) (LAST ∷ NACK ∷ UDATA ∷ FRAG ∷ [])), at 4 Next)
    ∷ []

abbrev pub ack_word : (to word : ℕ) → AckFields
ack_word to w =
    record { next = field w 28 4; head = record { to = to; r = field w 27 1; ackno = field w 12 12; seqno = field w 0 12 } }

abbrev pub ack_of : List ℕ → MainFields → Result AckFields HeaderFault
ack_of bs m = judged (ack_checks m (word_at bs 4)) (ack_word m.to (word_at bs 4))

-- ACK as the last header: nothing may lie behind it.
abbrev pub last_checks : MainFields → Checks HeaderFault
last_checks m = (is_not m.size 8, at 4 Size) ∷ []

abbrev pub last_of : MainFields → HeadFields → Result Fields HeaderFault
last_of m h = judged (last_checks m) (ack h)

-- NACK, at byte 8: Next 4, Res 4, Count 8, Res 4, Seqno 12
abbrev pub nack_checks : MainFields → ℕ → Checks HeaderFault
nack_checks m w =
    (nat_lt m.size 12, at 8 Size)
    ∷ (is_not (field w 24 4) 0, at 8 Reserved)
    ∷ (is_not (field w 12 4) 0, at 8 Reserved)
    ∷ (is_not (field w 28 4) LAST, at 8 Next)
    ∷ (not (count_fits (field w 16 8)), at 8 Range)
    ∷ (is_not m.size 12, at 8 Size)
    ∷ []

abbrev pub nack_of : List ℕ → MainFields → HeadFields → Result Fields HeaderFault
nack_of bs m h =
    let w : ℕ = word_at bs 8 in
    judged (nack_checks m w) (nack h (field w 16 8) (field w 0 12))

-- UDATA, at byte 8: Next 4, Res 12, M 1, Frag no 15; Res 32, the word `res`; Dst 16, Src 16
abbrev pub udata_checks : MainFields → (word res : ℕ) → Checks HeaderFault
udata_checks m w res =
    (nat_lt m.size 20, at 8 Size)
    ∷ (is_not (field w 16 12) 0, at 8 Reserved)
    ∷ (is_not res 0, at 8 Reserved)
    ∷ (is_not (field w 28 4) LAST, at 8 Next)
    ∷ (not (udata_fits (field w 15 1) (field w 0 15)), at 8 Range)
    ∷ (not (length_fits 0 (field w 15 1) (m.size - 20)), at 8 Size)
    ∷ []

abbrev pub udata_of : List ℕ → MainFields → HeadFields → Result Fields HeaderFault
udata_of bs m h =
    let w : ℕ = word_at bs 8 in
    let a : ℕ = word_at bs 16 in
    judged (udata_checks m w (word_at bs 12))
    (udata h (field w 15 1) (field w 0 15) (field a 16 16) (field a 0 16) (part 20 m.size bs))

-- FRAG, at byte 8: Next 4, Res 12, M 1, Frag no 15
abbrev pub frag_checks : MainFields → ℕ → Checks HeaderFault
frag_checks m w =
    (nat_lt m.size 12, at 8 Size)
    ∷ (is_not (field w 16 12) 0, at 8 Reserved)
    ∷ (is_not (field w 28 4) LAST, at 8 Next)
    ∷ (not (frag_fits (field w 15 1) (field w 0 15)), at 8 Range)
    ∷ (not (length_fits 1 (field w 15 1) (m.size - 12)), at 8 Size)
    ∷ []

abbrev pub frag_of : List ℕ → MainFields → HeadFields → Result Fields HeaderFault
frag_of bs m h =
    let w : ℕ = word_at bs 8 in
    judged (frag_checks m w) (frag h (field w 15 1) (field w 0 15) (part 12 m.size bs))

-- Next names the header that follows ACK.
abbrev pub behind_ack : List ℕ → MainFields → AckFields → Result Fields HeaderFault
behind_ack bs m a =
    cond (a.next == LAST) (last_of m a.head)
    (cond (a.next == NACK) (nack_of bs m a.head)
    (cond (a.next == UDATA) (udata_of bs m a.head) (frag_of bs m a.head)))

-- Next names the header that follows MAIN.
abbrev pub behind_main : List ℕ → MainFields → Result Fields HeaderFault
behind_main bs m = cond (m.next == CONN) (conn_of bs m) (then (λ e. e) (ack_of bs m) (behind_ack bs m))

-- What reading the bytes answers. A fault in a later header enters the frame's fault.
abbrev pub frame_of : List ℕ → Result Fields FrameFault
frame_of bs = then (λ e. e) (main_of bs) (λ m. then Header (behind_main bs m) Ok)
