-- The frame format: a header is a list of words of 32 bits, and a word is a row of fields from the top bit.
use Rattle.std.specs.Prelude.{ℕ, ◌+◌, ◌*◌, ◌/◌, ◌%◌, ◌^◌, List, [], ◌∷◌, ◌++◌, map, length}
use Rattle.std.specs.List.{flat_map}
use Rattle.frame.specs.Fields.{HeadFields, Fields, conn, ack, nack, udata, frag}
use Rattle.frame.specs.Numbers.{CONN, UDATA, FRAG, ACK, NACK, LAST}

-- One word: for each field its width in bits and its value.
abbrev pub Row : Type 0
Row = List (ℕ × ℕ)

abbrev pub width : Row → ℕ
width [] = 0
width (f ∷ fs) = f.0 + width fs

-- The number that the fields of a row make, the first field at the top.
abbrev pub packed : Row → ℕ
packed [] = 0
packed (f ∷ fs) = f.1 * 2 ^ width fs + packed fs

-- MAIN: Next, Ver, Res, Conn ID, Res, Packet size. Ver is 3, and every Res is 0.
abbrev pub main_row : (next to size : ℕ) → Row
main_row next to size = (4, next) ∷ (3, 3) ∷ (1, 0) ∷ (8, to) ∷ (1, 0) ∷ (15, size) ∷ []

-- CONN: Next, Type, Winsize, Res, Published
abbrev pub conn_row : (type winsize published : ℕ) → Row
conn_row type winsize published = (4, LAST) ∷ (4, type) ∷ (4, winsize) ∷ (12, 0) ∷ (8, published) ∷ []

-- ACK: Next, R, Res, Ackno, Seqno
abbrev pub ack_row : (next : ℕ) → HeadFields → Row
ack_row next h = (4, next) ∷ (1, h.r) ∷ (3, 0) ∷ (12, h.ackno) ∷ (12, h.seqno) ∷ []

-- NACK: Next, Res, Count, Res, Seqno
abbrev pub nack_row : (count from : ℕ) → Row
nack_row count from = (4, LAST) ∷ (4, 0) ∷ (8, count) ∷ (4, 0) ∷ (12, from) ∷ []

-- FRAG, and the first word of UDATA: Next, Res, M, Frag no
abbrev pub frag_row : (more number : ℕ) → Row
frag_row more number = (4, LAST) ∷ (12, 0) ∷ (1, more) ∷ (15, number) ∷ []

-- The last word of UDATA: Dst, Src
abbrev pub address_row : (dst src : ℕ) → Row
address_row dst src = (16, dst) ∷ (16, src) ∷ []

abbrev pub payload : Fields → List ℕ
payload (conn to type winsize published) = []
payload (ack h) = []
payload (nack h count from) = []
payload (udata h more number dst src p) = p
payload (frag h more number p) = p

-- Packet size: the whole frame in bytes.
abbrev pub size : Fields → ℕ
size (conn to type winsize published) = 8
size (ack h) = 8
size (nack h count from) = 12
size (udata h more number dst src p) = 20 + length p
size (frag h more number p) = 12 + length p

-- The headers of each form, word by word.
abbrev pub rows : Fields → List Row
rows (conn to type winsize published) = main_row CONN to 8 ∷ conn_row type winsize published ∷ []
rows (ack h) = main_row ACK h.to 8 ∷ ack_row LAST h ∷ []
rows (nack h count from) = main_row ACK h.to 12 ∷ ack_row NACK h ∷ nack_row count from ∷ []
rows (udata h more number dst src p) =
    main_row ACK h.to (20 + length p) ∷ ack_row UDATA h ∷ frag_row more number ∷ ((32, 0) ∷ []) ∷ address_row dst src ∷ []
rows (frag h more number p) = main_row ACK h.to (12 + length p) ∷ ack_row FRAG h ∷ frag_row more number ∷ []

-- The four bytes of a word, high byte first.
abbrev pub big_endian : ℕ → List ℕ
big_endian w = (w / 16777216 % 256) ∷ (w / 65536 % 256) ∷ (w / 256 % 256) ∷ (w % 256) ∷ []

-- The bytes of a list of words.
abbrev pub laid : List ℕ → List ℕ
laid ws = flat_map big_endian ws

-- The bytes of a frame: its headers, then its payload.
abbrev pub bytes : Fields → List ℕ
bytes f = laid (map packed (rows f)) ++ payload f
