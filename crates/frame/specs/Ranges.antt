-- Which values a frame's fields may have.
use Rattle.std.specs.Prelude.{ℕ, Bool, true, false, cond, List, [], ◌∷◌, length, ◌==◌, nat_le}
use Rattle.frame.specs.Fields.{HeadFields, Fields, conn, ack, nack, udata, frag}

-- Every test passes.
abbrev pub all : List Bool → Bool
all [] = true
all (b ∷ bs) = cond b (all bs) false

-- From `low` to `high`, both counted.
abbrev pub within : (low high n : ℕ) → Bool
within low high n = all (nat_le low n ∷ nat_le n high ∷ [])

-- A connection number.
abbrev pub is_number : ℕ → Bool
is_number n = within 1 255 n

-- CONNECT 1 has no receiver yet; Winsize stands in CONNECT and CONNECT_ACK 2; connect ACK is 3; RESET 4 publishes nothing.
abbrev pub conn_fits : (to type winsize published : ℕ) → Bool
conn_fits to type winsize published =
    cond (type == 1) (all ((to == 0) ∷ within 0 5 winsize ∷ is_number published ∷ []))
    (cond (type == 2) (all (is_number to ∷ within 0 5 winsize ∷ is_number published ∷ []))
    (cond (type == 3) (all (is_number to ∷ (winsize == 0) ∷ is_number published ∷ []))
    (cond (type == 4) (all (is_number to ∷ (winsize == 0) ∷ (published == 0) ∷ [])) false)))

abbrev pub head_fits : HeadFields → Bool
head_fits h = all (is_number h.to ∷ within 0 1 h.r ∷ within 0 4095 h.ackno ∷ within 0 4095 h.seqno ∷ [])

-- How many pieces a gap report may name.
abbrev pub count_fits : ℕ → Bool
count_fits count = within 1 31 count

-- UDATA: a whole message, or the first of several pieces.
abbrev pub udata_fits : (more number : ℕ) → Bool
udata_fits more number = cond (more == 0) (number == 32767) (cond (more == 1) (number == 0) false)

-- FRAG: a later piece; sixteen make the longest message.
abbrev pub frag_fits : (more number : ℕ) → Bool
frag_fits more number = cond (more == 0) (within 1 15 number) (cond (more == 1) (within 1 14 number) false)

-- A piece that is not the last is full; the last holds `least` to 256 bytes.
abbrev pub length_fits : (least more length : ℕ) → Bool
length_fits least more n = cond (more == 1) (n == 256) (within least 256 n)

-- Every field is in its range.
abbrev pub in_range : Fields → Bool
in_range (conn to type winsize published) = conn_fits to type winsize published
in_range (ack h) = head_fits h
in_range (nack h count from) = all (head_fits h ∷ count_fits count ∷ within 0 4095 from ∷ [])
in_range (udata h more number dst src p) =
    all (head_fits h ∷ udata_fits more number ∷ length_fits 0 more (length p) ∷ within 0 65535 dst ∷ within 0 65535 src ∷ [])
in_range (frag h more number p) = all (head_fits h ∷ frag_fits more number ∷ length_fits 1 more (length p) ∷ [])
