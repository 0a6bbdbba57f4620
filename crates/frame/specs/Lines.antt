-- Worked frames, byte by byte.
use Rattle.std.specs.Prelude.{◌≡◌, ℕ, List, [], ◌∷◌, ◌++◌, replicate, Ok}
use Rattle.frame.specs.Fields.{Fields, conn, ack, nack, udata}
use Rattle.frame.specs.Layout.{bytes}
use Rattle.frame.specs.Reader.{frame_of}

-- A frame: its bytes, how many zeros lie behind it, and its fields.
pub record Line : Type 0 where
  pub frame : List ℕ
  pub zeros : ℕ
  pub says : Fields

-- AA BB from 4 to 3, to number 1, a whole message, with Ackno and Seqno 0
abbrev pub message : List ℕ
message = 0x46 ∷ 0x01 ∷ 0x00 ∷ 0x16 ∷ 0x20 ∷ 0x00 ∷ 0x00 ∷ 0x00 ∷ 0xF0 ∷ 0x00 ∷ 0x7F ∷ 0xFF ∷ 0x00 ∷ 0x00 ∷ 0x00 ∷ 0x00 ∷ 0x00 ∷ 0x03 ∷ 0x00 ∷ 0x04 ∷ 0xAA ∷ 0xBB ∷ []

abbrev pub message_fields : Fields
message_fields = udata (record { to = 1; r = 0; ackno = 0; seqno = 0 }) 0 32767 3 4 (0xAA ∷ 0xBB ∷ [])

abbrev pub lines : List Line
lines =
    -- CONNECT with exponent 5, publishing 1
    record { frame = 0x16 ∷ 0x00 ∷ 0x00 ∷ 0x08 ∷ 0xF1 ∷ 0x50 ∷ 0x00 ∷ 0x01 ∷ []; zeros = 0; says = conn 0 1 5 1 }
    -- CONNECT_ACK to 1 with exponent 3, publishing 1
    ∷ record { frame = 0x16 ∷ 0x01 ∷ 0x00 ∷ 0x08 ∷ 0xF2 ∷ 0x30 ∷ 0x00 ∷ 0x01 ∷ []; zeros = 0; says = conn 1 2 3 1 }
    -- ACK to 7 that asks for an answer
    ∷ record { frame = 0x46 ∷ 0x07 ∷ 0x00 ∷ 0x08 ∷ 0xF8 ∷ 0x00 ∷ 0x50 ∷ 0x09 ∷ []; zeros = 0; says = ack (record { to = 7; r = 1; ackno = 5; seqno = 9 }) }
    -- NACK to 7: two pieces missing from 5 on
    ∷ record { frame = 0x46 ∷ 0x07 ∷ 0x00 ∷ 0x0C ∷ 0x50 ∷ 0x00 ∷ 0x50 ∷ 0x00 ∷ 0xF0 ∷ 0x02 ∷ 0x00 ∷ 0x05 ∷ []; zeros = 0; says = nack (record { to = 7; r = 0; ackno = 5; seqno = 0 }) 2 5 }
    ∷ record { frame = message; zeros = 0; says = message_fields }
    ∷ record { frame = message; zeros = 24; says = message_fields }
    ∷ []

-- Each is the bytes of its fields, and reads as these fields with the zeros behind.
abbrev pub Holds : List Line → Type 0
Holds [] = Unit {0}
Holds (l ∷ ls) = (bytes l.says ≡ l.frame) × (frame_of (l.frame ++ replicate l.zeros 0) ≡ Ok l.says) × Holds ls
