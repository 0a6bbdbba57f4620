-- The classic capture format, big-endian throughout, of Ethernet packets.
use Rattle.std.specs.Prelude.{ℕ, ◌+◌, ◌/◌, ◌%◌, List, [], ◌∷◌, ◌++◌, length}
use Rattle.medium.specs.declared.side.Side.{Side}
use Rattle.medium.specs.declared.side.Side.TheVariants.{Left, Right}
use Rattle.medium.specs.Waiting.{other_side}

-- A number, modulo 2 ^ 16, as two bytes, the high one first.
abbrev pub word16 : ℕ → List ℕ
word16 n = (n / 256 % 256) ∷ (n % 256) ∷ []

-- A number, modulo 2 ^ 32, as four bytes, the highest first.
abbrev pub word32 : ℕ → List ℕ
word32 n = (n / 16777216 % 256) ∷ (n / 65536 % 256) ∷ (n / 256 % 256) ∷ (n % 256) ∷ []

-- The number that a capture in big-endian order begins with.
abbrev pub magic : ℕ
magic = 0xa1b2c3d4

-- The longest packet that a capture says it holds.
abbrev pub longest_packet : ℕ
longest_packet = 65535

-- Magic number, version 2.4, no time zone, no accuracy, longest packet, and Ethernet.
abbrev pub file_header : List ℕ
file_header = word32 magic ++ word16 2 ++ word16 4 ++ word32 0 ++ word32 0 ++ word32 longest_packet ++ word32 1

-- The last byte of the Ethernet address of the end that stands at a side.
abbrev pub address_end : Side → ℕ
address_end Left = 0x0a
address_end Right = 0x0b

-- The Ethernet address of the end that stands at a side, administered locally.
abbrev pub address : Side → List ℕ
address side = 2 ∷ 0 ∷ 0 ∷ 0 ∷ 0 ∷ address_end side ∷ []

-- Destination, source, and the type of LINX: a frame that is put in at a side goes from there to the other.
abbrev pub ethernet_header : (from : Side) → List ℕ
ethernet_header from = address (other_side from) ++ address from ++ word16 0x8911

-- The length of the packet that carries a frame of this length.
abbrev pub packet_length : ℕ → ℕ
packet_length len = 14 + len

-- The n-th packet is stamped n microseconds after 0. The seconds begin anew at 2 ^ 32.
abbrev pub seconds : ℕ → ℕ
seconds n = n / 1000000 % 4294967296

-- What the stamp has beside the seconds.
abbrev pub microseconds : ℕ → ℕ
microseconds n = n % 1000000

-- The stamp, then the length that is kept of the packet and the length that it had.
abbrev pub record_header : (n len : ℕ) → List ℕ
record_header n len = word32 (seconds n) ++ word32 (microseconds n) ++ word32 (packet_length len) ++ word32 (packet_length len)

-- All that stands before the bytes of the n-th frame.
abbrev pub frame_header : (n : ℕ) → (from : Side) → (len : ℕ) → List ℕ
frame_header n from len = record_header n len ++ ethernet_header from

-- A frame that was put in at a side.
pub record Frame : Type 0 where
  pub from : Side
  pub bytes : List ℕ

-- The records of these frames, the first of which is the n-th.
abbrev pub records_from : ℕ → List Frame → List ℕ
records_from n [] = []
records_from n (f ∷ fs) = frame_header n f.from (length f.bytes) ++ (f.bytes ++ records_from (n + 1) fs)

-- The capture of these frames.
abbrev pub captured : List Frame → List ℕ
captured fs = file_header ++ records_from 0 fs
