-- A capture, read by the rule of its format.
use Rattle.std.specs.Prelude.{◌≡◌, ℕ, zero, suc, ◌+◌, ◌*◌, ◌≤◌, cond, List, [], ◌∷◌, ◌++◌, length, take, drop, Some, None, Option, ◌==◌, nat_le}
use Rattle.std.specs.Option.{option_map, option_zip}
use Rattle.medium.specs.declared.side.Side.{Side}
use Rattle.medium.specs.declared.side.Side.TheVariants.{Left, Right}
use Rattle.capture.specs.Format.{magic, longest_packet, address, packet_length, Frame, captured}

-- The number that bytes stand for behind those that stand for high, the highest first.
abbrev pub number_from : (high : ℕ) → List ℕ → ℕ
number_from high [] = high
number_from high (b ∷ bs) = number_from (high * 256 + b) bs

-- The number that bytes stand for, the highest first.
abbrev pub number_of : List ℕ → ℕ
number_of bs = number_from 0 bs

-- The side whose address this is.
abbrev pub side_at : List ℕ → Option Side
side_at a = cond (number_of a == number_of (address Left)) (Some Left) (cond (number_of a == number_of (address Right)) (Some Right) None)

-- The frame in a packet: the side by the source, which stands behind the destination, and the bytes behind the header.
abbrev pub frame_in : (packet : List ℕ) → Option Frame
frame_in packet = option_map (λ s. record { from = s; bytes = drop 14 packet }) (side_at (take 6 (drop 6 packet)))

-- How much was kept of the packet whose record comes first.
abbrev pub kept_length : List ℕ → ℕ
kept_length file = number_of (take 4 (drop 8 file))

-- The frame in the first record, whose packet has k bytes, unless the file ends before them.
abbrev pub frame_of : (k : ℕ) → List ℕ → Option Frame
frame_of k file = cond (nat_le (16 + k) (length file)) (frame_in (take k (drop 16 file))) None

-- A frame and those behind it, where all could be read.
abbrev pub in_front : Option Frame → Option (List Frame) → Option (List Frame)
in_front f fs = option_map (λ both. both.0 ∷ both.1) (option_zip f fs)

-- The frames in a row of records, at most so many: record after record, each as long as it says itself.
unfoldable pub frames_in : (most : ℕ) → List ℕ → Option (List Frame)
frames_in most [] = Some []
frames_in zero (b ∷ bs) = None
frames_in (suc most) (b ∷ bs) = in_front (frame_of (kept_length (b ∷ bs)) (b ∷ bs)) (frames_in most (drop (16 + kept_length (b ∷ bs)) (b ∷ bs)))

-- The frames in a capture, or none where it is not one. There are no more records than bytes.
unfoldable pub opened : List ℕ → Option (List Frame)
opened file = cond (number_of (take 4 file) == magic) (frames_in (length file) (drop 24 file)) None

-- Each frame's packet is no longer than a capture says.
abbrev pub AllFit : List Frame → Type 0
AllFit [] = Unit {0}
AllFit (f ∷ fs) = (packet_length (length f.bytes) ≤ longest_packet) × AllFit fs

-- A capture opens to the frames that it was made of, in their order.
abbrev pub Opens : Type 0
Opens = (frames : List Frame) → AllFit frames → opened (captured frames) ≡ Some frames

-- This header and the frame's bytes, behind the capture of as many frames as it counts, make the capture with that frame too.
abbrev pub Continues : (n : ℕ) → (from : Side) → (len : ℕ) → (header : List ℕ) → Type 0
Continues n from len header = (frames : List Frame) (bytes : List ℕ) → length frames ≡ n → length bytes ≡ len → captured frames ++ (header ++ bytes) ≡ captured (frames ++ (record { from = from; bytes = bytes } ∷ []))
