-- Captures grow by a record, and open to their frames.
use Rattle.std.proofs.Common.{◌≡◌, ℕ, zero, suc, ◌+◌, ◌<◌, ◌≤◌, true, cond, leb, List, [], ◌∷◌, ◌++◌, length, take, drop, Some, None, sym, refl, ap, ◌∙◌, append_assoc, append-nil, arith, length-append, take_at, drop_at}
use native.Mathlib.Nat.{div-div-eq-div-mul}
use Rattle.std.proofs.lemmas.Bool.{le-leb}
use Rattle.medium.specs.declared.side.Side.{Side}
use Rattle.medium.specs.declared.side.Side.TheVariants.{Left, Right}
use Rattle.capture.specs.Format.{word32, file_header, ethernet_header, record_header, frame_header, packet_length, longest_packet, Frame, records_from, captured}
use Rattle.capture.specs.Opened.{number_of, frame_in, frame_of, kept_length, in_front, frames_in, opened, AllFit, Opens, Continues}

-- One more frame is one more record at the end, with the next number.
records_from_snoc : (n k : ℕ) (fs : List Frame) (f : Frame) → n + length fs ≡ k → records_from n (fs ++ (f ∷ [])) ≡ records_from n fs ++ (frame_header k f.from (length f.bytes) ++ f.bytes)
records_from_snoc n k [] f e = let same : n ≡ k = omega arith in rw same (rw append-nil)
records_from_snoc n k (g ∷ fs) f e =
    let next : n + 1 + length fs ≡ k = omega arith in
    let rest = records_from (n + 1) fs in
    let new = frame_header k f.from (length f.bytes) ++ f.bytes in
    ap (λ l. frame_header n g.from (length g.bytes) ++ (g.bytes ++ l)) (records_from_snoc (n + 1) k fs f next)
    ∙ ap (λ l. frame_header n g.from (length g.bytes) ++ l) (sym (append_assoc g.bytes rest new))

-- The capture grows by the record of the next frame.
pub captured_append : (n : ℕ) (from : Side) (len : ℕ) → Continues n from len (frame_header n from len)
captured_append n from len frames bytes count long =
    let f : Frame = record { from = from; bytes = bytes } in
    let grown : records_from 0 (frames ++ (f ∷ [])) ≡ records_from 0 frames ++ (frame_header n from (length bytes) ++ bytes) = records_from_snoc 0 n frames f (omega arith) in
    sym (ap (λ l. file_header ++ l) grown ∙ ap (λ k. file_header ++ (records_from 0 frames ++ (frame_header n from k ++ bytes))) long)

-- Four bytes hold a number below 2 ^ 32.
number_of_word32 : (n : ℕ) → n < 4294967296 → number_of (word32 n) ≡ n
number_of_word32 n h =
    rw (sym (div-div-eq-div-mul n 65536 256), sym (div-div-eq-div-mul n 256 256)) (omega arith)

-- The first record of a row says how long its packet is.
kept_length_record_header : (n len : ℕ) (rest : List ℕ) → packet_length len ≤ longest_packet → kept_length (record_header n len ++ rest) ≡ packet_length len
kept_length_record_header n len rest h = number_of_word32 (packet_length len) (omega arith)

-- A packet has its frame, from the side that put it in.
frame_in_ethernet_header : (from : Side) (bytes : List ℕ) → frame_in (ethernet_header from ++ bytes) ≡ Some (record { from = from; bytes = bytes })
frame_in_ethernet_header Left bytes = refl
frame_in_ethernet_header Right bytes = refl

-- A packet as long as its record says, with more records behind it.
frame_of_frame_header : (n k : ℕ) (from : Side) (bytes rest : List ℕ) → k ≡ packet_length (length bytes) → frame_of k (frame_header n from (length bytes) ++ (bytes ++ rest)) ≡ Some (record { from = from; bytes = bytes })
frame_of_frame_header n k from bytes rest e =
    let all : length (bytes ++ rest) ≡ length bytes + length rest = length-append bytes rest in
    let long : length (ethernet_header from ++ bytes) ≡ k = omega arith in
    let whole : leb (16 + k) (length (frame_header n from (length bytes) ++ (bytes ++ rest))) ≡ true = le-leb _ _ (omega arith) in
    ap (λ t. cond t (frame_in (take k ((ethernet_header from ++ bytes) ++ rest))) None) whole
    ∙ ap frame_in (take_at (ethernet_header from ++ bytes) rest k long)
    ∙ frame_in_ethernet_header from bytes

-- What lies behind the first record.
drop_frame_header : (n k : ℕ) (from : Side) (bytes rest : List ℕ) → k ≡ packet_length (length bytes) → drop (16 + k) (frame_header n from (length bytes) ++ (bytes ++ rest)) ≡ rest
drop_frame_header n k from bytes rest e =
    let long : length (frame_header n from (length bytes) ++ bytes) ≡ 16 + k = omega arith in
    drop_at (frame_header n from (length bytes) ++ bytes) rest (16 + k) long

-- Records are read back one by one.
frames_in_records_from : (n most : ℕ) (fs : List Frame) → AllFit fs → length (records_from n fs) ≤ most → frames_in most (records_from n fs) ≡ Some fs
unfolding frames_in
frames_in_records_from n most [] fit enough = refl
frames_in_records_from n zero (f ∷ fs) fit enough = absurd (omega arith)
frames_in_records_from n (suc most) (f ∷ fs) fit enough =
    let rest = records_from (n + 1) fs in
    let file = frame_header n f.from (length f.bytes) ++ (f.bytes ++ rest) in
    let all : length (f.bytes ++ rest) ≡ length f.bytes + length rest = length-append f.bytes rest in
    let k : kept_length file ≡ packet_length (length f.bytes) = kept_length_record_header n (length f.bytes) (ethernet_header f.from ++ (f.bytes ++ rest)) fit.0 in
    let behind = frames_in_records_from (n + 1) most fs fit.1 (omega arith) in
    ap (λ o. in_front o (frames_in most (drop (16 + kept_length file) file))) (frame_of_frame_header n (kept_length file) f.from f.bytes rest k)
    ∙ ap (λ l. in_front (Some f) (frames_in most l)) (drop_frame_header n (kept_length file) f.from f.bytes rest k)
    ∙ ap (in_front (Some f)) behind

-- The capture of any frames opens to them.
pub opened_captured : Opens
unfolding opened
opened_captured frames fit = frames_in_records_from 0 (length (captured frames)) frames fit (omega arith)
