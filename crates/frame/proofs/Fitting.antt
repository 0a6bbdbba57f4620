-- What fields in range give: the tests of `specs/Ranges` as facts.
use Rattle.std.proofs.Common.{◌≡◌, ℕ, ◌<◌, ◌≤◌, Bool, true, false, cond, ◌==◌, List, [], ◌∷◌, length, refl, arith}
use Rattle.frame.specs.Fields.{HeadFields, udata, frag}
use Rattle.frame.specs.Ranges.{all, within, conn_fits, head_fits, udata_fits, frag_fits, length_fits, in_range}

abbrev pub EachTrue : List Bool → Type 0
EachTrue [] = Unit {0}
EachTrue (b ∷ bs) = (b ≡ true) × EachTrue bs

pub all_true : (bs : List Bool) → EachTrue bs → all bs ≡ true
all_true [] t = refl
all_true (b ∷ bs) t = rw t.0 (all_true bs t.1)

pub record Within (low high n : ℕ) : Type 0 where
  pub least : low ≤ n
  pub most : n ≤ high

pub within_is : (low high n : ℕ) → low ≤ n → n ≤ high → within low high n ≡ true
within_is low high n a b = grind arith

pub record HeadFacts (h : HeadFields) : Type 0 where
  pub to : Within 1 255 h.to
  pub r : Within 0 1 h.r
  pub ackno : Within 0 4095 h.ackno
  pub seqno : Within 0 4095 h.seqno

pub head_fits_is : (h : HeadFields) → head_fits h ≡ true → HeadFacts h
head_fits_is h e = record {
  to = record { least = grind arith; most = grind arith };
  r = record { least = grind arith; most = grind arith };
  ackno = record { least = grind arith; most = grind arith };
  seqno = record { least = grind arith; most = grind arith };
}

pub length_below : (least more n : ℕ) → length_fits least more n ≡ true → n ≤ 256
length_below least more n h = grind arith

pub record Piece (h : HeadFields) (fragment : Bool) (least more : ℕ) (p : List ℕ) : Type 0 where
  pub head : HeadFacts h
  pub fits : fragment ≡ true
  pub long : length_fits least more (length p) ≡ true
  pub few : length p ≤ 256

pub frag_fits_is : (h : HeadFields) (more number : ℕ) (p : List ℕ) → in_range (frag h more number p) ≡ true → Piece h (frag_fits more number) 1 more p
frag_fits_is h more number p e =
    record { head = head_fits_is h (grind arith); fits = grind arith; long = grind arith; few = grind arith }

pub record Addressed (dst src : ℕ) : Type 0 where
  pub to_dst : Within 0 65535 dst
  pub from_src : Within 0 65535 src

pub udata_fits_is : (h : HeadFields) (more number dst src : ℕ) (p : List ℕ) → in_range (udata h more number dst src p) ≡ true → Piece h (udata_fits more number) 0 more p × Addressed dst src
udata_fits_is h more number dst src p e = (
  record { head = head_fits_is h (grind arith); fits = grind arith; long = grind arith; few = length_below 0 more (length p) (grind arith) },
  record { to_dst = record { least = grind arith; most = grind arith }; from_src = record { least = grind arith; most = grind arith } },
)

pub record ConnFacts (to type winsize published : ℕ) : Type 0 where
  pub low_to : to ≤ 255
  pub low_type : type < 16
  pub low_winsize : winsize < 16
  pub low_published : published ≤ 255

-- What bounds the exponent in the four types of CONN frame.
up_to_five : (w : ℕ) (a b : Bool) → all (a ∷ within 0 5 w ∷ b ∷ []) ≡ true → w < 16
up_to_five w a b h = grind arith

is_zero : (w : ℕ) (a b : Bool) → all (a ∷ (w == 0) ∷ b ∷ []) ≡ true → w < 16
is_zero w a b h = grind arith

winsize_below : (type w : ℕ) (a b c d : Bool) → cond (type == 1) a (cond (type == 2) b (cond (type == 3) c (cond (type == 4) d false))) ≡ true → (a ≡ true → w < 16) → (b ≡ true → w < 16) → (c ≡ true → w < 16) → (d ≡ true → w < 16) → w < 16
winsize_below type w a b c d h ha hb hc hd = grind arith

type_below : (type : ℕ) (a b c d : Bool) → cond (type == 1) a (cond (type == 2) b (cond (type == 3) c (cond (type == 4) d false))) ≡ true → type < 16
type_below type a b c d h = grind arith

pub conn_fits_is : (to type winsize published : ℕ) → conn_fits to type winsize published ≡ true → ConnFacts to type winsize published
conn_fits_is to type winsize published h = record {
  low_to = grind arith;
  low_type = search type_below;
  low_winsize = search (winsize_below, up_to_five, is_zero);
  low_published = grind arith;
}

-- M and Frag no fit their bits.
pub udata_below : (more number : ℕ) → udata_fits more number ≡ true → (more < 2) × (number < 32768)
udata_below more number h = (grind arith, grind arith)

pub frag_below : (more number : ℕ) → frag_fits more number ≡ true → (more < 2) × (number < 32768)
frag_below more number h = (grind arith, grind arith)
