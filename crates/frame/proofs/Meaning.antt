-- What the answer of the reader means for the bytes that it read.
use Rattle.std.proofs.Common.{◌≡◌, ℕ, List, Ok, Err, Result, sym, refl, ap, ◌∙◌, arith}
use Rattle.frame.specs.declared.fault.FrameFault.{FrameFault}
use Rattle.frame.specs.Fields.{Fields}
use Rattle.frame.specs.Reader.{frame_of}
use Rattle.frame.specs.Laws.{Carries, Means}
use Rattle.frame.proofs.Words.{Bytes}
use Rattle.frame.proofs.ReadBack.{reads_back}
use Rattle.frame.proofs.Accepted.{accepted}

carried : (bs : List ℕ) (f : Fields) → Carries bs f → frame_of bs ≡ Ok f
carried bs f c = ap frame_of c.same ∙ reads_back f c.padding c.range

none : (bs : List ℕ) → Bytes bs → (r : Result Fields FrameFault) → frame_of bs ≡ r → ((f : Fields) → Carries bs f → ⊥) → (e : FrameFault) × (r ≡ Err e)
none bs small (Ok f) h no_frame = absurd (no_frame f (accepted bs small f h))
none bs small (Err e) h no_frame = (e, refl)

pub means : (bs : List ℕ) → Bytes bs → (r : Result Fields FrameFault) → r ≡ frame_of bs → Means bs r
means bs small r h = record {
  reads_back = λ f c. h ∙ carried bs f c;
  accepted = λ f e. accepted bs small f (sym h ∙ e);
  refused = λ x e f c. let k = carried bs f c in grind arith;
  no_frame = none bs small r (sym h);
  one = λ f g c d. let k = carried bs f c in let l = carried bs g d in cc;
}
