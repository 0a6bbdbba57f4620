-- The frames for a side are frames, and wait for that side.
use Rattle.std.specs.Prelude.{◌≡◌, Bool, true, false, cond, List, [], ◌∷◌, refl}
use Rattle.std.proofs.Common.{◌∙◌, ap, ⊎_elim}
use mathlib.Core.List.Memᴰ
use mathlib.Core.List.{Memᴰ}
use Rattle.std.proofs.lemmas.Bool.{false≢true}
use Rattle.medium.specs.Waiting.{Waiting}
use Rattle.medium.specs.declared.side.Side.{Side}
use Rattle.medium.specs.declared.side.Side.TheVariants.{Left, Right}
use Rattle.wire.specs.Choice.{same_side, for_side}

same_side_is : (s t : Side) → same_side s t ≡ true → t ≡ s
same_side_is Left Left e = refl
same_side_is Left Right e = absurd (false≢true e)
same_side_is Right Left e = absurd (false≢true e)
same_side_is Right Right e = refl

-- A frame for a side is one of all, and waits for that side.
pub in_for_side : (s : Side) (ws : List Waiting) (x : Waiting) → Memᴰ x (for_side s ws) → Memᴰ x ws × (x.side ≡ s)
in_for_side s [] x m = absurd (Memᴰ.not-nil m)
in_for_side s (w ∷ ws) x m = go (same_side s w.side) refl (λ k. in_for_side s ws x k) m
  where
    more : Memᴰ x ws × (x.side ≡ s) → Memᴰ x (w ∷ ws) × (x.side ≡ s)
    more r = (Memᴰ.tail r.0, r.1)

    go : (b : Bool) → same_side s w.side ≡ b → (Memᴰ x (for_side s ws) → Memᴰ x ws × (x.side ≡ s)) → Memᴰ x (cond b (w ∷ for_side s ws) (for_side s ws)) → Memᴰ x (w ∷ ws) × (x.side ≡ s)
    go true e below j = ⊎_elim (λ h. (Memᴰ.head h, ap (λ (y : Waiting). y.side) h ∙ same_side_is s w.side e)) (λ k. more (below k)) (Memᴰ.cases_cons j)
    go false e below j = more (below j)
