-- The scripted wire: the frame that a choice gives.
use Rattle.std.specs.Prelude.{◌≡◌, ℕ, ◌%◌, ◌<◌, ◌≤◌, Bool, length, Some, None, Option, nat_le, refl}
use Rattle.std.proofs.Common.{sym, ◌∙◌, ap, ⊎_elim, mod-lt, arith}
use Rattle.std.proofs.lemmas.Bool.{cases_lt, cond-true, cond-false, eq-eqb, ne_eqb}
use Rattle.medium.specs.declared.side.Side.{Side}
use Rattle.wire.specs.Choice.{for_side, distance}
use Rattle.wire.specs.Frames.{frame_at}
use Rattle.wire.specs.Scripted.{Row, next_byte, chosen, given_chosen, choice}
use Rattle.wire.proofs.Choosing.{frame_distance}

-- What a choice says, and that it gives what the rule gives.
module _ (side : Side) (r : Row) where
  abbrev few : ℕ
  few = length (for_side side r.frames)

  pub choice_none : few ≡ 0 → choice side r ≡ None
  choice_none e = cond-true _ None _ (eq-eqb few 0 e)

  pub choice_some : 0 < few → (at : ℕ) (b : Bool) → at ≡ distance side (chosen side r) r.frames → b ≡ nat_le 128 (next_byte r.script) → choice side r ≡ Some (at, b)
  choice_some l at b e d =
      cond-false _ None _ (ne_eqb few 0 (λ z. omega arith))
      ∙ sym (ap (λ (n : ℕ). Some (n, b)) e ∙ ap (λ (c : Bool). Some (distance side (chosen side r) r.frames, c)) d)

  -- A choice of some frame is that of the rule.
  pub given_choice : (at : ℕ) (b : Bool) → choice side r ≡ Some (at, b) → frame_at r.frames at ≡ given_chosen side r
  given_choice at b e = ⊎_elim some none (cases_lt 0 few)
    where
      told : ◌≡◌ {A = Option (ℕ × Bool)} (Some (distance side (chosen side r) r.frames, nat_le 128 (next_byte r.script))) (Some (at, b)) → at ≡ distance side (chosen side r) r.frames
      told f = let p : ◌≡◌ {A = ℕ × Bool} (distance side (chosen side r) r.frames, nat_le 128 (next_byte r.script)) (at, b) = cc in sym (ap (λ (q : ℕ × Bool). q.0) p)

      some : 0 < few → frame_at r.frames at ≡ given_chosen side r
      some l = ap (frame_at r.frames) (told (sym (choice_some l _ _ refl refl) ∙ e)) ∙ frame_distance side (chosen side r) r.frames (mod-lt (next_byte r.script % 128) l)

      none : few ≤ 0 → frame_at r.frames at ≡ given_chosen side r
      none l = let h : few ≡ 0 = omega arith in let f = sym (choice_none h) ∙ e in let z : ◌≡◌ {A = ℕ} 0 1 = cc in absurd (omega arith)
