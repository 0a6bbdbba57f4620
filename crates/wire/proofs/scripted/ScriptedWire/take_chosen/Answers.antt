use Rattle.std.proofs.Common.{◌≡◌, ℕ, Bool, List, Some, Option, sym, ap, ◌∙◌}
use Rattle.medium.specs.Waiting.{Waiting}
use Rattle.medium.specs.declared.side.Side.{Side}
use Rattle.wire.specs.Frames.{held, frame_at}
use Rattle.wire.specs.Scripted.{Row, row_of, choice, given_chosen}
use Rattle.wire.proofs.Scripting.{given_choice}
use Rattle.wire.proofs.scripted.ScriptedWire.take_chosen.Goals as goal

-- The frame that was chosen is the rule's.
given : (side : Side) (r : Row) (ws : List Waiting) (at : ℕ) (b : Bool) (f : Option (List ℕ)) → Some (at, b) ≡ choice side r → ws ≡ r.frames → f ≡ frame_at ws at → f ≡ given_chosen side r
given side r ws at b f e h d = d ∙ ap (λ (l : List Waiting). frame_at l at) h ∙ given_choice side r at b (sym e)

pub returns-then-not-stays-clause-frame : goal.returns-then-not-stays-clause-frame
returns-then-not-stays-clause-frame c =
    let e = c.in_ok-at.ensures in
    given c.args.side (row_of c.args.self.now) (held c.choose.new.self.store) c.in_ok-at.at c.in_ok-at.stays _ e.answer e.frames c.give-given.ensures.frame

pub returns-else-not-stays-clause-frame : goal.returns-else-not-stays-clause-frame
returns-else-not-stays-clause-frame c =
    let e = c.in_ok-at.ensures in
    given c.args.side (row_of c.args.self.now) (held c.choose.new.self.store) c.in_ok-at.at c.in_ok-at.stays _ e.answer e.frames c.give-given.ensures.frame
