use Rattle.std.proofs.Common.{◌≡◌, ◌+◌, ◌-◌, subst, arith}
use Rattle.ring.specs.Items.{items}
use Rattle.ring.proofs.Bringing.{Lifted, Moved, moved_all, lifted_more}
use Rattle.ring.proofs.ring.Ring.bring_forward.Goals as goal

pub loop-at-preserved : goal.loop-at-preserved
loop-at-preserved g c =
    let r = c.args.self.now in
    let xs = c.args.slots.now in
    let at : c.loop-at.at ≡ c.loop-at.at - 1 + 1 = omega arith in
    let e = c.swap.ensures in
    lifted_more r xs c.loop-at.slots c.swap.new.slots c.args.distance (c.loop-at.at - 1) c.swap.result (subst (Lifted r xs c.loop-at.slots c.args.distance) at c.loop-at.invariant) (omega arith) (omega arith) e.answer e.items e.places

pub returns-clause-items : goal.returns-clause-items
returns-clause-items g c =
    let r = c.args.self.now in
    let xs = c.args.slots.now in
    let end : c.loop-at.at ≡ 0 = omega arith in
    λ d. moved_all (items r xs) (items r c.loop-at.slots) c.args.distance d (subst (Moved (items r xs) (items r c.loop-at.slots) c.args.distance) end c.loop-at.invariant.moved)
