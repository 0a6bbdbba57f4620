use Rattle.std.proofs.Common.{◌≡◌, length, set, Some, ap, ◌∙◌, arith, rules, tests}
use Rattle.ring.specs.Span.{Span, free_at, rung}
use Rattle.ring.specs.Items.{span_of}
use Rattle.ring.proofs.Spans.{rung_longer}
use Rattle.ring.proofs.ring.Ring.push.Goals as goal

pub returns-clause-items : goal.returns-clause-items
returns-clause-items g c =
    let r = c.args.self.now in
    let s : Span = span_of r in
    let xs = c.args.slots.now in
    let long : length xs ≡ 64 = omega arith in
    let free : Some c.in_ok-at.at ≡ free_at s = search (rules, tests) in
    ap (λ (t : Span). rung (set xs c.in_ok-at.at c.args.x) t) c.claim.ensures.after ∙ rung_longer xs s long r.start r.few c.in_ok-at.at c.args.x free
