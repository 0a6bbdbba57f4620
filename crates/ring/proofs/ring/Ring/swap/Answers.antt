use Rattle.std.proofs.Common.{◌≡◌, length, Some, ap, ◌∙◌, arith}
use Rattle.ring.specs.Span.{Span, taken_at, rung}
use Rattle.ring.specs.Items.{span_of}
use Rattle.ring.proofs.Spans.{rung_swap}
use Rattle.ring.proofs.ring.Ring.swap.Goals as goal

pub returns-clause-items : goal.returns-clause-items
returns-clause-items g c =
    let r = c.args.self.now in
    let s : Span = span_of r in
    let xs = c.args.slots.now in
    let i = c.args.i in
    let j = c.args.j in
    let p = c.in-Some-Some.p in
    let q = c.in-Some-Some.q in
    let long : length xs ≡ 64 = omega arith in
    let first : Some p ≡ taken_at s i = c.in-Some-Some.ensures in
    let second : Some q ≡ taken_at s j = c.in-Some-Some.ensures' in
    ap (λ ys. rung ys s) c.swap.ensures.after ∙ rung_swap xs s long r.start r.few i j p q first second
