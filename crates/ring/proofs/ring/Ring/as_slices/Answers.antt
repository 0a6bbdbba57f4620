use Rattle.std.proofs.Common.{◌≡◌, ◌++◌, ◌-◌, [], ◌<◌, length, take, drop, sym, subst, ap, ◌∙◌, arith}
use Rattle.std.proofs.lemmas.Bool.{cond-true, eq-eqb}
use Rattle.ring.specs.Items.{items}
use Rattle.ring.proofs.Rungs.{row_wraps}
use Rattle.ring.proofs.ring.Ring.as_slices.Goals as goal

pub returns-else-self-back-clause-items : goal.returns-else-self-back-clause-items
returns-else-self-back-clause-items g c =
    let r = c.args.self.now in
    let xs = c.args.slots.now in
    let long : length xs ≡ 64 = omega arith in
    let start = r.start in
    let few = r.few in
    let back = c.split_at.ensures.back in
    let more : length (drop r.head xs) < r.count = subst (λ ys. length ys < r.count) back c.if-self-back.false in
    ap (λ ys. ys ++ take (r.count - length ys) c.split_at.result.0.now) back
    ∙ ap (λ ys. drop r.head xs ++ take (r.count - length (drop r.head xs)) ys) c.split_at.ensures.front
    ∙ row_wraps xs r.head r.count (omega arith) (omega arith) more
    ∙ sym (cond-true _ (items r xs) [] (eq-eqb (length xs) 64 long))
