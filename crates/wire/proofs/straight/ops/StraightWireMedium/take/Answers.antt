use Rattle.std.proofs.Common.{◌≡◌, ◌++◌, length, drop, ap, sym, ◌∙◌, arith}
use Rattle.wire.specs.Frames.{held, frame_at}
use Rattle.wire.specs.declared.store.Store.{Store}
use Rattle.wire.proofs.Fronts.{given, filled}
use Rattle.wire.proofs.Straightness.{given_is, take_one}
use Rattle.wire.proofs.straight.ops.StraightWireMedium.take.Goals as goal

pub returns : goal.returns
returns c =
    let w = c.args.self.now in
    let side = c.args.side in
    let place = c.args.place.now in
    let front = c.in_ok-front.front.now in
    let after = c.take_first.new.place in
    let chunk = c.in_ok-front.ensures.cases in
    let kept : length (after ++ drop 276 place) ≡ length place = omega arith in
    let r = c.take_first.result in
    let e = c.take_first.ensures in
    let stored = c.get_mut.ensures.value in
    record {
      rule = record {
        short = λ l. absurd (let h = chunk.enough in omega arith);
        gives = λ _. given place front after 276 chunk kept r e.place ∙ e.frame ∙ ap (λ (s : Store). frame_at (held s) 0) stored ∙ sym (given_is w side);
        leaves = λ _. take_one w side c.take_first.new.self (e.left ∙ ap (λ (s : Store). drop 1 (held s)) stored);
      };
      place = filled place front after 276 chunk kept r e.place;
    }
