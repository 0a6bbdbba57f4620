use Rattle.std.proofs.Common.{◌≡◌, ◌++◌, length, drop, ◌∙◌, arith}
use Rattle.wire.proofs.Fronts.{given, filled}
use Rattle.wire.proofs.scripted.ops.ScriptedWireMedium.take.Goals as goal

pub returns : goal.returns
returns c =
    let place = c.args.place.now in
    let front = c.in_ok-front.front.now in
    let after = c.take_chosen.new.place in
    let chunk = c.in_ok-front.ensures.cases in
    let kept : length (after ++ drop 276 place) ≡ length place = omega arith in
    let r = c.take_chosen.result in
    let e = c.take_chosen.ensures in
    record {
      rule = record { short = λ l. absurd (let h = chunk.enough in omega arith); gives = λ _. given place front after 276 chunk kept r e.place ∙ e.frame; leaves = λ _. e.left };
      place = filled place front after 276 chunk kept r e.place;
    }
