use Rattle.std.proofs.Common.{ℕ, List, length, ap, ◌∙◌, arith}
use Rattle.medium.specs.Waiting.{fresh}
use Rattle.wire.specs.Frames.{held, older, added}
use Rattle.wire.specs.Straight.{queues_of, put_queued}
use Rattle.wire.specs.declared.store.Store.{Store}
use Rattle.wire.proofs.Straightness.{put_both}
use Rattle.wire.proofs.straight.ops.StraightWireMedium.put.Goals as goal

pub returns : goal.returns
returns c =
    let w = c.args.self.now in
    let from = c.args.from in
    let into = c.other-to.result in
    let f = c.in-Some.frame in
    let passed = c.pass.ensures.older ∙ ap (λ (s : Store). older (held s)) c.get_mut.ensures.value in
    let entered = c.put.ensures ∙ ap (λ (s : Store). added (fresh into f.bytes.now) (older (held s))) c.get_mut-2.ensures.value in
    let both = put_both w from into f.bytes.now c.pass.new.self c.put.new.self c.other-to.ensures passed entered in
    record {
      long = λ l. absurd (let same = ap length c.in-Some.ensures in let short = f.short in omega arith);
      carried = λ _. both ∙ ap (λ (bytes : List ℕ). put_queued from bytes (queues_of w)) c.in-Some.ensures;
    }
