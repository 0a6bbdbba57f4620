use Rattle.std.proofs.Common.{◌≡◌, ℕ, ◌<◌, map, set, ap, ◌∙◌, arith}
use Rattle.std.proofs.lemmas.List.{length-set}
use Rattle.ring.specs.Span.{rung}
use Rattle.wire.specs.Content.{content}
use Rattle.wire.specs.Records.{falling, waiting_as}
use Rattle.wire.proofs.Adding as adding
use Rattle.wire.proofs.store.Store.add.Goals as goal

pub fill_at-requires : goal.fill_at-requires
fill_at-requires c =
    let s = c.args.self.now in
    below s.wide (adding.slot_within s c.in-Some.at c.args.side c.args.frame.bytes.now c.in-Some.ensures.place _)
  where
    below : {a b : ℕ} → b ≡ 64 → a < 64 → a < b
    below e l = omega arith

pub invariant_of-self-2 : goal.invariant_of-self-2
invariant_of-self-2 c =
    let s = c.args.self.now in
    let at = c.in-Some.at in
    let side = c.args.side in
    let f = c.args.frame.bytes.now in
    let free = c.in-Some.ensures.place in
    let w = s.wide in
    let n = s.places in
    let young = adding.young s at side f free _ c.requires in
    let entered = ap (rung (set s.records at _)) c.claim.ensures.after ∙ adding.entered s at side f free _ in
    record {
      places = length-set s.records at _ ∙ n;
      wide = omega arith;
      slotted = adding.slotted s at side f free _;
      single = adding.single s at side f free _;
      low = s.low;
      young = ap (falling s.puts 2048) entered ∙ young;
    }

pub returns : goal.returns
returns c =
    let s = c.args.self.now in
    let at = c.in-Some.at in
    let side = c.args.side in
    let f = c.args.frame.bytes.now in
    let free = c.in-Some.ensures.place in
    let frames = map content c.fill_at.new.slots in
    let entered = ap (rung (set s.records at _)) c.claim.ensures.after ∙ adding.entered s at side f free _ in
    ap (map (waiting_as s.puts frames)) entered ∙ adding.waiting_new s at side f free _ frames c.fill_at.ensures
