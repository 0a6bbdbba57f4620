use Rattle.std.proofs.Common.{map}
use Rattle.medium.proofs.Chains.{puts_all, puts_chained}
use Rattle.medium.proofs.chain.put_all.Goals as goal

pub returns-clause-chain : goal.returns-clause-chain
returns-clause-chain g c =
    let frames = c.args.frames.now in
    puts_chained g.met.M.Medium.lawful c.args.from (map (λ f. f.now) frames) _ _
    (puts_all g.M.Medium.puts c.args.from (λ f. f.now) frames c.loop-frame.frame-index c.args.medium.now c.loop-frame.medium c.loop-frame-test.false c.loop-frame.invariant)
