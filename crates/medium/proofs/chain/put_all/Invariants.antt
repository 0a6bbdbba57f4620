-- Whatever the frames that are left lead to, all of them lead to from the start.
use Rattle.medium.proofs.Chains.{PutsFrom}
use Rattle.medium.proofs.chain.put_all.Given as goal

abbrev pub invariant-loop-frame : goal.invariant-loop-frame
invariant-loop-frame g l =
    (n : _) → PutsFrom g.M.Medium.puts l.from (λ f. f.now) l.frames l.frame-index l.medium n → PutsFrom g.M.Medium.puts l.from (λ f. f.now) l.frames 0 l.initial.medium n
