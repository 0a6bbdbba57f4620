use Rattle.std.proofs.Common.{◌≡◌, string_bytes, Result, sym, subst, arith}
use Rattle.std.proofs.lemmas.Result.{IfOk-weaker}
use Rattle.frame.specs.declared.fault.FrameFault.{FrameFault}
use Rattle.frame.specs.Fields.{Fields}
use Rattle.frame.specs.Laws.{Means}
use Rattle.frame.specs.Reader.{frame_of}
use Rattle.bench.specs.Answer.{read_text, WritesBack}
use Rattle.bench.proofs.Rewriting.{writes_back}
use Rattle.bench.proofs.play.read_line.Goals as goal

pub returns-clause-writes_back : goal.returns-clause-writes_back
returns-clause-writes_back c =
    let bs = c.args.bytes.now in
    let means = subst (λ (a : Result Fields FrameFault). Means bs a) c.read.ensures.value c.read.ensures.meaning in
    let back = writes_back bs (frame_of bs) (λ i. omega (arith, c.type_inv.bytes i)) means in
    let text = c.read_text.ensures in
    IfOk-weaker c.read_text.result (λ s. string_bytes s ≡ read_text (frame_of bs)) (λ s. WritesBack (frame_of bs) (string_bytes s)) (λ s h. subst (WritesBack (frame_of bs)) (sym h) back) (rw c.read.ensures.value at text)
