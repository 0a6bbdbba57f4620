use Rattle.std.proofs.Common.{◌≡◌, ℕ, List, ◌++◌, take, drop, Ok, string_bytes, codes, ◌∙◌, arith, rules}
use Rattle.std.proofs.lemmas.Grind.{common_steps}
use Rattle.std.proofs.lemmas.Result.{IfOk-weaker}
use Rattle.frame.specs.Fields.{Fields, fields}
use Rattle.bench.specs.Answer.{write_text, ReadsBack}
use Rattle.scenario.specs.Hex.{hexed}
use Rattle.scenario.specs.Lines.{read, said_by}
use Rattle.bench.proofs.Writing.{accepted, refused, front, written_text, again}
use Rattle.bench.proofs.play.frame_line.Goals as goal

pub shared_ref_as_front-bytes_line : goal.shared_ref_as_front-bytes_line
shared_ref_as_front-bytes_line c =
    let within = (accepted (fields c.args.frame) c.args.place.now c.write.result c.write.ensures.value (omega arith) c.in-Ok.length c.in-Ok.is).2 in
    search rules

pub returns-in-Ok : goal.returns-in-Ok
returns-in-Ok c =
    let f : Fields = fields c.args.frame in
    let bs : List ℕ = take c.in-Ok.length c.write.new.place in
    let told = accepted f c.args.place.now c.write.result c.write.ensures.value (omega arith) c.in-Ok.length c.in-Ok.is in
    let frame = front f c.args.place.now c.write.result c.write.ensures.value (omega arith) c.in-Ok.length c.in-Ok.is c.write.new.place c.write.ensures.after in
    record {
      value = IfOk-weaker c.bytes_line.result (λ s. string_bytes s ≡ codes "write -> " ++ hexed bs) (λ s. string_bytes s ≡ write_text f) (λ s h. h ∙ written_text f bs told.0 frame) c.bytes_line.ensures.value;
      reads_back = IfOk-weaker c.bytes_line.result (λ s. said_by (codes "read " ++ drop 9 (string_bytes s)) ≡ Ok (read bs)) (λ s. ReadsBack f (string_bytes s)) (λ s h. again f bs (string_bytes s) frame h) c.bytes_line.ensures.typed;
    }

pub returns-in-Err-clause-value : goal.returns-in-Err-clause-value
returns-in-Err-clause-value c =
    let out = refused (fields c.args.frame) c.args.place.now c.write.result c.write.ensures.value (omega arith) c.in-Err.field-0 c.in-Err.is in
    grind (arith, common_steps)
