use Rattle.std.proofs.Common.{ℕ, List, sym, ap, ◌∙◌, arith}
use Rattle.std.proofs.lemmas.Str.Pattern.{split_parts}
use Rattle.scenario.specs.Words.{first_word, behind_word}
use Rattle.scenario.proofs.Cutting.{first_before, behind_before, first_alone, behind_alone}
use Rattle.scenario.proofs.words.cut.Goals as goal

pub returns-in-Some : goal.returns-in-Some
returns-in-Some c =
    let told = split_parts 32 c.args.text.now c.split_once.result c.split_once.ensures.cases (omega arith) in
    let parts = rw c.in-Some.is at told in
    let w : List ℕ = c.in-Some.word.now in
    let t : List ℕ = c.in-Some.rest.now in
    record {
      word = sym (ap first_word parts.0 ∙ first_before w t parts.1);
      left = sym (ap behind_word parts.0 ∙ behind_before w t parts.1);
    }

pub returns-in-None : goal.returns-in-None
returns-in-None c =
    let told = split_parts 32 c.args.text.now c.split_once.result c.split_once.ensures.cases (omega arith) in
    let none = rw c.in-None.is at told in
    record { word = sym (first_alone c.args.text.now none); left = sym (behind_alone c.args.text.now none) }
