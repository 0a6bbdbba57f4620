-- What was printed for a frame that was read can be typed again, and prints its bytes.
use Rattle.std.proofs.Common.{◌≡◌, ℕ, ◌+◌, ◌<◌, Bool, cond, List, ◌++◌, length, get_or, drop, Some, codes, Result, ap, ◌∙◌, ⊎_elim, arith}
use Rattle.std.proofs.lemmas.List.{get_or_append_left, get_or-drop, get_or_past}
use Rattle.std.proofs.lemmas.Bool.{cases_lt}
use Rattle.frame.specs.declared.fault.FrameFault.{FrameFault}
use Rattle.frame.specs.Fields.{Fields, conn, ack, nack, udata, frag}
use Rattle.frame.specs.Layout.{bytes, payload}
use Rattle.frame.specs.Laws.{Carries, Means}
use Rattle.scenario.specs.Form.{form_text}
use Rattle.scenario.specs.Hex.{hexed}
use Rattle.scenario.specs.Lines.{said_by}
use Rattle.scenario.proofs.Retyping.{write_typed}
use Rattle.bench.specs.Answer.{read_text, printed, WritesBack}

-- A part behind the first `k` bytes is made of bytes.
part_small : (k : ℕ) (bs p pad : List ℕ) → ((i : ℕ) → get_or bs i 0 < 256) → drop k bs ≡ p ++ pad → (i : ℕ) → get_or p i 0 < 256
part_small k bs p pad small e i =
    ⊎_elim
    (λ l. let here : get_or (p ++ pad) i 0 ≡ get_or p i 0 = get_or_append_left p pad 0 i l in
    let there : get_or (drop k bs) i 0 ≡ get_or bs (k + i) 0 = get_or-drop k bs i 0 in
    let both : get_or (drop k bs) i 0 ≡ get_or (p ++ pad) i 0 = ap (λ (l : List ℕ). get_or l i 0) e in
    omega (arith, small (k + i)))
    (λ l. omega (arith, get_or_past p i 0 l))
    (cases_lt i (length p))

payload_small : (bs : List ℕ) (f : Fields) → ((i : ℕ) → get_or bs i 0 < 256) → Carries bs f → (i : ℕ) → get_or (payload f) i 0 < 256
payload_small bs (conn to type winsize published) small c i = omega arith
payload_small bs (ack h) small c i = omega arith
payload_small bs (nack h count from) small c i = omega arith
payload_small bs (udata h more number dst src p) small c i = part_small 20 bs p c.padding small (ap (drop 20) c.same) i
payload_small bs (frag h more number p) small c i = part_small 12 bs p c.padding small (ap (drop 12) c.same) i

pub writes_back : (bs : List ℕ) (r : Result Fields FrameFault) → ((i : ℕ) → get_or bs i 0 < 256) → Means bs r → WritesBack r (read_text r)
writes_back bs r small m f e n =
    let c = m.accepted f e in
    let text : drop 8 (read_text r) ≡ form_text f = ap (λ (x : Result Fields FrameFault). drop 8 (read_text x)) e in
    ap (λ (t : List ℕ). printed n (said_by (codes "write " ++ t))) text
    ∙ ap (printed n) (write_typed f c.range (payload_small bs f small c))
    ∙ ap (λ (b : Bool). Some (codes "write -> " ++ cond b (hexed (bytes f)) (codes "none"))) c.range
