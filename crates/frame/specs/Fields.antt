-- What a frame says: the fields of its form as numbers, and its payload as a list of bytes.
use Rattle.std.specs.Prelude.{ℕ, Bool, cond, List, Ok, Err, Result}
use Rattle.frame.specs.declared.fields.Head.{Head}
use Rattle.frame.specs.declared.form.Frame.{Frame}
use Rattle.frame.specs.declared.form.Frame.TheVariants.{Conn, Ack, Nack, Udata, Frag}
use Rattle.frame.specs.Numbers.{type_number}

-- The fields that ACK, NACK, UDATA and FRAG frames begin with.
pub record HeadFields : Type 0 where
  pub to : ℕ
  pub r : ℕ
  pub ackno : ℕ
  pub seqno : ℕ

-- The five forms, each with its fields.
pub data Fields : Type 0 where
  conn : (to type winsize published : ℕ) → Fields
  ack : HeadFields → Fields
  nack : HeadFields → (count from : ℕ) → Fields
  udata : HeadFields → (more number dst src : ℕ) → (payload : List ℕ) → Fields
  frag : HeadFields → (more number : ℕ) → (payload : List ℕ) → Fields

-- A flag as the bit that stands for it.
abbrev pub bit : Bool → ℕ
bit b = cond b 1 0

abbrev pub head_fields : Head → HeadFields
head_fields h = record { to = h.to.0; r = bit h.request; ackno = h.ackno.0; seqno = h.seqno.0 }

-- The fields of a frame that the code holds.
abbrev pub fields : Frame → Fields
fields (Conn to kind window published) = conn to.0 (type_number kind) window.0 published.0
fields (Ack h) = ack (head_fields h)
fields (Nack h count from) = nack (head_fields h) count from.0
fields (Udata h f dst src p) = udata (head_fields h) (bit f.more) f.number dst src p.now
fields (Frag h f p) = frag (head_fields h) (bit f.more) f.number p.now

-- The same of a frame or a fault.
abbrev pub answer : {E : Type 0} → Result Frame E → Result Fields E
answer (Ok f) = Ok (fields f)
answer (Err e) = Err e
