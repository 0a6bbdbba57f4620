-- The headers that the reader holds on its way, as the numbers they stand for.
use Rattle.std.specs.Prelude.{ℕ, cond, Ok, Err, Result, ◌==◌}
use Rattle.frame.specs.declared.header.AfterMain.{AfterMain}
use Rattle.frame.specs.declared.header.AfterMain.TheVariants as main
use Rattle.frame.specs.declared.header.AfterAck.{AfterAck}
use Rattle.frame.specs.declared.header.AfterAck.TheVariants.{Last, Nack, Udata, Frag}
use Rattle.frame.specs.declared.header.UnknownNext.{UnknownNext}
use Rattle.frame.specs.declared.header.AckHeader.{AckHeader}
use Rattle.frame.specs.declared.reader.Packet.{Packet}
use Rattle.frame.specs.Numbers.{CONN, UDATA, FRAG, ACK, NACK, LAST}
use Rattle.frame.specs.Fields.{head_fields}
use Rattle.frame.specs.Reader.{MainFields, AckFields}

abbrev pub after_main : AfterMain → ℕ
after_main main.Conn = CONN
after_main main.Ack = ACK

abbrev pub after_ack : AfterAck → ℕ
after_ack Last = LAST
after_ack Nack = NACK
after_ack Udata = UDATA
after_ack Frag = FRAG

-- The header that a number in MAIN's Next names.
abbrev pub main_next : ℕ → Result AfterMain UnknownNext
main_next n = cond (n == CONN) (Ok main.Conn) (cond (n == ACK) (Ok main.Ack) (Err (record { 0 = n })))

-- The header that a number in ACK's Next names.
abbrev pub ack_next : ℕ → Result AfterAck UnknownNext
ack_next n =
    cond (n == LAST) (Ok Last) (cond (n == NACK) (Ok Nack) (cond (n == UDATA) (Ok Udata) (cond (n == FRAG) (Ok Frag) (Err (record { 0 = n })))))

abbrev pub main_fields : Packet → MainFields
main_fields p = record { next = after_main p.next; to = p.to.0; size = p.size }

abbrev pub ack_fields : AckHeader → AckFields
ack_fields a = record { next = after_ack a.next; head = head_fields a.head }

abbrev pub main_answer : {E : Type 0} → Result Packet E → Result MainFields E
main_answer (Ok p) = Ok (main_fields p)
main_answer (Err e) = Err e

abbrev pub ack_answer : {E : Type 0} → Result AckHeader E → Result AckFields E
ack_answer (Ok a) = Ok (ack_fields a)
ack_answer (Err e) = Err e
