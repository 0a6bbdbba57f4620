-- The fields that a typed form asks for, in range or not.
use Rattle.std.specs.Prelude.{vec_items}
use Rattle.frame.specs.Fields.{HeadFields, Fields, conn, ack, nack, udata, frag}
use Rattle.scenario.specs.declared.draft.HeadDraft.{HeadDraft}
use Rattle.scenario.specs.declared.draft.Draft.{Draft}
use Rattle.scenario.specs.declared.draft.Draft.TheVariants.{Conn, Ack, Nack, Udata, Frag}

abbrev pub head_of : HeadDraft → HeadFields
head_of h = record { to = h.to; r = h.request; ackno = h.ackno; seqno = h.seqno }

abbrev pub fields_of : Draft → Fields
fields_of (Conn to kind window published) = conn to kind window published
fields_of (Ack h) = ack (head_of h)
fields_of (Nack h count from) = nack (head_of h) count from
fields_of (Udata h more number dst src p) = udata (head_of h) more number dst src (vec_items p)
fields_of (Frag h more number p) = frag (head_of h) more number (vec_items p)
