-- What the C caller is told: the kind of a frame, or why there is none.
use Rattle.std.specs.Prelude.{ℕ, ◌+◌, ◌*◌, Ok, Err, Result}
use Rattle.frame.specs.declared.form.Kind.{Kind}
use Rattle.frame.specs.declared.form.Kind.TheVariants.{Connect, ConnectAck, ConnAck, Reset, Ack, Nack, Udata, Frag}
use Rattle.frame.specs.declared.fault.FrameFault.{FrameFault}
use Rattle.frame.specs.Fields.{Fields, conn, ack, nack, udata, frag}
use Rattle.frame.specs.Faults.{cause_of, place_of}
use Rattle.frame.specs.Numbers.{cause_number}

abbrev pub kind_number : Kind → ℕ
kind_number Connect = 1
kind_number ConnectAck = 2
kind_number ConnAck = 3
kind_number Reset = 4
kind_number Ack = 5
kind_number Nack = 6
kind_number Udata = 7
kind_number Frag = 8

-- A CONN frame's kind has the number of its type.
abbrev pub kind_of : Fields → ℕ
kind_of (conn to type winsize published) = type
kind_of (ack h) = kind_number Ack
kind_of (nack h count from) = kind_number Nack
kind_of (udata h more number dst src p) = kind_number Udata
kind_of (frag h more number p) = kind_number Frag

-- The kind, or cause × 256 + place.
abbrev pub code : Result Fields FrameFault → ℕ
code (Ok f) = kind_of f
code (Err e) = cause_number (cause_of e) * 256 + place_of e
