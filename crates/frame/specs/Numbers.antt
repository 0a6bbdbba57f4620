-- The numbers of types and causes.
use Rattle.std.specs.Prelude.{ℕ, cond, List, ◌++◌, Some, None, Option, Result, ◌==◌, codes, decimal}
use Rattle.std.specs.Option.{ok_or}
use Rattle.frame.specs.declared.fault.Cause.{Cause}
use Rattle.frame.specs.declared.fault.Cause.TheVariants.{Short, Version, Reserved, Next, Size, Range}
use Rattle.frame.specs.declared.fields.ConnType.{ConnType}
use Rattle.frame.specs.declared.fields.ConnType.TheVariants.{Connect, ConnectAck, Ack, Reset}
use Rattle.frame.specs.declared.fields.UnknownType.{UnknownType}

abbrev pub cause_number : Cause → ℕ
cause_number Short = 20
cause_number Version = 21
cause_number Reserved = 22
cause_number Next = 23
cause_number Size = 24
cause_number Range = 25

abbrev pub type_number : ConnType → ℕ
type_number Connect = 1
type_number ConnectAck = 2
type_number Ack = 3
type_number Reset = 4

abbrev pub type_of : ℕ → Option ConnType
type_of n = cond (n == 1) (Some Connect) (cond (n == 2) (Some ConnectAck) (cond (n == 3) (Some Ack) (cond (n == 4) (Some Reset) None)))

-- The type of a number, or the number again where no type has it.
abbrev pub type_or_number : ℕ → Result ConnType UnknownType
type_or_number n = ok_or (type_of n) (record { 0 = n })

abbrev pub no_type_text : ℕ → List ℕ
no_type_text n = codes "no type has the number " ++ decimal n

-- Next names the following header; LAST says that none follows.
abbrev pub CONN : ℕ
CONN = 1

abbrev pub UDATA : ℕ
UDATA = 2

abbrev pub FRAG : ℕ
FRAG = 3

abbrev pub ACK : ℕ
ACK = 4

abbrev pub NACK : ℕ
NACK = 5

abbrev pub LAST : ℕ
LAST = 15
