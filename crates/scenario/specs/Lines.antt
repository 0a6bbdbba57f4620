-- What a line of a scenario says.
use Rattle.std.specs.Prelude.{ℕ, Bool, true, cond, ◌&&◌, ◌||◌, List, [], ◌∷◌, Some, Ok, Err, vec_items, codes, Result, ◌==◌, slice_index}
use Rattle.std.specs.Str.{bytes_eq}
use Rattle.frame.specs.Fields.{HeadFields, Fields, conn, ack, nack, udata, frag}
use Rattle.scenario.specs.declared.line.Line.{Line}
use Rattle.scenario.specs.declared.line.Line.TheVariants.{Nothing, Read, Cread, Write}
use Rattle.scenario.specs.Draft.{fields_of}
use Rattle.scenario.specs.Wrong.{command_text, unknown_text}
use Rattle.scenario.specs.Words.{Rest, Taken, next, word_after, name_after, number_after, bytes_after, end_after}

-- The fields of each form, in the order of their names.
abbrev pub head_after : Rest → Taken HeadFields
head_after rest =
    next (number_after (codes "to") rest) (λ to a.
    next (number_after (codes "r") a) (λ r b.
    next (number_after (codes "ackno") b) (λ ackno c.
    next (number_after (codes "seqno") c) (λ seqno left. Ok (record { to = to; r = r; ackno = ackno; seqno = seqno }, left)))))

abbrev pub conn_after : Rest → Taken Fields
conn_after rest =
    next (number_after (codes "to") rest) (λ to a.
    next (number_after (codes "type") a) (λ type b.
    next (number_after (codes "winsize") b) (λ winsize c.
    next (number_after (codes "published") c) (λ published left. Ok (conn to type winsize published, left)))))

abbrev pub ack_after : Rest → Taken Fields
ack_after rest = next (head_after rest) (λ h left. Ok (ack h, left))

abbrev pub nack_after : Rest → Taken Fields
nack_after rest =
    next (head_after rest) (λ h a.
    next (number_after (codes "count") a) (λ count b.
    next (number_after (codes "from") b) (λ from left. Ok (nack h count from, left))))

abbrev pub payload_after : Rest → Taken (List ℕ)
payload_after rest = next (name_after (codes "payload") rest) (λ _ left. bytes_after left)

abbrev pub udata_after : Rest → Taken Fields
udata_after rest =
    next (head_after rest) (λ h a.
    next (number_after (codes "more") a) (λ more b.
    next (number_after (codes "frag") b) (λ number c.
    next (number_after (codes "dst") c) (λ dst d.
    next (number_after (codes "src") d) (λ src e.
    next (payload_after e) (λ p left. Ok (udata h more number dst src p, left)))))))

abbrev pub frag_after : Rest → Taken Fields
frag_after rest =
    next (head_after rest) (λ h a.
    next (number_after (codes "more") a) (λ more b.
    next (number_after (codes "frag") b) (λ number c.
    next (payload_after c) (λ p left. Ok (frag h more number p, left)))))

-- A form: its name, then its fields.
abbrev pub form_named : List ℕ → Rest → Taken Fields
form_named name rest =
    cond (bytes_eq name (codes "conn")) (conn_after rest)
    (cond (bytes_eq name (codes "ack")) (ack_after rest)
    (cond (bytes_eq name (codes "nack")) (nack_after rest)
    (cond (bytes_eq name (codes "udata")) (udata_after rest)
    (cond (bytes_eq name (codes "frag")) (frag_after rest) (Err (unknown_text name))))))

abbrev pub form_after : Rest → Taken Fields
form_after rest = next (word_after (codes "the form") rest) form_named

-- What a line asks for.
pub data Said : Type 0 where
  nothing : Said
  read : List ℕ → Said
  cread : List ℕ → Said
  write : Fields → Said

abbrev pub said : Line → Said
said Nothing = nothing
said (Read bs) = read (vec_items bs)
said (Cread bs) = cread (vec_items bs)
said (Write d) = write (fields_of d)

-- A call: its name, then its arguments.
abbrev pub call_named : List ℕ → Rest → Taken Said
call_named name rest =
    cond (bytes_eq name (codes "read")) (next (bytes_after rest) (λ bs left. Ok (read bs, left)))
    (cond (bytes_eq name (codes "cread")) (next (bytes_after rest) (λ bs left. Ok (cread bs, left)))
    (cond (bytes_eq name (codes "write")) (next (form_after rest) (λ f left. Ok (write f, left))) (Err (command_text name))))

abbrev pub call_after : Rest → Taken Said
call_after rest = next (word_after (codes "a command") rest) call_named

abbrev pub whole : Said → Taken (Unit {0}) → Result Said (List ℕ)
whole s (Ok p) = Ok s
whole s (Err wrong) = Err wrong

-- The line ends behind the call.
abbrev pub ended : Taken Said → Result Said (List ℕ)
ended (Ok p) = whole p.0 (end_after p.1)
ended (Err wrong) = Err wrong

-- Spaces only.
abbrev pub is_blank : List ℕ → Bool
is_blank [] = true
is_blank (c ∷ cs) = c == 32 && is_blank cs

-- A blank line, or one that begins with `#`.
abbrev pub is_skipped : List ℕ → Bool
is_skipped t = is_blank t || slice_index t 0 == 35

-- What a line says, or what is wrong with it.
abbrev pub said_by : List ℕ → Result Said (List ℕ)
said_by t = cond (is_skipped t) (Ok nothing) (ended (call_after (Some t)))
