-- The text of a frame: the words of its form, each before its value.
use Rattle.std.specs.Prelude.{ℕ, List, [], ◌∷◌, ◌++◌, codes, decimal}
use Rattle.frame.specs.Fields.{HeadFields, Fields, conn, ack, nack, udata, frag}
use Rattle.scenario.specs.Hex.{hexed}

-- Pieces of text one after the other.
abbrev pub line : List (List ℕ) → List ℕ
line [] = []
line (t ∷ []) = t
line (t ∷ u ∷ us) = t ++ line (u ∷ us)

-- The fields that four of the forms begin with.
abbrev pub head_text : HeadFields → List ℕ
head_text h =
    line (codes "to " ∷ decimal h.to ∷ codes " r " ∷ decimal h.r ∷ codes " ackno " ∷ decimal h.ackno ∷ codes " seqno " ∷ decimal h.seqno ∷ [])

abbrev pub form_text : Fields → List ℕ
form_text (conn to type winsize published) =
    line (codes "conn to " ∷ decimal to ∷ codes " type " ∷ decimal type ∷ codes " winsize " ∷ decimal winsize ∷ codes " published " ∷ decimal published ∷ [])
form_text (ack h) = line (codes "ack " ∷ head_text h ∷ [])
form_text (nack h count from) = line (codes "nack " ∷ head_text h ∷ codes " count " ∷ decimal count ∷ codes " from " ∷ decimal from ∷ [])
form_text (udata h more number dst src p) =
    line (codes "udata " ∷ head_text h ∷ codes " more " ∷ decimal more ∷ codes " frag " ∷ decimal number ∷ codes " dst " ∷ decimal dst ∷ codes " src " ∷ decimal src ∷ codes " payload " ∷ hexed p ∷ [])
form_text (frag h more number p) =
    line (codes "frag " ∷ head_text h ∷ codes " more " ∷ decimal more ∷ codes " frag " ∷ decimal number ∷ codes " payload " ∷ hexed p ∷ [])
