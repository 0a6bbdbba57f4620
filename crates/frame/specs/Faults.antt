-- A fault's cause, the place of its header, and its layer; and its text.
use Rattle.std.specs.Prelude.{ℕ, List, ◌++◌, codes, decimal}
use Rattle.frame.specs.Numbers.{cause_number}
use Rattle.frame.specs.declared.fault.Cause.{Cause}
use Rattle.frame.specs.declared.fault.Layer.{Layer}
use Rattle.frame.specs.declared.fault.Layer.TheVariants as layer
use Rattle.frame.specs.declared.fault.HeaderFault.{HeaderFault}
use Rattle.frame.specs.declared.fault.FrameFault.{FrameFault}
use Rattle.frame.specs.declared.fault.FrameFault.TheVariants.{Main, Header}

-- A later header's fault.
abbrev pub at : ℕ → Cause → HeaderFault
at place cause = record { cause = cause; place = place }

abbrev pub cause_of : FrameFault → Cause
cause_of (Main cause) = cause
cause_of (Header h) = h.cause

-- MAIN stands at byte 0.
abbrev pub place_of : FrameFault → ℕ
place_of (Main cause) = 0
place_of (Header h) = h.place

abbrev pub layer_of : FrameFault → Layer
layer_of (Main cause) = layer.Frame
layer_of (Header h) = layer.Header

abbrev pub layer_text : Layer → List ℕ
layer_text layer.Frame = codes "frame"
layer_text layer.Header = codes "header"

abbrev pub fault_text : FrameFault → List ℕ
fault_text e =
    codes "fault " ++ decimal (cause_number (cause_of e)) ++ codes " place " ++ decimal (place_of e) ++ codes " layer " ++ layer_text (layer_of e)
