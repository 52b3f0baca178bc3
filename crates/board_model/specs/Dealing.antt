-- The words for what a domain does with a frame that it takes: which word each fault has, and with which words it keeps the buffer.
-- Source: docs/PROFILE.md, "What a domain does with a taken frame". Except where queued or handed, the buffer is given back at once.
use Rattle.std.specs.Prelude.{ℕ, Bool, true, false, not, ◌&&◌, ◌==◌, List, slice_index}
use Rattle.mc_base.specs.Limits.{name_service_address}
use Rattle.mc_base.specs.Frame.{destination_of, payload_of}
use Rattle.mc_base.specs.declared.fault.Fault.{Fault}
use Rattle.mc_base.specs.declared.fault.Fault.TheVariants as of
use Rattle.mc_base.specs.declared.fault.FrameFault.{FrameFault}
use Rattle.mc_base.specs.declared.fault.FrameFault.TheVariants as frame_fault
use Rattle.mc_base.specs.declared.fault.LetterFault.{LetterFault}
use Rattle.mc_base.specs.declared.fault.LetterFault.TheVariants as letter_fault
use Rattle.mc_base.specs.declared.fault.NsFault.{NsFault}
use Rattle.mc_base.specs.declared.fault.NsFault.TheVariants as ns_fault
use Rattle.mc_base.specs.declared.fate.Fate.{Fate}
use Rattle.mc_base.specs.declared.fate.Fate.TheVariants as fate

-- the words of the faults
abbrev pub frame_word : FrameFault → Fate
frame_word frame_fault.FrameShort = fate.FrameShort
frame_word frame_fault.FrameLong = fate.FrameLong
frame_word frame_fault.HeaderLen = fate.HeaderLen

abbrev pub letter_word : LetterFault → Fate
letter_word letter_fault.PayloadShort = fate.PayloadShort
letter_word letter_fault.Magic = fate.Magic
letter_word letter_fault.Version = fate.Version
letter_word letter_fault.Kind = fate.Kind
letter_word letter_fault.Argument = fate.Argument
letter_word letter_fault.Channel = fate.Channel
letter_word letter_fault.Size = fate.Size

abbrev pub ns_word : NsFault → Fate
ns_word ns_fault.NsSize = fate.NsSize
ns_word ns_fault.NsFlags = fate.NsFlags
ns_word ns_fault.NsName = fate.NsName

abbrev pub fault_word : Fault → Fate
fault_word (of.Frame f) = frame_word f
fault_word (of.Letter f) = letter_word f
fault_word (of.Ns f) = ns_word f

-- a frame to any address but the name service's is a letter
abbrev pub is_letter : List ℕ → Bool
is_letter frame = not (destination_of frame == name_service_address)

-- a letter of kind 1 is a message
abbrev pub is_message : List ℕ → Bool
is_message frame = is_letter frame && slice_index (payload_of frame) 2 == 1

-- whether the buffer stays with the domain
abbrev pub keeps_buffer : Fate → Bool
keeps_buffer fate.Queued = true
keeps_buffer fate.Handed = true
keeps_buffer fate.Part = true
keeps_buffer other = false
