-- The place of each fault of a frame, by the number of its bytes. It is the place of the fault's row in the tables of
-- faults, as proofs/FaultPlaces.antt shows.
-- Source: docs/FORMATS.md, "Faults of a frame".
use Rattle.std.specs.Prelude.{ℕ}
use Rattle.mc_base.specs.declared.fault.Fault.{Fault}
use Rattle.mc_base.specs.declared.fault.Fault.TheVariants as of
use Rattle.mc_base.specs.declared.fault.FrameFault.{FrameFault}
use Rattle.mc_base.specs.declared.fault.FrameFault.TheVariants as frame_fault
use Rattle.mc_base.specs.declared.fault.LetterFault.{LetterFault}
use Rattle.mc_base.specs.declared.fault.LetterFault.TheVariants as letter_fault
use Rattle.mc_base.specs.declared.fault.NsFault.{NsFault}
use Rattle.mc_base.specs.declared.fault.NsFault.TheVariants as ns_fault

abbrev pub frame_place_in : FrameFault → ℕ → ℕ
frame_place_in frame_fault.FrameShort size = size
frame_place_in frame_fault.FrameLong size = size
frame_place_in frame_fault.HeaderLen size = 12

abbrev pub letter_place_in : LetterFault → ℕ
letter_place_in letter_fault.PayloadShort = 12
letter_place_in letter_fault.Magic = 16
letter_place_in letter_fault.Version = 17
letter_place_in letter_fault.Kind = 18
letter_place_in letter_fault.Argument = 19
letter_place_in letter_fault.Channel = 20
letter_place_in letter_fault.Size = 12

abbrev pub ns_place_in : NsFault → ℕ
ns_place_in ns_fault.NsSize = 12
ns_place_in ns_fault.NsFlags = 52
ns_place_in ns_fault.NsName = 16

abbrev pub place_in : Fault → ℕ → ℕ
place_in (of.Frame f) size = frame_place_in f size
place_in (of.Letter f) size = letter_place_in f
place_in (of.Ns f) size = ns_place_in f
