-- The first fault of a whole frame: those of the frame, and then those of its payload by its destination.
-- Source: docs/FORMATS.md, "Faults of a frame".
use Rattle.std.specs.Prelude.{ℕ, List, ◌++◌, ◌==◌, Option, if◌then◌else◌}
use Rattle.mc_base.specs.Limits.{name_service_address}
use Rattle.mc_base.specs.FaultRow.{FaultRow, widened, first_fault}
use Rattle.mc_base.specs.Frame.{destination_of, payload_of, frame_faults}
use Rattle.mc_base.specs.LetterFaults.{letter_faults}
use Rattle.mc_base.specs.Announcement.{announcement_faults}
use Rattle.mc_base.specs.declared.fault.Fault.{Fault}
use Rattle.mc_base.specs.declared.fault.Fault.TheVariants as fault_of

-- the faults of the payload of a frame without a fault of its own, by the frame's destination
abbrev pub payload_faults : ℕ → List ℕ → List (FaultRow Fault)
payload_faults destination payload =
    if destination == name_service_address
    then widened fault_of.Ns (announcement_faults payload)
    else widened fault_of.Letter (letter_faults payload)

abbrev pub faults : List ℕ → List (FaultRow Fault)
faults frame = widened fault_of.Frame (frame_faults frame) ++ payload_faults (destination_of frame) (payload_of frame)

-- the first fault of a frame, or none: the frame is sound then
abbrev pub fault : List ℕ → Option Fault
fault frame = first_fault (faults frame)
