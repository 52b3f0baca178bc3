-- RPMsg frames: what one buffer carries.
-- Source: struct rpmsg_hdr of Linux (drivers/rpmsg/virtio_rpmsg_bus.c): src, dst, reserved (4 bytes each), len, flags
-- (2 bytes each), and then the payload. Any bytes may stand in reserved, in flags and after the payload.
use Rattle.std.specs.Prelude.{◌≡◌, ℕ, ◌-◌, ◌≤◌, List, [], ◌∷◌, ◌++◌, length, take, drop, nat_lt}
use Rattle.byteorder.specs.Endian.{little_bytes}
use Rattle.mc_base.specs.Limits.{frame_header_size, longest_frame}
use Rattle.mc_base.specs.Bytes.{number_at}
use Rattle.mc_base.specs.FaultRow.{FaultRow, row}
use Rattle.mc_base.specs.declared.fault.FrameFault.{FrameFault}
use Rattle.mc_base.specs.declared.fault.FrameFault.TheVariants.{FrameShort, FrameLong, HeaderLen}

-- the fields of the header
abbrev pub source_of : List ℕ → ℕ
source_of frame = number_at 0 4 frame

abbrev pub destination_of : List ℕ → ℕ
destination_of frame = number_at 4 4 frame

abbrev pub payload_length_of : List ℕ → ℕ
payload_length_of frame = number_at 12 2 frame

-- the payload: as many bytes after the header as the header says
abbrev pub payload_of : List ℕ → List ℕ
payload_of frame = take (payload_length_of frame) (drop frame_header_size frame)

-- the frame has this source, destination and payload
pub record IsFrame (frame : List ℕ) (src dst : ℕ) (payload : List ℕ) : Type 0 where
  pub has_header : frame_header_size ≤ length frame
  pub fits_buffer : length frame ≤ longest_frame
  pub source : src ≡ source_of frame
  pub destination : dst ≡ destination_of frame
  pub length_fits : payload_length_of frame ≤ length frame - frame_header_size
  pub content : payload ≡ payload_of frame

-- the header for a payload of this length, with reserved and flags 0
abbrev pub header : ℕ → ℕ → ℕ → List ℕ
header src dst n = little_bytes 4 src ++ (little_bytes 4 dst ++ (little_bytes 4 0 ++ (little_bytes 2 n ++ little_bytes 2 0)))

-- the frame with reserved and flags 0 and nothing after the payload
abbrev pub made : ℕ → ℕ → List ℕ → List ℕ
made src dst payload = header src dst (length payload) ++ payload

-- the faults of a frame before its payload is looked at, in their order
abbrev pub frame_faults : List ℕ → List (FaultRow FrameFault)
frame_faults frame =
    row FrameShort (nat_lt (length frame) frame_header_size) (length frame)
    ∷ row FrameLong (nat_lt longest_frame (length frame)) (length frame)
    ∷ row HeaderLen (nat_lt (length frame - frame_header_size) (payload_length_of frame)) 12
    ∷ []
