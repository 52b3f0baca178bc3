-- What holds of the frames that are made.
-- Source: struct rpmsg_hdr of Linux, as mc_base defines it.
use Rattle.std.specs.Prelude.{ℕ, ◌<◌, ◌≤◌, ◌-◌, ◌^◌, List, length}
use Rattle.mc_base.specs.Frame.{IsFrame, made}
use Rattle.mc_base.specs.Limits.{frame_header_size, longest_frame}

-- what is made of two addresses and a payload that fits is a frame of these
abbrev pub MadeIsFrame : Type 0
MadeIsFrame =
    (src dst : ℕ) (payload : List ℕ) → src < 2 ^ 32 → dst < 2 ^ 32 → length payload ≤ longest_frame - frame_header_size
    → IsFrame (made src dst payload) src dst payload
