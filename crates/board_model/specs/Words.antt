-- How words of refusal, words of take lines and reasons are written.
-- Source: docs/FORMATS.md, "Journal text"; docs/PROFILE.md, "Words of refusal".
use Rattle.std.specs.Prelude.{ℕ, Bool, List, codes}
use Rattle.std.specs.Str.{bytes_eq}
use Rattle.mc_base.specs.declared.channel.Reason.{Reason}
use Rattle.mc_base.specs.declared.channel.Reason.TheVariants.{NoEndpoint, Connected, Busy}
use Rattle.mc_base.specs.declared.refusal.Refusal.{Refusal}
use Rattle.mc_base.specs.declared.refusal.Refusal.TheVariants as refusal
use Rattle.mc_base.specs.declared.fate.Fate.{Fate}
use Rattle.mc_base.specs.declared.fate.Fate.TheVariants as fate

-- the words of refusal
abbrev pub refusal_text : Refusal → List ℕ
refusal_text refusal.NodeInvalid = codes "node_invalid"
refusal_text refusal.ExistsAlready = codes "exists_already"
refusal_text refusal.EndpLimit = codes "endp_limit"
refusal_text refusal.AddressSpent = codes "address_spent"
refusal_text refusal.EndpInvalid = codes "endp_invalid"
refusal_text refusal.PeerInvalid = codes "peer_invalid"
refusal_text refusal.OnChannel = codes "on_channel"
refusal_text refusal.ChanConnected = codes "chan_connected"
refusal_text refusal.EndpBusy = codes "endp_busy"
refusal_text refusal.ChanLimit = codes "chan_limit"
refusal_text refusal.RequestLimit = codes "request_limit"
refusal_text refusal.NotConnected = codes "not_connected"
refusal_text refusal.ChanDirection = codes "chan_direction"
refusal_text refusal.ChanType = codes "chan_type"
refusal_text refusal.ChanClosed = codes "chan_closed"
refusal_text refusal.AlreadyOpen = codes "already_open"
refusal_text refusal.NotOpen = codes "not_open"
refusal_text refusal.MsgSize = codes "msg_size"
refusal_text refusal.PktSize = codes "pkt_size"
refusal_text refusal.NoBuffer = codes "no_buffer"
refusal_text refusal.Empty = codes "empty"
refusal_text refusal.SclSize = codes "scl_size"
refusal_text refusal.BufInvalid = codes "buf_invalid"
refusal_text refusal.RequestInvalid = codes "request_invalid"
refusal_text refusal.Pending = codes "pending"
refusal_text refusal.TooLate = codes "too_late"
refusal_text refusal.Timeout = codes "timeout"
refusal_text refusal.LinkInvalid = codes "link_invalid"
refusal_text refusal.RawSound = codes "raw_sound"

-- the words of take lines
abbrev pub fate_text : Fate → List ℕ
fate_text fate.FrameShort = codes "frame_short"
fate_text fate.FrameLong = codes "frame_long"
fate_text fate.HeaderLen = codes "header_len"
fate_text fate.PayloadShort = codes "payload_short"
fate_text fate.Magic = codes "magic"
fate_text fate.Version = codes "version"
fate_text fate.Kind = codes "kind"
fate_text fate.Argument = codes "argument"
fate_text fate.Channel = codes "channel"
fate_text fate.Size = codes "size"
fate_text fate.NsSize = codes "ns_size"
fate_text fate.NsFlags = codes "ns_flags"
fate_text fate.NsName = codes "ns_name"
fate_text fate.ForeignName = codes "foreign_name"
fate_text fate.NamesFull = codes "names_full"
fate_text fate.UnknownName = codes "unknown_name"
fate_text fate.RepliesFull = codes "replies_full"
fate_text fate.Acted = codes "acted"
fate_text fate.Owed = codes "owed"
fate_text fate.NoEndpoint = codes "no_endpoint"
fate_text fate.OnChannel = codes "on_channel"
fate_text fate.Handed = codes "handed"
fate_text fate.Queued = codes "queued"
fate_text fate.Closed = codes "closed"
fate_text fate.State = codes "state"
fate_text fate.Part = codes "part"
fate_text fate.Stray = codes "stray"

-- the reasons for which a connection was rejected
abbrev pub reason_text : Reason → List ℕ
reason_text NoEndpoint = codes "no_endpoint"
reason_text Connected = codes "connected"
reason_text Busy = codes "busy"

-- two words of refusal are the same
abbrev pub same_word : Refusal → Refusal → Bool
same_word v w = bytes_eq (refusal_text v) (refusal_text w)
