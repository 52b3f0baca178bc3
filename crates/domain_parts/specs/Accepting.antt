-- How a Connect is answered, and what a letter does at an end of a channel, by the endpoints and requests.
-- Source: docs/PROFILE.md, "What a domain does with a taken frame".
use Rattle.std.specs.Prelude.{◌≡◌, ℕ, Bool, true, false, not, ◌||◌, ◌==◌, length, slice_get, Option, None, Some, is_some, option_map}
use Rattle.mc_base.specs.Letter.{PlainLetter, msg, packet, scalar, accept, reject, send_close, bytes_of_bits}
use Rattle.mc_base.specs.declared.channel.Reason.{Reason}
use Rattle.mc_base.specs.declared.channel.Reason.TheVariants as reason
use Rattle.mc_base.specs.declared.fate.Fate.{Fate}
use Rattle.mc_base.specs.declared.fate.Fate.TheVariants as fate
use Rattle.mc_base.specs.declared.name.Local.{Local}
use Rattle.mc_base.specs.declared.refusal.Refusal.TheVariants.{ChanClosed}
use Rattle.board_model.specs.ChannelEnds.{EndRow, end_row_of}
use Rattle.board_model.specs.State.{ChannelEnd}
use Rattle.packet_channel.specs.End.{end_of}
use Rattle.packet_channel.specs.declared.channel.Channel.{Channel}
use Rattle.request_set.specs.declared.ask.Complete.TheVariants as complete
use Rattle.request_set.specs.Requests.{Requests, oldest_waiting}
use Rattle.domain_parts.specs.declared.dealing.Verdict.{Verdict}
use Rattle.domain_parts.specs.declared.dealing.Verdict.TheVariants as verdict
use Rattle.domain_parts.specs.declared.endpoints.Endpoint.{Endpoint}
use Rattle.domain_parts.specs.declared.requests.Waiters.TheVariants as waiters
use Rattle.domain_parts.specs.InRequests.{with_all_complete}
use Rattle.domain_parts.specs.Records.{Records, kept, with_channel_at}
use Rattle.domain_parts.specs.Verdicts.{Brings, local_of}

-- ---- Connects

-- whether the endpoint at a place has a channel, and whether something waits there: an item, or a receive
abbrev pub has_end : Records → ℕ → Option Bool
has_end r place = option_map (λ e. is_some e.channel) (slice_get r.endpoints place)

abbrev pub is_busy : Requests → Endpoint → Bool
is_busy q e = not (length e.queue.waiting == 0) || is_some (oldest_waiting q e.local)

abbrev pub busy_at : Records → Requests → ℕ → Option Bool
busy_at r q place = option_map (is_busy q) (slice_get r.endpoints place)

-- it has this channel from then on, or there is a reason why not
abbrev pub Accepts : Records → Requests → ℕ → Channel → Option Reason → Records → Type 0
Accepts r q place end None r' =
    (Some false ≡ has_end r place) × (Some false ≡ busy_at r q place) × (r' ≡ with_channel_at r place (kept end))
Accepts r q place end (Some reason.Connected) r' = (Some true ≡ has_end r place) × (r' ≡ r)
Accepts r q place end (Some reason.Busy) r' = (Some false ≡ has_end r place) × (Some true ≡ busy_at r q place) × (r' ≡ r)
Accepts r q place end (Some reason.NoEndpoint) r' = ⊥

-- ---- letters of channels

-- how many bytes the item of a letter has
abbrev pub size_of : PlainLetter → ℕ
size_of (msg priority content) = length content
size_of (packet number content) = length content
size_of (scalar number bits value) = bytes_of_bits bits
size_of other = 0

-- the requests after a letter that acts on the channel of the endpoint of this name
abbrev pub settled_by : Local → PlainLetter → Requests → Requests
settled_by at (accept number) q = with_all_complete q (waiters.Connects number) complete.Accepted
settled_by at (reject number reason) q = with_all_complete q (waiters.Connects number) (complete.Rejected reason)
settled_by at (send_close number) q = with_all_complete q (waiters.Receives at) (complete.Ended ChanClosed)
settled_by at other q = q

-- an end is left at a place, and requests are settled
pub record Leaves (r r' : Records) (q q' : Requests) (place : ℕ) (l : PlainLetter) (left : Option ChannelEnd) : Type 0 where
  pub channel : Option Channel
  pub is : option_map end_of channel ≡ left
  pub records : r' ≡ with_channel_at r place channel
  pub at : Local
  pub named : Some at ≡ local_of r place
  pub requests : q' ≡ settled_by at l q

-- what is done, by the word of the end's row and the end that it leaves
abbrev pub DoesBy : Fate → Option ChannelEnd → Records → Records → Requests → Requests → ℕ → PlainLetter → Verdict → Type 0
DoesBy fate.Queued left r r' q q' place l v = Brings r q place 0 (size_of l) v × (r' ≡ r) × (q' ≡ q)
DoesBy fate.Acted left r r' q q' place l v = (v ≡ verdict.Returned fate.Acted) × Leaves r r' q q' place l left
DoesBy word left r r' q q' place l v = (v ≡ verdict.Returned word) × (r' ≡ r) × (q' ≡ q)

abbrev pub DoesRow : EndRow → Records → Records → Requests → Requests → ℕ → PlainLetter → Verdict → Type 0
DoesRow row r r' q q' place l v = DoesBy row.word row.leaves r r' q q' place l v

-- a letter from a peer to the endpoint at a place, which has this end of a channel or none
pub record Hears (r r' : Records) (q q' : Requests) (peer place : ℕ) (l : PlainLetter) (v : Verdict) : Type 0 where
  pub channel : Option Channel
  pub there : Some channel ≡ option_map (λ e. e.channel) (slice_get r.endpoints place)
  pub does : DoesRow (end_row_of peer (option_map end_of channel) l) r r' q q' place l v
