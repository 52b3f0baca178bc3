-- Every word of refusal, of a take line and of a rejection, and the one that is written so.
-- Source: docs/PROFILE.md, "Words of refusal" and "What a domain does with a taken frame".
use Rattle.std.specs.Prelude.{ℕ, List, [], ◌∷◌, find, Option}
use Rattle.std.specs.Str.{bytes_eq}
use Rattle.mc_base.specs.declared.channel.Reason.{Reason}
use Rattle.mc_base.specs.declared.channel.Reason.TheVariants.{NoEndpoint, Connected, Busy}
use Rattle.mc_base.specs.declared.refusal.Refusal.{Refusal}
use Rattle.mc_base.specs.declared.refusal.Refusal.TheVariants as refusal
use Rattle.mc_base.specs.declared.fate.Fate.{Fate}
use Rattle.mc_base.specs.declared.fate.Fate.TheVariants as fate
use Rattle.board_model.specs.Words.{refusal_text, fate_text, reason_text}

abbrev pub refusals : List Refusal
refusals = refusal.NodeInvalid ∷ refusal.ExistsAlready ∷ refusal.EndpLimit ∷ refusal.AddressSpent ∷ refusal.EndpInvalid ∷ refusal.PeerInvalid ∷ refusal.OnChannel ∷ refusal.ChanConnected ∷ refusal.EndpBusy ∷ refusal.ChanLimit ∷ refusal.RequestLimit ∷ refusal.NotConnected ∷ refusal.ChanDirection ∷ refusal.ChanType ∷ refusal.ChanClosed ∷ refusal.AlreadyOpen ∷ refusal.NotOpen ∷ refusal.MsgSize ∷ refusal.PktSize ∷ refusal.NoBuffer ∷ refusal.Empty ∷ refusal.SclSize ∷ refusal.BufInvalid ∷ refusal.RequestInvalid ∷ refusal.Pending ∷ refusal.TooLate ∷ refusal.Timeout ∷ refusal.LinkInvalid ∷ refusal.RawSound ∷ []

abbrev pub fates : List Fate
fates = fate.FrameShort ∷ fate.FrameLong ∷ fate.HeaderLen ∷ fate.PayloadShort ∷ fate.Magic ∷ fate.Version ∷ fate.Kind ∷ fate.Argument ∷ fate.Channel ∷ fate.Size ∷ fate.NsSize ∷ fate.NsFlags ∷ fate.NsName ∷ fate.ForeignName ∷ fate.NamesFull ∷ fate.UnknownName ∷ fate.RepliesFull ∷ fate.Acted ∷ fate.Owed ∷ fate.NoEndpoint ∷ fate.OnChannel ∷ fate.Handed ∷ fate.Queued ∷ fate.Closed ∷ fate.State ∷ fate.Part ∷ fate.Stray ∷ []

abbrev pub reasons : List Reason
reasons = NoEndpoint ∷ Connected ∷ Busy ∷ []

abbrev pub refusal_in : List ℕ → Option Refusal
refusal_in word = find (λ w. bytes_eq (refusal_text w) word) refusals

abbrev pub fate_in : List ℕ → Option Fate
fate_in word = find (λ f. bytes_eq (fate_text f) word) fates

abbrev pub reason_in : List ℕ → Option Reason
reason_in word = find (λ r. bytes_eq (reason_text r) word) reasons
