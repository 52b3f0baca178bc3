-- A word of refusal is one word, and neither a number nor another word of an answer.
use Rattle.std.proofs.Common.{◌≡◌, false, None, bytes_eq, refl}
use Rattle.std.specs.Prelude.{codes}
use Rattle.mc_base.specs.declared.refusal.Refusal.{Refusal}
use Rattle.mc_base.specs.declared.refusal.Refusal.TheVariants as refusal
use Rattle.board_model.specs.Words.{refusal_text}
use Rattle.mc_journal.specs.Readers.{cut_at, count_in}

pub record IsAlone (w : Refusal) : Type 0 where
  pub alone : cut_at 32 (refusal_text w) ≡ None
  pub not_ok : bytes_eq (refusal_text w) (codes "ok") ≡ false
  pub no_count : count_in (refusal_text w) ≡ None
  pub not_accepted : bytes_eq (refusal_text w) (codes "accepted") ≡ false

pub refusal-alone : (w : Refusal) → IsAlone w
refusal-alone refusal.NodeInvalid = record { alone = refl; not_ok = refl; no_count = refl; not_accepted = refl }
refusal-alone refusal.ExistsAlready = record { alone = refl; not_ok = refl; no_count = refl; not_accepted = refl }
refusal-alone refusal.EndpLimit = record { alone = refl; not_ok = refl; no_count = refl; not_accepted = refl }
refusal-alone refusal.AddressSpent = record { alone = refl; not_ok = refl; no_count = refl; not_accepted = refl }
refusal-alone refusal.EndpInvalid = record { alone = refl; not_ok = refl; no_count = refl; not_accepted = refl }
refusal-alone refusal.PeerInvalid = record { alone = refl; not_ok = refl; no_count = refl; not_accepted = refl }
refusal-alone refusal.OnChannel = record { alone = refl; not_ok = refl; no_count = refl; not_accepted = refl }
refusal-alone refusal.ChanConnected = record { alone = refl; not_ok = refl; no_count = refl; not_accepted = refl }
refusal-alone refusal.EndpBusy = record { alone = refl; not_ok = refl; no_count = refl; not_accepted = refl }
refusal-alone refusal.ChanLimit = record { alone = refl; not_ok = refl; no_count = refl; not_accepted = refl }
refusal-alone refusal.RequestLimit = record { alone = refl; not_ok = refl; no_count = refl; not_accepted = refl }
refusal-alone refusal.NotConnected = record { alone = refl; not_ok = refl; no_count = refl; not_accepted = refl }
refusal-alone refusal.ChanDirection = record { alone = refl; not_ok = refl; no_count = refl; not_accepted = refl }
refusal-alone refusal.ChanType = record { alone = refl; not_ok = refl; no_count = refl; not_accepted = refl }
refusal-alone refusal.ChanClosed = record { alone = refl; not_ok = refl; no_count = refl; not_accepted = refl }
refusal-alone refusal.AlreadyOpen = record { alone = refl; not_ok = refl; no_count = refl; not_accepted = refl }
refusal-alone refusal.NotOpen = record { alone = refl; not_ok = refl; no_count = refl; not_accepted = refl }
refusal-alone refusal.MsgSize = record { alone = refl; not_ok = refl; no_count = refl; not_accepted = refl }
refusal-alone refusal.PktSize = record { alone = refl; not_ok = refl; no_count = refl; not_accepted = refl }
refusal-alone refusal.NoBuffer = record { alone = refl; not_ok = refl; no_count = refl; not_accepted = refl }
refusal-alone refusal.Empty = record { alone = refl; not_ok = refl; no_count = refl; not_accepted = refl }
refusal-alone refusal.SclSize = record { alone = refl; not_ok = refl; no_count = refl; not_accepted = refl }
refusal-alone refusal.BufInvalid = record { alone = refl; not_ok = refl; no_count = refl; not_accepted = refl }
refusal-alone refusal.RequestInvalid = record { alone = refl; not_ok = refl; no_count = refl; not_accepted = refl }
refusal-alone refusal.Pending = record { alone = refl; not_ok = refl; no_count = refl; not_accepted = refl }
refusal-alone refusal.TooLate = record { alone = refl; not_ok = refl; no_count = refl; not_accepted = refl }
refusal-alone refusal.Timeout = record { alone = refl; not_ok = refl; no_count = refl; not_accepted = refl }
refusal-alone refusal.LinkInvalid = record { alone = refl; not_ok = refl; no_count = refl; not_accepted = refl }
refusal-alone refusal.RawSound = record { alone = refl; not_ok = refl; no_count = refl; not_accepted = refl }
