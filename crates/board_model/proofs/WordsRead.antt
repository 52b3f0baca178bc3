-- Words of refusals, of take lines and of rejections are read as they are written, and no other is read.
use Rattle.std.proofs.Common.{◌≡◌, ℕ, Bool, true, false, cond, List, [], ◌∷◌, Some, bytes_eq, refl, sym, ap, ◌∙◌}
use Rattle.std.specs.Prelude.{find}
use Rattle.std.proofs.lemmas.Slice.Eq.{bytes_eq-Decides}
use Rattle.mc_base.specs.declared.channel.Reason.{Reason}
use Rattle.mc_base.specs.declared.channel.Reason.TheVariants.{NoEndpoint, Connected, Busy}
use Rattle.mc_base.specs.declared.refusal.Refusal.{Refusal}
use Rattle.mc_base.specs.declared.refusal.Refusal.TheVariants as refusal
use Rattle.mc_base.specs.declared.fate.Fate.{Fate}
use Rattle.mc_base.specs.declared.fate.Fate.TheVariants as fate
use Rattle.board_model.specs.Words.{refusal_text, fate_text, reason_text, same_word}
use Rattle.board_model.specs.WordTables.{refusal_in, fate_in, reason_in}

-- what is found in a table of words is written so
pub found-is : {A : Type 0} (text : A → List ℕ) (xs : List A) (word : List ℕ) (a : A) → find (λ x. bytes_eq (text x) word) xs ≡ Some a → text a ≡ word
found-is text [] word a e = absurd cc
found-is {A = A} text (x ∷ xs) word a e = go (bytes_eq (text x) word) refl e (λ rest. found-is text xs word a rest)
  where
    go : (b : Bool) → bytes_eq (text x) word ≡ b → cond b (Some x) (find (λ (y : A). bytes_eq (text y) word) xs) ≡ Some a → (find (λ (y : A). bytes_eq (text y) word) xs ≡ Some a → text a ≡ word) → text a ≡ word
    go true is e rest =
        let same : x ≡ a = cc in
        ap text (sym same) ∙ (bytes_eq-Decides (text x) word).0 is
    go false is e rest = rest e

pub refusal-read : (w : Refusal) → refusal_in (refusal_text w) ≡ Some w
refusal-read refusal.NodeInvalid = refl
refusal-read refusal.ExistsAlready = refl
refusal-read refusal.EndpLimit = refl
refusal-read refusal.AddressSpent = refl
refusal-read refusal.EndpInvalid = refl
refusal-read refusal.PeerInvalid = refl
refusal-read refusal.OnChannel = refl
refusal-read refusal.ChanConnected = refl
refusal-read refusal.EndpBusy = refl
refusal-read refusal.ChanLimit = refl
refusal-read refusal.RequestLimit = refl
refusal-read refusal.NotConnected = refl
refusal-read refusal.ChanDirection = refl
refusal-read refusal.ChanType = refl
refusal-read refusal.ChanClosed = refl
refusal-read refusal.AlreadyOpen = refl
refusal-read refusal.NotOpen = refl
refusal-read refusal.MsgSize = refl
refusal-read refusal.PktSize = refl
refusal-read refusal.NoBuffer = refl
refusal-read refusal.Empty = refl
refusal-read refusal.SclSize = refl
refusal-read refusal.BufInvalid = refl
refusal-read refusal.RequestInvalid = refl
refusal-read refusal.Pending = refl
refusal-read refusal.TooLate = refl
refusal-read refusal.Timeout = refl
refusal-read refusal.LinkInvalid = refl
refusal-read refusal.RawSound = refl

-- two words of refusal that are written alike are the same
pub same_from_text : (v w : Refusal) → refusal_text v ≡ refusal_text w → v ≡ w
same_from_text v w e =
    let same : Some v ≡ Some w = sym (refusal-read v) ∙ ap refusal_in e ∙ refusal-read w in
    cc

pub one_word : (v w : Refusal) → same_word v w ≡ true → v ≡ w
one_word v w e = same_from_text v w ((bytes_eq-Decides (refusal_text v) (refusal_text w)).0 e)

pub fate-read : (f : Fate) → fate_in (fate_text f) ≡ Some f
fate-read fate.FrameShort = refl
fate-read fate.FrameLong = refl
fate-read fate.HeaderLen = refl
fate-read fate.PayloadShort = refl
fate-read fate.Magic = refl
fate-read fate.Version = refl
fate-read fate.Kind = refl
fate-read fate.Argument = refl
fate-read fate.Channel = refl
fate-read fate.Size = refl
fate-read fate.NsSize = refl
fate-read fate.NsFlags = refl
fate-read fate.NsName = refl
fate-read fate.ForeignName = refl
fate-read fate.NamesFull = refl
fate-read fate.UnknownName = refl
fate-read fate.RepliesFull = refl
fate-read fate.Acted = refl
fate-read fate.Owed = refl
fate-read fate.NoEndpoint = refl
fate-read fate.OnChannel = refl
fate-read fate.Handed = refl
fate-read fate.Queued = refl
fate-read fate.Closed = refl
fate-read fate.State = refl
fate-read fate.Part = refl
fate-read fate.Stray = refl

pub reason-read : (r : Reason) → reason_in (reason_text r) ≡ Some r
reason-read NoEndpoint = refl
reason-read Connected = refl
reason-read Busy = refl
