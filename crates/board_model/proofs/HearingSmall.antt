-- The numbers of the Connects that a domain puts fit: a domain numbers 65,535 channels at most, and a frame that it owes is no Connect.
use Rattle.board_model.proofs.PartLetters.{each-put, each-frame}
use Rattle.std.proofs.Common.{◌≡◌, ℕ, ◌<◌, ◌^◌, Bool, true, false, List, [], ◌∷◌, map, Option, None, Some, sym, subst, arith}
use Rattle.std.specs.Prelude.{is_none, ◌==◌}
use Rattle.std.specs.List.{AllByRecursion}
use Rattle.mc_base.specs.Limits.{channel_limit}
use Rattle.mc_base.specs.Letter.{PlainLetter, msg, connect, accept, reject, recv_open, send_open, packet, scalar, send_close, recv_close, fields_of, spelling}
use Rattle.mc_base.specs.Fault.{fault}
use Rattle.mc_base.specs.Frame.{made}
use Rattle.mc_base.specs.Reading.{Reading, reading}
use Rattle.mc_base.specs.declared.channel.Reason.{Reason}
use Rattle.board_model.specs.Answer.{Post, puts, puts_of}
use Rattle.board_model.specs.Deeds.{Deed, looks_back, puts_owed, looks_ahead, takes, calls, MayDo, AllMayDo, after_deed, along}
use Rattle.board_model.specs.State.{letter_by, Announcement, Reply, Peer, DomainState, announcing, replying, owed_to}
use Rattle.board_model.proofs.DeedRuns.{frames_if, puts_by}
use Rattle.board_model.proofs.HearingDeeds.{IsSmallReading}
use Rattle.board_model.proofs.HearingFrames.{IsSmall}
use Rattle.board_model.proofs.HearingLaw.{IsSmallFrame}
use Rattle.board_model.proofs.HonestFrames.{MadeReads, made_faulty, made_letter, reads_made, Tells, tells_faulty, tells_name, tells_made, first_version}
use Rattle.board_model.proofs.MessageAlls.{all-append}
use Rattle.board_model.proofs.PostsSent.{MaySend, puts_all, frames_all}
use Rattle.board_model.proofs.RawFrames.{raw_faulty}

-- ---- frames

letter_small : (a b : ℕ) (l : PlainLetter) → IsSmall l → IsSmallFrame (made a b (spelling l))
letter_small a b l small = go l small (reading (made a b (spelling l))) (reads_made a b (fields_of l) (first_version l))
  where
    go : (k : PlainLetter) → IsSmall k → (r : Reading) → MadeReads a (fields_of k) r → IsSmallReading r
    go k small r (made_faulty w) = tt
    go (connect m kind) small r (made_letter s d j from number) = let same : j ≡ m = number small in subst (λ i. i < 2 ^ 32) (sym same) small
    go (msg priority bytes) small r (made_letter s d j from number) = tt
    go (accept m) small r (made_letter s d j from number) = tt
    go (reject m why) small r (made_letter s d j from number) = tt
    go (recv_open m) small r (made_letter s d j from number) = tt
    go (send_open m) small r (made_letter s d j from number) = tt
    go (packet m bytes) small r (made_letter s d j from number) = tt
    go (scalar m bits value) small r (made_letter s d j from number) = tt
    go (send_close m) small r (made_letter s d j from number) = tt
    go (recv_close m) small r (made_letter s d j from number) = tt

announcement_small : (d : ℕ) (a : Announcement) → IsSmallFrame (announcing d a)
announcement_small d a = go (reading (announcing d a)) (tells_made d a)
  where
    go : (r : Reading) → Tells d a r → IsSmallReading r
    go r (tells_faulty w) = tt
    go r (tells_name bytes m create same named created) = tt

reply_small : (r : Reply) → IsSmallFrame (replying r)
reply_small r = go r.reason
  where
    go : (x : Option Reason) → IsSmallFrame (made r.source r.destination (spelling (letter_by r.channel x)))
    go None = letter_small r.source r.destination (accept r.channel) tt
    go (Some why) = letter_small r.source r.destination (reject r.channel why) tt

announcements_small : (d : ℕ) (news : List Announcement) → AllByRecursion IsSmallFrame (map (announcing d) news)
announcements_small d [] = tt
announcements_small d (a ∷ news) = (announcement_small d a, announcements_small d news)

replies_small : (rs : List Reply) → AllByRecursion IsSmallFrame (map replying rs)
replies_small [] = tt
replies_small (r ∷ rs) = (reply_small r, replies_small rs)

owed_small : (d : ℕ) (p : Peer) → AllByRecursion IsSmallFrame (owed_to d p)
owed_small d p = all-append IsSmallFrame (map (announcing d) p.announcements) (map replying p.replies) (announcements_small d p.announcements) (replies_small p.replies)

-- ---- deeds

sent_small : (s : DomainState) (p : Post) → MaySend s p.letter → AllByRecursion (λ (q : ℕ × List ℕ). IsSmallFrame q.1) (puts_of p)
sent_small s p may = each-put IsSmallFrame p (each-frame IsSmallReading p.source p.destination p.letter (letter_small p.source p.destination p.letter (go p.letter may)) (λ w. tt) (λ a d q. tt))
  where
    go : (l : PlainLetter) → MaySend s l → IsSmall l
    go (connect m kind) sends = let few : s.channels_given < channel_limit = sends.1 in omega (arith, sends.0)
    go other sends = tt

raw_small : (to : ℕ) (bytes : List ℕ) → is_none (fault bytes) ≡ false → IsSmallFrame bytes
raw_small to bytes unsound = subst IsSmallReading (sym (raw_faulty bytes unsound).1) tt

deed_small : (p : ℕ) (s : DomainState) (d : Deed) → MayDo s d → AllByRecursion IsSmallFrame (puts_by p s d)
deed_small p s (calls node call a) may = frames_all IsSmallFrame p (puts s node call) (puts_all (λ q. IsSmallFrame q.1) s node (sent_small s) raw_small call)
deed_small p s (puts_owed q frame) may = one (q == p)
  where
    one : (b : Bool) → AllByRecursion IsSmallFrame (frames_if b (frame ∷ []))
    one true = ((subst (AllByRecursion IsSmallFrame) may.3 (owed_small s.number may.0)).0, tt)
    one false = tt
deed_small p s (looks_back q count) may = tt
deed_small p s (looks_ahead q count) may = tt
deed_small p s (takes q name frame word) may = tt

-- of all frames that a run puts to a peer
pub small_puts : (p : ℕ) (s : DomainState) (ds : List Deed) → AllMayDo s ds → AllByRecursion IsSmallFrame (along (puts_by p) s ds)
small_puts p s [] may = tt
small_puts p s (d ∷ ds) may = all-append IsSmallFrame (puts_by p s d) (along (puts_by p) (after_deed s d) ds) (deed_small p s d may.0) (small_puts p (after_deed s d) ds may.1)
