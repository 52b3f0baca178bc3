-- What is read of the frames that a domain puts, as the law of channels asks for it: none but an accept is read as one, and an accept of
-- another channel is none of this.
use Rattle.std.proofs.Common.{◌≡◌, ℕ, ◌<◌, ◌^◌, false, refl, sym, ◌∙◌}
use Rattle.std.proofs.lemmas.Bool.{ne_eqb}
use Rattle.mc_base.specs.Letter.{PlainLetter, msg, connect, accept, reject, recv_open, send_open, packet, scalar, send_close, recv_close, Fields, fields, fields_of}
use Rattle.mc_base.specs.Reading.{Reading, says, letter_of}
use Rattle.board_model.specs.State.{Announcement}
use Rattle.board_model.proofs.Hearing.{accepts}
use Rattle.board_model.proofs.HearingFrames.{RepliesRead, IsNoAccept}
use Rattle.board_model.proofs.HonestFrames.{MadeReads, made_faulty, made_letter, reads_made, Tells, tells_faulty, tells_name, tells_made, first_version}

no_accept : (n src : ℕ) (f : Fields) (r : Reading) → MadeReads src f r → ((s d m : ℕ) → (f.channel < 2 ^ 32 → m ≡ f.channel) → accepts n (says s d (letter_of (fields f.version f.kind f.argument m f.content))) ≡ false) → accepts n r ≡ false
no_accept n src f r (made_faulty w) other = refl
no_accept n src f r (made_letter s d m from number) other = other s d m number

none_sent : (n : ℕ) (l : PlainLetter) → IsNoAccept l → (s d m : ℕ) → accepts n (says s d (letter_of (fields (fields_of l).version (fields_of l).kind (fields_of l).argument m (fields_of l).content))) ≡ false
none_sent n (accept m) none s d k = absurd none
none_sent n (msg priority bytes) none s d k = refl
none_sent n (connect m kind) none s d k = refl
none_sent n (reject m why) none s d k = refl
none_sent n (recv_open m) none s d k = refl
none_sent n (send_open m) none s d k = refl
none_sent n (packet m bytes) none s d k = refl
none_sent n (scalar m bits value) none s d k = refl
none_sent n (send_close m) none s d k = refl
none_sent n (recv_close m) none s d k = refl

none_told : (n d : ℕ) (a : Announcement) (r : Reading) → Tells d a r → accepts n r ≡ false
none_told n d a r (tells_faulty w) = refl
none_told n d a r (tells_name bytes m create is named says_so) = refl

pub replies_read : RepliesRead
replies_read = record {
  reject_other = λ n a b m why. no_accept n a (fields_of (reject m why)) _ (reads_made a b (fields_of (reject m why)) refl) (λ s d k number. none_sent n (reject m why) tt s d k);
  sent_other = λ n a b l none. no_accept n a (fields_of l) _ (reads_made a b (fields_of l) (first_version l)) (λ s d k number. none_sent n l none s d k);
  announced_other = λ n d a. none_told n d a _ (tells_made d a);
  accept_other = λ n a b m fits other. no_accept n a (fields_of (accept m)) _ (reads_made a b (fields_of (accept m)) refl) (λ s d k number. ne_eqb k n (λ e. other (sym (number fits) ∙ e)));
}
