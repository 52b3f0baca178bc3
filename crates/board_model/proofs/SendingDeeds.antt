-- The sender's end of a channel along a run: its letters are put in order, and data only after an accept came.
use Rattle.board_model.proofs.PartPuts.{deed_closed, owed_whole, IsWhole}
use Rattle.board_model.proofs.PartReadings.{coming-holds, is_part}
use Rattle.board_model.specs.Parts.{Came, came_from, said_from, held_by, part_of, coming}
use Rattle.std.proofs.Common.{◌≡◌, ℕ, ◌-◌, ◌≤◌, Bool, true, false, inl, inr, List, [], ◌∷◌, ◌++◌, map, Option, Some, None, refl, sym, ap, ◌∙◌, subst, arith}
use Rattle.std.specs.Prelude.{◌==◌, ◌||◌}
use Rattle.std.specs.List.{AllByRecursion, list_any, flat_map}
use Rattle.std.proofs.lemmas.Bool.{eq-eqb}
use Rattle.std.proofs.lemmas.List.{append_assoc, append-nil}
use Rattle.mc_base.specs.Frame.{made}
use Rattle.mc_base.specs.Letter.{accept, reject, fields_of, spelling, Carrier, of_message, of_packet, carried}
use Rattle.mc_base.specs.Reading.{Reading, reading, is_faulty, announces, says, brings}
use Rattle.mc_base.specs.declared.channel.Reason.{Reason}
use Rattle.board_model.proofs.ChannelWords.{Way, Sent, sent_by, letters, contents, way_after, InOrder, way_of}
use Rattle.board_model.proofs.DeedRuns.{frames_if, puts_by, takes_by}
use Rattle.board_model.proofs.Hearing.{accepts}
use Rattle.board_model.proofs.HearingCalls.{Own}
use Rattle.board_model.proofs.HearingLaw.{way_of-append, letters-append, contents-append, deed_keeps}
use Rattle.board_model.proofs.HonestFrames.{MadeReads, made_faulty, made_letter, reads_made, Tells, tells_faulty, tells_name, tells_made}
use Rattle.board_model.proofs.MessageAlls.{all-append}
use Rattle.board_model.proofs.OrderSerials.{Serials, succeeds, all_succeed}
use Rattle.board_model.proofs.OrderSound.{Sound, sound_own}
use Rattle.board_model.proofs.Sending.{Accepted, MayHave, SentAt, sent, Sending, fresh, numbered, FitAllOut, sending_changes}
use Rattle.board_model.proofs.SendingFrames.{frame_fits_out}
use Rattle.board_model.proofs.SendingCalls.{Reads, call_posted}
use Rattle.board_model.specs.Answer.{refusal, success_posts}
use Rattle.board_model.specs.Change.{Change, changed, changed_all}
use Rattle.board_model.specs.Deeds.{Deed, looks_back, puts_owed, looks_ahead, takes, calls, happens_by, after_deed, MayDo, AllMayDo, after_deeds, along, taken_change}
use Rattle.board_model.specs.State.{ChannelEnd, Announcement, Reply, Peer, DomainState, letter_by, announcing, replying, owed_to, endpoint_of}
use Rattle.board_model.proofs.TakenRows.{row_same}

-- ---- frames taken

any-more : (p : List ℕ → Bool) (xs ys : List (List ℕ)) → list_any p xs ≡ true → list_any p (xs ++ ys) ≡ true
any-more p [] ys e = absurd cc
any-more p (x ∷ xs) ys e = elim (p x) as (λ b. (b || list_any p xs) ≡ true → (b || list_any p (xs ++ ys)) ≡ true) [ true ↦ λ k. refl | false ↦ λ k. any-more p xs ys k ] e

any-last : (p : List ℕ → Bool) (xs : List (List ℕ)) (y : List ℕ) → p y ≡ true → list_any p (xs ++ y ∷ []) ≡ true
any-last p [] y e = ap (λ b. b || false) e
any-last p (x ∷ xs) y e = elim (p x) as (λ b. (b || list_any p (xs ++ y ∷ [])) ≡ true) [ true ↦ refl | false ↦ any-last p xs y e ]

may_more : (n : ℕ) (t fs m : List (List ℕ)) → MayHave n t m → MayHave n (t ++ fs) m
may_more n t fs m (inl e) = inl e
may_more n t fs m (inr a) = inr (any-more (λ f. accepts n (reading f)) t fs a)

hear_more : (n p : ℕ) (w : Way) (t fs m : List (List ℕ)) (s : DomainState) → Sending n p w t m s → Sending n p w (t ++ fs) m s
hear_more n p w t fs m s (fresh none below way empty) = fresh none below way empty
hear_more n p w t fs m s (numbered given a others at) = numbered given a others (go (sent n (endpoint_of s a)) at)
  where
    go : (y : Option ChannelEnd) → SentAt n p w t m y → SentAt n p w (t ++ fs) m y
    go None may = may_more n t fs m may
    go (Some c) out = record { may = may_more n t fs m out.may; told = λ here free. any-more (λ f. accepts n (reading f)) t fs (out.told here free); way = out.way }

-- ---- owed frames say nothing of a channel that this domain sends on

abbrev pub IsMute : ℕ → List ℕ → Type 0
IsMute n f = sent_by n (reading f) ≡ []

module _ (n : ℕ) where
  announcement_mute : (d : ℕ) (a : Announcement) → IsMute n (announcing d a)
  announcement_mute d a = go (reading (announcing d a)) (tells_made d a)
    where
      go : (r : Reading) → Tells d a r → sent_by n r ≡ []
      go r (tells_faulty w) = refl
      go r (tells_name name m create is named created) = refl

  reply_mute : (r : Reply) → IsMute n (replying r)
  reply_mute r = go r.reason
    where
      accepted : (x : Reading) → MadeReads r.source (fields_of (accept r.channel)) x → sent_by n x ≡ []
      accepted x (made_faulty w) = refl
      accepted x (made_letter s d j from number) = refl

      rejected : (why : Reason) (x : Reading) → MadeReads r.source (fields_of (reject r.channel why)) x → sent_by n x ≡ []
      rejected why x (made_faulty w) = refl
      rejected why x (made_letter s d j from number) = refl

      go : (x : Option Reason) → IsMute n (made r.source r.destination (spelling (letter_by r.channel x)))
      go None = accepted _ (reads_made r.source r.destination (fields_of (accept r.channel)) refl)
      go (Some why) = rejected why _ (reads_made r.source r.destination (fields_of (reject r.channel why)) refl)

  announcements_mute : (d : ℕ) (news : List Announcement) → AllByRecursion (IsMute n) (map (announcing d) news)
  announcements_mute d [] = tt
  announcements_mute d (a ∷ news) = (announcement_mute d a, announcements_mute d news)

  replies_mute : (rs : List Reply) → AllByRecursion (IsMute n) (map replying rs)
  replies_mute [] = tt
  replies_mute (r ∷ rs) = (reply_mute r, replies_mute rs)

  owed_mute : (d : ℕ) (p : Peer) → AllByRecursion (IsMute n) (owed_to d p)
  owed_mute d p = all-append (IsMute n) (map (announcing d) p.announcements) (map replying p.replies) (announcements_mute d p.announcements) (replies_mute p.replies)

  -- so an owed frame that is put has none of its letters
  pub owed_put_mute : (s : DomainState) (q : ℕ) (frame : List ℕ) → MayDo s (puts_owed q frame) → IsMute n frame × (is_part (reading frame) ≡ false)
  owed_put_mute s q frame may = ((subst (AllByRecursion (IsMute n)) may.3 (owed_mute s.number may.0)).0, (subst (AllByRecursion IsWhole) may.3 (owed_whole s.number may.0)).0)

-- nor with no part before it
pub alone_mute : (n : ℕ) (frame : List ℕ) → IsMute n frame × (is_part (reading frame) ≡ false) → sent_by n (coming None (reading frame)).reading ≡ []
alone_mute n frame mute = go (reading frame) mute.1 mute.0
  where
    go : (r : Reading) → is_part r ≡ false → sent_by n r ≡ [] → sent_by n (coming None r).reading ≡ []
    go (brings a d q) is none = absurd cc
    go (is_faulty f) is none = none
    go (announces text a there) is none = none
    go (says a d l) is none = none

-- ---- a deed

-- the letters of calls are read back
abbrev pub ReadsDeed : DomainState → Deed → Type 0
ReadsDeed s (calls node call a) = refusal s node call ≡ None → AllByRecursion Reads (success_posts s node call)
ReadsDeed s other = Unit {0}

deaf_carrier : (n a d : ℕ) (k : Carrier) (bytes : List ℕ) → accepts n (says a d (carried k bytes)) ≡ false
deaf_carrier n a d (of_message priority) bytes = refl
deaf_carrier n a d (of_packet m) bytes = refl

module _ (n p : ℕ) (w : Way) (t m : List (List ℕ)) (s : DomainState) (own : Own s) (sending : Sending n p w t m s) where
  abbrev pub Kept : List Sent → List (List ℕ) → List Change → Type 0
  Kept ls fs cs = InOrder w ls × Sending n p (way_of w ls) (t ++ fs) (m ++ contents ls) (changed_all s cs)

  nothing_put : (fs : List (List ℕ)) (cs : List Change) → FitAllOut n p (t ++ fs) s cs → Kept [] fs cs
  nothing_put fs cs fits = (tt, subst (λ k. Sending n p w (t ++ fs) k (changed_all s cs)) (sym (append-nil m)) (sending_changes n p w (t ++ fs) m s cs fits (hear_more n p w t fs m s sending)))

  owed_is_put : (q : ℕ) (frame : List ℕ) → sent_by n (coming None (reading frame)).reading ≡ [] → Kept (letters n (puts_by p s (puts_owed q frame))) [] (happens_by s (puts_owed q frame))
  owed_is_put q frame quiet = go (q == p)
    where
      go : (b : Bool) → Kept (letters n (frames_if b (frame ∷ []))) [] (happens_by s (puts_owed q frame))
      go false = nothing_put [] (happens_by s (puts_owed q frame)) (tt, tt)
      go true = subst (λ ls. Kept ls [] (happens_by s (puts_owed q frame))) (sym (append-nil (sent_by n (coming None (reading frame)).reading) ∙ quiet)) (nothing_put [] (happens_by s (puts_owed q frame)) (tt, tt))

  pub sender_step : (d : Deed) → MayDo s d → ReadsDeed s d → Kept (letters n (puts_by p s d)) (takes_by p d) (happens_by s d)
  sender_step (looks_back q count) may read = nothing_put [] (happens_by s (looks_back q count)) (tt, tt)
  sender_step (looks_ahead q count) may read = nothing_put [] (happens_by s (looks_ahead q count)) (tt, tt)
  sender_step (calls node call a) may read =
      let done = call_posted n p w t m s own sending node call a read in
      (done.0, subst (λ k. Sending n p (way_of w (letters n (puts_by p s (calls node call a)))) k (m ++ contents (letters n (puts_by p s (calls node call a)))) (after_deed s (calls node call a))) (sym (append-nil t)) done.1)
  sender_step (puts_owed q frame) may read = owed_is_put q frame (alone_mute n frame (owed_put_mute n s q frame may))
  sender_step (takes q name frame word) may read =
      let c : Came = came_from s q name frame in
      let taken = changed s (taken_change q c) in
      nothing_put (takes_by p (takes q name frame word)) (happens_by s (takes q name frame word)) (
        tt,
        subst (λ r. FitAllOut n p (t ++ takes_by p (takes q name frame word)) taken r.happens) (row_same s q c.part (held_by c) q c (said_from s q frame))
            (frame_fits_out n p (t ++ takes_by p (takes q name frame word)) taken q c (said_from s q frame)
            (λ from. coming-holds (λ r. accepts n r ≡ true → Accepted n (t ++ takes_by p (takes q name frame word))) (λ a d k bytes it. let never = sym (deaf_carrier n a d k bytes) ∙ it in absurd cc) (λ a d x it. absurd cc) (part_of s q) (reading frame) (λ it. subst (λ b. Accepted n (t ++ frames_if b (frame ∷ []))) (sym (eq-eqb q p from)) (any-last (λ f. accepts n (reading f)) t frame it)))),
      )

-- ---- a run

-- endpoints have addresses of their own, and letters are read back, at each deed
abbrev pub AllOut : DomainState → List Deed → Type 0
AllOut s [] = Unit {0}
AllOut s (d ∷ ds) = (Own s × ReadsDeed s d) × AllOut (after_deed s d) ds

-- the letters of each call are read back
abbrev pub AllRead : DomainState → List Deed → Type 0
AllRead s [] = Unit {0}
AllRead s (d ∷ ds) = ReadsDeed s d × AllRead (after_deed s d) ds

pub all_out : (room : ℕ) (s : DomainState) (ds : List Deed) → AllMayDo s ds → Sound s → Serials room s → all_succeed ds ≤ room → AllRead s ds → AllOut s ds
all_out room s [] may sound serials few read = tt
all_out room s (d ∷ ds) may sound serials few read =
    let keeps = deed_keeps 0 0 room s sound serials d may.0 (omega arith) in
    ((sound_own s sound, read.0), all_out (room - succeeds d) (after_deed s d) ds may.1 keeps.sound keeps.serials (omega arith) read.1)

in_order-join : (w : Way) (xs ys : List Sent) → InOrder w xs → InOrder (way_of w xs) ys → InOrder w (xs ++ ys)
in_order-join w [] ys a b = b
in_order-join w (x ∷ xs) ys a b = (a.0, in_order-join (way_after w x) xs ys a.1 b)

abbrev pub SentOut : ℕ → ℕ → Way → List (List ℕ) → List (List ℕ) → List Sent → List (List ℕ) → DomainState → Type 0
SentOut n p w t m ls fs after = InOrder w ls × Sending n p (way_of w ls) (t ++ fs) (m ++ contents ls) after

pub run_sending : (n p : ℕ) (w : Way) (t m : List (List ℕ)) (s : DomainState) (ds : List Deed) → AllMayDo s ds → AllOut s ds → Sending n p w t m s → SentOut n p w t m (letters n (along (puts_by p) s ds)) (flat_map (takes_by p) ds) (after_deeds s ds)
run_sending n p w t m s [] may out sending = (tt, subst (λ k. Sending n p w k (m ++ []) s) (sym (append-nil t)) (subst (λ k. Sending n p w t k s) (sym (append-nil m)) sending))
run_sending n p w t m s (d ∷ ds) may out sending =
    let here = puts_by p s d in
    let later = along (puts_by p) (after_deed s d) ds in
    let fs : List (List ℕ) = flat_map (takes_by p) (d ∷ ds) in
    let now = sender_step n p w t m s out.0.0 sending d may.0 out.0.1 in
    let rest = run_sending n p (way_of w (letters n here)) _ _ (after_deed s d) ds may.1 out.1 now.1 in
    subst (λ ls. SentOut n p w t m ls fs (after_deeds s (d ∷ ds))) (sym (letters-append n here later (deed_closed p s d may.0 out.0.1))) (
      in_order-join w (letters n here) (letters n later) now.0 rest.0,
      subst (λ v. Sending n p v (t ++ fs) (m ++ contents (letters n here ++ letters n later)) (after_deeds s (d ∷ ds))) (sym (way_of-append w (letters n here) (letters n later)))
          (subst (λ k. Sending n p (way_of (way_of w (letters n here)) (letters n later)) k (m ++ contents (letters n here ++ letters n later)) (after_deeds s (d ∷ ds))) (append_assoc t (takes_by p d) (flat_map (takes_by p) ds))
          (subst (λ k. Sending n p (way_of (way_of w (letters n here)) (letters n later)) ((t ++ takes_by p d) ++ flat_map (takes_by p) ds) k (after_deeds s (d ∷ ds))) (append_assoc m (contents (letters n here)) (contents (letters n later)) ∙ ap (λ k. m ++ k) (sym (contents-append (letters n here) (letters n later)))) rest.1)),
    )
