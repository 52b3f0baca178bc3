-- The receiving end of a channel along a run: each deed keeps what is known of it.
use Rattle.std.specs.List.{AllByRecursion}
use Rattle.board_model.proofs.PartLetters.{each-put, each-frame}
use Rattle.board_model.proofs.PartReadings.{coming-holds}
use Rattle.board_model.specs.Parts.{Came, came_from, said_from, held_by, part_of}
use Rattle.std.proofs.Common.{◌≡◌, ℕ, Bool, true, false, cond, List, [], ◌∷◌, ◌++◌, map, Option, Some, None, refl, sym, ap, ◌∙◌, subst}
use Rattle.std.specs.Prelude.{is_none, ◌==◌}
use Rattle.std.proofs.lemmas.Bool.{eqb-true, eq-eqb}
use Rattle.mc_base.specs.Letter.{PlainLetter, msg, connect, accept, reject, recv_open, send_open, packet, scalar, send_close, recv_close, Carrier, of_message, of_packet, carried}
use Rattle.mc_base.specs.Reading.{Reading, is_faulty, announces, says, reading, brings}
use Rattle.mc_base.specs.declared.channel.Kind.{Kind}
use Rattle.board_model.specs.Answer.{Post, puts, puts_of}
use Rattle.board_model.proofs.MessageAlls.{all-append}
use Rattle.board_model.proofs.PostsSent.{MaySend, puts_all, frames_all}
use Rattle.mc_base.specs.Fault.{fault}
use Rattle.board_model.specs.Change.{Change, changed, changed_all}
use Rattle.board_model.specs.Deeds.{Deed, looks_back, puts_owed, looks_ahead, takes, calls, happens_by, MayDo, taken_change}
use Rattle.board_model.specs.State.{Announcement, Peer, DomainState, announcing, replying, owed_to, peer_at, endpoint_of}
use Rattle.board_model.specs.TakenFrames.{row_of}
use Rattle.board_model.proofs.ChannelWords.{Way, not_begun, goes_to, is_over, Sent, sent_by, contents, Follows, InOrder, way_of, taken_by, dropped_by, through, letters_of}
use Rattle.board_model.proofs.DeedRuns.{frames_if, puts_by, says_by}
use Rattle.board_model.proofs.Hearing.{Heard, heard, Lists, more, HeardAt, accepts, NoAccept, owed_replies, Hearing, unheard, refused, heard_at, nothing}
use Rattle.board_model.proofs.HearingRuns.{hearing_change, hearing_changes}
use Rattle.board_model.proofs.HearingCalls.{Own, call_fits}
use Rattle.board_model.proofs.HearingFrames.{RepliesRead, IsNoAccept, IsSmall, IsForeign, frame_fits}
use Rattle.board_model.proofs.HearingLetters.{IsQuiet, begins, gets_packet, gets_scalar, closes}
use Rattle.board_model.proofs.TakenRows.{row_same}
use Rattle.board_model.proofs.RawFrames.{raw_faulty}

-- the numbers of the connects that are read fit
abbrev pub IsSmallReading : Reading → Type 0
IsSmallReading (says src dst l) = IsSmall l
IsSmallReading other = Unit {0}

-- by a frame that a deed takes from this peer
abbrev pub IsSmallFrom : ℕ → Deed → Type 0
IsSmallFrom o (takes p name frame word) = p ≡ o → IsSmallReading (reading frame)
IsSmallFrom o other = Unit {0}

-- what is known after letters of the channel and what happened
abbrev pub Done : ℕ → ℕ → DomainState → Way → Lists → List Sent → List Change → Type 0
Done o n s w h ls cs = Hearing o n (way_of w ls) (more h (contents ls) (through (taken_by o n) s cs) (through (dropped_by o n) s cs)) (changed_all s cs)

module _ (read : RepliesRead) (o n : ℕ) (s : DomainState) (w : Way) (h : Lists) (hearing : Hearing o n w h s) (key : Came) where
  by_frame : (p : ℕ) (r : Reading) → IsForeign o n p r → Done o n s w h [] (row_of s p key r).happens
  by_frame p r foreign = hearing_changes o n w h s (row_of s p key r).happens (frame_fits read o n s p key r foreign) hearing

  module _ (src dst : ℕ) where
    -- a letter that names a channel: this one, or another
    abbrev sent_so : PlainLetter → Sent
    sent_so l = record { source = src; destination = dst; letter = l }

    abbrev does : PlainLetter → List Change
    does l = (row_of s o key (says src dst l)).happens

    by_number : (f : ℕ → PlainLetter) (m : ℕ) → (Follows w (sent_so (f n)) → Done o n s w h (sent_so (f n) ∷ []) (does (f n))) → ((m == n) ≡ false → Done o n s w h [] (does (f m))) → InOrder w (cond (m == n) (sent_so (f m) ∷ []) [] ++ []) →
        Done o n s w h (cond (m == n) (sent_so (f m) ∷ []) [] ++ []) (does (f m))
    by_number f m here away order = go (m == n) refl order
      where
        go : (b : Bool) → (m == n) ≡ b → InOrder w (cond b (sent_so (f m) ∷ []) [] ++ []) → Done o n s w h (cond b (sent_so (f m) ∷ []) [] ++ []) (does (f m))
        go true is ordered = let same : m ≡ n = eqb-true m n is in subst (λ k. Done o n s w h (sent_so (f k) ∷ []) (does (f k))) (sym same) (here (subst (λ k. Follows w (sent_so (f k))) same ordered.0))
        go false is ordered = away is

    -- each by how far the channel's letters have come
    begin : (kind : Kind) (v : Way) → v ≡ w → Follows v (sent_so (connect n kind)) → Done o n s w h (sent_so (connect n kind) ∷ []) (does (connect n kind))
    begin kind not_begun is follows = begins read o n s key src dst h kind (endpoint_of s dst) refl (subst (λ v. Hearing o n v h s) (sym is) hearing)
    begin kind (goes_to a k) is follows = absurd follows
    begin kind (is_over a) is follows = absurd follows

    get_packet : IsQuiet s → (content : List ℕ) (v : Way) → v ≡ w → Follows v (sent_so (packet n content)) → Done o n s v h (sent_so (packet n content) ∷ []) (does (packet n content))
    get_packet quiet content not_begun is follows = absurd follows
    get_packet quiet content (goes_to a k) is follows =
        subst (λ j. Done o n s (goes_to a j) h (sent_so (packet n content) ∷ []) (does (packet n content))) (sym follows.1)
        (gets_packet read o n s key src dst h content a (endpoint_of s dst) refl quiet follows.0 (subst (λ v. Hearing o n v h s) (sym is ∙ ap (goes_to a) follows.1) hearing))
    get_packet quiet content (is_over a) is follows = absurd follows

    get_scalar : IsQuiet s → (bits : _) (value : ℕ) (v : Way) → v ≡ w → Follows v (sent_so (scalar n bits value)) → Done o n s v h (sent_so (scalar n bits value) ∷ []) (does (scalar n bits value))
    get_scalar quiet bits value not_begun is follows = absurd follows
    get_scalar quiet bits value (goes_to a k) is follows =
        subst (λ j. Done o n s (goes_to a j) h (sent_so (scalar n bits value) ∷ []) (does (scalar n bits value))) (sym follows.1)
        (gets_scalar read o n s key src dst h bits value a (endpoint_of s dst) refl quiet follows.0 (subst (λ v. Hearing o n v h s) (sym is ∙ ap (goes_to a) follows.1) hearing))
    get_scalar quiet bits value (is_over a) is follows = absurd follows

    close : (v : Way) → v ≡ w → Follows v (sent_so (send_close n)) → Done o n s w h (sent_so (send_close n) ∷ []) (does (send_close n))
    close not_begun is follows = absurd follows
    close (goes_to a k) is follows = closes read o n s key src dst h a k (endpoint_of s dst) refl follows (subst (λ v. Hearing o n v h s) (sym is) hearing)
    close (is_over a) is follows = absurd follows

    other_letter : (l : PlainLetter) → IsForeign o n o (says src dst l) → Done o n s w h [] (does l)
    other_letter l foreign = by_frame o (says src dst l) foreign

    from_owner : (l : PlainLetter) → IsSmall l → IsQuiet s → InOrder w (sent_by n (says src dst l) ++ []) → Done o n s w h (sent_by n (says src dst l) ++ []) (does l)
    from_owner (msg priority bytes) small quiet order = other_letter (msg priority bytes) ((λ k. tt), (λ a b. absurd cc))
    from_owner (accept m) small quiet order = other_letter (accept m) ((λ k. tt), (λ a b. absurd cc))
    from_owner (reject m why) small quiet order = other_letter (reject m why) ((λ k. tt), (λ a b. absurd cc))
    from_owner (recv_open m) small quiet order = other_letter (recv_open m) ((λ k. tt), (λ a b. absurd cc))
    from_owner (recv_close m) small quiet order = other_letter (recv_close m) ((λ k. tt), (λ a b. absurd cc))
    from_owner (send_open m) small quiet order = by_number send_open m (λ follows. other_letter (send_open n) ((λ k. tt), (λ a b. absurd cc))) (λ off. other_letter (send_open m) ((λ k. tt), (λ a b. absurd cc))) order
    from_owner (connect m kind) small quiet order = by_number (λ k. connect k kind) m (begin kind w refl) (λ off. other_letter (connect m kind) ((λ k. small), (λ a b. let never = sym off ∙ a in absurd cc))) order
    from_owner (packet m content) small quiet order = by_number (λ k. packet k content) m (get_packet quiet content w refl) (λ off. other_letter (packet m content) ((λ k. tt), (λ a b. let never = sym off ∙ a in absurd cc))) order
    from_owner (scalar m bits value) small quiet order = by_number (λ k. scalar k bits value) m (get_scalar quiet bits value w refl) (λ off. other_letter (scalar m bits value) ((λ k. tt), (λ a b. let never = sym off ∙ a in absurd cc))) order
    from_owner (send_close m) small quiet order = by_number send_close m (close w refl) (λ off. other_letter (send_close m) ((λ k. tt), (λ a b. let never = sym off ∙ a in absurd cc))) order

  owner_frame : (r : Reading) → IsSmallReading r → IsQuiet s → InOrder w (sent_by n r ++ []) → Done o n s w h (sent_by n r ++ []) (row_of s o key r).happens
  owner_frame (is_faulty f) small quiet order = by_frame o (is_faulty f) tt
  owner_frame (brings src dst q) small quiet order = by_frame o (brings src dst q) tt
  owner_frame (announces text address there) small quiet order = by_frame o (announces text address there) tt
  owner_frame (says src dst l) small quiet order = from_owner src dst l small quiet order

  any_frame : (p : ℕ) (r : Reading) → (p ≡ o → IsSmallReading r) → IsQuiet s → InOrder w (letters_of n (cond (p == o) (r ∷ []) [])) → Done o n s w h (letters_of n (cond (p == o) (r ∷ []) [])) (row_of s p key r).happens
  any_frame p r small quiet order = go (p == o) refl order
    where
      foreign : (x : Reading) → (p ≡ o → IsSmallReading x) → (p == o) ≡ false → IsForeign o n p x
      foreign (says src dst l) fits is = (fits, (λ a b. let it : (p == o) ≡ true = eq-eqb p o b in let never = sym is ∙ it in absurd cc))
      foreign (is_faulty f) fits is = tt
      foreign (brings src dst q) fits is = tt
      foreign (announces text address there) fits is = tt

      go : (b : Bool) → (p == o) ≡ b → InOrder w (letters_of n (cond b (r ∷ []) [])) → Done o n s w h (letters_of n (cond b (r ∷ []) [])) (row_of s p key r).happens
      go true is ordered = let owner : p ≡ o = eqb-true p o is in subst (λ q. Done o n s w h (sent_by n r ++ []) (row_of s q key r).happens) (sym owner) (owner_frame r (small owner) quiet ordered)
      go false is ordered = by_frame p r (foreign r small is)

small_carried : (s d : ℕ) (k : Carrier) (bytes : List ℕ) → IsSmallReading (says s d (carried k bytes))
small_carried s d (of_message priority) bytes = tt
small_carried s d (of_packet n) bytes = tt

-- any deed
pub deed_step : (read : RepliesRead) (o n : ℕ) (s : DomainState) (w : Way) (h : Lists) (d : Deed) → Own s → IsQuiet s → IsSmallFrom o d → InOrder w (letters_of n (says_by o s d)) → Hearing o n w h s → Done o n s w h (letters_of n (says_by o s d)) (happens_by s d)
deed_step read o n s w h (looks_back p count) own quiet small order hearing = hearing_changes o n w h s (happens_by s (looks_back p count)) (tt, tt) hearing
deed_step read o n s w h (puts_owed p frame) own quiet small order hearing = hearing_changes o n w h s (happens_by s (puts_owed p frame)) (tt, tt) hearing
deed_step read o n s w h (looks_ahead p count) own quiet small order hearing = hearing_changes o n w h s (happens_by s (looks_ahead p count)) (tt, tt) hearing
deed_step read o n s w h (calls node call a) own quiet small order hearing = hearing_changes o n w h s (happens_by s (calls node call a)) (call_fits o n s own node call) hearing
deed_step read o n s w h (takes p name frame word) own quiet small order hearing =
    let c : Came = came_from s p name frame in
    let r : Reading = said_from s p frame in
    let now = changed s (taken_change p c) in
    let still : Hearing o n w h now = subst (λ k. Hearing o n w k now) (nothing h) (hearing_change o n w h s (taken_change p c) tt hearing) in
    let fits : p ≡ o → IsSmallReading r = λ e. coming-holds IsSmallReading small_carried (λ a d q. tt) (part_of s p) (reading frame) (small e) in
    subst (λ x. Done o n now w h (letters_of n (says_by o s (takes p name frame word))) x.happens) (row_same s p c.part (held_by c) p c r) (any_frame read o n now w h still c p r fits quiet order)

-- ---- what is put to the owner

abbrev pub told_more : Lists → List (List ℕ) → Lists
told_more h fs = record { came = h.came; taken = h.taken; lost = h.lost; told = h.told ++ fs; words = h.words }

module _ (read : RepliesRead) (o n : ℕ) (s : DomainState) where
  abbrev IsSilent : List ℕ → Type 0
  IsSilent f = accepts n (reading f) ≡ false

  sent_silent : (p : Post) → MaySend s p.letter → AllByRecursion (λ (q : ℕ × List ℕ). IsSilent q.1) (puts_of p)
  sent_silent p may = each-put IsSilent p (each-frame (λ r. accepts n r ≡ false) p.source p.destination p.letter (read.sent_other n p.source p.destination p.letter (go p.letter may)) (λ w. refl) (λ a d q. refl))
    where
      go : (l : PlainLetter) → MaySend s l → IsNoAccept l
      go (accept m) sends = absurd sends
      go other sends = tt

  -- the first owed frame
  owed_silent : (p : Peer) (frame : List ℕ) (rest : List (List ℕ)) → owed_to s.number p ≡ frame ∷ rest → NoAccept n (map replying p.replies) → accepts n (reading frame) ≡ false
  owed_silent p frame rest is silent = go p.announcements is
    where
      first : (fs : List (List ℕ)) → fs ≡ frame ∷ rest → NoAccept n fs → accepts n (reading frame) ≡ false
      first [] e none = absurd cc
      first (f ∷ fs) e none = let same : f ≡ frame = cc in subst (λ k. accepts n (reading k) ≡ false) same none.0

      go : (news : List Announcement) → map (announcing s.number) news ++ map replying p.replies ≡ frame ∷ rest → accepts n (reading frame) ≡ false
      go [] e = first (map replying p.replies) e silent
      go (a ∷ news) e = let same : announcing s.number a ≡ frame = cc in subst (λ k. accepts n (reading k) ≡ false) same (read.announced_other n s.number a)

  raw_silent : (to : ℕ) (bytes : List ℕ) → is_none (fault bytes) ≡ false → IsSilent bytes
  raw_silent to bytes unsound = ap (accepts n) (raw_faulty bytes unsound).1

  puts_silent : (d : Deed) → MayDo s d → NoAccept n (owed_replies (peer_at s o)) → NoAccept n (puts_by o s d)
  puts_silent (looks_back p count) may silent = tt
  puts_silent (looks_ahead p count) may silent = tt
  puts_silent (takes p name frame word) may silent = tt
  puts_silent (calls node call a) may silent = frames_all IsSilent o (puts s node call) (puts_all (λ q. IsSilent q.1) s node sent_silent raw_silent call)
  puts_silent (puts_owed p frame) may silent = go (p == o) refl
    where
      go : (b : Bool) → (p == o) ≡ b → NoAccept n (frames_if b (frame ∷ []))
      go false is = tt
      go true is =
          let peer : peer_at s o ≡ Some may.0 = ap (peer_at s) (sym (eqb-true p o is)) ∙ may.2 in
          (owed_silent may.0 frame may.1 may.3 (subst (λ x. NoAccept n (owed_replies x)) peer silent), tt)

  -- the frames that a deed puts are told before it is done
  pub tell_first : (w : Way) (h : Lists) (d : Deed) → MayDo s d → Hearing o n w h s → Hearing o n w (told_more h (puts_by o s d)) s
  tell_first w h d may (unheard none silent way came taken lost words) = unheard none (all-append IsSilent h.told _ silent.0 (puts_silent d may silent.1), silent.1) way came taken lost words
  tell_first w h d may (refused none silent begun taken lost) = refused none (all-append IsSilent h.told _ silent.0 (puts_silent d may silent.1), silent.1) begun taken lost
  tell_first w h d may (heard_at a others arrived at) = heard_at a others arrived (go (heard o n (endpoint_of s a)) at)
    where
      go : (y : Option Heard) → HeardAt a w h y → HeardAt a w (told_more h (puts_by o s d)) y
      go None past = record { way = past.way; kept = past.kept }
      go (Some y) live = record { way = live.way; kept = live.kept; none_lost = λ e. live.none_lost e; none_queued = λ e. live.none_queued e }
