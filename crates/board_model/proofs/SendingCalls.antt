-- What calls do to the sender's end of a channel, and the letters that they put on its lane.
use Rattle.board_model.proofs.PartPuts.{one_post}
use Rattle.board_model.proofs.PartLetters.{FramesSaid, letter_frames, said-once}
use Rattle.board_model.specs.Parts.{Came}
use Rattle.mc_base.specs.Pieces.{frames_needed}
use Rattle.std.proofs.Common.{◌≡◌, ℕ, ◌+◌, ◌≤◌, Bool, true, false, not, cond, inl, inr, List, [], ◌∷◌, ◌++◌, Option, Some, None, option_map, unwrap_or, refl, sym, ap, ◌∙◌, subst, arith}
use Rattle.std.specs.Prelude.{◌==◌, ◌&&◌, is_some}
use Rattle.std.specs.List.{AllByRecursion, flat_map}
use Rattle.std.proofs.lemmas.Bool.{eqb-true, eqb-false, eq-eqb, cases_Bool, cond_both}
use Rattle.std.proofs.lemmas.List.{append-nil}
use Rattle.mc_base.specs.Letter.{PlainLetter, connect, recv_open, send_open, packet, scalar, send_close, recv_close, msg}
use Rattle.mc_base.specs.Reading.{says}
use Rattle.mc_base.specs.declared.channel.Kind.{Kind}
use Rattle.mc_base.specs.declared.channel.Kind.TheVariants.{Packet, Scalar}
use Rattle.mc_base.specs.declared.channel.Side.{Side}
use Rattle.mc_base.specs.declared.channel.Side.TheVariants.{Sender, Receiver}
use Rattle.mc_base.specs.declared.name.Local.{Local}
use Rattle.mc_base.specs.declared.name.EndName.{EndName}
use Rattle.mc_base.specs.declared.refusal.Refusal.{Refusal}
use Rattle.mc_base.specs.declared.refusal.Refusal.TheVariants.{NotConnected, ChanDirection, ChanType, ChanClosed}
use Rattle.board_model.proofs.DeedRuns.{frames_to, puts_by}
use Rattle.board_model.proofs.Views.{seen}
use Rattle.board_model.proofs.HearingCalls.{Own, no_end, or_parts, not_false, of_end}
use Rattle.board_model.proofs.HearingChanges.{same_at, at_it}
use Rattle.board_model.proofs.MessageLists.{get-position}
use Rattle.board_model.proofs.Sending.{sent_of, sent, Accepted, Outgoing, SentAt, NoneSends, Sending, fresh, numbered, Alters, same, FitAllOut, sending_changes}
use Rattle.board_model.proofs.SendingFrames.{turned_to, gone_from}
use Rattle.board_model.proofs.ChannelWords.{is_sender, Way, not_begun, goes_to, is_over, Sent, sent_by, letter_on, letters, contents, Follows, way_after, InOrder, way_of}
use Rattle.board_model.specs.Answer.{first_complete, Post, post, puts_of, local, channel_at, has_channel, over_channel, success_posts, success_puts, holds, words_of, refusal, unless_refused, address_of}
use Rattle.board_model.specs.CallChanges.{at_channel, at_live, at_end, closing, lent_by, lent_by_test, lending, success_changes, call_changes, new_sender}
use Rattle.board_model.specs.Change.{Change, channel_set, buffers_used, request_added, channel_given, with_channel, changed, changed_all}
use Rattle.board_model.specs.ChannelEnds.{EndCall, opens, sends, closes, is_closed, is_connecting, same_kind, same_side, opened_end, closed_end}
use Rattle.board_model.specs.Choice.{oldest}
use Rattle.board_model.specs.Deeds.{calls}
use Rattle.board_model.specs.DomainCall.{DomainCall, create_at, delete_at, lookup_of, send_from, receive_at, request_at, available_at, connect_from, open_at, packet_from, lend_at, packet_request_at, release_of, scalar_from, scalar_at, close_at, test_of, wait_for, cancel_of, raw_to, turn_alone}
use Rattle.board_model.specs.Journal.{PlainAnswer}
use Rattle.board_model.specs.State.{Item, ChannelEnd, Endpoint, Asked, channel_of, packet_at, Outcome, has_item, Request, DomainState, closed, is_at, endpoint_at, address_at, live_at, endpoint_of, channel_in, request_at_place}
use Rattle.board_model.proofs.OrderLookups.{none_holds}
use Rattle.board_model.proofs.StateEnds.{there_is}
use Rattle.board_model.proofs.RawFrames.{letters_put}

-- the frame says the letter
abbrev no_frame : Came
no_frame = record { names = []; part = None }

abbrev pub Reads : Post → Type 0
Reads x = FramesSaid x.source x.destination x.letter (letter_frames x.source x.destination x.letter)

kind_is : (k j : Kind) → not (same_kind k j) ≡ false → k ≡ j
kind_is Packet Packet e = refl
kind_is Scalar Scalar e = refl
kind_is Packet Scalar e = absurd cc
kind_is Scalar Packet e = absurd cc

no_sender : (side : Side) → same_side side Receiver ≡ true → is_sender side ≡ false
no_sender Sender it = absurd cc
no_sender Receiver it = refl

module _ (n p : ℕ) (w : Way) (t m : List (List ℕ)) (s : DomainState) (own : Own s) (sending : Sending n p w t m s) where
  -- what is known after letters were put and changes made
  abbrev pub Done : List Sent → List Change → Type 0
  Done ls cs = InOrder w ls × Sending n p (way_of w ls) t (m ++ contents ls) (changed_all s cs)

  by_none : (cs : List Change) → FitAllOut n p t s cs → Done [] cs
  by_none cs fits = (tt, subst (λ k. Sending n p w t k (changed_all s cs)) (sym (append-nil m)) (sending_changes n p w t m s cs fits sending))

  -- the letters of what is put
  abbrev on_lane : List Post → List Sent
  on_lane xs = letters n (frames_to p (flat_map puts_of xs))

  one_letter : (x : Post) → Reads x → on_lane (x ∷ []) ≡ cond (x.peer == p) (sent_by n (says x.source x.destination x.letter)) []
  one_letter x read = ap (letters n) (one_post p x) ∙ go (x.peer == p)
    where
      go : (b : Bool) → letters n (cond b (letter_frames x.source x.destination x.letter) []) ≡ cond b (sent_by n (says x.source x.destination x.letter)) []
      go true = said-once (sent_by n) (λ a d q. refl) x.source x.destination x.letter (letter_frames x.source x.destination x.letter) read
      go false = refl

  -- what is put says nothing of the channel
  says_nothing : (x : Post) (cs : List Change) → Reads x → ((x.peer == p) ≡ true → letter_on n x.letter ≡ false) → FitAllOut n p t s cs → Done (on_lane (x ∷ [])) cs
  says_nothing x cs read other fits = subst (λ ls. Done ls cs) (sym (one_letter x read ∙ cond_both (x.peer == p) (sent_by n (says x.source x.destination x.letter)) [] (λ ls. ls ≡ []) (λ e. none (letter_on n x.letter) (other e)) (λ e. refl))) (by_none cs fits)
    where
      none : (b : Bool) → b ≡ false → cond {A = List Sent} b (record { source = x.source; destination = x.destination; letter = x.letter } ∷ []) [] ≡ []
      none true e = absurd cc
      none false e = refl

  -- it says one letter of it
  says_one : (x : Post) (cs : List Change) → Reads x → (x.peer == p) ≡ true → letter_on n x.letter ≡ true → Done (record { source = x.source; destination = x.destination; letter = x.letter } ∷ []) cs → Done (on_lane (x ∷ [])) cs
  says_one x cs read here on done = subst (λ ls. Done ls cs) (sym (one_letter x read ∙ (ap (λ b. cond b (sent_by n (says x.source x.destination x.letter)) []) here ∙ ap (λ b. cond b (record { source = x.source; destination = x.destination; letter = x.letter } ∷ []) []) on))) done

  -- the channel's end, where an endpoint has it
  record Here (a : ℕ) (c : ChannelEnd) : Type 0 where
    outgoing : Outgoing n p w t m c
    given : n ≤ s.channels_given
    others : (b : ℕ) → (a == b) ≡ false → sent n (endpoint_of s b) ≡ None

  here_at : (a : ℕ) (c : ChannelEnd) → sent n (endpoint_of s a) ≡ Some c → Here a c
  here_at a c is = go sending
    where
      go : Sending n p w t m s → Here a c
      go (fresh none below way empty) = let never = sym is ∙ none a in absurd cc
      go (numbered given b others at) = elim (cases_Bool (b == a)) [
        | inl it ↦ let place : b ≡ a = eqb-true b a it in
            record { outgoing = subst (SentAt n p w t m) (ap (λ k. sent n (endpoint_of s k)) place ∙ is) at; given = given; others = subst (λ k. (d : ℕ) → (k == d) ≡ false → sent n (endpoint_of s d) ≡ None) place others }
        | inr other ↦ let never = sym is ∙ others a other in absurd cc
      ]

  sender_of : (e : Endpoint) (c : ChannelEnd) → endpoint_of s e.address ≡ Some e → e.channel ≡ Some c → is_sender c.side ≡ true → (c.number == n) ≡ true → sent n (endpoint_of s e.address) ≡ Some c
  sender_of e c found is side number = ap (sent n) found ∙ (ap (sent_of n) is ∙ rw (side, number) refl)

  -- the way of an end that is live and on this lane
  way_here : (c : ChannelEnd) → Outgoing n p w t m c → (c.peer == p) ≡ true → is_closed c.stage ≡ false → w ≡ goes_to c.peer_address c.kind
  way_here c out peer live = out.way ∙ (ap (λ b. cond b (cond (is_closed c.stage) (is_over c.peer_address) (goes_to c.peer_address c.kind)) not_begun) peer ∙ ap (λ b. cond b (is_over c.peer_address) (goes_to c.peer_address c.kind)) live)

  -- more was put, after the accept came
  put_more : (xs : List (List ℕ)) (cs : List Change) → Accepted n t → Sending n p w t m (changed_all s cs) → n ≤ (changed_all s cs).channels_given → Sending n p w t (m ++ xs) (changed_all s cs)
  put_more xs cs accepted (fresh none below way empty) least = absurd (omega arith)
  put_more xs cs accepted (numbered given a others at) least = numbered given a others (go (sent n (endpoint_of (changed_all s cs) a)) at)
    where
      go : (y : Option ChannelEnd) → SentAt n p w t m y → SentAt n p w t (m ++ xs) y
      go None may = inr accepted
      go (Some c) out = record { may = inr accepted; told = out.told; way = out.way }

  -- ---- calls on an end

  module _ (e : Endpoint) (c : ChannelEnd) (found : endpoint_of s e.address ≡ Some e) (is : e.channel ≡ Some c) where
    abbrev post_of : (ℕ → PlainLetter) → Post
    post_of l = post c.peer e.address c.peer_address (l c.number)

    abbrev said : (ℕ → PlainLetter) → Sent
    said l = record { source = e.address; destination = c.peer_address; letter = l c.number }

    -- whether the letter is one of the channel on this lane
    ours : (l : ℕ → PlainLetter) (cs : List Change) → Reads (post_of l) → ((k : ℕ) → letter_on n (l k) ≡ (k == n)) → is_sender c.side ≡ true → ((c.number == n) ≡ true → (c.peer == p) ≡ true → Done (said l ∷ []) cs) → (((c.number == n) ≡ true → (c.peer == p) ≡ true → ⊥) → FitAllOut n p t s cs) →
        Done (on_lane (post_of l ∷ [])) cs
    ours l cs read on side mine fits = elim (cases_Bool (c.number == n)) [
      | inl number ↦ elim (cases_Bool (c.peer == p)) [
        | inl peer ↦ says_one (post_of l) cs read peer (on c.number ∙ number) (mine number peer)
        | inr other ↦ says_nothing (post_of l) cs read (λ e. let never = sym e ∙ other in absurd cc) (fits (λ a b. let never = sym b ∙ other in absurd cc))
      ]
      | inr other ↦ says_nothing (post_of l) cs read (λ e. on c.number ∙ other) (fits (λ a b. let never = sym a ∙ other in absurd cc))
    ]

    abbrev open_changes : List Change
    open_changes = buffers_used c.peer 1 ∷ channel_set e.address (Some (opened_end c)) ∷ []

    opens_fit : is_connecting c.stage ≡ false → is_closed c.stage ≡ false → FitAllOut n p t s open_changes
    opens_fit free live = (tt, (rw (found, is) (turned_to n p t s 0 no_frame 0 0 c (opened_end c) refl refl refl refl refl (λ a b. sym live) (λ a b k. inl free)), tt))

    opens_done : Reads (post_of send_open) → is_sender c.side ≡ true → is_connecting c.stage ≡ false → is_closed c.stage ≡ false → Done (on_lane (post_of send_open ∷ [])) open_changes
    opens_done read side free live = ours send_open open_changes read (λ k. refl) side
        (λ number peer.
        let out = (here_at e.address c (sender_of e c found is side number)).outgoing in
        let way = way_here c out peer live in
        ((subst (λ v. Follows v (said send_open)) (sym way) refl, tt), (by_none open_changes (opens_fit free live)).1))
        (λ k. opens_fit free live)

    -- an item of the channel's kind
    carries_done : (count : ℕ) (l : ℕ → PlainLetter) → Reads (post_of l) → ((k : ℕ) → letter_on n (l k) ≡ (k == n)) → is_sender c.side ≡ true → is_connecting c.stage ≡ false → is_closed c.stage ≡ false → Follows (goes_to c.peer_address c.kind) (said l) → ((v : Way) → way_after v (said l) ≡ v) →
        Done (on_lane (post_of l ∷ [])) (buffers_used c.peer count ∷ [])
    carries_done count l read on side free live follows still = ours l (buffers_used c.peer count ∷ []) read on side
        (λ number peer.
        let here = here_at e.address c (sender_of e c found is side number) in
        let way = way_here c here.outgoing peer live in (
          (subst (λ v. Follows v (said l)) (sym way) follows, tt),
          subst (λ v. Sending n p v t (m ++ contents (said l ∷ [])) (changed_all s (buffers_used c.peer count ∷ []))) (sym (still w))
              (put_more (contents (said l ∷ [])) (buffers_used c.peer count ∷ []) (here.outgoing.told peer free) (sending_changes n p w t m s (buffers_used c.peer count ∷ []) (tt, tt) sending) (omega (arith, here.given))),
        ))
        (λ k. (tt, tt))

    abbrev shut_changes : List Change
    shut_changes = buffers_used c.peer 1 ∷ channel_set e.address (closed_end c) ∷ []

    -- an end that closes and is not on this lane
    shuts_elsewhere : is_sender c.side ≡ true → is_connecting c.stage ≡ false → ((c.number == n) ≡ true → (c.peer == p) ≡ true → ⊥) → FitAllOut n p t s shut_changes
    shuts_elsewhere side free away = (
      tt,
      (
        rw (found, is) (cond_both c.far_closed None (Some (record c { stage = closed })) (λ x. Alters n p t (sent_of n (Some c)) (sent_of n x))
            (λ e. gone_from n p t s 0 no_frame 0 0 c)
            (λ e. turned_to n p t s 0 no_frame 0 0 c (record c { stage = closed }) refl refl refl refl refl (λ a b. absurd (away a b)) (λ a b k. inl free))),
        tt,
      ),
    )

    -- one that is
    shut_at : SentAt n p (is_over c.peer_address) t m (sent_of n (closed_end c)) → n ≤ s.channels_given → ((b : ℕ) → (e.address == b) ≡ false → sent n (endpoint_of s b) ≡ None) → Sending n p (is_over c.peer_address) t m (changed_all s shut_changes)
    shut_at at given others =
        let used = changed s (buffers_used c.peer 1) in
        numbered (omega (arith, given)) e.address
        (λ b other. ap (sent n) (seen used (channel_set e.address (closed_end c)) b ∙ same_at e.address b _ _ other) ∙ others b other)
        (rw (seen used (channel_set e.address (closed_end c)) e.address, at_it e.address (with_channel (closed_end c)) (endpoint_of used e.address), found) at)

    over_now : Outgoing n p w t m c → is_sender c.side ≡ true → (c.number == n) ≡ true → (c.peer == p) ≡ true → is_connecting c.stage ≡ false → SentAt n p (is_over c.peer_address) t m (sent_of n (closed_end c))
    over_now out side number peer free = cond_both c.far_closed None (Some (record c { stage = closed })) (λ x. SentAt n p (is_over c.peer_address) t m (sent_of n x))
        (λ e. out.may)
        (λ e. rw (side, number) (record { may = out.may; told = λ here k. out.told here free; way = rw peer refl }))

    closes_done : Reads (post_of send_close) → is_sender c.side ≡ true → is_connecting c.stage ≡ false → is_closed c.stage ≡ false → Done (on_lane (post_of send_close ∷ [])) shut_changes
    closes_done read side free live = ours send_close shut_changes read (λ k. refl) side
        (λ number peer.
        let here = here_at e.address c (sender_of e c found is side number) in
        let way = way_here c here.outgoing peer live in (
          (subst (λ v. Follows v (said send_close)) (sym way) refl, tt),
          subst (λ k. Sending n p (is_over c.peer_address) t k (changed_all s shut_changes)) (sym (append-nil m)) (shut_at (over_now here.outgoing side number peer free) here.given here.others),
        ))
        (λ away. shuts_elsewhere side free away)

  -- ---- a new channel

  module _ (e : Endpoint) (to : EndName) (kind : Kind) (source : ℕ) (found : endpoint_of s e.address ≡ Some e) (none : is_some e.channel ≡ false) where
    abbrev asking : Post
    asking = post to.domain source (unwrap_or (address_of s to) 0) (connect (s.channels_given + 1) kind)

    abbrev connecting_changes : List Change
    connecting_changes = buffers_used to.domain 1 ∷ channel_set e.address (Some (new_sender s to kind)) ∷ request_added (channel_of (s.channels_given + 1)) None ∷ channel_given ∷ []

    unsent : sent n (endpoint_of s e.address) ≡ None
    unsent = ap (sent n) found ∙ ap (sent_of n) (no_end e.channel none)

    new_sent : (b : Bool) → (s.channels_given + 1 == n) ≡ b → sent n (option_map (with_channel (Some (new_sender s to kind))) (endpoint_of s e.address)) ≡ cond b (Some (new_sender s to kind)) None
    new_sent b is = ap (λ x. sent n (option_map (with_channel (Some (new_sender s to kind))) x)) found ∙ ap (λ k. cond k (Some (new_sender s to kind)) None) is

    other_new : (s.channels_given + 1 == n) ≡ false → FitAllOut n p t s connecting_changes
    other_new other = (tt, (rw (unsent, new_sent false other) (same None), (tt, ((λ k. absurd (eqb-false (s.channels_given + 1) n other (omega arith))), tt))))

    new_at : (v : Way) → NoneSends n s → s.channels_given + 1 ≡ n → m ≡ [] → v ≡ cond (to.domain == p) (goes_to (unwrap_or (address_of s to) 0) kind) not_begun → Sending n p v t m (changed_all s connecting_changes)
    new_at v clear number empty way =
        let used = changed s (buffers_used to.domain 1) in
        numbered (omega (arith, number)) e.address
        (λ b other. ap (sent n) (seen used (channel_set e.address (Some (new_sender s to kind))) b ∙ same_at e.address b _ _ other) ∙ clear b)
        (rw (seen used (channel_set e.address (Some (new_sender s to kind))) e.address, at_it e.address (with_channel (Some (new_sender s to kind))) (endpoint_of used e.address), new_sent true (eq-eqb (s.channels_given + 1) n number))
        (record { may = inl empty; told = λ here k. absurd cc; way = way }))

    asks : Reads asking → Done (on_lane (asking ∷ [])) connecting_changes
    asks read = elim (cases_Bool (s.channels_given + 1 == n)) [
      | inr other ↦ says_nothing asking connecting_changes read (λ k. other) (other_new other)
      | inl is ↦ now sending (eqb-true (s.channels_given + 1) n is) is
    ]
      where
        now : Sending n p w t m s → s.channels_given + 1 ≡ n → (s.channels_given + 1 == n) ≡ true → Done (on_lane (asking ∷ [])) connecting_changes
        now (numbered given a others at) number is = absurd (omega arith)
        now (fresh clear below way empty) number is = elim (cases_Bool (to.domain == p)) [
          | inl peer ↦ says_one asking connecting_changes read peer is (
            (subst (λ v. Follows v (record { source = source; destination = unwrap_or (address_of s to) 0; letter = connect (s.channels_given + 1) kind })) (sym way) tt, tt),
            subst (λ k. Sending n p (goes_to (unwrap_or (address_of s to) 0) kind) t k (changed_all s connecting_changes)) (sym (append-nil m))
                (new_at (goes_to (unwrap_or (address_of s to) 0) kind) clear number empty (sym (ap (λ b. cond b (goes_to (unwrap_or (address_of s to) 0) kind) not_begun) peer))),
          )
          | inr other ↦ subst (λ ls. Done ls connecting_changes) (sym (one_letter asking read ∙ ap (λ b. cond b (sent_by n (says asking.source asking.destination asking.letter)) []) other)) (
            tt,
            subst (λ k. Sending n p w t k (changed_all s connecting_changes)) (sym (append-nil m))
                (new_at w clear number empty (way ∙ sym (ap (λ b. cond b (goes_to (unwrap_or (address_of s to) 0) kind) not_begun) other))),
          )
        ]

  -- ---- each call

  -- a receiver's end
  receiver_deaf : (c : ChannelEnd) → is_sender c.side ≡ false → sent_of n (Some c) ≡ None
  receiver_deaf c it = ap (λ b. cond {A = Option ChannelEnd} (b && c.number == n) (Some c) None) it

  abbrev Posted : List Post → List Change → Type 0
  Posted posts cs = AllByRecursion Reads posts → Done (on_lane posts) cs

  nobody_posts : (cs : List Change) → FitAllOut n p t s cs → Posted [] cs
  nobody_posts cs fits read = by_none cs fits

  live_posts : (x : Option Endpoint) (f : Endpoint → List Change) → ((e : Endpoint) → x ≡ Some e → FitAllOut n p t s (f e)) → FitAllOut n p t s (at_live x f)
  live_posts None f fits = tt
  live_posts (Some e) f fits = fits e refl

  -- at a live end
  end_posts : (at : Local) (l : ℕ → PlainLetter) (f : Endpoint → ChannelEnd → List Change) →
      ((e : Endpoint) (c : ChannelEnd) → live_at s at ≡ Some e → e.channel ≡ Some c → Reads (post c.peer e.address c.peer_address (l c.number)) → Done (on_lane (post c.peer e.address c.peer_address (l c.number) ∷ [])) (f e c)) →
      Posted (over_channel (live_at s at) (channel_at s at) l) (at_end (live_at s at) f)
  end_posts at l f done = live (live_at s at) refl
    where
      ended : (e : Endpoint) → live_at s at ≡ Some e → (y : Option ChannelEnd) → e.channel ≡ y → Posted (over_channel (Some e) y l) (at_channel y (f e))
      ended e found None is read = by_none [] tt
      ended e found (Some c) is read = done e c found is read.0

      live : (x : Option Endpoint) → live_at s at ≡ x → Posted (over_channel x (channel_in x) l) (at_end x f)
      live None found = λ read. by_none [] tt
      live (Some e) found = ended e found e.channel refl

  lent_out : (u : DomainState) (asked : Asked) (x : Option Outcome) → FitAllOut n p t u (lent_by asked x)
  lent_out u (packet_at at) (Some (has_item i)) = (tt, tt)
  lent_out u asked x = tt

  lends_out : (u : DomainState) (x : Option Request) → FitAllOut n p t u (lent_by_test x)
  lends_out u None = tt
  lends_out u (Some r) = lent_out u r.asked r.outcome

  lending_out : (u : DomainState) (x : Option Item) → FitAllOut n p t u (lending x)
  lending_out u None = tt
  lending_out u (Some i) = (tt, tt)

  unconnected_at : (at : Local) (e : Endpoint) → live_at s at ≡ Some e → has_channel (endpoint_at s at) ≡ false → is_some e.channel ≡ false
  unconnected_at at e is none = sym (ap has_channel (get-position (is_at at) s.endpoints ∙ is)) ∙ none

  unsent_at : (at : Local) (e : Endpoint) → live_at s at ≡ Some e → has_channel (endpoint_at s at) ≡ false → sent n (endpoint_of s e.address) ≡ None
  unsent_at at e is none = ap (sent n) (own at e is) ∙ ap (sent_of n) (no_end e.channel (unconnected_at at e is none))

  success_posted : (node : ℕ) (call : DomainCall) → AllByRecursion (λ v. holds s node call v ≡ false) (words_of call) → Posted (success_posts s node call) (success_changes s node call)
  success_posted node (create_at port) no_word = nobody_posts (success_changes s node (create_at port)) (tt, (tt, (tt, tt)))
  success_posted node (delete_at port) no_word = nobody_posts (success_changes s node (delete_at port)) (live_posts (live_at s (local node port)) _ (λ e is. (tt, (unsent_at (local node port) e is no_word.1.0, (tt, tt)))))
  success_posted node (lookup_of name) no_word = nobody_posts (success_changes s node (lookup_of name)) (tt, tt)
  success_posted node (send_from port to priority bytes) no_word = λ read. says_nothing _ (buffers_used to.domain (frames_needed (msg priority bytes)) ∷ []) read.0 (λ k. refl) (tt, tt)
  success_posted node (receive_at port max) no_word = nobody_posts (success_changes s node (receive_at port max)) (live_posts (live_at s (local node port)) _ (λ e is. (tt, tt)))
  success_posted node (request_at port max) no_word = nobody_posts (success_changes s node (request_at port max)) (live_posts (live_at s (local node port)) _ (λ e is. (tt, (tt, tt))))
  success_posted node (available_at port) no_word = nobody_posts [] tt
  success_posted node (connect_from port to kind) no_word =
      let e = there_is s (local node port) no_word.0 in
      subst (λ x. Posted (success_posts s node (connect_from port to kind)) (at_live x (λ f. buffers_used to.domain 1 ∷ channel_set f.address (Some (new_sender s to kind)) ∷ request_added (channel_of (s.channels_given + 1)) None ∷ channel_given ∷ []))) (sym e.1)
      (λ read. asks e.0 to kind (unwrap_or (address_at s (local node port)) 0) (own (local node port) e.0 e.1) (unconnected_at (local node port) e.0 e.1 no_word.1.0) read.0)
  success_posted node (open_at port Sender kind) no_word = end_posts (local node port) send_open _ (λ e c is has read.
      let call : EndCall = opens Sender kind in
      opens_done e c (own (local node port) e is) has read (not_false (is_sender c.side) (of_end s (local node port) call ChanDirection e c is has no_word.1.1.0)) (of_end s (local node port) call NotConnected e c is has no_word.1.0)
      (or_parts (is_closed c.stage) c.far_closed (of_end s (local node port) call ChanClosed e c is has no_word.1.1.1.1.0)).0)
  success_posted node (open_at port Receiver kind) no_word = end_posts (local node port) recv_open _ (λ e c is has read.
      let call : EndCall = opens Receiver kind in
      says_nothing _ (buffers_used c.peer 1 ∷ channel_set e.address (Some (opened_end c)) ∷ []) read (λ k. refl)
      (opens_fit e c (own (local node port) e is) has (of_end s (local node port) call NotConnected e c is has no_word.1.0) (of_end s (local node port) call ChanClosed e c is has no_word.1.1.1.1.0)))
  success_posted node (packet_from port bytes) no_word = end_posts (local node port) (λ k. packet k bytes) _ (λ e c is has read.
      let call : EndCall = sends Packet in
      carries_done e c (own (local node port) e is) has (frames_needed (packet c.number bytes)) (λ k. packet k bytes) read (λ k. refl) (not_false (is_sender c.side) (of_end s (local node port) call ChanDirection e c is has no_word.1.1.0)) (of_end s (local node port) call NotConnected e c is has no_word.1.0)
      (or_parts (is_closed c.stage) c.far_closed (of_end s (local node port) call ChanClosed e c is has no_word.1.1.1.1.0)).0
      (refl, kind_is c.kind Packet (of_end s (local node port) call ChanType e c is has no_word.1.1.1.0)) (λ v. refl))
  success_posted node (scalar_from port bits value) no_word = end_posts (local node port) (λ k. scalar k bits value) _ (λ e c is has read.
      let call : EndCall = sends Scalar in
      carries_done e c (own (local node port) e is) has 1 (λ k. scalar k bits value) read (λ k. refl) (not_false (is_sender c.side) (of_end s (local node port) call ChanDirection e c is has no_word.1.1.0)) (of_end s (local node port) call NotConnected e c is has no_word.1.0)
      (or_parts (is_closed c.stage) c.far_closed (of_end s (local node port) call ChanClosed e c is has no_word.1.1.1.1.0)).0
      (refl, kind_is c.kind Scalar (of_end s (local node port) call ChanType e c is has no_word.1.1.1.0)) (λ v. refl))
  success_posted node (lend_at port) no_word = nobody_posts (success_changes s node (lend_at port)) (live_posts (live_at s (local node port)) _ (λ e is. (tt, lending_out _ (oldest e.queue))))
  success_posted node (packet_request_at port) no_word = nobody_posts (success_changes s node (packet_request_at port)) (live_posts (live_at s (local node port)) _ (λ e is. (tt, (tt, tt))))
  success_posted node (release_of place) no_word = nobody_posts (success_changes s node (release_of place)) (tt, tt)
  success_posted node (scalar_at port bits) no_word = nobody_posts (success_changes s node (scalar_at port bits)) (live_posts (live_at s (local node port)) _ (λ e is. (tt, tt)))
  success_posted node (close_at port Sender) no_word = end_posts (local node port) send_close _ (λ e c is has read.
      let call : EndCall = closes Sender in
      closes_done e c (own (local node port) e is) has read (not_false (is_sender c.side) (of_end s (local node port) call ChanDirection e c is has no_word.1.1.0)) (of_end s (local node port) call NotConnected e c is has no_word.1.0)
      (of_end s (local node port) call ChanClosed e c is has no_word.1.1.1.0))
  success_posted node (close_at port Receiver) no_word = end_posts (local node port) recv_close _ (λ e c is has read.
      let off : is_sender c.side ≡ false = no_sender c.side (not_false (same_side c.side Receiver) (of_end s (local node port) (closes Receiver) ChanDirection e c is has no_word.1.1.0)) in
      says_nothing _ (closing Receiver e c) read (λ k. refl) (
        tt,
        (
          tt,
          (
            rw (own (local node port) e is, has, receiver_deaf c off)
                (cond_both c.far_closed None (Some (record c { stage = closed })) (λ x. Alters n p t None (sent_of n x)) (λ k. same None) (λ k. rw (receiver_deaf (record c { stage = closed }) off) (same None))),
            tt,
          ),
        ),
      ))
  success_posted node (test_of request) no_word = nobody_posts (success_changes s node (test_of request)) (tt, lends_out _ (request_at_place s request))
  success_posted node (wait_for requests says_place) no_word = nobody_posts (success_changes s node (wait_for requests says_place)) (tt, lends_out _ (request_at_place s (first_complete s requests)))
  success_posted node (cancel_of request) no_word = nobody_posts (success_changes s node (cancel_of request)) (tt, tt)
  success_posted node (raw_to to bytes) no_word = nobody_posts (success_changes s node (raw_to to bytes)) (tt, tt)
  success_posted node turn_alone no_word = nobody_posts [] tt

  pub call_posted : (node : ℕ) (call : DomainCall) (a : PlainAnswer) → (refusal s node call ≡ None → AllByRecursion Reads (success_posts s node call)) → Done (letters n (puts_by p s (calls node call a))) (call_changes s node call)
  call_posted node call a read = go (refusal s node call) refl
    where
      go : (r : Option Refusal) → refusal s node call ≡ r → Done (letters n (frames_to p (unless_refused r [] (success_puts s node call)))) (unless_refused r [] (success_changes s node call))
      go (Some v) h = by_none [] tt
      go None h =
          let no_word = none_holds (holds s node call) (words_of call) h in
          subst (λ ls. Done ls (success_changes s node call)) (sym (letters_put n p s node call no_word)) (success_posted node call no_word (read h))
