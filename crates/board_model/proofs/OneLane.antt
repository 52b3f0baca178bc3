-- The letters of a channel stand on one lane, and its contents there are those of the sends that were accepted.
use Rattle.board_model.proofs.PartPuts.{one_post as one_letter, posts_closed, deed_closed}
use Rattle.board_model.proofs.PartReadings.{Closed}
use Rattle.board_model.specs.Parts.{coming}
use Rattle.std.proofs.lemmas.List.Concat.{flat_map-append}
use Rattle.board_model.proofs.PartLetters.{letter_frames, said-once}
use Rattle.std.proofs.Common.{◌≡◌, ℕ, ◌+◌, Bool, true, false, cond, inl, inr, List, [], ◌∷◌, ◌++◌, Option, Some, None, refl, sym, ap, ◌∙◌, subst, arith, ap₂}
use Rattle.std.specs.Prelude.{◌==◌, unwrap_or, Contains}
use Rattle.std.specs.List.{AllByRecursion, flat_map}
use Rattle.std.proofs.lemmas.List.{append_assoc, append-nil}
use Rattle.std.proofs.lemmas.List.Elements.{Contains-append_left, Contains-append_right}
use Rattle.std.proofs.lemmas.Bool.{eqb-true, eq-eqb, cases_Bool, ne_eqb, eqb-false}
use Rattle.byteorder.specs.Endian.{little_bytes}
use Rattle.mc_base.specs.Letter.{PlainLetter, connect, recv_open, send_open, packet, scalar, send_close, recv_close, bytes_of_bits}
use Rattle.mc_base.specs.Reading.{reading}
use Rattle.mc_base.specs.declared.channel.Side.TheVariants.{Sender, Receiver}
use Rattle.mc_base.specs.declared.channel.Kind.{Kind}
use Rattle.mc_base.specs.declared.channel.Kind.TheVariants.{Packet, Scalar}
use Rattle.mc_base.specs.declared.name.Local.{Local}
use Rattle.mc_base.specs.declared.refusal.Refusal.{Refusal}
use Rattle.mc_base.specs.declared.refusal.Refusal.TheVariants.{ChanDirection}
use Rattle.board_model.proofs.ChannelWords.{is_sender, Way, not_begun, goes_to, is_over, Sent, sent_by, letter_on, letters, data_of, contents, Follows, way_after, InOrder, way_of}
use Rattle.board_model.proofs.DeedRuns.{frames_if, frames_to, puts_by, takes_by}
use Rattle.board_model.proofs.Hearing.{has_begun}
use Rattle.board_model.proofs.HearingCalls.{Own, not_false, of_end}
use Rattle.board_model.proofs.HearingLaw.{way_of-append, letters-append, contents-append}
use Rattle.board_model.proofs.Sending.{sent_of, sent, Sending, fresh, numbered, SentAt}
use Rattle.board_model.proofs.SendingCalls.{Reads}
use Rattle.board_model.proofs.SendingDeeds.{owed_put_mute, ReadsDeed, AllOut, sender_step, alone_mute}
use Rattle.board_model.specs.Answer.{Post, post, puts_of, local, address_of, channel_at, over_channel, over_end, success_posts, success_puts, success, answer_by, holds, words_of, refusal, unless_refused}
use Rattle.board_model.specs.CallChanges.{at_channel, at_end}
use Rattle.board_model.specs.ChannelEnds.{opens, sends, closes, is_closed}
use Rattle.board_model.specs.Channels.{accepted_by, named_by}
use Rattle.board_model.specs.Deeds.{Deed, looks_back, puts_owed, looks_ahead, takes, calls, after_deed, MayDo, AllMayDo, along}
use Rattle.board_model.specs.DomainCall.{DomainCall, send_from, connect_from, open_at, packet_from, scalar_from, close_at, raw_to}
use Rattle.board_model.specs.Journal.{PlainAnswer, refuses}
use Rattle.board_model.specs.State.{ChannelEnd, Endpoint, DomainState, address_at, live_at, endpoint_of, channel_in}
use Rattle.board_model.proofs.OrderLookups.{none_holds}
use Rattle.board_model.proofs.RawFrames.{raw_letters}

-- ---- what a deed puts of the channel

module _ (n : ℕ) (s : DomainState) where
  -- what is put on each lane, and accepted: nothing; the channel's Connect, to a domain that was named; or what goes over its end that lives
  pub data Deals (lane : ℕ → List Sent) (accepted : List (List ℕ)) (named : List ℕ) : Type 0 where
    deals_nothing : ((p : ℕ) → lane p ≡ []) → accepted ≡ [] → Deals lane accepted named
    deals_connect : (q : ℕ) → s.channels_given + 1 ≡ n → ((p : ℕ) → (p == q) ≡ false → lane p ≡ []) → ((p : ℕ) → contents (lane p) ≡ []) → accepted ≡ [] → Contains named q → Deals lane accepted named
    deals_end : (e : Endpoint) (c : ChannelEnd) → endpoint_of s e.address ≡ Some e → sent_of n e.channel ≡ Some c → ((p : ℕ) → (p == c.peer) ≡ false → lane p ≡ []) → contents (lane c.peer) ≡ accepted → Deals lane accepted named

  -- the letters of posts
  abbrev of_posts : ℕ → List Post → List Sent
  of_posts p xs = letters n (frames_to p (flat_map puts_of xs))

  abbrev said : Post → Sent
  said x = record { source = x.source; destination = x.destination; letter = x.letter }

  abbrev post_on : Post → List Sent
  post_on x = cond (letter_on n x.letter) (said x ∷ []) []

  one_post : (p : ℕ) (x : Post) → Reads x → of_posts p (x ∷ []) ≡ cond (x.peer == p) (post_on x) []
  one_post p x read = ap (letters n) (one_letter p x) ∙ go (x.peer == p)
    where
      go : (b : Bool) → letters n (cond b (letter_frames x.source x.destination x.letter) []) ≡ cond b (post_on x) []
      go true = said-once (sent_by n) (λ a d q. refl) x.source x.destination x.letter (letter_frames x.source x.destination x.letter) read
      go false = refl

  elsewhere : (p : ℕ) (x : Post) → Reads x → (p == x.peer) ≡ false → of_posts p (x ∷ []) ≡ []
  elsewhere p x read other = one_post p x read ∙ ap (λ b. cond b (post_on x) []) (ne_eqb x.peer p (λ e. absurd (eqb-false p x.peer other (sym e))))

  at_peer : (x : Post) → Reads x → of_posts x.peer (x ∷ []) ≡ post_on x
  at_peer x read = one_post x.peer x read ∙ ap (λ b. cond b (post_on x) []) (eq-eqb x.peer x.peer refl)

  no_letter : (p : ℕ) (x : Post) → Reads x → letter_on n x.letter ≡ false → of_posts p (x ∷ []) ≡ []
  no_letter p x read off = one_post p x read ∙ go (x.peer == p)
    where
      go : (b : Bool) → cond b (post_on x) [] ≡ []
      go true = ap (λ k. cond k (said x ∷ []) []) off
      go false = refl

  -- what a send of this data accepts over an end
  abbrev over : List (List ℕ) → Endpoint → ChannelEnd → List (List ℕ)
  over data_in e c = cond (c.number == n) data_in []

  nothing_over : (x : Option Endpoint) → at_end x (over []) ≡ []
  nothing_over None = refl
  nothing_over (Some e) = ended e.channel
    where
      ended : (y : Option ChannelEnd) → at_channel y (over [] e) ≡ []
      ended None = refl
      ended (Some c) = elim (c.number == n) as (λ b. cond {A = List (List ℕ)} b [] [] ≡ []) [ true ↦ refl | false ↦ refl ]

  module _ (own : Own s) where
    -- a letter over the sender's end of the channel
    over_deals : {named : List ℕ} (at : Local) (l : ℕ → PlainLetter) (data_in : List (List ℕ)) → ((m : ℕ) → letter_on n (l m) ≡ (m == n)) → ((m : ℕ) → data_of (l m) ≡ data_in) → ((e : Endpoint) (c : ChannelEnd) → live_at s at ≡ Some e → e.channel ≡ Some c → is_sender c.side ≡ true) →
        AllByRecursion Reads (over_end s at l) → Deals (λ p. of_posts p (over_end s at l)) (at_end (live_at s at) (over data_in)) named
    over_deals {named} at l data_in on brings side read = live (live_at s at) refl read
      where
        one : (e : Endpoint) (c : ChannelEnd) → live_at s at ≡ Some e → e.channel ≡ Some c → (x : Post) → x ≡ post c.peer e.address c.peer_address (l c.number) → Reads x → Deals (λ p. of_posts p (x ∷ [])) (cond (c.number == n) data_in []) named
        one e c found has x is reads = elim (cases_Bool (c.number == n)) [
          | inl number ↦
              let sender = side e c found has in
              let peer : x.peer ≡ c.peer = ap (λ y. y.peer) is in
              let here : of_posts c.peer (x ∷ []) ≡ said x ∷ [] = subst (λ q. of_posts q (x ∷ []) ≡ post_on x) peer (at_peer x reads) ∙ ap (λ b. cond b (said x ∷ []) []) (ap (λ y. letter_on n y.letter) is ∙ (on c.number ∙ number)) in
              deals_end e c (own at e found) (rw (has, sender, number) refl) (λ p other. elsewhere p x reads (subst (λ q. (p == q) ≡ false) (sym peer) other))
              (ap contents here ∙ (append-nil (data_of x.letter) ∙ (ap (λ y. data_of y.letter) is ∙ (brings c.number ∙ ap (λ b. cond b data_in []) (sym number)))))
          | inr differs ↦ deals_nothing (λ p. no_letter p x reads (ap (λ y. letter_on n y.letter) is ∙ (on c.number ∙ differs))) (ap (λ b. cond b data_in []) differs)
        ]

        ended : (e : Endpoint) → live_at s at ≡ Some e → (y : Option ChannelEnd) → e.channel ≡ y → AllByRecursion Reads (over_channel (Some e) y l) → Deals (λ p. of_posts p (over_channel (Some e) y l)) (at_channel y (over data_in e)) named
        ended e found None has reads = deals_nothing (λ p. refl) refl
        ended e found (Some c) has reads = one e c found has (post c.peer e.address c.peer_address (l c.number)) refl reads.0

        live : (x : Option Endpoint) → live_at s at ≡ x → AllByRecursion Reads (over_channel x (channel_in x) l) → Deals (λ p. of_posts p (over_channel x (channel_in x) l)) (at_end x (over data_in)) named
        live None found reads = deals_nothing (λ p. refl) refl
        live (Some e) found reads = ended e found e.channel refl reads

    frames_alone : (p : ℕ) (x : Post) → frames_to p (flat_map puts_of (x ∷ [])) ≡ frames_to p (puts_of x)
    frames_alone p x = flat_map-append (λ (q : ℕ × List ℕ). frames_if (q.0 == p) (q.1 ∷ [])) (puts_of x) [] ∙ append-nil (frames_to p (puts_of x))

    -- letters that are not of the channel's sender
    off_lane : (xs : List Post) → AllByRecursion (λ x. letter_on n x.letter ≡ false) xs → AllByRecursion Reads xs → (p : ℕ) → of_posts p xs ≡ []
    off_lane [] off read p = refl
    off_lane (x ∷ xs) off read p =
        ap (letters n) (flat_map-append (λ (q : ℕ × List ℕ). frames_if (q.0 == p) (q.1 ∷ [])) (puts_of x) (flat_map puts_of xs))
        ∙ (letters-append n (frames_to p (puts_of x)) (frames_to p (flat_map puts_of xs)) (subst Closed (frames_alone p x) (posts_closed p (x ∷ []) (read.0, tt)))
        ∙ ap₂ (λ (xs ys : List Sent). xs ++ ys) (ap (letters n) (sym (frames_alone p x)) ∙ no_letter p x read.0 off.0) (off_lane xs off.1 read.1 p))

    all_off_over : (x : Option Endpoint) (y : Option ChannelEnd) (l : ℕ → PlainLetter) → ((m : ℕ) → letter_on n (l m) ≡ false) → AllByRecursion (λ p. letter_on n p.letter ≡ false) (over_channel x y l)
    all_off_over None y l off = tt
    all_off_over (Some e) None l off = tt
    all_off_over (Some e) (Some c) l off = (off c.number, tt)

    no_data : (x : Post) → data_of x.letter ≡ [] → (b k : Bool) → contents (cond b (cond k (said x ∷ []) []) []) ≡ []
    no_data x none true true = append-nil (data_of x.letter) ∙ none
    no_data x none true false = refl
    no_data x none false k = refl

    connect_deals : (x : Post) (kind : Kind) → x.letter ≡ connect (s.channels_given + 1) kind → Reads x → Deals (λ p. of_posts p (x ∷ [])) [] (cond (s.channels_given + 1 == n) (x.peer ∷ []) [])
    connect_deals x kind is read = elim (cases_Bool (s.channels_given + 1 == n)) [
      | inl on ↦ deals_connect x.peer (eqb-true (s.channels_given + 1) n on) (λ p other. elsewhere p x read other) (λ p. ap contents (one_post p x read) ∙ no_data x (ap data_of is) (x.peer == p) (letter_on n x.letter)) refl (subst (λ b. Contains (cond b (x.peer ∷ []) []) x.peer) (sym on) (0, omega arith, refl))
      | inr off ↦ deals_nothing (λ p. no_letter p x read (ap (letter_on n) is ∙ off)) refl
    ]

    abbrev Dealt : ℕ → DomainCall → PlainAnswer → Type 0
    Dealt node call a = Deals (λ p. of_posts p (success_posts s node call)) (accepted_by n s (calls node call a)) (named_by n s (calls node call a))

    call_deals : (node : ℕ) (call : DomainCall) → AllByRecursion (λ w. holds s node call w ≡ false) (words_of call) → AllByRecursion Reads (success_posts s node call) → Dealt node call (success s node call)
    call_deals node (send_from port to priority bytes) no_word read = deals_nothing (off_lane (success_posts s node (send_from port to priority bytes)) (refl, tt) read) refl
    call_deals node (connect_from port to kind) no_word read = connect_deals (post to.domain (unwrap_or (address_at s (local node port)) 0) (unwrap_or (address_of s to) 0) (connect (s.channels_given + 1) kind)) kind refl read.0
    call_deals node (open_at port Sender kind) no_word read = subst (λ k. Deals (λ p. of_posts p (over_end s (local node port) send_open)) k []) (nothing_over (live_at s (local node port)))
        (over_deals (local node port) send_open [] (λ m. refl) (λ m. refl) (λ e c is has. not_false (is_sender c.side) (of_end s (local node port) (opens Sender kind) ChanDirection e c is has no_word.1.1.0)) read)
    call_deals node (open_at port Receiver kind) no_word read = deals_nothing (off_lane _ (all_off_over (live_at s (local node port)) (channel_at s (local node port)) recv_open (λ m. refl)) read) refl
    call_deals node (packet_from port bytes) no_word read =
        over_deals (local node port) (λ m. packet m bytes) (bytes ∷ []) (λ m. refl) (λ m. refl) (λ e c is has. not_false (is_sender c.side) (of_end s (local node port) (sends Packet) ChanDirection e c is has no_word.1.1.0)) read
    call_deals node (scalar_from port bits value) no_word read =
        over_deals (local node port) (λ m. scalar m bits value) (little_bytes (bytes_of_bits bits) value ∷ []) (λ m. refl) (λ m. refl) (λ e c is has. not_false (is_sender c.side) (of_end s (local node port) (sends Scalar) ChanDirection e c is has no_word.1.1.0)) read
    call_deals node (close_at port Sender) no_word read = subst (λ k. Deals (λ p. of_posts p (over_end s (local node port) send_close)) k []) (nothing_over (live_at s (local node port)))
        (over_deals (local node port) send_close [] (λ m. refl) (λ m. refl) (λ e c is has. not_false (is_sender c.side) (of_end s (local node port) (closes Sender) ChanDirection e c is has no_word.1.1.0)) read)
    call_deals node (close_at port Receiver) no_word read = deals_nothing (off_lane _ (all_off_over (live_at s (local node port)) (channel_at s (local node port)) recv_close (λ m. refl)) read) refl
    call_deals node other no_word read = deals_nothing (λ p. refl) refl

    -- and a raw frame has none
    puts_deal : (node : ℕ) (call : DomainCall) → AllByRecursion (λ w. holds s node call w ≡ false) (words_of call) → AllByRecursion Reads (success_posts s node call) →
        Deals (λ p. letters n (frames_to p (success_puts s node call))) (accepted_by n s (calls node call (success s node call))) (named_by n s (calls node call (success s node call)))
    puts_deal node (raw_to to bytes) no_word read = deals_nothing (λ p. raw_letters n p to bytes no_word.1.0) refl
    puts_deal node other no_word read = call_deals node other no_word read

    none_at_refusal : (node : ℕ) (call : DomainCall) (word : Refusal) → accepted_by n s (calls node call (refuses word)) ≡ []
    none_at_refusal node (packet_from port bytes) word = refl
    none_at_refusal node (scalar_from port bits value) word = refl
    none_at_refusal node other word = refl

    refused_deals : (node : ℕ) (call : DomainCall) (r : Option Refusal) → refusal s node call ≡ r → (refusal s node call ≡ None → AllByRecursion Reads (success_posts s node call)) →
        Deals (λ p. letters n (frames_to p (unless_refused r [] (success_puts s node call)))) (accepted_by n s (calls node call (answer_by r (success s node call)))) (named_by n s (calls node call (answer_by r (success s node call))))
    refused_deals node call (Some word) is read = deals_nothing (λ p. refl) (none_at_refusal node call word)
    refused_deals node call None is read = puts_deal node call (none_holds (holds s node call) (words_of call) is) (read is)

    pub deed_deals : (d : Deed) → MayDo s d → ReadsDeed s d → Deals (λ p. letters n (puts_by p s d)) (accepted_by n s d) (named_by n s d)
    deed_deals (looks_back q count) may read = deals_nothing (λ p. refl) refl
    deed_deals (looks_ahead q count) may read = deals_nothing (λ p. refl) refl
    deed_deals (takes q name frame word) may read = deals_nothing (λ p. refl) refl
    deed_deals (calls node call a) may read = subst (λ x. Deals (λ p. letters n (puts_by p s (calls node call x))) (accepted_by n s (calls node call x)) (named_by n s (calls node call x))) (sym may) (refused_deals node call (refusal s node call) refl read)
    deed_deals (puts_owed q frame) may read = deals_nothing (λ p. go (q == p)) refl
      where
        go : (b : Bool) → letters n (frames_if b (frame ∷ [])) ≡ []
        go true = append-nil (sent_by n (coming None (reading frame)).reading) ∙ alone_mute n frame (owed_put_mute n s q frame may)
        go false = refl

-- ---- the one lane along a run

begun_more : (w : Way) (ls : List Sent) → InOrder w ls → has_begun w ≡ true → has_begun (way_of w ls) ≡ true
begun_more w [] order on = on
begun_more w (l ∷ ls) order on = begun_more (way_after w l) ls order.1 (step w l.letter on)
  where
    step : (v : Way) (k : PlainLetter) → has_begun v ≡ true → has_begun (way_after v (record { source = l.source; destination = l.destination; letter = k })) ≡ true
    step v (connect m kind) on = refl
    step v (send_close m) on = refl
    step v other on = on

begins : (w : Way) (l : Sent) (ls : List Sent) → InOrder w (l ∷ ls) → w ≡ not_begun → has_begun (way_of w (l ∷ ls)) ≡ true
begins w l ls order is = begun_more (way_after w l) ls order.1 (step l.letter (subst (λ v. Follows v l) is order.0))
  where
    step : (k : PlainLetter) → Follows not_begun (record { source = l.source; destination = l.destination; letter = k }) → has_begun (way_after w (record { source = l.source; destination = l.destination; letter = k })) ≡ true
    step (connect m kind) follows = refl
    step other follows = absurd follows

-- where the contents that were accepted are: on no lane yet, or on the lane to q, which was named, and no other
pub data Aim (w : ℕ → Way) (m : ℕ → List (List ℕ)) (accepted : List (List ℕ)) (named : List ℕ) : Type 0 where
  no_aim : ((p : ℕ) → w p ≡ not_begun) → ((p : ℕ) → m p ≡ []) → accepted ≡ [] → Aim w m accepted named
  aimed_at : (q : ℕ) → has_begun (w q) ≡ true → m q ≡ accepted → ((p : ℕ) → (p == q) ≡ false → (w p ≡ not_begun) × (m p ≡ [])) → Contains named q → Aim w m accepted named

aim_same : (w v : ℕ → Way) (m k : ℕ → List (List ℕ)) (a b : List (List ℕ)) (old new : List ℕ) → ((p : ℕ) → v p ≡ w p) → ((p : ℕ) → k p ≡ m p) → b ≡ a → ((q : ℕ) → Contains old q → Contains new q) → Aim w m a old → Aim v k b new
aim_same w v m k a b old new ways puts same more (no_aim way none empty) = no_aim (λ p. ways p ∙ way p) (λ p. puts p ∙ none p) (same ∙ empty)
aim_same w v m k a b old new ways puts same more (aimed_at q on is other named) = aimed_at q (ap has_begun (ways q) ∙ on) (puts q ∙ (is ∙ sym same)) (λ p far. (ways p ∙ (other p far).0, puts p ∙ (other p far).1)) (more q named)

same_way : (w : Way) (ls : List Sent) → ls ≡ [] → way_of w ls ≡ w
same_way w ls none = ap (way_of w) none

same_put : (m : List (List ℕ)) (ls : List Sent) → ls ≡ [] → m ++ contents ls ≡ m
same_put m ls none = ap (λ k. m ++ contents k) none ∙ append-nil m

no_more : (m c : List (List ℕ)) → c ≡ [] → m ++ c ≡ m
no_more m c none = ap (λ k. m ++ k) none ∙ append-nil m

-- what the sender's invariant says of each lane
fresh_way : (n p : ℕ) (w : Way) (t m : List (List ℕ)) (s : DomainState) → s.channels_given + 1 ≡ n → Sending n p w t m s → (w ≡ not_begun) × (m ≡ [])
fresh_way n p w t m s next (fresh none below way empty) = (way, empty)
fresh_way n p w t m s next (numbered given a others at) = absurd (omega arith)

way_at : (n p : ℕ) (w : Way) (t m : List (List ℕ)) (s : DomainState) (a : ℕ) (c : ChannelEnd) → sent n (endpoint_of s a) ≡ Some c → Sending n p w t m s → w ≡ cond (c.peer == p) (cond (is_closed c.stage) (is_over c.peer_address) (goes_to c.peer_address c.kind)) not_begun
way_at n p w t m s a c is (fresh none below way empty) = let never = sym (none a) ∙ is in absurd cc
way_at n p w t m s a c is (numbered given b others at) = elim (cases_Bool (b == a)) [
  | inl here ↦ (subst (SentAt n p w t m) (ap (λ k. sent n (endpoint_of s k)) (eqb-true b a here) ∙ is) at).way
  | inr far ↦ let never = sym (others a far) ∙ is in absurd cc
]

begun_at : (c : ChannelEnd) (w : Way) → w ≡ cond (c.peer == c.peer) (cond (is_closed c.stage) (is_over c.peer_address) (goes_to c.peer_address c.kind)) not_begun → has_begun w ≡ true
begun_at c w is = ap has_begun is ∙ go (c.peer == c.peer) (is_closed c.stage) (eq-eqb c.peer c.peer refl)
  where
    go : (b k : Bool) → b ≡ true → has_begun (cond b (cond k (is_over c.peer_address) (goes_to c.peer_address c.kind)) not_begun) ≡ true
    go true true here = refl
    go true false here = refl
    go false k here = absurd cc

module _ (n : ℕ) (s : DomainState) (w : ℕ → Way) (t m : ℕ → List (List ℕ)) (accepted : List (List ℕ)) (named : List ℕ) (sending : (p : ℕ) → Sending n p (w p) (t p) (m p) s) where
  aim_step : (lane : ℕ → List Sent) (more : List (List ℕ)) (names : List ℕ) → ((p : ℕ) → InOrder (w p) (lane p)) → Deals n s lane more names → Aim w m accepted named → Aim (λ p. way_of (w p) (lane p)) (λ p. m p ++ contents (lane p)) (accepted ++ more) (named ++ names)
  aim_step lane more names order (deals_nothing none empty) aim = aim_same w _ m _ accepted _ named _ (λ p. same_way (w p) (lane p) (none p)) (λ p. same_put (m p) (lane p) (none p)) (no_more accepted more empty) (λ q has. Contains-append_left named names q has) aim
  aim_step lane more names order (deals_end e c found is none brings) (no_aim way no_put empty) =
      let on = begun_at c (w c.peer) (way_at n c.peer (w c.peer) (t c.peer) (m c.peer) s e.address c (ap (sent n) found ∙ is) (sending c.peer)) in
      let off : has_begun (w c.peer) ≡ false = ap has_begun (way c.peer) in
      absurd cc
  aim_step lane more names order (deals_end e c found is none brings) (aimed_at q on same other has) = elim (cases_Bool (c.peer == q)) [
    | inl here ↦ let one : c.peer ≡ q = eqb-true c.peer q here in
        aimed_at q (begun_more (w q) (lane q) (order q) on)
        (ap (λ k. m q ++ k) (ap (λ k. contents (lane k)) (sym one) ∙ brings) ∙ ap (λ k. k ++ more) same)
        (λ p far. let off : lane p ≡ [] = none p (subst (λ k. (p == k) ≡ false) (sym one) far) in (same_way (w p) (lane p) off ∙ (other p far).0, same_put (m p) (lane p) off ∙ (other p far).1))
        (Contains-append_left named names q has)
    | inr far ↦
        let yes_on = begun_at c (w c.peer) (way_at n c.peer (w c.peer) (t c.peer) (m c.peer) s e.address c (ap (sent n) found ∙ is) (sending c.peer)) in
        let off : has_begun (w c.peer) ≡ false = ap has_begun (other c.peer far).0 in
        absurd cc
  ]
  aim_step lane more names order (deals_connect q next none no_put empty called) (aimed_at k on same other has) =
      let off : has_begun (w k) ≡ false = ap has_begun (fresh_way n k (w k) (t k) (m k) s next (sending k)).0 in
      absurd cc
  aim_step lane more names order (deals_connect q next none no_put empty called) (no_aim way before nothing) = go (lane q) refl
    where
      nothing_more : accepted ++ more ≡ []
      nothing_more = no_more accepted more empty ∙ nothing

      puts_none : (p : ℕ) → m p ++ contents (lane p) ≡ []
      puts_none p = no_more (m p) (contents (lane p)) (no_put p) ∙ before p

      go : (ls : List Sent) → lane q ≡ ls → Aim (λ p. way_of (w p) (lane p)) (λ p. m p ++ contents (lane p)) (accepted ++ more) (named ++ names)
      go [] is = no_aim (λ p. elim (cases_Bool (p == q)) [
        | inl here ↦ same_way (w p) (lane p) (ap lane (eqb-true p q here) ∙ is) ∙ way p
        | inr far ↦ same_way (w p) (lane p) (none p far) ∙ way p
      ]) puts_none nothing_more
      go (l ∷ ls) is = aimed_at q (ap (λ k. has_begun (way_of (w q) k)) is ∙ begins (w q) l ls (subst (InOrder (w q)) is (order q)) (way q)) (puts_none q ∙ sym nothing_more)
          (λ p far. (same_way (w p) (lane p) (none p far) ∙ way p, puts_none p)) (Contains-append_right named names q called)

pub aim_run : (n : ℕ) (s : DomainState) (ds : List Deed) (w : ℕ → Way) (t m : ℕ → List (List ℕ)) (accepted : List (List ℕ)) (named : List ℕ) → AllMayDo s ds → AllOut s ds → ((p : ℕ) → Sending n p (w p) (t p) (m p) s) → Aim w m accepted named →
    Aim (λ p. way_of (w p) (letters n (along (puts_by p) s ds))) (λ p. m p ++ contents (letters n (along (puts_by p) s ds))) (accepted ++ along (accepted_by n) s ds) (named ++ along (named_by n) s ds)
aim_run n s [] w t m accepted named may out sending aim = aim_same w _ m _ accepted _ named _ (λ p. refl) (λ p. append-nil (m p)) (append-nil accepted) (λ q has. Contains-append_left named [] q has) aim
aim_run n s (d ∷ ds) w t m accepted named may out sending aim =
    let put : ℕ → List Sent = λ p. letters n (puts_by p s d) in
    let step = λ (p : ℕ). sender_step n p (w p) (t p) (m p) s out.0.0 (sending p) d may.0 out.0.1 in
    let here = aim_step n s w t m accepted named sending put (accepted_by n s d) (named_by n s d) (λ p. (step p).0) (deed_deals n s out.0.0 d may.0 out.0.1) aim in
    let rest = aim_run n (after_deed s d) ds (λ p. way_of (w p) (put p)) (λ p. t p ++ takes_by p d) (λ p. m p ++ contents (put p)) (accepted ++ accepted_by n s d) (named ++ named_by n s d) may.1 out.1 (λ p. (step p).1) here in
    aim_same _ _ _ _ _ _ _ _
    (λ p. ap (way_of (w p)) (letters-append n (puts_by p s d) (along (puts_by p) (after_deed s d) ds) (deed_closed p s d may.0 out.0.1)) ∙ way_of-append (w p) (put p) (letters n (along (puts_by p) (after_deed s d) ds)))
    (λ p. ap (λ k. m p ++ contents k) (letters-append n (puts_by p s d) (along (puts_by p) (after_deed s d) ds) (deed_closed p s d may.0 out.0.1)) ∙ (ap (λ k. m p ++ k) (contents-append (put p) (letters n (along (puts_by p) (after_deed s d) ds))) ∙ sym (append_assoc (m p) (contents (put p)) (contents (letters n (along (puts_by p) (after_deed s d) ds))))))
    (sym (append_assoc accepted (accepted_by n s d) (along (accepted_by n) (after_deed s d) ds)))
    (λ q has. subst (λ xs. Contains xs q) (append_assoc named (named_by n s d) (along (named_by n) (after_deed s d) ds)) has) rest
