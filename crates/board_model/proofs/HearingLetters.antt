-- What the letters of a channel do to its receiving end: the connect, data, and the sender's close.
use Rattle.board_model.specs.Parts.{Came}
use Rattle.std.proofs.Common.{◌≡◌, ℕ, Bool, true, false, not, cond, List, [], ◌∷◌, ◌++◌, map, length, Option, Some, None, refl, sym, ap, ◌∙◌, subst}
use Rattle.std.specs.Prelude.{◌==◌, ◌&&◌}
use Rattle.std.proofs.lemmas.Bool.{and_parts, eq-eqb}
use Rattle.std.proofs.lemmas.List.{append-nil}
use Rattle.std.specs.List.{flat_map}
use Rattle.mc_base.specs.Letter.{packet, scalar, send_close}
use Rattle.mc_base.specs.declared.channel.Kind.{Kind}
use Rattle.mc_base.specs.declared.channel.Kind.TheVariants.{Packet, Scalar}
use Rattle.mc_base.specs.declared.channel.Bits.{Bits}
use Rattle.mc_base.specs.declared.channel.Reason.{Reason}
use Rattle.mc_base.specs.declared.channel.Reason.TheVariants as reason
use Rattle.mc_base.specs.declared.refusal.Refusal.TheVariants.{ChanClosed}
use Rattle.mc_base.specs.declared.fate.Fate.TheVariants as fate
use Rattle.board_model.proofs.Views.{seen}
use Rattle.board_model.proofs.Hearing.{Heard, heard_of, heard, Lists, more, Live, HeardAt, AllArrive, NoneHears, NoAccept, owed_replies, Silence, Hearing, unheard, refused, heard_at, nothing}
use Rattle.board_model.proofs.HearingChanges.{is_live, same_at, at_it, Happens, queued_happens, handed_happens, lost_happens}
use Rattle.board_model.proofs.HearingRuns.{still_silent, hearing_step}
use Rattle.board_model.proofs.HearingFrames.{RepliesRead}
use Rattle.board_model.proofs.ChannelWords.{end_is, Way, not_begun, goes_to, is_over, hears, contents_if, data_of, taken_by, dropped_by, through}
use Rattle.board_model.specs.Change.{Change, channel_set, reply_owed, waiting_ended, item_queued, item_handed, item_lost, with_channel, changed, changed_all}
use Rattle.board_model.specs.ChannelEnds.{accepted_end, data_rows, hears_from, is_closed, same_kind}
use Rattle.board_model.specs.State.{Item, ChannelEnd, Endpoint, DomainState, endpoint_of, one_waits, peer_at}
use Rattle.board_model.specs.TakenFrames.{Row, first_row, row, last_row, letter_rows, rows_by, channel_rows, connect_rows, reply_to, rejecting, accepting, item_of}
use Rattle.board_model.proofs.LaneRows.{by_rows}
use Rattle.board_model.proofs.OrderChannels.{no_length, either_none}

-- where a receive waits nothing is queued
abbrev pub IsQuiet : DomainState → Type 0
IsQuiet s = (a : ℕ) (e : Endpoint) → endpoint_of s a ≡ Some e → one_waits s e.local ≡ true → e.queue ≡ []

-- ---- ways

never_begun : (b : Bool) (a : ℕ) (k : Kind) → not_begun ≡ cond b (is_over a) (goes_to a k) → ⊥
never_begun true a k e = absurd cc
never_begun false a k e = absurd cc

pub record Going (b : Bool) (a : ℕ) (k : Kind) (c : ℕ) (l : Kind) : Type 0 where
  pub open_far : b ≡ false
  pub same_address : a ≡ c
  pub same_kind : k ≡ l

pub going : (b : Bool) (a : ℕ) (k : Kind) (c : ℕ) (l : Kind) → goes_to a k ≡ cond b (is_over c) (goes_to c l) → Going b a k c l
going true a k c l e = absurd cc
going false a k c l e = record { open_far = refl; same_address = cc; same_kind = cc }

-- ---- the endpoint that hears

pub record Hears (o n : ℕ) (y : Option Endpoint) (x : Heard) : Type 0 where
  pub endpoint : Endpoint
  pub found : y ≡ Some endpoint
  pub channel : endpoint.channel ≡ Some x.end
  pub it_hears : hears_from o n x.end ≡ true
  pub queue : endpoint.queue ≡ x.queue

pub who_hears : (o n : ℕ) (y : Option Endpoint) (x : Heard) → heard o n y ≡ Some x → Hears o n y x
who_hears o n None x is = absurd cc
who_hears o n (Some e) x is = go e.channel refl is
  where
    at_end : (c : ChannelEnd) (b : Bool) → e.channel ≡ Some c → hears_from o n c ≡ b → cond b (Some (record { end = c; queue = e.queue })) None ≡ Some x → Hears o n (Some e) x
    at_end c false ch on h = absurd cc
    at_end c true ch on h =
        let same : c ≡ x.end = cc in
        record { endpoint = e; found = refl; channel = ch ∙ ap (λ d. Some d) same; it_hears = subst (λ d. hears_from o n d ≡ true) same on; queue = cc }

    go : (c : Option ChannelEnd) → e.channel ≡ c → heard_of o n c e.queue ≡ Some x → Hears o n (Some e) x
    go None ch h = absurd cc
    go (Some c) ch h = at_end c (hears_from o n c) ch refl h

never_hears : (o n : ℕ) (e : Endpoint) (c : ChannelEnd) → heard o n (Some e) ≡ None → e.channel ≡ Some c → hears_from o n c ≡ false
never_hears o n e c none is = go (hears_from o n c) refl (sym (ap (λ x. heard_of o n x e.queue) is) ∙ none)
  where
    go : (b : Bool) → hears_from o n c ≡ b → cond {A = Option Heard} b (Some (record { end = c; queue = e.queue })) None ≡ None → b ≡ false
    go true on h = absurd cc
    go false on h = refl

pub all_of : (a b c d : Bool) → a ≡ true → b ≡ true → c ≡ false → (a && (b && (not c && d))) ≡ d
all_of true true false d x y z = refl
all_of true true true d x y z = absurd cc
all_of true false c d x y z = absurd cc
all_of false b c d x y z = absurd cc

pub three_of : (a b c : Bool) → a ≡ true → b ≡ true → c ≡ false → (a && (b && not c)) ≡ true
three_of true true false x y z = refl
three_of true true true x y z = absurd cc
three_of true false c x y z = absurd cc
three_of false b c x y z = absurd cc

not_on : (a b : Bool) → a ≡ false → (a && b) ≡ true → ⊥
not_on true b x y = absurd cc
not_on false b x y = absurd cc

pub is_kind : (k l : Kind) → k ≡ l → same_kind l k ≡ true
is_kind k l e = subst (λ x. same_kind x k ≡ true) e (itself k)
  where
    itself : (k : Kind) → same_kind k k ≡ true
    itself Packet = refl
    itself Scalar = refl

module _ (read : RepliesRead) (o n : ℕ) (s : DomainState) (key : Came) (src dst : ℕ) (h : Lists) where
  -- what is known after a row, of a letter with this content
  abbrev After : Way → List (List ℕ) → Row → Type 0
  After w brought r = Hearing o n w (more h brought (through (taken_by o n) s r.happens) (through (dropped_by o n) s r.happens)) (changed_all s r.happens)

  -- ---- the connect

  abbrev Begun : Kind → Row → Type 0
  Begun kind r = After (goes_to dst kind) [] r

  rejected : (kind : Kind) (why : Reason) → NoneHears o n s → Silence n h s o → h.taken ≡ [] → h.lost ≡ [] → Begun kind (row true fate.Owed (rejecting o src dst n why))
  rejected kind why none silent taken lost = refused none (silent.0, still_silent o n s (reply_owed o (reply_to src dst n (Some why))) (λ it. read.reject_other n dst src n why) silent.1) refl (rw taken refl) (rw lost refl)

  pub begins : (kind : Kind) (x : Option Endpoint) → endpoint_of s dst ≡ x → Hearing o n not_begun h s → Begun kind (first_row (connect_rows s o src dst x n kind))
  begins kind x found (refused none silent begun taken lost) = absurd cc
  begins kind x found (heard_at a others arrived at) = go (heard o n (endpoint_of s a)) at
    where
      go : (y : Option Heard) → HeardAt a not_begun h y → Begun kind (first_row (connect_rows s o src dst x n kind))
      go None past = let e = past.way in absurd cc
      go (Some y) live = absurd (never_begun y.end.far_closed a y.end.kind live.way)
  begins kind None found (unheard none silent way came taken lost words) =
      by_rows (Begun kind) (connect_rows s o src dst None n kind) ((λ on. refused none silent refl (rw taken refl) (rw lost refl)), (λ off. rejected kind reason.NoEndpoint none silent taken lost))
  begins kind (Some e) found (unheard none silent way came taken lost words) =
      by_rows (Begun kind) (connect_rows s o src dst (Some e) n kind) (
        (λ on. refused none silent refl (rw taken refl) (rw lost refl)),
        (λ off. (
          (λ on. rejected kind reason.Connected none silent taken lost),
          (λ free. ((λ on. rejected kind reason.Busy none silent taken lost), (λ idle. accepted (no_length e.queue (either_none (not (length e.queue == 0)) (one_waits s e.local) idle).0)))),
        )),
      )
    where
      hears_new : hears_from o n (accepted_end kind o n o src) ≡ true
      hears_new = rw (eq-eqb n n refl, eq-eqb o o refl) refl

      accepted : e.queue ≡ [] → Begun kind (row true fate.Owed (accepting o src dst n kind))
      accepted empty =
          heard_at dst
          (λ b other. ap (heard o n) (seen s (channel_set dst (Some (accepted_end kind o n o src))) b ∙ same_at dst b _ _ other) ∙ none b)
          (subst AllArrive (sym words) tt)
          (rw (seen s (channel_set dst (Some (accepted_end kind o n o src))) dst, at_it dst (with_channel (Some (accepted_end kind o n o src))) (endpoint_of s dst), found, hears_new)
          (record { way = refl; kept = rw (came, taken, lost, empty) refl; none_lost = λ k. rw lost refl; none_queued = λ k. empty }))

  -- ---- data: an item that comes by the rows of its kind

  module _ (k : Kind) (i : Item) where
    -- the row at an end, at an endpoint with this channel or none, and at this endpoint or none
    abbrev pub row_at_end : Endpoint → ChannelEnd → Row
    row_at_end e c = first_row (flat_map (λ r. rows_by s dst e i (packet n []) r.applies r.leaves r.word) (data_rows o n k c) ++ last_row fate.State [])

    abbrev pub row_at_channel : Endpoint → Option ChannelEnd → Row
    row_at_channel e None = row true fate.State []
    row_at_channel e (Some c) = row_at_end e c

    abbrev pub data_row : Option Endpoint → Row
    data_row None = row true fate.NoEndpoint []
    data_row (Some e) = row_at_channel e e.channel

    abbrev Got : ℕ → Row → Type 0
    Got a r = After (goes_to a k) (i.content ∷ []) r

    -- the endpoint hears, and the item comes to it
    module _ (a : ℕ) (e : Endpoint) (c : ChannelEnd) (found : endpoint_of s dst ≡ Some e) (is : e.channel ≡ Some c) (it : hears_from o n c ≡ true) (hearing : Hearing o n (goes_to a k) h s) where
      heard_now : contents_if (hears o n (Some e)) (i ∷ []) ≡ i.content ∷ []
      heard_now = rw (is, it) refl

      by_change : (x : Change) → Happens o n s x (contents_if (hears o n (Some e)) (i ∷ [])) → (NoAccept n (owed_replies (peer_at s o)) → NoAccept n (owed_replies (peer_at (changed s x) o))) → Got a (row true fate.Queued (x ∷ []))
      by_change x hap quiet =
          let now = hearing_step o n (goes_to a k) h s x _ hap quiet hearing in
          rw (append-nil (taken_by o n s x), append-nil (dropped_by o n s x)) (subst (λ d. Hearing o n (goes_to a k) (more h d (taken_by o n s x) (dropped_by o n s x)) (changed s x)) heard_now now)

    comes : (a : ℕ) (x : Option Endpoint) → endpoint_of s dst ≡ x → IsQuiet s → dst ≡ a → Hearing o n (goes_to a k) h s → Got a (data_row x)
    comes a x found quiet at (unheard none silent way came taken lost words) = absurd cc
    comes a None found quiet at (refused none silent begun taken lost) = refused none silent refl (rw taken refl) (rw lost refl)
    comes a (Some e) found quiet at (refused none silent begun taken lost) = go e.channel refl
      where
        go : (y : Option ChannelEnd) → e.channel ≡ y → Got a (row_at_channel e y)
        go None is = refused none silent refl (rw taken refl) (rw lost refl)
        go (Some c) is =
            let deaf : hears_from o n c ≡ false = never_hears o n e c (ap (heard o n) (sym found) ∙ none dst) is in
            by_rows (Got a) (flat_map (λ r. rows_by s dst e i (packet n []) r.applies r.leaves r.word) (data_rows o n k c) ++ last_row fate.State []) (
              (λ on. absurd (not_on (hears_from o n c) _ deaf on)),
              (λ off. (
                (λ on. absurd (not_on (hears_from o n c) _ deaf (and_parts (hears_from o n c && (same_kind c.kind k && not c.far_closed)) (one_waits s e.local) on).0)),
                (λ off. ((λ on. absurd (not_on (hears_from o n c) _ deaf on)), (λ off. refused none silent refl (rw taken refl) (rw lost refl)))),
              )),
            )
    comes a x found quiet at (heard_at b others arrived have) = go (heard o n (endpoint_of s b)) refl have
      where
        rows_at : (e : Endpoint) (c : ChannelEnd) → endpoint_of s dst ≡ Some e → e.channel ≡ Some c → hears_from o n c ≡ true → same_kind c.kind k ≡ true → c.far_closed ≡ false → Got a (row_at_end e c)
        rows_at e c here is it of_kind far =
            let hearing = heard_at b others arrived have in
            let shut = all_of (hears_from o n c) (same_kind c.kind k) c.far_closed (is_closed c.stage) it of_kind far in
            let here_too = three_of (hears_from o n c) (same_kind c.kind k) c.far_closed it of_kind far in
            by_rows (Got a) (flat_map (λ r. rows_by s dst e i (packet n []) r.applies r.leaves r.word) (data_rows o n k c) ++ last_row fate.State []) (
              (λ on. by_change a e c here is it hearing (item_lost dst i) (lost_happens o n s dst i e here (ap (end_is (λ d. is_closed d.stage)) is ∙ (sym shut ∙ on))) (λ z. z)),
              (λ off.
                  let live : is_live e = ap (end_is (λ d. is_closed d.stage)) is ∙ (sym shut ∙ off) in (
                    (λ on. by_change a e c here is it hearing (item_handed dst i) (handed_happens o n s dst i e here live (quiet dst e here (and_parts (hears_from o n c && (same_kind c.kind k && not c.far_closed)) (one_waits s e.local) on).1)) (λ z. z)),
                    (λ off2. (
                      (λ on. by_change a e c here is it hearing (item_queued dst i) (queued_happens o n s dst i e here live) (λ z. z)),
                      (λ off3. let never = sym here_too ∙ off3 in absurd cc),
                    )),
                  )),
            )

        go : (y : Option Heard) → heard o n (endpoint_of s b) ≡ y → HeardAt b (goes_to a k) h y → Got a (data_row x)
        go None is past = let e = past.way in absurd cc
        go (Some y) is live =
            let g = going y.end.far_closed a k b y.end.kind live.way in
            let w = who_hears o n (endpoint_of s b) y is in
            let here : endpoint_of s dst ≡ Some w.endpoint = ap (endpoint_of s) (at ∙ g.same_address) ∙ w.found in
            let same : Some w.endpoint ≡ x = sym here ∙ found in
            subst (λ z. Got a (data_row z)) same (subst (λ z. Got a (row_at_channel w.endpoint z)) (sym w.channel)
            (rows_at w.endpoint y.end here w.channel w.it_hears (is_kind k y.end.kind g.same_kind) g.open_far))

  -- a packet's row, and a scalar's
  pub packet_row : (content : List ℕ) (x : Option Endpoint) → data_row Packet (item_of o key src (packet n content)) x ≡ first_row (letter_rows s o key src dst x (packet n content))
  packet_row content None = refl
  packet_row content (Some e) = go e.channel
    where
      go : (c : Option ChannelEnd) → row_at_channel Packet (item_of o key src (packet n content)) e c ≡ first_row (channel_rows s o dst e c (item_of o key src (packet n content)) (packet n content))
      go None = refl
      go (Some c) = refl

  pub scalar_row : (bits : Bits) (value : ℕ) (x : Option Endpoint) → data_row Scalar (item_of o key src (scalar n bits value)) x ≡ first_row (letter_rows s o key src dst x (scalar n bits value))
  scalar_row bits value None = refl
  scalar_row bits value (Some e) = go e.channel
    where
      go : (c : Option ChannelEnd) → row_at_channel Scalar (item_of o key src (scalar n bits value)) e c ≡ first_row (channel_rows s o dst e c (item_of o key src (scalar n bits value)) (scalar n bits value))
      go None = refl
      go (Some c) = refl

  pub gets_packet : (content : List ℕ) (a : ℕ) (x : Option Endpoint) → endpoint_of s dst ≡ x → IsQuiet s → dst ≡ a → Hearing o n (goes_to a Packet) h s → After (goes_to a Packet) (content ∷ []) (first_row (letter_rows s o key src dst x (packet n content)))
  gets_packet content a x found quiet at hearing = subst (After (goes_to a Packet) (content ∷ [])) (packet_row content x) (comes Packet (item_of o key src (packet n content)) a x found quiet at hearing)

  pub gets_scalar : (bits : Bits) (value a : ℕ) (x : Option Endpoint) → endpoint_of s dst ≡ x → IsQuiet s → dst ≡ a → Hearing o n (goes_to a Scalar) h s → After (goes_to a Scalar) (data_of (scalar n bits value)) (first_row (letter_rows s o key src dst x (scalar n bits value)))
  gets_scalar bits value a x found quiet at hearing = subst (After (goes_to a Scalar) (data_of (scalar n bits value))) (scalar_row bits value x) (comes Scalar (item_of o key src (scalar n bits value)) a x found quiet at hearing)

  -- ---- the sender's close

  abbrev Over : Row → Type 0
  Over r = After (is_over dst) [] r

  pub closes : (a : ℕ) (k : Kind) (x : Option Endpoint) → endpoint_of s dst ≡ x → dst ≡ a → Hearing o n (goes_to a k) h s → Over (first_row (letter_rows s o key src dst x (send_close n)))
  closes a k x found at (unheard none silent way came taken lost words) = absurd cc
  closes a k None found at (refused none silent begun taken lost) = refused none silent refl (rw taken refl) (rw lost refl)
  closes a k (Some e) found at (refused none silent begun taken lost) = go e.channel refl
    where
      go : (y : Option ChannelEnd) → e.channel ≡ y → Over (first_row (channel_rows s o dst e y (item_of o key src (send_close n)) (send_close n)))
      go None is = refused none silent refl (rw taken refl) (rw lost refl)
      go (Some c) is =
          let deaf : hears_from o n c ≡ false = never_hears o n e c (ap (heard o n) (sym found) ∙ none dst) is in
          by_rows Over (channel_rows s o dst e (Some c) (item_of o key src (send_close n)) (send_close n)) ((λ on. absurd (not_on (hears_from o n c) _ deaf on)), (λ off. refused none silent refl (rw taken refl) (rw lost refl)))
  closes a k x found at (heard_at b others arrived have) = go (heard o n (endpoint_of s b)) refl have
    where
      at_close : (e : Endpoint) (y : Heard) → endpoint_of s dst ≡ Some e → e.channel ≡ Some y.end → e.queue ≡ y.queue → hears_from o n y.end ≡ true → y.end.far_closed ≡ false → dst ≡ b → Live b (goes_to a k) h y →
          (z : Bool) → is_closed y.end.stage ≡ z → Over (row true fate.Acted (waiting_ended dst ChanClosed ∷ channel_set dst (cond z None (Some (record y.end { far_closed = true }))) ∷ []))
      at_close e y here is queue it far same live z shut =
          let ended = changed s (waiting_ended dst ChanClosed) in
          subst (λ l. Hearing o n (is_over dst) l (changed ended (channel_set dst (cond z None (Some (record y.end { far_closed = true })))))) (sym (nothing h))
          (heard_at dst
          (λ d other. ap (heard o n) (seen ended (channel_set dst _) d ∙ same_at dst d _ _ other) ∙ others d (subst (λ m. (m == d) ≡ false) same other)) arrived
          (rw (seen ended (channel_set dst (cond z None (Some (record y.end { far_closed = true })))) dst, at_it dst (with_channel (cond z None (Some (record y.end { far_closed = true })))) (endpoint_of ended dst), here) (end_now z shut)))
        where
          end_now : (z : Bool) → is_closed y.end.stage ≡ z → HeardAt dst (is_over dst) h (heard_of o n (cond z None (Some (record y.end { far_closed = true }))) e.queue)
          end_now true shut = record { way = refl; kept = live.kept ∙ ap (λ q. h.taken ++ q) (ap (λ q. h.lost ++ map (λ i. i.content) q) (live.none_queued shut) ∙ append-nil h.lost) }
          end_now false shut = rw it (record { way = refl; kept = live.kept ∙ ap (λ q. h.taken ++ (h.lost ++ map (λ i. i.content) q)) (sym queue); none_lost = λ k. live.none_lost k; none_queued = λ k. queue ∙ live.none_queued k })

      go : (y : Option Heard) → heard o n (endpoint_of s b) ≡ y → HeardAt b (goes_to a k) h y → Over (first_row (letter_rows s o key src dst x (send_close n)))
      go None is past = let e = past.way in absurd cc
      go (Some y) is live =
          let g = going y.end.far_closed a k b y.end.kind live.way in
          let w = who_hears o n (endpoint_of s b) y is in
          let here : endpoint_of s dst ≡ Some w.endpoint = ap (endpoint_of s) (at ∙ g.same_address) ∙ w.found in
          let same : Some w.endpoint ≡ x = sym here ∙ found in
          let on : (hears_from o n y.end && not y.end.far_closed) ≡ true = rw (w.it_hears, g.open_far) refl in
          subst (λ z. Over (first_row (letter_rows s o key src dst z (send_close n)))) same
          (subst (λ z. Over (first_row (channel_rows s o dst w.endpoint z (item_of o key src (send_close n)) (send_close n)))) (sym w.channel)
          (by_rows Over (channel_rows s o dst w.endpoint (Some y.end) (item_of o key src (send_close n)) (send_close n)) (
            (λ yes1. at_close w.endpoint y here w.channel w.queue w.it_hears g.open_far (at ∙ g.same_address) live (is_closed y.end.stage) refl),
            (λ off. let never = sym on ∙ off in absurd cc),
          )))
