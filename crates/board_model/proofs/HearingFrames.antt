-- What a frame that is no letter of the channel does to the channel's receiving end.
use Rattle.board_model.specs.Parts.{Came}
use Rattle.std.proofs.Common.{◌≡◌, ℕ, ◌<◌, ◌^◌, Bool, true, false, not, cond, List, [], ◌∷◌, ◌++◌, Option, Some, None, refl, sym, ap, ◌∙◌}
use Rattle.std.specs.Prelude.{◌==◌, ◌&&◌}
use Rattle.std.proofs.lemmas.Bool.{and_parts, eqb-true, eq-eqb, cond_both}
use Rattle.std.specs.List.{flat_map}
use Rattle.mc_base.specs.Frame.{made}
use Rattle.mc_base.specs.Letter.{PlainLetter, msg, connect, accept, reject, recv_open, send_open, packet, scalar, send_close, recv_close, spelling}
use Rattle.mc_base.specs.NameMap.{Names, learned, forgotten}
use Rattle.mc_base.specs.FullName.{endpoint_named}
use Rattle.mc_base.specs.declared.name.EndName.{EndName}
use Rattle.mc_base.specs.declared.channel.Kind.{Kind}
use Rattle.mc_base.specs.declared.channel.Kind.TheVariants.{Packet, Scalar}
use Rattle.mc_base.specs.declared.channel.Reason.{Reason}
use Rattle.mc_base.specs.declared.channel.Reason.TheVariants as reason
use Rattle.mc_base.specs.declared.fate.Fate.TheVariants as fate
use Rattle.board_model.proofs.Hearing.{Heard, heard_of, heard, accepts, Moves, stays}
use Rattle.board_model.proofs.HearingChanges.{Fits}
use Rattle.board_model.proofs.HearingRuns.{FitAll}
use Rattle.board_model.proofs.HearingCalls.{sender_deaf, turned, no_end}
use Rattle.board_model.proofs.ChannelWords.{is_sender, turns_on}
use Rattle.board_model.specs.Change.{Change, channel_set, name_found, names_known}
use Rattle.board_model.specs.ChannelEnds.{data_rows, sends_to, hears_from, is_closed, is_connecting, far_closed_end, same_kind, accepted_end, same_side}
use Rattle.board_model.specs.State.{Announcement, announcing, Item, ChannelEnd, Endpoint, DomainState, connected, endpoint_of, one_waits, peer_at}
use Rattle.board_model.specs.TakenFrames.{last_row, rows_by, Row, first_row, rows, names_of, name_rows, letter_rows, channel_rows, message_rows, connect_rows, rejecting}
use Rattle.mc_base.specs.Reading.{Reading, is_faulty, announces, says, reading, brings}
use Rattle.mc_base.specs.declared.channel.Side.TheVariants.{Receiver}
use Rattle.board_model.proofs.LaneRows.{by_rows, by_part}

-- what holds of every list of changes that an announcement may bring
pub by_names : (P : List Change → Type 0) (s : DomainState) (q : ℕ) (key : Came) (name : List ℕ) (a : ℕ) (create : Bool) → P [] → ((n : EndName) → P (names_known q (learned n a (names_of (peer_at s q))) ∷ name_found n a ∷ [])) → ((n : EndName) → P (names_known q (forgotten n (names_of (peer_at s q))) ∷ [])) →
    P (first_row (rows s q key (announces name a create))).happens
by_names P s q key name a create none some gone = go (endpoint_named name) create
  where
    known : Names
    known = names_of (peer_at s q)

    go : (o : Option EndName) (b : Bool) → P (first_row (name_rows q known o a b)).happens
    go None b = none
    go (Some n) true = by_rows (λ r. P r.happens) (name_rows q known (Some n) a true) ((λ on. none), (λ off. ((λ on. none), (λ last. some n))))
    go (Some n) false = by_rows (λ r. P r.happens) (name_rows q known (Some n) a false) ((λ on. none), (λ off. ((λ on. none), (λ last. gone n))))

none_both : (old new : Option Heard) → old ≡ None → new ≡ None → Moves old new [] [] []
none_both old new a b = rw (a, b) (stays None)

abbrev pub IsNoAccept : PlainLetter → Type 0
IsNoAccept (accept m) = ⊥
IsNoAccept other = Unit {0}

-- the replies as they are read, and what else a domain puts
pub record RepliesRead : Type 0 where
  pub reject_other : (n a b m : ℕ) (why : Reason) → accepts n (reading (made a b (spelling (reject m why)))) ≡ false
  pub sent_other : (n a b : ℕ) (l : PlainLetter) → IsNoAccept l → accepts n (reading (made a b (spelling l))) ≡ false
  pub announced_other : (n d : ℕ) (a : Announcement) → accepts n (reading (announcing d a)) ≡ false
  pub accept_other : (n a b m : ℕ) → m < 2 ^ 32 → (m ≡ n → ⊥) → accepts n (reading (made a b (spelling (accept m)))) ≡ false

-- the numbers of connects fit
abbrev pub IsSmall : PlainLetter → Type 0
IsSmall (connect m kind) = m < 2 ^ 32
IsSmall other = Unit {0}

-- an end of another channel hears nothing of this one
pub other_deaf : (o n p m : ℕ) (c : ChannelEnd) (q : List Item) → ((p ≡ o) → (m ≡ n) → ⊥) → hears_from p m c ≡ true → hears_from o n c ≡ false
other_deaf o n p m c q foreign it = go (hears_from o n c) refl
  where
    go : (b : Bool) → hears_from o n c ≡ b → b ≡ false
    go false e = refl
    go true e =
        let x = and_parts (c.number == m) (c.owner == p) (and_parts (same_side c.side Receiver) (c.number == m && c.owner == p) it).1 in
        let y = and_parts (c.number == n) (c.owner == o) (and_parts (same_side c.side Receiver) (c.number == n && c.owner == o) e).1 in
        absurd (foreign (sym (eqb-true c.owner p x.1) ∙ eqb-true c.owner o y.1) (sym (eqb-true c.number m x.0) ∙ eqb-true c.number n y.0))

deaf : (o n : ℕ) (c : ChannelEnd) (q : List Item) → hears_from o n c ≡ false → heard_of o n (Some c) q ≡ None
deaf o n c q it = rw it refl

module _ (read : RepliesRead) (o n : ℕ) (s : DomainState) (p : ℕ) (key : Came) (src dst : ℕ) where
  abbrev Fit : Row → Type 0
  Fit r = FitAll o n s r.happens

  abbrev nothing_fits : FitAll o n s []
  nothing_fits = tt

  module _ (e : Endpoint) (found : endpoint_of s dst ≡ Some e) where
    -- the end at the destination is set
    set_fits : (c : Option ChannelEnd) → Moves (heard_of o n e.channel e.queue) (heard_of o n c e.queue) [] [] [] → Fits o n s (channel_set dst c)
    set_fits c moves = rw found moves

    module _ (c : ChannelEnd) (is : e.channel ≡ Some c) (i : Item) where
      heard_none : hears_from o n c ≡ false → heard o n (endpoint_of s dst) ≡ None
      heard_none it = ap (heard o n) found ∙ (ap (λ x. heard_of o n x e.queue) is ∙ deaf o n c e.queue it)

      sender_set : (d : Option ChannelEnd) → is_sender c.side ≡ true → heard_of o n d e.queue ≡ None → Fits o n s (channel_set dst d)
      sender_set d it none = set_fits d (none_both _ _ (ap (λ x. heard_of o n x e.queue) is ∙ sender_deaf o n c e.queue it) none)

      far_closed_deaf : (hears_from o n c ≡ false) → heard_of o n (far_closed_end c) e.queue ≡ None
      far_closed_deaf it = cond_both (is_closed c.stage) None (Some (record c { far_closed = true })) (λ x. heard_of o n x e.queue ≡ None) (λ k. refl) (λ k. deaf o n (record c { far_closed = true }) e.queue it)

      far_closed_sender : is_sender c.side ≡ true → heard_of o n (far_closed_end c) e.queue ≡ None
      far_closed_sender it = cond_both (is_closed c.stage) None (Some (record c { far_closed = true })) (λ x. heard_of o n x e.queue ≡ None) (λ k. refl) (λ k. sender_deaf o n (record c { far_closed = true }) e.queue it)

      pub open_set : Fits o n s (channel_set dst (Some (record c { far_open = true })))
      open_set = set_fits (Some (record c { far_open = true })) (rw is (turned o n c (record c { far_open = true }) e.queue refl refl refl refl))

      data_fits : (m : ℕ) (k : Kind) → (m ≡ n → p ≡ o → ⊥) → Fit (first_row (flat_map (λ r. rows_by s dst e i (packet m []) r.applies r.leaves r.word) (data_rows p m k c) ++ last_row fate.State []))
      data_fits m k foreign =
          let other = λ (hears : hears_from p m c ≡ true). heard_none (other_deaf o n p m c e.queue (λ a b. foreign b a) hears) in
          by_rows Fit (flat_map (λ r. rows_by s dst e i (packet m []) r.applies r.leaves r.word) (data_rows p m k c) ++ last_row fate.State []) (
            (λ on. (other (and_parts (hears_from p m c) (same_kind c.kind k && (not c.far_closed && is_closed c.stage)) on).0, tt)),
            (λ off. (
              (λ on. (other (and_parts (hears_from p m c) (same_kind c.kind k && not c.far_closed) (and_parts (hears_from p m c && (same_kind c.kind k && not c.far_closed)) (one_waits s e.local) on).0).0, tt)),
              (λ off. ((λ on. (other (and_parts (hears_from p m c) (same_kind c.kind k && not c.far_closed) on).0, tt)), (λ off. tt))),
            )),
          )

      end_fits : (l : PlainLetter) → (turns_on n l ≡ true → p ≡ o → ⊥) → Fit (first_row (channel_rows s p dst e (Some c) i l))
      end_fits (accept m) foreign = by_rows Fit (channel_rows s p dst e (Some c) i (accept m)) (
        (λ on. let sends = (and_parts (is_sender c.side) (c.number == m && c.peer == p) (and_parts (sends_to p m c) (is_connecting c.stage) on).0).0 in
            (sender_set (Some (record c { stage = connected })) sends (sender_deaf o n (record c { stage = connected }) e.queue sends), (tt, tt))),
        (λ off. tt),
      )
      end_fits (reject m why) foreign = by_rows Fit (channel_rows s p dst e (Some c) i (reject m why)) (
        (λ on. let sends = (and_parts (is_sender c.side) (c.number == m && c.peer == p) (and_parts (sends_to p m c) (is_connecting c.stage) on).0).0 in
            (sender_set None sends refl, (tt, tt))),
        (λ off. tt),
      )
      end_fits (recv_open m) foreign = by_rows Fit (channel_rows s p dst e (Some c) i (recv_open m)) ((λ on. (open_set, tt)), (λ off. tt))
      end_fits (recv_close m) foreign = by_rows Fit (channel_rows s p dst e (Some c) i (recv_close m)) (
        (λ on. let sends = (and_parts (is_sender c.side) (c.number == m && c.peer == p) (and_parts (sends_to p m c) (not c.far_closed) on).0).0 in
            (sender_set (far_closed_end c) sends (far_closed_sender sends), tt)),
        (λ off. tt),
      )
      end_fits (send_open m) foreign = by_rows Fit (channel_rows s p dst e (Some c) i (send_open m)) ((λ on. (open_set, tt)), (λ off. tt))
      end_fits (send_close m) foreign = by_rows Fit (channel_rows s p dst e (Some c) i (send_close m)) (
        (λ on. let away = other_deaf o n p m c e.queue (λ a b. foreign (eq-eqb m n b) a) (and_parts (hears_from p m c) (not c.far_closed) on).0 in
            (tt, (set_fits (far_closed_end c) (none_both _ _ (ap (λ x. heard_of o n x e.queue) is ∙ deaf o n c e.queue away) (far_closed_deaf away)), tt))),
        (λ off. tt),
      )
      end_fits (msg priority content) foreign = tt
      end_fits (connect m kind) foreign = tt
      end_fits (packet m content) foreign = data_fits m Packet (λ a b. foreign (eq-eqb m n a) b)
      end_fits (scalar m bits value) foreign = data_fits m Scalar (λ a b. foreign (eq-eqb m n a) b)

    unconnected : e.channel ≡ None → heard o n (endpoint_of s dst) ≡ None
    unconnected is = ap (heard o n) found ∙ ap (λ x. heard_of o n x e.queue) is

    channel_fits : (x : Option ChannelEnd) → e.channel ≡ x → (i : Item) (l : PlainLetter) → (turns_on n l ≡ true → p ≡ o → ⊥) → Fit (first_row (channel_rows s p dst e x i l))
    channel_fits None is i l foreign = tt
    channel_fits (Some c) is i l foreign = end_fits c is i l foreign

    message_fits : (x : Option ChannelEnd) → e.channel ≡ x → (i : Item) → Fit (first_row (message_rows s dst e x i))
    message_fits (Some c) is i = tt
    message_fits None is i = by_rows Fit (message_rows s dst e None i) ((λ on. (unconnected is, tt)), (λ off. (unconnected is, tt)))

  rejecting_fits : (m : ℕ) (why : Reason) → FitAll o n s (rejecting p src dst m why)
  rejecting_fits m why = ((λ it. read.reject_other n dst src m why), tt)

  new_deaf : (m : ℕ) (kind : Kind) (q : List Item) → (m ≡ n → p ≡ o → ⊥) → heard_of o n (Some (accepted_end kind p m p src)) q ≡ None
  new_deaf m kind q foreign = go (m == n) (p == o) refl refl
    where
      go : (a b : Bool) → (m == n) ≡ a → (p == o) ≡ b → cond {A = Option Heard} (a && b) (Some (record { end = accepted_end kind p m p src; queue = q })) None ≡ None
      go true true x y = absurd (foreign (eqb-true m n x) (eqb-true p o y))
      go true false x y = refl
      go false b x y = refl

  connect_fits : (m : ℕ) (kind : Kind) (x : Option Endpoint) → endpoint_of s dst ≡ x → (p ≡ o → m < 2 ^ 32) → (m ≡ n → p ≡ o → ⊥) → Fit (first_row (connect_rows s p src dst x m kind))
  connect_fits m kind None found small foreign = by_rows Fit (connect_rows s p src dst None m kind) ((λ on. tt), (λ off. rejecting_fits m reason.NoEndpoint))
  connect_fits m kind (Some e) found small foreign =
      by_rows Fit (connect_rows s p src dst (Some e) m kind) (
        (λ on. tt),
        (λ off. (
          (λ on. rejecting_fits m reason.Connected),
          (λ free. (
            (λ on. rejecting_fits m reason.Busy),
            (λ idle. (
              set_fits e found (Some (accepted_end kind p m p src)) (none_both _ _ (ap (λ x. heard_of o n x e.queue) (no_end e.channel free)) (new_deaf m kind e.queue foreign)),
              ((λ it. let owner : p ≡ o = eqb-true p o it in read.accept_other n dst src m (small owner) (λ k. foreign k owner)), tt),
            )),
          )),
        )),
      )

  letter_fits : (x : Option Endpoint) → endpoint_of s dst ≡ x → (l : PlainLetter) → (p ≡ o → IsSmall l) → (turns_on n l ≡ true → p ≡ o → ⊥) → Fit (first_row (letter_rows s p key src dst x l))
  letter_fits x found (connect m kind) small foreign = connect_fits m kind x found small (λ a b. foreign (eq-eqb m n a) b)
  letter_fits None found l small foreign = tt
  letter_fits (Some e) found (msg priority content) small foreign = message_fits e found e.channel refl _
  letter_fits (Some e) found l small foreign = channel_fits e found e.channel refl _ l foreign

-- a frame that is no letter of the channel on its lane, nor a Connect of the owner with a number that fits no frame
abbrev pub IsForeign : ℕ → ℕ → ℕ → Reading → Type 0
IsForeign o n p (says src dst l) = (p ≡ o → IsSmall l) × (turns_on n l ≡ true → p ≡ o → ⊥)
IsForeign o n p other = Unit {0}

pub frame_fits : (read : RepliesRead) (o n : ℕ) (s : DomainState) (p : ℕ) (key : Came) (r : Reading) → IsForeign o n p r → FitAll o n s (first_row (rows s p key r)).happens
frame_fits read o n s p key (is_faulty f) foreign = tt
frame_fits read o n s p key (brings src dst q) foreign = by_part (FitAll o n s) s p key src dst q tt
frame_fits read o n s p key (announces name address create) foreign = by_names (FitAll o n s) s p key name address create tt (λ m. (tt, (tt, tt))) (λ m. (tt, tt))
frame_fits read o n s p key (says src dst l) foreign = letter_fits read o n s p key src dst (endpoint_of s dst) refl l foreign.0 foreign.1
