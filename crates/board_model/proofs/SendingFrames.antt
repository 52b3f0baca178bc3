-- What frames do to the sender's end of a channel.
use Rattle.board_model.specs.Parts.{Came}
use Rattle.std.proofs.Common.{◌≡◌, ℕ, Bool, true, false, not, cond, ◌⊎◌, inl, inr, List, Option, Some, None, refl, sym, ap₂, ◌∙◌, subst, arith}
use Rattle.std.specs.Prelude.{◌==◌, ◌&&◌}
use Rattle.std.proofs.lemmas.Bool.{and_parts, eqb-true, eq-eqb, cond_both}
use Rattle.mc_base.specs.Letter.{PlainLetter, msg, connect, accept, reject, recv_open, send_open, packet, scalar, send_close, recv_close}
use Rattle.mc_base.specs.declared.channel.Kind.{Kind}
use Rattle.board_model.proofs.Hearing.{accepts}
use Rattle.board_model.proofs.HearingFrames.{by_names}
use Rattle.board_model.proofs.Sending.{sent_of, Accepted, Alters, same, turned, gone, FitsOut, FitAllOut}
use Rattle.board_model.proofs.ChannelWords.{is_sender}
use Rattle.board_model.specs.Change.{channel_set}
use Rattle.board_model.specs.ChannelEnds.{sends_to, is_closed, is_connecting, far_closed_end}
use Rattle.board_model.specs.State.{Item, ChannelEnd, Endpoint, DomainState, connected, endpoint_of}
use Rattle.board_model.specs.TakenFrames.{Row, first_row, rows, letter_rows, channel_rows, message_rows, connect_rows}
use Rattle.mc_base.specs.Reading.{Reading, is_faulty, announces, says, brings}
use Rattle.board_model.proofs.LaneRows.{by_rows, by_part}
use Rattle.board_model.proofs.HearingCalls.{no_end}

not_true : (b : Bool) → not b ≡ true → b ≡ false
not_true true e = absurd cc
not_true false e = refl

-- `q` is the peer that the frame came from; `t` the frames taken from `p`, this one among them where it is from `p`
module _ (n p : ℕ) (t : List (List ℕ)) (s : DomainState) (q : ℕ) (key : Came) (src dst : ℕ) where
  abbrev Fit : Row → Type 0
  Fit r = FitAllOut n p t s r.happens

  -- an end whose number and side are those of another
  pub turned_to : (c d : ChannelEnd) → d.side ≡ c.side → d.number ≡ c.number → d.peer ≡ c.peer → d.peer_address ≡ c.peer_address → d.kind ≡ c.kind → ((c.number == n) ≡ true → (c.peer == p) ≡ true → is_closed d.stage ≡ is_closed c.stage) →
      ((c.number == n) ≡ true → (c.peer == p) ≡ true → is_connecting d.stage ≡ false → (is_connecting c.stage ≡ false) ⊎ Accepted n t) → Alters n p t (sent_of n (Some c)) (sent_of n (Some d))
  turned_to c d side number peer address kind still keep =
      subst (λ b. Alters n p t (sent_of n (Some c)) (cond b (Some d) None)) (sym (ap₂ (λ x k. is_sender x && k == n) side number)) (go (is_sender c.side) (c.number == n) refl)
    where
      go : (a b : Bool) → (c.number == n) ≡ b → Alters n p t (cond (a && b) (Some c) None) (cond (a && b) (Some d) None)
      go true true is = turned c d peer address kind (still is) (keep is)
      go true false is = same None
      go false b is = same None

  pub gone_from : (c : ChannelEnd) → Alters n p t (sent_of n (Some c)) None
  gone_from c = cond_both (is_sender c.side && c.number == n) (Some c) None (λ x. Alters n p t x None) (λ e. gone c) (λ e. same None)

  pub far_closed_from : (c : ChannelEnd) → Alters n p t (sent_of n (Some c)) (sent_of n (far_closed_end c))
  far_closed_from c = cond_both (is_closed c.stage) None (Some (record c { far_closed = true })) (λ x. Alters n p t (sent_of n (Some c)) (sent_of n x)) (λ e. gone_from c) (λ e. turned_to c (record c { far_closed = true }) refl refl refl refl refl (λ a b. refl) (λ a b k. inl k))

  module _ (e : Endpoint) (found : endpoint_of s dst ≡ Some e) where
    set_fits : (c : ChannelEnd) (x : Option ChannelEnd) → e.channel ≡ Some c → Alters n p t (sent_of n (Some c)) (sent_of n x) → FitsOut n p t s (channel_set dst x)
    set_fits c x is alters = rw (found, is) alters

    -- the frame is an accept from the peer of the end
    accept_keeps : (m : ℕ) (c : ChannelEnd) → ((q ≡ p) → (m ≡ n) → Accepted n t) → sends_to q m c ≡ true → (c.number == n) ≡ true → (c.peer == p) ≡ true → Accepted n t
    accept_keeps m c told it number peer =
        let x = and_parts (c.number == m) (c.peer == q) (and_parts (is_sender c.side) (c.number == m && c.peer == q) it).1 in
        told (sym (eqb-true c.peer q x.1) ∙ eqb-true c.peer p peer) (sym (eqb-true c.number m x.0) ∙ eqb-true c.number n number)

    end_fits : (c : ChannelEnd) → e.channel ≡ Some c → (i : Item) (l : PlainLetter) → ((m : ℕ) → l ≡ accept m → (q ≡ p) → (m ≡ n) → Accepted n t) → Fit (first_row (channel_rows s q dst e (Some c) i l))
    end_fits c is i (accept m) told = by_rows Fit (channel_rows s q dst e (Some c) i (accept m)) (
      (λ on. let parts = and_parts (sends_to q m c) (is_connecting c.stage) on in
          (set_fits c (Some (record c { stage = connected })) is (turned_to c (record c { stage = connected }) refl refl refl refl refl (λ a b. connecting_open c parts.1) (λ a b k. inr (accept_keeps m c (told m refl) parts.0 a b))), (tt, tt))),
      (λ off. tt),
    )
      where
        connecting_open : (c : ChannelEnd) → is_connecting c.stage ≡ true → false ≡ is_closed c.stage
        connecting_open c it = grind arith
    end_fits c is i (reject m why) told = by_rows Fit (channel_rows s q dst e (Some c) i (reject m why)) ((λ on. (set_fits c None is (gone_from c), (tt, tt))), (λ off. tt))
    end_fits c is i (recv_open m) told = by_rows Fit (channel_rows s q dst e (Some c) i (recv_open m))
        ((λ on. (set_fits c (Some (record c { far_open = true })) is (turned_to c (record c { far_open = true }) refl refl refl refl refl (λ a b. refl) (λ a b k. inl k)), tt)), (λ off. tt))
    end_fits c is i (recv_close m) told = by_rows Fit (channel_rows s q dst e (Some c) i (recv_close m)) ((λ on. (set_fits c (far_closed_end c) is (far_closed_from c), tt)), (λ off. tt))
    end_fits c is i (send_open m) told = by_rows Fit (channel_rows s q dst e (Some c) i (send_open m))
        ((λ on. (set_fits c (Some (record c { far_open = true })) is (turned_to c (record c { far_open = true }) refl refl refl refl refl (λ a b. refl) (λ a b k. inl k)), tt)), (λ off. tt))
    end_fits c is i (packet m content) told = by_rows Fit (channel_rows s q dst e (Some c) i (packet m content)) ((λ on. (tt, tt)), (λ off. ((λ on. (tt, tt)), (λ off. ((λ on. (tt, tt)), (λ off. tt))))))
    end_fits c is i (send_close m) told = by_rows Fit (channel_rows s q dst e (Some c) i (send_close m)) ((λ on. (tt, (set_fits c (far_closed_end c) is (far_closed_from c), tt))), (λ off. tt))
    end_fits c is i (msg priority content) told = tt
    end_fits c is i (connect m kind) told = tt
    end_fits c is i (scalar m bits value) told = by_rows Fit (channel_rows s q dst e (Some c) i (scalar m bits value)) ((λ on. (tt, tt)), (λ off. ((λ on. (tt, tt)), (λ off. ((λ on. (tt, tt)), (λ off. tt))))))

    channel_fits : (x : Option ChannelEnd) → e.channel ≡ x → (i : Item) (l : PlainLetter) → ((m : ℕ) → l ≡ accept m → (q ≡ p) → (m ≡ n) → Accepted n t) → Fit (first_row (channel_rows s q dst e x i l))
    channel_fits None is i l told = tt
    channel_fits (Some c) is i l told = end_fits c is i l told

    message_fits : (x : Option ChannelEnd) (i : Item) → Fit (first_row (message_rows s dst e x i))
    message_fits (Some c) i = tt
    message_fits None i = by_rows Fit (message_rows s dst e None i) ((λ on. (tt, tt)), (λ off. (tt, tt)))

  connect_fits : (m : ℕ) (kind : Kind) (x : Option Endpoint) → endpoint_of s dst ≡ x → Fit (first_row (connect_rows s q src dst x m kind))
  connect_fits m kind None found = by_rows Fit (connect_rows s q src dst None m kind) ((λ on. tt), (λ off. (tt, tt)))
  connect_fits m kind (Some e) found = by_rows Fit (connect_rows s q src dst (Some e) m kind) (
    (λ on. tt),
    (λ off. (
      (λ on. (tt, tt)),
      (λ free. (
        (λ on. (tt, tt)),
        (λ idle.
            (rw (found, no_end e.channel free) (same None), (tt, tt))),
      )),
    )),
  )

  letter_fits : (x : Option Endpoint) → endpoint_of s dst ≡ x → (l : PlainLetter) → ((m : ℕ) → l ≡ accept m → (q ≡ p) → (m ≡ n) → Accepted n t) → Fit (first_row (letter_rows s q key src dst x l))
  letter_fits x found (connect m kind) told = connect_fits m kind x found
  letter_fits None found (msg priority content) told = tt
  letter_fits None found (accept m) told = tt
  letter_fits None found (reject m why) told = tt
  letter_fits None found (recv_open m) told = tt
  letter_fits None found (send_open m) told = tt
  letter_fits None found (packet m content) told = tt
  letter_fits None found (scalar m bits value) told = tt
  letter_fits None found (send_close m) told = tt
  letter_fits None found (recv_close m) told = tt
  letter_fits (Some e) found (msg priority content) told = message_fits e found e.channel _
  letter_fits (Some e) found (accept m) told = channel_fits e found e.channel refl _ (accept m) told
  letter_fits (Some e) found (reject m why) told = channel_fits e found e.channel refl _ (reject m why) told
  letter_fits (Some e) found (recv_open m) told = channel_fits e found e.channel refl _ (recv_open m) told
  letter_fits (Some e) found (send_open m) told = channel_fits e found e.channel refl _ (send_open m) told
  letter_fits (Some e) found (packet m content) told = channel_fits e found e.channel refl _ (packet m content) told
  letter_fits (Some e) found (scalar m bits value) told = channel_fits e found e.channel refl _ (scalar m bits value) told
  letter_fits (Some e) found (send_close m) told = channel_fits e found e.channel refl _ (send_close m) told
  letter_fits (Some e) found (recv_close m) told = channel_fits e found e.channel refl _ (recv_close m) told

pub frame_fits_out : (n p : ℕ) (t : List (List ℕ)) (s : DomainState) (q : ℕ) (key : Came) (r : Reading) → ((q ≡ p) → accepts n r ≡ true → Accepted n t) → FitAllOut n p t s (first_row (rows s q key r)).happens
frame_fits_out n p t s q key (is_faulty f) told = tt
frame_fits_out n p t s q key (brings src dst x) told = by_part (FitAllOut n p t s) s q key src dst x tt
frame_fits_out n p t s q key (announces name address create) told = by_names (FitAllOut n p t s) s q key name address create tt (λ m. (tt, (tt, tt))) (λ m. (tt, tt))
frame_fits_out n p t s q key (says src dst l) told = letter_fits n p t s q key src dst (endpoint_of s dst) refl l
    (λ m is from number. told from (subst (λ k. accepts n (says src dst k) ≡ true) (sym is) (eq-eqb m n number)))
