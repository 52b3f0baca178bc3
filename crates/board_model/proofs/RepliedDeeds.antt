-- Each deed keeps that what a domain has, knows and answers of names and replies was said: its changes say no more than the deed does.
use Rattle.std.proofs.Common.{◌≡◌, ◌⊎◌, inl, inr, ℕ, ◌+◌, Bool, true, false, not, cond, List, [], ◌∷◌, Option, Some, None, refl, sym, ap, ap₂, ◌∙◌, subst}
use Rattle.std.specs.Prelude.{find, ◌==◌, ◌&&◌, nat_lt, option_map, Contains}
use Rattle.std.proofs.lemmas.Bool.{cond_both, eqb-true, eq-eqb, and_parts}
use Rattle.std.proofs.lemmas.List.Elements.{Contains-push}
use Rattle.mc_base.specs.Limits.{first_address}
use Rattle.mc_base.specs.FullName.{end_name, endpoint_named}
use Rattle.mc_base.specs.NameMap.{Names, rank, has_name, learned, address_in}
use Rattle.mc_base.specs.Letter.{PlainLetter, accept, reject, send_close}
use Rattle.mc_base.specs.Reading.{Reading, is_faulty, announces, says, brings}
use Rattle.mc_base.specs.declared.channel.Side.{Side}
use Rattle.mc_base.specs.declared.channel.Side.TheVariants.{Sender, Receiver}
use Rattle.mc_base.specs.declared.name.EndName.{EndName}
use Rattle.mc_base.specs.declared.refusal.Refusal.{Refusal}
use Rattle.mc_base.specs.declared.fate.Fate.TheVariants as fate
use Rattle.board_model.specs.DomainCall.{DomainCall, create_at, delete_at, lookup_of, send_from, receive_at, request_at, available_at, connect_from, open_at, packet_from, lend_at, packet_request_at, release_of, scalar_from, scalar_at, close_at, test_of, wait_for, cancel_of, raw_to, turn_alone}
use Rattle.board_model.specs.Journal.{PlainResult, was_accepted, was_rejected, PlainAnswer, tells}
use Rattle.board_model.specs.State.{connected, Item, ChannelEnd, Endpoint, name_of, has_address, Peer, DomainState, is_at, is_numbered, live_at, endpoint_at, endpoint_of, peer_at, peer_of, channel_in, request_at_place}
use Rattle.board_model.specs.ChannelEnds.{sends_to, is_connecting, EndRow, end_row, left_row, end_row_of}
use Rattle.board_model.specs.Change.{Change, item_queued, item_handed, item_lost, packet_lent}
use Rattle.board_model.specs.Parts.{Came, came_from, said_from}
use Rattle.board_model.specs.TakenFrames.{names_of, name_rows, first_row, rejecting, accepting, acting, item_of, rows, row_of}
use Rattle.board_model.specs.Answer.{first_complete, local, known_address, address_of, refusal, success, answer_by, unless_refused}
use Rattle.board_model.specs.CallChanges.{closing, lending, lent_by_test, success_changes}
use Rattle.board_model.specs.Deeds.{Deed, looks_back, puts_owed, looks_ahead, takes, calls, happens_by, after_deed, MayDo}
use Rattle.board_model.specs.Replied.{announced_by, announced_in, sends_there, replied_in, replies_said}
use Rattle.board_model.proofs.MessageAlls.{all-filter, all-found, found-passes}
use Rattle.board_model.proofs.MessageLists.{get-position}
use Rattle.board_model.proofs.LaneRows.{Deals, stays, strays, awaits, learns, forgets, hands, queues, loses, rejects, accepts, acts, by_rows, row-deals}
use Rattle.board_model.proofs.StateEnds.{end-holds, tested-are}
use Rattle.board_model.proofs.HonestDeeds.{live_holds}
use Rattle.board_model.proofs.OrderLookups.{not_not}
use Rattle.board_model.proofs.RepliedSound.{same_parts, Settled, AllNamed, IsNamed, KnowsSaid, Said, FitAll, said_changes}

-- where the condition holds, the list has what it has then
pub there_if : {A : Type 0} (b : Bool) (x : A) → b ≡ true → Contains (cond b (x ∷ []) []) x
there_if b x on = subst (λ c. Contains (cond c (x ∷ []) []) x) (sym on) (Contains-push [] x)

both_true : (b c : Bool) → b ≡ true → c ≡ true → (b && c) ≡ true
both_true b c left right = ap₂ (λ x y. x && y) left right

-- what a deed makes is as may be made, and what it hears of names as may be said of them
abbrev pub Makes : (EndName → ℕ → Type 0) → DomainState → Deed → Type 0
Makes made s (calls node (create_at port) (tells address)) = made (end_name s.number (local node port)) address
Makes made s other = Unit {0}

abbrev pub HearsNamed : (ℕ → ℕ → Type 0) → DomainState → Deed → Type 0
HearsNamed named s (takes peer name frame word) = (n a : ℕ) → Contains (announced_in n peer (said_from s peer frame)) a → named n a
HearsNamed named s other = Unit {0}

module _ (made : EndName → ℕ → Type 0) (named : ℕ → ℕ → Type 0) (replied : ℕ → PlainResult → Type 0) (so_named : (n : EndName) (a : ℕ) → made n a → named (rank n) a) where
  learned_named : (n : EndName) (a : ℕ) (ks : Names) → named (rank n) a → AllNamed made named replied ks → AllNamed made named replied (learned n a ks)
  learned_named n a [] is all = (is, tt)
  learned_named n a (k ∷ ks) is all =
      cond_both (has_name n k) ((n, a) ∷ ks) (cond (nat_lt (rank n) (rank k.0)) ((n, a) ∷ k ∷ ks) (k ∷ learned n a ks)) (AllNamed made named replied)
      (λ here. (is, all.1))
      (λ other. cond_both (nat_lt (rank n) (rank k.0)) ((n, a) ∷ k ∷ ks) (k ∷ learned n a ks) (AllNamed made named replied) (λ first. (is, all)) (λ later. (all.0, learned_named n a ks is all.1)))

  module _ (s : DomainState) (said : Said made named replied s) where
    known_named : (q : ℕ) → AllNamed made named replied (names_of (peer_at s q))
    known_named q = by (peer_at s q) refl
      where
        by : (x : Option Peer) → peer_at s q ≡ x → AllNamed made named replied (names_of x)
        by None is = tt
        by (Some p) is = all-found (KnowsSaid made named replied) (is_numbered q) s.peers p said.names is

    -- ---- a frame

    names_fit : (t : DomainState) (q : ℕ) (text : List ℕ) (o : Option EndName) (a : ℕ) (there : Bool) → ((n : EndName) → o ≡ Some n → (n.domain == q) ≡ true → there ≡ true → named (rank n) a) → FitAll made named replied t (first_row (name_rows q (names_of (peer_at s q)) o a there)).happens
    names_fit t q text None a there heard = tt
    names_fit t q text (Some n) a true heard =
        by_rows (λ r. FitAll made named replied t r.happens) (name_rows q (names_of (peer_at s q)) (Some n) a true)
        ((λ foreign. tt), (λ own. ((λ full. tt), (λ room. let is = heard n refl (not_not (n.domain == q) own) refl in (learned_named n a (names_of (peer_at s q)) is (known_named q), (is, tt))))))
    names_fit t q text (Some n) a false heard =
        by_rows (λ r. FitAll made named replied t r.happens) (name_rows q (names_of (peer_at s q)) (Some n) a false)
        ((λ foreign. tt), (λ own. ((λ unknown. tt), (λ known. (all-filter (λ (k : EndName × ℕ). named (rank k.0) k.1) (λ k. not (has_name n k)) (names_of (peer_at s q)) (known_named q), tt)))))

    -- a letter that acts on a channel: an Accept and a Reject are replies
    module _ (q source at : ℕ) (e : Endpoint) (c : ChannelEnd) (found : endpoint_of s at ≡ Some e) (has : e.channel ≡ Some c) where
      sends_here : (b : Bool) (number : ℕ) (left left' : Option ChannelEnd) → (sends_to q number c && b) ≡ (sends_to q number c && b) → cond (sends_to q number c && b) (end_row (sends_to q number c && b) fate.Acted left) (left_row (Some c)) ≡ end_row true fate.Acted left' → sends_there q number (channel_in (endpoint_of s at)) ≡ true
      sends_here b number left left' same is = ap (λ o. sends_there q number (channel_in o)) found ∙ (ap (sends_there q number) has ∙ (and_parts (sends_to q number c) b (go (sends_to q number c && b) is)).0)
        where
          go : (on : Bool) → cond on (end_row on fate.Acted left) (left_row (Some c)) ≡ end_row true fate.Acted left' → on ≡ true
          go true is = refl
          go false is = let word : fate.State ≡ fate.Acted = ap (λ (r : EndRow). r.word) is in absurd cc

      acts_fit : (t : DomainState) (left : Option ChannelEnd) (l : PlainLetter) → end_row_of q (Some c) l ≡ end_row true fate.Acted left → ((k : ℕ) (r : PlainResult) → Contains (replied_in k s q (says source at l)) r → replied k r) → FitAll made named replied t (acting at left l)
      acts_fit t left (accept number) row heard = (
        tt,
        (
          heard number was_accepted (there_if ((number == number) && sends_there q number (channel_in (endpoint_of s at))) was_accepted
              (both_true (number == number) (sends_there q number (channel_in (endpoint_of s at))) (eq-eqb number number refl) (sends_here (is_connecting c.stage) number (Some (record c { stage = connected })) left refl row))),
          tt,
        ),
      )
      acts_fit t left (reject number why) row heard = (
        tt,
        (
          heard number (was_rejected why) (there_if ((number == number) && sends_there q number (channel_in (endpoint_of s at))) (was_rejected why)
              (both_true (number == number) (sends_there q number (channel_in (endpoint_of s at))) (eq-eqb number number refl) (sends_here (is_connecting c.stage) number None left refl row))),
          tt,
        ),
      )
      acts_fit t left (send_close number) row heard = (tt, (tt, tt))
      acts_fit t left other row heard = (tt, tt)

    letter_fits : (t : DomainState) (q : ℕ) (name : Came) (source at : ℕ) (l : PlainLetter) → ((k : ℕ) (r : PlainResult) → Contains (replied_in k s q (says source at l)) r → replied k r) → FitAll made named replied t (row_of s q name (says source at l)).happens
    letter_fits t q name source at l heard = go (row-deals s q name (says source at l))
      where
        by : (cs : List Change) → (row_of s q name (says source at l)).happens ≡ cs → FitAll made named replied t cs → FitAll made named replied t (row_of s q name (says source at l)).happens
        by cs happens fits = subst (FitAll made named replied t) (sym happens) fits

        acted : (from to : ℕ) (m : PlainLetter) → says source at l ≡ says from to m → (e : Endpoint) (c : ChannelEnd) (left : Option ChannelEnd) → endpoint_of s to ≡ Some e → e.channel ≡ Some c → end_row_of q (Some c) m ≡ end_row true fate.Acted left → FitAll made named replied t (acting to left m)
        acted from to m same e c left found has row = acts_fit q from to e c found has t left m row (λ k r in_it. heard k r (subst (λ x. Contains (replied_in k s q x) r) (sym same) in_it))

        go : Deals s q name (says source at l) (row_of s q name (says source at l)) → FitAll made named replied t (row_of s q name (says source at l)).happens
        go (stays happens word) = by [] happens tt
        go (strays from to piece is none happens word) = by [] happens tt
        go (awaits from to piece is some happens word) = by [] happens tt
        go (learns text n a names is learned_so happens word) = absurd cc
        go (forgets text n a names is forgotten_so happens word) = absurd cc
        go (hands from to m e is found carried waits happens word) = by (item_handed to (item_of q name from m) ∷ []) happens (tt, tt)
        go (queues from to m e is found carried none happens word) = by (item_queued to (item_of q name from m) ∷ []) happens (tt, tt)
        go (loses from to m e is found late happens word) = by (item_lost to (item_of q name from m) ∷ []) happens (tt, tt)
        go (rejects from to number kind why is happens word) = by (rejecting q from to number why) happens (tt, tt)
        go (accepts from to number kind e is found free idle happens word) = by (accepting q from to number kind) happens (tt, (tt, tt))
        go (acts from to m e c left is found has row happens word) = by (acting to left m) happens (acted from to m is e c left found has row)

    frame_fits : (t : DomainState) (q : ℕ) (name : Came) (r : Reading) → ((n a : ℕ) → Contains (announced_in n q r) a → named n a) → ((k : ℕ) (x : PlainResult) → Contains (replied_in k s q r) x → replied k x) → FitAll made named replied t (row_of s q name r).happens
    frame_fits t q name (is_faulty f) announced heard = tt
    frame_fits t q name (announces text a there) announced heard = names_fit t q text (endpoint_named text) a there by
      where
        by : (n : EndName) → endpoint_named text ≡ Some n → (n.domain == q) ≡ true → there ≡ true → named (rank n) a
        by n is own shown = announced (rank n) a
            (subst (λ b. Contains (announced_in (rank n) q (announces text a b)) a) (sym shown)
            (subst (λ o. Contains (announced_by (rank n) q a o) a) (sym is) (there_if (n.domain == q && (rank n == rank n)) a (both_true (n.domain == q) (rank n == rank n) own (eq-eqb (rank n) (rank n) refl)))))
    frame_fits t q name (says source at l) announced heard = letter_fits t q name source at l heard
    frame_fits t q name (brings source at piece) announced heard = by_rows (λ r. FitAll made named replied t r.happens) (rows s q name (brings source at piece)) ((λ stray. tt), (λ held. tt))

    -- ---- a call

    lending_fits : (t : DomainState) (o : Option Item) → FitAll made named replied t (lending o)
    lending_fits t None = tt
    lending_fits t (Some i) = (tt, tt)

    tested_fits : (t : DomainState) (lent : List Change) → (lent ≡ []) ⊎ ((i : Item) × (lent ≡ packet_lent i ∷ [])) → FitAll made named replied t lent
    tested_fits t lent (inl none) = subst (FitAll made named replied t) (sym none) tt
    tested_fits t lent (inr one) = subst (FitAll made named replied t) (sym one.1) (tt, tt)

    -- the address that a lookup finds at once: of an endpoint of the domain, or one that is known
    own_named : (n : EndName) → (n.domain == s.number) ≡ true → (x : Option Endpoint) → find (is_at (local n.node n.port)) s.endpoints ≡ x → Settled named replied (name_of n) (option_map has_address (option_map (λ e. e.address) x))
    own_named n here None is = tt
    own_named n here (Some e) is =
        let at = and_parts (e.local.node == n.node) (e.local.port == n.port) (found-passes (is_at (local n.node n.port)) s.endpoints e is) in
        so_named n e.address (subst (λ m. made m e.address) (same_parts (end_name s.number e.local) n (sym (eqb-true n.domain s.number here)) (eqb-true e.local.node n.node at.0) (eqb-true e.local.port n.port at.1)) (all-found (IsNamed made named replied s.number) (is_at (local n.node n.port)) s.endpoints e said.ends is))

    far_named : (n : EndName) (ks : Names) → AllNamed made named replied ks → Settled named replied (name_of n) (option_map has_address (address_in n ks))
    far_named n ks all = go (find (has_name n) ks) refl
      where
        go : (x : Option (EndName × ℕ)) → find (has_name n) ks ≡ x → Settled named replied (name_of n) (option_map has_address (option_map (λ (k : EndName × ℕ). k.1) x))
        go None is = tt
        go (Some k) is = subst (λ r. named r k.1) (eqb-true (rank k.0) (rank n) (found-passes (has_name n) ks k is)) (all-found (λ (j : EndName × ℕ). named (rank j.0) j.1) (has_name n) ks k all is)

    peer_named : (n : EndName) (y : Option Peer) → find (is_numbered n.domain) s.peers ≡ y → Settled named replied (name_of n) (option_map has_address (known_address n y))
    peer_named n None is = tt
    peer_named n (Some p) is = far_named n p.known (all-found (KnowsSaid made named replied) (is_numbered n.domain) s.peers p said.names is)

    lookup_settled : (n : EndName) → Settled named replied (name_of n) (option_map has_address (address_of s n))
    lookup_settled n =
        go (n.domain == s.number) refl (endpoint_at s (local n.node n.port)) (peer_of s n.domain) (sym (get-position (is_at (local n.node n.port)) s.endpoints)) (sym (get-position (is_numbered n.domain) s.peers))
      where
        go : (b : Bool) → (n.domain == s.number) ≡ b → (x : Option Endpoint) (y : Option Peer) → find (is_at (local n.node n.port)) s.endpoints ≡ x → find (is_numbered n.domain) s.peers ≡ y →
            Settled named replied (name_of n) (option_map has_address (cond b (option_map (λ (e : Endpoint). e.address) x) (known_address n y)))
        go true here x y ends peers = own_named n here x ends
        go false here x y ends peers = peer_named n y peers

    success_fits : (node : ℕ) (call : DomainCall) → Makes made s (calls node call (success s node call)) → FitAll made named replied s (success_changes s node call)
    success_fits node (create_at port) makes = (makes, ((λ there. makes), (so_named (end_name s.number (local node port)) (first_address + s.endpoints_given) makes, tt)))
    success_fits node (delete_at port) makes = live_holds (FitAll made named replied s) tt (live_at s (local node port)) _ (λ e is. (tt, (tt, ((λ there. absurd cc), tt))))
    success_fits node (lookup_of name) makes = (lookup_settled name, tt)
    success_fits node (send_from port to priority bytes) makes = (tt, tt)
    success_fits node (receive_at port max) makes = live_holds (FitAll made named replied s) tt (live_at s (local node port)) _ (λ e is. (tt, tt))
    success_fits node (request_at port max) makes = live_holds (FitAll made named replied s) tt (live_at s (local node port)) _ (λ e is. (tt, (tt, tt)))
    success_fits node (available_at port) makes = tt
    success_fits node (connect_from port to kind) makes = live_holds (FitAll made named replied s) tt (live_at s (local node port)) _ (λ e is. (tt, (tt, (tt, (tt, tt)))))
    success_fits node (open_at port side kind) makes = end-holds (FitAll made named replied s) tt (live_at s (local node port)) _ (λ e c is has. (tt, (tt, tt)))
    success_fits node (packet_from port bytes) makes = end-holds (FitAll made named replied s) tt (live_at s (local node port)) _ (λ e c is has. (tt, tt))
    success_fits node (lend_at port) makes = live_holds (FitAll made named replied s) tt (live_at s (local node port)) _ (λ e is. (tt, lending_fits _ _))
    success_fits node (packet_request_at port) makes = live_holds (FitAll made named replied s) tt (live_at s (local node port)) _ (λ e is. (tt, (tt, tt)))
    success_fits node (release_of place) makes = (tt, tt)
    success_fits node (scalar_from port bits value) makes = end-holds (FitAll made named replied s) tt (live_at s (local node port)) _ (λ e c is has. (tt, tt))
    success_fits node (scalar_at port bits) makes = live_holds (FitAll made named replied s) tt (live_at s (local node port)) _ (λ e is. (tt, tt))
    success_fits node (close_at port side) makes = end-holds (FitAll made named replied s) tt (live_at s (local node port)) (closing side) (λ e c is has. closes_fit side e c)
      where
        closes_fit : (side : Side) (e : Endpoint) (c : ChannelEnd) → FitAll made named replied s (closing side e c)
        closes_fit Sender e c = (tt, (tt, tt))
        closes_fit Receiver e c = (tt, (tt, (tt, tt)))
    success_fits node (test_of request) makes = (tt, tested_fits _ (lent_by_test (request_at_place s request)) (tested-are (request_at_place s request)))
    success_fits node (wait_for requests says_place) makes = (tt, tested_fits _ (lent_by_test (request_at_place s (first_complete s requests))) (tested-are (request_at_place s (first_complete s requests))))
    success_fits node (cancel_of request) makes = (tt, tt)
    success_fits node (raw_to to bytes) makes = (tt, tt)
    success_fits node turn_alone makes = tt

    -- ---- a deed

    call_fits : (node : ℕ) (call : DomainCall) (a : PlainAnswer) (r : Option Refusal) → a ≡ answer_by r (success s node call) → Makes made s (calls node call a) → FitAll made named replied s (unless_refused r [] (success_changes s node call))
    call_fits node call a (Some w) is makes = tt
    call_fits node call a None is makes = success_fits node call (subst (λ b. Makes made s (calls node call b)) is makes)

    deed_fits : (d : Deed) → MayDo s d → Makes made s d → HearsNamed named s d → ((k : ℕ) (r : PlainResult) → Contains (replies_said k s d) r → replied k r) → FitAll made named replied s (happens_by s d)
    deed_fits (looks_back q n) may makes heard replies = (tt, tt)
    deed_fits (puts_owed q frame) may makes heard replies = (tt, tt)
    deed_fits (looks_ahead q n) may makes heard replies = (tt, tt)
    deed_fits (takes q name frame word) may makes heard replies = (tt, frame_fits _ q (came_from s q name frame) (said_from s q frame) heard replies)
    deed_fits (calls node call a) may makes heard replies = call_fits node call a (refusal s node call) may makes

    pub said_deed : (d : Deed) → MayDo s d → Makes made s d → HearsNamed named s d → ((k : ℕ) (r : PlainResult) → Contains (replies_said k s d) r → replied k r) → Said made named replied (after_deed s d)
    said_deed d may makes heard replies = said_changes made named replied s (happens_by s d) (deed_fits d may makes heard replies) said
