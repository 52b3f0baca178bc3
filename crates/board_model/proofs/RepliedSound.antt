-- Each change keeps this of a domain: the addresses of its endpoints, and those that it announces, were made for their names; the addresses
-- that it knows of names were said of them; and what its requests to look up and to connect are complete with was said.
use Rattle.std.proofs.Common.{◌≡◌, ℕ, ◌+◌, ◌-◌, Bool, true, not, cond, List, [], ◌∷◌, ◌++◌, map, drop, length, Option, Some, None, sym, ap, ◌∙◌, subst}
use Rattle.std.specs.Prelude.{◌==◌, ◌&&◌, is_none}
use Rattle.std.specs.List.{AllByRecursion}
use Rattle.std.proofs.lemmas.Bool.{cond_both, eqb-true, and_parts}
use Rattle.mc_base.specs.Limits.{first_address}
use Rattle.mc_base.specs.FullName.{end_name}
use Rattle.mc_base.specs.NameMap.{Names, rank}
use Rattle.mc_base.specs.declared.name.EndName.{EndName}
use Rattle.mc_base.specs.declared.refusal.Refusal.{Refusal}
use Rattle.board_model.specs.Journal.{PlainResult, was_accepted, was_rejected}
use Rattle.board_model.specs.Choice.{without_best}
use Rattle.board_model.specs.State.{Item, Endpoint, Asked, name_of, channel_of, message_at, packet_at, Outcome, has_address, is_accepted, is_rejected, has_item, has_ended, Announcement, Request, Peer, DomainState, has_address_of, endpoint_of, waits_at, is_numbered}
use Rattle.board_model.specs.Change.{Change, endpoint_made, endpoint_gone, item_queued, best_gone, oldest_gone, channel_set, queue_dropped, request_added, item_handed, waiting_ended, name_found, connect_settled, request_gone, end_announced, reply_owed, owed_put, buffers_back, frames_shown, frame_taken, names_known, buffers_used, endpoint_with, with_queue, with_channel, without_queue, done_with, same_name, asks_for, connects_on, all_done, handed_in, ended_in, at_peer, also_owed, first_put, endpoints_after, requests_after, peers_after, changed, changed_all}
use Rattle.board_model.proofs.ListsApart.{all-map}
use Rattle.board_model.proofs.MessageAlls.{all-append, all-changed-first, all-drop, all-filter, all-weaken, all-without}

-- what a request is complete with was said: of a name, by its place in the order of names, or of a channel
abbrev pub Settled : (ℕ → ℕ → Type 0) → (ℕ → PlainResult → Type 0) → Asked → Option Outcome → Type 0
Settled named replied (name_of n) (Some (has_address a)) = named (rank n) a
Settled named replied (channel_of k) (Some is_accepted) = replied k was_accepted
Settled named replied (channel_of k) (Some (is_rejected why)) = replied k (was_rejected why)
Settled named replied asked o = Unit {0}

-- a name is the same as another where its parts are
name_by : ℕ → ℕ → ℕ → EndName
name_by domain node port = record { domain = domain; node = node; port = port }

pub same_parts : (m n : EndName) → m.domain ≡ n.domain → m.node ≡ n.node → m.port ≡ n.port → m ≡ n
unfolding name_by
same_parts m n domain node port = ap (λ d. name_by d m.node m.port) domain ∙ (ap (λ o. name_by n.domain o m.port) node ∙ ap (λ p. name_by n.domain n.node p) port)

pub same_rank : (n m : EndName) → same_name n m ≡ true → rank m ≡ rank n
same_rank n m same =
    let parts = and_parts (m.domain == n.domain) (m.node == n.node && m.port == n.port) same in
    let rest = and_parts (m.node == n.node) (m.port == n.port) parts.1 in
    ap rank (same_parts m n (eqb-true m.domain n.domain parts.0) (eqb-true m.node n.node rest.0) (eqb-true m.port n.port rest.1))

module _ (made : EndName → ℕ → Type 0) (named : ℕ → ℕ → Type 0) (replied : ℕ → PlainResult → Type 0) where
  abbrev pub AllNamed : Names → Type 0
  AllNamed ks = AllByRecursion (λ k. named (rank k.0) k.1) ks

  abbrev pub IsNamed : ℕ → Endpoint → Type 0
  IsNamed number e = made (end_name number e.local) e.address

  abbrev pub KnowsSaid : Peer → Type 0
  KnowsSaid p = AllNamed p.known

  -- an announcement that is owed: of an endpoint that is there, it has its address
  abbrev pub IsMade : ℕ → Announcement → Type 0
  IsMade number a = a.create ≡ true → made (end_name number a.local) a.address

  abbrev pub OwesMade : ℕ → Peer → Type 0
  OwesMade number p = AllByRecursion (IsMade number) p.announcements

  abbrev pub IsSettled : Request → Type 0
  IsSettled r = Settled named replied r.asked r.outcome

  pub record Said (s : DomainState) : Type 0 where
    pub ends : AllByRecursion (IsNamed s.number) s.endpoints
    pub owed : AllByRecursion (OwesMade s.number) s.peers
    pub names : AllByRecursion KnowsSaid s.peers
    pub settled : AllByRecursion IsSettled s.requests

  -- what is asked of a change
  abbrev pub Fits : DomainState → Change → Type 0
  Fits s (endpoint_made at) = made (end_name s.number at) (first_address + s.endpoints_given)
  Fits s (end_announced a) = IsMade s.number a
  Fits s (names_known q ks) = AllNamed ks
  Fits s (name_found n a) = named (rank n) a
  Fits s (connect_settled k o) = Settled named replied (channel_of k) (Some o)
  Fits s (request_added asked o) = Settled named replied asked o
  Fits s other = Unit {0}

  with_item : (asked : Asked) (i : Item) → Settled named replied asked (Some (has_item i))
  with_item (name_of n) i = tt
  with_item (channel_of k) i = tt
  with_item (message_at at max) i = tt
  with_item (packet_at at) i = tt

  with_end : (asked : Asked) (word : Refusal) → Settled named replied asked (Some (has_ended word))
  with_end (name_of n) word = tt
  with_end (channel_of k) word = tt
  with_end (message_at at max) word = tt
  with_end (packet_at at) word = tt

  with_address : (n : EndName) (a : ℕ) → named (rank n) a → (asked : Asked) → asks_for n asked ≡ true → Settled named replied asked (Some (has_address a))
  with_address n a is (name_of m) same = subst (λ r. named r a) (sym (same_rank n m same)) is
  with_address n a is (channel_of k) same = tt
  with_address n a is (message_at at max) same = tt
  with_address n a is (packet_at at) same = tt

  with_reply : (k : ℕ) (o : Outcome) → Settled named replied (channel_of k) (Some o) → (asked : Asked) → connects_on k asked ≡ true → Settled named replied asked (Some o)
  with_reply k o is (name_of m) same = absurd cc
  with_reply k o is (channel_of m) same = subst (λ n. Settled named replied (channel_of n) (Some o)) (sym (eqb-true m k same)) is
  with_reply k o is (message_at at max) same = tt
  with_reply k o is (packet_at at) same = tt

  all_mapped : {A : Type 0} (P : A → Type 0) (f : A → A) → ((x : A) → P x → P (f x)) → (xs : List A) → AllByRecursion P xs → AllByRecursion P (map f xs)
  all_mapped P f keeps xs all = all-map P f xs (all-weaken P (λ x. P (f x)) keeps xs all)

  done_settled : (asks : Asked → Bool) (o : Outcome) → ((asked : Asked) → asks asked ≡ true → Settled named replied asked (Some o)) → (r : Request) → IsSettled r → IsSettled (all_done asks o r)
  done_settled asks o fits r is =
      cond_both (is_none r.outcome && asks r.asked) (done_with o r) r IsSettled (λ both. fits r.asked (and_parts (is_none r.outcome) (asks r.asked) both).1) (λ not_it. is)

  module _ (s : DomainState) (said : Said s) where
    ends_kept : (c : Change) → Fits s c → AllByRecursion (IsNamed s.number) (endpoints_after c s)
    ends_kept (endpoint_made at) fits = all-append (IsNamed s.number) s.endpoints (endpoint_with s at ∷ []) said.ends (fits, tt)
    ends_kept (endpoint_gone a) fits = all-filter (IsNamed s.number) (λ e. not (has_address_of a e)) s.endpoints said.ends
    ends_kept (item_queued a i) fits = all-changed-first (IsNamed s.number) (has_address_of a) (with_queue (λ q. q ++ i ∷ [])) s.endpoints said.ends (λ e is well. well)
    ends_kept (best_gone a) fits = all-changed-first (IsNamed s.number) (has_address_of a) (with_queue (without_best (λ i. i.priority))) s.endpoints said.ends (λ e is well. well)
    ends_kept (oldest_gone a) fits = all-changed-first (IsNamed s.number) (has_address_of a) (with_queue (drop 1)) s.endpoints said.ends (λ e is well. well)
    ends_kept (channel_set a c) fits = all-changed-first (IsNamed s.number) (has_address_of a) (with_channel c) s.endpoints said.ends (λ e is well. well)
    ends_kept (queue_dropped a c) fits = all-changed-first (IsNamed s.number) (has_address_of a) (without_queue c) s.endpoints said.ends (λ e is well. well)
    ends_kept other fits = said.ends

    -- what is owed
    debts_kept : (q : ℕ) (f : Peer → Peer) → ((p : Peer) → OwesMade s.number p → OwesMade s.number (f p)) → AllByRecursion (OwesMade s.number) (at_peer q f s.peers)
    debts_kept q f keep = all-changed-first (OwesMade s.number) (is_numbered q) f s.peers said.owed (λ p is well. keep p well)

    also_owes : (a : Announcement) → IsMade s.number a → (p : Peer) → OwesMade s.number p → OwesMade s.number (also_owed s.number a p)
    also_owes a fits p is = cond_both (p.number == s.number) p (record p { announcements = p.announcements ++ a ∷ [] }) (OwesMade s.number) (λ k. is) (λ k. all-append (IsMade s.number) p.announcements (a ∷ []) is (fits, tt))

    put_owes : (p : Peer) → OwesMade s.number p → OwesMade s.number (first_put p)
    put_owes p is = cond_both (length p.announcements == 0) (record p { free = p.free - 1; replies = drop 1 p.replies }) (record p { free = p.free - 1; announcements = drop 1 p.announcements }) (OwesMade s.number) (λ k. is) (λ k. all-drop (IsMade s.number) 1 p.announcements is)

    owed_kept : (c : Change) → Fits s c → AllByRecursion (OwesMade s.number) (peers_after c s)
    owed_kept (end_announced a) fits = all_mapped (OwesMade s.number) (also_owed s.number a) (also_owes a fits) s.peers said.owed
    owed_kept (reply_owed q r) fits = debts_kept q (λ p. record p { replies = p.replies ++ r ∷ [] }) (λ p is. is)
    owed_kept (owed_put q) fits = debts_kept q first_put put_owes
    owed_kept (buffers_back q n) fits = debts_kept q (λ p. record p { free = p.free + n }) (λ p is. is)
    owed_kept (frames_shown q n) fits = debts_kept q (λ p. record p { shown = n }) (λ p is. is)
    owed_kept (frame_taken q part held) fits = debts_kept q (λ p. record p { shown = p.shown - 1; part = part }) (λ p is. is)
    owed_kept (names_known q ks) fits = debts_kept q (λ p. record p { known = ks }) (λ p is. is)
    owed_kept (buffers_used q n) fits = debts_kept q (λ p. record p { free = p.free - n }) (λ p is. is)
    owed_kept other fits = said.owed

    -- what is known
    peer_kept : (q : ℕ) (f : Peer → Peer) → ((p : Peer) → KnowsSaid p → KnowsSaid (f p)) → AllByRecursion KnowsSaid (at_peer q f s.peers)
    peer_kept q f keep = all-changed-first KnowsSaid (is_numbered q) f s.peers said.names (λ p is well. keep p well)

    also_kept : (a : Announcement) (p : Peer) → KnowsSaid p → KnowsSaid (also_owed s.number a p)
    also_kept a p is = cond_both (p.number == s.number) p (record p { announcements = p.announcements ++ a ∷ [] }) KnowsSaid (λ k. is) (λ k. is)

    put_kept : (p : Peer) → KnowsSaid p → KnowsSaid (first_put p)
    put_kept p is = cond_both (length p.announcements == 0) (record p { free = p.free - 1; replies = drop 1 p.replies }) (record p { free = p.free - 1; announcements = drop 1 p.announcements }) KnowsSaid (λ k. is) (λ k. is)

    names_kept : (c : Change) → Fits s c → AllByRecursion KnowsSaid (peers_after c s)
    names_kept (end_announced a) fits = all_mapped KnowsSaid (also_owed s.number a) (also_kept a) s.peers said.names
    names_kept (reply_owed q r) fits = peer_kept q (λ p. record p { replies = p.replies ++ r ∷ [] }) (λ p is. is)
    names_kept (owed_put q) fits = peer_kept q first_put put_kept
    names_kept (buffers_back q n) fits = peer_kept q (λ p. record p { free = p.free + n }) (λ p is. is)
    names_kept (frames_shown q n) fits = peer_kept q (λ p. record p { shown = n }) (λ p is. is)
    names_kept (frame_taken q part held) fits = peer_kept q (λ p. record p { shown = p.shown - 1; part = part }) (λ p is. is)
    names_kept (names_known q ks) fits = peer_kept q (λ p. record p { known = ks }) (λ p is. fits)
    names_kept (buffers_used q n) fits = peer_kept q (λ p. record p { free = p.free - n }) (λ p is. is)
    names_kept other fits = said.names

    handed_kept : (o : Option Endpoint) (i : Item) → AllByRecursion IsSettled (handed_in o i s.requests)
    handed_kept None i = said.settled
    handed_kept (Some e) i = all-changed-first IsSettled (waits_at e.local) (done_with (has_item i)) s.requests said.settled (λ r is well. with_item r.asked i)

    ended_kept : (o : Option Endpoint) (word : Refusal) → AllByRecursion IsSettled (ended_in o word s.requests)
    ended_kept None word = said.settled
    ended_kept (Some e) word = all_mapped IsSettled (λ r. cond (waits_at e.local r) (done_with (has_ended word) r) r)
        (λ r is. cond_both (waits_at e.local r) (done_with (has_ended word) r) r IsSettled (λ it. with_end r.asked word) (λ not_it. is)) s.requests said.settled

    settled_kept : (c : Change) → Fits s c → AllByRecursion IsSettled (requests_after c s)
    settled_kept (request_added asked o) fits = all-append IsSettled s.requests (record { serial = s.requests_given; asked = asked; outcome = o } ∷ []) said.settled (fits, tt)
    settled_kept (item_handed a i) fits = handed_kept (endpoint_of s a) i
    settled_kept (waiting_ended a word) fits = ended_kept (endpoint_of s a) word
    settled_kept (name_found n a) fits = all_mapped IsSettled (all_done (asks_for n) (has_address a)) (done_settled (asks_for n) (has_address a) (with_address n a fits)) s.requests said.settled
    settled_kept (connect_settled k o) fits = all_mapped IsSettled (all_done (connects_on k) o) (done_settled (connects_on k) o (with_reply k o fits)) s.requests said.settled
    settled_kept (request_gone place) fits = all-without IsSettled place s.requests said.settled
    settled_kept other fits = said.settled

    said_change : (c : Change) → Fits s c → Said (changed s c)
    said_change c fits = record { ends = ends_kept c fits; owed = owed_kept c fits; names = names_kept c fits; settled = settled_kept c fits }

  abbrev pub FitAll : DomainState → List Change → Type 0
  FitAll s [] = Unit {0}
  FitAll s (c ∷ cs) = Fits s c × FitAll (changed s c) cs

  pub said_changes : (s : DomainState) (cs : List Change) → FitAll s cs → Said s → Said (changed_all s cs)
  said_changes s [] fits said = said
  said_changes s (c ∷ cs) fits said = said_changes (changed s c) cs fits.1 (said_change s said c fits.0)

-- what is said of more is said of less
pub settled_more : (named named' : ℕ → ℕ → Type 0) (replied replied' : ℕ → PlainResult → Type 0) → ((n a : ℕ) → named n a → named' n a) → ((k : ℕ) (r : PlainResult) → replied k r → replied' k r) → (asked : Asked) (o : Option Outcome) → Settled named replied asked o → Settled named' replied' asked o
settled_more named named' replied replied' names replies (name_of n) None is = tt
settled_more named named' replied replied' names replies (name_of n) (Some (has_address a)) is = names (rank n) a is
settled_more named named' replied replied' names replies (name_of n) (Some other) is = tt
settled_more named named' replied replied' names replies (channel_of k) None is = tt
settled_more named named' replied replied' names replies (channel_of k) (Some is_accepted) is = replies k was_accepted is
settled_more named named' replied replied' names replies (channel_of k) (Some (is_rejected why)) is = replies k (was_rejected why) is
settled_more named named' replied replied' names replies (channel_of k) (Some other) is = tt
settled_more named named' replied replied' names replies (message_at at max) o is = tt
settled_more named named' replied replied' names replies (packet_at at) o is = tt

pub said_more : (made made' : EndName → ℕ → Type 0) (named named' : ℕ → ℕ → Type 0) (replied replied' : ℕ → PlainResult → Type 0) → ((n : EndName) (a : ℕ) → made n a → made' n a) → ((n a : ℕ) → named n a → named' n a) → ((k : ℕ) (r : PlainResult) → replied k r → replied' k r) →
    (s : DomainState) → Said made named replied s → Said made' named' replied' s
said_more made made' named named' replied replied' ends names replies s said = record {
  ends = all-weaken (IsNamed made named replied s.number) (IsNamed made' named' replied' s.number) (λ e is. ends (end_name s.number e.local) e.address is) s.endpoints said.ends;
  owed = all-weaken (OwesMade made named replied s.number) (OwesMade made' named' replied' s.number)
      (λ p is. all-weaken (IsMade made named replied s.number) (IsMade made' named' replied' s.number) (λ a so there. ends (end_name s.number a.local) a.address (so there)) p.announcements is) s.peers said.owed;
  names = all-weaken (KnowsSaid made named replied) (KnowsSaid made' named' replied') (λ p is. all-weaken (λ (k : EndName × ℕ). named (rank k.0) k.1) (λ k. named' (rank k.0) k.1) (λ k known. names (rank k.0) k.1 known) p.known is) s.peers said.names;
  settled = all-weaken (IsSettled made named replied) (IsSettled made' named' replied') (λ r is. settled_more named named' replied replied' names replies r.asked r.outcome is) s.requests said.settled;
}
