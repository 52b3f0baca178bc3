-- The state of a domain in which an endpoint is made or ended.
use Rattle.std.proofs.Common.{◌≡◌, ℕ, ◌+◌, Bool, true, false, cond, List, [], ◌∷◌, ◌++◌, map, Option, Some, None, refl, sym, ap, ◌∙◌, subst, eq-eqb}
use Rattle.std.specs.Prelude.{find, filter, slice_get, not, is_some, option_map, ◌||◌, ◌==◌}
use Rattle.std.specs.List.{AllByRecursion, list_any}
use Rattle.std.proofs.lemmas.Bool.{both_ways, eqb-true, or_left, or_right}
use Rattle.std.proofs.lemmas.List.{map_push}
use Rattle.mc_base.specs.FullName.{end_name}
use Rattle.mc_base.specs.declared.name.Local.{Local}
use Rattle.mc_base.specs.declared.refusal.Refusal.TheVariants.{EndpInvalid}
use Rattle.endpoint_table.specs.declared.announced.Announced.{Announced}
use Rattle.endpoint_table.specs.Table.{Table, Owing, also_owing, created, owes_gone}
use Rattle.endpoint_table.proofs.RecordLemmas.{all-weaken}
use Rattle.board_model.specs.Lists.{with_rising, without}
use Rattle.board_model.specs.State as state
use Rattle.board_model.specs.State.{DomainState, is_owed_end, place_at}
use Rattle.domain_parts.specs.PlacedCalls.{also_owed, ended_by_word, with_endpoint, without_endpoint}
use Rattle.board_model.proofs.WholeFinds.{find-kept, find-mapped}
use Rattle.buffer_book.specs.Book.{Book}
use Rattle.request_set.specs.Requests.{Requests}
use Rattle.request_set.specs.declared.ask.Complete.TheVariants as complete
use Rattle.domain_parts.specs.LaneSeen.{LaneSeen}
use Rattle.domain_parts.specs.declared.endpoints.Endpoint.{Endpoint}
use Rattle.domain_parts.specs.declared.peer.Peer.{Peer}
use Rattle.domain_parts.specs.declared.requests.Waiters.TheVariants as waiters
use Rattle.domain_parts.specs.AllMoved.{numbers_of}
use Rattle.domain_parts.specs.InBook.{endpoint_in, endpoints_in, requests_in, packets_in, open_parts}
use Rattle.domain_parts.specs.InRequests.{with_all_complete}
use Rattle.domain_parts.specs.Owed.{owed_by}
use Rattle.domain_parts.specs.Peers.{announcement_in, ended_in, peer_in, peers_in, state_in, reply_in, held_in, part_from}
use Rattle.domain_parts.specs.Records.{Records, new_record, with_record}
use Rattle.domain_parts.specs.Sound.{AreRising}
use Rattle.domain_parts.specs.Tied.{AreTied, linked_among}
use Rattle.domain_parts.proofs.Completing.{requests-found}
use Rattle.domain_parts.proofs.Filters.{some-map}
use Rattle.domain_parts.proofs.PaidTables.{filter-same}
use Rattle.domain_parts.proofs.PeersAt.{any-owed, owed-ends}
use Rattle.domain_parts.proofs.Tying.{ended-created, ended-gone, ended_table, gone_event, made_event, tied-created, tied-ended}
use Rattle.domain_parts.specs.Table.{PartRead}

-- ---- which peers are linked

own-none : (number : ℕ) (ns : List ℕ) → find (λ m. m == number) (linked_among number ns) ≡ None
own-none number [] = refl
own-none number (m ∷ ms) = by (m == number) refl (own-none number ms)
  where
    rest : List ℕ
    rest = linked_among number ms

    by : (b : Bool) → (m == number) ≡ b → find (λ k. k == number) rest ≡ None → find (λ k. k == number) (cond (not b) (m ∷ rest) rest) ≡ None
    by true is later = later
    by false is later = ap (λ (c : Bool). cond c (Some m) (find (λ k. k == number) rest)) is ∙ later

other-some : (number n : ℕ) (ns : List ℕ) → (n == number) ≡ false → list_any (λ m. m == n) ns ≡ true → is_some (find (λ m. m == n) (linked_among number ns)) ≡ true
other-some number n [] other there = absurd cc
other-some number n (m ∷ ms) other there = by (m == number) (m == n) refl refl there (other-some number n ms other)
  where
    rest : List ℕ
    rest = linked_among number ms

    by : (a b : Bool) → (m == number) ≡ a → (m == n) ≡ b → (b || list_any (λ k. k == n) ms) ≡ true → (list_any (λ k. k == n) ms ≡ true → is_some (find (λ k. k == n) rest) ≡ true) → is_some (find (λ k. k == n) (cond (not a) (m ∷ rest) rest)) ≡ true
    by true true own is among later = absurd (both_ways (n == number) other (subst (λ (k : ℕ). (k == number) ≡ true) (eqb-true m n is) own))
    by true false own is among later = later among
    by false true own is among later = ap (λ (c : Bool). is_some (cond c (Some m) (find (λ k. k == n) rest))) is
    by false false own is among later = ap (λ (c : Bool). is_some (cond c (Some m) (find (λ k. k == n) rest))) is ∙ later among

linked-some : (number n : ℕ) (ns : List ℕ) → list_any (λ m. m == n) ns ≡ true → is_some (find (λ m. m == n) (linked_among number ns)) ≡ not (n == number)
linked-some number n ns there = by (n == number) refl
  where
    by : (b : Bool) → (n == number) ≡ b → is_some (find (λ m. m == n) (linked_among number ns)) ≡ not b
    by true own = ap (λ (o : Option ℕ). is_some o) (subst (λ (k : ℕ). find (λ m. m == k) (linked_among number ns) ≡ None) (sym (eqb-true n number own)) (own-none number ns))
    by false other = other-some number n ns other there

each-there : (ns : List ℕ) → AllByRecursion (λ n. list_any (λ m. m == n) ns ≡ true) ns
each-there [] = tt
each-there (n ∷ ns) = (
  or_left (n == n) (list_any (λ m. m == n) ns) (eq-eqb n n refl),
  all-weaken (λ (k : ℕ). list_any (λ m. m == k) ns ≡ true) (λ (k : ℕ). list_any (λ m. m == k) (n ∷ ns) ≡ true) (λ k there. or_right (n == k) (list_any (λ m. m == k) ns) there) ns (each-there ns),
)

-- ---- all linked domains are owed one announcement more

module _ {L : Type 0} (v : L → LaneSeen) (os : List PartRead) (t t' : Table) (a : Announced) (number : ℕ) (ns : List ℕ) (owing : t'.owing ≡ map (also_owing a) t.owing) (linked : map (λ (o : Owing). o.peer) t.owing ≡ linked_among number ns) where
  abbrev with_owed : Peer L → Option Owing → state.Peer
  with_owed p o = record { number = p.number; size = (v p.ends).size_from; free = (v p.ends).free; shown = (v p.ends).shown; announcements = map announcement_in (owed_by o); replies = map reply_in p.replies; known = p.known; part = part_from os p.number }

  one-more : (p : Peer L) (o : Option Owing) (b : Bool) → is_some o ≡ not b → with_owed p (option_map (also_owing a) o) ≡ cond b (with_owed p o) (record (with_owed p o) { announcements = map announcement_in (owed_by o) ++ announcement_in a ∷ [] })
  one-more p None true is = refl
  one-more p None false is = absurd cc
  one-more p (Some o) true is = absurd cc
  one-more p (Some o) false is = ap (λ (xs : List state.Announcement). record (with_owed p (Some o)) { announcements = xs }) (map_push announcement_in o.owed a)

  one-also : (p : Peer L) → list_any (λ m. m == p.number) ns ≡ true → peer_in v os t' p ≡ also_owed number (announcement_in a) (peer_in v os t p)
  one-also p there =
      let n = p.number in
      let test : Owing → Bool = λ o. o.peer == n in
      let some : is_some (find test t.owing) ≡ not (n == number) =
      sym (some-map (λ (o : Owing). o.peer) (find test t.owing))
      ∙ ap (λ (o : Option ℕ). is_some o) (sym (find-mapped (λ m. m == n) (λ (o : Owing). o.peer) t.owing) ∙ ap (find (λ m. m == n)) linked)
      ∙ linked-some number n ns there in
      ap (λ (xs : List Owing). with_owed p (find test xs)) owing
      ∙ ap (with_owed p) (find-kept test (also_owing a) (λ o. refl) t.owing)
      ∙ one-more p (find test t.owing) (n == number) some

  all-also : (ps : List (Peer L)) → AllByRecursion (λ n. list_any (λ m. m == n) ns ≡ true) (numbers_of ps) → peers_in v os t' ps ≡ map (also_owed number (announcement_in a)) (peers_in v os t ps)
  all-also [] there = refl
  all-also (p ∷ ps) there =
      ap (λ (x : state.Peer). x ∷ peers_in v os t' ps) (one-also p there.0)
      ∙ ap (λ (xs : List state.Peer). also_owed number (announcement_in a) (peer_in v os t p) ∷ xs) (all-also ps there.1)

module _ {L : Type 0} (v : L → LaneSeen) (b b' : Book) (r : Records) (q q' : Requests) (t : Table) (ps ps' : List (Peer L)) (rising : AreRising (numbers_of ps)) (tie : AreTied r t (numbers_of ps)) where
  abbrev s : DomainState
  s = state_in v b r q t ps

  abbrev os : List PartRead
  os = open_parts b r.parts

  linked-here : map (λ (o : Owing). o.peer) t.owing ≡ linked_among t.domain (numbers_of ps)
  linked-here = tie.linked ∙ ap (λ (n : ℕ). linked_among n (numbers_of ps)) (sym tie.domain)

  also : (t' : Table) (a : Announced) → t'.owing ≡ map (also_owing a) t.owing → peers_in v os t' ps ≡ map (also_owed t.domain (announcement_in a)) s.peers
  also t' a owing = all-also v os t t' a t.domain (numbers_of ps) owing linked-here ps (each-there (numbers_of ps))

  -- who is still to be told of which ends
  told-ends : (t' : Table) (a : Announced) (number : ℕ) → t'.owing ≡ map (also_owing a) t.owing → map (λ (o : Owing). o.peer) t'.owing ≡ linked_among number (numbers_of ps) → (x : ℕ) → list_any (owes_gone x) t'.owing ≡ is_owed_end (map (also_owed t.domain (announcement_in a)) s.peers) x
  told-ends t' a number owing linked x =
      sym (any-owed x number (numbers_of ps) t'.owing linked rising)
      ∙ sym (owed-ends v os t' x ps)
      ∙ ap (λ (xs : List state.Peer). is_owed_end xs x) (also t' a owing)

  -- an endpoint is made
  pub made-state : (at : Local) → state_in v b (with_record r at) (with_all_complete q (waiters.Lookups (end_name t.domain at)) (complete.Address (1024 + t.given))) (created t at) ps ≡ with_endpoint s at
  made-state at =
      let t' = created t at in
      let a = made_event t at in
      let new : state.Endpoint = record { local = at; address = 1024 + t.given; queue = []; channel = None } in
      let made : List state.Endpoint → List ℕ → List state.Peer → List state.Request → DomainState = λ es gone xs rs. record s { endpoints = es; ended = gone; peers = xs; requests = rs; endpoints_given = t.given + 1 } in
      let peers = map (also_owed t.domain (announcement_in a)) s.peers in
      let rs = requests_in b (with_all_complete q (waiters.Lookups (end_name t.domain at)) (complete.Address (1024 + t.given))).standing in
      let endpoints : endpoints_in b (with_record r at).endpoints ≡ s.endpoints ++ new ∷ [] =
      map_push (endpoint_in b) r.endpoints (new_record r.room at (1024 + r.given))
      ∙ ap (λ (n : ℕ). s.endpoints ++ record { local = at; address = 1024 + n; queue = []; channel = None } ∷ []) (sym tie.given) in
      let gone : ended_in t'.records ≡ filter (is_owed_end peers) s.ended =
      ended-created r t (numbers_of ps) at tie
      ∙ filter-same (λ x. list_any (owes_gone x) t'.owing) (is_owed_end peers) (told-ends t' a r.number refl (tied-created r t (numbers_of ps) at tie).linked) s.ended in
      ap (λ (es : List state.Endpoint). made es (ended_in t'.records) (peers_in v os t' ps) rs) endpoints
      ∙ ap (λ (ns : List ℕ). made (s.endpoints ++ new ∷ []) ns (peers_in v os t' ps) rs) gone
      ∙ ap (λ (xs : List state.Peer). made (s.endpoints ++ new ∷ []) (filter (is_owed_end peers) s.ended) xs rs) (also t' a refl)
      ∙ ap (λ (xs : List state.Request). made (s.endpoints ++ new ∷ []) (filter (is_owed_end peers) s.ended) peers xs) (requests-found b (end_name t.domain at) (1024 + t.given) q.standing)

  -- an endpoint is ended
  pub ended-state : (r' : Records) (at : Local) (i : ℕ) (e : Endpoint) → slice_get r.endpoints i ≡ Some e → e.local ≡ at
      → endpoints_in b' r'.endpoints ≡ without (place_at s at) s.endpoints → requests_in b' q'.standing ≡ map (ended_by_word EndpInvalid at) s.requests → q'.given ≡ q.given → r'.channels ≡ r.channels → packets_in b' r'.lent ≡ packets_in b r.lent → b'.lends ≡ b.lends → open_parts b' r'.parts ≡ os → peers_in v os (ended_table t e) ps' ≡ peers_in v os (ended_table t e) ps
      → state_in v b' r' q' (ended_table t e) ps' ≡ without_endpoint s at e.address
  ended-state r' at i e there local endpoints requests given numbered packets lends opens peers =
      let t' = ended_table t e in
      let a = gone_event e in
      let left : List state.Endpoint → List ℕ → List state.Peer → List state.Request → ℕ → DomainState = λ es gone xs rs n. record s { endpoints = es; ended = gone; peers = xs; requests = rs; requests_given = n } in
      let owed = map (also_owed t.domain (announcement_in a)) s.peers in
      let es = without (place_at s at) s.endpoints in
      let rs = map (ended_by_word EndpInvalid at) s.requests in
      let gone : ended_in t'.records ≡ filter (is_owed_end owed) (with_rising e.address s.ended) =
      ended-gone r t (numbers_of ps) i e tie there
      ∙ filter-same (λ x. list_any (owes_gone x) t'.owing) (is_owed_end owed) (told-ends t' a r.number refl (tied-ended r t (numbers_of ps) i e tie there).linked) (with_rising e.address s.ended) in
      ap (λ (xs : List PartRead). record (state_in v b' r' q' t' ps') { peers = peers_in v xs t' ps'; held = held_in xs }) opens
      ∙ ap (λ (n : ℕ). record (state_in v b' r' q' t' ps') { peers = peers_in v os t' ps'; held = held_in os; channels_given = n }) numbered
      ∙ ap (λ (ls : List state.LentPacket). record (state_in v b' r' q' t' ps') { peers = peers_in v os t' ps'; held = held_in os; channels_given = r.channels; lent = ls }) packets
      ∙ ap (λ (n : ℕ). record (state_in v b' r' q' t' ps') { peers = peers_in v os t' ps'; held = held_in os; channels_given = r.channels; lent = packets_in b r.lent; packets_lent = n }) lends
      ∙ ap (λ (xs : List state.Endpoint). left xs (ended_in t'.records) (peers_in v os t' ps') (requests_in b' q'.standing) q'.given) endpoints
      ∙ ap (λ (ns : List ℕ). left es ns (peers_in v os t' ps') (requests_in b' q'.standing) q'.given) gone
      ∙ ap (λ (xs : List state.Peer). left es (filter (is_owed_end owed) (with_rising e.address s.ended)) xs (requests_in b' q'.standing) q'.given) (peers ∙ also t' a refl)
      ∙ ap (λ (xs : List state.Request). left es (filter (is_owed_end owed) (with_rising e.address s.ended)) owed xs q'.given) requests
      ∙ ap (λ (n : ℕ). left es (filter (is_owed_end owed) (with_rising e.address s.ended)) owed rs n) given
      ∙ ap (λ (l : Local). let ann : state.Announcement = record { local = l; address = e.address; create = false } in let xs = map (also_owed t.domain ann) s.peers in left es (filter (is_owed_end xs) (with_rising e.address s.ended)) xs rs q.given) local
