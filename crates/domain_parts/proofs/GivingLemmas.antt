-- Buffers that a domain gives back to its peers: the moves at the ends, and what is kept of the peers, the slots and the places.
use Rattle.std.proofs.Common.{◌≡◌, ℕ, zero, suc, ◌+◌, ◌<◌, ◌≤◌, true, List, [], ◌∷◌, length, map, Option, None, Some, refl, sym, ap, ◌∙◌, subst, arith}
use Rattle.std.specs.Prelude.{Contains, count_by, is_some, option_and_then, position, slice_get, slice_set, ◌==◌}
use Rattle.std.specs.List.{AllByRecursion}
use Rattle.std.proofs.lemmas.Bool.{eqb-true}
use Rattle.mc_base.specs.declared.request.PacketId.{PacketId}
use Rattle.mc_base.specs.declared.request.Slot.{Slot}
use Rattle.board_model.specs.State as state
use Rattle.board_model.specs.Lists.{changed_at}
use Rattle.board_model.proofs.ListsCounts.{position-tells, some_place}
use Rattle.lane_end.specs.ReceiverContract.{without}
use Rattle.buffer_book.specs.Book.{Book, IsQueued, Shelf, item_at, item_on, shelf_of, slot_of}
use Rattle.endpoint_table.specs.Table as endpoint_table
use Rattle.domain_parts.specs.LaneSeen.{LaneSeen, after_moves}
use Rattle.domain_parts.specs.declared.peer.Peer.{Peer}
use Rattle.domain_parts.specs.LaneMoves.{LaneMove}
use Rattle.domain_parts.specs.AllMoved.{giving, numbers_of}
use Rattle.domain_parts.specs.GivingBack.{AreOutAt, GivesBack}
use Rattle.domain_parts.specs.InBook.{frames_at}
use Rattle.domain_parts.specs.Out.{out_of}
use Rattle.domain_parts.specs.Peers.{peer_in, peers_in}
use Rattle.domain_parts.specs.Steps.{without_frames}
use Rattle.domain_parts.specs.declared.endpoints.Endpoint.{Endpoint}
use Rattle.domain_parts.specs.Records.{Records, all_waiting, lent_slots, with_best_taken, with_best_taken_at, with_oldest_taken, with_oldest_taken_at}
use Rattle.request_set.specs.Requests.{Requests}
use Rattle.domain_parts.specs.InRequests.{AreReceives}
use Rattle.domain_parts.specs.InPlaces.{AreInPlaces, AreOpen, EachInPlace, IsLentAs, is_misplaced, slots_of, times_in}
use Rattle.domain_parts.specs.Table.{PartRead}
use Rattle.domain_parts.specs.Sound.{AreRising, ArePeers, AreSound, IsSized, buffers_count, out_at}
use Rattle.domain_parts.specs.Tied.{AreTied, linked_among, live_record}
use Rattle.domain_parts.proofs.Books.{without-shelves}
use Rattle.domain_parts.proofs.Leaving.{GivesUp, left-up}
use Rattle.domain_parts.proofs.Outs.{all-out, given-places, lent-held, there-queued, with_back}
use Rattle.domain_parts.proofs.PeerPlaces.{contained-found, number-place}
use Rattle.domain_parts.proofs.Placed.{HasMore, HaveSame, Stands, other-slots, queued-item, stands-of, times-here}

-- ---- lists

-- what a list of values shows stays, where one is exchanged for another that shows the same
pub map-exchanged : {X Y : Type 0} (f : X → Y) (xs : List X) (i : ℕ) (x y : X) → slice_get xs i ≡ Some x → f y ≡ f x → map f (slice_set xs i y) ≡ map f xs
map-exchanged f [] i x y there same = absurd cc
map-exchanged {X} {Y} f (z ∷ xs) zero x y there same = let is : x ≡ z = cc in ap (λ (u : Y). u ∷ map f xs) (same ∙ ap f is)
map-exchanged {X} {Y} f (z ∷ xs) (suc i) x y there same = ap (λ (us : List Y). f z ∷ us) (map-exchanged f xs i x y there same)

length-slice_set : {X : Type 0} (xs : List X) (i : ℕ) (y : X) → length (slice_set xs i y) ≡ length xs
length-slice_set [] i y = refl
length-slice_set (x ∷ xs) zero y = refl
length-slice_set (x ∷ xs) (suc i) y = ap suc (length-slice_set xs i y)

pub All-at : {X : Type 0} (P : X → Type 0) (xs : List X) (i : ℕ) (x : X) → AllByRecursion P xs → slice_get xs i ≡ Some x → P x
All-at P [] i x all there = absurd cc
All-at P (z ∷ xs) zero x all there = let is : z ≡ x = cc in subst P is all.0
All-at P (z ∷ xs) (suc i) x all there = All-at P xs i x all.1 there

pub All-exchanged : {X : Type 0} (P : X → Type 0) (xs : List X) (i : ℕ) (y : X) → AllByRecursion P xs → P y → AllByRecursion P (slice_set xs i y)
All-exchanged P [] i y all new = tt
All-exchanged P (z ∷ xs) zero y all new = (new, all.1)
All-exchanged P (z ∷ xs) (suc i) y all new = (all.0, All-exchanged P xs i y all.1 new)

pub number-there : {L : Type 0} (P : ℕ → Type 0) (ps : List (Peer L)) (i : ℕ) (p : Peer L) → AllByRecursion P (numbers_of ps) → slice_get ps i ≡ Some p → P p.number
number-there P [] i p all there = absurd cc
number-there {L} P (z ∷ ps) zero p all there = let is : z ≡ p = cc in subst (λ (x : Peer L). P x.number) is all.0
number-there P (z ∷ ps) (suc i) p all there = number-there P ps i p all.1 there

-- ---- what is seen of the ends after buffers were given back

abbrev pub back_from : List ℕ → List ℕ → List ℕ
back_from [] out = out
back_from (f ∷ fs) out = back_from fs (without f out)

pub after-giving : (fs : List ℕ) (l : LaneSeen) → after_moves (giving fs) l ≡ record { size_to = l.size_to; size_from = l.size_from; free = l.free; shown = l.shown; out = back_from fs l.out }
after-giving [] l = refl
after-giving (f ∷ fs) l = after-giving fs (record l { out = without f l.out })

pub back-out : (fs : List ℕ) (size : ℕ) (out : List ℕ) → with_back fs (out_of size out) ≡ out_of size (back_from fs out)
back-out [] size out = refl
back-out (f ∷ fs) size out = back-out fs size (without f out)

module _ {L : Type 0} (M : L → List LaneMove → L → Type 0) (v : L → LaneSeen) (number : ℕ) (fs : List ℕ) (ps ps' : List (Peer L)) (gives : GivesBack M v number fs ps ps') where
  abbrev given : Peer L
  given = record gives.peer { ends = gives.ends }

  pub seen-given : v gives.ends ≡ record (v gives.peer.ends) { out = back_from fs (v gives.peer.ends).out }
  seen-given = gives.seen ∙ after-giving fs (v gives.peer.ends)

  shows-same : (os : List PartRead) (t : endpoint_table.Table) → peer_in v os t given ≡ peer_in v os t gives.peer
  shows-same os t = ap (λ (l : LaneSeen). record (peer_in v os t gives.peer) { size = l.size_from; free = l.free; shown = l.shown }) seen-given

  pub given-peers : (os : List PartRead) (t : endpoint_table.Table) → peers_in v os t ps' ≡ peers_in v os t ps
  given-peers os t = ap (peers_in v os t) gives.after ∙ map-exchanged (peer_in v os t) ps gives.place gives.peer given gives.there (shows-same os t)

  pub given-length : length ps' ≡ length ps
  given-length = ap length gives.after ∙ length-slice_set ps gives.place given

  pub given-numbers : numbers_of ps' ≡ numbers_of ps
  given-numbers = ap numbers_of gives.after ∙ map-exchanged (λ (p : Peer L). p.number) ps gives.place gives.peer given gives.there refl

-- the state names the peers in the same order
pub numbers-in : {L : Type 0} (v : L → LaneSeen) (os : List PartRead) (t : endpoint_table.Table) (ps : List (Peer L)) → map (λ (p : state.Peer). p.number) (peers_in v os t ps) ≡ numbers_of ps
numbers-in v os t [] = refl
numbers-in v os t (p ∷ ps) = ap (λ (ns : List ℕ). p.number ∷ ns) (numbers-in v os t ps)

-- ---- an item in the book is of one of the peers

pub item-shelf : (b : Book) (s : Slot) → is_some (item_at b s) ≡ true → is_some (shelf_of b s.peer) ≡ true
item-shelf b s is = go (shelf_of b s.peer) is
  where
    go : (o : Option Shelf) → is_some (option_and_then (λ (x : Shelf). item_on x.items s.buffer) o) ≡ true → is_some o ≡ true
    go None e = absurd cc
    go (Some x) e = refl

module _ {L : Type 0} (v : L → LaneSeen) (b : Book) (r : Records) (q : Requests) where
  -- a peer's lane has its places
  abbrev pub InPlacesAt : Peer L → Type 0
  InPlacesAt p = AreInPlaces p.number r q b (out_at v p)

  -- where an item is held, so is its peer
  module _ (t : endpoint_table.Table) (ps : List (Peer L)) (sound : AreSound v b r q t ps) where
    -- some lane tells of all slots
    pub some-lane : (p : Peer L) × InPlacesAt p
    some-lane =
        let place = some_place (position (λ (p : Peer L). p.number == r.number) ps) (ap (λ (o : Option ℕ). is_some o) (number-place ps r.number) ∙ contained-found (numbers_of ps) r.number sound.peers.own) in
        let it = position-tells (λ (p : Peer L). p.number == r.number) ps place.0 place.1 in
        (it.0, All-at InPlacesAt ps place.0 it.0 sound.places it.1)

    pub all-stand : Stands (slots_of r q) (lent_slots r) b
    all-stand = let p = some-lane in stands-of (lent_slots r) p.0.number (out_at v p.0) (slots_of r q) b [] p.1.each

    pub stands-queued : (s : Slot) → 0 < times_in s (slots_of r q) → IsQueued b s
    stands-queued s stands = let p = some-lane in there-queued p.0.number r q b (out_at v p.0) s p.1 stands

    pub lends-item : (s : Slot) → 0 < times_in s (lent_slots r) → is_some (item_at b s) ≡ true
    lends-item s lends = let p = some-lane in lent-held p.0.number r q b (out_at v p.0) s p.1 lends

    module _ (s : Slot) (is : is_some (item_at b s) ≡ true) where
      its-place : (i : ℕ) × (position (λ (p : Peer L). p.number == s.peer) ps ≡ Some i)
      its-place = some_place (position (λ (p : Peer L). p.number == s.peer) ps) (ap (λ (o : Option ℕ). is_some o) (number-place ps s.peer) ∙ contained-found (numbers_of ps) s.peer (sound.shelves s.peer (item-shelf b s is)))

      its-peer : (p : Peer L) × (slice_get ps its-place.0 ≡ Some p) × ((p.number == s.peer) ≡ true)
      its-peer = position-tells (λ (p : Peer L). p.number == s.peer) ps its-place.0 its-place.1

      -- the frames of one that is given up are out there
      pub gives-out : (r' : Records) (q' : Requests) (b' : Book) (fs : List ℕ) → GivesUp r r' q q' b b' s fs → AreOutAt v s.peer fs ps
      gives-out r' q' b' fs up =
          let p = its-peer in
          let own : p.0.number ≡ s.peer = eqb-true p.0.number s.peer p.2 in
          let here = All-at InPlacesAt ps its-place.0 p.0 sound.places p.1 in
          record {
            place = its-place.0;
            peer = p.0;
            first = its-place.1;
            there = p.1;
            is = own;
            out = all-out p.0.number r' q' b' (out_at v p.0) fs (up.beside p.0.number (out_at v p.0) (sym own) here);
          }

    -- of one that leaves the queues or the requests
    module _ (r' : Records) (q' : Requests) (s : Slot) (same : r'.lent ≡ r.lent) (opens : AreOpen b r.parts → AreOpen b r'.parts) (more : HasMore s (slots_of r' q') (slots_of r q)) (fewer : count_by (is_misplaced b) (all_waiting r'.endpoints) ≤ count_by (is_misplaced b) (all_waiting r.endpoints)) where
      leaves-queued : IsQueued b s
      leaves-queued = stands-queued s (let here = times-here s (slots_of r' q') (slots_of r q) more in omega (arith, here))

      pub leaves-out : AreOutAt v s.peer (frames_at b s) ps
      leaves-out = gives-out s (queued-item (item_at b s) leaves-queued) r' q' (without_frames b s None (frames_at b s)) (frames_at b s) (left-up r r' q q' b s more same opens fewer)

-- ---- the same endpoints, whatever waits there

pub record SameEndpoints (r r' : Records) : Type 0 where
  pub number : r'.number ≡ r.number
  pub given : r'.given ≡ r.given
  pub room : r'.room ≡ r.room
  pub live : map live_record r'.endpoints ≡ map live_record r.endpoints

pub same-endpoints : (r : Records) → SameEndpoints r r
same-endpoints r = record { number = refl; given = refl; room = refl; live = refl }

live-changed : (f : Endpoint → Endpoint) → ((e : Endpoint) → live_record (f e) ≡ live_record e) → (i : ℕ) (es : List Endpoint) → map live_record (changed_at f i es) ≡ map live_record es
live-changed f same i [] = refl
live-changed f same zero (e ∷ es) = ap (λ x. x ∷ map live_record es) (same e)
live-changed f same (suc i) (e ∷ es) = ap (λ xs. live_record e ∷ xs) (live-changed f same i es)

pub best-same : (r : Records) (i : ℕ) → SameEndpoints r (with_best_taken_at r i)
best-same r i = record { number = refl; given = refl; room = refl; live = live-changed with_best_taken (λ e. refl) i r.endpoints }

pub oldest-same : (r : Records) (i : ℕ) → SameEndpoints r (with_oldest_taken_at r i)
oldest-same r i = record { number = refl; given = refl; room = refl; live = live-changed with_oldest_taken (λ e. refl) i r.endpoints }

pub same-tied : (r r' : Records) (t : endpoint_table.Table) (ns : List ℕ) → SameEndpoints r r' → AreTied r t ns → AreTied r' t ns
same-tied r r' t ns same tied = record {
  domain = tied.domain ∙ sym same.number;
  given = tied.given ∙ sym same.given;
  live = tied.live ∙ sym same.live;
  rising = tied.rising;
  below = tied.below;
  used = tied.used;
  linked = subst (λ (n : ℕ). map (λ o. o.peer) t.owing ≡ linked_among n ns) (sym same.number) tied.linked;
}

-- ---- what the parts of a domain keep, while no buffer is given back

pub All-each : {X : Type 0} (P Q : X → Type 0) → ((x : X) → P x → Q x) → (xs : List X) → AllByRecursion P xs → AllByRecursion Q xs
All-each P Q then [] all = tt
All-each P Q then (x ∷ xs) all = (then x all.0, All-each P Q then xs all.1)

-- the same slots wait or were handed, in any order
pub sound-moved : {L : Type 0} (v : L → LaneSeen) (b : Book) (r r' : Records) (q q' : Requests) (t : endpoint_table.Table) (ps : List (Peer L))
    → SameEndpoints r r' → r'.lent ≡ r.lent → (AreOpen b r.parts → AreOpen b r'.parts) → HaveSame (slots_of r q) (slots_of r' q') → count_by (is_misplaced b) (all_waiting r'.endpoints) ≤ count_by (is_misplaced b) (all_waiting r.endpoints) → AreReceives q' → AreSound v b r q t ps → AreSound v b r' q' t ps
sound-moved {L} v b r r' q q' t ps same lent opens slots fewer receives sound = record {
  peers = subst (λ (n : ℕ). ArePeers v n ps) (sym same.number) sound.peers;
  places = All-each (InPlacesAt v b r q) (InPlacesAt v b r' q') (λ p places. record { each = subst (λ (ids : List PacketId). EachInPlace p.number (out_at v p) (slots_of r' q') (map slot_of ids) b []) (sym lent) (other-slots (lent_slots r) p.number (out_at v p) (slots_of r q) (slots_of r' q') b [] slots places.each); priorities = let was = places.priorities in omega (arith, was, fewer); lent = subst (AllByRecursion (IsLentAs b)) (sym lent) places.lent; parts = opens places.parts }) ps sound.places;
  shelves = sound.shelves;
  room = let room = sound.room in let same_room = same.room in omega (arith, room, same_room);
  receives = receives;
  tied = same-tied r r' t (numbers_of ps) same sound.tied;
  given = let given = sound.given in let same_given = same.given in omega (arith, given, same_given);
}

-- ---- and where one is

module _ {L : Type 0} (M : L → List LaneMove → L → Type 0) (v : L → LaneSeen) (b b' : Book) (r r' : Records) (q q' : Requests) (s : Slot) (fs : List ℕ) (ps ps' : List (Peer L)) (rising : AreRising (numbers_of ps)) (gives : GivesBack M v s.peer fs ps ps')
    (up : GivesUp r r' q q' b b' s fs) (places : AllByRecursion (InPlacesAt v b r q) ps) where
  abbrev back : Peer L
  back = record gives.peer { ends = gives.ends }

  is-seen : v gives.ends ≡ record (v gives.peer.ends) { out = back_from fs (v gives.peer.ends).out }
  is-seen = seen-given M v s.peer fs ps ps' gives

  own_places : InPlacesAt v b r q gives.peer
  own_places = All-at (InPlacesAt v b r q) ps gives.place gives.peer places gives.there

  own-back : InPlacesAt v b' r' q' back
  own-back =
      let p = gives.peer in
      let seen : out_of (v gives.ends).size_from (v gives.ends).out ≡ with_back fs (out_of (v p.ends).size_from (v p.ends).out) = ap (λ (l : LaneSeen). out_of l.size_from l.out) is-seen ∙ sym (back-out fs (v p.ends).size_from (v p.ends).out) in
      given-places p.number r' q' b' fs (v p.ends).size_from (v gives.ends).size_from (v p.ends).out (v gives.ends).out seen (up.beside p.number (out_at v p) (sym gives.is) own_places)

  others : (xs : List (Peer L)) → AllByRecursion (λ m. s.peer < m) (numbers_of xs) → AllByRecursion (InPlacesAt v b r q) xs → AllByRecursion (InPlacesAt v b' r' q') xs
  others [] above all = tt
  others (p ∷ xs) above all = (up.others p.number (out_at v p) (λ same. let lt = above.0 in absurd (omega (arith, lt, same))) all.0, others xs above.1 all.1)

  each-back : (xs : List (Peer L)) (i : ℕ) → AreRising (numbers_of xs) → slice_get xs i ≡ Some gives.peer → AllByRecursion (InPlacesAt v b r q) xs → AllByRecursion (InPlacesAt v b' r' q') (slice_set xs i back)
  each-back [] i grows there all = absurd cc
  each-back (p ∷ xs) zero grows there all =
      let is : gives.peer ≡ p = cc in
      let number : p.number ≡ s.peer = ap (λ (x : Peer L). x.number) (sym is) ∙ gives.is in
      (own-back, others xs (subst (λ (n : ℕ). AllByRecursion (λ m. n < m) (numbers_of xs)) number grows.0) all.1)
  each-back (p ∷ xs) (suc i) grows there all =
      let below : p.number < s.peer = subst (λ (n : ℕ). p.number < n) gives.is (number-there (λ m. p.number < m) xs i gives.peer grows.0 there) in
      (up.others p.number (out_at v p) (λ same. absurd (omega (arith, below, same))) all.0, each-back xs i grows.1 there all.1)

  pub given-in_place : AllByRecursion (InPlacesAt v b' r' q') ps'
  given-in_place = subst (AllByRecursion (InPlacesAt v b' r' q')) (sym gives.after) (each-back ps gives.place rising gives.there places)

  buffers-back : (xs : List (Peer L)) (i : ℕ) → slice_get xs i ≡ Some gives.peer → buffers_count v (slice_set xs i back) ≡ buffers_count v xs
  buffers-back [] i there = absurd cc
  buffers-back (p ∷ xs) zero there = let is : gives.peer ≡ p = cc in ap (λ (n : ℕ). n + buffers_count v xs) ((ap (λ (l : LaneSeen). l.size_from) is-seen) ∙ ap (λ (x : Peer L). (v x.ends).size_from) is)
  buffers-back (p ∷ xs) (suc i) there = ap (λ (n : ℕ). (v p.ends).size_from + n) (buffers-back xs i there)

  pub given-buffers : buffers_count v ps' ≡ buffers_count v ps
  given-buffers = ap (buffers_count v) gives.after ∙ buffers-back ps gives.place gives.there

  pub given-sizes : AllByRecursion (IsSized v) ps → AllByRecursion (IsSized v) ps'
  given-sizes sizes =
      let was = All-at (IsSized v) ps gives.place gives.peer sizes gives.there in
      let now : IsSized v back = record { same = (ap (λ (l : LaneSeen). l.size_to) is-seen) ∙ was.same ∙ sym (ap (λ (l : LaneSeen). l.size_from) is-seen); fits = let fits = was.fits in let same = (ap (λ (l : LaneSeen). l.size_from) is-seen) in omega (arith, fits, same) } in
      subst (AllByRecursion (IsSized v)) (sym gives.after) (All-exchanged (IsSized v) ps gives.place back sizes now)

-- an item was given up, and its buffers were given back
pub sound-gave : {L : Type 0} (M : L → List LaneMove → L → Type 0) (v : L → LaneSeen) (b b' : Book) (r r' : Records) (q q' : Requests) (t : endpoint_table.Table) (s : Slot) (fs : List ℕ) (ps ps' : List (Peer L)) → GivesBack M v s.peer fs ps ps' → SameEndpoints r r'
    → GivesUp r r' q q' b b' s fs → ((n : ℕ) → is_some (shelf_of b' n) ≡ is_some (shelf_of b n)) → AreReceives q' → AreSound v b r q t ps → AreSound v b' r' q' t ps'
sound-gave {L} M v b b' r r' q q' t s fs ps ps' gives same up shelves receives sound =
    let numbers = given-numbers M v s.peer fs ps ps' gives in
    let rising = sound.peers.rising in
    record {
      peers = record {
        rising = subst AreRising (sym numbers) rising;
        few = subst (AllByRecursion (λ n. n ≤ 7)) (sym numbers) sound.peers.few;
        own = subst (λ (n : ℕ). Contains (numbers_of ps') n) (sym same.number) (subst (λ (ns : List ℕ). Contains ns r.number) (sym numbers) sound.peers.own);
        sizes = given-sizes M v b b' r r' q q' s fs ps ps' rising gives up sound.places sound.peers.sizes;
      };
      places = given-in_place M v b b' r r' q q' s fs ps ps' rising gives up sound.places;
      shelves = λ n is. subst (λ (ns : List ℕ). Contains ns n) (sym numbers) (sound.shelves n (sym (shelves n) ∙ is));
      room = let room = sound.room in let same_room = same.room in let buffers = given-buffers M v b b' r r' q q' s fs ps ps' rising gives up sound.places in omega (arith, room, same_room, buffers);
      receives = receives;
      tied = subst (AreTied r' t) (sym numbers) (same-tied r r' t (numbers_of ps) same sound.tied);
      given = let given = sound.given in let same_given = same.given in omega (arith, given, same_given);
    }

-- one left the queues or the requests
pub sound-given : {L : Type 0} (M : L → List LaneMove → L → Type 0) (v : L → LaneSeen) (b : Book) (r r' : Records) (q q' : Requests) (t : endpoint_table.Table) (s : Slot) (ps ps' : List (Peer L)) → GivesBack M v s.peer (frames_at b s) ps ps' → SameEndpoints r r'
    → r'.lent ≡ r.lent → (AreOpen b r.parts → AreOpen b r'.parts) → HasMore s (slots_of r' q') (slots_of r q) → count_by (is_misplaced b) (all_waiting r'.endpoints) ≤ count_by (is_misplaced b) (all_waiting r.endpoints) → AreReceives q' → AreSound v b r q t ps → AreSound v (without_frames b s None (frames_at b s)) r' q' t ps'
sound-given M v b r r' q q' t s ps ps' gives same lent opens more fewer receives sound =
    sound-gave M v b (without_frames b s None (frames_at b s)) r r' q q' t s (frames_at b s) ps ps' gives same (left-up r r' q q' b s more lent opens fewer) (without-shelves b s None (frames_at b s)) receives sound
