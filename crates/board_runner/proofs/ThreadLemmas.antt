-- A board whose domains ran on their own over the rings of its links: the finished rings show that its lanes fit.
use Rattle.std.proofs.Common.{◌≡◌, ℕ, ◌+◌, ◌%◌, ◌^◌, ◌<◌, Bool, ◌&&◌, cond, List, [], ◌∷◌, length, map, sum, find, Option, Some, option_map, refl, sym, ap, ap₂, ◌∙◌, subst, inl, inr, arith, eq-eqb}
use Rattle.std.specs.Prelude.{◌==◌}
use Rattle.std.specs.List.{AllByRecursion}
use Rattle.std.proofs.lemmas.Bool.{and_from}
use Rattle.std.proofs.lemmas.List.{length-map}
use Rattle.mc_base.specs.Limits.{buffer_size}
use Rattle.shared_words.specs.Shown.{TableShown, size_of}
use Rattle.shared_words.specs.declared.view.Role.{Role}
use Rattle.shared_words.specs.declared.view.Role.TheVariants.{Driver, Device}
use Rattle.split_ring.specs.Finished.{FinishedRing}
use Rattle.lane_end.specs.Halves.{HasSent, HasReceived}
use Rattle.lane_end.specs.LaneRun.{IsLaneRun, in_ring, with_receiver}
use Rattle.lane_end.specs.ReceiveParts.{frames_taken, see_counts}
use Rattle.lane_end.specs.SendParts.{frames_sent, back_counts}
use Rattle.board_model.specs.declared.totals.LanePlaces.{LanePlaces}
use Rattle.board_model.specs.declared.totals.Totals.{Totals}
use Rattle.board_model.specs.declared.scenario.DomainLine.{DomainLine}
use Rattle.board_model.specs.declared.scenario.LinkLine.{LinkLine}
use Rattle.board_model.specs.declared.scenario.Scenario.{Scenario}
use Rattle.board_model.specs.Lists.{IsPrefix}
use Rattle.board_model.specs.LinkedBoard.{IsSamePair, PairsDiffer, Joins, IsLinkedBoard}
use Rattle.board_model.specs.Scenario.{Lane, lanes, script, rising}
use Rattle.board_model.specs.Traffic.{put_to, takes_from, taken_from, given, back_looks}
use Rattle.board_model.specs.Run.{start, left_by, IsDomainRun}
use Rattle.board_model.specs.State.{free_to, queued_from, lent_from}
use Rattle.board_model.specs.Board.{DomainJournal, journal_in, journal_of, given_by, SeesAtMost, LaneFits}
use Rattle.board_model.specs.Places.{in_last_state, places_of, EveryBuffer}
use Rattle.board_model.specs.SerialRun as run
use Rattle.board_model.specs.SerialRun.{is_station, journal_left, opened}
use Rattle.board_model.proofs.LaneRuns.{sums_run}
use Rattle.board_model.proofs.MessageAlls.{all-found, all-weaken}
use Rattle.board_model.proofs.BoardsLanes.{lane-found}
use Rattle.board_model.proofs.BoardsNeighbours.{joined-leads, told-fits}
use Rattle.board_model.proofs.PlaceCounts.{every_lane}
use Rattle.board_model.proofs.WholeFinds.{find-mapped, some_tells}
use Rattle.board_model.proofs.WholeHas.{Has, has-weaken, has-each}
use Rattle.board_model.proofs.WholeJoined.{Joined, IsOwn, IsLink, joined_back, joined_found, lanes_join}
use Rattle.domain_core.specs.Carrying.{AnyLink}
use Rattle.domain_core.specs.LaneMoves.{sends, receives}
use Rattle.board_numbers.specs.Tallied.{RanBoard, AreTallies, TallySomeRun, AddPlaces, TellTotals}
use Rattle.board_numbers.proofs.LaneLemmas.{journal_found}
use Rattle.ring_numbers.specs.BoardRings.{places_by, places_of as given_places, sent_to}
use Rattle.ring_numbers.specs.InTime.{ComeBackLater, IsInTime, AreInTime}
use Rattle.ring_numbers.specs.RingLists.{image_left}
use Rattle.ring_numbers.specs.SenderNumbers.{at_start, after_all}
use Rattle.lane_images.specs.GivesAt.{GivesAt}
use Rattle.lane_images.specs.LaneImages.{WasRun, queue_of}
use Rattle.lane_images.specs.Sendings.{sendings}
use Rattle.lane_images.proofs.Laws.{backs-are-later, images-are-left}
use Rattle.board_runner.specs.declared.ended.EndedLink.{EndedLink}
use Rattle.board_runner.specs.declared.ended.Remains.{Remains}
use Rattle.board_runner.specs.declared.rings.LinkHalves.{LinkHalves}
use Rattle.board_runner.specs.declared.rings.LinkRings.{LinkRings}
use Rattle.board_runner.specs.declared.wires.Wire.{Wire}
use Rattle.board_runner.specs.Apart.{RanApart}
use Rattle.board_runner.specs.Ended.{WiresEnd, wires_left, ended_at}
use Rattle.board_runner.specs.Finishing.{BoardMoves, LinksHaveRun, LinksAreRun}
use Rattle.board_runner.specs.Looks.{see_looks}
use Rattle.board_runner.specs.ThreadRun.{WasFinished, TellsLane, TellLanes, IsThreadRun}
use Rattle.board_runner.specs.Wired.{AreRings, driver_link, device_link, wires_for, leads_from, wire_at}
use Rattle.board_runner.proofs.EndedLemmas.{ended-there}
use Rattle.board_runner.proofs.FittingLemmas.{EntriesFit, ring_fits, own_fits}
use Rattle.board_runner.proofs.MovedLemmas.{LinkAfter, moves_by, ToldAt, told-at, done-at, links-after, owns-after}
use Rattle.board_runner.proofs.OwnBoardLemmas.{are_stations, alone_whole, alone_board}
use Rattle.board_runner.proofs.TallyLemmas.{stations-ended, stations-tallied, stations-told}
use Rattle.board_runner.proofs.ToldNumbers.{told-sendings, gives-at, own-in-time}
use Rattle.board_runner.proofs.ToldTraffic.{has_traffic}
use Rattle.board_runner.proofs.WiredLemmas.{driver_wire, device_wire, leads_no}

-- ---- each link finds its own ends among the wires

-- a link's ends are found by its driver and its device
abbrev WiredAt : List Wire → LinkLine → LinkRings → Type 0
WiredAt ws l on = (wire_at ws l.driver l.device ≡ Some (driver_link l on)) × (wire_at ws l.device l.driver ≡ Some (device_link l on))

abbrev WiredIn : List Wire → List LinkLine → List LinkRings → Type 0
WiredIn ws [] [] = Unit {0}
WiredIn ws (l ∷ ls) (on ∷ rings) = WiredAt ws l on × WiredIn ws ls rings
WiredIn ws ls rings = ⊥

abbrev link_in : Option Wire → Option AnyLink
link_in o = option_map (λ (w : Wire). w.link) o

-- past the ends of another pair
past : (l : LinkLine) (on : LinkRings) (ws : List Wire) (a b : ℕ) → (l.driver ≡ a → l.device ≡ b → ⊥) → (l.device ≡ a → l.driver ≡ b → ⊥) → wire_at (driver_wire l on ∷ (device_wire l on ∷ ws)) a b ≡ wire_at ws a b
past l on ws a b one two =
    ap₂ (λ (x y : Bool). link_in (cond x (Some (driver_wire l on)) (cond y (Some (device_wire l on)) (find (leads_from a b) ws)))) (leads_no a b (driver_wire l on) one) (leads_no a b (device_wire l on) two)

past-all : (l : LinkLine) (on : LinkRings) (ws : List Wire) (ls : List LinkLine) (rings : List LinkRings) → AllByRecursion (λ m. IsSamePair l m → ⊥) ls → WiredIn ws ls rings → WiredIn (driver_wire l on ∷ (device_wire l on ∷ ws)) ls rings
past-all l on ws [] [] apart wired = tt
past-all l on ws [] (r ∷ rings) apart wired = absurd wired
past-all l on ws (m ∷ ls) [] apart wired = absurd wired
past-all l on ws (m ∷ ls) (r ∷ rings) apart wired = (
  (
    past l on ws m.driver m.device (λ x y. apart.0 (inl (x, y))) (λ x y. apart.0 (inr (y, x))) ∙ wired.0.0,
    past l on ws m.device m.driver (λ x y. apart.0 (inr (x, y))) (λ x y. apart.0 (inl (y, x))) ∙ wired.0.1,
  ),
  past-all l on ws ls rings apart.1 wired.1,
)

wired-in : (s : Scenario) (ls : List LinkLine) (rings : List LinkRings) (hs : List LinkHalves) → AreRings ls rings hs → AllByRecursion (Joins s) ls → PairsDiffer ls → WiredIn (wires_for ls rings) ls rings
wired-in s [] [] hs are join differ = tt
wired-in s [] (r ∷ rings) [] are join differ = absurd are
wired-in s [] (r ∷ rings) (h ∷ hs) are join differ = absurd are
wired-in s (l ∷ ls) [] hs are join differ = absurd are
wired-in s (l ∷ ls) (r ∷ rings) [] are join differ = absurd are
wired-in s (l ∷ ls) (r ∷ rings) (h ∷ hs) are join differ =
    let rest = wires_for ls rings in
    let first = and_from (l.driver == l.driver) (l.device == l.device) (eq-eqb l.driver l.driver refl) (eq-eqb l.device l.device refl) in
    let second = and_from (l.device == l.device) (l.driver == l.driver) (eq-eqb l.device l.device refl) (eq-eqb l.driver l.driver refl) in
    let not_first = leads_no l.device l.driver (driver_wire l r) (λ x y. join.0.two_domains x) in (
      (
        ap (λ (c : Bool). link_in (cond c (Some (driver_wire l r)) (find (leads_from l.driver l.device) (device_wire l r ∷ rest)))) first,
        ap₂ (λ (x y : Bool). link_in (cond x (Some (driver_wire l r)) (cond y (Some (device_wire l r)) (find (leads_from l.device l.driver) rest)))) not_first second,
      ),
      past-all l r rest ls rings differ.0 (wired-in s ls rings hs are.1 join.1 differ.1),
    )

-- ---- the halves that are left of each link

-- of a domain's ends of a link that was opened so
record LinkLeft (l : AnyLink) (moves : BoardMoves) (a b : ℕ) (found : Option EndedLink) : Type 0 where
  ended : EndedLink
  is : found ≡ Some ended
  sent : HasSent l.send (sends (moves a b)) ended.send
  received : HasReceived l.recv (receives (moves a b)) ended.recv

link-left : (l : AnyLink) (moves : BoardMoves) (a b : ℕ) (ws : List Wire) (es : List EndedLink) → WiresEnd ws es → LinkAfter l (moves a b) (wire_at ws a b) → LinkLeft l moves a b (ended_at es a b)
link-left l moves a b ws es ended after =
    let there = ended-there ws es ended a b after.link after.is in
    record {
      ended = there.ended;
      is = there.is;
      sent = record { end = after.link.send; moved = after.moved.sent; leaves = there.left.1.send };
      received = record { end = after.link.recv; moved = after.moved.received; leaves = there.left.1.recv };
    }

-- an own lane leads from a domain to itself
own-same : (a b size : ℕ) (ds : List DomainLine) → Has (IsOwn a b size) ds → a ≡ b
own-same a b size [] own = absurd own
own-same a b size (d ∷ ds) (inl own) = sym own.0 ∙ own.1
own-same a b size (d ∷ ds) (inr later) = own-same a b size ds later

-- every link joins its two domains
links-join : (s : Scenario) → AllByRecursion (λ l. Joined s l.driver l.device l.size) s.links
links-join s = all-weaken (λ l. Has (λ m. m ≡ l) s.links) (λ l. Joined s l.driver l.device l.size) (λ l has. inr (has-weaken (λ m. m ≡ l) (IsLink l.driver l.device l.size) (λ m e. (inl (ap (λ (x : LinkLine). x.driver) e, ap (λ (x : LinkLine). x.device) e), ap (λ (x : LinkLine). x.size) e)) s.links has)) s.links (has-each s.links)

module _ (s : Scenario) (board : IsLinkedBoard s) (rings : List LinkRings) (hs : List LinkHalves) (are : AreRings s.links rings hs) (left : Remains) (h : RanApart s (wires_for s.links rings) left) where
  abbrev ws : List Wire
  ws = wires_for s.links rings

  abbrev ts : List run.Station
  ts = h.alone.stations

  abbrev js : List DomainJournal
  js = map journal_left ts

  abbrev pub moves : BoardMoves
  moves = moves_by s ts h.olds h.news h.alone.ran

  -- ---- what is left of each link

  left-at : (a b size : ℕ) → Joined s a b size → (l : AnyLink) → wire_at ws a b ≡ Some l → LinkLeft l moves a b (ended_at left.links.items a b)
  left-at a b size joined l at =
      let d = joined_found s board a b size joined in
      let few : b < 8 = omega (arith, told-fits s board b (joined-leads s board a b size joined).told) in
      link-left l moves a b (wires_left h.news) left.links.items h.ended (links-after s ws (rising s) ts h.olds h.news h.alone.lines h.opens h.begun h.alone.ran a b d.0 d.1 few l at)

  pub links-ran : LinksHaveRun moves s.links rings left.links.items
  links-ran = go s.links rings (links-join s) (wired-in s s.links rings hs are board.links_join board.pairs_differ)
    where
      go : (ls : List LinkLine) (rs : List LinkRings) → AllByRecursion (λ l. Joined s l.driver l.device l.size) ls → WiredIn ws ls rs → LinksHaveRun moves ls rs left.links.items
      go [] [] joined wired = tt
      go [] (r ∷ rs) joined wired = absurd wired
      go (l ∷ ls) [] joined wired = absurd wired
      go (l ∷ ls) (r ∷ rs) joined wired =
          let there = left-at l.driver l.device l.size joined.0 (driver_link l r) wired.0.0 in
          let back = left-at l.device l.driver l.size (joined_back s l.driver l.device l.size joined.0) (device_link l r) wired.0.1 in (
            record {
              there = there.ended;
              back = back.ended;
              there_at = there.is;
              back_at = back.is;
              zero = record { sent = back.sent; received = there.received };
              one = record { sent = there.sent; received = back.received };
            },
            go ls rs joined.1 wired.1,
          )

  -- ---- the lanes

  station-found : (a b size : ℕ) → Joined s a b size → (t : run.Station) × (find (is_station a) ts ≡ Some t)
  station-found a b size joined =
      let d = joined_found s board a b size joined in
      let t = some_tells (λ (x : run.Station). x.line) (find (is_station a) ts) d.0 (sym (find-mapped (λ (e : DomainLine). e.domain == a) (λ (x : run.Station). x.line) ts) ∙ ap (find (λ (e : DomainLine). e.domain == a)) h.alone.lines ∙ d.1) in
      (t.0, t.1)

  told : (a : ℕ) (t : run.Station) → find (is_station a) ts ≡ Some t → ToldAt s (moves a) t
  told a t at = told-at s ts h.olds h.news h.alone.ran a t at

  -- what the ring of a lane shows of the moves of its two ends
  record LaneRan (a b : ℕ) : Type 0 where
    role : Role
    size : ℕ
    closed : FinishedRing
    ran : IsLaneRun role size (sends (moves a b)) (receives (moves b a)) closed
    ring : TableShown
    was : WasRun role ring (sends (moves a b)) (receives (moves b a)) closed

  lane-ran : (ls : List LinkLine) (rs : List LinkRings) (closed : List FinishedRing) → LinksAreRun moves ls rs closed → (a b size : ℕ) → Has (IsLink a b size) ls → LaneRan a b
  lane-ran [] rs closed run a b size has = absurd has
  lane-ran (l ∷ ls) [] closed run a b size has = absurd run
  lane-ran (l ∷ ls) (r ∷ rs) [] run a b size has = absurd run
  lane-ran (l ∷ ls) (r ∷ rs) (z ∷ []) run a b size has = absurd run
  lane-ran (l ∷ ls) (r ∷ rs) (z ∷ (o ∷ closed)) run a b size (inr later) = lane-ran ls rs closed run.1 a b size later
  lane-ran (l ∷ ls) (r ∷ rs) (z ∷ (o ∷ closed)) run a b size (inl (inl (e, f), sized)) =
      record {
        role = Driver;
        size = size_of r.queue1.ring;
        closed = o;
        ran = subst (λ (x : ℕ). IsLaneRun Driver (size_of r.queue1.ring) (sends (moves x b)) (receives (moves b x)) o) e (subst (λ (y : ℕ). IsLaneRun Driver (size_of r.queue1.ring) (sends (moves l.driver y)) (receives (moves y l.driver)) o) f run.0.run1);
        ring = r.queue1;
        was = subst (λ (x : ℕ). WasRun Driver r.queue1 (sends (moves x b)) (receives (moves b x)) o) e (subst (λ (y : ℕ). WasRun Driver r.queue1 (sends (moves l.driver y)) (receives (moves y l.driver)) o) f run.0.was1);
      }
  lane-ran (l ∷ ls) (r ∷ rs) (z ∷ (o ∷ closed)) run a b size (inl (inr (e, f), sized)) =
      record {
        role = Device;
        size = size_of r.queue0.ring;
        closed = z;
        ran = subst (λ (x : ℕ). IsLaneRun Device (size_of r.queue0.ring) (sends (moves x b)) (receives (moves b x)) z) f (subst (λ (y : ℕ). IsLaneRun Device (size_of r.queue0.ring) (sends (moves l.device y)) (receives (moves y l.device)) z) e run.0.run0);
        ring = r.queue0;
        was = subst (λ (x : ℕ). WasRun Device r.queue0 (sends (moves x b)) (receives (moves b x)) z) f (subst (λ (y : ℕ). WasRun Device r.queue0 (sends (moves l.device y)) (receives (moves y l.device)) z) e run.0.was0);
      }

  -- by their journals the two ends of a lane fit
  lane-fits : (l : Lane) (t u : run.Station) → find (is_station l.sender) ts ≡ Some t → find (is_station l.receiver) ts ≡ Some u → EntriesFit (script s u.line.domain) (start s u.line) l.sender l.receiver t.entries u.entries → LaneFits s js l
  lane-fits l t u at_t at_u fits =
      let j = journal_found ts l.sender t at_t in
      let k = journal_found ts l.receiver u at_u in
      record {
        taken_first = subst (λ (o : Option DomainJournal). IsPrefix (taken_from l.sender (journal_in o)) (put_to l.receiver (journal_in (find (λ x. x.line.domain == l.sender) js)))) (sym k) (subst (λ (o : Option DomainJournal). IsPrefix (taken_from l.sender u.entries) (put_to l.receiver (journal_in o))) (sym j) fits.taken_first);
        sees = subst (λ (o : Option DomainJournal). SeesAtMost l.sender (length (put_to l.receiver (journal_in (find (λ x. x.line.domain == l.sender) js)))) 0 (journal_in o)) (sym k) (subst (λ (o : Option DomainJournal). SeesAtMost l.sender (length (put_to l.receiver (journal_in o))) 0 u.entries) (sym j) fits.sees);
        backs = omega (arith, fits.backs, ap (λ (o : Option DomainJournal). sum (back_looks l.receiver (journal_in o))) j, ap (λ (o : Option DomainJournal). given_by s o l.sender) k);
      }

  -- the own lane of a domain
  own-lane : (a : ℕ) (t : run.Station) → find (is_station a) ts ≡ Some t → EntriesFit (script s t.line.domain) (start s t.line) a a t.entries t.entries
  own-lane a t at =
      let own = owns-after s ws (rising s) ts h.olds h.news h.alone.lines h.opens h.begun h.alone.ran a t at in
      own_fits (script s t.line.domain) (start s t.line) a t.line.pool t.entries (moves a a) own.loop (told a t at a) own.moved

  module _ (closed : List FinishedRing) (finished : LinksAreRun moves s.links rings closed) where
    same-station : {x y : run.Station} → Some x ≡ Some y → x ≡ y
    same-station e = cc

    own-fits : (a b : ℕ) (t u : run.Station) → find (is_station a) ts ≡ Some t → find (is_station b) ts ≡ Some u → a ≡ b → EntriesFit (script s u.line.domain) (start s u.line) a b t.entries u.entries
    own-fits a b t u at_t at_u same =
        let one : t ≡ u = same-station (sym at_t ∙ ap (λ (n : ℕ). find (is_station n) ts) same ∙ at_u) in
        subst (λ (x : run.Station). EntriesFit (script s x.line.domain) (start s x.line) a b t.entries x.entries) one
        (subst (λ (n : ℕ). EntriesFit (script s t.line.domain) (start s t.line) a n t.entries t.entries) same (own-lane a t at_t))

    link-fits : (a b size : ℕ) (t u : run.Station) → find (is_station a) ts ≡ Some t → find (is_station b) ts ≡ Some u → Has (IsLink a b size) s.links → EntriesFit (script s u.line.domain) (start s u.line) a b t.entries u.entries
    link-fits a b size t u at_t at_u link =
        let ran = lane-ran s.links rings closed finished a b size link in
        ring_fits (script s t.line.domain) (script s u.line.domain) (start s t.line) (start s u.line) a b t.entries u.entries (moves a b) (moves b a) (told a t at_t b) (told b u at_u a) ran.role ran.size ran.closed ran.ran

    each-fits : (l : Lane) → Joined s l.sender l.receiver l.size → LaneFits s js l
    each-fits l joined =
        let t = station-found l.sender l.receiver l.size joined in
        let u = station-found l.receiver l.sender l.size (joined_back s l.sender l.receiver l.size joined) in
        lane-fits l t.0 u.0 t.1 u.1 (elim joined [
          | inl own ↦ own-fits l.sender l.receiver t.0 u.0 t.1 u.1 (own-same l.sender l.receiver l.size s.domains own)
          | inr link ↦ link-fits l.sender l.receiver l.size t.0 u.0 t.1 u.1 link
        ])

    pub ran-board : RanBoard s ts
    ran-board = alone_board s h.olds h.news h.alone (all-weaken (λ l. Joined s l.sender l.receiver l.size) (LaneFits s js) each-fits (lanes s) (lanes_join s))

    -- ---- the numbers of buffers

    runs-at : (a : ℕ) (t : run.Station) → find (is_station a) ts ≡ Some t → IsDomainRun s t.line t.entries
    runs-at a t at = all-found (λ x. IsDomainRun s x.line x.entries) (λ x. x.line.domain == a) js (journal_left t) ran-board.run.domain_runs (journal_found ts a t at)

    -- the receiver gives back the buffers of the frames at the places that its journal tells
    gives-told : (a b : ℕ) (u : run.Station) → find (is_station b) ts ≡ Some u → GivesAt [] (given_places s js b a) (receives (moves b a))
    gives-told a b u at =
        subst (λ (o : Option DomainJournal). GivesAt [] (places_by s o a) (receives (moves b a))) (sym (journal_found ts b u at))
        (gives-at s u (moves b) a board (runs-at b u at) (done-at s ts h.olds h.news h.alone.ran b u at))

    -- and the sender deals as its own tells
    sends-told : (a b : ℕ) (t : run.Station) → find (is_station a) ts ≡ Some t → sendings (sends (moves a b)) ≡ sent_to b (journal_of a js)
    sends-told a b t at =
        told-sendings (script s t.line.domain) (start s t.line) b t.entries (moves a b) (told a t at b)
        ∙ ap (λ (o : Option DomainJournal). sent_to b (journal_in o)) (sym (journal_found ts a t at))

    link-later : (a b size : ℕ) (u : run.Station) → find (is_station b) ts ≡ Some u → Has (IsLink a b size) s.links → ComeBackLater (given_places s js b a) 0 (sendings (sends (moves a b)))
    link-later a b size u at link =
        let ran = lane-ran s.links rings closed finished a b size link in
        backs-are-later ran.role ran.ring (sends (moves a b)) (receives (moves b a)) ran.closed (given_places s js b a) ran.was (gives-told a b u at)

    own-later : (a b : ℕ) (t u : run.Station) → find (is_station a) ts ≡ Some t → find (is_station b) ts ≡ Some u → a ≡ b → ComeBackLater (given_places s js b a) 0 (sendings (sends (moves a b)))
    own-later a b t u at_t at_u same =
        let own = owns-after s ws (rising s) ts h.olds h.news h.alone.lines h.opens h.begun h.alone.ran a t at_t in
        subst (λ (n : ℕ). ComeBackLater (given_places s js n a) 0 (sendings (sends (moves a n)))) same
        (own-in-time t.line.pool own.loop (given_places s js a a) (moves a a) own.moved (gives-told a a t at_t))

    each-in-time : (l : Lane) → Joined s l.sender l.receiver l.size → IsInTime s js l
    each-in-time l joined =
        let t = station-found l.sender l.receiver l.size joined in
        let u = station-found l.receiver l.sender l.size (joined_back s l.sender l.receiver l.size joined) in
        subst (ComeBackLater (given_places s js l.receiver l.sender) 0) (sends-told l.sender l.receiver t.0 t.1) (elim joined [
          | inl own ↦ own-later l.sender l.receiver t.0 u.0 t.1 u.1 (own-same l.sender l.receiver l.size s.domains own)
          | inr link ↦ link-later l.sender l.receiver l.size u.0 u.1 link
        ])

    pub in-time : AreInTime s js
    in-time = all-weaken (λ l. Joined s l.sender l.receiver l.size) (IsInTime s js) each-in-time (lanes s) (lanes_join s)

    -- ---- what the rings tell

    -- a domain at the end holds what it took and did not give back
    held-at : (t : run.Station) (n : ℕ) → IsDomainRun s t.line t.entries → queued_from n (left_by s t.line t.entries).state + lent_from n (left_by s t.line t.entries).state + given (script s t.line.domain) (start s t.line) n t.entries ≡ length (takes_from n t.entries)
    held-at t n runs = let sums = sums_run (script s t.line.domain) n (free_to (start s t.line).state n) 0 0 0 0 (start s t.line) (left_by s t.line t.entries) t.entries (record { apart = tt; below = tt }) runs.steps (record { frees = omega arith; holds = refl }) in omega (arith, sums.holds)

    lane-told : (role : Role) (a b size : ℕ) → Joined s a b size → (closed : FinishedRing) → WasFinished closed → closed.queue ≡ queue_of role → closed.size ≡ size → closed.width ≡ buffer_size → IsLaneRun role size (sends (moves a b)) (receives (moves b a)) closed → (table : TableShown) → WasRun role table (sends (moves a b)) (receives (moves b a)) closed → TellsLane s js role (record { sender = a; receiver = b; size = size }) closed
    lane-told role a b size joined ring ended queue sized wide ran table was =
        let l : Lane = record { sender = a; receiver = b; size = size } in
        let t = station-found a b size joined in
        let u = station-found b a size (joined_back s a b size joined) in
        let out = has_traffic (script s t.0.line.domain) (start s t.0.line) b t.0.entries (moves a b) (told a t.0 t.1 b) in
        let into = has_traffic (script s u.0.line.domain) (start s u.0.line) a u.0.entries (moves b a) (told b u.0 u.1 a) in
        let j = journal_found ts a t.0 t.1 in
        let k = journal_found ts b u.0 u.1 in
        let every = all-found (EveryBuffer s js) (λ m. (m.sender == a) && (m.receiver == b)) (lanes s) l (every_lane s js board ran-board.run) (lane-found s board a b size joined) in
        let runs = all-found (λ x. IsDomainRun s x.line x.entries) (λ x. x.line.domain == b) js (journal_left u.0) ran-board.run.domain_runs k in
        let held = held-at u.0 a runs in
        let puts : length (frames_sent (sends (moves a b))) ≡ length (put_to b (journal_of a js)) = ap length out.put_is ∙ ap (λ (o : Option DomainJournal). length (put_to b (journal_in o))) (sym j) in
        let takes : length (frames_taken (receives (moves b a))) ≡ length (taken_from a (journal_of b js)) =
        sym (length-map (frames_taken (receives (moves b a))) (λ (f : ℕ × List ℕ). f.1)) ∙ ap length into.taken_is ∙ ap (λ (o : Option DomainJournal). length (taken_from a (journal_in o))) (sym k) in
        let taken : length (taken_from a (journal_of b js)) ≡ length (takes_from a u.0.entries) = ap (λ (o : Option DomainJournal). length (taken_from a (journal_in o))) k ∙ length-map (takes_from a u.0.entries) (λ x. x.frame) in
        let backs : back_counts (sends (moves a b)) ≡ back_looks b (journal_of a js) = out.backs_are ∙ ap (λ (o : Option DomainJournal). back_looks b (journal_in o)) (sym j) in
        let sees : see_counts (receives (moves b a)) ≡ see_looks a (journal_of b js) = into.sees_are ∙ ap (λ (o : Option DomainJournal). see_looks a (journal_in o)) (sym k) in
        let queued = ap (in_last_state s (queued_from a)) k in
        let lent = ap (in_last_state s (lent_from a)) k in
        let gone = ran.ring_count in
        let back = ran.back_count in
        let kept = ran.sender_count in
        let got = ran.receiver_count in
        let given_is = into.given_is in
        let in_it : (places_of s js l).ring ≡ length (in_ring role ring) = omega (arith, puts, takes, gone) in
        let held_is : (places_of s js l).queue + (places_of s js l).lent ≡ length (with_receiver role ring) = omega (arith, queued, lent, held, taken, takes, got, given_is) in
        record {
          finished = ended;
          queue = queue;
          size = sized;
          image =
              images-are-left role table (sends (moves a b)) (receives (moves b a)) ring (given_places s js b a) was queue wide (gives-told a b u.0 u.1)
              ∙ (λ i. image_left (sized i) ring.queue (after_all (at_start (sized i) (given_places s js b a)) (sends-told a b t.0 t.1 i)).used (given_places s js b a));
          free = omega (arith, every, in_it, held_is, gone, back, kept, got);
          ring = in_it;
          held = held_is;
          back_looks_made = ran.back_looks ∙ ap (λ (ns : List ℕ). length ns % 2 ^ 64) backs;
          back_looks_saw = ran.back_saw ∙ ap (λ (ns : List ℕ). sum ns % 2 ^ 64) backs;
          see_looks_made = ran.see_looks ∙ ap (λ (ns : List ℕ). length ns % 2 ^ 64) sees;
          see_looks_saw = ran.see_saw ∙ ap (λ (ns : List ℕ). sum ns % 2 ^ 64) sees;
        }

    pub lanes-told : TellLanes s js s.links closed
    lanes-told = go s.links rings hs closed (links-join s) are finished
      where
        go : (ls : List LinkLine) (rs : List LinkRings) (gs : List LinkHalves) (cs : List FinishedRing) → AllByRecursion (λ l. Joined s l.driver l.device l.size) ls → AreRings ls rs gs → LinksAreRun moves ls rs cs → TellLanes s js ls cs
        go [] [] gs [] joined new run = tt
        go [] [] gs (c ∷ cs) joined new run = absurd run
        go [] (r ∷ rs) gs cs joined new run = absurd run
        go (l ∷ ls) [] gs cs joined new run = absurd run
        go (l ∷ ls) (r ∷ rs) gs [] joined new run = absurd run
        go (l ∷ ls) (r ∷ rs) gs (z ∷ []) joined new run = absurd run
        go (l ∷ ls) (r ∷ rs) [] (z ∷ (o ∷ cs)) joined new run = absurd new
        go (l ∷ ls) (r ∷ rs) (g ∷ gs) (z ∷ (o ∷ cs)) joined new run =
            let zero = new.0.zero_new in
            let one = new.0.one_new in (
              lane-told Device l.device l.driver l.size (joined_back s l.driver l.device l.size joined.0) z (run.0.finished0 (run.0.queue0 ∙ zero.is_queue)) (run.0.queue0 ∙ zero.is_queue) (run.0.size0 ∙ zero.sized) (run.0.width0 ∙ zero.width) (subst (λ (n : ℕ). IsLaneRun Device n (sends (moves l.device l.driver)) (receives (moves l.driver l.device)) z) zero.sized run.0.run0) r.queue0 run.0.was0,
              lane-told Driver l.driver l.device l.size joined.0 o run.0.finished1 (run.0.queue1 ∙ one.is_queue) (run.0.size1 ∙ one.sized) (run.0.width1 ∙ one.width) (subst (λ (n : ℕ). IsLaneRun Driver n (sends (moves l.driver l.device)) (receives (moves l.device l.driver)) o) one.sized run.0.run1) r.queue1 run.0.was1,
              go ls rs gs cs joined.1 new.1 run.1,
            )

    -- ---- the outcome

    pub whole-tallied : AreTallies s ts left.tallies
    whole-tallied = stations-tallied s ts h.news left.tallies (are_stations s h.olds h.news h.alone) h.tallies

    pub some-tallied : TallySomeRun s left.tallies
    some-tallied = record { stations = ts; ran = ran-board; tallies = whole-tallied }

    pub thread-run : (places : List LanePlaces) (messages : Totals) → AddPlaces s left.tallies (lanes s) [] places → TellTotals s left.tallies messages → IsThreadRun s (record { journals = left.journals; rings = closed; places = places; channels = left.channels; messages = messages })
    thread-run places messages added totalled = record {
      journals = js;
      run = ran-board.run;
      whole = alone_whole s h.olds h.news h.alone;
      tells = record {
        journals = h.told ∙ stations-told s ts h.news (are_stations s h.olds h.news h.alone);
        places = added ts ran-board whole-tallied;
        channels = h.channels ts ran-board (stations-ended s ts h.news (are_stations s h.olds h.news h.alone));
        messages = totalled ts ran-board whole-tallied;
      };
      rings = lanes-told;
      in_time = in-time;
    }
