-- The law of channels over a board: the items of a channel are those of one lane, and of the two domains at its ends.
use Rattle.board_model.proofs.PartReadings.{readings-append, readings-length}
use Rattle.board_model.specs.Parts.{readings, part_after}
use Rattle.board_model.proofs.PartRuns.{IsKnown, said_along}
use Rattle.std.proofs.Common.{◌≡◌, ◌⊎◌, inl, inr, ℕ, ◌+◌, ◌<◌, ◌^◌, Bool, true, false, ◌&&◌, cond, List, [], ◌∷◌, ◌++◌, map, drop, length, find, Option, Some, None, refl, sym, ap, ◌∙◌, subst, arith}
use Rattle.std.specs.Prelude.{◌==◌, Contains}
use Rattle.std.specs.List.{AllByRecursion, flat_map}
use Rattle.std.proofs.lemmas.Bool.{and_parts, eqb-true, eq-eqb, ne_eqb, cases_Bool}
use Rattle.std.proofs.lemmas.List.{drop_at}
use Rattle.std.proofs.lemmas.Simd.{map-map}
use Rattle.board_model.specs.declared.scenario.DomainLine.{DomainLine}
use Rattle.board_model.specs.declared.scenario.Scenario.{Scenario}
use Rattle.board_model.specs.Lists.{IsPrefix}
use Rattle.board_model.specs.Scenario.{Lane, lanes, neighbours}
use Rattle.board_model.specs.LinkedBoard.{Differ, IsLinkedBoard}
use Rattle.board_model.specs.Traffic.{put_to, taken_from}
use Rattle.board_model.specs.Board.{DomainJournal, journal_in, journal_of, LaneFits, IsBoardRun}
use Rattle.board_model.specs.Deeds.{AllMayDo, along}
use Rattle.board_model.specs.JournalDeeds.{deeds_of, opened}
use Rattle.board_model.specs.Channels.{accepted_by, accepted_in, items_accepted, taken_on, items_taken, data_said, lost_in, items_dropped, queued_in, items_queued, data_on, items_in_ring, arrives, words_in, named_by, named_in, domains_named}
use Rattle.board_model.specs.ChannelLaws.{ChannelKept, EndsWhereNamed}
use Rattle.board_model.proofs.BoardsLanes.{lane_between, IsBefore, AreInOrder, lanes-in-order, lane-found}
use Rattle.board_model.proofs.ChannelLists.{letters-contents, takes-along}
use Rattle.board_model.proofs.ChannelPair.{aim, nothing_from, passed, no_words}
use Rattle.board_model.proofs.ChannelWords.{not_begun, InOrder, way_of, letters, contents, letters_of}
use Rattle.board_model.proofs.DeedRuns.{puts_by, takes_by, says_by}
use Rattle.board_model.proofs.HearingLaw.{came_on, takes_on, Received, unaccepted, accepted, IsSmallFrame, received}
use Rattle.board_model.proofs.ListsApart.{all-joined, differ-found}
use Rattle.board_model.proofs.ListsOne.{all-any, AtMostOne, differ-one, empty_parts, joined-none, joined-dropped, joined-one}
use Rattle.board_model.proofs.MessageAlls.{none-passes, all-weaken, all-with, all-found, found-passes}
use Rattle.board_model.proofs.OneLane.{Aim, no_aim, aimed_at}
use Rattle.board_model.proofs.OrderSerials.{all_succeed}
use Rattle.board_model.proofs.PlaceBoards.{rising_differ}
use Rattle.board_model.proofs.SendingDeeds.{AllRead}
use Rattle.board_model.proofs.WholeJoined.{Joined, joined_back}

-- ---- what is known of each journal

-- it tells of a run of deeds, which puts and takes the same frames; few of its calls succeed; letters that it posts are read back; and it
-- takes frames from those alone that have a lane to it, which it knows
pub record JournalRun (s : Scenario) (j : DomainJournal) : Type 0 where
  pub may : AllMayDo (opened s j) (deeds_of s j)
  pub puts : (peer : ℕ) → put_to peer j.entries ≡ along (puts_by peer) (opened s j) (deeds_of s j)
  pub takes : (peer : ℕ) → taken_from peer j.entries ≡ flat_map (takes_by peer) (deeds_of s j)
  pub few : all_succeed (deeds_of s j) + 1 < 2 ^ 64
  pub read : AllRead (opened s j) (deeds_of s j)
  pub known : (peer : ℕ) → (flat_map (takes_by peer) (deeds_of s j) ≡ []) ⊎ IsKnown (opened s j) peer
  pub from : (peer : ℕ) → (flat_map (takes_by peer) (deeds_of s j) ≡ []) ⊎ ((size : ℕ) × Joined s j.line.domain peer size)

abbrev IsFound : List DomainJournal → DomainJournal → Type 0
IsFound js j = find (λ k. k.line.domain == j.line.domain) js ≡ Some j

-- ---- lists

and_off : (x y : Bool) → y ≡ false → (x && y) ≡ false
and_off true y off = off
and_off false y off = refl

-- there is one lane from a domain to another
in_order_one : (a b : ℕ) (ls : List Lane) → AreInOrder ls → AtMostOne (lane_between a b) ls
in_order_one a b [] order = tt
in_order_one a b (l ∷ ls) order = (λ here. all-weaken (IsBefore l) (λ m. lane_between a b m ≡ false) (λ m before. later m before (and_parts (l.sender == a) (l.receiver == b) here)) ls order.0, in_order_one a b ls order.1)
  where
    later : (m : Lane) → IsBefore l m → ((l.sender == a) ≡ true) × ((l.receiver == b) ≡ true) → lane_between a b m ≡ false
    later m (inl less) here = let at : l.sender ≡ a = eqb-true l.sender a here.0 in ap (λ x. x && (m.receiver == b)) (ne_eqb m.sender a (λ e. absurd (omega arith)))
    later m (inr (same, less)) here = let at : l.receiver ≡ b = eqb-true l.receiver b here.1 in and_off (m.sender == a) (m.receiver == b) (ne_eqb m.receiver b (λ e. absurd (omega arith)))

-- a front stays one where both lists are the same as others
front_same : (xs us ys vs : List (List ℕ)) → xs ≡ us → ys ≡ vs → IsPrefix xs ys → IsPrefix us vs
front_same xs us ys vs one other front = (front.0, sym other ∙ (front.1 ∙ ap (λ zs. zs ++ front.0) one))

-- ---- a board

module _ (s : Scenario) (js : List DomainJournal) (board : IsLinkedBoard s) (run : IsBoardRun s js) (n : ℕ) where
  abbrev Placed : DomainJournal → Type 0
  Placed j = JournalRun s j × IsFound js j

  domains_apart : Differ (map (λ j. j.line.domain) js)
  domains_apart = subst Differ (sym (sym (map-map (λ (d : DomainLine). d.domain) (λ (j : DomainJournal). j.line) js) ∙ ap (map (λ (d : DomainLine). d.domain)) run.each_domain)) (rising_differ s board)

  -- what a domain takes from another is a front of what that puts to it
  fronts : (j : DomainJournal) → Placed j → (q : ℕ) → IsPrefix (taken_from q j.entries) (put_to j.line.domain (journal_of q js))
  fronts j on q = go (on.0.from q)
    where
      go : (flat_map (takes_by q) (deeds_of s j) ≡ []) ⊎ ((size : ℕ) × Joined s j.line.domain q size) → IsPrefix (taken_from q j.entries) (put_to j.line.domain (journal_of q js))
      go (inl none) = (put_to j.line.domain (journal_of q js), ap (λ fs. fs ++ put_to j.line.domain (journal_of q js)) (sym (on.0.takes q ∙ none)))
      go (inr (size, joined)) =
          let l : Lane = record { sender = q; receiver = j.line.domain; size = size } in
          let fits : LaneFits s js l = all-found (LaneFits s js) (lane_between q j.line.domain) (lanes s) l run.lanes_fit (lane-found s board q j.line.domain size (joined_back s j.line.domain q size joined)) in
          subst (λ o. IsPrefix (taken_from q (journal_in o)) (put_to j.line.domain (journal_of q js))) on.1 fits.taken_first

  -- nothing is taken from a number that is no domain
  none_from : (j : DomainJournal) → Placed j → (q : ℕ) → find (λ k. k.line.domain == q) js ≡ None → flat_map (takes_by q) (deeds_of s j) ≡ []
  none_from j on q none =
      let front = fronts j on q in
      let nothing : put_to j.line.domain (journal_of q js) ≡ [] = ap (λ o. put_to j.line.domain (journal_in o)) none in
      sym (on.0.takes q) ∙ (empty_parts (taken_from q j.entries) front.0 (sym front.1 ∙ nothing)).0

  -- the data of the frames that were put from one domain to another and not taken
  abbrev ring : ℕ → ℕ → List (List ℕ)
  ring a b = flat_map (data_said n) (drop (length (taken_from a (journal_of b js))) (readings None (put_to b (journal_of a js))))

  -- nothing of the channel is at a domain
  record Quiet (o : ℕ) (j : DomainJournal) : Type 0 where
    taken : taken_on s o n j ≡ []
    lost : lost_in s o n j ≡ []
    queued : queued_in s o n j ≡ []

  abbrev Arrive : ℕ → DomainJournal → Type 0
  Arrive o j = AllByRecursion (λ word. arrives word ≡ true) (words_in s o n j)

  -- a lane that is from the owner carries what is in its ring
  lane_data : (o : ℕ) (l : Lane) → ((l.sender == o) ≡ true → ring o l.receiver ≡ []) → data_on js o n l ≡ []
  lane_data o l none = go (l.sender == o) refl
    where
      go : (b : Bool) → (l.sender == o) ≡ b → cond b (ring l.sender l.receiver) [] ≡ []
      go true is = subst (λ a. ring a l.receiver ≡ []) (sym (eqb-true l.sender o is)) (none is)
      go false is = refl

  nothing_kept : (o : ℕ) → items_accepted s js o n ≡ [] → AllByRecursion (Quiet o) js → AllByRecursion (Arrive o) js → items_in_ring s js o n ≡ [] → ChannelKept s js o n
  nothing_kept o empty quiet arrive no_ring =
      let taken : items_taken s js o n ≡ [] = joined-none (taken_on s o n) js (all-weaken (Quiet o) (λ j. taken_on s o n j ≡ []) (λ j q. q.taken) js quiet) in
      let lost : items_dropped s js o n ≡ [] = joined-none (lost_in s o n) js (all-weaken (Quiet o) (λ j. lost_in s o n j ≡ []) (λ j q. q.lost) js quiet) in
      let queued : items_queued s js o n ≡ [] = joined-none (queued_in s o n) js (all-weaken (Quiet o) (λ j. queued_in s o n j ≡ []) (λ j q. q.queued) js quiet) in
      record {
        kept = rw (empty, taken, lost, queued, no_ring) refl;
        arrive = inr (all-joined (λ word. arrives word ≡ true) (words_in s o n) js arrive);
        dropped_or_queued = inl lost;
      }

  module _ (placed : AllByRecursion Placed js) where
    -- ---- an owner that is no domain

    module _ (o : ℕ) (none : find (λ j. j.line.domain == o) js ≡ None) where
      apart : (j : DomainJournal) → Placed j → Quiet o j × Arrive o j
      apart j on = go (received o n j.line.domain j.line.nodes (neighbours s j.line) (deeds_of s j) on.0.may (subst (AllByRecursion IsSmallFrame) (sym nothing) tt) on.0.few (subst (λ rs. InOrder not_begun (letters_of n rs)) (sym no_say) tt))
        where
          nothing : flat_map (takes_by o) (deeds_of s j) ≡ []
          nothing = none_from j on o none

          no_say : along (says_by o) (opened s j) (deeds_of s j) ≡ []
          no_say = sym (said_along o j.line.domain j.line.nodes (neighbours s j.line) (deeds_of s j) (inl nothing)) ∙ ap (readings None) nothing

          came : came_on o n (opened s j) (deeds_of s j) ≡ []
          came = ap (λ rs. contents (letters_of n rs)) no_say

          arrive : Arrive o j
          arrive = subst (AllByRecursion (λ word. arrives word ≡ true)) (sym (no_words o n (opened s j) (deeds_of s j) came)) tt

          go : Received o n (opened s j) (deeds_of s j) → Quiet o j × Arrive o j
          go (unaccepted silent taken lost queued) = (record { taken = sym (takes-along o n (opened s j) (deeds_of s j)) ∙ taken; lost = lost; queued = queued }, arrive)
          go (accepted all either words) =
              let parts = empty_parts (along (takes_on o n) (opened s j) (deeds_of s j)) (lost_in s o n j ++ queued_in s o n j) (sym all ∙ came) in
              let more = empty_parts (lost_in s o n j) (queued_in s o n j) parts.1 in
              (record { taken = sym (takes-along o n (opened s j) (deeds_of s j)) ∙ parts.0; lost = more.0; queued = more.1 }, arrive)

      unowned : ChannelKept s js o n
      unowned = nothing_kept o
          (joined-none (accepted_in s o n) js (all-weaken (λ j. (j.line.domain == o) ≡ false) (λ j. accepted_in s o n j ≡ []) (λ j other. ap (λ b. cond b (along (accepted_by n) (opened s j) (deeds_of s j)) []) other) js (none-passes (λ j. j.line.domain == o) js none)))
          (all-weaken Placed (Quiet o) (λ j on. (apart j on).0) js placed) (all-weaken Placed (Arrive o) (λ j on. (apart j on).1) js placed)
          (joined-none (data_on js o n) (lanes s) (all-any (λ l. data_on js o n l ≡ []) (λ l. lane_data o l (λ is. joined-dropped (data_said n) (length (taken_from o (journal_of l.receiver js))) (readings None (put_to l.receiver (journal_of o js))) (ap (λ x. flat_map (data_said n) (readings None (put_to l.receiver (journal_in x)))) none))) (lanes s)))

    -- ---- an owner that is one

    module _ (jo : DomainJournal) (on : Placed jo) where
      abbrev o : ℕ
      o = jo.line.domain

      -- the contents that are put to a domain
      abbrev sent : ℕ → List (List ℕ)
      sent p = contents (letters n (along (puts_by p) (opened s jo) (deeds_of s jo)))

      forth : (j : DomainJournal) → Placed j → IsPrefix (flat_map (takes_by o) (deeds_of s j)) (along (puts_by j.line.domain) (opened s jo) (deeds_of s jo))
      forth j at = front_same (taken_from o j.entries) _ (put_to j.line.domain (journal_of o js)) _ (at.0.takes o) (ap (λ x. put_to j.line.domain (journal_in x)) on.1 ∙ on.0.puts j.line.domain) (fronts j at o)

      back : (j : DomainJournal) → Placed j → IsPrefix (flat_map (takes_by j.line.domain) (deeds_of s jo)) (along (puts_by o) (opened s j) (deeds_of s j))
      back j at = front_same (taken_from j.line.domain jo.entries) _ (put_to o (journal_of j.line.domain js)) _ (on.0.takes j.line.domain) (ap (λ x. put_to o (journal_in x)) at.1 ∙ at.0.puts o) (fronts jo on j.line.domain)

      -- what is at a domain
      record Share (j : DomainJournal) : Type 0 where
        kept : sent j.line.domain ≡ taken_on s o n j ++ (lost_in s o n j ++ (queued_in s o n j ++ ring o j.line.domain))
        either : (lost_in s o n j ≡ []) ⊎ (queued_in s o n j ≡ [])
        arrive : Arrive o j

      ring_left : (j : DomainJournal) (at : Placed j) → contents (letters_of n (readings (part_after None (flat_map (takes_by o) (deeds_of s j))) (forth j at).0)) ≡ ring o j.line.domain
      unfolding forth front_same
      ring_left j at =
          let front = fronts j at o in
          let first : List (List ℕ) = taken_from o j.entries in
          let left : drop (length (taken_from o (journal_of j.line.domain js))) (readings None (put_to j.line.domain (journal_of o js))) ≡ readings (part_after None first) front.0
          = ap (λ x. drop (length (taken_from o (journal_in x))) (readings None (put_to j.line.domain (journal_of o js)))) at.1 ∙ (ap (λ fs. drop (length first) (readings None fs)) front.1 ∙ (ap (drop (length first)) (readings-append None first front.0) ∙ drop_at (readings None first) (readings (part_after None first) front.0) (length first) (readings-length None first))) in
          letters-contents n (readings (part_after None (flat_map (takes_by o) (deeds_of s j))) front.0)
          ∙ (ap (λ fs. flat_map (data_said n) (readings (part_after None fs) front.0)) (sym (at.0.takes o)) ∙ ap (flat_map (data_said n)) (sym left))

      share : (j : DomainJournal) → Placed j → Share j
      share j at =
          let all = passed o n jo.line.nodes (neighbours s jo.line) (deeds_of s jo) on.0.may on.0.read on.0.few j.line.domain j.line.nodes (neighbours s j.line) (deeds_of s j) (at.0.known o) at.0.may at.0.few (forth j at) (back j at) in
          record {
            kept = all.kept ∙ (ap (λ ts. ts ++ (lost_in s o n j ++ (queued_in s o n j ++ contents (letters_of n (readings (part_after None (flat_map (takes_by o) (deeds_of s j))) (forth j at).0))))) (takes-along o n (opened s j) (deeds_of s j)) ∙ ap (λ rs. taken_on s o n j ++ (lost_in s o n j ++ (queued_in s o n j ++ rs))) (ring_left j at));
            either = all.either;
            arrive = all.arrive;
          }

      -- where nothing is put to a domain, nothing is there
      quiet : (j : DomainJournal) → Placed j → sent j.line.domain ≡ [] → Quiet o j
      quiet j at none =
          let more = empty_parts (taken_on s o n j) (lost_in s o n j ++ (queued_in s o n j ++ ring o j.line.domain)) (sym (share j at).kept ∙ none) in
          let rest = empty_parts (lost_in s o n j) (queued_in s o n j ++ ring o j.line.domain) more.1 in
          record { taken = more.0; lost = rest.0; queued = (empty_parts (queued_in s o n j) (ring o j.line.domain) rest.1).0 }

      no_ring : (p : ℕ) → sent p ≡ [] → ring o p ≡ []
      no_ring p none = joined-dropped (data_said n) (length (taken_from o (journal_of p js))) (readings None (put_to p (journal_of o js)))
          (ap (λ fs. flat_map (data_said n) (readings None fs)) (ap (λ x. put_to p (journal_in x)) on.1 ∙ on.0.puts p) ∙ (sym (letters-contents n (readings None (along (puts_by p) (opened s jo) (deeds_of s jo)))) ∙ none))

      abbrev by_owner : List (List ℕ)
      by_owner = along (accepted_by n) (opened s jo) (deeds_of s jo)

      accepted_all : items_accepted s js o n ≡ by_owner
      accepted_all =
          joined-one (accepted_in s o n) (λ j. j.line.domain == o) js jo (differ-one (λ (j : DomainJournal). j.line.domain) o js domains_apart)
          (all-any (λ j. (j.line.domain == o) ≡ false → accepted_in s o n j ≡ []) (λ j other. ap (λ b. cond b (along (accepted_by n) (opened s j) (deeds_of s j)) []) other) js) on.1
          ∙ ap (λ b. cond b by_owner []) (eq-eqb o o refl)

      all_arrive : AllByRecursion (Arrive o) js
      all_arrive = all-weaken Placed (Arrive o) (λ j at. (share j at).arrive) js placed

      none_sent : ((p : ℕ) → sent p ≡ []) → by_owner ≡ [] → ChannelKept s js o n
      none_sent none empty = nothing_kept o (accepted_all ∙ empty) (all-weaken Placed (Quiet o) (λ j at. quiet j at (none j.line.domain)) js placed) all_arrive
          (joined-none (data_on js o n) (lanes s) (all-any (λ l. data_on js o n l ≡ []) (λ l. lane_data o l (λ is. no_ring l.receiver (none l.receiver))) (lanes s)))

      -- the channel is aimed at a domain, to which there is a lane
      module _ (q size : ℕ) (joined : Joined s o q size) (same : sent q ≡ by_owner) (other : (p : ℕ) → (p == q) ≡ false → sent p ≡ []) (jq : DomainJournal) (found : find (λ j. j.line.domain == q) js ≡ Some jq) where
        at_q : Placed jq
        at_q = all-found Placed (λ j. j.line.domain == q) js jq placed found

        is_q : jq.line.domain ≡ q
        is_q = eqb-true jq.line.domain q (found-passes (λ j. j.line.domain == q) js jq found)

        one_of : (f : DomainJournal → List (List ℕ)) → ((j : DomainJournal) → Quiet o j → f j ≡ []) → flat_map f js ≡ f jq
        one_of f none = joined-one f (λ j. j.line.domain == q) js jq (differ-one (λ (j : DomainJournal). j.line.domain) q js domains_apart)
            (all-weaken Placed (λ j. (j.line.domain == q) ≡ false → f j ≡ []) (λ j at far. none j (quiet j at (other j.line.domain far))) js placed) found

        taken_all : items_taken s js o n ≡ taken_on s o n jq
        taken_all = one_of (taken_on s o n) (λ j k. k.taken)

        lost_all : items_dropped s js o n ≡ lost_in s o n jq
        lost_all = one_of (lost_in s o n) (λ j k. k.lost)

        queued_all : items_queued s js o n ≡ queued_in s o n jq
        queued_all = one_of (queued_in s o n) (λ j k. k.queued)

        ring_all : items_in_ring s js o n ≡ ring o q
        ring_all =
            joined-one (data_on js o n) (lane_between o q) (lanes s) (record { sender = o; receiver = q; size = size }) (in_order_one o q (lanes s) (lanes-in-order s board))
            (all-any (λ l. lane_between o q l ≡ false → data_on js o n l ≡ []) (λ l off. lane_data o l (λ is. no_ring l.receiver (other l.receiver (sym (ap (λ b. b && (l.receiver == q)) is) ∙ off)))) (lanes s)) (lane-found s board o q size joined)
            ∙ ap (λ b. cond b (ring o q) []) (eq-eqb o o refl)

        aimed : ChannelKept s js o n
        aimed =
            let here = share jq at_q in
            record {
              kept =
                  accepted_all
                  ∙ (sym same ∙ (ap sent (sym is_q) ∙ (here.kept ∙ rw (taken_all, lost_all, queued_all, ring_all) (ap (λ p. taken_on s o n jq ++ (lost_in s o n jq ++ (queued_in s o n jq ++ ring o p))) is_q))));
              arrive = inr (all-joined (λ word. arrives word ≡ true) (words_in s o n) js all_arrive);
              dropped_or_queued = elim here.either [ inl lost ↦ inl (lost_all ∙ lost) | inr queued ↦ inr (queued_all ∙ queued) ];
            }

      owned : ChannelKept s js o n
      owned = go (aim o n jo.line.nodes (neighbours s jo.line) (deeds_of s jo) on.0.may on.0.read on.0.few)
        where
          -- nothing came from the domain that it is aimed at
          unheard : (q : ℕ) → sent q ≡ by_owner → ((p : ℕ) → (p == q) ≡ false → sent p ≡ []) → flat_map (takes_by q) (deeds_of s jo) ≡ [] → ChannelKept s js o n
          unheard q same other none =
              let empty : sent q ≡ [] = nothing_from o n jo.line.nodes (neighbours s jo.line) (deeds_of s jo) on.0.may on.0.read on.0.few q none in
              none_sent (λ p. elim (cases_Bool (p == q)) [ inl here ↦ subst (λ k. sent k ≡ []) (sym (eqb-true p q here)) empty | inr far ↦ other p far ]) (sym same ∙ empty)

          on_lane : (q size : ℕ) → Joined s o q size → sent q ≡ by_owner → ((p : ℕ) → (p == q) ≡ false → sent p ≡ []) → (x : Option DomainJournal) → find (λ j. j.line.domain == q) js ≡ x → ChannelKept s js o n
          on_lane q size joined same other None found = unheard q same other (none_from jo on q found)
          on_lane q size joined same other (Some jq) found = aimed q size joined same other jq found

          by_lane : (q : ℕ) → sent q ≡ by_owner → ((p : ℕ) → (p == q) ≡ false → sent p ≡ []) → (flat_map (takes_by q) (deeds_of s jo) ≡ []) ⊎ ((size : ℕ) × Joined s o q size) → ChannelKept s js o n
          by_lane q same other (inl none) = unheard q same other none
          by_lane q same other (inr (size, joined)) = on_lane q size joined same other (find (λ j. j.line.domain == q) js) refl

          go : Aim (λ p. way_of not_begun (letters n (along (puts_by p) (opened s jo) (deeds_of s jo)))) (λ p. sent p) by_owner (along (named_by n) (opened s jo) (deeds_of s jo)) → ChannelKept s js o n
          go (no_aim way none empty) = none_sent none empty
          go (aimed_at q begun same other named) = by_lane q same (λ p far. (other p far).1) (on.0.from q)

    kept_of : (o : ℕ) (x : Option DomainJournal) → find (λ j. j.line.domain == o) js ≡ x → ChannelKept s js o n
    kept_of o None found = unowned o found
    kept_of o (Some jo) found = subst (λ k. ChannelKept s js k n) (eqb-true jo.line.domain o (found-passes (λ j. j.line.domain == o) js jo found)) (owned jo (all-found Placed (λ j. j.line.domain == o) js jo placed found))

    -- ---- the one domain at which the items are taken

    module _ (jo : DomainJournal) (on : Placed jo) where
      abbrev owner : ℕ
      owner = jo.line.domain

      abbrev named : List ℕ
      named = along (named_by n) (opened s jo) (deeds_of s jo)

      named_all : domains_named s js owner n ≡ named
      named_all =
          joined-one (named_in s owner n) (λ j. j.line.domain == owner) js jo (differ-one (λ (j : DomainJournal). j.line.domain) owner js domains_apart)
          (all-any (λ j. (j.line.domain == owner) ≡ false → named_in s owner n j ≡ []) (λ j other. ap (λ b. cond b (along (named_by n) (opened s j) (deeds_of s j)) []) other) js) on.1
          ∙ ap (λ b. cond b named []) (eq-eqb owner owner refl)

      none_there : (j : DomainJournal) → Placed j → sent jo on j.line.domain ≡ [] → taken_on s owner n j ≡ []
      none_there j at none = (quiet jo on j at none).taken

      ends : EndsWhereNamed s js owner n
      ends = go (aim owner n jo.line.nodes (neighbours s jo.line) (deeds_of s jo) on.0.may on.0.read on.0.few)
        where
          go : Aim (λ p. way_of not_begun (letters n (along (puts_by p) (opened s jo) (deeds_of s jo)))) (λ p. sent jo on p) (by_owner jo on) named → EndsWhereNamed s js owner n
          go (no_aim way none empty) = inl (joined-none (taken_on s owner n) js (all-weaken Placed (λ j. taken_on s owner n j ≡ []) (λ j at. none_there j at (none j.line.domain)) js placed))
          go (aimed_at q begun same other has) = inr (
            q,
            subst (λ qs. Contains qs q) (sym named_all) has,
            all-weaken Placed (λ j. (j.line.domain == q) ≡ false → taken_on s owner n j ≡ []) (λ j at far. none_there j at (other j.line.domain far).1) js placed,
          )

    ends_of : (o : ℕ) (x : Option DomainJournal) → find (λ j. j.line.domain == o) js ≡ x → EndsWhereNamed s js o n
    ends_of o None found = inl (joined-none (taken_on s o n) js (all-weaken Placed (λ j. taken_on s o n j ≡ []) (λ j on. (apart o found j on).0.taken) js placed))
    ends_of o (Some jo) found = subst (λ k. EndsWhereNamed s js k n) (eqb-true jo.line.domain o (found-passes (λ j. j.line.domain == o) js jo found)) (ends jo (all-found Placed (λ j. j.line.domain == o) js jo placed found))

  pub ends_where_named : AllByRecursion (JournalRun s) js → (owner : ℕ) → EndsWhereNamed s js owner n
  ends_where_named runs owner = ends_of (all-with (JournalRun s) (IsFound js) Placed (λ j r found. (r, found)) js runs (differ-found (λ (j : DomainJournal). j.line.domain) js domains_apart)) owner (find (λ j. j.line.domain == owner) js) refl

  -- what is known of each journal is all that the law asks
  pub channel_kept : AllByRecursion (JournalRun s) js → (owner : ℕ) → ChannelKept s js owner n
  channel_kept runs owner = kept_of (all-with (JournalRun s) (IsFound js) Placed (λ j r found. (r, found)) js runs (differ-found (λ (j : DomainJournal). j.line.domain) js domains_apart)) owner (find (λ j. j.line.domain == owner) js) refl
