-- The numbers of a board's run are in the ranges of a report's forms.
use Rattle.std.proofs.Common.{◌≡◌, ℕ, zero, suc, ◌+◌, ◌*◌, ◌≤◌, ◌<◌, ◌^◌, Bool, true, false, cond, List, [], ◌∷◌, ◌++◌, length, sym, ap, subst, arith, length-append}
use Rattle.std.specs.Prelude.{◌==◌}
use Rattle.std.specs.List.{AllByRecursion}
use Rattle.std.proofs.lemmas.List.{length-map}
use Rattle.board_model.specs.declared.scenario.DomainLine.{DomainLine}
use Rattle.board_model.specs.declared.scenario.LinkLine.{LinkLine}
use Rattle.board_model.specs.declared.scenario.Scenario.{Scenario}
use Rattle.board_model.specs.declared.totals.ChannelTotals.{ChannelTotals}
use Rattle.board_model.specs.Board.{DomainJournal, IsBoardRun}
use Rattle.board_model.specs.Channels.{accepted_by, accepted_in, items_accepted, items_taken, items_dropped, items_queued, items_in_ring}
use Rattle.board_model.specs.Deeds.{along}
use Rattle.board_model.specs.Drops.{dropped}
use Rattle.board_model.specs.Grammar.{IsLawfulDomain}
use Rattle.board_model.specs.JournalDeeds.{deeds_of, opened, left_in}
use Rattle.board_model.specs.LinkedBoard.{IsTold, Joins, IsLinkedBoard}
use Rattle.board_model.specs.Messages.{accepted, messages_queued, messages_in_ring}
use Rattle.board_model.specs.Places.{places_of, EveryBuffer}
use Rattle.board_model.specs.Report.{channel_text, places_text}
use Rattle.board_model.specs.Run.{IsDomainRun}
use Rattle.board_model.specs.Scenario.{Lane, lanes}
use Rattle.board_model.specs.Takings.{messages_taken}
use Rattle.board_model.specs.Totals.{numbers_to, item_totals, totals_of_channel, totals_of_owner, channel_totals, totals}
use Rattle.board_model.proofs.BoardsLanes.{lanes-fit}
use Rattle.board_model.proofs.BoardsNeighbours.{rising-lawful, rising-length, domains-few, told-fits, LeadsTo}
use Rattle.board_model.proofs.ChannelLaw.{every-channel-is-kept}
use Rattle.board_model.proofs.KeptBoard.{no-message-lost}
use Rattle.board_model.proofs.KeptFew.{accepted-few as messages-few}
use Rattle.board_model.proofs.ListsApart.{all-map, all-unmap, all-joined}
use Rattle.board_model.proofs.ListsCounts.{count-every}
use Rattle.board_model.proofs.MessageAlls.{all-append, all-weaken, all-with}
use Rattle.board_model.proofs.MessageOnce.{total, length-joined}
use Rattle.board_model.proofs.PlaceCounts.{every_lane}
use Rattle.ring_numbers.specs.BoardRings.{image_of_queue}
use Rattle.ring_numbers.specs.RingTexts.{ring_text}
use Rattle.report_text.specs.ReportLines.{has_form, channel_form, lane_form, ring_form}
use Rattle.report_laws.proofs.ChannelsFew.{channels-few, accepted-few}
use Rattle.report_laws.proofs.FormsMet.{AreFew, channel-meets, messages-meet, messages-other, places-meet, ring-meets}
use Rattle.report_laws.proofs.ImageBytes.{queue-image}
use Rattle.report_laws.proofs.NumberRows.{NumbersHaveForms}

total-below : {A : Type 0} (f : A → ℕ) (xs : List A) → AllByRecursion (λ x. f x < 4294967296) xs → total f xs ≤ 4294967296 * length xs
total-below f [] all = omega arith
total-below f (x ∷ xs) all = omega (arith, all.0, total-below f xs all.1)

numbers-within : (m : ℕ) → AllByRecursion (λ n. n ≤ m) (numbers_to m)
numbers-within zero = tt
numbers-within (suc m) = all-append (λ n. n ≤ suc m) (numbers_to m) (suc m ∷ []) (all-weaken (λ n. n ≤ m) (λ n. n ≤ suc m) (λ n le. omega arith) (numbers_to m) (numbers-within m)) (omega arith, tt)

module _ (s : Scenario) (board : IsLinkedBoard s) (js : List DomainJournal) (run : IsBoardRun s js) where
  journals-few : length js ≤ 8
  journals-few = omega (arith, length-map js (λ (j : DomainJournal). j.line), ap (λ (ds : List DomainLine). length ds) run.each_domain, rising-length s, domains-few s board)

  pub journals-lawful : AllByRecursion (λ j. IsLawfulDomain j.line) js
  journals-lawful = all-unmap IsLawfulDomain (λ j. j.line) js (subst (AllByRecursion IsLawfulDomain) (sym run.each_domain) (rising-lawful s board))

  -- ---- items and messages

  accepted-all : (owner n : ℕ) → length (items_accepted s js owner n) < 2 ^ 64
  accepted-all owner n =
      let each : AllByRecursion (λ j. length (accepted_in s owner n j) < 4294967296) js = all-weaken (λ j. IsDomainRun s j.line j.entries) (λ j. length (accepted_in s owner n j) < 4294967296) one js run.domain_runs in
      omega (arith, length-joined (accepted_in s owner n) js, total-below (λ j. length (accepted_in s owner n j)) js each, journals-few)
    where
      go : (b : Bool) (xs : List (List ℕ)) → length xs < 4294967296 → length (cond b xs []) < 4294967296
      go true xs few = few
      go false xs few = omega arith

      one : (j : DomainJournal) → IsDomainRun s j.line j.entries → length (accepted_in s owner n j) < 4294967296
      one j is = go (j.line.domain == owner) (along (accepted_by n) (opened s j) (deeds_of s j)) (accepted-few s board j is n)

  items-few : (owner n : ℕ) → AreFew (item_totals s js owner n)
  items-few owner n =
      let taken = items_taken s js owner n in
      let drops = items_dropped s js owner n in
      let queue = items_queued s js owner n in
      let ring = items_in_ring s js owner n in
      let few = accepted-all owner n in
      let all : length (items_accepted s js owner n) ≡ length taken + length drops + length queue + length ring =
      omega (
        arith,
        ap (λ (xs : List (List ℕ)). length xs) (every-channel-is-kept s js board run owner n).kept,
        length-append taken (drops ++ (queue ++ ring)),
        length-append drops (queue ++ ring),
        length-append queue ring,
      ) in
      record { accepted = few; taken = omega (arith, few, all); dropped = omega (arith, few, all); queued = omega (arith, few, all); ring = omega (arith, few, all) }

  totals-few : AreFew (totals s js)
  totals-few =
      let few : length (accepted s js) < 2 ^ 32 = omega (arith, messages-few s js board run, board.lines_few) in
      let all : length (accepted s js) ≡ length (messages_taken s js) + length (dropped s js) + length (messages_queued s js) + length (messages_in_ring s js) =
      omega (arith, no-message-lost s js board run (λ m. true), count-every (accepted s js), count-every (messages_taken s js), count-every (dropped s js), count-every (messages_queued s js), count-every (messages_in_ring s js)) in
      record { accepted = omega (arith, few); taken = omega (arith, few, all); dropped = omega (arith, few, all); queued = omega (arith, few, all); ring = omega (arith, few, all) }

  -- ---- channels

  abbrev ChannelMeets : ChannelTotals → Type 0
  ChannelMeets c = has_form channel_form (channel_text c) ≡ true

  owner-meets : (j : DomainJournal) → IsLawfulDomain j.line → IsDomainRun s j.line j.entries → AllByRecursion ChannelMeets (totals_of_owner s js j)
  owner-meets j lawful is =
      let many : ℕ = (left_in s j).channels_given in
      let fits : many < 2 ^ 32 = channels-few s board j is in
      all-map ChannelMeets (totals_of_channel s js j.line.domain) (numbers_to many)
      (all-weaken (λ n. n ≤ many) (λ n. ChannelMeets (totals_of_channel s js j.line.domain n))
      (λ n le. channel-meets (totals_of_channel s js j.line.domain n) (omega (arith, lawful.domain_fits)) (omega (arith, le, fits)) (items-few j.line.domain n)) (numbers_to many) (numbers-within many))

  channels-meet : AllByRecursion ChannelMeets (channel_totals s js)
  channels-meet =
      all-joined ChannelMeets (totals_of_owner s js) js
      (all-with (λ j. IsLawfulDomain j.line) (λ j. IsDomainRun s j.line j.entries) (λ j. AllByRecursion ChannelMeets (totals_of_owner s js j)) owner-meets js journals-lawful run.domain_runs)

  -- ---- lanes and rings

  lane-meets : (l : Lane) → LeadsTo s l.receiver l.size × IsTold s l.sender → EveryBuffer s js l → has_form (lane_form l.sender l.receiver) (places_text (places_of s js l)) ≡ true
  lane-meets l ends all =
      let sender = told-fits s board l.sender ends.1 in
      let receiver = told-fits s board l.receiver ends.0.told in
      let size = ends.0.buffers_fit in
      places-meet (places_of s js l) (record { from = omega (arith, sender); to = omega (arith, receiver); free = omega (arith, all, size); ring = omega (arith, all, size); queue = omega (arith, all, size); lent = omega (arith, all, size) })

  ring-fits : (l : LinkLine) → Joins s l → (has_form (ring_form l 0) (ring_text l 0 (image_of_queue s js l 0)) ≡ true) × (has_form (ring_form l 1) (ring_text l 1 (image_of_queue s js l 1)) ≡ true)
  ring-fits l joins =
      let driver : l.driver < 2 ^ 64 = omega (arith, told-fits s board l.driver joins.driver_told) in
      let device : l.device < 2 ^ 64 = omega (arith, told-fits s board l.device joins.device_told) in
      let first = queue-image s js l 0 in
      let second = queue-image s js l 1 in
      (ring-meets l 0 (image_of_queue s js l 0) driver device (omega arith) first.0 first.1, ring-meets l 1 (image_of_queue s js l 1) driver device (omega arith) second.0 second.1)

  pub numbers-meet : NumbersHaveForms s js
  numbers-meet = record {
    channels = all-map (λ r. has_form channel_form r ≡ true) channel_text (channel_totals s js) channels-meet;
    messages = messages-meet (totals s js) totals-few;
    no_channel = messages-other (totals s js);
    places = all-with (λ l. LeadsTo s l.receiver l.size × IsTold s l.sender) (EveryBuffer s js) (λ l. has_form (lane_form l.sender l.receiver) (places_text (places_of s js l)) ≡ true) lane-meets (lanes s) (lanes-fit s board) (every_lane s js board run);
    rings = all-weaken (Joins s) (λ l. (has_form (ring_form l 0) (ring_text l 0 (image_of_queue s js l 0)) ≡ true) × (has_form (ring_form l 1) (ring_text l 1 (image_of_queue s js l 1)) ≡ true)) ring-fits s.links board.links_join;
  }
