-- On a board of linked domains the lines of the journals tell what became of the items of each channel.
use Rattle.std.proofs.Common.{◌≡◌, ℕ, ◌+◌, ◌≤◌, ◌<◌, ◌^◌, Bool, true, false, cond, List, [], ◌∷◌, ◌++◌, map, find, length, flat_map, Option, None, Some, refl, sym, ap, ◌∙◌, subst, arith, length-append}
use Rattle.std.specs.Prelude.{◌==◌, ◌&&◌, count_by, slice_get}
use Rattle.std.specs.List.{AllByRecursion}
use Rattle.std.proofs.lemmas.Bool.{eq-eqb}
use Rattle.mc_base.specs.declared.fate.Fate.{Fate}
use Rattle.board_model.specs.declared.scenario.Scenario.{Scenario}
use Rattle.board_model.specs.Scenario.{script, neighbours}
use Rattle.board_model.specs.LinkedBoard.{IsLinkedBoard}
use Rattle.board_model.specs.Journal.{joined}
use Rattle.board_model.specs.Run.{start, left_by}
use Rattle.board_model.specs.Traffic.{put_to}
use Rattle.board_model.specs.Board.{DomainJournal, IsBoardRun}
use Rattle.board_model.specs.Channels.{sent_over, accepted_by, accepted_in, items_accepted, taken_on, items_taken, data_said, is_lost, lost_by, lost_in, items_dropped, queued_in, items_queued, items_in_ring, named_by}
use Rattle.board_model.specs.Answer.{local}
use Rattle.board_model.specs.CallChanges.{at_end, at_channel}
use Rattle.board_model.specs.Journal.{PlainAnswer, agrees}
use Rattle.board_model.specs.DomainCall.{DomainCall, packet_from, scalar_from}
use Rattle.board_model.specs.Deeds.{Deed, looks_back, puts_owed, looks_ahead, takes, calls, after_deed, MayDo, AllMayDo, along}
use Rattle.board_model.specs.JournalDeeds.{deeds_of, opened, left_in}
use Rattle.board_model.specs.Parts.{coming_from, part_of, readings, part_after, said_from}
use Rattle.board_model.specs.State.{DomainState, Endpoint, ChannelEnd, queue_in, live_at}
use Rattle.board_model.proofs.ChannelLaw.{every-channel-is-kept}
use Rattle.board_model.proofs.ChannelLists.{letters-contents, takes-along}
use Rattle.board_model.proofs.ChannelPair.{lane_order, aim, passed}
use Rattle.board_model.proofs.ChannelWords.{not_begun, Sent, letters, letters_of, contents, InOrder, way_of}
use Rattle.board_model.proofs.DeedRuns.{frames_if, puts_by, takes_by, says_by}
use Rattle.board_model.proofs.HearingLaw.{in_order-parts, letters_of-append, contents-append, came_on, opening_sound, IsSmallFrame}
use Rattle.board_model.proofs.HearingSmall.{small_puts}
use Rattle.board_model.proofs.KeptLines.{IsHeld}
use Rattle.board_model.proofs.KeptTold.{not_stray}
use Rattle.board_model.proofs.ListsCounts.{one_if, count-cons}
use Rattle.board_model.proofs.MessageAlls.{all-at, all-parts, all-weaken}
use Rattle.board_model.proofs.MessageOnce.{total, total-each, total-sum, length-joined}
use Rattle.std.proofs.lemmas.Simd.{map-map}
use Rattle.board_model.specs.declared.scenario.DomainLine.{DomainLine}
use Rattle.board_model.specs.LinkedBoard.{Differ}
use Rattle.board_model.proofs.ListsOne.{all-any, differ-one, joined-one}
use Rattle.board_model.proofs.PlaceBoards.{rising_differ}
use Rattle.board_model.proofs.OneLane.{Aim, no_aim, aimed_at}
use Rattle.board_model.proofs.OrderSerials.{Serials, succeeds, all_succeed}
use Rattle.board_model.proofs.PartLaw.{journal_closed}
use Rattle.board_model.proofs.PartReadings.{AllSmooth, smooth-front, readings-append}
use Rattle.board_model.proofs.PartRuns.{said_along}
use Rattle.board_model.proofs.RunDeeds.{allowed-all}
use Rattle.board_numbers.specs.Items.{is_item_put, is_item_taken, is_item_lost, carries_item}
use Rattle.board_numbers.proofs.ChannelRuns.{IsPlaced, deeds-front, each_placed}
use Rattle.board_numbers.proofs.ClosedDeeds.{close_lost}
use Rattle.board_numbers.proofs.ClosedLines.{closed_in}
use Rattle.board_numbers.proofs.ClosedRuns.{all-fit, run-told}
use Rattle.board_numbers.proofs.ItemLines.{came_deed, lost_deed, came-told, lost-told}
use Rattle.board_numbers.proofs.ItemPuts.{items_on, items-put}
use Rattle.board_numbers.proofs.ItemsSaid.{item-said, items-said}
use Rattle.board_numbers.proofs.ItemQueues.{hears, Left, left-once, queued-length, unnamed-queue}

-- ---- deeds

module _ (o n : ℕ) where
  came_frames : (ds : List Deed) → count_by (carries_item n) (flat_map (takes_by o) ds) ≡ total (came_deed o n) ds
  came_frames [] = refl
  came_frames (takes p name frame word ∷ ds) = omega (arith, here (p == o) (flat_map (takes_by o) ds), came_frames ds)
    where
      here : (b : Bool) (rest : List (List ℕ)) → count_by (carries_item n) (frames_if b (frame ∷ []) ++ rest) ≡ one_if (b && carries_item n frame) + count_by (carries_item n) rest
      here true rest = count-cons (carries_item n) frame rest
      here false rest = omega arith
  came_frames (looks_back p k ∷ ds) = omega (arith, came_frames ds)
  came_frames (puts_owed p f ∷ ds) = omega (arith, came_frames ds)
  came_frames (looks_ahead p k ∷ ds) = omega (arith, came_frames ds)
  came_frames (calls node call a ∷ ds) = omega (arith, came_frames ds)

  -- an item that is lost is no part that is held, and is not stray
  frame_lost : (s : DomainState) (p : ℕ) (name : Option ℕ) (frame : List ℕ) (word : Fate) → MayDo s (takes p name frame word) → length (lost_by o n s (takes p name frame word)) ≡ lost_deed o n (takes p name frame word)
  frame_lost s p name frame word may = go (is_lost word) refl (p == o)
    where
      held : is_lost word ≡ true → IsHeld (coming_from s p frame)
      held lost = not_stray s p name frame word may (λ stray. let clash : true ≡ false = sym lost ∙ ap is_lost stray in absurd cc)

      go : (a : Bool) → is_lost word ≡ a → (b : Bool) → length (cond (a && b) (data_said n (said_from s p frame)) []) ≡ one_if (a && (b && carries_item n frame))
      go true lost true = item-said n (part_of s p) frame (held lost)
      go true lost false = refl
      go false lost b = refl

  lost_length : (s : DomainState) (ds : List Deed) → AllMayDo s ds → length (along (lost_by o n) s ds) ≡ total (lost_deed o n) ds + length (along (close_lost o n) s ds)
  lost_length s [] may = refl
  lost_length s (takes p name frame word ∷ ds) may =
      omega (arith, length-append (lost_by o n s (takes p name frame word)) (along (lost_by o n) (after_deed s (takes p name frame word)) ds), frame_lost s p name frame word may.0, lost_length (after_deed s (takes p name frame word)) ds may.1)
  lost_length s (calls node call a ∷ ds) may =
      omega (
        arith,
        length-append (lost_by o n s (calls node call a)) (along (lost_by o n) (after_deed s (calls node call a)) ds),
        length-append (close_lost o n s (calls node call a)) (along (close_lost o n) (after_deed s (calls node call a)) ds),
        lost_length (after_deed s (calls node call a)) ds may.1,
      )
  lost_length s (looks_back p k ∷ ds) may = omega (arith, lost_length (after_deed s (looks_back p k)) ds may.1)
  lost_length s (puts_owed p f ∷ ds) may = omega (arith, lost_length (after_deed s (puts_owed p f)) ds may.1)
  lost_length s (looks_ahead p k ∷ ds) may = omega (arith, lost_length (after_deed s (looks_ahead p k)) ds may.1)

-- ---- a board

module _ (s : Scenario) (js : List DomainJournal) (board : IsLinkedBoard s) (run : IsBoardRun s js) (n : ℕ) where
  abbrev Placed : DomainJournal → Type 0
  Placed j = IsPlaced s js board run j

  module _ (jo : DomainJournal) (on : Placed jo) where
    abbrev o : ℕ
    o = jo.line.domain

    abbrev sends : List Deed
    sends = deeds_of s jo

    -- ---- what came to a domain is what was taken, dropped and is queued there

    abbrev came : DomainJournal → ℕ
    came j = count_by (is_item_taken o n) (joined j.entries)

    -- what the frames say that a domain takes from the owner, and those left on the lane behind them
    abbrev front : DomainJournal → List (List ℕ)
    front j = flat_map (takes_by o) (deeds_of s j)

    abbrev left_on : (j : DomainJournal) → Placed j → List Sent
    left_on j at = letters_of n (readings (part_after None (front j)) (deeds-front s js board run j jo at on).0)

    said : (j : DomainJournal) → Placed j → readings None (front j) ≡ along (says_by o) (opened s j) (deeds_of s j)
    said j at = said_along o j.line.domain j.line.nodes (neighbours s j.line) (deeds_of s j) (at.0.known o)

    smooth : (j : DomainJournal) → Placed j → AllSmooth None (front j)
    smooth j at =
        let forth = deeds-front s js board run j jo at on in
        smooth-front None (front j) forth.0 (subst (AllSmooth None) (on.0.puts j.line.domain ∙ forth.1) (journal_closed s js board run jo on.1 j.line.domain).smooth)

    split : (j : DomainJournal) (at : Placed j) → letters n (along (puts_by j.line.domain) (opened s jo) sends) ≡ letters_of n (along (says_by o) (opened s j) (deeds_of s j)) ++ left_on j at
    split j at =
        let forth = deeds-front s js board run j jo at on in
        ap (letters n) forth.1
        ∙ (ap (letters_of n) (readings-append None (front j) forth.0)
        ∙ (letters_of-append n (readings None (front j)) (readings (part_after None (front j)) forth.0)
        ∙ ap (λ rs. letters_of n rs ++ left_on j at) (said j at)))

    came_told : (j : DomainJournal) → Placed j → length (came_on o n (opened s j) (deeds_of s j)) ≡ came j
    came_told j at =
        ap (λ (xs : List (List ℕ)). length xs) (letters-contents n (along (says_by o) (opened s j) (deeds_of s j)) ∙ ap (flat_map (data_said n)) (sym (said j at)))
        ∙ (items-said n None (front j) (smooth j at)
        ∙ (came_frames o n (deeds_of s j)
        ∙ came-told o n (script s j.line.domain) [] (start s j.line) j.entries))

    abbrev kept_at : DomainJournal → ℕ
    kept_at j = length (taken_on s o n j) + length (lost_in s o n j) + length (queued_in s o n j)

    journal_came : (j : DomainJournal) → Placed j → came j ≡ kept_at j
    journal_came j at =
        let forth = deeds-front s js board run j jo at on in
        let back = deeds-front s js board run jo j on at in
        let all = passed o n jo.line.nodes (neighbours s jo.line) sends on.0.may on.0.read on.0.few j.line.domain j.line.nodes (neighbours s j.line) (deeds_of s j) (at.0.known o) at.0.may at.0.few forth back in
        let came_there = came_on o n (opened s j) (deeds_of s j) in
        let rest = contents (left_on j at) in
        let parts : contents (letters n (along (puts_by j.line.domain) (opened s jo) sends)) ≡ came_there ++ rest
        = ap contents (split j at) ∙ contents-append (letters_of n (along (says_by o) (opened s j) (deeds_of s j))) (left_on j at) in
        let taken = takes-along o n (opened s j) (deeds_of s j) in
        let lost = lost_in s o n j in
        let queued = queued_in s o n j in
        omega (
          arith,
          sym (came_told j at),
          ap (λ (xs : List (List ℕ)). length xs) (sym parts ∙ (all.kept ∙ ap (λ ts. ts ++ (lost ++ (queued ++ rest))) taken)),
          length-append came_there rest,
          length-append (taken_on s o n j) (lost ++ (queued ++ rest)),
          length-append lost (queued ++ rest),
          length-append queued rest,
        )

    -- ---- what a domain dropped, and what is queued there

    abbrev lost : DomainJournal → ℕ
    lost j = count_by (is_item_lost o n) (joined j.entries) + closed_in o n (joined j.entries)

    journal_lost : (j : DomainJournal) → Placed j → length (lost_in s o n j) ≡ lost j
    journal_lost j at =
        let lines = script s j.line.domain in
        let start_state = opened s j in
        let ds = deeds_of s j in
        let serials : Serials (all_succeed ds) start_state = record { differ = tt; below = tt; small = omega (arith, at.0.few) } in
        let fit = all-fit (all_succeed ds) start_state ds at.0.may (opening_sound j.line.domain j.line.nodes (neighbours s j.line)) tt serials (omega arith) at.0.read in
        omega (
          arith,
          lost_length o n start_state ds at.0.may,
          lost-told o n lines [] (start s j.line) j.entries,
          run-told o n lines [] [] (start s j.line) start_state j.entries refl (allowed-all lines (start s j.line) (left_by s j.line j.entries) j.entries at.1.is_run.steps) fit refl,
        )

    abbrev queued : DomainJournal → ℕ
    queued j = length (queue_in (find (hears o n) (left_by s j.line j.entries).state.endpoints))

    journal_left : (j : DomainJournal) → Placed j → Left o n (left_in s j)
    journal_left j at =
        let forth = deeds-front s js board run j jo at on in
        let order = lane_order o n jo.line.nodes (neighbours s jo.line) sends on.0.may on.0.read on.0.few j.line.domain in
        let first = (in_order-parts not_begun (letters_of n (along (says_by o) (opened s j) (deeds_of s j))) (left_on j at) (subst (InOrder not_begun) (split j at) order)).0 in
        let small = (all-parts IsSmallFrame (front j) forth.0 (subst (AllByRecursion IsSmallFrame) forth.1 (small_puts j.line.domain (opened s jo) sends on.0.may))).0 in
        left-once o n j.line.domain j.line.nodes (neighbours s j.line) (deeds_of s j) at.0.may small at.0.few first

    journal_queued : (j : DomainJournal) → Placed j → length (queued_in s o n j) ≡ queued j
    journal_queued j at =
        let left = journal_left j at in
        queued-length o n (left_in s j) left.sound left.once ∙ (sym (unnamed-queue o n (left_in s j)) ∙ ap (λ (t : DomainState). length (queue_in (find (hears o n) t.endpoints))) (sym at.1.told.state))

    -- ---- what was accepted

    abbrev by_owner : List (List ℕ)
    by_owner = along (accepted_by n) (opened s jo) sends

    sent_is : (p : ℕ) → items_on n (put_to p jo.entries) ≡ length (contents (letters n (along (puts_by p) (opened s jo) sends)))
    sent_is p =
        sym (items-said n None (put_to p jo.entries) (journal_closed s js board run jo on.1 p).smooth)
        ∙ ap (λ (xs : List (List ℕ)). length xs) (ap (λ (fs : List (List ℕ)). flat_map (data_said n) (readings None fs)) (on.0.puts p) ∙ sym (letters-contents n (readings None (along (puts_by p) (opened s jo) sends))))

    accepted_told : length by_owner ≡ count_by (is_item_put n) (joined jo.entries)
    accepted_told = go (aim o n jo.line.nodes (neighbours s jo.line) sends on.0.may on.0.read on.0.few)
      where
        go : Aim (λ p. way_of not_begun (letters n (along (puts_by p) (opened s jo) sends))) (λ p. contents (letters n (along (puts_by p) (opened s jo) sends))) by_owner (along (named_by n) (opened s jo) sends) → length by_owner ≡ count_by (is_item_put n) (joined jo.entries)
        go (no_aim way none empty) =
            let nothing : (p : ℕ) → items_on n (put_to p jo.entries) ≡ 0 = λ p. sent_is p ∙ ap (λ (xs : List (List ℕ)). length xs) (none p) in
            let told = items-put n 0 jo.entries (λ p far. nothing p) in
            ap (λ (xs : List (List ℕ)). length xs) empty ∙ (sym (nothing 0) ∙ sym told)
        go (aimed_at q begun same other named) =
            let told = items-put n q jo.entries (λ p far. sent_is p ∙ ap (λ (xs : List (List ℕ)). length xs) (other p far).1) in
            ap (λ (xs : List (List ℕ)). length xs) (sym same) ∙ (sym (sent_is q) ∙ sym told)

    -- the deeds that are accepted are calls that succeed
    one_few : (b : Bool) (c : List ℕ) → length (cond b (c ∷ []) []) ≤ 1
    one_few true c = omega arith
    one_few false c = omega arith

    end_few : (x : Option Endpoint) (c : List ℕ) → length (at_end x (sent_over n c)) ≤ 1
    end_few None c = omega arith
    end_few (Some e) c = go e.channel
      where
        go : (y : Option ChannelEnd) → length (at_channel y (sent_over n c e)) ≤ 1
        go None = omega arith
        go (Some d) = one_few (d.number == n) c

    call_few : (t : DomainState) (node : ℕ) (call : DomainCall) (a : PlainAnswer) → length (accepted_by n t (calls node call a)) ≤ succeeds (calls node call a)
    call_few t node (packet_from port bytes) agrees = end_few (live_at t (local node port)) bytes
    call_few t node (scalar_from port bits value) agrees = end_few (live_at t (local node port)) _
    call_few t node call a = omega arith

    deeds_few : (t : DomainState) (ds : List Deed) → length (along (accepted_by n) t ds) ≤ all_succeed ds
    deeds_few t [] = omega arith
    deeds_few t (calls node call a ∷ ds) = omega (arith, length-append (accepted_by n t (calls node call a)) (along (accepted_by n) (after_deed t (calls node call a)) ds), call_few t node call a, deeds_few (after_deed t (calls node call a)) ds)
    deeds_few t (takes p name frame word ∷ ds) = omega (arith, deeds_few (after_deed t (takes p name frame word)) ds)
    deeds_few t (looks_back p k ∷ ds) = omega (arith, deeds_few (after_deed t (looks_back p k)) ds)
    deeds_few t (puts_owed p f ∷ ds) = omega (arith, deeds_few (after_deed t (puts_owed p f)) ds)
    deeds_few t (looks_ahead p k ∷ ds) = omega (arith, deeds_few (after_deed t (looks_ahead p k)) ds)

    accepted_all : items_accepted s js o n ≡ by_owner
    accepted_all =
        joined-one (accepted_in s o n) (λ j. j.line.domain == o) js jo (differ-one (λ (j : DomainJournal). j.line.domain) o js domains_apart)
        (all-any (λ j. (j.line.domain == o) ≡ false → accepted_in s o n j ≡ []) (λ j other. ap (λ b. cond b (along (accepted_by n) (opened s j) (deeds_of s j)) []) other) js) on.1.found
        ∙ ap (λ b. cond b by_owner []) (eq-eqb o o refl)
      where
        domains_apart : Differ (map (λ (j : DomainJournal). j.line.domain) js)
        domains_apart = subst Differ (sym (sym (map-map (λ (d : DomainLine). d.domain) (λ (j : DomainJournal). j.line) js) ∙ ap (map (λ (d : DomainLine). d.domain)) run.each_domain)) (rising_differ s board)

  -- ---- sums over the board

  -- the items of its channels that a domain's lines tell to be accepted
  abbrev pub put_by : ℕ → DomainJournal → ℕ
  put_by owner j = cond (j.line.domain == owner) (count_by (is_item_put n) (joined j.entries)) 0

  journal_accepted : (owner : ℕ) (j : DomainJournal) → Placed j → length (accepted_in s owner n j) ≡ put_by owner j
  journal_accepted owner j at = go (j.line.domain == owner)
    where
      go : (b : Bool) → length (cond b (along (accepted_by n) (opened s j) (deeds_of s j)) []) ≡ cond b (count_by (is_item_put n) (joined j.entries)) 0
      go true = accepted_told j at
      go false = refl

  -- what the lines of all journals tell of the items of the channel of an owner
  pub record ItemsCounted (owner : ℕ) : Type 0 where
    pub accepts : length (items_accepted s js owner n) ≡ total (put_by owner) js
    pub brings : total (λ j. count_by (is_item_taken owner n) (joined j.entries)) js ≡ length (items_taken s js owner n) + length (items_dropped s js owner n) + length (items_queued s js owner n)
    pub drops_some : length (items_dropped s js owner n) ≡ total (λ j. count_by (is_item_lost owner n) (joined j.entries) + closed_in owner n (joined j.entries)) js
    pub queues : length (items_queued s js owner n) ≡ total (λ j. length (queue_in (find (hears owner n) (left_by s j.line j.entries).state.endpoints))) js
    pub all : length (items_accepted s js owner n) ≡ length (items_taken s js owner n) + length (items_dropped s js owner n) + length (items_queued s js owner n) + length (items_in_ring s js owner n)
    pub few : length (items_accepted s js owner n) < 2 ^ 64

  each : (f g : DomainJournal → ℕ) → ((j : DomainJournal) → Placed j → f j ≡ g j) → total f js ≡ total g js
  each f g same = total-each f g js (all-weaken Placed (λ j. f j ≡ g j) same js (each_placed s js board run))

  counted_of : (jo : DomainJournal) → Placed jo → ItemsCounted jo.line.domain
  counted_of jo on =
      let o = jo.line.domain in
      let kept = every-channel-is-kept s js board run o n in
      let taken = items_taken s js o n in
      let dropped = items_dropped s js o n in
      let queue = items_queued s js o n in
      let ring = items_in_ring s js o n in
      let two : total (λ j. length (taken_on s o n j) + length (lost_in s o n j) + length (queued_in s o n j)) js ≡ total (λ j. length (taken_on s o n j) + length (lost_in s o n j)) js + total (λ j. length (queued_in s o n j)) js
      = total-sum (λ j. length (taken_on s o n j) + length (lost_in s o n j) + length (queued_in s o n j)) (λ j. length (taken_on s o n j) + length (lost_in s o n j)) (λ j. length (queued_in s o n j)) (λ j. refl) js in
      let one : total (λ j. length (taken_on s o n j) + length (lost_in s o n j)) js ≡ total (λ j. length (taken_on s o n j)) js + total (λ j. length (lost_in s o n j)) js
      = total-sum (λ j. length (taken_on s o n j) + length (lost_in s o n j)) (λ j. length (taken_on s o n j)) (λ j. length (lost_in s o n j)) (λ j. refl) js in
      record {
        accepts = length-joined (accepted_in s o n) js ∙ each (λ j. length (accepted_in s o n j)) (put_by o) (journal_accepted o);
        brings = omega (
          arith,
          each (came jo on) (kept_at jo on) (journal_came jo on),
          two,
          one,
          length-joined (taken_on s o n) js,
          length-joined (lost_in s o n) js,
          length-joined (queued_in s o n) js,
        );
        drops_some = length-joined (lost_in s o n) js ∙ each (λ j. length (lost_in s o n j)) (lost jo on) (journal_lost jo on);
        queues = length-joined (queued_in s o n) js ∙ each (λ j. length (queued_in s o n j)) (queued jo on) (journal_queued jo on);
        all = omega (
          arith,
          ap (λ (xs : List (List ℕ)). length xs) kept.kept,
          length-append taken (dropped ++ (queue ++ ring)),
          length-append dropped (queue ++ ring),
          length-append queue ring,
        );
        few = omega (arith, ap (λ (xs : List (List ℕ)). length xs) (accepted_all jo on), deeds_few jo on (opened s jo) (deeds_of s jo), on.0.few);
      }

  -- of each domain of the board
  pub items-counted : (i : ℕ) (j : DomainJournal) → slice_get js i ≡ Some j → ItemsCounted j.line.domain
  items-counted i j at = counted_of j (all-at Placed js i j (each_placed s js board run) at)
