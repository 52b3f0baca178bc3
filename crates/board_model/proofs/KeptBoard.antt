-- On a board of linked domains no message is lost. Lane by lane, the messages of the frames put are those of the frames taken and
-- of those in the ring; and domain by domain, those taken from all peers were received or dropped, or are queued.
use Rattle.mc_base.specs.Reading.{Reading}
use Rattle.board_model.proofs.WholeHas.{Has}
use Rattle.board_model.specs.Parts.{readings, part_after}
use Rattle.board_model.proofs.PartReadings.{readings-append, readings-length}
use Rattle.board_model.proofs.PartRuns.{said_along}
use Rattle.board_model.proofs.PartLaw.{from_peer, reads_along, each_told}
use Rattle.board_model.proofs.KeptReach.{reach}
use Rattle.std.proofs.Common.{◌≡◌, ℕ, ◌+◌, ◌<◌, ◌^◌, Bool, List, [], ◌∷◌, drop, length, map, None, refl, sym, ap, ◌∙◌, arith, ◌++◌}
use Rattle.std.specs.Prelude.{count_by}
use Rattle.std.specs.List.{AllByRecursion}
use Rattle.std.proofs.lemmas.List.{drop_at}
use Rattle.board_model.specs.declared.scenario.DomainLine.{DomainLine}
use Rattle.board_model.specs.declared.scenario.Scenario.{Scenario}
use Rattle.board_model.specs.Scenario.{Neighbour, Lane, lane_to, lanes, neighbours, rising}
use Rattle.board_model.specs.LinkedBoard.{IsLinkedBoard}
use Rattle.board_model.specs.Traffic.{put_to, taken_from}
use Rattle.board_model.specs.Board.{DomainJournal, journal_in, journal_of, LaneFits, IsBoardRun}
use Rattle.board_model.specs.Deeds.{along}
use Rattle.board_model.specs.JournalDeeds.{deeds_of, opened, left_in}
use Rattle.board_model.specs.Messages.{Message, accepted_in, accepted, queued_in, messages_queued, ring_messages, messages_in_ring}
use Rattle.board_model.specs.Drops.{dropped_in, dropped}
use Rattle.board_model.specs.Takings.{taken_in, messages_taken}
use Rattle.board_model.specs.Headline.{NoMessageLost}
use Rattle.board_model.proofs.DeedRuns.{puts_by, says_by}
use Rattle.board_model.proofs.MessageAlls.{all-weaken, all-with}
use Rattle.board_model.proofs.MessageOnce.{total, total-each, total-same, total-sum, total-map, total-joined, count-joined}
use Rattle.board_model.proofs.MessageNeighbours.{over_lanes, lanes-turned}
use Rattle.board_model.proofs.PlaceBoards.{neighbours_differ}
use Rattle.board_model.proofs.OrderLaws.{run_queues}
use Rattle.board_model.proofs.OrderSerials.{Serials, all_succeed}
use Rattle.board_model.proofs.HonestRuns.{anything, sound_opening}
use Rattle.board_model.proofs.HonestBoard.{may_know, OnBoard, each_on_board}
use Rattle.board_model.proofs.KeptDeeds.{brought_by}
use Rattle.board_model.proofs.KeptRuns.{run_balanced}
use Rattle.board_model.proofs.KeptLanes.{passing, run_brings, saying, saying-append}
use Rattle.board_model.proofs.KeptSends.{run_sends}
use Rattle.board_model.proofs.KeptTells.{numbers_of, after_run}

-- ---- sums over journals, and over lanes

-- what is summed over the neighbours of each journal's domain is summed over all lanes
pub over-journals : (f : ℕ → ℕ → ℕ) (s : Scenario) (js : List DomainJournal) → IsBoardRun s js → total (λ j. total (λ k. f j.line.domain k.number) (neighbours s j.line)) js ≡ over_lanes f s
over-journals f s js run =
    sym (total-map (λ d. total (λ k. f d.domain k.number) (neighbours s d)) (λ (j : DomainJournal). j.line) js)
    ∙ ap (total (λ d. total (λ k. f d.domain k.number) (neighbours s d))) run.each_domain

pub over-all : (f : ℕ → ℕ → ℕ) (s : Scenario) → total (λ l. f l.sender l.receiver) (lanes s) ≡ over_lanes f s
over-all f s =
    total-joined (λ l. f l.sender l.receiver) (λ (d : DomainLine). map (lane_to d.domain) (neighbours s d)) (rising s)
    ∙ total-same (λ d. total (λ l. f l.sender l.receiver) (map (lane_to d.domain) (neighbours s d))) (λ d. total (λ k. f d.domain k.number) (neighbours s d))
    (λ d. total-map (λ l. f l.sender l.receiver) (lane_to d.domain) (neighbours s d)) (rising s)

module _ (s : Scenario) (js : List DomainJournal) (board : IsLinkedBoard s) (run : IsBoardRun s js) where
  abbrev pub Placed : DomainJournal → Type 0
  Placed j = OnBoard s js board run j × Has (λ e. e ≡ j.line) s.domains

  pub all_placed : AllByRecursion Placed js
  all_placed = all-with (OnBoard s js board run) (λ j. Has (λ e. e ≡ j.line) s.domains) Placed (λ j a b. (a, b)) js (each_on_board s js board run) (each_told s js board run)

  module _ (test : Message → Bool) where
    -- what passes the test of the messages that were put from one domain to another, of those taken there, and of those in the ring
    abbrev put_from : ℕ → ℕ → ℕ
    put_from a b = passing test a b (put_to b (journal_of a js))

    abbrev taken_at : ℕ → ℕ → ℕ
    taken_at a b = passing test a b (taken_from a (journal_of b js))

    abbrev ringing : ℕ → ℕ → ℕ
    ringing a b = saying test a b (drop (length (taken_from a (journal_of b js))) (readings None (put_to b (journal_of a js))))

    -- ---- a journal

    pub journal-accepted : (j : DomainJournal) → Placed j → count_by test (accepted_in s j) ≡ total (λ n. passing test j.line.domain n (put_to n j.entries)) (numbers_of s j.line)
    journal-accepted j on =
        let d : ℕ = j.line.domain in
        let made : ℕ = (left_in s j).endpoints_given in
        let known : ℕ → ℕ → Type 0 = may_know s js board run in
        run_sends test made known (numbers_of s j.line) (reach s js board run) (neighbours_differ s board j.line) (after_run s board j on.0.is_run).few d (opened s j) (deeds_of s j) on.0.told.run.may on.0.hears on.0.deeds.fit (λ q. reads_along s js board run q j on.0 [] (deeds_of s j) refl on.0.deeds.fit) (omega arith) (sound_opening made known d j.line.nodes (neighbours s j.line))
        ∙ total-same (λ n. passing test d n (along (puts_by n) (opened s j) (deeds_of s j))) (λ n. passing test d n (put_to n j.entries)) (λ n. ap (passing test d n) (sym (on.0.told.puts n))) (numbers_of s j.line)

    accepted_here : (j : DomainJournal) → Placed j → count_by test (accepted_in s j) ≡ total (λ k. put_from j.line.domain k.number) (neighbours s j.line)
    accepted_here j on =
        let d : ℕ = j.line.domain in
        journal-accepted j on
        ∙ (total-map (λ n. passing test d n (put_to n j.entries)) (λ (k : Neighbour). k.number) (neighbours s j.line)
        ∙ ap (λ o. total (λ k. passing test d k.number (put_to k.number (journal_in o))) (neighbours s j.line)) (sym on.0.found))

    -- what the frames taken bring
    abbrev pub brought : DomainJournal → ℕ
    brought j = count_by test (along (brought_by j.line.domain) (opened s j) (deeds_of s j))

    journal_brought : (j : DomainJournal) → Placed j → brought j ≡ total (λ k. taken_at k.number j.line.domain) (neighbours s j.line)
    journal_brought j on =
        let d : ℕ = j.line.domain in
        run_brings test d (numbers_of s j.line) (opened s j) (deeds_of s j) on.0.deeds.from
        ∙ (total-same (λ n. saying test n d (along (says_by n) (opened s j) (deeds_of s j))) (λ n. passing test n d (taken_from n j.entries)) (λ n. ap (saying test n d) (sym (said_along n j.line.domain j.line.nodes (neighbours s j.line) (deeds_of s j) (from_peer s js board run j on.0 on.1 n).known)) ∙ ap (passing test n d) (sym (on.0.told.takes n))) (numbers_of s j.line)
        ∙ (total-map (λ n. passing test n d (taken_from n j.entries)) (λ (k : Neighbour). k.number) (neighbours s j.line)
        ∙ ap (λ o. total (λ k. passing test k.number d (taken_from k.number (journal_in o))) (neighbours s j.line)) (sym on.0.found)))

    -- what was taken, dropped and left in queues
    abbrev kept_by : DomainJournal → ℕ
    kept_by j = count_by test (taken_in s j) + count_by test (dropped_in s j) + count_by test (queued_in s j)

    journal_kept : (j : DomainJournal) → Placed j → kept_by j ≡ brought j
    journal_kept j on =
        let made : ℕ = (left_in s j).endpoints_given in
        let few : all_succeed (deeds_of s j) + 1 < 2 ^ 64 = on.0.deeds.few in
        let serials : Serials (all_succeed (deeds_of s j)) (opened s j) = record { differ = tt; below = tt; small = omega arith } in
        let balance = run_balanced j.line.domain test made (numbers_of s j.line) (opened s j) (deeds_of s j) on.0.told.run.may (run_queues j.line.domain j.line.nodes (neighbours s j.line) (deeds_of s j) on.0.told.run few) (omega arith) (sound_opening made anything j.line.domain j.line.nodes (neighbours s j.line)) serials in
        omega (arith, balance)

    -- ---- all journals

    each : (f g : DomainJournal → ℕ) → ((j : DomainJournal) → Placed j → f j ≡ g j) → total f js ≡ total g js
    each f g same = total-each f g js (all-weaken Placed (λ j. f j ≡ g j) same js all_placed)

    accepted_total : count_by test (accepted s js) ≡ over_lanes put_from s
    accepted_total =
        count-joined test (accepted_in s) js
        ∙ (each (λ j. count_by test (accepted_in s j)) (λ j. total (λ k. put_from j.line.domain k.number) (neighbours s j.line)) accepted_here ∙ over-journals put_from s js run)

    brought_total : total brought js ≡ over_lanes (λ a b. taken_at b a) s
    brought_total = each brought (λ j. total (λ k. taken_at k.number j.line.domain) (neighbours s j.line)) journal_brought ∙ over-journals (λ a b. taken_at b a) s js run

    kept_parts : total kept_by js ≡ count_by test (messages_taken s js) + count_by test (dropped s js) + count_by test (messages_queued s js)
    kept_parts =
        let two : total kept_by js ≡ total (λ j. count_by test (taken_in s j) + count_by test (dropped_in s j)) js + total (λ j. count_by test (queued_in s j)) js
        = total-sum kept_by (λ j. count_by test (taken_in s j) + count_by test (dropped_in s j)) (λ j. count_by test (queued_in s j)) (λ j. refl) js in
        let one : total (λ j. count_by test (taken_in s j) + count_by test (dropped_in s j)) js ≡ total (λ j. count_by test (taken_in s j)) js + total (λ j. count_by test (dropped_in s j)) js
        = total-sum (λ j. count_by test (taken_in s j) + count_by test (dropped_in s j)) (λ j. count_by test (taken_in s j)) (λ j. count_by test (dropped_in s j)) (λ j. refl) js in
        omega (arith, count-joined test (taken_in s) js, count-joined test (dropped_in s) js, count-joined test (queued_in s) js)

    -- ---- lanes

    -- the messages that were put on a lane are those that were taken, and those in its ring
    lane_parts : (l : Lane) → LaneFits s js l → put_from l.sender l.receiver ≡ taken_at l.sender l.receiver + ringing l.sender l.receiver
    lane_parts l fits =
        let a : ℕ = l.sender in
        let b : ℕ = l.receiver in
        let front : List (List ℕ) = taken_from a (journal_of b js) in
        let after : List Reading = readings (part_after None front) fits.taken_first.0 in
        let split : readings None (put_to b (journal_of a js)) ≡ readings None front ++ after = ap (readings None) fits.taken_first.1 ∙ readings-append None front fits.taken_first.0 in
        let rest : drop (length front) (readings None (put_to b (journal_of a js))) ≡ after = ap (drop (length front)) split ∙ drop_at (readings None front) after (length front) (readings-length None front) in
        ap (saying test a b) split ∙ (saying-append test a b (readings None front) after ∙ ap (λ (rs : List Reading). passing test a b front + saying test a b rs) (sym rest))

    all_parts : (ls : List Lane) → AllByRecursion (LaneFits s js) ls →
        total (λ l. put_from l.sender l.receiver) ls ≡ total (λ l. taken_at l.sender l.receiver) ls + total (λ l. ringing l.sender l.receiver) ls
    all_parts [] fit = refl
    all_parts (l ∷ ls) fit = omega (arith, lane_parts l fit.0, all_parts ls fit.1)

    lanes_parts : over_lanes put_from s ≡ over_lanes taken_at s + count_by test (messages_in_ring s js)
    lanes_parts =
        let ring : count_by test (messages_in_ring s js) ≡ total (λ l. ringing l.sender l.receiver) (lanes s) = count-joined test (ring_messages js) (lanes s) in
        omega (arith, all_parts (lanes s) run.lanes_fit, over-all put_from s, over-all taken_at s)

    -- the messages that were accepted are those of the frames taken, and those in the ring
    pub accepted-parts : count_by test (accepted s js) ≡ total brought js + count_by test (messages_in_ring s js)
    accepted-parts = omega (arith, accepted_total, lanes_parts, lanes-turned taken_at s board, brought_total)

    kept : count_by test (accepted s js) ≡ count_by test (messages_taken s js) + count_by test (dropped s js) + count_by test (messages_queued s js) + count_by test (messages_in_ring s js)
    kept = omega (arith, accepted-parts, each kept_by brought journal_kept, kept_parts)

  pub no-message-lost : NoMessageLost s js
  no-message-lost test = kept test
