-- The items of one domain are kept along a run of deeds; and what the run's frames bring is counted lane by lane.
use Rattle.board_model.specs.Parts.{Came, came_from, said_from}
use Rattle.std.proofs.Common.{◌≡◌, ℕ, ◌+◌, ◌-◌, ◌≤◌, Bool, List, [], ◌∷◌, ◌++◌, map, filter, refl, ap, ◌∙◌, arith}
use Rattle.std.specs.Prelude.{count_by, Option}
use Rattle.std.proofs.lemmas.List.{map-append}
use Rattle.std.proofs.lemmas.List.Elements.{filter-append}
use Rattle.mc_base.specs.Letter.{PlainLetter, accept, reject, send_close}
use Rattle.mc_base.specs.Reading.{Reading}
use Rattle.board_model.specs.State.{ChannelEnd, DomainState}
use Rattle.board_model.specs.TakenFrames.{acting, row_of}
use Rattle.board_model.specs.Deeds.{Deed, looks_back, puts_owed, looks_ahead, takes, calls, happens_by, after_deed, after_deeds, MayDo, AllMayDo, along}
use Rattle.board_model.specs.Messages.{Message}
use Rattle.board_model.specs.Drops.{dropped_by}
use Rattle.board_model.specs.Takings.{Taking, is_message_taking, takings_by, taken_message}
use Rattle.board_model.proofs.LaneRows.{Deals, stays, strays, awaits, learns, forgets, hands, queues, loses, rejects, accepts, acts, row-deals}
use Rattle.board_model.proofs.ListsCounts.{count-append}
use Rattle.board_model.proofs.OrderGiven.{call_given}
use Rattle.board_model.proofs.OrderLaws.{AllQueues}
use Rattle.board_model.proofs.OrderSerials.{Serials, given_by_all, serials_changes, succeeds, all_succeed}
use Rattle.board_model.proofs.HonestSound.{Sound}
use Rattle.board_model.proofs.HonestDeeds.{HearsDeed, sound_deed}
use Rattle.board_model.proofs.HonestRuns.{anything, hears_anything, given_deeds}
use Rattle.board_model.proofs.KeptItems.{weight, took}
use Rattle.board_model.proofs.KeptDeeds.{brought_by, deed_balanced}

-- ---- how many requests are given: one at most by a call that is not refused

frame_gives : (s : DomainState) (q : ℕ) (name : Came) (rd : Reading) → given_by_all (row_of s q name rd).happens ≡ 0
frame_gives s q name rd = go (row-deals s q name rd)
  where
    acting_gives : (at : ℕ) (left : Option ChannelEnd) (l : PlainLetter) → given_by_all (acting at left l) ≡ 0
    acting_gives at left (accept n) = refl
    acting_gives at left (reject n why) = refl
    acting_gives at left (send_close n) = refl
    acting_gives at left other = refl

    go : Deals s q name rd (row_of s q name rd) → given_by_all (row_of s q name rd).happens ≡ 0
    go (stays happens word) = ap given_by_all happens
    go (strays source at p is none happens word) = ap given_by_all happens
    go (awaits source at p is some happens word) = ap given_by_all happens
    go (learns text n a names is learned_so happens word) = ap given_by_all happens
    go (forgets text n a names is forgotten_so happens word) = ap given_by_all happens
    go (hands source at l e is found carried waits happens word) = ap given_by_all happens
    go (queues source at l e is found carried none happens word) = ap given_by_all happens
    go (loses source at l e is found late happens word) = ap given_by_all happens
    go (rejects source at number kind why is happens word) = ap given_by_all happens
    go (accepts source at number kind e is found free idle happens word) = ap given_by_all happens
    go (acts source at l e c left is found has row happens word) = ap given_by_all happens ∙ acting_gives at left l

pub deed_gives : (s : DomainState) (d : Deed) → MayDo s d → given_by_all (happens_by s d) ≤ succeeds d
deed_gives s (looks_back q n) may = omega arith
deed_gives s (puts_owed q frame) may = omega arith
deed_gives s (looks_ahead q n) may = omega arith
deed_gives s (takes q name frame word) may = omega (arith, frame_gives s q (came_from s q name frame) (said_from s q frame))
deed_gives s (calls node call a) may = call_given s node call a may

-- ---- a run

less_room : (m n : ℕ) (s : DomainState) → n ≤ m → Serials m s → Serials n s
less_room m n s fewer serials = record { differ = serials.differ; below = serials.below; small = let k = serials.small in omega arith }

module _ (r : ℕ) (test : Message → Bool) where
  took_append : (ts us : List Taking) → took r test (ts ++ us) ≡ took r test ts + took r test us
  took_append ts us =
      ap (λ xs. count_by test (map (taken_message r) xs)) (filter-append is_message_taking ts us)
      ∙ (ap (count_by test) (map-append (taken_message r) (filter is_message_taking ts) (filter is_message_taking us)) ∙ count-append test (map (taken_message r) (filter is_message_taking ts)) (map (taken_message r) (filter is_message_taking us)))

  module _ (made : ℕ) (ns : List ℕ) where
    pub run_balanced : (s : DomainState) (ds : List Deed) → AllMayDo s ds → AllQueues s ds → (after_deeds s ds).endpoints_given ≤ made → Sound made anything ns s → Serials (all_succeed ds) s →
        count_by test (along (brought_by r) s ds) + weight r test s.endpoints ≡ took r test (along takings_by s ds) + count_by test (along (dropped_by r) s ds) + weight r test (after_deeds s ds).endpoints
    run_balanced s [] may order within sound serials = refl
    run_balanced s (d ∷ ds) may order within sound serials =
        let t : DomainState = after_deed s d in
        let gives : given_by_all (happens_by s d) ≤ succeeds d = deed_gives s d may.0 in
        let hears : HearsDeed anything d = (hears_anything (d ∷ [])).0 in
        let next : Sound made anything ns t = sound_deed made anything ns s sound d hears (omega (arith, given_deeds t ds)) in
        let numbered : Serials (all_succeed ds) t = less_room (succeeds d + all_succeed ds - given_by_all (happens_by s d)) (all_succeed ds) t (omega arith) (serials_changes (succeeds d + all_succeed ds) s (happens_by s d) (omega arith) serials) in
        omega (
          arith,
          deed_balanced r test made anything ns (succeeds d + all_succeed ds) s sound order.0 serials d may.0,
          run_balanced t ds may.1 order.1 within next numbered,
          count-append test (brought_by r s d) (along (brought_by r) t ds),
          count-append test (dropped_by r s d) (along (dropped_by r) t ds),
          took_append (takings_by s d) (along takings_by t ds),
        )
