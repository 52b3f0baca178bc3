-- The rounds of a wait on a board that runs serially, and a line that waits as a whole.
use Rattle.std.proofs.Common.{◌≡◌, ℕ, zero, suc, ◌+◌, ◌<◌, Bool, true, false, not, cond, List, [], ◌∷◌, length, take, position, Some, None, Option, option_map, is_some, refl, sym, ap, ◌∙◌, subst, inl, inr, arith}
use Rattle.std.specs.Prelude.{IsSome, slice_get}
use Rattle.std.specs.List.{AllByRecursion, list_any}
use Rattle.std.proofs.lemmas.Iterator.Adapters.{position_from-zero}
use Rattle.std.proofs.lemmas.List.{length-map}
use Rattle.mc_base.specs.declared.refusal.Refusal.TheVariants.{RequestInvalid, Timeout}
use Rattle.board_model.specs.declared.scenario.CallLine.{CallLine}
use Rattle.board_model.specs.declared.scenario.Scenario.{Scenario}
use Rattle.board_model.specs.Answer.{answer, answer_by, is_complete_at, lacks_complete, lacks_request, place_said, success}
use Rattle.board_model.specs.DomainCall.{DomainCall, wait_for}
use Rattle.board_model.specs.Journal.{turned}
use Rattle.board_model.specs.Language.{IsLawfulBoard}
use Rattle.board_model.specs.SerialRun as run
use Rattle.board_model.specs.SerialRun.{Running, all_turned, is_waiting_at, last_call, line_by, line_run, numbers, rounds, station_of, turned_once, with_beginning}
use Rattle.board_model.specs.State.{DomainState}
use Rattle.board_model.specs.Step.{call_at, is_timeout, limit_of}
use Rattle.board_model.proofs.LawfulBoards.{lawful_is_linked}
use Rattle.board_model.proofs.PlaceBoards.{rising_differ}
use Rattle.board_model.proofs.WaitCalls.{call-waits}
use Rattle.board_model.proofs.WholeHas.{Has}
use Rattle.board_model.proofs.WholeStations.{entered_all}
use Rattle.board_model.proofs.WholeWaits.{turn_all_stand}
use Rattle.domain_core.specs.Awaiting.{first_settled, places_named}
use Rattle.domain_core.specs.Waiting.{wait_on}
use Rattle.board_runner.specs.declared.station.Station.{Station}
use Rattle.board_runner.specs.Runs.{AllCarried, At, CountsFit, DropsFit, IsNext, IsSomeNext, IsSomeRun, KeepCounts, Leads, RunsLine, TurnsOnce}
use Rattle.board_runner.specs.Stations.{IsRun}
use Rattle.board_runner.specs.Waits.{HasSettled, HasTested, RoundsUntil, TestsWait, TimesOut, TurnsAll, ids_named}
use Rattle.board_runner.proofs.OthersLemmas.{all_turned-append, board_numbers, number_at, some_turned, take-all, take-more}
use Rattle.board_runner.proofs.StationCounts.{at_place}
use Rattle.board_runner.proofs.StationLemmas.{domains_rise, item_at, numbers_are}
use Rattle.board_runner.proofs.TriesLemmas.{next_stays}
use Rattle.board_runner.proofs.WaitLemmas.{wait-named}
use Rattle.board_runner.proofs.WaitRuns.{wait-found, wait-there, waiting-here}
use Rattle.board_runner.proofs.WaitStations.{same-call}
use Rattle.board_model.proofs.WaitTurns.{one_turn, same_call}
use Rattle.domain_core.proofs.WaitPlaces.{any-from}

-- ---- a round

-- those before a place made their turn
abbrev pub TurnedTo : ℕ → List Station → List Station → Type 0
TurnedTo i old new = Leads (λ s r. all_turned s r (take i (board_numbers s))) old new

pub record RoundSoFar (i : ℕ) (old new : List Station) : Type 0 where
  pub before : TurnedTo i old new
  pub run : IsSomeRun new
  pub carried : AllCarried new
  pub counts : KeepCounts old new

pub no-round : (sts : List Station) → IsSomeRun sts → AllCarried sts → RoundSoFar 0 sts sts
no-round sts some carried = record { before = λ s r lawful h. h; run = some; carried = carried; counts = refl }

one_turned : (i : ℕ) (old mid new : List Station) (st : Station) → slice_get mid i ≡ Some st → TurnedTo i old mid → TurnsOnce i mid new → TurnedTo (suc i) old new
one_turned i old mid new st is before turns s r lawful h =
    let n = st.domain.state.number in
    let q = all_turned s r (take i (board_numbers s)) in
    let k = before s r lawful h in
    let went = at_place (λ y. Leads (λ s r. turned_once s r y.domain.state.number) mid new) mid i st is turns s q lawful k in
    subst (λ (ns : List ℕ). IsRun s (all_turned s r ns) new) (sym (take-more (board_numbers s) i n (number_at s q mid i st k is)))
    (subst (λ (z : Running). IsRun s z new) (sym (all_turned-append s r (take i (board_numbers s)) (n ∷ []))) went)

pub round-further : (i : ℕ) (old mid new : List Station) → i < length mid → RoundSoFar i old mid → TurnsOnce i mid new → AllCarried new → KeepCounts mid new → RoundSoFar (i + 1) old new
round-further i old mid new lt h turns carried same =
    let st = item_at mid i lt in
    let next : suc i ≡ i + 1 = omega arith in
    record {
      before = subst (λ (n : ℕ). TurnedTo n old new) next (one_turned i old mid new st.0 st.1 h.before turns);
      run = some_turned i mid new st.0 st.1 h.run turns;
      carried = carried;
      counts = same ∙ h.counts;
    }

pub whole-round : (i : ℕ) (old new : List Station) → i ≡ length old → TurnedTo i old new → TurnsAll old new
whole-round i old new all before s r lawful h =
    let many : i ≡ length (board_numbers s) =
    all ∙ sym (length-map old (λ (y : Station). y.domain.state.number)) ∙ ap length (numbers_are s r.stations old h.each ∙ domains_rise s r.stations h.lines) in
    subst (λ (ns : List ℕ). IsRun s (all_turned s r ns) new) (take-all (board_numbers s) i many) (before s r lawful h)

-- ---- what a wait is after a turn

stood : (s : DomainState) (node : ℕ) (places : List (Option ℕ)) (says : Bool) → is_timeout (answer s node (wait_for places says)) ≡ true → lacks_request s (wait_for places says) ≡ false
stood s node places says = go (lacks_request s (wait_for places says)) (lacks_complete s (wait_for places says))
  where
    go : (a b : Bool) → is_timeout (answer_by (cond a (Some RequestInvalid) (cond b (Some Timeout) None)) (success s node (wait_for places says))) ≡ true → a ≡ false
    go true b e = absurd cc
    go false b e = refl

-- where all its requests exist it waits until one is complete
waits_by : (s : DomainState) (node : ℕ) (places : List (Option ℕ)) (says : Bool) → lacks_request s (wait_for places says) ≡ false → is_timeout (answer s node (wait_for places says)) ≡ lacks_complete s (wait_for places says)
waits_by s node places says = go (lacks_request s (wait_for places says)) (lacks_complete s (wait_for places says))
  where
    go : (a b : Bool) → a ≡ false → is_timeout (answer_by (cond a (Some RequestInvalid) (cond b (Some Timeout) None)) (success s node (wait_for places says))) ≡ b
    go true b e = absurd cc
    go false true e = refl
    go false false e = refl

some_map : {A B : Type 0} (f : A → B) (o : Option A) → is_some (option_map f o) ≡ is_some o
some_map f None = refl
some_map f (Some x) = refl

some_said : (s : DomainState) (places : List (Option ℕ)) → is_some (place_said s places true) ≡ list_any (is_complete_at s) places
some_said s places =
    some_map (λ (i : ℕ). i + 1) (position (is_complete_at s) places) ∙ ap (λ (o : Option ℕ). is_some o) (position_from-zero (is_complete_at s) places) ∙ any-from (is_complete_at s) 0 places

has_at : (ns : List ℕ) (i n : ℕ) → slice_get ns i ≡ Some n → Has (λ m. m ≡ n) ns
has_at [] i n e = absurd cc
has_at (m ∷ ns) zero n e = let is : m ≡ n = cc in inl is
has_at (m ∷ ns) (suc i) n e = inr (has_at ns i n e)

some_is : {x y : run.Station} → ◌≡◌ {A = Option run.Station} (Some x) (Some y) → x ≡ y
some_is e = cc

some_limit : (o : Option ℕ) → IsSome o → (n : ℕ) × (o ≡ Some n)
some_limit None some = absurd cc
some_limit (Some n) some = (n, refl)

-- after a round of a wait that waited, it waits where none of its requests is complete
module _ (s : Scenario) (lawful : IsLawfulBoard s) (r : Running) (mid new : List Station) (at : ℕ) (line : CallLine) (in_mid : at < length mid) (in_new : at < length new) (h : IsRun s r mid) (next : At at (IsNext s line) mid) (k : IsRun s (all_turned s r (numbers s)) new) (kept : KeepCounts mid new)
    (is_wait : IsSome (limit_of line.call)) (waits : is_waiting_at line (station_of line r) ≡ true) where
  pub settled-is : (st : Station) → slice_get new at ≡ Some st → (b : Bool) → b ≡ is_some (first_settled (ids_named st.ids line.call) st.domain) → is_waiting_at line (station_of line (all_turned s r (numbers s))) ≡ not b
  settled-is st is b same =
      let board = lawful_is_linked s lawful in
      let q = all_turned s r (numbers s) in
      let was = item_at mid at in_mid in
      let next_was = at_place (IsNext s line) mid at was.0 was.1 next in
      let next_is = at_place (IsNext s line) new at st is (next_stays s r q line mid new at in_new h k kept next) in
      let before = wait-there s board r mid h at was.0 was.1 line next_was is_wait in
      let after = wait-there s board q new k at st is line next_is is_wait in
      let found_before = wait-found s board r mid h at was.0 was.1 line next_was is_wait in
      let found_after = wait-found s board q new k at st is line next_is is_wait in
      let t = before.station in
      let turn = one_turn s (numbers s) line.domain r t (rising_differ s board) (has_at (numbers s) at line.domain (number_at s r mid at was.0 h was.1 ∙ ap (λ (n : ℕ). Some n) next_was.number)) found_before in
      let u = entered_all s (turned turn.0 ∷ []) t in
      let is_u : after.station ≡ u = some_is (sym found_after ∙ turn.1) in
      let limit = some_limit (limit_of line.call) is_wait in
      let w = call-waits t.run.labels t.run.state line.call limit.0 limit.1 in
      let all_stood = stood t.run.state line.node w.requests w.says_place (ap (λ (c : DomainCall). is_timeout (answer t.run.state line.node c)) (sym w.is) ∙ sym (ap (is_waiting_at line) found_before) ∙ waits) in
      let stand_u : lacks_request u.run.state (call_at u.run line) ≡ false =
      ap (lacks_request u.run.state) (same_call t.run.labels t.run.state turn.0 line.call limit.0 limit.1 ∙ w.is) ∙ ap not (turn_all_stand t.run.state turn.0 w.requests) ∙ all_stood in
      let ids = ids_named st.ids line.call in
      let named = wait-named st.ids st.packets st.domain line.call is_wait ∙ same-call s after.station st after.stands line is_wait in
      let stand : lacks_request st.domain.state (wait_on ids true st.domain) ≡ false =
      ap (lacks_request st.domain.state) named
      ∙ ap (λ (x : DomainState). lacks_request x (call_at after.station.run line)) after.stands.state
      ∙ ap (λ (x : run.Station). lacks_request x.run.state (call_at x.run line)) is_u
      ∙ stand_u in
      sym (waiting-here s board q new k at st is line next_is is_wait true)
      ∙ waits_by st.domain.state 0 (places_named ids st.domain) true stand
      ∙ ap not (sym (some_said st.domain.state (places_named ids st.domain)) ∙ sym same)

-- ---- rounds

-- the stations stand for a run in which the line waits, and from which so many more rounds lead to this one
pub record GoesOn (s : Scenario) (line : CallLine) (left : ℕ) (final : Running) (sts : List Station) : Type 0 where
  pub run : Running
  pub stands : IsRun s run sts
  pub waits : is_waiting_at line (station_of line run) ≡ true
  pub goes : rounds s line left run ≡ final

abbrev pub RoundsTo : CallLine → ℕ → ℕ → ℕ → List Station → List Station → Type 0
RoundsTo line at limit left old new = (s : Scenario) (r : Running) → IsLawfulBoard s → At at (IsNext s line) old → IsRun s r old → is_waiting_at line (station_of line r) ≡ true → GoesOn s line left (rounds s line limit r) new

pub no-rounds : (line : CallLine) (at limit left : ℕ) (sts : List Station) → left ≡ limit → RoundsTo line at limit left sts sts
no-rounds line at limit left sts same s r lawful next h waits = record { run = r; stands = h; waits = waits; goes = ap (λ (n : ℕ). rounds s line n r) same }

module _ (line : CallLine) (at limit left : ℕ) (old mid new : List Station) (in_mid : at < length mid) (in_new : at < length new) (is_wait : IsSome (limit_of line.call)) (counts : KeepCounts old mid) (kept : KeepCounts mid new)
    (before : RoundsTo line at limit (suc left) old mid) (turns : TurnsAll mid new) (st : Station) (is : slice_get new at ≡ Some st) (b : Bool) (settled : b ≡ is_some (first_settled (ids_named st.ids line.call) st.domain)) where
  -- none is complete
  pub one-round : b ≡ false → RoundsTo line at limit left old new
  one-round none s r lawful next h waits =
      let g = before s r lawful next h waits in
      let q = all_turned s g.run (numbers s) in
      let stands = turns s g.run lawful g.stands in
      let still = settled-is s lawful g.run mid new at line in_mid in_new g.stands (next_stays s r g.run line old mid at in_mid h g.stands counts next) stands kept is_wait g.waits st is b settled ∙ ap not none in
      record {
        run = q;
        stands = stands;
        waits = still;
        goes = sym (ap (λ (x : Bool). cond x (rounds s line left q) (last_call s line (station_of line q) q)) still) ∙ g.goes;
      }

  -- one is
  pub last-round : b ≡ true → RoundsUntil line true limit at old new
  last-round one s r lawful next h waits =
      let g = before s r lawful next h waits in
      let q = all_turned s g.run (numbers s) in
      let stands = turns s g.run lawful g.stands in
      let ends = settled-is s lawful g.run mid new at line in_mid in_new g.stands (next_stays s r g.run line old mid at in_mid h g.stands counts next) stands kept is_wait g.waits st is b settled ∙ ap not one in
      record {
        run = q;
        stands = stands;
        waits = ends;
        leads = sym g.goes ∙ ap (λ (x : Bool). cond x (rounds s line left q) (last_call s line (station_of line q) q)) ends;
      }

-- the limit is reached
pub rounds-out : (line : CallLine) (at limit : ℕ) (old new : List Station) → RoundsTo line at limit 0 old new → RoundsUntil line false limit at old new
rounds-out line at limit old new before s r lawful next h waits =
    let g = before s r lawful next h waits in
    record { run = g.run; stands = g.stands; waits = g.waits; leads = sym g.goes }

-- ---- the line that comes next

pub some-run : (line : CallLine) (at : ℕ) (sts : List Station) → IsSomeNext line at sts → IsSomeRun sts
some-run line at sts some = record { scenario = some.scenario; lawful = some.lawful; run = some.run; stands = some.stands }

some_still : (line : CallLine) (at : ℕ) (old new : List Station) → at < length new → KeepCounts old new → (some : IsSomeNext line at old) → (q : Running) → IsRun some.scenario q new → IsSomeNext line at new
some_still line at old new in_new kept some q stands = record {
  scenario = some.scenario;
  lawful = some.lawful;
  run = q;
  stands = stands;
  next = next_stays some.scenario some.run q line old new at in_new some.stands stands kept some.next;
}

-- it still does after a round
pub next-round : (line : CallLine) (at : ℕ) (old new : List Station) → at < length new → KeepCounts old new → TurnsAll old new → IsSomeNext line at old → IsSomeNext line at new
next-round line at old new in_new kept turns some = some_still line at old new in_new kept some (all_turned some.scenario some.run (numbers some.scenario)) (turns some.scenario some.run some.lawful some.stands)

-- and where a wait has begun
pub next-begun : (line : CallLine) (at : ℕ) (old new : List Station) → at < length new → KeepCounts old new → TestsWait line false at old new → IsSomeNext line at old → IsSomeNext line at new
next-begun line at old new in_new kept tests some =
    let s = some.scenario in
    let r = some.run in
    some_still line at old new in_new kept some (with_beginning s line (station_of line r) r) (tests s r some.lawful some.next some.stands).stands

pub fits-kept : (old new : List Station) → KeepCounts old new → CountsFit old → CountsFit new
fits-kept old new kept fits = subst (AllByRecursion DropsFit) (sym kept) fits

-- ---- a line that waits

module _ (line : CallLine) (limit at : ℕ) (old : List Station) (is : limit_of line.call ≡ Some limit) where
  -- it needs no turn
  pub ran-at-once : (new : List Station) → TestsWait line true at old new → RunsLine line at old new
  ran-at-once new tests s r lawful next h =
      let t = tests s r lawful next h in
      let begun = with_beginning s line (station_of line r) r in
      subst (λ (z : Running). IsRun s z new)
      (sym (ap (λ (o : Option ℕ). line_by s line o r) is ∙ ap (λ (x : Bool). cond x (rounds s line limit begun) (last_call s line (station_of line r) r)) t.ends)) t.stands

  module _ (mid : List Station) (in_mid : at < length mid) (begins : TestsWait line false at old mid) (kept : KeepCounts old mid) where
    -- the run where it has begun
    goes_on : (s : Scenario) (r : Running) (begun : HasTested s line false r mid) → line_run s r line ≡ rounds s line limit (with_beginning s line (station_of line r) r)
    goes_on s r begun =
        let b = with_beginning s line (station_of line r) r in
        ap (λ (o : Option ℕ). line_by s line o r) is ∙ ap (λ (x : Bool). cond x (rounds s line limit b) (last_call s line (station_of line r) r)) begun.ends

    settles : (is_settled : Bool) (later : List Station) → RoundsUntil line is_settled limit at mid later → (s : Scenario) (r : Running) → IsLawfulBoard s → At at (IsNext s line) old → IsRun s r old → HasSettled s line is_settled limit (with_beginning s line (station_of line r) r) later
    settles is_settled later until s r lawful next h =
        let begun = begins s r lawful next h in
        until s (with_beginning s line (station_of line r) r) lawful (next_stays s r (with_beginning s line (station_of line r) r) line old mid at in_mid h begun.stands kept next) begun.stands begun.still

    -- a request is complete after a round
    pub ran-until : (later new : List Station) → at < length later → KeepCounts mid later → RoundsUntil line true limit at mid later → TestsWait line true at later new → RunsLine line at old new
    ran-until later new in_later stays until tests s r lawful next h =
        let begun = begins s r lawful next h in
        let g = settles true later until s r lawful next h in
        let t = tests s g.run lawful (next_stays s r g.run line old later at in_later h g.stands (stays ∙ kept) next) g.stands in
        subst (λ (z : Running). IsRun s z new) (sym (goes_on s r begun ∙ g.leads)) t.stands

    -- none is
    pub ran-out : (later new : List Station) → at < length later → KeepCounts mid later → RoundsUntil line false limit at mid later → TimesOut line at later new → RunsLine line at old new
    ran-out later new in_later stays until out s r lawful next h =
        let begun = begins s r lawful next h in
        let g = settles false later until s r lawful next h in
        subst (λ (z : Running). IsRun s z new) (sym (goes_on s r begun ∙ g.leads)) (out s g.run lawful (next_stays s r g.run line old later at in_later h g.stands (stays ∙ kept) next) g.stands g.waits)

    -- the test after a round ends the wait
    pub ended-after : (later new : List Station) (has_ended : Bool) → at < length later → KeepCounts mid later → RoundsUntil line true limit at mid later → TestsWait line has_ended at later new → IsSomeNext line at old → has_ended ≡ true
    ended-after later new has_ended in_later stays until tests some =
        let s = some.scenario in
        let g = settles true later until s some.run some.lawful some.next some.stands in
        let t = tests s g.run some.lawful (next_stays s some.run g.run line old later at in_later some.stands g.stands (stays ∙ kept) some.next) g.stands in
        off has_ended (sym g.waits ∙ t.ends)
      where
        off : (b : Bool) → not true ≡ not b → b ≡ true
        off true e = refl
        off false e = absurd cc
