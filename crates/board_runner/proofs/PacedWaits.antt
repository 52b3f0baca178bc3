-- A wait at a domain alone that is made in parts: a test, turns, and a test again or a timeout. Together they are one wait.
use Rattle.std.proofs.Common.{◌≡◌, ℕ, ◌+◌, ◌*◌, ◌≤◌, ◌^◌, Bool, true, false, not, List, [], ◌∷◌, ◌++◌, length, map, Option, Some, None, option_map, is_some, refl, sym, ap, ◌∙◌, subst, arith, true≢false}
use Rattle.std.specs.Prelude.{Ok}
use Rattle.lane_end.specs.AnySender.{AnySends, AnySends-none}
use Rattle.lane_end.specs.AnyReceiver.{AnyReceives, AnyReceives-none}
use Rattle.mc_base.specs.declared.refusal.Refusal.TheVariants.{Timeout}
use Rattle.mc_base.specs.declared.request.RequestId.{RequestId}
use Rattle.board_model.specs.declared.scenario.CallLine.{CallLine}
use Rattle.board_model.specs.Answer.{answer, puts}
use Rattle.board_model.specs.CallChanges.{returned}
use Rattle.board_model.specs.Journal.{Line, PlainAnswer, Visit, noted, noted_all, refuses, turned, waits}
use Rattle.board_model.specs.State.{DomainState}
use Rattle.board_model.specs.Step.{is_timeout}
use Rattle.board_model.proofs.WholeTurns.{turn_numbers}
use Rattle.domain_core.specs.AllMoved.{AllMoved, moves_at}
use Rattle.domain_core.specs.Awaiting.{all_exist, first_complete_in, first_settled, places_named}
use Rattle.domain_core.specs.Ends.{EndsMoved-none}
use Rattle.domain_core.specs.LaneMoves.{LaneMove}
use Rattle.domain_core.specs.Turned.{MakesTurn}
use Rattle.domain_core.specs.Waiting.{AreAwaited, Polled, Polls, wait_entries, wait_on}
use Rattle.domain_core.proofs.WaitPlaces.{no-wait, wait-ends}
use Rattle.domain_core.proofs.WaitSteps.{Polling, goes-on, more-many, more-polls, more-stand, more-told}
use Rattle.mc_journal.specs.Entry.{plain_answer, bytes_in_answer}
use Rattle.mc_journal.specs.Written.{Written}
use Rattle.board_runner.specs.declared.station.Station.{Station}
use Rattle.board_runner.specs.declared.line.Made.{Made}
use Rattle.board_runner.specs.Lines.{NotesCalled}
use Rattle.board_runner.specs.Near.{RunDomain, RunEnds, peers_of}
use Rattle.board_runner.specs.Runs.{MayCount}
use Rattle.board_runner.specs.Waits.{EndsAtOnce, NotesEnd, PollsAlone, RunsWait, WaitsAlone, ids_named, says_place}
use Rattle.board_runner.proofs.TurnEnds.{Moved}
use Rattle.board_runner.proofs.TurnStations.{turned_station}
use Rattle.board_runner.proofs.WaitLemmas.{timeout-anywhere}
use Rattle.board_runner.proofs.WaitStations.{MadeAtOnce, TimedOut, made-at-once, same-station, times-out-alone}

-- ---- a domain has as many ends as peers

abbrev HasEnds : RunDomain → Type 0
HasEnds d = length (peers_of d) ≡ length d.ends

ends_of_moves : (f : ℕ → List LaneMove) (ps : List ℕ) (es es' : List RunEnds) → AllMoved Moved es (map f ps) es' → length ps ≡ length es
ends_of_moves f [] [] es' moved = refl
ends_of_moves f [] (e ∷ es) es' moved = absurd moved
ends_of_moves f (p ∷ ps) [] es' moved = absurd moved
ends_of_moves f (p ∷ ps) (e ∷ es) [] moved = absurd moved
ends_of_moves f (p ∷ ps) (e ∷ es) (e' ∷ es') moved = omega (arith, ends_of_moves f ps es es' moved.1)

ends_stay : (es : List RunEnds) (ms : List (List LaneMove)) (es' : List RunEnds) → AllMoved Moved es ms es' → length es ≡ length es'
ends_stay [] [] [] moved = refl
ends_stay [] [] (e' ∷ es') moved = absurd moved
ends_stay [] (m ∷ ms) es' moved = absurd moved
ends_stay (e ∷ es) [] es' moved = absurd moved
ends_stay (e ∷ es) (m ∷ ms) [] moved = absurd moved
ends_stay (e ∷ es) (m ∷ ms) (e' ∷ es') moved = omega (arith, ends_stay es ms es' moved.1)

polls_ends : (ids : List RequestId) (turns : List (List Visit)) (old new : RunDomain) → Polls Moved ids turns old new → HasEnds old → HasEnds new
polls_ends ids [] old new polls has = subst HasEnds (sym polls) has
polls_ends ids (visits ∷ turns) old new polls has =
    let next = polls.2 in
    let turn = polls.3 in
    let peers : peers_of next ≡ peers_of old = ap (λ (x : DomainState). map (λ p. p.number) x.peers) turn.state ∙ turn_numbers old.state visits in
    polls_ends ids turns next new polls.4 (ap (λ (ps : List ℕ). length ps) peers ∙ has ∙ ends_stay old.ends _ next.ends turn.moved)

-- so none of them need move
ends_rest : (ps : List ℕ) (es : List RunEnds) → length ps ≡ length es → AllMoved Moved es (map (λ p. []) ps) es
ends_rest [] [] same = tt
ends_rest [] (e ∷ es) same = absurd (omega (arith, same))
ends_rest (p ∷ ps) [] same = absurd (omega (arith, same))
ends_rest (p ∷ ps) (e ∷ es) same = (EndsMoved-none AnySends AnyReceives AnySends-none AnyReceives-none e, ends_rest ps es (omega (arith, same)))

-- ---- the turns

said_none : (o : Option ℕ) → is_some (option_map (λ i. i + 1) o) ≡ false → o ≡ None
said_none None e = refl
said_none (Some at) e = absurd cc

said_some : (o : Option ℕ) → is_some (option_map (λ i. i + 1) o) ≡ true → (at : ℕ) × (o ≡ Some at)
said_some None e = absurd cc
said_some (Some at) e = (at, refl)

-- the turns so far, of which none completed a request
pub record PollingAlone (line : CallLine) (made : ℕ) (old now : Station) : Type 0 where
  pub polling : Polling Moved (ids_named old.ids line.call) made old.domain now.domain old.journal.lines now.journal.lines
  pub stays : now ≡ turned_station old now.domain now.journal

pub no-turns-alone : (line : CallLine) (old : Station) → AreAwaited (ids_named old.ids line.call) old.domain → PollingAlone line 0 old old
no-turns-alone line old awaited = record { polling = record { turns = []; polls = refl; many = refl; told = refl; awaited = awaited }; stays = refl }

module _ (line : CallLine) (made : ℕ) (old now : Station) (h : PollingAlone line made old now) (d : RunDomain) (reserved j : Written) (idle : Bool) (same : reserved.lines ≡ now.journal.lines) (turn : MakesTurn Moved now.domain d reserved.lines j.lines idle) where
  abbrev ids : List RequestId
  ids = ids_named old.ids line.call

  abbrev next : Station
  next = turned_station now d j

  next_is : next ≡ turned_station old d j
  next_is = ap (λ (x : Station). turned_station x d j) h.stays

  ids_same : ids_named now.ids line.call ≡ ids
  ids_same = ap (λ (x : Station). ids_named x.ids line.call) h.stays

  turned_now : MakesTurn Moved now.domain d now.journal.lines j.lines idle
  turned_now = subst (λ (ls : List Line). MakesTurn Moved now.domain d ls j.lines idle) same turn

  settled_is : (b : Bool) → b ≡ is_some (first_settled (ids_named now.ids line.call) d) → b ≡ is_some (first_settled ids d)
  settled_is b e = e ∙ ap (λ (is : List RequestId). is_some (first_settled is d)) ids_same

  pub polls-on : (b : Bool) → b ≡ is_some (first_settled (ids_named now.ids line.call) d) → b ≡ false → PollingAlone line (made + 1) old next
  polls-on b e none = record {
    polling = goes-on Moved ids made old.domain now.domain d old.journal.lines now.journal.lines j.lines idle h.polling turned_now (said_none (first_complete_in ids d) (sym (settled_is b e) ∙ none));
    stays = next_is;
  }

  pub polls-to : (limit : ℕ) → made + 1 ≤ limit → (b : Bool) → b ≡ is_some (first_settled (ids_named now.ids line.call) d) → b ≡ true → PollsAlone line limit true old next
  polls-to limit less b e some =
      let one = said_some (first_complete_in ids d) (sym (settled_is b e) ∙ some) in
      record {
        found = Some one.0;
        settled_is = refl;
        polled = record {
          turns = h.polling.turns ++ turned_now.visits ∷ [];
          polls = more-polls Moved ids made old.domain now.domain d old.journal.lines now.journal.lines j.lines idle h.polling turned_now;
          few = omega (arith, less, more-many Moved ids made old.domain now.domain d old.journal.lines now.journal.lines j.lines idle h.polling turned_now);
          told = more-told Moved ids made old.domain now.domain d old.journal.lines now.journal.lines j.lines idle h.polling turned_now;
          ends = (more-stand Moved ids made old.domain now.domain d old.journal.lines now.journal.lines j.lines idle h.polling turned_now, one.1);
        };
        stays = next_is;
      }

-- the limit is reached
pub polls-out : (line : CallLine) (limit made : ℕ) (old now : Station) → made ≡ limit → PollingAlone line made old now → PollsAlone line limit false old now
polls-out line limit made old now all h = record {
  found = None;
  settled_is = refl;
  polled = record { turns = h.polling.turns; polls = h.polling.polls; few = omega (arith, h.polling.many, all); told = h.polling.told; ends = (h.polling.awaited, h.polling.many ∙ all) };
  stays = h.stays;
}

-- ---- the parts together

not_not : (b c : Bool) → b ≡ not c → (b ≡ true → c ≡ false) × (b ≡ false → c ≡ true)
not_not b true e = (λ is. absurd (true≢false (sym is ∙ e)), λ is. refl)
not_not b false e = (λ is. refl, λ is. absurd (true≢false (sym e ∙ is)))

-- a wait that ends at once does so under any limit
pub ends-at-once : (line : CallLine) (limit : ℕ) (old new : Station) → EndsAtOnce line true old new → RunsWait line limit old new
ends-at-once line limit old new e =
    let made = e.waits.made in
    let w = made.waits in
    let off = (not_not true (is_timeout (plain_answer e.made.answer)) e.ends).0 refl in
    record {
      made = e.made;
      waited_to = e.waited_to;
      waits = record {
        made = record {
          waits = record { turns = w.turns; polled_to = w.polled_to; polls = w.polls; few = omega (arith, w.few); told = w.told; ends = (w.ends.0, λ out. absurd (true≢false (sym out ∙ off))) };
          given = made.given;
          lends = made.lends;
          bytes_fit = made.bytes_fit;
        };
        ids = e.waits.ids;
        packets = e.waits.packets;
        number = e.waits.number;
        dropped = e.waits.dropped;
        domain_number = e.waits.domain_number;
      };
      notes = e.notes;
    }

-- one that did not has begun, and its domain stayed
pub record HasBegun (line : CallLine) (old new : Station) : Type 0 where
  pub awaited : AreAwaited (ids_named old.ids line.call) old.domain
  pub told : new.journal.lines ≡ noted old.journal.lines (waits (old.number + 1))
  pub stays : new ≡ turned_station old old.domain new.journal
  pub has_ends : HasEnds old.domain

stayed : (ids : List RequestId) (turns : List (List Visit)) (old polled new : RunDomain) → Polls Moved ids turns old polled → length turns ≤ 0 → new ≡ polled → new ≡ old
stayed ids [] old polled new polls few same = same ∙ polls
stayed ids (visits ∷ turns) old polled new polls few same = absurd (omega (arith, few))

pub has-begun : (line : CallLine) (old new : Station) → EndsAtOnce line false old new → HasBegun line old new
has-begun line old new e =
    let ids = ids_named old.ids line.call in
    let says = says_place line.call in
    let to = e.waited_to in
    let made = e.waits.made in
    let w = made.waits in
    let a = plain_answer e.made.answer in
    let off : is_timeout a ≡ true = (not_not false (is_timeout a) e.ends).1 refl in
    let once = made-at-once (old.number + 1) 0 ids says old.domain to.domain old.journal.lines to.journal.lines a e.made.lent w w.few made.lends in
    let here : to.domain ≡ old.domain = stayed ids w.turns old.domain w.polled_to to.domain w.polls w.few (w.ends.1 off).1 in
    let awaited : is_timeout (answer old.domain.state 0 (wait_on ids false old.domain)) ≡ true =
    timeout-anywhere old.domain.state 0 0 (places_named ids old.domain) false says ∙ sym (ap is_timeout once.does.answer) ∙ off in
    let told : to.journal.lines ≡ noted old.journal.lines (waits (old.number + 1)) = once.told ∙ ap (λ (b : Bool). noted_all old.journal.lines (wait_entries (old.number + 1) b [])) awaited in
    let same : to ≡ turned_station old old.domain to.journal =
    same-station old to e.waits.ids e.waits.packets e.waits.number e.waits.dropped e.waits.domain_number ∙ ap (λ (d : RunDomain). turned_station old d to.journal) here in
    record {
      awaited = awaited;
      told = ap (λ (x : Station). x.journal.lines) e.notes ∙ told;
      stays = e.notes ∙ same ∙ ap (λ (x : Station). turned_station old old.domain x.journal) (sym e.notes);
      has_ends = ends_of_moves (moves_at (puts old.domain.state 0 (wait_on ids says old.domain)) (returned old.domain.numbered 0 (wait_on ids says old.domain))) (peers_of old.domain) old.domain.ends to.domain.ends once.does.moved;
    }

-- turns leave what was called and dropped
later_is_begun : (line : CallLine) (limit : ℕ) (old begun later : Station) → HasBegun line old begun → (is_settled : Bool) → PollsAlone line limit is_settled begun later → later ≡ turned_station old later.domain later.journal
later_is_begun line limit old begun later h is_settled p = p.stays ∙ ap (λ (x : Station). turned_station x later.domain later.journal) h.stays

pub later-count : (line : CallLine) (limit : ℕ) (old begun later : Station) → HasBegun line old begun → (is_settled : Bool) → PollsAlone line limit is_settled begun later → MayCount old → MayCount later
later-count line limit old begun later h is_settled p may = subst MayCount (sym (later_is_begun line limit old begun later h is_settled p)) may

abbrev pub DropsFew : Station → Type 0
DropsFew st = st.dropped ≤ 2 ^ 32 * st.number

pub later-drops : (line : CallLine) (limit : ℕ) (old begun later : Station) → HasBegun line old begun → (is_settled : Bool) → PollsAlone line limit is_settled begun later → DropsFew old → DropsFew later
later-drops line limit old begun later h is_settled p few = subst DropsFew (sym (later_is_begun line limit old begun later h is_settled p)) few

-- it goes on with turns
module _ (line : CallLine) (limit : ℕ) (old begun later : Station) (h : HasBegun line old begun) (is_settled : Bool) (p : PollsAlone line limit is_settled begun later) where
  abbrev named : List RequestId
  named = ids_named old.ids line.call

  abbrev says : Bool
  says = says_place line.call

  abbrev number : ℕ
  number = old.number + 1

  abbrev d : RunDomain
  d = later.domain

  polls : PollsAlone line limit is_settled (turned_station old old.domain begun.journal) later
  polls = subst (λ (x : Station). PollsAlone line limit is_settled x later) h.stays p

  later_is : later ≡ turned_station old d later.journal
  later_is = polls.stays

  told_turns : later.journal.lines ≡ noted_all old.journal.lines (wait_entries number (is_timeout (answer old.domain.state 0 (wait_on named false old.domain))) polls.polled.turns)
  told_turns =
      polls.polled.told
      ∙ ap (λ (ls : List Line). noted_all ls (map turned polls.polled.turns)) h.told
      ∙ sym (ap (λ (b : Bool). noted_all old.journal.lines (wait_entries number b polls.polled.turns)) h.awaited)

  -- until a request is complete, with which it ends
  module _ (is : is_settled ≡ true) (new : Station) (b : Bool) (e : EndsAtOnce line b later new) where
    complete : (at : ℕ) × (all_exist named d ≡ true) × (first_complete_in named d ≡ Some at)
    complete = go polls.found (sym is ∙ polls.settled_is) polls.polled
      where
        go : (found : Option ℕ) → true ≡ is_some found → Polled Moved limit named old.domain d begun.journal.lines later.journal.lines (Ok found) → (at : ℕ) × (all_exist named d ≡ true) × (first_complete_in named d ≡ Some at)
        go None e polled = absurd (true≢false e)
        go (Some at) e polled = (at, polled.ends.0, polled.ends.1)

    at_later : EndsAtOnce line b (turned_station old d later.journal) new
    at_later = subst (λ (x : Station). EndsAtOnce line b x new) later_is e

    abbrev a : PlainAnswer
    a = plain_answer at_later.made.answer

    once : MadeAtOnce number named says d at_later.waited_to.domain later.journal.lines at_later.waited_to.journal.lines a at_later.made.lent
    once = made-at-once number 0 named says d at_later.waited_to.domain later.journal.lines at_later.waited_to.journal.lines a at_later.made.lent at_later.waits.made.waits at_later.waits.made.waits.few at_later.waits.made.lends

    idle : is_timeout (answer d.state 0 (wait_on named false d)) ≡ false
    idle = no-wait d.state (places_named named d) false None (wait-ends d.state (places_named named d) false complete.0 complete.1 complete.2) refl

    off : is_timeout a ≡ false
    off = ap is_timeout once.does.answer ∙ timeout-anywhere d.state 0 0 (places_named named d) says false ∙ idle

    ended : b ≡ true
    ended = at_later.ends ∙ ap not off

    lines_same : at_later.waited_to.journal.lines ≡ later.journal.lines
    lines_same = once.told ∙ ap (λ (x : Bool). noted_all later.journal.lines (wait_entries number x [])) idle

    pub waits-until : RunsWait line limit old new
    waits-until = record {
      made = at_later.made;
      waited_to = at_later.waited_to;
      waits = record {
        made = record {
          waits = record {
            turns = polls.polled.turns;
            polled_to = d;
            polls = polls.polled.polls;
            few = polls.polled.few;
            told = lines_same ∙ told_turns;
            ends = (once.does, λ out. absurd (true≢false (sym out ∙ off)));
          };
          given = at_later.waits.made.given;
          lends = once.lends;
          bytes_fit = at_later.waits.made.bytes_fit;
        };
        ids = at_later.waits.ids;
        packets = at_later.waits.packets;
        number = at_later.waits.number;
        dropped = at_later.waits.dropped;
        domain_number = at_later.waits.domain_number;
      };
      notes = subst (λ (x : Bool). NotesEnd x line at_later.made at_later.waited_to new) ended at_later.notes;
    }

  -- or up to the limit
  module _ (is : is_settled ≡ false) (new : Station) (m : Made) (notes : NotesCalled line m later new) (answered : plain_answer m.answer ≡ refuses Timeout) (given : m.given ≡ None) (lent : m.lent ≡ None) (fits : bytes_in_answer m.answer ≤ 9000) where
    out : AreAwaited named d × (length polls.polled.turns ≡ limit)
    out = go polls.found (sym is ∙ polls.settled_is) polls.polled
      where
        go : (found : Option ℕ) → false ≡ is_some found → (q : Polled Moved limit named old.domain d begun.journal.lines later.journal.lines (Ok found)) → AreAwaited named d × (length q.turns ≡ limit)
        go None e q = q.ends
        go (Some at) e q = absurd (true≢false (sym e))

    has_ends : HasEnds d
    has_ends = polls_ends named polls.polled.turns old.domain d polls.polled.polls h.has_ends

    none : TimedOut named says d (plain_answer m.answer)
    none = times-out-alone named says d (ends_rest (peers_of d) d.ends has_ends) (timeout-anywhere d.state 0 0 (places_named named d) says false ∙ out.0) (plain_answer m.answer) answered

    waits_out : WaitsAlone line limit old (turned_station old d later.journal) m
    waits_out = record {
      made = record {
        waits = record {
          turns = polls.polled.turns;
          polled_to = d;
          polls = polls.polled.polls;
          few = polls.polled.few;
          told = told_turns;
          ends = (none.does, λ e. (out.1, refl));
        };
        given = given;
        lends = lent ∙ none.none;
        bytes_fit = fits;
      };
      ids = refl;
      packets = refl;
      number = refl;
      dropped = refl;
      domain_number = refl;
    }

    pub waits-out : RunsWait line limit old new
    waits-out = record { made = m; waited_to = turned_station old d later.journal; waits = waits_out; notes = subst (λ (x : Station). NotesCalled line m x new) later_is notes }
