-- A line that waits at a domain that runs its script on its own: its entries are steps of its run, and its ends move as they tell.
use Rattle.std.proofs.Common.{◌≡◌, ℕ, ◌+◌, ◌*◌, ◌≤◌, ◌<◌, ◌^◌, Bool, true, false, ◌&&◌, List, [], ◌∷◌, ◌++◌, length, map, Some, Option, refl, sym, ap, ap₂, ◌∙◌, subst, inl, inr, arith, true≢false}
use Rattle.std.specs.Prelude.{IsSome, slice_get}
use Rattle.mc_base.specs.declared.request.RequestId.{RequestId}
use Rattle.board_model.specs.declared.scenario.CallLine.{CallLine}
use Rattle.board_model.specs.declared.scenario.DomainLine.{DomainLine}
use Rattle.board_model.specs.declared.scenario.Scenario.{Scenario}
use Rattle.board_model.specs.Answer.{answer, puts}
use Rattle.board_model.specs.CallChanges.{returned}
use Rattle.board_model.specs.Deeds.{calls}
use Rattle.board_model.specs.JournalDeeds.{call_deeds}
use Rattle.board_model.specs.DomainCall.{DomainCall}
use Rattle.board_model.specs.Journal.{PlainAnswer, PlainEntry, Visit, called, noted, noted_all, turned, waits}
use Rattle.board_model.specs.LinkedBoard.{Differ, IsLinkedBoard}
use Rattle.board_model.specs.Run.{start, Leads, after_all}
use Rattle.board_model.specs.Scenario.{script}
use Rattle.board_model.specs.State.{DomainState}
use Rattle.board_model.specs.Step.{EndsBegun, EndsWait, HasNoPuts, MayCome, RunState, Waited, after, call_at, is_done, is_timeout, limit_of, may_try, next_line}
use Rattle.board_model.specs.Traffic.{returned_by}
use Rattle.board_model.specs.Turn.{IsTurn, after_turn}
use Rattle.board_model.proofs.LawfulBoards.{lawful_is_linked}
use Rattle.board_model.proofs.PlaceBoards.{neighbours_differ}
use Rattle.board_model.proofs.WaitCalls.{call-waits, wait-puts, wait-untried}
use Rattle.board_model.proofs.WholeJournals.{call_entries, called_run, leads-append, leads_one, leads_to}
use Rattle.board_model.proofs.WholeTurns.{turn_numbers}
use Rattle.domain_core.specs.AllMoved.{turn_moves}
use Rattle.domain_core.specs.Turned.{Turns}
use Rattle.domain_core.specs.Waiting.{Polls, Waits, wait_entries, wait_on}
use Rattle.mc_journal.specs.Entry.{plain_answer}
use Rattle.mc_journal.specs.Written.{Written}
use Rattle.board_runner.specs.declared.station.Station.{Station}
use Rattle.board_runner.specs.declared.line.Made.{Made}
use Rattle.board_runner.specs.Lines.{NotesCalled, call_at_station}
use Rattle.board_runner.specs.Near.{RunDomain, RunEnds, peers_of, EndsMatch}
use Rattle.board_runner.specs.OwnRun.{CountsOneLine, IsOnItsWay, MovedAsTold, RunsNextLine, station_in}
use Rattle.board_runner.specs.Stations.{IsStation}
use Rattle.board_runner.specs.Waits.{RunsWait, ids_named, says_place}
use Rattle.board_runner.proofs.CallLemmas.{IsCall, after_called, called_station}
use Rattle.board_runner.proofs.ToldMoves.{all_rest, call_moved, moved_then, turn_moved}
use Rattle.board_runner.proofs.TurnEnds.{Moved, ends-match}
use Rattle.board_runner.proofs.TurnStations.{station-turned, turned_station}
use Rattle.board_runner.proofs.WaitLemmas.{wait-drops}
use Rattle.board_runner.proofs.WaitStations.{begun-station, made-at-once, none-polled, wait-called, waiting-is}
use Rattle.board_model.proofs.WaitTurns.{done_after, one_more_turn, same_call}

module _ (s : Scenario) (board : IsLinkedBoard s) (d : DomainLine) (ends : List RunEnds) (line : CallLine) (limit : ℕ) (is : limit_of line.call ≡ Some limit) where
  abbrev lines : List CallLine
  lines = script s d.domain

  abbrev opened : RunState
  opened = start s d

  is_wait : IsSome (limit_of line.call)
  is_wait = subst (λ (o : Option ℕ). IsSome o) (sym is) refl

  -- the domain is on its way, and the line comes next
  record IsAt (st : Station) (r : RunState) (entries : List PlainEntry) : Type 0 where
    stands : IsStation s (station_in d r entries) st
    leads : Leads lines opened entries r
    settled : HasNoPuts r.put_since_turn
    made_is : r.calls_made ≡ 0
    moves : MovedAsTold lines opened (peers_of st.domain) entries ends st.domain.ends opened.state st.domain.numbered
    comes : next_line lines r ≡ Some line

  -- ---- the answer of the wait

  module _ (st called_to new : Station) (m : Made) (r : RunState) (entries : List PlainEntry) (at : IsAt st r entries) (is_call : IsCall s (station_in d r entries) line st called_to m (call_at_station line st)) (notes : NotesCalled line m called_to new) (few : st.number + 1 < 2 ^ 32)
      (may : EndsWait limit (answer r.state line.node (call_at r line)) r.waited) where
    abbrev call : DomainCall
    call = call_at_station line st

    abbrev frames : List (ℕ × List ℕ)
    frames = puts r.state line.node (call_at r line)

    abbrev answered : PlainAnswer
    answered = answer r.state line.node (call_at r line)

    abbrev number : ℕ
    number = r.lines_called + 1

    abbrev more : List PlainEntry
    more = call_entries frames number answered

    done : after_all lines r more ≡ called_run r line
    done = after_called lines r frames number answered line at.comes

    steps : Leads lines r more (after_all lines r more)
    steps =
        subst (λ (ps : List (ℕ × List ℕ)). Leads lines r (call_entries ps number answered) (after_all lines r (call_entries ps number answered))) (sym (wait-puts r line limit is))
        (leads_one lines r (called number answered)
        (line, at.comes, refl, refl, subst (λ (o : Option ℕ). MayCome o r line) (sym is) (at.settled, may), ap (λ (b : Bool). b && may_try line.tries r.calls_made) (wait-untried r line limit is)))

    is_led : r ≡ after_all lines opened entries
    is_led = leads_to lines opened r entries at.leads

    same_back : returned st.domain.state line.node call ≡ returned_by (next_line lines (after_all lines opened entries)) (after_all lines opened entries)
    same_back =
        ap₂ (λ (x : DomainState) (c : DomainCall). returned x line.node c) at.stands.state is_call.call_is
        ∙ sym (ap (λ (o : Option CallLine). returned_by o r) at.comes)
        ∙ ap (λ (x : RunState). returned_by (next_line lines x) x) is_led

    same_frames : puts st.domain.state line.node call ≡ frames
    same_frames = ap₂ (λ (x : DomainState) (c : DomainCall). puts x line.node c) at.stands.state is_call.call_is

    deed : call_deeds (next_line lines (after_all lines opened entries)) (after_all lines opened entries) answered ≡ calls line.node call answered ∷ []
    deed =
        ap (λ (x : RunState). call_deeds (next_line lines x) x answered) (sym is_led)
        ∙ ap (λ (o : Option CallLine). call_deeds o r answered) at.comes
        ∙ ap (λ (c : DomainCall). calls line.node c answered ∷ []) (sym is_call.call_is)

    moved : MovedAsTold lines opened (peers_of st.domain) (entries ++ more) ends called_to.domain.ends opened.state called_to.domain.numbered
    moved =
        moved_then lines opened (peers_of st.domain) entries more ends st.domain.ends called_to.domain.ends opened.state st.domain.numbered called_to.domain.numbered at.moves
        (subst (λ (ps : List (ℕ × List ℕ)). MovedAsTold lines (after_all lines opened entries) (peers_of st.domain) (call_entries ps number answered) st.domain.ends called_to.domain.ends st.domain.numbered called_to.domain.numbered) same_frames
        (call_moved lines (after_all lines opened entries) line.node call st.domain called_to.domain (plain_answer m.answer) m.given is_call.does number answered same_back deed))

    wait_goes : IsOnItsWay s d ends 0 new
    wait_goes = record {
      entries = entries ++ more;
      run = after_all lines r more;
      stands = called_station s (station_in d r entries) line st called_to new m call is_call notes at.comes few;
      leads = leads-append lines opened r (after_all lines r more) entries more at.leads steps;
      settled = subst (λ (x : RunState). HasNoPuts x.put_since_turn) (sym done) tt;
      made_is = ap (λ (x : RunState). x.calls_made) done;
      rests = ap (λ (x : RunState). x.waited) done;
      moves =
          subst (λ (x : RunDomain). MovedAsTold lines opened (peers_of x) (entries ++ more) ends x.ends opened.state x.numbered) (sym notes.domain)
          (subst (λ (ps : List ℕ). MovedAsTold lines opened ps (entries ++ more) ends called_to.domain.ends opened.state called_to.domain.numbered) (sym is_call.peers) moved);
    }

  -- ---- the turns of the wait

  -- so many turns ago the wait began, and before the last of them no request was complete
  record HasBegun (turns : ℕ) (st : Station) : Type 0 where
    run : RunState
    entries : List PlainEntry
    at : IsAt st run entries
    waited : run.waited ≡ Some (record { turns = turns; done_before = false })
    done : is_timeout (answer run.state line.node (call_at run line)) ≡ false → is_done (answer run.state line.node (call_at run line)) ≡ true

  -- it begins
  begins : (st : Station) → IsOnItsWay s d ends 0 st → slice_get lines st.number ≡ Some line → is_timeout (answer st.domain.state 0 (wait_on (ids_named st.ids line.call) false st.domain)) ≡ true →
      HasBegun 0 (turned_station st st.domain (record st.journal { lines = noted st.journal.lines (waits (st.number + 1)) }))
  begins st h comes awaited =
      let r = h.run in
      let k = r.lines_called + 1 in
      let t = station_in d r h.entries in
      let j : Written = record st.journal { lines = noted st.journal.lines (waits (st.number + 1)) } in
      let waits_now = sym (waiting-is s t st h.stands line is_wait false) ∙ awaited in
      let comes_run : next_line lines r ≡ Some line = ap (slice_get lines) (sym h.stands.number) ∙ comes in
      let e : PlainEntry = waits k in
      record {
        run = after lines r e;
        entries = h.entries ++ e ∷ [];
        at = record {
          stands = begun-station s t st j h.stands refl;
          leads = leads-append lines opened r (after lines r e) h.entries (e ∷ []) h.leads (leads_one lines r e (line, comes_run, refl, is_wait, waits_now, h.settled, h.rests));
          settled = h.settled;
          made_is = h.made_is;
          moves =
              moved_then lines opened (peers_of st.domain) h.entries (e ∷ []) ends st.domain.ends st.domain.ends opened.state st.domain.numbered st.domain.numbered h.moves
              (record {
                moves = λ p. [];
                told = λ p. refl;
                moved = all_rest d.domain (peers_of st.domain) st.domain.ends h.stands.matched;
                deeds = [];
                numbered = tt;
                noted = refl;
                led = refl;
                dealt = λ p. refl;
              });
          comes = comes_run;
        };
        waited = refl;
        done = λ off. absurd (true≢false (sym waits_now ∙ off));
      }

  -- a turn more
  turns_once : (turns : ℕ) (st : Station) (visits : List Visit) (numbers : List (List ℕ)) (next : RunDomain) → HasBegun turns st → is_timeout (answer st.domain.state 0 (wait_on (ids_named st.ids line.call) false st.domain)) ≡ true → Turns Moved visits numbers st.domain next →
      HasBegun (turns + 1) (turned_station st next (record st.journal { lines = noted st.journal.lines (turned visits) }))
  turns_once turns st visits numbers next h awaited turn =
      let r = h.run in
      let at = h.at in
      let t = station_in d r h.entries in
      let j : Written = record st.journal { lines = noted st.journal.lines (turned visits) } in
      let e : PlainEntry = turned visits in
      let pends = sym (waiting-is s t st at.stands line is_wait false) ∙ awaited in
      let peers : peers_of next ≡ peers_of st.domain = ap (λ (x : DomainState). map (λ p. p.number) x.peers) turn.state ∙ turn_numbers st.domain.state visits in
      let matched : EndsMatch d.domain (peers_of next) next.ends =
      subst (λ (ps : List ℕ). EndsMatch d.domain ps next.ends) (sym peers) (ends-match d.domain (peers_of st.domain) st.domain.ends (turn_moves st.domain.numbered visits numbers) next.ends at.stands.matched turn.moved) in
      let differ : Differ (peers_of st.domain) = subst Differ (sym at.stands.peers) (neighbours_differ s board d) in
      let same = same_call r.labels r.state visits line.call limit is in
      record {
        run = after lines r e;
        entries = h.entries ++ e ∷ [];
        at = record {
          stands = station-turned s t st visits numbers next j at.stands turn refl peers matched;
          leads =
              leads-append lines opened r (after lines r e) h.entries (e ∷ []) at.leads
              (leads_one lines r e (at.settled, subst (λ (x : DomainState). IsTurn x visits) at.stands.state turn.allowed));
          settled = refl;
          made_is = at.made_is;
          moves =
              subst (λ (ps : List ℕ). MovedAsTold lines opened ps (h.entries ++ e ∷ []) ends next.ends opened.state next.numbered) (sym peers)
              (moved_then lines opened (peers_of st.domain) h.entries (e ∷ []) ends st.domain.ends next.ends opened.state st.domain.numbered next.numbered at.moves
              (turn_moved lines (after_all lines opened h.entries) st.domain next visits numbers turn differ (at.stands.state ∙ ap (λ (x : RunState). x.state) (leads_to lines opened r h.entries at.leads))));
          comes = at.comes;
        };
        waited = one_more_turn s line turns t visits at.comes (record { begun = h.waited; pends = pends });
        done = λ off.
            ap (λ (c : DomainCall). is_done (answer (after_turn r.state visits) line.node c)) same
            ∙ done_after r.state visits line.node (call_at r line) (call-waits r.labels r.state line.call limit is) pends (sym (ap (λ (c : DomainCall). is_timeout (answer (after_turn r.state visits) line.node c)) same) ∙ off);
      }

  -- all its turns
  abbrev after_turns : Station → RunDomain → List (List Visit) → Station
  after_turns st polled turns = turned_station st polled (record st.journal { lines = noted_all st.journal.lines (map turned turns) })

  all_turns : (turns : List (List Visit)) (many : ℕ) (st : Station) (polled : RunDomain) → HasBegun many st → Polls Moved (ids_named st.ids line.call) turns st.domain polled → HasBegun (many + length turns) (after_turns st polled turns)
  all_turns [] many st polled h polls =
      let same : many ≡ many + 0 = omega arith in
      subst (λ (x : RunDomain). HasBegun (many + 0) (turned_station st x st.journal)) (sym polls) (subst (λ (n : ℕ). HasBegun n st) same h)
  all_turns (visits ∷ turns) many st polled h polls =
      let next = turned_station st polls.2 (record st.journal { lines = noted st.journal.lines (turned visits) }) in
      let later = all_turns turns (many + 1) next polled (turns_once many st visits polls.1 polls.2 h polls.0 polls.3) polls.4 in
      let same : many + 1 + length turns ≡ many + length (visits ∷ turns) = omega arith in
      subst (λ (n : ℕ). HasBegun n (after_turns st polled (visits ∷ turns))) same later

  -- ---- the wait

  ends_begun : (a : PlainAnswer) (turns : ℕ) (waited : Option Waited) → waited ≡ Some (record { turns = turns; done_before = false }) → turns ≤ limit → (is_timeout a ≡ true → turns ≡ limit) → (is_timeout a ≡ false → is_done a ≡ true) → EndsWait limit a waited
  ends_begun a turns waited begun few out done = subst (EndsWait limit a) (sym begun) (go (is_timeout a) refl)
    where
      go : (b : Bool) → is_timeout a ≡ b → EndsBegun limit a (record { turns = turns; done_before = false })
      go true e = inl (out e, e)
      go false e = inr (few, refl, done e)

  pub runs-wait : (old new : Station) → RunsWait line limit old new → slice_get lines old.number ≡ Some line → old.number + 1 < 2 ^ 32 → IsOnItsWay s d ends 0 old → IsOnItsWay s d ends 0 new
  runs-wait old new ran comes few h = go (is_timeout (answer old.domain.state 0 (wait_on ids false old.domain))) refl
    where
      ids : List RequestId
      ids = ids_named old.ids line.call

      says : Bool
      says = says_place line.call

      m : Made
      m = ran.made

      to : Station
      to = ran.waited_to

      w : Waits Moved (old.number + 1) limit ids says old.domain to.domain old.journal.lines to.journal.lines (Some (plain_answer m.answer))
      w = ran.waits.made.waits

      told : (b : Bool) → is_timeout (answer old.domain.state 0 (wait_on ids false old.domain)) ≡ b → to.journal.lines ≡ noted_all old.journal.lines (wait_entries (old.number + 1) b w.turns)
      told b is = w.told ∙ ap (λ (x : Bool). noted_all old.journal.lines (wait_entries (old.number + 1) x w.turns)) is

      go : (b : Bool) → is_timeout (answer old.domain.state 0 (wait_on ids false old.domain)) ≡ b → IsOnItsWay s d ends 0 new
      go true e =
          let first = turned_station old old.domain (record old.journal { lines = noted old.journal.lines (waits (old.number + 1)) }) in
          let last = after_turns first w.polled_to w.turns in
          let begun = all_turns w.turns 0 first w.polled_to (begins old h comes e) w.polls in
          let t = station_in d begun.run begun.entries in
          let does = w.ends.0 in
          let is_call = wait-called s t last begun.at.stands line is_wait to m does ran.waits.made.given ran.waits.made.lends (told true e) ran.waits.ids ran.waits.packets ran.waits.number ran.waits.dropped ran.waits.domain_number in
          let timeouts : is_timeout (plain_answer m.answer) ≡ is_timeout (answer begun.run.state line.node (call_at begun.run line)) = ap is_timeout does.answer ∙ waiting-is s t last begun.at.stands line is_wait says in
          let many : 0 + length w.turns ≡ length w.turns = omega arith in
          wait_goes last to new m begun.run begun.entries begun.at is_call ran.notes few
          (ends_begun (answer begun.run.state line.node (call_at begun.run line)) (0 + length w.turns) begun.run.waited begun.waited (omega (arith, w.few)) (λ out. many ∙ (w.ends.1 (timeouts ∙ out)).0) begun.done)
      go false e =
          let once = made-at-once (old.number + 1) limit ids says old.domain to.domain old.journal.lines to.journal.lines (plain_answer m.answer) m.lent w (none-polled ids w.turns old.domain w.polled_to w.polls e) ran.waits.made.lends in
          let t = station_in d h.run h.entries in
          let comes_run : next_line lines h.run ≡ Some line = ap (slice_get lines) (sym h.stands.number) ∙ comes in
          let same = once.told ∙ ap (λ (x : Bool). noted_all old.journal.lines (wait_entries (old.number + 1) x [])) e in
          let is_call = wait-called s t old h.stands line is_wait to m once.does ran.waits.made.given once.lends same ran.waits.ids ran.waits.packets ran.waits.number ran.waits.dropped ran.waits.domain_number in
          let off : is_timeout (answer h.run.state line.node (call_at h.run line)) ≡ false = sym (waiting-is s t old h.stands line is_wait false) ∙ e in
          wait_goes old to new m h.run h.entries (record { stands = h.stands; leads = h.leads; settled = h.settled; made_is = h.made_is; moves = h.moves; comes = comes_run }) is_call ran.notes few
          (subst (EndsWait limit (answer h.run.state line.node (call_at h.run line))) (sym h.rests) off)

-- ---- the line

pub runs-next : (line : CallLine) (limit : ℕ) (old new : Station) → limit_of line.call ≡ Some limit → old.number + 1 < 2 ^ 32 → RunsWait line limit old new → RunsNextLine line old new
runs-next line limit old new is few ran s d ends lawful own comes h = runs-wait s (lawful_is_linked s lawful) d ends line limit is old new ran comes few h

pub counts-wait : (line : CallLine) (limit : ℕ) (old new : Station) → limit_of line.call ≡ Some limit → old.dropped ≤ 2 ^ 32 * old.number → RunsWait line limit old new → CountsOneLine old new
counts-wait line limit old new is fits ran =
    let notes = ran.notes in
    let waited = ran.waits in
    let none = wait-drops line.call (plain_answer ran.made.answer) (subst (λ (o : Option ℕ). IsSome o) (sym is) refl) in
    record {
      number = omega (arith, notes.number, waited.number);
      drops = omega (arith, fits, notes.dropped, waited.dropped, none, notes.number, waited.number);
      domain_number = notes.domain_number ∙ waited.domain_number;
    }
