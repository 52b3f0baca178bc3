-- A domain on its way through its script: each call of a line is a step of its run, and its ends move as its entries tell.
use Rattle.std.proofs.Common.{◌≡◌, ◌≢◌, ℕ, length, take, ◌+◌, ◌*◌, ◌≤◌, ◌<◌, ◌^◌, zero, suc, Bool, true, false, ◌&&◌, List, [], ◌∷◌, ◌++◌, map, Some, None, Option, option_map, refl, sym, ap, ap₂, ◌∙◌, subst, arith, lt-ltb, le-ltb}
use Rattle.std.specs.Prelude.{slice_get}
use Rattle.std.proofs.lemmas.Option.{slice_get_within}
use Rattle.lane_end.specs.AnySender.{AnySends}
use Rattle.lane_end.specs.AnyReceiver.{AnyReceives}
use Rattle.mc_base.specs.declared.refusal.Refusal.{Refusal}
use Rattle.mc_base.specs.declared.request.PacketId.{PacketId}
use Rattle.mc_base.specs.declared.request.RequestId.{RequestId}
use Rattle.board_model.specs.declared.scenario.CallLine.{CallLine}
use Rattle.board_model.specs.declared.scenario.DomainLine.{DomainLine}
use Rattle.board_model.specs.declared.scenario.Scenario.{Scenario}
use Rattle.board_model.specs.Answer.{answer, puts}
use Rattle.board_model.specs.CallChanges.{returned}
use Rattle.board_model.specs.Deeds as doing
use Rattle.board_model.specs.JournalDeeds.{call_deeds}
use Rattle.board_model.specs.DomainCall.{DomainCall}
use Rattle.board_model.specs.Journal.{PlainEntry, PlainAnswer, turned, again, called, refuses, noted}
use Rattle.board_model.specs.Labels.{call_of}
use Rattle.board_model.specs.Language.{IsLawfulBoard}
use Rattle.board_model.specs.LinkedBoard.{Differ, IsLinkedBoard}
use Rattle.board_model.specs.Scenario.{script}
use Rattle.board_model.specs.State.{DomainState}
use Rattle.board_model.specs.Step.{RunState, HasNoPuts, next_line, call_at, is_tried, may_try, tries_again, after, limit_of, is_done_now, one_turn_more}
use Rattle.board_model.specs.Run.{start, Leads, after_all, left_by}
use Rattle.board_model.specs.SerialRun as run
use Rattle.board_model.specs.SerialRun.{entered, word_in, more_calls, opened_station}
use Rattle.board_model.specs.Traffic.{returned_by}
use Rattle.board_model.specs.Turn.{IsTurn}
use Rattle.board_model.proofs.LawfulBoards.{lawful_is_linked}
use Rattle.board_model.proofs.PlaceBoards.{neighbours_differ}
use Rattle.board_model.proofs.BoardsScripts.{script-few}
use Rattle.board_model.proofs.WholeLines.{lines_of}
use Rattle.board_model.proofs.WholeJournals.{leads-append, leads_to, leads_one, call_entries, with_puts, called_run, after_call, leads_call}
use Rattle.board_model.proofs.WholePeers.{call_numbers}
use Rattle.board_model.proofs.WholeTurns.{turn_numbers}
use Rattle.domain_core.specs.AllMoved.{turn_moves, call_moves}
use Rattle.domain_core.specs.Calls.{Calls}
use Rattle.domain_core.specs.Ends.{EndsMoved}
use Rattle.mc_journal.specs.Entry.{plain_answer}
use Rattle.board_runner.specs.declared.station.Station.{Station}
use Rattle.board_runner.specs.declared.line.Made.{Made}
use Rattle.board_runner.specs.Lines.{call_by, call_at_station, NotesAgain, NotesCalled, NotesAnswer, Tries}
use Rattle.board_runner.specs.Near.{RunEnds, RunDomain, peers_of, EndsMatch}
use Rattle.board_runner.specs.OwnRun.{MovedAsTold, station_in, IsOnItsWay, HasNotBegun, CountsOneLine, RanWhole, RunsNextLine, RunsScript}
use Rattle.board_runner.specs.Runs.{MayCount}
use Rattle.board_runner.specs.Stations.{IsStation}
use Rattle.board_runner.proofs.NumberedMoves.{numbered-opened}
use Rattle.board_runner.proofs.CallLemmas.{IsCall, called_station, again_station, DoesNothing, tried_word, tried_nothing}
use Rattle.board_runner.proofs.HeldLemmas.{call_is}
use Rattle.board_runner.proofs.SerialLemmas.{own_counted, other_counted, take_all, next_in_script, one_taken}
use Rattle.board_runner.proofs.StationLemmas.{own_number}
use Rattle.board_runner.proofs.ToldMoves.{turn_moved, call_moved, again_moved, moved_then, none_moved}
use Rattle.board_runner.proofs.TurnEnds.{ends-match}
use Rattle.board_runner.proofs.TurnStations.{turned_station, station-turned}

-- ---- how often a line makes its call

pub more_may : (tries : Option ℕ) (made : ℕ) → made < more_calls tries → may_try tries made ≡ true
more_may None made less = absurd (omega (arith, less))
more_may (Some zero) made less = absurd (omega (arith, less))
more_may (Some (suc n)) made less = lt-ltb (made + 1) (suc n) (omega (arith, less))

pub none_may : (tries : Option ℕ) (made : ℕ) → more_calls tries ≤ made → may_try tries made ≡ false
none_may None made le = refl
none_may (Some zero) made le = le-ltb (made + 1) 0 (omega arith)
none_may (Some (suc n)) made le = le-ltb (made + 1) (suc n) (omega (arith, le))

refused_word : (a : PlainAnswer) → is_tried a ≡ true → refuses (word_in a) ≡ a
refused_word a e = let w = tried_word a e in subst (λ (x : PlainAnswer). refuses (word_in x) ≡ x) w.1 refl

and_true : (x y : Bool) → true ≡ (x && y) → x ≡ true
and_true true y e = refl
and_true false y e = sym e

-- ---- a call of a line

module _ (s : Scenario) (board : IsLinkedBoard s) (d : DomainLine) (ends : List RunEnds) (made : ℕ) (old new : Station) (line : CallLine) (may is_again is_quiet : Bool)
    (h : IsOnItsWay s d ends made old) (comes : slice_get (script s d.domain) old.number ≡ Some line) (few : old.number + 1 < 2 ^ 32) (may_is : may_try line.tries made ≡ may) (tries : Tries line may old new is_again is_quiet) where
  abbrev lines : List CallLine
  lines = script s d.domain

  abbrev begun : RunState
  begun = start s d

  abbrev m : Made
  m = tries.made

  abbrev called_to : Station
  called_to = tries.called_to

  abbrev call : DomainCall
  call = call_at_station line old

  abbrev calls : Calls (EndsMoved AnySends AnyReceives) line.node call old.domain called_to.domain old.journal.lines called_to.journal.lines (plain_answer m.answer) m.given
  calls = tries.makes.calls

  abbrev mid : RunDomain
  mid = calls.turned_to

  abbrev turned_to : Station
  turned_to = turned_station old mid (record old.journal { lines = noted old.journal.lines (turned calls.visits) })

  abbrev t : run.Station
  t = entered s (turned calls.visits) (station_in d h.run h.entries)

  -- the domain's peers stay

  differ : Differ (peers_of old.domain)
  differ = subst Differ (sym h.stands.peers) (neighbours_differ s board d)

  turned_peers : peers_of mid ≡ peers_of old.domain
  turned_peers = ap (λ (x : DomainState). map (λ p. p.number) x.peers) calls.turns.state ∙ turn_numbers old.domain.state calls.visits

  turned_matched : EndsMatch d.domain (peers_of mid) mid.ends
  turned_matched =
      subst (λ (ps : List ℕ). EndsMatch d.domain ps mid.ends) (sym turned_peers)
      (ends-match d.domain (peers_of old.domain) old.domain.ends (turn_moves old.domain.numbered calls.visits calls.numbers) mid.ends h.stands.matched calls.turns.moved)

  called_peers : peers_of called_to.domain ≡ peers_of mid
  called_peers = ap (λ (x : DomainState). map (λ p. p.number) x.peers) calls.does.state ∙ call_numbers mid.state line.node call

  -- after the turn

  turned_stands : IsStation s t turned_to
  turned_stands = station-turned s (station_in d h.run h.entries) old calls.visits calls.numbers mid turned_to.journal h.stands calls.turns refl turned_peers turned_matched

  turned_leads : Leads lines begun t.entries t.run
  turned_leads =
      leads-append lines begun h.run t.run h.entries (turned calls.visits ∷ []) h.leads
      (leads_one lines h.run (turned calls.visits) (h.settled, subst (λ (x : DomainState). IsTurn x calls.visits) h.stands.state calls.turns.allowed))

  turned_moves : MovedAsTold lines begun (peers_of old.domain) t.entries ends mid.ends begun.state mid.numbered
  turned_moves =
      moved_then lines begun (peers_of old.domain) h.entries (turned calls.visits ∷ []) ends old.domain.ends mid.ends begun.state old.domain.numbered mid.numbered h.moves
      (turn_moved lines (after_all lines begun h.entries) old.domain mid calls.visits calls.numbers calls.turns differ (h.stands.state ∙ ap (λ (x : RunState). x.state) (leads_to lines begun h.run h.entries h.leads)))

  -- the call

  same_call : call ≡ call_at t.run line
  same_call =
      ap₂ (λ (ids : List RequestId) (packets : List PacketId). call_by old.ids old.packets ids packets line.call) (sym calls.turns.ids) (sym calls.turns.packets)
      ∙ call_is turned_to.domain old.ids old.packets t.run.labels t.run.lines_called line.call turned_stands.held
      ∙ ap (λ (x : DomainState). call_of t.run.labels x line.call) turned_stands.state

  same_answer : plain_answer m.answer ≡ answer t.run.state line.node (call_at t.run line)
  same_answer = calls.does.answer ∙ ap₂ (λ (x : DomainState) (c : DomainCall). answer x line.node c) turned_stands.state same_call

  is_call : IsCall s t line turned_to called_to m call
  is_call = record {
    stands = turned_stands;
    call_is = same_call;
    does = calls.does;
    told = calls.told;
    gives = tries.makes.gives;
    lends = tries.makes.lends;
    ids = tries.makes.ids;
    packets = tries.makes.packets;
    number = tries.makes.number;
    dropped = tries.makes.dropped;
    domain_number = tries.makes.domain_number;
    peers = called_peers;
    matched =
        subst (λ (n : ℕ). EndsMatch n (peers_of called_to.domain) called_to.domain.ends) (sym (own_number s t turned_to turned_stands))
        (subst (λ (ps : List ℕ). EndsMatch d.domain ps called_to.domain.ends) (sym called_peers)
        (ends-match d.domain (peers_of mid) mid.ends (call_moves (puts mid.state line.node call) (returned mid.numbered line.node call) (peers_of mid)) called_to.domain.ends turned_matched calls.does.moved));
  }

  comes_now : next_line lines t.run ≡ Some line
  comes_now = ap (slice_get lines) (sym turned_stands.number) ∙ comes

  -- with more entries
  moves_on : (es : List PlainEntry) → MovedAsTold lines (after_all lines begun t.entries) (peers_of mid) es mid.ends called_to.domain.ends mid.numbered called_to.domain.numbered → new.domain ≡ called_to.domain
      → MovedAsTold lines begun (peers_of new.domain) (t.entries ++ es) ends new.domain.ends begun.state new.domain.numbered
  moves_on es moved same =
      subst (λ (x : RunDomain). MovedAsTold lines begun (peers_of x) (t.entries ++ es) ends x.ends begun.state x.numbered) (sym same)
      (subst (λ (ps : List ℕ). MovedAsTold lines begun ps (t.entries ++ es) ends called_to.domain.ends begun.state called_to.domain.numbered) (sym (called_peers ∙ turned_peers))
      (moved_then lines begun (peers_of old.domain) t.entries es ends mid.ends called_to.domain.ends begun.state mid.numbered called_to.domain.numbered turned_moves
      (subst (λ (ps : List ℕ). MovedAsTold lines (after_all lines begun t.entries) ps es mid.ends called_to.domain.ends mid.numbered called_to.domain.numbered) turned_peers moved)))

  is_led : t.run ≡ after_all lines begun t.entries
  is_led = leads_to lines begun t.run t.entries turned_leads

  -- the deed that its entry tells
  deed : (a : PlainAnswer) → call_deeds (next_line lines (after_all lines begun t.entries)) (after_all lines begun t.entries) a ≡ doing.calls line.node call a ∷ []
  deed a =
      ap (λ (r : RunState). call_deeds (next_line lines r) r a) (sym is_led)
      ∙ ap (λ (o : Option CallLine). call_deeds o t.run a) comes_now
      ∙ ap (λ (c : DomainCall). doing.calls line.node c a ∷ []) (sym same_call)

  -- ---- one that is made again

  module _ (e : is_again ≡ true) where
    notes : NotesAgain m called_to new
    notes = subst (λ (b : Bool). NotesAnswer b line m called_to new) e tries.notes

    tried : is_tried (plain_answer m.answer) ≡ true
    tried = and_true (is_tried (plain_answer m.answer)) may (sym e ∙ tries.again_is)

    may_again : may ≡ true
    may_again = go (is_tried (plain_answer m.answer)) may (sym e ∙ tries.again_is)
      where
        go : (x y : Bool) → true ≡ (x && y) → y ≡ true
        go true y is = sym is
        go false y is = absurd cc

    abbrev word : Refusal
    word = word_in (answer t.run.state line.node (call_at t.run line))

    word_is : refuses word ≡ answer t.run.state line.node (call_at t.run line)
    word_is = refused_word (answer t.run.state line.node (call_at t.run line)) (ap is_tried (sym same_answer) ∙ tried)

    tries_more : tries_again line t.run (refuses word) ≡ true
    tries_more =
        ap₂ (λ (a : PlainAnswer) (n : ℕ). is_tried a && may_try line.tries n) (word_is ∙ sym same_answer) h.made_is
        ∙ ap₂ (λ (x y : Bool). x && y) tried (may_is ∙ may_again)

    nothing : DoesNothing mid.state line.node call
    nothing = tried_nothing mid.state line.node call (ap is_tried (sym calls.does.answer) ∙ tried)

    pub goes_again : IsOnItsWay s d ends (made + 1) new
    goes_again = record {
      entries = t.entries ++ again word ∷ [];
      run = after lines t.run (again word);
      stands = again_station s t line turned_to called_to new m call is_call notes tried;
      leads =
          leads-append lines begun t.run (after lines t.run (again word)) t.entries (again word ∷ []) turned_leads
          (leads_one lines t.run (again word) (line, comes_now, word_is, refl, tries_more));
      settled = tt;
      made_is = ap (λ (n : ℕ). n + 1) h.made_is;
      rests = ap (option_map (one_turn_more (is_done_now (next_line lines h.run) h.run))) h.rests;
      moves =
          moves_on (again word ∷ [])
          (again_moved lines (after_all lines begun t.entries) line.node call mid called_to.domain (plain_answer m.answer) m.given calls.does (again word) (refuses word) (λ p. refl) nothing.puts_none nothing.returns_none (deed (refuses word)))
          notes.domain;
    }

  -- ---- the last one of its line

  module _ (e : is_again ≡ false) (ready : limit_of line.call ≡ None) where
    last_notes : NotesCalled line m called_to new
    last_notes = subst (λ (b : Bool). NotesAnswer b line m called_to new) e tries.notes

    abbrev frames : List (ℕ × List ℕ)
    frames = puts t.run.state line.node (call_at t.run line)

    abbrev last_answer : PlainAnswer
    last_answer = answer t.run.state line.node (call_at t.run line)

    abbrev entries : List PlainEntry
    entries = call_entries frames (t.run.lines_called + 1) last_answer

    not_again : tries_again line t.run last_answer ≡ false
    not_again = ap₂ (λ (a : PlainAnswer) (n : ℕ). is_tried a && may_try line.tries n) (sym same_answer) h.made_is ∙ ap (λ (b : Bool). is_tried (plain_answer m.answer) && b) may_is ∙ sym tries.again_is ∙ e

    steps : Leads lines t.run entries (after_all lines t.run entries)
    steps =
        let led = leads_call lines t.run line comes_now ready not_again in
        subst (λ (x : RunState). Leads lines t.run entries x) (leads_to lines t.run (after lines (with_puts t.run frames) (called (t.run.lines_called + 1) last_answer)) entries led) led

    done : after_all lines t.run entries ≡ called_run t.run line
    done = after_call lines t.run [] frames (t.run.lines_called + 1) last_answer line comes_now

    same_frames : puts mid.state line.node call ≡ frames
    same_frames = ap₂ (λ (x : DomainState) (c : DomainCall). puts x line.node c) turned_stands.state same_call

    same_back : returned mid.state line.node call ≡ returned_by (next_line lines (after_all lines begun t.entries)) (after_all lines begun t.entries)
    same_back =
        ap₂ (λ (x : DomainState) (c : DomainCall). returned x line.node c) turned_stands.state same_call
        ∙ sym (ap (λ (o : Option CallLine). returned_by o t.run) comes_now)
        ∙ ap (λ (r : RunState). returned_by (next_line lines r) r) is_led

    pub goes_called : IsOnItsWay s d ends 0 new
    goes_called = record {
      entries = t.entries ++ entries;
      run = after_all lines t.run entries;
      stands = called_station s t line turned_to called_to new m call is_call last_notes comes_now few;
      leads = leads-append lines begun t.run (after_all lines t.run entries) t.entries entries turned_leads steps;
      settled = subst (λ (r : RunState). HasNoPuts r.put_since_turn) (sym done) tt;
      made_is = ap (λ (r : RunState). r.calls_made) done;
      rests = ap (λ (r : RunState). r.waited) done;
      moves =
          moves_on entries
          (subst (λ (ps : List (ℕ × List ℕ)). MovedAsTold lines (after_all lines begun t.entries) (peers_of mid) (call_entries ps (t.run.lines_called + 1) last_answer) mid.ends called_to.domain.ends mid.numbered called_to.domain.numbered) same_frames
          (call_moved lines (after_all lines begun t.entries) line.node call mid called_to.domain (plain_answer m.answer) m.given calls.does (t.run.lines_called + 1) last_answer same_back (deed last_answer)))
          last_notes.domain;
    }

-- ---- what it counts

-- one that is made again counts nothing
pub record CountsNothing (old new : Station) : Type 0 where
  pub number : new.number ≡ old.number
  pub dropped : new.dropped ≡ old.dropped
  pub domain_number : new.domain_number ≡ old.domain_number

pub counts-nothing : (line : CallLine) (may is_again is_quiet : Bool) (old new : Station) → Tries line may old new is_again is_quiet → is_again ≡ true → CountsNothing old new
counts-nothing line may is_again is_quiet old new tries e =
    let notes = subst (λ (b : Bool). NotesAnswer b line tries.made tries.called_to new) e tries.notes in
    let makes = tries.makes in
    record { number = notes.number ∙ makes.number; dropped = notes.dropped ∙ makes.dropped; domain_number = notes.domain_number ∙ makes.domain_number }

pub nothing-then : (first old new : Station) → CountsNothing first old → CountsNothing old new → CountsNothing first new
nothing-then first old new one two = record { number = two.number ∙ one.number; dropped = two.dropped ∙ one.dropped; domain_number = two.domain_number ∙ one.domain_number }

pub counts-one : (line : CallLine) (may is_again is_quiet : Bool) (first old new : Station) → CountsNothing first old → first.dropped ≤ 2 ^ 32 * first.number → Tries line may old new is_again is_quiet → is_again ≡ false → CountsOneLine first new
counts-one line may is_again is_quiet first old new same fits tries e =
    let notes = subst (λ (b : Bool). NotesAnswer b line tries.made tries.called_to new) e tries.notes in
    let makes = tries.makes in
    let few = makes.drops_fit in
    record {
      number = omega (arith, notes.number, makes.number, same.number);
      drops = omega (arith, fits, notes.dropped, makes.dropped, same.dropped, few, notes.number, makes.number, same.number);
      domain_number = notes.domain_number ∙ makes.domain_number ∙ same.domain_number;
    }

-- the last call is made again no more
pub never-again : (line : CallLine) (is_again is_quiet : Bool) (old new : Station) → Tries line false old new is_again is_quiet → is_again ≡ false
never-again line is_again is_quiet old new tries = go (is_tried (plain_answer tries.made.answer)) tries.again_is
  where
    go : (x : Bool) → is_again ≡ (x && false) → is_again ≡ false
    go true e = e
    go false e = e

-- ---- all calls of a line

-- whatever run it was in which the line came next, so many calls of it were made
abbrev pub Tried : CallLine → ℕ → Station → Station → Type 0
Tried line made old new = (s : Scenario) (d : DomainLine) (ends : List RunEnds) → IsLawfulBoard s → line.domain ≡ d.domain → slice_get (script s d.domain) old.number ≡ Some line → IsOnItsWay s d ends 0 old → IsOnItsWay s d ends made new

pub tried-more : (line : CallLine) (made : ℕ) (is_again is_quiet : Bool) (first old new : Station) → made < more_calls line.tries → first.number + 1 < 2 ^ 32 → CountsNothing first old → Tried line made first old → Tries line true old new is_again is_quiet → is_again ≡ true → Tried line (made + 1) first new
tried-more line made is_again is_quiet first old new less few same before tries e s d ends lawful own comes h =
    goes_again s (lawful_is_linked s lawful) d ends made old new line true is_again is_quiet (before s d ends lawful own comes h)
    (ap (slice_get (script s d.domain)) same.number ∙ comes) (omega (arith, few, same.number)) (more_may line.tries made less) tries e

pub tried-last : (line : CallLine) (made : ℕ) (may is_again is_quiet : Bool) (first old new : Station) → limit_of line.call ≡ None → may_try line.tries made ≡ may → first.number + 1 < 2 ^ 32 → CountsNothing first old → Tried line made first old → Tries line may old new is_again is_quiet → is_again ≡ false → RunsNextLine line first new
tried-last line made may is_again is_quiet first old new ready may_is few same before tries e s d ends lawful own comes h =
    goes_called s (lawful_is_linked s lawful) d ends made old new line may is_again is_quiet (before s d ends lawful own comes h)
    (ap (slice_get (script s d.domain)) same.number ∙ comes) (omega (arith, few, same.number)) may_is tries e ready

-- ---- the lines before a place

-- the domain ran its lines among the first of the scenario's
pub record RanFront (s : Scenario) (i : ℕ) (first now : Station) : Type 0 where
  pub ran : (d : DomainLine) → IsStation s (opened_station s d) first → IsOnItsWay s d first.domain.ends 0 now
  pub number : now.number ≡ length (lines_of (take i s.calls) now.domain_number)
  pub drops : now.dropped ≤ 2 ^ 32 * now.number
  pub domain_number : now.domain_number ≡ first.domain_number

pub ran_none : (s : Scenario) (st : Station) → HasNotBegun st → RanFront s 0 st st
ran_none s st h = record {
  ran = λ d opened. record {
    entries = [];
    run = start s d;
    stands = opened;
    leads = refl;
    settled = tt;
    made_is = refl;
    rests = refl;
    moves =
        none_moved (script s d.domain) (start s d) d.domain (peers_of st.domain) st.domain.ends opened.matched (start s d).state st.domain.numbered
        (numbered-opened st.domain.numbered (start s d).state refl refl refl refl (sym opened.state ∙ st.domain.nameless));
  };
  number = h.number ∙ none s.calls;
  drops = omega (arith, h.dropped);
  domain_number = refl;
}
  where
    none : (ls : List CallLine) → 0 ≡ length (lines_of (take 0 ls) st.domain_number)
    none [] = refl
    none (l ∷ ls) = refl

-- a line of another domain
pub ran_other : (s : Scenario) (i : ℕ) (line : CallLine) (first now : Station) → slice_get s.calls i ≡ Some line → now.domain_number ≢ line.domain → RanFront s i first now → RanFront s (i + 1) first now
ran_other s i line first now is other h = record {
  ran = h.ran;
  number = h.number ∙ sym (other_counted (take i s.calls) line now.domain_number other) ∙ ap (λ (ls : List CallLine). length (lines_of ls now.domain_number)) (one_taken s.calls i line is);
  drops = h.drops;
  domain_number = h.domain_number;
}

-- the line comes next at its own domain
module _ (s : Scenario) (i : ℕ) (line : CallLine) (first now : Station) (is : slice_get s.calls i ≡ Some line) (own : now.domain_number ≡ line.domain) (h : RanFront s i first now) where
  pub comes_own : slice_get (script s line.domain) now.number ≡ Some line
  comes_own = ap (slice_get (script s line.domain)) (h.number ∙ ap (λ (n : ℕ). length (lines_of (take i s.calls) n)) own) ∙ next_in_script s i line is

  pub few_own : IsLinkedBoard s → MayCount now
  few_own board = omega (arith, slice_get_within (script s line.domain) now.number line comes_own, script-few s board line.domain)

  pub ran_own : IsLawfulBoard s → (new : Station) → RunsNextLine line now new → CountsOneLine now new → RanFront s (i + 1) first new
  ran_own lawful new runs counts = record {
    ran = λ d opened.
        let same : line.domain ≡ d.domain = sym own ∙ h.domain_number ∙ opened.domain_number in
        runs s d first.domain.ends lawful same (subst (λ (n : ℕ). slice_get (script s n) now.number ≡ Some line) same comes_own) (h.ran d opened);
    number =
        counts.number ∙ ap (λ (n : ℕ). n + 1) (h.number ∙ ap (λ (n : ℕ). length (lines_of (take i s.calls) n)) own)
        ∙ sym (own_counted (take i s.calls) line) ∙ ap (λ (ls : List CallLine). length (lines_of ls line.domain)) (one_taken s.calls i line is)
        ∙ ap (λ (n : ℕ). length (lines_of (take (i + 1) s.calls) n)) (sym own ∙ sym counts.domain_number);
    drops = counts.drops;
    domain_number = counts.domain_number ∙ h.domain_number;
  }

-- ---- all lines

-- a domain on its way that called as many lines as its script has ran the script whole
pub way_whole : (s : Scenario) (d : DomainLine) (ends : List RunEnds) (now : Station) → IsOnItsWay s d ends 0 now → now.number ≡ length (script s d.domain) → RanWhole s d ends now
way_whole s d ends now w all =
    let lines = script s d.domain in
    let left : w.run ≡ left_by s d w.entries = leads_to lines (start s d) w.run w.entries w.leads in
    record {
      entries = w.entries;
      runs = record {
        steps = subst (λ (r : RunState). Leads lines (start s d) w.entries r) left w.leads;
        settled = subst (λ (r : RunState). HasNoPuts r.put_since_turn) left w.settled;
      };
      whole = ap (λ (r : RunState). r.lines_called) (sym left) ∙ sym w.stands.number ∙ all;
      stands = subst (λ (r : RunState). IsStation s (station_in d r w.entries) now) left w.stands;
      moves = w.moves;
    }

pub ran_whole : (s : Scenario) (i : ℕ) (first now : Station) → length s.calls ≤ i → RanFront s i first now → RunsScript s first now
ran_whole s i first now le h d opened =
    let own : now.domain_number ≡ d.domain = h.domain_number ∙ opened.domain_number in
    way_whole s d first.domain.ends now (h.ran d opened) (h.number ∙ ap₂ (λ (ls : List CallLine) (n : ℕ). length (lines_of ls n)) (take_all s.calls i le) own)
