-- A station whose next line waits: its wait begins, ends, or does nothing.
use Rattle.std.proofs.Common.{◌≡◌, ℕ, ◌+◌, Bool, true, false, List, [], ◌∷◌, ◌++◌, length, map, Option, Some, None, option_map, option_to_list, sum_by, refl, sym, ap, ap₂, ◌∙◌, subst, arith, append-nil, true≢false}
use Rattle.std.specs.Prelude.{◌≤◌, IfSome, IsSome}
use Rattle.std.proofs.lemmas.List.Sums.{sum_by-cons}
use Rattle.mc_base.specs.declared.refusal.Refusal.TheVariants.{Timeout}
use Rattle.mc_base.specs.declared.request.PacketId.{PacketId}
use Rattle.mc_base.specs.declared.request.RequestId.{RequestId}
use Rattle.board_model.specs.declared.scenario.CallLine.{CallLine}
use Rattle.board_model.specs.declared.scenario.Scenario.{Scenario}
use Rattle.board_model.specs.Answer.{answer, puts}
use Rattle.board_model.specs.CallChanges.{effect, returned}
use Rattle.board_model.specs.DomainCall.{DomainCall}
use Rattle.board_model.specs.Journal.{Line, PlainAnswer, refuses, Visit, joined, noted, noted_all, wait_line, waits}
use Rattle.board_model.specs.Labels.{call_of, packet_given, success_request}
use Rattle.board_model.specs.Lists.{without}
use Rattle.board_model.specs.Scenario.{script}
use Rattle.board_model.specs.Serial.{put_entry}
use Rattle.board_model.specs.SerialRun as run
use Rattle.board_model.specs.SerialRun.{entered}
use Rattle.board_model.specs.State.{DomainState, Item}
use Rattle.board_model.specs.Step.{call_at, is_timeout, limit_of}
use Rattle.board_model.specs.Tallies.{deleted_in}
use Rattle.board_model.specs.Unnamed.{no_names}
use Rattle.board_model.proofs.WaitCalls.{wait-puts}
use Rattle.board_model.proofs.WholePeers.{call_numbers}
use Rattle.board_model.proofs.RenamedCalls.{answer-renamed}
use Rattle.domain_core.specs.AllMoved.{AllMoved, call_moves}
use Rattle.domain_core.specs.Awaiting.{places_named}
use Rattle.domain_core.specs.Calls.{Does, IsFresh, place_ended, place_released}
use Rattle.domain_core.specs.Waiting.{Polls, Waits, wait_entries, wait_on}
use Rattle.mc_journal.specs.Entry.{plain_answer}
use Rattle.mc_journal.specs.Written.{Written}
use Rattle.board_runner.specs.declared.station.Station.{Station}
use Rattle.board_runner.specs.declared.line.Made.{Made}
use Rattle.board_runner.specs.Held.{Ids, PacketIds}
use Rattle.board_runner.specs.Lines.{call_at_station}
use Rattle.board_runner.specs.Near.{RunDomain, peers_of, EndsMatch}
use Rattle.board_runner.specs.Stations.{IsStation}
use Rattle.board_runner.specs.Waits.{ids_named, says_place}
use Rattle.board_runner.proofs.CallLemmas.{IsCall, DoesNothing, refused_nothing}
use Rattle.board_runner.proofs.HeldLemmas.{call_is, holds_same}
use Rattle.board_runner.proofs.LineLemmas.{gives_none}
use Rattle.board_runner.proofs.PacketLemmas.{packets_stay}
use Rattle.board_runner.proofs.StationLemmas.{own_number}
use Rattle.board_runner.proofs.ToldMoves.{all_rest}
use Rattle.board_runner.proofs.TurnEnds.{Moved, ends-match}
use Rattle.board_runner.proofs.TurnStations.{deleted-noted, turned_station}
use Rattle.board_runner.proofs.WaitLemmas.{timeout-anywhere, timeout-word, wait-named}
use Rattle.domain_core.proofs.WaitSteps.{noted-append}

-- ---- a wait that makes no turn

record DoesLending (ids : List RequestId) (says : Bool) (new : RunDomain) (a : PlainAnswer) (lent : Option PacketId) (old : RunDomain) : Type 0 where
  does : Does Moved 0 (wait_on ids says old) old new a None
  lends : lent ≡ does.lent

pub record MadeAtOnce (number : ℕ) (ids : List RequestId) (says : Bool) (old new : RunDomain) (lines lines' : List Line) (a : PlainAnswer) (lent : Option PacketId) : Type 0 where
  pub does : Does Moved 0 (wait_on ids says old) old new a None
  pub lends : lent ≡ does.lent
  pub told : lines' ≡ noted_all lines (wait_entries number (is_timeout (answer old.state 0 (wait_on ids false old))) [])

pub made-at-once : (number limit : ℕ) (ids : List RequestId) (says : Bool) (old new : RunDomain) (lines lines' : List Line) (a : PlainAnswer) (lent : Option PacketId) (w : Waits Moved number limit ids says old new lines lines' (Some a)) → length w.turns ≤ 0 → lent ≡ w.ends.0.lent → MadeAtOnce number ids says old new lines lines' a lent
made-at-once number limit ids says old new lines lines' a lent w none is = go w.turns w.polled_to w.polls none w.told w.ends.0 is
  where
    begins : Bool
    begins = is_timeout (answer old.state 0 (wait_on ids false old))

    go : (turns : List (List Visit)) (polled : RunDomain) → Polls Moved ids turns old polled → length turns ≤ 0 → lines' ≡ noted_all lines (wait_entries number begins turns) → (does : Does Moved 0 (wait_on ids says polled) polled new a None) → lent ≡ does.lent → MadeAtOnce number ids says old new lines lines' a lent
    go [] polled polls few told does lends =
        let same = subst (DoesLending ids says new a lent) polls (record { does = does; lends = lends }) in
        record { does = same.does; lends = same.lends; told = told }
    go (visits ∷ turns) polled polls few told does lends = absurd (omega (arith, few))

-- where it does not wait it makes no turn
pub none-polled : (ids : List RequestId) (turns : List (List Visit)) (old polled : RunDomain) → Polls Moved ids turns old polled → is_timeout (answer old.state 0 (wait_on ids false old)) ≡ false → length turns ≤ 0
none-polled ids [] old polled polls ends = omega arith
none-polled ids (visits ∷ turns) old polled polls ends = absurd (true≢false (sym polls.0 ∙ ends))

-- ---- a station in a run

some_limit : (o : Option ℕ) → IsSome o → (n : ℕ) × (o ≡ Some n)
some_limit None some = absurd cc
some_limit (Some n) some = (n, refl)

-- a wait begins
pub begun-station : (s : Scenario) (t : run.Station) (st : Station) (j : Written) → IsStation s t st → j.lines ≡ noted st.journal.lines (waits (st.number + 1)) → IsStation s (entered s (waits (t.run.lines_called + 1)) t) (turned_station st st.domain j)
begun-station s t st j h told =
    let sc = script s t.line.domain in
    let k = t.run.lines_called + 1 in
    let lines : j.lines ≡ noted (joined t.entries) (waits k) = told ∙ ap₂ (λ (ls : List Line) (n : ℕ). noted ls (waits (n + 1))) h.told h.number in
    record {
      state = h.state;
      told = lines ∙ sym (noted-append [] t.entries (waits k ∷ []));
      number = h.number;
      held = h.held;
      dropped = omega (arith, h.dropped, ap (sum_by (deleted_in sc)) h.told, ap (sum_by (deleted_in sc)) lines, deleted-noted sc t.entries (waits k), sum_by-cons (deleted_in sc) (wait_line k) []);
      own = h.own;
      domain_number = h.domain_number;
      peers = h.peers;
      matched = h.matched;
    }

none_lent : (id : Option PacketId) → option_map (λ i. i.serial) id ≡ None → id ≡ None
none_lent None e = refl
none_lent (Some i) e = absurd cc

-- a call that does nothing leaves the station
pub nothing-station : (s : Scenario) (t : run.Station) (st : Station) (node : ℕ) (call : DomainCall) (d : RunDomain) (a : PlainAnswer) → IsStation s t st → Does Moved node call st.domain d a None → DoesNothing st.domain.state node call → IsStation s t (turned_station st d st.journal)
nothing-station s t st node call d a h does nothing =
    let same_state : d.state ≡ st.domain.state = does.state ∙ nothing.effect_is in
    let same_ids : d.ids ≡ st.domain.ids = does.ids ∙ ap (λ (p : Option ℕ). without p st.domain.ids ++ []) nothing.ends_none ∙ append-nil st.domain.ids in
    let same_packets : d.packets ≡ st.domain.packets =
    does.packets ∙ ap₂ (λ (p : Option ℕ) (id : Option PacketId). without p st.domain.packets ++ option_to_list id) nothing.releases_none (none_lent does.lent (does.lends ∙ nothing.lends_none)) ∙ append-nil st.domain.packets in
    let same_peers : peers_of d ≡ peers_of st.domain = ap (λ (x : DomainState). map (λ p. p.number) x.peers) same_state in
    record {
      state = same_state ∙ h.state;
      told = h.told;
      number = h.number;
      held = record {
        requests = holds_same st.domain d st.ids t.run.labels.requests t.run.lines_called h.held.requests same_state same_ids;
        packets =
            packets_stay st.domain d st.packets t.run.labels.packets t.run.lines_called (ap (λ (x : DomainState). x.packets_lent) same_state) (ap (λ (x : DomainState). map (λ p. p.serial) x.lent) same_state) same_packets
            h.held.packets;
      };
      dropped = h.dropped;
      own = h.own;
      domain_number = h.domain_number;
      peers = same_peers ∙ h.peers;
      matched =
          subst (λ (ps : List ℕ). EndsMatch t.line.domain ps d.ends) (sym same_peers)
          (ends-match t.line.domain (peers_of st.domain) st.domain.ends (call_moves (puts st.domain.state node call) (returned st.domain.numbered node call) (peers_of st.domain)) d.ends h.matched does.moved);
    }

-- a wait that is answered with a timeout lends nothing
pub record TimedOut (ids : List RequestId) (says : Bool) (d : RunDomain) (a : PlainAnswer) : Type 0 where
  pub does : Does Moved 0 (wait_on ids says d) d d a None
  pub none : None ≡ does.lent

-- a wait that waits is answered so, and does nothing
module _ (ids : List RequestId) (says : Bool) (d : RunDomain) (rest : AllMoved Moved d.ends (map (λ p. []) (peers_of d)) d.ends) (waiting : is_timeout (answer d.state 0 (wait_on ids says d)) ≡ true) where
  nothing : DoesNothing d.state 0 (wait_on ids says d)
  nothing = refused_nothing d.state 0 Timeout (wait_on ids says d) (timeout-word (answer d.state 0 (wait_on ids says d)) waiting)

  -- and so it does where its items are named
  nothing_named : DoesNothing d.numbered 0 (wait_on ids says d)
  nothing_named =
      refused_nothing d.numbered 0 Timeout (wait_on ids says d)
      (timeout-word (answer d.numbered 0 (wait_on ids says d))
      (ap is_timeout (sym (answer-renamed no_names d.numbered 0 (wait_on ids says d)) ∙ ap (λ (x : DomainState). answer x 0 (wait_on ids says d)) (sym d.nameless)) ∙ waiting))

  pub times-out-alone : (a : PlainAnswer) → a ≡ refuses Timeout → TimedOut ids says d a
  times-out-alone a is = record {
    does = record {
      answer = is ∙ timeout-word (answer d.state 0 (wait_on ids says d)) waiting;
      state = sym nothing.effect_is;
      numbered = sym nothing_named.effect_is;
      moved =
          subst (λ (items : List Item). AllMoved Moved d.ends (call_moves (puts d.state 0 (wait_on ids says d)) items (peers_of d)) d.ends) (sym nothing_named.returns_none)
          (subst (λ (ps : List (ℕ × List ℕ)). AllMoved Moved d.ends (call_moves ps [] (peers_of d)) d.ends) (sym nothing.puts_none) rest);
      ids = sym (ap (λ (p : Option ℕ). without p d.ids ++ []) nothing.ends_none ∙ append-nil d.ids);
      fresh = tt;
      lent = None;
      packets = sym (ap (λ (p : Option ℕ). without p d.packets ++ []) nothing.releases_none ∙ append-nil d.packets);
      lends = sym nothing.lends_none;
    };
    none = refl;
  }

-- its next line waits
module _ (s : Scenario) (t : run.Station) (st : Station) (h : IsStation s t st) (line : CallLine) (is_wait : IsSome (limit_of line.call)) where
  abbrev call : DomainCall
  call = call_at_station line st

  abbrev ids : List RequestId
  ids = ids_named st.ids line.call

  abbrev says : Bool
  says = says_place line.call

  named : wait_on ids says st.domain ≡ call
  named = wait-named st.ids st.packets st.domain line.call is_wait

  pub same-call : call ≡ call_at t.run line
  same-call = call_is st.domain st.ids st.packets t.run.labels t.run.lines_called line.call h.held ∙ ap (λ (x : DomainState). call_of t.run.labels x line.call) h.state

  -- whether it waits, in the station and in the run
  pub waiting-is : (more : Bool) → is_timeout (answer st.domain.state 0 (wait_on ids more st.domain)) ≡ is_timeout (answer t.run.state line.node (call_at t.run line))
  waiting-is more =
      timeout-anywhere st.domain.state 0 line.node (places_named ids st.domain) more says
      ∙ ap (λ (c : DomainCall). is_timeout (answer st.domain.state line.node c)) (named ∙ same-call)
      ∙ ap (λ (x : DomainState). is_timeout (answer x line.node (call_at t.run line))) h.state

  puts_none : puts st.domain.state line.node call ≡ []
  puts_none =
      let limit = some_limit (limit_of line.call) is_wait in
      ap₂ (λ (x : DomainState) (c : DomainCall). puts x line.node c) h.state same-call ∙ wait-puts t.run line limit.0 limit.1

  module _ (called_to : Station) (m : Made) (does : Does Moved 0 (wait_on ids says st.domain) st.domain called_to.domain (plain_answer m.answer) None) (given : m.given ≡ None) (lends : m.lent ≡ does.lent) where
    abbrev state : DomainState
    state = st.domain.state

    -- the call of the line
    pub does-line : Does Moved line.node call st.domain called_to.domain (plain_answer m.answer) m.given
    does-line = record {
      answer = does.answer ∙ ap (λ (c : DomainCall). answer state line.node c) named;
      state = does.state ∙ ap (λ (c : DomainCall). effect state line.node c) named;
      numbered = does.numbered ∙ ap (λ (c : DomainCall). effect st.domain.numbered line.node c) named;
      moved = subst (λ (c : DomainCall). AllMoved Moved st.domain.ends (call_moves (puts state line.node c) (returned st.domain.numbered line.node c) (peers_of st.domain)) called_to.domain.ends) named does.moved;
      ids = does.ids ∙ ap₂ (λ (p : Option ℕ) (id : Option RequestId). without p st.domain.ids ++ option_to_list id) (ap (λ (c : DomainCall). place_ended state line.node c) named) (sym given);
      fresh = subst (λ (id : Option RequestId). IfSome id (IsFresh st.domain.ids state)) (sym given) tt;
      lent = does.lent;
      packets = does.packets ∙ ap (λ (c : DomainCall). without (place_released state line.node c) st.domain.packets ++ option_to_list does.lent) named;
      lends = does.lends ∙ ap (λ (c : DomainCall). packet_given state line.node c) named;
    }

    peers : peers_of called_to.domain ≡ peers_of st.domain
    peers = ap (λ (x : DomainState). map (λ p. p.number) x.peers) does-line.state ∙ call_numbers state line.node call

    pub wait-called : called_to.journal.lines ≡ st.journal.lines → called_to.ids ≡ st.ids → called_to.packets ≡ st.packets → called_to.number ≡ st.number → called_to.dropped ≡ st.dropped → called_to.domain_number ≡ st.domain_number → IsCall s t line st called_to m call
    unfolding does-line
    wait-called told held packets number dropped domain_number = record {
      stands = h;
      call_is = same-call;
      does = does-line;
      told = told ∙ sym (ap (λ (ps : List (ℕ × List ℕ)). noted_all st.journal.lines (map put_entry ps)) puts_none);
      gives = ap (option_map (λ (i : RequestId). i.serial)) given ∙ gives_none state line.node call (ap (success_request state) (sym named));
      lends = lends;
      ids = held;
      packets = packets;
      number = number;
      dropped = dropped;
      domain_number = domain_number;
      peers = peers;
      matched =
          subst (λ (n : ℕ). EndsMatch n (peers_of called_to.domain) called_to.domain.ends) (sym (own_number s t st h))
          (subst (λ (ps : List ℕ). EndsMatch t.line.domain ps called_to.domain.ends) (sym peers)
          (ends-match t.line.domain (peers_of st.domain) st.domain.ends (call_moves (puts state line.node call) (returned st.domain.numbered line.node call) (peers_of st.domain)) called_to.domain.ends h.matched does-line.moved));
    }

  -- where it waits, its answer is a timeout, and that does nothing
  pub times-out : is_timeout (answer t.run.state line.node (call_at t.run line)) ≡ true → (a : PlainAnswer) → a ≡ refuses Timeout → TimedOut ids says st.domain a
  times-out waiting a is = times-out-alone ids says st.domain (all_rest t.line.domain (peers_of st.domain) st.domain.ends h.matched) (waiting-is says ∙ waiting) a is

-- a station of which all but its domain and its journal stayed
pub same-station : (st w : Station) → w.ids ≡ st.ids → w.packets ≡ st.packets → w.number ≡ st.number → w.dropped ≡ st.dropped → w.domain_number ≡ st.domain_number → w ≡ turned_station st w.domain w.journal
same-station st w ids packets number dropped named =
    ap (λ (x : Ids). record w { ids = x }) ids
    ∙ ap (λ (x : PacketIds). record w { ids = st.ids; packets = x }) packets
    ∙ ap (λ (x : ℕ). record w { ids = st.ids; packets = st.packets; number = x }) number
    ∙ ap (λ (x : ℕ). record w { ids = st.ids; packets = st.packets; number = st.number; dropped = x }) dropped
    ∙ ap (λ (x : ℕ). record w { ids = st.ids; packets = st.packets; number = st.number; dropped = st.dropped; domain_number = x }) named
