-- The stations after a call that was made and noted: the run after it.
use Rattle.std.proofs.Common.{◌≡◌, ℕ, append-nil, option_to_list, ◌+◌, ◌-◌, ◌<◌, ◌^◌, Bool, true, false, cond, List, [], ◌∷◌, ◌++◌, map, sum_by, Option, Some, None, option_map, refl, sym, ap, ap₂, ◌∙◌, subst, arith}
use Rattle.std.specs.Prelude.{◌==◌, slice_get}
use Rattle.std.specs.List.{AllByRecursion}
use Rattle.std.specs.Option.{option_or}
use Rattle.std.proofs.lemmas.List.Sums.{sum_by-cons, sum_by-append}
use Rattle.mc_base.specs.declared.refusal.Refusal.{Refusal}
use Rattle.mc_base.specs.declared.request.PacketId.{PacketId}
use Rattle.mc_base.specs.declared.request.RequestId.{RequestId}
use Rattle.lane_end.specs.AnySender.{AnySends}
use Rattle.lane_end.specs.AnyReceiver.{AnyReceives}
use Rattle.board_model.specs.declared.scenario.CallLine.{CallLine}
use Rattle.board_model.specs.declared.scenario.Scenario.{Scenario}
use Rattle.board_model.specs.Answer.{answer, puts, unless_refused, success_puts}
use Rattle.board_model.specs.DomainCall.{DomainCall}
use Rattle.board_model.specs.Change.{changed_all}
use Rattle.board_model.specs.CallChanges.{call_changes, effect, returned, success_changes, success_returned}
use Rattle.board_model.specs.Journal.{Line, PlainEntry, again, called, PlainAnswer, refuses, agrees, tells, connects, gives, completes, noted, noted_all, joined, call_line, again_line}
use Rattle.board_model.specs.Labels.{Labels, call_of, request_given, success_request, packet_given, success_packet, lending_label, with_label}
use Rattle.board_model.specs.Lists.{without}
use Rattle.board_model.specs.Loads.{Load, loads_given, with_returned}
use Rattle.board_model.specs.Scenario.{script, label_in}
use Rattle.board_model.specs.Serial.{put_entry}
use Rattle.board_model.specs.State.{DomainState, Item}
use Rattle.board_model.specs.Step.{RunState, next_line, call_at, is_tried, effect_of_line, labels_of_line, after}
use Rattle.board_model.specs.Run.{after_all}
use Rattle.board_model.specs.SerialRun as run
use Rattle.board_model.specs.SerialRun.{word_in, loads_with_puts}
use Rattle.board_model.specs.Tallies.{deleted_in, deletes_line, number_told}
use Rattle.board_model.proofs.DeedJoins.{changes-keep}
use Rattle.board_model.proofs.ListsJoined.{entry_lines, JoinsWeighNothing, sum-joined}
use Rattle.board_model.proofs.WholeStations.{entered_all}
use Rattle.board_model.proofs.WholeJournals.{call_entries, called_run}
use Rattle.board_model.proofs.RefusedCalls.{refused-is}
use Rattle.domain_core.specs.Calls.{Does, place_ended, place_released, success_ends, success_releases}
use Rattle.domain_core.specs.Ends.{EndsMoved}
use Rattle.mc_journal.specs.Entry.{plain_answer}
use Rattle.board_runner.specs.declared.station.Station.{Station}
use Rattle.board_runner.specs.declared.line.Made.{Made}
use Rattle.board_runner.specs.Held.{id_for, told_for, TellsId}
use Rattle.board_runner.specs.LendingLabels.{lending_label_by}
use Rattle.board_runner.specs.Lines.{dropped_by, NotesAgain, NotesCalled}
use Rattle.board_runner.specs.Near.{RunDomain, peers_of, EndsMatch}
use Rattle.board_runner.specs.Stations.{HoldsIds, HoldsPackets, HoldsLabels, IsStation}
use Rattle.board_runner.proofs.HeldLemmas.{holds_after, holds_same}
use Rattle.board_runner.proofs.LendingLemmas.{lent_under}
use Rattle.board_runner.proofs.PacketLemmas.{packets_after, packets_stay}
use Rattle.domain_core.proofs.WaitSteps.{noted-append}

-- ---- the lines of a journal

-- ---- what deletes dropped, by the entries of a journal

joins_weigh_nothing : (sc : List CallLine) → JoinsWeighNothing (deleted_in sc)
joins_weigh_nothing sc = record { idle = λ k. refl; again = λ w. refl; spin = λ k w. refl; turn = refl }

abbrev deleted_by : List CallLine → PlainEntry → ℕ
deleted_by sc e = sum_by (deleted_in sc) (entry_lines e)

agree : (sc : List CallLine) (es : List PlainEntry) → AllByRecursion (λ e. deleted_by sc e ≡ sum_by (deleted_in sc) (entry_lines e)) es
agree sc [] = tt
agree sc (e ∷ es) = (refl, agree sc es)

sum_is : (sc : List CallLine) (es : List PlainEntry) → sum_by (deleted_in sc) (joined es) ≡ sum_by (deleted_by sc) es
sum_is sc es = sum-joined (deleted_in sc) (deleted_by sc) (joins_weigh_nothing sc) es (agree sc es)

-- more entries
pub sum_more : (sc : List CallLine) (es fs : List PlainEntry) → sum_by (deleted_in sc) (joined (es ++ fs)) ≡ sum_by (deleted_in sc) (joined es) + sum_by (deleted_by sc) fs
sum_more sc es fs = omega (arith, sum_is sc (es ++ fs), sum_by-append (deleted_by sc) es fs, sum_is sc es)

puts_delete_none : (sc : List CallLine) (ps : List (ℕ × List ℕ)) → sum_by (deleted_by sc) (map put_entry ps) ≡ 0
puts_delete_none sc [] = refl
puts_delete_none sc (p ∷ ps) = omega (arith, sum_by-cons (deleted_by sc) (put_entry p) (map put_entry ps), puts_delete_none sc ps)

call_deletes : (sc : List CallLine) (ps : List (ℕ × List ℕ)) (k : ℕ) (a : PlainAnswer) (line : CallLine) → slice_get sc k ≡ Some line → sum_by (deleted_by sc) (call_entries ps (k + 1) a) ≡ dropped_by line.call a
call_deletes sc ps k a line is =
    let same : k + 1 - 1 ≡ k = omega arith in
    let one : deleted_in sc (call_line (k + 1) a) ≡ dropped_by line.call a = ap (λ (n : ℕ). cond (deletes_line (slice_get sc n)) (number_told a) 0) same ∙ ap (λ (o : Option CallLine). cond (deletes_line o) (number_told a) 0) is in
    omega (arith, sum_by-append (deleted_by sc) (map put_entry ps) (called (k + 1) a ∷ []), puts_delete_none sc ps, sum_by-cons (deleted_by sc) (called (k + 1) a) [], sum_by-cons (deleted_in sc) (call_line (k + 1) a) [], one)

-- ---- where the entries lead

pub after_called : (sc : List CallLine) (r : RunState) (ps : List (ℕ × List ℕ)) (k : ℕ) (a : PlainAnswer) (line : CallLine) → next_line sc r ≡ Some line → after_all sc r (call_entries ps k a) ≡ called_run r line
after_called sc r [] k a line here = ap (λ (o : Option CallLine). record { state = effect_of_line o r; lines_called = r.lines_called + 1; calls_made = 0; labels = labels_of_line o r; put_since_turn = None; waited = None }) here
after_called sc r (p ∷ ps) k a line here = after_called sc (after sc r (put_entry p)) ps k a line here

-- ---- the station of a domain that made a call

-- what was done since the station's turn
pub record IsCall (s : Scenario) (t : run.Station) (line : CallLine) (st called_to : Station) (m : Made) (call : DomainCall) : Type 0 where
  pub stands : IsStation s t st
  pub call_is : call ≡ call_at t.run line
  pub does : Does (EndsMoved AnySends AnyReceives) line.node call st.domain called_to.domain (plain_answer m.answer) m.given
  pub told : called_to.journal.lines ≡ noted_all st.journal.lines (map put_entry (puts st.domain.state line.node call))
  pub gives : option_map (λ i. i.serial) m.given ≡ request_given st.domain.state line.node call
  pub lends : m.lent ≡ does.lent
  pub ids : called_to.ids ≡ st.ids
  pub packets : called_to.packets ≡ st.packets
  pub number : called_to.number ≡ st.number
  pub dropped : called_to.dropped ≡ st.dropped
  pub domain_number : called_to.domain_number ≡ st.domain_number
  pub peers : peers_of called_to.domain ≡ peers_of st.domain
  pub matched : EndsMatch st.domain.state.number (peers_of called_to.domain) called_to.domain.ends

-- the last call of a line
module _ (s : Scenario) (t : run.Station) (line : CallLine) (st called_to new : Station) (m : Made) (call : DomainCall) (h : IsCall s t line st called_to m call) (notes : NotesCalled line m called_to new) (comes : next_line (script s t.line.domain) t.run ≡ Some line) (few : st.number + 1 < 2 ^ 32) where
  abbrev sc : List CallLine
  sc = script s t.line.domain

  abbrev puts_of : DomainState → DomainCall → List (ℕ × List ℕ)
  puts_of x c = puts x line.node c

  abbrev entries : List PlainEntry
  entries = call_entries (puts_of t.run.state (call_at t.run line)) (t.run.lines_called + 1) (answer t.run.state line.node (call_at t.run line))

  abbrev after_it : RunState
  after_it = called_run t.run line

  leads : (entered_all s entries t).run ≡ after_it
  leads = after_called sc t.run (puts_of t.run.state (call_at t.run line)) (t.run.lines_called + 1) (answer t.run.state line.node (call_at t.run line)) line comes

  -- the call at the station is that of the run
  same_puts : puts_of st.domain.state call ≡ puts_of t.run.state (call_at t.run line)
  same_puts = ap₂ puts_of h.stands.state h.call_is

  same_answer : plain_answer m.answer ≡ answer t.run.state line.node (call_at t.run line)
  same_answer = h.does.answer ∙ ap₂ (λ (x : DomainState) (c : DomainCall). answer x line.node c) h.stands.state h.call_is

  state_after : new.domain.state ≡ (entered_all s entries t).run.state
  state_after = ap (λ (d : RunDomain). d.state) notes.domain ∙ h.does.state ∙ ap₂ (λ (x : DomainState) (c : DomainCall). effect x line.node c) h.stands.state h.call_is ∙ sym (ap (λ (r : RunState). r.state) leads)

  told_after : new.journal.lines ≡ joined (t.entries ++ entries)
  told_after =
      notes.told
      ∙ ap₂ (λ (ls : List Line) (e : PlainEntry). noted ls e) (h.told ∙ ap₂ (λ (ls : List Line) (ps : List (ℕ × List ℕ)). noted_all ls (map put_entry ps)) h.stands.told same_puts) (ap₂ (λ (k : ℕ) (a : PlainAnswer). called (k + 1) a) (h.number ∙ h.stands.number) same_answer)
      ∙ sym (noted-append (joined t.entries) (map put_entry (puts_of t.run.state (call_at t.run line))) (called (t.run.lines_called + 1) (answer t.run.state line.node (call_at t.run line)) ∷ []))
      ∙ sym (noted-append [] t.entries entries)

  number_after : new.number ≡ (entered_all s entries t).run.lines_called
  number_after = notes.number ∙ ap (λ (k : ℕ). k + 1) (h.number ∙ h.stands.number) ∙ sym (ap (λ (r : RunState). r.lines_called) leads)

  dropped_after : new.dropped ≡ sum_by (deleted_in sc) new.journal.lines
  dropped_after =
      let old = h.stands.dropped ∙ ap (sum_by (deleted_in sc)) h.stands.told in
      let more = call_deletes sc (puts_of t.run.state (call_at t.run line)) t.run.lines_called (answer t.run.state line.node (call_at t.run line)) line comes in
      let by = ap (dropped_by line.call) same_answer in
      omega (arith, notes.dropped, h.dropped, old, by, more, sum_more sc t.entries entries, ap (sum_by (deleted_in sc)) told_after)

  tells_ids : TellsId (label_in line) m.given st.ids new.ids
  tells_ids = subst (λ ids. (other : List ℕ) → id_for new.ids other ≡ option_or (id_for ids other) (told_for (label_in line) m.given other)) h.ids notes.ids

  same_call : call ≡ call_of t.run.labels st.domain.state line.call
  same_call = h.call_is ∙ ap (λ (x : DomainState). call_of t.run.labels x line.call) (sym h.stands.state)

  tells_packets : TellsId (lending_label t.run.labels st.domain.state line.call (label_in line)) m.lent st.packets new.packets
  tells_packets =
      let under = lending_label_by line.call (plain_answer m.answer) (label_in line) in
      lent_under t.run.labels st.domain.state line.node line.call (label_in line) (plain_answer m.answer) m.lent st.packets new.packets
      (h.does.answer ∙ ap (λ (c : DomainCall). answer st.domain.state line.node c) same_call)
      (ap (option_map (λ (i : PacketId). i.serial)) h.lends ∙ h.does.lends ∙ ap (λ (c : DomainCall). packet_given st.domain.state line.node c) same_call)
      (subst (λ ids. (other : List ℕ) → id_for new.packets other ≡ option_or (id_for ids other) (told_for under m.lent other)) h.packets notes.packets)

  labels_now : Labels
  labels_now = record {
    requests = with_label t.run.labels.requests (label_in line) (request_given st.domain.state line.node call);
    packets = with_label t.run.labels.packets (lending_label t.run.labels st.domain.state line.call (label_in line)) (packet_given st.domain.state line.node call);
  }

  labels_are : labels_now ≡ (entered_all s entries t).run.labels
  unfolding labels_now
  labels_are =
      ap₂ (λ (x : DomainState) (c : DomainCall). record { requests = with_label t.run.labels.requests (label_in line) (request_given x line.node c); packets = with_label t.run.labels.packets (lending_label t.run.labels x line.call (label_in line)) (packet_given x line.node c) }) h.stands.state h.call_is
      ∙ sym (ap (λ (r : RunState). r.labels) leads)

  held_now : HoldsLabels called_to.domain new.ids new.packets labels_now (t.run.lines_called + 1)
  unfolding labels_now
  held_now =
      let held = h.stands.held in
      let fits = few in
      record {
        requests = holds_after st.domain called_to.domain st.ids new.ids t.run.labels.requests t.run.lines_called line.node call (label_in line) m.given (omega (arith, fits, h.stands.number)) held.requests h.does.state h.does.ids h.does.fresh h.gives tells_ids;
        packets = packets_after st.domain called_to.domain st.packets new.packets t.run.labels.packets t.run.lines_called line.node call (lending_label t.run.labels st.domain.state line.call (label_in line)) m.lent (omega (arith, fits, h.stands.number)) held.packets h.does.state
            (h.does.packets ∙ ap (λ (o : Option PacketId). without (place_released st.domain.state line.node call) st.domain.packets ++ option_to_list o) (sym h.lends)) (ap (option_map (λ (i : PacketId). i.serial)) h.lends ∙ h.does.lends) tells_packets;
      }

  held_after : HoldsLabels new.domain new.ids new.packets (entered_all s entries t).run.labels (entered_all s entries t).run.lines_called
  held_after =
      let lines : t.run.lines_called + 1 ≡ (entered_all s entries t).run.lines_called = sym (ap (λ (r : RunState). r.lines_called) leads) in
      subst (λ d. HoldsLabels d new.ids new.packets (entered_all s entries t).run.labels (entered_all s entries t).run.lines_called) (sym notes.domain)
      (subst (λ n. HoldsLabels called_to.domain new.ids new.packets (entered_all s entries t).run.labels n) lines (subst (λ ls. HoldsLabels called_to.domain new.ids new.packets ls (t.run.lines_called + 1)) labels_are held_now))

  pub called_station : IsStation s (entered_all s entries t) new
  called_station = record {
    state = state_after;
    told = told_after;
    number = number_after;
    held = held_after;
    dropped = dropped_after;
    domain_number = notes.domain_number ∙ h.domain_number ∙ h.stands.domain_number;
    own = ap (λ (r : RunState). r.state.number) leads ∙ changes-keep (λ (y : DomainState). y.number) (λ y c. refl) t.run.state (call_changes t.run.state line.node (call_at t.run line)) ∙ h.stands.own;
    peers = ap peers_of notes.domain ∙ h.peers ∙ h.stands.peers;
    matched = subst (λ d. EndsMatch t.line.domain (peers_of d) d.ends) (sym notes.domain) (subst (λ n. EndsMatch n (peers_of called_to.domain) called_to.domain.ends) (ap (λ (x : DomainState). x.number) h.stands.state ∙ h.stands.own) h.matched);
  }

-- ---- a call that is made again

-- the call does nothing
pub record DoesNothing (s : DomainState) (node : ℕ) (call : DomainCall) : Type 0 where
  pub effect_is : effect s node call ≡ s
  pub puts_none : puts s node call ≡ []
  pub returns_none : returned s node call ≡ []
  pub gives_none : request_given s node call ≡ None
  pub ends_none : place_ended s node call ≡ None
  pub releases_none : place_released s node call ≡ None
  pub lends_none : packet_given s node call ≡ None

pub tried_word : (a : PlainAnswer) → is_tried a ≡ true → (word : Refusal) × (refuses word ≡ a)
tried_word (refuses word) e = (word, refl)
tried_word agrees e = absurd cc
tried_word (tells n) e = absurd cc
tried_word (connects request channel) e = absurd cc
tried_word (gives size bytes) e = absurd cc
tried_word (completes place how) e = absurd cc

-- so does one that is refused
pub refused_nothing : (s : DomainState) (node : ℕ) (word : Refusal) (call : DomainCall) → refuses word ≡ answer s node call → DoesNothing s node call
refused_nothing s node word call e =
    let is = refused-is s node word call e in
    record {
      effect_is = ap (λ (o : Option Refusal). changed_all s (unless_refused o [] (success_changes s node call))) is;
      puts_none = ap (λ (o : Option Refusal). unless_refused o [] (success_puts s node call)) is;
      returns_none = ap (λ (o : Option Refusal). unless_refused o [] (success_returned s node call)) is;
      gives_none = ap (λ (o : Option Refusal). unless_refused o None (success_request s call)) is;
      ends_none = ap (λ (o : Option Refusal). unless_refused o None (success_ends s call)) is;
      releases_none = ap (λ (o : Option Refusal). unless_refused o None (success_releases call)) is;
      lends_none = ap (λ (o : Option Refusal). unless_refused o None (success_packet s call)) is;
    }

-- and one whose word is one of those with which it is made again
pub tried_nothing : (s : DomainState) (node : ℕ) (call : DomainCall) → is_tried (answer s node call) ≡ true → DoesNothing s node call
tried_nothing s node call e = let tried = tried_word (answer s node call) e in refused_nothing s node tried.0 call tried.1

-- and so it leaves the lanes
pub nothing_given : (d : ℕ) (loads : List Load) → loads_given d [] loads ≡ loads
nothing_given d [] = refl
nothing_given d (l ∷ ls) = ap₂ (λ (x : Load) (xs : List Load). x ∷ xs) (one (l.receiver == d)) (nothing_given d ls)
  where
    one : (b : Bool) → cond b (with_returned 0 l) l ≡ l
    one true = let same : l.returned + 0 ≡ l.returned = omega arith in ap (λ (n : ℕ). record l { returned = n }) same
    one false = refl

module _ (s : Scenario) (t : run.Station) (line : CallLine) (st called_to new : Station) (m : Made) (call : DomainCall) (h : IsCall s t line st called_to m call) (notes : NotesAgain m called_to new) (tried : is_tried (plain_answer m.answer) ≡ true) where
  abbrev word : Refusal
  word = word_in (answer t.run.state line.node (call_at t.run line))

  nothing : DoesNothing st.domain.state line.node call
  nothing = tried_nothing st.domain.state line.node call (ap is_tried (sym h.does.answer) ∙ tried)

  none_given : (id : Option RequestId) → option_map (λ i. i.serial) id ≡ None → id ≡ None
  none_given None e = refl
  none_given (Some i) e = absurd cc

  same_state : new.domain.state ≡ st.domain.state
  same_state = ap (λ (d : RunDomain). d.state) notes.domain ∙ h.does.state ∙ nothing.effect_is

  same_ids : new.domain.ids ≡ st.domain.ids
  same_ids =
      ap (λ (d : RunDomain). d.ids) notes.domain ∙ h.does.ids
      ∙ ap₂ (λ (p : Option ℕ) (id : Option RequestId). without p st.domain.ids ++ option_to_list id) nothing.ends_none (none_given m.given (h.gives ∙ nothing.gives_none))
      ∙ append-nil st.domain.ids

  none_lent : (id : Option PacketId) → option_map (λ i. i.serial) id ≡ None → id ≡ None
  none_lent None e = refl
  none_lent (Some i) e = absurd cc

  same_packets : new.domain.packets ≡ st.domain.packets
  same_packets =
      ap (λ (d : RunDomain). d.packets) notes.domain ∙ h.does.packets
      ∙ ap₂ (λ (p : Option ℕ) (id : Option PacketId). without p st.domain.packets ++ option_to_list id) nothing.releases_none (none_lent h.does.lent (h.does.lends ∙ nothing.lends_none))
      ∙ append-nil st.domain.packets

  held_again : HoldsLabels new.domain new.ids new.packets t.run.labels t.run.lines_called
  held_again =
      let held = h.stands.held in
      record {
        requests = subst (λ ids. HoldsIds new.domain ids t.run.labels.requests t.run.lines_called) (sym (notes.ids ∙ h.ids)) (holds_same st.domain new.domain st.ids t.run.labels.requests t.run.lines_called held.requests same_state same_ids);
        packets = subst (λ ids. HoldsPackets new.domain ids t.run.labels.packets t.run.lines_called) (sym (notes.packets ∙ h.packets))
            (packets_stay st.domain new.domain st.packets t.run.labels.packets t.run.lines_called (ap (λ (x : DomainState). x.packets_lent) same_state) (ap (λ (x : DomainState). map (λ p. p.serial) x.lent) same_state) same_packets held.packets);
      }

  told_again : new.journal.lines ≡ joined (t.entries ++ again word ∷ [])
  told_again =
      notes.told
      ∙ ap₂ (λ (ls : List Line) (a : PlainAnswer). noted ls (again (word_in a)))
      (h.told ∙ ap₂ (λ (ls : List Line) (ps : List (ℕ × List ℕ)). noted_all ls (map put_entry ps)) h.stands.told nothing.puts_none)
      (h.does.answer ∙ ap₂ (λ (x : DomainState) (c : DomainCall). answer x line.node c) h.stands.state h.call_is)
      ∙ sym (noted-append [] t.entries (again word ∷ []))

  dropped_again : new.dropped ≡ sum_by (deleted_in (script s t.line.domain)) new.journal.lines
  dropped_again =
      let sc = script s t.line.domain in
      let old = h.stands.dropped ∙ ap (sum_by (deleted_in sc)) h.stands.told in
      omega (arith, notes.dropped, h.dropped, old, sum_more sc t.entries (again word ∷ []), sum_by-cons (deleted_by sc) (again word) [], sum_by-cons (deleted_in sc) (again_line word) [], ap (sum_by (deleted_in sc)) told_again)

  pub again_station : IsStation s (entered_all s (again word ∷ []) t) new
  again_station = record {
    state = same_state ∙ h.stands.state;
    told = told_again;
    number = notes.number ∙ h.number ∙ h.stands.number;
    held = held_again;
    dropped = dropped_again;
    domain_number = notes.domain_number ∙ h.domain_number ∙ h.stands.domain_number;
    own = h.stands.own;
    peers = ap peers_of notes.domain ∙ h.peers ∙ h.stands.peers;
    matched = subst (λ d. EndsMatch t.line.domain (peers_of d) d.ends) (sym notes.domain) (subst (λ n. EndsMatch n (peers_of called_to.domain) called_to.domain.ends) (ap (λ (x : DomainState). x.number) h.stands.state ∙ h.stands.own) h.matched);
  }

  -- nothing is put or given back
  pub again_loads : (loads : List Load) → loads_given st.domain.state.number (returned st.domain.state line.node call) (loads_with_puts st.domain.state.number (puts st.domain.state line.node call) loads) ≡ loads
  again_loads loads =
      ap₂ (λ (items : List Item) (ps : List (ℕ × List ℕ)). loads_given st.domain.state.number items (loads_with_puts st.domain.state.number ps loads)) nothing.returns_none nothing.puts_none
      ∙ nothing_given st.domain.state.number loads
