-- Runs: the deeds that the journal of a run tells of are a run of deeds, which leaves the same state but for the names of frames, and
-- puts and takes the same frames.
use Rattle.std.proofs.Common.{◌≡◌, ℕ, ◌+◌, List, [], ◌∷◌, ◌++◌, map, length, Option, Some, None, refl, sym, ap, ap₂, ◌∙◌, subst, length-append}
use Rattle.std.specs.Prelude.{option_map, ◌==◌, IsSome}
use Rattle.std.specs.List.{AllByRecursion, flat_map}
use Rattle.std.proofs.lemmas.List.{append_assoc, append-nil, map-append}
use Rattle.std.proofs.lemmas.Simd.{map-map}
use Rattle.std.proofs.lemmas.List.Concat.{flat_map-append}
use Rattle.board_model.specs.declared.scenario.CallLine.{CallLine}
use Rattle.board_model.specs.declared.scenario.DomainLine.{DomainLine}
use Rattle.board_model.specs.declared.scenario.Scenario.{Scenario}
use Rattle.board_model.specs.Scenario.{script, neighbours}
use Rattle.board_model.specs.LinkedBoard.{Differ, IsLinkedBoard}
use Rattle.board_model.specs.Journal.{PlainEntry, turned, put, again, waits, called, PlainAnswer, refuses, Visit}
use Rattle.board_model.specs.State.{DomainState, new_peer}
use Rattle.board_model.specs.Answer.{answer, unless_refused, success_puts, puts}
use Rattle.board_model.specs.Change.{changed_all}
use Rattle.board_model.specs.CallChanges.{success_changes, effect}
use Rattle.board_model.specs.Turn.{AreVisits, after_turn}
use Rattle.board_model.specs.Step.{RunState, HasNoPuts, next_line, call_at, limit_of, MayCome, Allowed, effect_of_line, after}
use Rattle.board_model.specs.Run as runs
use Rattle.board_model.specs.Run.{start, after_all, left_by, IsDomainRun}
use Rattle.board_model.specs.Traffic.{puts_in, takes_in, put_to, takes_from, taken_from}
use Rattle.board_model.specs.Board.{DomainJournal}
use Rattle.board_model.specs.Deeds.{Deed, calls, after_deeds, along}
use Rattle.board_model.specs.JournalDeeds.{named_deeds, call_deeds, entry_deeds, deeds_along, deeds_of, opened, left_in}
use Rattle.board_model.specs.Unnamed.{no_names, unnamed}
use Rattle.board_model.proofs.DeedRuns.{count_taken, AreNamed, IsDeedRun, frames_if, frames_to, puts_by, takes_by}
use Rattle.board_model.proofs.WaitCalls.{wait-puts}
use Rattle.board_model.proofs.PlaceBoards.{neighbours_differ}
use Rattle.board_model.proofs.StateEnds.{numbers_in}
use Rattle.board_model.proofs.DeedJoins.{deeds-numbers, along-join}
use Rattle.board_model.proofs.UnnamedDeeds.{deed-unnamed, Leads, leads-join, turn-leads}
use Rattle.board_model.proofs.DeedTraffic.{entry-take, run-takes, count-join, count-takes, named-join, turn-named, turn-put}
use Rattle.board_model.proofs.RefusedCalls.{refused-is}
use Rattle.board_model.proofs.RenamedCalls.{answer-renamed, puts-renamed}

-- ---- an entry

-- each entry is allowed where it comes
abbrev pub AllAllowed : List CallLine → RunState → List PlainEntry → Type 0
AllAllowed lines r [] = Unit {0}
AllAllowed lines r (e ∷ es) = Allowed lines r e × AllAllowed lines (after lines r e) es

pub allowed-all : (lines : List CallLine) (r to : RunState) (es : List PlainEntry) → runs.Leads lines r es to → AllAllowed lines r es
allowed-all lines r to [] leads = tt
allowed-all lines r to (e ∷ es) leads =
    (leads.1.allowed, allowed-all lines (after lines r e) to es (subst (λ (n : RunState). runs.Leads lines n es to) leads.1.leads leads.2))

module _ (lines : List CallLine) (before : List PlainEntry) (r : RunState) (t : DomainState) (same : r.state ≡ unnamed t) where
  call_leads : (line : CallLine) (a : PlainAnswer) → a ≡ answer r.state line.node (call_at r line) → Leads t (call_deeds (Some line) r a) (effect (unnamed t) line.node (call_at r line))
  call_leads line a told = record {
    may = (told ∙ (ap (λ s. answer s line.node (call_at r line)) same ∙ answer-renamed no_names t line.node (call_at r line)), tt);
    leads = deed-unnamed t (calls line.node (call_at r line) a);
  }

  entry_leads : (e : PlainEntry) → Allowed lines r e → Leads t (entry_deeds lines before r e) (after lines r e).state
  entry_leads (turned vs) allowed =
      subst (λ s. Leads t (flat_map (named_deeds before) vs) (after_turn s vs)) (sym same) (turn-leads before vs t (subst (λ s. AreVisits s vs) same allowed.1.allowed))
  entry_leads (put q frame) allowed = record { may = tt; leads = sym same }
  entry_leads (again word) allowed =
      let line : CallLine = allowed.0 in
      let told : refuses word ≡ answer (unnamed t) line.node (call_at r line) = allowed.2 ∙ ap (λ s. answer s line.node (call_at r line)) same in
      let stays : effect (unnamed t) line.node (call_at r line) ≡ unnamed t = ap (λ o. changed_all (unnamed t) (unless_refused o [] (success_changes (unnamed t) line.node (call_at r line)))) (refused-is (unnamed t) line.node word (call_at r line) told) in
      subst (λ o. Leads t (call_deeds o r (refuses word)) r.state) (sym allowed.1)
      (subst (λ s. Leads t (call_deeds (Some line) r (refuses word)) s) (stays ∙ sym same) (call_leads line (refuses word) allowed.2))
  entry_leads (waits k) allowed = record { may = tt; leads = sym same }
  entry_leads (called k a) allowed =
      let line : CallLine = allowed.0 in
      subst (λ o. Leads t (call_deeds o r a) (effect_of_line o r)) (sym allowed.1)
      (subst (λ s. Leads t (call_deeds (Some line) r a) (effect s line.node (call_at r line))) (sym same) (call_leads line a allowed.3))

  call_named : (bd : List Deed) (o : Option CallLine) (a : PlainAnswer) → AreNamed bd (call_deeds o r a)
  call_named bd None a = tt
  call_named bd (Some line) a = (tt, tt)

  -- frames are counted as they are taken
  entry_named : Differ (numbers_in t.peers) → (bd : List Deed) → ((p : ℕ) → length (taken_from p before) ≡ count_taken p bd) → (e : PlainEntry) → Allowed lines r e → AreNamed bd (entry_deeds lines before r e)
  entry_named differ bd counts (turned vs) allowed =
      turn-named before vs bd (subst Differ (sym (allowed.1.each_peer ∙ ap (λ (s : DomainState). numbers_in s.peers) same)) differ) (all_counted vs)
    where
      all_counted : (ws : List Visit) → AllByRecursion (λ v. length (taken_from v.peer before) ≡ count_taken v.peer bd) ws
      all_counted [] = tt
      all_counted (w ∷ ws) = (counts w.peer, all_counted ws)
  entry_named differ bd counts (put q frame) allowed = tt
  entry_named differ bd counts (again word) allowed = call_named bd (next_line lines r) (refuses word)
  entry_named differ bd counts (waits k) allowed = tt
  entry_named differ bd counts (called k a) allowed = call_named bd (next_line lines r) a

-- ---- a run

module _ (lines : List CallLine) where
  pub left-leads : (before : List PlainEntry) (r : RunState) (t : DomainState) (e : PlainEntry) → r.state ≡ unnamed t → Allowed lines r e → (after lines r e).state ≡ unnamed (after_deeds t (entry_deeds lines before r e))
  left-leads before r t e same allowed = sym (entry_leads lines before r t same e allowed).leads

  pub run-leads : (before : List PlainEntry) (r : RunState) (t : DomainState) (es : List PlainEntry) → r.state ≡ unnamed t → AllAllowed lines r es → Leads t (deeds_along lines before r es) (after_all lines r es).state
  run-leads before r t [] same allowed = record { may = tt; leads = sym same }
  run-leads before r t (e ∷ es) same allowed =
      let ds : List Deed = entry_deeds lines before r e in
      leads-join t ds (deeds_along lines (before ++ e ∷ []) (after lines r e) es) (after lines r e).state (after_all lines (after lines r e) es).state
      (entry_leads lines before r t same e allowed.0)
      (run-leads (before ++ e ∷ []) (after lines r e) (after_deeds t ds) es (left-leads before r t e same allowed.0) allowed.1)

  counted : (p : ℕ) (before : List PlainEntry) (bd : List Deed) (r : RunState) (e : PlainEntry) → length (taken_from p before) ≡ count_taken p bd → length (taken_from p (before ++ e ∷ [])) ≡ count_taken p (bd ++ entry_deeds lines before r e)
  counted p before bd r e same =
      let more : taken_from p (before ++ e ∷ []) ≡ taken_from p before ++ map (λ t. t.frame) (takes_in p e) =
      ap (map (λ t. t.frame)) (flat_map-append (takes_in p) before (e ∷ []) ∙ ap (λ ts. takes_from p before ++ ts) (append-nil (takes_in p e))) ∙ map-append (λ t. t.frame) (takes_from p before) (takes_in p e) in
      ap length more
      ∙ (length-append (taken_from p before) (map (λ t. t.frame) (takes_in p e))
      ∙ (ap₂ (λ a b. a + b) same (ap length (sym (entry-take p lines before r e)) ∙ sym (count-takes p (entry_deeds lines before r e)))
      ∙ sym (count-join p bd (entry_deeds lines before r e))))

  pub run-named : (before : List PlainEntry) (bd : List Deed) (r : RunState) (t : DomainState) (es : List PlainEntry) → r.state ≡ unnamed t → Differ (numbers_in t.peers) → ((p : ℕ) → length (taken_from p before) ≡ count_taken p bd) → AllAllowed lines r es → AreNamed bd (deeds_along lines before r es)
  run-named before bd r t [] same differ counts allowed = tt
  run-named before bd r t (e ∷ es) same differ counts allowed =
      let ds : List Deed = entry_deeds lines before r e in
      named-join bd ds (deeds_along lines (before ++ e ∷ []) (after lines r e) es) (entry_named lines before r t same differ bd counts e allowed.0)
      (run-named (before ++ e ∷ []) (bd ++ ds) (after lines r e) (after_deeds t ds) es (left-leads before r t e same allowed.0) (subst Differ (sym (deeds-numbers t ds)) differ) (λ p. counted p before bd r e (counts p)) allowed.1)

-- ---- the frames that are put

-- those that no call has answered for yet
abbrev pub pending : ℕ → Option (List (ℕ × List ℕ)) → List (List ℕ)
pending p None = []
pending p (Some ps) = frames_to p ps

none_pending : (p : ℕ) (o : Option (List (ℕ × List ℕ))) → HasNoPuts o → pending p o ≡ []
none_pending p None none = refl
none_pending p (Some ps) none = ap (frames_to p) none

one_more : (p q : ℕ) (frame : List ℕ) (o : Option (List (ℕ × List ℕ))) → IsSome o → pending p (option_map (λ ps. ps ++ (q, frame) ∷ []) o) ≡ pending p o ++ puts_in p (put q frame)
one_more p q frame None some = absurd cc
one_more p q frame (Some ps) some =
    flat_map-append (λ (x : ℕ × List ℕ). frames_if (x.0 == p) (x.1 ∷ [])) ps ((q, frame) ∷ []) ∙ ap (λ x. frames_to p ps ++ x) (append-nil (frames_if (q == p) (frame ∷ [])))

-- a call comes with the frames that it puts
came_with : (p : ℕ) (line : CallLine) (r : RunState) (limit : Option ℕ) → limit_of line.call ≡ limit → MayCome limit r line → pending p r.put_since_turn ≡ frames_to p (puts r.state line.node (call_at r line))
came_with p line r None is come = ap (pending p) come
came_with p line r (Some limit) is come = none_pending p r.put_since_turn come.0 ∙ ap (frames_to p) (sym (wait-puts r line limit is))

module _ (lines : List CallLine) (p : ℕ) where
  -- the frames of an entry are those of its deeds, and of the call that is to come
  entry_puts : (before : List PlainEntry) (r : RunState) (t : DomainState) (e : PlainEntry) → r.state ≡ unnamed t → Allowed lines r e →
      pending p r.put_since_turn ++ puts_in p e ≡ along (puts_by p) t (entry_deeds lines before r e) ++ pending p (after lines r e).put_since_turn
  entry_puts before r t (turned vs) same allowed =
      ap (λ x. x ++ puts_in p (turned vs)) (none_pending p r.put_since_turn allowed.0)
      ∙ (sym (turn-put p before vs t) ∙ sym (append-nil (along (puts_by p) t (flat_map (named_deeds before) vs))))
  entry_puts before r t (put q frame) same allowed = sym (one_more p q frame r.put_since_turn allowed)
  entry_puts before r t (again word) same allowed =
      let line : CallLine = allowed.0 in
      let told : refuses word ≡ answer t line.node (call_at r line) = allowed.2 ∙ (ap (λ s. answer s line.node (call_at r line)) same ∙ answer-renamed no_names t line.node (call_at r line)) in
      let silent : frames_to p (puts t line.node (call_at r line)) ≡ [] = ap (λ o. frames_to p (unless_refused o [] (success_puts t line.node (call_at r line)))) (refused-is t line.node word (call_at r line) told) in
      ap (λ o. pending p o ++ []) allowed.3
      ∙ (ap (λ x. (x ++ []) ++ []) (sym silent)
      ∙ ap (λ o. along (puts_by p) t (call_deeds o r (refuses word)) ++ []) (sym allowed.1))
  entry_puts before r t (waits k) same allowed = append-nil (pending p r.put_since_turn)
  entry_puts before r t (called k a) same allowed =
      let line : CallLine = allowed.0 in
      let put_so : puts r.state line.node (call_at r line) ≡ puts t line.node (call_at r line) = ap (λ s. puts s line.node (call_at r line)) same ∙ puts-renamed no_names t line.node (call_at r line) in
      ap (λ xs. xs ++ []) (came_with p line r (limit_of line.call) refl allowed.4)
      ∙ (ap (λ x. frames_to p x ++ []) put_so
      ∙ (sym (append-nil (frames_to p (puts t line.node (call_at r line)) ++ []))
      ∙ ap (λ o. along (puts_by p) t (call_deeds o r a) ++ []) (sym allowed.1)))

  pub run-puts : (before : List PlainEntry) (r : RunState) (t : DomainState) (es : List PlainEntry) → r.state ≡ unnamed t → AllAllowed lines r es →
      pending p r.put_since_turn ++ put_to p es ≡ along (puts_by p) t (deeds_along lines before r es) ++ pending p (after_all lines r es).put_since_turn
  run-puts before r t [] same allowed = append-nil (pending p r.put_since_turn)
  run-puts before r t (e ∷ es) same allowed =
      let ds : List Deed = entry_deeds lines before r e in
      let next : RunState = after lines r e in
      let rest : List Deed = deeds_along lines (before ++ e ∷ []) (after lines r e) es in
      sym (append_assoc (pending p r.put_since_turn) (puts_in p e) (put_to p es))
      ∙ (ap (λ x. x ++ put_to p es) (entry_puts before r t e same allowed.0)
      ∙ (append_assoc (along (puts_by p) t ds) (pending p (after lines r e).put_since_turn) (put_to p es)
      ∙ (ap (λ x. along (puts_by p) t ds ++ x) (run-puts (before ++ e ∷ []) (after lines r e) (after_deeds t ds) es (left-leads lines before r t e same allowed.0) allowed.1)
      ∙ (sym (append_assoc (along (puts_by p) t ds) (along (puts_by p) (after_deeds t ds) rest) (pending p (after_all lines (after lines r e) es).put_since_turn))
      ∙ ap (λ x. x ++ pending p (after_all lines (after lines r e) es).put_since_turn) (sym (along-join (puts_by p) t ds rest))))))

-- ---- the run of a domain

numbers_at_first : (s : Scenario) (d : DomainLine) → numbers_in (map new_peer (neighbours s d)) ≡ map (λ n. n.number) (neighbours s d)
numbers_at_first s d = map-map (λ p. p.number) new_peer (neighbours s d)

-- the peers at the opening have numbers of their own
pub opened-differ : (s : Scenario) (j : DomainJournal) → IsLinkedBoard s → Differ (numbers_in (opened s j).peers)
opened-differ s j board = subst Differ (sym (numbers_at_first s j.line)) (neighbours_differ s board j.line)

module _ (s : Scenario) (j : DomainJournal) (board : IsLinkedBoard s) (run : IsDomainRun s j.line j.entries) where
  allowed : AllAllowed (script s j.line.domain) (start s j.line) j.entries
  allowed = allowed-all (script s j.line.domain) (start s j.line) (left_by s j.line j.entries) j.entries run.steps

  leads : Leads (opened s j) (deeds_of s j) (left_by s j.line j.entries).state
  leads = run-leads (script s j.line.domain) [] (start s j.line) (opened s j) j.entries refl allowed

  pub deeds_run : IsDeedRun (opened s j) (deeds_of s j)
  deeds_run = record { may = leads.may; named = run-named (script s j.line.domain) [] [] (start s j.line) (opened s j) j.entries refl (opened-differ s j board) (λ p. refl) allowed }

  pub state_is : (left_by s j.line j.entries).state ≡ unnamed (left_in s j)
  state_is = sym leads.leads

  pub puts_are : (peer : ℕ) → put_to peer j.entries ≡ along (puts_by peer) (opened s j) (deeds_of s j)
  puts_are peer =
      run-puts (script s j.line.domain) peer [] (start s j.line) (opened s j) j.entries refl allowed
      ∙ (ap (λ x. along (puts_by peer) (opened s j) (deeds_of s j) ++ x) (none_pending peer (left_by s j.line j.entries).put_since_turn run.settled)
      ∙ append-nil (along (puts_by peer) (opened s j) (deeds_of s j)))

  pub takes_are : (peer : ℕ) → taken_from peer j.entries ≡ flat_map (takes_by peer) (deeds_of s j)
  takes_are peer = sym (run-takes peer (script s j.line.domain) [] (start s j.line) j.entries)
