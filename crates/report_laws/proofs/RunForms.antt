-- The entries of a run have the form of a journal, its turns take the first frames that they see, and its puts go to peers.
use Rattle.std.proofs.Common.{◌≡◌, ℕ, suc, ◌+◌, Bool, true, false, cond, min, List, [], ◌∷◌, ◌++◌, length, map, Option, Some, None, option_map, refl, sym, ap, ◌∙◌, subst, arith}
use Rattle.std.specs.Prelude.{find, is_some, IsSome, ◌==◌, ◌||◌}
use Rattle.std.specs.List.{AllByRecursion}
use Rattle.std.proofs.lemmas.List.{length_push}
use Rattle.mc_base.specs.Limits.{turn_limit}
use Rattle.board_model.specs.declared.scenario.CallLine.{CallLine}
use Rattle.board_model.specs.declared.scenario.DomainLine.{DomainLine}
use Rattle.board_model.specs.declared.scenario.Scenario.{Scenario}
use Rattle.board_model.specs.Scenario.{Neighbour, script, neighbours}
use Rattle.board_model.specs.State.{DomainState, Peer, new_peer, is_numbered}
use Rattle.board_model.specs.Answer.{puts}
use Rattle.board_model.specs.Journal.{Visit, PlainEntry, turned, put, again, waits, called}
use Rattle.board_model.specs.JournalForm.{IsFrom}
use Rattle.board_model.specs.Unjoined.{line_numbered, puts_of, peers_of}
use Rattle.board_model.specs.Turn.{nameless, visit_deeds, after_visit, AreVisits, after_turn}
use Rattle.board_model.specs.Step.{RunState, HasNoPuts, Allowed, next_line, call_at, limit_of, MayCome, effect_of_line, after}
use Rattle.board_model.specs.Run.{start, Leads, left_by, IsDomainRun}
use Rattle.board_model.proofs.DeedJoins.{deeds-numbers}
use Rattle.board_model.proofs.MessageAlls.{all-parts, all-weaken}
use Rattle.board_model.proofs.MessageCanSend.{HasPeer, puts-found}
use Rattle.board_model.proofs.StateEnds.{numbers_in}
use Rattle.board_model.proofs.WaitCalls.{wait-puts}
use Rattle.board_model.proofs.WholePeers.{call_numbers}
use Rattle.report_text.specs.TurnOrder.{is_peer}
use Rattle.report_laws.proofs.CallPuts.{puts-many}

-- ---- what is asked of an entry besides its form

abbrev pub TakesFirst : Visit → Type 0
TakesFirst v = length v.takes ≡ min turn_limit v.see

abbrev pub GoToPeers : List ℕ → List (ℕ × List ℕ) → Type 0
GoToPeers peers ps = AllByRecursion (λ p. is_peer peers p.0 ≡ true) ps

abbrev pub EntryFits : List ℕ → PlainEntry → Type 0
EntryFits peers (turned vs) = AllByRecursion TakesFirst vs
EntryFits peers (put p frame) = is_peer peers p ≡ true
EntryFits peers other = Unit {0}

-- the entries from one on, where these frames were put since the turn and wait for their call
pub record Ahead (peers : List ℕ) (lines : List CallLine) (ps : List (ℕ × List ℕ)) (es : List PlainEntry) : Type 0 where
  pub form : IsFrom peers lines (length ps) es
  pub fit : AllByRecursion (EntryFits peers) es
  pub there : GoToPeers peers ps

-- ---- the peers of a domain stay the same

turn-numbers : (s : DomainState) (vs : List Visit) → numbers_in (after_turn s vs).peers ≡ numbers_in s.peers
turn-numbers s [] = refl
turn-numbers s (v ∷ vs) = turn-numbers (after_visit s v) vs ∙ deeds-numbers s (visit_deeds nameless v)

after-numbers : (lines : List CallLine) (r : RunState) (e : PlainEntry) → numbers_in (after lines r e).state.peers ≡ numbers_in r.state.peers
after-numbers lines r (turned vs) = turn-numbers r.state vs
after-numbers lines r (put p frame) = refl
after-numbers lines r (again word) = refl
after-numbers lines r (waits k) = refl
after-numbers lines r (called k a) = go (next_line lines r)
  where
    go : (o : Option CallLine) → numbers_in (effect_of_line o r).peers ≡ numbers_in r.state.peers
    go None = refl
    go (Some line) = call_numbers r.state line.node (call_at r line)

opening-numbers : (ns : List Neighbour) → numbers_in (map new_peer ns) ≡ map (λ n. n.number) ns
opening-numbers [] = refl
opening-numbers (n ∷ ns) = ap (λ ms. n.number ∷ ms) (opening-numbers ns)

-- a peer that is found is one of them
peer-there : (n : ℕ) (ps : List Peer) → is_some (find (is_numbered n) ps) ≡ true → is_peer (numbers_in ps) n ≡ true
peer-there n [] found = absurd cc
peer-there n (p ∷ ps) found = go (p.number == n) found (peer-there n ps)
  where
    go : (b : Bool) → is_some (cond b (Some p) (find (is_numbered n) ps)) ≡ true → (is_some (find (is_numbered n) ps) ≡ true → is_peer (numbers_in ps) n ≡ true) → (b || is_peer (numbers_in ps) n) ≡ true
    go true found later = refl
    go false found later = later found

puts-there : (peers : List ℕ) (s : DomainState) (ps : List (ℕ × List ℕ)) → numbers_in s.peers ≡ peers → AllByRecursion (HasPeer s) ps → GoToPeers peers ps
puts-there peers s ps same all = all-weaken (HasPeer s) (λ p. is_peer peers p.0 ≡ true) (λ p found. ap (λ ns. is_peer ns p.0) (sym same) ∙ peer-there p.0 s.peers found) ps all

-- ---- steps

takes-first : (s : DomainState) (vs : List Visit) → AreVisits s vs → AllByRecursion TakesFirst vs
takes-first s [] are = tt
takes-first s (v ∷ vs) are = (are.0.takes_first, takes-first (after_visit s v) vs are.1)

abbrev waiting : Option (List (ℕ × List ℕ)) → List (ℕ × List ℕ)
waiting None = []
waiting (Some ps) = ps

none-waiting : (o : Option (List (ℕ × List ℕ))) → HasNoPuts o → waiting o ≡ []
none-waiting None settled = refl
none-waiting (Some ps) settled = settled

-- a call comes with the frames that it puts
came-with : (r : RunState) (line : CallLine) (limit : Option ℕ) → limit_of line.call ≡ limit → MayCome limit r line → waiting r.put_since_turn ≡ puts r.state line.node (call_at r line)
came-with r line None is come = ap waiting come
came-with r line (Some limit) is come = none-waiting r.put_since_turn come.0 ∙ sym (wait-puts r line limit is)

module _ (peers : List ℕ) (lines : List CallLine) where
  -- an entry before which no frame waits
  settled-before : (ps : List (ℕ × List ℕ)) (e : PlainEntry) (es : List PlainEntry) → ps ≡ [] → Ahead peers lines [] (e ∷ es) → Ahead peers lines ps (e ∷ es)
  settled-before ps e es none h = subst (λ qs. Ahead peers lines qs (e ∷ es)) (sym none) h

  put-before : (o : Option (List (ℕ × List ℕ))) (p : ℕ) (frame : List ℕ) (es : List PlainEntry) → IsSome o → Ahead peers lines (waiting (option_map (λ ps. ps ++ (p, frame) ∷ []) o)) es → Ahead peers lines (waiting o) (put p frame ∷ es)
  put-before None p frame es some h = absurd cc
  put-before (Some ps) p frame es some h =
      let parts = all-parts (λ q. is_peer peers q.0 ≡ true) ps ((p, frame) ∷ []) h.there in
      record { form = subst (λ n. IsFrom peers lines n es) (length_push ps (p, frame)) h.form; fit = (parts.1.0, h.fit); there = parts.0 }

  numbered : (r : RunState) (k : ℕ) → k ≡ r.lines_called + 1 → line_numbered lines k ≡ next_line lines r
  numbered r k is = ap (line_numbered lines) (is ∙ one_more r.lines_called)
    where
      one_more : (n : ℕ) → n + 1 ≡ suc n
      one_more n = omega arith

  one-before : (r : RunState) (e : PlainEntry) (es : List PlainEntry) → numbers_in r.state.peers ≡ peers → Allowed lines r e → Ahead peers lines (waiting (after lines r e).put_since_turn) es → Ahead peers lines (waiting r.put_since_turn) (e ∷ es)
  one-before r (turned vs) es same allowed h =
      settled-before (waiting r.put_since_turn) (turned vs) es (none-waiting r.put_since_turn allowed.0) (record { form = (refl, allowed.1.each_peer ∙ same, h.form); fit = (takes-first r.state vs allowed.1.allowed, h.fit); there = tt })
  one-before r (put p frame) es same allowed h = put-before r.put_since_turn p frame es allowed h
  one-before r (again word) es same allowed h = settled-before (waiting r.put_since_turn) (again word) es (ap waiting allowed.3) (record { form = (refl, h.form); fit = (tt, h.fit); there = tt })
  one-before r (waits k) es same allowed h =
      let none = none-waiting r.put_since_turn allowed.5 in
      let rest = subst (λ qs. Ahead peers lines qs es) none h in
      settled-before (waiting r.put_since_turn) (waits k) es none (record { form = (refl, rest.form); fit = (tt, rest.fit); there = tt })
  one-before r (called k a) es same allowed h =
      let line : CallLine = allowed.0 in
      let ps : List (ℕ × List ℕ) = puts r.state line.node (call_at r line) in
      let came = came-with r line (limit_of line.call) refl allowed.4 in
      let many = ap length came ∙ puts-many r.labels r.state line.node line.call a allowed.3 ∙ sym (ap (λ o. puts_of o a) (numbered r k allowed.2 ∙ allowed.1)) in
      record { form = (many, h.form); fit = (tt, h.fit); there = subst (GoToPeers peers) (sym came) (puts-there peers r.state ps same (puts-found r.state line.node (call_at r line))) }

  run-ahead : (r new : RunState) (es : List PlainEntry) → numbers_in r.state.peers ≡ peers → Leads lines r es new → HasNoPuts new.put_since_turn → Ahead peers lines (waiting r.put_since_turn) es
  run-ahead r new [] same leads settled =
      let none : waiting r.put_since_turn ≡ [] = ap (λ (x : RunState). waiting x.put_since_turn) (sym leads) ∙ none-waiting new.put_since_turn settled in
      subst (λ qs. Ahead peers lines qs []) (sym none) (record { form = refl; fit = tt; there = tt })
  run-ahead r new (e ∷ es) same leads settled =
      let rest : Leads lines (after lines r e) es new = subst (λ x. Leads lines x es new) leads.1.leads leads.2 in
      one-before r e es same leads.1.allowed (run-ahead (after lines r e) new es (after-numbers lines r e ∙ same) rest settled)

pub domain-run : (s : Scenario) (d : DomainLine) (es : List PlainEntry) → IsDomainRun s d es → Ahead (peers_of s d) (script s d.domain) [] es
domain-run s d es run = run-ahead (peers_of s d) (script s d.domain) (start s d) (left_by s d es) es (opening-numbers (neighbours s d)) run.steps run.settled
