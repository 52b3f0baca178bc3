-- Waits of a board that runs serially: between two lines no station waits.
use Rattle.std.proofs.Common.{◌≡◌, ℕ, zero, suc, ◌+◌, Bool, true, false, cond, List, [], ◌∷◌, ◌++◌, map, find, Option, Some, None, option_map, refl, sym, ap, ◌∙◌, subst, inl, inr}
use Rattle.std.specs.Prelude.{◌==◌}
use Rattle.std.proofs.lemmas.Bool.Decides.{eqb_tells}
use Rattle.board_model.specs.declared.scenario.CallLine.{CallLine}
use Rattle.board_model.specs.declared.scenario.DomainLine.{DomainLine}
use Rattle.board_model.specs.declared.scenario.Scenario.{Scenario}
use Rattle.board_model.specs.Scenario.{script, rising}
use Rattle.board_model.specs.Journal.{PlainEntry, turned, again, waits, called, PlainAnswer}
use Rattle.board_model.specs.Answer.{answer, puts}
use Rattle.board_model.specs.CallChanges.{returned}
use Rattle.board_model.specs.Step.{RunState, call_at, after, next_line, is_done_now, one_turn_more, limit_of}
use Rattle.board_model.specs.Run.{after_all}
use Rattle.board_model.specs.Serial.{put_entry}
use Rattle.board_model.specs.Loads.{turn_of, loads_turned, loads_given}
use Rattle.board_model.specs.SerialRun.{Station, Running, is_station, opened_station, opened, with_entry, with_entries, turned_by, turned_once, all_turned, numbers, others, loads_with_puts, called_by, word_in, again_by, is_tried_at, after_turn_of, last_call, station_of, tried, more_calls, is_waiting_at, while_waiting, rounds, with_beginning, line_by, line_run}
use Rattle.board_model.proofs.WholeFinds.{find-mapped}
use Rattle.board_model.proofs.WholeStations.{station, station_after, entered_all}

-- the stations of these domains do not wait
abbrev pub Rest : (ℕ → Type 0) → Running → Type 0
Rest Of r = (n : ℕ) (t : Station) → Of n → station r n ≡ Some t → t.run.waited ≡ None

abbrev pub Each : ℕ → Type 0
Each n = Unit {0}

abbrev pub Other : ℕ → ℕ → Type 0
Other d n = n ≡ d → ⊥

pub others_rest : (d : ℕ) (r : Running) → Rest Each r → Rest (Other d) r
others_rest d r h = λ n t other e. h n t tt e

-- ---- entries

rest_entered : (Of New : ℕ → Type 0) (s : Scenario) (d : ℕ) (es : List PlainEntry) (r : Running) (t : Station) → station r d ≡ Some t → ((n : ℕ) → Other d n → New n → Of n) → Rest Of r → (New d → (after_all (script s t.line.domain) t.run es).waited ≡ None) → Rest New (with_entries s d es r)
rest_entered Of New s d es r t here kept h own = λ n u new e. elim (eqb_tells n d) [
  | inl same ↦
      let is_new : entered_all s es t ≡ u = some_station (sym (ap (λ b. cond b (Some (entered_all s es t)) (station r n)) same.0) ∙ sym (station_after s d es r t here n) ∙ e) in
      subst (λ (x : Station). x.run.waited ≡ None) is_new (own (subst New same.1 new))
  | inr differ ↦
      h n u (kept n differ.1 new) (sym (ap (λ b. cond b (Some (entered_all s es t)) (station r n)) differ.0) ∙ sym (station_after s d es r t here n) ∙ e)
]
  where
    some_station : {x y : Station} → ◌≡◌ {A = Option Station} (Some x) (Some y) → x ≡ y
    some_station e = cc

-- ---- turns

turned_rest : (Of : ℕ → Type 0) (s : Scenario) (r : Running) (d : ℕ) → Rest Of r → Rest Of (turned_once s r d)
turned_rest Of s r d h = go (station r d) refl
  where
    go : (o : Option Station) → station r d ≡ o → Rest Of (turned_by s d o r)
    go None e = h
    go (Some t) e =
        rest_entered Of Of s d (turned (turn_of t.run.state r.loads) ∷ []) (record r { loads = loads_turned t.run.state r.loads }) t e (λ n other of. of) h
        (λ of. ap (option_map (one_turn_more (is_done_now (next_line (script s t.line.domain) t.run) t.run))) (h d t of e))

all_turned_rest : (Of : ℕ → Type 0) (s : Scenario) (r : Running) (ds : List ℕ) → Rest Of r → Rest Of (all_turned s r ds)
all_turned_rest Of s r [] h = h
all_turned_rest Of s r (d ∷ ds) h = all_turned_rest Of s (turned_once s r d) ds (turned_rest Of s r d h)

-- ---- calls

again_rest : (s : Scenario) (line : CallLine) (t : Station) (r : Running) → station r line.domain ≡ Some t → Rest Each r → Rest Each (again_by s line t r)
again_rest s line t r here h =
    let word = word_in (answer t.run.state line.node (call_at t.run line)) in
    all_turned_rest Each s (with_entry s line.domain (again word) r) (others s line.domain)
    (rest_entered Each Each s line.domain (again word ∷ []) r t here (λ n other of. of) h (λ of. h line.domain t tt here))

ended : (ls : List CallLine) (r : RunState) (es : List PlainEntry) (k : ℕ) (a : PlainAnswer) → (after_all ls r (es ++ called k a ∷ [])).waited ≡ None
ended ls r [] k a = refl
ended ls r (e ∷ es) k a = ended ls (after ls r e) es k a

-- a call ends the wait of its domain
called_rest : (s : Scenario) (line : CallLine) (t : Station) (r : Running) → station r line.domain ≡ Some t → Rest (Other line.domain) r → Rest Each (called_by s line t r)
called_rest s line t r here h =
    let ps = puts t.run.state line.node (call_at t.run line) in
    let a = answer t.run.state line.node (call_at t.run line) in
    rest_entered (Other line.domain) Each s line.domain (map put_entry ps ++ called (t.run.lines_called + 1) a ∷ [])
    (record r { loads = loads_given line.domain (returned t.run.state line.node (call_at t.run line)) (loads_with_puts line.domain ps r.loads) }) t here (λ n other of. other) h
    (λ of. ended (script s t.line.domain) t.run (map put_entry ps) (t.run.lines_called + 1) a)

last_rest : (s : Scenario) (line : CallLine) (r : Running) → Rest (Other line.domain) r → Rest Each (last_call s line (station_of line r) r)
last_rest s line r h = go (station_of line r) refl
  where
    none_some : {t : Station} → ◌≡◌ {A = Option Station} (Some t) None → ⊥
    none_some e = cc

    go : (o : Option Station) → station_of line r ≡ o → Rest Each (last_call s line o r)
    go None e = λ n t of here. h n t (λ same. none_some (sym here ∙ ap (station r) same ∙ e)) here
    go (Some t) e = called_rest s line t r e h

tried_rest : (s : Scenario) (line : CallLine) (more : ℕ) (r : Running) → Rest Each r → Rest Each (tried s line more r)
tried_rest s line zero r h =
    let q = turned_once s r line.domain in
    last_rest s line q (others_rest line.domain q (turned_rest Each s r line.domain h))
tried_rest s line (suc more) r h = go (station_of line q) refl (λ b rests. tried_rest s line more b rests)
  where
    q : Running
    q = turned_once s r line.domain

    rests : Rest Each q
    rests = turned_rest Each s r line.domain h

    by : (t : Station) (b : Bool) → station_of line q ≡ Some t → ((b : Running) → Rest Each b → Rest Each (tried s line more b)) → Rest Each (cond b (tried s line more (again_by s line t q)) (called_by s line t q))
    by t true e later = later (again_by s line t q) (again_rest s line t q e rests)
    by t false e later = called_rest s line t q e (others_rest line.domain q rests)

    go : (o : Option Station) → station_of line q ≡ o → ((b : Running) → Rest Each b → Rest Each (tried s line more b)) → Rest Each (after_turn_of s line o (tried s line more) q)
    go None e later = rests
    go (Some t) e later = by t (is_tried_at line t) e later

-- ---- waits

while_rest : (s : Scenario) (line : CallLine) (next : Running → Running) (r : Running) → Rest (Other line.domain) r → Rest Each (next r) → Rest Each (while_waiting s line next r)
while_rest s line next r h later = go (is_waiting_at line (station_of line r))
  where
    go : (b : Bool) → Rest Each (cond b (next r) (last_call s line (station_of line r) r))
    go true = later
    go false = last_rest s line r h

rounds_rest : (s : Scenario) (line : CallLine) (more : ℕ) (r : Running) → Rest (Other line.domain) r → Rest Each (rounds s line more r)
rounds_rest s line zero r h = last_rest s line r h
rounds_rest s line (suc more) r h =
    let q = all_turned s r (numbers s) in
    let rests = all_turned_rest (Other line.domain) s r (numbers s) h in
    while_rest s line (rounds s line more) q rests (rounds_rest s line more q rests)

beginning_rests : (s : Scenario) (line : CallLine) (r : Running) → Rest (Other line.domain) r → Rest (Other line.domain) (with_beginning s line (station_of line r) r)
beginning_rests s line r h = go (station_of line r) refl
  where
    go : (o : Option Station) → station_of line r ≡ o → Rest (Other line.domain) (with_beginning s line o r)
    go None e = h
    go (Some t) e = rest_entered (Other line.domain) (Other line.domain) s line.domain (waits (t.run.lines_called + 1) ∷ []) r t e (λ n other of. of) h (λ of. absurd (of refl))

-- ---- lines

line_rests : (s : Scenario) (line : CallLine) (o : Option ℕ) (r : Running) → Rest Each r → Rest Each (line_by s line o r)
line_rests s line None r h = tried_rest s line (more_calls line.tries) r h
line_rests s line (Some limit) r h =
    let rests = others_rest line.domain r h in
    while_rest s line (λ b. rounds s line limit (with_beginning s line (station_of line b) b)) r rests
    (rounds_rest s line limit (with_beginning s line (station_of line r) r) (beginning_rests s line r rests))

pub run_rests : (s : Scenario) (line : CallLine) (r : Running) → Rest Each r → Rest Each (line_run s r line)
run_rests s line r h = line_rests s line (limit_of line.call) r h

pub opened_rests : (s : Scenario) → Rest Each (opened s)
opened_rests s = λ n t of e. go (find (λ (l : DomainLine). l.domain == n) (rising s)) t (sym (find-mapped (is_station n) (opened_station s) (rising s)) ∙ e)
  where
    go : (o : Option DomainLine) (t : Station) → option_map (opened_station s) o ≡ Some t → t.run.waited ≡ None
    go None t e = absurd cc
    go (Some d) t e = subst (λ (x : Station). x.run.waited ≡ None) (some_station e) refl
      where
        some_station : {x y : Station} → ◌≡◌ {A = Option Station} (Some x) (Some y) → x ≡ y
        some_station e = cc
