-- A board that runs serially goes on through turns, calls that are made again, and last calls.
use Rattle.std.proofs.Common.{◌≡◌, ℕ, ◌+◌, Bool, true, false, ◌&&◌, cond, List, [], ◌∷◌, ◌++◌, length, sum, Option, Some, None, slice_get, refl, sym, ap, ap₂, ◌∙◌, subst, inl, inr, arith, append-nil, eq-eqb}
use Rattle.std.specs.Prelude.{◌==◌, IsSome}
use Rattle.std.specs.List.{AllByRecursion}
use Rattle.std.proofs.lemmas.Bool.{ne_eqb}
use Rattle.std.proofs.lemmas.Bool.Decides.{eqb_tells}
use Rattle.board_model.proofs.WaitCalls.{wait-puts, wait-untried}
use Rattle.board_model.specs.State.{frames_from}
use Rattle.board_model.specs.declared.scenario.CallLine.{CallLine}
use Rattle.board_model.specs.declared.scenario.Scenario.{Scenario}
use Rattle.board_model.specs.Scenario.{script}
use Rattle.board_model.specs.Journal.{turned, again, waits, called, PlainAnswer, refuses, agrees, tells, connects, gives, completes, Visit}
use Rattle.board_model.specs.Answer.{answer, puts}
use Rattle.board_model.specs.CallChanges.{call_changes, returned}
use Rattle.board_model.specs.Step.{HasNoPuts, next_line, call_at, is_tried, may_try, tries_again, after, limit_of, is_timeout, MayCome, EndsWait, effect_of_line, labels_of_line}
use Rattle.board_model.specs.Run.{start, Leads, after_all}
use Rattle.board_model.specs.Traffic.{puts_in, takes_in, given, backs_in, returned_by}
use Rattle.board_model.specs.Loads.{turn_of, loads_turned, loads_given}
use Rattle.board_model.specs.SerialRun.{Station, Running, with_entry, turned_by, turned_once, all_turned, loads_with_puts, word_in, is_tried_at, called_by, with_entries}
use Rattle.board_model.proofs.ListsCounts.{one_if}
use Rattle.board_model.proofs.DeedJoins.{changes-keep}
use Rattle.board_model.proofs.LaneRuns.{ends-leads}
use Rattle.board_model.proofs.WholePeers.{numbers, call_numbers}
use Rattle.board_model.proofs.WholeLanes.{Book, placed}
use Rattle.board_model.proofs.WholeTakes.{frames_of}
use Rattle.board_model.proofs.WholeVisits.{AllOk}
use Rattle.board_model.proofs.WholeTurns.{turned_book, turned_puts, turned_backs, turned_taken, turned_gives, turn_lanes, is_turn, turn_number, turn_numbers}
use Rattle.board_model.proofs.WholeCalls.{called_book, call_lane}
use Rattle.board_model.proofs.WholeJournals.{leads-append, leads_to, leads_one, call_entries, put_to_call, taken_from_call, backs_call, sees_call, with_puts, given_call, called_run, after_call, leads_call}
use Rattle.board_model.proofs.WholeStations.{station, station_domain, station_after, entered_all, state_in, states_of, book_of}
use Rattle.board_model.proofs.WholeGoing.{StationOk, Going, lane_same, Adds, goes_on}
use Rattle.board_model.proofs.WholeJoined.{Joined, joined_back}

-- the states with that of a station put among them
placed_self : (r : Running) (d : ℕ) (t : Station) → station r d ≡ Some t → (n : ℕ) → placed (states_of r) d t.run.state n ≡ states_of r n
placed_self r d t e n = elim (eqb_tells n d) [
  | inl same ↦ ap (λ b. cond b t.run.state (states_of r n)) same.0 ∙ sym (ap state_in (ap (station r) same.1 ∙ e))
  | inr differ ↦ ap (λ b. cond b t.run.state (states_of r n)) differ.0
]

lanes_placed : (s : Scenario) (counts made : ℕ → ℕ) (r : Running) (d : ℕ) (t : Station) → Going s (Joined s) counts made r → station r d ≡ Some t → AllOk (Joined s) (placed (states_of r) d t.run.state) (book_of s r) r.loads
lanes_placed s counts made r d t h e = λ a b size j.
    lane_same size a b (states_of r a) (states_of r b) (placed (states_of r) d t.run.state a) (placed (states_of r) d t.run.state b) (book_of s r a b) (book_of s r a b) r.loads r.loads
    (placed_self r d t e a) (placed_self r d t e b) refl refl refl refl refl (h.lanes a b size j)

no_more : {A : Type 0} (x : Bool) (xs : List A) → xs ≡ xs ++ cond x [] []
no_more true xs = sym (append-nil xs)
no_more false xs = sym (append-nil xs)

none_more : (x : Bool) (n : ℕ) → n ≡ n + cond x 0 0
none_more true n = omega arith
none_more false n = omega arith

-- ---- turns

-- the board goes on, and the station of the domain made its turn just now
pub record Fresh (s : Scenario) (counts made : ℕ → ℕ) (d : ℕ) (r : Running) : Type 0 where
  pub going : Going s (Joined s) counts made r
  pub fresh : (t : Station) → station r d ≡ Some t → t.run.put_since_turn ≡ Some []

turned_adds : (s : Scenario) (d : ℕ) (t : Station) (vs : List Visit) (a b : ℕ) (k : Book) → Adds s d t (turned vs ∷ []) a b k (turned_book d t.run.state vs a b k)
turned_adds s d t vs a b k = record {
  puts = turned_puts d t.run.state vs a b k ∙ ap (λ xs. k.puts ++ cond (a == d) xs []) (sym (append-nil (puts_in b (turned vs))));
  backs = turned_backs d t.run.state vs a b k ∙ ap (λ xs. k.backs + cond (a == d) (sum xs) 0) (sym (append-nil (backs_in b (turned vs))));
  taken = turned_taken d t.run.state vs a b k ∙ ap (λ xs. k.taken ++ cond (b == d) (frames_of xs) []) (sym (append-nil (takes_in a (turned vs))));
  gives = turned_gives d t.run.state vs a b k ∙ ap (λ n. k.gives + cond (b == d) n 0) (omega arith);
}

pub turn_goes : (s : Scenario) (counts made : ℕ → ℕ) (r : Running) (d : ℕ) → Going s (Joined s) counts made r → Fresh s counts made d (turned_once s r d)
turn_goes s counts made r d h = go (station r d) refl
  where
    none_some : {t : Station} → ◌≡◌ {A = Option Station} (Some t) None → ⊥
    none_some e = cc

    put_of : {t u : Station} → ◌≡◌ {A = Option Station} (Some t) (Some u) → t.run.put_since_turn ≡ Some [] → u.run.put_since_turn ≡ Some []
    put_of e p = cc

    go : (o : Option Station) → station r d ≡ o → Fresh s counts made d (turned_by s d o r)
    go None e = record { going = h; fresh = λ t here. absurd (none_some (sym here ∙ e)) }
    go (Some t) e =
        let ok = h.each d t e in
        let st = t.run.state in
        let vs = turn_of st r.loads in
        let sc = script s t.line.domain in
        let turns = turn_lanes (Joined s) (joined_back s) (states_of r) d st (book_of s r) r.loads (numbers st) ok.number ok.peers (lanes_placed s counts made r d t h e) in
        let new : StationOk s (Joined s) d (counts d) (made d) (entered_all s (turned vs ∷ []) t) = record {
          leads = leads-append sc (start s t.line) t.run (after_all sc t.run (turned vs ∷ [])) t.entries (turned vs ∷ []) ok.leads (leads_one sc t.run (turned vs) (ok.no_puts, is_turn st r.loads turns.are));
          no_puts = refl;
          lines = ok.lines;
          calls = ok.calls;
          number = turn_number st vs ∙ ok.number;
          peers = subst (AllByRecursion (λ p. (size : ℕ) × Joined s d p size)) (sym (turn_numbers st vs)) ok.peers;
        } in
        record {
          going =
              goes_on s (Joined s) counts made counts made r d t (turned vs ∷ []) (loads_turned st r.loads) (λ a b. turned_book d t.run.state vs a b (book_of s r a b)) h e new (λ n differ. (refl, refl)) turns.lanes
              (λ a b. turned_adds s d t vs a b (book_of s r a b)) (λ a size j. (turns.sees a (length (turned_book d t.run.state vs a d (book_of s r a d)).puts) (omega arith), tt));
          fresh = λ u here.
              put_of (sym (ap (λ b. cond b (Some (entered_all s (turned vs ∷ []) t)) (station r d)) (eq-eqb d d refl)) ∙ sym (station_after s d (turned vs ∷ []) (record r { loads = loads_turned st r.loads }) t e d) ∙ here) refl;
        }

pub turns_go : (s : Scenario) (counts made : ℕ → ℕ) (r : Running) (ds : List ℕ) → Going s (Joined s) counts made r → Going s (Joined s) counts made (all_turned s r ds)
turns_go s counts made r [] h = h
turns_go s counts made r (d ∷ ds) h = turns_go s counts made (turned_once s r d) ds (turn_goes s counts made r d h).going

-- ---- calls

-- what comes next for the station of a line's domain
pub next_of : (s : Scenario) (counts made : ℕ → ℕ) (r : Running) (line : CallLine) (t : Station) → Going s (Joined s) counts made r → station r line.domain ≡ Some t → slice_get (script s line.domain) (counts line.domain) ≡ Some line → next_line (script s t.line.domain) t.run ≡ Some line
next_of s counts made r line t h e here = ap₂ (λ n k. slice_get (script s n) k) (station_domain r line.domain t e) (h.each line.domain t e).lines ∙ here

tried_word : (a : PlainAnswer) → is_tried a ≡ true → refuses (word_in a) ≡ a
tried_word (refuses word) e = refl
tried_word agrees e = absurd cc
tried_word (tells n) e = absurd cc
tried_word (connects request number) e = absurd cc
tried_word (gives n bytes) e = absurd cc
tried_word (completes place result) e = absurd cc

-- so many calls are made of the next line of one domain, and none of the others
abbrev pub made_of : ℕ → ℕ → ℕ → ℕ
made_of d k n = cond (n == d) k 0

pub made_own : (d k : ℕ) → made_of d k d ≡ k
made_own d k = ap (λ b. cond b k 0) (eq-eqb d d refl)

made_other : (d k n : ℕ) → (n ≡ d → ⊥) → made_of d k n ≡ 0
made_other d k n differ = ap (λ b. cond b k 0) (ne_eqb n d differ)

pub again_goes : (s : Scenario) (counts : ℕ → ℕ) (k : ℕ) (r : Running) (line : CallLine) (t : Station) → Going s (Joined s) counts (made_of line.domain k) r → station r line.domain ≡ Some t → slice_get (script s line.domain) (counts line.domain) ≡ Some line → t.run.put_since_turn ≡ Some [] → is_tried_at line t ≡ true → may_try line.tries k ≡ true → Going s (Joined s) counts (made_of line.domain (k + 1)) (with_entry s line.domain (again (word_in (answer t.run.state line.node (call_at t.run line)))) r)
again_goes s counts k r line t h e here fresh tried may =
    let d = line.domain in
    let ok = h.each d t e in
    let sc = script s t.line.domain in
    let word = word_in (answer t.run.state line.node (call_at t.run line)) in
    let is_word = tried_word (answer t.run.state line.node (call_at t.run line)) tried in
    let made : t.run.calls_made ≡ k = ok.calls ∙ made_own d k in
    let tries : tries_again line t.run (refuses word) ≡ true = ap (λ a. is_tried a && may_try line.tries t.run.calls_made) is_word ∙ ap (λ b. b && may_try line.tries t.run.calls_made) tried ∙ ap (may_try line.tries) made ∙ may in
    let new : StationOk s (Joined s) d (counts d) (made_of d (k + 1) d) (entered_all s (again word ∷ []) t) = record {
      leads = leads-append sc (start s t.line) t.run (after_all sc t.run (again word ∷ [])) t.entries (again word ∷ []) ok.leads (leads_one sc t.run (again word) (line, next_of s counts (made_of d k) r line t h e here, is_word, fresh, tries));
      no_puts = tt;
      lines = ok.lines;
      calls = ap (λ n. n + 1) made ∙ sym (made_own d (k + 1));
      number = ok.number;
      peers = ok.peers;
    } in
    goes_on s (Joined s) counts (made_of d k) counts (made_of d (k + 1)) r d t (again word ∷ []) r.loads (book_of s r) h e new
    (λ n differ. (refl, made_other d (k + 1) n differ ∙ sym (made_other d k n differ)))
    (lanes_placed s counts (made_of d k) r d t h e)
    (λ a b. record { puts = no_more (a == d) (book_of s r a b).puts; backs = none_more (a == d) (book_of s r a b).backs; taken = no_more (b == d) (book_of s r a b).taken; gives = none_more (b == d) (book_of s r a b).gives })
    (λ a size j. tt)

call_adds : (s : Scenario) (d : ℕ) (t : Station) (line : CallLine) (k : ℕ) (x : PlainAnswer) (a b : ℕ) (book : Book) → next_line (script s t.line.domain) t.run ≡ Some line → t.run ≡ with_puts t.run [] →
    (let ps = puts t.run.state line.node (call_at t.run line) in Adds s d t (call_entries ps k x) a b book (called_book d ps (returned t.run.state line.node (call_at t.run line)) a b book))
call_adds s d t line k x a b book next run =
    let ps = puts t.run.state line.node (call_at t.run line) in
    let sc = script s t.line.domain in
    record {
      puts = ap (λ xs. book.puts ++ cond (a == d) xs []) (sym (put_to_call b ps k x));
      backs = none_more (a == d) book.backs ∙ ap (λ n. book.backs + cond (a == d) n 0) (sym (backs_call b ps k x));
      taken = no_more (b == d) book.taken ∙ ap (λ xs. book.taken ++ cond (b == d) xs []) (sym (taken_from_call a ps k x));
      gives = ap (λ n. book.gives + cond (b == d) n 0) (sym (ap (λ y. given sc y a (call_entries ps k x)) run ∙ given_call sc t.run a [] ps k x line next));
    }

-- one line more is called of one domain
abbrev pub one_more : (ℕ → ℕ) → ℕ → ℕ → ℕ
one_more counts d n = counts n + one_if (n == d)

pub call_goes : (s : Scenario) (counts : ℕ → ℕ) (k : ℕ) (r : Running) (line : CallLine) (t : Station) → Going s (Joined s) counts (made_of line.domain k) r → station r line.domain ≡ Some t → slice_get (script s line.domain) (counts line.domain) ≡ Some line → t.run.put_since_turn ≡ Some [] → limit_of line.call ≡ None → tries_again line t.run (answer t.run.state line.node (call_at t.run line)) ≡ false → Going s (Joined s) (one_more counts line.domain) (λ n. 0) (called_by s line t r)
call_goes s counts k r line t h e here fresh ready last =
    let d = line.domain in
    let ok = h.each d t e in
    let sc = script s t.line.domain in
    let st = t.run.state in
    let call = call_at t.run line in
    let ps = puts st line.node call in
    let items = returned st line.node call in
    let x = answer st line.node call in
    let es = call_entries ps (t.run.lines_called + 1) x in
    let next = next_of s counts (made_of d k) r line t h e here in
    let run : t.run ≡ with_puts t.run [] = ap (λ p. record t.run { put_since_turn = p }) fresh in
    let steps = leads_call sc t.run line next ready last in
    let all : Leads sc (with_puts t.run []) es (after_all sc (with_puts t.run []) es) = subst (λ y. Leads sc (with_puts t.run []) es y) (leads_to sc (with_puts t.run []) (after sc (with_puts t.run ps) (called (t.run.lines_called + 1) x)) es steps) steps in
    let new_run : after_all sc t.run es ≡ called_run t.run line = ap (λ y. after_all sc y es) run ∙ after_call sc t.run [] ps (t.run.lines_called + 1) x line next in
    let new : StationOk s (Joined s) d (one_more counts d d) 0 (entered_all s es t) = record {
      leads = leads-append sc (start s t.line) t.run (after_all sc t.run es) t.entries es ok.leads (subst (λ y. Leads sc y es (after_all sc y es)) (sym run) all);
      no_puts = subst (λ y. HasNoPuts y.put_since_turn) (sym new_run) tt;
      lines = ap (λ y. y.lines_called) new_run ∙ omega (arith, ok.lines, ap one_if (eq-eqb d d refl));
      calls = ap (λ y. y.calls_made) new_run;
      number = ap (λ y. y.state.number) new_run ∙ changes-keep (λ y. y.number) (λ y c. refl) st (call_changes st line.node call) ∙ ok.number;
      peers = subst (AllByRecursion (λ p. (size : ℕ) × Joined s d p size)) (sym (ap (λ y. numbers y.state) new_run ∙ call_numbers st line.node call)) ok.peers;
    } in
    let old = lanes_placed s counts (made_of d k) r d t h e in
    goes_on s (Joined s) counts (made_of d k) (one_more counts d) (λ n. 0) r d t es (loads_given d items (loads_with_puts d ps r.loads)) (λ a b. called_book d ps items a b (book_of s r a b)) h e new
    (λ n differ. (omega (arith, ap one_if (ne_eqb n d differ)), sym (made_other d k n differ)))
    (subst (λ y. AllOk (Joined s) (placed (states_of r) d y) (λ a b. called_book d ps items a b (book_of s r a b)) (loads_given d items (loads_with_puts d ps r.loads))) (sym (ap (λ y. y.state) new_run))
    (λ a b size j. call_lane (states_of r) d st (ends-leads sc (start s t.line) t.run t.entries ok.leads (record { apart = tt; below = tt })) line.node call r.loads size a b (book_of s r a b) (old a b size j)))
    (λ a b. call_adds s d t line (t.run.lines_called + 1) x a b (book_of s r a b) next run)
    (λ a size j. sees_call a (length (called_book d ps items a d (book_of s r a d)).puts) (length (book_of s r a d).taken) ps (t.run.lines_called + 1) x)

-- a wait begins
pub begin_goes : (s : Scenario) (counts : ℕ → ℕ) (r : Running) (line : CallLine) (t : Station) → Going s (Joined s) counts (made_of line.domain 0) r → station r line.domain ≡ Some t → slice_get (script s line.domain) (counts line.domain) ≡ Some line → IsSome (limit_of line.call) → is_timeout (answer t.run.state line.node (call_at t.run line)) ≡ true → t.run.waited ≡ None → Going s (Joined s) counts (made_of line.domain 0) (with_entry s line.domain (waits (t.run.lines_called + 1)) r)
begin_goes s counts r line t h e here is_wait pends rests =
    let d = line.domain in
    let ok = h.each d t e in
    let sc = script s t.line.domain in
    let k : ℕ = t.run.lines_called + 1 in
    let new : StationOk s (Joined s) d (counts d) (made_of d 0 d) (entered_all s (waits k ∷ []) t) = record {
      leads = leads-append sc (start s t.line) t.run (after_all sc t.run (waits k ∷ [])) t.entries (waits k ∷ []) ok.leads (leads_one sc t.run (waits k) (line, next_of s counts (made_of d 0) r line t h e here, refl, is_wait, pends, ok.no_puts, rests));
      no_puts = ok.no_puts;
      lines = ok.lines;
      calls = ok.calls;
      number = ok.number;
      peers = ok.peers;
    } in
    goes_on s (Joined s) counts (made_of d 0) counts (made_of d 0) r d t (waits k ∷ []) r.loads (book_of s r) h e new
    (λ n differ. (refl, refl))
    (lanes_placed s counts (made_of d 0) r d t h e)
    (λ a b. record { puts = no_more (a == d) (book_of s r a b).puts; backs = none_more (a == d) (book_of s r a b).backs; taken = no_more (b == d) (book_of s r a b).taken; gives = none_more (b == d) (book_of s r a b).gives })
    (λ a size j. tt)

-- a wait ends
pub wait_call_goes : (s : Scenario) (counts : ℕ → ℕ) (r : Running) (line : CallLine) (t : Station) (limit : ℕ) → Going s (Joined s) counts (made_of line.domain 0) r → station r line.domain ≡ Some t → slice_get (script s line.domain) (counts line.domain) ≡ Some line → limit_of line.call ≡ Some limit → EndsWait limit (answer t.run.state line.node (call_at t.run line)) t.run.waited → Going s (Joined s) (one_more counts line.domain) (λ n. 0) (called_by s line t r)
wait_call_goes s counts r line t limit h e here is_wait ends =
    let d = line.domain in
    let ok = h.each d t e in
    let sc = script s t.line.domain in
    let st = t.run.state in
    let call = call_at t.run line in
    let items = returned st line.node call in
    let x = answer st line.node call in
    let k : ℕ = t.run.lines_called + 1 in
    let next = next_of s counts (made_of d 0) r line t h e here in
    let none : puts st line.node call ≡ [] = wait-puts t.run line limit is_wait in
    let last : tries_again line t.run x ≡ false = ap (λ b. b && may_try line.tries t.run.calls_made) (wait-untried t.run line limit is_wait) in
    let come : MayCome (limit_of line.call) t.run line = subst (λ o. MayCome o t.run line) (sym is_wait) (ok.no_puts, ends) in
    let new_run : after sc t.run (called k x) ≡ called_run t.run line = ap (λ o. record { state = effect_of_line o t.run; lines_called = t.run.lines_called + 1; calls_made = 0; labels = labels_of_line o t.run; put_since_turn = None; waited = None }) next in
    let new : StationOk s (Joined s) d (one_more counts d d) 0 (entered_all s (called k x ∷ []) t) = record {
      leads = leads-append sc (start s t.line) t.run (after_all sc t.run (called k x ∷ [])) t.entries (called k x ∷ []) ok.leads (leads_one sc t.run (called k x) (line, next, refl, refl, come, last));
      no_puts = tt;
      lines = omega (arith, ok.lines, ap one_if (eq-eqb d d refl));
      calls = refl;
      number = ap (λ y. y.state.number) new_run ∙ changes-keep (λ y. y.number) (λ y c. refl) st (call_changes st line.node call) ∙ ok.number;
      peers = subst (AllByRecursion (λ p. (size : ℕ) × Joined s d p size)) (sym (ap (λ y. numbers y.state) new_run ∙ call_numbers st line.node call)) ok.peers;
    } in
    let old = lanes_placed s counts (made_of d 0) r d t h e in
    let lanes_ok =
    subst (λ y. AllOk (Joined s) (placed (states_of r) d y) (λ a b. called_book d (puts st line.node call) items a b (book_of s r a b)) (loads_given d items (loads_with_puts d (puts st line.node call) r.loads))) (sym (ap (λ y. y.state) new_run))
    (λ a b size j. call_lane (states_of r) d st (ends-leads sc (start s t.line) t.run t.entries ok.leads (record { apart = tt; below = tt })) line.node call r.loads size a b (book_of s r a b) (old a b size j)) in
    let silent = subst (λ qs. AllOk (Joined s) (placed (states_of r) d (after sc t.run (called k x)).state) (λ a b. called_book d qs items a b (book_of s r a b)) (loads_given d items (loads_with_puts d qs r.loads))) none lanes_ok in
    subst (λ qs. Going s (Joined s) (one_more counts d) (λ n. 0) (with_entries s d (call_entries qs k x) (record r { loads = loads_given d items (loads_with_puts d qs r.loads) }))) (sym none)
    (goes_on s (Joined s) counts (made_of d 0) (one_more counts d) (λ n. 0) r d t (called k x ∷ []) (loads_given d items r.loads) (λ a b. called_book d [] items a b (book_of s r a b)) h e new
    (λ n differ. (omega (arith, ap one_if (ne_eqb n d differ)), sym (made_other d 0 n differ)))
    silent
    (λ a b. record {
      puts = refl;
      backs = none_more (a == d) (book_of s r a b).backs;
      taken = no_more (b == d) (book_of s r a b).taken;
      gives = ap (λ n. (book_of s r a b).gives + cond (b == d) n 0) (sym (omega (arith, ap (λ o. length (frames_from a (returned_by o t.run))) next)));
    })
    (λ a size j. tt))
