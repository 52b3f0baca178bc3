-- A board that runs serially goes on through its lines, each with its tries.
use Rattle.std.proofs.Common.{◌≡◌, ℕ, zero, suc, ◌+◌, Bool, true, false, ◌&&◌, cond, if◌then◌else◌, List, [], ◌∷◌, ◌++◌, length, filter, find, Option, Some, None, slice_get, refl, sym, ap, ◌∙◌, subst, inl, inr, arith, append_assoc, append-nil, length-append, eq-eqb, lt-ltb, le-ltb}
use Rattle.std.specs.Prelude.{◌==◌}
use Rattle.std.specs.List.{AllByRecursion}
use Rattle.std.proofs.lemmas.Bool.{ne_eqb}
use Rattle.std.proofs.lemmas.Bool.Decides.{eqb_tells}
use Rattle.std.proofs.lemmas.List.Elements.{filter-append}
use Rattle.board_model.specs.declared.scenario.CallLine.{CallLine}
use Rattle.board_model.specs.declared.scenario.Scenario.{Scenario}
use Rattle.board_model.specs.Scenario.{script}
use Rattle.board_model.specs.LinkedBoard.{IsTold, IsLinkedBoard}
use Rattle.board_model.specs.Answer.{answer}
use Rattle.board_model.specs.Step.{call_at, is_tried, may_try, tries_again, limit_of}
use Rattle.board_model.specs.SerialRun.{Station, Running, turned_once, others, called_by, again_by, is_tried_at, after_turn_of, last_call, tried, more_calls, line_run, lines_run, line_by}
use Rattle.board_model.proofs.ListsCounts.{one_if}
use Rattle.board_model.proofs.WholeFinds.{find-mapped, some_tells}
use Rattle.board_model.proofs.WholeStations.{station}
use Rattle.board_model.proofs.WholeGoing.{Going}
use Rattle.board_model.proofs.WholeJoined.{Joined, told_found}
use Rattle.board_model.proofs.WholeSteps.{turn_goes, turns_go, made_of, made_own, again_goes, one_more, call_goes}
use Rattle.board_model.proofs.WholeRests.{Rest, Each, run_rests}
use Rattle.board_model.proofs.WholeRounds.{wait_goes}

-- ---- stations that are there

pub told_station : (s : Scenario) → IsLinkedBoard s → (counts made : ℕ → ℕ) (r : Running) (n : ℕ) → IsTold s n → Going s (Joined s) counts made r → (t : Station) × (station r n ≡ Some t)
told_station s board counts made r n told h =
    let d = told_found s board n told in
    let t = some_tells (λ (x : Station). x.line) (station r n) d.0 (sym (find-mapped (λ l. l.domain == n) (λ (x : Station). x.line) r.stations) ∙ ap (find (λ l. l.domain == n)) h.domains ∙ d.1) in
    (t.0, t.1)

-- ---- tries

may_not : (tries : Option ℕ) (k : ℕ) → k ≡ more_calls tries → may_try tries k ≡ false
may_not None k e = refl
may_not (Some zero) k e = le-ltb (k + 1) 0 (omega arith)
may_not (Some (suc n)) k e = le-ltb (k + 1) (suc n) (omega (arith, e))

may : (tries : Option ℕ) (k more : ℕ) → k + suc more ≡ more_calls tries → may_try tries k ≡ true
may None k more e = absurd (omega (arith, e))
may (Some zero) k more e = absurd (omega (arith, e))
may (Some (suc n)) k more e = lt-ltb (k + 1) (suc n) (omega (arith, e))

and_false : (x : Bool) → (x && false) ≡ false
and_false true = refl
and_false false = refl

tried_goes : (s : Scenario) → IsLinkedBoard s → (line : CallLine) → IsTold s line.domain → limit_of line.call ≡ None → (counts : ℕ → ℕ) → slice_get (script s line.domain) (counts line.domain) ≡ Some line → (more k : ℕ) → k + more ≡ more_calls line.tries → (r : Running) → Going s (Joined s) counts (made_of line.domain k) r → Going s (Joined s) (one_more counts line.domain) (λ n. 0) (tried s line more r)
tried_goes s board line told ready counts here zero k e r h =
    let f = turn_goes s counts (made_of line.domain k) r line.domain h in
    let q = turned_once s r line.domain in
    let t = told_station s board counts (made_of line.domain k) q line.domain told f.going in
    let made : t.0.run.calls_made ≡ k = (f.going.each line.domain t.0 t.1).calls ∙ made_own line.domain k in
    let a = answer t.0.run.state line.node (call_at t.0.run line) in
    let last : tries_again line t.0.run a ≡ false = ap (λ n. is_tried a && may_try line.tries n) made ∙ ap (λ b. is_tried a && b) (may_not line.tries k (omega (arith, e))) ∙ and_false (is_tried a) in
    subst (λ o. Going s (Joined s) (one_more counts line.domain) (λ n. 0) (last_call s line o q)) (sym t.1) (call_goes s counts k q line t.0 f.going t.1 here (f.fresh t.0 t.1) ready last)
tried_goes s board line told ready counts here (suc more) k e r h =
    let f = turn_goes s counts (made_of line.domain k) r line.domain h in
    let q = turned_once s r line.domain in
    let t = told_station s board counts (made_of line.domain k) q line.domain told f.going in
    let a = answer t.0.run.state line.node (call_at t.0.run line) in
    subst (λ o. Going s (Joined s) (one_more counts line.domain) (λ n. 0) (after_turn_of s line o (tried s line more) q)) (sym t.1)
    (go t.0 (is_tried_at line t.0) refl
    (λ tries. tried_goes s board line told ready counts here more (k + 1) (omega (arith, e)) (again_by s line t.0 q)
    (turns_go s counts (made_of line.domain (k + 1)) _ (others s line.domain) (again_goes s counts k q line t.0 f.going t.1 here (f.fresh t.0 t.1) tries (may line.tries k more e))))
    (λ untried. call_goes s counts k q line t.0 f.going t.1 here (f.fresh t.0 t.1) ready (ap (λ b. b && may_try line.tries t.0.run.calls_made) untried)))
  where
    go : (t : Station) (b : Bool) → is_tried_at line t ≡ b →
        (is_tried_at line t ≡ true → Going s (Joined s) (one_more counts line.domain) (λ n. 0) (tried s line more (again_by s line t (turned_once s r line.domain)))) →
        (is_tried_at line t ≡ false → Going s (Joined s) (one_more counts line.domain) (λ n. 0) (called_by s line t (turned_once s r line.domain))) →
        Going s (Joined s) (one_more counts line.domain) (λ n. 0) (if b then tried s line more (again_by s line t (turned_once s r line.domain)) else called_by s line t (turned_once s r line.domain))
    go t true is again last = again is
    go t false is again last = last is

-- ---- a line

line_goes : (s : Scenario) → IsLinkedBoard s → (line : CallLine) → IsTold s line.domain → (counts : ℕ → ℕ) → slice_get (script s line.domain) (counts line.domain) ≡ Some line → (o : Option ℕ) → limit_of line.call ≡ o → (r : Running) → Rest Each r → Going s (Joined s) counts (made_of line.domain 0) r → Going s (Joined s) (one_more counts line.domain) (λ n. 0) (line_by s line o r)
line_goes s board line told counts here None ready r rests h = tried_goes s board line told ready counts here (more_calls line.tries) 0 (omega arith) r h
line_goes s board line told counts here (Some limit) waits r rests h =
    let t = told_station s board counts (made_of line.domain 0) r line.domain told h in
    wait_goes s board line told counts here limit waits r t.0 t.1 (rests line.domain t.0 tt t.1) h

-- ---- lines

-- a board goes on by what it counted, however that is told
going_same : (s : Scenario) (counts made counts' made' : ℕ → ℕ) (r : Running) → ((n : ℕ) → counts' n ≡ counts n) → ((n : ℕ) → made' n ≡ made n) → Going s (Joined s) counts made r → Going s (Joined s) counts' made' r
going_same s counts made counts' made' r same_counts same_made h = record {
  domains = h.domains;
  each = λ n t e.
      let ok = h.each n t e in
      record { leads = ok.leads; no_puts = ok.no_puts; lines = ok.lines ∙ sym (same_counts n); calls = ok.calls ∙ sym (same_made n); number = ok.number; peers = ok.peers };
  lanes = h.lanes;
  sees = h.sees;
}

-- the lines of a domain
abbrev pub lines_of : List CallLine → ℕ → List CallLine
lines_of ls d = filter (λ c. c.domain == d) ls

next_line_is : (before rest : List CallLine) (line : CallLine) → slice_get (lines_of (before ++ line ∷ rest) line.domain) (length (lines_of before line.domain)) ≡ Some line
next_line_is before rest line =
    let d = line.domain in
    ap (λ xs. slice_get xs (length (lines_of before d))) (filter-append (λ c. c.domain == d) before (line ∷ rest) ∙ ap (λ b. lines_of before d ++ cond b (line ∷ lines_of rest d) (lines_of rest d)) (eq-eqb d d refl))
    ∙ at (lines_of before d) (lines_of rest d)
  where
    at : (xs ys : List CallLine) → slice_get (xs ++ line ∷ ys) (length xs) ≡ Some line
    at [] ys = refl
    at (x ∷ xs) ys = at xs ys

one_counted : (before : List CallLine) (line : CallLine) (n : ℕ) → length (lines_of (before ++ line ∷ []) n) ≡ length (lines_of before n) + one_if (n == line.domain)
one_counted before line n =
    ap length (filter-append (λ c. c.domain == n) before (line ∷ [])) ∙ length-append (lines_of before n) (cond (line.domain == n) (line ∷ []) [])
    ∙ elim (eqb_tells line.domain n) [
      | inl same ↦ omega (arith, ap (λ b. length (cond b (line ∷ []) [])) same.0, ap one_if (eq-eqb n line.domain (sym same.1)))
      | inr differ ↦ omega (arith, ap (λ b. length (cond b (line ∷ []) [])) differ.0, ap one_if (ne_eqb n line.domain (λ e. differ.1 (sym e))))
    ]

pub lines_go : (s : Scenario) → IsLinkedBoard s → (before rest : List CallLine) → s.calls ≡ before ++ rest → AllByRecursion (λ c. IsTold s c.domain) rest → (r : Running) → Rest Each r → Going s (Joined s) (λ n. length (lines_of before n)) (λ n. 0) r → Going s (Joined s) (λ n. length (script s n)) (λ n. 0) (lines_run s r rest)
lines_go s board before [] e told r rests h =
    going_same s (λ n. length (lines_of before n)) (λ n. 0) (λ n. length (script s n)) (λ n. 0) r (λ n. ap (λ ls. length (lines_of ls n)) (e ∙ append-nil before)) (λ n. refl) h
lines_go s board before (line ∷ ls) e told r rests h =
    let here : slice_get (script s line.domain) (length (lines_of before line.domain)) ≡ Some line = ap (λ xs. slice_get (lines_of xs line.domain) (length (lines_of before line.domain))) e ∙ next_line_is before ls line in
    let now = line_goes s board line told.0 (λ n. length (lines_of before n)) here (limit_of line.call) refl r rests
    (going_same s (λ n. length (lines_of before n)) (λ n. 0) (λ n. length (lines_of before n)) (made_of line.domain 0) r (λ n. refl) (λ n. none (n == line.domain)) h) in
    lines_go s board (before ++ line ∷ []) ls (e ∙ sym (append_assoc before (line ∷ []) ls)) told.1 (line_run s r line) (run_rests s line r rests)
    (going_same s (one_more (λ n. length (lines_of before n)) line.domain) (λ n. 0) (λ n. length (lines_of (before ++ line ∷ []) n)) (λ n. 0) (line_run s r line) (one_counted before line) (λ n. refl) now)
  where
    none : (b : Bool) → ◌≡◌ {A = ℕ} (cond b 0 0) 0
    none true = refl
    none false = refl
