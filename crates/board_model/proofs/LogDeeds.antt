-- The calls of a log are among the deeds of the domain's run, line by line. The calls that are not in the log are those that were made again,
-- which were refused.
use Rattle.std.proofs.Common.{◌≡◌, ℕ, zero, suc, ◌+◌, List, [], ◌∷◌, ◌++◌, map, drop, length, Option, Some, slice_get, refl, sym, ap, ◌∙◌, subst, arith}
use Rattle.std.specs.List.{flat_map}
use Rattle.std.proofs.lemmas.List.{append-nil}
use Rattle.mc_base.specs.declared.fate.Fate.{Fate}
use Rattle.mc_base.specs.declared.refusal.Refusal.{Refusal}
use Rattle.board_model.specs.declared.scenario.Call.{Call}
use Rattle.board_model.specs.declared.scenario.CallLine.{CallLine}
use Rattle.board_model.specs.declared.scenario.Scenario.{Scenario}
use Rattle.board_model.specs.Scenario.{script}
use Rattle.board_model.specs.Journal.{PlainEntry, turned, put, again, waits, called, PlainAnswer, refuses, Taken, Visit}
use Rattle.board_model.specs.State.{DomainState}
use Rattle.board_model.specs.Labels.{Labels, call_of}
use Rattle.board_model.specs.Deeds.{Deed, looks_back, puts_owed, looks_ahead, takes, calls, after_deed, after_deeds, along}
use Rattle.board_model.specs.Traffic.{taken_from}
use Rattle.board_model.specs.Turn.{visit_deeds, takes_named}
use Rattle.board_model.specs.Step.{RunState, next_line, Allowed, after}
use Rattle.board_model.specs.Run.{start, left_by, IsDomainRun}
use Rattle.board_model.specs.Board.{DomainJournal}
use Rattle.board_model.specs.JournalDeeds.{names_from, named_deeds, call_deeds, entry_deeds, deeds_along, deeds_of, opened}
use Rattle.board_model.specs.Logs.{LoggedCall, answer_in, answers_in, paired, log_of}
use Rattle.board_model.proofs.DeedJoins.{along-join}
use Rattle.board_model.proofs.RunDeeds.{AllAllowed, allowed-all}

-- ---- lists

next_place : (n : ℕ) → suc (n + 1) ≡ suc n + 1
next_place n = omega arith

-- the list from a place on, where there is a line at it
drop_there : (lines : List CallLine) (n : ℕ) (line : CallLine) → slice_get lines n ≡ Some line → drop n lines ≡ line ∷ drop (n + 1) lines
drop_there [] n line there = absurd cc
drop_there (x ∷ xs) zero line there = let same : x ≡ line = cc in rw same refl
drop_there (x ∷ xs) (suc n) line there = drop_there xs n line there ∙ ap (λ k. line ∷ drop k (x ∷ xs)) (next_place n)

none_left : (lines : List CallLine) → paired lines [] ≡ []
none_left [] = refl
none_left (l ∷ ls) = refl

-- ---- a list of deeds, and the same of a log

-- h is what is collected of deeds, which is nothing but of calls, and of a call hangs on the line's call and the answer alone, as g
pub record Collects {A : Type 0} (h : DomainState → Deed → List A) (g : Call → PlainAnswer → List A) : Type 0 where
  pub back : (s : DomainState) (p n : ℕ) → h s (looks_back p n) ≡ []
  pub owed : (s : DomainState) (p : ℕ) (f : List ℕ) → h s (puts_owed p f) ≡ []
  pub ahead : (s : DomainState) (p n : ℕ) → h s (looks_ahead p n) ≡ []
  pub took : (s : DomainState) (p : ℕ) (name : Option ℕ) (f : List ℕ) (w : Fate) → h s (takes p name f w) ≡ []
  pub same : (s t : DomainState) (labels : Labels) (node : ℕ) (call : Call) (a : PlainAnswer) → h s (calls node (call_of labels t call) a) ≡ g call a
  pub refused : (call : Call) (w : Refusal) → g call (refuses w) ≡ []

module _ {A : Type 0} (h : DomainState → Deed → List A) (g : Call → PlainAnswer → List A) (is : Collects h g) where
  both_none : (xs ys : List A) → xs ≡ [] → ys ≡ [] → xs ++ ys ≡ []
  both_none xs ys no_first no_second = ap (λ zs. zs ++ ys) no_first ∙ no_second

  -- a turn calls nothing
  takes_none : (name : ℕ → Option ℕ) (s : DomainState) (p : ℕ) (ts : List Taken) → along h s (takes_named name p ts) ≡ []
  takes_none name s p [] = refl
  takes_none name s p (t ∷ ts) = both_none _ _ (is.took s p (name 0) t.frame t.fate) (takes_none (λ k. name (k + 1)) (after_deed s (takes p (name 0) t.frame t.fate)) p ts)

  owed_none : (s : DomainState) (p : ℕ) (fs : List (List ℕ)) (rest : List Deed) → ((t : DomainState) → along h t rest ≡ []) → along h s (map (puts_owed p) fs ++ rest) ≡ []
  owed_none s p [] rest later = later s
  owed_none s p (f ∷ fs) rest later = both_none _ _ (is.owed s p f) (owed_none (after_deed s (puts_owed p f)) p fs rest later)

  visit_none : (name : ℕ → Option ℕ) (s : DomainState) (v : Visit) → along h s (visit_deeds name v) ≡ []
  visit_none name s v =
      both_none _ _ (is.back s v.peer v.back)
      (owed_none (after_deed s (looks_back v.peer v.back)) v.peer v.owed (looks_ahead v.peer v.see ∷ takes_named name v.peer v.takes)
      (λ t. both_none _ _ (is.ahead t v.peer v.see) (takes_none name (after_deed t (looks_ahead v.peer v.see)) v.peer v.takes)))

  visits_none : (before : List PlainEntry) (s : DomainState) (vs : List Visit) → along h s (flat_map (named_deeds before) vs) ≡ []
  visits_none before s [] = refl
  visits_none before s (v ∷ vs) =
      along-join h s (named_deeds before v) (flat_map (named_deeds before) vs)
      ∙ both_none _ _ (visit_none (names_from (length (taken_from v.peer before))) s v) (visits_none before (after_deeds s (named_deeds before v)) vs)

  call_collects : (r : RunState) (s : DomainState) (o : Option CallLine) (line : CallLine) (a : PlainAnswer) → o ≡ Some line → along h s (call_deeds o r a) ≡ g line.call a
  call_collects r s o line a line_is = subst (λ (p : Option CallLine). along h s (call_deeds p r a) ≡ g line.call a) (sym line_is) (append-nil _ ∙ is.same s r.state r.labels line.node line.call a)

  abbrev of_log : List LoggedCall → List A
  of_log log = flat_map (λ l. g l.line.call l.answer) log

  module _ (lines : List CallLine) where
    -- an entry more, and the log of the lines from the next on
    entry_collects : (before : List PlainEntry) (r : RunState) (s : DomainState) (e : PlainEntry) (rest : List PlainAnswer) (later : List A) → Allowed lines r e → later ≡ of_log (paired (drop (after lines r e).lines_called lines) rest) →
        along h s (entry_deeds lines before r e) ++ later ≡ of_log (paired (drop r.lines_called lines) (answer_in e ++ rest))
    entry_collects before r s (turned vs) rest later allowed then = ap (λ xs. xs ++ later) (visits_none before s vs) ∙ then
    entry_collects before r s (put p f) rest later allowed then = then
    entry_collects before r s (waits k) rest later allowed then = then
    entry_collects before r s (again w) rest later allowed then = ap (λ xs. xs ++ later) (call_collects r s (next_line lines r) allowed.0 (refuses w) allowed.1 ∙ is.refused allowed.0.call w) ∙ then
    entry_collects before r s (called k a) rest later allowed then =
        let line : CallLine = allowed.0 in
        ap (λ xs. xs ++ later) (call_collects r s (next_line lines r) line a allowed.1)
        ∙ ap (λ xs. g line.call a ++ xs) then
        ∙ ap (λ ls. of_log (paired ls (a ∷ rest))) (sym (drop_there lines r.lines_called line allowed.1))

    run_collects : (before : List PlainEntry) (r : RunState) (s : DomainState) (es : List PlainEntry) → AllAllowed lines r es → along h s (deeds_along lines before r es) ≡ of_log (paired (drop r.lines_called lines) (answers_in es))
    run_collects before r s [] allowed = sym (ap of_log (none_left (drop r.lines_called lines)))
    run_collects before r s (e ∷ es) allowed =
        along-join h s (entry_deeds lines before r e) (deeds_along lines (before ++ e ∷ []) (after lines r e) es)
        ∙ entry_collects before r s e (answers_in es) _ allowed.0 (run_collects (before ++ e ∷ []) (after lines r e) (after_deeds s (entry_deeds lines before r e)) es allowed.1)

  pub log-collects : (s : Scenario) (j : DomainJournal) → IsDomainRun s j.line j.entries → along h (opened s j) (deeds_of s j) ≡ of_log (log_of s j)
  log-collects s j run = run_collects (script s j.line.domain) [] (start s j.line) (opened s j) j.entries (allowed-all (script s j.line.domain) (start s j.line) (left_by s j.line j.entries) j.entries run.steps)
