-- The deeds of a walk give back what a journal's deeds do: frames are named alike, and a call that is made again is refused.
use Rattle.std.proofs.Common.{◌≡◌, ℕ, ◌+◌, List, [], ◌∷◌, ◌++◌, map, length, Option, Some, None, refl, sym, ap, ap₂, subst, ◌∙◌, arith, append-nil, append_assoc, length-append}
use Rattle.std.specs.List.{AllByRecursion, flat_map}
use Rattle.std.proofs.lemmas.List.{map-append}
use Rattle.std.proofs.lemmas.List.Concat.{flat_map-append}
use Rattle.board_model.specs.declared.scenario.CallLine.{CallLine}
use Rattle.board_model.specs.Answer.{answer, refusal, unless_refused}
use Rattle.board_model.specs.CallChanges.{success_changes, success_returned}
use Rattle.board_model.specs.Change.{changed_all}
use Rattle.board_model.specs.Deeds.{Deed, looks_back, puts_owed, looks_ahead, takes, calls, after_deeds, along}
use Rattle.board_model.specs.Returns.{names_given}
use Rattle.board_model.specs.Journal.{PlainAnswer, PlainEntry, Taken, Visit, again, called, put, refuses, turned, waits}
use Rattle.board_model.specs.JournalDeeds.{call_deeds, deeds_along, entry_deeds, named_deeds, names_from}
use Rattle.board_model.specs.LinkedBoard.{Differ}
use Rattle.board_model.specs.State.{DomainState, frames_from}
use Rattle.board_model.specs.Step.{Allowed, RunState, after, call_at, next_line}
use Rattle.board_model.specs.Traffic.{taken_from, takes_from, takes_in as frames_in}
use Rattle.board_model.specs.Unnamed.{no_names, unnamed}
use Rattle.board_model.proofs.DeedJoins.{along-join, deeds-numbers}
use Rattle.board_model.proofs.DeedRuns.{AreNamed, IsNamed, count_taken}
use Rattle.board_model.proofs.DeedTraffic.{count-join, count-takes, entry-take, turn-named}
use Rattle.board_model.proofs.RunDeeds.{AllAllowed, left-leads}
use Rattle.board_model.proofs.StateEnds.{numbers_in}
use Rattle.board_model.proofs.UnnamedDeeds.{unnamed_deed, visit-unnamed}
use Rattle.board_model.proofs.RefusedCalls.{refused-is}
use Rattle.board_model.proofs.RenamedCalls.{answer-renamed}
use Rattle.report_text.specs.RightRuns.{with_answer, with_answers}
use Rattle.report_text.proofs.StepsDue.{after-answer}
use Rattle.report_check.specs.NamedStates.{deeds_by, deeds_on, placed, placed_deed, takes_in, takes_of, turn_deeds}
use Rattle.report_check.proofs.NamedLemmas.{placed-join, takes-join}

-- ---- deeds that name their frames

one_taken : (p : ℕ) (d e : Deed) → e ≡ unnamed_deed d → takes_of p e ≡ count_taken p (d ∷ [])
one_taken p (takes q name frame word) e is = ap (takes_of p) is ∙ omega arith
one_taken p (looks_back peer count) e is = ap (takes_of p) is
one_taken p (puts_owed peer frame) e is = ap (takes_of p) is
one_taken p (looks_ahead peer count) e is = ap (takes_of p) is
one_taken p (calls node call a) e is = ap (takes_of p) is

-- they are those that are named by how many were taken before
pub named-placed : (b c : List Deed) (ds : List Deed) → ((p : ℕ) → takes_in p b ≡ count_taken p c) → AreNamed c ds → placed b (map unnamed_deed ds) ≡ ds
named-placed b c [] counts named = refl
named-placed b c (d ∷ ds) counts named =
    ap₂ (λ (x : Deed) (xs : List Deed). x ∷ xs) (one d named.0)
    (named-placed (b ++ unnamed_deed d ∷ []) (c ++ d ∷ []) ds (λ p. more p) named.1)
  where
    one : (d : Deed) → IsNamed c d → placed_deed b (unnamed_deed d) ≡ d
    one (takes p name frame word) is = ap (λ n. takes p n frame word) (ap Some (counts p) ∙ sym is)
    one (looks_back peer count) is = refl
    one (puts_owed peer frame) is = refl
    one (looks_ahead peer count) is = refl
    one (calls node call a) is = refl

    more : (p : ℕ) → takes_in p (b ++ unnamed_deed d ∷ []) ≡ count_taken p (c ++ d ∷ [])
    more p = omega (arith, counts p, takes-join p b (unnamed_deed d ∷ []), count-join p c (d ∷ []), one_taken p d (unnamed_deed d) refl)

-- ---- the deeds of a turn

turn_unnamed : (before : List PlainEntry) (vs : List Visit) → map unnamed_deed (flat_map (named_deeds before) vs) ≡ turn_deeds vs
turn_unnamed before [] = refl
turn_unnamed before (v ∷ vs) =
    map-append unnamed_deed (named_deeds before v) (flat_map (named_deeds before) vs)
    ∙ ap₂ (λ (xs ys : List Deed). xs ++ ys) (visit-unnamed (names_from (length (taken_from v.peer before))) v) (turn_unnamed before vs)

-- ---- how many frames are taken

takes-count : (p : ℕ) (ds : List Deed) → takes_in p ds ≡ count_taken p ds
takes-count p [] = refl
takes-count p (takes q name frame word ∷ ds) = omega (arith, takes-count p ds)
takes-count p (looks_back peer count ∷ ds) = omega (arith, takes-count p ds)
takes-count p (puts_owed peer frame ∷ ds) = omega (arith, takes-count p ds)
takes-count p (looks_ahead peer count ∷ ds) = omega (arith, takes-count p ds)
takes-count p (calls node call a ∷ ds) = omega (arith, takes-count p ds)

unnamed-count : (p : ℕ) (ds : List Deed) → takes_in p (map unnamed_deed ds) ≡ count_taken p ds
unnamed-count p [] = refl
unnamed-count p (takes q name frame word ∷ ds) = omega (arith, unnamed-count p ds)
unnamed-count p (looks_back peer count ∷ ds) = omega (arith, unnamed-count p ds)
unnamed-count p (puts_owed peer frame ∷ ds) = omega (arith, unnamed-count p ds)
unnamed-count p (looks_ahead peer count ∷ ds) = omega (arith, unnamed-count p ds)
unnamed-count p (calls node call a ∷ ds) = omega (arith, unnamed-count p ds)

call-count : (p : ℕ) (o : Option CallLine) (r : RunState) (a : PlainAnswer) → count_taken p (call_deeds o r a) ≡ 0
call-count p None r a = refl
call-count p (Some line) r a = refl

module _ (lines : List CallLine) (p : ℕ) (before : List PlainEntry) (r : RunState) where
  entry-count : (e : PlainEntry) → takes_in p (deeds_by lines r e) ≡ count_taken p (entry_deeds lines before r e)
  entry-count (turned vs) = ap (takes_in p) (sym (turn_unnamed before vs)) ∙ unnamed-count p (flat_map (named_deeds before) vs)
  entry-count (put peer frame) = refl
  entry-count (again word) = sym (call-count p (next_line lines r) r (refuses word))
  entry-count (waits k) = refl
  entry-count (called k a) = takes-count p (call_deeds (next_line lines r) r a)

  pub counts-more : (bd : List Deed) (e : PlainEntry) → length (taken_from p before) ≡ takes_in p bd → length (taken_from p (before ++ e ∷ [])) ≡ takes_in p (bd ++ deeds_by lines r e)
  counts-more bd e same =
      let more : taken_from p (before ++ e ∷ []) ≡ taken_from p before ++ map (λ t. t.frame) (frames_in p e) =
      ap (map (λ t. t.frame)) (flat_map-append (frames_in p) before (e ∷ []) ∙ ap (λ ts. takes_from p before ++ ts) (append-nil (frames_in p e))) ∙ map-append (λ t. t.frame) (takes_from p before) (frames_in p e) in
      ap length more
      ∙ (length-append (taken_from p before) (map (λ t. t.frame) (frames_in p e))
      ∙ (ap₂ (λ a b. a + b) same (ap length (sym (entry-take p lines before r e)) ∙ (sym (count-takes p (entry_deeds lines before r e)) ∙ sym (entry-count e)))
      ∙ sym (takes-join p bd (deeds_by lines r e))))

-- ---- an entry

-- deeds that give the same back and lead to the same state
record Alike (q : ℕ) (t : DomainState) (xs ys : List Deed) : Type 0 where
  pub gives : along (names_given q) t xs ≡ along (names_given q) t ys
  pub leads : after_deeds t xs ≡ after_deeds t ys

same-deeds : (q : ℕ) (t : DomainState) (xs ys : List Deed) → xs ≡ ys → Alike q t xs ys
same-deeds q t xs ys is = record { gives = ap (along (names_given q) t) is; leads = ap (after_deeds t) is }

call-placed : (bd : List Deed) (o : Option CallLine) (r : RunState) (a : PlainAnswer) → placed bd (call_deeds o r a) ≡ call_deeds o r a
call-placed bd None r a = refl
call-placed bd (Some line) r a = refl

call-leads : (t : DomainState) (o : Option CallLine) (r : RunState) (a b : PlainAnswer) → after_deeds t (call_deeds o r a) ≡ after_deeds t (call_deeds o r b)
call-leads t None r a b = refl
call-leads t (Some line) r a b = refl

module _ (lines : List CallLine) (q : ℕ) (before : List PlainEntry) (bd : List Deed) (r : RunState) (t : DomainState) (same : r.state ≡ unnamed t) (differ : Differ (numbers_in t.peers)) (counts : (p : ℕ) → length (taken_from p before) ≡ takes_in p bd) where
  entry-alike : (e : PlainEntry) → Allowed lines r (with_answer lines r e) → Alike q t (placed bd (deeds_by lines r e)) (entry_deeds lines before r e)
  entry-alike (turned vs) allowed =
      let named = turn-named before vs bd (subst Differ (sym (allowed.1.each_peer ∙ ap (λ (s : DomainState). numbers_in s.peers) same)) differ) (all_counted vs) in
      same-deeds q t (placed bd (turn_deeds vs)) (flat_map (named_deeds before) vs)
      (ap (placed bd) (sym (turn_unnamed before vs)) ∙ named-placed bd bd (flat_map (named_deeds before) vs) (λ p. takes-count p bd) named)
    where
      all_counted : (ws : List Visit) → AllByRecursion (λ v. length (taken_from v.peer before) ≡ count_taken v.peer bd) ws
      all_counted [] = tt
      all_counted (w ∷ ws) = (counts w.peer ∙ takes-count w.peer bd, all_counted ws)
  entry-alike (put peer frame) allowed = same-deeds q t [] [] refl
  entry-alike (again word) allowed =
      let line : CallLine = allowed.0 in
      let call = call_at r line in
      let told : refuses word ≡ answer t line.node call = allowed.2 ∙ (ap (λ s. answer s line.node call) same ∙ answer-renamed no_names t line.node call) in
      let refused : refusal t line.node call ≡ Some word = refused-is t line.node word call told in
      subst (λ o. Alike q t [] (call_deeds o r (refuses word))) (sym allowed.1)
      (record {
        gives = ap (λ o. frames_from q (unless_refused o [] (success_returned t line.node call)) ++ []) (sym refused);
        leads = ap (λ o. changed_all t (unless_refused o [] (success_changes t line.node call))) (sym refused);
      })
  entry-alike (waits k) allowed = same-deeds q t [] [] refl
  entry-alike (called k a) allowed = same-deeds q t _ _ (call-placed bd (next_line lines r) r a)

  settled-leads : (e : PlainEntry) → after_deeds t (entry_deeds lines before r (with_answer lines r e)) ≡ after_deeds t (entry_deeds lines before r e)
  settled-leads (turned vs) = refl
  settled-leads (put peer frame) = refl
  settled-leads (again word) = refl
  settled-leads (waits k) = refl
  settled-leads (called k a) = call-leads t (next_line lines r) r _ a

-- ---- a run

pub places-alike : (lines : List CallLine) (q : ℕ) (before : List PlainEntry) (bd : List Deed) (r : RunState) (t : DomainState) (es : List PlainEntry) → r.state ≡ unnamed t → Differ (numbers_in t.peers) → ((p : ℕ) → length (taken_from p before) ≡ takes_in p bd) → AllAllowed lines r (with_answers lines r es)
    → along (names_given q) t (placed bd (deeds_on lines r es)) ≡ along (names_given q) t (deeds_along lines before r es)
places-alike lines q before bd r t [] same differ counts allowed = refl
places-alike lines q before bd r t (e ∷ es) same differ counts allowed =
    let ds : List Deed = deeds_by lines r e in
    let fs : List Deed = entry_deeds lines before r e in
    let next : RunState = after lines r e in
    let u : DomainState = after_deeds t fs in
    let alike : Alike q t (placed bd ds) fs = entry-alike lines q before bd r t same differ counts e allowed.0 in
    let answered = after-answer lines r e in
    let there : next.state ≡ unnamed u =
    ap (λ (n : RunState). n.state) (sym answered) ∙ (left-leads lines before r t (with_answer lines r e) same allowed.0 ∙ ap unnamed (settled-leads lines q before bd r t same differ counts e)) in
    let rest = places-alike lines q (before ++ e ∷ []) (bd ++ ds) next u es there (subst Differ (sym (deeds-numbers t fs)) differ) (λ p. counts-more lines p before r bd e (counts p))
    (subst (λ (n : RunState). AllAllowed lines n (with_answers lines next es)) answered allowed.1) in
    ap (along (names_given q) t) (placed-join bd ds (deeds_on lines next es))
    ∙ (along-join (names_given q) t (placed bd ds) (placed (bd ++ ds) (deeds_on lines next es))
    ∙ (ap₂ (λ (xs : List ℕ) (x : DomainState). xs ++ along (names_given q) x (placed (bd ++ ds) (deeds_on lines next es))) alike.gives alike.leads
    ∙ (ap (λ xs. along (names_given q) t fs ++ xs) rest
    ∙ sym (along-join (names_given q) t fs (deeds_along lines (before ++ e ∷ []) next es)))))

-- as many are taken as the entries tell
pub counts-all : (lines : List CallLine) (p : ℕ) (before : List PlainEntry) (bd : List Deed) (r : RunState) (es : List PlainEntry) → length (taken_from p before) ≡ takes_in p bd → length (taken_from p (before ++ es)) ≡ takes_in p (bd ++ deeds_on lines r es)
counts-all lines p before bd r [] same = ap (λ (xs : List PlainEntry). length (taken_from p xs)) (append-nil before) ∙ (same ∙ ap (takes_in p) (sym (append-nil bd)))
counts-all lines p before bd r (e ∷ es) same =
    let next : RunState = after lines r e in
    ap (λ (xs : List PlainEntry). length (taken_from p xs)) (sym (append_assoc before (e ∷ []) es))
    ∙ (counts-all lines p (before ++ e ∷ []) (bd ++ deeds_by lines r e) next es (counts-more lines p before r bd e same)
    ∙ ap (takes_in p) (append_assoc bd (deeds_by lines r e) (deeds_on lines next es)))

-- answers that are due take no frames
pub taken-answers : (lines : List CallLine) (p : ℕ) (r : RunState) (es : List PlainEntry) → takes_from p (with_answers lines r es) ≡ takes_from p es
taken-answers lines p r [] = refl
taken-answers lines p r (e ∷ es) = ap₂ (λ (xs ys : List Taken). xs ++ ys) (one e) (taken-answers lines p (after lines r e) es)
  where
    one : (e : PlainEntry) → frames_in p (with_answer lines r e) ≡ frames_in p e
    one (turned vs) = refl
    one (put peer frame) = refl
    one (again word) = refl
    one (waits k) = refl
    one (called k a) = refl
