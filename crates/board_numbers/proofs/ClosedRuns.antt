-- What receivers' closes dropped of a channel, along the journal of a domain: its lines tell as much as its deeds.
use Rattle.std.proofs.Common.{◌≡◌, ℕ, zero, suc, ◌+◌, ◌-◌, ◌≤◌, min, Bool, false, ◌&&◌, cond, List, [], ◌∷◌, ◌++◌, map, take, length, flat_map, Option, None, Some, refl, sym, ap, ◌∙◌, subst, arith, length-append}
use Rattle.std.specs.Prelude.{◌==◌, option_map, IsSome}
use Rattle.std.specs.List.{AllByRecursion}
use Rattle.board_model.specs.declared.scenario.CallLine.{CallLine}
use Rattle.board_model.specs.Answer.{answer, puts}
use Rattle.board_model.specs.Deeds.{Deed, looks_back, puts_owed, looks_ahead, takes, calls, MayDo, AllMayDo, after_deed, after_deeds, along}
use Rattle.board_model.specs.Journal.{PlainEntry, turned, put, again, waits, called, refuses, Visit, Taken, Line, noted, noted_all}
use Rattle.board_model.specs.JournalDeeds.{names_from, named_deeds, call_deeds, entry_deeds, deeds_along}
use Rattle.board_model.specs.State.{DomainState, owed_to}
use Rattle.board_model.specs.Step.{RunState, HasNoPuts, Allowed, MayCome, limit_of, next_line, call_at, after}
use Rattle.board_model.specs.Tallies.{number_told}
use Rattle.board_model.specs.Traffic.{taken_from}
use Rattle.board_model.specs.Turn.{AreVisits, takes_named, after_visit}
use Rattle.board_model.specs.Unnamed.{no_names, unnamed}
use Rattle.board_model.proofs.DeedJoins.{along-join}
use Rattle.board_model.proofs.HearingLaw.{deed_keeps}
use Rattle.board_model.proofs.MessageAlls.{all-append}
use Rattle.board_model.proofs.OrderSerials.{Serials, succeeds, all_succeed}
use Rattle.board_model.proofs.OrderSound.{Sound}
use Rattle.board_model.proofs.WaitCalls.{wait-puts}
use Rattle.board_model.proofs.RunDeeds.{AllAllowed, left-leads}
use Rattle.board_model.proofs.SendingDeeds.{ReadsDeed, AllRead}
use Rattle.board_model.proofs.RenamedCalls.{answer-renamed, puts-renamed}
use Rattle.board_numbers.specs.Items.{closes_channel}
use Rattle.board_numbers.proofs.ClosedDeeds.{ClosesNone, owed-closes-none, close_lost, closing_put, refused_told, closes-told}
use Rattle.board_numbers.proofs.ClosedLines.{closing, closed_in, OwesNone, again-closed, again-closing, turned-closed, turned-closing, put-closed, put-closing, called-closed, called-closing, waits-closed, waits-closing}
use Rattle.board_numbers.proofs.ReceiverEnds.{OwnedEnds, owned-deed}

-- ---- what holds at each deed

pub record IsFit (s : DomainState) (d : Deed) : Type 0 where
  pub sound : Sound s
  pub owned : OwnedEnds s
  pub reads : ReadsDeed s d

abbrev pub AllFit : DomainState → List Deed → Type 0
AllFit s [] = Unit {0}
AllFit s (d ∷ ds) = IsFit s d × AllFit (after_deed s d) ds

pub all-fit : (room : ℕ) (s : DomainState) (ds : List Deed) → AllMayDo s ds → Sound s → OwnedEnds s → Serials room s → all_succeed ds ≤ room → AllRead s ds → AllFit s ds
all-fit room s [] may sound owned serials few read = tt
all-fit room s (d ∷ ds) may sound owned serials few read =
    let keeps = deed_keeps 0 0 room s sound serials d may.0 (omega arith) in
    (record { sound = sound; owned = owned; reads = read.0 }, all-fit (room - succeeds d) (after_deed s d) ds may.1 keeps.sound (owned-deed s owned d) keeps.serials (omega arith) read.1)

fit_parts : (s : DomainState) (xs ys : List Deed) → AllFit s (xs ++ ys) → AllFit (after_deeds s xs) ys
fit_parts s [] ys fit = fit
fit_parts s (x ∷ xs) ys fit = fit_parts (after_deed s x) xs ys fit.1

fit_front : (s : DomainState) (xs ys : List Deed) → AllFit s (xs ++ ys) → AllFit s xs
fit_front s [] ys fit = tt
fit_front s (x ∷ xs) ys fit = (fit.0, fit_front (after_deed s x) xs ys fit.1)

-- ---- the deeds of a turn are no calls

abbrev IsNoCall : Deed → Type 0
IsNoCall (calls node call a) = ⊥
IsNoCall other = Unit {0}

owed_calls : (q : ℕ) (fs : List (List ℕ)) → AllByRecursion IsNoCall (map (puts_owed q) fs)
owed_calls q [] = tt
owed_calls q (f ∷ fs) = (tt, owed_calls q fs)

takes_calls : (name : ℕ → Option ℕ) (q : ℕ) (ts : List Taken) → AllByRecursion IsNoCall (takes_named name q ts)
takes_calls name q [] = tt
takes_calls name q (t ∷ ts) = (tt, takes_calls (λ k. name (k + 1)) q ts)

visit_calls : (before : List PlainEntry) (v : Visit) → AllByRecursion IsNoCall (named_deeds before v)
visit_calls before v =
    let name : ℕ → Option ℕ = names_from (length (taken_from v.peer before)) in
    (tt, all-append IsNoCall (map (puts_owed v.peer) v.owed) (looks_ahead v.peer v.see ∷ takes_named name v.peer v.takes) (owed_calls v.peer v.owed) (tt, takes_calls name v.peer v.takes))

turn_calls : (before : List PlainEntry) (vs : List Visit) → AllByRecursion IsNoCall (flat_map (named_deeds before) vs)
turn_calls before [] = tt
turn_calls before (v ∷ vs) = all-append IsNoCall (named_deeds before v) (flat_map (named_deeds before) vs) (visit_calls before v) (turn_calls before vs)

module _ (o n : ℕ) where
  one_none : (s : DomainState) (d : Deed) → IsNoCall d → close_lost o n s d ≡ []
  one_none s (calls node call a) no_call = absurd no_call
  one_none s (looks_back q k) no_call = refl
  one_none s (puts_owed q f) no_call = refl
  one_none s (looks_ahead q k) no_call = refl
  one_none s (takes q name frame word) no_call = refl

  none_lost : (s : DomainState) (ds : List Deed) → AllByRecursion IsNoCall ds → along (close_lost o n) s ds ≡ []
  none_lost s [] all = refl
  none_lost s (d ∷ ds) all = ap (λ xs. xs ++ along (close_lost o n) (after_deed s d) ds) (one_none s d all.0) ∙ none_lost (after_deed s d) ds all.1

  -- ---- what turns owe closes nothing

  first_none : (k : ℕ) (fs : List (List ℕ)) → AllByRecursion (ClosesNone n) fs → AllByRecursion (ClosesNone n) (take k fs)
  first_none zero fs all = tt
  first_none (suc k) [] all = tt
  first_none (suc k) (f ∷ fs) all = (all.0, first_none k fs all.1)

  visits_owe : (s : DomainState) (vs : List Visit) → AreVisits s vs → AllByRecursion (OwesNone o n) vs
  visits_owe s [] are = tt
  visits_owe s (v ∷ vs) are =
      let p = are.0.at in
      (subst (AllByRecursion (ClosesNone n)) (sym are.0.puts_due) (first_none (min 8 (p.free + v.back)) (owed_to s.number p) (owed-closes-none n s.number p)), visits_owe (after_visit s v) vs are.1)

  -- ---- frames that a call put before it answers

  abbrev pub closing_pending : Option (List (ℕ × List ℕ)) → Bool
  closing_pending None = false
  closing_pending (Some ps) = closing_put o n false ps

  last_put : (b : Bool) (ps : List (ℕ × List ℕ)) (p : ℕ) (f : List ℕ) → closing_put o n b (ps ++ (p, f) ∷ []) ≡ (p == o && closes_channel n f)
  last_put b [] p f = refl
  last_put b (x ∷ ps) p f = last_put (x.0 == o && closes_channel n x.1) ps p f

  more_put : (x : Option (List (ℕ × List ℕ))) (p : ℕ) (f : List ℕ) → IsSome x → closing_pending (option_map (λ ps. ps ++ (p, f) ∷ []) x) ≡ (p == o && closes_channel n f)
  more_put None p f some = absurd cc
  more_put (Some ps) p f some = last_put false ps p f

  -- before a wait no frame is put, and a wait puts none
  none_pending : (x : Option (List (ℕ × List ℕ))) → HasNoPuts x → closing_pending x ≡ false
  none_pending None none = refl
  none_pending (Some ps) none = ap (closing_put o n false) none

  pending_puts : (r : RunState) (line : CallLine) (m : Option ℕ) → limit_of line.call ≡ m → MayCome m r line → closing_pending r.put_since_turn ≡ closing_put o n false (puts r.state line.node (call_at r line))
  pending_puts r line None is may = ap closing_pending may
  pending_puts r line (Some limit) is may = none_pending r.put_since_turn may.0 ∙ sym (ap (closing_put o n false) (wait-puts r line limit is))

  -- ---- entries

  record Told (script : List CallLine) (lines : List Line) (before : List PlainEntry) (r : RunState) (t : DomainState) (e : PlainEntry) : Type 0 where
    closed : closed_in o n (noted lines e) ≡ closed_in o n lines + length (along (close_lost o n) t (entry_deeds script before r e))
    last : closing o n (noted lines e) ≡ closing_pending (after script r e).put_since_turn

  one_more : (xs : List (List ℕ)) → length (xs ++ []) ≡ length xs
  one_more xs = omega (arith, length-append xs [])

  entry_told : (script : List CallLine) (lines : List Line) (before : List PlainEntry) (r : RunState) (t : DomainState) (e : PlainEntry) → r.state ≡ unnamed t → Allowed script r e → AllFit t (entry_deeds script before r e) → closing o n lines ≡ closing_pending r.put_since_turn → Told script lines before r t e
  entry_told script lines before r t (turned vs) same allowed fit last =
      let none = visits_owe r.state vs allowed.1.allowed in
      record {
        closed = omega (arith, turned-closed o n lines vs none, ap (λ (xs : List (List ℕ)). length xs) (none_lost t (flat_map (named_deeds before) vs) (turn_calls before vs)));
        last = turned-closing o n lines vs none;
      }
  entry_told script lines before r t (put p f) same allowed fit last = record {
    closed = omega (arith, put-closed o n lines p f);
    last = put-closing o n lines p f ∙ sym (more_put r.put_since_turn p f allowed);
  }
  entry_told script lines before r t (again word) same allowed fit last =
      let line : CallLine = allowed.0 in
      let nothing : length (along (close_lost o n) t (call_deeds (next_line script r) r (refuses word))) ≡ 0
      = ap (λ x. length (along (close_lost o n) t (call_deeds x r (refuses word)))) allowed.1 ∙ (one_more (close_lost o n t (calls line.node (call_at r line) (refuses word))) ∙ refused_told o n t line.node (call_at r line) word) in
      record { closed = omega (arith, again-closed o n word lines, nothing); last = again-closing o n word lines }
  entry_told script lines before r t (waits k) same allowed fit last = record {
    closed = omega (arith, waits-closed o n lines k);
    last = waits-closing o n lines k ∙ sym (none_pending r.put_since_turn allowed.5);
  }
  entry_told script lines before r t (called k a) same allowed fit last =
      let line : CallLine = allowed.0 in
      let call = call_at r line in
      let may : MayDo t (calls line.node call a) = allowed.3 ∙ (ap (λ s. answer s line.node call) same ∙ answer-renamed no_names t line.node call) in
      let fits : IsFit t (calls line.node call a) = (subst (λ x. AllFit t (call_deeds x r a)) allowed.1 fit).0 in
      let told = closes-told o n t fits.sound fits.owned line.node call a may fits.reads in
      let put_so : closing o n lines ≡ closing_put o n false (puts t line.node call) = last ∙ (pending_puts r line (limit_of line.call) refl allowed.4 ∙ ap (closing_put o n false) (ap (λ s. puts s line.node call) same ∙ puts-renamed no_names t line.node call)) in
      let dropped : length (along (close_lost o n) t (call_deeds (next_line script r) r a)) ≡ cond (closing o n lines) (number_told a) 0
      = ap (λ x. length (along (close_lost o n) t (call_deeds x r a))) allowed.1 ∙ (one_more (close_lost o n t (calls line.node call a)) ∙ (sym told ∙ ap (λ b. cond b (number_told a) 0) (sym put_so))) in
      record { closed = omega (arith, called-closed o n lines k a, dropped); last = called-closing o n lines k a }

  pub run-told : (script : List CallLine) (lines : List Line) (before : List PlainEntry) (r : RunState) (t : DomainState) (es : List PlainEntry) → r.state ≡ unnamed t → AllAllowed script r es → AllFit t (deeds_along script before r es) → closing o n lines ≡ closing_pending r.put_since_turn →
      closed_in o n (noted_all lines es) ≡ closed_in o n lines + length (along (close_lost o n) t (deeds_along script before r es))
  run-told script lines before r t [] same allowed fit last = omega arith
  run-told script lines before r t (e ∷ es) same allowed fit last =
      let ds : List Deed = entry_deeds script before r e in
      let rest : List Deed = deeds_along script (before ++ e ∷ []) (after script r e) es in
      let here = entry_told script lines before r t e same allowed.0 (fit_front t ds rest fit) last in
      let later = run-told script (noted lines e) (before ++ e ∷ []) (after script r e) (after_deeds t ds) es (left-leads script before r t e same allowed.0) allowed.1 (fit_parts t ds rest fit) here.last in
      omega (arith, here.closed, later, ap (λ (xs : List (List ℕ)). length xs) (along-join (close_lost o n) t ds rest), length-append (along (close_lost o n) t ds) (along (close_lost o n) (after_deeds t ds) rest))
