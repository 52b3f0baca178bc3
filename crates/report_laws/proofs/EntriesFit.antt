-- The entries of a run tell of lines of entries, where the frames that it takes are bytes.
use Rattle.std.proofs.Common.{◌≡◌, ℕ, ◌+◌, ◌^◌, ◌<◌, ◌≤◌, Bool, true, false, cond, List, [], ◌∷◌, ◌++◌, map, length, Some, option_map, refl, sym, ap, subst, ◌∙◌, arith, eq-eqb}
use Rattle.std.specs.Prelude.{◌==◌}
use Rattle.std.specs.List.{AllByRecursion, flat_map}
use Rattle.board_model.specs.declared.scenario.CallLine.{CallLine}
use Rattle.board_model.specs.Journal.{PlainEntry, turned, put, again, waits, called, Visit, Taken, Line, back_line, put_line, see_line, looked, taken_line, visit_lines}
use Rattle.board_model.specs.LinkedBoard.{HasFitArguments}
use Rattle.board_model.specs.State.{DomainState}
use Rattle.board_model.specs.Step.{RunState, next_line, call_at, effect_of_line, after}
use Rattle.board_model.specs.Traffic.{visits_to, takes_in, takes_from}
use Rattle.board_model.specs.Turn.{IsVisit, AreVisits, IsTurn, after_visit, after_turn}
use Rattle.board_model.proofs.MessageAlls.{all-at, all-append, all-parts}
use Rattle.board_model.proofs.RunDeeds.{AllAllowed}
use Rattle.mc_journal.specs.EntryText.{AreBytes, IsEntryLine, FitsAnswer}
use Rattle.report_text.proofs.CallsDue.{next-below}
use Rattle.report_text.proofs.TurnsDue.{Sound, sound-visit, sound-call, IsKnown, all-known, all-peers}
use Rattle.report_laws.proofs.AnswersFit.{answer-fits}
use Rattle.report_laws.proofs.CallsFit.{call-fits}
use Rattle.report_laws.proofs.DeedsFit.{TakesBytes, turn-fits, effect-fits}
use Rattle.report_laws.proofs.JoinedFit.{FitsEntry}
use Rattle.report_laws.proofs.PutsFit.{OwesBytes, FitsPuts, turn-sound}
use Rattle.report_laws.proofs.QueuesFit.{FromPeers, turn-from, effect-from, queue-short}
use Rattle.report_laws.proofs.StatesFit.{Fits}

-- ---- the lines of a visit

looked-fits : (line : ℕ → Line) (n : ℕ) → IsEntryLine (line n) → AllByRecursion IsEntryLine (looked line n)
looked-fits line n h = go (n == 0)
  where
    go : (b : Bool) → AllByRecursion IsEntryLine (cond b [] (line n ∷ []))
    go true = tt
    go false = (h, tt)

put-lines : (p : ℕ) (fs : List (List ℕ)) → p < 2 ^ 8 → AllByRecursion AreBytes fs → AllByRecursion IsEntryLine (map (put_line p) fs)
put-lines p [] few bytes = tt
put-lines p (f ∷ fs) few bytes = ((few, bytes.0), put-lines p fs few bytes.1)

-- a frame that is taken is bytes
abbrev pub IsOfBytes : Taken → Type 0
IsOfBytes t = AreBytes t.frame

take-lines : (p : ℕ) (ts : List Taken) → p < 2 ^ 8 → AllByRecursion IsOfBytes ts → AllByRecursion IsEntryLine (map (taken_line p) ts)
take-lines p [] few bytes = tt
take-lines p (t ∷ ts) few bytes = ((few, bytes.0), take-lines p ts few bytes.1)

module _ (peers : List ℕ) where
  visit-fits : (s : DomainState) (v : Visit) → Sound peers s → IsVisit s v → v.peer < 2 ^ 8 → OwesBytes v → TakesBytes v → AllByRecursion IsEntryLine (visit_lines v)
  visit-fits s v h is few owes takes =
      let size : is.at.size < 2 ^ 32 = h.small v.peer is.at.size (ap (option_map (λ p. p.size)) is.known) in
      let behind : List Line = map (taken_line v.peer) v.takes in
      let sees : List Line = looked (see_line v.peer) v.see ++ behind in
      all-append IsEntryLine (looked (back_line v.peer) v.back) (map (put_line v.peer) v.owed ++ sees) (looked-fits (back_line v.peer) v.back (few, omega (arith, size, is.back_fits)))
      (all-append IsEntryLine (map (put_line v.peer) v.owed) sees (put-lines v.peer v.owed few owes)
      (all-append IsEntryLine (looked (see_line v.peer) v.see) behind (looked-fits (see_line v.peer) v.see (few, omega (arith, size, is.see_fits))) (take-lines v.peer v.takes few takes)))

  visits-fit : (s : DomainState) (vs : List Visit) → Sound peers s → AreVisits s vs → AllByRecursion (λ v. v.peer < 2 ^ 8) vs → AllByRecursion OwesBytes vs → AllByRecursion TakesBytes vs → AllByRecursion IsEntryLine (flat_map visit_lines vs)
  visits-fit s [] h are few owe take = tt
  visits-fit s (v ∷ vs) h are few owe take =
      all-append IsEntryLine (visit_lines v) (flat_map visit_lines vs) (visit-fits s v h are.0 few.0 owe.0 take.0)
      (visits-fit (after_visit s v) vs (sound-visit peers s v h are.0) are.1 few.1 owe.1 take.1)

  -- ---- the frames that a turn takes from each peer

  abbrev TakenFrom : List Visit → Type 0
  TakenFrom vs = (n : ℕ) → IsKnown peers n → AllByRecursion IsOfBytes (flat_map (λ v. v.takes) (visits_to n vs))

  first-takes : (v : Visit) (vs : List Visit) → IsKnown peers v.peer → TakenFrom (v ∷ vs) → TakesBytes v
  first-takes v vs known all = go (v.peer == v.peer) (eq-eqb v.peer v.peer refl) (all v.peer known)
    where
      go : (b : Bool) → b ≡ true → AllByRecursion IsOfBytes (flat_map (λ w. w.takes) (cond b (v ∷ visits_to v.peer vs) (visits_to v.peer vs))) → TakesBytes v
      go true is bytes = (all-parts IsOfBytes v.takes (flat_map (λ w. w.takes) (visits_to v.peer vs)) bytes).0
      go false is bytes = absurd cc

  rest-takes : (v : Visit) (vs : List Visit) → TakenFrom (v ∷ vs) → TakenFrom vs
  rest-takes v vs all n known = go (v.peer == n) (all n known)
    where
      go : (b : Bool) → AllByRecursion IsOfBytes (flat_map (λ w. w.takes) (cond b (v ∷ visits_to n vs) (visits_to n vs))) → AllByRecursion IsOfBytes (flat_map (λ w. w.takes) (visits_to n vs))
      go true bytes = (all-parts IsOfBytes v.takes (flat_map (λ w. w.takes) (visits_to n vs)) bytes).1
      go false bytes = bytes

  each-takes : (vs : List Visit) → AllByRecursion (λ v. IsKnown peers v.peer) vs → TakenFrom vs → AllByRecursion TakesBytes vs
  each-takes [] known all = tt
  each-takes (v ∷ vs) known all = (first-takes v vs known.0 all, each-takes vs known.1 (rest-takes v vs all))

  -- ---- what holds in each state of a run

  pub record Good (s : DomainState) : Type 0 where
    pub sound : Sound peers s
    pub fits : Fits s
    pub from : FromPeers peers s

  module _ (few : AllByRecursion (λ n. n < 2 ^ 8) peers) (count : length peers ≤ 8) (script : List CallLine) (fit : AllByRecursion (λ c. HasFitArguments c.call) script) (short : length script < 2 ^ 32) where
    number-fits : (r : RunState) (line : CallLine) (k : ℕ) → next_line script r ≡ Some line → k ≡ r.lines_called + 1 → k < 2 ^ 32
    number-fits r line k next is = let le = next-below script r line next in omega (arith, le, short, is)

    line-fits : (r : RunState) (line : CallLine) → next_line script r ≡ Some line → HasFitArguments line.call
    line-fits r line next = all-at (λ (c : CallLine). HasFitArguments c.call) script r.lines_called line fit next

    called-good : (r : RunState) (line : CallLine) → next_line script r ≡ Some line → Good r.state → Good (effect_of_line (next_line script r) r)
    called-good r line next h = subst (λ o. Good (effect_of_line o r)) (sym next) (record {
      sound = sound-call peers r.state line.node (call_at r line) h.sound;
      fits = effect-fits r.state h.fits line.node (call_at r line);
      from = effect-from peers r.state line.node (call_at r line) h.from;
    })

    abbrev AllTaken : List PlainEntry → Type 0
    AllTaken es = (n : ℕ) → IsKnown peers n → AllByRecursion IsOfBytes (takes_from n es)

    later : (e : PlainEntry) (es : List PlainEntry) → AllTaken (e ∷ es) → AllTaken es
    later e es all n known = (all-parts IsOfBytes (takes_in n e) (takes_from n es) (all n known)).1

    pub entries-fit : (r : RunState) (es : List PlainEntry) → Good r.state → AllAllowed script r es → AllByRecursion FitsPuts es → AllTaken es → AllByRecursion FitsEntry es
    entries-fit r [] h allowed put_all all = tt
    entries-fit r (turned vs ∷ es) h allowed put_all all =
        let turn : IsTurn r.state vs = allowed.0.1 in
        let each : map (λ v. v.peer) vs ≡ peers = turn.each_peer ∙ h.sound.numbers in
        let known = all-peers (IsKnown peers) vs peers each (all-known peers) in
        let takes = each-takes vs known (λ n is. (all-parts IsOfBytes (takes_in n (turned vs)) (takes_from n es) (all n is)).0) in
        let next : Good (after_turn r.state vs) = record {
          sound = turn-sound peers r.state vs turn.allowed h.sound;
          fits = turn-fits r.state vs takes h.fits;
          from = turn-from peers r.state vs known h.from;
        } in
        (visits-fit r.state vs h.sound turn.allowed (all-peers (λ n. n < 2 ^ 8) vs peers each few) put_all.0 takes, entries-fit (after script r (turned vs)) es next allowed.1 put_all.1 (later (turned vs) es all))
    entries-fit r (put peer frame ∷ es) h allowed put_all all = (put_all.0, entries-fit (after script r (put peer frame)) es h allowed.1 put_all.1 (later (put peer frame) es all))
    entries-fit r (again word ∷ es) h allowed put_all all = (tt, entries-fit (after script r (again word)) es h allowed.1 put_all.1 (later (again word) es all))
    entries-fit r (waits k ∷ es) h allowed put_all all =
        (number-fits r allowed.0.0 k allowed.0.1 allowed.0.2, entries-fit (after script r (waits k)) es h allowed.1 put_all.1 (later (waits k) es all))
    entries-fit r (called k a ∷ es) h allowed put_all all =
        let line : CallLine = allowed.0.0 in
        let next : next_line script r ≡ Some line = allowed.0.1 in
        let answer_is = answer-fits r.state h.fits (queue-short peers r.state h.sound h.from count) line.node (call_at r line) (call-fits r.labels r.state line.call (line-fits r line next)).1 in
        ((number-fits r line k next allowed.0.2, subst FitsAnswer (sym allowed.0.3) answer_is), entries-fit (after script r (called k a)) es (called-good r line next h) allowed.1 put_all.1 (later (called k a) es all))
