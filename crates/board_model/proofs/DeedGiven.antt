-- As many places are given back to a peer as the run gives buffers back to it.
use Rattle.std.proofs.Common.{◌≡◌, ℕ, ◌+◌, Bool, true, false, cond, List, [], ◌∷◌, ◌++◌, map, length, refl, sym, ap, ap₂, ◌∙◌, arith, length-append}
use Rattle.std.specs.Prelude.{◌==◌, Option, None}
use Rattle.std.proofs.lemmas.List.{append-nil, map-append}
use Rattle.std.specs.List.{flat_map}
use Rattle.board_model.specs.declared.scenario.CallLine.{CallLine}
use Rattle.board_model.specs.declared.scenario.Scenario.{Scenario}
use Rattle.board_model.specs.Scenario.{script}
use Rattle.board_model.specs.LinkedBoard.{IsLinkedBoard}
use Rattle.board_model.specs.Journal.{PlainEntry, turned, put, again, waits, called, refuses, Visit}
use Rattle.board_model.specs.State.{DomainState, frames_from, held_of}
use Rattle.board_model.specs.Dealing.{keeps_buffer}
use Rattle.board_model.specs.Answer.{answer, unless_refused}
use Rattle.board_model.specs.Step.{RunState, call_at, Allowed, after}
use Rattle.board_model.specs.Run.{start, left_by, IsDomainRun}
use Rattle.board_model.specs.Traffic.{taken_from, returned_by, given_in, given}
use Rattle.board_model.specs.Board.{DomainJournal}
use Rattle.board_model.specs.CallChanges.{success_returned, returned}
use Rattle.board_model.specs.Deeds.{Deed, looks_back, puts_owed, looks_ahead, takes, calls, after_deed, after_deeds, along}
use Rattle.board_model.specs.Turn.{nameless, visit_deeds}
use Rattle.board_model.specs.JournalDeeds.{names_from, named_deeds, call_deeds, entry_deeds, deeds_along, opened}
use Rattle.board_model.specs.Given.{places_given}
use Rattle.board_model.specs.Returns.{names_given, given_by_frame}
use Rattle.board_model.specs.Parts.{named_so, names_before, names_ended, coming_from}
use Rattle.board_model.specs.DomainCall.{DomainCall}
use Rattle.mc_base.specs.declared.fate.Fate.{Fate}
use Rattle.mc_base.specs.declared.refusal.Refusal.{Refusal}
use Rattle.board_model.specs.Unnamed.{no_names, unnamed}
use Rattle.board_model.proofs.DeedJoins.{along-join}
use Rattle.board_model.proofs.RunDeeds.{AllAllowed, allowed-all, left-leads}
use Rattle.board_model.proofs.RefusedCalls.{refused-is}
use Rattle.board_model.proofs.RenamedGiven.{returned-renamed}
use Rattle.board_model.proofs.UnnamedCounts.{frames_unnamed, held-frames-unnamed}
use Rattle.board_model.proofs.UnnamedDeeds.{unnamed_deed, deed-unnamed, visit-unnamed}
use Rattle.board_model.proofs.RenamedCalls.{answer-renamed}

-- a call that answers with a word gives back nothing
none_returned : (t : DomainState) (node : ℕ) (word : Refusal) (call : DomainCall) → refuses word ≡ answer t node call → returned t node call ≡ []
none_returned t node word call is = ap (λ o. unless_refused o [] (success_returned t node call)) (refused-is t node word call is)

-- ---- a deed gives back as many buffers where frames have no names

-- by how many were held, whatever their names
given_many : (joins keeps : Bool) (held : List ℕ) (name : ℕ) → length (names_ended joins held ++ cond keeps [] (names_before joins held ++ name ∷ [])) ≡ cond joins 0 (length held) + cond keeps 0 (cond joins (length held) 0 + 1)
given_many true true held name = refl
given_many true false held name = omega (arith, length-append held (name ∷ []))
given_many false true held name = omega (arith, length-append held [])
given_many false false held name = omega (arith, length-append held (name ∷ []))

module _ (p : ℕ) where
  frame_given : (t : DomainState) (q : ℕ) (name : Option ℕ) (frame : List ℕ) (word : Fate) → length (given_by_frame t q name frame word) ≡ length (given_by_frame (unnamed t) q None frame word)
  frame_given t q name frame word =
      let joins : Bool = (coming_from t q frame).joins in
      given_many joins (keeps_buffer word) (held_of t q) (named_so name)
      ∙ (ap (λ n. cond joins 0 n + cond (keeps_buffer word) 0 (cond joins n 0 + 1)) (sym (held-frames-unnamed q t.held))
      ∙ sym (given_many joins (keeps_buffer word) (held_of (unnamed t) q) (named_so None)))

  deed_given : (t : DomainState) (d : Deed) → length (names_given p t d) ≡ length (names_given p (unnamed t) (unnamed_deed d))
  deed_given t (takes q name frame word) = go (q == p)
    where
      go : (b : Bool) → length (cond b (given_by_frame t q name frame word) []) ≡ length (cond b (given_by_frame (unnamed t) q None frame word) [])
      go true = frame_given t q name frame word
      go false = refl
  deed_given t (calls node call a) = sym (frames_unnamed p (returned t node call)) ∙ ap (λ is. length (frames_from p is)) (sym (returned-renamed no_names t node call))
  deed_given t (looks_back q count) = refl
  deed_given t (puts_owed q frame) = refl
  deed_given t (looks_ahead q count) = refl

  along_given : (t : DomainState) (ds : List Deed) → length (along (names_given p) t ds) ≡ length (along (names_given p) (unnamed t) (map unnamed_deed ds))
  along_given t [] = refl
  along_given t (d ∷ ds) =
      omega (
        arith,
        length-append (names_given p t d) (along (names_given p) (after_deed t d) ds),
        length-append (names_given p (unnamed t) (unnamed_deed d)) (along (names_given p) (after_deed (unnamed t) (unnamed_deed d)) (map unnamed_deed ds)),
        deed_given t d,
        along_given (after_deed t d) ds,
        ap (λ s. length (along (names_given p) s (map unnamed_deed ds))) (deed-unnamed t d),
      )

  turn_unnamed : (before : List PlainEntry) (vs : List Visit) → map unnamed_deed (flat_map (named_deeds before) vs) ≡ flat_map (visit_deeds nameless) vs
  turn_unnamed before [] = refl
  turn_unnamed before (v ∷ vs) =
      map-append unnamed_deed (named_deeds before v) (flat_map (named_deeds before) vs)
      ∙ ap₂ (λ (xs ys : List Deed). xs ++ ys) (visit-unnamed (names_from (length (taken_from v.peer before))) v) (turn_unnamed before vs)

  -- ---- an entry

  module _ (lines : List CallLine) where
    entry_given : (before : List PlainEntry) (r : RunState) (t : DomainState) (e : PlainEntry) → r.state ≡ unnamed t → Allowed lines r e → length (along (names_given p) t (entry_deeds lines before r e)) ≡ given_in lines r p e
    entry_given before r t (turned vs) same allowed =
        along_given t (flat_map (named_deeds before) vs) ∙ ap₂ (λ s ds. length (along (names_given p) s ds)) (sym same) (turn_unnamed before vs)
    entry_given before r t (put q frame) same allowed = refl
    entry_given before r t (again word) same allowed =
        let line : CallLine = allowed.0 in
        let told : refuses word ≡ answer t line.node (call_at r line) = allowed.2 ∙ (ap (λ s. answer s line.node (call_at r line)) same ∙ answer-renamed no_names t line.node (call_at r line)) in
        ap (λ o. length (along (names_given p) t (call_deeds o r (refuses word)))) allowed.1
        ∙ ap (λ items. length (frames_from p items ++ [])) (none_returned t line.node word (call_at r line) told)
    entry_given before r t (waits k) same allowed = refl
    entry_given before r t (called k a) same allowed =
        let line : CallLine = allowed.0 in
        ap (λ o. length (along (names_given p) t (call_deeds o r a))) allowed.1
        ∙ (ap length (append-nil (frames_from p (returned t line.node (call_at r line))))
        ∙ (deed_given t (calls line.node (call_at r line) a)
        ∙ (ap (λ s. length (frames_from p (returned s line.node (call_at r line)))) (sym same)
        ∙ ap (λ o. length (frames_from p (returned_by o r))) (sym allowed.1))))

    -- ---- a run

    pub run-given : (before : List PlainEntry) (r : RunState) (t : DomainState) (es : List PlainEntry) → r.state ≡ unnamed t → AllAllowed lines r es →
        length (along (names_given p) t (deeds_along lines before r es)) ≡ given lines r p es
    run-given before r t [] same allowed = refl
    run-given before r t (e ∷ es) same allowed =
        let ds : List Deed = entry_deeds lines before r e in
        let rest : List Deed = deeds_along lines (before ++ e ∷ []) (after lines r e) es in
        ap length (along-join (names_given p) t ds rest)
        ∙ (length-append (along (names_given p) t ds) (along (names_given p) (after_deeds t ds) rest)
        ∙ ap₂ (λ a b. a + b) (entry_given before r t e same allowed.0)
        (run-given (before ++ e ∷ []) (after lines r e) (after_deeds t ds) es (left-leads lines before r t e same allowed.0) allowed.1))

pub given_are : (s : Scenario) (j : DomainJournal) → IsLinkedBoard s → IsDomainRun s j.line j.entries → (peer : ℕ) → length (places_given s j peer) ≡ given (script s j.line.domain) (start s j.line) peer j.entries
given_are s j board run peer =
    run-given peer (script s j.line.domain) [] (start s j.line) (opened s j) j.entries refl
    (allowed-all (script s j.line.domain) (start s j.line) (left_by s j.line j.entries) j.entries run.steps)
