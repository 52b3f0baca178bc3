-- Which buffers a journal gives back does not depend on the answers of its calls.
use Rattle.std.proofs.Common.{◌≡◌, ℕ, ◌+◌, List, [], ◌∷◌, ◌++◌, length, Option, Some, None, refl, sym, ap, ap₂, ◌∙◌, arith, length-append}
use Rattle.std.specs.List.{flat_map}
use Rattle.std.proofs.lemmas.List.{length-map}
use Rattle.std.proofs.lemmas.List.Concat.{flat_map-append}
use Rattle.board_model.specs.declared.scenario.CallLine.{CallLine}
use Rattle.board_model.specs.Journal.{PlainAnswer, PlainEntry, turned, put, again, waits, called, refuses, Visit}
use Rattle.board_model.specs.State.{DomainState}
use Rattle.board_model.specs.Step.{RunState, after, next_line}
use Rattle.board_model.specs.Traffic.{taken_from, takes_in, takes_from}
use Rattle.board_model.specs.Deeds.{Deed, after_deeds, along}
use Rattle.board_model.specs.Turn.{visit_deeds}
use Rattle.board_model.specs.JournalDeeds.{names_from, named_deeds, call_deeds, deeds_along}
use Rattle.board_model.specs.Returns.{names_given}
use Rattle.board_model.proofs.DeedJoins.{along-join}
use Rattle.report_text.specs.RightRuns.{answered, with_answers}

taken-more : (q : ℕ) (before : List PlainEntry) (e : PlainEntry) → length (taken_from q (before ++ e ∷ [])) ≡ length (taken_from q before) + length (takes_in q e)
taken-more q before e =
    omega (
      arith,
      ap length (flat_map-append (takes_in q) before (e ∷ [])),
      length-append (takes_from q before) (takes_in q e ++ []),
      length-append (takes_in q e) [],
      length-map (takes_from q (before ++ e ∷ [])) (λ t. t.frame),
      length-map (takes_from q before) (λ t. t.frame),
    )

-- as many frames were taken from each peer
abbrev pub TakeSame : List PlainEntry → List PlainEntry → Type 0
TakeSame before others = (q : ℕ) → length (taken_from q before) ≡ length (taken_from q others)

next-same : (before others : List PlainEntry) (e d : PlainEntry) → ((q : ℕ) → takes_in q e ≡ takes_in q d) → TakeSame before others → TakeSame (before ++ e ∷ []) (others ++ d ∷ [])
next-same before others e d takes same q = omega (arith, taken-more q before e, taken-more q others d, same q, ap length (takes q))

turn-same : (before others : List PlainEntry) → TakeSame before others → (vs : List Visit) → flat_map (named_deeds before) vs ≡ flat_map (named_deeds others) vs
turn-same before others same [] = refl
turn-same before others same (v ∷ vs) = ap₂ (λ (xs ys : List Deed). xs ++ ys) (ap (λ n. visit_deeds (names_from n) v) (same v.peer)) (turn-same before others same vs)

module _ (lines : List CallLine) (p : ℕ) where
  abbrev pub places : DomainState → List Deed → List ℕ
  places t ds = along (names_given p) t ds

  -- a call gives back the same and leaves the same, whatever it answers
  call-places : (o : Option CallLine) (r : RunState) (t : DomainState) (a b : PlainAnswer) → places t (call_deeds o r a) ≡ places t (call_deeds o r b)
  call-places None r t a b = refl
  call-places (Some line) r t a b = refl

  call-after : (o : Option CallLine) (r : RunState) (t : DomainState) (a b : PlainAnswer) → after_deeds t (call_deeds o r a) ≡ after_deeds t (call_deeds o r b)
  call-after None r t a b = refl
  call-after (Some line) r t a b = refl

  both-parts : (t : DomainState) (ds es rest others : List Deed) → places t ds ≡ places t es → after_deeds t ds ≡ after_deeds t es → places (after_deeds t es) rest ≡ places (after_deeds t es) others → places t (ds ++ rest) ≡ places t (es ++ others)
  both-parts t ds es rest others first left later =
      along-join (names_given p) t ds rest
      ∙ ap₂ (λ (xs ys : List ℕ). xs ++ ys) first (ap (λ (u : DomainState). places u rest) left ∙ later)
      ∙ sym (along-join (names_given p) t es others)

  -- a journal with the answers that are due gives back the same places
  pub places-answers : (before others : List PlainEntry) (r : RunState) (t : DomainState) (es : List PlainEntry) → TakeSame before others → places t (deeds_along lines before r (with_answers lines r es)) ≡ places t (deeds_along lines others r es)
  places-answers before others r t [] same = refl
  places-answers before others r t (turned vs ∷ es) same =
      let ds = turn-same before others same vs in
      both-parts t (flat_map (named_deeds before) vs) (flat_map (named_deeds others) vs) _ _ (ap (places t) ds) (ap (after_deeds t) ds)
      (places-answers (before ++ turned vs ∷ []) (others ++ turned vs ∷ []) (after lines r (turned vs)) (after_deeds t (flat_map (named_deeds others) vs)) es (next-same before others (turned vs) (turned vs) (λ q. refl) same))
  places-answers before others r t (put q f ∷ es) same = places-answers (before ++ put q f ∷ []) (others ++ put q f ∷ []) (after lines r (put q f)) t es (next-same before others (put q f) (put q f) (λ k. refl) same)
  places-answers before others r t (again w ∷ es) same =
      let ds = call_deeds (next_line lines r) r (refuses w) in
      both-parts t ds ds _ _ refl refl
      (places-answers (before ++ again w ∷ []) (others ++ again w ∷ []) (after lines r (again w)) (after_deeds t ds) es (next-same before others (again w) (again w) (λ k. refl) same))
  places-answers before others r t (waits k ∷ es) same = places-answers (before ++ waits k ∷ []) (others ++ waits k ∷ []) (after lines r (waits k)) t es (next-same before others (waits k) (waits k) (λ q. refl) same)
  places-answers before others r t (called k a ∷ es) same =
      let due = answered (next_line lines r) r a in
      both-parts t (call_deeds (next_line lines r) r due) (call_deeds (next_line lines r) r a) _ _ (call-places (next_line lines r) r t due a) (call-after (next_line lines r) r t due a)
      (places-answers (before ++ called k due ∷ []) (others ++ called k a ∷ []) (after lines r (called k a)) (after_deeds t (call_deeds (next_line lines r) r a)) es (next-same before others (called k due) (called k a) (λ q. refl) same))
