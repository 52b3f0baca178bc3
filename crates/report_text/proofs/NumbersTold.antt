-- The numbers of journals are the same with the answers that are told and with those that are due.
use Rattle.std.proofs.Common.{◌≡◌, ℕ, List, [], ◌∷◌, ◌++◌, length, map, drop, Some, refl, sym, ap, ap₂, subst, ◌∙◌}
use Rattle.std.specs.Prelude.{decimal}
use Rattle.std.specs.List.{AllByRecursion, flat_map}
use Rattle.std.proofs.lemmas.List.{map-append, append_cancel_left, append_cancel_right}
use Rattle.std.proofs.lemmas.List.Concat.{flat_map-append}
use Rattle.board_model.specs.declared.scenario.CallLine.{CallLine}
use Rattle.board_model.specs.State.{DomainState}
use Rattle.board_model.specs.DomainCall.{DomainCall}
use Rattle.board_model.specs.Grammar.{spaced}
use Rattle.board_model.specs.Report.{answer_words, line_words, line_text}
use Rattle.board_model.specs.Journal.{PlainAnswer, refuses, Visit, PlainEntry, turned, put, again, waits, called, call_line}
use Rattle.board_model.specs.Deeds.{Deed, calls, after_deeds, along}
use Rattle.board_model.specs.Turn.{visit_deeds}
use Rattle.board_model.specs.JournalDeeds.{names_from, named_deeds, call_deeds, deeds_along}
use Rattle.board_model.specs.Step.{RunState, next_line, call_at, after}
use Rattle.board_model.specs.Traffic.{takes_in, taken_from}
use Rattle.board_model.proofs.DeedJoins.{after-join, along-join}
use Rattle.mc_journal.specs.EntryText.{FitsAnswer}
use Rattle.mc_journal.specs.Readers.{answer_in}
use Rattle.report_text.specs.RightRuns.{answered, with_answers}
use Rattle.report_text.proofs.StepsDue.{ReadsSo, Due}
use Rattle.report_text.proofs.DeedsTold.{Alike, due-alike}
use Rattle.mc_journal.proofs.LinesRead.{call_spaced}

-- an answer is the one that its text is read as
abbrev pub IsRead : PlainEntry → Type 0
IsRead (called k b) = (answer_in (spaced (answer_words b)) ≡ Some b) × FitsAnswer b
IsRead other = Unit {0}

pub words-same : (k : ℕ) (a b : PlainAnswer) → line_text (call_line k a) ≡ line_text (call_line k b) → spaced (answer_words a) ≡ spaced (answer_words b)
words-same k a b e =
    let lines : spaced (line_words (call_line k a)) ≡ spaced (line_words (call_line k b)) = append_cancel_right (spaced (line_words (call_line k a))) (spaced (line_words (call_line k b))) (10 ∷ []) e in
    let behind : decimal k ++ 32 ∷ spaced (answer_words a) ≡ decimal k ++ 32 ∷ spaced (answer_words b) = ap (drop 5) (sym (call_spaced k a) ∙ lines ∙ call_spaced k b) in
    ap (drop 1) (append_cancel_left (decimal k) (32 ∷ spaced (answer_words a)) (32 ∷ spaced (answer_words b)) behind)

module _ {A : Type 0} (f : DomainState → Deed → List A) (f-same : (s : DomainState) (node : ℕ) (call : DomainCall) (a b : PlainAnswer) → Alike call a b → f s (calls node call a) ≡ f s (calls node call b)) (lines : List CallLine) where
  abbrev Both : DomainState → List Deed → List Deed → Type 0
  Both t xs ys = (along f t xs ≡ along f t ys) × (after_deeds t xs ≡ after_deeds t ys)

  join-same : (t : DomainState) (ds es xs ys : List Deed) → Both t ds es → Both (after_deeds t es) xs ys → Both t (ds ++ xs) (es ++ ys)
  join-same t ds es xs ys one rest = (
    along-join f t ds xs ∙ ap₂ (λ us vs. us ++ vs) one.0 (ap (λ u. along f u xs) one.1 ∙ rest.0) ∙ sym (along-join f t es ys),
    after-join t ds xs ∙ ap (λ u. after_deeds u xs) one.1 ∙ rest.1 ∙ sym (after-join t es ys),
  )

  same-list : (t : DomainState) (xs ys : List Deed) → xs ≡ ys → Both t xs ys
  same-list t xs ys e = (ap (along f t) e, ap (after_deeds t) e)

  visits-same : (bs cs : List PlainEntry) → ((p : ℕ) → taken_from p bs ≡ taken_from p cs) → (vs : List Visit) → flat_map (named_deeds bs) vs ≡ flat_map (named_deeds cs) vs
  visits-same bs cs same [] = refl
  visits-same bs cs same (v ∷ vs) = ap₂ (λ us ws. us ++ ws) (ap (λ (n : ℕ). visit_deeds (names_from n) v) (ap (λ xs. length xs) (same v.peer))) (visits-same bs cs same vs)

  push-same : (bs cs : List PlainEntry) (d e : PlainEntry) → ((p : ℕ) → taken_from p bs ≡ taken_from p cs) → ((p : ℕ) → takes_in p d ≡ takes_in p e) → (p : ℕ) → taken_from p (bs ++ d ∷ []) ≡ taken_from p (cs ++ e ∷ [])
  push-same bs cs d e same takes p =
      ap (map (λ t. t.frame)) (flat_map-append (takes_in p) bs (d ∷ [])) ∙ map-append (λ t. t.frame) (flat_map (takes_in p) bs) (takes_in p d ++ [])
      ∙ ap₂ (λ us vs. us ++ map (λ t. t.frame) (vs ++ [])) (same p) (takes p)
      ∙ sym (ap (map (λ t. t.frame)) (flat_map-append (takes_in p) cs (e ∷ [])) ∙ map-append (λ t. t.frame) (flat_map (takes_in p) cs) (takes_in p e ++ []))

  call-same : (t : DomainState) (r : RunState) (line : CallLine) (k : ℕ) (b : PlainAnswer) → next_line lines r ≡ Some line → ReadsSo lines r (called k b) → IsRead (called k b) → Both t (call_deeds (next_line lines r) r (answered (next_line lines r) r b)) (call_deeds (next_line lines r) r b)
  call-same t r line k b next reads read =
      let text : line_text (call_line k (answered (Some line) r b)) ≡ line_text (call_line k b) = subst (λ o. line_text (call_line k (answered o r b)) ≡ line_text (call_line k b)) next reads in
      let alike = due-alike r.state line.node (call_at r line) b (words-same k (answered (Some line) r b) b text) read.0 read.1 in
      let one : f t (calls line.node (call_at r line) (answered (Some line) r b)) ≡ f t (calls line.node (call_at r line) b) = f-same t line.node (call_at r line) (answered (Some line) r b) b alike in
      subst (λ o. Both t (call_deeds o r (answered o r b)) (call_deeds o r b)) (sym next) (ap (λ xs. xs ++ []) one, refl)

  pub deeds-same : (es bs cs : List PlainEntry) (r : RunState) (t : DomainState) → ((p : ℕ) → taken_from p bs ≡ taken_from p cs) → Due lines r es → AllByRecursion IsRead es → Both t (deeds_along lines bs r (with_answers lines r es)) (deeds_along lines cs r es)
  deeds-same [] bs cs r t same due read = (refl, refl)
  deeds-same (turned vs ∷ es) bs cs r t same due read =
      join-same t (flat_map (named_deeds bs) vs) (flat_map (named_deeds cs) vs) (deeds_along lines (bs ++ turned vs ∷ []) (after lines r (turned vs)) (with_answers lines (after lines r (turned vs)) es)) (deeds_along lines (cs ++ turned vs ∷ []) (after lines r (turned vs)) es)
      (same-list t (flat_map (named_deeds bs) vs) (flat_map (named_deeds cs) vs) (visits-same bs cs same vs))
      (deeds-same es (bs ++ turned vs ∷ []) (cs ++ turned vs ∷ []) (after lines r (turned vs)) (after_deeds t (flat_map (named_deeds cs) vs)) (push-same bs cs (turned vs) (turned vs) same (λ p. refl)) due.2 read.1)
  deeds-same (put q x ∷ es) bs cs r t same due read = deeds-same es (bs ++ put q x ∷ []) (cs ++ put q x ∷ []) (after lines r (put q x)) t (push-same bs cs (put q x) (put q x) same (λ p. refl)) due.2 read.1
  deeds-same (waits k ∷ es) bs cs r t same due read = deeds-same es (bs ++ waits k ∷ []) (cs ++ waits k ∷ []) (after lines r (waits k)) t (push-same bs cs (waits k) (waits k) same (λ p. refl)) due.2 read.1
  deeds-same (again w ∷ es) bs cs r t same due read =
      let ds : List Deed = call_deeds (next_line lines r) r (refuses w) in
      join-same t ds ds (deeds_along lines (bs ++ again w ∷ []) (after lines r (again w)) (with_answers lines (after lines r (again w)) es)) (deeds_along lines (cs ++ again w ∷ []) (after lines r (again w)) es) (refl, refl)
      (deeds-same es (bs ++ again w ∷ []) (cs ++ again w ∷ []) (after lines r (again w)) (after_deeds t ds) (push-same bs cs (again w) (again w) same (λ p. refl)) due.2 read.1)
  deeds-same (called k b ∷ es) bs cs r t same due read =
      let a : PlainAnswer = answered (next_line lines r) r b in
      join-same t (call_deeds (next_line lines r) r a) (call_deeds (next_line lines r) r b) (deeds_along lines (bs ++ called k a ∷ []) (after lines r (called k b)) (with_answers lines (after lines r (called k b)) es)) (deeds_along lines (cs ++ called k b ∷ []) (after lines r (called k b)) es)
      (call-same t r due.0.0 k b due.0.1 due.1 read.0)
      (deeds-same es (bs ++ called k a ∷ []) (cs ++ called k b ∷ []) (after lines r (called k b)) (after_deeds t (call_deeds (next_line lines r) r b)) (push-same bs cs (called k a) (called k b) same (λ p. refl)) due.2 read.1)
