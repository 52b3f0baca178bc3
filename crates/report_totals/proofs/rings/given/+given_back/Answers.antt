use Rattle.std.proofs.Common.{◌≡◌, ◌≢◌, ◌-◌, ◌<◌, ◌≤◌, ℕ, List, [], ◌∷◌, length, map, cond, get_or, take, drop, find, Some, sym, ap, subst, ◌∙◌, arith, refl}
use Rattle.std.specs.Prelude.{◌==◌}
use Rattle.std.proofs.lemmas.Bool.{eq-eqb, ne_eqb}
use Rattle.board_model.specs.declared.scenario.Scenario.{Scenario}
use Rattle.ring_numbers.specs.BoardRings.{places_by, places_of}
use Rattle.report_replay.specs.Naming.{names_for}
use Rattle.report_text.specs.declared.link_pass.JournalLines.{JournalLines}
use Rattle.report_text.specs.JournalRead.{JournalText}
use Rattle.report_text.specs.LaneLeft.{AreTold}
use Rattle.report_text.specs.LinkPass.{journal_told}
use Rattle.report_text.proofs.LeftLemmas.{whole}
use Rattle.report_totals.specs.SenderLanes.{AreGiven}
use Rattle.report_totals.proofs.rings.given.+given_back.Goals as goal

none-told : (s : Scenario) (js : List JournalText) (cs : List JournalLines) (receiver sender : ℕ) → length cs ≤ 0 → AreTold js cs → ◌≡◌ {A = List ℕ} [] (places_of s (map (journal_told s) js) receiver sender)
none-told s [] cs receiver sender none told = refl
none-told s (j ∷ js) [] receiver sender none told = absurd told
none-told s (j ∷ js) (c ∷ cs) receiver sender none told = absurd (omega (arith, none))

none-given : (s : Scenario) (js : List JournalText) (gs : List (List (List ℕ))) (receiver sender : ℕ) → length gs ≤ 0 → AreGiven s js gs → ◌≡◌ {A = List ℕ} [] (places_of s (map (journal_told s) js) receiver sender)
none-given s [] gs receiver sender none given = refl
none-given s (j ∷ js) [] receiver sender none given = absurd given
none-given s (j ∷ js) (g ∷ gs) receiver sender none given = absurd (omega (arith, none))

module _ (s : Scenario) (receiver sender : ℕ) (near : sender < 8) where
  by-first : (js : List JournalText) (cs : List JournalLines) (gs : List (List (List ℕ))) (d : JournalLines) (e : List (List ℕ)) → 1 ≤ length cs → 1 ≤ length gs → AreTold js cs → AreGiven s js gs → (get_or cs 0 d).domain ≡ receiver → names_for sender (get_or gs 0 e) ≡ places_of s (map (journal_told s) js) receiver sender
  by-first js [] gs d e some also told given same = absurd (omega (arith, some))
  by-first js (c ∷ cs) [] d e some also told given same = absurd (omega (arith, also))
  by-first [] (c ∷ cs) (g ∷ gs) d e some also told given same = absurd told
  by-first (j ∷ js) (c ∷ cs) (g ∷ gs) d e some also told given same =
      given.0 sender near ∙ sym (ap (λ b. places_by s (cond b (Some (journal_told s j)) (find (λ k. k.line.domain == receiver) (map (journal_told s) js))) sender) (eq-eqb j.line.domain receiver (told.0.domain ∙ same)))

  by-others : (js : List JournalText) (cs : List JournalLines) (gs : List (List (List ℕ))) (d : JournalLines) (found : List ℕ) → 1 ≤ length cs → 1 ≤ length gs → AreTold js cs → AreGiven s js gs → (get_or cs 0 d).domain ≢ receiver
      → ((ks : List JournalText) → AreTold ks (take (length cs - 1) (drop 1 cs)) → AreGiven s ks (take (length gs - 1) (drop 1 gs)) → found ≡ places_of s (map (journal_told s) ks) receiver sender) → found ≡ places_of s (map (journal_told s) js) receiver sender
  by-others js [] gs d found some also told given other rest = absurd (omega (arith, some))
  by-others js (c ∷ cs) [] d found some also told given other rest = absurd (omega (arith, also))
  by-others [] (c ∷ cs) (g ∷ gs) d found some also told given other rest = absurd told
  by-others (j ∷ js) (c ∷ cs) (g ∷ gs) d found some also told given other rest =
      rest js (subst (λ (xs : List JournalLines). AreTold js xs) (sym (whole (length (c ∷ cs) - 1) cs (omega arith))) told.1) (subst (λ (xs : List (List (List ℕ))). AreGiven s js xs) (sym (whole (length (g ∷ gs) - 1) gs (omega arith))) given.1)
      ∙ sym (ap (λ b. places_by s (cond b (Some (journal_told s j)) (find (λ k. k.line.domain == receiver) (map (journal_told s) js))) sender) (ne_eqb j.line.domain receiver (λ same. other (sym told.0.domain ∙ same))))

pub returns-in_default : goal.returns-in_default
returns-in_default t c = λ s js are near. none-told s js c.args.journals.now c.args.receiver c.args.sender (omega (arith, c.in_default.len_below)) are.told

pub returns-in_default-given : goal.returns-in_default-given
returns-in_default-given t c = λ s js are near. none-given s js c.args.given.now c.args.receiver c.args.sender (omega (arith, c.in_default-given.len_below)) are.given

pub returns-then-journal-receiver : goal.returns-then-journal-receiver
returns-then-journal-receiver t c = λ s js are near.
    c.from_peer.ensures ∙ ap (names_for c.args.sender) c.first-item.is ∙ by-first s c.args.receiver c.args.sender near js c.args.journals.now c.args.given.now _ c.first-item.result c.in-len1-up.len_at_least c.in-len1-up-given.len_at_least are.told are.given c.if-journal-receiver.true

pub returns : goal.returns
returns t c = λ s js are near.
    by-others s c.args.receiver c.args.sender near js c.args.journals.now c.args.given.now _ c.given_back.result.now c.in-len1-up.len_at_least c.in-len1-up-given.len_at_least are.told are.given c.if-journal-receiver.false
    (λ ks told given. c.given_back.ensures s ks (record { told = told; given = given }) near)
