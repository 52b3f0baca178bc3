-- Entries that differ from those of a run in the answers of calls alone, where these have one text, are steps but for their answers; with those that
-- are due they are the run's.
use Rattle.std.proofs.Common.{◌≡◌, inl, inr, ℕ, List, [], ◌∷◌, refl, sym, ap, ap₂, subst, ◌∙◌}
use Rattle.board_model.specs.declared.scenario.CallLine.{CallLine}
use Rattle.board_model.specs.Journal.{PlainAnswer, PlainEntry, turned, put, again, waits, called, call_line}
use Rattle.board_model.specs.Report.{line_text}
use Rattle.board_model.specs.Step.{RunState, next_line, Allowed, after}
use Rattle.board_model.specs.Run.{Leads}
use Rattle.report_text.specs.RightRuns.{answered, with_answer, with_answers}
use Rattle.report_text.proofs.StepsDue.{ReadsSo, Due}
use Rattle.report_laws.proofs.EntriesAlike.{OneEntry, HaveOneEntry}

module _ (script : List CallLine) where
  -- the answer of a step is the one that is due
  answer-is : (r : RunState) (k : ℕ) (a b : PlainAnswer) → Allowed script r (called k b) → answered (next_line script r) r a ≡ b
  answer-is r k a b allowed = ap (λ o. answered o r a) allowed.1 ∙ sym allowed.3

  with-is : (r : RunState) (e : PlainEntry) → Allowed script r e → with_answer script r e ≡ e
  with-is r (turned vs) allowed = refl
  with-is r (put p frame) allowed = refl
  with-is r (again word) allowed = refl
  with-is r (waits k) allowed = refl
  with-is r (called k a) allowed = ap (called k) (answer-is r k a a allowed)

  reads-so : (r : RunState) (e : PlainEntry) → Allowed script r e → ReadsSo script r e
  reads-so r (turned vs) allowed = tt
  reads-so r (put p frame) allowed = tt
  reads-so r (again word) allowed = tt
  reads-so r (waits k) allowed = tt
  reads-so r (called k a) allowed = ap (λ x. line_text (call_line k x)) (answer-is r k a a allowed)

  record Told (r : RunState) (e f : PlainEntry) : Type 0 where
    with_due : with_answer script r e ≡ f
    reads : ReadsSo script r e
    after_is : after script r e ≡ after script r f

  one-told : (r : RunState) (e f : PlainEntry) → OneEntry e f → Allowed script r f → Told r e f
  one-told r e f one allowed = elim one [
    | inl same ↦ subst (λ x. Told r x f) (sym same) (record { with_due = with-is r f allowed; reads = reads-so r f allowed; after_is = refl })
    | inr alike ↦ subst (λ x. Told r x f) (sym alike.read) (other alike.number alike.told alike.answer alike.text alike.made)
  ]
    where
      other : (k : ℕ) (a b : PlainAnswer) → line_text (call_line k a) ≡ line_text (call_line k b) → f ≡ called k b → Told r (called k a) f
      other k a b text made =
          let is : answered (next_line script r) r a ≡ b = answer-is r k a b (subst (Allowed script r) made allowed) in
          record { with_due = ap (called k) is ∙ sym made; reads = ap (λ x. line_text (call_line k x)) is ∙ sym text; after_is = ap (after script r) (sym made) }

  pub record ToldRun (r : RunState) (es fs : List PlainEntry) : Type 0 where
    pub due : Due script r es
    pub with_due : with_answers script r es ≡ fs

  pub run-due : (es fs : List PlainEntry) (r new : RunState) → HaveOneEntry es fs → Leads script r fs new → ToldRun r es fs
  run-due [] [] r new one leads = record { due = tt; with_due = refl }
  run-due [] (f ∷ fs) r new one leads = absurd one
  run-due (e ∷ es) [] r new one leads = absurd one
  run-due (e ∷ es) (f ∷ fs) r new one leads =
      let told = one-told r e f one.0 leads.1.allowed in
      let rest = run-due es fs (after script r e) new one.1 (subst (λ q. Leads script q fs new) (leads.1.leads ∙ sym told.after_is) leads.2) in
      record {
        due = (subst (Allowed script r) (sym told.with_due) leads.1.allowed, told.reads, rest.due);
        with_due = ap₂ (λ (x : PlainEntry) (xs : List PlainEntry). x ∷ xs) told.with_due rest.with_due;
      }
