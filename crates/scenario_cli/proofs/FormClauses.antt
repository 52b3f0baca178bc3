-- What the clauses of the top call say of words of a form with an input, from what the form does.
use Rattle.std.proofs.Common.{◌≡◌, ℕ, List, [], ◌∷◌, subst}
use Rattle.outer_io.specs.declared.sink.Sink.{Ghosts as SinkGhosts}
use Rattle.outer_io.specs.declared.source.Source.{Ghosts as SourceGhosts}
use Rattle.board_model.specs.Report.{Mode}
use Rattle.scenario_cli.specs.declared.form.Form.{Form}
use Rattle.scenario_cli.specs.declared.form.Form.TheVariants.{Run, SerialRun, Check, Frame, Ring, Relay, Calls}
use Rattle.scenario_cli.specs.Words.{IsForm, IsNoForm, IsOneOfForms, IsOneOf, run_in}
use Rattle.scenario_cli.specs.LoadText.{IsLoad}
use Rattle.scenario_cli.specs.Due.{Reports}
use Rattle.scenario_cli.specs.Answers.{good, Answers, IfReportOfRun}
use Rattle.scenario_cli.proofs.WordLemmas.{one_form}
use Rattle.scenario_cli.proofs.LoadWords.{form_no_load}
use Rattle.scenario_cli.proofs.FormWords.{wrong-form, refused-form, no-usage-form, reports, of-run}

module _ {S K : Type 0} {source : SourceGhosts S} {sink : SinkGhosts K} {form : Form} (words : List (List ℕ)) {status : ℕ} {input input' : S} {old new : K} (is : IsForm form words) (answers : Answers source sink form status input input' old new) where
  pub form-of : (other : Form) → IsForm other words → Answers source sink other status input input' old new
  form-of other that = subst (λ f. Answers source sink f status input input' old new) (one_form form other words is that) answers

  pub headline-of : (mode : Mode) → IsForm (run_in mode) words → status ≡ 0 → Reports mode (source.rest input) (sink.written old) (sink.written new)
  headline-of mode that done = reports mode _ _ _ ((form-of (run_in mode) that).whole good done)

  pub right-of : IsForm Check words → IfReportOfRun (source.rest input) (IsOneOf (0 ∷ 4 ∷ 5 ∷ 6 ∷ []) status)
  right-of that = of-run _ _ ((form-of Check that).exact good)

  pub no-load-of : (A : Type 0) (packets : ℕ) → IsLoad packets words → A
  no-load-of A packets load = absurd (form_no_load form packets words is load)

  pub no-usage-of : (A : Type 0) → IsNoForm words → A
  no-usage-of A none = absurd (none.no_input form is)

  pub wrong-of : status ≡ 1 → IsOneOfForms (Check ∷ Frame ∷ Ring ∷ []) words
  wrong-of one = wrong-form form words status is answers.statuses one

  pub usage-of : status ≡ 2 → IsNoForm words
  usage-of two = absurd (no-usage-form form status answers.statuses two)

  pub refused-of : status ≡ 3 → IsOneOfForms (Run ∷ SerialRun ∷ Relay ∷ Calls ∷ []) words
  refused-of three = refused-form form words status is answers.statuses three
