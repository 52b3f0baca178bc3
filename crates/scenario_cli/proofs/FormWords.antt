-- What the words that were passed say of a status, and what a form's answers say of them.
use Rattle.std.proofs.Common.{◌≡◌, ◌≢◌, inl, inr, ℕ, ◌≤◌, List, [], ◌∷◌, length, Option, Some, None, refl, sym, ◌∙◌, arith}
use Rattle.std.specs.Prelude.{IfSome}
use Rattle.std.specs.Io.KnownBytes.{Appends}
use Rattle.outer_io.specs.declared.sink.Sink.{Ghosts as SinkGhosts}
use Rattle.outer_io.specs.declared.source.Source.{Ghosts as SourceGhosts}
use Rattle.board_model.specs.Report.{Mode, serial, threads}
use Rattle.scenario_cli.specs.declared.form.Form.{Form}
use Rattle.scenario_cli.specs.declared.form.Form.TheVariants.{Run, SerialRun, Check, Frame, Ring, Relay, Calls}
use Rattle.scenario_cli.specs.Words.{IsForm, IsOneOfForms, IsOneOf, run_in, report_limit}
use Rattle.scenario_cli.specs.VerdictText.{HasNoWrongLine}
use Rattle.scenario_cli.specs.Due.{Reports}
use Rattle.scenario_cli.specs.Answers.{good, bad, status_for, IsAnswer, OfInput, IfReportOfRun, Ends, Unread}
use Rattle.scenario_cli.proofs.ReportsTold.{run_is_right}
use Rattle.scenario_cli.proofs.Telling.{never}

-- a status that no reading and no writing explains is that of a bad input
bad-status : (form : Form) (status n : ℕ) → IsOneOf (0 ∷ status_for form bad ∷ 4 ∷ 5 ∷ 6 ∷ 7 ∷ []) status → status ≡ n → 0 ≢ n → 4 ≢ n → 5 ≢ n → 6 ≢ n → 7 ≢ n → status_for form bad ≡ n
bad-status form status n (inl e) is zero four five six seven = absurd (zero (sym e ∙ is))
bad-status form status n (inr (inl e)) is zero four five six seven = sym e ∙ is
bad-status form status n (inr (inr (inl e))) is zero four five six seven = absurd (four (sym e ∙ is))
bad-status form status n (inr (inr (inr (inl e)))) is zero four five six seven = absurd (five (sym e ∙ is))
bad-status form status n (inr (inr (inr (inr (inl e))))) is zero four five six seven = absurd (six (sym e ∙ is))
bad-status form status n (inr (inr (inr (inr (inr (inl e)))))) is zero four five six seven = absurd (seven (sym e ∙ is))
bad-status form status n (inr (inr (inr (inr (inr (inr h)))))) is zero four five six seven = absurd h

pub wrong-form : (form : Form) (words : List (List ℕ)) (status : ℕ) → IsForm form words → IsOneOf (0 ∷ status_for form bad ∷ 4 ∷ 5 ∷ 6 ∷ 7 ∷ []) status → status ≡ 1 → IsOneOfForms (Check ∷ Frame ∷ Ring ∷ []) words
wrong-form form words status form_is statuses is = go form form_is (bad-status form status 1 statuses is (λ e. omega (arith, e)) (λ e. omega (arith, e)) (λ e. omega (arith, e)) (λ e. omega (arith, e)) (λ e. omega (arith, e)))
  where
    go : (f : Form) → IsForm f words → status_for f bad ≡ 1 → IsOneOfForms (Check ∷ Frame ∷ Ring ∷ []) words
    go Run this e = absurd (omega (arith, e))
    go SerialRun this e = absurd (omega (arith, e))
    go Check this e = inl this
    go Frame this e = inr (inl this)
    go Ring this e = inr (inr (inl this))
    go Relay this e = absurd (omega (arith, e))
    go Calls this e = absurd (omega (arith, e))

pub refused-form : (form : Form) (words : List (List ℕ)) (status : ℕ) → IsForm form words → IsOneOf (0 ∷ status_for form bad ∷ 4 ∷ 5 ∷ 6 ∷ 7 ∷ []) status → status ≡ 3 → IsOneOfForms (Run ∷ SerialRun ∷ Relay ∷ Calls ∷ []) words
refused-form form words status form_is statuses is = go form form_is (bad-status form status 3 statuses is (λ e. omega (arith, e)) (λ e. omega (arith, e)) (λ e. omega (arith, e)) (λ e. omega (arith, e)) (λ e. omega (arith, e)))
  where
    go : (f : Form) → IsForm f words → status_for f bad ≡ 3 → IsOneOfForms (Run ∷ SerialRun ∷ Relay ∷ Calls ∷ []) words
    go Run this e = inl this
    go SerialRun this e = inr (inl this)
    go Check this e = absurd (omega (arith, e))
    go Frame this e = absurd (omega (arith, e))
    go Ring this e = absurd (omega (arith, e))
    go Relay this e = inr (inr (inl this))
    go Calls this e = inr (inr (inr (inl this)))

pub no-usage-form : (form : Form) (status : ℕ) → IsOneOf (0 ∷ status_for form bad ∷ 4 ∷ 5 ∷ 6 ∷ 7 ∷ []) status → status ≢ 2
no-usage-form form status statuses is = never form bad 2 (λ e. omega (arith, e)) (λ e. omega (arith, e)) (λ e. omega (arith, e)) (bad-status form status 2 statuses is (λ e. omega (arith, e)) (λ e. omega (arith, e)) (λ e. omega (arith, e)) (λ e. omega (arith, e)) (λ e. omega (arith, e)))

-- the report of a run, in its mode
pub reports : (mode : Mode) (rest old new : Option (List ℕ)) → OfInput (run_in mode) rest (λ text. (output : List ℕ) × IsAnswer (run_in mode) good text output × Appends old new output) → Reports mode rest old new
reports serial rest old new is = is
reports threads rest old new is = is

-- a report of a run is right
pub of-run : (rest : Option (List ℕ)) (P : Type 0) → IfSome rest (λ text. length text ≤ report_limit → HasNoWrongLine text → P) → IfReportOfRun rest P
of-run None P is = tt
of-run (Some text) P is = λ fits of. is fits (run_is_right text of)

-- where nothing is read
pub unread-not : (status n : ℕ) → IsOneOf (0 ∷ 2 ∷ 5 ∷ 6 ∷ []) status → 0 ≢ n → 2 ≢ n → 5 ≢ n → 6 ≢ n → status ≢ n
unread-not status n (inl e) zero two five six is = zero (sym e ∙ is)
unread-not status n (inr (inl e)) zero two five six is = two (sym e ∙ is)
unread-not status n (inr (inr (inl e))) zero two five six is = five (sym e ∙ is)
unread-not status n (inr (inr (inr (inl e)))) zero two five six is = six (sym e ∙ is)
unread-not status n (inr (inr (inr (inr h)))) zero two five six is = h

pub unread-ends : {S K : Type 0} (source : SourceGhosts S) (sink : SinkGhosts K) (status : ℕ) (input : S) (old new : K) → Unread sink status old new → Ends source sink status input input old new
unread-ends source sink status input old new un = record {
  statuses = all un.statuses;
  read_failed = λ four. absurd (unread-not status 4 un.statuses (λ e. omega (arith, e)) (λ e. omega (arith, e)) (λ e. omega (arith, e)) (λ e. omega (arith, e)) four);
  no_read_failed = λ other. refl;
  sound_source = λ sound. unread-not status 4 un.statuses (λ e. omega (arith, e)) (λ e. omega (arith, e)) (λ e. omega (arith, e)) (λ e. omega (arith, e));
  write_failed = un.rose;
  no_write_failed = un.quiet;
  nothing_written = at;
  read_faults = omega arith;
  write_faults = un.later;
}
  where
    all : IsOneOf (0 ∷ 2 ∷ 5 ∷ 6 ∷ []) status → IsOneOf (0 ∷ 1 ∷ 2 ∷ 3 ∷ 4 ∷ 5 ∷ 6 ∷ 7 ∷ []) status
    all (inl e) = inl e
    all (inr (inl e)) = inr (inr (inl e))
    all (inr (inr (inl e))) = inr (inr (inr (inr (inr (inl e)))))
    all (inr (inr (inr (inl e)))) = inr (inr (inr (inr (inr (inr (inl e))))))
    all (inr (inr (inr (inr h)))) = absurd h

    at : IsOneOf (4 ∷ 6 ∷ 7 ∷ []) status → new ≡ old
    at (inl four) = absurd (unread-not status 4 un.statuses (λ e. omega (arith, e)) (λ e. omega (arith, e)) (λ e. omega (arith, e)) (λ e. omega (arith, e)) four)
    at (inr (inl six)) = un.nothing six
    at (inr (inr (inl seven))) = absurd (unread-not status 7 un.statuses (λ e. omega (arith, e)) (λ e. omega (arith, e)) (λ e. omega (arith, e)) (λ e. omega (arith, e)) seven)
    at (inr (inr (inr h))) = absurd h
