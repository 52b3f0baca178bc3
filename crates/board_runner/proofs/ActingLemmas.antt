-- An actor at its station, line by line: the station runs each line on whatever board the lines are the script of, and the actor fits the log.
use Rattle.std.proofs.Common.{◌≡◌, ℕ, ◌+◌, ◌*◌, ◌≤◌, ◌<◌, ◌^◌, List, [], ◌∷◌, ◌++◌, length, Option, None, Some, slice_get, refl, sym, ap, subst, ◌∙◌, arith, append-nil, length-append}
use Rattle.std.specs.Prelude.{IfSome, IfNone, option_and_then}
use Rattle.board_model.specs.declared.scenario.Call.{Call}
use Rattle.board_model.specs.declared.scenario.CallLine.{CallLine}
use Rattle.board_model.specs.declared.scenario.Scenario.{Scenario}
use Rattle.board_model.specs.Journal.{Line, call_line, PlainAnswer}
use Rattle.board_model.specs.Language.{IsLawfulBoard}
use Rattle.board_model.specs.Logs.{LoggedCall, answers_on, logged, paired}
use Rattle.board_model.specs.Scenario.{script}
use Rattle.board_runner.specs.declared.actor.Actor.{Ghosts}
use Rattle.board_runner.specs.declared.station.Station.{Station}
use Rattle.board_runner.specs.Acting.{Asks, HasRun, IsActing, answer_of_line, last_answer, lines_more, log_at}
use Rattle.board_runner.specs.ActorRun.{IsReady}
use Rattle.board_runner.specs.ActorLogs.{AllFollow, IsToldFor, MayFollow, asked_and_told, lines_in_log, log_so_far}
use Rattle.board_runner.specs.Answered.{IsAnswered}
use Rattle.board_runner.specs.Lines.{HasFitNumbers}
use Rattle.board_runner.specs.OwnRun.{CountsOneLine, HasNotBegun, RunsNextLine, RunsScript}
use Rattle.board_runner.specs.Runs.{MayCount}
use Rattle.board_runner.proofs.ActorLogLemmas.{follow-more, front-of, last-line, logged-lines, next-there, paired-lines, paired-more}
use Rattle.board_runner.proofs.OwnRunLemmas.{ran_none, way_whole}
use Rattle.board_runner.proofs.ToldLines.{line-asks}

-- ---- the station

pub none-run : (st : Station) → HasNotBegun st → st.journal.lines ≡ [] → HasRun st [] st
none-run st begins empty = record {
  runs = λ s d lawful prefix opened. (ran_none s st begins).ran d opened;
  number = begins.number;
  drops = omega (arith, begins.dropped);
  domain_number = refl;
  answers = ap (λ (ls : List Line). length (answers_on ls)) empty;
}

module _ (first old new : Station) (lines : List CallLine) (line : CallLine) (h : HasRun first lines old) where
  pub one-more-run : line.domain ≡ first.domain_number → RunsNextLine line old new → CountsOneLine old new → IsAnswered line.call old new → HasRun first (lines ++ line ∷ []) new
  one-more-run own runs counts answered = record {
    runs = λ s d lawful prefix opened.
        runs s d first.domain.ends lawful (own ∙ opened.domain_number)
        (ap (slice_get (script s d.domain)) h.number ∙ next-there lines line (script s d.domain) prefix)
        (h.runs s d lawful (front-of lines line (script s d.domain) prefix) opened);
    number = omega (arith, counts.number, h.number, length-append lines (line ∷ []));
    drops = counts.drops;
    domain_number = counts.domain_number ∙ h.domain_number;
    answers = omega (arith, ap length answered.answers, length-append (answers_on old.journal.lines) (answered.answer ∷ []), h.answers, length-append lines (line ∷ []));
  }

  pub one-more-logged : (answered : IsAnswered line.call old new) → log_at (lines ++ line ∷ []) new ≡ log_at lines old ++ logged line answered.answer ∷ []
  one-more-logged answered = ap (paired (lines ++ line ∷ [])) answered.answers ∙ paired-more lines (answers_on old.journal.lines) line answered.answer h.answers

pub answered-last : (call : Call) (old new : Station) (answered : IsAnswered call old new) → last_answer new.journal.lines ≡ Some answered.answer
answered-last call old new answered = ap last_answer answered.last ∙ ap (option_and_then answer_of_line) (last-line answered.front (call_line new.number answered.answer))

-- the answer is told for the line
pub answered-told : (line : CallLine) (asked : Option CallLine) (old new : Station) → asked ≡ Some line → IsAnswered line.call old new → IsToldFor asked (last_answer new.journal.lines)
answered-told line asked old new is answered =
    subst (λ (o : Option CallLine). IsToldFor o (last_answer new.journal.lines)) (sym is)
    (subst (λ (o : Option PlainAnswer). IsToldFor (Some line) o) (sym (answered-last line.call old new answered)) answered.to_call)

-- where these lines are the script of its domain, the station ran it whole
pub run-whole : (s : Scenario) (first now : Station) (lines : List CallLine) → IsLawfulBoard s → script s first.domain_number ≡ lines → HasRun first lines now → RunsScript s first now
run-whole s first now lines lawful same h d opened =
    let all : script s d.domain ≡ lines = ap (script s) (sym opened.domain_number) ∙ same in
    way_whole s d first.domain.ends now (h.runs s d lawful ([], all ∙ sym (append-nil lines)) opened) (h.number ∙ ap length (sym all))

paired_long : (lines : List CallLine) (answers : List PlainAnswer) → length answers ≡ length lines → length (paired lines answers) ≡ length lines
paired_long [] answers same = refl
paired_long (l ∷ ls) [] same = absurd (omega (arith, same))
paired_long (l ∷ ls) (b ∷ bs) same = omega (arith, paired_long ls bs (omega (arith, same)))

-- its log is as long as its lines
pub logs-long : (lines : List CallLine) (st : Station) → length (answers_on st.journal.lines) ≡ length lines → length (log_at lines st) ≡ length lines
logs-long lines st same = paired_long lines (answers_on st.journal.lines) same

-- ---- the actor

if_none : {P Q : Type 0} (o : Option CallLine) → IfNone o P → (P → Q) → IfNone o Q
if_none None p f = f p
if_none (Some line) p f = tt

if_some : {P Q : CallLine → Type 0} (o : Option CallLine) → IfSome o P → ((line : CallLine) → P line → Q line) → IfSome o Q
if_some None p f = tt
if_some (Some line) p f = f line p

module _ {A R : Type 0} (actor : Ghosts A R) (first : A) where
  pub acting-first : (d : ℕ) (next : Option CallLine) (now : A) → IsReady actor d first → Asks actor first None next now → IsActing actor first [] next now
  acting-first d next now ready asks = record {
    role = asks.role;
    domain = asks.domain;
    asked = asks.asked;
    left = omega (arith, asks.falls);
    fits = asks.fits [] ready.fits;
    ends = if_none next asks.ends (λ ends. ends [] ready.fits);
    follows = if_some next asks.follows (λ line follows. follows [] ready.fits);
    gave = tt;
  }

  module _ (log : List LoggedCall) (line : CallLine) (old : A) (h : IsActing actor first log (Some line) old) where
    pub acting-next : (a : PlainAnswer) (next : Option CallLine) (new : A) → Asks actor old (Some a) next new → IsActing actor first (log ++ logged line a ∷ []) next new
    acting-next a next new asks =
        let longer : log_so_far log (actor.asked old) (Some a) ≡ log ++ logged line a ∷ [] = ap (λ (o : Option CallLine). log ++ asked_and_told o a) h.asked in
        record {
          role = asks.role ∙ h.role;
          domain = asks.domain ∙ h.domain;
          asked = asks.asked;
          left = omega (arith, asks.falls, h.left, length-append log (logged line a ∷ []));
          fits = subst (actor.Fits new) longer (asks.fits log h.fits);
          ends = if_none next asks.ends (λ ends. subst (actor.Ends new) longer (ends log h.fits));
          follows =
              if_some next asks.follows (λ l follows.
              subst (λ (n : ℕ). MayFollow n (lines_in_log (log ++ logged line a ∷ [])) l) h.domain
              (subst (λ (ls : List LoggedCall). MayFollow (actor.domain old) (lines_in_log ls) l) longer (follows log h.fits)));
          gave =
              subst (AllFollow (actor.domain first) []) (sym (logged-lines log line a))
              (follow-more (actor.domain first) (lines_in_log log) line h.gave h.follows);
        }

    -- the line is of its own domain, and asks for no more than a line may
    pub acting-own : line.domain ≡ actor.domain first
    acting-own = h.follows.own

    pub acting-asks : HasFitNumbers 9000 line.call
    acting-asks = line-asks (actor.domain first) (lines_in_log log) line h.follows

  -- one line more can be counted
  pub acting-counts : (st now : Station) (lines : List CallLine) (line : CallLine) (old : A) → actor.todo first < 2 ^ 32 → HasRun st lines now → IsActing actor first (log_at lines now) (Some line) old → MayCount now
  acting-counts st now lines line old few ran acting = omega (arith, few, acting.left, ran.number, logs-long lines now ran.answers)
