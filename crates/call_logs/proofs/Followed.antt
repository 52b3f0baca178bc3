-- Logs that follow rules: each line was due after a front of the log.
use Rattle.std.proofs.Common.{◌≡◌, Bool, true, false, cond, List, [], ◌∷◌, ◌++◌, map, Option, Some, None, refl, sym, ap, ◌∙◌, append_assoc}
use Rattle.std.specs.List.{AllByRecursion}
use Rattle.std.proofs.lemmas.List.{map-append}
use Rattle.std.proofs.lemmas.Grind.{flat_map-append}
use Rattle.mc_base.specs.Limits.{single_size}
use Rattle.board_model.specs.declared.scenario.Call.{Call}
use Rattle.board_model.specs.declared.scenario.Call.TheVariants.{MsgRecv}
use Rattle.board_model.specs.declared.scenario.CallLine.{CallLine}
use Rattle.board_model.specs.Journal.{PlainAnswer, gives}
use Rattle.board_model.proofs.ListsApart.{all-joined}
use Rattle.board_model.proofs.MessageAlls.{all-weaken}
use Rattle.board_model.specs.Logs.{LoggedCall}
use Rattle.call_logs.specs.LogMessages.{MessageReceived, received_by, messages_received, contents_received}
use Rattle.call_logs.specs.Following.{FollowsFrom, Follows}

pub record DueAt (due : List LoggedCall → Option CallLine) (log : List LoggedCall) (l : LoggedCall) : Type 0 where
  pub front : List LoggedCall
  pub back : List LoggedCall
  pub parts : log ≡ front ++ l ∷ back
  pub is_due : due front ≡ Some l.line

each_from : (due : List LoggedCall → Option CallLine) (log before rest : List LoggedCall) → log ≡ before ++ rest → FollowsFrom due before rest → AllByRecursion (DueAt due log) rest
each_from due log before [] is fits = tt
each_from due log before (l ∷ ls) is fits = (record { front = before; back = ls; parts = is; is_due = fits.0 }, each_from due log (before ++ l ∷ []) ls (is ∙ sym (append_assoc before (l ∷ []) ls)) fits.1)

pub each_due : (due : List LoggedCall → Option CallLine) (log : List LoggedCall) → Follows due log → AllByRecursion (DueAt due log) log
each_due due log fits = each_from due log [] log refl fits

pub contents-append : (xs ys : List LoggedCall) → contents_received (xs ++ ys) ≡ contents_received xs ++ contents_received ys
contents-append xs ys =
    ap (map (λ (m : MessageReceived). m.bytes)) (flat_map-append (λ (l : LoggedCall). received_by l.line.call l.answer) xs ys)
    ∙ map-append (λ (m : MessageReceived). m.bytes) (messages_received xs) (messages_received ys)

-- a choice that gives a line
pub not_none : {A : Type 0} (b : Bool) (x : Option A) (y : A) → cond b None x ≡ Some y → x ≡ Some y
not_none true x y is = absurd cc
not_none false x y is = is

pub some_one : {A : Type 0} (b : Bool) (x : Option A) (y : A) → cond b x None ≡ Some y → x ≡ Some y
some_one true x y is = is
some_one false x y is = absurd cc

-- ---- how many bytes a log's receives ask for

abbrev pub Asks : Call → Type 0
Asks (MsgRecv port max) = max ≡ single_size
Asks other = Unit {0}

pub received_few : (call : Call) (answer : PlainAnswer) → Asks call → AllByRecursion (λ m. m.max ≡ single_size) (received_by call answer)
received_few (MsgRecv port max) (gives size bytes) asks = (asks, tt)
received_few (MsgRecv port max) answer asks = tt
received_few call answer asks = tt

pub all_few : (due : List LoggedCall → Option CallLine) (log : List LoggedCall) → Follows due log → ((front : List LoggedCall) (line : CallLine) → due front ≡ Some line → Asks line.call) → AllByRecursion (λ m. m.max ≡ single_size) (messages_received log)
all_few due log fits asks =
    all-joined (λ (m : MessageReceived). m.max ≡ single_size) (λ (l : LoggedCall). received_by l.line.call l.answer) log
    (all-weaken (DueAt due log) (λ l. AllByRecursion (λ m. m.max ≡ single_size) (received_by l.line.call l.answer)) (λ l at. received_few l.line.call l.answer (asks at.front l.line at.is_due)) log (each_due due log fits))
