-- A scenario has no more calls than its text has bytes, and that of a small text is lawful.
use Rattle.std.proofs.Common.{◌≡◌, ℕ, ◌≤◌, ◌<◌, ◌^◌, length, List}
use Rattle.std.specs.Prelude.{Result, Ok, Err, IfOk}
use Rattle.board_model.specs.declared.scenario.Scenario.{Scenario}
use Rattle.board_model.specs.Language.{told_by, IsLawfulBoard}
use Rattle.board_model.proofs.LawfulBoards.{calls-few, lawful-by_text}
use Rattle.scenario_lang.specs.declared.fault.ScenarioFault.{ScenarioFault}

pub if_few : (text : List ℕ) (r : Result Scenario ScenarioFault) → IfOk r (λ s. told_by text ≡ Ok s) → IfOk r (λ s. length s.calls ≤ length text)
if_few text (Ok s) h = calls-few text s h
if_few text (Err e) h = tt

pub if_lawful : (text : List ℕ) (r : Result Scenario ScenarioFault) → length text < 2 ^ 32 → IfOk r (λ s. told_by text ≡ Ok s) → IfOk r IsLawfulBoard
if_lawful text (Ok s) small h = lawful-by_text text s small h
if_lawful text (Err e) small h = tt
