-- What is said of a refusal alone, and not of want of memory.
-- Source: docs/PROFILE.md: want of memory is the one answer that may come at any time.
use Rattle.std.specs.Prelude.{ℕ, Result, Ok, Err}
use Rattle.board_model.specs.declared.reason.LineReason.{LineReason}
use Rattle.scenario_lang.specs.declared.fault.ScenarioFault.{ScenarioFault}
use Rattle.scenario_lang.specs.declared.fault.ScenarioFault.TheVariants as scenario_fault

-- a fact of the line and the reason of a refusal
abbrev pub IfRefused : {X : Type 0} → Result X ScenarioFault → (ℕ → LineReason → Type 0) → Type 0
IfRefused (Ok x) P = Unit {0}
IfRefused (Err scenario_fault.NoMemory) P = Unit {0}
IfRefused (Err (scenario_fault.Refused line reason)) P = P line reason
