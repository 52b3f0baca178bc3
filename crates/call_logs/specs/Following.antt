-- Logs that follow rules: each line is the one that the rules give after the lines before it.
-- Source: docs/PROFILE.md, "Logs".
use Rattle.std.specs.Prelude.{◌≡◌, Bool, true, false, List, [], ◌∷◌, ◌++◌, Option, Some, None}
use Rattle.board_model.specs.declared.scenario.CallLine.{CallLine}
use Rattle.board_model.specs.Journal.{PlainAnswer, refuses}
use Rattle.board_model.specs.Logs.{LoggedCall}

-- an answer that begins with neither `ok` nor `done`
abbrev pub is_refused : PlainAnswer → Bool
is_refused (refuses word) = true
is_refused other = false

abbrev pub last_after : Option LoggedCall → List LoggedCall → Option LoggedCall
last_after before [] = before
last_after before (l ∷ ls) = last_after (Some l) ls

-- the last call of a log
abbrev pub last_call : List LoggedCall → Option LoggedCall
last_call log = last_after None log

abbrev pub FollowsFrom : (List LoggedCall → Option CallLine) → List LoggedCall → List LoggedCall → Type 0
FollowsFrom due before [] = Unit {0}
FollowsFrom due before (l ∷ ls) = (due before ≡ Some l.line) × FollowsFrom due (before ++ l ∷ []) ls

-- each line of a log is due after those before it
abbrev pub Follows : (List LoggedCall → Option CallLine) → List LoggedCall → Type 0
Follows due log = FollowsFrom due [] log
