-- Runs of a domain: journals whose entries are steps, from the opening state on.
-- Source: docs/PROFILE.md, "Runs".
use Rattle.std.specs.Prelude.{◌≡◌, List, [], ◌∷◌, length, None}
use Rattle.board_model.specs.declared.scenario.DomainLine.{DomainLine}
use Rattle.board_model.specs.declared.scenario.CallLine.{CallLine}
use Rattle.board_model.specs.declared.scenario.Scenario.{Scenario}
use Rattle.board_model.specs.Scenario.{script, neighbours}
use Rattle.board_model.specs.Journal.{PlainEntry}
use Rattle.board_model.specs.State.{opening}
use Rattle.board_model.specs.Labels.{no_labels}
use Rattle.board_model.specs.Step.{RunState, Step, HasNoPuts, after}

-- the state before the first entry
abbrev pub start : Scenario → DomainLine → RunState
start s d = record { state = opening d.domain d.nodes (neighbours s d); lines_called = 0; calls_made = 0; labels = no_labels; put_since_turn = None; waited = None }

-- the entries lead from the one state to the other, step by step
abbrev pub Leads : List CallLine → RunState → List PlainEntry → RunState → Type 0
Leads script old [] new = new ≡ old
Leads script old (e ∷ es) new = (next : RunState) × Step script old e next × Leads script next es new

-- the state to which entries lead
abbrev pub after_all : List CallLine → RunState → List PlainEntry → RunState
after_all script r [] = r
after_all script r (e ∷ es) = after_all script (after script r e) es

-- the state that a journal of a domain leaves
abbrev pub left_by : Scenario → DomainLine → List PlainEntry → RunState
left_by s d entries = after_all (script s d.domain) (start s d) entries

-- the journal is one of this domain: it runs its script, to the end or up to some line
pub record IsDomainRun (s : Scenario) (d : DomainLine) (entries : List PlainEntry) : Type 0 where
  pub steps : Leads (script s d.domain) (start s d) entries (left_by s d entries)
  pub settled : HasNoPuts (left_by s d entries).put_since_turn

-- it runs the whole script
abbrev pub IsWhole : Scenario → DomainLine → List PlainEntry → Type 0
IsWhole s d entries = (left_by s d entries).lines_called ≡ length (script s d.domain)
