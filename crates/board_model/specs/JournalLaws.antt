-- Laws of the lines of journals.
-- Source: docs/FORMATS.md, "Journal text". They need no state of a domain, and no steps.
use Rattle.std.specs.Prelude.{◌≡◌, ℕ, List, []}
use Rattle.std.specs.List.{flat_map}
use Rattle.board_model.specs.declared.scenario.CallLine.{CallLine}
use Rattle.board_model.specs.declared.scenario.DomainLine.{DomainLine}
use Rattle.board_model.specs.declared.scenario.Scenario.{Scenario}
use Rattle.board_model.specs.Scenario.{script}
use Rattle.board_model.specs.Journal.{PlainEntry, joined}
use Rattle.board_model.specs.Language.{IsLawfulBoard}
use Rattle.board_model.specs.Unjoined.{unjoined, peers_of}
use Rattle.board_model.specs.JournalForm.{IsJournal}
use Rattle.board_model.specs.Logs.{answers_in, answers_on}
use Rattle.board_model.specs.JournalParts.{Part, part_lines, part_entries, StandBehind}

-- the lines of a domain's plain journal are read back as that journal
abbrev pub JoinedIsReadBack : Type 0
JoinedIsReadBack = (s : Scenario) (d : DomainLine) (es : List PlainEntry) → IsLawfulBoard s → IsJournal (peers_of s d) (script s d.domain) es → unjoined s d (joined es) ≡ es

-- parts of which none can be joined to the lines before it are the joined lines of their entries
abbrev pub PartsAreJoined : Type 0
PartsAreJoined = (peers : List ℕ) (ps : List Part) → StandBehind [] ps → joined (flat_map (part_entries peers) ps) ≡ flat_map part_lines ps

-- and every plain journal consists of such parts
abbrev pub JournalsHaveParts : Type 0
JournalsHaveParts = (peers : List ℕ) (script : List CallLine) (es : List PlainEntry) → IsJournal peers script es → (ps : List Part) × StandBehind [] ps × (flat_map (part_entries peers) ps ≡ es) × (joined es ≡ flat_map part_lines ps)

-- the joined lines of a plain journal have its answers
abbrev pub LinesKeepAnswers : Type 0
LinesKeepAnswers = (es : List PlainEntry) → answers_on (joined es) ≡ answers_in es
