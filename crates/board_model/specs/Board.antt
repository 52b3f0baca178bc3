-- Runs of a board: a run of each domain, whose lanes fit together. Nothing is said about the order in time of two lanes, nor of the
-- two ends of one: a frame may be taken before the entry that puts it.
-- Source: docs/PROFILE.md, "Boards".
use Rattle.std.specs.Prelude.{◌≡◌, ℕ, ◌+◌, ◌≤◌, List, [], ◌∷◌, ◌==◌, length, map, sum, find, Option, None, Some}
use Rattle.std.specs.List.{AllByRecursion}
use Rattle.board_model.specs.declared.scenario.DomainLine.{DomainLine}
use Rattle.board_model.specs.declared.scenario.Scenario.{Scenario}
use Rattle.board_model.specs.Lists.{IsPrefix}
use Rattle.board_model.specs.Scenario.{script, Lane, lanes, rising}
use Rattle.board_model.specs.Journal.{PlainEntry, turned, put, again, waits, called, Visit}
use Rattle.board_model.specs.Traffic.{put_to, taken_from, takes_in, visits_to, given, back_looks}
use Rattle.board_model.specs.Run.{start, IsDomainRun, IsWhole}

-- a domain of the board, with its journal
pub record DomainJournal : Type 0 where
  pub line : DomainLine
  pub entries : List PlainEntry

-- the journal of a domain
abbrev pub journal_in : Option DomainJournal → List PlainEntry
journal_in None = []
journal_in (Some j) = j.entries

abbrev pub journal_of : ℕ → List DomainJournal → List PlainEntry
journal_of d js = journal_in (find (λ j. j.line.domain == d) js)

-- how many buffers a domain gave back to a peer
abbrev pub given_by : Scenario → Option DomainJournal → ℕ → ℕ
given_by s None peer = 0
given_by s (Some j) peer = given (script s j.line.domain) (start s j.line) peer j.entries

abbrev pub given_back : Scenario → List DomainJournal → ℕ → ℕ → ℕ
given_back s js d peer = given_by s (find (λ j. j.line.domain == d) js) peer

-- each look shows at most the frames ever put, less those taken before it
abbrev pub SeeAtMost : ℕ → ℕ → List Visit → Type 0
SeeAtMost total taken [] = Unit {0}
SeeAtMost total taken (v ∷ vs) = (v.see + taken ≤ total) × SeeAtMost total (taken + length v.takes) vs

abbrev pub SeesAtMost : ℕ → ℕ → ℕ → List PlainEntry → Type 0
SeesAtMost peer total taken [] = Unit {0}
SeesAtMost peer total taken (turned visits ∷ es) = SeeAtMost total taken (visits_to peer visits) × SeesAtMost peer total (taken + length (takes_in peer (turned visits))) es
SeesAtMost peer total taken (put to frame ∷ es) = SeesAtMost peer total taken es
SeesAtMost peer total taken (again word ∷ es) = SeesAtMost peer total taken es
SeesAtMost peer total taken (waits k ∷ es) = SeesAtMost peer total taken es
SeesAtMost peer total taken (called k a ∷ es) = SeesAtMost peer total taken es

-- the two ends of a lane fit together: the frames taken are a prefix of those put, and no look shows more than there ever is
pub record LaneFits (s : Scenario) (js : List DomainJournal) (l : Lane) : Type 0 where
  pub taken_first : IsPrefix (taken_from l.sender (journal_of l.receiver js)) (put_to l.receiver (journal_of l.sender js))
  pub sees : SeesAtMost l.sender (length (put_to l.receiver (journal_of l.sender js))) 0 (journal_of l.receiver js)
  pub backs : sum (back_looks l.receiver (journal_of l.sender js)) ≤ given_back s js l.receiver l.sender

pub record IsBoardRun (s : Scenario) (js : List DomainJournal) : Type 0 where
  pub each_domain : map (λ j. j.line) js ≡ rising s
  pub domain_runs : AllByRecursion (λ j. IsDomainRun s j.line j.entries) js
  pub lanes_fit : AllByRecursion (LaneFits s js) (lanes s)

-- every script is run to its end
abbrev pub AreWhole : Scenario → List DomainJournal → Type 0
AreWhole s js = AllByRecursion (λ j. IsWhole s j.line j.entries) js
