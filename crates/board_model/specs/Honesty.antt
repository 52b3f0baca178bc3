-- Which addresses are real: those that a domain gave to endpoints of its own, each for the name under which it made the endpoint.
-- Source: docs/PROFILE.md, "Names": a domain gives its endpoints the addresses from 1024 on, one after the other.
use Rattle.std.specs.Prelude.{◌≡◌, ℕ, ◌+◌, ◌≤◌, ◌<◌, ◌==◌, ◌++◌, List, find, Some, Contains}
use Rattle.std.specs.List.{AllByRecursion}
use Rattle.mc_base.specs.Limits.{first_address, creation_limit}
use Rattle.mc_base.specs.NameMap.{address_in, rank}
use Rattle.mc_base.specs.declared.name.EndName.{EndName}
use Rattle.board_model.specs.declared.scenario.Scenario.{Scenario}
use Rattle.board_model.specs.LinkedBoard.{IsLinkedBoard}
use Rattle.board_model.specs.State.{Peer, peer_at}
use Rattle.board_model.specs.Board.{DomainJournal, IsBoardRun}
use Rattle.board_model.specs.Deeds.{Deed, after_deeds}
use Rattle.board_model.specs.JournalDeeds.{deeds_of, opened, left_in}
use Rattle.board_model.specs.Replied.{addresses_had}

-- an address that a domain has given, once it has made this many endpoints
pub record IsMade (endpoints a : ℕ) : Type 0 where
  pub above : first_address ≤ a
  pub below : a < first_address + endpoints

-- an address that the domain of this number gave, by its journal. It makes 60,000 endpoints at most, so the address is 1024 or more and
-- below 61,024
pub record IsReal (s : Scenario) (js : List DomainJournal) (domain a : ℕ) : Type 0 where
  pub journal : DomainJournal
  pub is_found : find (λ j. j.line.domain == domain) js ≡ Some journal
  pub made : IsMade (left_in s journal).endpoints_given a
  pub few : (left_in s journal).endpoints_given ≤ creation_limit

-- after any of the first deeds of a journal, each address that is known for a name of a peer is a real one of that peer
abbrev pub KnowsReal : Scenario → List DomainJournal → DomainJournal → Type 0
KnowsReal s js j = (before after : List Deed) → deeds_of s j ≡ before ++ after → (peer : ℕ) (p : Peer) → peer_at (after_deeds (opened s j) before) peer ≡ Some p → (n : EndName) (a : ℕ) → address_in n p.known ≡ Some a → IsReal s js peer a

-- and one that the name had: the name's domain gave it an endpoint which it made under the name
abbrev pub KnowsHad : Scenario → List DomainJournal → DomainJournal → Type 0
KnowsHad s js j = (before after : List Deed) → deeds_of s j ≡ before ++ after → (peer : ℕ) (p : Peer) → peer_at (after_deeds (opened s j) before) peer ≡ Some p → (n : EndName) (a : ℕ) → address_in n p.known ≡ Some a → Contains (addresses_had s js (rank n)) a

-- on a board of linked domains, at each moment of each domain's run
abbrev pub KnownAddressesAreReal : Type 0
KnownAddressesAreReal = (s : Scenario) (js : List DomainJournal) → IsLinkedBoard s → IsBoardRun s js → AllByRecursion (KnowsReal s js) js × AllByRecursion (KnowsHad s js) js
