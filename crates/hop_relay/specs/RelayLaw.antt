-- The law of relays: the packets that the far end took are the first of those that the source put, and the others are on the way.
-- Source: docs/PROFILE.md, "Relays", and docs/PROMISES.md, "Relays".
use Rattle.std.specs.Prelude.{◌≡◌, ℕ, zero, suc, ◌+◌, ◌-◌, ◌≤◌, ◌<◌, List, [], ◌++◌, ◌==◌, find, Option, None, Some}
use Rattle.board_model.specs.declared.scenario.Scenario.{Scenario}
use Rattle.board_model.specs.Lists.{IsPrefix}
use Rattle.board_model.specs.LinkedBoard.{IsLinkedBoard}
use Rattle.board_model.specs.Board.{DomainJournal, IsBoardRun}
use Rattle.board_model.specs.Channels.{items_accepted, items_taken, items_left, domains_named}
use Rattle.board_model.specs.Logs.{LoggedCall, log_of}
use Rattle.hop_relay.specs.Hop.{sent, received, held}
use Rattle.hop_relay.specs.RelayBoard.{IsRelayBoard, LogsFitRoles}

-- ---- the channel of a domain is the one that it numbers 1

abbrev pub accepted_at : Scenario → List DomainJournal → ℕ → List (List ℕ)
accepted_at s js d = items_accepted s js d 1

abbrev pub taken_at : Scenario → List DomainJournal → ℕ → List (List ℕ)
taken_at s js d = items_taken s js d 1

abbrev pub left_at : Scenario → List DomainJournal → ℕ → List (List ℕ)
left_at s js d = items_left s js d 1

-- ---- the log of a domain, by its number

abbrev pub log_in : Scenario → Option DomainJournal → List LoggedCall
log_in s None = []
log_in s (Some j) = log_of s j

abbrev pub log_at : Scenario → List DomainJournal → ℕ → List LoggedCall
log_at s js d = log_in s (find (λ j. j.line.domain == d) js)

-- ---- what the source put and the taker of a domain's channel did not take yet: left in this channel, held by the domain, left in the
-- channel before, and so on back to the first channel

abbrev pub on_the_way : Scenario → List DomainJournal → ℕ → List (List ℕ)
on_the_way s js zero = left_at s js 0
on_the_way s js (suc d) = left_at s js (suc d) ++ (held (log_at s js (suc d)) ++ on_the_way s js d)

-- ---- the laws

-- a board run of a relay, of whole scripts or not, in which each log fits the role of its domain
pub record IsRelayRun (packets : List (List ℕ)) (hops size most : ℕ) (s : Scenario) (js : List DomainJournal) : Type 0 where
  pub linked : IsLinkedBoard s
  pub board : IsRelayBoard hops size s
  pub is_run : IsBoardRun s js
  pub logs_fit : LogsFitRoles s js packets hops most

-- what a hop's channel accepted is what the log of its domain sent, and what was taken of it is what the log of the next received
pub record HopFitsLogs (s : Scenario) (js : List DomainJournal) (d : ℕ) : Type 0 where
  pub accepted : accepted_at s js d ≡ sent (log_at s js d)
  pub taken : taken_at s js d ≡ received (log_at s js (d + 1))

abbrev pub HopsFitLogs : Type 0
HopsFitLogs = (packets : List (List ℕ)) (hops size most : ℕ) (s : Scenario) (js : List DomainJournal) → IsRelayRun packets hops size most s js → (d : ℕ) → d < hops → HopFitsLogs s js d

-- a channel that was never numbered is empty
pub record IsEmptyAt (s : Scenario) (js : List DomainJournal) (d : ℕ) : Type 0 where
  pub none_accepted : accepted_at s js d ≡ []
  pub none_taken : taken_at s js d ≡ []
  pub none_left : left_at s js d ≡ []

abbrev pub UnnumberedAreEmpty : Type 0
UnnumberedAreEmpty = (s : Scenario) (js : List DomainJournal) → IsLinkedBoard s → IsBoardRun s js → (d : ℕ) → domains_named s js d 1 ≡ [] → IsEmptyAt s js d

pub record KeepsOrder (packets : List (List ℕ)) (hops : ℕ) (s : Scenario) (js : List DomainJournal) : Type 0 where
  -- what the source put is what the far end took, and then what is on the way
  pub order : accepted_at s js 0 ≡ taken_at s js (hops - 1) ++ on_the_way s js (hops - 1)
  pub taken_first : IsPrefix (taken_at s js (hops - 1)) (accepted_at s js 0)
  -- and the source put the first of the packets
  pub accepted_first : IsPrefix (accepted_at s js 0) packets

abbrev pub RelaysKeepOrder : Type 0
RelaysKeepOrder = (packets : List (List ℕ)) (hops size most : ℕ) (s : Scenario) (js : List DomainJournal) → 1 ≤ hops → IsRelayRun packets hops size most s js → KeepsOrder packets hops s js
