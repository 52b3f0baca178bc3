-- Boards of linked domains: scenarios whose domains, links and calls fit together.
-- Source: docs/FORMATS.md, "Scenario files".
use Rattle.std.specs.Prelude.{◌≡◌, ◌⊎◌, ℕ, ◌*◌, ◌≤◌, ◌<◌, ◌^◌, List, [], ◌∷◌, map, length, Contains}
use Rattle.std.specs.List.{AllByRecursion}
use Rattle.mc_base.specs.Limits.{asked_limit, longest_frame, try_limit, last_domain, last_node, link_limit, last_priority}
use Rattle.mc_base.specs.Letter.{bytes_of_bits}
use Rattle.board_model.specs.declared.scenario.LinkLine.{LinkLine}
use Rattle.board_model.specs.declared.scenario.Call.{Call}
use Rattle.board_model.specs.declared.scenario.Call.TheVariants.{Create, Delete, Lookup, MsgSend, MsgRecv, MsgRecvI, MsgAvailable, Connect, OpenSend, OpenRecv, PktSend, PktRecv, PktRecvI, Release, SclSend, SclRecv, CloseSend, CloseRecv, Test, Wait, WaitAny, Cancel, Raw, Turn}
use Rattle.board_model.specs.declared.scenario.Scenario.{Scenario}
use Rattle.board_model.specs.Forms.{group_limit}
use Rattle.board_model.specs.Grammar.{IsLawfulDomain, IsLawfulName}

-- no number comes twice
abbrev pub Differ : List ℕ → Type 0
Differ [] = Unit {0}
Differ (n ∷ ns) = AllByRecursion (λ m. m ≡ n → ⊥) ns × Differ ns

-- a domain that is declared
abbrev pub IsTold : Scenario → ℕ → Type 0
IsTold s d = Contains (map (λ l. l.domain) s.domains) d

-- a link joins two domains that are declared
pub record Joins (s : Scenario) (l : LinkLine) : Type 0 where
  pub driver_told : IsTold s l.driver
  pub device_told : IsTold s l.device
  pub two_domains : l.driver ≡ l.device → ⊥
  pub some_buffers : 1 ≤ l.size
  pub buffers_fit : l.size ≤ link_limit

-- two links of one pair, whichever of the two is the driver
abbrev pub IsSamePair : LinkLine → LinkLine → Type 0
IsSamePair l m = ((l.driver ≡ m.driver) × (l.device ≡ m.device)) ⊎ ((l.driver ≡ m.device) × (l.device ≡ m.driver))

abbrev pub PairsDiffer : List LinkLine → Type 0
PairsDiffer [] = Unit {0}
PairsDiffer (l ∷ ls) = AllByRecursion (λ m. IsSamePair l m → ⊥) ls × PairsDiffer ls

-- the arguments of a call are in their ranges
abbrev pub HasFitArguments : Call → Type 0
HasFitArguments (Create port) = port < 2 ^ 16
HasFitArguments (Delete port) = port < 2 ^ 16
HasFitArguments (Lookup name) = IsLawfulName name
HasFitArguments (MsgSend port to priority bytes) = (port < 2 ^ 16) × IsLawfulName to × (priority ≤ last_priority) × (length bytes ≤ asked_limit) × AllByRecursion (λ b. b < 256) bytes
HasFitArguments (MsgRecv port max) = (port < 2 ^ 16) × (max ≤ asked_limit)
HasFitArguments (MsgRecvI port max) = (port < 2 ^ 16) × (max ≤ asked_limit)
HasFitArguments (MsgAvailable port) = port < 2 ^ 16
HasFitArguments (Connect port to kind) = (port < 2 ^ 16) × IsLawfulName to
HasFitArguments (OpenSend port kind) = port < 2 ^ 16
HasFitArguments (OpenRecv port kind) = port < 2 ^ 16
HasFitArguments (PktSend port bytes) = (port < 2 ^ 16) × (length bytes ≤ asked_limit) × AllByRecursion (λ b. b < 256) bytes
HasFitArguments (PktRecv port) = port < 2 ^ 16
HasFitArguments (PktRecvI port) = port < 2 ^ 16
HasFitArguments (Release label) = Unit {0}
HasFitArguments (SclSend port bits value) = (port < 2 ^ 16) × (value < 2 ^ (8 * bytes_of_bits bits))
HasFitArguments (SclRecv port bits) = port < 2 ^ 16
HasFitArguments (CloseSend port) = port < 2 ^ 16
HasFitArguments (CloseRecv port) = port < 2 ^ 16
HasFitArguments (Test label) = Unit {0}
HasFitArguments (Wait label limit) = limit ≤ try_limit
HasFitArguments (WaitAny labels limit) = (1 ≤ length labels.items) × (length labels.items ≤ group_limit) × (limit ≤ try_limit)
HasFitArguments (Cancel label) = Unit {0}
HasFitArguments (Raw domain bytes) = (domain ≤ last_domain) × (1 ≤ length bytes) × (length bytes ≤ longest_frame) × AllByRecursion (λ b. b < 256) bytes
HasFitArguments Turn = Unit {0}

pub record IsLinkedBoard (s : Scenario) : Type 0 where
  pub domains_lawful : AllByRecursion IsLawfulDomain s.domains
  pub domains_differ : Differ (map (λ d. d.domain) s.domains)
  pub links_join : AllByRecursion (Joins s) s.links
  pub pairs_differ : PairsDiffer s.links
  pub lines_told : AllByRecursion (λ c. IsTold s c.domain) s.calls
  pub nodes_fit : AllByRecursion (λ c. c.node ≤ last_node) s.calls
  pub arguments_fit : AllByRecursion (λ c. HasFitArguments c.call) s.calls
  pub lines_few : length s.calls < 2 ^ 32
