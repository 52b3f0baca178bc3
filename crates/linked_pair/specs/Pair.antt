-- Two linked domains, and the calls of each.
-- Source: docs/PROFILE.md, "Boards" and "Calls".
use Rattle.std.specs.Prelude.{◌≡◌, ◌≤◌, ℕ, Bool, List, [], ◌∷◌, Option, None}
use Rattle.mc_base.specs.Limits.{last_domain, node_limit, pool_limit}
use Rattle.mc_base.specs.declared.request.RequestId.{RequestId}
use Rattle.lane_end.specs.PlainSender.{Sends}
use Rattle.lane_end.specs.PlainReceiver.{Receives}
use Rattle.lane_end.specs.Loop.{new_loop}
use Rattle.board_model.specs.DomainCall.{DomainCall}
use Rattle.board_model.specs.Journal.{Line, PlainAnswer}
use Rattle.board_model.specs.State.{opening}
use Rattle.domain_core.specs.Ends.{EndsMoved}
use Rattle.domain_core.specs.Calls.{Calls}
use Rattle.domain_core.specs.Opening.{ends_opened, neighbours_opened}
use Rattle.domain_core.specs.Going.{PlainDomain}
use Rattle.domain_core.specs.Waiting.{Waits}
use Rattle.linked_pair.specs.Links.{new_link}
use Rattle.linked_pair.specs.declared.member.Member.{Member}
use Rattle.linked_pair.specs.declared.member.Which.{Which}
use Rattle.linked_pair.specs.declared.member.Which.TheVariants.{One, Two}

-- both domains
pub record Pair : Type 0 where
  pub one : PlainDomain
  pub two : PlainDomain

abbrev pub domain_of : Which → Pair → PlainDomain
domain_of One p = p.one
domain_of Two p = p.two

abbrev pub other_of : Which → Pair → PlainDomain
other_of One p = p.two
other_of Two p = p.one

-- a call of one of them; the other stays as it is
pub record CallsAt (which : Which) (node : ℕ) (call : DomainCall) (old new : Pair) (lines lines' : List Line) (answered : PlainAnswer) (given : Option RequestId) : Type 0 where
  pub calls : Calls (EndsMoved Sends Receives) node call (domain_of which old) (domain_of which new) lines lines' answered given
  pub stays : other_of which new ≡ other_of which old

-- a wait of one of them; the other stays as it is
pub record WaitsAt (which : Which) (number limit : ℕ) (ids : List RequestId) (says_place : Bool) (old new : Pair) (lines lines' : List Line) (answered : Option PlainAnswer) : Type 0 where
  pub waits : Waits (EndsMoved Sends Receives) number limit ids says_place (domain_of which old) (domain_of which new) lines lines' answered
  pub stays : other_of which new ≡ other_of which old

-- numbers with which a domain may be opened
pub record IsMember (m : Member) : Type 0 where
  pub number : m.number ≤ last_domain
  pub some_nodes : 1 ≤ m.nodes
  pub nodes : m.nodes ≤ node_limit
  pub some_pool : 1 ≤ m.pool
  pub pool : m.pool ≤ pool_limit

-- a domain just opened, with one link, of a size, to a peer
pub record IsOpened (m : Member) (peer size : ℕ) (d : PlainDomain) : Type 0 where
  pub state : d.state ≡ opening m.number m.nodes (neighbours_opened m.number m.pool (new_link peer size ∷ []))
  pub ends : d.ends ≡ ends_opened m.number (new_loop m.pool) (new_link peer size ∷ [])
  pub ids : d.ids ≡ []
