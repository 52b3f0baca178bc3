-- Calls as a domain knows them: requests and lent packets are named by their places in the domain's lists, and no label is left.
-- Source: docs/PROFILE.md, "Calls".
use Rattle.std.specs.Prelude.{ℕ, Bool, List, Option}
use Rattle.mc_base.specs.declared.name.EndName.{EndName}
use Rattle.mc_base.specs.declared.channel.Kind.{Kind}
use Rattle.mc_base.specs.declared.channel.Bits.{Bits}
use Rattle.mc_base.specs.declared.channel.Side.{Side}

-- the port at which a call is made comes first, and the peer of a raw frame; a request or packet that does not exist is none. A wait has all the requests that it
-- names, in its line's order, and whether its answer says which of them is complete
pub data DomainCall : Type 0 where
  create_at : ℕ → DomainCall
  delete_at : ℕ → DomainCall
  lookup_of : EndName → DomainCall
  send_from : ℕ → EndName → ℕ → List ℕ → DomainCall
  receive_at : ℕ → ℕ → DomainCall
  request_at : ℕ → ℕ → DomainCall
  available_at : ℕ → DomainCall
  connect_from : ℕ → EndName → Kind → DomainCall
  open_at : ℕ → Side → Kind → DomainCall
  packet_from : ℕ → List ℕ → DomainCall
  lend_at : ℕ → DomainCall
  packet_request_at : ℕ → DomainCall
  release_of : Option ℕ → DomainCall
  scalar_from : ℕ → Bits → ℕ → DomainCall
  scalar_at : ℕ → Bits → DomainCall
  close_at : ℕ → Side → DomainCall
  test_of : Option ℕ → DomainCall
  wait_for : List (Option ℕ) → Bool → DomainCall
  cancel_of : Option ℕ → DomainCall
  raw_to : ℕ → List ℕ → DomainCall
  turn_alone : DomainCall
