-- Endpoints keep addresses of their own, whatever a domain does.
use Rattle.std.proofs.Common.{◌≡◌, ℕ, List, sym, subst}
use Rattle.board_model.specs.Deeds.{Deed, after_deed, happens_by}
use Rattle.board_model.specs.DomainCall.{DomainCall}
use Rattle.board_model.specs.CallChanges.{success_changes}
use Rattle.board_model.specs.Change.{changed_all}
use Rattle.board_model.specs.Scenario.{Neighbour}
use Rattle.board_model.specs.State.{DomainState, opening}
use Rattle.board_model.proofs.StateEnds.{Ends, ends-all}

pub ends_opened : (s : DomainState) (number nodes : ℕ) (ns : List Neighbour) → s ≡ opening number nodes ns → Ends s
ends_opened s number nodes ns is = subst Ends (sym is) (record { apart = tt; below = tt })

pub ends_after : (s t : DomainState) (d : Deed) → t ≡ after_deed s d → Ends s → Ends t
ends_after s t d is ends = subst Ends (sym is) (ends-all s (happens_by s d) ends)

pub ends_called : (s t : DomainState) (node : ℕ) (call : DomainCall) → t ≡ changed_all s (success_changes s node call) → Ends s → Ends t
ends_called s t node call is ends = subst Ends (sym is) (ends-all s (success_changes s node call) ends)
