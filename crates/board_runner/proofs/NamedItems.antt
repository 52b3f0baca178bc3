-- The items that a call returns where its frames have names, by those of the state without them.
use Rattle.std.proofs.Common.{◌≡◌, ℕ, List, [], length, map, sym, ap, ◌∙◌}
use Rattle.board_model.specs.CallChanges.{returned}
use Rattle.board_model.specs.DomainCall.{DomainCall}
use Rattle.board_model.specs.State.{DomainState, Item, frames_from}
use Rattle.board_model.specs.Unnamed.{no_names, unnamed_item}
use Rattle.board_model.proofs.RenamedGiven.{returned-renamed}
use Rattle.board_model.proofs.UnnamedCounts.{frames_unnamed}
use Rattle.board_runner.specs.Near.{RunDomain}
use Rattle.board_runner.proofs.NumberedMoves.{none-mapped}

module _ (d : RunDomain) (node : ℕ) (call : DomainCall) where
  abbrev named : List Item
  named = returned d.numbered node call

  same_items : returned d.state node call ≡ map unnamed_item named
  same_items = ap (λ (s : DomainState). returned s node call) d.nameless ∙ returned-renamed no_names d.numbered node call

  -- they have as many frames of each peer
  pub named-many : (p : ℕ) → length (frames_from p (returned d.numbered node call)) ≡ length (frames_from p (returned d.state node call))
  named-many p = sym (frames_unnamed p named) ∙ ap (λ (is : List Item). length (frames_from p is)) (sym same_items)

  -- and there are none where there are none
  pub named-none : returned d.state node call ≡ [] → returned d.numbered node call ≡ []
  named-none none = none-mapped unnamed_item named (sym same_items ∙ none)
