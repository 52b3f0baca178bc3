-- What is done with what a frame says, once it is read with the open part of its peer.
-- Source: docs/PROFILE.md, "What a domain does with a taken frame".
use Rattle.std.specs.Prelude.{◌≡◌, ◌==◌, ◌-◌, ℕ, List, [], Option, if◌then◌else◌}
use Rattle.mc_base.specs.Reading.{Reading}
use Rattle.mc_base.specs.declared.fate.Fate.{Fate}
use Rattle.board_model.specs.Change.{changed_all}
use Rattle.board_model.specs.Parts.{Came}
use Rattle.board_model.specs.Returns.{given_at_once}
use Rattle.board_model.specs.State.{DomainState, Part, Peer}
use Rattle.board_model.specs.TakenFrames.{row_of}
use Rattle.report_replay.specs.Naming.{AddsBy}

-- these names are added for a peer alone
abbrev pub AddsFor : ℕ → List ℕ → List (List ℕ) → List (List ℕ) → Type 0
AddsFor peer names old new = AddsBy (λ p. if peer == p then names else []) old new

-- one of the shown frames of a peer is taken, and this part is open after it
abbrev pub shown_less : Option Part → Peer → Peer
shown_less part p = record p { shown = p.shown - 1; part = part }

-- what is said and what brought it have their row's word, which is done; and the buffers are given back, where the word lets go of them
pub record Deals (peer : ℕ) (c : Came) (r : Reading) (s t : DomainState) (old new : List (List ℕ)) (given_word : Fate) : Type 0 where
  pub word : given_word ≡ (row_of s peer c r).word
  pub state : t ≡ changed_all s (row_of s peer c r).happens
  pub given : AddsFor peer (given_at_once given_word c.names) old new
