-- How the rings of a board are finished: each lane's from the halves that its two ends left.
-- Source: docs/PROFILE.md, "Lanes" and "Runs": in queue 1 the driver of a link sends, and in queue 0 its device.
use Rattle.std.specs.Prelude.{◌≡◌, ◌⊎◌, ℕ, List, [], ◌∷◌, Some}
use Rattle.shared_words.specs.Shown.{size_of}
use Rattle.shared_words.specs.declared.view.Role.TheVariants.{Driver, Device}
use Rattle.split_ring.specs.Finished.{FinishedRing}
use Rattle.lane_end.specs.LaneRun.{HaveRun, IsLaneRun}
use Rattle.board_model.specs.declared.scenario.LinkLine.{LinkLine}
use Rattle.board_model.specs.LinkedBoard.{PairsDiffer}
use Rattle.domain_core.specs.LaneMoves.{LaneMove, sends, receives}
use Rattle.lane_images.specs.LaneImages.{WasRun}
use Rattle.board_runner.specs.declared.ended.EndedLink.{EndedLink}
use Rattle.board_runner.specs.declared.rings.LinkRings.{LinkRings}
use Rattle.board_runner.specs.Ended.{ended_at}
use Rattle.board_runner.specs.ThreadRun.{WasFinished}
use Rattle.std.specs.List.{AllByRecursion}

-- the moves of each domain at its ends towards each peer
abbrev pub BoardMoves : Type 0
BoardMoves = ℕ → ℕ → List LaneMove

-- ---- one link

-- the ends of the link made these moves since it was opened over its rings, and this is left of them
pub record LinkHasRun (moves : BoardMoves) (l : LinkLine) (on : LinkRings) (es : List EndedLink) : Type 0 where
  pub there : EndedLink
  pub back : EndedLink
  pub there_at : ended_at es l.driver l.device ≡ Some there
  pub back_at : ended_at es l.device l.driver ≡ Some back
  pub zero : HaveRun Device on.queue0 (sends (moves l.device l.driver)) (receives (moves l.driver l.device)) back.send there.recv
  pub one : HaveRun Driver on.queue1 (sends (moves l.driver l.device)) (receives (moves l.device l.driver)) there.send back.recv

-- the two rings that are finished show how these moves fit together
pub record LinkIsRun (moves : BoardMoves) (l : LinkLine) (on : LinkRings) (zero one : FinishedRing) : Type 0 where
  pub queue0 : zero.queue ≡ on.queue0.queue
  pub size0 : zero.size ≡ size_of on.queue0.ring
  pub width0 : zero.width ≡ on.queue0.ring.width
  pub finished0 : zero.queue ≡ 0 → WasFinished zero
  pub was0 : WasRun Device on.queue0 (sends (moves l.device l.driver)) (receives (moves l.driver l.device)) zero
  pub run0 : IsLaneRun Device (size_of on.queue0.ring) (sends (moves l.device l.driver)) (receives (moves l.driver l.device)) zero
  pub queue1 : one.queue ≡ on.queue1.queue
  pub size1 : one.size ≡ size_of on.queue1.ring
  pub width1 : one.width ≡ on.queue1.ring.width
  pub finished1 : WasFinished one
  pub was1 : WasRun Driver on.queue1 (sends (moves l.driver l.device)) (receives (moves l.device l.driver)) one
  pub run1 : IsLaneRun Driver (size_of on.queue1.ring) (sends (moves l.driver l.device)) (receives (moves l.device l.driver)) one

-- some moves led there
pub record MayFinishLink (l : LinkLine) (on : LinkRings) (es : List EndedLink) : Type 0 where
  pub moves : BoardMoves
  pub ran : LinkHasRun moves l on es
  pub apart : l.driver ≡ l.device → ⊥

-- whatever moves led there
abbrev pub FinishesLink : LinkLine → LinkRings → List EndedLink → FinishedRing → FinishedRing → Type 0
FinishesLink l on es zero one = (moves : BoardMoves) → LinkHasRun moves l on es → LinkIsRun moves l on zero one

-- these are the ends of the link
abbrev pub IsOfLink : LinkLine → ℕ → ℕ → Type 0
IsOfLink l a b = ((l.driver ≡ a) × (l.device ≡ b)) ⊎ ((l.device ≡ a) × (l.driver ≡ b))

-- ---- all links

abbrev pub LinksHaveRun : BoardMoves → List LinkLine → List LinkRings → List EndedLink → Type 0
LinksHaveRun moves [] [] es = Unit {0}
LinksHaveRun moves (l ∷ ls) (on ∷ rings) es = LinkHasRun moves l on es × LinksHaveRun moves ls rings es
LinksHaveRun moves ls rings es = ⊥

-- queue 0 and then queue 1 of each
abbrev pub LinksAreRun : BoardMoves → List LinkLine → List LinkRings → List FinishedRing → Type 0
LinksAreRun moves [] [] [] = Unit {0}
LinksAreRun moves (l ∷ ls) (on ∷ rings) (zero ∷ (one ∷ closed)) = LinkIsRun moves l on zero one × LinksAreRun moves ls rings closed
LinksAreRun moves ls rings closed = ⊥

pub record MayFinish (ls : List LinkLine) (rings : List LinkRings) (es : List EndedLink) : Type 0 where
  pub moves : BoardMoves
  pub ran : LinksHaveRun moves ls rings es
  pub apart : AllByRecursion (λ l. l.driver ≡ l.device → ⊥) ls
  pub differ : PairsDiffer ls

abbrev pub FinishesRings : List LinkLine → List LinkRings → List EndedLink → List FinishedRing → Type 0
FinishesRings ls rings es closed = (moves : BoardMoves) → LinksHaveRun moves ls rings es → LinksAreRun moves ls rings closed
