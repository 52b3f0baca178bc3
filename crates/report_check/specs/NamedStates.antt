-- A state in which each frame is named by its place among those taken from its peer, and the places of the frames whose buffers were given
-- back.
-- Source: docs/PROFILE.md, "Lanes". What is done is listed without names, as it follows from the state without them.
use Rattle.std.specs.Prelude.{◌≡◌, ℕ, ◌+◌, ◌^◌, ◌<◌, ◌==◌, List, [], ◌∷◌, ◌++◌, slice_index, Some, if◌then◌else◌}
use Rattle.std.specs.List.{flat_map}
use Rattle.mc_base.specs.Limits.{domain_limit}
use Rattle.board_model.specs.declared.scenario.CallLine.{CallLine}
use Rattle.board_model.specs.Deeds.{Deed, takes, after_deeds, along}
use Rattle.board_model.specs.Returns.{names_given}
use Rattle.board_model.specs.Journal.{PlainEntry, turned, called, Visit}
use Rattle.board_model.specs.JournalDeeds.{call_deeds}
use Rattle.board_model.specs.State.{DomainState}
use Rattle.board_model.specs.Step.{RunState, next_line, after}
use Rattle.board_model.specs.Turn.{nameless, visit_deeds}
use Rattle.board_model.specs.Unnamed.{unnamed}
use Rattle.report_replay.specs.Naming.{names_for}
use Rattle.report_check.specs.declared.named_state.NamedState.{NamedState}

-- the state without the names of its frames
abbrev pub plain : NamedState → DomainState
plain t = unnamed t.state

-- ---- deeds that name each frame by how many were taken from its peer before

abbrev pub takes_of : ℕ → Deed → ℕ
takes_of peer (takes p name frame word) = if p == peer then 1 else 0
takes_of peer other = 0

abbrev pub takes_in : ℕ → List Deed → ℕ
takes_in peer [] = 0
takes_in peer (d ∷ ds) = takes_of peer d + takes_in peer ds

abbrev pub placed_deed : List Deed → Deed → Deed
placed_deed before (takes p name frame word) = takes p (Some (takes_in p before)) frame word
placed_deed before other = other

abbrev pub placed : List Deed → List Deed → List Deed
placed before [] = []
placed before (d ∷ ds) = placed_deed before d ∷ placed (before ++ d ∷ []) ds

-- ---- what was done since a first state

-- from each peer fewer frames are taken than places are counted
abbrev pub AreFew : List Deed → Type 0
AreFew ds = (peer : ℕ) → takes_in peer ds < 2 ^ 32

pub record HasDone (first : DomainState) (ds : List Deed) (t : NamedState) : Type 0 where
  pub state : t.state ≡ after_deeds first (placed [] ds)
  pub taken : (peer : ℕ) → peer < domain_limit → slice_index t.taken peer ≡ takes_in peer ds
  pub given : (peer : ℕ) → peer < domain_limit → names_for peer t.given ≡ along (names_given peer) first (placed [] ds)

-- these deeds are done next
pub record GoesOn (s t : NamedState) (ds : List Deed) : Type 0 where
  pub plain : plain t ≡ after_deeds (plain s) ds
  pub named : (first : DomainState) (before : List Deed) → AreFew (before ++ ds) → HasDone first before s → HasDone first (before ++ ds) t

-- ---- what entries of a journal tell is done

abbrev pub turn_deeds : List Visit → List Deed
turn_deeds vs = flat_map (visit_deeds nameless) vs

-- by a call that is made again nothing is done, since it is refused
abbrev pub deeds_by : List CallLine → RunState → PlainEntry → List Deed
deeds_by script r (turned visits) = turn_deeds visits
deeds_by script r (called k a) = call_deeds (next_line script r) r a
deeds_by script r other = []

abbrev pub deeds_on : List CallLine → RunState → List PlainEntry → List Deed
deeds_on script r [] = []
deeds_on script r (e ∷ es) = deeds_by script r e ++ deeds_on script (after script r e) es
