-- Turns: what a domain may do at its peers, one after the other, and the state that it leaves.
-- Source: docs/PROFILE.md, "A turn". How much a look shows is left open, as far as the lane allows.
use Rattle.std.specs.Prelude.{◌≡◌, ℕ, ◌+◌, ◌-◌, ◌≤◌, min, List, [], ◌∷◌, ◌++◌, length, take, map, Option, None, Some}
use Rattle.mc_base.specs.Limits.{turn_limit}
use Rattle.board_model.specs.Journal.{Visit, Taken}
use Rattle.board_model.specs.State.{DomainState, Peer, peer_of, owed_to, held_from}
use Rattle.board_model.specs.Deeds.{Deed, looks_back, puts_owed, looks_ahead, takes, after_deeds, AllMayDo}

-- the owed frames that a visit puts: the first ones, as many as there are buffers free after the look, up to the limit
abbrev pub due_frames : ℕ → Peer → ℕ → List (List ℕ)
due_frames domain p back = take (min turn_limit (p.free + back)) (owed_to domain p)

-- frames taken from a peer, each with the name of its place among them, or with none
abbrev pub takes_named : (ℕ → Option ℕ) → ℕ → List Taken → List Deed
takes_named name peer [] = []
takes_named name peer (t ∷ ts) = takes peer (name 0) t.frame t.fate ∷ takes_named (λ k. name (k + 1)) peer ts

abbrev pub nameless : ℕ → Option ℕ
nameless k = None

-- what a visit does: a look at the buffers, the owed frames, a look at the frames, and those that are taken
abbrev pub visit_deeds : (ℕ → Option ℕ) → Visit → List Deed
visit_deeds name v = looks_back v.peer v.back ∷ (map (puts_owed v.peer) v.owed ++ (looks_ahead v.peer v.see ∷ takes_named name v.peer v.takes))

-- the state after a visit
abbrev pub after_visit : DomainState → Visit → DomainState
after_visit s v = after_deeds s (visit_deeds nameless v)

-- the lanes allow the visit, and it puts and takes exactly what is due after what its looks showed
pub record IsVisit (s : DomainState) (v : Visit) : Type 0 where
  pub at : Peer
  pub known : peer_of s v.peer ≡ Some at
  pub back_fits : v.back ≤ at.size - at.free
  pub puts_due : v.owed ≡ due_frames s.number at v.back
  pub sees_shown : at.shown ≤ v.see
  pub see_fits : v.see + held_from v.peer s ≤ at.size
  pub takes_first : length v.takes ≡ min turn_limit v.see
  pub may : AllMayDo s (visit_deeds nameless v)

abbrev pub AreVisits : DomainState → List Visit → Type 0
AreVisits s [] = Unit {0}
AreVisits s (v ∷ vs) = IsVisit s v × AreVisits (after_visit s v) vs

-- a turn visits each peer once, in rising number
pub record IsTurn (s : DomainState) (visits : List Visit) : Type 0 where
  pub each_peer : map (λ v. v.peer) visits ≡ map (λ p. p.number) s.peers
  pub allowed : AreVisits s visits

-- the state after a turn
abbrev pub after_turn : DomainState → List Visit → DomainState
after_turn s [] = s
after_turn s (v ∷ vs) = after_turn (after_visit s v) vs
