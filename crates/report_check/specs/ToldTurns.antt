-- What the lines of a turn tell of each peer, as it is kept while the turn that is due is made.
use Rattle.std.specs.Prelude.{◌≡◌, ℕ, ◌+◌, ◌^◌, ◌<◌, ◌≤◌, min, nat_le, List, [], ◌∷◌, length, map, get_or, set, sum_by, Option, None, Some, option_map, ◌==◌, if◌then◌else◌}
use Rattle.std.specs.List.{AllByRecursion, flat_map}
use Rattle.mc_base.specs.Limits.{domain_limit, turn_limit}
use denote.Bor.{Bor}
use Rattle.board_model.specs.Journal.{Line, Visit}
use Rattle.board_model.specs.Unjoined.{visit_in}
use Rattle.mc_journal.specs.LineForms.{line_in}
use Rattle.report_text.specs.LaneLines.{LaneLine, came_back, shows, takes as takes_frame, lane_of, back_in}
use Rattle.report_text.specs.StepPass.{frames_coming}
use Rattle.report_check.specs.declared.told_turn.ToldPeer.{ToldPeer}
use Rattle.report_check.specs.declared.told_turn.ToldTurn.{ToldTurn}

-- the frame that a line says was taken. Any other line stands for a frame of one byte
abbrev pub frame_on : Option LaneLine → List ℕ
frame_on (Some (takes_frame peer frame)) = frame
frame_on other = 0 ∷ []

abbrev pub frame_told : List ℕ → List ℕ
frame_told text = frame_on (option_map lane_of (line_in text))

-- what is kept of a peer is what the visit there tells: its looks, and the frames of the first takes
pub record IsToldPeer (t : ToldPeer) (v : Visit) : Type 0 where
  pub back : t.back ≡ v.back
  pub see : t.see ≡ v.see
  pub frames : map (λ l. frame_told l.now) t.takes ≡ frames_coming turn_limit (map (λ x. x.frame) v.takes)

-- and none of the lines is longer than this
abbrev pub HasShortLines : ℕ → ToldPeer → Type 0
HasShortLines size t = AllByRecursion (λ l. length l.now ≤ size) t.takes

-- the same of all peers of domain numbers
abbrev pub IsToldTurn : ToldTurn → List Line → Type 0
IsToldTurn t ls = (n : ℕ) (other : ToldPeer) → n < domain_limit → IsToldPeer (get_or t.peers n other) (visit_in ls n)

abbrev pub AreShort : ℕ → ToldTurn → Type 0
AreShort size t = AllByRecursion (HasShortLines size) t.peers

-- ---- while the lines are read

-- the peer of which a line tells what its lanes showed
abbrev pub peer_on : LaneLine → Option ℕ
peer_on (came_back peer n) = Some peer
peer_on (shows peer n) = Some peer
peer_on (takes_frame peer frame) = Some peer
peer_on other = None

abbrev pub see_in : ℕ → LaneLine → ℕ
see_in p (shows peer n) = if peer == p then n else 0
see_in p other = 0

abbrev pub frames_in : ℕ → LaneLine → List (List ℕ)
frames_in p (takes_frame peer frame) = if peer == p then frame ∷ [] else []
frames_in p other = []

-- the lines so far tell this of a peer
pub record IsToldOn (n : ℕ) (ks : List LaneLine) (t : ToldPeer) : Type 0 where
  pub back : t.back ≡ sum_by (back_in n) ks
  pub see : t.see ≡ sum_by (see_in n) ks
  pub frames : map (λ l. frame_told l.now) t.takes ≡ frames_coming turn_limit (flat_map (frames_in n) ks)
  pub count : t.count ≡ min turn_limit (length (flat_map (frames_in n) ks))

abbrev pub AreToldPeers : List ToldPeer → List LaneLine → Type 0
AreToldPeers ts ks = (n : ℕ) (other : ToldPeer) → n < domain_limit → IsToldOn n ks (get_or ts n other)

-- with the line of one more take
abbrev pub with_line : Bor (List ℕ) → ToldPeer → ToldPeer
with_line line t = if nat_le turn_limit t.count then t else record t { count = t.count + 1; takes = set t.takes t.count line }

-- with one more line
abbrev pub told_with : Bor (List ℕ) → LaneLine → ToldPeer → ToldPeer
told_with line (came_back peer n) t = record t { back = t.back + n }
told_with line (shows peer n) t = record t { see = t.see + n }
told_with line (takes_frame peer frame) t = with_line line t
told_with line other t = t

-- the counts of one more line fit
pub record HasRoom (t : ToldPeer) : Type 0 where
  pub back : t.back + 2 ^ 32 ≤ 2 ^ 64
  pub see : t.see + 2 ^ 32 ≤ 2 ^ 64

-- and are not greater by more
pub record GrowsLittle (t u : ToldPeer) : Type 0 where
  pub back : u.back ≤ t.back + 2 ^ 32
  pub see : u.see ≤ t.see + 2 ^ 32

abbrev pub HaveRoom : List ToldPeer → Type 0
HaveRoom ts = (n : ℕ) (other : ToldPeer) → n < domain_limit → HasRoom (get_or ts n other)

abbrev pub GrowLittle : List ToldPeer → List ToldPeer → Type 0
GrowLittle ts us = (n : ℕ) (other : ToldPeer) → n < domain_limit → GrowsLittle (get_or ts n other) (get_or us n other)
