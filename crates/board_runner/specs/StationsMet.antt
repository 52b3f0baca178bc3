-- What happens where the two stations of a link meet.
-- Source: docs/PROFILE.md, "Lanes" and "Serial run". The ends of both lanes of the link between their domains meet, where there is one.
use Rattle.std.specs.Prelude.{◌≡◌, ℕ, List, map, slice_get, Some, Contains}
use Rattle.lane_end.specs.AnyLane.{AreEndsOfOneRing, EndsHaveMet}
use Rattle.board_model.specs.declared.scenario.Scenario.{Scenario}
use Rattle.board_model.specs.Language.{IsLawfulBoard}
use Rattle.board_model.specs.SerialRun.{Running}
use Rattle.domain_core.specs.Carrying.{AreLinked, Carries}
use Rattle.board_runner.specs.declared.station.Station.{Station}
use Rattle.board_runner.specs.Near.{RunDomain, peers_of}
use Rattle.board_runner.specs.Stations.{near, IsRun, IsBoard}
use Rattle.board_runner.specs.Carried.{HasCome, IsTrue, DidNothing}

-- where a domain has a peer, both have a link to the other
abbrev pub AreLinkedPeers : RunDomain → RunDomain → Type 0
AreLinkedPeers one two = Contains (peers_of one) two.state.number → AreLinked AreEndsOfOneRing one.state.number two.state.number one.ends two.ends

-- the ends of the link between two domains meet, or there is no link and they stay
pub data DomainsMeet (one two one' two' : RunDomain) : Type 0 where
  linked : AreLinked AreEndsOfOneRing one.state.number two.state.number one.ends two.ends → Carries EndsHaveMet one.state.number two.state.number one.ends two.ends one'.ends two'.ends → one' ≡ record one { ends = one'.ends } → two' ≡ record two { ends = two'.ends } → DomainsMeet one two one' two'
  apart : (Contains (peers_of one) two.state.number → ⊥) → one' ≡ one → two' ≡ two → DomainsMeet one two one' two'

-- two stations may meet where their domains may. The second has its domain's number beside it
pub record StationsMayMeet (one two : Station) : Type 0 where
  pub number : two.domain_number ≡ two.domain.state.number
  pub peers : AreLinkedPeers one.domain two.domain

-- the domains of two stations meet, and all else of the stations stays
pub record StationsMeet (one two one' two' : Station) : Type 0 where
  pub domains : DomainsMeet one.domain two.domain one'.domain two'.domain
  pub one_keeps : one' ≡ record one { domain = one'.domain }
  pub two_keeps : two' ≡ record two { domain = two'.domain }

-- ---- among the stations of a board

abbrev pub domains_of : List Station → List RunDomain
domains_of sts = map (λ st. st.domain) sts

abbrev pub numbers_of : List Station → List ℕ
numbers_of sts = map (λ st. st.domain.state.number) sts

-- how many of a station's lines were called, and how many messages its deletes dropped
abbrev pub counted : Station → ℕ × ℕ
counted st = (st.number, st.dropped)

-- the stations stand for the same run of a board, and are domains of the same numbers. No less is known than before, and nothing was done
pub record KeepsRun (old new : List Station) : Type 0 where
  pub run : (s : Scenario) (r : Running) → IsLawfulBoard s → IsRun s r old → IsRun s r new
  pub board : (s : Scenario) → IsLawfulBoard s → IsBoard s old → IsBoard s new
  pub numbers : numbers_of new ≡ numbers_of old
  pub counts : map counted new ≡ map counted old
  pub alike : (a b : ℕ) → DidNothing (near (domains_of old) a b) (near (domains_of new) a b)

-- all that the domain at the one place did is known to that at the other
abbrev pub ComesFrom : List Station → ℕ → ℕ → Type 0
ComesFrom sts i j = (n m : ℕ) → slice_get (numbers_of sts) i ≡ Some n → slice_get (numbers_of sts) j ≡ Some m → HasCome (near (domains_of sts) n m) (near (domains_of sts) m n)

-- what the domain at the one place knows of that at the other, and took from it, is true
abbrev pub TrueOf : List Station → ℕ → ℕ → Type 0
TrueOf sts i j = (n m : ℕ) → slice_get (numbers_of sts) i ≡ Some n → slice_get (numbers_of sts) j ≡ Some m → IsTrue (near (domains_of sts) n m) (near (domains_of sts) m n)

-- the ends of the link between the stations at two places met
pub record LinksMeetAt (i j : ℕ) (old new : List Station) : Type 0 where
  pub keeps : KeepsRun old new
  pub there : ComesFrom new i j
  pub back : ComesFrom new j i
  pub there_true : TrueOf old i j
  pub back_true : TrueOf old j i
