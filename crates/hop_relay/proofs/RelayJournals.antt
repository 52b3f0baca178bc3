-- The journals of a relay's run, each by its own log: what a domain's channels accept and name, and what it takes.
use Rattle.std.proofs.Common.{◌≡◌, ℕ, ◌+◌, false, List, [], ◌∷◌, sym, subst, ◌∙◌, arith, inl, inr}
use Rattle.std.specs.Prelude.{◌==◌, Contains}
use Rattle.std.specs.List.{AllByRecursion}
use Rattle.std.proofs.lemmas.Bool.{cases_Bool, eqb-true}
use Rattle.board_model.specs.declared.scenario.Scenario.{Scenario}
use Rattle.board_model.specs.Scenario.{neighbours}
use Rattle.board_model.specs.Run.{IsDomainRun}
use Rattle.board_model.specs.Board.{DomainJournal}
use Rattle.board_model.specs.Channels.{accepted_by, named_by}
use Rattle.board_model.specs.Deeds.{along}
use Rattle.board_model.specs.JournalDeeds.{deeds_of, opened}
use Rattle.board_model.specs.Logs.{log_of}
use Rattle.board_model.specs.Takings.{takings_by}
use Rattle.board_model.proofs.ChannelBoard.{JournalRun}
use Rattle.board_model.proofs.ChannelPair.{aim}
use Rattle.board_model.proofs.ChannelWords.{not_begun, way_of, letters, contents}
use Rattle.board_model.proofs.DeedRuns.{puts_by}
use Rattle.board_model.proofs.HearingLaw.{opening_sound}
use Rattle.board_model.proofs.OneLane.{Aim, no_aim, aimed_at}
use Rattle.board_model.proofs.OrderSerials.{Serials, all_succeed}
use Rattle.hop_relay.specs.declared.role.Role.{Role}
use Rattle.hop_relay.specs.Roles.{FitsRole}
use Rattle.hop_relay.specs.Hop.{sent, received}
use Rattle.hop_relay.proofs.LogPackets.{has_packets}
use Rattle.hop_relay.proofs.RoleLines.{Connects, IsRoleOf}
use Rattle.hop_relay.proofs.RelayDeeds.{connects_in, no_deed_strays, deed_connects}
use Rattle.hop_relay.proofs.RelayStates.{none_named, all_named}
use Rattle.hop_relay.proofs.RelayPackets.{Takes, all_accepted, all_taken}

-- where a channel was not numbered, nothing is accepted on it
pub unnamed_accepts : (s : Scenario) (j : DomainJournal) → JournalRun s j → (m : ℕ) → along (named_by m) (opened s j) (deeds_of s j) ≡ [] → along (accepted_by m) (opened s j) (deeds_of s j) ≡ []
unnamed_accepts s j own m none = go (aim j.line.domain m j.line.nodes (neighbours s j.line) (deeds_of s j) own.may own.read own.few)
  where
    go : Aim (λ p. way_of not_begun (letters m (along (puts_by p) (opened s j) (deeds_of s j)))) (λ p. contents (letters m (along (puts_by p) (opened s j) (deeds_of s j)))) (along (accepted_by m) (opened s j) (deeds_of s j)) (along (named_by m) (opened s j) (deeds_of s j)) →
        along (accepted_by m) (opened s j) (deeds_of s j) ≡ []
    go (no_aim way nothing empty) = empty
    go (aimed_at q begun same far named) = let never : Contains [] q = subst (λ qs. Contains qs q) none named in let less = never.1 in absurd (omega (arith, less))

module _ (s : Scenario) (j : DomainJournal) (run : IsDomainRun s j.line j.entries) (own : JournalRun s j) (role : Role) (is : IsRoleOf j.line.domain role) (fits : FitsRole role (log_of s j)) where
  connects_once : Connects (λ q. q ≡ j.line.domain + 1) 1 (along connects_in (opened s j) (deeds_of s j))
  connects_once = deed_connects j.line.domain role s j run is fits

  none_else : (m : ℕ) → (m == 1) ≡ false → along (named_by m) (opened s j) (deeds_of s j) ≡ []
  none_else m other = none_named m other (opened s j) (deeds_of s j) own.may (no_deed_strays role s j run fits) (omega (arith, connects_once.few))

  -- a channel that is numbered is 1, and leads to the next domain
  pub names_next : (m : ℕ) → AllByRecursion (λ q. (q ≡ j.line.domain + 1) × (m ≡ 1)) (along (named_by m) (opened s j) (deeds_of s j))
  names_next m = elim (cases_Bool (m == 1)) [
    | inl one ↦ all_named (λ q. (q ≡ j.line.domain + 1) × (m ≡ 1)) m (opened s j) (deeds_of s j) (both (along connects_in (opened s j) (deeds_of s j)) (eqb-true m 1 one) connects_once.each)
    | inr other ↦ subst (AllByRecursion (λ q. (q ≡ j.line.domain + 1) × (m ≡ 1))) (sym (none_else m other)) tt
  ]
    where
      both : (qs : List ℕ) → m ≡ 1 → AllByRecursion (λ q. q ≡ j.line.domain + 1) qs → AllByRecursion (λ q. (q ≡ j.line.domain + 1) × (m ≡ 1)) qs
      both [] one all = tt
      both (q ∷ qs) one all = ((all.0, one), both qs one all.1)

  -- so nothing is accepted on another
  accepts_none : (m : ℕ) → (m == 1) ≡ false → along (accepted_by m) (opened s j) (deeds_of s j) ≡ []
  accepts_none m other = unnamed_accepts s j own m (none_else m other)

  pub accepts_sent : along (accepted_by 1) (opened s j) (deeds_of s j) ≡ sent (log_of s j)
  accepts_sent = all_accepted (opened s j) (deeds_of s j) own.may (no_deed_strays role s j run fits) accepts_none ∙ (has_packets s j run).sends

  pub takes_received : Takes (along takings_by (opened s j) (deeds_of s j)) (received (log_of s j))
  takes_received =
      let serials : Serials (all_succeed (deeds_of s j)) (opened s j) = record { differ = tt; below = tt; small = omega (arith, own.few) } in
      subst (Takes (along takings_by (opened s j) (deeds_of s j))) (has_packets s j run).receives
      (all_taken (all_succeed (deeds_of s j)) (opened s j) (deeds_of s j) (opening_sound j.line.domain j.line.nodes (neighbours s j.line)) serials (omega arith) tt own.may (no_deed_strays role s j run fits))
