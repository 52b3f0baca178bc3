-- The run of a relay's actors: new ones are ready on its board, and what they leave is the run of a relay.
use Rattle.std.proofs.Common.{◌≡◌, ℕ, ◌+◌, ◌*◌, ◌≤◌, ◌<◌, ◌^◌, List, [], ◌∷◌, ◌++◌, map, length, sum_by, flat_map, sym, subst, ap, ◌∙◌, arith}
use Rattle.std.specs.List.{AllByRecursion}
use Rattle.std.proofs.lemmas.List.Folds.{flat_map-map}
use Rattle.std.proofs.lemmas.List.Sums.{sum_by-cons}
use Rattle.board_model.specs.declared.scenario.DomainLine.{DomainLine}
use Rattle.board_model.specs.declared.scenario.Scenario.{Scenario}
use Rattle.board_model.specs.Board.{DomainJournal}
use Rattle.board_model.specs.Language.{IsLawfulBoard}
use Rattle.board_model.specs.Logs.{log_of}
use Rattle.board_model.specs.Scenario.{script}
use Rattle.board_model.proofs.LawfulBoards.{lawful_is_linked}
use Rattle.board_model.proofs.MessageAlls.{all-weaken}
use Rattle.board_runner.specs.declared.outcome.Outcome.{Outcome}
use Rattle.board_runner.specs.ActorRun.{AllHaveEnded, AreReady, HaveActed, MayAct}
use Rattle.board_runner.specs.ActorRun.{HasEnded as ActorHasEnded}
use Rattle.hop_relay.specs.contracts.relay_actor.RelayActorActor.TheImpl.{ghosts as relay_actor}
use Rattle.hop_relay.specs.declared.relay_actor.RelayActor.{RelayActor}
use Rattle.hop_relay.specs.declared.role.Role.{Role}
use Rattle.hop_relay.specs.Hop.{IsHop}
use Rattle.hop_relay.specs.RelayActors.{AreNew, IsNew, domain_of_role, role_of_actor, todo_of_actor}
use Rattle.hop_relay.specs.RelayBoard.{IsRelayBoard, numbers_below, relay_domain, role_of}
use Rattle.hop_relay.specs.RelayLaw.{IsRelayRun}
use Rattle.hop_relay.specs.RelayRun.{IsRelayed, IsRelayOutcome}
use Rattle.hop_relay.specs.Roles.{FitsRole, HasEnded}
use Rattle.hop_relay.specs.Steps.{packet_limit}
use Rattle.hop_relay.proofs.HopLemmas.{is_hop}
use Rattle.hop_relay.proofs.NumbersBelow.{below-more, length-below}
use Rattle.hop_relay.proofs.RelayRows.{domains-rise}
use Rattle.hop_relay.proofs.RoleNumbers.{is_between, role-number}

module _ (packets : List (List ℕ)) (hops : ℕ) where
  -- ---- before

  one_more_new : (ds : List ℕ) (actors : List RelayActor) (d : ℕ) (a : RelayActor) → AreNew packets hops ds actors → IsNew (role_of packets hops packet_limit d) a → AreNew packets hops (ds ++ d ∷ []) (actors ++ a ∷ [])
  one_more_new [] [] d a are is = (is, tt)
  one_more_new [] (b ∷ bs) d a are is = absurd are
  one_more_new (e ∷ es) [] d a are is = absurd are
  one_more_new (e ∷ es) (b ∷ bs) d a are is = (are.0, one_more_new es bs d a are.1 is)

  pub next-new : (d : ℕ) (before after : List RelayActor) (a : RelayActor) → after ≡ before ++ a ∷ [] → AreNew packets hops (numbers_below d) before → IsNew (role_of packets hops packet_limit d) a → AreNew packets hops (numbers_below (d + 1)) after
  next-new d before after a longer are is =
      subst (AreNew packets hops (numbers_below (d + 1))) (sym longer)
      (subst (λ (ds : List ℕ). AreNew packets hops ds (before ++ a ∷ [])) (sym (below-more d)) (one_more_new (numbers_below d) before d a are is))

  are_ready : (ds : List ℕ) (actors : List RelayActor) → AreNew packets hops ds actors → AreReady relay_actor (map relay_domain ds) actors
  are_ready [] [] are = tt
  are_ready [] (a ∷ actors) are = absurd are
  are_ready (d ∷ ds) [] are = absurd are
  are_ready (d ∷ ds) (a ∷ actors) are =
      (record { own = ap domain_of_role are.0.role ∙ role-number packets hops packet_limit d; asked = are.0.asked; fits = are.0.fits }, are_ready ds actors are.1)

  todo_few : (ds : List ℕ) (actors : List RelayActor) → AreNew packets hops ds actors → sum_by todo_of_actor actors + length ds ≤ 2 ^ 29 * length ds
  todo_few [] [] are = omega arith
  todo_few [] (a ∷ actors) are = absurd are
  todo_few (d ∷ ds) [] are = absurd are
  todo_few (d ∷ ds) (a ∷ actors) are = omega (arith, sum_by-cons todo_of_actor a actors, are.0.few, todo_few ds actors are.1)

  pub may-act : (size : ℕ) (board : Scenario) (actors : List RelayActor) → hops ≤ 7 → IsRelayBoard hops size board → board.calls ≡ [] → IsLawfulBoard board → AreNew packets hops (numbers_below (hops + 1)) actors → MayAct relay_actor board actors
  may-act size board actors few is bare lawful are = record {
    lawful = lawful;
    bare = bare;
    ready = subst (λ (ds : List DomainLine). AreReady relay_actor ds actors) (sym (domains-rise hops size board is)) (are_ready (numbers_below (hops + 1)) actors are);
    few = omega (arith, few, todo_few (numbers_below (hops + 1)) actors are, length-below (hops + 1));
  }

  -- ---- after

  -- the domain of a journal followed its role to its end
  record Followed (s : Scenario) (j : DomainJournal) : Type 0 where
    fit : FitsRole (role_of packets hops packet_limit j.line.domain) (log_of s j)
    ended : HasEnded (role_of packets hops packet_limit j.line.domain) (log_of s j)

  followed : (s : Scenario) (d : ℕ) (first : RelayActor) (j : DomainJournal) (now : RelayActor) → j.line.domain ≡ d → IsNew (role_of packets hops packet_limit d) first → ActorHasEnded relay_actor s first j now → Followed s j
  followed s d first j now is new ended =
      let same : role_of_actor now ≡ role_of packets hops packet_limit j.line.domain = ended.role ∙ new.role ∙ ap (role_of packets hops packet_limit) (sym is) in
      record { fit = subst (λ (r : Role). FitsRole r (log_of s j)) same ended.fits.fits; ended = subst (λ (r : Role). HasEnded r (log_of s j)) same ended.ends }

  all_followed : (s : Scenario) (ds : List ℕ) (firsts : List RelayActor) (js : List DomainJournal) (nows : List RelayActor) → map (λ j. j.line) js ≡ map relay_domain ds → AreNew packets hops ds firsts → AllHaveEnded relay_actor s firsts js nows → AllByRecursion (Followed s) js
  all_followed s [] [] [] [] lines are ended = tt
  all_followed s [] [] [] (now ∷ nows) lines are ended = absurd ended
  all_followed s [] [] (j ∷ js) nows lines are ended = absurd cc
  all_followed s [] (a ∷ firsts) js nows lines are ended = absurd are
  all_followed s (d ∷ ds) [] js nows lines are ended = absurd are
  all_followed s (d ∷ ds) (a ∷ firsts) [] nows lines are ended = absurd cc
  all_followed s (d ∷ ds) (a ∷ firsts) (j ∷ js) [] lines are ended = absurd ended
  all_followed s (d ∷ ds) (a ∷ firsts) (j ∷ js) (now ∷ nows) lines are ended =
      let line : j.line ≡ relay_domain d = cc in
      let lines_left : map (λ k. k.line) js ≡ map relay_domain ds = cc in
      (followed s d a j now (ap (λ (l : DomainLine). l.domain) line) are.0 ended.0, all_followed s ds firsts js nows lines_left are.1 ended.1)

  followed_is_hop : (s : Scenario) (j : DomainJournal) → Followed s j → 0 < j.line.domain → j.line.domain < hops → IsHop (log_of s j)
  followed_is_hop s j h after before =
      is_hop j.line.domain packet_limit (log_of s j) (subst (λ (r : Role). FitsRole r (log_of s j)) (is_between packets hops packet_limit j.line.domain after before) h.fit)

  relayed : (s : Scenario) (js : List DomainJournal) → AllByRecursion (Followed s) js → IsRelayed packets hops s js
  relayed s js all = record {
    fit = all-weaken (Followed s) (λ j. FitsRole (role_of packets hops packet_limit j.line.domain) (log_of s j)) (λ j h. h.fit) js all;
    ended = all-weaken (Followed s) (λ j. HasEnded (role_of packets hops packet_limit j.line.domain) (log_of s j)) (λ j h. h.ended) js all;
    between = all-weaken (Followed s) (λ j. 0 < j.line.domain → j.line.domain < hops → IsHop (log_of s j)) (λ j h. followed_is_hop s j h) js all;
  }

  pub relay-outcome : (size : ℕ) (board : Scenario) (firsts : List RelayActor) (s : Scenario) (o : Outcome) (nows : List RelayActor) → IsRelayBoard hops size board → AreNew packets hops (numbers_below (hops + 1)) firsts → HaveActed relay_actor board firsts s o nows → IsRelayOutcome packets hops size s o
  relay-outcome size board firsts s o nows is are acted =
      let made : IsRelayBoard hops size s = record { domains = acted.scripts.domains ∙ is.domains; links = acted.scripts.links ∙ is.links } in
      record {
        board = made;
        lines =
            acted.scripts.lines ∙ ap (flat_map (λ (d : DomainLine). script s d.domain)) (domains-rise hops size board is)
            ∙ flat_map-map (λ (d : DomainLine). script s d.domain) relay_domain (numbers_below (hops + 1));
        lawful = acted.lawful;
        run = acted.run;
        relayed = relayed s acted.run.journals (all_followed s (numbers_below (hops + 1)) firsts acted.run.journals nows (acted.run.run.each_domain ∙ domains-rise hops size s made) are acted.ended);
      }

  -- ---- the law

  pub relay-run : (size : ℕ) (s : Scenario) (o : Outcome) → (h : IsRelayOutcome packets hops size s o) → IsRelayRun packets hops size packet_limit s h.run.journals
  relay-run size s o h = record { linked = lawful_is_linked s h.lawful; board = h.board; is_run = h.run.run; logs_fit = h.relayed.fit }
