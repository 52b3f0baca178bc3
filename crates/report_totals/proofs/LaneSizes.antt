-- The sizes of lanes by the lines of a scenario.
use Rattle.std.proofs.Common.{◌≡◌, ℕ, ◌≤◌, Bool, true, false, cond, Option, Some, None, option_map, find, refl, sym, ap, ◌∙◌, subst, inl, inr, arith, eqb-true}
use Rattle.std.specs.Prelude.{◌==◌, unwrap_or}
use Rattle.std.specs.List.{AllByRecursion}
use Rattle.board_model.specs.declared.scenario.DomainLine.{DomainLine}
use Rattle.board_model.specs.declared.scenario.LinkLine.{LinkLine}
use Rattle.board_model.specs.declared.scenario.Scenario.{Scenario}
use Rattle.board_model.specs.Scenario.{Neighbour, neighbour, neighbours, rising}
use Rattle.board_model.specs.Grammar.{IsLawfulDomain}
use Rattle.board_model.specs.Language.{IsLawfulBoard}
use Rattle.board_model.specs.LinkedBoard.{Joins, IsLinkedBoard}
use Rattle.board_model.specs.Run.{start}
use Rattle.board_model.specs.State.{Peer, new_peer, is_numbered, free_to}
use Rattle.board_model.proofs.BoardsFound.{domain-at, neighbour-at}
use Rattle.board_model.proofs.BoardsNeighbours.{told-fits}
use Rattle.board_model.proofs.LanePeers.{free_found}
use Rattle.board_model.proofs.LawfulBoards.{lawful_is_linked}
use Rattle.board_model.proofs.MessageAlls.{all-found, all-with, found-passes}
use Rattle.board_model.proofs.WholeFinds.{find-mapped, some_tells}
use Rattle.board_model.proofs.WholeHas.{Has, has-each, has-weaken}
use Rattle.board_model.proofs.WholeJoined.{IsLink, Joined, joined_back, joined_found, found_neighbour}
use Rattle.board_numbers.specs.Lanes.{line_of_domain, joins, buffers_between}
use Rattle.report_totals.specs.ReadJournals.{IsSized}
use Rattle.report_totals.specs.SenderLanes.{size_to}

pub sizes-fit : (s : Scenario) → IsLawfulBoard s → (a b size : ℕ) → buffers_between s a b ≡ Some size → size ≤ 256
sizes-fit s lawful a b size at = go (a == b) at
  where
    board : IsLinkedBoard s
    board = lawful_is_linked s lawful

    go : (c : Bool) → cond c (option_map (λ d. d.pool) (line_of_domain s a)) (option_map (λ l. l.size) (find (joins a b) s.links)) ≡ Some size → size ≤ 256
    go true e =
        let d = some_tells (λ (x : DomainLine). x.pool) (line_of_domain s a) size e in
        let fits = (all-found IsLawfulDomain (λ x. x.domain == a) s.domains d.0 board.domains_lawful d.1).pool_fits in
        omega (arith, fits, d.2)
    go false e =
        let l = some_tells (λ (x : LinkLine). x.size) (find (joins a b) s.links) size e in
        let fits = (all-found (Joins s) (joins a b) s.links l.0 board.links_join l.1).buffers_fit in
        omega (arith, fits, l.2)

module _ (s : Scenario) (board : IsLinkedBoard s) where
  -- the size of a lane is that of the neighbour at its end
  size-found : (d : DomainLine) → find (λ e. e.domain == d.domain) (rising s) ≡ Some d → (p : ℕ) → unwrap_or (option_map (λ n. n.size) (find (λ m. m.number == p) (neighbours s d))) 0 ≡ size_to s d.domain p
  size-found d found p =
      ap (λ (o : Option Neighbour). unwrap_or (option_map (λ n. n.size) o) 0) (neighbour-at s board d p)
      ∙ go (d.domain == p) (find (joins d.domain p) s.links)
      ∙ sym (ap (λ (o : Option DomainLine). unwrap_or (cond (d.domain == p) (option_map (λ x. x.pool) o) (option_map (λ l. l.size) (find (joins d.domain p) s.links))) 0) (sym (domain-at s board d.domain) ∙ found))
    where
      go : (b : Bool) (o : Option LinkLine) → unwrap_or (option_map (λ n. n.size) (cond b (Some (neighbour d.domain d.pool)) (option_map (λ l. neighbour p l.size) o))) 0 ≡ unwrap_or (cond b (option_map (λ x. x.pool) (Some d)) (option_map (λ l. l.size) o)) 0
      go true o = refl
      go false None = refl
      go false (Some l) = refl

  -- at the start all buffers of a lane are free
  pub start-free : (d : DomainLine) → find (λ e. e.domain == d.domain) (rising s) ≡ Some d → (p : ℕ) → free_to (start s d).state p ≡ size_to s d.domain p
  start-free d found p =
      free_found (start s d).state p
      ∙ ap (λ (o : Option Peer). unwrap_or (option_map (λ q. q.free) o) 0) (find-mapped (is_numbered p) new_peer (neighbours s d))
      ∙ go (find (λ m. m.number == p) (neighbours s d))
      ∙ size-found d found p
    where
      go : (o : Option Neighbour) → unwrap_or (option_map (λ (q : Peer). q.free) (option_map new_peer o)) 0 ≡ unwrap_or (option_map (λ n. n.size) o) 0
      go None = refl
      go (Some n) = refl

  joined-size : (a b size : ℕ) → Joined s a b size → size_to s a b ≡ size
  joined-size a b size joined =
      let d = joined_found s board a b size joined in
      let is : d.0.domain ≡ a = eqb-true d.0.domain a (found-passes (λ e. e.domain == a) (rising s) d.0 d.1) in
      let n = found_neighbour s board a b size d.0 d.1 is joined in
      ap (λ k. size_to s k b) (sym is)
      ∙ sym (size-found d.0 (ap (λ k. find (λ (e : DomainLine). e.domain == k) (rising s)) is ∙ d.1) b)
      ∙ ap (λ (o : Option Neighbour). unwrap_or (option_map (λ m. m.size) o) 0) n.1
      ∙ n.2

  pub links-sized : AllByRecursion (IsSized s) s.links
  links-sized = all-with (Joins s) (λ l. Has (λ m. m ≡ l) s.links) (IsSized s) one s.links board.links_join (has-each s.links)
    where
      one : (l : LinkLine) → Joins s l → Has (λ m. m ≡ l) s.links → IsSized s l
      one l joins has =
          let joined : Joined s l.driver l.device l.size = inr (has-weaken (λ m. m ≡ l) (IsLink l.driver l.device l.size) (λ m same. subst (IsLink l.driver l.device l.size) (sym same) (inl (refl, refl), refl)) s.links has) in
          let driver = told-fits s board l.driver joins.driver_told in
          let device = told-fits s board l.device joins.device_told in
          record {
            forth = joined-size l.driver l.device l.size joined;
            back = joined-size l.device l.driver l.size (joined_back s l.driver l.device l.size joined);
            driver = omega (arith, driver);
            device = omega (arith, device);
            some_buffers = joins.some_buffers;
            buffers_fit = joins.buffers_fit;
          }
