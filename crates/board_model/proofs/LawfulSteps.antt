-- A board of linked domains stays one when a domain, a link or a call is told that fits what is told above.
use Rattle.std.proofs.Common.{◌≡◌, ℕ, ◌+◌, ◌<◌, ◌≤◌, ◌^◌, List, [], ◌∷◌, ◌++◌, map, length, Contains, refl, sym, subst, arith, length-append}
use Rattle.std.specs.List.{AllByRecursion}
use Rattle.std.proofs.lemmas.List.{map-append, append-nil}
use Rattle.std.proofs.lemmas.List.Elements.{Contains-append_left}
use Rattle.board_model.specs.declared.scenario.DomainLine.{DomainLine}
use Rattle.board_model.specs.declared.scenario.LinkLine.{LinkLine}
use Rattle.board_model.specs.declared.scenario.CallLine.{CallLine}
use Rattle.board_model.specs.declared.scenario.Scenario.{Scenario}
use Rattle.board_model.specs.Grammar.{IsLawfulDomain}
use Rattle.board_model.specs.LinkedBoard.{Differ, IsTold, Joins, IsSamePair, PairsDiffer, HasFitArguments, IsLinkedBoard}
use Rattle.board_model.proofs.MessageAlls.{all-append, all-weaken}
use Rattle.board_model.proofs.ListsApart.{differ-placed}

joins_still : (s t : Scenario) → ((n : ℕ) → IsTold s n → IsTold t n) → (l : LinkLine) → Joins s l → Joins t l
joins_still s t still l joins = record {
  driver_told = still l.driver joins.driver_told;
  device_told = still l.device joins.device_told;
  two_domains = joins.two_domains;
  some_buffers = joins.some_buffers;
  buffers_fit = joins.buffers_fit;
}

differ_end : (d : DomainLine) (ds : List DomainLine) → AllByRecursion (λ m. m ≡ d.domain → ⊥) (map (λ e. e.domain) ds) → Differ (map (λ e. e.domain) ds) → Differ (map (λ e. e.domain) (ds ++ d ∷ []))
differ_end d ds = differ-placed (λ (e : DomainLine). e.domain) d ds (ds ++ d ∷ []) (record { front = ds; back = []; before = sym (append-nil ds); after = refl })

pairs_end : (l : LinkLine) (ls : List LinkLine) → AllByRecursion (λ m. IsSamePair m l → ⊥) ls → PairsDiffer ls → PairsDiffer (ls ++ l ∷ [])
pairs_end l [] apart differ = (tt, tt)
pairs_end l (m ∷ ms) apart differ = (all-append (λ k. IsSamePair m k → ⊥) ms (l ∷ []) differ.0 (apart.0, tt), pairs_end l ms apart.1 differ.1)

pub with_domain : (s : Scenario) (d : DomainLine) → IsLinkedBoard s → IsLawfulDomain d → AllByRecursion (λ m. m ≡ d.domain → ⊥) (map (λ e. e.domain) s.domains) → IsLinkedBoard (record s { domains = s.domains ++ d ∷ [] })
with_domain s d board lawful apart =
    let t : Scenario = record s { domains = s.domains ++ d ∷ [] } in
    let still : (n : ℕ) → IsTold s n → IsTold t n = λ n told.
    subst (λ (ns : List ℕ). Contains ns n) (sym (map-append (λ (e : DomainLine). e.domain) s.domains (d ∷ []))) (Contains-append_left (map (λ e. e.domain) s.domains) (d.domain ∷ []) n told) in
    record {
      domains_lawful = all-append IsLawfulDomain s.domains (d ∷ []) board.domains_lawful (lawful, tt);
      domains_differ = differ_end d s.domains apart board.domains_differ;
      links_join = all-weaken (Joins s) (Joins t) (joins_still s t still) s.links board.links_join;
      pairs_differ = board.pairs_differ;
      lines_told = all-weaken (λ (c : CallLine). IsTold s c.domain) (λ c. IsTold t c.domain) (λ c told. still c.domain told) s.calls board.lines_told;
      nodes_fit = board.nodes_fit;
      arguments_fit = board.arguments_fit;
      lines_few = board.lines_few;
    }

pub with_link : (s : Scenario) (l : LinkLine) → IsLinkedBoard s → Joins s l → AllByRecursion (λ m. IsSamePair m l → ⊥) s.links → IsLinkedBoard (record s { links = s.links ++ l ∷ [] })
with_link s l board joins apart =
    let t : Scenario = record s { links = s.links ++ l ∷ [] } in
    record {
      domains_lawful = board.domains_lawful;
      domains_differ = board.domains_differ;
      links_join = all-weaken (Joins s) (Joins t) (joins_still s t (λ n told. told)) (s.links ++ l ∷ []) (all-append (Joins s) s.links (l ∷ []) board.links_join (joins, tt));
      pairs_differ = pairs_end l s.links apart board.pairs_differ;
      lines_told = board.lines_told;
      nodes_fit = board.nodes_fit;
      arguments_fit = board.arguments_fit;
      lines_few = board.lines_few;
    }

pub with_call : (s : Scenario) (c : CallLine) → IsLinkedBoard s → IsTold s c.domain → c.node ≤ 15 → HasFitArguments c.call → length s.calls + 1 < 2 ^ 32 → IsLinkedBoard (record s { calls = s.calls ++ c ∷ [] })
with_call s c board told node fits few =
    let t : Scenario = record s { calls = s.calls ++ c ∷ [] } in
    record {
      domains_lawful = board.domains_lawful;
      domains_differ = board.domains_differ;
      links_join = all-weaken (Joins s) (Joins t) (joins_still s t (λ n is. is)) s.links board.links_join;
      pairs_differ = board.pairs_differ;
      lines_told = all-append (λ (k : CallLine). IsTold s k.domain) s.calls (c ∷ []) board.lines_told (told, tt);
      nodes_fit = all-append (λ (k : CallLine). k.node ≤ 15) s.calls (c ∷ []) board.nodes_fit (node, tt);
      arguments_fit = all-append (λ (k : CallLine). HasFitArguments k.call) s.calls (c ∷ []) board.arguments_fit (fits, tt);
      lines_few = omega (arith, length-append s.calls (c ∷ []), few);
    }
