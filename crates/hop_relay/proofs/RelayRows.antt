-- The board of a relay: its domains stand in rising number, and without call lines it is lawful.
use Rattle.std.proofs.Common.{◌≡◌, ℕ, zero, suc, ◌+◌, ◌≤◌, ◌<◌, true, false, ◌&&◌, cond, List, [], ◌∷◌, length, map, refl, sym, subst, ap, ◌∙◌, arith}
use Rattle.std.specs.Prelude.{◌==◌}
use Rattle.std.specs.List.{AllByRecursion, list_any}
use Rattle.std.proofs.lemmas.Bool.{and_from, and_left, and_right, eq-eqb, lt-ltb, ne_eqb, not_from_true, or_from}
use Rattle.std.proofs.lemmas.List.{length-map, map-append}
use Rattle.board_model.specs.declared.scenario.CallLine.{CallLine}
use Rattle.board_model.specs.declared.scenario.DomainLine.{DomainLine}
use Rattle.board_model.specs.declared.scenario.LinkLine.{LinkLine}
use Rattle.board_model.specs.declared.scenario.Scenario.{Scenario}
use Rattle.board_model.specs.Forms.{says_domain, says_link}
use Rattle.board_model.specs.Grammar.{canonical, IsLawfulDomain}
use Rattle.board_model.specs.Language.{nothing_told, IsLawfulBoard}
use Rattle.board_model.specs.LineReasons.{has_wrong_domain, has_wrong_link, is_domain, is_empty, is_link_size, is_same_pair, with_statement}
use Rattle.board_model.specs.Scenario.{ranked_domain, rising, rising_from}
use Rattle.board_model.proofs.BoardsRising.{AreRising}
use Rattle.board_model.proofs.LawfulSizes.{size-fits}
use Rattle.board_model.proofs.ListsMapped.{any-mapped}
use Rattle.scenario_lang.proofs.CanonicalLines.{domain-read, link-read}
use Rattle.scenario_lang.proofs.LinesTold.{AreRead, domain_line, link_line, lines_told, one_domain_more, one_link_more, one_more}
use Rattle.scenario_lang.proofs.ReadBack.{IsReadBack, told-back}
use Rattle.hop_relay.specs.RelayBoard.{IsRelayBoard, numbers_below, relay_domain, relay_link}
use Rattle.hop_relay.proofs.NumbersBelow.{below-rises, length-below, none-below, some-below}

-- ---- the domains in rising number

ranked_first : (n : ℕ) (ns : List ℕ) → AllByRecursion (λ m. n < m) ns → ranked_domain (relay_domain n) (map relay_domain ns) ≡ relay_domain n ∷ map relay_domain ns
ranked_first n [] above = refl
ranked_first n (m ∷ ms) above = ap (λ b. cond b (relay_domain n ∷ relay_domain m ∷ map relay_domain ms) (relay_domain m ∷ ranked_domain (relay_domain n) (map relay_domain ms))) (lt-ltb n m above.0)

rising_row : (ns : List ℕ) → AreRising ns → rising_from (map relay_domain ns) ≡ map relay_domain ns
rising_row [] rises = refl
rising_row (n ∷ ns) rises = ap (ranked_domain (relay_domain n)) (rising_row ns rises.1) ∙ ranked_first n ns rises.0

pub domains-rise : (hops size : ℕ) (s : Scenario) → IsRelayBoard hops size s → rising s ≡ map relay_domain (numbers_below (hops + 1))
domains-rise hops size s board = ap rising_from board.domains ∙ rising_row (numbers_below (hops + 1)) (below-rises (hops + 1))

-- ---- a line more is read back

domain_more : (s : Scenario) (d : DomainLine) → IsLawfulDomain d → (is_empty s.links && is_empty s.calls) ≡ true → is_domain s d.domain ≡ false → IsReadBack s → IsReadBack (with_statement s (says_domain d))
domain_more s d lawful early new back =
    let t : Scenario = with_statement s (says_domain d) in
    subst (λ (ls : List (List ℕ)). AreRead nothing_told ls t) (sym (one_domain_more s.domains d s.links s.calls early))
    (one_more nothing_told (lines_told s.domains s.links s.calls) s (domain_line d) t back (domain-read s d lawful (not_from_true _ early) new))

link_more : (s : Scenario) (l : LinkLine) → l.driver ≤ 7 → l.device ≤ 7 → l.size ≤ 256 → is_empty s.calls ≡ true → has_wrong_domain s (says_link l) ≡ false → has_wrong_link s (says_link l) ≡ false → IsReadBack s → IsReadBack (with_statement s (says_link l))
link_more s l driver device size early known right back =
    let t : Scenario = with_statement s (says_link l) in
    subst (λ (ls : List (List ℕ)). AreRead nothing_told ls t) (sym (one_link_more s.domains s.links l s.calls early))
    (one_more nothing_told (lines_told s.domains s.links s.calls) s (link_line l) t back (link-read s l driver device size (not_from_true _ early) known right))

-- ---- domains and links from 0 on

abbrev board_of : List DomainLine → List LinkLine → Scenario
board_of ds ls = record { domains = ds; links = ls; calls = [] }

-- so many domains, and so many links
abbrev row : (count size links : ℕ) → Scenario
row count size links = board_of (map relay_domain (numbers_below count)) (map (relay_link size) (numbers_below links))

domain_new : (n size : ℕ) → is_domain (row n size 0) n ≡ false
domain_new n size =
    any-mapped relay_domain (λ (line : DomainLine). line.domain == n) (λ d. d == n) (λ d. refl) (numbers_below n)
    ∙ none-below (λ d. d == n) n (λ d less. ne_eqb d n (λ same. absurd (omega (arith, less, same))))

domain_lawful : (d : ℕ) → d ≤ 7 → IsLawfulDomain (relay_domain d)
domain_lawful d small = record { domain_fits = omega (arith, small); some_nodes = omega arith; nodes_fit = omega arith; some_pool = omega arith; pool_fits = omega arith }

domains_back : (n size : ℕ) → n ≤ 8 → IsReadBack (row n size 0)
domains_back zero size few = refl
domains_back (suc n) size few =
    subst (λ (ds : List DomainLine). IsReadBack (board_of ds [])) (sym (map-append relay_domain (numbers_below n) (n ∷ [])))
    (domain_more (row n size 0) (relay_domain n) (domain_lawful n (omega (arith, few))) refl (domain_new n size) (domains_back n size (omega (arith, few))))

-- a link to the domain after it joins another pair than those before it
other_pair : (size d k : ℕ) → d < k → is_same_pair (relay_link size k) (relay_link size d) ≡ false
other_pair size d k less =
    or_from (k == d && k + 1 == d + 1) (k == d + 1 && k + 1 == d)
    (and_left (k == d) (k + 1 == d + 1) (ne_eqb k d (λ same. absurd (omega (arith, less, same)))))
    (and_right (k == d + 1) (k + 1 == d) (ne_eqb (k + 1) d (λ same. absurd (omega (arith, less, same)))))

module _ (hops size : ℕ) (few : hops ≤ 7) (fits : is_link_size size ≡ true) where
  has_domain : (links d : ℕ) → d ≤ hops → is_domain (row (suc hops) size links) d ≡ true
  has_domain links d within =
      any-mapped relay_domain (λ (line : DomainLine). line.domain == d) (λ e. e == d) (λ e. refl) (numbers_below (suc hops))
      ∙ some-below (λ e. e == d) (suc hops) d (omega (arith, within)) (eq-eqb d d refl)

  link_known : (k : ℕ) → k < hops → has_wrong_domain (row (suc hops) size k) (says_link (relay_link size k)) ≡ false
  link_known k less = not_from_true _ (and_from _ _ (has_domain k k (omega (arith, less))) (has_domain k (k + 1) (omega (arith, less))))

  pair_new : (k : ℕ) → list_any (is_same_pair (relay_link size k)) (map (relay_link size) (numbers_below k)) ≡ false
  pair_new k =
      any-mapped (relay_link size) (is_same_pair (relay_link size k)) (λ d. is_same_pair (relay_link size k) (relay_link size d)) (λ d. refl) (numbers_below k)
      ∙ none-below (λ d. is_same_pair (relay_link size k) (relay_link size d)) k (λ d less. other_pair size d k less)

  link_right : (k : ℕ) → has_wrong_link (row (suc hops) size k) (says_link (relay_link size k)) ≡ false
  link_right k = or_from _ _ (ne_eqb k (k + 1) (λ same. absurd (omega (arith, same)))) (or_from _ _ (pair_new k) (not_from_true _ fits))

  links_back : (k : ℕ) → k ≤ hops → IsReadBack (row (suc hops) size k)
  links_back zero within = domains_back (suc hops) size (omega (arith, few))
  links_back (suc k) within =
      subst (λ (ls : List LinkLine). IsReadBack (board_of (map relay_domain (numbers_below (suc hops))) ls)) (sym (map-append (relay_link size) (numbers_below k) (k ∷ [])))
      (
      link_more (row (suc hops) size k) (relay_link size k) (omega (arith, few, within)) (omega (arith, few, within)) (size-fits size fits).1 refl (link_known k (omega (arith, within))) (link_right k)
      (links_back k (omega (arith, within)))
      )

  row_lawful : IsLawfulBoard (row (suc hops) size hops)
  row_lawful =
      let some : 1 ≤ length (map relay_domain (numbers_below (suc hops))) = omega (arith, length-map (numbers_below (suc hops)) relay_domain, length-below (suc hops)) in
      (canonical (row (suc hops) size hops), omega arith, told-back (row (suc hops) size hops) some (links_back hops (omega arith)))

  pub relay-lawful : (s : Scenario) → IsRelayBoard hops size s → s.calls ≡ [] → IsLawfulBoard s
  relay-lawful s board bare =
      let next : hops + 1 ≡ suc hops = omega arith in
      subst (λ (cs : List CallLine). IsLawfulBoard (record { domains = s.domains; links = s.links; calls = cs })) (sym bare)
      (subst (λ (ds : List DomainLine). IsLawfulBoard (board_of ds s.links)) (sym (board.domains ∙ ap (λ n. map relay_domain (numbers_below n)) next))
      (subst (λ (ls : List LinkLine). IsLawfulBoard (board_of (map relay_domain (numbers_below (suc hops))) ls)) (sym board.links) row_lawful))
