-- The board of numbered calls: its domains stand in rising number, and without call lines it is lawful.
use Rattle.std.proofs.Common.{◌≡◌, ℕ, zero, suc, ◌+◌, ◌≤◌, ◌<◌, true, false, ◌&&◌, cond, List, [], ◌∷◌, ◌++◌, length, map, refl, sym, subst, ap, ◌∙◌, arith}
use Rattle.std.specs.Prelude.{◌==◌}
use Rattle.std.specs.List.{AllByRecursion, list_any}
use Rattle.std.proofs.lemmas.Bool.{and_from, and_right, eq-eqb, lt-ltb, ne_eqb, not_from_true, or_from}
use Rattle.std.proofs.lemmas.List.{length-map, map-append}
use Rattle.board_model.specs.declared.scenario.CallLine.{CallLine}
use Rattle.board_model.specs.declared.scenario.DomainLine.{DomainLine}
use Rattle.board_model.specs.declared.scenario.LinkLine.{LinkLine}
use Rattle.board_model.specs.declared.scenario.Scenario.{Scenario}
use Rattle.board_model.specs.Forms.{says_domain, says_link}
use Rattle.board_model.specs.Grammar.{canonical, IsLawfulDomain}
use Rattle.board_model.specs.Language.{nothing_told, IsLawfulBoard}
use Rattle.board_model.specs.LineReasons.{has_wrong_domain, has_wrong_link, is_domain, is_empty, is_link_size, is_same_pair, with_statement}
use Rattle.board_model.specs.Scenario.{ranked_domain, rising as rising_lines, rising_from}
use Rattle.board_model.proofs.BoardsRising.{AreRising}
use Rattle.board_model.proofs.LawfulSizes.{size-fits}
use Rattle.board_model.proofs.ListsMapped.{any-mapped}
use Rattle.scenario_lang.proofs.CanonicalLines.{domain-read, link-read}
use Rattle.scenario_lang.proofs.LinesTold.{AreRead, domain_line, link_line, lines_told, one_domain_more, one_link_more, one_more}
use Rattle.scenario_lang.proofs.ReadBack.{IsReadBack, told-back}
use Rattle.call_service.specs.Served.{rising}
use Rattle.call_actor.specs.CallsBoards.{IsCallsBoard, call_domain, call_link}
use Rattle.call_actor.proofs.RisingNumbers.{length-rising, none-rising, rising-more, rising-rises, some-rising}

-- ---- the domains in rising number

ranked_first : (n : ℕ) (ns : List ℕ) → AllByRecursion (λ m. n < m) ns → ranked_domain (call_domain n) (map call_domain ns) ≡ call_domain n ∷ map call_domain ns
ranked_first n [] above = refl
ranked_first n (m ∷ ms) above = ap (λ b. cond b (call_domain n ∷ call_domain m ∷ map call_domain ms) (call_domain m ∷ ranked_domain (call_domain n) (map call_domain ms))) (lt-ltb n m above.0)

rising_row : (ns : List ℕ) → AreRising ns → rising_from (map call_domain ns) ≡ map call_domain ns
rising_row [] rises = refl
rising_row (n ∷ ns) rises = ap (ranked_domain (call_domain n)) (rising_row ns rises.1) ∙ ranked_first n ns rises.0

pub domains-rise : (clients size : ℕ) (s : Scenario) → IsCallsBoard clients size s → rising_lines s ≡ map call_domain (rising 0 (clients + 1))
domains-rise clients size s board = ap rising_from board.domains ∙ rising_row (rising 0 (clients + 1)) (rising-rises 0 (clients + 1))

-- ---- a line more is read back

domain_more : (s : Scenario) (d : DomainLine) → IsLawfulDomain d → (is_empty s.links && is_empty s.calls) ≡ true → is_domain s d.domain ≡ false → IsReadBack s → IsReadBack (with_statement s (says_domain d))
domain_more s d lawful early new back =
    let t : Scenario = with_statement s (says_domain d) in
    subst (λ (ls : List (List ℕ)). AreRead nothing_told ls t) (sym (one_domain_more s.domains d s.links s.calls early))
    (one_more nothing_told (lines_told s.domains s.links s.calls) s (domain_line d) t back (domain-read s d lawful (not_from_true _ early) new))

link_more : (s : Scenario) (l : LinkLine) → l.driver ≤ 7 → l.device ≤ 7 → l.size ≤ 256 → is_empty s.calls ≡ true → has_wrong_domain s (says_link l) ≡ false → has_wrong_link s (says_link l) ≡ false → IsReadBack s → IsReadBack (with_statement s (says_link l))
link_more s l driver device size early known right back =
    let t : Scenario = with_statement s (says_link l) in
    subst (λ (ls : List (List ℕ)). AreRead nothing_told ls t) (sym (one_link_more s.domains s.links l s.calls early))
    (one_more nothing_told (lines_told s.domains s.links s.calls) s (link_line l) t back (link-read s l driver device size (not_from_true _ early) known right))

-- ---- the domains from 0 on, and then the links

abbrev board_of : List DomainLine → List LinkLine → Scenario
board_of ds ls = record { domains = ds; links = ls; calls = [] }

-- so many domains, and the links to so many clients
abbrev star : (count size clients : ℕ) → Scenario
star count size clients = board_of (map call_domain (rising 0 count)) (map (call_link size) (rising 1 clients))

-- one item more, by its number
one_more_of : {A : Type 0} (f : ℕ → A) (from n : ℕ) → map f (rising from (n + 1)) ≡ map f (rising from n) ++ f (from + n) ∷ []
one_more_of f from n = ap (map f) (rising-more from n) ∙ map-append f (rising from n) ((from + n) ∷ [])

domain_new : (n size : ℕ) → is_domain (star n size 0) n ≡ false
domain_new n size =
    any-mapped call_domain (λ (line : DomainLine). line.domain == n) (λ d. d == n) (λ d. refl) (rising 0 n)
    ∙ none-rising (λ d. d == n) 0 n (λ d low less. ne_eqb d n (λ same. absurd (omega (arith, less, same))))

domain_lawful : (d : ℕ) → d ≤ 7 → IsLawfulDomain (call_domain d)
domain_lawful d small = record { domain_fits = omega (arith, small); some_nodes = omega arith; nodes_fit = omega arith; some_pool = omega arith; pool_fits = omega arith }

domains_back : (n size : ℕ) → n ≤ 8 → IsReadBack (star n size 0)
domains_back zero size few = refl
domains_back (suc n) size few =
    let next : n + 1 ≡ suc n = omega arith in
    let place : n ≡ 0 + n = omega arith in
    subst (λ (ds : List DomainLine). IsReadBack (board_of ds [])) (ap (λ k. map call_domain (rising 0 n) ++ call_domain k ∷ []) place ∙ sym (one_more_of call_domain 0 n) ∙ ap (λ k. map call_domain (rising 0 k)) next)
    (domain_more (star n size 0) (call_domain n) (domain_lawful n (omega (arith, few))) refl (domain_new n size) (domains_back n size (omega (arith, few))))

-- a link to another client joins another pair
other_pair : (size d k : ℕ) → d < k → is_same_pair (call_link size k) (call_link size d) ≡ false
other_pair size d k less =
    or_from (0 == 0 && k == d) (0 == d && k == 0) (ne_eqb k d (λ same. absurd (omega (arith, less, same))))
    (and_right (0 == d) (k == 0) (ne_eqb k 0 (λ same. absurd (omega (arith, less, same)))))

module _ (clients size : ℕ) (few : clients ≤ 7) (fits : is_link_size size ≡ true) where
  has_domain : (links d : ℕ) → d ≤ clients → is_domain (star (clients + 1) size links) d ≡ true
  has_domain links d within =
      any-mapped call_domain (λ (line : DomainLine). line.domain == d) (λ e. e == d) (λ e. refl) (rising 0 (clients + 1))
      ∙ some-rising (λ e. e == d) 0 (clients + 1) d (omega arith) (omega (arith, within)) (eq-eqb d d refl)

  link_known : (k : ℕ) → k < clients → has_wrong_domain (star (clients + 1) size k) (says_link (call_link size (1 + k))) ≡ false
  link_known k less = not_from_true _ (and_from _ _ (has_domain k 0 (omega arith)) (has_domain k (1 + k) (omega (arith, less))))

  pair_new : (k : ℕ) → list_any (is_same_pair (call_link size (1 + k))) (map (call_link size) (rising 1 k)) ≡ false
  pair_new k =
      any-mapped (call_link size) (is_same_pair (call_link size (1 + k))) (λ d. is_same_pair (call_link size (1 + k)) (call_link size d)) (λ d. refl) (rising 1 k)
      ∙ none-rising (λ d. is_same_pair (call_link size (1 + k)) (call_link size d)) 1 k (λ d low less. other_pair size d (1 + k) less)

  link_right : (k : ℕ) → has_wrong_link (star (clients + 1) size k) (says_link (call_link size (1 + k))) ≡ false
  link_right k = or_from _ _ (ne_eqb 0 (1 + k) (λ same. absurd (omega (arith, same)))) (or_from _ _ (pair_new k) (not_from_true _ fits))

  links_back : (k : ℕ) → k ≤ clients → IsReadBack (star (clients + 1) size k)
  links_back zero within = domains_back (clients + 1) size (omega (arith, few))
  links_back (suc k) within =
      let next : k + 1 ≡ suc k = omega arith in
      subst (λ (ls : List LinkLine). IsReadBack (board_of (map call_domain (rising 0 (clients + 1))) ls)) (sym (one_more_of (call_link size) 1 k) ∙ ap (λ n. map (call_link size) (rising 1 n)) next)
      (
      link_more (star (clients + 1) size k) (call_link size (1 + k)) (omega arith) (omega (arith, few, within)) (size-fits size fits).1 refl (link_known k (omega (arith, within))) (link_right k)
      (links_back k (omega (arith, within)))
      )

  star_lawful : IsLawfulBoard (star (clients + 1) size clients)
  star_lawful =
      let some : 1 ≤ length (map call_domain (rising 0 (clients + 1))) = omega (arith, length-map (rising 0 (clients + 1)) call_domain, length-rising 0 (clients + 1)) in
      (canonical (star (clients + 1) size clients), omega arith, told-back (star (clients + 1) size clients) some (links_back clients (omega arith)))

  pub calls-lawful : (s : Scenario) → IsCallsBoard clients size s → s.calls ≡ [] → IsLawfulBoard s
  calls-lawful s board bare =
      subst (λ (cs : List CallLine). IsLawfulBoard (record { domains = s.domains; links = s.links; calls = cs })) (sym bare)
      (subst (λ (ds : List DomainLine). IsLawfulBoard (board_of ds s.links)) (sym board.domains)
      (subst (λ (ls : List LinkLine). IsLawfulBoard (board_of (map call_domain (rising 0 (clients + 1))) ls)) (sym board.links) star_lawful))
