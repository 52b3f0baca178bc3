-- Lines of domains and links in the canonical text are read: none is refused, and each tells what it was written for.
use Rattle.std.proofs.Common.{◌≡◌, ℕ, ◌^◌, ◌<◌, ◌≤◌, Bool, true, false, cond, List, [], ◌∷◌, length, Option, Some, None, refl, sym, subst, ap, ◌∙◌, arith}
use Rattle.std.specs.Prelude.{decimal, codes, nat_lt}
use Rattle.std.specs.List.{list_all}
use Rattle.std.proofs.lemmas.Bool.{not_from_true, le-ltb}
use Rattle.board_model.specs.declared.scenario.DomainLine.{DomainLine}
use Rattle.board_model.specs.declared.scenario.LinkLine.{LinkLine}
use Rattle.board_model.specs.declared.scenario.Scenario.{Scenario}
use Rattle.board_model.specs.Grammar.{spaced, IsLawfulDomain}
use Rattle.board_model.specs.FileLines.{words_of}
use Rattle.board_model.specs.FileWords.{is_number, number}
use Rattle.board_model.specs.Forms.{LineParts, domain_parts, link_parts, parts_of, numerals, says_domain, says_link, statement}
use Rattle.board_model.specs.LineReasons.{is_late, has_wrong_domain, has_wrong_link, LineTest, word_reasons, reasons, first_reason, line_reason, with_statement, with_parts}
use Rattle.board_model.proofs.LawfulTelling.{HoldNot}
use Rattle.board_model.proofs.WordDecimals.{number-decimal, is_number-decimal}
use Rattle.scenario_lang.proofs.SpacedLemmas.{is_word, words_of-spaced, IsText, text-spaced, all-pass, room, length-spaced}
use Rattle.scenario_lang.proofs.PlainLemmas.{decimal-plain}

-- ---- lines

none_first : (ts : List LineTest) → HoldNot ts → first_reason ts ≡ None
none_first [] none = refl
none_first (t ∷ ts) none = ap (λ (b : Bool). cond b (Some t.reason) (first_reason ts)) none.0 ∙ none_first ts none.1

-- a line that is not refused, and what is told after it
pub record IsRead (above : Scenario) (line : List ℕ) (next : Scenario) : Type 0 where
  pub text : IsText line
  pub passes : line_reason above line ≡ None
  pub tells : with_parts above (parts_of (words_of line)) ≡ next

pub words_read : (above : Scenario) (ws : List (List ℕ)) (p : LineParts) → list_all is_word ws ≡ true → room ws ≤ 20000 → parts_of ws ≡ Some p → HoldNot (word_reasons above (Some p)) → IsRead above (spaced ws) (with_statement above (statement p))
words_read above ws p seen few parts none =
    let text = text-spaced ws seen in
    let short : nat_lt 20000 (length (spaced ws)) ≡ false = le-ltb 20000 (length (spaced ws)) (omega (arith, length-spaced ws, few)) in
    let read : parts_of (words_of (spaced ws)) ≡ Some p = ap parts_of (words_of-spaced ws seen) ∙ parts in
    let words : HoldNot (word_reasons above (parts_of (words_of (spaced ws)))) = subst (λ (q : Option LineParts). HoldNot (word_reasons above q)) (sym read) none in
    record {
      text = text;
      passes = none_first (reasons above (spaced ws)) (not_from_true _ text, (short, words));
      tells = ap (with_parts above) read;
    }

-- ---- domains

abbrev pub domain_words : DomainLine → List (List ℕ)
domain_words d = codes "domain" ∷ decimal d.domain ∷ codes "nodes" ∷ decimal d.nodes ∷ codes "pool" ∷ decimal d.pool ∷ []

abbrev made_domain : ℕ → ℕ → ℕ → DomainLine
made_domain d n p = record { domain = d; nodes = n; pool = p }

pub domain-read : (above : Scenario) (d : DomainLine) → IsLawfulDomain d → is_late above (says_domain d) ≡ false → has_wrong_domain above (says_domain d) ≡ false → IsRead above (spaced (domain_words d)) (with_statement above (says_domain d))
domain-read above d h early new =
    let nodes_small : d.nodes < 2 ^ 32 = omega (arith, h.nodes_fit) in
    let pool_small : d.pool < 2 ^ 32 = omega (arith, h.pool_fits) in
    let domain_small : d.domain < 2 ^ 32 = omega (arith, h.domain_fits) in
    let domain = decimal-plain d.domain domain_small in
    let nodes = decimal-plain d.nodes nodes_small in
    let pool = decimal-plain d.pool pool_small in
    let p : LineParts = domain_parts (decimal d.domain) (decimal d.nodes) (decimal d.pool) in
    let same : made_domain (number (decimal d.domain)) (number (decimal d.nodes)) (number (decimal d.pool)) ≡ d =
    ap (λ (k : ℕ). made_domain k (number (decimal d.nodes)) (number (decimal d.pool))) (number-decimal d.domain (omega arith))
    ∙ ap (λ (k : ℕ). made_domain d.domain k (number (decimal d.pool))) (number-decimal d.nodes (omega arith))
    ∙ ap (λ (k : ℕ). made_domain d.domain d.nodes k) (number-decimal d.pool (omega arith)) in
    let seen = all-pass is_word (domain_words d) (refl, (domain.is, (refl, (nodes.is, (refl, (pool.is, tt)))))) in
    let numbers = all-pass is_number (numerals p) (is_number-decimal 0 7 d.domain (omega arith) h.domain_fits (omega arith), (is_number-decimal 1 16 d.nodes h.some_nodes h.nodes_fit (omega arith), (is_number-decimal 1 256 d.pool h.some_pool h.pool_fits (omega arith), tt))) in
    let none : HoldNot (word_reasons above (Some p)) = (refl, (not_from_true _ numbers, (refl, (early, (ap (λ (k : DomainLine). has_wrong_domain above (says_domain k)) same ∙ new, (refl, (refl, (refl, tt)))))))) in
    let r = words_read above (domain_words d) p seen (omega (arith, domain.few, nodes.few, pool.few)) refl none in
    record { text = r.text; passes = r.passes; tells = r.tells ∙ ap (λ (k : DomainLine). with_statement above (says_domain k)) same }

-- ---- links

abbrev pub link_words : LinkLine → List (List ℕ)
link_words l = codes "link" ∷ decimal l.driver ∷ decimal l.device ∷ codes "size" ∷ decimal l.size ∷ []

abbrev made_link : ℕ → ℕ → ℕ → LinkLine
made_link a b q = record { driver = a; device = b; size = q }

pub link-read : (above : Scenario) (l : LinkLine) → l.driver ≤ 7 → l.device ≤ 7 → l.size ≤ 256 → is_late above (says_link l) ≡ false → has_wrong_domain above (says_link l) ≡ false → has_wrong_link above (says_link l) ≡ false → IsRead above (spaced (link_words l)) (with_statement above (says_link l))
link-read above l a_fits b_fits q_fits early known right =
    let a = decimal-plain l.driver (omega arith) in
    let b = decimal-plain l.device (omega arith) in
    let q = decimal-plain l.size (omega arith) in
    let p : LineParts = link_parts (decimal l.driver) (decimal l.device) (decimal l.size) in
    let same : made_link (number (decimal l.driver)) (number (decimal l.device)) (number (decimal l.size)) ≡ l =
    ap (λ (k : ℕ). made_link k (number (decimal l.device)) (number (decimal l.size))) (number-decimal l.driver (omega arith))
    ∙ ap (λ (k : ℕ). made_link l.driver k (number (decimal l.size))) (number-decimal l.device (omega arith))
    ∙ ap (λ (k : ℕ). made_link l.driver l.device k) (number-decimal l.size (omega arith)) in
    let seen = all-pass is_word (link_words l) (refl, (a.is, (b.is, (refl, (q.is, tt))))) in
    let numbers = all-pass is_number (numerals p) (is_number-decimal 0 7 l.driver (omega arith) a_fits (omega arith), (is_number-decimal 0 7 l.device (omega arith) b_fits (omega arith), (is_number-decimal 0 18446744073709551615 l.size (omega arith) (omega arith) (omega arith), tt))) in
    let none : HoldNot (word_reasons above (Some p)) = (refl, (not_from_true _ numbers, (refl, (early, (ap (λ (k : LinkLine). has_wrong_domain above (says_link k)) same ∙ known, (ap (λ (k : LinkLine). has_wrong_link above (says_link k)) same ∙ right, (refl, (refl, tt)))))))) in
    let r = words_read above (link_words l) p seen (omega (arith, a.few, b.few, q.few)) refl none in
    record { text = r.text; passes = r.passes; tells = r.tells ∙ ap (λ (k : LinkLine). with_statement above (says_link k)) same }
