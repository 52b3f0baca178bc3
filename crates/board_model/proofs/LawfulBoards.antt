-- A lawful scenario, which a text tells, is a board of linked domains: each line that is not refused leaves one.
use Rattle.std.proofs.Common.{◌≡◌, ℕ, ◌+◌, ◌≤◌, ◌<◌, ◌^◌, true, false, not, ◌&&◌, ◌||◌, List, [], ◌∷◌, ◌++◌, length, map, Option, Some, None, Ok, sym, inl, inr, arith, eq-eqb, length-append}
use Rattle.std.specs.Prelude.{◌==◌}
use Rattle.std.specs.List.{AllByRecursion, list_all, list_any}
use Rattle.std.proofs.lemmas.Bool.{and_parts, and_from, or_parts, or_left, or_right}
use Rattle.board_model.specs.declared.scenario.DomainLine.{DomainLine}
use Rattle.board_model.specs.declared.scenario.LinkLine.{LinkLine}
use Rattle.board_model.specs.declared.scenario.Scenario.{Scenario}
use Rattle.board_model.specs.LinkedBoard.{IsTold, IsSamePair, IsLinkedBoard}
use Rattle.board_model.specs.FileLines.{lines_of}
use Rattle.board_model.specs.FileWords.{numeral, is_number, number, are_bytes}
use Rattle.board_model.specs.Forms.{form, LineParts, no_parts, domain_parts, link_parts, call_parts, CallParts, call_line, numerals, contents, tries_numerals, arguments_numerals}
use Rattle.board_model.specs.LineReasons.{is_domain, is_same_pair, is_link_size, word_reasons, with_parts}
use Rattle.board_model.specs.Language.{nothing_told, told_by, IsLawfulBoard}
use Rattle.board_model.proofs.MessageAlls.{all-weaken}
use Rattle.board_model.proofs.ListsApart.{all-map}
use Rattle.board_model.proofs.LawfulTests.{none-pass, all-both, any-contains}
use Rattle.board_model.proofs.LawfulWords.{number_fits}
use Rattle.board_model.proofs.LawfulForms.{call-fits}
use Rattle.board_model.proofs.LawfulLines.{lines_few}
use Rattle.board_model.proofs.LawfulParts.{FitsCall, FitsIfRead}
use Rattle.board_model.proofs.LawfulSizes.{size-fits}
use Rattle.board_model.proofs.LawfulTelling.{from_not, HoldNot, text-keeps}
use Rattle.board_model.proofs.LawfulSteps.{with_domain, with_link, with_call}

-- ---- domains and links

domain_told : (s : Scenario) (n : ℕ) → is_domain s n ≡ true → IsTold s n
domain_told s n e = any-contains (λ (d : DomainLine). d.domain) n s.domains e

other_number : (n m : ℕ) → (m == n) ≡ false → m ≡ n → ⊥
other_number n m other same = let e = eq-eqb m n same in cc

pub domain_new : (s : Scenario) (n : ℕ) → is_domain s n ≡ false → AllByRecursion (λ m. m ≡ n → ⊥) (map (λ d. d.domain) s.domains)
domain_new s n e =
    all-map (λ m. m ≡ n → ⊥) (λ (d : DomainLine). d.domain) s.domains
    (all-weaken (λ (d : DomainLine). (d.domain == n) ≡ false) (λ d. d.domain ≡ n → ⊥) (λ d other. other_number n d.domain other) s.domains (none-pass (λ (d : DomainLine). d.domain == n) s.domains e))

-- the same pair is seen in either order
pair_seen : (l m : LinkLine) → IsSamePair m l → is_same_pair l m ≡ true
pair_seen l m (inl h) = or_left (l.driver == m.driver && l.device == m.device) (l.driver == m.device && l.device == m.driver) (and_from (l.driver == m.driver) (l.device == m.device) (eq-eqb l.driver m.driver (sym h.0)) (eq-eqb l.device m.device (sym h.1)))
pair_seen l m (inr h) = or_right (l.driver == m.driver && l.device == m.device) (l.driver == m.device && l.device == m.driver) (and_from (l.driver == m.device) (l.device == m.driver) (eq-eqb l.driver m.device (sym h.1)) (eq-eqb l.device m.driver (sym h.0)))

pair_new : (l : LinkLine) (ls : List LinkLine) → list_any (is_same_pair l) ls ≡ false → AllByRecursion (λ m. IsSamePair m l → ⊥) ls
pair_new l ls e = all-weaken (λ m. is_same_pair l m ≡ false) (λ m. IsSamePair m l → ⊥) (λ m other same. let seen = pair_seen l m same in cc) ls (none-pass (is_same_pair l) ls e)

-- ---- a line that is not refused

domain_on : (s : Scenario) (d n p : List ℕ) → HoldNot (word_reasons s (Some (domain_parts d n p))) → IsLinkedBoard s → IsLinkedBoard (with_parts s (Some (domain_parts d n p)))
domain_on s d n p none board =
    let numbers = from_not (list_all is_number (numerals (domain_parts d n p))) none.1.0 in
    let first = and_parts (is_number (numeral 0 7 d)) (is_number (numeral 1 16 n) && (is_number (numeral 1 256 p) && true)) numbers in
    let second = and_parts (is_number (numeral 1 16 n)) (is_number (numeral 1 256 p) && true) first.1 in
    let nodes = number_fits 1 16 n second.0 in
    let pool = number_fits 1 256 p (and_parts (is_number (numeral 1 256 p)) true second.1).0 in
    with_domain s (record { domain = number d; nodes = number n; pool = number p }) board
    (record { domain_fits = (number_fits 0 7 d first.0).1; some_nodes = nodes.0; nodes_fit = nodes.1; some_pool = pool.0; pool_fits = pool.1 })
    (domain_new s (number d) none.1.1.1.1.0)

link_on : (s : Scenario) (a b q : List ℕ) → HoldNot (word_reasons s (Some (link_parts a b q))) → IsLinkedBoard s → IsLinkedBoard (with_parts s (Some (link_parts a b q)))
link_on s a b q none board =
    let l : LinkLine = record { driver = number a; device = number b; size = number q } in
    let told = and_parts (is_domain s l.driver) (is_domain s l.device) (from_not (is_domain s l.driver && is_domain s l.device) none.1.1.1.1.0) in
    let apart = or_parts (l.driver == l.device) (list_any (is_same_pair l) s.links || not (is_link_size l.size)) none.1.1.1.1.1.0 in
    let new = or_parts (list_any (is_same_pair l) s.links) (not (is_link_size l.size)) apart.1 in
    let size = size-fits l.size (from_not (is_link_size l.size) new.1) in
    with_link s l board
    (record { driver_told = domain_told s l.driver told.0; device_told = domain_told s l.device told.1; two_domains = other_number l.device l.driver apart.0; some_buffers = size.0; buffers_fit = size.1 })
    (pair_new l s.links new.0)

call_on : (s : Scenario) (c : CallParts) → FitsCall c → HoldNot (word_reasons s (Some (call_parts c))) → IsLinkedBoard s → length (s.calls ++ call_line c ∷ []) < 2 ^ 32 → IsLinkedBoard (with_parts s (Some (call_parts c)))
call_on s c fits none board few =
    let numbers = from_not (list_all is_number (numerals (call_parts c))) none.1.0 in
    let others = tries_numerals c.tries ++ arguments_numerals (form c.callee).arguments 0 c.arguments in
    let first = and_parts (is_number (numeral 0 7 c.domain)) (is_number (numeral 0 15 c.node) && list_all is_number others) numbers in
    let second = and_parts (is_number (numeral 0 15 c.node)) (list_all is_number others) first.1 in
    let arguments = (all-both is_number (tries_numerals c.tries) (arguments_numerals (form c.callee).arguments 0 c.arguments) second.1).1 in
    with_call s (call_line c) board
    (domain_told s (number c.domain) (from_not (is_domain s (number c.domain)) none.1.1.1.1.0))
    (number_fits 0 15 c.node second.0).1
    (call-fits c.callee c.arguments fits.arguments_fit arguments (from_not (list_all are_bytes (contents (call_parts c))) none.1.1.0))
    (omega (arith, few, length-append s.calls (call_line c ∷ [])))

line_on : (s : Scenario) (p : Option LineParts) → FitsIfRead p → HoldNot (word_reasons s p) → IsLinkedBoard s → length (with_parts s p).calls < 2 ^ 32 → IsLinkedBoard (with_parts s p)
line_on s None fits none board few = absurd (let e = none.0 in cc)
line_on s (Some no_parts) fits none board few = board
line_on s (Some (domain_parts d n p)) fits none board few = domain_on s d n p none board
line_on s (Some (link_parts a b q)) fits none board few = link_on s a b q none board
line_on s (Some (call_parts c)) fits none board few = call_on s c fits none board few

-- ---- a text

one_more : (s : Scenario) (p : Option LineParts) → length (with_parts s p).calls ≤ length s.calls + 1
one_more s None = omega arith
one_more s (Some no_parts) = omega arith
one_more s (Some (domain_parts d n p)) = omega arith
one_more s (Some (link_parts a b q)) = omega arith
one_more s (Some (call_parts c)) = omega (arith, length-append s.calls (call_line c ∷ []))

-- a line takes no call away
none_lost : (s : Scenario) (p : Option LineParts) → length s.calls ≤ length (with_parts s p).calls
none_lost s None = omega arith
none_lost s (Some no_parts) = omega arith
none_lost s (Some (domain_parts d n p)) = omega arith
none_lost s (Some (link_parts a b q)) = omega arith
none_lost s (Some (call_parts c)) = omega (arith, length-append s.calls (call_line c ∷ []))

-- what is told above a line has fewer calls than lines, and is a board of linked domains where the calls are few
record IsBegun (n : ℕ) (s : Scenario) : Type 0 where
  fewer : length s.calls < n
  linked : length s.calls < 2 ^ 32 → IsLinkedBoard s

goes_on : (n : ℕ) (above : Scenario) (p : Option LineParts) → FitsIfRead p → HoldNot (word_reasons above p) → IsBegun n above → IsBegun (n + 1) (with_parts above p)
goes_on n above p fits none h = record { fewer = omega (arith, one_more above p, h.fewer); linked = λ few. line_on above p fits none (h.linked (omega (arith, few, none_lost above p))) few }

none_told : IsLinkedBoard nothing_told
none_told = record { domains_lawful = tt; domains_differ = tt; links_join = tt; pairs_differ = tt; lines_told = tt; nodes_fit = tt; arguments_fit = tt; lines_few = omega arith }

begun_linked : (text : List ℕ) (s : Scenario) → told_by text ≡ Ok s → IsBegun (1 + length (lines_of text)) s
begun_linked text s told = text-keeps IsBegun goes_on text s told (record { fewer = omega arith; linked = λ few. none_told })

-- a text tells no more calls than it has bytes
pub calls-few : (text : List ℕ) (s : Scenario) → told_by text ≡ Ok s → length s.calls ≤ length text
calls-few text s told = omega (arith, (begun_linked text s told).fewer, lines_few text)

pub lawful_is_linked : (s : Scenario) → IsLawfulBoard s → IsLinkedBoard s
lawful_is_linked s (text, few, told) = (begun_linked text s told).linked few

-- the scenario of a small text
pub lawful-by_text : (text : List ℕ) (s : Scenario) → length text < 2 ^ 32 → told_by text ≡ Ok s → IsLawfulBoard s
lawful-by_text text s small told = (text, omega (arith, small, calls-few text s told), told)
