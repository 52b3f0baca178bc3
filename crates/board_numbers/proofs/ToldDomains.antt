-- The domains that some text tells, of whatever length, are those of a board without links and calls.
use Rattle.std.proofs.Common.{ℕ, ◌+◌, true, ◌&&◌, [], Option, Some, None, arith}
use Rattle.std.specs.List.{list_all}
use Rattle.std.proofs.lemmas.Bool.{and_parts}
use Rattle.board_model.specs.declared.scenario.Scenario.{Scenario}
use Rattle.board_model.specs.LinkedBoard.{IsLinkedBoard}
use Rattle.board_model.specs.FileWords.{numeral, is_number, number}
use Rattle.board_model.specs.Forms.{LineParts, no_parts, domain_parts, link_parts, call_parts, numerals}
use Rattle.board_model.specs.LineReasons.{word_reasons, with_parts}
use Rattle.board_model.specs.Language.{nothing_told, IsLawfulBoard}
use Rattle.board_model.proofs.LawfulWords.{number_fits}
use Rattle.board_model.proofs.LawfulParts.{FitsIfRead}
use Rattle.board_model.proofs.LawfulTelling.{from_not, HoldNot, text-keeps}
use Rattle.board_model.proofs.LawfulSteps.{with_domain}
use Rattle.board_model.proofs.LawfulBoards.{domain_new}
use Rattle.board_numbers.specs.Told.{IsToldByText}

pub lawful-told : (s : Scenario) → IsLawfulBoard s → IsToldByText s
lawful-told s (text, few, told) = (text, told)

-- the domains of a scenario
abbrev pub domains_alone : Scenario → Scenario
domains_alone s = record { domains = s.domains; links = []; calls = [] }

abbrev AreLinkedAlone : ℕ → Scenario → Type 0
AreLinkedAlone n s = IsLinkedBoard (domains_alone s)

line_on : (n : ℕ) (above : Scenario) (p : Option LineParts) → FitsIfRead p → HoldNot (word_reasons above p) → AreLinkedAlone n above → AreLinkedAlone (n + 1) (with_parts above p)
line_on n above None fits none h = absurd (let e = none.0 in cc)
line_on n above (Some no_parts) fits none h = h
line_on n above (Some (domain_parts d m p)) fits none h =
    let numbers = from_not (list_all is_number (numerals (domain_parts d m p))) none.1.0 in
    let first = and_parts (is_number (numeral 0 7 d)) (is_number (numeral 1 16 m) && (is_number (numeral 1 256 p) && true)) numbers in
    let second = and_parts (is_number (numeral 1 16 m)) (is_number (numeral 1 256 p) && true) first.1 in
    let nodes = number_fits 1 16 m second.0 in
    let pool = number_fits 1 256 p (and_parts (is_number (numeral 1 256 p)) true second.1).0 in
    with_domain (domains_alone above) (record { domain = number d; nodes = number m; pool = number p }) h
    (record { domain_fits = (number_fits 0 7 d first.0).1; some_nodes = nodes.0; nodes_fit = nodes.1; some_pool = pool.0; pool_fits = pool.1 })
    (domain_new above (number d) none.1.1.1.1.0)
line_on n above (Some (link_parts a b q)) fits none h = h
line_on n above (Some (call_parts c)) fits none h = h

none_told : AreLinkedAlone 1 nothing_told
none_told = record { domains_lawful = tt; domains_differ = tt; links_join = tt; pairs_differ = tt; lines_told = tt; nodes_fit = tt; arguments_fit = tt; lines_few = omega arith }

pub told-domains : (s : Scenario) → IsToldByText s → IsLinkedBoard (domains_alone s)
told-domains s (text, told) = text-keeps AreLinkedAlone line_on text s told none_told
