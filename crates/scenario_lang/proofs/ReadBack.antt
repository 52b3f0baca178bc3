-- The canonical text of a lawful scenario is read back: by induction over the lines of a text that tells it, of which each
-- puts one line more at the end of the canonical text of what is told above it.
use Rattle.std.proofs.Common.{◌≡◌, ℕ, ◌≤◌, Bool, true, false, not, ◌&&◌, ◌||◌, List, [], ◌∷◌, ◌++◌, length, Option, Some, None, Ok, refl, sym, subst, ap, ◌∙◌, arith}
use Rattle.std.specs.Prelude.{decimal, option_map, ◌==◌}
use Rattle.std.specs.List.{list_all, list_any}
use Rattle.std.proofs.lemmas.Bool.{and_parts, or_parts}
use Rattle.board_model.specs.declared.scenario.DomainLine.{DomainLine}
use Rattle.board_model.specs.declared.scenario.LinkLine.{LinkLine}
use Rattle.board_model.specs.declared.scenario.CallLine.{CallLine}
use Rattle.board_model.specs.declared.scenario.Scenario.{Scenario}
use Rattle.board_model.specs.declared.form.ArgumentKind.{ArgumentKind}
use Rattle.board_model.specs.declared.form.Callee.{Callee}
use Rattle.board_model.specs.Grammar.{argument_texts, canonical, IsLawfulDomain}
use Rattle.board_model.specs.FileWords.{numeral, is_number, number, are_bytes}
use Rattle.board_model.specs.Forms.{form, NamedLabel, label_of, Values, CallParts, LineParts, no_parts, domain_parts, link_parts, call_parts, told_fits, tries_fit, numerals, contents, tries_numerals, arguments_numerals, arguments_labels, values, says_domain, says_link, says_call, call_line}
use Rattle.board_model.specs.LineReasons.{is_empty, is_domain, is_same_pair, is_link_size, tells_wrong_label, names_wrong_label, word_reasons, with_statement, with_parts}
use Rattle.board_model.specs.Language.{nothing_told, told_from, told_by, IsLawfulBoard}
use Rattle.board_model.proofs.LawfulTests.{all-both}
use Rattle.board_model.proofs.LawfulWords.{number_fits}
use Rattle.board_model.proofs.LawfulForms.{values-fit, words-made}
use Rattle.board_model.proofs.LawfulParts.{FitsCall, FitsIfRead}
use Rattle.board_model.proofs.LawfulSizes.{size-fits}
use Rattle.board_model.proofs.LawfulTelling.{from_not, HoldNot, text-keeps}
use Rattle.board_model.proofs.LawfulRanges.{TriesFit, lawful-some}
use Rattle.scenario_lang.proofs.TableLemmas.{same_labels}
use Rattle.scenario_lang.proofs.CanonicalLines.{domain-read, link-read}
use Rattle.scenario_lang.proofs.CanonicalCallLines.{FitsHere, call-read}
use Rattle.scenario_lang.proofs.LinesTold.{domain_line, link_line, called_line, lines_told, one_domain_more, one_link_more, one_call_more, AreRead, one_more, are_texts, are_told, canonical_lines}

-- ---- a line that is not refused

-- the lines of the canonical text tell the scenario
abbrev pub IsReadBack : Scenario → Type 0
IsReadBack s = AreRead nothing_told (lines_told s.domains s.links s.calls) s

domain_on : (s : Scenario) (d n p : List ℕ) → HoldNot (word_reasons s (Some (domain_parts d n p))) → IsReadBack s → IsReadBack (with_parts s (Some (domain_parts d n p)))
domain_on s d n p none back =
    let line : DomainLine = record { domain = number d; nodes = number n; pool = number p } in
    let numbers = from_not (list_all is_number (numerals (domain_parts d n p))) none.1.0 in
    let first = and_parts (is_number (numeral 0 7 d)) (is_number (numeral 1 16 n) && (is_number (numeral 1 256 p) && true)) numbers in
    let second = and_parts (is_number (numeral 1 16 n)) (is_number (numeral 1 256 p) && true) first.1 in
    let nodes = number_fits 1 16 n second.0 in
    let pool = number_fits 1 256 p (and_parts (is_number (numeral 1 256 p)) true second.1).0 in
    let lawful : IsLawfulDomain line = record { domain_fits = (number_fits 0 7 d first.0).1; some_nodes = nodes.0; nodes_fit = nodes.1; some_pool = pool.0; pool_fits = pool.1 } in
    let t : Scenario = with_statement s (says_domain line) in
    subst (λ (ls : List (List ℕ)). AreRead nothing_told ls t) (sym (one_domain_more s.domains line s.links s.calls (from_not (is_empty s.links && is_empty s.calls) none.1.1.1.0)))
    (one_more nothing_told (lines_told s.domains s.links s.calls) s (domain_line line) t back (domain-read s line lawful none.1.1.1.0 none.1.1.1.1.0))

link_on : (s : Scenario) (a b q : List ℕ) → HoldNot (word_reasons s (Some (link_parts a b q))) → IsReadBack s → IsReadBack (with_parts s (Some (link_parts a b q)))
link_on s a b q none back =
    let l : LinkLine = record { driver = number a; device = number b; size = number q } in
    let numbers = from_not (list_all is_number (numerals (link_parts a b q))) none.1.0 in
    let first = and_parts (is_number (numeral 0 7 a)) (is_number (numeral 0 7 b) && (is_number (numeral 0 18446744073709551615 q) && true)) numbers in
    let second = and_parts (is_number (numeral 0 7 b)) (is_number (numeral 0 18446744073709551615 q) && true) first.1 in
    let apart = or_parts (l.driver == l.device) (list_any (is_same_pair l) s.links || not (is_link_size l.size)) none.1.1.1.1.1.0 in
    let new = or_parts (list_any (is_same_pair l) s.links) (not (is_link_size l.size)) apart.1 in
    let size = size-fits l.size (from_not (is_link_size l.size) new.1) in
    let t : Scenario = with_statement s (says_link l) in
    subst (λ (ls : List (List ℕ)). AreRead nothing_told ls t) (sym (one_link_more s.domains s.links l s.calls (from_not (is_empty s.calls) none.1.1.1.0)))
    (one_more nothing_told (lines_told s.domains s.links s.calls) s (link_line l) t back (link-read s l (number_fits 0 7 a first.0).1 (number_fits 0 7 b second.0).1 size.1 none.1.1.1.0 none.1.1.1.1.0 none.1.1.1.1.1.0))

tries_fit_read : (o : Option (List ℕ)) → list_all is_number (tries_numerals o) ≡ true → TriesFit (option_map number o)
tries_fit_read None e = tt
tries_fit_read (Some word) e = let fits = number_fits 1 4294967295 word (and_parts (is_number (numeral 1 4294967295 word)) true e).0 in (fits.0, omega (arith, fits.1))

label_forth : (o : Option (List ℕ)) → option_map (λ l. l.items) (option_map label_of o) ≡ o
label_forth None = refl
label_forth (Some l) = refl

-- the tries that are written are those that were read
tried_same : (tried : Bool) (o : Option (List ℕ)) → tries_fit tried o ≡ true → tries_fit tried (option_map decimal (option_map number o)) ≡ true
tried_same tried None e = refl
tried_same tried (Some word) e = e

call_fits : (s : Scenario) (c : CallParts) → FitsCall c → HoldNot (word_reasons s (Some (call_parts c))) → FitsHere s (call_line c) c.callee (values (form c.callee).arguments c.arguments)
call_fits s c fits none =
    let k : CallLine = call_line c in
    let kinds : List ArgumentKind = (form c.callee).arguments in
    let labelled : Bool = (form c.callee).labelled in
    let numbers = from_not (list_all is_number (numerals (call_parts c))) none.1.0 in
    let others = tries_numerals c.tries ++ arguments_numerals kinds 0 c.arguments in
    let first = and_parts (is_number (numeral 0 7 c.domain)) (is_number (numeral 0 15 c.node) && list_all is_number others) numbers in
    let second = and_parts (is_number (numeral 0 15 c.node)) (list_all is_number others) first.1 in
    let words = all-both is_number (tries_numerals c.tries) (arguments_numerals kinds 0 c.arguments) second.1 in
    let same = label_forth c.told in
    record {
      says = words-made c.callee (values kinds c.arguments);
      makes = refl;
      told_domain = from_not (is_domain s (number c.domain)) none.1.1.1.1.0;
      domain_fits = (number_fits 0 7 c.domain first.0).1;
      node_fits = (number_fits 0 15 c.node second.0).1;
      tries_within = tries_fit_read c.tries words.0;
      tried_right = tried_same (form c.callee).tried c.tries fits.tries_fit;
      arguments_fit = values-fit kinds 0 c.arguments (omega arith) fits.arguments_fit words.1 (from_not (list_all are_bytes (contents (call_parts c))) none.1.1.0);
      label_fits = ap (λ (o : Option (List ℕ)). told_fits labelled o) same ∙ fits.told_fits;
      label_right =
          ap (λ (o : Option (List ℕ)). tells_wrong_label s labelled k.domain o || names_wrong_label s k.domain (arguments_labels kinds (argument_texts kinds (values kinds c.arguments)))) same
          ∙ ap (λ (ls : List NamedLabel). tells_wrong_label s labelled k.domain c.told || names_wrong_label s k.domain ls) (same_labels kinds c.arguments fits.arguments_fit)
          ∙ none.1.1.1.1.1.1.0;
      frame_faulty = none.1.1.1.1.1.1.1.0;
    }

-- a call line more that may be told here
pub call-more : (s : Scenario) (k : CallLine) (c : Callee) (arguments : Values (form c).arguments) → FitsHere s k c arguments → IsReadBack s → IsReadBack (with_statement s (says_call k))
call-more s k c arguments fits back =
    let t : Scenario = with_statement s (says_call k) in
    subst (λ (ls : List (List ℕ)). AreRead nothing_told ls t) (sym (one_call_more s.domains s.links s.calls k))
    (one_more nothing_told (lines_told s.domains s.links s.calls) s (called_line k) t back (call-read s k c arguments fits))

call_on : (s : Scenario) (c : CallParts) → FitsCall c → HoldNot (word_reasons s (Some (call_parts c))) → IsReadBack s → IsReadBack (with_parts s (Some (call_parts c)))
call_on s c fits none back = call-more s (call_line c) c.callee (values (form c.callee).arguments c.arguments) (call_fits s c fits none) back

line_on : (n : ℕ) (s : Scenario) (p : Option LineParts) → FitsIfRead p → HoldNot (word_reasons s p) → IsReadBack s → IsReadBack (with_parts s p)
line_on n s None fits none back = absurd (let e = none.0 in cc)
line_on n s (Some no_parts) fits none back = back
line_on n s (Some (domain_parts d m p)) fits none back = domain_on s d m p none back
line_on n s (Some (link_parts a b q)) fits none back = link_on s a b q none back
line_on n s (Some (call_parts c)) fits none back = call_on s c fits none back

-- ---- the canonical text

some_domain : (ds : List DomainLine) → 1 ≤ length ds → is_empty ds ≡ false
some_domain [] some = absurd (omega arith)
some_domain (d ∷ ds) some = refl

-- a text whose lines tell the scenario tells it
pub told-back : (s : Scenario) → 1 ≤ length s.domains → IsReadBack s → told_by (canonical s) ≡ Ok s
told-back s some back =
    ap (told_from 1 nothing_told) (canonical_lines s (are_texts nothing_told (lines_told s.domains s.links s.calls) s back))
    ∙ are_told 1 nothing_told (lines_told s.domains s.links s.calls) s (some_domain s.domains some) back

-- the lines of a lawful scenario's canonical text tell it
pub lines-back : (s : Scenario) → IsLawfulBoard s → IsReadBack s
lines-back s h = text-keeps (λ n t. IsReadBack t) line_on h.0 s h.2 refl

pub canonical_read_back : (s : Scenario) → IsLawfulBoard s → told_by (canonical s) ≡ Ok s
canonical_read_back s h = told-back s (lawful-some s h) (lines-back s h)
