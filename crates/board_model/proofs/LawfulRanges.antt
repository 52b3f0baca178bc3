-- What a lawful scenario keeps besides what a board of linked domains does: it has a domain, each link's size is a
-- power of two, and tries are from 1 to 2^32 - 1.
use Rattle.std.proofs.Common.{◌≡◌, ℕ, ◌+◌, ◌≤◌, ◌<◌, ◌^◌, Bool, true, false, not, ◌&&◌, ◌||◌, List, [], ◌∷◌, ◌++◌, length, cond, Option, Some, None, Err, Ok, refl, subst, arith}
use Rattle.std.specs.Prelude.{◌==◌, option_map}
use Rattle.std.specs.List.{AllByRecursion, list_all, list_any}
use Rattle.std.proofs.lemmas.Bool.{and_parts, or_parts}
use Rattle.board_model.specs.declared.scenario.DomainLine.{DomainLine}
use Rattle.board_model.specs.declared.scenario.LinkLine.{LinkLine}
use Rattle.board_model.specs.declared.scenario.CallLine.{CallLine}
use Rattle.board_model.specs.declared.scenario.Scenario.{Scenario}
use Rattle.board_model.specs.declared.reason.LineReason.TheVariants.{Domain}
use Rattle.board_model.specs.FileLines.{lines_of, words_of}
use Rattle.board_model.specs.FileWords.{numeral, is_number, number}
use Rattle.board_model.specs.Forms.{form, LineParts, parts_of, no_parts, domain_parts, link_parts, call_parts, call_line, numerals, tries_numerals, arguments_numerals}
use Rattle.board_model.specs.LineReasons.{is_same_pair, is_link_size, word_reasons, with_parts, is_empty, line_reason}
use Rattle.board_model.specs.Language.{RefusedLine, refused, nothing_told, told_from, IsLawfulBoard}
use Rattle.board_model.proofs.MessageAlls.{all-append}
use Rattle.board_model.proofs.LawfulTests.{all-both}
use Rattle.board_model.proofs.LawfulWords.{number_fits}
use Rattle.board_model.proofs.LawfulParts.{FitsIfRead}
use Rattle.board_model.proofs.LawfulSizes.{IsPowerOfTwo, size-power}
use Rattle.board_model.proofs.LawfulTelling.{from_not, HoldNot, no-reason, text-keeps}

abbrev pub TriesFit : Option ℕ → Type 0
TriesFit None = Unit {0}
TriesFit (Some n) = (1 ≤ n) × (n < 2 ^ 32)

record Keeps (n : ℕ) (s : Scenario) : Type 0 where
  sizes : AllByRecursion (λ l. IsPowerOfTwo l.size) s.links
  tries : AllByRecursion (λ c. TriesFit c.tries) s.calls

tries_fit : (o : Option (List ℕ)) → list_all is_number (tries_numerals o) ≡ true → TriesFit (option_map number o)
tries_fit None e = tt
tries_fit (Some word) e = let fits = number_fits 1 4294967295 word (and_parts (is_number (numeral 1 4294967295 word)) true e).0 in (fits.0, omega (arith, fits.1))

keeps : (n : ℕ) (above : Scenario) (p : Option LineParts) → FitsIfRead p → HoldNot (word_reasons above p) → Keeps n above → Keeps (n + 1) (with_parts above p)
keeps n above None fits none h = absurd (let e = none.0 in cc)
keeps n above (Some no_parts) fits none h = record { sizes = h.sizes; tries = h.tries }
keeps n above (Some (domain_parts d m p)) fits none h = record { sizes = h.sizes; tries = h.tries }
keeps n above (Some (link_parts a b q)) fits none h =
    let l : LinkLine = record { driver = number a; device = number b; size = number q } in
    let apart = or_parts (l.driver == l.device) (list_any (is_same_pair l) above.links || not (is_link_size l.size)) none.1.1.1.1.1.0 in
    let new = or_parts (list_any (is_same_pair l) above.links) (not (is_link_size l.size)) apart.1 in
    record { sizes = all-append (λ (m : LinkLine). IsPowerOfTwo m.size) above.links (l ∷ []) h.sizes (size-power l.size (from_not (is_link_size l.size) new.1), tt); tries = h.tries }
keeps n above (Some (call_parts c)) fits none h =
    let numbers = from_not (list_all is_number (numerals (call_parts c))) none.1.0 in
    let others = tries_numerals c.tries ++ arguments_numerals (form c.callee).arguments 0 c.arguments in
    let first = and_parts (is_number (numeral 0 7 c.domain)) (is_number (numeral 0 15 c.node) && list_all is_number others) numbers in
    let second = and_parts (is_number (numeral 0 15 c.node)) (list_all is_number others) first.1 in
    let tries = (all-both is_number (tries_numerals c.tries) (arguments_numerals (form c.callee).arguments 0 c.arguments) second.1).0 in
    record { sizes = h.sizes; tries = all-append (λ (k : CallLine). TriesFit k.tries) above.calls (call_line c ∷ []) h.tries (tries_fit c.tries tries, tt) }

all_kept : (s : Scenario) → (h : IsLawfulBoard s) → (n : ℕ) × Keeps n s
all_kept s (text, few, told) = (1 + length (lines_of text), text-keeps Keeps keeps text s told (record { sizes = tt; tries = tt }))

pub lawful-sizes : (s : Scenario) → IsLawfulBoard s → AllByRecursion (λ l. IsPowerOfTwo l.size) s.links
lawful-sizes s h = (all_kept s h).1.sizes

pub lawful-tries : (s : Scenario) → IsLawfulBoard s → AllByRecursion (λ c. TriesFit c.tries) s.calls
lawful-tries s h = (all_kept s h).1.tries

-- ---- a file tells a domain

told_some : (b : Bool) (r : RefusedLine) (above s : Scenario) → is_empty above.domains ≡ b → cond b (Err r) (Ok above) ≡ Ok s → 1 ≤ length s.domains
told_some true r above s is e = absurd cc
told_some false r above s is e = let same : above ≡ s = cc in subst (λ (t : Scenario). 1 ≤ length t.domains) same (some above.domains is)
  where
    some : (ds : List DomainLine) → is_empty ds ≡ false → 1 ≤ length ds
    some [] is = absurd cc
    some (d ∷ ds) is = omega arith

lines_some : (lines : List (List ℕ)) (n : ℕ) (above s : Scenario) → told_from n above lines ≡ Ok s → 1 ≤ length s.domains
lines_some [] n above s told = told_some (is_empty above.domains) (refused n Domain) above s refl told
lines_some (line ∷ lines) n above s told = lines_some lines (n + 1) (with_parts above (parts_of (words_of line))) s (no-reason n (line_reason above line) (told_from (n + 1) (with_parts above (parts_of (words_of line))) lines) s told).1

pub lawful-some : (s : Scenario) → IsLawfulBoard s → 1 ≤ length s.domains
lawful-some s (text, few, told) = lines_some (lines_of text) 1 nothing_told s told
