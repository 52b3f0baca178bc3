-- The scenario of a report, as lines: the first pass reads it up to the line that heads the first journal.
use Rattle.std.proofs.Common.{◌≡◌, ℕ, ◌+◌, ◌≤◌, Bool, true, false, cond, List, [], ◌∷◌, ◌++◌, length, map, Option, Some, None, bytes_eq, refl, sym, ap, ap₂, ◌∙◌, arith, append_assoc, append-nil}
use Rattle.std.specs.Prelude.{codes, decimal, nat_le, not, ◌==◌, ◌&&◌, Ok}
use Rattle.std.specs.List.{AllByRecursion, list_all}
use Rattle.std.proofs.lemmas.Bool.{and_from, and_parts}
use Rattle.std.proofs.lemmas.Bool.Decides.{nat_tests}
use Rattle.board_model.specs.declared.scenario.CallLine.{CallLine}
use Rattle.board_model.specs.declared.scenario.DomainLine.{DomainLine}
use Rattle.board_model.specs.declared.scenario.LinkLine.{LinkLine}
use Rattle.board_model.specs.declared.scenario.Scenario.{Scenario}
use Rattle.board_model.specs.FileWords.{is_digit}
use Rattle.board_model.specs.Grammar.{spaced, line_of, domain_text, link_text, caller_text, label_words, tries_words, call_words, call_text, canonical}
use Rattle.board_model.specs.Language.{nothing_told, told_by, IsLawfulBoard}
use Rattle.board_model.specs.LineReasons.{is_text_byte}
use Rattle.board_model.specs.LinkedBoard.{IsTold, IsLinkedBoard}
use Rattle.board_model.specs.Numerals.{is_other}
use Rattle.board_model.specs.Report.{Mode}
use Rattle.board_model.specs.Scenario.{label_in}
use Rattle.board_model.proofs.BoardsNeighbours.{told-fits}
use Rattle.board_model.proofs.LawfulBoards.{lawful_is_linked}
use Rattle.board_model.proofs.ListsApart.{all-map, all-unmap}
use Rattle.board_model.proofs.ListsOne.{all-any}
use Rattle.board_model.proofs.MessageAlls.{all-append, all-parts, all-weaken}
use Rattle.board_model.proofs.WordDecimals.{decimal-digits}
use Rattle.mc_journal.specs.Readers.{cut_at, onto_first}
use Rattle.mc_journal.proofs.Cuts.{cut-not}
use Rattle.report_text.specs.ScenarioPart.{rest, is_journal, begins_journal, front_lines, behind_front, text_of, other_place, scenario_unless, scenario_by, scenario_in, told_behind, scenario_from}
use Rattle.report_text.specs.TextLines.{lines_in, first_other}
use Rattle.report_text.proofs.TextFronts.{Ended, lines-back}
use Rattle.report_text.proofs.UnendedWords.{HasNone, decimal-none}
use Rattle.report_text.proofs.LinesTold.{first-same}
use Rattle.scenario_lang.proofs.LinesTold.{domain_line, link_line, called_line, lines_told, are_texts}
use Rattle.scenario_lang.proofs.ReadBack.{canonical_read_back}
use Rattle.scenario_lang.proofs.ReadBack.{lines-back as canonical-lines}
use Rattle.scenario_lang.proofs.SpacedLemmas.{IsText}
use Rattle.report_laws.proofs.TextRows.{text-append, text-map}
use Rattle.report_laws.proofs.WholeRows.{line-ended, rows-are}

abbrev pub scenario_rows : Scenario → List (List ℕ)
scenario_rows s = map domain_text s.domains ++ (map link_text s.links ++ map call_text s.calls)

pub scenario-text : (s : Scenario) → canonical s ≡ text_of (scenario_rows s)
scenario-text s = sym (
    text-append (map domain_text s.domains) (map link_text s.links ++ map call_text s.calls)
    ∙ ap₂ (λ (x y : List ℕ). x ++ y) (text-map domain_text s.domains)
    (text-append (map link_text s.links) (map call_text s.calls) ∙ ap₂ (λ (x y : List ℕ). x ++ y) (text-map link_text s.links) (text-map call_text s.calls)))

-- ---- each line has one newline, its last byte

text-none : (bs : List ℕ) → IsText bs → HasNone bs
text-none [] text = refl
text-none (b ∷ bs) text =
    let parts = and_parts (is_text_byte b) (list_all is_text_byte bs) text in
    and_from (is_other 10 b) (list_all (is_other 10) bs) (other b parts.0) (text-none bs parts.1)
  where
    other : (c : ℕ) → is_text_byte c ≡ true → is_other 10 c ≡ true
    other c text = let differs : (c == 10) ≡ false = grind (arith, nat_tests) in ap not differs

domain-ended : (d : DomainLine) → Ended (domain_text d)
domain-ended d = line-ended (codes "domain" ∷ decimal d.domain ∷ codes "nodes" ∷ decimal d.nodes ∷ codes "pool" ∷ decimal d.pool ∷ []) (refl, (decimal-none d.domain, (refl, (decimal-none d.nodes, (refl, (decimal-none d.pool, tt))))))

link-ended : (l : LinkLine) → Ended (link_text l)
link-ended l = line-ended (codes "link" ∷ decimal l.driver ∷ decimal l.device ∷ codes "size" ∷ decimal l.size ∷ []) (refl, (decimal-none l.driver, (decimal-none l.device, (refl, (decimal-none l.size, tt)))))

call-ended : (c : CallLine) → IsText (called_line c) → Ended (call_text c)
call-ended c text = (called_line c, cut-not 10 (called_line c) (text-none (called_line c) text), refl)

pub scenario-ended : (s : Scenario) → IsLawfulBoard s → AllByRecursion Ended (scenario_rows s)
scenario-ended s lawful =
    let texts : AllByRecursion IsText (lines_told s.domains s.links s.calls) = are_texts nothing_told (lines_told s.domains s.links s.calls) s (canonical-lines s lawful) in
    let others = (all-parts IsText (map domain_line s.domains) (map link_line s.links ++ map called_line s.calls) texts).1 in
    let calls = all-unmap IsText called_line s.calls (all-parts IsText (map link_line s.links) (map called_line s.calls) others).1 in
    all-append Ended (map domain_text s.domains) (map link_text s.links ++ map call_text s.calls) (all-map Ended domain_text s.domains (all-any (λ d. Ended (domain_text d)) domain-ended s.domains))
    (all-append Ended (map link_text s.links) (map call_text s.calls) (all-map Ended link_text s.links (all-any (λ l. Ended (link_text l)) link-ended s.links))
    (all-map Ended call_text s.calls (all-weaken (λ c. IsText (called_line c)) (λ c. Ended (call_text c)) call-ended s.calls calls)))

-- ---- no line begins with the word of a journal's

abbrev IsOther : List ℕ → Type 0
IsOther l = begins_journal l ≡ false

-- 106 begins that word
other-byte : (b : ℕ) (bs : List ℕ) → (106 == b) ≡ false → IsOther (b ∷ bs)
other-byte b bs other = go (b == 32)
  where
    behind : (o : Option (List ℕ × List ℕ)) → is_journal (onto_first b o) ≡ false
    behind None = refl
    behind (Some x) = ap (λ t. t && bytes_eq (111 ∷ 117 ∷ 114 ∷ 110 ∷ 97 ∷ 108 ∷ []) x.0) other

    go : (t : Bool) → is_journal (cond t (Some ([], bs)) (onto_first b (cut_at 32 bs))) ≡ false
    go true = refl
    go false = behind (cut_at 32 bs)

digits-other : (ds more : List ℕ) → list_all is_digit ds ≡ true → IsOther (ds ++ 46 ∷ more)
digits-other [] more digits = other-byte 46 more refl
digits-other (d ∷ ds) more digits =
    let digit : is_digit d ≡ true = (and_parts (is_digit d) (list_all is_digit ds) digits).0 in
    let low : nat_le d 57 ≡ true = (and_parts (nat_le 48 d) (nat_le d 57) digit).1 in
    let differs : (106 == d) ≡ false = grind (arith, nat_tests) in
    other-byte d (ds ++ 46 ∷ more) differs

starts : (w : List ℕ) (ws : List (List ℕ)) → (t : List ℕ) × (line_of (w ∷ ws) ≡ w ++ t)
starts w [] = (10 ∷ [], refl)
starts w (v ∷ ws) = ((32 ∷ spaced (v ∷ ws)) ++ 10 ∷ [], append_assoc w (32 ∷ spaced (v ∷ ws)) (10 ∷ []))

-- a call's line begins with a number
call-other : (c : CallLine) → c.domain ≤ 7 → IsOther (call_text c)
call-other c fits =
    let start = starts (caller_text c) (label_words (label_in c) ++ (tries_words c.tries ++ call_words c.call)) in
    ap begins_journal (start.1 ∙ append_assoc (decimal c.domain) (46 ∷ decimal c.node) start.0)
    ∙ digits-other (decimal c.domain) (decimal c.node ++ start.0) (decimal-digits c.domain (omega (arith, fits)))

scenario-others : (s : Scenario) → IsLinkedBoard s → AllByRecursion IsOther (scenario_rows s)
scenario-others s board =
    all-append IsOther (map domain_text s.domains) (map link_text s.links ++ map call_text s.calls) (all-map IsOther domain_text s.domains (all-any (λ d. IsOther (domain_text d)) (λ d. refl) s.domains))
    (all-append IsOther (map link_text s.links) (map call_text s.calls) (all-map IsOther link_text s.links (all-any (λ l. IsOther (link_text l)) (λ l. refl) s.links))
    (all-map IsOther call_text s.calls (all-weaken (λ c. IsTold s c.domain) (λ c. IsOther (call_text c)) (λ c told. call-other c (told-fits s board c.domain told)) s.calls board.lines_told)))

-- ---- the front of the lines

fronts : (xs more : List (List ℕ)) → AllByRecursion IsOther xs → (front_lines (xs ++ more) ≡ xs ++ front_lines more) × (behind_front (xs ++ more) ≡ behind_front more)
fronts [] more others = (refl, refl)
fronts (x ∷ xs) more others =
    let rest = fronts xs more others.1 in (
      ap (λ t. cond t [] (x ∷ front_lines (xs ++ more))) others.0 ∙ ap (λ (ls : List (List ℕ)). x ∷ ls) rest.0,
      ap (λ t. cond t (x ∷ (xs ++ more)) (behind_front (xs ++ more))) others.0 ∙ rest.1,
    )

module _ (s : Scenario) (lawful : IsLawfulBoard s) where
  rows-back : lines_in (text_of (scenario_rows s)) ≡ scenario_rows s
  rows-back = lines-back (scenario_rows s) (rows-are (scenario_rows s) (scenario-ended s lawful))

  rows-read : scenario_in (scenario_rows s) ≡ Ok s
  rows-read =
      let told : told_by (text_of (scenario_rows s)) ≡ Ok s = ap told_by (sym (scenario-text s)) ∙ canonical_read_back s lawful in
      let same : other_place s (scenario_rows s) ≡ None = ap (λ t. first_other (scenario_rows s) (lines_in t)) (scenario-text s) ∙ ap (first_other (scenario_rows s)) rows-back ∙ first-same (scenario_rows s) in
      ap (scenario_by (scenario_rows s)) told ∙ ap (λ o. scenario_unless o s) same

  -- the scenario is read behind a heading, before a line that heads a journal
  pub scenario-read : (mode : Mode) (n : ℕ) (l : List ℕ) (ls : List (List ℕ)) → begins_journal l ≡ true → (k : ℕ) × (scenario_from mode (rest n (scenario_rows s ++ l ∷ ls)) ≡ Ok (record { mode = mode; scenario = s; behind = rest k (l ∷ ls) }))
  scenario-read mode n l ls begins =
      let rows : List (List ℕ) = scenario_rows s ++ l ∷ ls in
      let parts = fronts (scenario_rows s) (l ∷ ls) (scenario-others s (lawful_is_linked s lawful)) in
      let front : front_lines rows ≡ scenario_rows s = parts.0 ∙ ap (λ t. scenario_rows s ++ cond t [] (l ∷ front_lines ls)) begins ∙ append-nil (scenario_rows s) in
      let behind : behind_front rows ≡ l ∷ ls = parts.1 ∙ ap (λ t. cond t (l ∷ ls) (behind_front ls)) begins in
      (n + length (front_lines rows), ap (told_behind mode (rest n rows)) (ap scenario_in front ∙ rows-read) ∙ ap (λ (bs : List (List ℕ)). Ok (record { mode = mode; scenario = s; behind = rest (n + length (front_lines rows)) bs })) behind)
