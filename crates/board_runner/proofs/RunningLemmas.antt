-- A scenario whose lines were given while it ran is told by some text: a line that may be told after the earlier lines of its own domain may be
-- told after those of other domains too.
use Rattle.std.proofs.Common.{◌≡◌, ℕ, ◌≤◌, Bool, true, false, not, ◌&&◌, ◌||◌, cond, List, [], ◌∷◌, ◌++◌, map, length, Option, Some, None, Ok, refl, sym, ap, ap₂, subst, ◌∙◌, nat_lt, arith, length-append}
use Rattle.std.specs.Prelude.{◌==◌}
use Rattle.std.specs.List.{AllByRecursion, flat_map, list_all, list_any}
use Rattle.std.proofs.lemmas.Bool.{ne_eqb}
use Rattle.std.proofs.lemmas.List.{append-nil, append_assoc, map-id}
use Rattle.board_model.specs.declared.scenario.Call.{Call}
use Rattle.board_model.specs.declared.scenario.CallLine.{CallLine}
use Rattle.board_model.specs.declared.scenario.DomainLine.{DomainLine}
use Rattle.board_model.specs.declared.scenario.Scenario.{Scenario}
use Rattle.board_model.specs.declared.reason.LineReason.{LineReason}
use Rattle.board_model.specs.declared.reason.LineReason.TheVariants.{Byte, Long, Form, Number, Bytes, Order, Domain, Link, Label, Sound}
use Rattle.board_model.specs.FileLines.{words_of, lines_of}
use Rattle.board_model.specs.FileWords.{number, is_number, are_bytes}
use Rattle.board_model.specs.Forms.{form, NamedLabel, arguments_labels, CallParts, LineParts, no_parts, domain_parts, link_parts, parts_of, call_parts, call_line, numerals, contents, statement}
use Rattle.board_model.specs.LineReasons.{is_empty, is_text_byte, is_domain, tells, is_told, is_told_of, tells_wrong_label, names_wrong_label, has_wrong_label, has_wrong_domain, has_wrong_link, is_late, has_sound_frame, LineTest, test, word_reasons, line_reason, first_reason, with_parts}
use Rattle.board_model.specs.LinkedBoard.{Differ}
use Rattle.board_model.specs.Language.{nothing_told, told_from, told_by, IsLawfulBoard}
use Rattle.board_model.proofs.LawfulRanges.{lawful-some}
use Rattle.board_model.proofs.MessageAlls.{all-append}
use Rattle.scenario_lang.proofs.SpacedLemmas.{IsText, lines_of-all}
use Rattle.scenario_lang.proofs.CanonicalLines.{IsRead}
use Rattle.scenario_lang.proofs.LinesTold.{lines_told, one_more, AreRead, are_texts, are_told}
use Rattle.scenario_lang.proofs.ReadBack.{lines-back}
use Rattle.board_runner.specs.ActorLogs.{with_calls, MayBeTold, MayFollow, AllFollow}
use Rattle.board_runner.specs.Scripts.{DomainScript, all_lines}

abbrev AreOthers : ℕ → List CallLine → Type 0
AreOthers d others = AllByRecursion (λ c. (c.domain == d) ≡ false) others

-- ---- labels are looked for among the lines of the domain alone

any_own : (test : CallLine → Bool) (others own : List CallLine) → AllByRecursion (λ c. test c ≡ false) others → list_any test (others ++ own) ≡ list_any test own
any_own test [] own none = refl
any_own test (c ∷ cs) own none = ap (λ b. b || list_any test (cs ++ own)) none.0 ∙ any_own test cs own none.1

foreign : (d : ℕ) (rest : CallLine → Bool) (others : List CallLine) → AreOthers d others → AllByRecursion (λ c. ((c.domain == d) && rest c) ≡ false) others
foreign d rest [] away = tt
foreign d rest (c ∷ cs) away = (ap (λ b. b && rest c) away.0, foreign d rest cs away.1)

foreign_too : (d : ℕ) (rest more : CallLine → Bool) (others : List CallLine) → AreOthers d others → AllByRecursion (λ c. (((c.domain == d) && rest c) && more c) ≡ false) others
foreign_too d rest more [] away = tt
foreign_too d rest more (c ∷ cs) away = (ap (λ b. (b && rest c) && more c) away.0, foreign_too d rest more cs away.1)

module _ (board : Scenario) (others own : List CallLine) (d : ℕ) (away : AreOthers d others) where
  abbrev near : Scenario
  near = with_calls board own

  abbrev far : Scenario
  far = with_calls board (others ++ own)

  told_same : (label : List ℕ) → is_told far d label ≡ is_told near d label
  told_same label = any_own (tells d label) others own (foreign d _ others away)

  told_of_same : (may : Call → Bool) (label : List ℕ) → is_told_of may far d label ≡ is_told_of may near d label
  told_of_same may label = any_own (λ c. tells d label c && may c.call) others own (foreign_too d _ _ others away)

  tells_same : (labelled : Bool) (o : Option (List ℕ)) → tells_wrong_label far labelled d o ≡ tells_wrong_label near labelled d o
  tells_same labelled None = refl
  tells_same labelled (Some label) = ap (λ b. not labelled || b) (told_same label)

  names_same : (labels : List NamedLabel) → names_wrong_label far d labels ≡ names_wrong_label near d labels
  names_same [] = refl
  names_same (l ∷ ls) = ap₂ (λ a b. not a || b) (told_of_same l.may_be_of l.word) (names_same ls)

-- ---- a line's reasons

label_same : (board : Scenario) (others own : List CallLine) (c : CallParts) → AreOthers (number c.domain) others → has_wrong_label (with_calls board (others ++ own)) (call_parts c) ≡ has_wrong_label (with_calls board own) (call_parts c)
label_same board others own c away =
    ap₂ (λ a b. a || b) (tells_same board others own (number c.domain) away (form c.callee).labelled c.told) (names_same board others own (number c.domain) away (arguments_labels (form c.callee).arguments c.arguments))

-- the reasons, but for that of labels
abbrev reasons_with : Scenario → CallParts → Bool → List LineTest
reasons_with above c wrong =
    test Form false
    ∷ test Number (not (list_all is_number (numerals (call_parts c))))
    ∷ test Bytes (not (list_all are_bytes (contents (call_parts c))))
    ∷ test Order (is_late above (statement (call_parts c)))
    ∷ test Domain (has_wrong_domain above (statement (call_parts c)))
    ∷ test Link (has_wrong_link above (statement (call_parts c)))
    ∷ test Label wrong
    ∷ test Sound (has_sound_frame (statement (call_parts c)))
    ∷ []

words_same : (board : Scenario) (others own : List CallLine) (c : CallParts) → AreOthers (number c.domain) others → word_reasons (with_calls board (others ++ own)) (Some (call_parts c)) ≡ word_reasons (with_calls board own) (Some (call_parts c))
words_same board others own c away = ap (reasons_with (with_calls board own) c) (label_same board others own c away)

reason_same : (board : Scenario) (others own : List CallLine) (line : List ℕ) (c : CallParts) → parts_of (words_of line) ≡ Some (call_parts c) → AreOthers (number c.domain) others → line_reason (with_calls board (others ++ own)) line ≡ line_reason (with_calls board own) line
reason_same board others own line c reads away =
    let after : List LineTest → Option LineReason = λ ts. first_reason (test Byte (not (list_all is_text_byte line)) ∷ test Long (nat_lt 20000 (length line)) ∷ ts) in
    ap (λ p. after (word_reasons (with_calls board (others ++ own)) p)) reads
    ∙ ap after (words_same board others own c away)
    ∙ sym (ap (λ p. after (word_reasons (with_calls board own) p)) reads)

-- ---- a line of text that tells a call line

longer : (xs : List CallLine) (k : CallLine) → xs ≡ xs ++ k ∷ [] → ⊥
longer xs k e = omega (arith, ap length e, length-append xs (k ∷ []))

same_last : (xs : List CallLine) (j k : CallLine) → xs ++ j ∷ [] ≡ xs ++ k ∷ [] → j ≡ k
same_last [] j k e = cc
same_last (x ∷ xs) j k e = let rest : xs ++ j ∷ [] ≡ xs ++ k ∷ [] = cc in same_last xs j k rest

pub parts-told : (above : Scenario) (k : CallLine) (o : Option LineParts) → with_parts above o ≡ with_calls above (above.calls ++ k ∷ []) → (c : CallParts) × (o ≡ Some (call_parts c)) × (call_line c ≡ k)
parts-told above k None e = absurd (longer above.calls k (ap (λ (s : Scenario). s.calls) e))
parts-told above k (Some no_parts) e = absurd (longer above.calls k (ap (λ (s : Scenario). s.calls) e))
parts-told above k (Some (domain_parts d n p)) e = absurd (longer above.calls k (ap (λ (s : Scenario). s.calls) e))
parts-told above k (Some (link_parts a b q)) e = absurd (longer above.calls k (ap (λ (s : Scenario). s.calls) e))
parts-told above k (Some (call_parts c)) e = (c, refl, same_last above.calls (call_line c) k (ap (λ (s : Scenario). s.calls) e))

text_byte : (b : Bool) (o : Option LineReason) → cond (not b) (Some Byte) o ≡ None → b ≡ true
text_byte true o none = refl
text_byte false o none = absurd cc

-- ---- line by line

-- some lines of text tell the scenario
abbrev IsReadSo : Scenario → Type 0
IsReadSo s = (lines : List (List ℕ)) × AreRead nothing_told lines s

domain_is : (k : CallLine) (c : CallParts) (others : List CallLine) → call_line c ≡ k → AreOthers k.domain others → AreOthers (number c.domain) others
domain_is k c others makes away = subst (λ n. AreOthers n others) (sym (ap (λ (l : CallLine). l.domain) makes)) away

line_read : (board : Scenario) (others own : List CallLine) (k : CallLine) → AreOthers k.domain others → (may : MayBeTold (with_calls board own) k) → IsRead (with_calls board (others ++ own)) may.text (with_calls board ((others ++ own) ++ k ∷ []))
line_read board others own k away may =
    let parts = parts-told (with_calls board own) k (parts_of (words_of may.text)) may.tells in
    record {
      text = text_byte (list_all is_text_byte may.text) _ may.passes;
      passes = reason_same board others own may.text parts.0 parts.1 (domain_is k parts.0 others parts.2 away) ∙ may.passes;
      tells = ap (with_parts (with_calls board (others ++ own))) parts.1 ∙ ap (λ l. with_calls board ((others ++ own) ++ l ∷ [])) parts.2;
    }

line_more : (board : Scenario) (others own : List CallLine) (k : CallLine) → AreOthers k.domain others → MayBeTold (with_calls board own) k → IsReadSo (with_calls board (others ++ own)) → IsReadSo (with_calls board ((others ++ own) ++ k ∷ []))
line_more board others own k away may back =
    (back.0 ++ may.text ∷ [], one_more nothing_told back.0 (with_calls board (others ++ own)) may.text (with_calls board ((others ++ own) ++ k ∷ [])) back.1 (line_read board others own k away may))

lines_on : (board : Scenario) (others own : List CallLine) (d : ℕ) (lines : List CallLine) → is_domain board d ≡ true → AreOthers d others → AllFollow d own lines → IsReadSo (with_calls board (others ++ own)) → IsReadSo (with_calls board (others ++ (own ++ lines)))
lines_on board others own d [] on away follow back = subst (λ ls. IsReadSo (with_calls board (others ++ ls))) (sym (append-nil own)) back
lines_on board others own d (k ∷ ks) on away follow back =
    let here = line_more board others own k (subst (λ n. AreOthers n others) (sym follow.0.own) away) (follow.0.told board on) back in
    let next = lines_on board others (own ++ k ∷ []) d ks on away follow.1 (subst (λ ls. IsReadSo (with_calls board ls)) (append_assoc others own (k ∷ [])) here) in
    subst (λ ls. IsReadSo (with_calls board (others ++ ls))) (append_assoc own (k ∷ []) ks) next

-- ---- domain by domain

-- the script of a domain of the board
abbrev pub IsScriptOn : Scenario → DomainScript → Type 0
IsScriptOn board x = (is_domain board x.domain ≡ true) × AllFollow x.domain [] x.lines

pub script_own : (d : ℕ) (earlier lines : List CallLine) → AllFollow d earlier lines → AllByRecursion (λ c. c.domain ≡ d) lines
script_own d earlier [] follow = tt
script_own d earlier (k ∷ ks) follow = (follow.0.own, script_own d (earlier ++ k ∷ []) ks follow.1)

lines_apart : (d e : ℕ) (lines : List CallLine) → (d ≡ e → ⊥) → AllByRecursion (λ c. c.domain ≡ d) lines → AreOthers e lines
lines_apart d e [] apart own = tt
lines_apart d e (k ∷ ks) apart own = (ne_eqb k.domain e (λ same. apart (sym own.0 ∙ same)), lines_apart d e ks apart own.1)

abbrev AwayFrom : List CallLine → DomainScript → Type 0
AwayFrom done x = AreOthers x.domain done

all_away : (done : List CallLine) (x : DomainScript) (xs : List DomainScript) → AllByRecursion (λ c. c.domain ≡ x.domain) x.lines → AllByRecursion (λ m. m ≡ x.domain → ⊥) (map (λ y. y.domain) xs) → AllByRecursion (AwayFrom done) xs → AllByRecursion (AwayFrom (done ++ x.lines)) xs
all_away done x [] own differ away = tt
all_away done x (y ∷ ys) own differ away =
    (all-append (λ c. (c.domain == y.domain) ≡ false) done x.lines away.0 (lines_apart x.domain y.domain x.lines (λ same. differ.0 (sym same)) own), all_away done x ys own differ.1 away.1)

scripts_on : (board : Scenario) (done : List CallLine) (xs : List DomainScript) → Differ (map (λ x. x.domain) xs) → AllByRecursion (IsScriptOn board) xs → AllByRecursion (AwayFrom done) xs → IsReadSo (with_calls board done) → IsReadSo (with_calls board (done ++ all_lines xs))
scripts_on board done [] differ on away back = subst (λ ls. IsReadSo (with_calls board ls)) (sym (append-nil done)) back
scripts_on board done (x ∷ xs) differ on away back =
    let here = lines_on board done [] x.domain x.lines on.0.0 away.0 on.0.1 (subst (λ ls. IsReadSo (with_calls board ls)) (sym (append-nil done)) back) in
    let next = scripts_on board (done ++ x.lines) xs differ.1 on.1 (all_away done x xs (script_own x.domain [] x.lines on.0.1) differ.0 away.1) here in
    subst (λ ls. IsReadSo (with_calls board ls)) (append_assoc done x.lines (all_lines xs)) next

none_done : (xs : List DomainScript) → AllByRecursion (AwayFrom []) xs
none_done [] = tt
none_done (x ∷ xs) = (tt, none_done xs)

-- ---- a text

-- lines of text, each with its newline
abbrev text_of : List (List ℕ) → List ℕ
text_of lines = flat_map (λ line. line ++ 10 ∷ []) lines

lines_of_text : (lines : List (List ℕ)) → AllByRecursion IsText lines → lines_of (text_of lines) ≡ lines
lines_of_text lines texts =
    ap lines_of (sym (append-nil (text_of lines)))
    ∙ lines_of-all (λ (line : List ℕ). line) lines [] (subst (λ ls. AllByRecursion IsText ls) (sym (map-id lines)) texts)
    ∙ append-nil (map (λ line. line) lines)
    ∙ map-id lines

some_domain : (ds : List DomainLine) → 1 ≤ length ds → is_empty ds ≡ false
some_domain [] some = absurd (omega (arith, some))
some_domain (d ∷ ds) some = refl

-- some text tells the board with the scripts of its domains
pub scripts-told : (board : Scenario) (xs : List DomainScript) → IsLawfulBoard board → board.calls ≡ [] → Differ (map (λ x. x.domain) xs) → AllByRecursion (IsScriptOn board) xs → (text : List ℕ) × (told_by text ≡ Ok (with_calls board (all_lines xs)))
scripts-told board xs lawful empty differ on =
    let board_read : IsReadSo (with_calls board []) = subst (λ ls. IsReadSo (with_calls board ls)) empty (lines_told board.domains board.links board.calls, lines-back board lawful) in
    let all = scripts_on board [] xs differ on (none_done xs) board_read in
    let s : Scenario = with_calls board (all_lines xs) in
    let texts = are_texts nothing_told all.0 s all.1 in
    (text_of all.0, ap (told_from 1 nothing_told) (lines_of_text all.0 texts) ∙ are_told 1 nothing_told all.0 s (some_domain board.domains (lawful-some board lawful)) all.1)
