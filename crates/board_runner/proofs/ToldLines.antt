-- A line that may be told has arguments in their ranges, and one that fits the form of its call may be told.
use Rattle.std.proofs.Common.{◌≡◌, ℕ, Bool, true, false, ◌&&◌, cond, List, [], ◌∷◌, ◌++◌, Option, Some, None, refl, sym, subst, ap, eq-eqb}
use Rattle.std.specs.Prelude.{◌==◌}
use Rattle.std.specs.List.{list_all}
use Rattle.std.proofs.lemmas.Bool.{and_parts, or_left}
use Rattle.board_model.specs.declared.form.Callee.{Callee}
use Rattle.board_model.specs.declared.scenario.CallLine.{CallLine}
use Rattle.board_model.specs.declared.scenario.Scenario.{Scenario}
use Rattle.board_model.specs.FileLines.{words_of}
use Rattle.board_model.specs.FileWords.{numeral, is_number, number, are_bytes}
use Rattle.board_model.specs.Forms.{form, Values, LineParts, call_parts, CallParts, call_line, parts_of, numerals, contents, tries_numerals, arguments_numerals}
use Rattle.board_model.specs.Grammar.{spaced}
use Rattle.board_model.specs.LineReasons.{LineTest, first_reason, reasons, word_reasons}
use Rattle.board_model.specs.LinkedBoard.{HasFitArguments}
use Rattle.board_model.proofs.LawfulForms.{call-fits}
use Rattle.board_model.proofs.LawfulParts.{FitsCall, FitsIfRead, parts_fit}
use Rattle.board_model.proofs.LawfulTelling.{from_not, HoldNot}
use Rattle.board_model.proofs.LawfulTests.{all-both}
use Rattle.scenario_lang.proofs.CanonicalCallLines.{FitsHere, call-read, line_words}
use Rattle.board_runner.specs.ActorLogs.{MayBeTold, MayFollow, with_calls}
use Rattle.board_runner.specs.Lines.{HasFitNumbers}
use Rattle.board_runner.proofs.RunningLemmas.{parts-told}
use Rattle.board_runner.proofs.SerialLemmas.{asks}

none_holds : (ts : List LineTest) → first_reason ts ≡ None → HoldNot ts
none_holds [] e = tt
none_holds (t ∷ ts) e = go t.holds refl e (λ rest. none_holds ts rest)
  where
    go : (b : Bool) → t.holds ≡ b → cond b (Some t.reason) (first_reason ts) ≡ None → (first_reason ts ≡ None → HoldNot ts) → HoldNot (t ∷ ts)
    go true is none rest = absurd cc
    go false is none rest = (is, rest none)

call_fits : (s : Scenario) (c : CallParts) → FitsCall c → HoldNot (word_reasons s (Some (call_parts c))) → HasFitArguments (call_line c).call
call_fits s c fits none =
    let numbers = from_not (list_all is_number (numerals (call_parts c))) none.1.0 in
    let others = tries_numerals c.tries ++ arguments_numerals (form c.callee).arguments 0 c.arguments in
    let first = and_parts (is_number (numeral 0 7 c.domain)) (is_number (numeral 0 15 c.node) && list_all is_number others) numbers in
    let second = and_parts (is_number (numeral 0 15 c.node)) (list_all is_number others) first.1 in
    let arguments = (all-both is_number (tries_numerals c.tries) (arguments_numerals (form c.callee).arguments 0 c.arguments) second.1).1 in
    call-fits c.callee c.arguments fits.arguments_fit arguments (from_not (list_all are_bytes (contents (call_parts c))) none.1.1.0)

told_fits : (above : Scenario) (k : CallLine) → MayBeTold above k → HasFitArguments k.call
told_fits above k may =
    let parts = parts-told above k (parts_of (words_of may.text)) may.tells in
    let c : CallParts = parts.0 in
    let none : HoldNot (word_reasons above (parts_of (words_of may.text))) = (none_holds (reasons above may.text) may.passes).1.1 in
    let fits : FitsIfRead (parts_of (words_of may.text)) = parts_fit (words_of may.text) in
    subst (λ (l : CallLine). HasFitArguments l.call) parts.2
    (call_fits above c (subst FitsIfRead parts.1 fits) (subst (λ (o : Option LineParts). HoldNot (word_reasons above o)) parts.1 none))

-- a board with one domain alone
abbrev one_domain : ℕ → Scenario
one_domain d = record { domains = record { domain = d; nodes = 1; pool = 1 } ∷ []; links = []; calls = [] }

pub line-asks : (d : ℕ) (earlier : List CallLine) (k : CallLine) → MayFollow d earlier k → HasFitNumbers 9000 k.call
line-asks d earlier k follows = asks k.call (told_fits (with_calls (one_domain d) earlier) k (follows.told (one_domain d) (or_left (d == d) false (eq-eqb d d refl))))

-- a line that fits its form here may be told: its canonical text tells it
pub fits-told : (above : Scenario) (k : CallLine) (c : Callee) (arguments : Values (form c).arguments) → FitsHere above k c arguments → MayBeTold above k
fits-told above k c arguments fits =
    let read = call-read above k c arguments fits in
    record { text = spaced (line_words k); passes = read.passes; tells = read.tells }
