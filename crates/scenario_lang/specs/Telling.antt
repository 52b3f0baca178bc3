-- What a line tells after those above it, or the first reason for which it is refused, in the order in which a reader asks.
-- Source: docs/FORMATS.md, "Scenario files"; `board_model` has the table of reasons.
use Rattle.std.specs.Prelude.{◌≡◌, ℕ, Bool, not, ◌&&◌, ◌||◌, List, [], ◌∷◌, length, codes, bytes_eq, nat_lt, ◌==◌, Option, None, Some, Result, Ok, Err, if◌then◌else◌}
use Rattle.std.specs.List.{list_all, list_any}
use Rattle.std.specs.Borrow.{Bor}
use Rattle.board_model.specs.declared.scenario.DomainLine.{DomainLine}
use Rattle.board_model.specs.declared.scenario.CallLine.{CallLine}
use Rattle.board_model.specs.declared.scenario.Scenario.{Scenario}
use Rattle.board_model.specs.declared.reason.LineReason.{LineReason}
use Rattle.board_model.specs.declared.reason.LineReason.TheVariants.{Byte, Long, Order, Domain, Link, Label, Sound}
use Rattle.board_model.specs.FileLines.{begins_with, words_of}
use Rattle.board_model.specs.Forms.{form, gives_request, gives_packet, arguments_labels, CallParts, LineParts, says_domain, says_link, says_call}
use Rattle.board_model.specs.LineReasons.{is_text_byte, is_late, is_domain, has_wrong_domain, has_wrong_link, tells_wrong_label, names_wrong_label, puts_sound, is_told, is_told_of, first_reason, word_reasons, with_statement, with_parts}
use Rattle.scenario_lang.specs.declared.fault.LineFault.{LineFault}
use Rattle.scenario_lang.specs.declared.fault.LineFault.TheVariants as line_fault
use Rattle.scenario_lang.specs.declared.fault.ScenarioFault.{ScenarioFault}
use Rattle.scenario_lang.specs.declared.labels.Labels.{Labels}
use Rattle.scenario_lang.specs.declared.fault.ScenarioFault.TheVariants as scenario_fault
use Rattle.scenario_lang.specs.Reading.{◌>>=◌, domain_in, link_in, parts_in, call_line_in}

abbrev pub tell_domain : Scenario → DomainLine → Result Scenario LineReason
tell_domain above line = if is_late above (says_domain line) then Err Order else if is_domain above line.domain then Err Domain else Ok (with_statement above (says_domain line))

unfoldable pub domain_told : Scenario → List (List ℕ) → Result Scenario LineReason
domain_told above words = do
  line ← domain_in words
  tell_domain above line

abbrev pub tell_link : Scenario → ℕ × ℕ × ℕ → Result Scenario LineReason
tell_link above x =
    if is_late above (says_link (record { driver = x.0; device = x.1; size = x.2 })) then Err Order
    else if has_wrong_domain above (says_link (record { driver = x.0; device = x.1; size = x.2 })) then Err Domain
    else if has_wrong_link above (says_link (record { driver = x.0; device = x.1; size = x.2 })) then Err Link
    else Ok (with_statement above (says_link (record { driver = x.0; device = x.1; size = x.2 })))

unfoldable pub link_told : Scenario → List (List ℕ) → Result Scenario LineReason
link_told above words = do
  line ← link_in words
  tell_link above line

abbrev pub tell_call : Scenario → CallParts → CallLine → Result Scenario LineReason
tell_call above p line =
    if not (is_domain above line.domain) then Err Domain
    else if tells_wrong_label above (form p.callee).labelled line.domain p.told then Err Label
    else if names_wrong_label above line.domain (arguments_labels (form p.callee).arguments p.arguments) then Err Label
    else if puts_sound line.call then Err Sound
    else Ok (with_statement above (says_call line))

unfoldable pub call_told : Scenario → List ℕ → List (List ℕ) → Result Scenario LineReason
call_told above first words = do
  parts ← parts_in first words
  line ← call_line_in parts
  tell_call above parts line

abbrev pub words_told : Scenario → List (List ℕ) → Result Scenario LineReason
words_told above [] = Ok above
words_told above (w ∷ ws) =
    if begins_with 35 w then Ok above
    else if bytes_eq w (codes "domain") then domain_told above ws
    else if bytes_eq w (codes "link") then link_told above ws
    else call_told above w ws

abbrev pub line_told : Scenario → List ℕ → Result Scenario LineReason
line_told above line =
    if not (list_all is_text_byte line) then Err Byte
    else if nat_lt 20000 (length line) then Err Long
    else words_told above (words_of line)

-- a set has the label of a domain
abbrev pub has_label : List (ℕ × Bor (List ℕ)) → ℕ → List ℕ → Bool
has_label keys d label = list_any (λ k. k.0 == d && bytes_eq label k.1.now) keys

-- two sets have the labels that a scenario tells: those of requests and those of packets
pub record Keeps (labels : Labels) (above : Scenario) : Type 0 where
  pub told : (d : ℕ) (label : List ℕ) → is_told above d label ≡ (has_label labels.requests.told.keys d label || has_label labels.packets.told.keys d label)
  pub requests : (d : ℕ) (label : List ℕ) → has_label labels.requests.told.keys d label ≡ is_told_of gives_request above d label
  pub packets : (d : ℕ) (label : List ℕ) → has_label labels.packets.told.keys d label ≡ is_told_of gives_packet above d label

-- the answer that the table of reasons gives of the parts of a line, and of a whole line
abbrev pub answered : Option LineReason → Scenario → Result Scenario LineReason
answered None told = Ok told
answered (Some reason) told = Err reason

abbrev pub parts_told : Scenario → Option LineParts → Result Scenario LineReason
parts_told above parts = answered (first_reason (word_reasons above parts)) (with_parts above parts)

abbrev pub fault_at : ℕ → LineFault → ScenarioFault
fault_at line (line_fault.Refused reason) = scenario_fault.Refused line reason
fault_at line line_fault.NoMemory = scenario_fault.NoMemory
