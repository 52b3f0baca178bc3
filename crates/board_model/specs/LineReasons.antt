-- The reasons for which a line is refused, in their order. They depend on the scenario of the lines above.
-- Source: docs/FORMATS.md, "Scenario files", the list of reasons. The first that holds counts.
use Rattle.std.specs.Prelude.{ℕ, Bool, true, false, not, ◌&&◌, ◌||◌, List, [], ◌∷◌, ◌++◌, length, bytes_eq, nat_le, nat_lt, ◌==◌, Option, None, Some, is_none, if◌then◌else◌}
use Rattle.std.specs.List.{list_all, list_any}
use Rattle.mc_base.specs.Fault.{fault}
use Rattle.board_model.specs.declared.scenario.LinkLine.{LinkLine}
use Rattle.board_model.specs.declared.scenario.Call.{Call}
use Rattle.board_model.specs.declared.scenario.Call.TheVariants.{Raw}
use Rattle.board_model.specs.declared.scenario.CallLine.{CallLine}
use Rattle.board_model.specs.declared.scenario.Scenario.{Scenario}
use Rattle.board_model.specs.declared.reason.LineReason.{LineReason}
use Rattle.board_model.specs.declared.reason.LineReason.TheVariants.{Byte, Long, Form, Number, Bytes, Order, Domain, Link, Label, Sound}
use Rattle.board_model.specs.Scenario.{label_in}
use Rattle.board_model.specs.FileLines.{words_of}
use Rattle.board_model.specs.FileWords.{number, is_number, are_bytes}
use Rattle.board_model.specs.Forms.{form, NamedLabel, arguments_labels, LineParts, call_parts, parts_of, numerals, contents, Statement, says_none, says_domain, says_link, says_call, statement}

-- 0x20 to 0x7e, and the tab
abbrev pub is_text_byte : ℕ → Bool
is_text_byte b = (nat_le 32 b && nat_le b 126) || b == 9

abbrev pub is_empty : {A : Type 0} → List A → Bool
is_empty [] = true
is_empty (x ∷ xs) = false

-- a domain line after a link or call line, or a link line after a call line
abbrev pub is_late : Scenario → Statement → Bool
is_late above (says_domain d) = not (is_empty above.links && is_empty above.calls)
is_late above (says_link l) = not (is_empty above.calls)
is_late above other = false

abbrev pub is_domain : Scenario → ℕ → Bool
is_domain above d = list_any (λ line. line.domain == d) above.domains

-- a domain that is declared twice, or that a link or call line names and no line above declares
abbrev pub has_wrong_domain : Scenario → Statement → Bool
has_wrong_domain above says_none = false
has_wrong_domain above (says_domain d) = is_domain above d.domain
has_wrong_domain above (says_link l) = not (is_domain above l.driver && is_domain above l.device)
has_wrong_domain above (says_call c) = not (is_domain above c.domain)

-- two links of one pair, whichever of the two is the driver
abbrev pub is_same_pair : LinkLine → LinkLine → Bool
is_same_pair l m = (l.driver == m.driver && l.device == m.device) || (l.driver == m.device && l.device == m.driver)

abbrev pub is_link_size : ℕ → Bool
is_link_size size = list_any (λ n. size == n) (2 ∷ 4 ∷ 8 ∷ 16 ∷ 32 ∷ 64 ∷ 128 ∷ 256 ∷ [])

-- a domain linked to itself, a pair linked twice, or a size that is no power of two from 2 to 256
abbrev pub has_wrong_link : Scenario → Statement → Bool
has_wrong_link above (says_link l) = l.driver == l.device || (list_any (is_same_pair l) above.links || not (is_link_size l.size))
has_wrong_link above other = false

abbrev pub is_label_in : List ℕ → Option (List ℕ) → Bool
is_label_in label None = false
is_label_in label (Some told) = bytes_eq label told

-- a line of this domain introduces the label
abbrev pub tells : ℕ → List ℕ → CallLine → Bool
tells d label c = c.domain == d && is_label_in label (label_in c)

abbrev pub is_told : Scenario → ℕ → List ℕ → Bool
is_told above d label = list_any (tells d label) above.calls

-- some line above introduces the label, by one of these calls
abbrev pub is_told_of : (Call → Bool) → Scenario → ℕ → List ℕ → Bool
is_told_of may_be_of above d label = list_any (λ c. tells d label c && may_be_of c.call) above.calls

-- a label that is introduced where the form has none, or twice in its domain
abbrev pub tells_wrong_label : Scenario → Bool → ℕ → Option (List ℕ) → Bool
tells_wrong_label above labelled d None = false
tells_wrong_label above labelled d (Some label) = not labelled || is_told above d label

-- a label that no line of the same domain above introduces, or by a call of the wrong kind only
abbrev pub names_wrong_label : Scenario → ℕ → List NamedLabel → Bool
names_wrong_label above d labels = list_any (λ l. not (is_told_of l.may_be_of above d l.word)) labels

abbrev pub has_wrong_label : Scenario → LineParts → Bool
has_wrong_label above (call_parts c) =
    tells_wrong_label above (form c.callee).labelled (number c.domain) c.told || names_wrong_label above (number c.domain) (arguments_labels (form c.callee).arguments c.arguments)
has_wrong_label above parts = false

-- a raw frame without a fault
abbrev pub puts_sound : Call → Bool
puts_sound (Raw domain bytes) = is_none (fault bytes)
puts_sound call = false

abbrev pub has_sound_frame : Statement → Bool
has_sound_frame (says_call c) = puts_sound c.call
has_sound_frame other = false

-- a reason, and whether it holds
pub record LineTest : Type 0 where
  pub reason : LineReason
  pub holds : Bool

abbrev pub test : LineReason → Bool → LineTest
test reason holds = record { reason = reason; holds = holds }

-- what is asked of the parts of a line that fits a form
abbrev pub of_parts : (LineParts → Bool) → Option LineParts → Bool
of_parts p None = false
of_parts p (Some parts) = p parts

-- the reasons of the words
abbrev pub word_reasons : Scenario → Option LineParts → List LineTest
word_reasons above parts =
    test Form (is_none parts)
    ∷ test Number (of_parts (λ p. not (list_all is_number (numerals p))) parts)
    ∷ test Bytes (of_parts (λ p. not (list_all are_bytes (contents p))) parts)
    ∷ test Order (of_parts (λ p. is_late above (statement p)) parts)
    ∷ test Domain (of_parts (λ p. has_wrong_domain above (statement p)) parts)
    ∷ test Link (of_parts (λ p. has_wrong_link above (statement p)) parts)
    ∷ test Label (of_parts (has_wrong_label above) parts)
    ∷ test Sound (of_parts (λ p. has_sound_frame (statement p)) parts)
    ∷ []

-- all reasons, those of the bytes first
abbrev pub reasons : Scenario → List ℕ → List LineTest
reasons above line =
    test Byte (not (list_all is_text_byte line))
    ∷ test Long (nat_lt 20000 (length line))
    ∷ word_reasons above (parts_of (words_of line))

abbrev pub first_reason : List LineTest → Option LineReason
first_reason [] = None
first_reason (t ∷ ts) = if t.holds then Some t.reason else first_reason ts

-- why a line is refused, if it is
abbrev pub line_reason : Scenario → List ℕ → Option LineReason
line_reason above line = first_reason (reasons above line)

-- the scenario with one line more
abbrev pub with_statement : Scenario → Statement → Scenario
with_statement above says_none = above
with_statement above (says_domain d) = record above { domains = above.domains ++ (d ∷ []) }
with_statement above (says_link l) = record above { links = above.links ++ (l ∷ []) }
with_statement above (says_call c) = record above { calls = above.calls ++ (c ∷ []) }

abbrev pub with_parts : Scenario → Option LineParts → Scenario
with_parts above None = above
with_parts above (Some parts) = with_statement above (statement parts)
