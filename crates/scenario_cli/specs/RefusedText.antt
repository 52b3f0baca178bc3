-- What is written where the input tells no scenario or no relay: the first line that is refused, and its first reason.
-- Source: docs/FORMATS.md, "Statuses", "Scenario files" and "Text of a relay".
use Rattle.std.specs.Prelude.{ℕ, List, codes}
use Rattle.actor_lang.specs.declared.fault.InputReason.{InputReason}
use Rattle.actor_lang.specs.declared.fault.InputReason.TheVariants as input_reason
use Rattle.actor_lang.specs.InputFaults.{RefusedInput}
use Rattle.board_model.specs.declared.reason.LineReason.{LineReason}
use Rattle.board_model.specs.declared.reason.LineReason.TheVariants.{Byte, Long, Form, Number, Bytes, Order, Domain, Link, Label, Sound}
use Rattle.board_model.specs.Language.{RefusedLine}
use Rattle.scenario_cli.specs.PlaceText.{place_line}

abbrev pub line_reason_text : LineReason → List ℕ
line_reason_text Byte = codes "byte"
line_reason_text Long = codes "long"
line_reason_text Form = codes "form"
line_reason_text Number = codes "number"
line_reason_text Bytes = codes "bytes"
line_reason_text Order = codes "order"
line_reason_text Domain = codes "domain"
line_reason_text Link = codes "link"
line_reason_text Label = codes "label"
line_reason_text Sound = codes "sound"

abbrev pub input_reason_text : InputReason → List ℕ
input_reason_text input_reason.Form = codes "form"
input_reason_text input_reason.Number = codes "number"
input_reason_text input_reason.Many = codes "many"
input_reason_text input_reason.Bytes = codes "bytes"

abbrev pub refused_text : ℕ → List ℕ → List ℕ
refused_text line reason = place_line (codes "refused") line reason

abbrev pub refusal_text : RefusedLine → List ℕ
refusal_text r = refused_text r.line (line_reason_text r.reason)

abbrev pub input_refusal_text : RefusedInput → List ℕ
input_refusal_text r = refused_text r.line (input_reason_text r.reason)
