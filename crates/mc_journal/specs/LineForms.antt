-- The forms of a line: the word that each begins with, and the line that a text is.
-- Source: docs/FORMATS.md, "Journal text".
use Rattle.std.specs.Prelude.{ℕ, List, [], ◌∷◌, ◌++◌, codes, decimal, find, Option, None, Some, if◌then◌else◌}
use Rattle.std.specs.Str.{bytes_eq}
use Rattle.board_model.specs.Journal.{Line, turn_line}
use Rattle.mc_journal.specs.declared.forms.Form.{Form}
use Rattle.mc_journal.specs.declared.forms.Form.TheVariants as form
use Rattle.mc_journal.specs.Readers.{cut_at, rest_in}

abbrev pub form_text : Form → List ℕ
form_text form.Idle = codes "idle"
form_text form.Again = codes "again"
form_text form.Spin = codes "spin"
form_text form.Turn = codes "turn"
form_text form.Back = codes "back"
form_text form.Put = codes "put"
form_text form.See = codes "see"
form_text form.Take = codes "take"
form_text form.Wait = codes "wait"
form_text form.Call = codes "call"

abbrev pub forms : List Form
forms = form.Take ∷ form.Put ∷ form.Call ∷ form.See ∷ form.Back ∷ form.Turn ∷ form.Idle ∷ form.Spin ∷ form.Again ∷ form.Wait ∷ []

abbrev pub form_in : List ℕ → Option Form
form_in word = find (λ f. bytes_eq (form_text f) word) forms

abbrev pub by_form : List ℕ → Option Form → Option Line
by_form rest None = None
by_form rest (Some f) = rest_in f rest

abbrev pub line_by : List ℕ → Option (List ℕ × List ℕ) → Option Line
line_by text None = if bytes_eq text (form_text form.Turn) then Some turn_line else None
line_by text (Some x) = by_form x.1 (form_in x.0)

-- the place of an answer, with the blank behind it
abbrev pub place_front : Option ℕ → List ℕ
place_front None = []
place_front (Some place) = decimal place ++ (32 ∷ [])

-- the line that a text is, without its newline
abbrev pub line_in : List ℕ → Option Line
line_in text = line_by text (cut_at 32 text)
