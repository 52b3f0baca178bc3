-- The words of the program, its fixed texts and its limits.
-- Source: docs/FORMATS.md, "Statuses".
use Rattle.std.specs.Prelude.{◌≡◌, ◌⊎◌, ℕ, List, [], ◌∷◌, map, codes, string_bytes, String}
use Rattle.std.specs.Global.{Global}
use Rattle.board_model.specs.Report.{Mode, serial, threads}
use Rattle.scenario_cli.specs.declared.form.Form.{Form}
use Rattle.scenario_cli.specs.declared.form.Form.TheVariants.{Run, SerialRun, Check, Frame, Ring, Relay, Calls}
use Rattle.scenario_cli.specs.LoadText.{IsLoad}

-- the words as bytes
abbrev pub words_of : List (String Global) → List (List ℕ)
words_of words = map (λ w. string_bytes w) words

-- the words of each form that reads an input. Those of `load N` stand in LoadText
abbrev pub form_words : Form → List (List ℕ)
form_words Run = codes "run" ∷ []
form_words SerialRun = codes "run" ∷ codes "--serial" ∷ []
form_words Check = codes "check" ∷ []
form_words Frame = codes "frame" ∷ []
form_words Ring = codes "ring" ∷ []
form_words Relay = codes "relay" ∷ []
form_words Calls = codes "calls" ∷ []

-- the words of a run on threads whose domains sleep where they wait without end
abbrev pub IsBellRun : List (List ℕ) → Type 0
IsBellRun words = words ≡ codes "run" ∷ codes "--bells" ∷ []

-- the words are those of a form. Of `run --bells` the same is promised as of `run`, so both are the form Run
abbrev pub IsForm : Form → List (List ℕ) → Type 0
IsForm Run words = (words ≡ form_words Run) ⊎ IsBellRun words
IsForm form words = words ≡ form_words form

-- the form of a run in this mode
abbrev pub run_in : Mode → Form
run_in serial = SerialRun
run_in threads = Run

-- the words are those of one of these forms
abbrev pub IsOneOfForms : List Form → List (List ℕ) → Type 0
IsOneOfForms [] words = ⊥
IsOneOfForms (f ∷ fs) words = IsForm f words ⊎ IsOneOfForms fs words

-- the words are those of no form that reads an input
abbrev pub IsNoInputForm : List (List ℕ) → Type 0
IsNoInputForm words = (form : Form) → IsForm form words → ⊥

abbrev pub IsNoLoad : List (List ℕ) → Type 0
IsNoLoad words = (packets : ℕ) → IsLoad packets words → ⊥

-- the words are those of no form
pub record IsNoForm (words : List (List ℕ)) : Type 0 where
  pub no_input : IsNoInputForm words
  pub no_load : IsNoLoad words

-- what is written where the words are none of the forms
abbrev pub usage_text : List ℕ
usage_text = codes "usage: mcrun run | run --serial | check | frame | ring | load N | run --bells | relay | calls\n"

-- the most bytes of an input: of a scenario, of the text of a frame, of an image, and of the texts of a relay and of numbered calls; and of a
-- report
abbrev pub input_limit : ℕ
input_limit = 8388608

abbrev pub report_limit : ℕ
report_limit = 268435456

abbrev pub limit_of : Form → ℕ
limit_of Check = report_limit
limit_of other = input_limit

-- the status is one of these
abbrev pub IsOneOf : List ℕ → ℕ → Type 0
IsOneOf [] status = ⊥
IsOneOf (s ∷ ss) status = (status ≡ s) ⊎ IsOneOf ss status
