-- The words of the program: its forms, and the options that each of them takes.
-- Source: docs/FORMATS.md, "Views of a report".
use Rattle.std.specs.Prelude.{ℕ, List, [], ◌∷◌, map, find, codes, string_bytes, String, Option}
use Rattle.std.specs.Global.{Global}
use Rattle.std.specs.Str.{bytes_eq}
use Rattle.view_cli.specs.declared.form.Form.{Form}
use Rattle.view_cli.specs.declared.form.Form.TheVariants as form
use Rattle.view_cli.specs.declared.form.OptionName.{OptionName}
use Rattle.view_cli.specs.declared.form.OptionName.TheVariants as option

-- the words as bytes
abbrev pub words_of : List (String Global) → List (List ℕ)
words_of words = map (λ w. string_bytes w) words

-- ---- the forms

abbrev pub forms : List Form
forms = form.Refused ∷ form.Text ∷ form.Expect ∷ form.Sequence ∷ form.Lanes ∷ form.Trace ∷ []

abbrev pub word_of : Form → List ℕ
word_of form.Refused = codes "refused"
word_of form.Text = codes "text"
word_of form.Expect = codes "expect"
word_of form.Sequence = codes "sequence"
word_of form.Lanes = codes "lanes"
word_of form.Trace = codes "trace"

abbrev pub options_of : Form → List OptionName
options_of form.Refused = option.Check ∷ []
options_of form.Expect = option.Check ∷ []
options_of form.Lanes = option.Check ∷ []
options_of form.Trace = option.Check ∷ []
options_of form.Sequence = option.From ∷ option.To ∷ option.Check ∷ []
options_of form.Text = option.Domain ∷ option.Channel ∷ option.Line ∷ option.Refused ∷ option.Together ∷ option.Check ∷ []

abbrev pub form_in : List ℕ → Option Form
form_in word = find (λ f. bytes_eq (word_of f) word) forms

-- ---- the options

abbrev pub text_of_option : OptionName → List ℕ
text_of_option option.Domain = codes "--domain"
text_of_option option.Channel = codes "--channel"
text_of_option option.Line = codes "--line"
text_of_option option.Refused = codes "--refused"
text_of_option option.Together = codes "--together"
text_of_option option.Check = codes "--check"
text_of_option option.From = codes "--from"
text_of_option option.To = codes "--to"

-- the option of this word, where the form takes it
abbrev pub option_in : Form → List ℕ → Option OptionName
option_in f word = find (λ o. bytes_eq (text_of_option o) word) (options_of f)

-- what is written where the words are those of no form
abbrev pub usage_text : List ℕ
usage_text = codes "usage: mcview refused | text [--domain D] [--channel D N] [--line K] [--refused] [--together] | expect FILE | sequence [--from K] [--to K] | lanes | trace, each [--check]\n"
