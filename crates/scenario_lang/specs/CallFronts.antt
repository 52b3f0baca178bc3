-- The pieces in which the line of a call is put: what stands before its words, and its arguments.
-- Source: docs/FORMATS.md, "Scenario files".
use Rattle.std.specs.Prelude.{ℕ, List, [], ◌∷◌, ◌++◌, map, codes, decimal, Option, None, Some}
use Rattle.arrayvec.specs.ArrayVec.{ArrayVec}
use Rattle.mc_base.specs.Text.{hex_text}
use Rattle.board_model.specs.Grammar.{name_text, kind_text, with_commas}
use Rattle.scenario_lang.specs.declared.canonical.Argument.{Argument}
use Rattle.scenario_lang.specs.declared.canonical.Argument.TheVariants.{Number, Name, Content, ChannelKind, Label, Labels}

-- what stands before a call for its label
abbrev pub label_front : Option (List ℕ) → List ℕ
label_front None = []
label_front (Some label) = label ++ codes " = "

-- and what stands there for its tries
abbrev pub tries_front : Option ℕ → List ℕ
tries_front None = []
tries_front (Some tries) = codes "try " ++ (decimal tries ++ (32 ∷ []))

-- an argument as its word
abbrev pub argument_word : Argument → List ℕ
argument_word (Number n) = decimal n
argument_word (Name name) = name_text name
argument_word (Content bytes) = hex_text bytes.now
argument_word (ChannelKind kind) = kind_text kind
argument_word (Label label) = label.now
argument_word (Labels labels) = with_commas (map (λ l. l.items) labels.now)

-- the words of those that there are
abbrev pub words_in : List (Option Argument) → List (List ℕ)
words_in [] = []
words_in (None ∷ others) = words_in others
words_in (Some argument ∷ others) = argument_word argument ∷ words_in others

-- and one with a blank before it
abbrev pub blank_then : Option Argument → List ℕ
blank_then None = []
blank_then (Some argument) = 32 ∷ argument_word argument

-- a label of several, after a comma: 44 is the comma
abbrev pub comma_then : ArrayVec ℕ → List ℕ
comma_then label = 44 ∷ label.items
