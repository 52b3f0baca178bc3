-- What the words of the program ask for: a form, and which calls of a report it is to show. The first word names the form, and each behind
-- it is an option of the form, or a number that belongs to the option before it; behind `expect` stands the name of a file.
-- Source: docs/FORMATS.md, "Views of a report".
use Rattle.std.specs.Prelude.{ℕ, Bool, true, false, List, [], ◌∷◌, Option, None, Some, option_map}
use Rattle.board_model.specs.FileWords.{number_of}
use Rattle.board_model.specs.Numerals.{at_most}
use Rattle.mc_base.specs.Limits.{last_domain}
use Rattle.view_cli.specs.Words.{form_in, option_in}
use Rattle.view_cli.specs.declared.asked.Asked.{Asked}
use Rattle.view_cli.specs.declared.asked.Awaited.{Awaited}
use Rattle.view_cli.specs.declared.asked.Awaited.TheVariants as awaited
use Rattle.view_cli.specs.declared.asked.Counted.{Counted}
use Rattle.view_cli.specs.declared.asked.Counted.TheVariants as counted
use Rattle.view_cli.specs.declared.asked.Reading.{Reading}
use Rattle.view_cli.specs.declared.form.Form.{Form}
use Rattle.view_cli.specs.declared.form.Form.TheVariants as form
use Rattle.view_cli.specs.declared.form.OptionName.{OptionName}
use Rattle.view_cli.specs.declared.form.OptionName.TheVariants as option

-- the greatest number of a line, of a channel and of an event
abbrev pub most : ℕ
most = 4294967295

-- the number that a word writes, if it is at most this one
abbrev pub number_to : ℕ → List ℕ → Option ℕ
number_to n word = at_most n (number_of word)

-- what is asked for by some words, and what the next one is to be
abbrev pub reading : Asked → Awaited → Reading
reading a next = record { asked = a; awaited = next }

-- what follows the word of a form: the name of a file behind `expect`, and else an option
abbrev pub first_awaited : Form → Awaited
first_awaited form.Expect = awaited.File
first_awaited other = awaited.Option

abbrev pub unasked : Form → Reading
unasked f = reading (record { form = f; filter = record { domain = None; channel = None; line = None; refused = false }; together = false; check = false; from = None; to = None }) (first_awaited f)

-- ---- what numbers add: the calls of a domain or of a channel's frames are kept

abbrev pub of_domain : Asked → ℕ → Reading
of_domain a d = reading (record a { filter = record a.filter { domain = Some d } }) awaited.Option

abbrev pub of_channel : Asked → ℕ → ℕ → Reading
of_channel a d n = reading (record a { filter = record a.filter { channel = Some (record { domain = d; number = n }) } }) awaited.Option

-- the call of a line is kept, or the events are drawn from a number or up to it
abbrev pub of_number : Counted → Asked → ℕ → Reading
of_number counted.Line a k = reading (record a { filter = record a.filter { line = Some k } }) awaited.Option
of_number counted.From a k = reading (record a { from = Some k }) awaited.Option
of_number counted.To a k = reading (record a { to = Some k }) awaited.Option

-- ---- the words

-- behind an option
abbrev pub behind_option : Asked → OptionName → Reading
behind_option a option.Domain = reading a awaited.Domain
behind_option a option.Channel = reading a awaited.Channel
behind_option a option.Line = reading a (awaited.Number counted.Line)
behind_option a option.Refused = reading (record a { filter = record a.filter { refused = true } }) awaited.Option
behind_option a option.Check = reading (record a { check = true }) awaited.Option
behind_option a option.Together = reading (record a { together = true }) awaited.Option
behind_option a option.From = reading a (awaited.Number counted.From)
behind_option a option.To = reading a (awaited.Number counted.To)

-- behind a word that is to be this
abbrev pub word_as : Awaited → Asked → List ℕ → Option Reading
word_as awaited.Option a word = option_map (behind_option a) (option_in a.form word)
word_as awaited.File a word = Some (reading a awaited.Option)
word_as awaited.Domain a word = option_map (of_domain a) (number_to last_domain word)
word_as (awaited.Number c) a word = option_map (of_number c a) (number_to most word)
word_as awaited.Channel a word = option_map (λ d. reading a (awaited.ChannelOf d)) (number_to last_domain word)
word_as (awaited.ChannelOf d) a word = option_map (of_channel a d) (number_to most word)

abbrev pub words_read : Option Reading → List (List ℕ) → Option Reading
words_read None words = None
words_read (Some r) [] = Some r
words_read (Some r) (w ∷ ws) = words_read (word_as r.awaited r.asked w) ws

-- where no number is still to follow
abbrev pub asked_whole : Awaited → Asked → Option Asked
asked_whole awaited.Option a = Some a
asked_whole other a = None

abbrev pub whole : Option Reading → Option Asked
whole None = None
whole (Some r) = asked_whole r.awaited r.asked

abbrev pub asked_behind : Option Form → List (List ℕ) → Option Asked
asked_behind None words = None
asked_behind (Some f) words = whole (words_read (Some (unasked f)) words)

-- what words ask for, or nothing where they are those of no form
abbrev pub asked_by : List (List ℕ) → Option Asked
asked_by [] = None
asked_by (w ∷ ws) = asked_behind (form_in w) ws

-- the form that they name
abbrev pub form_asked : List (List ℕ) → Option Form
form_asked words = option_map (λ a. a.form) (asked_by words)

-- whether they ask for a report that is right
abbrev pub check_of : Option Asked → Bool
check_of None = false
check_of (Some a) = a.check

abbrev pub asks_for_check : List (List ℕ) → Bool
asks_for_check words = check_of (asked_by words)
