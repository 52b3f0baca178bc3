-- Words are one form at most.
use Rattle.std.proofs.Common.{◌≡◌, inl, inr, ℕ, Bool, false, ◌==◌, List, ◌∷◌, sym, ap, ◌∙◌}
use Rattle.std.specs.Prelude.{if◌then◌else◌}
use Rattle.scenario_cli.specs.declared.form.Form.{Form}
use Rattle.scenario_cli.specs.declared.form.Form.TheVariants.{Run, SerialRun, Check, Frame, Ring, Relay, Calls}
use Rattle.scenario_cli.specs.Words.{IsForm}

-- two words of which the second is `--serial`, by its third letter: 115 is `s`
abbrev is_serial : List (List ℕ) → Bool
is_serial ((first ∷ second ∷ third ∷ letters) ∷ others) = third == 115
is_serial other = false

-- the form, by the first two letters of its first word: 97 is `a`, 99 is `c`, 101 is `e`, 102 is `f` and 105 is `i`
abbrev named_by : ℕ → ℕ → List (List ℕ) → Form
named_by first second others = if first == 99 then (if second == 97 then Calls else Check) else (if first == 102 then Frame else (if second == 105 then Ring else (if second == 101 then Relay else (if is_serial others then SerialRun else Run))))

abbrev named : List (List ℕ) → Form
named ((first ∷ second ∷ letters) ∷ others) = named_by first second others
named other = Run

names : (f : Form) (words : List (List ℕ)) → IsForm f words → named words ≡ f
names Run words (inl is) = ap named is
names Run words (inr is) = ap named is
names SerialRun words is = ap named is
names Check words is = ap named is
names Frame words is = ap named is
names Ring words is = ap named is
names Relay words is = ap named is
names Calls words is = ap named is

pub one_form : (f g : Form) (words : List (List ℕ)) → IsForm f words → IsForm g words → f ≡ g
one_form f g words this that = sym (names f words this) ∙ names g words that
