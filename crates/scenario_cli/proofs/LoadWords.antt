-- Words of a load: their number, and that they are no other form.
use Rattle.std.proofs.Common.{◌≡◌, inl, inr, ℕ, ◌≤◌, List, [], ◌∷◌, ◌++◌, length, Option, Some, None, sym, ap, ap₂, ◌∙◌, arith, append_assoc}
use Rattle.std.specs.Prelude.{IfSome, codes, decimal, string_bytes, String}
use Rattle.std.specs.Global.{Global}
use Rattle.std.proofs.lemmas.List.{length-map}
use Rattle.board_model.specs.FileWords.{number, number_of}
use Rattle.board_model.specs.Numerals.{at_most}
use Rattle.board_model.specs.LoadBoard.{load_limit}
use Rattle.board_model.specs.Grammar.{line_of}
use Rattle.board_model.specs.Report.{ending}
use Rattle.board_model.proofs.WordDecimals.{number-decimal, decimal-is, decimal-read}
use Rattle.scenario_cli.specs.declared.form.Form.{Form}
use Rattle.scenario_cli.specs.declared.form.Form.TheVariants.{Run, SerialRun, Check, Frame, Ring, Relay, Calls}
use Rattle.scenario_cli.specs.Words.{words_of, IsForm, IsNoLoad, IsNoForm}
use Rattle.scenario_cli.specs.LoadText.{IsLoad}

-- ---- the number

-- a word that is read as a number is its decimal
pub number-word : (word : List ℕ) (n : ℕ) → at_most 100000 (number_of word) ≡ Some n → word ≡ decimal n
number-word word n read = sym (decimal-is 100000 n word (omega arith) read)

-- and a decimal is read
pub word-number : (word : List ℕ) (n : ℕ) → n ≤ load_limit → word ≡ decimal n → at_most 100000 (number_of word) ≡ Some n
word-number word n few is = ap (λ (w : List ℕ). at_most 100000 (number_of w)) is ∙ decimal-read 100000 n few (omega arith)

abbrev second_word : List (List ℕ) → List ℕ
second_word [] = []
second_word (w ∷ []) = []
second_word (w ∷ v ∷ vs) = v

pub some_is : (m n : ℕ) → ◌≡◌ {A = Option ℕ} (Some m) (Some n) → m ≡ n
some_is m n e = cc

-- words tell one number of packets at most
pub one_load : (n m : ℕ) (words : List (List ℕ)) → IsLoad n words → IsLoad m words → n ≡ m
one_load n m words this that =
    let small = this.few in
    let few = that.few in
    let digits : decimal n ≡ decimal m = ap second_word (sym this.told ∙ that.told) in
    sym (number-decimal n (omega (arith, small))) ∙ ap number digits ∙ number-decimal m (omega (arith, few))

-- ---- the words

two_words : (form : Form) (digits : List ℕ) (words : List (List ℕ)) → IsForm form words → words ≡ codes "load" ∷ digits ∷ [] → ⊥
two_words Run digits words (inl form) told = let same = sym form ∙ told in cc
two_words Run digits words (inr form) told = let same = sym form ∙ told in cc
two_words SerialRun digits words form told = let same = sym form ∙ told in cc
two_words Check digits words form told = let same = sym form ∙ told in cc
two_words Frame digits words form told = let same = sym form ∙ told in cc
two_words Ring digits words form told = let same = sym form ∙ told in cc
two_words Relay digits words form told = let same = sym form ∙ told in cc
two_words Calls digits words form told = let same = sym form ∙ told in cc

-- the words of a load are those of no form with an input
pub form_no_load : (form : Form) (packets : ℕ) (words : List (List ℕ)) → IsForm form words → IsLoad packets words → ⊥
form_no_load form packets words is load = two_words form (decimal packets) words is load.told

abbrev first_word : List (List ℕ) → List ℕ
first_word [] = []
first_word (w ∷ ws) = w

-- two words, of which the second is a number of packets
pub load_words : (first second : List ℕ) (r : Option ℕ) → first ≡ codes "load" → IfSome r (λ n. second ≡ decimal n) → IfSome r (λ n. 1 ≤ n) → IfSome r (λ n. n ≤ load_limit) → IfSome r (λ n. IsLoad n (first ∷ second ∷ []))
load_words first second None load is some few = tt
load_words first second (Some n) load is some few = record { told = ap₂ (λ (v : List ℕ) (w : List ℕ). v ∷ w ∷ []) load is; some = some; few = few }

-- or is none
pub no_load_number : (first second : List ℕ) → ((n : ℕ) → 1 ≤ n → n ≤ load_limit → second ≡ decimal n → ⊥) → IsNoLoad (first ∷ second ∷ [])
no_load_number first second none n load = none n load.some load.few (ap second_word load.told)

-- or the first is another
pub no_load_word : (first second : List ℕ) → (first ≡ codes "load" → ⊥) → IsNoLoad (first ∷ second ∷ [])
no_load_word first second other n load = other (ap first_word load.told)

-- or there are not two of them
pub no_load_many : (words : List (String Global)) → (length words ≡ 2 → ⊥) → IsNoLoad (words_of words)
no_load_many words other n load = other (sym (length-map words (λ (w : String Global). string_bytes w)) ∙ ap length load.told)

-- and words of such a form are not those of no form
pub form_no_usage : (form : Form) (words : List (List ℕ)) → IsForm form words → IsNoForm words → ⊥
form_no_usage form words is none = none.no_input form is

-- ---- the text

pub load-pieces : (n : ℕ) (summary : List ℕ) → codes "load " ++ (decimal n ++ (codes "\n" ++ (summary ++ ending))) ≡ line_of (codes "load" ∷ decimal n ∷ []) ++ (summary ++ ending)
load-pieces n summary = ap (λ (t : List ℕ). codes "load " ++ t) (sym (append_assoc (decimal n) (10 ∷ []) (summary ++ ending)))
