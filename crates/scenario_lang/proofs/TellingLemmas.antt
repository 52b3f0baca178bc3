-- What the readers tell of a line, and of the lines of a file one after the other, is what the table of reasons says.
use Rattle.std.proofs.Common.{◌≡◌, ℕ, ◌+◌, length, Bool, true, false, List, [], ◌∷◌, Option, Some, None, refl, sym, ap, ◌∙◌, inl, inr}
use Rattle.std.specs.Prelude.{codes, bytes_eq, nat_lt, Result, Ok, Err}
use Rattle.std.specs.List.{list_all}
use Rattle.board_model.specs.declared.scenario.Scenario.{Scenario}
use Rattle.board_model.specs.declared.scenario.CallLine.{CallLine}
use Rattle.board_model.specs.declared.reason.LineReason.{LineReason}
use Rattle.board_model.specs.FileLines.{begins_with, words_of, parts_at}
use Rattle.board_model.specs.FileWords.{numeral, number, is_number, are_bytes, is_label}
use Rattle.board_model.specs.Forms.{form, callee_of, CallParts, call_parts, numerals, contents, arguments_numerals, arguments_contents, arguments_labels, call_line, call_made, told_fits, tries_fit, arguments_fit, callee_form, call_form, told_at, tries_at, parts_of}
use Rattle.board_model.specs.LineReasons.{is_domain, is_text_byte, tells_wrong_label, names_wrong_label, puts_sound, line_reason, with_parts}
use Rattle.board_model.specs.Language.{RefusedLine, refused, unless_refused, told_from}
use Rattle.board_model.specs.declared.form.Callee.{Callee}
use Rattle.scenario_lang.specs.declared.fault.LineFault.{LineFault}
use Rattle.scenario_lang.specs.declared.fault.LineFault.TheVariants as line_fault
use Rattle.scenario_lang.specs.Refused.{IfRefused}
use Rattle.scenario_lang.specs.Fronts.{two_parts}
use Rattle.scenario_lang.specs.Reading.{◌>>=◌, Fails, or_form, next_word, if_right, parts_in, call_line_in}
use Rattle.scenario_lang.specs.Telling.{tell_call, call_told, words_told, line_told, answered, parts_told, fault_at}
use Rattle.scenario_lang.proofs.Options.{cases_bool, cases_option}
use Rattle.scenario_lang.proofs.CallLemmas.{checked, call-checked}
use Rattle.scenario_lang.proofs.ShapeLemmas.{domain_bridge, link_bridge}

abbrev parts : (d n : List ℕ) → (told tries : Option (List ℕ)) → Callee → List (List ℕ) → CallParts
parts d n told tries c args = record { domain = d; node = n; told = told; tries = tries; callee = c; arguments = args }

told_some : (labelled : Bool) (word : List ℕ) → told_fits labelled (Some word) ≡ is_label word
told_some true word = refl
told_some false word = refl

line_checked : (d n : List ℕ) (told tries : Option (List ℕ)) (c : Callee) (args : List (List ℕ)) → told_fits (form c).labelled told ≡ true → arguments_fit (form c).arguments args ≡ true → call_line_in (parts d n told tries c args) ≡ checked (numerals (call_parts (parts d n told tries c args))) (contents (call_parts (parts d n told tries c args))) (call_line (parts d n told tries c args))
unfolding call_line_in
line_checked d n None None c args right fit =
    elim (cases_bool (is_number (numeral 0 7 d))) [
      | inr bad ↦ rw bad refl
      | inl one ↦ elim (cases_bool (is_number (numeral 0 15 n))) [
        | inr bad ↦ rw (one, bad) refl
        | inl two ↦ elim (cases_bool (list_all is_number (arguments_numerals (form c).arguments 0 args))) [
          | inr bad ↦ rw (one, two, call-checked c args fit, bad) refl
          | inl numbers ↦ elim (cases_bool (list_all are_bytes (arguments_contents (form c).arguments args))) [ inl h ↦ rw (one, two, call-checked c args fit, numbers, h) refl | inr h ↦ rw (one, two, call-checked c args fit, numbers, h) refl ]
        ]
      ]
    ]
line_checked d n None (Some k) c args right fit =
    elim (cases_bool (is_number (numeral 0 7 d))) [
      | inr bad ↦ rw bad refl
      | inl one ↦ elim (cases_bool (is_number (numeral 0 15 n))) [
        | inr bad ↦ rw (one, bad) refl
        | inl two ↦ elim (cases_bool (is_number (numeral 1 4294967295 k))) [
          | inr bad ↦ rw (one, two, bad) refl
          | inl tried ↦ elim (cases_bool (list_all is_number (arguments_numerals (form c).arguments 0 args))) [
            | inr bad ↦ rw (one, two, tried, call-checked c args fit, bad) refl
            | inl numbers ↦ elim (cases_bool (list_all are_bytes (arguments_contents (form c).arguments args))) [ inl h ↦ rw (one, two, tried, call-checked c args fit, numbers, h) refl | inr h ↦ rw (one, two, tried, call-checked c args fit, numbers, h) refl ]
          ]
        ]
      ]
    ]
line_checked d n (Some l) None c args right fit =
    let here : is_label l ≡ true = sym (told_some (form c).labelled l) ∙ right in
    elim (cases_bool (is_number (numeral 0 7 d))) [
      | inr bad ↦ rw bad refl
      | inl one ↦ elim (cases_bool (is_number (numeral 0 15 n))) [
        | inr bad ↦ rw (one, bad) refl
        | inl two ↦ elim (cases_bool (list_all is_number (arguments_numerals (form c).arguments 0 args))) [
          | inr bad ↦ rw (one, two, here, call-checked c args fit, bad) refl
          | inl numbers ↦ elim (cases_bool (list_all are_bytes (arguments_contents (form c).arguments args))) [ inl h ↦ rw (one, two, here, call-checked c args fit, numbers, h) refl | inr h ↦ rw (one, two, here, call-checked c args fit, numbers, h) refl ]
        ]
      ]
    ]
line_checked d n (Some l) (Some k) c args right fit =
    let here : is_label l ≡ true = sym (told_some (form c).labelled l) ∙ right in
    elim (cases_bool (is_number (numeral 0 7 d))) [
      | inr bad ↦ rw bad refl
      | inl one ↦ elim (cases_bool (is_number (numeral 0 15 n))) [
        | inr bad ↦ rw (one, bad) refl
        | inl two ↦ elim (cases_bool (is_number (numeral 1 4294967295 k))) [
          | inr bad ↦ rw (one, two, bad) refl
          | inl tried ↦ elim (cases_bool (list_all is_number (arguments_numerals (form c).arguments 0 args))) [
            | inr bad ↦ rw (one, two, tried, here, call-checked c args fit, bad) refl
            | inl numbers ↦ elim (cases_bool (list_all are_bytes (arguments_contents (form c).arguments args))) [ inl h ↦ rw (one, two, tried, here, call-checked c args fit, numbers, h) refl | inr h ↦ rw (one, two, tried, here, call-checked c args fit, numbers, h) refl ]
          ]
        ]
      ]
    ]

checked_told : (above : Scenario) (d n : List ℕ) (told tries : Option (List ℕ)) (c : Callee) (args : List (List ℕ)) → arguments_fit (form c).arguments args ≡ true → (checked (numerals (call_parts (parts d n told tries c args))) (contents (call_parts (parts d n told tries c args))) (call_line (parts d n told tries c args)) >>= tell_call above (parts d n told tries c args)) ≡ parts_told above (Some (call_parts (parts d n told tries c args)))
checked_told above d n told tries c args fit = elim (cases_bool (list_all is_number (numerals (call_parts (parts d n told tries c args))))) [
  | inr bad ↦ rw bad refl
  | inl numbers ↦ elim (cases_bool (list_all are_bytes (contents (call_parts (parts d n told tries c args))))) [
    | inr bad ↦ rw (numbers, bad) refl
    | inl some_bytes ↦ elim (cases_bool (is_domain above (number d))) [
      | inr bad ↦ rw (numbers, some_bytes, bad) refl
      | inl known ↦ elim (cases_bool (tells_wrong_label above (form c).labelled (number d) told)) [
        | inl bad ↦ rw (numbers, some_bytes, known, bad) refl
        | inr right ↦ elim (cases_bool (names_wrong_label above (number d) (arguments_labels (form c).arguments args))) [
          | inl bad ↦ rw (numbers, some_bytes, known, right, bad) refl
          | inr good ↦ elim (cases_bool (puts_sound (call_made c args))) [
            | inl bad ↦ rw (numbers, some_bytes, known, right, good, bad) refl
            | inr faulty ↦ rw (numbers, some_bytes, known, right, good, faulty) refl
          ]
        ]
      ]
    ]
  ]
]

-- the words after label and tries
abbrev after_tries : Scenario → (d n : List ℕ) → (told tries : Option (List ℕ)) → List (List ℕ) → Result Scenario LineReason
after_tries above d n told tries words = (next_word words >>= λ name. or_form (callee_of name.0) >>= λ c. if_right (parts d n told tries c name.1)) >>= λ p. call_line_in p >>= λ line. tell_call above p line

callee_bridge : (above : Scenario) (d n : List ℕ) (told tries : Option (List ℕ)) (words : List (List ℕ)) → after_tries above d n told tries words ≡ parts_told above (callee_form d n told tries words)
callee_bridge above d n told tries [] = refl
callee_bridge above d n told tries (word ∷ args) = elim (cases_option (callee_of word)) [
  | inl unknown ↦ rw unknown refl
  | inr known ↦
      let c : Callee = known.0 in
      let p : CallParts = parts d n told tries c args in
      elim (cases_bool (told_fits (form c).labelled told)) [
        | inr bad ↦ rw (known.1, bad) refl
        | inl right ↦ elim (cases_bool (tries_fit (form c).tried tries)) [
          | inr bad ↦ rw (known.1, right, bad) refl
          | inl tried ↦ elim (cases_bool (arguments_fit (form c).arguments args)) [
            | inr bad ↦ rw (known.1, right, tried, bad) refl
            | inl fit ↦ rw (known.1, right, tried, fit) (ap (λ (r : Result CallLine LineReason). r >>= tell_call above p) (line_checked d n told tries c args right fit) ∙ checked_told above d n told tries c args fit)
          ]
        ]
      ]
]

caller_bridge : (above : Scenario) (caller words : List (List ℕ)) → ((or_form (two_parts caller) >>= λ who. next_word (tries_at (told_at words).1).1 >>= λ name. or_form (callee_of name.0) >>= λ c. if_right (parts who.0 who.1 (told_at words).0 (tries_at (told_at words).1).0 c name.1)) >>= λ p. call_line_in p >>= λ line. tell_call above p line) ≡ parts_told above (call_form caller words)
caller_bridge above [] words = refl
caller_bridge above (d ∷ []) words = refl
caller_bridge above (d ∷ n ∷ []) words = callee_bridge above d n (told_at words).0 (tries_at (told_at words).1).0 (tries_at (told_at words).1).1
caller_bridge above (d ∷ n ∷ e ∷ es) words = refl

call_bridge : (above : Scenario) (first : List ℕ) (words : List (List ℕ)) → call_told above first words ≡ parts_told above (call_form (parts_at 46 first) words)
unfolding call_told parts_in
call_bridge above first words = caller_bridge above (parts_at 46 first) words

words_bridge : (above : Scenario) (words : List (List ℕ)) → words_told above words ≡ parts_told above (parts_of words)
words_bridge above [] = refl
words_bridge above (w ∷ ws) = elim (cases_bool (begins_with 35 w)) [
  | inl comment ↦ rw comment refl
  | inr said ↦ elim (cases_bool (bytes_eq w (codes "domain"))) [
    | inl domain ↦ rw (said, domain) (domain_bridge above ws)
    | inr not_domain ↦ elim (cases_bool (bytes_eq w (codes "link"))) [
      | inl link ↦ rw (said, not_domain, link) (link_bridge above ws)
      | inr not_link ↦ rw (said, not_domain, not_link) (call_bridge above w ws)
    ]
  ]
]

line_bridge : (above : Scenario) (line : List ℕ) → line_told above line ≡ answered (line_reason above line) (with_parts above (parts_of (words_of line)))
line_bridge above line = elim (cases_bool (list_all is_text_byte line)) [
  | inr bad ↦ rw bad refl
  | inl good ↦ elim (cases_bool (nat_lt 20000 (length line))) [
    | inl long ↦ rw (good, long) refl
    | inr short ↦ rw (good, short) (words_bridge above (words_of line))
  ]
]

-- ---- one line after the other

ok_is : (x y : Scenario) → ◌≡◌ {A = Result Scenario LineReason} (Ok x) (Ok y) → x ≡ y
ok_is x y h = cc

goes_on : (n : ℕ) (above next : Scenario) (reason : Option LineReason) (told : Scenario) (lines : List (List ℕ)) → answered reason told ≡ Ok next → unless_refused n reason (told_from (n + 1) told lines) ≡ told_from (n + 1) next lines
goes_on n above next None told lines h = ap (λ (s : Scenario). told_from (n + 1) s lines) (ok_is told next h)
goes_on n above next (Some reason) told lines h = absurd cc

stops : (n : ℕ) (reason : Option LineReason) (why : LineReason) (told : Scenario) (rest : Result Scenario RefusedLine) → answered reason told ≡ Err why → unless_refused n reason rest ≡ Err (refused n why)
stops n None why told rest h = absurd cc
stops n (Some reason) why told rest h = let same : reason ≡ why = cc in ap (λ (r : LineReason). Err (refused n r)) same

pub line_more : (n : ℕ) (above next : Scenario) (line : List ℕ) (all lines : List (List ℕ)) → all ≡ line ∷ lines → line_told above line ≡ Ok next → told_from n above all ≡ told_from (n + 1) next lines
line_more n above next line all lines first h =
    ap (told_from n above) first ∙ goes_on n above next (line_reason above line) (with_parts above (parts_of (words_of line))) lines (sym (line_bridge above line) ∙ h)

pub line_stops : (n : ℕ) (above : Scenario) (line : List ℕ) (all lines : List (List ℕ)) (why : LineReason) → all ≡ line ∷ lines → line_told above line ≡ Err why → told_from n above all ≡ Err (refused n why)
line_stops n above line all lines why first h =
    ap (told_from n above) first ∙ stops n (line_reason above line) why (with_parts above (parts_of (words_of line))) (told_from (n + 1) (with_parts above (parts_of (words_of line))) lines) (sym (line_bridge above line) ∙ h)

-- a fault of a line is that of the text
pub text_stops : (fault : LineFault) (n : ℕ) (above : Scenario) (line : List ℕ) (all lines : List (List ℕ)) (whole : Result Scenario RefusedLine) → Fails fault (line_told above line) → all ≡ line ∷ lines → told_from n above all ≡ whole → IfRefused {X = Scenario} (Err (fault_at n fault)) (λ line reason. whole ≡ Err (refused line reason))
text_stops line_fault.NoMemory n above line all lines whole h first so_far = tt
text_stops (line_fault.Refused why) n above line all lines whole h first so_far = sym so_far ∙ line_stops n above line all lines why first h
