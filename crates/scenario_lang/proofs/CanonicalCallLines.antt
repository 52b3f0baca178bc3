-- Lines of calls in the canonical text are read: none is refused, and each tells what it was written for.
use Rattle.std.proofs.Common.{◌≡◌, ℕ, ◌+◌, ◌≤◌, ◌<◌, ◌^◌, Bool, true, false, ◌&&◌, ◌||◌, List, ◌∷◌, ◌++◌, Option, Some, None, refl, sym, subst, ap, ◌∙◌, arith, length-append}
use Rattle.std.specs.Prelude.{decimal, option_map, ◌==◌}
use Rattle.std.specs.List.{list_all}
use Rattle.std.proofs.lemmas.Bool.{and_from, not_from_true}
use Rattle.std.proofs.lemmas.Bool.Decides.{nat_tests}
use Rattle.std.proofs.lemmas.List.Folds.{list_all-append}
use Rattle.arrayvec.specs.ArrayVec.{ArrayVec}
use Rattle.board_model.specs.declared.scenario.Call.{Call}
use Rattle.board_model.specs.declared.scenario.CallLine.{CallLine}
use Rattle.board_model.specs.declared.scenario.Scenario.{Scenario}
use Rattle.board_model.specs.declared.form.Callee.{Callee}
use Rattle.board_model.specs.Scenario.{label_in}
use Rattle.board_model.specs.Grammar.{spaced, argument_texts, form_words, call_words, label_words, tries_words, caller_text}
use Rattle.board_model.specs.FileLines.{parts_at}
use Rattle.board_model.specs.FileWords.{is_digit, numeral, is_number, number}
use Rattle.board_model.specs.Forms.{Values, form, call_made, CallParts, call_parts, label_of, told_at, tries_at, told_fits, tries_fit, arguments_fit, if_fits, call_of, tries_form, told_form, call_form, parts_of, numerals, tries_numerals, arguments_numerals, arguments_labels, says_call, call_line}
use Rattle.board_model.specs.LineReasons.{is_domain, has_wrong_domain, tells_wrong_label, names_wrong_label, has_wrong_label, puts_sound, has_sound_frame, word_reasons, with_statement}
use Rattle.board_model.proofs.LawfulForms.{AreFit, call_with}
use Rattle.board_model.proofs.LawfulTelling.{HoldNot}
use Rattle.board_model.proofs.LawfulRanges.{TriesFit}
use Rattle.board_model.proofs.WordDecimals.{Begins, decimal-begins, number-decimal, is_number-decimal}
use Rattle.scenario_lang.proofs.SpacedLemmas.{is_word, all-pass, room, room-append}
use Rattle.scenario_lang.proofs.PlainLemmas.{IsPlain, begun_plain, decimal-plain, decimal-few, label-plain}
use Rattle.scenario_lang.proofs.NameWordLemmas.{two_parts, joined-seen}
use Rattle.scenario_lang.proofs.TableLemmas.{IsPlainRow, row_plain, AreTextsOf, texts-of, no_label-before, no_tries-before}
use Rattle.scenario_lang.proofs.CanonicalLines.{IsRead, words_read}

-- a line of this call with these arguments that may be told here
pub record FitsHere (above : Scenario) (k : CallLine) (c : Callee) (arguments : Values (form c).arguments) : Type 0 where
  pub says : call_words k.call ≡ form_words c arguments
  pub makes : call_with c arguments ≡ k.call
  pub told_domain : is_domain above k.domain ≡ true
  pub domain_fits : k.domain ≤ 7
  pub node_fits : k.node ≤ 15
  pub tries_within : TriesFit k.tries
  pub tried_right : tries_fit (form c).tried (option_map decimal k.tries) ≡ true
  pub arguments_fit : AreFit (form c).arguments 0 arguments
  pub label_fits : told_fits (form c).labelled (label_in k) ≡ true
  pub label_right : (tells_wrong_label above (form c).labelled k.domain (label_in k) || names_wrong_label above k.domain (arguments_labels (form c).arguments (argument_texts (form c).arguments arguments))) ≡ false
  pub frame_faulty : puts_sound k.call ≡ false

abbrev pub front_words : CallLine → List (List ℕ) → List (List ℕ)
front_words k call = label_words (label_in k) ++ (tries_words k.tries ++ call)

abbrev pub line_words : CallLine → List (List ℕ)
line_words k = caller_text k ∷ front_words k (call_words k.call)

told_words : (o : Option (List ℕ)) (t : Option ℕ) (call : List (List ℕ)) → TriesFit t → told_at call ≡ (None, call) → told_at (label_words o ++ (tries_words t ++ call)) ≡ (o, tries_words t ++ call)
told_words None None call fits none = none
told_words None (Some n) call fits none = let sign = (decimal-plain n fits.1).no_sign in rw sign refl
told_words (Some l) t call fits none = refl

tried_words : (t : Option ℕ) (call : List (List ℕ)) → tries_at call ≡ (None, call) → tries_at (tries_words t ++ call) ≡ (option_map decimal t, call)
tried_words None call none = none
tried_words (Some n) call none = refl

-- a line that begins with a digit is the line of a call
says_call_line : (b : ℕ) (bs : List ℕ) (ws : List (List ℕ)) → is_digit b ≡ true → parts_of ((b ∷ bs) ∷ ws) ≡ call_form (parts_at 46 (b ∷ bs)) ws
says_call_line b bs ws digit =
    let comment : (b == 35) ≡ false = grind (arith, nat_tests) in
    let domain : (b == 100) ≡ false = grind (arith, nat_tests) in
    let link : (b == 108) ≡ false = grind (arith, nat_tests) in
    rw (comment, domain, link) refl

begun_call_line : (ds rest : List ℕ) (ws : List (List ℕ)) → Begins ds → parts_of ((ds ++ rest) ∷ ws) ≡ call_form (parts_at 46 (ds ++ rest)) ws
begun_call_line ds rest ws s =
    ap (λ (t : List ℕ). parts_of ((t ++ rest) ∷ ws)) s.front
    ∙ says_call_line s.first (s.others ++ rest) ws s.digit
    ∙ ap (λ (t : List ℕ). call_form (parts_at 46 (t ++ rest)) ws) (sym s.front)

fits_form : (p : CallParts) → told_fits (form p.callee).labelled p.told ≡ true → tries_fit (form p.callee).tried p.tries ≡ true → arguments_fit (form p.callee).arguments p.arguments ≡ true → if_fits p ≡ Some (call_parts p)
fits_form p told tried fit = rw (told, tried, fit) refl

label_back : (o : Option (ArrayVec ℕ)) → option_map label_of (option_map (λ l. l.items) o) ≡ o
label_back None = refl
label_back (Some l) = refl

tries_back : (t : Option ℕ) → TriesFit t → option_map number (option_map decimal t) ≡ t
tries_back None fits = refl
tries_back (Some n) fits = ap (λ (m : ℕ). Some m) (number-decimal n (omega (arith, fits.1)))

abbrev made_line : ℕ → ℕ → Option (ArrayVec ℕ) → Option ℕ → Call → CallLine
made_line d n l t c = record { domain = d; node = n; label = l; tries = t; call = c }

tries_numbers : (t : Option ℕ) → TriesFit t → list_all is_number (tries_numerals (option_map decimal t)) ≡ true
tries_numbers None fits = refl
tries_numbers (Some n) fits = all-pass is_number (tries_numerals (Some (decimal n))) (is_number-decimal 1 4294967295 n fits.0 (omega (arith, fits.1)) (omega (arith, fits.1)), tt)

-- words that are seen, of at most so many bytes
record AreSeen (most : ℕ) (ws : List (List ℕ)) : Type 0 where
  seen : list_all is_word ws ≡ true
  few : room ws ≤ most

label_seen : (o : Option (List ℕ)) (labelled : Bool) → told_fits labelled o ≡ true → AreSeen 20 (label_words o)
label_seen None labelled told = record { seen = refl; few = omega arith }
label_seen (Some l) true told = let plain = label-plain l told in record { seen = all-pass is_word (label_words (Some l)) (plain.is, (refl, tt)); few = omega (arith, plain.few) }
label_seen (Some l) false told = let plain = label-plain l told in record { seen = all-pass is_word (label_words (Some l)) (plain.is, (refl, tt)); few = omega (arith, plain.few) }

tries_seen : (t : Option ℕ) → TriesFit t → AreSeen 20 (tries_words t)
tries_seen None fits = record { seen = refl; few = omega arith }
tries_seen (Some n) fits = let plain = decimal-plain n fits.1 in record { seen = all-pass is_word (tries_words (Some n)) (refl, (plain.is, tt)); few = omega (arith, plain.few) }

both_seen : (most more : ℕ) (vs ws : List (List ℕ)) → AreSeen most vs → AreSeen more ws → AreSeen (most + more) (vs ++ ws)
both_seen most more vs ws first rest = record {
  seen = list_all-append is_word vs ws ∙ and_from (list_all is_word vs) (list_all is_word ws) first.seen rest.seen;
  few = omega (arith, room-append vs ws, first.few, rest.few);
}

pub caller_plain : (k : CallLine) → k.domain ≤ 7 → k.node ≤ 15 → IsPlain 21 (caller_text k)
caller_plain k domain_small node_small =
    begun_plain 21 (decimal k.domain) (46 ∷ decimal k.node) (decimal-begins k.domain (omega arith)) (joined-seen 46 k.domain k.node refl (omega arith) (omega arith))
    (omega (arith, length-append (decimal k.domain) (46 ∷ decimal k.node), decimal-few k.domain (omega arith), decimal-few k.node (omega arith)))

abbrev caller_words : CallLine → List (List ℕ) → List (List ℕ)
caller_words k call = caller_text k ∷ front_words k call

module _ (above : Scenario) (k : CallLine) (c : Callee) (arguments : Values (form c).arguments) (h : FitsHere above k c arguments) where
  row : IsPlainRow c
  row = row_plain c

  abbrev texts : List (List ℕ)
  texts = argument_texts (form c).arguments arguments

  abbrev words : List (List ℕ)
  words = (form c).word ∷ texts

  spelled : AreTextsOf (form c).arguments 0 arguments
  spelled = texts-of (form c).arguments 0 arguments h.arguments_fit

  -- the parts of the line
  abbrev parts : CallParts
  parts = record { domain = decimal k.domain; node = decimal k.node; told = label_in k; tries = option_map decimal k.tries; callee = c; arguments = texts }

  domain_small : k.domain < 2 ^ 32
  domain_small = omega (arith, h.domain_fits)

  node_small : k.node < 2 ^ 32
  node_small = omega (arith, h.node_fits)

  parts_read : parts_of (caller_words k words) ≡ Some (call_parts parts)
  parts_read =
      let d : List ℕ = decimal k.domain in
      let n : List ℕ = decimal k.node in
      let tried : Option (List ℕ) = option_map decimal k.tries in
      let ws : List (List ℕ) = front_words k words in
      begun_call_line d (46 ∷ n) ws (decimal-begins k.domain (omega (arith, domain_small)))
      ∙ ap (λ (ps : List (List ℕ)). call_form ps ws) (two_parts 46 k.domain k.node refl domain_small node_small)
      ∙ ap (λ (r : Option (List ℕ) × List (List ℕ)). told_form d n r) (told_words (label_in k) k.tries words h.tries_within (no_label-before (form c).word (form c).arguments 0 arguments h.arguments_fit))
      ∙ ap (λ (r : Option (List ℕ) × List (List ℕ)). tries_form d n (label_in k) r) (tried_words k.tries words (no_tries-before (form c).word texts row.no_try))
      ∙ ap (λ (o : Option Callee). call_of d n (label_in k) tried texts o) row.named
      ∙ fits_form parts h.label_fits h.tried_right spelled.fit

  call_back : call_made c texts ≡ k.call
  call_back = ap (λ (vs : Values (form c).arguments). call_with c vs) spelled.back ∙ h.makes

  line_back : call_line parts ≡ k
  line_back =
      ap (λ (d : ℕ). made_line d (number (decimal k.node)) (option_map label_of (label_in k)) (option_map number (option_map decimal k.tries)) (call_made c texts)) (number-decimal k.domain (omega (arith, domain_small)))
      ∙ ap (λ (n : ℕ). made_line k.domain n (option_map label_of (label_in k)) (option_map number (option_map decimal k.tries)) (call_made c texts)) (number-decimal k.node (omega (arith, node_small)))
      ∙ ap (λ (l : Option (ArrayVec ℕ)). made_line k.domain k.node l (option_map number (option_map decimal k.tries)) (call_made c texts)) (label_back k.label)
      ∙ ap (λ (t : Option ℕ). made_line k.domain k.node k.label t (call_made c texts)) (tries_back k.tries h.tries_within)
      ∙ ap (λ (x : Call). made_line k.domain k.node k.label k.tries x) call_back

  call_numbers : list_all is_number (numerals (call_parts parts)) ≡ true
  call_numbers =
      let tried : List _ = tries_numerals (option_map decimal k.tries) in
      let others : List _ = arguments_numerals (form c).arguments 0 texts in
      and_from (is_number (numeral 0 7 (decimal k.domain))) (is_number (numeral 0 15 (decimal k.node)) && list_all is_number (tried ++ others)) (is_number-decimal 0 7 k.domain (omega arith) h.domain_fits (omega (arith, domain_small)))
      (and_from (is_number (numeral 0 15 (decimal k.node))) (list_all is_number (tried ++ others)) (is_number-decimal 0 15 k.node (omega arith) h.node_fits (omega (arith, node_small)))
      (list_all-append is_number tried others ∙ and_from (list_all is_number tried) (list_all is_number others) (tries_numbers k.tries h.tries_within) spelled.numbers))

  line_seen : AreSeen 20000 (caller_words k words)
  line_seen =
      let caller = caller_plain k h.domain_fits h.node_fits in
      let call : AreSeen 18100 words = record { seen = and_from (is_word (form c).word) (list_all is_word texts) row.seen spelled.seen; few = omega (arith, row.few, spelled.few) } in
      let front = both_seen 20 18120 (label_words (label_in k)) (tries_words k.tries ++ words) (label_seen (label_in k) (form c).labelled h.label_fits) (both_seen 20 18100 (tries_words k.tries) words (tries_seen k.tries h.tries_within) call) in
      record {
        seen = and_from (is_word (caller_text k)) (list_all is_word (front_words k words)) caller.is front.seen;
        few = omega (arith, caller.few, front.few);
      }

  right_label : has_wrong_label above (call_parts parts) ≡ false
  right_label =
      ap (λ (m : ℕ). tells_wrong_label above (form c).labelled m (label_in k) || names_wrong_label above m (arguments_labels (form c).arguments texts)) (number-decimal k.domain (omega (arith, domain_small)))
      ∙ h.label_right

  faulty_frame : has_sound_frame (says_call (call_line parts)) ≡ false
  faulty_frame = ap (λ (l : CallLine). puts_sound l.call) line_back ∙ h.frame_faulty

  words_read_here : IsRead above (spaced (caller_words k words)) (with_statement above (says_call k))
  words_read_here =
      let told : has_wrong_domain above (says_call (call_line parts)) ≡ false = ap (λ (l : CallLine). has_wrong_domain above (says_call l)) line_back ∙ not_from_true _ h.told_domain in
      let none : HoldNot (word_reasons above (Some (call_parts parts))) = (refl, (not_from_true _ call_numbers, (not_from_true _ spelled.contents, (refl, (told, (refl, (right_label, (faulty_frame, tt)))))))) in
      let r = words_read above (caller_words k words) (call_parts parts) line_seen.seen line_seen.few parts_read none in
      record { text = r.text; passes = r.passes; tells = r.tells ∙ ap (λ (l : CallLine). with_statement above (says_call l)) line_back }

  pub call-read : IsRead above (spaced (line_words k)) (with_statement above (says_call k))
  call-read =
      subst (λ (ws : List (List ℕ)). IsRead above (spaced (caller_words k ws)) (with_statement above (says_call k))) (sym h.says) words_read_here
