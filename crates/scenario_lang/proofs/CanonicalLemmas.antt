-- The text of a line, piece by piece.
use Rattle.std.proofs.Common.{◌≡◌, List, ℕ, ◌-◌, ◌<◌, ◌≤◌, [], ◌∷◌, ◌++◌, length, take, drop, get_or, slice_get, append_assoc, Option, None, Some, refl, sym, ap, ◌∙◌, arith}
use Rattle.std.specs.Prelude.{map, codes, decimal}
use Rattle.std.specs.List.{flat_map}
use Rattle.std.proofs.lemmas.List.{append-nil, take_rest}
use Rattle.arrayvec.specs.ArrayVec.{ArrayVec}
use Rattle.board_model.specs.declared.scenario.Call.{Call}
use Rattle.board_model.specs.declared.scenario.Call.TheVariants.{Create, Delete, Lookup, MsgSend, MsgRecv, MsgRecvI, MsgAvailable, Connect, OpenSend, OpenRecv, PktSend, PktRecv, PktRecvI, Release, SclSend, SclRecv, CloseSend, CloseRecv, Test, Wait, WaitAny, Cancel, Raw, Turn}
use Rattle.board_model.specs.Grammar.{with_commas, spaced, line_of, call_words, label_words, tries_words}
use Rattle.scenario_lang.specs.declared.canonical.Argument.{Argument}
use Rattle.scenario_lang.specs.CallFronts.{label_front, tries_front, argument_word, words_in, blank_then, comma_then}

-- a line begins with its caller and a blank
caller_then : (caller words : List ℕ) → (caller ++ 32 ∷ words) ++ (10 ∷ []) ≡ caller ++ (32 ∷ (words ++ (10 ∷ [])))
caller_then caller words = append_assoc caller (32 ∷ words) (10 ∷ [])

-- words that are not none
pub record AreSome (words : List (List ℕ)) : Type 0 where
  pub first : List ℕ
  pub others : List (List ℕ)
  pub whole : words ≡ first ∷ others

pub some_call : (c : Call) → AreSome (call_words c)
some_call (Create port) = record { first = _; others = _; whole = refl }
some_call (Delete port) = record { first = _; others = _; whole = refl }
some_call (Lookup name) = record { first = _; others = _; whole = refl }
some_call (MsgSend port to priority bytes) = record { first = _; others = _; whole = refl }
some_call (MsgRecv port max) = record { first = _; others = _; whole = refl }
some_call (MsgRecvI port max) = record { first = _; others = _; whole = refl }
some_call (MsgAvailable port) = record { first = _; others = _; whole = refl }
some_call (Connect port to kind) = record { first = _; others = _; whole = refl }
some_call (OpenSend port kind) = record { first = _; others = _; whole = refl }
some_call (OpenRecv port kind) = record { first = _; others = _; whole = refl }
some_call (PktSend port bytes) = record { first = _; others = _; whole = refl }
some_call (PktRecv port) = record { first = _; others = _; whole = refl }
some_call (PktRecvI port) = record { first = _; others = _; whole = refl }
some_call (Release label) = record { first = _; others = _; whole = refl }
some_call (SclSend port bits value) = record { first = _; others = _; whole = refl }
some_call (SclRecv port bits) = record { first = _; others = _; whole = refl }
some_call (CloseSend port) = record { first = _; others = _; whole = refl }
some_call (CloseRecv port) = record { first = _; others = _; whole = refl }
some_call (Test label) = record { first = _; others = _; whole = refl }
some_call (Wait label limit) = record { first = _; others = _; whole = refl }
some_call (WaitAny labels limit) = record { first = _; others = _; whole = refl }
some_call (Cancel label) = record { first = _; others = _; whole = refl }
some_call (Raw domain bytes) = record { first = _; others = _; whole = refl }
some_call Turn = record { first = _; others = _; whole = refl }

some_tried : (tries : Option ℕ) (words : List (List ℕ)) → AreSome words → AreSome (tries_words tries ++ words)
some_tried None words s = s
some_tried (Some n) words s = record { first = _; others = _; whole = refl }

pub some_told : (label : Option (List ℕ)) (words : List (List ℕ)) → AreSome words → AreSome (label_words label ++ words)
some_told None words s = s
some_told (Some l) words s = record { first = _; others = _; whole = refl }

-- a word before others
pub spaced_then : (w : List ℕ) (words : List (List ℕ)) → AreSome words → spaced (w ∷ words) ≡ w ++ 32 ∷ spaced words
spaced_then w words s = rw s.whole refl

tries_then : (tries : Option ℕ) (words : List (List ℕ)) → AreSome words → spaced (tries_words tries ++ words) ≡ tries_front tries ++ spaced words
tries_then None words s = refl
tries_then (Some n) words s =
    ap (λ (t : List ℕ). codes "try " ++ t) (spaced_then (decimal n) words s ∙ sym (append_assoc (decimal n) (32 ∷ []) (spaced words)))

label_then : (label : Option (List ℕ)) (words : List (List ℕ)) → AreSome words → spaced (label_words label ++ words) ≡ label_front label ++ spaced words
label_then None words s = refl
label_then (Some l) words s =
    ap (λ (t : List ℕ). l ++ 32 ∷ t) (spaced_then (61 ∷ []) words s) ∙ sym (append_assoc l (32 ∷ 61 ∷ 32 ∷ []) (spaced words))

pub line_of-call : (caller : List ℕ) (label : Option (List ℕ)) (tries : Option ℕ) (c : Call) → line_of (caller ∷ (label_words label ++ (tries_words tries ++ call_words c))) ≡ caller ++ (32 ∷ (label_front label ++ (tries_front tries ++ (spaced (call_words c) ++ (10 ∷ [])))))
line_of-call caller label tries c =
    let call = some_call c in
    let tried = some_tried tries (call_words c) call in
    let told = some_told label (tries_words tries ++ call_words c) tried in
    let spelled : spaced (caller ∷ (label_words label ++ (tries_words tries ++ call_words c))) ≡ caller ++ 32 ∷ (label_front label ++ (tries_front tries ++ spaced (call_words c))) =
    spaced_then caller _ told ∙ ap (λ (t : List ℕ). caller ++ 32 ∷ t) (label_then label _ tried ∙ ap (λ (t : List ℕ). label_front label ++ t) (tries_then tries _ call)) in
    ap (λ (t : List ℕ). t ++ 10 ∷ []) spelled
    ∙ caller_then caller (label_front label ++ (tries_front tries ++ spaced (call_words c)))
    ∙ ap (λ (t : List ℕ). caller ++ 32 ∷ t) (append_assoc (label_front label) (tries_front tries ++ spaced (call_words c)) (10 ∷ []) ∙ ap (λ (t : List ℕ). label_front label ++ t) (append_assoc (tries_front tries) (spaced (call_words c)) (10 ∷ [])))

-- ---- the words of a call

pub spaced-arguments : (word : List ℕ) (arguments : List (Option Argument)) → spaced (word ∷ words_in arguments) ≡ word ++ flat_map blank_then arguments
spaced-arguments word [] = sym (append-nil word)
spaced-arguments word (None ∷ others) = spaced-arguments word others
spaced-arguments word (Some a ∷ others) = ap (λ (t : List ℕ). word ++ 32 ∷ t) (spaced-arguments (argument_word a) others)

-- a list by its first item and the others
pub front-others : (words : List (List ℕ)) (word : List ℕ) → slice_get words 0 ≡ Some word → word ∷ drop 1 words ≡ words
front-others [] word e = absurd cc
front-others (w ∷ ws) word e = let same : w ≡ word = cc in ap (λ (v : List ℕ). v ∷ ws) (sym same)

-- labels with commas between them, of which all but the first come after a comma
pub commas-then : (l : ArrayVec ℕ) (ls : List (ArrayVec ℕ)) → with_commas (map (λ m. m.items) (l ∷ ls)) ≡ l.items ++ flat_map comma_then ls
commas-then l [] = sym (append-nil l.items)
commas-then l (m ∷ ms) = ap (λ (t : List ℕ). l.items ++ 44 ∷ t) (commas-then m ms)

pub commas-none : (ls : List (ArrayVec ℕ)) → length ls < 1 → with_commas (map (λ l. l.items) ls) ≡ []
commas-none [] few = refl
commas-none (l ∷ ls) few = absurd (omega (arith, few))

pub commas-front : (ls : List (ArrayVec ℕ)) (l : ArrayVec ℕ) → 1 ≤ length ls → l ≡ get_or ls 0 l → with_commas (map (λ m. m.items) ls) ≡ l.items ++ flat_map comma_then (take (length ls - 1) (drop 1 ls))
commas-front [] l some is = absurd (omega (arith, some))
commas-front (m ∷ ms) l some is =
    commas-then m ms
    ∙ ap (λ (k : ArrayVec ℕ). k.items ++ flat_map comma_then ms) (sym is)
    ∙ ap (λ (ks : List (ArrayVec ℕ)). l.items ++ flat_map comma_then ks) (sym (take_rest (m ∷ ms) 1))
