-- The lines of the canonical text: one more for what is told last, and lines that are read one after the other.
use Rattle.std.proofs.Common.{◌≡◌, ℕ, ◌+◌, Bool, true, false, ◌&&◌, cond, List, [], ◌∷◌, ◌++◌, map, Result, Ok, Err, refl, sym, subst, ap, ◌∙◌, append_assoc}
use Rattle.std.specs.List.{flat_map, AllByRecursion}
use Rattle.std.proofs.lemmas.List.{append-nil, map-append}
use Rattle.board_model.specs.declared.scenario.DomainLine.{DomainLine}
use Rattle.board_model.specs.declared.scenario.LinkLine.{LinkLine}
use Rattle.board_model.specs.declared.scenario.CallLine.{CallLine}
use Rattle.board_model.specs.declared.scenario.Scenario.{Scenario}
use Rattle.board_model.specs.declared.reason.LineReason.TheVariants.{Domain}
use Rattle.board_model.specs.Grammar.{spaced, link_text, call_text, canonical}
use Rattle.board_model.specs.FileLines.{lines_of, words_of}
use Rattle.board_model.specs.Forms.{parts_of}
use Rattle.board_model.specs.LineReasons.{is_empty, with_parts}
use Rattle.board_model.specs.Language.{RefusedLine, refused, unless_refused, told_from}
use Rattle.scenario_lang.proofs.SpacedLemmas.{IsText, lines_of-all}
use Rattle.scenario_lang.proofs.CanonicalLines.{IsRead, domain_words, link_words}
use Rattle.scenario_lang.proofs.CanonicalCallLines.{line_words}

-- ---- the lines of the canonical text

abbrev pub domain_line : DomainLine → List ℕ
domain_line d = spaced (domain_words d)

abbrev pub link_line : LinkLine → List ℕ
link_line l = spaced (link_words l)

abbrev pub called_line : CallLine → List ℕ
called_line c = spaced (line_words c)

abbrev pub lines_told : List DomainLine → List LinkLine → List CallLine → List (List ℕ)
lines_told ds ls cs = map domain_line ds ++ (map link_line ls ++ map called_line cs)

pub one_domain_more : (ds : List DomainLine) (d : DomainLine) (ls : List LinkLine) (cs : List CallLine) → (is_empty ls && is_empty cs) ≡ true → lines_told (ds ++ d ∷ []) ls cs ≡ lines_told ds ls cs ++ domain_line d ∷ []
one_domain_more ds d [] [] none =
    append-nil (map domain_line (ds ++ d ∷ [])) ∙ map-append domain_line ds (d ∷ []) ∙ ap (λ (xs : List (List ℕ)). xs ++ domain_line d ∷ []) (sym (append-nil (map domain_line ds)))
one_domain_more ds d [] (c ∷ cs) none = absurd cc
one_domain_more ds d (l ∷ ls) cs none = absurd cc

pub one_link_more : (ds : List DomainLine) (ls : List LinkLine) (l : LinkLine) (cs : List CallLine) → is_empty cs ≡ true → lines_told ds (ls ++ l ∷ []) cs ≡ lines_told ds ls cs ++ link_line l ∷ []
one_link_more ds ls l [] none =
    ap (λ (xs : List (List ℕ)). map domain_line ds ++ xs) (append-nil (map link_line (ls ++ l ∷ [])) ∙ map-append link_line ls (l ∷ []) ∙ ap (λ (xs : List (List ℕ)). xs ++ link_line l ∷ []) (sym (append-nil (map link_line ls))))
    ∙ sym (append_assoc (map domain_line ds) (map link_line ls ++ []) (link_line l ∷ []))
one_link_more ds ls l (c ∷ cs) none = absurd cc

pub one_call_more : (ds : List DomainLine) (ls : List LinkLine) (cs : List CallLine) (c : CallLine) → lines_told ds ls (cs ++ c ∷ []) ≡ lines_told ds ls cs ++ called_line c ∷ []
one_call_more ds ls cs c =
    ap (λ (xs : List (List ℕ)). map domain_line ds ++ (map link_line ls ++ xs)) (map-append called_line cs (c ∷ []))
    ∙ ap (λ (xs : List (List ℕ)). map domain_line ds ++ xs) (sym (append_assoc (map link_line ls) (map called_line cs) (called_line c ∷ [])))
    ∙ sym (append_assoc (map domain_line ds) (map link_line ls ++ map called_line cs) (called_line c ∷ []))

-- ---- lines that are read one after the other

abbrev pub AreRead : Scenario → List (List ℕ) → Scenario → Type 0
AreRead above [] s = above ≡ s
AreRead above (line ∷ lines) s = (next : Scenario) × IsRead above line next × AreRead next lines s

pub one_more : (above : Scenario) (lines : List (List ℕ)) (s : Scenario) (line : List ℕ) (t : Scenario) → AreRead above lines s → IsRead s line t → AreRead above (lines ++ line ∷ []) t
one_more above [] s line t same read = (t, subst (λ (u : Scenario). IsRead u line t) (sym same) read, refl)
one_more above (x ∷ xs) s line t h read = (h.0, h.1, one_more h.0 xs s line t h.2 read)

pub are_texts : (above : Scenario) (lines : List (List ℕ)) (s : Scenario) → AreRead above lines s → AllByRecursion IsText lines
are_texts above [] s h = tt
are_texts above (line ∷ lines) s h = (h.1.text, are_texts h.0 lines s h.2)

last_told : (n : ℕ) (s : Scenario) (b : Bool) → b ≡ false → ◌≡◌ {A = Result Scenario RefusedLine} (cond b (Err (refused n Domain)) (Ok s)) (Ok s)
last_told n s true is = absurd cc
last_told n s false is = refl

pub are_told : (n : ℕ) (above : Scenario) (lines : List (List ℕ)) (s : Scenario) → is_empty s.domains ≡ false → AreRead above lines s → told_from n above lines ≡ Ok s
are_told n above [] s some same = ap (λ (u : Scenario). told_from n u []) same ∙ last_told n s (is_empty s.domains) some
are_told n above (line ∷ lines) s some h =
    ap (λ o. unless_refused n o (told_from (n + 1) (with_parts above (parts_of (words_of line))) lines)) h.1.passes
    ∙ ap (λ (u : Scenario). told_from (n + 1) u lines) h.1.tells
    ∙ are_told (n + 1) h.0 lines s some h.2

-- ---- the text of those lines

all_front : (xs ys : List (List ℕ)) → AllByRecursion IsText (xs ++ ys) → AllByRecursion IsText xs
all_front [] ys all = tt
all_front (x ∷ xs) ys all = (all.0, all_front xs ys all.1)

all_back : (xs ys : List (List ℕ)) → AllByRecursion IsText (xs ++ ys) → AllByRecursion IsText ys
all_back [] ys all = all
all_back (x ∷ xs) ys all = all_back xs ys all.1

pub canonical_lines : (s : Scenario) → AllByRecursion IsText (lines_told s.domains s.links s.calls) → lines_of (canonical s) ≡ lines_told s.domains s.links s.calls
canonical_lines s all =
    let others = all_back (map domain_line s.domains) (map link_line s.links ++ map called_line s.calls) all in
    let calls : lines_of (flat_map call_text s.calls) ≡ map called_line s.calls =
    ap lines_of (sym (append-nil (flat_map call_text s.calls)))
    ∙ lines_of-all called_line s.calls [] (all_back (map link_line s.links) (map called_line s.calls) others)
    ∙ append-nil (map called_line s.calls) in
    lines_of-all domain_line s.domains (flat_map link_text s.links ++ flat_map call_text s.calls) (all_front (map domain_line s.domains) (map link_line s.links ++ map called_line s.calls) all)
    ∙ ap (λ (xs : List (List ℕ)). map domain_line s.domains ++ xs) (lines_of-all link_line s.links (flat_map call_text s.calls) (all_front (map link_line s.links) (map called_line s.calls) others) ∙ ap (λ (xs : List (List ℕ)). map link_line s.links ++ xs) calls)
