-- The parts of a line that fits a form: those of a call line fit the form of its call.
use Rattle.std.proofs.Common.{◌≡◌, ℕ, true, ◌&&◌, cond, List, [], ◌∷◌, Option, Some, None}
use Rattle.std.specs.Prelude.{codes, bytes_eq}
use Rattle.std.proofs.lemmas.Bool.{and_parts, cond_both}
use Rattle.board_model.specs.FileLines.{parts_at, says_nothing}
use Rattle.board_model.specs.Forms.{form, callee_of, CallParts, LineParts, no_parts, domain_parts, link_parts, call_parts, domain_form, link_form, told_at, tries_at, told_fits, tries_fit, arguments_fit, fits, call_of, callee_form, call_form, spoken, parts_of}
use Rattle.board_model.specs.declared.form.Callee.{Callee}

pub record FitsCall (c : CallParts) : Type 0 where
  pub told_fits : told_fits (form c.callee).labelled c.told ≡ true
  pub tries_fit : tries_fit (form c.callee).tried c.tries ≡ true
  pub arguments_fit : arguments_fit (form c.callee).arguments c.arguments ≡ true

abbrev pub FitsParts : LineParts → Type 0
FitsParts no_parts = Unit {0}
FitsParts (domain_parts d n p) = Unit {0}
FitsParts (link_parts a b q) = Unit {0}
FitsParts (call_parts c) = FitsCall c

abbrev pub FitsIfRead : Option LineParts → Type 0
FitsIfRead None = Unit {0}
FitsIfRead (Some p) = FitsParts p

-- ---- domains and links

domain_fits : (words : List (List ℕ)) → FitsIfRead (domain_form words)
domain_fits [] = tt
domain_fits (d ∷ []) = tt
domain_fits (d ∷ v ∷ []) = tt
domain_fits (d ∷ v ∷ n ∷ []) = tt
domain_fits (d ∷ v ∷ n ∷ p ∷ []) = tt
domain_fits (d ∷ v ∷ n ∷ p ∷ q ∷ []) = cond_both (bytes_eq v (codes "nodes") && bytes_eq p (codes "pool")) (Some (domain_parts d n q)) None FitsIfRead (λ e. tt) (λ e. tt)
domain_fits (d ∷ v ∷ n ∷ p ∷ q ∷ r ∷ rs) = tt

link_fits : (words : List (List ℕ)) → FitsIfRead (link_form words)
link_fits [] = tt
link_fits (a ∷ []) = tt
link_fits (a ∷ b ∷ []) = tt
link_fits (a ∷ b ∷ v ∷ []) = tt
link_fits (a ∷ b ∷ v ∷ q ∷ []) = cond_both (bytes_eq v (codes "size")) (Some (link_parts a b q)) None FitsIfRead (λ e. tt) (λ e. tt)
link_fits (a ∷ b ∷ v ∷ q ∷ r ∷ rs) = tt

-- ---- calls

parts_right : (c : CallParts) → fits c ≡ true → FitsCall c
parts_right c e =
    let first = and_parts (told_fits (form c.callee).labelled c.told) (tries_fit (form c.callee).tried c.tries && arguments_fit (form c.callee).arguments c.arguments) e in
    let second = and_parts (tries_fit (form c.callee).tried c.tries) (arguments_fit (form c.callee).arguments c.arguments) first.1 in
    record { told_fits = first.0; tries_fit = second.0; arguments_fit = second.1 }

call_fits : (domain node : List ℕ) (told tries : Option (List ℕ)) (arguments : List (List ℕ)) (o : Option Callee) → FitsIfRead (call_of domain node told tries arguments o)
call_fits domain node told tries arguments None = tt
call_fits domain node told tries arguments (Some callee) =
    let c : CallParts = record { domain = domain; node = node; told = told; tries = tries; callee = callee; arguments = arguments } in
    cond_both (fits c) (Some (call_parts c)) None FitsIfRead (λ e. parts_right c e) (λ e. tt)

callee_fits : (domain node : List ℕ) (told tries : Option (List ℕ)) (words : List (List ℕ)) → FitsIfRead (callee_form domain node told tries words)
callee_fits domain node told tries [] = tt
callee_fits domain node told tries (word ∷ arguments) = call_fits domain node told tries arguments (callee_of word)

caller_fits : (caller words : List (List ℕ)) → FitsIfRead (call_form caller words)
caller_fits [] words = tt
caller_fits (d ∷ []) words = tt
caller_fits (d ∷ n ∷ []) words = callee_fits d n (told_at words).0 (tries_at (told_at words).1).0 (tries_at (told_at words).1).1
caller_fits (d ∷ n ∷ p ∷ ps) words = tt

-- ---- lines

spoken_fits : (word : List ℕ) (words : List (List ℕ)) → FitsIfRead (spoken word words)
spoken_fits word words =
    cond_both (bytes_eq word (codes "domain")) (domain_form words) (cond (bytes_eq word (codes "link")) (link_form words) (call_form (parts_at 46 word) words)) FitsIfRead (λ e. domain_fits words)
    (λ e. cond_both (bytes_eq word (codes "link")) (link_form words) (call_form (parts_at 46 word) words) FitsIfRead (λ f. link_fits words) (λ f. caller_fits (parts_at 46 word) words))

pub parts_fit : (words : List (List ℕ)) → FitsIfRead (parts_of words)
parts_fit [] = tt
parts_fit (w ∷ ws) = cond_both (says_nothing (w ∷ ws)) (Some no_parts) (spoken w ws) FitsIfRead (λ e. tt) (λ e. spoken_fits w ws)
