-- Words of numbers with a sign between them are taken apart at it, and a name is read as that name.
use Rattle.std.proofs.Common.{◌≡◌, ℕ, ◌^◌, ◌<◌, true, false, ◌&&◌, List, [], ◌∷◌, ◌++◌, refl, ap, ◌∙◌, length-append, arith, inl, inr}
use Rattle.std.specs.Prelude.{decimal, ◌==◌}
use Rattle.std.specs.List.{list_all}
use Rattle.std.proofs.lemmas.Bool.{and_parts, and_from}
use Rattle.std.proofs.lemmas.Bool.Decides.{nat_tests}
use Rattle.std.proofs.lemmas.List.Folds.{list_all-append}
use Rattle.mc_base.specs.declared.name.EndName.{EndName}
use Rattle.board_model.specs.Grammar.{name_text, IsLawfulName}
use Rattle.board_model.specs.FileLines.{onto_first, parts_at}
use Rattle.board_model.specs.FileWords.{is_digit, numeral, is_number}
use Rattle.board_model.specs.Forms.{name_from, name_in, name_numerals}
use Rattle.scenario_lang.proofs.Options.{cases_bool}
use Rattle.board_model.proofs.WordDecimals.{decimal-begins, decimal-digits, number-decimal, is_number-decimal}
use Rattle.scenario_lang.proofs.SpacedLemmas.{is_seen}
use Rattle.scenario_lang.proofs.PlainLemmas.{IsPlain, begun_plain, decimal-seen, decimal-few}

-- ---- parts of a word

no_digit : (c b : ℕ) → is_digit c ≡ false → is_digit b ≡ true → (b == c) ≡ false
no_digit c b apart digit = elim (cases_bool (b == c)) [
  | inr other ↦ other
  | inl same ↦
      let is : b ≡ c = grind (arith, nat_tests) in
      let both : is_digit b ≡ false = ap is_digit is ∙ apart in
      absurd cc
]

part_then : (c : ℕ) (ds rest : List ℕ) → is_digit c ≡ false → list_all is_digit ds ≡ true → parts_at c (ds ++ c ∷ rest) ≡ ds ∷ parts_at c rest
part_then c [] rest apart all = let same : (c == c) ≡ true = grind (arith, nat_tests) in rw same refl
part_then c (d ∷ ds) rest apart all =
    let parts = and_parts (is_digit d) (list_all is_digit ds) all in
    rw (no_digit c d apart parts.0) (ap (onto_first d) (part_then c ds rest apart parts.1))

part_last : (c : ℕ) (ds : List ℕ) → is_digit c ≡ false → list_all is_digit ds ≡ true → parts_at c ds ≡ ds ∷ []
part_last c [] apart all = refl
part_last c (d ∷ ds) apart all =
    let parts = and_parts (is_digit d) (list_all is_digit ds) all in
    rw (no_digit c d apart parts.0) (ap (onto_first d) (part_last c ds apart parts.1))

pub two_parts : (c a b : ℕ) → is_digit c ≡ false → a < 2 ^ 32 → b < 2 ^ 32 → parts_at c (decimal a ++ c ∷ decimal b) ≡ decimal a ∷ decimal b ∷ []
two_parts c a b apart small few =
    part_then c (decimal a) (decimal b) apart (decimal-digits a (omega arith))
    ∙ ap (λ (ps : List (List ℕ)). decimal a ∷ ps) (part_last c (decimal b) apart (decimal-digits b (omega arith)))

-- ---- names

pub name-parts : (n : EndName) → IsLawfulName n → parts_at 58 (name_text n) ≡ decimal n.domain ∷ decimal n.node ∷ decimal n.port ∷ []
name-parts n h =
    part_then 58 (decimal n.domain) (decimal n.node ++ 58 ∷ decimal n.port) refl (decimal-digits n.domain (omega (arith, h.0)))
    ∙ ap (λ (ps : List (List ℕ)). decimal n.domain ∷ ps) (two_parts 58 n.node n.port refl (omega (arith, h.1)) (omega (arith, h.2)))

pub name-read : (n : EndName) → IsLawfulName n → name_in (name_text n) ≡ n
name-read n h =
    let domain = number-decimal n.domain (omega (arith, h.0)) in
    let node = number-decimal n.node (omega (arith, h.1)) in
    let port = number-decimal n.port (omega (arith, h.2)) in
    ap name_from (name-parts n h) ∙ rw (domain, node, port) refl

pub name-numbers : (n : EndName) → IsLawfulName n → list_all is_number (name_numerals (decimal n.domain ∷ decimal n.node ∷ decimal n.port ∷ [])) ≡ true
name-numbers n h =
    let domain = is_number-decimal 0 7 n.domain (omega arith) h.0 (omega (arith, h.0)) in
    let node = is_number-decimal 0 15 n.node (omega arith) h.1 (omega (arith, h.1)) in
    let port = is_number-decimal 0 65535 n.port (omega arith) (omega (arith, h.2)) (omega (arith, h.2)) in
    and_from (is_number (numeral 0 7 (decimal n.domain))) (is_number (numeral 0 15 (decimal n.node)) && (is_number (numeral 0 65535 (decimal n.port)) && true)) domain
    (and_from (is_number (numeral 0 15 (decimal n.node))) (is_number (numeral 0 65535 (decimal n.port)) && true) node (and_from (is_number (numeral 0 65535 (decimal n.port))) true port refl))

-- two numbers with a sign between them are seen
pub joined-seen : (c a b : ℕ) → is_seen c ≡ true → a < 2 ^ 32 → b < 2 ^ 32 → list_all is_seen (decimal a ++ c ∷ decimal b) ≡ true
joined-seen c a b seen small few =
    list_all-append is_seen (decimal a) (c ∷ decimal b)
    ∙ and_from (list_all is_seen (decimal a)) (is_seen c && list_all is_seen (decimal b)) (decimal-seen a small) (and_from (is_seen c) (list_all is_seen (decimal b)) seen (decimal-seen b few))

pub name-plain : (n : EndName) → IsLawfulName n → IsPlain 32 (name_text n)
name-plain n h =
    let domain : n.domain < 2 ^ 32 = omega (arith, h.0) in
    let node : n.node < 2 ^ 32 = omega (arith, h.1) in
    let port : n.port < 2 ^ 32 = omega (arith, h.2) in
    begun_plain 32 (decimal n.domain) (58 ∷ (decimal n.node ++ 58 ∷ decimal n.port)) (decimal-begins n.domain (omega arith))
    (list_all-append is_seen (decimal n.domain) (58 ∷ (decimal n.node ++ 58 ∷ decimal n.port)) ∙ and_from (list_all is_seen (decimal n.domain)) (list_all is_seen (decimal n.node ++ 58 ∷ decimal n.port)) (decimal-seen n.domain domain) (joined-seen 58 n.node n.port refl node port))
    (omega (arith, length-append (decimal n.domain) (58 ∷ (decimal n.node ++ 58 ∷ decimal n.port)), length-append (decimal n.node) (58 ∷ decimal n.port), decimal-few n.domain domain, decimal-few n.node node, decimal-few n.port port))
