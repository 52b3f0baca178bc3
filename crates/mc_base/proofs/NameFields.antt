-- The field of a name in an announcement: the name, with NUL behind it, and what is read of it.
use Rattle.std.proofs.Common.{◌≡◌, ◌<◌, ◌≤◌, ◌+◌, ◌-◌, ◌^◌, ◌%◌, ◌∙◌, ℕ, zero, suc, Bool, true, List, [], ◌∷◌, ◌++◌, length, take, drop, replicate, codes, decimal, refl, sym, ap, arith, lit<, append_assoc, length-append}
use Rattle.std.specs.Prelude.{◌==◌, not, nat_le, nat_lt, take_while, IsTrue}
use Rattle.std.specs.List.{list_all}
use Rattle.std.proofs.lemmas.List.{length-replicate, take-append-le, take-replicate}
use Rattle.std.proofs.lemmas.List.Folds.{list_all-append}
use Rattle.std.proofs.lemmas.List.Sums.{take_while-cons}
use Rattle.std.proofs.Math.Seq.{drop-append_seam, take-append-add}
use Rattle.std.proofs.lemmas.Bool.{and_from, and_parts, le-leb, leb-true, lt-ltb, ne_eqb}
use Rattle.std.proofs.lemmas.Fmt.{decimal_by_steps, length-decimal-le}
use Rattle.mc_base.specs.Announcement.{is_name, is_printable, name_in}
use Rattle.mc_base.specs.FullName.{colon, full_name, is_in_range}
use Rattle.mc_base.specs.declared.name.EndName.{EndName}
use Rattle.mc_base.proofs.FullNames.{in_range-small}

-- NUL in what is left of a name's field
abbrev pub nuls : List ℕ → List ℕ
nuls name = replicate (32 - length name) 0

-- a name's field has 32 bytes
pub length-field : (name : List ℕ) → length name ≤ 31 → length (name ++ nuls name) ≡ 32
length-field name short = omega (arith, length-append name (nuls name), length-replicate {A = ℕ} (32 - length name) 0)

-- what stands behind a name's field
pub drop-field : (name rest : List ℕ) → length name ≤ 31 → drop 32 (name ++ (nuls name ++ rest)) ≡ rest
drop-field name rest short =
    let field = name ++ nuls name in
    let long : length field ≡ 32 = length-field name short in
    ap (drop 32) (sym (append_assoc name (nuls name) rest)) ∙ ap (λ n. drop n (field ++ rest)) (sym long) ∙ drop-append_seam field rest

-- the bytes that are no NUL
abbrev pub is_more : ℕ → Bool
is_more b = not (b == 0)

printable_is_more : (b : ℕ) → is_printable b ≡ true → is_more b ≡ true
printable_is_more b printable =
    let low : 0x20 ≤ b = leb-true 0x20 b (and_parts (nat_le 0x20 b) (nat_le b 0x7e) printable).0 in
    ap not (ne_eqb b 0 (λ e. omega arith))

-- the bytes before the first NUL of a name with NUL behind it
before-nuls : (name : List ℕ) (m : ℕ) → list_all is_printable name ≡ true → take_while is_more (name ++ replicate m 0) ≡ name
before-nuls [] zero printable = refl
before-nuls [] (suc m) printable = refl
before-nuls (b ∷ name) m printable =
    let parts = and_parts (is_printable b) (list_all is_printable name) printable in
    let more : is_more b ≡ true = printable_is_more b parts.0 in
    let rest = before-nuls name m parts.1 in
    take_while-cons is_more b (name ++ replicate m 0) ∙ rw (more, rest) refl

first-31 : (name rest : List ℕ) → length name ≤ 31 → take 31 (name ++ (nuls name ++ rest)) ≡ name ++ replicate (31 - length name) 0
first-31 name rest short =
    let field = name ++ nuls name in
    let n = length name in
    let long : length field ≡ 32 = length-field name short in
    let split : n + (31 - n) ≡ 31 = omega arith in
    ap (take 31) (sym (append_assoc name (nuls name) rest))
    ∙ take-append-le 31 field rest (omega arith)
    ∙ ap (λ k. take k field) (sym split)
    ∙ take-append-add name (nuls name) (31 - n)
    ∙ ap (λ (xs : List ℕ). name ++ xs) (take-replicate (31 - n) (32 - n) 0 (omega arith))

pub name_in-announcement : (name rest : List ℕ) → length name ≤ 31 → IsTrue (is_name name) → name_in (name ++ (nuls name ++ rest)) ≡ name
name_in-announcement name rest short lawful =
    let printable = (and_parts (nat_lt 0 (length name)) (list_all is_printable name) lawful).1 in
    ap (take_while is_more) (first-31 name rest short) ∙ before-nuls name (31 - length name) printable

-- ---- full names are names

digit : (d : ℕ) → d < 10 → list_all is_printable ((48 + d) ∷ []) ≡ true
digit d lt = and_from (is_printable (48 + d)) true (and_from (nat_le 32 (48 + d)) (nat_le (48 + d) 126) (le-leb 32 (48 + d) (omega arith)) (le-leb (48 + d) 126 (omega arith))) refl

both : (xs ys : List ℕ) → list_all is_printable xs ≡ true → list_all is_printable ys ≡ true → list_all is_printable (xs ++ ys) ≡ true
both xs ys first second = list_all-append is_printable xs ys ∙ and_from (list_all is_printable xs) (list_all is_printable ys) first second

numeral : (n : ℕ) → n < 2 ^ 64 → list_all is_printable (decimal n) ≡ true
numeral n fits = decimal_by_steps (λ m ds. list_all is_printable ds ≡ true) (λ m lt. digit m lt) (λ m ds least all. both ds ((48 + m % 10) ∷ []) all (digit (m % 10) (omega arith))) n fits

-- how long the numbers are
pub length-three : (n : ℕ) → n < 256 → length (decimal n) ≤ 3
length-three n fits = length-decimal-le 3 n (lit< tt) (omega arith) (omega arith)

pub length-five : (n : ℕ) → n < 65536 → length (decimal n) ≤ 5
length-five n fits = length-decimal-le 5 n (lit< tt) (omega arith) (omega arith)

pub full-name-is-name : (n : EndName) → n.domain < 256 → n.node < 256 → n.port < 65536 → is_name (full_name n) ≡ true
full-name-is-name n domain_fits node_fits port_fits =
    and_from (nat_lt 0 (length (full_name n))) (list_all is_printable (full_name n))
    (lt-ltb 0 (length (full_name n)) (begun 109 (codes "capi:" ++ (decimal n.domain ++ (colon ∷ (decimal n.node ++ (colon ∷ decimal n.port)))))))
    (both (codes "mcapi:") (decimal n.domain ++ (colon ∷ (decimal n.node ++ (colon ∷ decimal n.port)))) refl
    (both (decimal n.domain) (colon ∷ (decimal n.node ++ (colon ∷ decimal n.port))) (numeral n.domain (omega arith))
    (both (colon ∷ []) (decimal n.node ++ (colon ∷ decimal n.port)) refl
    (both (decimal n.node) (colon ∷ decimal n.port) (numeral n.node (omega arith))
    (both (colon ∷ []) (decimal n.port) refl (numeral n.port (omega arith)))))))
  where
    begun : (x : ℕ) (xs : List ℕ) → 0 < length (x ∷ xs)
    begun x xs = omega arith

-- so the full name of an endpoint in range fits a name's field, and is a name
pub full-name-fits : (n : EndName) → is_in_range n ≡ true → length (full_name n) ≤ 31
full-name-fits n ranged =
    let s = in_range-small n ranged in
    let d = length-three n.domain (omega (arith, s.domain)) in
    let e = length-three n.node (omega (arith, s.node)) in
    let p = length-five n.port (omega (arith, s.port)) in
    let rest : List ℕ = decimal n.node ++ (colon ∷ decimal n.port) in
    omega (arith, d, e, p, length-append (codes "mcapi:") (decimal n.domain ++ (colon ∷ rest)), length-append (decimal n.domain) (colon ∷ rest), length-append (decimal n.node) (colon ∷ decimal n.port))

pub full-name-read : (n : EndName) (rest : List ℕ) → is_in_range n ≡ true → name_in (full_name n ++ (nuls (full_name n) ++ rest)) ≡ full_name n
full-name-read n rest ranged =
    let s = in_range-small n ranged in
    name_in-announcement (full_name n) rest (full-name-fits n ranged) (full-name-is-name n (omega (arith, s.domain)) (omega (arith, s.node)) (omega (arith, s.port)))
