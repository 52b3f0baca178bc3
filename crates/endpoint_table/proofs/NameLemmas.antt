-- The bytes of an endpoint's name.
use Rattle.std.proofs.Common.{◌≡◌, ◌<◌, ◌≤◌, ◌+◌, ◌^◌, ◌%◌, ◌∙◌, ℕ, true, List, [], ◌∷◌, ◌++◌, length, codes, decimal, refl, arith, lit<}
use Rattle.std.specs.Prelude.{nat_le, nat_lt}
use Rattle.std.specs.List.{list_all}
use Rattle.std.proofs.lemmas.Bool.{le-leb, lt-ltb, and_from}
use Rattle.std.proofs.lemmas.Fmt.{decimal_by_steps, length-decimal-le}
use Rattle.std.proofs.lemmas.List.Folds.{list_all-append}
use Rattle.mc_base.specs.declared.name.Local.{Local}
use Rattle.mc_base.specs.Announcement.{is_name, is_printable}
use Rattle.endpoint_table.specs.Table.{name_of}

printable-digit : (d : ℕ) → d < 10 → list_all is_printable ((48 + d) ∷ []) ≡ true
printable-digit d lt = and_from (is_printable (48 + d)) true (and_from (nat_le 32 (48 + d)) (nat_le (48 + d) 126) (le-leb 32 (48 + d) (omega arith)) (le-leb (48 + d) 126 (omega arith))) refl

both : (xs ys : List ℕ) → list_all is_printable xs ≡ true → list_all is_printable ys ≡ true → list_all is_printable (xs ++ ys) ≡ true
both xs ys first second = list_all-append is_printable xs ys ∙ and_from (list_all is_printable xs) (list_all is_printable ys) first second

printable-decimal : (n : ℕ) → n < 2 ^ 64 → list_all is_printable (decimal n) ≡ true
printable-decimal n fits = decimal_by_steps (λ m ds. list_all is_printable ds ≡ true) (λ m lt. printable-digit m lt) (λ m ds least all. both ds ((48 + m % 10) ∷ []) all (printable-digit (m % 10) (omega arith))) n fits

pub name-is-printable : (domain : ℕ) (local : Local) → domain < 2 ^ 64 → local.node < 2 ^ 64 → local.port < 2 ^ 64 → list_all is_printable (name_of domain local) ≡ true
name-is-printable domain local domain_fits node_fits port_fits =
    both (codes "mcapi:") (decimal domain ++ (codes ":" ++ (decimal local.node ++ (codes ":" ++ decimal local.port)))) refl
    (both (decimal domain) (codes ":" ++ (decimal local.node ++ (codes ":" ++ decimal local.port))) (printable-decimal domain domain_fits)
    (both (codes ":") (decimal local.node ++ (codes ":" ++ decimal local.port)) refl
    (both (decimal local.node) (codes ":" ++ decimal local.port) (printable-decimal local.node node_fits)
    (both (codes ":") (decimal local.port) refl (printable-decimal local.port port_fits)))))

-- how long the numbers are
pub decimal-three : (n : ℕ) → n < 256 → length (decimal n) ≤ 3
decimal-three n fits = length-decimal-le 3 n (lit< tt) (omega arith) (omega arith)

pub decimal-five : (n : ℕ) → n < 65536 → length (decimal n) ≤ 5
decimal-five n fits = length-decimal-le 5 n (lit< tt) (omega arith) (omega arith)

pub name-is-name : (domain : ℕ) (local : Local) → domain < 256 → local.node < 256 → local.port < 65536 → is_name (name_of domain local) ≡ true
name-is-name domain local domain_fits node_fits port_fits =
    and_from (nat_lt 0 (length (name_of domain local))) (list_all is_printable (name_of domain local))
    (lt-ltb 0 (length (name_of domain local)) (begun 109 (codes "capi:" ++ (decimal domain ++ (codes ":" ++ (decimal local.node ++ (codes ":" ++ decimal local.port)))))))
    (name-is-printable domain local (omega arith) (omega arith) (omega arith))
  where
    begun : (x : ℕ) (xs : List ℕ) → 0 < length (x ∷ xs)
    begun x xs = omega arith
