-- Scripts of different domains, one after the other: each domain has its own again, and the lines are those of the domains in rising number.
use Rattle.std.proofs.Common.{◌≡◌, ℕ, ◌+◌, ◌≤◌, Bool, true, false, ◌||◌, cond, List, [], ◌∷◌, ◌++◌, map, filter, length, sum_by, refl, sym, ap, subst, ◌∙◌, arith, length-append, eq-eqb, append-nil}
use Rattle.std.specs.Prelude.{◌==◌}
use Rattle.std.specs.List.{AllByRecursion, flat_map, list_any}
use Rattle.std.proofs.lemmas.Bool.{ne_eqb, or_left, or_right}
use Rattle.std.proofs.lemmas.List.Elements.{filter-append}
use Rattle.std.proofs.lemmas.List.Sums.{sum_by-cons}
use Rattle.board_model.specs.declared.scenario.CallLine.{CallLine}
use Rattle.board_model.specs.declared.scenario.DomainLine.{DomainLine}
use Rattle.board_model.specs.declared.scenario.Scenario.{Scenario}
use Rattle.board_model.specs.LineReasons.{is_domain}
use Rattle.board_model.specs.LinkedBoard.{Differ}
use Rattle.board_model.specs.Scenario.{rising, script}
use Rattle.board_model.proofs.ListsApart.{all-map}
use Rattle.board_model.proofs.MessageAlls.{all-append, all-weaken, all-with}
use Rattle.board_model.proofs.PlaceBoards.{rising_all}
use Rattle.board_runner.specs.Scripts.{DomainScript, all_lines}

abbrev IsOwn : ℕ → CallLine → Type 0
IsOwn d c = c.domain ≡ d

abbrev pub AreOwn : DomainScript → Type 0
AreOwn x = AllByRecursion (λ c. c.domain ≡ x.domain) x.lines

-- ---- the lines of a domain among those of all

own_kept : (d : ℕ) (lines : List CallLine) → AllByRecursion (IsOwn d) lines → filter (λ c. c.domain == d) lines ≡ lines
own_kept d [] own = refl
own_kept d (c ∷ cs) own = ap (λ b. cond b (c ∷ filter (λ k. k.domain == d) cs) (filter (λ k. k.domain == d) cs)) (eq-eqb c.domain d own.0) ∙ ap (λ ks. c ∷ ks) (own_kept d cs own.1)

others_left : (d e : ℕ) (lines : List CallLine) → (e ≡ d → ⊥) → AllByRecursion (IsOwn e) lines → filter (λ c. c.domain == d) lines ≡ []
others_left d e [] apart own = refl
others_left d e (c ∷ cs) apart own =
    ap (λ b. cond b (c ∷ filter (λ k. k.domain == d) cs) (filter (λ k. k.domain == d) cs)) (ne_eqb c.domain d (λ same. apart (sym own.0 ∙ same))) ∙ others_left d e cs apart own.1

none_later : (d : ℕ) (xs : List DomainScript) → AllByRecursion (λ m. m ≡ d → ⊥) (map (λ x. x.domain) xs) → AllByRecursion AreOwn xs → filter (λ c. c.domain == d) (all_lines xs) ≡ []
none_later d [] differ own = refl
none_later d (x ∷ xs) differ own =
    filter-append (λ (c : CallLine). c.domain == d) x.lines (all_lines xs)
    ∙ ap (λ ks. ks ++ filter (λ c. c.domain == d) (all_lines xs)) (others_left d x.domain x.lines differ.0 own.0)
    ∙ none_later d xs differ.1 own.1

abbrev IsKept : List CallLine → DomainScript → Type 0
IsKept lines x = filter (λ c. c.domain == x.domain) lines ≡ x.lines

kept_behind : (front lines : List CallLine) (e : ℕ) (xs : List DomainScript) → AllByRecursion (IsOwn e) front → AllByRecursion (λ m. m ≡ e → ⊥) (map (λ x. x.domain) xs) → AllByRecursion (IsKept lines) xs → AllByRecursion (IsKept (front ++ lines)) xs
kept_behind front lines e [] own differ kept = tt
kept_behind front lines e (x ∷ xs) own differ kept = (
  filter-append (λ (c : CallLine). c.domain == x.domain) front lines
      ∙ ap (λ ks. ks ++ filter (λ c. c.domain == x.domain) lines) (others_left x.domain e front (λ same. differ.0 (sym same)) own)
      ∙ kept.0,
  kept_behind front lines e xs own differ.1 kept.1,
)

pub scripts-kept : (xs : List DomainScript) → Differ (map (λ x. x.domain) xs) → AllByRecursion AreOwn xs → AllByRecursion (λ x. filter (λ c. c.domain == x.domain) (all_lines xs) ≡ x.lines) xs
scripts-kept [] differ own = tt
scripts-kept (x ∷ xs) differ own = (
  filter-append (λ (c : CallLine). c.domain == x.domain) x.lines (all_lines xs)
      ∙ ap (λ ks. ks ++ filter (λ c. c.domain == x.domain) (all_lines xs)) (own_kept x.domain x.lines own.0)
      ∙ ap (λ ks. x.lines ++ ks) (none_later x.domain xs differ.0 own.1)
      ∙ append-nil x.lines,
  kept_behind x.lines (all_lines xs) x.domain xs own.0 differ.0 (scripts-kept xs differ.1 own.1),
)

-- the lines are those of the domains, one domain after the other
pub lines-by_domain : (lines : List CallLine) (ds : List DomainLine) (xs : List DomainScript) → map (λ x. x.domain) xs ≡ map (λ d. d.domain) ds → AllByRecursion (λ x. filter (λ c. c.domain == x.domain) lines ≡ x.lines) xs → flat_map (λ d. filter (λ c. c.domain == d.domain) lines) ds ≡ all_lines xs
lines-by_domain lines [] [] same kept = refl
lines-by_domain lines [] (x ∷ xs) same kept = absurd cc
lines-by_domain lines (d ∷ ds) [] same kept = absurd cc
lines-by_domain lines (d ∷ ds) (x ∷ xs) same kept =
    let here : x.domain ≡ d.domain = cc in
    let rest : map (λ (y : DomainScript). y.domain) xs ≡ map (λ (e : DomainLine). e.domain) ds = cc in
    ap (λ ks. ks ++ flat_map (λ e. filter (λ c. c.domain == e.domain) lines) ds) (ap (λ n. filter (λ (c : CallLine). c.domain == n) lines) (sym here) ∙ kept.0)
    ∙ ap (λ ks. x.lines ++ ks) (lines-by_domain lines ds xs rest kept.1)

-- ---- how many lines there are

pub lines-few : (xs : List DomainScript) → length (all_lines xs) ≡ sum_by (λ x. length x.lines) xs
lines-few [] = refl
lines-few (x ∷ xs) = length-append x.lines (all_lines xs) ∙ ap (λ n. length x.lines + n) (lines-few xs) ∙ sym (sum_by-cons (λ (y : DomainScript). length y.lines) x xs)

-- ---- the domains of a board

abbrev tells_one : ℕ → DomainLine → Bool
tells_one n d = d.domain == n

each_told : (ds : List DomainLine) → AllByRecursion (λ n. list_any (tells_one n) ds ≡ true) (map (λ d. d.domain) ds)
each_told [] = tt
each_told (d ∷ ds) = (
  or_left (d.domain == d.domain) (list_any (tells_one d.domain) ds) (eq-eqb d.domain d.domain refl),
  all-weaken (λ n. list_any (tells_one n) ds ≡ true) (λ n. list_any (tells_one n) (d ∷ ds) ≡ true) (λ n told. or_right (d.domain == n) (list_any (tells_one n) ds) told) (map (λ e. e.domain) ds) (each_told ds),
)

pub rising-told : (s : Scenario) → AllByRecursion (λ n. is_domain s n ≡ true) (map (λ d. d.domain) (rising s))
rising-told s = rising_all (λ n. is_domain s n ≡ true) s.domains (each_told s.domains)
