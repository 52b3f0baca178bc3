-- The links of a domain 3 to domains 0, 2 and 5: they are those of a domain, and open.
use Rattle.std.proofs.Common.{◌≡◌, ◌∙◌, ℕ, List, [], ◌∷◌, ◌++◌, refl, sym, ap, subst, arith}
use Rattle.std.proofs.lemmas.List.FromFn.{length-range_with_len}
use Rattle.std.specs.List.{AllByRecursion}
use Rattle.lane_end.specs.Numbers.{IsLaneSize}
use Rattle.domain_core.specs.Carrying.{PlainLink}
use Rattle.domain_core.specs.Opening.{AreLinksOf}
use Rattle.linked_pair.specs.Links.{IsOpen, new_link}

new-open : (peer size : ℕ) → IsLaneSize size → IsOpen (new_link peer size)
new-open peer size fits = record { size_to_is = refl; size_from_is = refl; fits = fits.1; all_free = length-range_with_len 0 size; none_shown = refl; none_out = refl }

abbrev pub three_new : List PlainLink
three_new = new_link 0 1 ∷ new_link 2 2 ∷ new_link 5 256 ∷ []

pub three-are : (ls : List PlainLink) → ls ≡ three_new → AreLinksOf 3 ls
three-are ls is = subst (λ (xs : List PlainLink). AreLinksOf 3 xs) (sym is) (record {
  rising = ((omega arith, (omega arith, tt)), ((omega arith, tt), (tt, tt)));
  others = ((λ e. omega arith), ((λ e. omega arith), ((λ e. omega arith), tt)));
  few = (omega arith, (omega arith, (omega arith, tt)));
})

pub three-open : (ls : List PlainLink) → ls ≡ three_new → AllByRecursion IsOpen ls
three-open ls is = subst (λ (xs : List PlainLink). AllByRecursion IsOpen xs) (sym is) (
  new-open 0 1 (omega arith, omega arith),
  (new-open 2 2 (omega arith, omega arith), (new-open 5 256 (omega arith, omega arith), tt)),
)

-- one after the other
pub three-pushed : (none one two three : List PlainLink) (a b c : PlainLink) → none ≡ [] → one ≡ none ++ a ∷ [] → two ≡ one ++ b ∷ [] → three ≡ two ++ c ∷ [] → a ≡ new_link 0 1 → b ≡ new_link 2 2 → c ≡ new_link 5 256 → three ≡ three_new
three-pushed none one two three a b c empty first second third is-a is-b is-c =
    third
    ∙ ap (λ (xs : List PlainLink). xs ++ c ∷ []) (second ∙ ap (λ (xs : List PlainLink). xs ++ b ∷ []) (first ∙ ap (λ (xs : List PlainLink). xs ++ a ∷ []) empty))
    ∙ ap (λ (x : PlainLink). x ∷ b ∷ c ∷ []) is-a
    ∙ ap (λ (x : PlainLink). new_link 0 1 ∷ x ∷ c ∷ []) is-b
    ∙ ap (λ (x : PlainLink). new_link 0 1 ∷ new_link 2 2 ∷ x ∷ []) is-c
