-- The tallies of a board that ran, place by place.
use Rattle.std.proofs.Common.{◌≡◌, ℕ, zero, suc, ◌<◌, List, [], ◌∷◌, length, map, get_or, Some, find, slice_get, refl, sym, ap, ◌∙◌, subst, arith}
use Rattle.std.proofs.lemmas.List.{length-map}
use Rattle.board_model.specs.declared.scenario.Scenario.{Scenario}
use Rattle.board_model.specs.LinkedBoard.{IsLinkedBoard}
use Rattle.board_model.specs.SerialRun.{Station, is_station}
use Rattle.board_model.proofs.MessageAlls.{all-at}
use Rattle.board_numbers.specs.declared.tally.Tally.{Tally}
use Rattle.board_numbers.specs.Lanes.{numbers_of}
use Rattle.board_numbers.specs.Tallied.{IsTally, AreTallies, RanBoard, IsTallyOf}
use Rattle.board_numbers.proofs.RanLemmas.{stations_numbers, stations_found}

tallies_length : (s : Scenario) (ts : List Station) (ys : List Tally) → AreTallies s ts ys → length ys ≡ length ts
tallies_length s [] [] all = refl
tallies_length s [] (y ∷ ys) all = absurd all
tallies_length s (t ∷ ts) [] all = absurd all
tallies_length s (t ∷ ts) (y ∷ ys) all = omega (arith, tallies_length s ts ys all.1)

pub tally_in : (s : Scenario) (ts : List Station) (ys : List Tally) → AreTallies s ts ys → (i : ℕ) (d : Tally) → i < length ys → (t : Station) × (slice_get ts i ≡ Some t) × IsTally s t (get_or ys i d)
tally_in s [] [] all i d within = absurd (omega (arith, within))
tally_in s [] (y ∷ ys) all i d within = absurd all
tally_in s (t ∷ ts) [] all i d within = absurd all
tally_in s (t ∷ ts) (y ∷ ys) all zero d within = (t, refl, all.0)
tally_in s (t ∷ ts) (y ∷ ys) all (suc i) d within = tally_in s ts ys all.1 i d (omega (arith, within))

pub number_in : (ts : List Station) (i : ℕ) (t : Station) → slice_get ts i ≡ Some t → get_or (map (λ (x : Station). x.line.domain) ts) i 0 ≡ t.line.domain
number_in [] i t at = absurd cc
number_in (x ∷ ts) zero t at = let same : x ≡ t = cc in ap (λ (y : Station). y.line.domain) same
number_in (x ∷ ts) (suc i) t at = number_in ts i t at

-- there are as many as domains
pub tallies-length : (s : Scenario) (ts : List Station) → RanBoard s ts → (ys : List Tally) → AreTallies s ts ys → length ys ≡ length (numbers_of s)
tallies-length s ts ran ys all = tallies_length s ts ys all ∙ sym (length-map ts (λ (t : Station). t.line.domain)) ∙ sym (ap length (stations_numbers s ts ran))

-- the one at a place is that of the domain there
pub tally-at : (s : Scenario) → IsLinkedBoard s → (ts : List Station) → RanBoard s ts → (ys : List Tally) → AreTallies s ts ys → (i : ℕ) (d : Tally) → i < length ys → IsTallyOf s ts (get_or (numbers_of s) i 0) (get_or ys i d)
tally-at s board ts ran ys all i d within = go (tally_in s ts ys all i d within)
  where
    go : ((t : Station) × (slice_get ts i ≡ Some t) × IsTally s t (get_or ys i d)) → IsTallyOf s ts (get_or (numbers_of s) i 0) (get_or ys i d)
    go (t, at, is) =
        let number : t.line.domain ≡ get_or (numbers_of s) i 0 = sym (ap (λ ns. get_or ns i 0) (stations_numbers s ts ran) ∙ number_in ts i t at) in
        let found = all-at (λ x. find (is_station x.line.domain) ts ≡ Some x) ts i t (stations_found s board ts ran) at in
        (t, subst (λ n. find (is_station n) ts ≡ Some t) number found, is)
