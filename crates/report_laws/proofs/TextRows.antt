-- The text of lines, put together.
use Rattle.std.proofs.Common.{◌≡◌, ℕ, List, [], ◌∷◌, ◌++◌, map, refl, ap}
use Rattle.std.specs.List.{flat_map}
use Rattle.std.proofs.lemmas.List.Concat.{flat_map-append}
use Rattle.report_text.specs.ScenarioPart.{text_of}

pub text-append : (xs ys : List (List ℕ)) → text_of (xs ++ ys) ≡ text_of xs ++ text_of ys
text-append xs ys = flat_map-append (λ l. l) xs ys

pub text-map : {A : Type 0} (f : A → List ℕ) (xs : List A) → text_of (map f xs) ≡ flat_map f xs
text-map f [] = refl
text-map f (x ∷ xs) = ap (λ (t : List ℕ). f x ++ t) (text-map f xs)
