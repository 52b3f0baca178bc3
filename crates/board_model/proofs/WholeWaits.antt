-- Waits of a board that runs serially: what turns leave of the stations of other domains, and of the requests that a wait names.
use Rattle.std.proofs.Common.{◌≡◌, ℕ, zero, suc, cond, ◌&&◌, List, [], ◌∷◌, length, Option, Some, None, slice_get, is_some, position, option_and_then, refl, sym, ap, ap₂, ◌∙◌, arith}
use Rattle.std.specs.Prelude.{◌==◌}
use Rattle.std.specs.List.{AllByRecursion, list_all}
use Rattle.std.proofs.lemmas.Bool.{ne_eqb}
use Rattle.std.proofs.lemmas.List.{length-map}
use Rattle.board_model.specs.declared.scenario.Scenario.{Scenario}
use Rattle.board_model.specs.Journal.{turned, Visit}
use Rattle.board_model.specs.State.{DomainState, Request, place_of_request}
use Rattle.board_model.specs.Answer.{stands_at}
use Rattle.board_model.specs.Labels.{Labelled, serial_of, place_of_label}
use Rattle.board_model.specs.Turn.{after_turn}
use Rattle.board_model.specs.Loads.{turn_of, loads_turned}
use Rattle.board_model.specs.SerialRun.{Station, Running, turned_by, turned_once, all_turned}
use Rattle.board_model.proofs.SerialRequests.{turn_serials, place_is}
use Rattle.board_model.proofs.WholeStations.{station, station_after, entered_all}

-- ---- stations

-- a turn of another domain leaves a station
other_stays : (s : Scenario) (r : Running) (d n : ℕ) → (n ≡ d → ⊥) → station (turned_once s r d) n ≡ station r n
other_stays s r d n differ = go (station r d) refl
  where
    go : (o : Option Station) → station r d ≡ o → station (turned_by s d o r) n ≡ station r n
    go None e = refl
    go (Some t) e =
        station_after s d (turned (turn_of t.run.state r.loads) ∷ []) (record r { loads = loads_turned t.run.state r.loads }) t e n
        ∙ ap (λ b. cond b (Some (entered_all s (turned (turn_of t.run.state r.loads) ∷ []) t)) (station r n)) (ne_eqb n d differ)

pub others_stay : (s : Scenario) (r : Running) (ds : List ℕ) (n : ℕ) → AllByRecursion (λ d. n ≡ d → ⊥) ds → station (all_turned s r ds) n ≡ station r n
others_stay s r [] n all = refl
others_stay s r (d ∷ ds) n all = others_stay s (turned_once s r d) ds n all.1 ∙ other_stays s r d n all.0

-- ---- requests

get_some : (rs ss : List Request) (i : ℕ) → length rs ≡ length ss → is_some (slice_get rs i) ≡ is_some (slice_get ss i)
get_some [] [] i e = refl
get_some [] (y ∷ ss) i e = absurd (omega (arith, e))
get_some (x ∷ rs) [] i e = absurd (omega (arith, e))
get_some (x ∷ rs) (y ∷ ss) zero e = refl
get_some (x ∷ rs) (y ∷ ss) (suc i) e = get_some rs ss i (omega (arith, e))

module _ (s : DomainState) (vs : List Visit) where
  turn_many : length (after_turn s vs).requests ≡ length s.requests
  turn_many = sym (length-map (after_turn s vs).requests (λ r. r.serial)) ∙ (ap length (turn_serials s vs) ∙ length-map s.requests (λ r. r.serial))

  turn_stands : (place : Option ℕ) → stands_at (after_turn s vs) place ≡ stands_at s place
  turn_stands None = refl
  turn_stands (Some i) = get_some (after_turn s vs).requests s.requests i turn_many

  -- a turn ends no request
  pub turn_all_stand : (places : List (Option ℕ)) → list_all (stands_at (after_turn s vs)) places ≡ list_all (stands_at s) places
  turn_all_stand [] = refl
  turn_all_stand (p ∷ ps) = ap₂ (λ a b. a && b) (turn_stands p) (turn_all_stand ps)

  -- and leaves the places of labels
  pub turn_place : (labels : List Labelled) (label : List ℕ) → place_of_label labels (after_turn s vs) label ≡ place_of_label labels s label
  turn_place labels label = go (serial_of labels label)
    where
      go : (o : Option ℕ) → option_and_then (place_of_request (after_turn s vs)) o ≡ option_and_then (place_of_request s) o
      go None = refl
      go (Some n) = place_is (after_turn s vs) n ∙ (ap (position (λ m. m == n)) (turn_serials s vs) ∙ sym (place_is s n))
