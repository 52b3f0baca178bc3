-- The lines of a report's numbers are read where each has its form.
use Rattle.std.proofs.Common.{◌≡◌, ℕ, ◌+◌, true, false, cond, List, [], ◌∷◌, ◌++◌, map, refl, ap, ◌∙◌, append_assoc}
use Rattle.std.specs.Prelude.{Result, Ok, Err}
use Rattle.std.specs.List.{AllByRecursion, flat_map}
use Rattle.std.proofs.lemmas.List.{map-append}
use Rattle.std.proofs.lemmas.Simd.{map-map}
use Rattle.board_model.specs.declared.scenario.DomainLine.{DomainLine}
use Rattle.board_model.specs.declared.scenario.LinkLine.{LinkLine}
use Rattle.board_model.specs.declared.scenario.Scenario.{Scenario}
use Rattle.board_model.specs.Board.{DomainJournal}
use Rattle.board_model.specs.Places.{places_of}
use Rattle.board_model.specs.Report.{Mode, serial, threads, channel_text, messages_text, places_text, ending}
use Rattle.board_model.specs.Scenario.{Lane, lane_to, lanes, neighbours, rising}
use Rattle.board_model.specs.Totals.{channel_totals, totals}
use Rattle.board_model.proofs.MessageAlls.{all-parts}
use Rattle.ring_numbers.specs.BoardRings.{image_of_queue}
use Rattle.ring_numbers.specs.RingTexts.{ring_text}
use Rattle.report_text.specs.ReportLines.{FormWord, has_form, channel_form, messages_form, lane_form, ring_form}
use Rattle.report_text.specs.ScenarioPart.{Rest, rest}
use Rattle.report_text.specs.TextPass.{◌>>=◌, line_by, one_line, channels_from, lanes_from, board_lanes_from, rings_from, rings_in, ending_from, numbers_from}
use Rattle.report_text.specs.TotalPass.{number_texts, rings_due}

abbrev HasForm : List FormWord → List ℕ → Type 0
HasForm form l = has_form form l ≡ true

pub row-read : (form : List FormWord) (n : ℕ) (l : List ℕ) (ls : List (List ℕ)) → HasForm form l → line_by form n (l ∷ ls) ≡ Ok (rest (n + 1) ls)
row-read form n l ls is = ap (λ t. cond t (Ok (rest (n + 1) ls)) (Err n)) is

-- ---- channels, and behind them another line

channels-read : (rows : List (List ℕ)) (l : List ℕ) (ls : List (List ℕ)) → AllByRecursion (HasForm channel_form) rows → has_form channel_form l ≡ false → (n : ℕ) → (k : ℕ) × (channels_from n (rows ++ l ∷ ls) ≡ rest k (l ∷ ls))
channels-read [] l ls all other n = (n, ap (λ t. cond t (channels_from (n + 1) ls) (rest n (l ∷ ls))) other)
channels-read (r ∷ rows) l ls all other n =
    let behind = channels-read rows l ls all.1 other (n + 1) in
    (behind.0, ap (λ t. cond t (channels_from (n + 1) (rows ++ l ∷ ls)) (rest n (r ∷ (rows ++ l ∷ ls)))) all.0 ∙ behind.1)

-- ---- lanes

module _ (text : Lane → List ℕ) where
  abbrev LaneHasForm : Lane → Type 0
  LaneHasForm l = HasForm (lane_form l.sender l.receiver) (text l)

  lanes-read : (ls : List Lane) (more : List (List ℕ)) → AllByRecursion LaneHasForm ls → (n : ℕ) → (k : ℕ) × (lanes_from ls (rest n (map text ls ++ more)) ≡ Ok (rest k more))
  lanes-read [] more all n = (n, refl)
  lanes-read (l ∷ ls) more all n =
      let behind = lanes-read ls more all.1 (n + 1) in
      (behind.0, ap (λ (o : Result Rest ℕ). o >>= lanes_from ls) (row-read (lane_form l.sender l.receiver) n (text l) (map text ls ++ more) all.0) ∙ behind.1)

  abbrev lanes_of : Scenario → DomainLine → List Lane
  lanes_of s d = map (lane_to d.domain) (neighbours s d)

  board-lanes-read : (s : Scenario) (ds : List DomainLine) (more : List (List ℕ)) → AllByRecursion LaneHasForm (flat_map (λ d. map (lane_to d.domain) (neighbours s d)) ds) → (n : ℕ) →
      (k : ℕ) × (board_lanes_from s ds (rest n (map text (flat_map (λ d. map (lane_to d.domain) (neighbours s d)) ds) ++ more)) ≡ Ok (rest k more))
  board-lanes-read s [] more all n = (n, refl)
  board-lanes-read s (d ∷ ds) more all n =
      let here : List Lane = map (lane_to d.domain) (neighbours s d) in
      let later : List Lane = flat_map (λ (e : DomainLine). map (lane_to e.domain) (neighbours s e)) ds in
      let parts = all-parts LaneHasForm here later all in
      let one = lanes-read here (map text later ++ more) parts.0 n in
      let others = board-lanes-read s ds more parts.1 one.0 in
      let rows : map text (here ++ later) ++ more ≡ map text here ++ (map text later ++ more) = ap (λ (xs : List (List ℕ)). xs ++ more) (map-append text here later) ∙ append_assoc (map text here) (map text later) more in
      (others.0, ap (λ (xs : List (List ℕ)). lanes_from here (rest n xs) >>= board_lanes_from s ds) rows ∙ ap (λ (o : Result Rest ℕ). o >>= board_lanes_from s ds) one.1 ∙ others.1)

-- ---- rings

module _ (image : LinkLine → ℕ → List ℕ) where
  abbrev RingsHaveForm : LinkLine → Type 0
  RingsHaveForm l = HasForm (ring_form l 0) (ring_text l 0 (image l 0)) × HasForm (ring_form l 1) (ring_text l 1 (image l 1))

  rings-read : (ls : List LinkLine) (more : List (List ℕ)) → AllByRecursion RingsHaveForm ls → (n : ℕ) →
      (k : ℕ) × (rings_from ls (rest n (flat_map (λ l. ring_text l 0 (image l 0) ∷ ring_text l 1 (image l 1) ∷ []) ls ++ more)) ≡ Ok (rest k more))
  rings-read [] more all n = (n, refl)
  rings-read (l ∷ ls) more all n =
      let later : List (List ℕ) = flat_map (λ (m : LinkLine). ring_text m 0 (image m 0) ∷ ring_text m 1 (image m 1) ∷ []) ls ++ more in
      let behind = rings-read ls more all.1 (n + 1 + 1) in (
        behind.0,
        ap (λ (o : Result Rest ℕ). o >>= (λ r. one_line (ring_form l 1) r >>= rings_from ls)) (row-read (ring_form l 0) n (ring_text l 0 (image l 0)) (ring_text l 1 (image l 1) ∷ later) all.0.0)
            ∙ ap (λ (o : Result Rest ℕ). o >>= rings_from ls) (row-read (ring_form l 1) (n + 1) (ring_text l 1 (image l 1)) later all.0.1)
            ∙ behind.1,
      )

-- ---- all lines of numbers

pub record NumbersHaveForms (s : Scenario) (js : List DomainJournal) : Type 0 where
  pub channels : AllByRecursion (HasForm channel_form) (map channel_text (channel_totals s js))
  pub messages : HasForm messages_form (messages_text (totals s js))
  pub no_channel : has_form channel_form (messages_text (totals s js)) ≡ false
  pub places : AllByRecursion (λ l. HasForm (lane_form l.sender l.receiver) (places_text (places_of s js l))) (lanes s)
  pub rings : AllByRecursion (λ l. HasForm (ring_form l 0) (ring_text l 0 (image_of_queue s js l 0)) × HasForm (ring_form l 1) (ring_text l 1 (image_of_queue s js l 1))) s.links

module _ (mode : Mode) (s : Scenario) (js : List DomainJournal) (forms : NumbersHaveForms s js) where
  rings-passed : (m : Mode) (more : List (List ℕ)) (n : ℕ) → (k : ℕ) × (rings_in m s (rest n (rings_due m s js ++ more)) ≡ Ok (rest k more))
  rings-passed serial more n = (n, refl)
  rings-passed threads more n = rings-read (image_of_queue s js) s.links more forms.rings n

  pub numbers-read : (n : ℕ) → (k : ℕ) × (numbers_from mode s (rest n (number_texts s js (rings_due mode s js))) ≡ Ok (rest k []))
  numbers-read n =
      let text : Lane → List ℕ = λ (l : Lane). places_text (places_of s js l) in
      let after_lanes : List (List ℕ) = rings_due mode s js ++ ending ∷ [] in
      let rows : map places_text (map (places_of s js) (lanes s)) ++ after_lanes ≡ map text (lanes s) ++ after_lanes = ap (λ (xs : List (List ℕ)). xs ++ after_lanes) (map-map places_text (places_of s js) (lanes s)) in
      let channels = channels-read (map channel_text (channel_totals s js)) (messages_text (totals s js)) (map places_text (map (places_of s js) (lanes s)) ++ after_lanes) forms.channels forms.no_channel n in
      let places = board-lanes-read text s (rising s) after_lanes forms.places (channels.0 + 1) in
      let rings = rings-passed mode (ending ∷ []) places.0 in
      let from_rings : Rest → Result Rest ℕ = λ r. rings_in mode s r >>= ending_from in
      let from_lanes : Rest → Result Rest ℕ = λ r. board_lanes_from s (rising s) r >>= from_rings in (
        rings.0 + 1,
        ap (λ (r : Rest). one_line messages_form r >>= from_lanes) channels.1
            ∙ ap (λ (o : Result Rest ℕ). o >>= from_lanes) (row-read messages_form channels.0 (messages_text (totals s js)) (map places_text (map (places_of s js) (lanes s)) ++ after_lanes) forms.messages)
            ∙ ap (λ (xs : List (List ℕ)). from_lanes (rest (channels.0 + 1) xs)) rows
            ∙ ap (λ (o : Result Rest ℕ). o >>= from_rings) places.1
            ∙ ap (λ (o : Result Rest ℕ). o >>= ending_from) rings.1,
      )
