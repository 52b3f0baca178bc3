-- What frames say of the items of a channel, by their bytes: where no frame is stray, each that carries an item, or its last part, says one.
use Rattle.std.proofs.Common.{◌≡◌, ℕ, ◌+◌, Bool, true, false, cond, List, [], ◌∷◌, ◌++◌, length, flat_map, length-append, eqb-true, Option, None, Some, refl, sym, ap, ap₂, ◌∙◌, arith}
use Rattle.std.specs.Prelude.{count_by, ◌==◌, ◌&&◌}
use Rattle.std.proofs.lemmas.Bool.{and_parts}
use Rattle.mc_base.specs.Letter.{Carrier, of_message, of_packet, carried, Piece, PlainLetter, packet, scalar}
use Rattle.mc_base.specs.Reading.{Reading, is_faulty, announces, says, brings, reading}
use Rattle.board_model.specs.Channels.{data_said, is_numbered}
use Rattle.board_model.specs.Parts.{same_carrier, goes_on, coming_so, begins, begun, with_piece, grown, alone, coming, readings}
use Rattle.board_model.specs.State.{Part}
use Rattle.board_model.proofs.KeptLines.{IsHeld}
use Rattle.board_model.proofs.ListsCounts.{one_if, count-cons}
use Rattle.board_model.proofs.PartReadings.{AllSmooth, begins-first}
use Rattle.board_numbers.specs.Items.{item_letter, item_carrier, is_last, item_said, carries_item}

module _ (n : ℕ) where
  -- one item of the channel or none
  abbrev Says : Reading → Option ℕ → Type 0
  Says r number = length (data_said n r) ≡ one_if (is_numbered n number)

  letter_says : (source destination : ℕ) (l : PlainLetter) → Says (says source destination l) (item_letter l)
  letter_says source destination (packet m content) = go (m == n)
    where
      go : (b : Bool) → length (cond b (content ∷ []) []) ≡ one_if b
      go true = refl
      go false = refl
  letter_says source destination (scalar m bits value) = go (m == n) _
    where
      go : (b : Bool) (content : List ℕ) → length (cond b (content ∷ []) []) ≡ one_if b
      go true content = refl
      go false content = refl
  letter_says source destination other = refl

  -- ---- parts

  carried_says : (source destination : ℕ) (k : Carrier) (bytes : List ℕ) → Says (says source destination (carried k bytes)) (item_carrier k)
  carried_says source destination (of_message priority) bytes = refl
  carried_says source destination (of_packet m) bytes = letter_says source destination (packet m bytes)

  same_item : (k l : Carrier) → same_carrier k l ≡ true → item_carrier k ≡ item_carrier l
  same_item (of_message p) (of_message q) e = refl
  same_item (of_message p) (of_packet q) e = absurd cc
  same_item (of_packet p) (of_message q) e = absurd cc
  same_item (of_packet p) (of_packet q) e = ap (λ m. Some m) (eqb-true p q e)

  grown_says : (joins : Bool) (p : Part) (q : Piece) → item_carrier p.carrier ≡ item_carrier q.carrier → length p.content ≡ q.offset → p.total ≡ q.total → Says (grown joins p q).reading (cond (is_last q) (item_carrier q.carrier) None)
  grown_says joins p q same at total = go (length (p.content ++ q.content) == p.total) ends
    where
      ends : (length (p.content ++ q.content) == p.total) ≡ is_last q
      ends = ap₂ (λ m k. m == k) (length-append p.content q.content ∙ ap (λ k. k + length q.content) at) total

      go : (b : Bool) → b ≡ is_last q → Says (cond b (coming_so (says p.source p.destination (carried p.carrier (p.content ++ q.content))) None joins) (coming_so (brings p.source p.destination q) (Some (with_piece p q)) joins)).reading (cond (is_last q) (item_carrier q.carrier) None)
      go true e = carried_says p.source p.destination p.carrier (p.content ++ q.content) ∙ (ap (λ x. one_if (is_numbered n x)) same ∙ ap (λ b. one_if (is_numbered n (cond b (item_carrier q.carrier) None))) e)
      go false e = ap (λ b. one_if (is_numbered n (cond b (item_carrier q.carrier) None))) e

  alone_says : (source destination : ℕ) (q : Piece) → IsHeld (alone source destination q) → Says (alone source destination q).reading (cond (is_last q) (item_carrier q.carrier) None)
  alone_says source destination q held = go (begins q) refl held
    where
      go : (b : Bool) → begins q ≡ b → IsHeld (cond b (grown false (begun source destination q) q) (coming_so (brings source destination q) None false))
          → Says (cond b (grown false (begun source destination q) q) (coming_so (brings source destination q) None false)).reading (cond (is_last q) (item_carrier q.carrier) None)
      go true is k = grown_says false (begun source destination q) q refl (sym (begins-first q is)) refl
      go false is k = let clash : false ≡ true = k refl in absurd cc

  piece_says : (o : Option Part) (source destination : ℕ) (q : Piece) → IsHeld (coming o (brings source destination q)) → Says (coming o (brings source destination q)).reading (item_said (brings source destination q))
  piece_says None source destination q held = alone_says source destination q held
  piece_says (Some p) source destination q held = go (goes_on p source destination q) refl held
    where
      go : (b : Bool) → goes_on p source destination q ≡ b → IsHeld (cond b (grown true p q) (alone source destination q)) → Says (cond b (grown true p q) (alone source destination q)).reading (item_said (brings source destination q))
      go true is k =
          let from = and_parts (p.source == source) (p.destination == destination && (same_carrier p.carrier q.carrier && (p.total == q.total && length p.content == q.offset))) is in
          let to = and_parts (p.destination == destination) (same_carrier p.carrier q.carrier && (p.total == q.total && length p.content == q.offset)) from.1 in
          let by = and_parts (same_carrier p.carrier q.carrier) (p.total == q.total && length p.content == q.offset) to.1 in
          let at = and_parts (p.total == q.total) (length p.content == q.offset) by.1 in
          grown_says true p q (same_item p.carrier q.carrier by.0) (eqb-true (length p.content) q.offset at.1) (eqb-true p.total q.total at.0)
      go false is k = alone_says source destination q k

  -- ---- a frame, with the part that is open before it, and frames one after the other

  reading_says : (o : Option Part) (r : Reading) → IsHeld (coming o r) → Says (coming o r).reading (item_said r)
  reading_says o (brings source destination q) held = piece_says o source destination q held
  reading_says o (says source destination l) held = letter_says source destination l
  reading_says o (is_faulty f) held = refl
  reading_says o (announces text address there) held = refl

  pub item-said : (o : Option Part) (frame : List ℕ) → IsHeld (coming o (reading frame)) → length (data_said n (coming o (reading frame)).reading) ≡ one_if (carries_item n frame)
  item-said o frame held = reading_says o (reading frame) held

  pub items-said : (o : Option Part) (fs : List (List ℕ)) → AllSmooth o fs → length (flat_map (data_said n) (readings o fs)) ≡ count_by (carries_item n) fs
  items-said o [] all = refl
  items-said o (f ∷ fs) all =
      omega (
        arith,
        length-append (data_said n (coming o (reading f)).reading) (flat_map (data_said n) (readings (coming o (reading f)).part fs)),
        item-said o f all.0.here,
        items-said (coming o (reading f)).part fs all.1,
        count-cons (carries_item n) f fs,
      )
