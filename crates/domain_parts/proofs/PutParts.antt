-- The parts of an item, put one after the other.
use Rattle.std.proofs.Common.{◌≡◌, ℕ, zero, suc, ◌+◌, ◌-◌, ◌<◌, ◌≤◌, min, List, [], ◌∷◌, ◌++◌, length, length-drop, length-take, map, take, drop, refl, sym, ap, ◌∙◌, arith, subst}
use Rattle.std.proofs.lemmas.List.{append-nil, append_assoc, length-map, map_push}
use Rattle.mc_base.specs.Frame.{made}
use Rattle.mc_base.specs.Letter.{Piece, piece, piece_spelling}
use Rattle.mc_base.specs.Pieces.{parts_from}
use Rattle.board_model.specs.Answer.{put_as}
use Rattle.board_model.specs.Journal.{Line, PlainEntry, noted, noted_all}
use Rattle.board_model.specs.Serial.{put_entry}
use Rattle.board_model.specs.State.{free_to}
use Rattle.domain_parts.specs.CallSteps.{putting_all}
use Rattle.domain_parts.specs.LaneMoves.{LaneMove}
use Rattle.domain_parts.specs.Outgoing.{NeedsParts, parts_put, post_of}
use Rattle.domain_parts.specs.Pieces.{carrier_in}
use Rattle.domain_parts.specs.Parts.{Holding, Parts, state_of}
use Rattle.domain_parts.specs.Steps.{Did, Step, frame_put}
use Rattle.domain_parts.specs.declared.outgoing.Outgoing.{Outgoing}
use Rattle.domain_parts.proofs.Cutting.{next-part, parts-length, some-left}
use Rattle.domain_parts.proofs.Posting.{put-free}
use Rattle.domain_parts.proofs.Stepping.{did-then}

-- the frames of these parts
abbrev pub frames_of : Outgoing → List Piece → List (ℕ × List ℕ)
frames_of o ps = map (put_as (post_of o)) (map piece_spelling ps)

-- what was done for the frames that were put, where any was
abbrev pub WasPut : {L : Type 0} → (L → List LaneMove → L → Type 0) → List (ℕ × List ℕ) → Holding L → Holding L → Type 0
WasPut M [] start now = now ≡ start
WasPut M (f ∷ fs) start now = Did M (putting_all (f ∷ fs)) start now

-- so many of the parts were put and noted, and these bytes, which begin at an offset, are left to go in the others
pub record PartsPut {L : Type 0} (M : L → List LaneMove → L → Type 0) (o : Outgoing) (cut count : ℕ) (start now : Holding L) (begun lines : List Line) (gone offset : ℕ) (rest : List ℕ) : Type 0 where
  pub sent : List (ℕ × List ℕ)
  pub left : ℕ
  pub many : gone + left ≡ count
  pub all : parts_put cut count o ≡ sent ++ frames_of o (parts_from cut (carrier_in o.carrier) (length o.bytes.now) left offset rest)
  pub needs : NeedsParts cut left (length rest)
  pub place : offset + length rest ≡ length o.bytes.now
  pub did : WasPut M sent start now
  pub told : lines ≡ noted_all begun (map put_entry sent)
  pub free : left ≤ free_to (state_of now.parts) o.peer

-- a line more
noted-push : (lines : List Line) (es : List PlainEntry) (e : PlainEntry) → noted_all lines (es ++ e ∷ []) ≡ noted (noted_all lines es) e
noted-push lines [] e = refl
noted-push lines (x ∷ es) e = noted-push (noted lines x) es e

-- one more was put
put-then : {L : Type 0} (M : L → List LaneMove → L → Type 0) → ((a b c : L) (xs ys : List LaneMove) → M a xs b → M b ys c → M a (xs ++ ys) c) → (fs : List (ℕ × List ℕ)) (f : ℕ × List ℕ) (a b c : Holding L) → WasPut M fs a b → Did M (frame_put f.0 f.1 ∷ []) b c → WasPut M (fs ++ f ∷ []) a c
put-then M both [] f a b c first then = subst (λ (h : Holding _). Did M (frame_put f.0 f.1 ∷ []) h c) first then
put-then M both (x ∷ fs) f a b c first then = subst (λ (cs : List Step). Did M cs a c) (sym (map_push (λ (q : ℕ × List ℕ). frame_put q.0 q.1) (x ∷ fs) f)) (did-then M both (putting_all (x ∷ fs)) (frame_put f.0 f.1 ∷ []) a b c first then)

some-put : {L : Type 0} (M : L → List LaneMove → L → Type 0) (fs : List (ℕ × List ℕ)) (a b : Holding L) → 0 < length fs → WasPut M fs a b → Did M (putting_all fs) a b
some-put M [] a b some was = absurd (omega (arith, some))
some-put M (f ∷ fs) a b some was = was

module _ {L : Type 0} (M : L → List LaneMove → L → Type 0) (o : Outgoing) (cut count : ℕ) (start : Holding L) (begun : List Line) where
  -- none was put
  pub none-put : NeedsParts cut count (length o.bytes.now) → count ≤ free_to (state_of start.parts) o.peer → PartsPut M o cut count start start begun begun 0 0 o.bytes.now
  none-put needs free = record { sent = []; left = count; many = omega arith; all = refl; needs = needs; place = omega arith; did = refl; told = refl; free = free }

  module _ (now : Holding L) (lines : List Line) (gone offset : ℕ) (rest : List ℕ) (so_far : PartsPut M o cut count start now begun lines gone offset rest) where
    -- one is left
    module _ (some : gone < count) where
      pub bytes-left : 0 < length rest
      bytes-left = let many = so_far.many in some-left cut so_far.left (length rest) (omega (arith, many, some)) so_far.needs

      pub buffer-left : 0 < free_to (state_of now.parts) o.peer
      buffer-left = let many = so_far.many in let free = so_far.free in omega (arith, many, some, free)

      -- the next, and its frame
      abbrev pub next : List ℕ → Piece
      next part = piece (carrier_in o.carrier) (length o.bytes.now) offset part

      abbrev pub frame : List ℕ → List ℕ
      frame part = made o.source o.destination (piece_spelling (next part))

      one-left : (left : ℕ) → gone + left ≡ count → (n : ℕ) × (left ≡ suc n)
      one-left zero many = absurd (omega (arith, many, some))
      one-left (suc n) many = (n, refl)

      abbrev n : ℕ
      n = min cut (length rest)

      next-put : ((a b c : L) (xs ys : List LaneMove) → M a xs b → M b ys c → M a (xs ++ ys) c) → (then : Holding L) (lines' : List Line) → Did M (frame_put o.peer (frame (take n rest)) ∷ []) now then → lines' ≡ noted_all lines (put_entry (o.peer, frame (take n rest)) ∷ [])
          → PartsPut M o cut count start then begun lines' (gone + 1) (offset + n) (drop n rest)
      next-put both then lines' did told =
          let one = one-left so_far.left so_far.many in
          let k = carrier_in o.carrier in
          let total = length o.bytes.now in
          let put : ℕ × List ℕ = (o.peer, frame (take n rest)) in
          let needs : NeedsParts cut (suc one.0) (length rest) = subst (λ (m : ℕ). NeedsParts cut m (length rest)) one.1 so_far.needs in
          let long = length-drop n rest in
          let fewer : length (drop n rest) ≡ length rest - cut = omega (arith, long) in
          let many = so_far.many in
          let place = so_far.place in
          let free = so_far.free in
          let less = ap (λ (p : Parts). free_to (state_of p) o.peer) did.parts ∙ put-free now.parts o.peer (frame (take n rest)) in
          record {
            sent = so_far.sent ++ put ∷ [];
            left = one.0;
            many = let is = one.1 in omega (arith, many, is);
            all = so_far.all
                ∙ ap (λ (m : ℕ). so_far.sent ++ frames_of o (parts_from cut k total m offset rest)) one.1
                ∙ ap (λ (ps : List Piece). so_far.sent ++ frames_of o ps) (next-part cut k total one.0 offset rest needs)
                ∙ sym (append_assoc so_far.sent (put ∷ []) (frames_of o (parts_from cut k total one.0 (offset + n) (drop n rest))));
            needs = subst (NeedsParts cut one.0) (sym fewer) needs.1;
            place = omega (arith, place, long);
            did = put-then M both so_far.sent put start now then so_far.did did;
            told = told ∙ ap (λ (ls : List Line). noted ls (put_entry put)) so_far.told
                ∙ sym (noted-push begun (map put_entry so_far.sent) (put_entry put))
                ∙ ap (noted_all begun) (sym (map_push put_entry so_far.sent put));
            free = let is = one.1 in omega (arith, free, less, is);
          }

      -- the same, as the bytes were split
      pub one-put : ((a b c : L) (xs ys : List LaneMove) → M a xs b → M b ys c → M a (xs ++ ys) c) → (mid : ℕ) (part after put : List ℕ) → mid ≡ min cut (length rest) → part ≡ take mid rest → after ≡ drop mid rest → put ≡ frame part → (then : Holding L) (lines' : List Line)
          → Did M (frame_put o.peer put ∷ []) now then → lines' ≡ noted_all lines (put_entry (o.peer, put) ∷ []) → PartsPut M o cut count start then begun lines' (gone + 1) (offset + length part) after
      one-put both mid part after put at front back is then lines' did told =
          let cuts = front ∙ ap (λ (m : ℕ). take m rest) at in
          let same = is ∙ ap frame cuts in
          let long = ap (λ (xs : List ℕ). length xs) cuts ∙ length-take n rest in
          let offsets : offset + n ≡ offset + length part = omega (arith, long) in
          subst (λ (m : ℕ). PartsPut M o cut count start then begun lines' (gone + 1) m after) offsets
          (subst (PartsPut M o cut count start then begun lines' (gone + 1) (offset + n)) (sym (back ∙ ap (λ (m : ℕ). drop m rest) at))
          (next-put both then lines' (subst (λ (f : List ℕ). Did M (frame_put o.peer f ∷ []) now then) same did) (told ∙ ap (λ (f : List ℕ). noted_all lines (put_entry (o.peer, f) ∷ [])) same)))

    -- none is left
    module _ (none : count ≤ gone) where
      all-put : parts_put cut count o ≡ so_far.sent
      all-put =
          let many = so_far.many in
          let zero_left : so_far.left ≡ 0 = omega (arith, many, none) in
          so_far.all
          ∙ ap (λ (m : ℕ). so_far.sent ++ frames_of o (parts_from cut (carrier_in o.carrier) (length o.bytes.now) m offset rest)) zero_left
          ∙ append-nil so_far.sent

      pub all-did : 0 < count → Did M (putting_all (parts_put cut count o)) start now
      all-did some =
          let ps = parts_from cut (carrier_in o.carrier) (length o.bytes.now) count 0 o.bytes.now in
          let long = length-map (map piece_spelling ps) (put_as (post_of o)) ∙ length-map ps piece_spelling ∙ parts-length cut (carrier_in o.carrier) (length o.bytes.now) count 0 o.bytes.now in
          let same = ap (λ (fs : List (ℕ × List ℕ)). length fs) all-put in
          subst (λ (fs : List (ℕ × List ℕ)). Did M (putting_all fs) start now) (sym all-put) (some-put M so_far.sent start now (omega (arith, some, long, same)) so_far.did)

      pub all-told : lines ≡ noted_all begun (map put_entry (parts_put cut count o))
      all-told = so_far.told ∙ ap (λ (fs : List (ℕ × List ℕ)). noted_all begun (map put_entry fs)) (sym all-put)
