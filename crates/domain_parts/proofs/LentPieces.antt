-- The pieces of a lent packet: what the book has of its frames is what a contract sees of them.
use Rattle.std.proofs.Common.{◌≡◌, ◌≤◌, ◌<◌, ◌+◌, ◌∙◌, ℕ, zero, suc, Bool, true, false, List, [], ◌∷◌, ◌++◌, length, map, Option, Some, None, ap, refl, sym, subst, arith}
use Rattle.std.specs.Prelude.{◌==◌, is_some, option_and_then, option_map, option_to_list, slice_get}
use Rattle.std.proofs.lemmas.Bool.{eqb-true}
use Rattle.std.proofs.lemmas.List.{length-map}
use Rattle.std.proofs.lemmas.Option.{slice_get-map}
use Rattle.lane_end.specs.Numbers.{often}
use Rattle.mc_base.specs.declared.request.PacketId.{PacketId}
use Rattle.board_model.specs.State.{LentPacket, packet_at_place}
use Rattle.buffer_book.specs.Book.{Book, Item, Kept, content, count_of, frame_at, frames_of, if_state, item_at, kept_at, lent_as, slot_of}
use Rattle.buffer_book.proofs.NoneAside.{lent-plain}
use Rattle.domain_parts.specs.DomainView.{place_of_packet_id}
use Rattle.domain_parts.specs.InBook.{contents_in, contents_of, joined_content, packet_in, pieces_of, slot_at, whole_at, whole_of}
use Rattle.domain_parts.specs.InPlaces.{lent_item, slots_of}
use Rattle.domain_parts.specs.Parts.{Parts, Sound, plain, state_of}
use Rattle.domain_parts.specs.Records.{lent_slots}
use Rattle.domain_parts.proofs.Books.{often-own, often-other, frames-some, whole-some}
use Rattle.domain_parts.proofs.GivingLemmas.{all-stand}
use Rattle.domain_parts.proofs.Placed.{Stands, frame-kept, frame-true, state-same}
use Rattle.domain_parts.proofs.Releasing.{none-placed, place-lent}
use Rattle.mc_base.specs.Limits.{item_size}

-- ---- the pieces of frames that are all held

abbrev pub AreKept : Book → ℕ → List ℕ → Type 0
AreKept b peer fs = (f : ℕ) → 0 < often f fs → is_some (kept_at b (slot_at peer f)) ≡ true

first-kept : (b : Book) (peer f : ℕ) (fs : List ℕ) → AreKept b peer (f ∷ fs) → is_some (kept_at b (slot_at peer f)) ≡ true
first-kept b peer f fs kept = kept f (let own = often-own f fs in omega (arith, own))

more-often : (f g : ℕ) (fs : List ℕ) → often g fs ≤ often g (f ∷ fs)
more-often f g fs = go (f == g) refl
  where
    go : (x : Bool) → (f == g) ≡ x → often g fs ≤ often g (f ∷ fs)
    go true same = let one : often g (f ∷ fs) ≡ 1 + often g fs = subst (λ (n : ℕ). often n (f ∷ fs) ≡ 1 + often n fs) (eqb-true f g same) (often-own f fs) in omega (arith, one)
    go false differ = let none = often-other f g fs differ in omega (arith, none)

others-kept : (b : Book) (peer f : ℕ) (fs : List ℕ) → AreKept b peer (f ∷ fs) → AreKept b peer fs
others-kept b peer f fs kept g is = kept g (let more = more-often f g fs in omega (arith, is, more))

pieces-length : (b : Book) (peer : ℕ) (fs : List ℕ) → AreKept b peer fs → length (pieces_of b peer fs) ≡ length fs
pieces-length b peer [] kept = refl
pieces-length b peer (f ∷ fs) kept = go (kept_at b (slot_at peer f)) (first-kept b peer f fs kept) (pieces-length b peer fs (others-kept b peer f fs kept))
  where
    go : (o : Option Kept) → is_some o ≡ true → length (pieces_of b peer fs) ≡ length fs → length (option_to_list o ++ pieces_of b peer fs) ≡ suc (length fs)
    go None none rest = absurd cc
    go (Some k) some rest = ap suc rest

pieces-at : (b : Book) (peer : ℕ) (fs : List ℕ) (n : ℕ) → AreKept b peer fs → slice_get (pieces_of b peer fs) n ≡ option_and_then (λ (f : ℕ). kept_at b (slot_at peer f)) (slice_get fs n)
pieces-at b peer [] n kept = refl
pieces-at b peer (f ∷ fs) n kept = go n (kept_at b (slot_at peer f)) refl (first-kept b peer f fs kept) (λ m. pieces-at b peer fs m (others-kept b peer f fs kept))
  where
    go : (n : ℕ) (o : Option Kept) → kept_at b (slot_at peer f) ≡ o → is_some o ≡ true → ((m : ℕ) → slice_get (pieces_of b peer fs) m ≡ option_and_then (λ (x : ℕ). kept_at b (slot_at peer x)) (slice_get fs m))
        → slice_get (option_to_list o ++ pieces_of b peer fs) n ≡ option_and_then (λ (x : ℕ). kept_at b (slot_at peer x)) (slice_get (f ∷ fs) n)
    go n None is none rest = absurd cc
    go zero (Some k) is some rest = sym is
    go (suc n) (Some k) is some rest = rest n

-- ---- those of a lent packet

module _ (p : Parts) (sound : Sound p) (id : PacketId) where
  abbrev b : Book
  b = p.book

  -- what contracts see of it
  abbrev pub pieces_now : Option (List (List ℕ))
  pieces_now = option_and_then (λ (i : ℕ). slice_get (contents_of b p.records.lent) i) (place_of_packet_id p.records.lent id)

  abbrev pub content_now : Option (List ℕ)
  content_now = option_map (λ (x : LentPacket). x.item.content) (packet_at_place (state_of p) (place_of_packet_id p.records.lent id))

  stand : Stands (slots_of p.records p.requests) (lent_slots p.records) b
  stand = all-stand plain b p.records p.requests p.table p.peers sound

  plainly : lent_as b id ≡ lent_item b id
  plainly = lent-plain b id stand.none_aside

  abbrev pieces : Item → List Kept
  pieces i = pieces_of b id.peer (frames_of i)

  -- where the book lends an item under the id
  module _ (i : Item) (lent : lent_as b id ≡ Some i) where
    item : item_at b (slot_of id) ≡ Some i
    item =
        let it = state-same (Some id.serial) (item_at b (slot_of id)) (ap (λ (o : Option Item). is_some o) (sym plainly ∙ lent)) in
        let same : Some it.0 ≡ Some i = sym (ap (option_and_then (if_state (Some id.serial))) it.1 ∙ rw it.2 refl) ∙ sym plainly ∙ lent in
        it.1 ∙ same

    whole : whole_at b (slot_of id) ≡ Some (whole_of b id.peer i)
    whole = whole-some b (slot_of id) i item

    placed : (k : ℕ) × (place_of_packet_id p.records.lent id ≡ Some k) × (slice_get p.records.lent k ≡ Some id)
    placed = place-lent p sound id (ap (λ (o : Option Item). is_some o) (sym plainly ∙ lent))

    pub pieces-are : pieces_now ≡ Some (map content (pieces i))
    pieces-are =
        ap (option_and_then (λ (k : ℕ). slice_get (contents_of b p.records.lent) k)) placed.1
        ∙ slice_get-map (λ (x : PacketId). contents_in (whole_at b (slot_of x))) p.records.lent placed.0
        ∙ ap (option_map (λ (x : PacketId). contents_in (whole_at b (slot_of x)))) placed.2
        ∙ ap (λ o. Some (contents_in o)) whole

    pub content-are : content_now ≡ Some (joined_content (map content (pieces i)))
    content-are =
        ap (λ (o : Option ℕ). option_map (λ (x : LentPacket). x.item.content) (packet_at_place (state_of p) o)) placed.1
        ∙ ap (option_map (λ (x : LentPacket). x.item.content)) (slice_get-map (packet_in b) p.records.lent placed.0 ∙ ap (option_map (packet_in b)) placed.2)
        ∙ ap (λ o. Some (joined_content (contents_in o))) whole

    pub kept : AreKept b id.peer (frames_of i)
    kept f is =
        let frames = frames-some b (slot_of id) i item in
        frame-kept (slots_of p.records p.requests) (lent_slots p.records) b stand (slot_at id.peer f) (slot_of id) (frame-true b (slot_of id) f (subst (λ (fs : List ℕ). 0 < often f fs) (sym frames) is))

    pub pieces-many : length (map content (pieces i)) ≡ count_of i
    pieces-many = length-map (pieces i) content ∙ pieces-length b id.peer (frames_of i) kept

    pub piece-is : (n : ℕ) → option_and_then (λ (ps : List (List ℕ)). slice_get ps n) pieces_now ≡ option_map content (frame_at b id.peer n i)
    piece-is n =
        ap (option_and_then (λ (ps : List (List ℕ)). slice_get ps n)) pieces-are
        ∙ slice_get-map content (pieces i) n
        ∙ ap (option_map content) (pieces-at b id.peer (frames_of i) n kept)

    pub short-is : length (joined_content (map content (pieces i))) ≤ item_size
    short-is = subst (λ o. length (joined_content (contents_in o)) ≤ item_size) whole (stand.short (slot_of id))

  -- where it lends none
  pub none-there : lent_as b id ≡ None → place_of_packet_id p.records.lent id ≡ None
  none-there none = none-placed p sound id (ap (λ (o : Option Item). is_some o) (sym plainly ∙ none))
