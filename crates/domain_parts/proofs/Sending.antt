-- What the parts keep of the peers, and the state after a frame is put to one of them.
use Rattle.std.proofs.Common.{◌≡◌, ℕ, ◌+◌, ◌-◌, ◌≤◌, List, [], ◌∷◌, map, Option, Some, refl, sym, ap, ◌∙◌, subst}
use Rattle.std.specs.Prelude.{Contains, position, slice_get, slice_set, ◌==◌}
use Rattle.std.specs.List.{AllByRecursion}
use Rattle.board_model.specs.Lists.{changed}
use Rattle.board_model.specs.State as state
use Rattle.board_model.specs.State.{DomainState, Item}
use Rattle.domain_parts.specs.PlacedCalls.{used_one, with_used}
use Rattle.buffer_book.specs.Book.{Book}
use Rattle.endpoint_table.specs.Table as endpoint_table
use Rattle.request_set.specs.Requests.{Requests}
use Rattle.domain_parts.specs.LaneSeen.{LaneSeen}
use Rattle.domain_parts.specs.declared.peer.Peer.{Peer}
use Rattle.domain_parts.specs.AllMoved.{numbers_of}
use Rattle.domain_parts.specs.InPlaces.{AreInPlaces}
use Rattle.domain_parts.specs.Out.{out_of}
use Rattle.domain_parts.specs.InBook.{open_parts}
use Rattle.domain_parts.specs.Table.{PartRead}
use Rattle.domain_parts.specs.Peers.{peer_in, state_in}
use Rattle.domain_parts.specs.Records.{Records}
use Rattle.domain_parts.specs.Sound.{AreRising, AreSound, IsSized, buffers_count}
use Rattle.domain_parts.specs.Tied.{AreTied}
use Rattle.domain_parts.proofs.PeerPlaces.{All-from, All-map, All-unmap, changed-map, place-in}

-- ---- what the parts keep of the peers: their numbers, the sizes of their lanes, and the buffers that are out

pub record Outline : Type 0 where
  pub number : ℕ
  pub size_to : ℕ
  pub size_from : ℕ
  pub out : List ℕ

abbrev pub outline : {L : Type 0} → (L → LaneSeen) → Peer L → Outline
outline v p = record { number = p.number; size_to = (v p.ends).size_to; size_from = (v p.ends).size_from; out = (v p.ends).out }

abbrev buffers : List Outline → ℕ
buffers [] = 0
buffers (o ∷ os) = o.size_from + buffers os

abbrev Fits : Outline → Type 0
Fits o = (o.size_to ≡ o.size_from) × (o.size_from ≤ 256)

module _ {L : Type 0} (v : L → LaneSeen) where
  numbers-are : (ps : List (Peer L)) → numbers_of ps ≡ map (λ (o : Outline). o.number) (map (outline v) ps)
  numbers-are [] = refl
  numbers-are (p ∷ ps) = ap (λ (ns : List ℕ). p.number ∷ ns) (numbers-are ps)

  buffers-are : (ps : List (Peer L)) → buffers_count v ps ≡ buffers (map (outline v) ps)
  buffers-are [] = refl
  buffers-are (p ∷ ps) = ap (λ (n : ℕ). (v p.ends).size_from + n) (buffers-are ps)

module _ {L K : Type 0} (v : L → LaneSeen) (w : K → LaneSeen) where
  All-same : (P : Outline → Type 0) (ps : List (Peer L)) (qs : List (Peer K)) → map (outline w) qs ≡ map (outline v) ps → AllByRecursion (λ p. P (outline v p)) ps → AllByRecursion (λ p. P (outline w p)) qs
  All-same P ps qs same all = All-unmap P (outline w) qs (subst (AllByRecursion P) (sym same) (All-map P (outline v) ps all))

  -- where these stay, they keep what they must
  pub same-sound : (b : Book) (r : Records) (q : Requests) (t : endpoint_table.Table) (ps : List (Peer L)) (qs : List (Peer K)) → map (outline w) qs ≡ map (outline v) ps → AreSound v b r q t ps → AreSound w b r q t qs
  same-sound b r q t ps qs same sound =
      let numbers : numbers_of ps ≡ numbers_of qs = numbers-are v ps ∙ ap (λ (os : List Outline). map (λ (o : Outline). o.number) os) (sym same) ∙ sym (numbers-are w qs) in
      let buffers-same : buffers_count v ps ≡ buffers_count w qs = buffers-are v ps ∙ ap buffers (sym same) ∙ sym (buffers-are w qs) in
      let fits = All-from (IsSized v) (λ p. Fits (outline v p)) (λ p sized. (sized.same, sized.fits)) ps sound.peers.sizes in
      record {
        peers = record {
          rising = subst AreRising numbers sound.peers.rising;
          few = subst (λ (ns : List ℕ). AllByRecursion (λ n. n ≤ 7) ns) numbers sound.peers.few;
          own = subst (λ (ns : List ℕ). Contains ns r.number) numbers sound.peers.own;
          sizes = All-from (λ p. Fits (outline w p)) (IsSized w) (λ p fit. record { same = fit.0; fits = fit.1 }) qs (All-same Fits ps qs same fits);
        };
        places = All-same (λ o. AreInPlaces o.number r q b (out_of o.size_from o.out)) ps qs same sound.places;
        shelves = λ n is. subst (λ (ns : List ℕ). Contains ns n) numbers (sound.shelves n is);
        room = subst (λ (n : ℕ). n ≤ r.room) buffers-same sound.room;
        receives = sound.receives;
        tied = subst (AreTied r t) numbers sound.tied;
        given = sound.given;
      }

-- ---- the state after it

module _ {L : Type 0} (v : L → LaneSeen) (b : Book) (r : Records) (q : Requests) (t : endpoint_table.Table) (ps : List (Peer L)) (i : ℕ) (p : Peer L) (e : L) where
  abbrev old : DomainState
  old = state_in v b r q t ps

  abbrev after : List (Peer L)
  after = slice_set ps i (record p { ends = e })

  abbrev os : List PartRead
  os = open_parts b r.parts

  pub state-sent : (d : ℕ) → Some i ≡ position (λ (x : Peer L). x.number == d) ps → slice_get ps i ≡ Some p → (v e).free ≡ (v p.ends).free - 1 → (v e).shown ≡ (v p.ends).shown → (v e).size_from ≡ (v p.ends).size_from → state_in v b r q t after ≡ with_used old d
  state-sent d at there free shown size =
      let was = peer_in v os t p in
      let is : peer_in v os t (record p { ends = e }) ≡ used_one was
      = ap (λ (n : ℕ). record was { size = n; free = (v e).free; shown = (v e).shown }) size
      ∙ ap (λ (n : ℕ). record was { free = n; shown = (v e).shown }) free
      ∙ ap (λ (n : ℕ). record (used_one was) { shown = n }) shown in
      ap (λ (xs : List state.Peer). record old { peers = xs }) (changed-map (peer_in v os t) used_one ps i p (record p { ends = e }) there is)
      ∙ ap (λ (o : Option ℕ). record old { peers = changed used_one o old.peers }) (at ∙ place-in v b r q t ps d)
